-- `hydro::default_curve` meets its contract. Assumes nothing.
use Rattle.std.proofs.Common.{◌≡◌, ap, ◌∙◌, rules}
use Rattle.rules_number.proofs.Kit.{rd}
use Rattle.rules_hydro.specs.Hydros.{hydro_pack}
use Rattle.hydro.proofs.LimitLaws.{by_fields}
use Rattle.hydro.proofs.default_curve.Goals as goal

pub returns-clause-pack : goal.returns-clause-pack
returns-clause-pack c =
    let x = c.args.hydro in
    let l : rd x.low ≡ x.low = search rules in
    let h : rd x.high ≡ x.high = search rules in
    let e : rd x.heat ≡ x.heat = search rules in
    let g : rd x.gas ≡ x.gas = search rules in
    c.default_over.ensures.pack ∙ ap hydro_pack (by_fields l h e g)
