-- `hydro::limits_good` meets its contract. Assumes nothing.
use Rattle.std.proofs.Common.{◌≡◌, false, sym, ap, ◌∙◌, ℤ, pos, arith, rules}
use Rattle.rules_number.specs.Order.{in_range}
use Rattle.rules_number.proofs.ExactLaws.{range_exactly}
use Rattle.rules_number.proofs.Kit.{rd}
use Rattle.rules_number.proofs.OverLaws.{never}
use Rattle.rules_curve.specs.Demands.{Between}
use Rattle.hydro.specs.Given.{lent_hydro}
use Rattle.hydro.proofs.LimitLaws.{unmet, prices_left}
use Rattle.hydro.proofs.limits_good.Goals as goal

-- a value outside its range, and a count
outside : {lo hi z : ℤ} → in_range lo hi z ≡ false → Between lo hi z → ⊥
outside {lo} {hi} {z} e h = never (sym e ∙ (range_exactly lo hi z).1 h)

pub returns-then-not-within : goal.returns-then-not-within
returns-then-not-within c =
    let a = c.args.given.now in
    let fh : rd a.heat ≡ a.heat = search rules in
    let is = c.within.ensures ∙ ap (in_range (pos 1) (pos 100000)) fh in
    sym (unmet (lent_hydro a) (λ ok. outside (sym is ∙ c.if-not-within.true) ok.heat))

pub returns-then-not-within-2 : goal.returns-then-not-within-2
returns-then-not-within-2 c =
    let a = c.args.given.now in
    let fq : rd a.gas ≡ a.gas = search rules in
    let is = c.within-2.ensures ∙ ap (in_range (pos 0) (pos 1000000)) fq in
    sym (unmet (lent_hydro a) (λ ok. outside (sym is ∙ c.if-not-within-2.true) ok.gas))

pub returns-then-given-lt1 : goal.returns-then-given-lt1
returns-then-given-lt1 c =
    let a = c.args.given.now in
    sym (unmet (lent_hydro a) (λ ok. let h = ok.hubs.0 in omega arith))

pub returns-then-given-gt-MAX_HUBS : goal.returns-then-given-gt-MAX_HUBS
returns-then-given-gt-MAX_HUBS c =
    let a = c.args.given.now in
    sym (unmet (lent_hydro a) (λ ok. let h = ok.hubs.1 in omega arith))

pub returns-then-given-lt1-2 : goal.returns-then-given-lt1-2
returns-then-given-lt1-2 c =
    let a = c.args.given.now in
    sym (unmet (lent_hydro a) (λ ok. let h = ok.horizon.0 in omega arith))

pub returns-then-given-gt-MAX_HORIZON : goal.returns-then-given-gt-MAX_HORIZON
returns-then-given-gt-MAX_HORIZON c =
    let a = c.args.given.now in
    sym (unmet (lent_hydro a) (λ ok. let h = ok.horizon.1 in omega arith))

pub returns : goal.returns
returns c =
    let a = c.args.given.now in
    let fh : rd a.heat ≡ a.heat = search rules in
    let fq : rd a.gas ≡ a.gas = search rules in
    let heat = sym (c.within.ensures ∙ ap (in_range (pos 1) (pos 100000)) fh) ∙ c.if-not-within.false in
    let gas = sym (c.within-2.ensures ∙ ap (in_range (pos 0) (pos 1000000)) fq) ∙ c.if-not-within-2.false in
    c.prices_good.ensures ∙ sym (prices_left (lent_hydro a) heat gas (omega arith) (omega arith) (omega arith) (omega arith))
