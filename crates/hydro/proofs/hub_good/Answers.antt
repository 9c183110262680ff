-- `hydro::hub_good` meets its contract. Assumes nothing.
use Rattle.std.proofs.Common.{◌≡◌, refl, sym, ap, ◌∙◌, arith, rules}
use Rattle.rules_number.specs.Over.{all_to}
use Rattle.rules_number.proofs.Kit.{rd}
use Rattle.rules_number.proofs.OverLaws.{all_next, all_fails}
use Rattle.rules_hydro.specs.Hydros.{hub_price, is_hub_price}
use Rattle.hydro.proofs.hub_good.Goals as goal

pub loop-j-init : goal.loop-j-init
unfolding all_to
loop-j-init c = refl

pub returns-then-not-within : goal.returns-then-not-within
returns-then-not-within c =
    let a = c.args in
    let j = c.loop-j.j in
    let f : rd c.cell_at.result ≡ c.cell_at.result = search rules in
    let is : c.within.result ≡ is_hub_price (hub_price a.prices.now a.hub j) = c.within.ensures ∙ ap is_hub_price (f ∙ c.cell_at.ensures) in
    sym (all_fails (λ k. is_hub_price (hub_price a.prices.now a.hub k)) a.n j (omega arith) (sym is ∙ c.if-not-within.true))

pub loop-j-preserved : goal.loop-j-preserved
loop-j-preserved c =
    let a = c.args in
    let j = c.loop-j.j in
    let f : rd c.cell_at.result ≡ c.cell_at.result = search rules in
    let is : c.within.result ≡ is_hub_price (hub_price a.prices.now a.hub j) = c.within.ensures ∙ ap is_hub_price (f ∙ c.cell_at.ensures) in
    all_next (λ k. is_hub_price (hub_price a.prices.now a.hub k)) j c.loop-j.invariant (sym is ∙ c.if-not-within.false)
