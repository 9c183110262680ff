-- `hydro::prices_good` meets its contract. Assumes nothing.
use Rattle.std.proofs.Common.{refl, sym, ◌∙◌, ◌+◌, arith}
use Rattle.rules_number.specs.Over.{all_to}
use Rattle.rules_number.proofs.OverLaws.{all_next, all_fails}
use Rattle.rules_hydro.specs.Hydros.{hub_price, is_hub_price, prices_good}
use Rattle.hydro.proofs.prices_good.Goals as goal

pub loop-i-init : goal.loop-i-init
unfolding prices_good all_to
loop-i-init c = refl

pub returns-then-not-hub_good : goal.returns-then-not-hub_good
unfolding prices_good
returns-then-not-hub_good c =
    let a = c.args in
    sym (all_fails (λ k. all_to (λ j. is_hub_price (hub_price a.prices.now k j)) (a.horizon + 2)) a.hubs c.loop-i.i (omega arith) (sym c.hub_good.ensures ∙ c.if-not-hub_good.true))

pub loop-i-preserved : goal.loop-i-preserved
unfolding prices_good
loop-i-preserved c =
    let a = c.args in
    all_next (λ k. all_to (λ j. is_hub_price (hub_price a.prices.now k j)) (a.horizon + 2)) c.loop-i.i c.loop-i.invariant (sym c.hub_good.ensures ∙ c.if-not-hub_good.false)
