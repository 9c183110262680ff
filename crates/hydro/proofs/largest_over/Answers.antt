-- `hydro::largest_over` meets its contract. Assumes nothing.
use Rattle.std.proofs.Common.{◌≡◌, ap, ap₂, ◌∙◌, ℕ, ℤ, suc, ◌+◌, ◌-◌, arith, rules}
use Rattle.rules_number.specs.Order.{max_z}
use Rattle.rules_number.specs.Over.{highest_to}
use Rattle.rules_number.proofs.Kit.{rd}
use Rattle.rules_hydro.specs.Hydros.{largest_at, largest_over}
use Rattle.hydro.proofs.largest_over.Goals as goal

pub loop-i-init : goal.loop-i-init
unfolding highest_to
loop-i-init c =
    let f : rd c.largest_at-largest.result ≡ c.largest_at-largest.result = search rules in
    (omega arith, f ∙ c.largest_at-largest.ensures)

pub loop-i-preserved : goal.loop-i-preserved
unfolding highest_to
loop-i-preserved c =
    let a = c.args in
    let i = c.loop-i.i in
    let g : ℕ → ℤ = λ k. largest_at a.prices.now k a.horizon in
    let fl : rd c.largest_at.result ≡ c.largest_at.result = search rules in
    let fm : rd c.max-largest.result ≡ c.max-largest.result = search rules in
    let at : i ≡ suc (i - 1) = omega arith in
    let next : suc (i - 1) ≡ i + 1 - 1 = omega arith in
    (omega arith, fm ∙ c.max-largest.ensures ∙ ap₂ max_z c.loop-i.invariant.1 (fl ∙ c.largest_at.ensures ∙ ap g at) ∙ ap (highest_to g) next)

pub returns : goal.returns
unfolding largest_over
returns c =
    let a = c.args in
    let e : c.loop-i.i - 1 ≡ a.hubs - 1 = omega arith in
    c.loop-i.invariant.1 ∙ ap (highest_to (λ k. largest_at a.prices.now k a.horizon)) e
