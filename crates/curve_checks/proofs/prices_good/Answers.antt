-- `curve_checks::prices_good` meets its contract. Assumes nothing.
use Rattle.std.proofs.Common.{◌≡◌, get_or, take, refl, sym, ◌∙◌, arith, rules, w64}
use mir.ValLaws.{to_z-of_z}
use Rattle.rules_number.specs.Order.{in_range}
use Rattle.rules_number.proofs.Kit.{rd}
use Rattle.rules_curve.specs.Curves.{price_suits}
use Rattle.rules_curve.proofs.ChainLaws.{chain_step, chain_stop, chain_end, raw_blank}
use Rattle.curve.proofs.UsedLaws.{used_taken}
use Rattle.curve_checks.proofs.prices_good.Goals as goal

pub loop-step-init : goal.loop-step-init
loop-step-init c = let r = c.args.raw in rw (used_taken r.steps r.count c.used.result c.used.ensures.0) refl

pub returns-then-not-within : goal.returns-then-not-within
unfolding in_range
returns-then-not-within c =
    let a = c.args in
    let l = take c.used.result a.raw.steps in
    let i = c.loop-step.step-index in
    let f : rd (get_or l i raw_blank).price ≡ (get_or l i raw_blank).price = search rules in
    let ft = to_z-of_z w64 a.top c.ranges.top in
    let fl = to_z-of_z w64 a.low c.ranges.low in
    let t = sym (simp (f, ft) at c.within.ensures) ∙ c.if-not-within.true in
    sym (chain_stop (price_suits a.top) (λ s. s.price) _ l i raw_blank _ c.loop-step-test.true refl t) ∙ rw (ft, fl) at c.loop-step.invariant

pub loop-step-preserved : goal.loop-step-preserved
unfolding in_range
loop-step-preserved c =
    let a = c.args in
    let l = take c.used.result a.raw.steps in
    let i = c.loop-step.step-index in
    let f : rd (get_or l i raw_blank).price ≡ (get_or l i raw_blank).price = search rules in
    let ft = to_z-of_z w64 a.top c.ranges.top in
    let t = sym (simp (f, ft) at c.within.ensures) ∙ c.if-not-within.false in
    rw (f, ft) (sym (chain_step (price_suits a.top) (λ s. s.price) _ l i raw_blank _ c.loop-step-test.true refl t) ∙ rw ft at c.loop-step.invariant)

pub returns : goal.returns
returns c =
    let a = c.args in
    let ft = to_z-of_z w64 a.top c.ranges.top in
    let fl = to_z-of_z w64 a.low c.ranges.low in
    sym (chain_end (price_suits a.top) (λ s. s.price) _ (take c.used.result a.raw.steps) c.loop-step.step-index (omega arith)) ∙ rw (ft, fl) at c.loop-step.invariant
