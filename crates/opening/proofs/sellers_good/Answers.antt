-- `opening::sellers_good` meets its contract. Assumes nothing.
use Rattle.std.proofs.Common.{◌≡◌, ℕ, Bool, List, ℤ, refl, sym, ◌∙◌, arith, rules}
use Rattle.rules_number.specs.Over.{all_to}
use Rattle.rules_number.proofs.Kit.{rd}
use Rattle.rules_number.proofs.OverLaws.{all_next, all_fails}
use Rattle.rules_interval.specs.Intervals.{cell}
use Rattle.rules_opening.specs.Openings.{is_mark}
use Rattle.opening.proofs.sellers_good.Goals as goal

-- the test of one portfolio
abbrev good : List ℤ → ℕ → Bool
good sellers p = is_mark (cell sellers p)

pub loop-p-init : goal.loop-p-init
unfolding all_to
loop-p-init c = refl

pub returns-then-not-within : goal.returns-then-not-within
returns-then-not-within c =
    let a = c.args in
    let f : rd c.mark_at.result ≡ c.mark_at.result = search rules in
    let is : c.within.result ≡ good a.sellers.now c.loop-p.p = rw (f, c.mark_at.ensures) at c.within.ensures in
    sym (all_fails (good a.sellers.now) a.portfolios c.loop-p.p (omega arith) (sym is ∙ c.if-not-within.true))

pub loop-p-preserved : goal.loop-p-preserved
loop-p-preserved c =
    let a = c.args in
    let f : rd c.mark_at.result ≡ c.mark_at.result = search rules in
    let is : c.within.result ≡ good a.sellers.now c.loop-p.p = rw (f, c.mark_at.ensures) at c.within.ensures in
    all_next (good a.sellers.now) c.loop-p.p c.loop-p.invariant (sym is ∙ c.if-not-within.false)
