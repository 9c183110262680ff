-- `pivotal::search`: a turn tries one set more. Assumes nothing.
use mathlib.Core.Path.{◌≡◌, refl, sym, ap, ◌∙◌}
use native.Mathlib.Omega.{arith}
use Rattle.rules_pivotal.specs.Searches.{searched_to, searched}
use Rattle.rules_pivotal.proofs.TriedLaws.{turn_tried, turn_used, turn_other}
use Rattle.pivotal.proofs.search.Goals as goal
use Rattle.pivotal.proofs.search.Goals.{then-s-sellers+then-tried-budget, then-s-sellers+else-tried-budget, else-s-sellers}

pub loop-last-init : goal.loop-last-init
unfolding searched_to
loop-last-init c = refl

pub loop-last-preserved : goal.loop-last-preserved
loop-last-preserved c =
    let l = c.loop-last in
    elim c.if-s-sellers.branch [
      | then-s-sellers+then-tried-budget w ↦ rw (w.best-is, w.tried-is) (turn_tried _ _ _ l.last l.best l.tried l.invariant w.better-best.result w.better-best.ensures w.if-s-sellers.true w.if-tried-budget.true)
      | then-s-sellers+else-tried-budget w ↦ rw (w.best-is, w.tried-is) (turn_used _ _ _ l.last l.best l.tried l.invariant w.if-tried-budget.false)
      | else-s-sellers w ↦ rw (w.best-is, w.tried-is) (turn_other _ _ _ l.last l.best l.tried l.invariant w.if-s-sellers.false)
    ]

pub returns : goal.returns
unfolding searched
returns c =
    let e : c.args.sellers ≡ c.loop-last.last = omega arith in
    c.loop-last.invariant ∙ ap (searched_to _ c.args.sellers c.args.budget) (sym e)
