-- `path::constraint::largest_to`: a turn looks at one amount more. Assumes nothing.
use Rattle.std.proofs.Common.{◌≡◌, refl, ap, ◌∙◌, arith}
use Rattle.rules_path.specs.Paths.{largest}
use Rattle.rules_path.proofs.LargestLaws.{scan_higher, scan_same}
use Rattle.path.proofs.constraint.largest_to.Goals as goal
use Rattle.path.proofs.constraint.largest_to.Goals.{then-w-best, else-w-best}

pub loop-i-init : goal.loop-i-init
unfolding largest
loop-i-init c = (omega arith, refl)

pub loop-i-preserved : goal.loop-i-preserved
loop-i-preserved c =
    let i = c.loop-i.i in
    let e = c.loop-i.invariant.1 in (
      elim c.if-w-best.branch [ then-w-best w ↦ omega arith | else-w-best w ↦ omega arith ],
      elim c.if-w-best.branch [ then-w-best w ↦ w.best-is ∙ scan_higher _ _ i e w.if-w-best.true | else-w-best w ↦ w.best-is ∙ scan_same _ _ i e w.if-w-best.false ],
    )

pub returns : goal.returns
returns c =
    let e : c.loop-i.i ≡ c.args.n = omega arith in
    (c.loop-i.invariant.1 ∙ ap (largest _) e, c.loop-i.invariant.0)
