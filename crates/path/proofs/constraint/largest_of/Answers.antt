use mathlib.Core.Path.{◌∙◌}
use native.Mathlib.Omega.{arith}
use Rattle.path.proofs.LargestLaws.{largest_within, largest_one}
use Rattle.path.proofs.constraint.largest_of.Goals as goal

pub returns-then-ports-le1 : goal.returns-then-ports-le1
returns-then-ports-le1 c =
    let w = c.args.w.now in
    (largest_one w ∙ largest_within w 1 16 (omega arith) (λ p h. c.requires p (omega arith)), omega arith)

pub returns-then-ports-le8 : goal.returns-then-ports-le8
returns-then-ports-le8 c =
    let w = c.args.w.now in
    (c.largest_to.ensures.0 ∙ largest_within w 8 16 (omega arith) (λ p h. c.requires p (omega arith)), c.largest_to.ensures.1)
