-- What the loop of `print::put_digits` keeps, and its measure.
use Rattle.rules_text.proofs.PrintLaws.{Putting}
use Rattle.print.proofs.put_digits.Given as goal

abbrev pub invariant-loop-left : goal.invariant-loop-left
invariant-loop-left l = Putting l.fn.out l.at l.n l.out l.left l.rest

abbrev pub decreases-loop-left : goal.decreases-loop-left
decreases-loop-left l = l.left
