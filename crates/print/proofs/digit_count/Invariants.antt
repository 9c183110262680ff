-- What the loop of `print::digit_count` keeps, and its measure.
use Rattle.std.proofs.Common.{◌-◌}
use Rattle.rules_text.proofs.PrintLaws.{Counting}
use Rattle.print.proofs.digit_count.Given as goal

abbrev pub invariant-loop-bound : goal.invariant-loop-bound
invariant-loop-bound l = Counting l.n l.count l.bound

abbrev pub decreases-loop-bound : goal.decreases-loop-bound
decreases-loop-bound l = 20 - l.count
