-- What the loop of `print::line_within` keeps.
use Rattle.std.proofs.Common.{◌-◌, ◌≤◌}
use Rattle.rules_text.proofs.PrintLaws.{Widening}
use Rattle.print.proofs.line_within.Given as goal

abbrev pub invariant-loop-x : goal.invariant-loop-x
invariant-loop-x l = record { some : l.left ≤ l.room; taken : Widening l.v (l.room - l.left) l.x-index }
