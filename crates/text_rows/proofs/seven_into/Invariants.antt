-- The loop of `text_rows::seven_into`.
use Rattle.text_rows.proofs.StandLaws.{Filling}
use Rattle.text_rows.proofs.seven_into.Given as goal

abbrev pub invariant-loop-i : goal.invariant-loop-i
invariant-loop-i l = Filling l.s l.at l.initial.v l.v l.p l.i
