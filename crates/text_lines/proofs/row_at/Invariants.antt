-- The loop of `text_lines::row_at`.
use Rattle.rules_text.proofs.RowLaws.{Rowing}
use Rattle.text_lines.proofs.row_at.Given as goal

abbrev pub invariant-loop-i : goal.invariant-loop-i
invariant-loop-i l = Rowing 8 l.s l.at l.k l.v l.p l.i
