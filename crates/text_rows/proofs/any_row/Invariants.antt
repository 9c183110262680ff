-- The loop of `text_rows::any_row`.
use Rattle.rules_text.proofs.RowLaws.{Rowing}
use Rattle.text_rows.proofs.any_row.Given as goal

abbrev pub invariant-loop-i : goal.invariant-loop-i
invariant-loop-i g l = Rowing g.row.N l.s l.at g.row.N l.v l.p l.i
