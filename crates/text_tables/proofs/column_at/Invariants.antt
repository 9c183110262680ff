-- The loop of `text_tables::column_at`.
use Rattle.text_tables.proofs.ColumnLaws.{Keeps, left}
use Rattle.text_tables.proofs.column_at.Given as goal

abbrev pub invariant-loop-row : goal.invariant-loop-row
invariant-loop-row g l = Keeps 1 l.s l.at l.initial.cells l.count l.cells l.next

abbrev pub decreases-loop-row : goal.decreases-loop-row
decreases-loop-row g l = left 1 l.s l.at l.next
