-- The loop of `factor_table::rows_into`.
use Rattle.std.proofs.Common.{length, drop}
use Rattle.rules_text.specs.Numbers.{lines}
use Rattle.rules_text.proofs.UsedLaws.{Used}
use Rattle.rules_parts.specs.Parts.{with_factors}
use Rattle.factor_table.specs.Factors.{factors_of}
use Rattle.factor_table.proofs.RowsLaws.{Rows}
use Rattle.factor_table.proofs.rows_into.Given as goal

abbrev pub invariant-loop-r : goal.invariant-loop-r
invariant-loop-r l =
    Rows l.m l.b l.r l.count l.cells (lines (drop l.next l.s)) (length (factors_of l.m l.a l.b (lines (drop l.at l.s))))
    (with_factors l.initial.cells (factors_of l.m l.a l.b (lines (drop l.at l.s)))) × Used l.s 0 l.at l.count l.next
