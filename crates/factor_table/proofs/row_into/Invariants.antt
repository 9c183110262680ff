-- The loop of `factor_table::row_into`.
use Rattle.std.proofs.Common.{◌+◌, length, drop}
use Rattle.rules_text.specs.Numbers.{lines}
use Rattle.rules_text.proofs.UsedLaws.{Used}
use Rattle.rules_parts.specs.Parts.{with_factors}
use Rattle.factor_table.specs.Factors.{factors_of}
use Rattle.factor_table.proofs.FactorLaws.{Reads}
use Rattle.factor_table.proofs.row_into.Given as goal

abbrev pub invariant-loop-f : goal.invariant-loop-f
invariant-loop-f l =
    Reads (l.r + 1) l.m l.count l.r l.c l.cells (drop l.next l.s) (length (factors_of l.m l.r (l.r + 1) (lines (drop l.at l.s))))
    (with_factors l.initial.cells (factors_of l.m l.r (l.r + 1) (lines (drop l.at l.s)))) (lines (drop l.at l.s)) × Used l.s 0 l.at l.count l.next

abbrev pub decreases-loop-f : goal.decreases-loop-f
decreases-loop-f l = length (lines (drop l.next l.s))
