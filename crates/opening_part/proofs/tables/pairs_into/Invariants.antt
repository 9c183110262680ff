-- The loop of `opening_part::tables::pairs_into`.
use Rattle.std.proofs.Common.{length, drop}
use Rattle.rules_text.specs.Numbers.{lines}
use Rattle.text_blocks.proofs.PairLaws.{Pairing}
use Rattle.opening_part.proofs.tables.pairs_into.Given as goal

abbrev pub invariant-loop-row : goal.invariant-loop-row
invariant-loop-row l = Pairing l.s l.at l.r l.initial.cells l.base l.cells l.count l.next

abbrev pub decreases-loop-row : goal.decreases-loop-row
decreases-loop-row l = length (lines (drop l.next l.s))
