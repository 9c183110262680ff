-- The loop of `opening_part::tables::groups_into`.
use Rattle.std.proofs.Common.{ℕ, ◌+◌, List, ℤ, length, drop}
use Rattle.rules_text.specs.Numbers.{lines}
use Rattle.rules_text.specs.Tables.{Reading, found, next, grouped, pairs}
use Rattle.rules_text.proofs.UsedLaws.{Used}
use Rattle.text_blocks.specs.Blocks.{group_cells, blocks_put}
use Rattle.text_blocks.proofs.BlockLaws.{Grouping}
use Rattle.opening_part.proofs.tables.groups_into.Given as goal

abbrev pub whole : List ℕ → ℕ → ℕ → ℕ → List ℤ → ℕ → Reading (List ℤ)
whole s at m n cells from = next (grouped pairs m 0 n (lines (drop at s))) (λ gs. found (blocks_put group_cells from 0 cells gs))

abbrev pub invariant-loop-r : goal.invariant-loop-r
invariant-loop-r l =
    Grouping l.from l.m l.r l.line l.cells (lines (drop l.next l.s)) (whole l.s l.at l.m l.n l.initial.cells l.from) (l.n + length (lines (drop l.at l.s))) (length l.initial.cells)
    × Used l.s l.n l.at l.line l.next
