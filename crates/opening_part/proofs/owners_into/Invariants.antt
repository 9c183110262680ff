-- The loop of `opening_part::owners_into`.
use Rattle.std.proofs.Common.{◌≡◌}
use Rattle.text_blocks.specs.Blocks.{owner_cells, owner_rows, blocks_put}
use Rattle.opening_part.proofs.owners_into.Given as goal

abbrev pub invariant-loop-r : goal.invariant-loop-r
invariant-loop-r l = l.blocks ≡ blocks_put owner_cells 0 0 l.initial.blocks (owner_rows l.owners l.r)
