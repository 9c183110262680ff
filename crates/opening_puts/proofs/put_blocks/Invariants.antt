-- What the loop of `opening_puts::put_blocks` keeps: the blocks before its index are put.
use Rattle.std.proofs.Common.{ℕ, length, get_or, ◌≡◌, ◌<◌}
use Rattle.rules_opening.specs.Openings.{no_resource}
use Rattle.rules_state.specs.Layout.{block_room}
use Rattle.cells.proofs.PutLaws.{BlocksLeft}
use Rattle.opening_puts.specs.Blocks.{block_numbers, Rooms}
use Rattle.opening_puts.proofs.put_blocks.Given as goal

abbrev pub invariant-loop-r : goal.invariant-loop-r
invariant-loop-r l = record {
  same_length : length l.blocks ≡ length l.initial.blocks;
  rooms : (k : ℕ) → k < l.r → Rooms (get_or l.resource-items k no_resource);
  left : BlocksLeft block_numbers block_room l.resource-items l.initial.blocks 0 l.blocks l.r;
}
