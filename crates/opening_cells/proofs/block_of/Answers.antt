-- `opening_cells::block_of`: the cells are filled from the block's first number on.
use Rattle.rules_state.specs.Openings.{block_of}
use Rattle.opening_cells.proofs.block_of.Goals as goal

pub returns : goal.returns
unfolding block_of
returns c = c.fill.ensures
