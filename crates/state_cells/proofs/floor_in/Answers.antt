-- `state_cells::floor_in` meets its contract. Assumes nothing.
use Rattle.rules_state.specs.States.{standing_in}
use Rattle.state_cells.proofs.floor_in.Goals as goal

pub returns : goal.returns
unfolding standing_in
returns c = c.floor_from.ensures
