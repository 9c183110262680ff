-- `state_cells::pass_floor_in` meets its contract. Assumes nothing.
use Rattle.rules_state.specs.States.{quarter_in}
use Rattle.state_cells.proofs.pass_floor_in.Goals as goal

pub returns : goal.returns
unfolding quarter_in
returns c = c.floor_from.ensures
