-- `opening_cells::clear`: zeros are put as far as there is room.
use Rattle.opening_cells.proofs.OpenLaws.{zeros_put}
use Rattle.opening_cells.proofs.clear.Goals as goal

pub returns : goal.returns
returns c = zeros_put c.args.state.now c.fill.new.self c.args.n c.at_most-room.result c.at_most-room.ensures (c.fill.ensures.after (λ y h. h))
