-- `opening_part::opened_within` meets its contract. Assumes nothing.
use Rattle.std.proofs.Common.{arith}
use Rattle.opening_part.proofs.PartLaws.{opened_blocks}
use Rattle.opening_part.proofs.opened_within.Goals as goal

pub returns : goal.returns
returns g c =
    let a = c.args in
    let w = c.owners_into in
    let d = c.opened_in in
    opened_blocks a.s.now a.n a.at a.head.now.month a.head.now.portfolios a.head.now.sellers.now a.m a.owners.now g.row.CELLS (omega (arith, c.requires.room.0)) w.new.blocks w.ensures a.state.now _ d.result d.ensures
