-- `opening_part::opened_short` meets its contract. Assumes nothing.
use Rattle.std.proofs.Common.{arith}
use Rattle.opening_part.proofs.PartLaws.{owners_opened}
use Rattle.opening_part.proofs.opened_short.Goals as goal

pub returns : goal.returns
returns c =
    let a = c.args in
    let g = c.owners_at-table in
    let o = c.opened_within in
    owners_opened a.head.now.month a.head.now.portfolios a.head.now.sellers.now a.s.now a.n a.at g.result.count g.result.next g.ensures.count_value g.ensures.next_value 2 (omega arith) g.new.cells g.ensures.cells_after a.state.now _ o.result o.ensures
