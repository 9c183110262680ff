-- `opening_part::opened_long` meets its contract. Assumes nothing.
use Rattle.std.proofs.Common.{◌+◌, ◌≤◌, length, drop, arith}
use Rattle.rules_text.specs.Numbers.{lines}
use Rattle.opening_part.proofs.PartLaws.{owners_opened, owner_stage}
use Rattle.opening_part.proofs.opened_long.Goals as goal
use Rattle.opening_part.proofs.opened_long.Goals.{After-owners_at-table}

few : (c : After-owners_at-table) → c.args.n + c.owners_at-table.result.count + length (lines (drop c.owners_at-table.result.next c.args.s.now)) ≤ c.args.n + length (lines (drop c.args.at c.args.s.now))
few c =
    let a = c.args in
    let g = c.owners_at-table in
    (owner_stage a.s.now a.n a.at g.result.count g.result.next g.ensures.count_value g.ensures.next_value).few

pub overflow_add-n : goal.overflow_add-n
overflow_add-n c = omega (arith, few (goal.at.overflow_add-n c).After-owners_at-table, c.requires, c.well_formed)

pub opened_within-requires-clause-lines : goal.opened_within-requires-clause-lines
opened_within-requires-clause-lines c = omega (arith, few (goal.at.opened_within-requires-clause-lines c).After-owners_at-table, c.requires)

pub opened_within-requires-2-clause-lines : goal.opened_within-requires-2-clause-lines
opened_within-requires-2-clause-lines c = omega (arith, few (goal.at.opened_within-requires-2-clause-lines c).After-owners_at-table, c.requires)

pub returns-then-m-le-FEW : goal.returns-then-m-le-FEW
returns-then-m-le-FEW c =
    let a = c.args in
    let h = a.head.now in
    let g = c.owners_at-table in
    let o = c.opened_within in
    owners_opened h.month h.portfolios h.sellers.now a.s.now a.n a.at g.result.count g.result.next g.ensures.count_value g.ensures.next_value 128 (omega arith) g.new.cells g.ensures.cells_after a.state.now _ o.result o.ensures

pub returns : goal.returns
returns c =
    let a = c.args in
    let h = a.head.now in
    let g = c.owners_at-table in
    let o = c.opened_within-2 in
    owners_opened h.month h.portfolios h.sellers.now a.s.now a.n a.at g.result.count g.result.next g.ensures.count_value g.ensures.next_value 128 (omega arith) g.new.cells g.ensures.cells_after a.state.now _ o.result o.ensures
