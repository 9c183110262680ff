-- `factor_table::factors_into` meets its contract. Assumes nothing.
use Rattle.std.proofs.Common.{◌+◌, drop, length-drop, arith}
use Rattle.rules_text.specs.Numbers.{lines}
use Rattle.rules_text.proofs.LineLaws.{lines_few}
use Rattle.factor_table.proofs.RowsLaws.{read_then, read_whole, rows_few}
use Rattle.factor_table.proofs.factors_into.Goals as goal

pub returns-then-n-le-ONE_DIGIT : goal.returns-then-n-le-ONE_DIGIT
returns-then-n-le-ONE_DIGIT c =
    let a = c.args in
    let w = c.rows_into in
    let d = read_whole a.m a.s.now a.at a.n a.cells.now w.new.cells w.result w.ensures in
    record { count_value = d.0; cells_after = d.1.0; s_value = d.1.1.0; next_value = d.1.1.1 }

-- the two calls as one
pub overflow_add-result : goal.overflow_add-result
overflow_add-result c =
    let a = c.args in
    let t = c.rows_into-short in
    let w = c.rows_into-rest in
    let k = c.if-n-le-ONE_DIGIT.false in
    let joined = read_then a.m a.s.now a.at 0 10 a.n (omega arith) (omega arith) a.cells.now t.new.cells w.new.cells t.result w.result t.ensures w.ensures in
    let n = joined.count in
    let k = rows_few a.m 0 a.n (lines (drop a.at a.s.now)) in
    let f = lines_few (drop a.at a.s.now) in
    let d = length-drop a.at a.s.now in
    omega (arith, c.well_formed)

pub returns : goal.returns
returns c =
    let a = c.args in
    let t = c.rows_into-short in
    let w = c.rows_into-rest in
    let k = c.if-n-le-ONE_DIGIT.false in
    let joined = read_then a.m a.s.now a.at 0 10 a.n (omega arith) (omega arith) a.cells.now t.new.cells w.new.cells t.result w.result t.ensures w.ensures in
    let d = read_whole a.m a.s.now a.at a.n a.cells.now w.new.cells (record { count = t.result.count + w.result.count; next = w.result.next }) joined in
    record { count_value = d.0; cells_after = d.1.0; s_value = d.1.1.0; next_value = d.1.1.1 }
