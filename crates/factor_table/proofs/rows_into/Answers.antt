-- `factor_table::rows_into` meets its contract. Assumes nothing.
use Rattle.std.proofs.Common.{◌+◌, drop, refl, length-drop, arith}
use Rattle.rules_text.specs.Numbers.{lines}
use Rattle.rules_text.proofs.LineLaws.{lines_few}
use Rattle.rules_text.proofs.UsedLaws.{used_none, used_lines, used_then, used_count, bytes_past}
use Rattle.factor_table.proofs.RowsLaws.{rows_start, rows_next, rows_end, rows_few}
use Rattle.factor_table.proofs.rows_into.Goals as goal

pub loop-r-init : goal.loop-r-init
loop-r-init c = let a = c.args in (rows_start a.m a.b a.a c.requires a.cells.now (lines (drop a.at a.s.now)), used_none a.s.now 0 a.at)

-- the row of one resource more
pub overflow_add-count : goal.overflow_add-count
overflow_add-count c =
    let a = c.args in
    let l = c.loop-r in
    let w = c.row_into-row in
    let e = w.ensures in
    let more = rows_next a.m a.b l.r l.count l.cells (lines (drop l.next a.s.now)) _ _ l.invariant.0 (l.r + 1) (omega arith) (omega arith)
    w.result.count e.count w.new.cells e.cells (lines (drop w.result.next a.s.now)) (bytes_past a.s.now l.next w.result.count w.result.next e.offset) in
    let n = more.count in
    let k = rows_few a.m a.a a.b (lines (drop a.at a.s.now)) in
    let f = lines_few (drop a.at a.s.now) in
    let d = length-drop a.at a.s.now in
    omega (arith, c.well_formed)

pub loop-r-preserved : goal.loop-r-preserved
loop-r-preserved c =
    let a = c.args in
    let l = c.loop-r in
    let w = c.row_into-row in
    let e = w.ensures in
    let more = rows_next a.m a.b l.r l.count l.cells (lines (drop l.next a.s.now)) _ _ l.invariant.0 (l.r + 1) (omega arith) (omega arith)
    w.result.count e.count w.new.cells e.cells (lines (drop w.result.next a.s.now)) (bytes_past a.s.now l.next w.result.count w.result.next e.offset) in
    (more, used_then l.invariant.1 (used_lines a.s.now l.count l.next w.result.count w.result.next e.offset (l.count + w.result.count) refl))

pub returns : goal.returns
returns c =
    let a = c.args in
    let l = c.loop-r in
    let u = l.invariant.0.upto in
    let d = rows_end a.m a.b l.r l.count l.cells (lines (drop l.next a.s.now)) _ _ l.invariant.0 (omega arith) in
    record { count = d.0; cells = d.1; offset = used_count l.invariant.1 }
