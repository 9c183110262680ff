-- `text_tables::outputs_at` meets its contract. Assumes nothing.
use Rattle.std.proofs.Common.{◌≡◌, to_z, of_z, w64, arith, rules}
use Rattle.rules_text.specs.Tables.{cell}
use Rattle.text_tables.proofs.ColumnLaws.{starts, ended, fewer, again}
use Rattle.text_tables.proofs.outputs_at.Goals as goal

pub loop-row-init : goal.loop-row-init
loop-row-init c = starts 4 c.args.s.now c.args.at (omega arith) c.args.cells.now

pub returns : goal.returns
returns c =
    let d = ended c.loop-row.invariant c.in_default.ensures in
    record { count_value = d.0; cells_after = d.1.0; s_value = d.1.1.0; next_value = d.1.1.1 }

pub loop-row-smaller : goal.loop-row-smaller
loop-row-smaller c = fewer c.loop-row.invariant c.in-Some.ensures

pub loop-row-preserved : goal.loop-row-preserved
loop-row-preserved c =
    let r = c.in-Some.row in
    let a : to_z w64 (of_z w64 (cell 1 r.v)) ≡ cell 1 r.v = search rules in
    let b : to_z w64 (of_z w64 (cell 2 r.v)) ≡ cell 2 r.v = search rules in
    let d : to_z w64 (of_z w64 (cell 3 r.v)) ≡ cell 3 r.v = search rules in
    let e : to_z w64 (of_z w64 (cell 4 r.v)) ≡ cell 4 r.v = search rules in
    again c.loop-row.invariant c.in-Some.ensures (rw (c.put-in-Some-3.ensures, c.put-in-Some-2.ensures, c.put-in-Some.ensures, c.put.ensures, a, b, d, e))
