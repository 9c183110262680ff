-- `text_tables::column_at` meets its contract. Assumes nothing.
use Rattle.std.proofs.Common.{◌≡◌, to_z, of_z, w64, arith, rules}
use Rattle.rules_text.specs.Tables.{cell}
use Rattle.text_tables.proofs.ColumnLaws.{starts, ended_one, fewer, again, one_sets}
use Rattle.text_tables.proofs.column_at.Goals as goal

pub loop-row-init : goal.loop-row-init
loop-row-init g c = starts 1 c.args.s.now c.args.at (omega arith) c.args.cells.now

pub returns : goal.returns
returns g c =
    let d = ended_one c.loop-row.invariant (c.requires.reads _ _ _ _ c.in_default.ensures) in
    record { count_value = d.0; cells_after = d.1.0; s_value = d.1.1.0; next_value = d.1.1.1 }

pub loop-row-smaller : goal.loop-row-smaller
loop-row-smaller g c = fewer c.loop-row.invariant (c.requires.reads _ _ _ _ c.in-Some.ensures)

pub loop-row-preserved : goal.loop-row-preserved
loop-row-preserved g c =
    let r = c.in-Some.row in
    let z : to_z w64 (of_z w64 (cell 1 r.v)) ≡ cell 1 r.v = search rules in
    again c.loop-row.invariant (c.requires.reads _ _ _ _ c.in-Some.ensures) (one_sets c.loop-row.count c.loop-row.cells r.v (rw z at c.put.ensures))
