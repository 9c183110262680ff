-- `opening_part::tables::groups_into` meets its contract. Assumes nothing.
use Rattle.std.proofs.Common.{ℕ, ◌+◌, ◌*◌, ◌^◌, ◌<◌, length, drop, set, pos, refl, ap, ◌∙◌, arith}
use lib.Seq.{sets}
use Rattle.rules_number.proofs.Kit.{came}
use Rattle.rules_text.specs.Numbers.{lines}
use Rattle.rules_text.specs.Tables.{pairs}
use Rattle.rules_text.proofs.StageLaws.{text_few}
use Rattle.rules_text.proofs.UsedLaws.{used_none, used_lines, used_then, bytes_past}
use Rattle.rules_state.specs.Layout.{block_room}
use Rattle.text_blocks.specs.Blocks.{group_cells}
use Rattle.text_blocks.proofs.BlockLaws.{pairs_few, place_same, group_put, grouping_start, grouping_end, grouping_turn, line_fits}
use Rattle.opening_part.proofs.tables.groups_into.Invariants.{whole}
use Rattle.opening_part.proofs.tables.groups_into.Goals as goal

pub loop-r-init : goal.loop-r-init
loop-r-init c =
    let a = c.args in
    (grouping_start a.from a.m a.n a.cells.now (lines (drop a.at a.s.now)), used_none a.s.now a.n a.at)

-- the number of its lines is a number of 63 bits
pub overflow_cast-group : goal.overflow_cast-group
overflow_cast-group c =
    let a = c.args in
    let s = a.s.now in
    let l = c.loop-r in
    let g = c.pairs_into-group in
    let left = lines (drop l.next s) in
    let few = pairs_few l.r left in
    let f = text_few s l.next in
    record { sfits = omega (arith, c.well_formed, g.ensures.count_value) }

pub overflow_add-line : goal.overflow_add-line
overflow_add-line c =
    let a = c.args in
    let s = a.s.now in
    let l = c.loop-r in
    let g = c.pairs_into-group in
    let left = lines (drop l.next s) in
    let all = whole s a.at a.m a.n a.cells.now a.from in
    let limit = a.n + length (lines (drop a.at s)) in
    let rest = bytes_past s l.next g.result.count g.result.next g.ensures.next_value in
    let k = line_fits a.from a.m l.r l.line l.cells left all limit (length a.cells.now) l.invariant.0 c.loop-r-test.true g.result.count g.ensures.count_value (lines (drop g.result.next s)) rest in
    let p = c.requires.0 in
    omega (arith, c.well_formed)

pub loop-r-preserved : goal.loop-r-preserved
loop-r-preserved c =
    let a = c.args in
    let s = a.s.now in
    let l = c.loop-r in
    let g = c.pairs_into-group in
    let left = lines (drop l.next s) in
    let all = whole s a.at a.m a.n a.cells.now a.from in
    let limit = a.n + length (lines (drop a.at s)) in
    let rest = bytes_past s l.next g.result.count g.result.next g.ensures.next_value in
    let m = c.at_most in
    let i = block_room * m.result + a.from in
    let vs = group_cells (pairs l.r left) in
    let n = g.result.count in
    let few = pairs_few l.r left in
    let f = text_few s l.next in
    let counted : n < 2 ^ 63 = omega (arith, c.well_formed, g.ensures.count_value) in
    let count = came (pos n) counted in
    let put_is = group_put l.cells g.new.cells c.put.new.cells i (pairs l.r left) (pos n) g.ensures.cells_after
    (c.put.ensures ∙ ap (set g.new.cells i) count) (ap pos g.ensures.count_value)
    ∙ ap (λ (k : ℕ). sets l.cells (block_room * k + a.from) vs) m.ensures
    ∙ place_same l.cells l.r a.from vs (omega (arith, l.invariant.0.long, c.requires.1)) in (
      grouping_turn a.from a.m l.r l.line l.cells left all limit (length a.cells.now) l.invariant.0 c.loop-r-test.true n g.ensures.count_value (lines (drop g.result.next s)) rest _ put_is,
      used_then l.invariant.1 (used_lines s l.line l.next n g.result.next g.ensures.next_value (l.line + n) refl),
    )

pub returns-clause-s_after : goal.returns-clause-s_after
returns-clause-s_after c =
    let a = c.args in
    let s = a.s.now in
    let l = c.loop-r in
    grouping_end a.from a.m l.r l.line l.cells (lines (drop l.next s)) (whole s a.at a.m a.n a.cells.now a.from) (a.n + length (lines (drop a.at s))) (length a.cells.now) l.invariant.0 c.loop-r-test.false
