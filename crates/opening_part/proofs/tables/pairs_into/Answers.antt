-- `opening_part::tables::pairs_into` meets its contract. Assumes nothing.
use Rattle.std.proofs.Common.{◌≡◌, ℤ, pos, drop, get_or, refl, ap, ◌∙◌, to_z, of_z, w64, length-drop, arith, rules}
use Rattle.rules_text.specs.Numbers.{lines}
use Rattle.rules_text.specs.Tables.{has_id, if_suits}
use Rattle.rules_text.proofs.LineLaws.{lines_few}
use Rattle.rules_text.proofs.RowLaws.{row_in, held, not_held}
use Rattle.text_blocks.proofs.BlockLaws.{pairs_few}
use Rattle.text_blocks.proofs.PairLaws.{put_pair_at, Turned, pairing_start, pairing_end, pairing_turn}
use Rattle.opening_part.proofs.tables.pairs_into.Goals as goal
use Rattle.opening_part.proofs.tables.pairs_into.Goals.{After-put_pair}

pub loop-row-init : goal.loop-row-init
loop-row-init c =
    let a = c.args in
    pairing_start a.s.now a.at a.r a.cells.now a.base

pub returns-clause-count_value : goal.returns-clause-count_value
returns-clause-count_value c =
    let a = c.args in
    let s = a.s.now in
    let l = c.loop-row in
    let d = pairing_end s a.at a.r a.cells.now a.base l.cells l.count l.next l.invariant
    (not_held 3 _ _ (c.in_default.ensures ∙ row_in 3 (if_suits (has_id a.r)) s l.next 3 refl)) in
    d.counts

pub returns-clause-cells_after : goal.returns-clause-cells_after
returns-clause-cells_after c =
    let a = c.args in
    let s = a.s.now in
    let l = c.loop-row in
    let d = pairing_end s a.at a.r a.cells.now a.base l.cells l.count l.next l.invariant
    (not_held 3 _ _ (c.in_default.ensures ∙ row_in 3 (if_suits (has_id a.r)) s l.next 3 refl)) in
    d.stores

-- one more line is put
turned : (c : After-put_pair) → Turned c.args.s.now c.args.at c.args.r c.args.cells.now c.args.base c.loop-row.cells c.loop-row.count c.loop-row.next c.loop-row.invariant c.put_pair.new.cells c.in-Some.row.next
turned c =
    let a = c.args in
    let s = a.s.now in
    let l = c.loop-row in
    let x = c.in-Some.row in
    let second : to_z w64 (of_z w64 (get_or x.v 1 (pos 0))) ≡ get_or x.v 1 (pos 0) = search rules in
    let third : to_z w64 (of_z w64 (get_or x.v 2 (pos 0))) ≡ get_or x.v 2 (pos 0) = search rules in
    pairing_turn s a.at a.r a.cells.now a.base l.cells l.count l.next l.invariant x
    (held 3 _ _ x (c.in-Some.ensures ∙ row_in 3 (if_suits (has_id a.r)) s l.next 3 refl)) c.put_pair.new.cells
    (◌∙◌ {b = put_pair_at a.base l.count l.cells (to_z w64 (of_z w64 (get_or x.v 1 (pos 0)))) (to_z w64 (of_z w64 (get_or x.v 2 (pos 0))))} c.put_pair.ensures
    (ap (λ (z : ℤ). put_pair_at a.base l.count l.cells z (to_z w64 (of_z w64 (get_or x.v 2 (pos 0))))) second ∙ ap (put_pair_at a.base l.count l.cells (get_or x.v 1 (pos 0))) third))

pub overflow_add-count : goal.overflow_add-count
overflow_add-count c =
    let a = c.args in
    let s = a.s.now in
    let k = (turned (goal.at.overflow_add-count c).After-put_pair).below in
    let g = pairs_few a.r (lines (drop a.at s)) in
    let f = lines_few (drop a.at s) in
    let d = length-drop a.at s in
    omega (arith, c.well_formed)

pub loop-row-smaller : goal.loop-row-smaller
loop-row-smaller c = (turned (goal.at.loop-row-smaller c).After-put_pair).fewer

pub loop-row-preserved : goal.loop-row-preserved
loop-row-preserved c = (turned (goal.at.loop-row-preserved c).After-put_pair).again
