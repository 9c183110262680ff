-- `opening_part::owners_into` meets its contract. Assumes nothing.
use Rattle.std.proofs.Common.{◌≡◌, ◌+◌, ◌*◌, List, ℤ, set, ap, ◌∙◌, to_z, of_z, w64, rules}
use Rattle.rules_library.specs.Slices.{cell_at}
use Rattle.rules_state.specs.Layout.{block_room}
use Rattle.text_blocks.proofs.OpeningLaws.{owners_none, owners_more}
use Rattle.opening_part.proofs.owners_into.Goals as goal

pub loop-r-init : goal.loop-r-init
loop-r-init c = owners_none c.args.owners.now c.args.blocks.now

pub loop-r-preserved : goal.loop-r-preserved
loop-r-preserved c =
    let a = c.args in
    let l = c.loop-r in
    let i = block_room * l.r in
    let x = c.cell_at in
    let y = c.cell_at-in-loop-r in
    let f : to_z w64 (of_z w64 x.result) ≡ x.result = search rules in
    let g : to_z w64 (of_z w64 y.result) ≡ y.result = search rules in
    let one = c.put.ensures ∙ ap (set l.blocks i) (f ∙ x.ensures) in
    c.put-in-loop-r.ensures ∙ ap (set c.put.new.cells (i + 1)) (g ∙ y.ensures)
    ∙ ap (λ (k : List ℤ). set k (i + 1) (cell_at a.owners.now (2 * l.r + 1))) (one ∙ ap (λ (k : List ℤ). set k i (cell_at a.owners.now (2 * l.r))) l.invariant)
    ∙ owners_more a.owners.now a.blocks.now l.r
