-- `opening_cells::default_in`: by its costs or by its pack.
use mathlib.Core.Path.{sym, ap, ◌∙◌, ◌≡◌}
use mir.Syntax.{w64}
use mir.Val.{of_z}
use lib.IntN.{pos}
use Rattle.rules_number.proofs.Kit.{came, bits_same, pos_fits}
use Rattle.rules_library.specs.Slices.{cell_at}
use Rattle.opening_cells.proofs.BlockLaws.{tail, pack_by, costs_by_lem, by_costs, by_pack}
use Rattle.opening_cells.proofs.default_in.Goals as goal

pub returns-then-cell_at-eq0 : goal.returns-then-cell_at-eq0
returns-then-cell_at-eq0 c =
    let b = c.args.block.now in
    let d = c.default_cells in
    let z : cell_at b 25 ≡ pos 0 = sym c.cell_at.ensures ∙ bits_same c.cell_at.result (pos 0) (record { sfits = c.cell_at.type_inv }) (pos_fits 0 tt) c.if-cell_at-eq0.true in
    let m = by_costs b d.result _ _ _ z (costs_by_lem b c.whole_at.ensures (tail b 27) (tail b 49)) (d.ensures.number, (d.ensures.ends, d.ensures.cells)) in
    record { number = m.0; ends = m.1.0; cells = m.1.1 }

pub returns : goal.returns
returns c =
    let b = c.args.block.now in
    let y = c.cell_at-2 in
    let d = c.pack_in in
    let m =
    by_pack b d.result _ _ _ (λ e. c.if-cell_at-eq0.false (ap (of_z w64) (c.cell_at.ensures ∙ e))) (pack_by b (came y.result y.type_inv ∙ y.ensures) c.whole_at-2.ensures (tail b 58))
    (d.ensures.number, (d.ensures.ends, d.ensures.cells)) in
    record { number = m.0; ends = m.1.0; cells = m.1.1 }
