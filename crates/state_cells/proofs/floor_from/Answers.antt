-- `state_cells::floor_from` meets its contract. Assumes nothing.
use Rattle.std.proofs.Common.{◌≡◌, ℤ, sym, ◌∙◌}
use Rattle.rules_number.proofs.Kit.{came}
use Rattle.rules_hour.specs.declared.Floor.{Floor}
use Rattle.rules_state.specs.States.{floor_of}
use Rattle.state_cells.proofs.FloorLaws.{floors_at, floors_past}
use Rattle.state_cells.proofs.floor_from.Goals as goal

by_cells : {m m' p p' : ℤ} → m ≡ m' → p ≡ p' → ◌≡◌ {A = Floor} (floor_of m p) (floor_of m' p')
by_cells e f = cc

pub returns-then-r-ge-MAX_RESOURCES : goal.returns-then-r-ge-MAX_RESOURCES
returns-then-r-ge-MAX_RESOURCES c = sym (floors_past c.args.state.now c.args.from c.args.r c.if-r-ge-MAX_RESOURCES.true)

pub returns : goal.returns
returns c =
    let a = c.args in
    let m = c.cell_at-mark in
    let p = c.cell_at-price in
    c.floor_of.ensures ∙ by_cells (came m.result m.type_inv ∙ m.ensures) (came p.result p.type_inv ∙ p.ensures)
    ∙ sym (floors_at a.state.now a.from a.r c.if-r-ge-MAX_RESOURCES.false)
