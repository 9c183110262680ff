-- Goals of `mitigated_cells::mitigated_into` that the search leaves. Assumes nothing.
use Rattle.std.proofs.Common.{◌≡◌, ℕ, ◌+◌, ◌<◌, List, refl, ap, ◌∙◌, arith, rules}
use Rattle.std.proofs.Math.IntN.{ℤ}
use mir.Syntax.{w64}
use mir.Val.{SFits}
use Rattle.rules_number.proofs.Kit.{came}
use Rattle.rules_curve.specs.declared.Step.{Step}
use Rattle.rules_mitigation.specs.Mitigation.{mitigated_steps, used_steps}
use Rattle.rules_hour.specs.Hours.{curve_in}
use Rattle.rules_library.specs.Slices.{cell_at}
use Rattle.rules_state.specs.Layout.{most_resources, room_of_row, curve_room}
use Rattle.rules_state.specs.States.{floor_of, curve_in_cells, row_from, hour_in}
use Rattle.mitigated_cells.proofs.PutLaws.{Ended}
use Rattle.mitigated_cells.proofs.RowLaws.{steps_here, steps_none, curve_same, cells_copied, cells_dropped}
use Rattle.mitigated_cells.proofs.mitigated_into.Goals as goal
use Rattle.mitigated_cells.proofs.mitigated_into.Goals.{After-put_row, After-put_row-2}

-- what is put, of the row in a list, is what is asked
ended : (st : List ℤ) (r : ℕ) (l : List ℤ) {mark floor : ℤ} {s₀ now : List Step} {n : ℕ} → r < most_resources
    → mark ≡ cell_at st (1 + r) → floor ≡ cell_at st (1 + most_resources + r)
    → ((k : ℕ) → k < room_of_row → cell_at l k ≡ cell_at st (row_from r + k))
    → Ended (mitigated_steps (floor_of mark floor).price (curve_in_cells l 0) (curve_in_cells l curve_room)) s₀ now n
    → Ended (used_steps (curve_in (hour_in st).hour r)) s₀ now n
ended st r l {mark} {floor} {s₀} {now} {n} h em ef same x =
    let eb = curve_same st l (row_from r) same 0 (row_from r) (omega arith) (omega arith) in
    let ed = curve_same st l (row_from r) same curve_room (row_from r + curve_room) (omega arith) refl in
    rw (steps_here st r h) (rw (em, ef, eb, ed) at x)

pub returns-then-r-ge-MAX_RESOURCES : goal.returns-then-r-ge-MAX_RESOURCES
returns-then-r-ge-MAX_RESOURCES c = let e = steps_none c.args.state.now c.args.r c.if-r-ge-MAX_RESOURCES.true in record { count = rw e refl; steps = rw e refl }

-- of a row in the slice, and of one that is copied
in_slice : (c : After-put_row) → Ended (used_steps (curve_in (hour_in c.args.state.now).hour c.args.r)) c.args.steps.now c.put_row.new.steps c.put_row.result
in_slice c =
    let a = c.args in
    let f : SFits w64 c.cell_at-mark.result = search rules in
    let g : SFits w64 c.cell_at-floor.result = search rules in
    let p = c.put_row.ensures in
    ended a.state.now a.r _ c.if-r-ge-MAX_RESOURCES.false (came c.cell_at-mark.result f.sfits ∙ c.cell_at-mark.ensures) (came c.cell_at-floor.result g.sfits ∙ c.cell_at-floor.ensures)
    (cells_dropped a.state.now (row_from a.r)) (record { count = p.count; steps_are = p.steps })

copied : (c : After-put_row-2) → Ended (used_steps (curve_in (hour_in c.args.state.now).hour c.args.r)) c.args.steps.now c.put_row-2.new.steps c.put_row-2.result
copied c =
    let a = c.args in
    let st = a.state.now in
    let f : SFits w64 c.cell_at-mark.result = search rules in
    let g : SFits w64 c.cell_at-floor.result = search rules in
    let p = c.put_row-2.ensures in
    ended st a.r c.fill.new.into c.if-r-ge-MAX_RESOURCES.false (came c.cell_at-mark.result f.sfits ∙ c.cell_at-mark.ensures) (came c.cell_at-floor.result g.sfits ∙ c.cell_at-floor.ensures)
    (λ q h. ap (λ (l : List ℤ). cell_at l q) c.fill.ensures ∙ cells_copied st (row_from a.r) q h)
    (record { count = p.count; steps_are = p.steps })

pub returns-then-from-state : goal.returns-then-from-state
returns-then-from-state c = let e = in_slice (goal.at.returns-then-from-state c).After-put_row in record { count = e.count; steps = e.steps_are }

pub returns : goal.returns
returns c = let e = copied (goal.at.returns c).After-put_row-2 in record { count = e.count; steps = e.steps_are }
