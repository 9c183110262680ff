-- Goals of `mitigated_cells::is_under` that the search leaves. Assumes nothing.
use Rattle.std.proofs.Common.{◌≡◌, ℕ, ◌+◌, ◌-◌, ◌<◌, ◌≤◌, List, length, sym, ap, ◌∙◌, arith}
use Rattle.std.proofs.Math.ListN.{get_or}
use Rattle.std.proofs.Math.IntN.{ℤ}
use borrow.Author.Tests.{leb-true}
use Rattle.rules_number.specs.Order.{nat_of}
use Rattle.rules_curve.specs.Curves.{blank_step, steps_of, bid_steps}
use Rattle.rules_curve.specs.declared.Step.{Step}
use Rattle.rules_mitigation.proofs.SegmentLaws.{Reaches}
use Rattle.rules_library.specs.Slices.{cell_at}
use Rattle.rules_state.specs.Layout.{curve_room}
use Rattle.rules_state.specs.States.{curve_in_cells}
use Rattle.mitigated_cells.proofs.CellWalk.{step_in, start_is, used_length, used_at, bid_length, bid_step_at}
use Rattle.mitigated_cells.proofs.UncutLaws.{under_next, under_none, reaches_at, steps_uncut}
use Rattle.mitigated_cells.proofs.is_under.Goals as goal

abbrev bids_in : List ℤ → List Step
bids_in row = bid_steps (curve_in_cells row 0)

-- the last step of the default curve reaches its own end
reached : (row : List ℤ) (n top : ℕ) → 0 < n → n ≡ length (steps_of (curve_in_cells row curve_room)) → top ≡ nat_of (cell_at row (25 + n)) → Reaches top (steps_of (curve_in_cells row curve_room))
reached row n top h e f =
    let l : n - 1 < length (steps_of (curve_in_cells row curve_room)) = omega (arith, h, e) in
    let k : 25 + n ≡ 26 + (n - 1) = omega (arith, h) in
    let g : top ≡ (get_or (steps_of (curve_in_cells row curve_room)) (n - 1) blank_step).end
    = f ∙ ap (λ (i : ℕ). nat_of (cell_at row i)) k ∙ ap (λ (s : Step). s.end) (sym (used_at row curve_room (n - 1) l)) in
    rw g (reaches_at (steps_of (curve_in_cells row curve_room)) (n - 1) blank_step l)

pub loop-i-init : goal.loop-i-init
loop-i-init c =
    let e : c.whole_in-at.result ≡ (curve_in_cells c.args.row.now 0).start = c.whole_in-at.ensures ∙ sym (start_is c.args.row.now 0) in
    (λ u. rw (← e) u, omega arith)

pub loop-i-preserved : goal.loop-i-preserved
loop-i-preserved c =
    let row = c.args.row.now in
    let l = c.loop-i in
    let i = l.i in
    let h : i < length (bids_in row) = omega (arith, c.loop-i-test.true, c.count_in-bids.ensures, bid_length row 0) in
    let n = c.whole_in-at-in-loop-i in (
      λ u. l.invariant.0 (under_next c.whole_in-top.result l.at i (bids_in row) (step_in row 0 i) blank_step n.result h (bid_step_at row 0 i h) n.ensures (omega (arith, c.if-top-at.false)) u),
      omega (arith, c.loop-i-test.true),
    )

pub returns : goal.returns
returns c = λ h.
    let row = c.args.row.now in
    let l = c.loop-i in
    let top = c.whole_in-top.result in
    let m : c.count_in-defaults.result ≡ length (steps_of (curve_in_cells row curve_room)) = c.count_in-defaults.ensures ∙ sym (used_length row curve_room) in
    let n : length (bids_in row) ≤ l.i = omega (arith, c.loop-i-test.false, c.count_in-bids.ensures, bid_length row 0) in
    steps_uncut top (curve_in_cells row 0) (curve_in_cells row curve_room)
    (l.invariant.0 (under_none top l.at l.i (bids_in row) n (leb-true l.at top h)))
    (reached row c.count_in-defaults.result top (omega (arith, c.if-defaults-eq0.false)) m c.whole_in-top.ensures)
