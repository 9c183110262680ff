-- The present curve of a resource, by the cells of its row and of its floor price. Assumes nothing.
use Rattle.std.specs.Prelude.{Option}
use mathlib.Core.List.{List, []}
use mathlib.Core.Logic.{⊎_elim}
use mathlib.Core.Path.{◌≡◌, sym, ap, ap₂, ◌∙◌}
use Prim.Native.Nat.{ℕ, ◌+◌, ◌-◌, ◌<◌, ◌≤◌}
use native.Mathlib.Omega.{arith}
use lib.IntN.{ℤ, pos}
use lib.ListN.{length, take, drop, get_or, length-drop, get_or-eq_default}
use lib.Seq.{take-append_seam, take_all, get_or-drop}
use Rattle.rules_number.specs.Order.{nat_of}
use Rattle.rules_number.specs.Over.{listed, padded}
use Rattle.rules_number.proofs.OverLaws.{listed_at, listed_length, listed_same, le_or_lt}
use Rattle.rules_curve.specs.Curves.{most_steps, step_to, steps_of, bid_steps}
use Rattle.rules_curve.specs.declared.Curve.{Curve}
use Rattle.rules_curve.specs.declared.Step.{Step}
use Rattle.rules_mitigation.specs.Mitigation.{capped, segments, segments_n, joined, mitigated, mitigated_of, mitigated_steps, most_mitigated_steps, used_steps}
use Rattle.rules_mitigation.proofs.SegmentLaws.{segments_length, joined_length}
use Rattle.rules_opening.specs.declared.Row.{Row}
use Rattle.rules_hour.specs.Hours.{no_row, uncut, row_curve, curve_in}
use Rattle.rules_hour.specs.declared.Floor.{Floor}
use Rattle.rules_library.specs.Slices.{cell_at}
use Rattle.rules_state.specs.Layout.{most_resources, curve_room, room_of_row}
use Rattle.rules_state.specs.States.{floor_of, standing_in, curve_in_cells, row_from, row_in, rows_in, hour_in}
use Rattle.state_cells.proofs.FloorLaws.{floors_at}
use Rattle.mitigated_cells.proofs.CellWalk.{used_length, bid_length}

-- the steps that a mitigated curve uses are all that it was made of
used_all : (s : ℕ) (l : List Step) → used_steps (mitigated_of s l) ≡ l
unfolding padded
used_all s l = take-append_seam l _

pub used_mitigated : (k : Option ℤ) (b d : Curve) → used_steps (mitigated k b d) ≡ mitigated_steps k b d
unfolding mitigated
used_mitigated k b d = used_all b.start (mitigated_steps k b d)

module _ (st : List ℤ) (r : ℕ) where
  row_here : r < most_resources → get_or (rows_in st) r no_row ≡ row_in st r
  unfolding rows_in
  row_here h = listed_at (row_in st) no_row most_resources r h

  row_none : most_resources ≤ r → get_or (rows_in st) r no_row ≡ no_row
  unfolding rows_in
  row_none h = get_or-eq_default (rows_in st) no_row (omega (arith, h, listed_length (row_in st) most_resources))

  floor_here : r < most_resources → get_or (standing_in st).floors r uncut ≡ floor_of (cell_at st (1 + r)) (cell_at st (1 + most_resources + r))
  unfolding standing_in
  floor_here h = floors_at st 1 r h

  -- the curve of a resource that there is, and of one that there isn't
  pub steps_here : r < most_resources
      → used_steps (curve_in (hour_in st).hour r) ≡ mitigated_steps (floor_of (cell_at st (1 + r)) (cell_at st (1 + most_resources + r))).price (curve_in_cells st (row_from r)) (curve_in_cells st (row_from r + curve_room))
  unfolding curve_in row_in
  steps_here h =
      ap₂ (λ (x : Row) (f : Floor). used_steps (row_curve x f)) (row_here h) (floor_here h)
      ∙ used_mitigated (floor_of (cell_at st (1 + r)) (cell_at st (1 + most_resources + r))).price (curve_in_cells st (row_from r)) (curve_in_cells st (row_from r + curve_room))

  pub steps_none : most_resources ≤ r → used_steps (curve_in (hour_in st).hour r) ≡ []
  unfolding curve_in mitigated joined segments_n
  steps_none h = rw (row_none h)

  -- it has at most twenty steps
  pub steps_few : length (used_steps (curve_in (hour_in st).hour r)) ≤ most_mitigated_steps
  steps_few = ⊎_elim (λ h. omega (arith, ap length (steps_none h))) here (le_or_lt most_resources r)
    where
      here : r < most_resources → length (used_steps (curve_in (hour_in st).hour r)) ≤ most_mitigated_steps
      here h =
          let floor = (floor_of (cell_at st (1 + r)) (cell_at st (1 + most_resources + r))).price in
          let bid = curve_in_cells st (row_from r) in
          let bs = bid_steps bid in
          let ds = steps_of (curve_in_cells st (row_from r + curve_room)) in
          omega (arith, ap length (steps_here h), joined_length (segments (capped floor) bid.start bs ds), segments_length (capped floor) (length bs + length ds) bid.start bs ds, bid_length st (row_from r), used_length st (row_from r + curve_room))

-- ---- a row in other cells
by_fields : {s s' n n' : ℕ} {l l' : List Step} → s ≡ s' → n ≡ n' → l ≡ l' → ◌≡◌ {A = Curve} (record { start = s; count = n; steps = l }) (record { start = s'; count = n'; steps = l' })
by_fields e f g = cc

module _ (st row : List ℤ) (from : ℕ) (same : (k : ℕ) → k < room_of_row → cell_at row k ≡ cell_at st (from + k)) where
  cell_same : (k to : ℕ) → k < room_of_row → to ≡ from + k → cell_at row k ≡ cell_at st to
  cell_same k to h e = same k h ∙ ap (cell_at st) (sym e)

  pub curve_same : (off to : ℕ) → off + curve_room ≤ room_of_row → to ≡ from + off → curve_in_cells row off ≡ curve_in_cells st to
  unfolding curve_in_cells
  curve_same off to h e =
      by_fields (ap nat_of (cell_same (off + 1) (to + 1) (omega arith) (omega arith))) (ap nat_of (cell_same off to (omega arith) e))
      (listed_same _ _ most_steps (λ k l. ap₂ step_to (ap nat_of (cell_same (off + 2 + k) (to + 2 + k) (omega arith) (omega arith))) (cell_same (off + 2 + most_steps + k) (to + 2 + most_steps + k) (omega arith) (omega arith))))

-- the cells of a row, copied, and as they stand in the slice
pub cells_copied : (st : List ℤ) (from k : ℕ) → k < room_of_row → cell_at (listed (λ q. cell_at st (from + q)) room_of_row) k ≡ cell_at st (from + k)
cells_copied st from k h = listed_at (λ q. cell_at st (from + q)) (pos 0) room_of_row k h

pub cells_dropped : (st : List ℤ) (from k : ℕ) → k < room_of_row → cell_at (take (length st - from) (drop from st)) k ≡ cell_at st (from + k)
cells_dropped st from k h = ap (λ (l : List ℤ). cell_at l k) (take_all (length st - from) (drop from st) (omega (arith, length-drop from st))) ∙ get_or-drop from st k (pos 0)
