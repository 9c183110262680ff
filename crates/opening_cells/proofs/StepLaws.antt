-- Laws of a curve whose steps have end and price of each in turn. Assumes nothing.
use mathlib.Core.Bool.{true, false, ◌&&◌}
use mathlib.Core.List.{List, map}
use mathlib.Core.Path.{◌≡◌, refl, sym, ap, ◌∙◌}
use Prim.Native.Nat.{ℕ, suc, ◌+◌, ◌*◌, ◌-◌, ◌≤◌, ◌<◌}
use native.Mathlib.Omega.{arith}
use lib.IntN.{ℤ, pos}
use lib.ListN.{length, set, get_or, take, replicate, length-take}
use lib.Seq.{get_or-take}
use lib.Signed.{le_z}
use Rattle.rules_number.specs.Order.{nat_of, in_range}
use Rattle.rules_number.specs.Over.{listed, padded}
use Rattle.rules_number.proofs.ListedLaws.{listed_is}
use Rattle.rules_number.proofs.OverLaws.{listed_at, listed_length, padded_length, padded_used, padded_next}
use Rattle.rules_curve.specs.Curves.{most_steps, blank_step, steps_of, raw_steps, step_of, end_of, chain, edge_suits, edges_good, price_suits, prices_good, curve_of}
use Rattle.rules_curve.specs.declared.Step.{Step}
use Rattle.rules_curve.proofs.ChainLaws.{raw_blank}
use Rattle.rules_opening.proofs.ResourceLaws.{end_none, end_last}
use Rattle.rules_library.specs.Slices.{cell_at, raw_step_at, raw_bid}
use Rattle.rules_state.specs.Layout.{curve_room}
use Rattle.rules_state.specs.States.{cell_of, curve_cells}
use Rattle.cost.proofs.CellLaws.{curve_from, step_put}
use Rattle.opening_cells.proofs.CurveLaws.{curve_length}
use Rattle.opening_cells.proofs.OpenLaws.{map_listed}

module _ (start : ℤ) (n : ℕ) (steps : List ℤ) (few : n ≤ most_steps) where
  -- the steps in use
  pub steps_are : raw_steps (raw_bid start n steps) ≡ listed (raw_step_at steps) n
  steps_are =
      let whole = listed (raw_step_at steps) most_steps in
      listed_is raw_blank (take n whole) (raw_step_at steps) n (omega (arith, length-take n whole, listed_length (raw_step_at steps) most_steps))
      (λ i h. get_or-take n whole i raw_blank h ∙ listed_at (raw_step_at steps) raw_blank most_steps i (omega arith))

  pub edges_below : le_z (pos 0) start ≡ false → edges_good (raw_bid start n steps) ≡ false
  unfolding in_range
  edges_below e = rw e

  pub edges_from : le_z (pos 0) start ≡ true → (le_z start (pos 1000000) && chain edge_suits (λ s. s.end) start (listed (raw_step_at steps) n)) ≡ edges_good (raw_bid start n steps)
  unfolding in_range
  edges_from e = rw (e, steps_are)

  pub prices_are : (low top : ℤ) → chain (price_suits top) (λ s. s.price) low (listed (raw_step_at steps) n) ≡ prices_good low top (raw_bid start n steps)
  prices_are low top = rw steps_are

  -- the steps of the curve
  abbrev pub step_at : ℕ → Step
  step_at k = step_of (raw_step_at steps k)

  taken_steps : map step_of (raw_steps (raw_bid start n steps)) ≡ listed step_at n
  taken_steps = ap (map step_of) steps_are ∙ map_listed step_of (raw_step_at steps) n

  steps_in_lem : steps_of (curve_of (raw_bid start n steps)) ≡ listed step_at n
  unfolding curve_of
  steps_in_lem = padded_used most_steps blank_step (map step_of (raw_steps (raw_bid start n steps))) ∙ taken_steps

  pub start_in : (curve_of (raw_bid start n steps)).start ≡ nat_of start
  unfolding curve_of
  start_in = refl

  pub eleven : length (curve_of (raw_bid start n steps)).steps ≡ most_steps
  unfolding curve_of
  eleven = padded_length most_steps blank_step (map step_of (raw_steps (raw_bid start n steps))) (omega (arith, ap length taken_steps, listed_length step_at n))

  pub curve_full : length (curve_cells (curve_of (raw_bid start n steps))) ≡ curve_room
  curve_full = curve_length (curve_of (raw_bid start n steps)) eleven

  -- ---- where it ends
  pub ends_none : n ≡ 0 → nat_of start ≡ end_of (nat_of start) (steps_of (curve_of (raw_bid start n steps)))
  ends_none e = sym (end_none (nat_of start) (steps_of (curve_of (raw_bid start n steps))) (ap length steps_in_lem ∙ listed_length step_at n ∙ e))

  pub ends_last : 0 < n → nat_of (cell_at steps (2 * (n - 1))) ≡ end_of (nat_of start) (steps_of (curve_of (raw_bid start n steps)))
  ends_last h =
      let e : length (steps_of (curve_of (raw_bid start n steps))) ≡ suc (n - 1) = ap length steps_in_lem ∙ listed_length step_at n ∙ omega arith in
      sym (end_last (nat_of start) (n - 1) (steps_of (curve_of (raw_bid start n steps))) e
      ∙ ap (λ (l : List Step). (get_or l (n - 1) blank_step).end) steps_in_lem ∙ ap (λ (x : Step). x.end) (listed_at step_at blank_step n (n - 1) (omega arith)))

  -- ---- its cells, filled from the left
  pub cells_before : curve_cells (curve_from (nat_of start) n (padded most_steps blank_step (listed step_at 0))) ≡ set (set (replicate curve_room (pos 0)) 0 (cell_of n)) 1 (cell_of (nat_of start))
  unfolding curve_cells padded listed
  cells_before = refl

  pub cells_next : (k : ℕ) → k < most_steps → set (set (curve_cells (curve_from (nat_of start) n (padded most_steps blank_step (listed step_at k)))) (2 + k) (cell_of (nat_of (cell_at steps (2 * k))))) (2 + most_steps + k) (cell_at steps (2 * k + 1))
      ≡ curve_cells (curve_from (nat_of start) n (padded most_steps blank_step (listed step_at (suc k))))
  cells_next k h =
      step_put (nat_of start) n (padded most_steps blank_step (listed step_at k)) k (nat_of (cell_at steps (2 * k))) (cell_at steps (2 * k + 1)) (padded_length most_steps blank_step (listed step_at k) (omega (arith, listed_length step_at k))) h
      ∙ ap (λ (l : List Step). curve_cells (curve_from (nat_of start) n l)) (padded_next most_steps blank_step step_at k h)

  pub cells_after_lem : curve_cells (curve_from (nat_of start) n (padded most_steps blank_step (listed step_at n))) ≡ curve_cells (curve_of (raw_bid start n steps))
  unfolding curve_of
  cells_after_lem = ap curve_cells (rw (taken_steps, listed_length step_at n))
