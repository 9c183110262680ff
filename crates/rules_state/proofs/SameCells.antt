-- Each part of an hour is read from its own cells alone. Assumes nothing.
use mathlib.Core.List.{List}
use mathlib.Core.Path.{◌≡◌, ap, ap₂}
use Prim.Native.Nat.{ℕ, ◌+◌, ◌≤◌, ◌<◌}
use native.Mathlib.Omega.{arith}
use lib.IntN.{ℤ}
use lib.ListN.{length}
use Rattle.rules_number.specs.Order.{nat_of}
use Rattle.rules_number.specs.Over.{listed}
use Rattle.rules_number.proofs.OverLaws.{listed_length, listed_same}
use Rattle.rules_curve.specs.Curves.{most_steps, step_to}
use Rattle.rules_library.specs.Slices.{cell_at}
use Rattle.rules_state.specs.Layout.{most_resources, most_portfolios, quarter_from, market_from, curve_room}
use Rattle.rules_state.specs.States.{floor_of, floors_in, standing_in, quarter_in, wholes_in, market_in, curve_in_cells, row_from, row_in, rows_in}

-- floor prices, from their marks and prices
pub floors_full : (l : List ℤ) (from : ℕ) → length (floors_in l from) ≡ most_resources
unfolding floors_in
floors_full l from = listed_length _ most_resources

pub floors_same : (l k : List ℤ) (from : ℕ) → ((i : ℕ) → from ≤ i → i < from + most_resources + most_resources → cell_at l i ≡ cell_at k i) → floors_in l from ≡ floors_in k from
unfolding floors_in
floors_same l k from e =
    listed_same (λ r. floor_of (cell_at l (from + r)) (cell_at l (from + most_resources + r))) (λ r. floor_of (cell_at k (from + r)) (cell_at k (from + most_resources + r))) most_resources
    (λ r h. ap₂ floor_of (e (from + r) (omega arith) (omega arith)) (e (from + most_resources + r) (omega arith) (omega arith)))

-- the standing, from the cells before the quarter hour
pub standing_same : (l k : List ℤ) → ((i : ℕ) → i < quarter_from → cell_at l i ≡ cell_at k i) → standing_in l ≡ standing_in k
unfolding standing_in
standing_same l k e =
    let a : nat_of (cell_at l 0) ≡ nat_of (cell_at k 0) = ap nat_of (e 0 (omega arith)) in
    rw (a, floors_same l k 1 (λ i h m. e i (omega arith)))

-- the quarter hour, from its own
pub quarter_same : (l k : List ℤ) → ((i : ℕ) → quarter_from ≤ i → i < market_from → cell_at l i ≡ cell_at k i) → quarter_in l ≡ quarter_in k
unfolding quarter_in
quarter_same l k e =
    let a : nat_of (cell_at l quarter_from) ≡ nat_of (cell_at k quarter_from) = ap nat_of (e quarter_from (omega arith) (omega arith)) in
    rw (a, floors_same l k (quarter_from + 1) (λ i h m. e i (omega arith) (omega arith)))

-- market and rows, from the cells past the quarter hour
module _ (l k : List ℤ) (e : (i : ℕ) → market_from ≤ i → cell_at l i ≡ cell_at k i) where
  wholes_same : (from n : ℕ) → market_from ≤ from → wholes_in l from n ≡ wholes_in k from n
  unfolding wholes_in
  wholes_same from n h = listed_same (λ i. nat_of (cell_at l (from + i))) (λ i. nat_of (cell_at k (from + i))) n (λ i m. ap nat_of (e (from + i) (omega arith)))

  pub market_same : market_in l ≡ market_in k
  unfolding market_in
  market_same =
      let a : nat_of (cell_at l market_from) ≡ nat_of (cell_at k market_from) = ap nat_of (e market_from (omega arith)) in
      rw (a, wholes_same (market_from + 1) most_resources (omega arith), wholes_same (market_from + 1 + most_resources) most_portfolios (omega arith))

  curve_same : (from : ℕ) → market_from ≤ from → curve_in_cells l from ≡ curve_in_cells k from
  unfolding curve_in_cells
  curve_same from h =
      let a : nat_of (cell_at l from) ≡ nat_of (cell_at k from) = ap nat_of (e from h) in
      let b : nat_of (cell_at l (from + 1)) ≡ nat_of (cell_at k (from + 1)) = ap nat_of (e (from + 1) (omega arith)) in
      let c : listed (λ i. step_to (nat_of (cell_at l (from + 2 + i))) (cell_at l (from + 2 + most_steps + i))) most_steps
      ≡ listed (λ i. step_to (nat_of (cell_at k (from + 2 + i))) (cell_at k (from + 2 + most_steps + i))) most_steps =
      listed_same (λ i. step_to (nat_of (cell_at l (from + 2 + i))) (cell_at l (from + 2 + most_steps + i))) (λ i. step_to (nat_of (cell_at k (from + 2 + i))) (cell_at k (from + 2 + most_steps + i))) most_steps
      (λ i m. ap₂ (λ (x y : ℤ). step_to (nat_of x) y) (e (from + 2 + i) (omega arith)) (e (from + 2 + most_steps + i) (omega arith))) in
      rw (a, b, c)

  pub row_same : (r : ℕ) → row_in l r ≡ row_in k r
  unfolding row_in
  row_same r = rw (curve_same (row_from r) (omega arith), curve_same (row_from r + curve_room) (omega arith))

  pub rows_same : rows_in l ≡ rows_in k
  unfolding rows_in
  rows_same = listed_same (row_in l) (row_in k) most_resources (λ r h. row_same r)
