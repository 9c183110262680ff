-- Where each number of an hour stands in its state, cell by cell. Every content has a meaning: no cell is asked anything. Assumes nothing.
use Rattle.std.specs.Prelude.{None, Some}
use mathlib.Core.List.{List}
use mathlib.Core.Path.{◌≡◌, refl, ap, ◌∙◌}
use Prim.Native.Nat.{ℕ, zero, suc, ◌+◌, ◌*◌, ◌<◌, min}
use native.Mathlib.Omega.{arith}
use lib.IntN.{ℤ, pos, negsuc}
use lib.ListN.{get_or, take, length-take}
use lib.Seq.{get_or-take}
use Rattle.rules_number.specs.Order.{nat_of}
use Rattle.rules_number.specs.Over.{listed}
use Rattle.rules_number.proofs.OverLaws.{listed_at, listed_length, listed_same}
use Rattle.rules_number.proofs.ListedLaws.{listed_is}
use Rattle.rules_curve.specs.Curves.{most_steps, step_to, blank_step, steps_of}
use Rattle.rules_curve.specs.declared.Curve.{Curve}
use Rattle.rules_curve.specs.declared.Step.{Step}
use Rattle.rules_hour.specs.Hours.{uncut, no_row, row_at, floor_in}
use Rattle.rules_hour.specs.declared.Floor.{Floor}
use Rattle.rules_pass.specs.Passes.{pass_floor_in}
use Rattle.rules_library.specs.Slices.{cell_at}
use Rattle.rules_state.specs.Layout.{most_resources, most_portfolios, state_room}
use Rattle.rules_state.specs.States.{floor_of, floors_in, standing_in, quarter_in, wholes_in, market_in, curve_in_cells, row_from, row_in, rows_in, hour_in}

-- a mark of 0 is uncut, any other is cut at the floor price
pub floor_uncut : (mark price : ℤ) → mark ≡ pos 0 → floor_of mark price ≡ uncut
floor_uncut mark price e = ap (λ (m : ℤ). floor_of m price) e

pub floor_cut : (mark price : ℤ) → (mark ≡ pos 0 → ⊥) → floor_of mark price ≡ record { price = Some price }
floor_cut (pos zero) price h = absurd (h refl)
floor_cut (pos (suc n)) price h = refl
floor_cut (negsuc n) price h = refl

take_listed : {A : Type 0} (d : A) (f : ℕ → A) (n m : ℕ) → take n (listed f m) ≡ listed f (min n m)
take_listed d f n m =
    listed_is d (take n (listed f m)) f (min n m) (length-take n (listed f m) ∙ ap (λ (k : ℕ). min n k) (listed_length f m))
    (λ q h. let l : q < n = omega arith in get_or-take n (listed f m) q d l ∙ listed_at f d m q (omega arith))

-- a curve in 24 cells; the steps that it uses are the first of eleven, as many as its count, and cells of steps past it mean nothing
pub record CurveCells (l : List ℤ) (i : ℕ) (c : Curve) : Type 0 where
  pub count : c.count ≡ nat_of (cell_at l i)
  pub start : c.start ≡ nat_of (cell_at l (i + 1))
  pub step : (k : ℕ) → k < 11 → (d : Step) → get_or c.steps k d ≡ step_to (nat_of (cell_at l (i + 2 + k))) (cell_at l (i + 13 + k))
  pub used : steps_of c ≡ listed (λ k. step_to (nat_of (cell_at l (i + 2 + k))) (cell_at l (i + 13 + k))) (min (nat_of (cell_at l i)) 11)

pub record Cells (l : List ℤ) : Type 0 where
  -- the standing
  pub accepted : (hour_in l).hour.standing.accepted ≡ nat_of (cell_at l 0)
  pub uncut_mark : (r : ℕ) → r < 64 → cell_at l (1 + r) ≡ pos 0 → (floor_in (hour_in l).hour r).price ≡ None
  pub cut_mark : (r : ℕ) → r < 64 → (cell_at l (1 + r) ≡ pos 0 → ⊥) → (floor_in (hour_in l).hour r).price ≡ Some (cell_at l (65 + r))
  -- the quarter hour
  pub passes : (hour_in l).quarter.passes ≡ nat_of (cell_at l 129)
  pub pass_uncut : (r : ℕ) → r < 64 → cell_at l (130 + r) ≡ pos 0 → (pass_floor_in (hour_in l) r).price ≡ None
  pub pass_cut : (r : ℕ) → r < 64 → (cell_at l (130 + r) ≡ pos 0 → ⊥) → (pass_floor_in (hour_in l) r).price ≡ Some (cell_at l (194 + r))
  -- the market
  pub resources : (hour_in l).hour.market.resources ≡ nat_of (cell_at l 258)
  pub portfolio : (r : ℕ) → r < 64 → get_or (hour_in l).hour.market.portfolio r 0 ≡ nat_of (cell_at l (259 + r))
  pub seller : (p : ℕ) → p < 16 → get_or (hour_in l).hour.market.seller p 0 ≡ nat_of (cell_at l (323 + p))
  -- the rows
  pub bid : (r : ℕ) → r < 64 → CurveCells l (339 + 48 * r) (row_at (hour_in l).hour r).bid
  pub default : (r : ℕ) → r < 64 → CurveCells l (363 + 48 * r) (row_at (hour_in l).hour r).default

module _ (l : List ℤ) where
  floor_at_lem : (from r : ℕ) → r < most_resources → get_or (floors_in l from) r uncut ≡ floor_of (cell_at l (from + r)) (cell_at l (from + most_resources + r))
  unfolding floors_in
  floor_at_lem from r h = listed_at (λ i. floor_of (cell_at l (from + i)) (cell_at l (from + most_resources + i))) uncut most_resources r h

  whole_at : (from n i : ℕ) → i < n → get_or (wholes_in l from n) i 0 ≡ nat_of (cell_at l (from + i))
  unfolding wholes_in
  whole_at from n i h = listed_at (λ k. nat_of (cell_at l (from + k))) 0 n i h

  curve_cells_lem : (i j : ℕ) → j ≡ i → CurveCells l i (curve_in_cells l j)
  unfolding curve_in_cells
  curve_cells_lem i j e =
      let read : ℕ → Step = λ n. step_to (nat_of (cell_at l (i + 2 + n))) (cell_at l (i + 13 + n)) in
      let same : listed (λ n. step_to (nat_of (cell_at l (i + 2 + n))) (cell_at l (i + 2 + most_steps + n))) most_steps ≡ listed read most_steps =
      listed_same (λ n. step_to (nat_of (cell_at l (i + 2 + n))) (cell_at l (i + 2 + most_steps + n))) read most_steps
      (λ n h. ap (λ (q : ℕ). step_to (nat_of (cell_at l (i + 2 + n))) (cell_at l q)) (omega arith)) in
      rw e (record {
        count = refl;
        start = refl;
        step = λ k h d. rw same (listed_at read d most_steps k h);
        used = ap (take (nat_of (cell_at l i))) same ∙ take_listed blank_step read (nat_of (cell_at l i)) most_steps;
      })

  -- every state
  pub state_cells_lem : Cells l
  unfolding standing_in quarter_in market_in rows_in row_in
  state_cells_lem = record {
    accepted = refl;
    uncut_mark = λ r h e. ap (λ (x : Floor). x.price) (floor_at_lem 1 r h ∙ floor_uncut (cell_at l (1 + r)) (cell_at l (65 + r)) e);
    cut_mark = λ r h e. ap (λ (x : Floor). x.price) (floor_at_lem 1 r h ∙ floor_cut (cell_at l (1 + r)) (cell_at l (65 + r)) e);
    passes = refl;
    pass_uncut = λ r h e. ap (λ (x : Floor). x.price) (floor_at_lem 130 r h ∙ floor_uncut (cell_at l (130 + r)) (cell_at l (194 + r)) e);
    pass_cut = λ r h e. ap (λ (x : Floor). x.price) (floor_at_lem 130 r h ∙ floor_cut (cell_at l (130 + r)) (cell_at l (194 + r)) e);
    resources = refl;
    portfolio = λ r h. whole_at 259 most_resources r h;
    seller = λ p h. whole_at 323 most_portfolios p h;
    bid = λ r h. rw (listed_at (row_in l) no_row most_resources r h) (curve_cells_lem (339 + 48 * r) (row_from r) refl);
    default = λ r h. rw (listed_at (row_in l) no_row most_resources r h) (curve_cells_lem (363 + 48 * r) (row_from r + 24) (omega arith));
  }

-- 3,411 cells
pub room_is : state_room ≡ 3411
room_is = refl
