-- How the loop of `stepped` comes to the default curve: what it carries, one turn, and the end. Assumes nothing.
use mathlib.Core.Bool.{true, false}
use mathlib.Core.List.{List}
use mathlib.Core.Path.{◌≡◌, refl, sym, ap, ap₂, ◌∙◌}
use Prim.Native.Nat.{ℕ, zero, suc, ◌+◌, ◌≤◌, ◌<◌}
use native.Mathlib.Numerals.{add-one}
use native.Mathlib.Omega.{arith}
use lib.IntN.{ℤ, pos, neg_ℤ}
use lib.ListN.{set, replicate}
use Rattle.rules_number.specs.Order.{max_z, nat_of}
use Rattle.rules_number.specs.Over.{all_to, listed, padded}
use Rattle.rules_number.proofs.OverLaws.{listed_length, listed_at, padded_length, padded_used, padded_next, all_next, all_fails}
use Rattle.rules_curve.specs.Curves.{most_steps, blank_step, steps_of, end_of}
use Rattle.rules_curve.specs.declared.Step.{Step}
use Rattle.rules_cost.specs.Costs.{mw_at, count_of_steps, end_at, edge_at, width_at, rate_at, with_adder, step_price, raised_price, largest_rate, cost_step, cost_curve, rate_in_range, points_good, mw_good, prices_in_range, rates_good}
use Rattle.rules_number.proofs.HighestLaws.{highest_from}
use Rattle.rules_cost.proofs.RangeLaws.{few}
use Rattle.rules_cost.proofs.CostLaws.{largest_from, raised_from}
use Rattle.rules_cost.proofs.EdgeLaws.{eleven_suffice, wide_step}
use Rattle.rules_opening.proofs.ResourceLaws.{end_last}
use Rattle.rules_state.specs.Layout.{curve_room}
use Rattle.rules_state.specs.States.{cell_of, curve_cells}
use Rattle.cost.proofs.CellLaws.{curve_from, step_put, cell_in}
use Rattle.rules_cost.specs.declared.Costs.{Costs}

-- the cells of the curve after its first i steps
abbrev pub cells_to : Costs → ℕ → List ℤ
cells_to c i = curve_cells (curve_from (nat_of (mw_at c 0)) (count_of_steps c) (padded most_steps blank_step (listed (cost_step c) i)))

-- after i steps: the edge reached, the largest rate M and the highest price p so far, and the cells
pub record Stepped (c : Costs) (edge M p : ℤ) (cells : List ℤ) (i : ℕ) : Type 0 where
  pub short : i ≤ count_of_steps c
  pub reached : edge ≡ edge_at c i
  pub rates : all_to (λ j. rate_in_range (rate_at c j)) i ≡ true
  pub largest : M ≡ highest_from (neg_ℤ (pos 100000)) (rate_at c) i
  pub price : p ≡ highest_from (neg_ℤ (pos 1000000000)) (step_price c) i
  pub stored : cells ≡ cells_to c i

pub before_steps : (c : Costs) (edge : ℤ) → edge ≡ mw_at c 0 → Stepped c edge (neg_ℤ (pos 100000)) (neg_ℤ (pos 1000000000)) (set (set (replicate curve_room (pos 0)) 0 (cell_of (count_of_steps c))) 1 (cell_of (nat_of (mw_at c 0)))) 0
unfolding all_to highest_from edge_at curve_cells padded listed
before_steps c edge e = record { short = omega arith; reached = e; rates = refl; largest = refl; price = refl; stored = refl }

-- the last of n steps ends at the edge after them
ends_at : (c : Costs) (n : ℕ) → 1 ≤ n → nat_of (edge_at c n) ≡ end_of (nat_of (mw_at c 0)) (listed (cost_step c) n)
unfolding edge_at
ends_at c zero h = absurd (omega arith)
ends_at c (suc n) h =
    sym (end_last (nat_of (mw_at c 0)) n (listed (cost_step c) (suc n)) (listed_length (cost_step c) (suc n)) ∙ ap (λ (x : Step). x.end) (listed_at (cost_step c) blank_step (suc n) n (omega arith)))

module _ (c : Costs) (points : points_good c ≡ true) (quantities : mw_good c ≡ true) (prices : prices_in_range c ≡ true)
    {edge M p : ℤ} {cells : List ℤ} (i : ℕ) (done : Stepped c edge M p cells i) where
  -- one more step, with rate R and end e
  module _ (more : i < count_of_steps c) (R M' x p' edge' : ℤ) (w : ℕ)
      (rate_is : R ≡ rate_at c i) (in_range_lem : rate_in_range R ≡ true) (M-is : M' ≡ max_z M R)
      (w_is : w ≡ width_at c i) (x-is : x ≡ with_adder c M' R w) (p-is : p' ≡ max_z p x) (edge_is : edge' ≡ end_at c i) where
    rates' : all_to (λ j. rate_in_range (rate_at c j)) (i + 1) ≡ true
    rates' = all_next (λ j. rate_in_range (rate_at c j)) i done.rates (rw rate_is at in_range_lem)

    rates_suc : all_to (λ j. rate_in_range (rate_at c j)) (suc i) ≡ true
    rates_suc = rw (← add-one i) rates'

    largest' : M' ≡ highest_from (neg_ℤ (pos 100000)) (rate_at c) (suc i)
    unfolding highest_from
    largest' = M-is ∙ ap₂ max_z done.largest rate_is

    largest_is : M' ≡ largest_rate c i
    largest_is = largest' ∙ largest_from c prices quantities (suc i) (omega arith) rates_suc i (omega arith)

    price_is : x ≡ step_price c i
    unfolding step_price
    price_is = x-is ∙ rw (largest_is, rate_is, w_is)

    price' : p' ≡ highest_from (neg_ℤ (pos 1000000000)) (step_price c) (suc i)
    unfolding highest_from
    price' = p-is ∙ ap₂ max_z done.price price_is

    raised_is : p' ≡ raised_price c i
    raised_is = price' ∙ raised_from c prices quantities (suc i) (omega arith) rates_suc i (omega arith)

    stored' : set (set cells (2 + i) edge') (2 + most_steps + i) p' ≡ cells_to c (suc i)
    stored' =
        let n = eleven_suffice c (few c points).1 in
        let l = padded most_steps blank_step (listed (cost_step c) i) in
        let e = edge_is ∙ sym (cell_in (end_at c i) (wide_step c quantities i more).to_in) in
        rw (done.stored, e, raised_is) (step_put (nat_of (mw_at c 0)) (count_of_steps c) l i (nat_of (end_at c i)) (raised_price c i) (padded_length most_steps blank_step (listed (cost_step c) i) (omega (arith, listed_length (cost_step c) i))) (omega arith)
        ∙ ap (λ (k : List Step). curve_cells (curve_from (nat_of (mw_at c 0)) (count_of_steps c) k)) (padded_next most_steps blank_step (cost_step c) i (omega arith)))

    pub next_step : Stepped c edge' M' p' (set (set cells (2 + i) edge') (2 + most_steps + i) p') (i + 1)
    unfolding edge_at
    next_step = record {
      short = omega arith;
      reached = rw (add-one i) edge_is;
      rates = rates';
      largest = rw (add-one i) largest';
      price = rw (add-one i) price';
      stored = rw (add-one i) stored';
    }

  -- or R is out of range
  pub rate_fails : i < count_of_steps c → rate_in_range (rate_at c i) ≡ false → rates_good c ≡ false
  unfolding rates_good
  rate_fails l e = all_fails (λ j. rate_in_range (rate_at c j)) (count_of_steps c) i l e

  -- the end
  module _ (last : count_of_steps c ≤ i) where
    all_done : i ≡ count_of_steps c
    all_done = omega (arith, done.short)

    pub rates_good_lem : rates_good c ≡ true
    unfolding rates_good
    rates_good_lem = rw (all_done) at done.rates

    pub cells_are : cells ≡ curve_cells (cost_curve c)
    unfolding cost_curve
    cells_are = done.stored ∙ ap curve_cells (rw (all_done, listed_length (cost_step c) (count_of_steps c)))

    -- where it ends
    pub end_is : 1 ≤ count_of_steps c → nat_of edge ≡ end_of (cost_curve c).start (steps_of (cost_curve c))
    unfolding cost_curve
    end_is h =
        let l = listed (cost_step c) (count_of_steps c) in
        ap nat_of (done.reached ∙ ap (edge_at c) all_done) ∙ ends_at c (count_of_steps c) h
        ∙ ap (λ (k : List Step). end_of (nat_of (mw_at c 0)) k) (sym (padded_used most_steps blank_step l))
