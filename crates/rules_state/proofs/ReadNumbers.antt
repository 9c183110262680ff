-- What is read of an opening and of an interval in numbers, cell by cell. Assumes nothing.
use mathlib.Core.List.{List}
use mathlib.Core.Logic.{⊎_elim}
use mathlib.Core.Path.{◌≡◌, refl, sym, ap, ap₂, ◌∙◌}
use Prim.Native.Nat.{ℕ, zero, suc, ◌+◌, ◌*◌, ◌≤◌, ◌<◌}
use native.Mathlib.Omega.{arith}
use lib.IntN.{ℤ, pos, negsuc}
use lib.ListN.{length, get_or, drop, get_or-eq_default}
use lib.Seq.{get_or-drop}
use Rattle.rules_number.specs.Order.{nat_of}
use Rattle.rules_number.specs.Over.{padded}
use Rattle.rules_number.proofs.CellLaws.{cell_past}
use Rattle.rules_number.proofs.ListedLaws.{listed_is}
use Rattle.rules_number.proofs.OverLaws.{le_or_lt, listed_at, padded_at, padded_length}
use Rattle.rules_curve.specs.Curves.{most_steps}
use Rattle.rules_curve.specs.declared.RawStep.{RawStep}
use Rattle.rules_curve.specs.declared.RawCurve.{RawCurve}
use Rattle.rules_cost.specs.Costs.{most_points, blank_point}
use Rattle.rules_interval.specs.Intervals.{shadow_at, lmp_at, dispatch_at, available_at, floor_at, factor_at}
use Rattle.rules_interval.specs.declared.Interval.{Interval}
use Rattle.rules_opening.specs.Openings.{no_resource, resource_at, seller_at}
use Rattle.rules_opening.specs.declared.Source.TheVariants as source
use Rattle.rules_opening.specs.declared.Resource.{Resource}
use Rattle.rules_opening.specs.declared.Opening.{Opening}
use Rattle.rules_library.specs.Slices.{cell_at, raw_step_at, raw_point_at, costs_in}
use Rattle.rules_state.specs.Layout.{most_resources, most_portfolios, most_constraints, block_room}
use Rattle.rules_state.specs.Openings.{numbers_in, block_of, source_of, raw_from, resource_in, opening_in}
use Rattle.rules_state.specs.Intervals.{outputs_in, interval_in}

-- numbers past a slice's end count as 0
pub short_slice : (l : List ℤ) (n : ℕ) → length l ≤ n → numbers_in l n ≡ padded n (pos 0) l
short_slice l n h = sym (listed_is (pos 0) (padded n (pos 0) l) (cell_at l) n (padded_length n (pos 0) l h) at)
  where
    at : (q : ℕ) → q < n → cell_at (padded n (pos 0) l) q ≡ cell_at l q
    at q m = ⊎_elim (λ k. cell_past n (pos 0) l q k ∙ sym (get_or-eq_default l (pos 0) k)) (λ k. padded_at n (pos 0) l q (pos 0) k) (le_or_lt (length l) q)

-- ---- a resource
-- a curve: its start, its number of steps, and end and price of each of eleven steps, from number i of a slice on
pub record CurveRead (l : List ℤ) (i : ℕ) (c : RawCurve) : Type 0 where
  pub start : c.start ≡ cell_at l i
  pub count : c.count ≡ nat_of (cell_at l (i + 1))
  pub step : (k : ℕ) → k < 11 → (d : RawStep) → get_or c.steps k d ≡ record { end = cell_at l (i + 2 + 2 * k); price = cell_at l (i + 3 + 2 * k) }

-- resource r, from its 80 numbers
pub record ResourceRead (l : List ℤ) (r : ℕ) (x : Resource) : Type 0 where
  pub portfolio : x.portfolio ≡ cell_at l (80 * r)
  pub bid : CurveRead l (80 * r + 1) x.bid
  pub from_costs_lem : cell_at l (80 * r + 25) ≡ pos 0 → x.source ≡ source.Costs
  pub from_pack : (cell_at l (80 * r + 25) ≡ pos 0 → ⊥) → x.source ≡ source.Pack
  pub points : x.costs.count ≡ nat_of (cell_at l (80 * r + 26))
  pub point : (k : ℕ) → k < 11 → get_or x.costs.points k blank_point ≡ record { mw = cell_at l (80 * r + 27 + 2 * k); heat = cell_at l (80 * r + 28 + 2 * k) }
  pub gas : x.costs.gas ≡ cell_at l (80 * r + 49)
  pub rate : x.costs.rate ≡ cell_at l (80 * r + 50)
  pub allowance : x.costs.allowance ≡ cell_at l (80 * r + 51)
  pub om : x.costs.om ≡ cell_at l (80 * r + 52)
  pub msc : x.costs.msc ≡ cell_at l (80 * r + 53)
  pub soc : x.costs.soc ≡ cell_at l (80 * r + 54)
  pub fee : x.costs.fee ≡ cell_at l (80 * r + 55)
  pub pack : CurveRead l (80 * r + 56) x.pack

source_costs : (z : ℤ) → z ≡ pos 0 → source_of z ≡ source.Costs
source_costs z e = ap source_of e

source_pack : (z : ℤ) → (z ≡ pos 0 → ⊥) → source_of z ≡ source.Pack
source_pack (pos zero) h = absurd (h refl)
source_pack (pos (suc n)) h = refl
source_pack (negsuc n) h = refl

module _ (l : List ℤ) (r : ℕ) where
  -- number k of the block
  block_at : (k n : ℕ) → k < block_room → n ≡ 80 * r + k → cell_at (block_of l r) k ≡ cell_at l n
  unfolding block_of
  block_at k n h e = listed_at (λ i. cell_at l (block_room * r + i)) (pos 0) block_room k h ∙ ap (cell_at l) (sym e)

  -- the same, of the block from a number on
  dropped : (from j n : ℕ) → from + j < block_room → n ≡ 80 * r + (from + j) → cell_at (drop from (block_of l r)) j ≡ cell_at l n
  dropped from j n h e = get_or-drop from (block_of l r) j (pos 0) ∙ block_at (from + j) n h e

  curve_read : (from i : ℕ) → from + 24 ≤ block_room → i ≡ 80 * r + from → CurveRead l i (raw_from (block_of l r) from)
  curve_read from i h e = record {
    start = block_at from i (omega arith) e;
    count = ap nat_of (block_at (from + 1) (i + 1) (omega arith) (omega arith));
    step = λ k m d.
        listed_at (raw_step_at (drop (from + 2) (block_of l r))) d most_steps k m
        ∙ ap₂ (λ (x y : ℤ). record { end = x; price = y }) (dropped (from + 2) (2 * k) (i + 2 + 2 * k) (omega arith) (omega arith)) (dropped (from + 2) (2 * k + 1) (i + 3 + 2 * k) (omega arith) (omega arith));
  }

  resource_read : ResourceRead l r (resource_in (block_of l r))
  unfolding resource_in costs_in
  resource_read = record {
    portfolio = block_at 0 (80 * r) (omega arith) (omega arith);
    bid = curve_read 1 (80 * r + 1) (omega arith) refl;
    from_costs_lem = λ e. source_costs (cell_at (block_of l r) 25) (block_at 25 (80 * r + 25) (omega arith) refl ∙ e);
    from_pack = λ h. source_pack (cell_at (block_of l r) 25) (λ e. h (sym (block_at 25 (80 * r + 25) (omega arith) refl) ∙ e));
    points = ap nat_of (block_at 26 (80 * r + 26) (omega arith) refl);
    point = λ k m.
        listed_at (raw_point_at (drop 27 (block_of l r))) blank_point most_points k m
        ∙ ap₂ (λ (x y : ℤ). record { mw = x; heat = y }) (dropped 27 (2 * k) (80 * r + 27 + 2 * k) (omega arith) (omega arith)) (dropped 27 (2 * k + 1) (80 * r + 28 + 2 * k) (omega arith) (omega arith));
    gas = dropped 49 0 (80 * r + 49) (omega arith) refl;
    rate = dropped 49 1 (80 * r + 50) (omega arith) refl;
    allowance = dropped 49 2 (80 * r + 51) (omega arith) refl;
    om = dropped 49 3 (80 * r + 52) (omega arith) refl;
    msc = dropped 49 4 (80 * r + 53) (omega arith) refl;
    soc = dropped 49 5 (80 * r + 54) (omega arith) refl;
    fee = dropped 49 6 (80 * r + 55) (omega arith) refl;
    pack = curve_read 56 (80 * r + 56) (omega arith) refl;
  }

-- ---- an opening
pub record OpeningRead (month : ℤ) (portfolios : ℕ) (sellers : List ℤ) (resources : ℕ) (blocks : List ℤ) (o : Opening) : Type 0 where
  pub month_is : o.month ≡ month
  pub portfolios_are : o.portfolios ≡ portfolios
  pub resources_are : o.resources ≡ resources
  pub seller : (p : ℕ) → p < 16 → seller_at o p ≡ cell_at sellers p
  pub resource : (r : ℕ) → r < 64 → ResourceRead blocks r (resource_at o r)

pub opening_read : (month : ℤ) (portfolios : ℕ) (sellers : List ℤ) (resources : ℕ) (blocks : List ℤ)
    → OpeningRead month portfolios sellers resources blocks (opening_in month portfolios sellers resources blocks)
unfolding opening_in
opening_read month portfolios sellers resources blocks = record {
  month_is = refl;
  portfolios_are = refl;
  resources_are = refl;
  seller = λ p h. listed_at (cell_at sellers) (pos 0) most_portfolios p h;
  resource = λ r h. rw (listed_at (λ i. resource_in (block_of blocks i)) no_resource most_resources r h) (resource_read blocks r);
}

-- ---- an interval
pub record IntervalRead (constraints : ℕ) (shadow : List ℤ) (resources : ℕ) (outputs factors : List ℤ) (parameter : ℤ) (v : Interval) : Type 0 where
  pub constraints_are : v.constraints ≡ constraints
  pub resources_are : v.resources ≡ resources
  pub parameter_is_lem : v.parameter ≡ parameter
  pub shadow_at_lem : (c : ℕ) → c < 32 → shadow_at v c ≡ cell_at shadow c
  -- four of each resource in turn
  pub lmp : (r : ℕ) → r < 64 → lmp_at v r ≡ cell_at outputs (4 * r)
  pub dispatch : (r : ℕ) → r < 64 → dispatch_at v r ≡ cell_at outputs (4 * r + 1)
  pub available : (r : ℕ) → r < 64 → available_at v r ≡ cell_at outputs (4 * r + 2)
  pub floor : (r : ℕ) → r < 64 → floor_at v r ≡ cell_at outputs (4 * r + 3)
  pub factor : (r c : ℕ) → r < 64 → c < 32 → factor_at v r c ≡ cell_at factors (32 * r + c)

output_at_lem : (outputs : List ℤ) (k r n : ℕ) → r < most_resources → n ≡ 4 * r + k → cell_at (outputs_in outputs k) r ≡ cell_at outputs n
output_at_lem outputs k r n h e = listed_at (λ i. cell_at outputs (4 * i + k)) (pos 0) most_resources r h ∙ ap (cell_at outputs) (sym e)

pub interval_read : (constraints : ℕ) (shadow : List ℤ) (resources : ℕ) (outputs factors : List ℤ) (parameter : ℤ)
    → IntervalRead constraints shadow resources outputs factors parameter (interval_in constraints shadow resources outputs factors parameter)
unfolding interval_in
interval_read constraints shadow resources outputs factors parameter = record {
  constraints_are = refl;
  resources_are = refl;
  parameter_is_lem = refl;
  shadow_at_lem = λ c h. listed_at (cell_at shadow) (pos 0) most_constraints c h;
  lmp = λ r h. output_at_lem outputs 0 r (4 * r) h (omega arith);
  dispatch = λ r h. output_at_lem outputs 1 r (4 * r + 1) h refl;
  available = λ r h. output_at_lem outputs 2 r (4 * r + 2) h refl;
  floor = λ r h. output_at_lem outputs 3 r (4 * r + 3) h refl;
  factor = λ r c h k.
      let e : r * 32 + c ≡ 32 * r + c = omega arith in
      listed_at (cell_at factors) (pos 0) (most_resources * most_constraints) (r * 32 + c) (omega arith) ∙ ap (cell_at factors) e;
}
