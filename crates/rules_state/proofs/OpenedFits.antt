-- Cells can hold an opened hour: 9 to 11 and the checks of its curves and costs see to that. Assumes nothing.
use mathlib.Core.Bool.{Bool, true, false, cond}
use mathlib.Core.List.{List, [], ◌∷◌, map}
use mathlib.Core.Path.{◌≡◌, refl}
use Prim.Native.Nat.{ℕ, ◌≤◌, ◌<◌}
use native.Mathlib.Nat.{le_trans}
use native.Mathlib.Omega.{arith}
use borrow.Author.Tests.{leb-true, ltb-true}
use lib.Dec.{leb}
use lib.IntN.{ℤ, pos, negsuc}
use lib.ListN.{length, length-map, length-take, length-replicate}
use lib.Signed.{le_z, lt_z}
use Rattle.rules_number.specs.Order.{nat_of, in_range}
use Rattle.rules_number.specs.Over.{listed, padded}
use Rattle.rules_number.proofs.ExactLaws.{lt_z_exactly}
use Rattle.rules_number.proofs.OverLaws.{both, never, all_at, listed_length, padded_length}
use Rattle.rules_number.proofs.RangeLaws.{nat_is}
use Rattle.rules_curve.specs.Curves.{most_steps, most_bid_steps, blank_step, curve_of, blank_curve, chain, edge_suits, raw_steps, step_of, curve_refusal, lowest_bid, highest_bid, lowest_default, highest_default}
use Rattle.rules_curve.specs.declared.RawStep.{RawStep}
use Rattle.rules_curve.specs.declared.RawCurve.{RawCurve}
use Rattle.rules_curve.proofs.CheckLaws.{checks_good}
use Rattle.rules_curve.proofs.RawLaws.{raw_of, raw_back}
use Rattle.rules_cost.specs.Costs.{mw_at, cost_step, count_of_steps, cost_curve, cost_refusal}
use Rattle.rules_cost.specs.declared.Costs.{Costs}
use Rattle.rules_cost.proofs.DefaultCurve.{cost_curve_passes}
use Rattle.rules_opening.specs.Openings.{resource_at, seller_at, is_mark, sellers_good, owners_good, opening_refusal, market_of}
use Rattle.rules_opening.specs.Resources.{blank_row, default_by, source_refusal, row_of}
use Rattle.rules_opening.specs.declared.Source.{Source}
use Rattle.rules_opening.specs.declared.Source.TheVariants as source
use Rattle.rules_opening.specs.declared.Resource.{Resource}
use Rattle.rules_opening.specs.declared.Opening.{Opening}
use Rattle.rules_hour.specs.Hours.{uncut, fresh_standing}
use Rattle.rules_hour.specs.Opened.{fresh_hour}
use Rattle.rules_hour.proofs.AcceptedOpening.{checks, few, owner_known, resource_checks, opened_hour_lem}
use Rattle.rules_pass.specs.Passes.{fresh_quarter, opened_real_time}
use Rattle.rules_state.specs.Layout.{most_resources, most_portfolios}
use Rattle.rules_state.proofs.StandLaws.{each_blank, each_padded, each_listed}
use Rattle.rules_state.specs.Fits.{Each, Small, CurveFits, RowFits, MarketFits, Fits}

-- ---- a curve that passes its checks
at_most : (z : ℤ) (n : ℕ) → le_z z (pos n) ≡ true → nat_of z ≤ n
at_most (pos m) n e = leb-true m n e
at_most (negsuc m) n e = omega arith

-- the first of a chain suits, and so do the later ones
chained : (t later : Bool) → cond t later false ≡ true → (t ≡ true) × (later ≡ true)
chained true later e = (refl, e)
chained false later e = never e

ends_small : (p : ℤ) (l : List RawStep) → chain edge_suits (λ s. s.end) p l ≡ true → Each (λ s. Small s.end) (map step_of l)
unfolding chain
ends_small p [] e = tt
ends_small p (s ∷ l) e =
    let t = chained (edge_suits p s) (chain edge_suits (λ s. s.end) s.end l) e in
    (le_trans (at_most s.end 1000000 (both (lt_z p s.end) (le_z s.end (pos 1000000)) t.0).1) (omega arith), ends_small s.end l t.1)

checked_fits : (most : ℕ) (low top : ℤ) (c : RawCurve) → most ≤ most_steps → curve_refusal most low top c ≡ 0 → CurveFits (curve_of c)
unfolding curve_of
checked_fits most low top c room passed =
    let good = checks_good most low top c passed in
    let edges = both (in_range (pos 0) (pos 1000000) c.start) (chain edge_suits (λ s. s.end) c.start (raw_steps c)) good.1 in
    let n : c.count ≤ most = leb-true c.count most (both (leb 1 c.count) (leb c.count most) good.0).1 in
    let steps : length (map step_of (raw_steps c)) ≤ most_steps = omega (arith, length-map (raw_steps c) step_of, length-take c.count c.steps) in
    record {
      start = le_trans (nat_is 1000000 c.start edges.0).1 (omega arith);
      count = le_trans steps (omega arith);
      room = padded_length most_steps blank_step (map step_of (raw_steps c)) steps;
      ends = each_padded (λ s. Small s.end) most_steps blank_step (map step_of (raw_steps c)) (omega arith) (ends_small c.start (raw_steps c) edges.1);
    }

pub cost_fits : (c : Costs) → cost_refusal c ≡ 0 → CurveFits (cost_curve c)
unfolding cost_curve
cost_fits c e =
    rw (← raw_back (nat_of (mw_at c 0)) (listed (cost_step c) (count_of_steps c)))
    (checked_fits most_steps lowest_default highest_default (raw_of (cost_curve c)) (omega arith) (cost_curve_passes c e))

pub default_fits : (s : Source) (x : Resource) → source_refusal s x ≡ 0 → CurveFits (default_by s x)
default_fits source.Costs x e = cost_fits x.costs e
default_fits source.Pack x e = checked_fits most_steps lowest_default highest_default x.pack (omega arith) e

pub blank_fits : CurveFits blank_curve
unfolding blank_curve padded
blank_fits = record { start = omega arith; count = omega arith; room = refl; ends = each_blank (λ s. Small s.end) most_steps blank_step (omega arith) }

-- ---- the opened hour
below_whole : (z : ℤ) (n : ℕ) → lt_z z (pos n) ≡ true → nat_of z ≤ n
below_whole (pos m) n e = omega (arith, ltb-true m n e)
below_whole (negsuc m) n e = omega arith

module _ (o : Opening) (accepted : opening_refusal o ≡ 0) where
  owner_small : (r : ℕ) → r < o.resources → Small (nat_of (resource_at o r).portfolio)
  owner_small r l =
      let x = (resource_at o r).portfolio in
      omega (arith, below_whole x o.portfolios ((lt_z_exactly x (pos o.portfolios)).1 (owner_known o accepted r l).1), (few o accepted).0)

  mark_small : (p : ℕ) → p < o.portfolios → Small (nat_of (seller_at o p))
  unfolding sellers_good
  mark_small p l =
      let marks = all_at (λ i. is_mark (seller_at o i)) o.portfolios (both (sellers_good o) (owners_good o) (checks o accepted).1).0 p l in
      omega (arith, (nat_is 1 (seller_at o p) marks).1)

  market_fits : MarketFits (market_of o)
  unfolding market_of
  market_fits =
      let owners = listed (λ r. nat_of (resource_at o r).portfolio) o.resources in
      let marks = listed (λ p. nat_of (seller_at o p)) o.portfolios in
      let n = few o accepted in
      record {
        resources = omega (arith, n.2);
        room = padded_length most_resources 0 owners (omega (arith, n.2, listed_length (λ r. nat_of (resource_at o r).portfolio) o.resources));
        portfolios = each_padded Small most_resources 0 owners (omega arith) (each_listed Small (λ r. nat_of (resource_at o r).portfolio) o.resources owner_small);
        seller_room = padded_length most_portfolios 0 marks (omega (arith, n.0, listed_length (λ p. nat_of (seller_at o p)) o.portfolios));
        sellers = each_padded Small most_portfolios 0 marks (omega arith) (each_listed Small (λ p. nat_of (seller_at o p)) o.portfolios mark_small);
      }

  row_fits : (r : ℕ) → r < o.resources → RowFits (row_of (resource_at o r))
  unfolding row_of
  row_fits r l =
      let x = resource_at o r in
      let good = resource_checks o accepted r l in
      record {
        bid = checked_fits most_bid_steps lowest_bid (highest_bid (nat_of o.month)) x.bid (omega arith) good.0;
        default = default_fits x.source x good.1;
      }

  -- an hour that opening accepts
  pub opened_fits : Fits (opened_real_time o)
  unfolding opened_real_time fresh_hour fresh_standing fresh_quarter
  opened_fits = rw (opened_hour_lem o accepted) (record {
    market = market_fits;
    room = padded_length most_resources blank_row (listed (λ r. row_of (resource_at o r)) o.resources) (omega (arith, (few o accepted).2, listed_length (λ r. row_of (resource_at o r)) o.resources));
    rows = each_padded RowFits most_resources blank_row (listed (λ r. row_of (resource_at o r)) o.resources) (record { bid = blank_fits; default = blank_fits })
        (each_listed RowFits (λ r. row_of (resource_at o r)) o.resources row_fits);
    standing = record { accepted = omega arith; room = length-replicate 64 uncut };
    quarter = record { passes = omega arith; room = length-replicate 64 uncut };
  })
