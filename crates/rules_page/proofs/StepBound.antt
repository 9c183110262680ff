-- The steps of a resource's curve: no end is above 1,000,000, and no price is above 1,000,000,000 in size. Assumes nothing.
use Rattle.std.specs.Prelude.{None, Option, Some}
use mathlib.Core.Bool.{Bool, true, false, cond}
use mathlib.Core.List.{List, [], ◌∷◌, map}
use mathlib.Core.Path.{◌≡◌, refl, sym, subst}
use Prim.Native.Nat.{ℕ, ◌≤◌, ◌<◌, zero-le}
use native.Mathlib.Nat.{le_trans, le_of_eq}
use native.Mathlib.Omega.{arith}
use borrow.Author.Tests.{leb-true}
use lib.Dec.{leb, ltb}
use lib.IntN.{ℤ, pos, negsuc, nat_abs}
use lib.Signed.{le_z, lt_z, ◌≤ℤ◌, ≤ℤ_refl}
use Rattle.rules_number.specs.Order.{in_range, nat_of, min_z, max_z}
use Rattle.rules_number.specs.Over.{listed}
use Rattle.rules_number.proofs.Kit.{P, N, Bd, var, le_by, le_true, bd_between, abs_bd, neg_dif, ≤ℤ_trans}
use Rattle.rules_number.proofs.OrderLaws.{p_min, n_min, n_max}
use Rattle.rules_number.proofs.OverLaws.{never, both}
use Rattle.rules_number.proofs.RangeLaws.{nat_is}
use Rattle.rules_curve.specs.Curves.{most_steps, most_bid_steps, chain, edge_suits, price_suits, raw_steps, step_of, steps_of, end_of, price_at, curve_of, curve_with, curve_refusal, bid_refusal, lowest_bid, highest_bid, lowest_default, highest_default}
use Rattle.rules_curve.specs.Meaning.{Rising}
use Rattle.rules_curve.specs.Refusals.{unless, ◌then◌, each_to}
use Rattle.rules_curve.specs.declared.Curve.{Curve}
use Rattle.rules_curve.specs.declared.RawCurve.{RawCurve}
use Rattle.rules_curve.specs.declared.RawStep.{RawStep}
use Rattle.rules_curve.specs.declared.Step.{Step}
use Rattle.rules_curve.proofs.CheckLaws.{then_both, each_at, checks_good, with_used}
use Rattle.rules_curve.proofs.PriceLaws.{price_here, price_later, rising_end}
use Rattle.rules_curve.proofs.RawLaws.{raw_of, raw_back}
use Rattle.rules_cost.specs.Costs.{mw_at, count_of_steps, cost_step, cost_curve}
use Rattle.rules_cost.proofs.DefaultCurve.{cost_curve_passes}
use Rattle.rules_mitigation.specs.Mitigation.{capped, used_steps}
use Rattle.rules_interval.specs.declared.Interval.{Interval}
use Rattle.rules_opening.specs.Openings.{resource_at, counts_good, members_good, opening_refusal}
use Rattle.rules_opening.specs.Resources.{default_by, source_refusal, resource_refusal}
use Rattle.rules_opening.specs.declared.Opening.{Opening}
use Rattle.rules_opening.specs.declared.Resource.{Resource}
use Rattle.rules_opening.specs.declared.Source.{Source}
use Rattle.rules_opening.specs.declared.Source.TheVariants as source
use Rattle.rules_hour.specs.Demand3.{submitted, default_of, hour_of, curve_after}
use Rattle.rules_hour.specs.Hours.{floor_in}
use Rattle.rules_hour.proofs.CurveShape.{shape}
use Rattle.rules_text.specs.Spelled.{Every, no_more, and_all}

-- ---- ends
-- "an edge outside 0 to 1,000,000" is refused
nat_few : (z : ℤ) → le_z z (pos 1000000) ≡ true → nat_of z ≤ 1000000
nat_few (pos n) e = leb-true n 1000000 e
nat_few (negsuc n) e = zero-le

edges_few : (p : ℤ) (l : List RawStep) → nat_of p ≤ 1000000 → chain edge_suits (λ s. s.end) p l ≡ true → end_of (nat_of p) (map step_of l) ≤ 1000000
unfolding chain
edges_few p [] h e = h
edges_few p (s ∷ l) h e = go (edge_suits p s) refl e (edges_few s.end l)
  where
    go : (t : Bool) → edge_suits p s ≡ t → cond t (chain edge_suits (λ x. x.end) s.end l) false ≡ true
        → (nat_of s.end ≤ 1000000 → chain edge_suits (λ x. x.end) s.end l ≡ true → end_of (nat_of s.end) (map step_of l) ≤ 1000000)
        → end_of (nat_of s.end) (map step_of l) ≤ 1000000
    go true q k ih = ih (nat_few s.end (both (lt_z p s.end) (le_z s.end (pos 1000000)) q).1) k
    go false q k ih = never k

-- ---- prices
abbrev Price : Step → Type 0
Price s = Bd 1000000000 s.price

-- "price outside its range, or falling" is refused
prices_few : (low top p : ℤ) (l : List RawStep) → low ≤ℤ p → N low ≤ 1000000000 → P top ≤ 1000000000 → chain (price_suits top) (λ s. s.price) p l ≡ true → Every Price (map step_of l)
unfolding chain
prices_few low top p [] h a b e = no_more
prices_few low top p (s ∷ l) h a b e = go (price_suits top p s) refl e (λ k. prices_few low top s.price l k a b)
  where
    go : (t : Bool) → price_suits top p s ≡ t → cond t (chain (price_suits top) (λ x. x.price) s.price l) false ≡ true
        → (low ≤ℤ s.price → chain (price_suits top) (λ x. x.price) s.price l ≡ true → Every Price (map step_of l)) → Every Price (map step_of (s ∷ l))
    go true q k ih =
        let t = both (le_z p s.price) (le_z s.price top) q in
        let up : low ≤ℤ s.price = ≤ℤ_trans h (le_by (var p) (var s.price) (le_true p s.price t.0)) in
        and_all (bd_between 1000000000 up (le_by (var s.price) (var top) (le_true s.price top t.1)) a b) (ih up k)
    go false q k ih = never k

curve_prices_lem : (most : ℕ) (low top : ℤ) (c : RawCurve) → N low ≤ 1000000000 → P top ≤ 1000000000 → curve_refusal most low top c ≡ 0 → Every Price (steps_of (curve_of c))
unfolding curve_of
curve_prices_lem most low top c a b e =
    rw (with_used (nat_of c.start) (map step_of (raw_steps c))) (prices_few low top low (raw_steps c) (≤ℤ_refl low) a b (checks_good most low top c e).2)

-- of any quantity
price_of_lem : (l : List Step) → Every Price l → (q : ℕ) → Bd 1000000000 (price_at l q)
unfolding price_at
price_of_lem [] h q = record { bd = zero-le }
price_of_lem (s ∷ l) (and_all p h) q = go (ltb q s.end) (price_of_lem l h q)
  where
    go : (t : Bool) → Bd 1000000000 (price_at l q) → Bd 1000000000 (cond t s.price (price_at l q))
    go true k = p
    go false k = k

-- a cap is at least the default price, so that a cut goes no lower than it
bd_parts : (z : ℤ) → P z ≤ 1000000000 → N z ≤ 1000000000 → Bd 1000000000 z
bd_parts (pos n) a b = record { bd = omega arith }
bd_parts (negsuc n) a b = record { bd = omega arith }

capped_few : (k : Option ℤ) (b d : ℤ) → Bd 1000000000 b → Bd 1000000000 d → Bd 1000000000 (capped k b d)
capped_few None b d x y = x
capped_few (Some l) b d x y = bd_parts (min_z b (max_z d l)) (rw (p_min b (max_z d l)) (omega (arith, x.bd))) (rw (n_min b (max_z d l), n_max d l) (omega (arith, x.bd, y.bd)))

-- each step has the price of its lower edge
step_prices : (p : ℕ) (l : List Step) → Rising p l → ((q : ℕ) → p ≤ q → q < end_of p l → Bd 1000000000 (price_at l q)) → Every Price l
step_prices p [] r h = no_more
step_prices p (s ∷ l) r h =
    and_all (subst (Bd 1000000000) (price_here s l p r.0) (h p (omega arith) (omega (arith, r.0, rising_end s.end l r.1))))
    (step_prices s.end l r.1 (λ q a b. subst (Bd 1000000000) (price_later s l q a) (h q (omega (arith, r.0)) b)))

source_prices : (s : Source) (x : Resource) → source_refusal s x ≡ 0 → Every Price (steps_of (default_by s x))
unfolding cost_curve
source_prices source.Costs x e =
    let c = x.costs in
    subst (λ (k : Curve). Every Price (steps_of k)) (raw_back (nat_of (mw_at c 0)) (listed (cost_step c) (count_of_steps c)))
    (curve_prices_lem most_steps lowest_default highest_default (raw_of (curve_with (nat_of (mw_at c 0)) (listed (cost_step c) (count_of_steps c)))) (omega (arith, neg_dif 1000000000)) (omega arith) (cost_curve_passes c e))
source_prices source.Pack x e = curve_prices_lem most_steps lowest_default highest_default x.pack (omega (arith, neg_dif 1000000000)) (omega arith) e

highest_few : (month : ℕ) → P (highest_bid month) ≤ 1000000000
highest_few month = go (leb month 12) (leb month 24)
  where
    go : (a b : Bool) → P (cond a (pos 5000000) (cond b (pos 7500000) (pos 10000000))) ≤ 1000000000
    go true b = omega arith
    go false true = omega arith
    go false false = omega arith

-- ---- the steps of a curve that an hour has
pub record StepFew (s : Step) : Type 0 where
  pub end : s.end ≤ 1000000
  pub price : nat_abs s.price ≤ 1000000000

both_few : (p : ℕ) (l : List Step) → Rising p l → end_of p l ≤ 1000000 → Every Price l → Every StepFew l
both_few p [] r h b = no_more
both_few p (s ∷ l) r h (and_all k b) =
    let few : s.end ≤ 1000000 = omega (arith, rising_end s.end l r.1) in
    and_all (record { end = few; price = abs_bd k }) (both_few s.end l r.1 h b)

module _ (o : Opening) (accepted : opening_refusal o ≡ 0) (r : ℕ) (l : r < o.resources) where
  taken : (bid_refusal (nat_of o.month) (resource_at o r).bid ≡ 0) × (source_refusal (resource_at o r).source (resource_at o r) ≡ 0)
  unfolding opening_refusal resource_refusal
  taken =
      let month = nat_of o.month in
      let x = then_both (unless (counts_good o) 9 then unless (members_good o) 10) (each_to (λ i. resource_refusal month (resource_at o i)) o.resources) accepted in
      let e = each_at (λ i. resource_refusal month (resource_at o i)) o.resources x.1 r l in
      then_both (bid_refusal month (resource_at o r).bid) (source_refusal (resource_at o r).source (resource_at o r)) (then_both _ _ e).0

  bid_ends : end_of (submitted o r).start (steps_of (submitted o r)) ≤ 1000000
  unfolding curve_of
  bid_ends =
      let c = (resource_at o r).bid in
      let edges = (checks_good most_bid_steps lowest_bid (highest_bid (nat_of o.month)) c taken.0).1 in
      let b = both (in_range (pos 0) (pos 1000000) c.start) (chain edge_suits (λ s. s.end) c.start (raw_steps c)) edges in
      rw (with_used (nat_of c.start) (map step_of (raw_steps c))) (edges_few c.start (raw_steps c) (nat_is 1000000 c.start b.0).1 b.1)

  price_few : (calls : List Interval) (q : ℕ) → (submitted o r).start ≤ q → q < end_of (submitted o r).start (steps_of (submitted o r)) → Bd 1000000000 (price_at (used_steps (curve_after o calls r)) q)
  price_few calls q a b =
      let s = (shape o r accepted l calls).is in
      let bid = curve_prices_lem most_bid_steps lowest_bid (highest_bid (nat_of o.month)) (resource_at o r).bid (omega (arith, neg_dif 1500000)) (highest_few (nat_of o.month)) taken.0 in
      let default = source_prices (resource_at o r).source (resource_at o r) taken.1 in
      subst (Bd 1000000000) (sym (s.price q a b)) (capped_few (floor_in (hour_of o calls) r).price (price_at (steps_of (submitted o r)) q) (price_at (steps_of (default_of o r)) q) (price_of_lem (steps_of (submitted o r)) bid q) (price_of_lem (steps_of (default_of o r)) default q))

  -- after any list of calls
  pub steps_few : (calls : List Interval) → Every StepFew (used_steps (curve_after o calls r))
  steps_few calls =
      let c = curve_after o calls r in
      let s = (shape o r accepted l calls).is in
      both_few c.start (used_steps c) s.rising (le_trans (le_of_eq s.ends) bid_ends)
      (step_prices c.start (used_steps c) s.rising (λ q a b. price_few calls q (omega (arith, s.starts)) (omega (arith, s.ends))))
