-- What the split leaves as it was: a table in which no segment is split has its former curve, and 8 refuses the tables that it refused. The former rule stands
-- here for these two theorems alone: each segment one step, limited by its own m'. Assumes nothing.
use mathlib.Core.Bool.{Bool, true, false}
use mathlib.Core.Logic.{⊎_elim}
use mathlib.Core.Path.{◌≡◌, refl, sym, ap, ap₂, ◌∙◌}
use Prim.Native.Nat.{ℕ, zero, suc, ◌≤◌, ◌<◌}
use native.Mathlib.Omega.{arith}
use lib.IntN.{ℤ, pos, neg_ℤ}
use Rattle.rules_number.specs.Order.{min_z, max_z, nat_of}
use Rattle.rules_number.specs.Over.{all_to, highest_to, listed}
use Rattle.rules_number.proofs.OverLaws.{all_at, all_of, tested, listed_same}
use Rattle.rules_number.proofs.OrderLaws.{min_least, max_least}
use Rattle.rules_number.proofs.ExactLaws.{range_exactly}
use Rattle.rules_number.proofs.Kit.{var, lit, neg, le_by, le_of}
use Rattle.rules_curve.specs.Refusals.{unless, ◌then◌}
use Rattle.rules_curve.specs.Curves.{curve_with, step_to}
use Rattle.rules_curve.specs.declared.Curve.{Curve}
use Rattle.rules_curve.specs.declared.Step.{Step}
use Rattle.rules_cost.specs.Conditions.{m, h, k, Inside, Part, whole, lower, upper}
use Rattle.rules_cost.specs.Costs.{mw_at, point_at, segment_count, count_of_steps, segment_at, split_at, end_at, edge_at, width_at, pmax, width, incremental_rate, with_adder, rate_at, largest_rate, step_price, raised_price, cost_step, cost_curve, heat_in_range, rate_in_range, is_split, points_good, mw_good, heat_good, prices_in_range, rates_good, cost_refusal}
use Rattle.rules_cost.proofs.RangeLaws.{heat_in}
use Rattle.rules_cost.proofs.SplitLaws.{segment_to, segment_past, end_before, edge_to, none_split, first_none, inside_exactly, not_inside, split_strictly, segment_among, step_part}
use Rattle.rules_cost.proofs.EdgeLaws.{stands}
use Rattle.rules_cost.proofs.Split.{split_rates}
use Rattle.rules_cost.specs.declared.Costs.{Costs}

-- ---- the former rule
unfoldable pub former_rate : Costs → ℕ → ℤ
former_rate c i = incremental_rate (pmax c) (mw_at c (suc i)) (point_at c i) (point_at c (suc i))

unfoldable pub former_price : Costs → ℕ → ℤ
former_price c i = with_adder c (highest_to (former_rate c) i) (former_rate c i) (width (point_at c i) (point_at c (suc i)))

abbrev pub former_step : Costs → ℕ → Step
former_step c i = step_to (nat_of (mw_at c (suc i))) (highest_to (former_price c) i)

unfoldable pub former_curve : Costs → Curve
former_curve c = curve_with (nat_of (mw_at c 0)) (listed (former_step c) (segment_count c))

unfoldable pub former_rates : Costs → Bool
former_rates c = all_to (λ i. rate_in_range (former_rate c i)) (segment_count c)

unfoldable pub former_refusal : Costs → ℕ
former_refusal c =
    unless (points_good c) 4 then unless (mw_good c) 5 then unless (heat_good c) 6
    then unless (prices_in_range c) 7 then unless (former_rates c) 8

-- ---- where no segment is split
highest_same : (f g : ℕ → ℤ) (n : ℕ) → ((i : ℕ) → i ≤ n → f i ≡ g i) → highest_to f n ≡ highest_to g n
unfolding highest_to
highest_same f g zero e = e 0 (omega arith)
highest_same f g (suc n) e = ap₂ max_z (highest_same f g n (λ i l. e i (omega arith))) (e (suc n) (omega arith))

module _ (c : Costs) (none : (i : ℕ) → suc i < c.count → Inside c i → ⊥) where
  all : split_at c ≡ segment_count c
  unfolding split_at
  all = first_none _ (segment_count c) (λ i l. ⊎_elim (λ e. absurd (none i (omega arith) ((inside_exactly c i).0 e))) (λ e. e) (tested _))

  rate_same : (i : ℕ) → i < segment_count c → rate_at c i ≡ former_rate c i
  unfolding rate_at former_rate
  rate_same i l = rw (end_before c i (omega (arith, all)), segment_to c i (omega (arith, all)))

  width_same : (i : ℕ) → i < segment_count c → width_at c i ≡ width (point_at c i) (point_at c (suc i))
  unfolding width_at width
  width_same i l = rw (end_before c i (omega (arith, all)), edge_to c i (omega (arith, all)))

  price_same : (i : ℕ) → i < segment_count c → step_price c i ≡ former_price c i
  unfolding step_price former_price largest_rate
  price_same i l = rw (rate_same i l, width_same i l, highest_same (rate_at c) (former_rate c) i (λ j k. rate_same j (omega arith)))

  step_same : (i : ℕ) → i < segment_count c → cost_step c i ≡ former_step c i
  unfolding raised_price
  step_same i l = ap₂ step_to (ap nat_of (end_before c i (omega (arith, all)))) (highest_same (step_price c) (former_price c) i (λ j k. price_same j (omega arith)))

  pub unsplit_as_before : cost_curve c ≡ former_curve c
  unfolding cost_curve former_curve
  unsplit_as_before = rw (none_split c all) (ap (curve_with (nat_of (mw_at c 0))) (listed_same (cost_step c) (former_step c) (segment_count c) step_same))

-- ---- 8 refuses the same tables
true_same : (a b : Bool) → (a ≡ true → b ≡ true) → (b ≡ true → a ≡ true) → a ≡ b
true_same true b f g = sym (f refl)
true_same false true f g = g refl
true_same false false f g = refl

-- a heat rate in range is a rate in range
heat_rate : (z : ℤ) → heat_in_range z ≡ true → rate_in_range z ≡ true
heat_rate z e =
    let r = (range_exactly (pos 1) (pos 100000) z).0 e in
    (range_exactly (neg_ℤ (pos 100000)) (pos 100000) z).1 (le_by (neg (lit 100000)) (var z) (omega (arith, le_of r.0)), r.1)

module _ (c : Costs) (quantities : mw_good c ≡ true) (heats : heat_good c ≡ true) where
  -- the limit brings no rate out of range
  lower_in : (i : ℕ) → suc i < c.count → (R : ℤ) → rate_in_range R ≡ true → rate_in_range (min_z R (max_z (h c i) (h c (suc i)))) ≡ true
  lower_in i l R e =
      min_least (λ (z : ℤ). rate_in_range z ≡ true) R _ e
      (max_least (λ (z : ℤ). rate_in_range z ≡ true) _ _ (heat_rate _ (heat_in c heats i (omega arith))) (heat_rate _ (heat_in c heats (suc i) l)))

  -- a step that ends at m' has the segment's former rate
  to_next : (t i : ℕ) → segment_at c t ≡ i → end_at c t ≡ mw_at c (suc i) → rate_at c t ≡ former_rate c i
  unfolding rate_at former_rate
  to_next t i e f = rw (f, e)

  -- one that ends at k has that of the lower part
  to_mark : (t i : ℕ) → suc i < c.count → Inside c i → segment_at c t ≡ i → end_at c t ≡ k c → rate_at c t ≡ min_z (former_rate c i) (max_z (h c i) (h c (suc i)))
  unfolding rate_at
  to_mark t i l x e f =
      let two = split_rates c quantities i l x in
      let past = segment_past c i (omega (arith, (split_strictly c quantities i l).1 x)) in
      rw (f, e) (rw (two.lower_to, segment_to c i (omega (arith, (split_strictly c quantities i l).1 x))) at two.lower_rate
      ∙ ap (λ (R : ℤ). min_z R (max_z (h c i) (h c (suc i)))) (sym two.upper_rate ∙ to_next (suc i) i past two.upper_to))

  -- each segment's former rate is that of a step, and each step's rate is such a one or brought down by the limit
  now_then : ((t : ℕ) → t < count_of_steps c → rate_in_range (rate_at c t) ≡ true) → (i : ℕ) → i < segment_count c → rate_in_range (former_rate c i) ≡ true
  now_then g i l = ⊎_elim (λ e. by (upper ((inside_exactly c i).0 e) refl refl)) (λ e. by (whole (not_inside c i e) refl refl)) (tested (is_split c i))
    where
      by : {from : ℤ} → Part c i from (m c (suc i)) → rate_in_range (former_rate c i) ≡ true
      by {from} p =
          let s = stands c quantities i from (m c (suc i)) (omega arith) p in
          rw (← to_next s.at i s.segment s.ends) (g s.at s.among)

  then_now : ((i : ℕ) → i < segment_count c → rate_in_range (former_rate c i) ≡ true) → (t : ℕ) → t < count_of_steps c → rate_in_range (rate_at c t) ≡ true
  unfolding edge_at
  then_now g t l = go (segment_at c t) refl (segment_among c quantities t l) (step_part c quantities t l)
    where
      go : (i : ℕ) → segment_at c t ≡ i → suc i < c.count → Part c i (edge_at c t) (end_at c t) → rate_in_range (rate_at c t) ≡ true
      go i e a (whole x f u) = rw (to_next t i e u) (g i (omega arith))
      go i e a (lower x f u) = rw (to_mark t i a x e u) (lower_in i a (former_rate c i) (g i (omega arith)))
      go i e a (upper x f u) = rw (to_next t i e u) (g i (omega arith))

  same_rates : rates_good c ≡ former_rates c
  unfolding rates_good former_rates
  same_rates =
      true_same _ _ (λ e. all_of (λ i. rate_in_range (former_rate c i)) (segment_count c) (now_then (all_at (λ t. rate_in_range (rate_at c t)) (count_of_steps c) e)))
      (λ e. all_of (λ t. rate_in_range (rate_at c t)) (count_of_steps c) (then_now (all_at (λ i. rate_in_range (former_rate c i)) (segment_count c) e)))

-- 4 to 7 are as they were, and 8 is told of the tables that it was told of
pub rates_as_before : (c : Costs) → cost_refusal c ≡ former_refusal c
unfolding cost_refusal former_refusal
rates_as_before c = go (points_good c) (mw_good c) (heat_good c) refl refl
  where
    go : (a b d : Bool) → mw_good c ≡ b → heat_good c ≡ d
        → (unless a 4 then unless b 5 then unless d 6 then unless (prices_in_range c) 7 then unless (rates_good c) 8)
        ≡ (unless a 4 then unless b 5 then unless d 6 then unless (prices_in_range c) 7 then unless (former_rates c) 8)
    go false b d x y = refl
    go true false d x y = refl
    go true true false x y = refl
    go true true true x y = rw (same_rates c x y)
