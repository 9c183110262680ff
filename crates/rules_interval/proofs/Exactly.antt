-- Intervals, refusals 13 to 16, exactly: the number is that of the first demand that is not met, and 0 exactly when all four are met. Assumes nothing.
use mathlib.Core.Bool.{true}
use mathlib.Core.List.{List, [], ◌∷◌}
use mathlib.Core.Logic.{◌↔◌}
use mathlib.Core.Path.{◌≡◌, refl}
use Prim.Native.Nat.{ℕ, ◌+◌, ◌*◌, ◌≤◌, ◌<◌}
use native.Mathlib.Omega.{arith}
use lib.Dec.{leb, eqb}
use lib.IntN.{ℤ, pos, neg_ℤ}
use Rattle.rules_number.specs.Order.{in_range}
use Rattle.rules_curve.specs.Demands.{◌asks◌, Between, First}
use Rattle.rules_number.proofs.ExactLaws.{le_exactly, eq_exactly, and_exactly, range_exactly, all_exactly, iff_then}
use Rattle.rules_curve.proofs.FirstLaws.{exactly, accepted_exactly, first_more}
use Rattle.rules_interval.specs.Conditions.{entry, Ranged, Able, interval_demands}
use Rattle.rules_interval.specs.Intervals.{cell, is_same_count, constraints_good, all_within, factors_good, output_good, outputs_good, interval_refusal}
use Rattle.rules_interval.specs.declared.Interval.{Interval}
use Rattle.rules_interval.proofs.FactorLaws.{row_good}
use Rattle.rules_interval.proofs.IntervalLaws.{in_ranges, outputs_in}

-- ---- 13, where an hour has at most 64 resources
count_exactly : (n : ℕ) (v : Interval) → n ≤ 64 → (is_same_count n v ≡ true) ↔ (v.resources ≡ n)
count_exactly n v few =
    iff_then (and_exactly (eqb v.resources n) (leb v.resources 64) (eq_exactly v.resources n) (le_exactly v.resources 64)) (λ h. h.0) (λ e. (e, omega arith))

-- ---- 15
within_exactly : (lo hi : ℤ) (l : List ℤ) (n : ℕ) → (all_within lo hi l n ≡ true) ↔ ((i : ℕ) → i < n → Between lo hi (entry l i))
unfolding all_within
within_exactly lo hi l n = all_exactly (λ i. in_range lo hi (cell l i)) (λ i. Between lo hi (entry l i)) n (λ i. range_exactly lo hi (entry l i))

factors_exactly : (l : List ℤ) (n m : ℕ)
    → (factors_good l n m ≡ true) ↔ ((r : ℕ) → r < n → (c : ℕ) → c < m → Between (neg_ℤ (pos 1000000)) (pos 1000000) (entry l (r * 32 + c)))
unfolding factors_good
factors_exactly l n m =
    all_exactly (λ r. row_good l r m) (λ r. (c : ℕ) → c < m → Between (neg_ℤ (pos 1000000)) (pos 1000000) (entry l (r * 32 + c))) n
    (λ r. all_exactly (λ c. in_range (neg_ℤ (pos 1000000)) (pos 1000000) (cell l (r * 32 + c))) (λ c. Between (neg_ℤ (pos 1000000)) (pos 1000000) (entry l (r * 32 + c))) m
    (λ c. range_exactly (neg_ℤ (pos 1000000)) (pos 1000000) (entry l (r * 32 + c))))

ranges_exactly : (v : Interval) → (in_ranges v ≡ true) ↔ Ranged v
ranges_exactly v =
    iff_then (and_exactly _ _ (within_exactly (pos 0) (pos 100000000) v.shadow v.constraints)
    (and_exactly _ _ (within_exactly (neg_ℤ (pos 100000000)) (pos 100000000) v.lmp v.resources)
    (and_exactly _ _ (range_exactly (pos 0) (pos 100) v.parameter) (factors_exactly v.factors v.resources v.constraints))))
    (λ h. record { shadow = h.0; lmp = h.1.0; parameter = h.1.1.0; factor = h.1.1.1 })
    (λ h. (h.shadow, (h.lmp, (h.parameter, h.factor))))

-- ---- 16
output_exactly : (a f d : ℤ) → (output_good a f d ≡ true) ↔ (Between (pos 0) (pos 1000000) a × (Between (pos 0) a f × Between (pos 0) a d))
output_exactly a f d = and_exactly _ _ (range_exactly (pos 0) (pos 1000000) a) (and_exactly _ _ (range_exactly (pos 0) a f) (range_exactly (pos 0) a d))

outputs_exactly : (v : Interval) → (outputs_in v ≡ true) ↔ Able v
unfolding outputs_good
outputs_exactly v =
    iff_then (all_exactly _ _ v.resources (λ r. output_exactly (entry v.available r) (entry v.floor r) (entry v.dispatch r)))
    (λ h. record { available = λ r l. (h r l).0; floor = λ r l. (h r l).1.0; dispatch = λ r l. (h r l).1.1 })
    (λ h r l. (h.available r l, (h.floor r l, h.dispatch r l)))

-- ---- the theorems: for an hour of n resources, of which it has at most 64
module _ (n : ℕ) (v : Interval) (few : n ≤ 64) where
  pub interval_first : First (interval_refusal n v) (interval_demands n v)
  unfolding interval_refusal
  interval_first =
      first_more ((13 asks (v.resources ≡ n)) ∷ (14 asks (v.constraints ≤ 32)) ∷ (15 asks Ranged v) ∷ []) _ (outputs_in v) 15
      (first_more ((13 asks (v.resources ≡ n)) ∷ (14 asks (v.constraints ≤ 32)) ∷ []) _ (in_ranges v) 14
      (first_more ((13 asks (v.resources ≡ n)) ∷ []) _ (constraints_good v) 13
      (first_more [] 0 (is_same_count n v) 12 refl (λ m. count_exactly n v few)) (λ m. le_exactly v.constraints 32))
      (λ m. ranges_exactly v))
      (λ m. outputs_exactly v)

  -- an interval is refused with k exactly when k is the number of the first demand that it does not meet
  pub interval_exactly : (k : ℕ) → (interval_refusal n v ≡ k) ↔ First k (interval_demands n v)
  interval_exactly k = exactly (interval_demands n v) (interval_refusal n v) interval_first k

  -- and is taken exactly when it meets all four
  pub interval_accepted : (interval_refusal n v ≡ 0) ↔ ((v.resources ≡ n) × (v.constraints ≤ 32) × Ranged v × Able v)
  interval_accepted =
      iff_then (accepted_exactly (interval_demands n v) (interval_refusal n v) interval_first) (λ m. (m.0, m.1.0, m.1.1.0, m.1.1.1.0)) (λ h. (h.0, (h.1, (h.2, (h.3, tt)))))
