-- Which number an interval is refused with, and what one that is not refused is like. Assumes nothing.
use mathlib.Core.Bool.{Bool, true, false, ◌&&◌}
use mathlib.Core.Path.{◌≡◌}
use Prim.Native.Nat.{ℕ, ◌≤◌, ◌<◌}
use borrow.Author.Tests.{leb-true, eqb-true}
use lib.Dec.{leb, eqb}
use lib.IntN.{pos, neg_ℤ}
use Rattle.rules_number.specs.Order.{in_range}
use Rattle.rules_number.proofs.OverLaws.{both, all_at}
use Rattle.rules_curve.specs.Refusals.{unless, ◌then◌}
use Rattle.rules_curve.proofs.CheckLaws.{then_both, unless_holds}
use Rattle.rules_interval.specs.Intervals.{shadow_at, lmp_at, dispatch_at, available_at, floor_at, factor_at, is_same_count, constraints_good, all_within, factors_good, ranges_good, output_good, outputs_good, interval_refusal}
use Rattle.rules_interval.specs.declared.Interval.{Interval}
use Rattle.rules_interval.proofs.FactorLaws.{row_good}

-- shadow, lmp, parameter and factors of an interval
abbrev pub in_ranges : Interval → Bool
in_ranges v = ranges_good v.shadow v.lmp v.parameter v.factors v.resources v.constraints

-- the outputs of its resources
abbrev pub outputs_in : Interval → Bool
outputs_in v = outputs_good v.available v.floor v.dispatch v.resources

module _ (n : ℕ) (v : Interval) where
  pub refused_count : is_same_count n v ≡ false → interval_refusal n v ≡ 13
  unfolding interval_refusal
  refused_count a = rw a

  pub refused_constraints : is_same_count n v ≡ true → constraints_good v ≡ false → interval_refusal n v ≡ 14
  unfolding interval_refusal
  refused_constraints a b = rw (a, b)

  pub refused_range : is_same_count n v ≡ true → constraints_good v ≡ true → in_ranges v ≡ false → interval_refusal n v ≡ 15
  unfolding interval_refusal
  refused_range a b c = rw (a, b, c)

  pub refused_output : is_same_count n v ≡ true → constraints_good v ≡ true → in_ranges v ≡ true → outputs_in v ≡ false → interval_refusal n v ≡ 16
  unfolding interval_refusal
  refused_output a b c d = rw (a, b, c, d)

  pub taken_interval : is_same_count n v ≡ true → constraints_good v ≡ true → in_ranges v ≡ true → outputs_in v ≡ true → interval_refusal n v ≡ 0
  unfolding interval_refusal
  taken_interval a b c d = rw (a, b, c, d)

-- ---- an interval that none of 13 to 16 applies to
pub record InLimits (n : ℕ) (v : Interval) : Type 0 where
  pub count : v.resources ≡ n
  pub few : v.resources ≤ 64
  pub constraints : v.constraints ≤ 32
  pub shadow : (c : ℕ) → c < v.constraints → in_range (pos 0) (pos 100000000) (shadow_at v c) ≡ true
  pub lmp : (r : ℕ) → r < v.resources → in_range (neg_ℤ (pos 100000000)) (pos 100000000) (lmp_at v r) ≡ true
  pub parameter : in_range (pos 0) (pos 100) v.parameter ≡ true
  pub factor : (r c : ℕ) → r < v.resources → c < v.constraints → in_range (neg_ℤ (pos 1000000)) (pos 1000000) (factor_at v r c) ≡ true
  pub available : (r : ℕ) → r < v.resources → in_range (pos 0) (pos 1000000) (available_at v r) ≡ true
  pub floor : (r : ℕ) → r < v.resources → in_range (pos 0) (available_at v r) (floor_at v r) ≡ true
  pub dispatch : (r : ℕ) → r < v.resources → in_range (pos 0) (available_at v r) (dispatch_at v r) ≡ true

module _ (n : ℕ) (v : Interval) (passed : interval_refusal n v ≡ 0) where
  checks : (is_same_count n v ≡ true) × (constraints_good v ≡ true) × (in_ranges v ≡ true) × (outputs_in v ≡ true)
  unfolding interval_refusal
  checks =
      let a = unless (is_same_count n v) 13 in
      let b = unless (constraints_good v) 14 in
      let c = unless (in_ranges v) 15 in
      let x = then_both (a then b then c) (unless (outputs_in v) 16) passed in
      let y = then_both (a then b) c x.0 in
      let z = then_both a b y.0 in
      (unless_holds (is_same_count n v) 12 z.0, unless_holds (constraints_good v) 13 z.1, unless_holds (in_ranges v) 14 y.1, unless_holds (outputs_in v) 15 x.1)

  ranges : (all_within (pos 0) (pos 100000000) v.shadow v.constraints ≡ true) × (all_within (neg_ℤ (pos 100000000)) (pos 100000000) v.lmp v.resources ≡ true)
      × (in_range (pos 0) (pos 100) v.parameter ≡ true) × (factors_good v.factors v.resources v.constraints ≡ true)
  ranges =
      let s = all_within (pos 0) (pos 100000000) v.shadow v.constraints in
      let l = all_within (neg_ℤ (pos 100000000)) (pos 100000000) v.lmp v.resources in
      let p = in_range (pos 0) (pos 100) v.parameter in
      let f = factors_good v.factors v.resources v.constraints in
      let x = both s (l && (p && f)) checks.2 in
      let y = both l (p && f) x.1 in
      let z = both p f y.1 in
      (x.0, y.0, z.0, z.1)

  outputs : (r : ℕ) → r < v.resources → output_good (available_at v r) (floor_at v r) (dispatch_at v r) ≡ true
  unfolding outputs_good
  outputs = all_at (λ r. output_good (available_at v r) (floor_at v r) (dispatch_at v r)) v.resources checks.3

  output : (r : ℕ) → r < v.resources → (in_range (pos 0) (pos 1000000) (available_at v r) ≡ true) × (in_range (pos 0) (available_at v r) (floor_at v r) ≡ true)
      × (in_range (pos 0) (available_at v r) (dispatch_at v r) ≡ true)
  output r l =
      let a = in_range (pos 0) (pos 1000000) (available_at v r) in
      let f = in_range (pos 0) (available_at v r) (floor_at v r) in
      let d = in_range (pos 0) (available_at v r) (dispatch_at v r) in
      let x = both a (f && d) (outputs r l) in
      let y = both f d x.1 in
      (x.0, y.0, y.1)

  pub in_limits : InLimits n v
  unfolding all_within factors_good
  in_limits =
      let b = both (eqb v.resources n) (leb v.resources 64) checks.0 in
      record {
        count = eqb-true v.resources n b.0;
        few = leb-true v.resources 64 b.1;
        constraints = leb-true v.constraints 32 checks.1;
        shadow = all_at (λ c. in_range (pos 0) (pos 100000000) (shadow_at v c)) v.constraints ranges.0;
        lmp = all_at (λ r. in_range (neg_ℤ (pos 100000000)) (pos 100000000) (lmp_at v r)) v.resources ranges.1;
        parameter = ranges.2;
        factor = λ r c l k.
            all_at (λ c. in_range (neg_ℤ (pos 1000000)) (pos 1000000) (factor_at v r c)) v.constraints
            (all_at (λ r. row_good v.factors r v.constraints) v.resources ranges.3 r l) c k;
        available = λ r l. (output r l).0;
        floor = λ r l. (output r l).1;
        dispatch = λ r l. (output r l).2;
      }
