-- The refusals 4 to 8 in their order: the number that each check leads to, and what costs that are accepted have passed. Assumes nothing.
use mathlib.Core.Bool.{true, false}
use mathlib.Core.Path.{◌≡◌}
use Prim.Native.Nat.{◌≤◌, ◌<◌}
use native.Mathlib.Omega.{arith}
use borrow.Author.Tests.{le-leb, lt-leb}
use Rattle.rules_curve.specs.Refusals.{unless, ◌then◌}
use Rattle.rules_curve.proofs.CheckLaws.{then_both, unless_holds}
use Rattle.rules_cost.specs.Costs.{most_points, points_good, mw_good, heat_good, prices_in_range, rates_good, cost_refusal}
use Rattle.rules_cost.specs.declared.Costs.{Costs}

module _ (c : Costs) where
  pub too_few : c.count < 2 → points_good c ≡ false
  too_few h = rw (lt-leb 2 c.count h)

  pub too_many : most_points < c.count → points_good c ≡ false
  too_many h = rw (le-leb 2 c.count (omega arith), lt-leb c.count most_points h)

  pub right_count : 2 ≤ c.count → c.count ≤ most_points → points_good c ≡ true
  right_count h k = rw (le-leb 2 c.count h, le-leb c.count most_points k)

  pub refused_4 : points_good c ≡ false → cost_refusal c ≡ 4
  unfolding cost_refusal
  refused_4 a = rw a

  pub refused_5 : points_good c ≡ true → mw_good c ≡ false → cost_refusal c ≡ 5
  unfolding cost_refusal
  refused_5 a b = rw (a, b)

  pub refused_6 : points_good c ≡ true → mw_good c ≡ true → heat_good c ≡ false → cost_refusal c ≡ 6
  unfolding cost_refusal
  refused_6 a b d = rw (a, b, d)

  pub refused_7 : points_good c ≡ true → mw_good c ≡ true → heat_good c ≡ true → prices_in_range c ≡ false → cost_refusal c ≡ 7
  unfolding cost_refusal
  refused_7 a b d e = rw (a, b, d, e)

  pub only_8_left : points_good c ≡ true → mw_good c ≡ true → heat_good c ≡ true → prices_in_range c ≡ true → cost_refusal c ≡ unless (rates_good c) 8
  unfolding cost_refusal
  only_8_left a b d e = rw (a, b, d, e)

  pub record Passed : Type 0 where
    pub points : points_good c ≡ true
    pub quantities : mw_good c ≡ true
    pub heats : heat_good c ≡ true
    pub prices : prices_in_range c ≡ true
    pub rates : rates_good c ≡ true

  pub passed : cost_refusal c ≡ 0 → Passed
  unfolding cost_refusal
  passed h =
      let a = unless (points_good c) 4 in
      let b = unless (mw_good c) 5 in
      let d = unless (heat_good c) 6 in
      let e = unless (prices_in_range c) 7 in
      let f = unless (rates_good c) 8 in
      let x1 = then_both (a then b then d then e) f h in
      let x2 = then_both (a then b then d) e x1.0 in
      let x3 = then_both (a then b) d x2.0 in
      let x4 = then_both a b x3.0 in
      record {
        points = unless_holds (points_good c) 3 x4.0;
        quantities = unless_holds (mw_good c) 4 x4.1;
        heats = unless_holds (heat_good c) 5 x3.1;
        prices = unless_holds (prices_in_range c) 6 x2.1;
        rates = unless_holds (rates_good c) 7 x1.1;
      }
