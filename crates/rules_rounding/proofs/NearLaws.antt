-- A whole number near an amount: at or above it, and higher by less than e / 10,000,000,000. The laws by which nearness goes through the lines of the formula: rounding up, the smaller
-- of two, the largest of many, a sum. Assumes nothing.
use mathlib.Core.Logic.{⊎_elim}
use mathlib.Core.Path.{◌≡◌, ap}
use Prim.Native.Nat.{ℕ, ◌+◌, ◌*◌, ◌≤◌, ◌<◌}
use native.Mathlib.Nat.{mul-le-mul_right}
use native.Mathlib.Omega.{arith}
use lib.IntN.{ℤ, pos, ◌+ℤ◌, ◌*ℤ◌}
use lib.Signed.{◌≤ℤ◌}
use Rattle.rules_number.specs.Order.{min_z}
use Rattle.rules_number.specs.Least.{IsHighest}
use Rattle.rules_number.proofs.Kit.{P, N, Diff, var, lit, add, sub, mul, le_of, le_from, lt_from}
use Rattle.rules_number.proofs.OrderLaws.{min_le_left, min_le_right, min_least}
use Rattle.rules_cost.specs.Meaning.{Up}
use Rattle.rules_rounding.specs.Ratios.{Ratio, over, whole, ◌+Q◌, times_q, ◌≤Q◌, Is, IsSmaller, IsLargest}
use Rattle.rules_rounding.proofs.RatioLaws.{times_above, times_less, less_of_times, most_of_times, crossed, is_least, is_most}

abbrev pub one : ℕ
one = 10000000000

-- in the parts of x and of the numerator
abbrev Above : ℤ → Ratio → Type 0
Above x q = P q.num + N x * q.den ≤ P x * q.den + N q.num

abbrev Below : ℤ → Ratio → ℕ → Type 0
Below x q e = (P x * q.den + N q.num) * one < (P q.num + N x * q.den) * one + e * q.den

pub record Near (x : ℤ) (q : Ratio) (e : ℕ) : Type 0 where
  pub wide : 0 < q.den
  pub above : Above x q
  pub below : Below x q e

-- ---- a larger whole number, or a lower amount; a smaller whole number, or a higher amount
above_more : (x y : ℤ) (q : Ratio) → Above x q → x ≤ℤ y → Above y q
above_more x y q h l = omega (arith, h, mul-le-mul_right q.den (le_of l))

above_lower : (x : ℤ) (q r : Ratio) → 0 < q.den → Above x q → r ≤Q q → Above x r
above_lower x q r wide h l = most_of_times _ _ q.den wide (omega (arith, mul-le-mul_right r.den h, crossed r q l))

below_less : (x y : ℤ) (q : Ratio) (e : ℕ) → Below x q e → y ≤ℤ x → Below y q e
below_less x y q e h l = omega (arith, h, mul-le-mul_right q.den (le_of l))

below_higher : (x : ℤ) (q r : Ratio) (e : ℕ) → 0 < r.den → Below x q e → q ≤Q r → Below x r e
below_higher x q r e wide h l = less_of_times _ _ q.den (omega (arith, times_less {k = r.den} wide h, crossed q r l))

-- the same amount
pub near_is : (x : ℤ) (q r : Ratio) (e : ℕ) → Near x q e → Is q r → Near x r e
near_is x q r e near i = record {
  wide = i.den_above_0;
  above = above_lower x q r near.wide near.above (is_least r q i);
  below = below_higher x q r e i.den_above_0 near.below (is_most r q i);
}

-- ---- rounded up: by less than 1
pub near_up : (n : ℤ) (w : ℕ) (r : ℤ) → 0 < w → Up n (pos w) r → Near r (over n w) one
near_up n w r h up =
    let low = le_from (var n) (mul (lit w) (var r)) up.enough in
    let high = lt_from (mul (lit w) (sub (var r) (lit 1))) (var n) up.no_more in
    record { wide = h; above = omega (arith, low); below = omega (arith, high) }

-- ---- the smaller of it and a whole number
pub near_smaller : (x h : ℤ) (q r : Ratio) (e : ℕ) → 0 < e → Near x q e → IsSmaller q (whole h) r → Near (min_z x h) r e
near_smaller x h q r e some near s = ⊎_elim (λ i. made i.den_above_0 (from_first i)) (λ i. made i.den_above_0 (from_second i)) s.attained
  where
    up : Above (min_z x h) r
    up = min_least (λ z. Above z r) x h (above_lower x q r near.wide near.above s.at_most_first) (above_lower h (whole h) r (omega arith) (omega arith) s.at_most_second)

    made : 0 < r.den → Below (min_z x h) r e → Near (min_z x h) r e
    made wide below = record { wide = wide; above = up; below = below }

    from_first : Is q r → Below (min_z x h) r e
    from_first i = below_higher (min_z x h) q r e i.den_above_0 (below_less x (min_z x h) q e near.below (min_le_left x h)) (is_most r q i)

    from_second : Is (whole h) r → Below (min_z x h) r e
    from_second i =
        below_higher (min_z x h) (whole h) r e i.den_above_0 (below_less h (min_z x h) (whole h) e (omega arith) (min_le_right x h)) (is_most r (whole h) i)

-- ---- the largest of many
pub near_largest : (f : ℕ → ℤ) (g : ℕ → Ratio) (n e : ℕ) (x : ℤ) (q : Ratio) → ((i : ℕ) → i ≤ n → Near (f i) (g i) e) → IsHighest f n x → IsLargest g n q → Near x q e
near_largest f g n e x q near high large =
    let j = large.at in
    let k = high.at in
    record {
      wide = large.attained.den_above_0;
      above =
          above_lower x (g j) q (near j large.among).wide (above_more (f j) x (g j) (near j large.among).above (high.at_least_each j large.among))
          (is_least q (g j) large.attained);
      below =
          below_higher x (g k) q e large.attained.den_above_0 (rw high.attained (near k high.among).below) (large.at_least_each k high.among);
    }

-- ---- a sum: from any parts of the two numbers
near_by : {x n : ℤ} {p q a b : ℕ} (d e : ℕ) → 0 < d → Diff x p q → Diff n a b → a + q * d ≤ p * d + b → (p * d + b) * one < (a + q * d) * one + e * d → Near x (over n d) e
near_by {x} {n} {p} {q} {a} {b} d e h s t above below =
    let z = ap (λ (k : ℕ). k * d) s.dif in
    record { wide = h; above = omega (arith, z, t.dif, above); below = omega (arith, z, t.dif, below) }

module _ (x : ℤ) (q : Ratio) (e : ℕ) (a : Near x q e) where
  pub near_add : (y : ℤ) (r : Ratio) (f : ℕ) → Near y r f → Near (x +ℤ y) (q +Q r) (e + f)
  near_add y r f b =
      near_by (q.den * r.den) (e + f) (times_above a.wide b.wide) (add (var x) (var y)) (add (mul (var q.num) (lit r.den)) (mul (var r.num) (lit q.den)))
      (omega (arith, mul-le-mul_right r.den a.above, mul-le-mul_right q.den b.above))
      (omega (arith, times_less {k = r.den} b.wide a.below, times_less {k = q.den} a.wide b.below))

  -- with a whole number the bound stays
  pub near_plus : (z : ℤ) → Near (x +ℤ z) (q +Q whole z) e
  near_plus z =
      near_by (q.den * 1) e (omega (arith, a.wide)) (add (var x) (var z)) (add (mul (var q.num) (lit 1)) (mul (var z) (lit q.den)))
      (omega (arith, a.above))
      (omega (arith, a.below))

  -- g / k of it, rounded up
  pub near_scaled : (g k f : ℕ) (r : ℤ) → 0 < k → f * k ≡ e * g + one * k → Up (x *ℤ pos g) (pos k) r → Near r (times_q q (pos g) k) f
  near_scaled g k f r h same up =
      let low = le_from (mul (var x) (lit g)) (mul (lit k) (var r)) up.enough in
      let high = lt_from (mul (lit k) (sub (var r) (lit 1))) (mul (var x) (lit g)) up.no_more in
      near_by (q.den * k) f (times_above a.wide h) (var r) (mul (var q.num) (lit g))
      (omega (arith, mul-le-mul_right g a.above, mul-le-mul_right q.den low))
      (omega (arith, mul-le-mul_right g (weaker a.below), times_less {k = q.den} a.wide high, ap (λ (z : ℕ). z * q.den) same))
    where
      weaker : {m n : ℕ} → m < n → m ≤ n
      weaker h = omega arith
