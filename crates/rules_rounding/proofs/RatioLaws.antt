-- Laws of unrounded amounts: comparisons by cross products as omega reads them, their order, and the smaller of two and the largest of many as they are worked out.
-- Assumes nothing.
use mathlib.Core.Bool.{Bool, true, false, cond}
use mathlib.Core.Logic.{inl, inr, ⊎_elim}
use mathlib.Core.Path.{◌≡◌, refl}
use Prim.Native.Nat.{ℕ, zero, suc, ◌+◌, ◌*◌, ◌≤◌, ◌<◌}
use native.Mathlib.Nat.{mul-le-mul_right, le_refl}
use native.Mathlib.Omega.{arith}
use lib.IntN.{pos, ◌*ℤ◌}
use lib.Signed.{≤ℤ_refl}
use Rattle.rules_number.proofs.Kit.{P, N, var, lit, mul, le_from, le_by, le_true, le_false}
use Rattle.rules_number.proofs.OverLaws.{le_or_lt, last_or_before}
use Rattle.rules_rounding.specs.Ratios.{Ratio, ◌≤Q◌, Is, IsSmaller, IsLargest}
use Rattle.rules_rounding.specs.Exact.{le_q, min_q, highest_q}

-- ---- products by a number above 0
pub times_above : {m k : ℕ} → 0 < m → 0 < k → 0 < m * k
times_above {m} {k} h l = omega (arith, mul-le-mul_right k h, l)

pub times_less : {m n k : ℕ} → 0 < k → m < n → m * k < n * k
times_less {m} {n} {k} l h = omega (arith, mul-le-mul_right k h, l)

pub less_of_times : (m n k : ℕ) → m * k < n * k → m < n
less_of_times m n k h = ⊎_elim (λ l. absurd (omega (arith, mul-le-mul_right k l, h))) (λ l. l) (le_or_lt n m)

pub most_of_times : (m n k : ℕ) → 0 < k → m * k ≤ n * k → m ≤ n
most_of_times m n k l h = ⊎_elim (λ x. x) (λ x. absurd (omega (arith, times_less {k = k} l x, h))) (le_or_lt m n)

-- ---- cross products, in the parts of the numerators
abbrev pub Crossed : Ratio → Ratio → Type 0
Crossed x y = P x.num * y.den + N y.num * x.den ≤ P y.num * x.den + N x.num * y.den

pub crossed : (x y : Ratio) → x ≤Q y → Crossed x y
crossed x y h = omega (arith, le_from (mul (var x.num) (lit y.den)) (mul (var y.num) (lit x.den)) h)

of_crossed : (x y : Ratio) → Crossed x y → x ≤Q y
of_crossed x y h = le_by (mul (var x.num) (lit y.den)) (mul (var y.num) (lit x.den)) (omega (arith, h))

pub is_least : (x y : Ratio) → Is y x → x ≤Q y
is_least x y e = rw e.equal (≤ℤ_refl (y.num *ℤ pos x.den))

pub is_most : (x y : Ratio) → Is y x → y ≤Q x
is_most x y e = rw e.equal (≤ℤ_refl (y.num *ℤ pos x.den))

pub is_self : (x : Ratio) → 0 < x.den → Is x x
is_self x h = record { den_above_0 = h; equal = refl }

-- ---- the order
≤Q_refl : (x : Ratio) → x ≤Q x
≤Q_refl x = ≤ℤ_refl (x.num *ℤ pos x.den)

≤Q_trans : (x y z : Ratio) → 0 < y.den → x ≤Q y → y ≤Q z → x ≤Q z
≤Q_trans x y z above h k =
    of_crossed x z
    (most_of_times _ _ y.den above
    (omega (arith, mul-le-mul_right z.den (crossed x y h), mul-le-mul_right x.den (crossed y z k))))

test_most : (x y : Ratio) → le_q x y ≡ true → x ≤Q y
test_most x y e =
    of_crossed x y (omega (arith, le_true (x.num *ℤ pos y.den) (y.num *ℤ pos x.den) e, (mul (var x.num) (lit y.den)).dif, (mul (var y.num) (lit x.den)).dif))

test_least : (x y : Ratio) → le_q x y ≡ false → y ≤Q x
test_least x y e =
    of_crossed y x (omega (arith, le_false (x.num *ℤ pos y.den) (y.num *ℤ pos x.den) e, (mul (var x.num) (lit y.den)).dif, (mul (var y.num) (lit x.den)).dif))

-- ---- the smaller of two
pub min_is_smaller : (x y : Ratio) → 0 < x.den → 0 < y.den → IsSmaller x y (min_q x y)
min_is_smaller x y a b = go (le_q x y) refl
  where
    go : (t : Bool) → le_q x y ≡ t → IsSmaller x y (cond t x y)
    go true e = record { at_most_first = ≤Q_refl x; at_most_second = test_most x y e; attained = inl (is_self x a) }
    go false e = record { at_most_first = test_least x y e; at_most_second = ≤Q_refl y; attained = inr (is_self y b) }

-- ---- the largest of many
pub highest_is_largest : (f : ℕ → Ratio) (n : ℕ) → ((i : ℕ) → i ≤ n → 0 < (f i).den) → IsLargest f n (highest_q f n)
unfolding highest_q
highest_is_largest f zero above =
    record { at_least_each = λ i h. let e : i ≡ 0 = omega arith in rw e (≤Q_refl (f 0)); at = 0; among = le_refl 0; attained = is_self (f 0) (above 0 (le_refl 0)) }
highest_is_largest f (suc n) above = go (highest_is_largest f n (λ i h. above i (omega arith))) (le_q (highest_q f n) (f (suc n))) refl
  where
    each : (x : Ratio) → IsLargest f n (highest_q f n) → highest_q f n ≤Q x → (f (suc n)) ≤Q x → (i : ℕ) → i ≤ suc n → f i ≤Q x
    each x ih before here i h =
        ⊎_elim (λ e. rw e here) (λ l. ≤Q_trans (f i) (highest_q f n) x ih.attained.den_above_0 (ih.at_least_each i (omega arith)) before) (last_or_before i (suc n) (omega arith))

    go : IsLargest f n (highest_q f n) → (t : Bool) → le_q (highest_q f n) (f (suc n)) ≡ t → IsLargest f (suc n) (cond t (f (suc n)) (highest_q f n))
    go ih true e =
        record { at_least_each = each (f (suc n)) ih (test_most (highest_q f n) (f (suc n)) e) (≤Q_refl (f (suc n))); at = suc n; among = le_refl (suc n); attained = is_self (f (suc n)) (above (suc n) (le_refl (suc n))) }
    go ih false e =
        record { at_least_each = each (highest_q f n) ih (≤Q_refl (highest_q f n)) (test_least (highest_q f n) (f (suc n)) e); at = ih.at; among = omega (arith, ih.among); attained = ih.attained }
