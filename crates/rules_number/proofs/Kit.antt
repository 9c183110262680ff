-- Linear facts on ℤ for omega, which reads ℕ alone. An integer is the difference of two naturals (`Diff z p n`: z = p - n), sums and products of
-- integers are differences again, and an order or an equation of integers is one of naturals. `Bd A z` says that z is at most A in size.
-- Assumes nothing.
use mathlib.Core.Path.{◌≡◌, refl, sym, ap, subst, ◌∙◌}
use mathlib.Core.Bool.{Bool, true, false, cond, ◌&&◌}
use Prim.Native.Nat.{ℕ, zero, suc, ◌+◌, ◌-◌, ◌*◌, ◌/◌, ◌^◌, ◌≤◌, ◌<◌}
use native.Mathlib.Nat.{mul-le-mul_left, mul-le-mul_right, le_trans, div-le_self}
use native.Mathlib.Omega.{arith}
use borrow.Author.Tests.{ltb-true, ltb-false, leb-true, leb-false, le-leb, lt-leb, le-ltb, lt-ltb}
use lib.Dec.{T, ltb, ltb→lt, lt→ltb, leb→le, le→leb}
use lib.IntN.{ℤ, pos, negsuc, neg_ℤ, nat_abs, sub_ℕ, ◌+ℤ◌, ◌-ℤ◌, ◌*ℤ◌}
use lib.Signed.{le_z, lt_z, mag, non_neg, ◌≤ℤ◌, ◌<ℤ◌, quot_z, yes_non_neg, pos-nat_abs}
use Rattle.rules_number.specs.Order.{in_range, nat_of}
use mir.Syntax.{w64}
use mir.Val.{SFits, Fits, to_z, of_z}
use mir.ValLaws.{to_z-of_z}

-- the two parts of z, of which one is 0
abbrev pub P : ℤ → ℕ
P (pos n) = n
P (negsuc n) = 0

abbrev pub N : ℤ → ℕ
N (pos n) = 0
N (negsuc n) = suc n

-- ---- z = p - n
pub record Diff (z : ℤ) (p n : ℕ) : Type 0 where
  pub dif : P z + n ≡ p + N z

pub var : (z : ℤ) → Diff z (P z) (N z)
var z = record { dif = refl }

pub lit : (k : ℕ) → Diff (pos k) k 0
lit k = record { dif = refl }

pub neglit : (k : ℕ) → Diff (negsuc k) 0 (suc k)
neglit k = record { dif = refl }

sub_dif : (a b : ℕ) → P (sub_ℕ a b) + b ≡ a + N (sub_ℕ a b)
sub_dif a b = go (ltb a b) refl
  where
    go : (t : Bool) → ltb a b ≡ t → P (cond t (negsuc (b - suc a)) (pos (a - b))) + b ≡ a + N (cond t (negsuc (b - suc a)) (pos (a - b)))
    go true e = omega (arith, ltb-true a b e)
    go false e = omega (arith, ltb-false a b e)

add_dif : (x y : ℤ) → P (x +ℤ y) + (N x + N y) ≡ (P x + P y) + N (x +ℤ y)
add_dif (pos a) (pos b) = omega arith
add_dif (pos a) (negsuc b) = omega (arith, sub_dif a (suc b))
add_dif (negsuc a) (pos b) = omega (arith, sub_dif b (suc a))
add_dif (negsuc a) (negsuc b) = omega arith

pub add : {x y : ℤ} {p n q m : ℕ} → Diff x p n → Diff y q m → Diff (x +ℤ y) (p + q) (n + m)
add {x} {y} d e = record { dif = omega (arith, add_dif x y, d.dif, e.dif) }

pub neg_dif : (k : ℕ) → (P (neg_ℤ (pos k)) ≡ 0) × (N (neg_ℤ (pos k)) ≡ k)
neg_dif zero = (refl, refl)
neg_dif (suc k) = (refl, refl)

neg_p : (x : ℤ) → P (neg_ℤ x) ≡ N x
neg_p (pos zero) = refl
neg_p (pos (suc n)) = refl
neg_p (negsuc n) = refl

neg_n : (x : ℤ) → N (neg_ℤ x) ≡ P x
neg_n (pos zero) = refl
neg_n (pos (suc n)) = refl
neg_n (negsuc n) = refl

pub neg : {x : ℤ} {p n : ℕ} → Diff x p n → Diff (neg_ℤ x) n p
neg {x} d = record { dif = omega (arith, neg_p x, neg_n x, d.dif) }

pub sub : {x y : ℤ} {p n q m : ℕ} → Diff x p n → Diff y q m → Diff (x -ℤ y) (p + m) (n + q)
sub d e = add d (neg e)

mul_dif : (x y : ℤ) → P (x *ℤ y) + (P x * N y + N x * P y) ≡ (P x * P y + N x * N y) + N (x *ℤ y)
mul_dif (pos a) (pos b) = omega arith
mul_dif (pos a) (negsuc b) = omega (arith, neg_dif (a * suc b))
mul_dif (negsuc a) (pos b) = omega (arith, neg_dif (suc a * b))
mul_dif (negsuc a) (negsuc b) = omega arith

pub mul : {x y : ℤ} {p n q m : ℕ} → Diff x p n → Diff y q m → Diff (x *ℤ y) (p * q + n * m) (p * m + n * q)
mul {x} {y} {p} {n} {q} {m} d e =
    record { dif = omega (arith, mul_dif x y, ap (λ (k : ℕ). k * q) d.dif, ap (λ (k : ℕ). k * m) d.dif, ap (λ (k : ℕ). k * P x) e.dif, ap (λ (k : ℕ). k * N x) e.dif) }

-- ---- an equation and the orders, from the naturals and to them
eq_dif : (x y : ℤ) → P x + N y ≡ P y + N x → x ≡ y
eq_dif (pos a) (pos b) h = ap pos (omega arith)
eq_dif (pos a) (negsuc b) h = absurd (omega arith)
eq_dif (negsuc a) (pos b) h = absurd (omega arith)
eq_dif (negsuc a) (negsuc b) h = ap negsuc (omega arith)

pub eq_by : {x y : ℤ} {p n q m : ℕ} → Diff x p n → Diff y q m → p + m ≡ q + n → x ≡ y
eq_by {x} {y} d e h = eq_dif x y (omega (arith, d.dif, e.dif))

le_dif : (x y : ℤ) → P x + N y ≤ P y + N x → T (le_z x y)
le_dif (pos a) (pos b) h = le→leb a b (omega arith)
le_dif (pos a) (negsuc b) h = absurd (omega arith)
le_dif (negsuc a) (pos b) h = tt
le_dif (negsuc a) (negsuc b) h = le→leb b a (omega arith)

pub le_by : {x y : ℤ} {p n q m : ℕ} → Diff x p n → Diff y q m → p + m ≤ q + n → x ≤ℤ y
le_by {x} {y} d e h = record { le = le_dif x y (omega (arith, d.dif, e.dif)) }

lt_dif : (x y : ℤ) → P x + N y < P y + N x → T (lt_z x y)
lt_dif (pos a) (pos b) h = lt→ltb a b (omega arith)
lt_dif (pos a) (negsuc b) h = absurd (omega arith)
lt_dif (negsuc a) (pos b) h = tt
lt_dif (negsuc a) (negsuc b) h = lt→ltb b a (omega arith)

pub lt_by : {x y : ℤ} {p n q m : ℕ} → Diff x p n → Diff y q m → p + m < q + n → x <ℤ y
lt_by {x} {y} d e h = record { lt = lt_dif x y (omega (arith, d.dif, e.dif)) }

pub of_le : (x y : ℤ) → T (le_z x y) → P x + N y ≤ P y + N x
of_le (pos a) (pos b) h = omega (arith, leb→le a b h)
of_le (pos a) (negsuc b) h = absurd h
of_le (negsuc a) (pos b) h = omega arith
of_le (negsuc a) (negsuc b) h = omega (arith, leb→le b a h)

pub of_lt : (x y : ℤ) → T (lt_z x y) → P x + N y < P y + N x
of_lt (pos a) (pos b) h = omega (arith, ltb→lt a b h)
of_lt (pos a) (negsuc b) h = absurd h
of_lt (negsuc a) (pos b) h = omega arith
of_lt (negsuc a) (negsuc b) h = omega (arith, ltb→lt b a h)

-- rules for omega's list: each order of ℤ in reach counts as one of the parts
pub le_of : {x y : ℤ} → x ≤ℤ y → P x + N y ≤ P y + N x
le_of {x} {y} h = of_le x y h.le

pub lt_of : {x y : ℤ} → x <ℤ y → P x + N y < P y + N x
lt_of {x} {y} h = of_lt x y h.lt

-- the same at any differences
pub le_from : {x y : ℤ} {p n q m : ℕ} → Diff x p n → Diff y q m → x ≤ℤ y → p + m ≤ q + n
le_from {x} {y} d e h = omega (arith, le_of h, d.dif, e.dif)

pub lt_from : {x y : ℤ} {p n q m : ℕ} → Diff x p n → Diff y q m → x <ℤ y → p + m < q + n
lt_from {x} {y} d e h = omega (arith, lt_of h, d.dif, e.dif)

is_t : {t : Bool} → t ≡ true → T t
is_t e = subst T (sym e) tt

-- the same of a test's flag, as a branch leaves it
pub le_true : (x y : ℤ) → le_z x y ≡ true → P x + N y ≤ P y + N x
le_true x y e = of_le x y (is_t e)

pub lt_true : (x y : ℤ) → lt_z x y ≡ true → P x + N y < P y + N x
lt_true x y e = of_lt x y (is_t e)

pub le_false : (x y : ℤ) → le_z x y ≡ false → P y + N x < P x + N y
le_false (pos a) (pos b) e = omega (arith, leb-false a b e)
le_false (pos a) (negsuc b) e = omega arith
le_false (negsuc a) (pos b) e = absurd (is_t (sym e))
le_false (negsuc a) (negsuc b) e = omega (arith, leb-false b a e)

pub lt_false : (x y : ℤ) → lt_z x y ≡ false → P y + N x ≤ P x + N y
lt_false (pos a) (pos b) e = omega (arith, ltb-false a b e)
lt_false (pos a) (negsuc b) e = omega arith
lt_false (negsuc a) (pos b) e = absurd (is_t (sym e))
lt_false (negsuc a) (negsuc b) e = omega (arith, ltb-false b a e)

-- and back
pub true_le : (x y : ℤ) → P x + N y ≤ P y + N x → le_z x y ≡ true
true_le (pos a) (pos b) h = le-leb a b (omega arith)
true_le (pos a) (negsuc b) h = absurd (omega arith)
true_le (negsuc a) (pos b) h = refl
true_le (negsuc a) (negsuc b) h = le-leb b a (omega arith)

pub false_le : (x y : ℤ) → P y + N x < P x + N y → le_z x y ≡ false
false_le (pos a) (pos b) h = lt-leb a b (omega arith)
false_le (pos a) (negsuc b) h = refl
false_le (negsuc a) (pos b) h = absurd (omega arith)
false_le (negsuc a) (negsuc b) h = lt-leb b a (omega arith)

-- the same test the other way round
pub le_not_lt : (x y : ℤ) → le_z x y ≡ true → lt_z y x ≡ false
le_not_lt (pos a) (pos b) e = le-ltb b a (leb-true a b e)
le_not_lt (pos a) (negsuc b) e = sym e
le_not_lt (negsuc a) (pos b) e = refl
le_not_lt (negsuc a) (negsuc b) e = le-ltb a b (leb-true b a e)

pub not_le_lt : (x y : ℤ) → le_z x y ≡ false → lt_z y x ≡ true
not_le_lt (pos a) (pos b) e = lt-ltb b a (leb-false a b e)
not_le_lt (pos a) (negsuc b) e = refl
not_le_lt (negsuc a) (pos b) e = sym e
not_le_lt (negsuc a) (negsuc b) e = lt-ltb a b (leb-false b a e)

pub lt_not_le : (x y : ℤ) → lt_z x y ≡ true → le_z y x ≡ false
lt_not_le x y e = false_le y x (lt_true x y e)

pub not_lt_le : (x y : ℤ) → lt_z x y ≡ false → le_z y x ≡ true
not_lt_le x y e = true_le y x (lt_false x y e)

-- ---- |z| ≤ A
pub record Bd (A : ℕ) (z : ℤ) : Type 0 where
  pub bd : P z + N z ≤ A

pub bd_lit : (k : ℕ) → Bd k (pos k)
bd_lit k = record { bd = omega arith }

sub_bd : (a b : ℕ) → P (sub_ℕ a b) + N (sub_ℕ a b) ≤ a + b
sub_bd a b = go (ltb a b) refl
  where
    go : (t : Bool) → ltb a b ≡ t → P (cond t (negsuc (b - suc a)) (pos (a - b))) + N (cond t (negsuc (b - suc a)) (pos (a - b))) ≤ a + b
    go true e = omega (arith, ltb-true a b e)
    go false e = omega (arith, ltb-false a b e)

add_size : (x y : ℤ) → P (x +ℤ y) + N (x +ℤ y) ≤ (P x + N x) + (P y + N y)
add_size (pos a) (pos b) = omega arith
add_size (pos a) (negsuc b) = omega (arith, sub_bd a (suc b))
add_size (negsuc a) (pos b) = omega (arith, sub_bd b (suc a))
add_size (negsuc a) (negsuc b) = omega arith

pub bd_add : {x y : ℤ} {A B : ℕ} → Bd A x → Bd B y → Bd (A + B) (x +ℤ y)
bd_add {x} {y} h k = record { bd = omega (arith, add_size x y, h.bd, k.bd) }

pub bd_neg : {x : ℤ} {A : ℕ} → Bd A x → Bd A (neg_ℤ x)
bd_neg {x} h = record { bd = omega (arith, neg_p x, neg_n x, h.bd) }

pub bd_sub : {x y : ℤ} {A B : ℕ} → Bd A x → Bd B y → Bd (A + B) (x -ℤ y)
bd_sub h k = bd_add h (bd_neg k)

mul_size : (x y : ℤ) → P (x *ℤ y) + N (x *ℤ y) ≡ (P x + N x) * (P y + N y)
mul_size (pos a) (pos b) = omega arith
mul_size (pos a) (negsuc b) = omega (arith, neg_dif (a * suc b))
mul_size (negsuc a) (pos b) = omega (arith, neg_dif (suc a * b))
mul_size (negsuc a) (negsuc b) = omega arith

pub bd_mul : {x y : ℤ} {A B : ℕ} → Bd A x → Bd B y → Bd (A * B) (x *ℤ y)
bd_mul {x} {y} {A} {B} h k =
    record { bd = omega (arith, mul_size x y, mul-le-mul_right (P y + N y) h.bd, mul-le-mul_left A k.bd) }

pub bd_le : {x : ℤ} {A B : ℕ} → A ≤ B → Bd A x → Bd B x
bd_le l h = record { bd = le_trans h.bd l }

mag_size : (z : ℤ) → mag z ≤ P z + N z
mag_size (pos n) = omega arith
mag_size (negsuc n) = omega arith

-- a bound that a comparison of literals shows to fit an i64: `fit b tt`
pub fit : {z : ℤ} {A : ℕ} → Bd A z → T (ltb A (2 ^ 63)) → SFits w64 z
fit {z} {A} h t = record { sfits = omega (arith, mag_size z, h.bd, ltb→lt A (2 ^ 63) t) }

-- between two numbers of at most that size: at literals `bd_between 10 (lo-proof) (hi-proof) (lit≤ tt) (lit≤ tt)`
pub bd_between : (A : ℕ) {lo hi z : ℤ} → lo ≤ℤ z → z ≤ℤ hi → N lo ≤ A → P hi ≤ A → Bd A z
bd_between A {lo} {hi} {z = pos n} h k l m = record { bd = omega (arith, of_le (pos n) hi k.le) }
bd_between A {lo} {hi} {z = negsuc n} h k l m = record { bd = omega (arith, of_le lo (negsuc n) h.le) }

-- ---- a range test that passed
and_l : (a b : Bool) → (a && b) ≡ true → T a
and_l true b e = tt
and_l false b e = is_t e

and_r : (a b : Bool) → (a && b) ≡ true → T b
and_r true b e = is_t e
and_r false b e = absurd (is_t e)

pub in_lo : (lo hi x : ℤ) → in_range lo hi x ≡ true → lo ≤ℤ x
unfolding in_range
in_lo lo hi x e = record { le = and_l (le_z lo x) (le_z x hi) e }

pub in_hi : (lo hi x : ℤ) → in_range lo hi x ≡ true → x ≤ℤ hi
unfolding in_range
in_hi lo hi x e = record { le = and_r (le_z lo x) (le_z x hi) e }

-- a number that is not negative is its natural number
pub nat_of_lem : {x : ℤ} → pos 0 ≤ℤ x → pos (nat_abs x) ≡ x
nat_of_lem {x} h = pos-nat_abs x (yes_non_neg h)

-- what the machine reads back from the bits of an i64
abbrev pub rd : ℤ → ℤ
rd x = to_z w64 (of_z w64 x)

-- a divisor above zero has bits above zero, and is its natural number
pub bits_pos : {w : ℤ} → pos 0 <ℤ w → 0 < of_z w64 w
bits_pos {w = pos n} h = ltb→lt 0 n h.lt
bits_pos {w = negsuc n} h = absurd h.lt

pub nat_pos : {w : ℤ} → pos 0 <ℤ w → 0 < nat_of w
nat_pos {w = pos n} h = ltb→lt 0 n h.lt
nat_pos {w = negsuc n} h = absurd h.lt

mag_neg : (r a : ℕ) → r ≤ suc a → mag (neg_ℤ (pos r)) ≤ a
mag_neg zero a h = omega arith
mag_neg (suc r) a h = omega arith

-- a quotient by a number above zero is no larger than the dividend
pub quot_fits : {n w : ℤ} → pos 0 <ℤ w → SFits w64 n → SFits w64 (quot_z n w)
quot_fits {n = pos a} {w = pos b} h f = record { sfits = omega (arith, div-le_self a b, f.sfits) }
quot_fits {n = negsuc a} {w = pos b} h f = record { sfits = omega (arith, mag_neg (suc a / b) a (div-le_self (suc a) b), f.sfits) }
quot_fits {n} {w = negsuc b} h f = absurd h.lt

-- ---- what a branch's test on two i64 tells
pub pos_fits : (k : ℕ) → T (ltb k (2 ^ 63)) → SFits w64 (pos k)
pos_fits k t = record { sfits = ltb→lt k (2 ^ 63) t }

pub negsuc_fits : (k : ℕ) → T (ltb k (2 ^ 63)) → SFits w64 (negsuc k)
negsuc_fits k t = record { sfits = ltb→lt k (2 ^ 63) t }

module _ {x y : ℤ} (f : SFits w64 x) (g : SFits w64 y) where
  pub when_le : le_z (rd x) (rd y) ≡ true → x ≤ℤ y
  when_le e = record { le = is_t (simp to_z-of_z at e) }

  pub else_le : le_z (rd x) (rd y) ≡ false → y <ℤ x
  else_le e = lt_by (var y) (var x) (le_false x y (simp to_z-of_z at e))

pub bd_abs : {z : ℤ} {A : ℕ} → nat_abs z ≤ A → Bd A z
bd_abs {z = pos n} h = record { bd = omega arith }
bd_abs {z = negsuc n} h = record { bd = omega arith }

pub abs_bd : {z : ℤ} {A : ℕ} → Bd A z → nat_abs z ≤ A
abs_bd {z = pos n} h = omega (arith, h.bd)
abs_bd {z = negsuc n} h = omega (arith, h.bd)

pub bd_pos : {n A : ℕ} → n ≤ A → Bd A (pos n)
bd_pos h = record { bd = omega arith }

-- a call's result that is read back: `came c.f.result c.f.ok`, with the range that the call gives
pub came : (z : ℤ) → mag z < 2 ^ 63 → rd z ≡ z
came z h = to_z-of_z w64 z (record { sfits = h })

-- two numbers of the same bits are one
pub bits_same : (a b : ℤ) → SFits w64 a → SFits w64 b → of_z w64 a ≡ of_z w64 b → a ≡ b
bits_same a b fa fb e = sym (to_z-of_z w64 a fa) ∙ ap (to_z w64) e ∙ to_z-of_z w64 b fb

pub ≤ℤ_trans : {a b c : ℤ} → a ≤ℤ b → b ≤ℤ c → a ≤ℤ c
≤ℤ_trans {a} {b} {c} h k = le_by (var a) (var c) (omega (arith, le_of h, le_of k))

-- ---- an i64 as a natural number
pub cast_fits : (z : ℤ) → mag z < 2 ^ 63 → le_z (pos 0) z ≡ true → T (non_neg z) × Fits w64 (nat_abs z)
cast_fits (pos n) h e = (tt, record { fits = omega arith })
cast_fits (negsuc n) h e = absurd (is_t e)

pub whole_pos : (z : ℤ) → le_z (pos 0) z ≡ true → nat_abs z ≡ nat_of z
whole_pos (pos n) e = refl
whole_pos (negsuc n) e = absurd (is_t e)

pub whole_neg : (z : ℤ) → le_z (pos 0) z ≡ false → 0 ≡ nat_of z
whole_neg (pos n) e = omega (arith, leb-false 0 n e)
whole_neg (negsuc n) e = refl
