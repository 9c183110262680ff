-- `ceil_div`: how the code computes it, what it means, and how large it is. Assumes nothing.
use mathlib.Core.Path.{◌≡◌, refl, sym, ap, ◌∙◌, subst}
use Prim.Native.Nat.{ℕ, zero, suc, ◌+◌, ◌-◌, ◌*◌, ◌/◌, ◌≤◌, ◌<◌}
use native.Mathlib.Nat.{add-div_right, div-eq_of_lt, zero-div, div-zero, div-lt_iff_lt-mul, div-mul-le_self, lt-div-mul-add, mul-le-mul_left}
use native.Mathlib.Omega.{arith}
use lib.IntN.{ℤ, pos, negsuc, ◌+ℤ◌, ◌-ℤ◌, ◌*ℤ◌, -ℤ_one}
use lib.Signed.{◌≤ℤ◌, ◌<ℤ◌, quot_z}
use mir.Syntax.{w64}
use mir.Val.{SFits}
use Rattle.rules_number.specs.Order.{nat_of}
use Rattle.rules_number.specs.Ceil.{ceil_div}
use Rattle.rules_number.proofs.Kit.{lit, neglit, sub, neg, mul, le_by, lt_by, Bd, le_of, lt_of, nat_pos, neg_dif}

-- up to zero: the quotient that drops the fraction
pub ceil_low : {n w : ℤ} → n ≤ℤ pos 0 → pos 0 <ℤ w → quot_z n w ≡ ceil_div n (nat_of w)
ceil_low {n = pos a} {w = pos b} h k = ap pos (ap (λ (m : ℕ). m / b) zero_is ∙ zero-div b ∙ sym (div-eq_of_lt small))
  where
    zero_is : a ≡ 0
    zero_is = omega (arith, le_of h)

    small : a + (b - 1) < b
    small = omega (arith, le_of h, lt_of k)
ceil_low {n = negsuc a} {w = pos b} h k = refl
ceil_low {n} {w = negsuc b} h k = absurd k.lt

-- above zero: one more than the quotient of n - 1
pub ceil_high : {n w : ℤ} → pos 0 <ℤ n → pos 0 <ℤ w → quot_z (n -ℤ pos 1) w +ℤ pos 1 ≡ ceil_div n (nat_of w)
ceil_high {n = pos zero} {w} h k = absurd h.lt
ceil_high {n = negsuc a} {w} h k = absurd h.lt
ceil_high {n = pos (suc a)} {w = negsuc b} h k = absurd k.lt
ceil_high {n = pos (suc a)} {w = pos b} h k =
    ap (λ (z : ℤ). quot_z z (pos b) +ℤ pos 1) (-ℤ_one (pos (suc a)))
    ∙ ap pos (sym (add-div_right a (nat_pos k)) ∙ ap (λ (m : ℕ). m / b) same)
  where
    same : a + b ≡ suc a + (b - 1)
    same = omega (arith, lt_of k)

-- by a number that is not above zero: 0
pub ceil_zero : (n : ℤ) {w : ℤ} → w ≤ℤ pos 0 → ceil_div n (nat_of w) ≡ pos 0
ceil_zero (pos a) {w = pos b} h = let z : b ≡ 0 = omega (arith, le_of h) in rw (z, div-zero)
ceil_zero (negsuc a) {w = pos b} h = let z : b ≡ 0 = omega (arith, le_of h) in rw (z, div-zero)
ceil_zero (pos a) {w = negsuc b} h = rw div-zero
ceil_zero (negsuc a) {w = negsuc b} h = rw div-zero

-- what it means: r * w is at least n, and (r - 1) * w is below n
pub ceil_ge : (n : ℤ) (w : ℕ) → 0 < w → n ≤ℤ (ceil_div n w *ℤ pos w)
ceil_ge (pos a) w h = le_by (lit a) (mul (lit ((a + (w - 1)) / w)) (lit w)) (omega (arith, lt-div-mul-add {a = a + (w - 1)} {b = w} h))
ceil_ge (negsuc a) w h = le_by (neglit a) (mul (neg (lit (suc a / w))) (lit w)) (omega (arith, div-mul-le_self (suc a) w))

pub ceil_lt : (n : ℤ) (w : ℕ) → 0 < w → ((ceil_div n w -ℤ pos 1) *ℤ pos w) <ℤ n
ceil_lt (pos a) w h = lt_by (mul (sub (lit ((a + (w - 1)) / w)) (lit 1)) (lit w)) (lit a) (omega (arith, div-mul-le_self (a + (w - 1)) w))
ceil_lt (negsuc a) w h = lt_by (mul (sub (neg (lit (suc a / w))) (lit 1)) (lit w)) (neglit a) (omega (arith, lt-div-mul-add {a = suc a} {b = w} h))

-- its size
pub bd_ceil : {n : ℤ} {A : ℕ} (w : ℕ) → 0 < w → Bd A n → Bd (A / w + 1) (ceil_div n w)
bd_ceil {n = pos a} {A} w h b = record { bd = omega (arith, small) }
  where
    small : (a + (w - 1)) / w < A / w + 2
    small = (div-lt_iff_lt-mul h).1 (omega (arith, lt-div-mul-add {a = A} {b = w} h, b.bd))
bd_ceil {n = negsuc a} {A} w h b = record { bd = omega (arith, small, neg_dif (suc a / w)) }
  where
    small : suc a / w < A / w + 1
    small = (div-lt_iff_lt-mul h).1 (omega (arith, lt-div-mul-add {a = A} {b = w} h, b.bd))

-- what the code computes fits
pub less_fits : {n : ℤ} → pos 0 <ℤ n → SFits w64 n → SFits w64 (n -ℤ pos 1)
less_fits {n = pos zero} h f = absurd h.lt
less_fits {n = negsuc a} h f = absurd h.lt
less_fits {n = pos (suc a)} h f = rw -ℤ_one (record { sfits = omega (arith, f.sfits) })

pub high_fits : {n w : ℤ} → pos 0 <ℤ n → pos 0 <ℤ w → SFits w64 n → SFits w64 (quot_z (n -ℤ pos 1) w +ℤ pos 1)
high_fits {n = negsuc a} {w} h k f = absurd h.lt
high_fits {n = pos a} {w} h k f = subst (SFits w64) (sym (ceil_high h k)) (record { sfits = omega (arith, small, f.sfits) })
  where
    small : (a + (nat_of w - 1)) / nat_of w < a + 1
    small = (div-lt_iff_lt-mul (nat_pos k)).1 (omega (arith, nat_pos k, mul-le-mul_left a (nat_pos k)))
