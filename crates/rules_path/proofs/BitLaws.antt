-- general
-- The bits of a number: a power of two added to a number that lacks it.
use Prim.Native.Nat.{ℕ, zero, suc, ◌+◌, ◌/◌, ◌%◌, ◌^◌, ◌<◌}
use mathlib.Core.Path.{◌≡◌, refl, sym, ap, ◌∙◌}
use mathlib.Core.Logic.{◌≢◌}
use native.Mathlib.Nat.{pow-suc, div-eq_of_lt}
use native.Mathlib.Omega.{arith}
use lib.Count.{ones, ones_step}
use lib.Pow.{pow_pos, shr-shr}
use Rattle.rules_path.specs.Verdicts.{bit}

-- the next bit is that of the half
pub bit_suc : (p m : ℕ) → bit (suc p) m ≡ bit p (m / 2)
bit_suc p m = ap (λ (z : ℕ). z % 2) (sym (shr-shr m 1 p ∙ ap (λ (z : ℕ). m / 2 ^ z) (omega arith)))

-- half of a sum with a power of two
half_add : (q m : ℕ) → (2 ^ suc q + m) / 2 ≡ 2 ^ q + m / 2
half_add q m = omega (arith, pow-suc 2 q)

low_add : (q m : ℕ) → (2 ^ suc q + m) % 2 ≡ m % 2
low_add q m = omega (arith, pow-suc 2 q)

next : (p q m : ℕ) → bit (suc p) (2 ^ suc q + m) ≡ bit p (2 ^ q + m / 2)
next p q m = bit_suc p (2 ^ suc q + m) ∙ ap (bit p) (half_add q m)

-- adding 2 ^ q to a number without bit q sets that bit, leaves the others, and adds one to the count of ones
pub add_bit_same : (q m : ℕ) → bit q m ≡ 0 → bit q (2 ^ q + m) ≡ 1
add_bit_same zero m h = omega arith
add_bit_same (suc q) m h = next q q m ∙ add_bit_same q (m / 2) (sym (bit_suc q m) ∙ h)

pub add_bit_other : (p q m : ℕ) → bit q m ≡ 0 → p ≢ q → bit p (2 ^ q + m) ≡ bit p m
add_bit_other zero zero m h d = absurd (d refl)
add_bit_other zero (suc q) m h d = omega (arith, low_add q m)
add_bit_other (suc p) zero m h d = bit_suc p (2 ^ 0 + m) ∙ ap (bit p) (omega arith) ∙ sym (bit_suc p m)
add_bit_other (suc p) (suc q) m h d =
    next p q m ∙ add_bit_other p q (m / 2) (sym (bit_suc q m) ∙ h) (λ e. d (ap suc e)) ∙ sym (bit_suc p m)

pub add_bit_ones : (q m : ℕ) → bit q m ≡ 0 → ones (2 ^ q + m) ≡ suc (ones m)
add_bit_ones zero m h =
    let e : (1 + m) / 2 ≡ m / 2 = omega arith in
    omega (arith, ones_step (1 + m), ones_step m, ap ones e)
add_bit_ones (suc q) m h =
    omega (arith, ones_step (2 ^ suc q + m), ones_step m, ap ones (half_add q m), low_add q m, add_bit_ones q (m / 2) (sym (bit_suc q m) ∙ h))

-- a number has no bit past its size
pub bit_past : (p m : ℕ) → m < 2 ^ p → bit p m ≡ 0
bit_past p m h = ap (λ (z : ℕ). z % 2) (div-eq_of_lt h)

pub bit_zero : (p : ℕ) → bit p 0 ≡ 0
bit_zero p = bit_past p 0 (omega (arith, pow_pos p))
