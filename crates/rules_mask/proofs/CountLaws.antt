-- How many sets there are within a set. Assumes nothing.
use mathlib.Core.Bool.{Bool, true, false, cond}
use mathlib.Core.Path.{◌≡◌, refl, sym, ap, ◌∙◌}
use Prim.Native.Nat.{ℕ, zero, suc, ◌+◌, ◌*◌, ◌-◌, ◌/◌, ◌%◌, ◌^◌, ◌≤◌, ◌<◌}
use native.Mathlib.Nat.{pow-suc}
use native.Mathlib.Omega.{arith}
use borrow.Author.Tests.{eqb-true, eqb-false, eq-eqb, ne_eqb}
use lib.Bits.{bit_and, and_step, and_zero_l}
use lib.Count.{ones, ones_step}
use Rattle.rules_number.specs.Over.{sum_to}
use Rattle.rules_mask.specs.Masks.{is_within, sets_to, sets_in}
use Rattle.rules_mask.proofs.SetLaws.{sum_shift, below_pow}
use Rattle.rules_mask.proofs.SizeLaws.{within_le}

-- 1 where s is within m
one : ℕ → ℕ → ℕ
one m s = cond (is_within m s) 1 0

-- the empty set is within any
one_empty : (m : ℕ) → one m 0 ≡ 1
unfolding one
one_empty m = ap (λ (t : Bool). cond {A = ℕ} t 1 0) (eq-eqb (bit_and 0 m) 0 (and_zero_l m))

one_past : (m s : ℕ) → m < s → one m s ≡ 0
unfolding one
one_past m s h = go (is_within m s) refl
  where
    go : (t : Bool) → is_within m s ≡ t → ◌≡◌ {A = ℕ} (cond t 1 0) 0
    go true e = absurd (omega (arith, within_le m s e))
    go false e = refl

-- a set and its upper half
one_even : (m t : ℕ) → one m (2 * t) ≡ one (m / 2) t
unfolding one
one_even m t = go (is_within (m / 2) t) refl
  where
    half : (2 * t) / 2 ≡ t
    half = omega arith

    step : bit_and (2 * t) m ≡ bit_and t (m / 2) * 2 + 0
    step = and_step (2 * t) m ∙ rw half (omega arith)

    go : (x : Bool) → is_within (m / 2) t ≡ x → ◌≡◌ {A = ℕ} (cond (is_within m (2 * t)) 1 0) (cond x 1 0)
    go true e = rw (eq-eqb (bit_and (2 * t) m) (2 * t) (omega (arith, step, eqb-true (bit_and t (m / 2)) t e)))
    go false e = rw (ne_eqb (bit_and (2 * t) m) (2 * t) (λ z. eqb-false (bit_and t (m / 2)) t e (omega (arith, step))))

one_odd : (m t : ℕ) → one m (2 * t + 1) ≡ one (m / 2) t * (m % 2)
unfolding one
one_odd m t = go (is_within (m / 2) t) refl
  where
    half : (2 * t + 1) / 2 ≡ t
    half = omega arith

    step : bit_and (2 * t + 1) m ≡ bit_and t (m / 2) * 2 + m % 2
    step = and_step (2 * t + 1) m ∙ rw half (omega arith)

    last : bit_and t (m / 2) ≡ t → (b : ℕ) → m % 2 ≡ b → cond (is_within m (2 * t + 1)) 1 0 ≡ 1 * b
    last e zero z = rw (ne_eqb (bit_and (2 * t + 1) m) (2 * t + 1) (λ x. omega (arith, step)))
    last e (suc zero) z = rw (eq-eqb (bit_and (2 * t + 1) m) (2 * t + 1) (omega (arith, step)))
    last e (suc (suc b)) z = absurd (omega arith)

    go : (x : Bool) → is_within (m / 2) t ≡ x → cond (is_within m (2 * t + 1)) 1 0 ≡ cond x 1 0 * (m % 2)
    go true e = last (eqb-true (bit_and t (m / 2)) t e) (m % 2) refl
    go false e = rw (ne_eqb (bit_and (2 * t + 1) m) (2 * t + 1) (λ z. eqb-false (bit_and t (m / 2)) t e (omega (arith, step)))) (omega arith)

-- twice as many numbers: each upper half once, and once more where the lowest member is one of m's
pairs : (m n : ℕ) → sum_to (one m) (2 * n) ≡ sum_to (one (m / 2)) n * (1 + m % 2)
unfolding sum_to
pairs m zero = omega arith
pairs m (suc n) =
    let twice : 2 * suc n ≡ suc (suc (2 * n)) = omega arith in
    let next : suc (2 * n) ≡ 2 * n + 1 = omega arith in
    rw twice (rw (one_even m n) (rw next (rw (one_odd m n, pairs m n) (spread (sum_to (one (m / 2)) n) (one (m / 2) n) (m % 2)))))
  where
    spread : (a b c : ℕ) → a * (1 + c) + b + b * c ≡ (a + b) * (1 + c)
    spread a b c = omega (arith, native.Mathlib.Nat.add-mul a b (1 + c), native.Mathlib.Nat.mul-add a 1 c, native.Mathlib.Nat.mul-add b 1 c)

all_sets : (k m : ℕ) → m < 2 ^ k → sum_to (one m) (2 ^ k) ≡ 2 ^ ones m
unfolding sum_to ones
all_sets zero m h = let z : m ≡ 0 = omega arith in rw z (omega (arith, one_empty 0))
all_sets (suc k) m h =
    let size : 2 ^ suc k ≡ 2 * 2 ^ k = omega (arith, pow-suc 2 k) in
    rw size (pairs m (2 ^ k) ∙ ap (λ (z : ℕ). z * (1 + m % 2)) (all_sets k (m / 2) (omega (arith, pow-suc 2 k)))
    ∙ last (m % 2) refl ∙ ap (λ (z : ℕ). 2 ^ z) (sym (ones_step m)))
  where
    last : (b : ℕ) → m % 2 ≡ b → 2 ^ ones (m / 2) * (1 + b) ≡ 2 ^ (b + ones (m / 2))
    last zero z = omega (arith, ap (λ (x : ℕ). 2 ^ x) (native.Mathlib.Nat.zero-add (ones (m / 2))))
    last (suc zero) z =
        let e : 1 + ones (m / 2) ≡ suc (ones (m / 2)) = omega arith in
        rw e (omega (arith, pow-suc 2 (ones (m / 2))))
    last (suc (suc b)) z = absurd (omega arith)

-- numbers above m's are no sets within it
none_past : (m k : ℕ) → sum_to (one m) (suc m + k) ≡ sum_to (one m) (suc m)
unfolding sum_to
none_past m zero = let e : suc m + 0 ≡ suc m = omega arith in ap (sum_to (one m)) e
none_past m (suc k) =
    let e : suc m + suc k ≡ suc (suc m + k) = omega arith in
    rw e (rw (one_past m (suc m + k) (omega arith), none_past m k) (omega arith))

-- "the number of non-empty sets": one less than two to the number of members
pub sets_are : (m : ℕ) → sets_in m + 1 ≡ 2 ^ ones m
unfolding sets_to one
sets_are m =
    let fits : suc m ≤ 2 ^ m = below_pow m in
    let e : suc m + (2 ^ m - suc m) ≡ 2 ^ m = omega arith in
    let whole : sum_to (one m) (suc m) ≡ 2 ^ ones m = sym (none_past m (2 ^ m - suc m)) ∙ ap (sum_to (one m)) e ∙ all_sets m m (below_pow m) in
    omega (arith, sum_shift (one m) m, one_empty m)
