-- Bits of a number as members of a set. Assumes nothing.
use mathlib.Core.Bool.{true}
use mathlib.Core.Logic.{◌↔◌, ◌⊎◌, inl, inr, ⊎_elim, ◌≢◌}
use mathlib.Core.Path.{◌≡◌, sym, ap, ◌∙◌}
use Prim.Native.Nat.{ℕ, zero, suc, min, max, ◌+◌, ◌/◌, ◌%◌, ◌^◌, ◌≤◌, ◌<◌, zero-le}
use native.Mathlib.Nat.{le_trans, add-zero, pow-suc, div-lt_iff_lt-mul}
use native.Mathlib.Decide.{ℕ_discrete}
use native.Mathlib.Omega.{arith}
use borrow.Author.Tests.{eqb-true, eq-eqb}
use lib.Bits.{bit_and, bit_or, and_step, or_step, and_shr, or_shr, and_zero_l}
use lib.Count.{ones, ones_step}
use lib.Pow.{pow_pos, pow_mono}
use Rattle.rules_number.specs.Over.{sum_to}
use Rattle.rules_number.proofs.OverLaws.{sum_same, le_or_lt}
use Rattle.rules_path.specs.Verdicts.{bit}
use Rattle.rules_path.proofs.BitLaws.{bit_suc, add_bit_same, add_bit_other, bit_zero}
use Rattle.rules_mask.specs.Masks.{is_within, with_member}

-- ---- bits
pub bit_two : (p m : ℕ) → bit p m ≤ 1
bit_two p m = omega arith

pub in_or_not : (p m : ℕ) → (bit p m ≡ 1) ⊎ (bit p m ≡ 0)
in_or_not p m = go (ℕ_discrete (bit p m) 1)
  where
    go : Dec (bit p m ≡ 1) → (bit p m ≡ 1) ⊎ (bit p m ≡ 0)
    go (yes e) = inl e
    go (no e) = inr (omega (arith, bit_two p m))

pub below_pow : (n : ℕ) → n < 2 ^ n
below_pow zero = omega arith
below_pow (suc n) = omega (arith, pow-suc 2 n, below_pow n)

pub half_below : (k m : ℕ) → m < 2 ^ suc k → m / 2 < 2 ^ k
half_below k m h = omega (arith, pow-suc 2 k)

-- a number without a bit from n on is below 2 ^ n
pub low_bits : (n m : ℕ) → ((p : ℕ) → n ≤ p → bit p m ≡ 0) → m < 2 ^ n
low_bits n m none = go m (below_pow m)
  where
    off : (k : ℕ) → m < 2 ^ suc k → bit k m ≡ 0 → m < 2 ^ k
    off k h z =
        let two : m / 2 ^ k < 2 = (div-lt_iff_lt-mul (pow_pos k)).1 (omega (arith, pow-suc 2 k)) in
        let none : m / 2 ^ k < 1 = omega arith in
        omega (arith, (div-lt_iff_lt-mul (pow_pos k)).0 none)

    -- the highest bit that m may have is taken off until none is left above n
    go : (k : ℕ) → m < 2 ^ k → m < 2 ^ n
    go zero h = le_trans h (pow_mono {i = 0} {j = n} zero-le)
    go (suc k) h = ⊎_elim (λ l. le_trans h (pow_mono l)) (λ l. go k (off k h (none k (omega arith)))) (le_or_lt (suc k) n)

-- ---- each member of the one is one of the other
bit_and_lem : (p a b : ℕ) → bit p (bit_and a b) ≡ min (bit p a) (bit p b)
bit_and_lem p a b = ap (λ (z : ℕ). z % 2) (and_shr a b p) ∙ omega (arith, and_step (a / 2 ^ p) (b / 2 ^ p))

and_is : (k s m : ℕ) → s < 2 ^ k → ((p : ℕ) → bit p s ≤ bit p m) → bit_and s m ≡ s
and_is zero s m h each = let z : s ≡ 0 = omega arith in rw z (and_zero_l m)
and_is (suc k) s m h each =
    let low : s % 2 ≤ m % 2 = omega (arith, each 0) in
    let rest : bit_and (s / 2) (m / 2) ≡ s / 2 = and_is k (s / 2) (m / 2) (half_below k s h) (λ p. rw (bit_suc p s, bit_suc p m) at (each (suc p))) in
    omega (arith, and_step s m)

pub within_exactly : (m s : ℕ) → (is_within m s ≡ true) ↔ ((p : ℕ) → bit p s ≤ bit p m)
within_exactly m s = (
  (λ e p. let z : bit p (bit_and s m) ≡ bit p s = ap (bit p) (eqb-true (bit_and s m) s e) in omega (arith, bit_and_lem p s m)),
  λ each. eq-eqb (bit_and s m) s (and_is s s m (below_pow s) each),
)

-- ---- a member more: it is in the set, and the others stay in or out
bit_or_lem : (p a b : ℕ) → bit p (bit_or a b) ≡ max (bit p a) (bit p b)
bit_or_lem p a b = ap (λ (z : ℕ). z % 2) (or_shr a b p) ∙ omega (arith, or_step (a / 2 ^ p) (b / 2 ^ p))

pub member_in : (p m : ℕ) → bit p (with_member p m) ≡ 1
member_in p m =
    let this : bit p (2 ^ p) ≡ 1 = ap (bit p) (sym (add-zero (2 ^ p))) ∙ add_bit_same p 0 (bit_zero p) in
    omega (arith, bit_or_lem p m (2 ^ p), bit_two p m)

pub member_other : (p q m : ℕ) → q ≢ p → bit q (with_member p m) ≡ bit q m
member_other p q m d =
    let other : bit q (2 ^ p) ≡ 0 = ap (bit q) (sym (add-zero (2 ^ p))) ∙ add_bit_other q p 0 (bit_zero p) d ∙ bit_zero q in
    omega (arith, bit_or_lem q m (2 ^ p))

-- ---- the count of ones is the sum of the bits
pub sum_shift : (f : ℕ → ℕ) (n : ℕ) → sum_to f (suc n) ≡ f 0 + sum_to (λ i. f (suc i)) n
unfolding sum_to
sum_shift f zero = omega arith
sum_shift f (suc n) = omega (arith, sum_shift f n)

pub ones_bits : (k m : ℕ) → m < 2 ^ k → ones m ≡ sum_to (λ p. bit p m) k
unfolding sum_to ones
ones_bits zero m h = let z : m ≡ 0 = omega arith in ap ones z
ones_bits (suc k) m h =
    ones_step m
    ∙ ap (λ (z : ℕ). m % 2 + z) (ones_bits k (m / 2) (half_below k m h) ∙ sum_same (λ p. bit p (m / 2)) (λ p. bit (suc p) m) k (λ p l. sym (bit_suc p m)))
    ∙ sym (sum_shift (λ p. bit p m) k ∙ ap (λ (z : ℕ). z + sum_to (λ p. bit (suc p) m) k) (omega arith))
