-- Sets within others, how many members they have, and sets made of what holds of each. Assumes nothing.
use mathlib.Core.Bool.{Bool, true, false, cond}
use mathlib.Core.Logic.{◌⊎◌, inl, inr, ⊎_elim}
use mathlib.Core.Path.{◌≡◌, refl, sym, ap, ◌∙◌, subst}
use Prim.Native.Nat.{ℕ, zero, suc, ◌+◌, ◌/◌, ◌%◌, ◌^◌, ◌≤◌, ◌<◌}
use native.Mathlib.Nat.{le_trans, pow-suc}
use native.Mathlib.Omega.{arith}
use borrow.Author.Tests.{eqb-true, eq-eqb}
use lib.Bits.{bit_and, and_le_r, and_self}
use lib.Count.{ones}
use lib.Dec.{eqb}
use lib.Pow.{pow_mono}
use Rattle.rules_number.specs.Over.{sum_to}
use Rattle.rules_number.proofs.OverLaws.{sum_same, last_or_before}
use Rattle.rules_number.proofs.SumLaws.{sum_mono}
use Rattle.rules_path.specs.Verdicts.{bit}
use Rattle.rules_path.proofs.BitLaws.{bit_suc, add_bit_same, add_bit_other, bit_past}
use Rattle.rules_mask.specs.Masks.{is_in, is_within, set_of}
use Rattle.rules_mask.proofs.SetLaws.{bit_two, below_pow, half_below, within_exactly, ones_bits}

-- ---- sets within m
-- no set within m has a number above m's
pub within_le : (m s : ℕ) → is_within m s ≡ true → s ≤ m
within_le m s e = subst (λ (z : ℕ). z ≤ m) (eqb-true (bit_and s m) s e) (and_le_r s m)

pub within_self : (m : ℕ) → is_within m m ≡ true
within_self m = eq-eqb (bit_and m m) m (and_self m)

pub within_ones : (m s : ℕ) → is_within m s ≡ true → ones s ≤ ones m
within_ones m s e =
    let a = ones_bits m s (omega (arith, within_le m s e, below_pow m)) in
    let b = ones_bits m m (below_pow m) in
    omega (arith, sum_mono (λ p. bit p s) (λ p. bit p m) ((within_exactly m s).0 e) m)

-- ---- two sets with the same members are one
same_to : (k a b : ℕ) → a < 2 ^ k → b < 2 ^ k → ((p : ℕ) → p < k → bit p a ≡ bit p b) → a ≡ b
same_to zero a b x y e = omega arith
same_to (suc k) a b x y e =
    let low : a % 2 ≡ b % 2 = omega (arith, e 0 (omega arith)) in
    let rest : a / 2 ≡ b / 2 = same_to k (a / 2) (b / 2) (half_below k a x) (half_below k b y) (λ p l. sym (bit_suc p a) ∙ e (suc p) (omega arith) ∙ bit_suc p b) in
    omega arith

-- a set within another with as many members is that
sum_equal : (f g : ℕ → ℕ) (n : ℕ) → ((i : ℕ) → f i ≤ g i) → sum_to f n ≡ sum_to g n → (i : ℕ) → i < n → f i ≡ g i
unfolding sum_to
sum_equal f g zero h e i l = absurd (omega arith)
sum_equal f g (suc n) h e i l =
    ⊎_elim (λ x. rw x (omega (arith, sum_mono f g h n, h n))) (λ k. sum_equal f g n h (omega (arith, sum_mono f g h n, h n)) i k) (last_or_before i n l)

pub same_size : (m s : ℕ) → is_within m s ≡ true → ones s ≡ ones m → s ≡ m
same_size m s e o =
    let k = s + m in
    let below : (x : ℕ) → x ≤ k → x < 2 ^ k = λ x h. le_trans (below_pow x) (pow_mono h) in
    let a = ones_bits k s (below s (omega arith)) in
    let b = ones_bits k m (below m (omega arith)) in
    same_to k s m (below s (omega arith)) (below m (omega arith)) (sum_equal (λ p. bit p s) (λ p. bit p m) k ((within_exactly m s).0 e) (sym a ∙ o ∙ b))

-- ---- the set of those of which f holds
module _ (f : ℕ → Bool) where
  pub set_below : (n : ℕ) → set_of f n < 2 ^ n
  unfolding set_of sum_to
  set_below zero = omega arith
  set_below (suc n) = go (f n) (set_below n)
    where
      go : (t : Bool) → sum_to (λ p. cond (f p) (2 ^ p) 0) n < 2 ^ n → sum_to (λ p. cond (f p) (2 ^ p) 0) n + cond t (2 ^ n) 0 < 2 ^ suc n
      go true h = omega (arith, pow-suc 2 n)
      go false h = omega (arith, pow-suc 2 n)

  pub set_next : (n : ℕ) → set_of f (suc n) ≡ cond (f n) (2 ^ n + set_of f n) (set_of f n)
  unfolding set_of sum_to
  set_next n = go (f n)
    where
      go : (t : Bool) → sum_to (λ p. cond (f p) (2 ^ p) 0) n + cond t (2 ^ n) 0 ≡ cond t (2 ^ n + sum_to (λ p. cond (f p) (2 ^ p) 0) n) (sum_to (λ p. cond (f p) (2 ^ p) 0) n)
      go true = omega arith
      go false = omega arith

  -- p below n is in it exactly where f holds of p
  pub set_bit : (n p : ℕ) → p < n → bit p (set_of f n) ≡ cond (f p) 1 0
  set_bit zero p h = absurd (omega arith)
  set_bit (suc n) p h = ap (bit p) (set_next n) ∙ go (set_bit n p) (f n) refl (last_or_before p n h)
    where
      new : bit n (set_of f n) ≡ 0
      new = bit_past n (set_of f n) (set_below n)

      go : (p < n → bit p (set_of f n) ≡ cond (f p) 1 0) → (t : Bool) → f n ≡ t → (p ≡ n) ⊎ (p < n) → bit p (cond t (2 ^ n + set_of f n) (set_of f n)) ≡ cond (f p) 1 0
      go ih true e (inl x) = rw (x, e) (add_bit_same n (set_of f n) new)
      go ih false e (inl x) = rw (x, e) new
      go ih true e (inr l) = add_bit_other p n (set_of f n) new (λ x. omega arith) ∙ ih l
      go ih false e (inr l) = ih l

  pub set_past : (n p : ℕ) → n ≤ p → bit p (set_of f n) ≡ 0
  set_past n p h = bit_past p (set_of f n) (le_trans (set_below n) (pow_mono h))

  -- how many they are
  pub set_ones : (n : ℕ) → ones (set_of f n) ≡ sum_to (λ p. cond (f p) 1 0) n
  set_ones n = ones_bits n (set_of f n) (set_below n) ∙ sum_same (λ p. bit p (set_of f n)) (λ p. cond (f p) 1 0) n (λ p h. set_bit n p h)

-- a set is that of its members
pub set_of_members : (n m : ℕ) → m < 2 ^ n → set_of (λ p. is_in p m) n ≡ m
set_of_members n m h = same_to n (set_of (λ p. is_in p m) n) m (set_below (λ p. is_in p m) n) h each
  where
    one : (t : ℕ) → t ≤ 1 → cond (eqb t 1) 1 0 ≡ t
    one zero l = refl
    one (suc zero) l = refl
    one (suc (suc t)) l = absurd (omega arith)

    each : (p : ℕ) → p < n → bit p (set_of (λ q. is_in q m) n) ≡ bit p m
    each p l = set_bit (λ q. is_in q m) n p l ∙ one (bit p m) (bit_two p m)
