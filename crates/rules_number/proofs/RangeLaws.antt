-- What a range test that passed says. Assumes nothing.
use mathlib.Core.Bool.{true}
use mathlib.Core.Path.{◌≡◌, refl}
use Prim.Native.Nat.{ℕ, ◌+◌, ◌≤◌, ◌<◌}
use native.Mathlib.Nat.{le_refl}
use native.Mathlib.Omega.{arith}
use borrow.Author.Tests.{leb-true}
use lib.Dec.{leb}
use lib.IntN.{ℤ, pos, negsuc, neg_ℤ, nat_abs, ◌-ℤ◌}
use lib.Signed.{lt_z}
use Rattle.rules_number.specs.Order.{in_range, nat_of}
use Rattle.rules_number.proofs.Kit.{P, N, Diff, var, sub, Bd, bd_between, abs_bd, neg_dif, lt_true, in_lo, in_hi}
use Rattle.rules_number.proofs.OverLaws.{both, never}

pub bd_in : (lo k : ℕ) (z : ℤ) → in_range (pos lo) (pos k) z ≡ true → Bd k z
bd_in lo k z e = bd_between k (in_lo (pos lo) (pos k) z e) (in_hi (pos lo) (pos k) z e) (omega arith) (le_refl k)

pub nat_is : (k : ℕ) (z : ℤ) → in_range (pos 0) (pos k) z ≡ true → (z ≡ pos (nat_of z)) × (nat_of z ≤ k)
unfolding in_range
nat_is k (pos n) e = (refl, leb-true n k (both (leb 0 n) (leb n k) e).1)
nat_is k (negsuc n) e = never e

-- a rising step has a width
pub rises : (a b : ℤ) → lt_z a b ≡ true → 0 < nat_of (b -ℤ a)
rises a b e = go (b -ℤ a) (sub (var b) (var a))
  where
    go : (z : ℤ) → Diff z (P b + N a) (N b + P a) → 0 < nat_of z
    go (pos n) d = omega (arith, d.dif, lt_true a b e)
    go (negsuc n) d = absurd (omega (arith, d.dif, lt_true a b e))

-- a number between -k and k is at most k in size
pub abs_range : (k : ℕ) (z : ℤ) → in_range (neg_ℤ (pos k)) (pos k) z ≡ true → nat_abs z ≤ k
abs_range k z e = abs_bd (bd_between k (in_lo (neg_ℤ (pos k)) (pos k) z e) (in_hi (neg_ℤ (pos k)) (pos k) z e) (omega (arith, neg_dif k)) (le_refl k))

pub abs_in : (k : ℕ) (z : ℤ) → in_range (pos 0) (pos k) z ≡ true → nat_abs z ≤ k
abs_in k z e = abs_bd (bd_in 0 k z e)
