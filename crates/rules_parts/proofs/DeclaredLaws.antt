-- Laws of declared ids. Assumes nothing.
use Prim.Native.Nat.{ℕ, ◌<◌}
use mathlib.Core.Path.{◌≡◌, refl, sym}
use mathlib.Core.Bool.{true, false}
use native.Mathlib.Omega.{arith}
use native.Mathlib.Nat.{not-suc-le-zero}
use borrow.Author.Tests.{ltb-true, le-leb}
use lib.Dec.{ltb}
use lib.IntN.{ℤ, pos, negsuc, nat_abs}
use lib.Signed.{lt_z}
use Rattle.rules_number.specs.Order.{nat_of}
use Rattle.rules_number.proofs.OverLaws.{never}
use Rattle.rules_parts.specs.Parts.{is_declared}

pub declared_negative : (n : ℕ) (x : ℤ) → lt_z x (pos 0) ≡ true → false ≡ is_declared n x
unfolding is_declared
declared_negative n (pos m) e = absurd (not-suc-le-zero (ltb-true m 0 e))
declared_negative n (negsuc m) e = refl

pub declared_natural : (n : ℕ) (x : ℤ) → lt_z x (pos 0) ≡ false → ltb (nat_abs x) n ≡ is_declared n x
unfolding is_declared
declared_natural n (pos m) e = simp (le-leb 0 m (omega arith))
declared_natural n (negsuc m) e = never (sym e)

-- a declared id is below the count
pub declared_below : (n : ℕ) (x : ℤ) → is_declared n x ≡ true → nat_of x < n
unfolding is_declared
declared_below n (pos m) e = ltb-true m n (simp (le-leb 0 m (omega arith)) at e)
declared_below n (negsuc m) e = never e
