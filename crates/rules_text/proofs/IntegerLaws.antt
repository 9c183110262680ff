-- general
-- An integer beside a natural number. Assumes nothing.
use Prim.Native.Nat.{ℕ, suc, ◌+◌, ◌-◌, ◌^◌, ◌≤◌, ◌<◌}
use mathlib.Core.Path.{◌≡◌, refl, sym, subst}
use mathlib.Core.Bool.{true, false}
use native.Mathlib.Omega.{arith}
use native.Mathlib.Nat.{not-suc-le-zero}
use borrow.Author.Tests.{ltb-true}
use lib.Dec.{T, eqb}
use lib.IntN.{ℤ, pos, negsuc, neg_ℤ, nat_abs, ◌+ℤ◌, ◌-ℤ◌}
use lib.Signed.{mag, lt_z, non_neg}
use mir.Syntax.{w64}
use mir.Val.{Fits, SFits}
use Rattle.rules_number.specs.Order.{eq_z}
use Rattle.rules_number.proofs.Kit.{lit, neglit, neg, add, sub, eq_by, bd_pos, bd_neg, fit}
use Rattle.rules_number.proofs.OverLaws.{never}

pub id_negative : (n : ℕ) (x : ℤ) → lt_z x (pos 0) ≡ true → false ≡ eq_z (pos n) x
id_negative n (pos m) e = absurd (not-suc-le-zero (ltb-true m 0 e))
id_negative n (negsuc m) e = refl

pub id_cast : (x : ℤ) → mag x < 2 ^ 63 → lt_z x (pos 0) ≡ false → T (non_neg x) × Fits w64 (nat_abs x)
id_cast (pos m) h e = (tt, record { fits = omega arith })
id_cast (negsuc m) h e = never (sym e)

pub id_natural : (n : ℕ) (x : ℤ) → lt_z x (pos 0) ≡ false → eqb n (nat_abs x) ≡ eq_z (pos n) x
id_natural n (pos m) e = refl
id_natural n (negsuc m) e = never (sym e)

-- ---- the size of a number below zero, as -(x + 1) + 1
module _ (x : ℤ) (fits : mag x < 2 ^ 63) (below : lt_z x (pos 0) ≡ true) where
  pub up_fits : SFits w64 (x +ℤ pos 1)
  up_fits = by x fits below
    where
      by : (x : ℤ) → mag x < 2 ^ 63 → lt_z x (pos 0) ≡ true → SFits w64 (x +ℤ pos 1)
      by (pos n) f e = absurd (not-suc-le-zero (ltb-true n 0 e))
      by (negsuc n) f e =
          let q : negsuc n +ℤ pos 1 ≡ neg_ℤ (pos n) = eq_by (add (neglit n) (lit 1)) (neg (lit n)) (omega arith) in
          subst (SFits w64) (sym q) (fit (bd_neg (bd_pos {n = n} {A = 9223372036854775807} (omega arith))) tt)

  pub away_is : pos 0 -ℤ (x +ℤ pos 1) ≡ pos (nat_abs x - 1)
  away_is = by x below
    where
      by : (x : ℤ) → lt_z x (pos 0) ≡ true → pos 0 -ℤ (x +ℤ pos 1) ≡ pos (nat_abs x - 1)
      by (pos n) e = absurd (not-suc-le-zero (ltb-true n 0 e))
      by (negsuc n) e = eq_by (sub (lit 0) (add (neglit n) (lit 1))) (lit (suc n - 1)) (omega arith)

  pub away_some : 0 < nat_abs x
  away_some = by x below
    where
      by : (x : ℤ) → lt_z x (pos 0) ≡ true → 0 < nat_abs x
      by (pos n) e = absurd (not-suc-le-zero (ltb-true n 0 e))
      by (negsuc n) e = omega arith

  away_small : nat_abs x ≤ 2 ^ 63
  away_small = by x fits
    where
      by : (x : ℤ) → mag x < 2 ^ 63 → nat_abs x ≤ 2 ^ 63
      by (pos n) f = omega arith
      by (negsuc n) f = omega arith

  pub away_fits : SFits w64 (pos 0 -ℤ (x +ℤ pos 1))
  away_fits = subst (SFits w64) (sym away_is) (record { sfits = omega (arith, away_small, away_some) })

  pub away_cast : T (non_neg (pos 0 -ℤ (x +ℤ pos 1))) × Fits w64 (nat_abs (pos 0 -ℤ (x +ℤ pos 1)))
  away_cast = rw away_is (tt, record { fits = omega (arith, away_small, away_some) })

  pub away_again : Fits w64 (nat_abs (pos 0 -ℤ (x +ℤ pos 1)) + 1)
  away_again = rw away_is (record { fits = omega (arith, away_small, away_some) })

  pub away_size : nat_abs (pos 0 -ℤ (x +ℤ pos 1)) + 1 ≡ nat_abs x
  away_size = rw away_is (omega (arith, away_some))
