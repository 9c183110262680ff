-- The largest of some amounts where the others are 0. Assumes nothing.
use mathlib.Core.List.{List}
use mathlib.Core.Logic.{⊎_elim}
use mathlib.Core.Path.{◌≡◌}
use Prim.Native.Nat.{ℕ, zero, suc, ◌≤◌, ◌<◌}
use native.Mathlib.Omega.{arith}
use borrow.Author.Tests.{le-ltb}
use Rattle.rules_number.proofs.OverLaws.{last_or_before}
use Rattle.rules_path.specs.Paths.{at, largest}
use Rattle.rules_path.proofs.LargestLaws.{largest_lt}
use Rattle.path.specs.Tallies.{Within}

pub largest_within : (w : List ℕ) (n m : ℕ) → n ≤ m → Within w n → largest w n ≡ largest w m
unfolding largest
largest_within w n zero l h = let e : n ≡ 0 = omega arith in rw e
largest_within w n (suc m) l h = ⊎_elim (λ e. rw e) (λ k. more k (largest_within w n m (omega arith) h)) (last_or_before n (suc m) (omega arith))
  where
    more : n < suc m → largest w n ≡ largest w m → largest w n ≡ largest w (suc m)
    more k e = rw (le-ltb (at w (largest w m)) (at w m) (omega (arith, h m (omega arith)))) e

-- the largest of one amount is that
pub largest_one : (w : List ℕ) → 0 ≡ largest w 1
largest_one w = omega (arith, largest_lt w 0)
