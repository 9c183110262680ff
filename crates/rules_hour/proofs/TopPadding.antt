-- The k largest amounts stay the same when amounts of 0 follow: portfolios that are not declared name nobody. Assumes nothing.
use mathlib.Core.List.{List}
use mathlib.Core.Logic.{⊎_elim}
use mathlib.Core.Path.{◌≡◌, refl, sym, ◌∙◌}
use Prim.Native.Nat.{ℕ, zero, suc, ◌≤◌, zero-le}
use native.Mathlib.Decide.{ℕ_discrete}
use native.Mathlib.Omega.{arith}
use borrow.Author.Tests.{le-ltb}
use lib.ListN.{set}
use Rattle.rules_number.proofs.OverLaws.{le_or_lt}
use Rattle.rules_path.specs.Paths.{at, largest, top}
use Rattle.rules_path.proofs.LargestLaws.{struck, kept, struck_le}

-- ---- two lists with the same amounts
module _ (w z : List ℕ) (same : (i : ℕ) → at w i ≡ at z i) where
  largest_same : (n : ℕ) → largest w n ≡ largest z n
  unfolding largest
  largest_same zero = refl
  largest_same (suc n) = rw (largest_same n, same (largest z n), same n)

  struck_same : (p i : ℕ) → at (set w p 0) i ≡ at (set z p 0) i
  struck_same p i = go (ℕ_discrete i p)
    where
      go : Dec (i ≡ p) → at (set w p 0) i ≡ at (set z p 0) i
      go (yes e) = rw e (struck w p ∙ sym (struck z p))
      go (no e) = kept w p i e ∙ same i ∙ sym (kept z p i e)

-- ---- amounts of 0 from n on
largest_padded : (z : List ℕ) (n : ℕ) → ((i : ℕ) → n ≤ i → at z i ≡ 0) → (m : ℕ) → n ≤ m → largest z m ≡ largest z n
unfolding largest
largest_padded z n none zero h = let e : n ≡ 0 = omega arith in rw e
largest_padded z n none (suc m) h =
    ⊎_elim (λ l. rw (none m l, le-ltb (at z (largest z m)) 0 zero-le) (largest_padded z n none m l)) (λ l. let e : n ≡ suc m = omega arith in rw e) (le_or_lt n m)

pub top_padded : (n m : ℕ) → n ≤ m → (k : ℕ) (w z : List ℕ) → ((i : ℕ) → at w i ≡ at z i) → ((i : ℕ) → n ≤ i → at z i ≡ 0) → top k w n ≡ top k z m
unfolding top
top_padded n m h zero w z same none = refl
top_padded n m h (suc k) w z same none =
    let first : largest z m ≡ largest w n = largest_padded z n none m h ∙ sym (largest_same w z same n) in
    let p = largest w n in
    rw (first, same p, top_padded n m h k (set w p 0) (set z p 0) (struck_same w z same p) (λ i l. omega (arith, struck_le z p i, none i l)))
