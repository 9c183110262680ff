-- Laws of the price of a quantity. Assumes nothing.
use mathlib.Core.List.{List, [], ◌∷◌}
use mathlib.Core.Logic.{◌⊎◌, inl, inr, ⊎_elim}
use mathlib.Core.Path.{◌≡◌}
use Prim.Native.Nat.{ℕ, ◌<◌, ◌≤◌}
use native.Mathlib.Omega.{arith}
use borrow.Author.Tests.{lt-ltb, le-ltb}
use lib.IntN.{ℤ}
use lib.Signed.{◌≤ℤ◌}
use Rattle.rules_number.proofs.Kit.{≤ℤ_trans}
use Rattle.rules_number.proofs.OverLaws.{le_or_lt}
use Rattle.rules_curve.specs.Curves.{price_at, end_of}
use Rattle.rules_curve.specs.Meaning.{Rising, NeverBelow, NeverFalling}
use Rattle.rules_curve.specs.declared.Step.{Step}

-- ---- the price at a quantity
module _ (s : Step) (l : List Step) (q : ℕ) where
  pub price_here : q < s.end → price_at (s ∷ l) q ≡ s.price
  unfolding price_at
  price_here h = rw (lt-ltb q s.end h)

  pub price_later : s.end ≤ q → price_at (s ∷ l) q ≡ price_at l q
  unfolding price_at
  price_later h = rw (le-ltb q s.end h)

-- q lies below the end of some step
abbrev pub Within : List Step → ℕ → Type 0
Within [] q = ⊥
Within (s ∷ l) q = (q < s.end) ⊎ Within l q

pub within_later : (s : Step) (l : List Step) (q : ℕ) → s.end ≤ q → Within (s ∷ l) q → Within l q
within_later s l q h (inl w) = absurd (omega arith)
within_later s l q h (inr w) = w

pub within_end : (p : ℕ) (l : List Step) (q : ℕ) → p ≤ q → q < end_of p l → Within l q
within_end p [] q h k = absurd (omega arith)
within_end p (s ∷ l) q h k = ⊎_elim (λ x. inr (within_end s.end l q x k)) (λ x. inl x) (le_or_lt s.end q)

pub rising_end : (p : ℕ) (l : List Step) → Rising p l → p ≤ end_of p l
rising_end p [] r = omega arith
rising_end p (s ∷ l) r = omega (arith, rising_end s.end l r.1)

-- ---- prices that never fall
pub below_later : (p : ℤ) (l : List Step) → NeverBelow p l → NeverFalling l
below_later p [] b = tt
below_later p (s ∷ l) b = b.1

pub never_below : {p q : ℤ} (l : List Step) → p ≤ℤ q → NeverBelow q l → NeverBelow p l
never_below [] h b = tt
never_below (s ∷ l) h b = (≤ℤ_trans h b.0, b.1)
