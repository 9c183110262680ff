-- Cells of padded arrays. Assumes nothing.
use mathlib.Core.List.{List}
use mathlib.Core.Path.{◌≡◌, refl, sym, ◌∙◌}
use Prim.Native.Nat.{ℕ, zero, suc, ◌+◌, ◌-◌, ◌≤◌, ◌<◌}
use native.Mathlib.Nat.{le_trans, le_of_eq}
use native.Mathlib.Omega.{arith}
use lib.ListN.{length, get_or, replicate}
use lib.Seq.{get_or-append-add}
use Rattle.rules_number.specs.Over.{listed, padded}
use Rattle.rules_number.proofs.OverLaws.{padded_at, listed_at, listed_length}

-- a cell that a function gives
pub cell_listed : {A : Type 0} (n : ℕ) (b d : A) (f : ℕ → A) (k i : ℕ) → i < k → get_or (padded n b (listed f k)) i d ≡ f i
cell_listed n b d f k i h = padded_at n b (listed f k) i d (le_trans h (le_of_eq (sym (listed_length f k)))) ∙ listed_at f d k i h

-- a cell past what an array holds has the padding
pub cell_past : {A : Type 0} (n : ℕ) (b : A) (l : List A) (i : ℕ) → length l ≤ i → get_or (padded n b l) i b ≡ b
unfolding padded
cell_past n b l i h =
    let e : i ≡ length l + (i - length l) = omega arith in
    rw e (rw (get_or-append-add l (replicate (n - length l) b) (i - length l) b) (blank (n - length l) (i - length l) b))
  where
    blank : {A : Type 0} (n i : ℕ) (b : A) → get_or (replicate n b) i b ≡ b
    blank zero i b = refl
    blank (suc n) zero b = refl
    blank (suc n) (suc i) b = blank n i b
