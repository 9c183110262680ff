-- An array that keeps what it has room for holds that, and blanks after it. Assumes nothing.
use Prim.Native.Nat.{ℕ, ◌≤◌, ◌<◌}
use mathlib.Core.Path.{◌≡◌, refl, sym, ap, ◌∙◌}
use mathlib.Core.List.{List, [], ◌∷◌, map}
use mathlib.Core.Logic.{⊎_elim}
use native.Mathlib.Omega.{arith}
use lib.ListN.{length, get_or, take, replicate, length-take, length-replicate, get_or-eq_default}
use lib.Seq.{sets, length-sets, get_or-take, ext_get_or}
use Rattle.rules_number.proofs.OverLaws.{le_or_lt, padded_at, padded_length}
use Rattle.rules_number.proofs.CellLaws.{cell_past}
use Rattle.rules_text.specs.Offsets.{kept}
use Rattle.rules_text.proofs.ListLaws.{sets_read}
use Rattle.rules_parts.specs.Texts.{array_of}

module _ {A : Type 0} where
  -- a cell of it has what stands there in the list, and the blank past it
  array_at : (n : ℕ) (d : A) (l : List A) (k : ℕ) → k < n → get_or (array_of n d l) k d ≡ get_or l k d
  array_at n d l k h = ⊎_elim
      (λ (p : length l ≤ k). cell_past n d (take n l) k (omega (arith, length-take n l)) ∙ sym (get_or-eq_default l d p))
      (λ (p : k < length l). padded_at n d (take n l) k d (omega (arith, length-take n l)) ∙ get_or-take n l k d h) (le_or_lt (length l) k)

  pub kept_array : (n : ℕ) (d : A) (l : List A) → kept n d l ≡ array_of n d l
  unfolding kept
  kept_array n d l =
      let m = length-sets (replicate n d) 0 l ∙ length-replicate n d in
      ext_get_or d (sets (replicate n d) 0 l) (array_of n d l) (m ∙ sym (padded_length n d (take n l) (omega (arith, length-take n l))))
      (λ k h. let b : k < n = omega (arith, m) in sets_read n d l k b ∙ sym (array_at n d l k b))

  pub map_same : (l : List A) → map (λ x. x) l ≡ l
  map_same [] = refl
  map_same (x ∷ l) = ap (λ (t : List A). x ∷ t) (map_same l)
