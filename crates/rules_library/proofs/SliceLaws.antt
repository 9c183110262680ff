-- Laws of the loops that read lent slices and write to them. Assumes nothing.
use Prim.Native.Nat.{ℕ, suc, ◌+◌, ◌≤◌, ◌<◌}
use mathlib.Core.Path.{◌≡◌, sym, ap, ◌∙◌}
use mathlib.Core.List.{List, map}
use native.Mathlib.Omega.{arith}
use native.Mathlib.Numerals.{add-one}
use lib.ListN.{length, drop, get_or, set, drop_of_length-le}
use lib.Seq.{sets}
use Rattle.rules_number.specs.Over.{listed, padded}
use Rattle.rules_number.proofs.OverLaws.{padded_next}
use Rattle.rules_number.proofs.ListedLaws.{padded_full}
use Rattle.rules_text.proofs.ListLaws.{at_cons}

-- an array of n cells that is filled from the left, by a function of the index
module _ {A : Type 0} (n : ℕ) (b : A) (f : ℕ → A) (a : List A) (i : ℕ) where
  pub filled_next : (x : A) → i < n → a ≡ padded n b (listed f i) → x ≡ f i → set a i x ≡ padded n b (listed f (i + 1))
  filled_next x h e g =
      ap (λ (l : List A). set l i x) e ∙ ap (set (padded n b (listed f i)) i) g ∙ padded_next n b f i h ∙ ap (λ (k : ℕ). padded n b (listed f k)) (sym (add-one i))

  pub filled : i ≤ n → n ≤ i → a ≡ padded n b (listed f i) → a ≡ listed f n
  filled h k e =
      let z : i ≡ n = omega arith in
      e ∙ ap (λ (j : ℕ). padded n b (listed f j)) z ∙ padded_full n b f

-- a list put from an offset on: what is left of it, put where the loop stands, gives the whole
module _ {A B : Type 0} (f : A → B) (l : List A) (out whole : List B) (i at : ℕ) (e : sets out at (map f (drop i l)) ≡ whole) where
  pub put_next : (d : A) (x : B) (next : ℕ) → i < length l → x ≡ f (get_or l i d) → next ≡ suc at → sets (set out at x) next (map f (drop (i + 1) l)) ≡ whole
  put_next d x next h g k =
      ap (λ (y : B). sets (set out at y) next (map f (drop (i + 1) l))) g ∙ ap (λ (n : ℕ). sets (set out at (f (get_or l i d))) n (map f (drop (i + 1) l))) k
      ∙ ap (λ (r : List A). sets out at (map f r)) (sym (at_cons d l i h)) ∙ e

  pub put_done : length l ≤ i → out ≡ whole
  put_done h = ap (λ (r : List A). sets out at (map f r)) (sym (drop_of_length-le l h)) ∙ e
