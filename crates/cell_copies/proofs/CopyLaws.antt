-- Laws of arrays that are filled from the left, and of slices put in turn. Assumes nothing.
use Prim.Native.Nat.{ℕ, suc, ◌+◌, ◌-◌, ◌≤◌, ◌<◌, min as least}
use mathlib.Core.Path.{◌≡◌, sym, ap, ◌∙◌}
use mathlib.Core.List.{List}
use mathlib.Core.Logic.{⊎_elim}
use native.Mathlib.Nat.{zero-add}
use native.Mathlib.Omega.{arith}
use native.Mathlib.Numerals.{add-one}
use lib.IntN.{ℤ, pos}
use lib.ListN.{length, drop, get_or, set, drop_of_length-le, get_or-eq_default}
use lib.Seq.{sets}
use Rattle.rules_number.specs.Over.{listed, up_to}
use Rattle.rules_number.proofs.OverLaws.{le_or_lt, up_to_length, up_to_step, up_to_in}
use Rattle.rules_number.proofs.ListedLaws.{listed_is}
use Rattle.rules_text.proofs.ListLaws.{at_cons}
use Rattle.rules_library.specs.Slices.{cell_at}
use Rattle.cells.proofs.PutLaws.{sets_out}

-- the array l, whose first k cells are those that a function of the index gives
abbrev pub filled_to : {A : Type 0} → (ℕ → A) → List A → ℕ → List A
filled_to f l k = up_to (λ i x. f i) 0 k l

module _ {A : Type 0} (b : A) (f : ℕ → A) (l a : List A) (k : ℕ) (e : a ≡ filled_to f l k) where
  pub fills_next : (x : A) → k < length l → x ≡ f k → set a k x ≡ filled_to f l (k + 1)
  fills_next x h g =
      ap (λ (m : List A). set m k x) e ∙ ap (set (filled_to f l k) k) (g ∙ ap f (sym (zero-add k))) ∙ up_to_step (λ i x. f i) b 0 k l h ∙ ap (filled_to f l) (sym (add-one k))

  pub filled : k ≤ length l → length l ≤ k → a ≡ listed f (length l)
  filled h g =
      let n = length l in
      let z : k ≡ n = omega arith in
      e ∙ ap (filled_to f l) z
      ∙ listed_is b (filled_to f l n) f n (up_to_length (λ i x. f i) b 0 n l) (λ q m. up_to_in (λ i x. f i) b 0 n l q m m ∙ ap f (zero-add q))

-- a place past the end reads as the end does
pub at_end : (l : List ℤ) (i : ℕ) → cell_at l (least i (length l)) ≡ cell_at l i
at_end l i = ⊎_elim past before (le_or_lt (length l) i)
  where
    past : length l ≤ i → cell_at l (least i (length l)) ≡ cell_at l i
    past h = get_or-eq_default l (pos 0) (omega arith) ∙ sym (get_or-eq_default l (pos 0) h)

    before : i < length l → cell_at l (least i (length l)) ≡ cell_at l i
    before h = let z : least i (length l) ≡ i = omega arith in ap (cell_at l) z

-- a slice put in turn: what is left of it, put where the loop stands, gives the whole
module _ {A : Type 0} (l out whole : List A) (i at : ℕ) (e : sets out (at + i) (drop i l) ≡ whole) where
  pub puts_next : (d x : A) → i < length l → x ≡ get_or l i d → sets (set out (at + i) x) (at + (i + 1)) (drop (i + 1) l) ≡ whole
  puts_next d x h g =
      let z : at + (i + 1) ≡ suc (at + i) = omega arith in
      ap (λ (y : A). sets (set out (at + i) y) (at + (i + 1)) (drop (i + 1) l)) g ∙ ap (λ (n : ℕ). sets (set out (at + i) (get_or l i d)) n (drop (i + 1) l)) z
      ∙ ap (sets out (at + i)) (sym (at_cons d l i h)) ∙ e

  -- nothing is left, or there is no room
  pub all_put : least (length l) (length out - at) ≤ i → out ≡ whole
  all_put h = ⊎_elim none past (le_or_lt (length l) i)
    where
      none : length l ≤ i → out ≡ whole
      none g = ap (sets out (at + i)) (sym (drop_of_length-le l g)) ∙ e

      past : i < length l → out ≡ whole
      past g = sym (sets_out out (at + i) (drop i l) (omega arith)) ∙ e
