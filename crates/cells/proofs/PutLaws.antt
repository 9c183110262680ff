-- Laws of numbers put in turn. Assumes nothing.
use Prim.Native.Nat.{ℕ, suc, ◌+◌, ◌*◌, ◌≤◌, ◌<◌}
use mathlib.Core.Path.{◌≡◌, refl, sym, ap, ◌∙◌}
use mathlib.Core.List.{List, [], ◌∷◌, ◌++◌, map, flat_map, append_assoc, append-nil}
use native.Mathlib.Nat.{add-zero}
use native.Mathlib.Omega.{arith}
use lib.ListN.{length, drop, get_or, set, drop_of_length-le}
use lib.Seq.{sets, set_out}
use Rattle.rules_text.proofs.ListLaws.{at_cons, sets_append}
use Rattle.rules_library.proofs.SliceLaws.{put_next, put_done}

-- past the end nothing is put
pub sets_out : {A : Type 0} (l : List A) (i : ℕ) (vs : List A) → length l ≤ i → sets l i vs ≡ l
sets_out l i [] h = refl
sets_out l i (a ∷ vs) h = ap (λ (m : List _). sets m (suc i) vs) (set_out l i a h) ∙ sets_out l (suc i) vs (omega arith)

-- a loop that puts f of each element of a list from an offset on: what is left, put where the loop stands, gives the whole
module _ {A B : Type 0} (f : A → B) (l : List A) (before : List B) (at : ℕ) where
  abbrev pub Left : List B → ℕ → Type 0
  Left out i = sets out (at + i) (map f (drop i l)) ≡ sets before at (map f l)

  pub begins : Left before 0
  begins = ap (λ (n : ℕ). sets before n (map f l)) (add-zero at)

  pub goes_on : (d : A) (out : List B) (i : ℕ) (next : List B) (x : B) → Left out i → i < length l → next ≡ set out (at + i) x → x ≡ f (get_or l i d) → Left next (i + 1)
  goes_on d out i next x e h n g =
      ap (λ (m : List B). sets m (at + (i + 1)) (map f (drop (i + 1) l))) n ∙ put_next f l out _ i (at + i) e d x (at + (i + 1)) h g (omega arith)

  pub ends : (out : List B) (i : ℕ) → Left out i → length l ≤ i → out ≡ sets before at (map f l)
  ends out i e h = put_done f l out _ i (at + i) e h

-- blocks, and one more
pub flat_last : {A B : Type 0} (f : A → List B) (l : List A) (x : A) → flat_map f (l ++ (x ∷ [])) ≡ flat_map f l ++ f x
unfolding flat_map
flat_last f [] x = append-nil (f x)
flat_last f (y ∷ l) x = ap (λ (r : List _). f y ++ r) (flat_last f l x) ∙ sym (append_assoc (f y) (flat_map f l) (f x))

-- a loop that puts a block of w numbers for each element
module _ {A B : Type 0} (f : A → List B) (w : ℕ) (l : List A) (before : List B) (at : ℕ) where
  abbrev pub BlocksLeft : List B → ℕ → Type 0
  BlocksLeft out i = sets out (at + w * i) (flat_map f (drop i l)) ≡ sets before at (flat_map f l)

  pub blocks_begin : BlocksLeft before 0
  blocks_begin = let z : at + w * 0 ≡ at = omega arith in ap (λ (n : ℕ). sets before n (flat_map f l)) z

  pub blocks_go_on : (d : A) (out : List B) (i : ℕ) (next : List B) → BlocksLeft out i → i < length l → length (f (get_or l i d)) ≡ w → next ≡ sets out (at + w * i) (f (get_or l i d))
      → BlocksLeft next (i + 1)
  unfolding flat_map
  blocks_go_on d out i next e h k n =
      let x = get_or l i d in
      let later = flat_map f (drop (i + 1) l) in
      let z : at + w * (i + 1) ≡ at + w * i + length (f x) = omega arith in
      ap (λ (m : List B). sets m (at + w * (i + 1)) later) n ∙ ap (λ (m : ℕ). sets (sets out (at + w * i) (f x)) m later) z ∙ sym (sets_append out (at + w * i) (f x) later)
      ∙ ap (λ (r : List A). sets out (at + w * i) (flat_map f r)) (sym (at_cons d l i h)) ∙ e

  pub blocks_end : (out : List B) (i : ℕ) → BlocksLeft out i → length l ≤ i → out ≡ sets before at (flat_map f l)
  unfolding flat_map
  blocks_end out i e h = ap (λ (r : List A). sets out (at + w * i) (flat_map f r)) (sym (drop_of_length-le l h)) ∙ e
