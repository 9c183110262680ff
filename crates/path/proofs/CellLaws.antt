-- A verdict's cells, set one by one in the block that they stand in. Assumes nothing.
use mathlib.Core.List.{List, [], ◌∷◌, map}
use mathlib.Core.Path.{◌≡◌, refl, sym, ap, ◌∙◌}
use Prim.Native.Nat.{ℕ, zero, suc, ◌+◌, ◌<◌}
use native.Mathlib.Omega.{arith}
use lib.IntN.{ℤ, pos}
use lib.ListN.{length, set, replicate}
use lib.Seq.{sets, set-set, set_comm}
use Rattle.rules_path.specs.Verdicts.{not_binding}
use Rattle.path.specs.Tallies.{Clear}
use Rattle.rules_state.specs.Verdicts.{verdict_cells}

module _ {A : Type 0} where
  -- a cell before a block
  sets_before : (l : List A) (i : ℕ) (xs : List A) (j : ℕ) (x : A) → j < i → set (sets l i xs) j x ≡ sets (set l j x) i xs
  sets_before l i [] j x h = refl
  sets_before l i (a ∷ xs) j x h =
      sets_before (set l i a) (suc i) xs j x (omega arith) ∙ ap (λ (m : List A). sets m (suc i) xs) (set_comm l i j a x (λ e. omega arith))

  -- a cell of a block
  pub set_in : (l : List A) (i : ℕ) (xs : List A) (k : ℕ) (x : A) → k < length xs → set (sets l i xs) (i + k) x ≡ sets l i (set xs k x)
  set_in l i [] k x h = absurd (omega arith)
  set_in l i (a ∷ xs) zero x h =
      let z : i + 0 ≡ i = omega arith in
      ap (λ (j : ℕ). set (sets (set l i a) (suc i) xs) j x) z ∙ sets_before (set l i a) (suc i) xs i x (omega arith) ∙ ap (λ (m : List A). sets m (suc i) xs) (set-set l i a x)
  set_in l i (a ∷ xs) (suc k) x h =
      let z : i + suc k ≡ suc i + k = omega arith in
      ap (λ (j : ℕ). set (sets (set l i a) (suc i) xs) j x) z ∙ set_in (set l i a) (suc i) xs k x (omega arith)

  -- a block over a block
  pub sets_over : (l : List A) (i : ℕ) (xs ys : List A) → length xs ≡ length ys → sets (sets l i xs) i ys ≡ sets l i ys
  sets_over l i [] [] h = refl
  sets_over l i [] (y ∷ ys) h = absurd (omega arith)
  sets_over l i (x ∷ xs) [] h = absurd (omega arith)
  sets_over l i (x ∷ xs) (y ∷ ys) h =
      ap (λ (m : List A). sets m (suc i) ys) (sets_before (set l i x) (suc i) xs i y (omega arith)) ∙ sets_over (set (set l i x) i y) (suc i) xs ys (omega arith)
      ∙ ap (λ (m : List A). sets m (suc i) ys) (set-set l i x y)

pub map_set : {A B : Type 0} (f : A → B) (l : List A) (i : ℕ) (a : A) → map f (set l i a) ≡ set (map f l) i (f a)
map_set f [] i a = refl
map_set f (x ∷ l) zero a = refl
map_set f (x ∷ l) (suc i) a = ap (λ (m : List _). f x ∷ m) (map_set f l i a)

-- ---- the twenty cells of a verdict, from cell i on
module _ (l : List ℤ) (i : ℕ) where
  -- cleared
  abbrev pub cleared : List ℤ
  cleared = sets l i (replicate 20 (pos 0))

  four : i + 4 ≡ suc (suc (suc (suc i)))
  four = omega arith

  -- the first four of them
  begun : List ℤ
  begun = sets l i (replicate 4 (pos 0))

  over_clear : (w : List ℤ) → length w ≡ 16 → sets cleared (i + 4) w ≡ sets l i (pos 0 ∷ pos 0 ∷ pos 0 ∷ pos 0 ∷ w)
  unfolding begun
  over_clear w h = rw four (sets_over begun (suc (suc (suc (suc i)))) (replicate 16 (pos 0)) w (sym h))

  pub clear : Clear cleared (i + 4)
  unfolding Clear
  clear = sym (over_clear (replicate 16 (pos 0)) refl)

  pub not_binding_lem : set cleared i (pos 2) ≡ sets l i (verdict_cells not_binding)
  unfolding verdict_cells
  not_binding_lem =
      let z : i ≡ i + 0 = omega arith in
      ap (λ (j : ℕ). set cleared j (pos 2)) z ∙ set_in l i (replicate 20 (pos 0)) 0 (pos 2) (omega arith)

  -- what the sellers withhold, and then the finding, demand, left and the sellers named
  module _ (w out : List ℤ) (sixteen : length w ≡ 16) (out-is : out ≡ sets cleared (i + 4) w) where
    pub found_none : out ≡ sets l i (pos 0 ∷ pos 0 ∷ pos 0 ∷ pos 0 ∷ w)
    found_none = out-is ∙ over_clear w sixteen

    pub found_one : set out i (pos 1) ≡ sets l i (pos 1 ∷ pos 0 ∷ pos 0 ∷ pos 0 ∷ w)
    found_one =
        let z : i ≡ i + 0 = omega arith in
        ap (λ (j : ℕ). set out j (pos 1)) z ∙ ap (λ (o : List ℤ). set o (i + 0) (pos 1)) found_none ∙ set_in l i (pos 0 ∷ pos 0 ∷ pos 0 ∷ pos 0 ∷ w) 0 (pos 1) (omega arith)

  pub filled : (f a b c : ℤ) (w out : List ℤ) → out ≡ sets l i (f ∷ pos 0 ∷ pos 0 ∷ pos 0 ∷ w) → set (set (set out (i + 1) a) (i + 2) b) (i + 3) c ≡ sets l i (f ∷ a ∷ b ∷ c ∷ w)
  filled f a b c w out e =
      ap (λ (o : List ℤ). set (set (set o (i + 1) a) (i + 2) b) (i + 3) c) e
      ∙ ap (λ (o : List ℤ). set (set o (i + 2) b) (i + 3) c) (set_in l i (f ∷ pos 0 ∷ pos 0 ∷ pos 0 ∷ w) 1 a (omega arith))
      ∙ ap (λ (o : List ℤ). set o (i + 3) c) (set_in l i (f ∷ a ∷ pos 0 ∷ pos 0 ∷ w) 2 b (omega arith)) ∙ set_in l i (f ∷ a ∷ b ∷ pos 0 ∷ w) 3 c (omega arith)
