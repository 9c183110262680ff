-- Laws of blocks: what is put into a block stands in that block alone. Assumes nothing.
use Prim.Native.Nat.{ℕ, zero, suc, ◌+◌, ◌*◌, ◌-◌, ◌≤◌, ◌<◌}
use mathlib.Core.Path.{◌≡◌, refl, sym, ap, ◌∙◌}
use mathlib.Core.List.{List, [], ◌∷◌}
use mathlib.Core.Logic.{⊎_elim}
use native.Mathlib.Omega.{arith}
use lib.IntN.{ℤ, pos}
use lib.ListN.{length, get_or, set, replicate, length-set, get_or-eq_default}
use lib.Seq.{sets, length-sets, get_or-set_same, get_or-set_other}
use Rattle.rules_number.specs.Over.{listed}
use Rattle.rules_number.proofs.OverLaws.{le_or_lt, last_or_before, listed_length, listed_at, listed_same}
use Rattle.rules_number.proofs.ListedLaws.{listed_is}
use Rattle.rules_text.proofs.ListLaws.{sets_before}
use Rattle.rules_library.specs.Slices.{cell_at}
use Rattle.rules_state.specs.Layout.{block_room}
use Rattle.rules_state.specs.Openings.{block_of}
use Rattle.text_blocks.specs.Blocks.{blocks_put}

-- ---- a cell after a run of stores
module _ {A : Type 0} (d : A) where
  pub sets_after : (l : List A) (i : ℕ) (a : List A) (j : ℕ) → i + length a ≤ j → get_or (sets l i a) j d ≡ get_or l j d
  sets_after l i [] j h = refl
  sets_after l i (x ∷ a) j h = sets_after (set l i x) (suc i) a j (omega arith) ∙ get_or-set_other l i j x d (λ e. omega arith)

  -- one that was blank
  pub sets_onto : (l : List A) (i : ℕ) (a : List A) (j : ℕ) → i ≤ j → j < length l → get_or l j d ≡ d → get_or (sets l i a) j d ≡ get_or a (j - i) d
  sets_onto l i [] j h k b = b ∙ sym (get_or-eq_default [] d {n = j - i} (omega arith))
  sets_onto l i (x ∷ a) j h k b =
      ⊎_elim
      (λ p.
      let z : j - i ≡ suc (j - suc i) = omega arith in
      sets_onto (set l i x) (suc i) a j p (omega (arith, length-set l i x)) (get_or-set_other l i j x d (λ e. omega arith) ∙ b) ∙ ap (λ (q : ℕ). get_or (x ∷ a) q d) (sym z))
      (λ p.
      let e : j ≡ i = omega arith in
      let z : j - i ≡ 0 = omega arith in
      sets_before d (set l i x) (suc i) a j p ∙ ap (λ (q : ℕ). get_or (set l i x) q d) e ∙ get_or-set_same l i x d (omega arith) ∙ ap (λ (q : ℕ). get_or (x ∷ a) q d) (sym z))
      (le_or_lt (suc i) j)

-- ---- one block
-- a is 80 cells of l from the beginning of block r on
record Window (r : ℕ) (a l : List ℤ) : Type 0 where
  long : length a ≡ 80
  room : block_room * r + 80 ≤ length l
  same : (q : ℕ) → q < 80 → get_or a q (pos 0) ≡ get_or l (block_room * r + q) (pos 0)

window_set : (r : ℕ) (a l : List ℤ) (from : ℕ) (x : ℤ) → Window r a l → Window r (set a from x) (set l (block_room * r + from) x)
window_set r a l from x w = record {
  long = length-set a from x ∙ w.long;
  room = omega (arith, length-set l (block_room * r + from) x, w.room);
  same = λ q h. ⊎_elim (λ p. ⊎_elim (λ e. other q h (λ z. omega (arith, e))) (λ e. here q h (omega arith)) (le_or_lt (suc from) q)) (λ p. other q h (λ z. omega (arith, p))) (le_or_lt from q);
}
  where
    other : (q : ℕ) → q < 80 → (q ≡ from → ⊥) → get_or (set a from x) q (pos 0) ≡ get_or (set l (block_room * r + from) x) (block_room * r + q) (pos 0)
    other q h n = get_or-set_other a from q x (pos 0) n ∙ w.same q h ∙ sym (get_or-set_other l (block_room * r + from) (block_room * r + q) x (pos 0) (λ e. n (omega arith)))

    here : (q : ℕ) → q < 80 → q ≡ from → get_or (set a from x) q (pos 0) ≡ get_or (set l (block_room * r + from) x) (block_room * r + q) (pos 0)
    here q h e =
        ap (λ (i : ℕ). get_or (set a from x) i (pos 0)) e ∙ get_or-set_same a from x (pos 0) (omega (arith, w.long))
        ∙ sym (ap (λ (i : ℕ). get_or (set l (block_room * r + from) x) (block_room * r + i) (pos 0)) e ∙ get_or-set_same l (block_room * r + from) x (pos 0) (omega (arith, w.room)))

window_sets : (r : ℕ) (a l : List ℤ) (from : ℕ) (vs : List ℤ) → Window r a l → Window r (sets a from vs) (sets l (block_room * r + from) vs)
window_sets r a l from [] w = w
window_sets r a l from (x ∷ vs) w =
    let z : block_room * r + suc from ≡ suc (block_room * r + from) = omega arith in
    rw z at (window_sets r (set a from x) (set l (block_room * r + from) x) (suc from) vs (window_set r a l from x w))

pub block_same : (l : List ℤ) (r from : ℕ) (vs : List ℤ) → block_room * r + 80 ≤ length l → block_of (sets l (block_room * r + from) vs) r ≡ sets (block_of l r) from vs
unfolding block_of
block_same l r from vs h =
    let w = window_sets r (block_of l r) l from vs (record {
      long = listed_length (λ k. cell_at l (block_room * r + k)) 80;
      room = h;
      same = λ q k. listed_at (λ i. cell_at l (block_room * r + i)) (pos 0) 80 q k;
    }) in
    sym (listed_is (pos 0) (sets (block_of l r) from vs) (λ k. cell_at (sets l (block_room * r + from) vs) (block_room * r + k)) 80 w.long w.same)

pub block_other : (l : List ℤ) (r i from : ℕ) (vs : List ℤ) → (r ≡ i → ⊥) → from + length vs ≤ 80 → block_of (sets l (block_room * i + from) vs) r ≡ block_of l r
unfolding block_of
block_other l r i from vs n h =
    listed_same (λ k. cell_at (sets l (block_room * i + from) vs) (block_room * r + k)) (λ k. cell_at l (block_room * r + k)) 80
    (λ q k. ⊎_elim (λ p. sets_before (pos 0) l (block_room * i + from) vs (block_room * r + q) (omega arith))
    (λ p. ⊎_elim (λ e. absurd (n (sym e))) (λ e. sets_after (pos 0) l (block_room * i + from) vs (block_room * r + q) (omega arith)) (last_or_before i r p)) (le_or_lt (suc r) i))

-- ---- blocks in turn
module _ {A : Type 0} (f : A → List ℤ) (from : ℕ) (small : (x : A) → from + length (f x) ≤ 80) where
  block_before : (r i : ℕ) (l : List ℤ) (xs : List A) → i < r → block_of (blocks_put f from r l xs) i ≡ block_of l i
  unfolding blocks_put
  block_before r i l [] h = refl
  block_before r i l (x ∷ xs) h = block_before (suc r) i (sets l (block_room * r + from) (f x)) xs (omega arith) ∙ block_other l i r from (f x) (λ e. omega arith) (small x)

  pub block_past : (r i : ℕ) (l : List ℤ) (xs : List A) → r + length xs ≤ i → block_of (blocks_put f from r l xs) i ≡ block_of l i
  unfolding blocks_put
  block_past r i l [] h = refl
  block_past r i l (x ∷ xs) h = block_past (suc r) i (sets l (block_room * r + from) (f x)) xs (omega arith) ∙ block_other l i r from (f x) (λ e. omega arith) (small x)

  block_from : (d : A) (r i : ℕ) (l : List ℤ) (xs : List A) → i < length xs → block_room * (r + i) + 80 ≤ length l → block_of (blocks_put f from r l xs) (r + i) ≡ sets (block_of l (r + i)) from (f (get_or xs i d))
  unfolding blocks_put
  block_from d r i l [] h k = absurd (omega arith)
  block_from d r zero l (x ∷ xs) h k =
      let z : r + 0 ≡ r = omega arith in
      ap (block_of (blocks_put f from (suc r) (sets l (block_room * r + from) (f x)) xs)) z
      ∙ block_before (suc r) r (sets l (block_room * r + from) (f x)) xs (omega arith) ∙ block_same l r from (f x) (omega arith)
      ∙ ap (λ (j : ℕ). sets (block_of l j) from (f x)) (sym z)
  block_from d r (suc i) l (x ∷ xs) h k =
      let z : r + suc i ≡ suc r + i = omega arith in
      ap (block_of (blocks_put f from (suc r) (sets l (block_room * r + from) (f x)) xs)) z
      ∙ block_from d (suc r) i (sets l (block_room * r + from) (f x)) xs (omega arith) (omega (arith, length-sets l (block_room * r + from) (f x)))
      ∙ ap (λ (b : List ℤ). sets b from (f (get_or xs i d))) (block_other l (suc r + i) r from (f x) (λ e. omega arith) (small x) ∙ ap (block_of l) (sym z))

  pub block_at : (d : A) (i : ℕ) (l : List ℤ) (xs : List A) → i < length xs → block_room * i + 80 ≤ length l → block_of (blocks_put f from 0 l xs) i ≡ sets (block_of l i) from (f (get_or xs i d))
  block_at d i l xs h k =
      let z : 0 + i ≡ i = omega arith in
      ap (block_of (blocks_put f from 0 l xs)) (sym z) ∙ block_from d 0 i l xs h (omega arith) ∙ ap (λ (j : ℕ). sets (block_of l j) from (f (get_or xs i d))) z

-- ---- a block of zeros
pub zero_at : (n q : ℕ) → get_or (replicate n (pos 0)) q (pos 0) ≡ pos 0
zero_at zero q = get_or-eq_default [] (pos 0) {n = q} (omega arith)
zero_at (suc n) zero = refl
zero_at (suc n) (suc q) = zero_at n q

abbrev pub blank : List ℤ
blank = listed (λ k. pos 0) 80

pub block_blank : (n r : ℕ) → block_of (replicate n (pos 0)) r ≡ blank
unfolding block_of
block_blank n r = listed_same (λ k. cell_at (replicate n (pos 0)) (block_room * r + k)) (λ k. pos 0) 80 (λ k h. zero_at n (block_room * r + k))
