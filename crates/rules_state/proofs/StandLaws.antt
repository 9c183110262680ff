-- A list that stands in the cells of another from one of them on, and what is read back from it. Assumes nothing.
use mathlib.Core.List.{List, [], ◌∷◌, ◌++◌, map, flat_map}
use mathlib.Core.Path.{◌≡◌, refl, sym, ap, ap₂, ◌∙◌}
use Prim.Native.Nat.{ℕ, zero, suc, ◌+◌, ◌-◌, ◌*◌, ◌≤◌, ◌<◌}
use native.Mathlib.Nat.{add-zero, mul-zero, mul-suc}
use native.Mathlib.Omega.{arith}
use lib.IntN.{ℤ, pos}
use lib.ListN.{length, get_or, set, replicate, length-append, length-set, length-map, get_or-append}
use lib.Seq.{sets, get_or-append-add, get_or-set_same, get_or-set_other}
use Rattle.rules_number.specs.Over.{listed, padded}
use Rattle.rules_number.proofs.ListedLaws.{listed_is}
use Rattle.rules_text.proofs.ListLaws.{sets_before}
use Rattle.rules_library.specs.Slices.{cell_at}
use Rattle.rules_state.specs.Fits.{Each}

-- the list a stands in l from cell i on
abbrev pub Stands : List ℤ → ℕ → List ℤ → Type 0
Stands l i a = (k : ℕ) → k < length a → cell_at l (i + k) ≡ cell_at a k

-- ---- a run of stores
module _ {A : Type 0} (d : A) where
  -- what is stored is there
  pub stored_at : (l : List A) (i : ℕ) (a : List A) → i + length a ≤ length l → (k : ℕ) → k < length a → get_or (sets l i a) (i + k) d ≡ get_or a k d
  stored_at l i [] h k m = absurd (omega arith)
  stored_at l i (x ∷ a) h zero m = rw add-zero (sets_before d (set l i x) (suc i) a i (omega arith) ∙ get_or-set_same l i x d (omega arith))
  stored_at l i (x ∷ a) h (suc k) m =
      let e : i + suc k ≡ suc i + k = omega arith in
      ap (λ (q : ℕ). get_or (sets (set l i x) (suc i) a) q d) e ∙ stored_at (set l i x) (suc i) a (omega (arith, length-set l i x)) k (omega arith)

  -- the cells past it are as they were; those before it are too (`sets_before`)
  pub stored_past : (l : List A) (i : ℕ) (a : List A) (k : ℕ) → i + length a ≤ k → get_or (sets l i a) k d ≡ get_or l k d
  stored_past l i [] k h = refl
  stored_past l i (x ∷ a) k h = stored_past (set l i x) (suc i) a k (omega arith) ∙ get_or-set_other l i k x d (λ e. omega arith)

pub stands_stored : (l : List ℤ) (i : ℕ) (a : List ℤ) → i + length a ≤ length l → Stands (sets l i a) i a
stands_stored = stored_at (pos 0)

-- ---- parts of what stands
module _ (l : List ℤ) (i : ℕ) where
  pub stands_first : (x : ℤ) (a : List ℤ) → Stands l i (x ∷ a) → cell_at l i ≡ x
  stands_first x a s = ap (λ (q : ℕ). cell_at l q) (sym (add-zero i)) ∙ s 0 (omega arith)

  pub stands_rest : (x : ℤ) (a : List ℤ) (j : ℕ) → j ≡ i + 1 → Stands l i (x ∷ a) → Stands l j a
  stands_rest x a j e s k m =
      let q : j + k ≡ i + suc k = omega arith in
      ap (λ (n : ℕ). cell_at l n) q ∙ s (suc k) (omega arith)

  pub stands_left : (a b : List ℤ) → Stands l i (a ++ b) → Stands l i a
  stands_left a b s k m = s k (omega (arith, length-append a b)) ∙ get_or-append a b (pos 0) k m

  pub stands_right : (a b : List ℤ) (j : ℕ) → j ≡ i + length a → Stands l i (a ++ b) → Stands l j b
  stands_right a b j e s k m =
      let q : j + k ≡ i + (length a + k) = omega arith in
      ap (λ (n : ℕ). cell_at l n) q ∙ s (length a + k) (omega (arith, length-append a b)) ∙ get_or-append-add a b k (pos 0)

-- ---- each entry of a list
pub each_at : {A : Type 0} (P : A → Type 0) (l : List A) (k : ℕ) (d : A) → Each P l → k < length l → P (get_or l k d)
each_at P [] k d e h = absurd (omega arith)
each_at P (x ∷ l) zero d e h = e.0
each_at P (x ∷ l) (suc k) d e h = each_at P l k d e.1 (omega arith)

pub each_also : {A : Type 0} (P Q : A → Type 0) (l : List A) → ((x : A) → P x → Q x) → Each P l → Each Q l
each_also P Q [] f e = tt
each_also P Q (x ∷ l) f e = (f x e.0, each_also P Q l f e.1)

module _ {A : Type 0} (P : A → Type 0) where
  pub each_append : (k l : List A) → Each P k → Each P l → Each P (k ++ l)
  each_append [] l e f = f
  each_append (x ∷ k) l e f = (e.0, each_append k l e.1 f)

  pub each_blank : (n : ℕ) (b : A) → P b → Each P (replicate n b)
  each_blank zero b h = tt
  each_blank (suc n) b h = (h, each_blank n b h)

  pub each_padded : (n : ℕ) (b : A) (l : List A) → P b → Each P l → Each P (padded n b l)
  unfolding padded
  each_padded n b l h e = each_append l (replicate (n - length l) b) e (each_blank (n - length l) b h)

  pub each_listed : (f : ℕ → A) (n : ℕ) → ((i : ℕ) → i < n → P (f i)) → Each P (listed f n)
  unfolding listed
  each_listed f zero h = tt
  each_listed f (suc n) h = each_append (listed f n) (f n ∷ []) (each_listed f n (λ i l. h i (omega arith))) (h n (omega arith), tt)

-- ---- lists of w numbers each, one after the other
module _ {A : Type 0} (f : A → List ℤ) (w : ℕ) where
  pub flat_length : (xs : List A) → Each (λ x. length (f x) ≡ w) xs → length (flat_map f xs) ≡ w * length xs
  unfolding flat_map
  flat_length [] e = sym (mul-zero w)
  flat_length (x ∷ xs) e = length-append (f x) (flat_map f xs) ∙ ap₂ (λ (p q : ℕ). p + q) e.0 (flat_length xs e.1) ∙ rw mul-suc (omega arith)

  pub stands_each : (d : A) (l : List ℤ) (xs : List A) (i : ℕ) → Each (λ x. length (f x) ≡ w) xs → Stands l i (flat_map f xs)
      → (r : ℕ) → r < length xs → Stands l (i + w * r) (f (get_or xs r d))
  unfolding flat_map
  stands_each d l [] i e s r h = absurd (omega arith)
  stands_each d l (x ∷ xs) i e s zero h = rw (mul-zero w, add-zero i) (stands_left l i (f x) (flat_map f xs) s)
  stands_each d l (x ∷ xs) i e s (suc r) h =
      let z = e.0 in
      let j : i + w * suc r ≡ (i + w) + w * r = rw mul-suc (omega arith) in
      rw j (stands_each d l xs (i + w) e.1 (stands_right l i (f x) (flat_map f xs) (i + w) (omega arith) s) r (omega arith))

-- ---- read back
pub map_at : {A : Type 0} (f : A → ℤ) (d : A) (xs : List A) (k : ℕ) → k < length xs → cell_at (map f xs) k ≡ f (get_or xs k d)
map_at f d [] k h = absurd (omega arith)
map_at f d (x ∷ xs) zero h = refl
map_at f d (x ∷ xs) (suc k) h = map_at f d xs k (omega arith)

-- a list of which two numbers of each entry stand in cells, from i on and from j on
module _ {A : Type 0} (d : A) (f g : A → ℤ) (h : ℤ → ℤ → A) (P : A → Type 0) (back : (x : A) → P x → h (f x) (g x) ≡ x) where
  pub read_back : (l : List ℤ) (i j n : ℕ) (xs : List A) → length xs ≡ n → Each P xs → Stands l i (map f xs) → Stands l j (map g xs)
      → listed (λ k. h (cell_at l (i + k)) (cell_at l (j + k))) n ≡ xs
  read_back l i j n xs e p s t = sym (listed_is d xs (λ k. h (cell_at l (i + k)) (cell_at l (j + k))) n e at)
    where
      at : (k : ℕ) → k < n → get_or xs k d ≡ h (cell_at l (i + k)) (cell_at l (j + k))
      at k m =
          let q : k < length xs = omega arith in
          let a : cell_at l (i + k) ≡ f (get_or xs k d) = s k (omega (arith, length-map xs f)) ∙ map_at f d xs k q in
          let b : cell_at l (j + k) ≡ g (get_or xs k d) = t k (omega (arith, length-map xs g)) ∙ map_at g d xs k q in
          sym (rw (a, b) (back (get_or xs k d) (each_at P xs k d p q)))
