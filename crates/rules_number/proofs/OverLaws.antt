-- Laws of the sums, lists and tests over 0, .., n - 1.
use mathlib.Core.Bool.{Bool, true, false, ◌&&◌, cond}
use mathlib.Core.List.Memᴰ
use mathlib.Core.List.{List, [], ◌∷◌, ◌++◌, Memᴰ, append_assoc}
use mathlib.Core.Logic.{◌⊎◌, inl, inr, ⊎_elim, ◌↔◌}
use mathlib.Core.Path.{◌≡◌, refl, sym, ap, ap₂, ◌∙◌}
use Prim.Native.Nat.{ℕ, zero, suc, ◌+◌, ◌-◌, ◌≤◌, ◌<◌}
use native.Mathlib.Nat.{add-zero, add-suc, le_refl}
use native.Mathlib.Numerals.{add-one}
use native.Mathlib.Decide.{ℕ_discrete}
use native.Mathlib.Omega.{arith}
use borrow.Author.Tests.{leb-true, leb-false}
use lib.Dec.{leb}
use lib.IntN.{ℤ, ◌+ℤ◌, +ℤ_idl, +ℤ_idr, +ℤ_assoc}
use lib.ListN.{length, get_or, take, replicate, length-append, length-replicate, length-take, get_or-append, set}
use lib.Seq.{get_or-append_seam, get_or-take, take-append_seam, set_at}
use lib.Signed.{◌≤ℤ◌}
use Rattle.rules_number.proofs.OrderLaws.{max_ge_left, max_least}
use Rattle.rules_number.specs.Over.{sum_to, all_to, highest_to, listed, those, padded, up_to, sum_over}

-- ---- tests
pub never : {X : Type 0} → false ≡ true → X
never e = absurd (let z : ◌≡◌ {A = ℕ} 0 1 = cc in omega arith)

-- both tests of an `and` passed
pub both : (a b : Bool) → (a && b) ≡ true → (a ≡ true) × (b ≡ true)
both true b e = (refl, e)
both false b e = never e

-- a test comes out one way or the other
pub tested : (t : Bool) → (t ≡ true) ⊎ (t ≡ false)
tested true = inl refl
tested false = inr refl

pub le_or_lt : (a b : ℕ) → (a ≤ b) ⊎ (b < a)
le_or_lt a b = go (leb a b) refl
  where
    go : (t : Bool) → leb a b ≡ t → (a ≤ b) ⊎ (b < a)
    go true e = inl (leb-true a b e)
    go false e = inr (leb-false a b e)

-- a number below suc n is n or below n
pub last_or_before : (i n : ℕ) → i < suc n → (i ≡ n) ⊎ (i < n)
last_or_before i n h = go (ℕ_discrete i n)
  where
    go : Dec (i ≡ n) → (i ≡ n) ⊎ (i < n)
    go (yes e) = inl e
    go (no e) = inr (omega arith)

-- ---- all of 0, .., n - 1
pub all_at : (f : ℕ → Bool) (n : ℕ) → all_to f n ≡ true → (i : ℕ) → i < n → f i ≡ true
unfolding all_to
all_at f zero e i h = absurd (omega arith)
all_at f (suc n) e i h =
    let b = both (all_to f n) (f n) e in
    ⊎_elim (λ x. rw x b.1) (λ l. all_at f n b.0 i l) (last_or_before i n h)

pub all_of : (f : ℕ → Bool) (n : ℕ) → ((i : ℕ) → i < n → f i ≡ true) → all_to f n ≡ true
unfolding all_to
all_of f zero h = refl
all_of f (suc n) h = rw (all_of f n (λ i l. h i (omega arith)), h n (le_refl (suc n)))

pub all_same : (f g : ℕ → Bool) (n : ℕ) → ((i : ℕ) → i < n → f i ≡ g i) → all_to f n ≡ all_to g n
unfolding all_to
all_same f g zero h = refl
all_same f g (suc n) h = ap₂ ◌&&◌ (all_same f g n (λ i l. h i (omega arith))) (h n (le_refl (suc n)))

-- a loop's turn, and its early end
module _ (f : ℕ → Bool) where
  pub all_next : (n : ℕ) → all_to f n ≡ true → f n ≡ true → all_to f (n + 1) ≡ true
  unfolding all_to
  all_next n a b = rw (add-one n, a, b)

  pub all_fails : (n i : ℕ) → i < n → f i ≡ false → all_to f n ≡ false
  unfolding all_to
  all_fails zero i h e = absurd (omega arith)
  all_fails (suc n) i h e = ⊎_elim (λ x. second (all_to f n) (f n) (ap f (sym x) ∙ e)) (λ l. rw (all_fails n i l e)) (last_or_before i n h)
    where
      second : (a b : Bool) → b ≡ false → (a && b) ≡ false
      second true b e = e
      second false b e = refl

-- ---- sums
pub sum_same : (f g : ℕ → ℕ) (n : ℕ) → ((i : ℕ) → i < n → f i ≡ g i) → sum_to f n ≡ sum_to g n
unfolding sum_to
sum_same f g zero h = refl
sum_same f g (suc n) h = ap₂ (λ (x y : ℕ). x + y) (sum_same f g n (λ i l. h i (omega arith))) (h n (le_refl (suc n)))

-- ---- the highest
pub highest_ge : (f : ℕ → ℤ) (n : ℕ) → highest_to f n ≤ℤ highest_to f (suc n)
unfolding highest_to
highest_ge f n = max_ge_left (highest_to f n) (f (suc n))

-- what bounds each of them bounds the highest
pub highest_bound : (P : ℤ → Type 0) (f : ℕ → ℤ) (n : ℕ) → ((i : ℕ) → i ≤ n → P (f i)) → P (highest_to f n)
unfolding highest_to
highest_bound P f zero h = h 0 (le_refl 0)
highest_bound P f (suc n) h = max_least P (highest_to f n) (f (suc n)) (highest_bound P f n (λ i l. h i (omega arith))) (h (suc n) (le_refl (suc n)))

-- ---- lists
module _ {A : Type 0} where
  pub listed_length : (f : ℕ → A) (n : ℕ) → length (listed f n) ≡ n
  unfolding listed
  listed_length f zero = refl
  listed_length f (suc n) = rw (length-append (listed f n) (f n ∷ []), listed_length f n) (omega arith)

  pub listed_at : (f : ℕ → A) (d : A) (n i : ℕ) → i < n → get_or (listed f n) i d ≡ f i
  unfolding listed
  listed_at f d zero i h = absurd (omega arith)
  listed_at f d (suc n) i h =
      ⊎_elim here (λ l. get_or-append (listed f n) (f n ∷ []) d i (omega (arith, listed_length f n)) ∙ listed_at f d n i l) (last_or_before i n h)
    where
      here : i ≡ n → get_or (listed f n ++ (f n ∷ [])) i d ≡ f i
      here e =
          let l : i ≡ length (listed f n) = e ∙ sym (listed_length f n) in
          ap (λ (j : ℕ). get_or (listed f n ++ (f n ∷ [])) j d) l ∙ get_or-append_seam (listed f n) (f n) [] d ∙ ap f (sym e)

  pub listed_same : (f g : ℕ → A) (n : ℕ) → ((i : ℕ) → i < n → f i ≡ g i) → listed f n ≡ listed g n
  unfolding listed
  listed_same f g zero h = refl
  listed_same f g (suc n) h = ap₂ (λ (l : List A) (x : A). l ++ (x ∷ [])) (listed_same f g n (λ i l. h i (omega arith))) (h n (le_refl (suc n)))

  -- the used cells of a padded array
  pub padded_used : (n : ℕ) (b : A) (l : List A) → take (length l) (padded n b l) ≡ l
  unfolding padded
  padded_used n b l = take-append_seam l (replicate (n - length l) b)

  pub padded_at : (n : ℕ) (b : A) (l : List A) (i : ℕ) (d : A) → i < length l → get_or (padded n b l) i d ≡ get_or l i d
  unfolding padded
  padded_at n b l i d h = get_or-append l (replicate (n - length l) b) d i h

  pub padded_length : (n : ℕ) (b : A) (l : List A) → length l ≤ n → length (padded n b l) ≡ n
  unfolding padded
  padded_length n b l h = rw (length-append l (replicate (n - length l) b), length-replicate (n - length l) b) (omega arith)

module _ {A : Type 0} (f : ℕ → A → A) (d : A) where
  pub up_to_length : (k n : ℕ) (l : List A) → length (up_to f k n l) ≡ length l
  unfolding up_to
  up_to_length k zero l = refl
  up_to_length k (suc n) [] = refl
  up_to_length k (suc n) (x ∷ xs) = ap suc (up_to_length (suc k) n xs)

  -- the element at n is still the old one
  pub up_to_at : (k n : ℕ) (l : List A) → get_or (up_to f k n l) n d ≡ get_or l n d
  unfolding up_to
  up_to_at k zero l = refl
  up_to_at k (suc n) [] = refl
  up_to_at k (suc n) (x ∷ xs) = up_to_at (suc k) n xs

  -- and a store there of its new value is one turn of the loop
  pub up_to_step : (k n : ℕ) (l : List A) → n < length l → set (up_to f k n l) n (f (k + n) (get_or l n d)) ≡ up_to f k (suc n) l
  unfolding up_to
  up_to_step k zero [] h = refl
  up_to_step k zero (x ∷ xs) h = rw add-zero
  up_to_step k (suc n) [] h = refl
  up_to_step k (suc n) (x ∷ xs) h = ap (λ (t : List A). f k x ∷ t) (rw (add-suc, ← suc_add_here k n) (up_to_step (suc k) n xs (omega arith)))
    where
      suc_add_here : (a b : ℕ) → suc a + b ≡ suc (a + b)
      suc_add_here a b = omega arith

  -- an element among the first n is replaced
  pub up_to_in : (k n : ℕ) (l : List A) (i : ℕ) → i < n → i < length l → get_or (up_to f k n l) i d ≡ f (k + i) (get_or l i d)
  unfolding up_to
  up_to_in k zero l i h m = absurd (omega arith)
  up_to_in k (suc n) [] i h m = absurd (omega arith)
  up_to_in k (suc n) (x ∷ xs) zero h m = rw add-zero
  up_to_in k (suc n) (x ∷ xs) (suc i) h m = up_to_in (suc k) n xs i (omega arith) (omega arith) ∙ ap (λ (j : ℕ). f j (get_or xs i d)) (more k i)
    where
      more : (a b : ℕ) → suc a + b ≡ a + suc b
      more a b = omega arith

-- ---- what stands among those of which f holds
pub those_iff : (f : ℕ → Bool) (n c : ℕ) → Memᴰ c (those f n) ↔ ((c < n) × (f c ≡ true))
unfolding those
those_iff f zero c = ((λ m. absurd (Memᴰ.not-nil m)), λ h. absurd (omega (arith, h.0)))
those_iff f (suc n) c = go (f n) refl (those_iff f n c)
  where
    go : (t : Bool) → f n ≡ t → (Memᴰ c (those f n) ↔ ((c < n) × (f c ≡ true)))
        → Memᴰ c (those f n ++ cond t (n ∷ []) []) ↔ ((c < suc n) × (f c ≡ true))
    go true e ih = (
      (λ m. ⊎_elim (λ k. let r = ih.0 k in (omega (arith, r.0), r.1)) (λ k. let x : c ≡ n = Memᴰ.eq_of_singleton k in (omega arith, ap f x ∙ e))
          (Memᴰ.append_cases (those f n) m)),
      (λ h. ⊎_elim (λ x. Memᴰ.append_right (those f n) (Memᴰ.head x)) (λ l. Memᴰ.append_left (n ∷ []) (ih.1 (l, h.1))) (last_or_before c n h.0)),
    )
    go false e ih = (
      (λ m. ⊎_elim (λ k. let r = ih.0 k in (omega (arith, r.0), r.1)) (λ k. absurd (Memᴰ.not-nil k)) (Memᴰ.append_cases (those f n) m)),
      (λ h. ⊎_elim (λ x. never (sym e ∙ ap f (sym x) ∙ h.1)) (λ l. Memᴰ.append_left [] (ih.1 (l, h.1))) (last_or_before c n h.0)),
    )

pub those_same : (f g : ℕ → Bool) (n : ℕ) → ((c : ℕ) → f c ≡ g c) → those f n ≡ those g n
unfolding those
those_same f g zero h = refl
those_same f g (suc n) h = ap₂ (λ (l : List ℕ) (t : Bool). l ++ cond t (n ∷ []) []) (those_same f g n h) (h n)

-- ---- turns of a loop
-- a store behind what an array holds
pub padded_more : {A : Type 0} (n : ℕ) (b : A) (l : List A) (i : ℕ) (x : A) → length l ≡ i → i < n → set (padded n b l) i x ≡ padded n b (l ++ (x ∷ []))
unfolding padded
padded_more n b l i x e h =
    let z : n - length l ≡ suc (n - suc (length l)) = omega arith in
    let k : n - length (l ++ (x ∷ [])) ≡ n - suc (length l) = omega (arith, length-append l (x ∷ [])) in
    rw (z, k) (set_at l b (replicate (n - suc (length l)) b) x i e ∙ sym (append_assoc l (x ∷ []) (replicate (n - suc (length l)) b)))

-- an array that is filled from the left
pub padded_next : {A : Type 0} (n : ℕ) (b : A) (f : ℕ → A) (i : ℕ) → i < n → set (padded n b (listed f i)) i (f i) ≡ padded n b (listed f (suc i))
unfolding listed
padded_next n b f i h = padded_more n b (listed f i) i (f i) (listed_length f i) h

-- an element of the used part of an array is that element of the array
pub taken_at : {A : Type 0} (n : ℕ) (l : List A) (i : ℕ) (d : A) → i < length (take n l) → get_or (take n l) i d ≡ get_or l i d
taken_at n l i d h = get_or-take n l i d (omega (arith, length-take n l))

-- a sum over those of which f holds
sum_append : (g : ℕ → ℤ) (k l : List ℕ) → sum_over g (k ++ l) ≡ sum_over g k +ℤ sum_over g l
unfolding sum_over
sum_append g [] l = sym (+ℤ_idl (sum_over g l))
sum_append g (x ∷ k) l = ap (λ (z : ℤ). g x +ℤ z) (sum_append g k l) ∙ sym (+ℤ_assoc (g x) (sum_over g k) (sum_over g l))

module _ (g : ℕ → ℤ) (f : ℕ → Bool) (n : ℕ) where
  pub sum_taken : f n ≡ true → sum_over g (those f (suc n)) ≡ sum_over g (those f n) +ℤ g n
  unfolding those sum_over
  sum_taken e = rw e (sum_append g (those f n) (n ∷ []) ∙ ap (λ (z : ℤ). sum_over g (those f n) +ℤ z) (+ℤ_idr (g n)))

  pub sum_skipped : f n ≡ false → sum_over g (those f (suc n)) ≡ sum_over g (those f n)
  unfolding those sum_over
  sum_skipped e = rw e (sum_append g (those f n) [] ∙ +ℤ_idr (sum_over g (those f n)))
