-- Laws of numbers put in turn, each by its number. Assumes nothing.
use mathlib.Core.List.{List, [], ◌∷◌, ◌++◌}
use mathlib.Core.Logic.{⊎_elim}
use mathlib.Core.Path.{◌≡◌, refl, sym, ap, ◌∙◌}
use Prim.Native.Nat.{ℕ, zero, suc, ◌+◌, ◌-◌, ◌≤◌, ◌<◌, min as least}
use native.Mathlib.Numerals.{add-one}
use native.Mathlib.Omega.{arith}
use lib.ListN.{length, take, drop, set}
use lib.Seq.{sets, set_out, set-set, set_comm, length-sets, sets-eq, take_at}
use Rattle.rules_number.specs.Over.{listed}
use Rattle.rules_number.proofs.OverLaws.{le_or_lt, listed_length}
use Rattle.rules_text.proofs.ListLaws.{sets_append}

module _ {A : Type 0} (l : List A) (at : ℕ) (f : ℕ → A) where
  -- the next of them
  pub listed_next : (n : ℕ) → sets l at (listed f (suc n)) ≡ set (sets l at (listed f n)) (at + n) (f n)
  unfolding listed
  listed_next n = sets_append l at (listed f n) (f n ∷ []) ∙ ap (λ (i : ℕ). set (sets l at (listed f n)) (at + i) (f n)) (listed_length f n)

  pub listed_put : (out next : List A) (k : ℕ) (x : A) → out ≡ sets l at (listed f k) → x ≡ f k → next ≡ set out (at + k) x → next ≡ sets l at (listed f (k + 1))
  listed_put out next k x e g n =
      n ∙ ap (λ (m : List A). set m (at + k) x) e ∙ ap (λ (y : A). set (sets l at (listed f k)) (at + k) y) g ∙ sym (listed_next k)
      ∙ ap (λ (i : ℕ). sets l at (listed f i)) (sym (add-one k))

  -- past the end nothing is put
  pub listed_full : (n m : ℕ) → m ≤ n → length l ≤ at + m → sets l at (listed f m) ≡ sets l at (listed f n)
  listed_full zero m h k = let e : m ≡ 0 = omega arith in rw e
  listed_full (suc n) m h k = ⊎_elim
      (λ p. listed_full n m p k ∙ sym (listed_next n ∙ set_out (sets l at (listed f n)) (at + n) (f n) (omega (arith, length-sets l at (listed f n)))))
      (λ p. let e : m ≡ suc n = omega arith in rw e) (le_or_lt m n)

  pub listed_least : (n k : ℕ) → k ≡ least n (length l - at) → at ≤ length l → sets l at (listed f k) ≡ sets l at (listed f n)
  listed_least n k e h =
      ⊎_elim (λ p. let q : k ≡ n = omega arith in rw q) (λ p. listed_full n k (omega arith) (omega arith)) (le_or_lt n (length l - at))

module _ {A : Type 0} where
  -- a store before a run of stores may come first
  set_first : (l : List A) (i : ℕ) (a : List A) (j : ℕ) (x : A) → j < i → set (sets l i a) j x ≡ sets (set l j x) i a
  set_first l i [] j x h = refl
  set_first l i (y ∷ a) j x h = set_first (set l i y) (suc i) a j x (omega arith) ∙ ap (λ (m : List A). sets m (suc i) a) (set_comm l i j y x (λ e. omega arith))

  -- a run before another may come first
  pub sets_first : (l : List A) (i : ℕ) (a : List A) (j : ℕ) (b : List A) → j + length b ≤ i → sets (sets l i a) j b ≡ sets (sets l j b) i a
  sets_first l i a j [] h = refl
  sets_first l i a j (x ∷ b) h = ap (λ (m : List A). sets m (suc j) b) (set_first l i a j x (omega arith)) ∙ sets_first (set l j x) i a (suc j) b (omega arith)

  -- one put at the front is read back
  pub front_back : (l a : List A) (n : ℕ) → length a ≡ n → n ≤ length l → take n (sets l 0 a) ≡ a
  front_back l a n e h = ap (take n) (sets-eq a l 0 (omega (arith, e))) ∙ take_at a (drop (0 + length a) l) n e

  -- a run put over the front of another
  pub over_front : (l : List A) (at : ℕ) (a b c : List A) → length a ≡ length c → sets (sets l at (a ++ b)) at c ≡ sets l at (c ++ b)
  over_front l at [] b [] e = refl
  over_front l at [] b (y ∷ c) e = absurd (omega arith)
  over_front l at (x ∷ a) b [] e = absurd (omega arith)
  over_front l at (x ∷ a) b (y ∷ c) e =
      ap (λ (m : List A). sets m (suc at) c) (set_first (set l at x) (suc at) (a ++ b) at y (omega arith)) ∙ over_front (set (set l at x) at y) (suc at) a b c (omega arith)
      ∙ ap (λ (m : List A). sets m (suc at) (c ++ b)) (set-set l at x y)
