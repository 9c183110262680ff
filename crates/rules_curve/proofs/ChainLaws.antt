-- Laws of `chain`: from element to element of an array, over a list made by number, and of reading a curve back.
use mathlib.Core.Bool.{Bool, true, false, cond}
use mathlib.Core.List.{List, [], ◌∷◌, ◌++◌, map}
use mathlib.Core.Path.{◌≡◌, refl, ap, sym, ◌∙◌}
use Prim.Native.Nat.{ℕ, zero, suc, ◌+◌, ◌≤◌, ◌<◌}
use native.Mathlib.Numerals.{add-one}
use native.Mathlib.Nat.{le_refl}
use native.Mathlib.Omega.{arith}
use lib.IntN.{ℤ, pos}
use lib.ListN.{length, length-map, length-take, get_or, set, take, drop, drop_of_length-le}
use lib.Seq.{drop-cons, take-suc}
use Rattle.rules_number.specs.Over.{listed, padded}
use Rattle.rules_curve.specs.Curves.{chain}
use Rattle.rules_number.proofs.OverLaws.{never, padded_more}
use Rattle.rules_curve.specs.declared.RawStep.{RawStep}

-- ---- from element i on
module _ {A : Type 0} (suits : ℤ → A → Bool) (key : A → ℤ) (p : ℤ) (l : List A) (i : ℕ) where
  pub chain_end : length l ≤ i → chain suits key p (drop i l) ≡ true
  unfolding chain
  chain_end h = rw (drop_of_length-le l h)

  module _ (e s : A) (h : i < length l) (es : get_or l i e ≡ s) where
    pub chain_step : suits p s ≡ true → chain suits key p (drop i l) ≡ chain suits key (key s) (drop (i + 1) l)
    unfolding chain
    chain_step t = rw (drop-cons l i e h, es, t, add-one)

    pub chain_stop : suits p s ≡ false → chain suits key p (drop i l) ≡ false
    unfolding chain
    chain_stop t = rw (drop-cons l i e h, es, t)

-- ---- a list made by number
last_key : {A : Type 0} → (A → ℤ) → ℤ → List A → ℤ
last_key key p [] = p
last_key key p (s ∷ l) = last_key key (key s) l

module _ {A : Type 0} (suits : ℤ → A → Bool) (key : A → ℤ) where
  chain_snoc : (p : ℤ) (l : List A) (x : A) → chain suits key p l ≡ true → suits (last_key key p l) x ≡ true → chain suits key p (l ++ (x ∷ [])) ≡ true
  unfolding chain last_key
  chain_snoc p [] x e s = rw s
  chain_snoc p (y ∷ l) x e s = go (suits p y) refl e (λ k. chain_snoc (key y) l x k s)
    where
      go : (t : Bool) → suits p y ≡ t → cond t (chain suits key (key y) l) false ≡ true → (chain suits key (key y) l ≡ true → chain suits key (key y) (l ++ (x ∷ [])) ≡ true)
          → cond t (chain suits key (key y) (l ++ (x ∷ []))) false ≡ true
      go true q e ih = ih e
      go false q e ih = never e

  last_snoc : (p : ℤ) (l : List A) (x : A) → last_key key p (l ++ (x ∷ [])) ≡ key x
  unfolding last_key
  last_snoc p [] x = refl
  last_snoc p (y ∷ l) x = last_snoc (key y) l x

  -- the first suits p, and each later one the key of the one before it
  pub chain_listed : (p : ℤ) (f : ℕ → A) (n : ℕ) → (0 < n → suits p (f 0) ≡ true) → ((i : ℕ) → suc i < n → suits (key (f i)) (f (suc i)) ≡ true)
      → chain suits key p (listed f n) ≡ true
  unfolding chain listed last_key
  chain_listed p f zero a b = refl
  chain_listed p f (suc n) a b =
      chain_snoc p (listed f n) (f n) (chain_listed p f n (λ h. a (omega arith)) (λ i h. b i (omega arith))) (next n a b)
    where
      next : (n : ℕ) → (0 < suc n → suits p (f 0) ≡ true) → ((i : ℕ) → suc i < suc n → suits (key (f i)) (f (suc i)) ≡ true)
          → suits (last_key key p (listed f n)) (f n) ≡ true
      next zero a b = a (le_refl 1)
      next (suc k) a b = rw (last_snoc p (listed f k) (f k)) (b k (le_refl (suc (suc k))))

module _ {A B : Type 0} (g : A → B) where
  pub take_map : (n : ℕ) (l : List A) → take n (map g l) ≡ map g (take n l)
  take_map zero l = refl
  take_map (suc n) [] = refl
  take_map (suc n) (x ∷ l) = ap (λ (t : List B). g x ∷ t) (take_map n l)

  map_snoc : (l : List A) (x : A) → map g (l ++ (x ∷ [])) ≡ map g l ++ (g x ∷ [])
  map_snoc [] x = refl
  map_snoc (y ∷ l) x = ap (λ (t : List B). g y ∷ t) (map_snoc l x)

  pub map_listed : (f : ℕ → A) (n : ℕ) → map g (listed f n) ≡ listed (λ i. g (f i)) n
  unfolding listed
  map_listed f zero = refl
  map_listed f (suc n) = map_snoc (listed f n) (f n) ∙ ap (λ (t : List B). t ++ (g (f n) ∷ [])) (map_listed f n)

-- ---- an array that is filled with what g makes of the used part of another
-- what a read past the end of an array of steps gives, in no legal call
abbrev pub raw_blank : RawStep
raw_blank = record { end = pos 0; price = pos 0 }

pub map_padded : {A B : Type 0} (g : A → B) (n : ℕ) (b : B) (d : A) (l : List A) (i : ℕ) (x : A) → i < length l → i < n → get_or l i d ≡ x
    → set (padded n b (map g (take i l))) i (g x) ≡ padded n b (map g (take (i + 1) l))
map_padded g n b d l i x h m e =
    let k : length (map g (take i l)) ≡ i = simp (length-map, length-take) (omega arith) in
    padded_more n b (map g (take i l)) i (g x) k m ∙ ap (padded n b) (rw (add-one, take-suc l i d h, e) (sym (map_snoc g (take i l) x)))
