-- Arrays whose cells a function gives.
use mathlib.Core.List.{List, [], ◌∷◌, append-nil}
use mathlib.Core.Path.{◌≡◌, sym, ◌∙◌}
use Prim.Native.Nat.{ℕ, ◌-◌, ◌<◌}
use native.Mathlib.Nat.{le_trans, le_of_eq}
use native.Mathlib.Decide.{ℕ_discrete}
use native.Mathlib.Omega.{arith}
use lib.ListN.{length, get_or, set, length-set}
use lib.Seq.{get_or-set_same, get_or-set_other, ext_get_or}
use Rattle.rules_number.specs.Over.{listed, padded}
use Rattle.rules_number.proofs.OverLaws.{listed_at, listed_length}

-- two lists of n cells, the second by a function, are one where each cell is
pub listed_is : {A : Type 0} (b : A) (w : List A) (g : ℕ → A) (n : ℕ) → length w ≡ n → ((q : ℕ) → q < n → get_or w q b ≡ g q) → w ≡ listed g n
listed_is b w g n e h =
    ext_get_or b w (listed g n) (e ∙ sym (listed_length g n)) (λ q l. let m : q < n = le_trans l (le_of_eq e) in h q m ∙ sym (listed_at g b n q m))

-- cell p becomes x
pub listed_set : {A : Type 0} (b : A) (f g : ℕ → A) (n p : ℕ) (x : A) → p < n → x ≡ g p → ((q : ℕ) → (q ≡ p → ⊥) → f q ≡ g q) → set (listed f n) p x ≡ listed g n
listed_set {A} b f g n p x h e same = listed_is b (set (listed f n) p x) g n (length-set (listed f n) p x ∙ listed_length f n) (λ q l. go q l (ℕ_discrete q p))
  where
    go : (q : ℕ) → q < n → Dec (q ≡ p) → get_or (set (listed f n) p x) q b ≡ g q
    go q l (yes z) = rw z (get_or-set_same (listed f n) p x b (le_trans h (le_of_eq (sym (listed_length f n)))) ∙ e)
    go q l (no z) = get_or-set_other (listed f n) p q x b z ∙ listed_at f b n q l ∙ same q z

module _ {A : Type 0} (n : ℕ) (b : A) (f : ℕ → A) where
  -- no cell is left
  pub padded_full : padded n b (listed f n) ≡ listed f n
  unfolding padded
  padded_full =
      let z : n - n ≡ 0 = omega arith in
      rw (listed_length f n, z) (append-nil (listed f n))
