-- `least` is the least.
use mathlib.Core.Bool.{Bool, true, false, cond}
use mathlib.Core.List.Memᴰ
use mathlib.Core.List.{List, [], ◌∷◌}
use mathlib.Core.Logic.{◌⊎◌, inl, inr, ⊎_elim}
use mathlib.Core.Path.{◌≡◌, refl, ◌∙◌}
use native.Mathlib.Omega.{arith}
use lib.IntN.{ℤ}
use lib.Signed.{le_z, ◌≤ℤ◌, ≤ℤ_refl}
use Rattle.rules_number.specs.Order.{min_z}
use Rattle.rules_number.proofs.Kit.{≤ℤ_trans, var, eq_by, le_of}
use Rattle.rules_number.proofs.OrderLaws.{min_le_left, min_le_right}
use Rattle.rules_number.specs.Least.{least, IsLeast}

-- the smaller is one of the two
min_one : (x y : ℤ) → (min_z x y ≡ x) ⊎ (min_z x y ≡ y)
min_one x y = go (le_z x y)
  where
    go : (t : Bool) → (cond t x y ≡ x) ⊎ (cond t x y ≡ y)
    go true = inl refl
    go false = inr refl

pub least_is_least : (x : ℤ) (l : List ℤ) → IsLeast x l (least x l)
unfolding least
least_is_least x [] = record { at_most_first = ≤ℤ_refl x; at_most_each = λ y h. absurd (Memᴰ.not-nil h); attained = inl refl }
least_is_least x (y ∷ l) = go (least_is_least (min_z x y) l)
  where
    go : IsLeast (min_z x y) l (least (min_z x y) l) → IsLeast x (y ∷ l) (least (min_z x y) l)
    go ih = record {
      at_most_first = ≤ℤ_trans ih.at_most_first (min_le_left x y);
      at_most_each = λ z m. ⊎_elim (λ e. rw e (≤ℤ_trans ih.at_most_first (min_le_right x y))) (ih.at_most_each z) (Memᴰ.cases_cons m);
      attained =
          ⊎_elim (λ e. ⊎_elim (λ a. inl (e ∙ a)) (λ b. inr (Memᴰ.head (e ∙ b))) (min_one x y)) (λ m. inr (Memᴰ.tail m)) ih.attained;
    }

-- two least numbers are one
pub least_only : {x : ℤ} {l : List ℤ} {p q : ℤ} → IsLeast x l p → IsLeast x l q → p ≡ q
least_only {x} {l} {p} {q} a b = eq_by (var p) (var q) (omega (arith, le_of (below a b), le_of (below b a)))
  where
    below : {p q : ℤ} → IsLeast x l p → IsLeast x l q → p ≤ℤ q
    below {p} {q} a b = ⊎_elim (λ e. rw e a.at_most_first) (λ m. a.at_most_each q m) b.attained
