-- `highest_to` is the highest; the highest so far, as a loop carries it. Assumes nothing.
use mathlib.Core.Bool.{Bool, true, false, cond}
use mathlib.Core.Logic.{◌⊎◌, inl, inr, ⊎_elim}
use mathlib.Core.Path.{◌≡◌, refl, ap, ◌∙◌}
use Prim.Native.Nat.{ℕ, zero, suc, ◌≤◌, ◌<◌}
use native.Mathlib.Nat.{le_refl}
use native.Mathlib.Omega.{arith}
use lib.IntN.{ℤ}
use lib.Signed.{le_z, ◌≤ℤ◌, ≤ℤ_refl}
use Rattle.rules_number.specs.Order.{max_z}
use Rattle.rules_number.specs.Over.{highest_to}
use Rattle.rules_number.specs.Least.{IsHighest}
use Rattle.rules_number.proofs.Kit.{le_of, true_le, ≤ℤ_trans}
use Rattle.rules_number.proofs.OrderLaws.{max_least, max_ge_left, max_ge_right}
use Rattle.rules_number.proofs.OverLaws.{last_or_before}

max_one : (a b : ℤ) → (max_z a b ≡ a) ⊎ (max_z a b ≡ b)
max_one a b = go (le_z a b)
  where
    go : (t : Bool) → (cond t b a ≡ a) ⊎ (cond t b a ≡ b)
    go true = inr refl
    go false = inl refl

pub highest_is_highest : (f : ℕ → ℤ) (n : ℕ) → IsHighest f n (highest_to f n)
unfolding highest_to
highest_is_highest f zero = record { at_least_each = λ i h. let e : i ≡ 0 = omega arith in rw e (≤ℤ_refl (f 0)); at = 0; among = le_refl 0; attained = refl }
highest_is_highest f (suc n) = go (highest_is_highest f n) (max_one (highest_to f n) (f (suc n)))
  where
    each : IsHighest f n (highest_to f n) → (i : ℕ) → i ≤ suc n → f i ≤ℤ max_z (highest_to f n) (f (suc n))
    each ih i h =
        ⊎_elim (λ e. rw e (max_ge_right (highest_to f n) (f (suc n))))
        (λ l. ≤ℤ_trans (ih.at_least_each i (omega arith)) (max_ge_left (highest_to f n) (f (suc n))))
        (last_or_before i (suc n) (omega arith))

    go : IsHighest f n (highest_to f n) → (max_z (highest_to f n) (f (suc n)) ≡ highest_to f n) ⊎ (max_z (highest_to f n) (f (suc n)) ≡ f (suc n))
        → IsHighest f (suc n) (max_z (highest_to f n) (f (suc n)))
    go ih (inl e) = record { at_least_each = each ih; at = ih.at; among = omega (arith, ih.among); attained = e ∙ ih.attained }
    go ih (inr e) = record { at_least_each = each ih; at = suc n; among = le_refl (suc n); attained = e }

-- the highest of low and f 0, .., f (n - 1), as a loop carries it
unfoldable pub highest_from : ℤ → (ℕ → ℤ) → ℕ → ℤ
highest_from low f zero = low
highest_from low f (suc n) = max_z (highest_from low f n) (f n)

pub highest_from_lem : (low : ℤ) (f : ℕ → ℤ) (n : ℕ) → low ≤ℤ f 0 → highest_from low f (suc n) ≡ highest_to f n
unfolding highest_from highest_to
highest_from_lem low f zero h = rw (true_le low (f 0) (le_of h))
highest_from_lem low f (suc n) h = ap (λ (z : ℤ). max_z z (f (suc n))) (highest_from_lem low f n h)

pub highest_from_bound : (Q : ℤ → Type 0) (low : ℤ) (f : ℕ → ℤ) (n : ℕ) → Q low → ((i : ℕ) → i < n → Q (f i)) → Q (highest_from low f n)
unfolding highest_from
highest_from_bound Q low f zero l h = l
highest_from_bound Q low f (suc n) l h =
    max_least Q (highest_from low f n) (f n) (highest_from_bound Q low f n l (λ i k. h i (omega arith))) (h n (le_refl (suc n)))
