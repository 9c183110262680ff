-- Opening, refusals 9 and 10, then each resource in number order, exactly: the number is that of the first demand that is not met, and 0 exactly when all are met.
-- Assumes nothing.
use mathlib.Core.Bool.{true}
use mathlib.Core.List.{[], ◌∷◌}
use mathlib.Core.Logic.{◌↔◌, ◌⊎◌, inl, inr}
use mathlib.Core.Path.{◌≡◌, refl, sym, subst}
use Prim.Native.Nat.{ℕ, zero, suc, ◌<◌}
use native.Mathlib.Omega.{arith}
use lib.IntN.{ℤ, pos, negsuc, nat_abs}
use lib.Signed.{◌≤ℤ◌, ◌<ℤ◌, le_z_yes}
use Rattle.rules_number.specs.Order.{nat_of}
use Rattle.rules_number.proofs.Kit.{le_of}
use Rattle.rules_curve.specs.Refusals.{each_to}
use Rattle.rules_curve.specs.Demands.{◌asks◌, Between, First, Met}
use Rattle.rules_number.proofs.ExactLaws.{le_exactly, le_z_exactly, lt_z_exactly, and_exactly, range_exactly, all_exactly, iff_then}
use Rattle.rules_curve.proofs.FirstLaws.{exactly, accepted_exactly, first_then, first_more, first_each}
use Rattle.rules_opening.specs.ResourceConditions.{resource_demands}
use Rattle.rules_opening.specs.Resources.{resource_refusal}
use Rattle.rules_opening.proofs.ResourceExactly.{resource_first}
use Rattle.rules_opening.specs.Conditions.{seller, resource, Limited, Known, each_resource, opening_demands, EachFull}
use Rattle.rules_opening.specs.Openings.{counts_good, is_mark, is_known, sellers_good, owners_good, members_good, opening_refusal}
use Rattle.rules_opening.specs.declared.Opening.{Opening}

-- ---- 10: 0 to 1 is 0 or 1
mark_exactly : (z : ℤ) → (is_mark z ≡ true) ↔ ((z ≡ pos 0) ⊎ (z ≡ pos 1))
mark_exactly z = iff_then (range_exactly (pos 0) (pos 1) z) (there z) (back z)
  where
    there : (z : ℤ) → Between (pos 0) (pos 1) z → (z ≡ pos 0) ⊎ (z ≡ pos 1)
    there (pos zero) h = inl refl
    there (pos (suc zero)) h = inr refl
    there (pos (suc (suc n))) h = absurd (omega (arith, le_of h.1))
    there (negsuc n) h = absurd h.0.le

    back : (z : ℤ) → (z ≡ pos 0) ⊎ (z ≡ pos 1) → Between (pos 0) (pos 1) z
    back z (inl e) = rw e (le_z_yes tt, le_z_yes tt)
    back z (inr e) = rw e (le_z_yes tt, le_z_yes tt)

module _ (o : Opening) where
  -- ---- 9
  counts_exactly : (counts_good o ≡ true) ↔ Limited o
  counts_exactly =
      iff_then (and_exactly _ _ (range_exactly (pos 1) (pos 1200) o.month)
      (and_exactly _ _ (and_exactly _ _ (le_exactly 1 o.portfolios) (le_exactly o.portfolios 16)) (and_exactly _ _ (le_exactly 1 o.resources) (le_exactly o.resources 64))))
      (λ h. record { month = h.0; portfolios = h.1.0; resources = h.1.1 })
      (λ h. (h.month, (h.portfolios, h.resources)))

  -- ---- 10
  sellers_exactly : (sellers_good o ≡ true) ↔ ((p : ℕ) → p < o.portfolios → (seller o p ≡ pos 0) ⊎ (seller o p ≡ pos 1))
  unfolding sellers_good
  sellers_exactly = all_exactly (λ p. is_mark (seller o p)) (λ p. (seller o p ≡ pos 0) ⊎ (seller o p ≡ pos 1)) o.portfolios (λ p. mark_exactly (seller o p))

  abbrev Owned : ℕ → Type 0
  Owned r = (pos 0 ≤ℤ (resource o r).portfolio) × ((resource o r).portfolio <ℤ pos o.portfolios)

  owners_exactly : (owners_good o ≡ true) ↔ ((r : ℕ) → r < o.resources → Owned r)
  unfolding owners_good
  owners_exactly =
      all_exactly (λ r. is_known o.portfolios (resource o r).portfolio) Owned o.resources
      (λ r. and_exactly _ _ (le_z_exactly (pos 0) (resource o r).portfolio) (lt_z_exactly (resource o r).portfolio (pos o.portfolios)))

  members_exactly : (members_good o ≡ true) ↔ Known o
  members_exactly = iff_then (and_exactly _ _ sellers_exactly owners_exactly) (λ h. record { marked = h.0; owned = h.1 }) (λ h. (h.marked, h.owned))

  -- ---- each resource, in a month of at least 1
  month_is : (z : ℤ) → pos 1 ≤ℤ z → nat_of z ≡ nat_abs z
  month_is (pos n) h = refl
  month_is (negsuc n) h = absurd h.le

  module _ (full : EachFull o) where
    each_first : Limited o → First (each_to (λ r. resource_refusal (nat_of o.month) (resource o r)) o.resources) (each_resource o)
    each_first h =
        first_each (λ r. resource_refusal (nat_of o.month) (resource o r)) (λ r. resource_demands (nat_abs o.month) (resource o r)) o.resources
        (λ r l. subst (λ (m : ℕ). First (resource_refusal m (resource o r)) (resource_demands (nat_abs o.month) (resource o r))) (sym (month_is o.month h.month.0))
        (resource_first (nat_abs o.month) (resource o r) (full r l (omega (arith, h.resources.1)))))

    -- ---- the theorems
    pub opening_first : First (opening_refusal o) (opening_demands o)
    unfolding opening_refusal
    opening_first =
        first_then ((9 asks Limited o) ∷ (10 asks Known o) ∷ []) (each_resource o) _ _
        (first_more ((9 asks Limited o) ∷ []) _ (members_good o) 9 (first_more [] 0 (counts_good o) 8 refl (λ met. counts_exactly)) (λ met. members_exactly))
        (λ met. each_first met.0)

    -- an opening is refused with n exactly when n is the number of the first demand that it does not meet
    pub opening_exactly : (n : ℕ) → (opening_refusal o ≡ n) ↔ First n (opening_demands o)
    opening_exactly n = exactly (opening_demands o) (opening_refusal o) opening_first n

    -- and is taken exactly when it meets all
    pub opening_accepted : (opening_refusal o ≡ 0) ↔ Met (opening_demands o)
    opening_accepted = accepted_exactly (opening_demands o) (opening_refusal o) opening_first
