-- Which number a resource is refused with, and what opening it hands back. Assumes nothing.
use mathlib.Core.List.{List, [], ◌∷◌}
use mathlib.Core.Path.{◌≡◌, refl}
use Prim.Native.Nat.{ℕ, zero, suc, ◌<◌}
use native.Mathlib.Omega.{arith}
use lib.ListN.{length, get_or}
use Rattle.rules_curve.specs.Refusals.{◌then◌}
use Rattle.rules_curve.specs.Curves.{end_of, bid_refusal, blank_step}
use Rattle.rules_curve.specs.declared.Step.{Step}
use Rattle.rules_opening.specs.declared.Resource.{Resource}
use Rattle.rules_opening.specs.Resources.{resource_refusal, source_refusal}

-- ---- the first refusal wins
pub then_first : (a b : ℕ) → 0 < a → (a then b) ≡ a
then_first zero b h = absurd (omega arith)
then_first (suc a) b h = refl

-- where a curve ends that has no step, and one that has
pub end_none : (p : ℕ) (l : List Step) → length l ≡ 0 → end_of p l ≡ p
end_none p [] e = refl
end_none p (s ∷ l) e = absurd (omega arith)

pub end_last : (p n : ℕ) (l : List Step) → length l ≡ suc n → end_of p l ≡ (get_or l n blank_step).end
end_last p n [] e = absurd (omega arith)
end_last p zero (s ∷ []) e = refl
end_last p zero (s ∷ t ∷ l) e = absurd (omega arith)
end_last p (suc n) (s ∷ l) e = end_last s.end n l (omega arith)

-- ---- one resource
module _ (month : ℕ) (x : Resource) where
  pub refused_bid : 0 < bid_refusal month x.bid → resource_refusal month x ≡ bid_refusal month x.bid
  unfolding resource_refusal
  refused_bid h = rw (then_first (bid_refusal month x.bid) (source_refusal x.source x) h) (then_first (bid_refusal month x.bid) _ h)
