-- An interval call, refusals 12 to 16, exactly: the number is that of the first demand that is not met, and 0 exactly when all five are met. Assumes nothing.
use mathlib.Core.List.{[], ◌∷◌}
use mathlib.Core.Logic.{◌↔◌}
use mathlib.Core.Path.{◌≡◌, refl}
use Prim.Native.Nat.{ℕ, ◌≤◌, ◌<◌}
use borrow.Author.Tests.{ltb-true, lt-ltb}
use lib.Dec.{ltb}
use Rattle.rules_curve.specs.Demands.{◌asks◌, First}
use Rattle.rules_curve.proofs.FirstLaws.{exactly, first_then, first_more}
use Rattle.rules_interval.specs.Conditions.{interval_demands}
use Rattle.rules_interval.specs.Intervals.{interval_refusal}
use Rattle.rules_interval.specs.declared.Interval.{Interval}
use Rattle.rules_interval.proofs.Exactly.{interval_first}
use Rattle.rules_path.specs.declared.Market.{Market}
use Rattle.rules_hour.specs.Conditions.{call_demands}
use Rattle.rules_hour.specs.Hours.{call_refusal}
use Rattle.rules_hour.specs.declared.Standing.{Standing}

-- a market has at most 64 resources
module _ (m : Market) (s : Standing) (v : Interval) (few : m.resources ≤ 64) where
  pub call_first : First (call_refusal m s v) (call_demands s.accepted m.resources v)
  unfolding call_refusal
  call_first =
      first_then ((12 asks (s.accepted < 4)) ∷ []) (interval_demands m.resources v) _ (interval_refusal m.resources v)
      (first_more [] 0 (ltb s.accepted 4) 11 refl (λ met. (ltb-true s.accepted 4, lt-ltb s.accepted 4)))
      (λ met. interval_first m.resources v few)

  -- a call is refused with n exactly when n is the number of the first demand that is not met
  pub call_exactly : (n : ℕ) → (call_refusal m s v ≡ n) ↔ First n (call_demands s.accepted m.resources v)
  call_exactly n = exactly (call_demands s.accepted m.resources v) (call_refusal m s v) call_first n
