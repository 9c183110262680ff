-- A pass, 19 and 13 to 16, exactly: the number is that of the first demand that is not met, and 0 exactly when all are met; it is never 12. Assumes nothing.
use mathlib.Core.Bool.{◌&&◌}
use mathlib.Core.List.{[], ◌∷◌}
use mathlib.Core.Logic.{◌↔◌}
use mathlib.Core.Path.{◌≡◌, refl}
use Prim.Native.Nat.{ℕ, ◌≤◌, ◌<◌}
use native.Mathlib.Omega.{arith}
use borrow.Author.Tests.{ltb-true, lt-ltb}
use lib.Dec.{ltb}
use Rattle.rules_number.proofs.ExactLaws.{and_exactly}
use Rattle.rules_number.proofs.OverLaws.{both}
use Rattle.rules_curve.specs.Refusals.{unless}
use Rattle.rules_curve.proofs.CheckLaws.{then_both, unless_holds}
use Rattle.rules_curve.specs.Demands.{◌asks◌, First}
use Rattle.rules_curve.proofs.FirstLaws.{exactly, first_then, first_more}
use Rattle.rules_interval.specs.Conditions.{interval_demands}
use Rattle.rules_interval.specs.Intervals.{interval_refusal}
use Rattle.rules_interval.specs.declared.Interval.{Interval}
use Rattle.rules_interval.proofs.Exactly.{interval_first}
use Rattle.rules_path.specs.declared.Market.{Market}
use Rattle.rules_hour.proofs.FourIntervals.{other_then, other_unless, never_twelve}
use Rattle.rules_pass.specs.Conditions.{pass_demands}
use Rattle.rules_pass.specs.Passes.{turn_refusal}
use Rattle.rules_pass.specs.declared.Quarter.{Quarter}

module _ (m : Market) (accepted : ℕ) (k : Quarter) (v : Interval) where
  -- a market has at most 64 resources
  module _ (few : m.resources ≤ 64) where
    pub turn_first : First (turn_refusal m accepted k v) (pass_demands accepted k.passes m.resources v)
    unfolding turn_refusal
    turn_first =
        first_then ((19 asks ((0 < accepted) × (k.passes < 3))) ∷ []) (interval_demands m.resources v) _ (interval_refusal m.resources v)
        (first_more [] 0 (ltb 0 accepted && ltb k.passes 3) 18 refl
        (λ met. and_exactly (ltb 0 accepted) (ltb k.passes 3) (ltb-true 0 accepted, lt-ltb 0 accepted) (ltb-true k.passes 3, lt-ltb k.passes 3)))
        (λ met. interval_first m.resources v few)

    -- a pass is refused with n exactly when n is the number of the first demand that is not met
    pub turn_exactly : (n : ℕ) → (turn_refusal m accepted k v ≡ n) ↔ First n (pass_demands accepted k.passes m.resources v)
    turn_exactly n = exactly (pass_demands accepted k.passes m.resources v) (turn_refusal m accepted k v) turn_first n

  -- "12 never applies to a pass", whatever the hour
  pub turn_never_twelve : turn_refusal m accepted k v ≡ 12 → ⊥
  unfolding turn_refusal
  turn_never_twelve = other_then _ _ (other_unless (ltb 0 accepted && ltb k.passes 3) 19 (λ e. omega arith)) (never_twelve m.resources v)

  -- before an accepted pass an interval is accepted, fewer than three passes are since, and none of 13 to 16 applies
  pub turn_open : turn_refusal m accepted k v ≡ 0 → (0 < accepted) × (k.passes < 3) × (interval_refusal m.resources v ≡ 0)
  unfolding turn_refusal
  turn_open e =
      let x = then_both (unless (ltb 0 accepted && ltb k.passes 3) 19) (interval_refusal m.resources v) e in
      let y = both (ltb 0 accepted) (ltb k.passes 3) (unless_holds (ltb 0 accepted && ltb k.passes 3) 18 x.0) in
      (ltb-true 0 accepted y.0, ltb-true k.passes 3 y.1, x.1)
