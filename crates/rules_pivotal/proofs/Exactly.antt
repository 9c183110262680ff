-- "26, no constraint binds, after 13 to 16": exactly. Assumes nothing.
use mathlib.Core.Bool.{Bool, true, false, ◌||◌}
use mathlib.Core.List.{List, [], ◌∷◌, ◌++◌}
use mathlib.Core.Logic.{◌↔◌, ⊎_elim}
use mathlib.Core.Path.{◌≡◌, refl, sym, ap, ◌∙◌}
use Prim.Native.Nat.{ℕ, zero, suc, ◌≤◌, ◌<◌}
use native.Mathlib.Omega.{arith}
use Rattle.rules_number.proofs.ExactLaws.{iff_then}
use Rattle.rules_number.proofs.OverLaws.{never, last_or_before}
use Rattle.rules_number.proofs.TestLaws.{above_exactly}
use Rattle.rules_curve.specs.Demands.{Demand, ◌asks◌, First}
use Rattle.rules_curve.specs.Refusals.{unless}
use Rattle.rules_curve.proofs.CheckLaws.{then_both, unless_holds}
use Rattle.rules_curve.proofs.FirstLaws.{exactly, first_more}
use Rattle.rules_interval.specs.Conditions.{interval_demands}
use Rattle.rules_interval.specs.Intervals.{shadow_at, interval_refusal}
use Rattle.rules_interval.specs.declared.Interval.{Interval}
use Rattle.rules_interval.proofs.Exactly.{interval_first}
use Rattle.rules_path.specs.Judgements.{path_in}
use Rattle.rules_path.specs.Paths.{binds}
use Rattle.rules_path.specs.declared.Market.{Market}
use Rattle.rules_pivotal.specs.Meaning.{BindsIn}
use Rattle.rules_pivotal.specs.Pivotals.{any_to, any_binds, pivotal_refusal}

any_exactly : (f : ℕ → Bool) (n : ℕ) → (any_to f n ≡ true) ↔ ((i : ℕ) × (i < n) × (f i ≡ true))
unfolding any_to
any_exactly f zero = ((λ e. never e), λ h. absurd (omega (arith, h.1)))
any_exactly f (suc n) = go (any_to f n) refl (any_exactly f n)
  where
    go : (t : Bool) → any_to f n ≡ t → (any_to f n ≡ true) ↔ ((i : ℕ) × (i < n) × (f i ≡ true)) → ((t || f n) ≡ true) ↔ ((i : ℕ) × (i < suc n) × (f i ≡ true))
    go true e ih = ((λ x. let h = ih.0 e in (h.0, omega (arith, h.1), h.2)), λ h. refl)
    go false e ih = (
      (λ x. (n, omega arith, x)),
      λ h. ⊎_elim (λ z. ap f (sym z) ∙ h.2) (λ l. never (sym e ∙ ih.1 (h.0, l, h.2))) (last_or_before h.0 n h.1),
    )

-- some constraint binds
abbrev pub SomeBinds : Interval → Type 0
SomeBinds v = (c : ℕ) × BindsIn v c

pub binds_exactly : (m : Market) (v : Interval) → (any_binds m v ≡ true) ↔ SomeBinds v
unfolding any_binds
binds_exactly m v =
    iff_then (any_exactly (λ c. binds (path_in m v c)) v.constraints) (λ h. (h.0, (h.1, (above_exactly (shadow_at v h.0)).0 h.2))) (λ h. (h.0, h.1.0, (above_exactly (shadow_at v h.0)).1 h.1.1))

-- what the search demands of an interval for an hour of n resources: 13 to 16, and then that some constraint binds. How many intervals were accepted plays no part
abbrev pub pivotal_demands : ℕ → Interval → List Demand
pivotal_demands n v = interval_demands n v ++ ((26 asks SomeBinds v) ∷ [])

module _ (m : Market) (v : Interval) (few : m.resources ≤ 64) where
  pub pivotal_first : First (pivotal_refusal m v) (pivotal_demands m.resources v)
  unfolding pivotal_refusal
  pivotal_first = first_more (interval_demands m.resources v) (interval_refusal m.resources v) (any_binds m v) 25 (interval_first m.resources v few) (λ k. binds_exactly m v)

  -- it is refused with k exactly when k is the number of the first demand that it does not meet
  pub pivotal_exactly : (k : ℕ) → (pivotal_refusal m v ≡ k) ↔ First k (pivotal_demands m.resources v)
  pivotal_exactly k = exactly (pivotal_demands m.resources v) (pivotal_refusal m v) pivotal_first k

-- what one that is taken is like
pub taken : (m : Market) (v : Interval) → pivotal_refusal m v ≡ 0 → (interval_refusal m.resources v ≡ 0) × SomeBinds v
unfolding pivotal_refusal
taken m v e =
    let b = then_both (interval_refusal m.resources v) (unless (any_binds m v) 26) e in
    (b.0, (binds_exactly m v).0 (unless_holds (any_binds m v) 25 b.1))
