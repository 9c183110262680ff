-- A refusal is its number: no two outcomes have one number, and no refusal has 0. Assumes nothing.
use Rattle.std.specs.Prelude.{Err, Ok, Result, ⊤}
use mathlib.Core.List.{List, [], ◌∷◌}
use mathlib.Core.Logic.{⊎_elim}
use mathlib.Core.Path.{◌≡◌, refl, sym, ap, ◌∙◌}
use Prim.Native.Nat.{ℕ, zero, suc, ◌≤◌, ◌<◌}
use native.Mathlib.Omega.{arith}
use lib.ListN.{length, get_or, get_or-eq_default}
use Rattle.rules_number.proofs.OverLaws.{le_or_lt}
use Rattle.rules_curve.specs.Refusals.{number_of, outcome_number}
use Rattle.rules_curve.specs.declared.Refusal.{Refusal}
use Rattle.rules_curve.specs.declared.Refusal.TheVariants.{StepCount, Edge, Price, PointCount, Quantity, HeatRate, CostRange, IncrementalRate, Counts, Membership, OutsideDefault, HourFull, ResourceCount, ConstraintCount, IntervalRange, Output, Form, Length, PassTurn, HourOpen, GasBook, PartsApart, PartsTogether, TradingDay, NothingBinds}

-- the outcomes by number; 22 is no number of the engine
outcomes : List (Result ⊤ Refusal)
outcomes =
    (Ok tt) ∷ Err StepCount ∷ Err Edge ∷ Err Price ∷ Err PointCount ∷ Err Quantity ∷ Err HeatRate ∷ Err CostRange
    ∷ Err IncrementalRate ∷ Err Counts ∷ Err Membership ∷ Err OutsideDefault ∷ Err HourFull ∷ Err ResourceCount
    ∷ Err ConstraintCount ∷ Err IntervalRange ∷ Err Output ∷ Err Form ∷ Err Length ∷ Err PassTurn
    ∷ Err HourOpen ∷ Err GasBook ∷ (Ok tt) ∷ Err PartsApart ∷ Err PartsTogether ∷ Err TradingDay
    ∷ Err NothingBinds ∷ []

-- each stands at its number
at_refusal : (r : Refusal) → get_or outcomes (number_of r) (Ok tt) ≡ Err r
unfolding outcomes
at_refusal StepCount = refl
at_refusal Edge = refl
at_refusal Price = refl
at_refusal PointCount = refl
at_refusal Quantity = refl
at_refusal HeatRate = refl
at_refusal CostRange = refl
at_refusal IncrementalRate = refl
at_refusal Counts = refl
at_refusal Membership = refl
at_refusal OutsideDefault = refl
at_refusal HourFull = refl
at_refusal ResourceCount = refl
at_refusal ConstraintCount = refl
at_refusal IntervalRange = refl
at_refusal Output = refl
at_refusal Form = refl
at_refusal Length = refl
at_refusal PassTurn = refl
at_refusal HourOpen = refl
at_refusal GasBook = refl
at_refusal PartsApart = refl
at_refusal PartsTogether = refl
at_refusal TradingDay = refl
at_refusal NothingBinds = refl

at_number : (o : Result ⊤ Refusal) → get_or outcomes (outcome_number o) (Ok tt) ≡ o
unfolding outcomes
at_number (Ok tt) = refl
at_number (Err r) = at_refusal r

-- an outcome is what its number says
pub outcome_only : (a b : Result ⊤ Refusal) → outcome_number a ≡ outcome_number b → a ≡ b
outcome_only a b e = sym (at_number a) ∙ ap (λ (n : ℕ). get_or outcomes n (Ok tt)) e ∙ at_number b

-- ---- the numbers of refusals
refuses : Result ⊤ Refusal → ℕ
refuses (Ok tt) = 0
refuses (Err r) = 1

no_refusal : (r : Refusal) → ◌≡◌ {A = Result ⊤ Refusal} (Ok tt) (Err r) → ⊥
unfolding refuses
no_refusal r e = let z : ◌≡◌ {A = ℕ} 0 1 = ap refuses e in omega arith

listed : (n : ℕ) (r : Refusal) → get_or outcomes n (Ok tt) ≡ Err r → (0 < n) × (n ≤ 99)
unfolding outcomes
listed zero r e = absurd (no_refusal r e)
listed (suc n) r e =
    (omega arith, ⊎_elim (λ l. let past : length outcomes ≤ suc n = omega arith in absurd (no_refusal r (sym (get_or-eq_default outcomes (Ok tt) past) ∙ e))) (λ l. omega arith) (le_or_lt 99 n))

pub refused_number : (r : Refusal) → 0 < number_of r
refused_number r = (listed (number_of r) r (at_refusal r)).0

-- as a call tells it, two digits suffice
pub told_number : (r : Refusal) (n : ℕ) → n ≡ number_of r → (0 < n) × (n ≤ 99)
told_number r n e = rw e (listed (number_of r) r (at_refusal r))
