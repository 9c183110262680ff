-- Two default curves joined into one (paper 02, 2.9; 39.7.1.6): the first has the proxy prices up to the contract capacity, the second the default prices above it.
use Rattle.std.specs.Prelude.{Bool, List, ◌++◌, ℕ, zero, suc, ◌+◌, min, leb, ℤ, length, get_or}
use Rattle.rules_number.specs.Order.{eq_z}
use Rattle.rules_number.specs.Over.{highest_to, listed}
use Rattle.rules_curve.specs.Conditions.{no_step, edge}
use Rattle.rules_curve.specs.Curves.{most_steps, raw_steps, raw_with, curve_of, default_refusal, unless_refused, pack_unless}
use Rattle.rules_curve.specs.Refusals.{unless, ◌then◌}
use Rattle.rules_curve.specs.declared.Curve.{Curve}
use Rattle.rules_curve.specs.declared.RawStep.{RawStep}
use Rattle.rules_curve.specs.declared.RawCurve.{RawCurve}

-- ---- the curve
-- "Join the two curves"
abbrev pub joined_steps : RawCurve → RawCurve → List RawStep
joined_steps a b = raw_steps a ++ raw_steps b

-- "then raise each price to the largest before it": the largest of its own and those before it
abbrev pub step_price : List RawStep → ℕ → ℤ
step_price l i = (get_or l i no_step).price

unfoldable pub raised_step : List RawStep → ℕ → RawStep
raised_step l i = record { end = (get_or l i no_step).end; price = highest_to (step_price l) i }

unfoldable pub raised : List RawStep → List RawStep
raised l = listed (raised_step l) (length l)

unfoldable pub joined_raw : RawCurve → RawCurve → RawCurve
joined_raw a b = raw_with a.start (raised (joined_steps a b))

-- ---- the checks
-- the lower of two numbers, where 0 is none: "the lowest applicable number wins"
abbrev pub lowest : ℕ → ℕ → ℕ
lowest zero n = n
lowest (suc m) zero = suc m
lowest (suc m) (suc n) = min (suc m) (suc n)

-- 23: "the second part doesn't start at the first one's last end"
abbrev pub meets : RawCurve → RawCurve → Bool
meets a b = eq_z (edge a a.count) b.start

-- 24: "over 11 steps together"
abbrev pub few_together : RawCurve → RawCurve → Bool
few_together a b = leb (a.count + b.count) most_steps

-- "Each part passes a default curve's checks first"; 23 and 24 "both after 3"
unfoldable pub contract_refusal : RawCurve → RawCurve → ℕ
contract_refusal a b = lowest (default_refusal a) (default_refusal b) then unless (meets a b) 23 then unless (few_together a b) 24

-- ---- the answer
-- the curve as opening takes it from a pack, or one of no step: a refusal returns its number alone
abbrev pub joined_pack : RawCurve → RawCurve → RawCurve
joined_pack a b = pack_unless (contract_refusal a b) (joined_raw a b)

-- the same as a checked curve
abbrev pub joined_curve : RawCurve → RawCurve → Curve
joined_curve a b = unless_refused (contract_refusal a b) (curve_of (joined_raw a b))
