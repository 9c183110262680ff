-- A curve as it would be read, and back. Assumes nothing.
use mathlib.Core.List.{List, [], ◌∷◌, map}
use mathlib.Core.Path.{◌≡◌, refl, ap, ◌∙◌}
use Prim.Native.Nat.{ℕ}
use lib.IntN.{pos}
use lib.ListN.{length}
use Rattle.rules_number.specs.Over.{listed, padded}
use Rattle.rules_curve.specs.Curves.{most_steps, blank_step, curve_with, curve_of, step_of, raw_steps}
use Rattle.rules_curve.specs.declared.RawStep.{RawStep}
use Rattle.rules_curve.specs.declared.RawCurve.{RawCurve}
use Rattle.rules_curve.specs.declared.Step.{Step}
use Rattle.rules_curve.specs.declared.Curve.{Curve}
use Rattle.rules_curve.proofs.CheckLaws.{with_used}
use Rattle.rules_curve.proofs.ChainLaws.{take_map, map_listed}

-- a curve as it would be read
abbrev pub raw_step : Step → RawStep
raw_step s = record { end = pos s.end; price = s.price }

abbrev pub raw_of : Curve → RawCurve
raw_of c = record { start = pos c.start; count = c.count; steps = map raw_step c.steps }

pub raw_listed : (s : ℕ) (f : ℕ → Step) (n : ℕ) → raw_steps (raw_of (curve_with s (listed f n))) ≡ listed (λ i. raw_step (f i)) n
raw_listed s f n =
    take_map raw_step (length (listed f n)) (padded most_steps blank_step (listed f n)) ∙ ap (map raw_step) (with_used s (listed f n)) ∙ map_listed raw_step f n

map_back : (l : List Step) → map step_of (map raw_step l) ≡ l
map_back [] = refl
map_back (s ∷ l) = ap (λ (t : List Step). s ∷ t) (map_back l)

-- what is read of a curve is the curve
pub raw_back : (s : ℕ) (l : List Step) → curve_of (raw_of (curve_with s l)) ≡ curve_with s l
unfolding curve_of
raw_back s l =
    ap (curve_with s) (ap (map step_of) (take_map raw_step (length l) (padded most_steps blank_step l) ∙ ap (map raw_step) (with_used s l)) ∙ map_back l)
