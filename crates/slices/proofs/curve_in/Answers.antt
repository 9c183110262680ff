-- `slices::curve_in` meets its contract. Assumes nothing.
use Rattle.std.proofs.Common.{◌≡◌, ℕ, List, ℤ}
use Rattle.rules_number.proofs.Kit.{came}
use Rattle.rules_curve.specs.declared.RawStep.{RawStep}
use Rattle.rules_curve.specs.declared.RawCurve.{RawCurve}
use Rattle.slices.proofs.curve_in.Goals as goal

by_fields : {n : ℕ} {s s' : ℤ} {l l' : List RawStep} → s ≡ s' → l ≡ l'
    → ◌≡◌ {A = RawCurve} (record { start = s; count = n; steps = l }) (record { start = s'; count = n; steps = l' })
by_fields e f = cc

pub returns : goal.returns
returns c = by_fields (came c.args.start c.ranges.start.sfits) c.steps_in.ensures
