-- `slices::steps_in` meets its contract. Assumes nothing.
use Rattle.std.proofs.Common.{◌≡◌, ℤ, refl, ◌∙◌, arith}
use Rattle.rules_number.specs.Over.{listed, padded}
use Rattle.rules_number.proofs.Kit.{came}
use Rattle.rules_curve.specs.Curves.{most_steps}
use Rattle.rules_curve.specs.declared.RawStep.{RawStep}
use Rattle.rules_library.specs.Slices.{raw_step_at}
use Rattle.rules_library.proofs.SliceLaws.{filled_next, filled}
use Rattle.slices.proofs.steps_in.Invariants.{blank_raw}
use Rattle.slices.proofs.steps_in.Goals as goal

by_cells : {a a' b b' : ℤ} → a ≡ a' → b ≡ b' → ◌≡◌ {A = RawStep} (record { end = a; price = b }) (record { end = a'; price = b' })
by_cells e f = cc

pub loop-i-init : goal.loop-i-init
unfolding padded listed
loop-i-init c = refl

pub loop-i-preserved : goal.loop-i-preserved
loop-i-preserved c =
    filled_next most_steps blank_raw (raw_step_at c.args.s.now) c.loop-i.step-items c.loop-i.i _ (omega arith) c.loop-i.invariant
    (by_cells (came c.cell_at.result c.cell_at.type_inv ∙ c.cell_at.ensures) (came c.cell_at-in-loop-i.result c.cell_at-in-loop-i.type_inv ∙ c.cell_at-in-loop-i.ensures))

pub returns : goal.returns
returns c = filled most_steps blank_raw (raw_step_at c.args.s.now) c.loop-i.step-items c.loop-i.i (omega arith) (omega arith) c.loop-i.invariant
