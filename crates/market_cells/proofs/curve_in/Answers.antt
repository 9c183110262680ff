-- `market_cells::curve_in` meets its contract. Assumes nothing.
use Rattle.std.proofs.Common.{◌≡◌, ℕ, List, ℤ, refl, ◌∙◌, arith}
use Rattle.rules_number.specs.Over.{listed, padded}
use Rattle.rules_number.proofs.Kit.{came}
use Rattle.rules_curve.specs.Curves.{most_steps, blank_step, step_to}
use Rattle.rules_curve.specs.declared.Curve.{Curve}
use Rattle.rules_curve.specs.declared.Step.{Step}
use Rattle.rules_library.proofs.SliceLaws.{filled_next, filled}
use Rattle.rules_state.specs.States.{curve_in_cells}
use Rattle.market_cells.proofs.curve_in.Invariants.{step_in}
use Rattle.market_cells.proofs.curve_in.Goals as goal

by_cells : {a a' : ℕ} {b b' : ℤ} → a ≡ a' → b ≡ b' → step_to a b ≡ step_to a' b'
by_cells e f = cc

by_fields : {s s' n n' : ℕ} {l l' : List Step} → s ≡ s' → n ≡ n' → l ≡ l' → ◌≡◌ {A = Curve} (record { start = s; count = n; steps = l }) (record { start = s'; count = n'; steps = l' })
by_fields e f g = cc

pub loop-k-init : goal.loop-k-init
unfolding padded listed
loop-k-init c = refl

pub loop-k-preserved : goal.loop-k-preserved
loop-k-preserved c =
    filled_next most_steps blank_step (step_in c.args.state.now c.args.from) c.loop-k.step-items c.loop-k.k _ (omega arith) c.loop-k.invariant
    (by_cells c.whole_at.ensures (came c.cell_at.result c.cell_at.type_inv ∙ c.cell_at.ensures))

pub returns : goal.returns
unfolding curve_in_cells
returns c =
    by_fields c.whole_at-2.ensures c.whole_at-3.ensures
    (filled most_steps blank_step (step_in c.args.state.now c.args.from) c.loop-k.step-items c.loop-k.k (omega arith) (omega arith) c.loop-k.invariant)
