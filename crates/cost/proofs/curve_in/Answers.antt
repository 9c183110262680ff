-- `cost::curve_in`. Assumes nothing.
use Rattle.std.proofs.Common.{ℕ, ◌≡◌, ◌+◌, List, ℤ, refl, ◌∙◌, arith, rules}
use Rattle.rules_number.specs.Order.{nat_of}
use Rattle.rules_number.specs.Over.{listed, padded}
use Rattle.rules_curve.specs.Curves.{most_steps, step_to, blank_step}
use Rattle.rules_curve.specs.declared.Step.{Step}
use Rattle.rules_curve.specs.declared.Curve.{Curve}
use Rattle.rules_library.specs.Slices.{cell_at}
use Rattle.rules_library.proofs.SliceLaws.{filled_next, filled}
use Rattle.rules_state.specs.States.{curve_in_cells}
use Rattle.cost.proofs.curve_in.Goals as goal

-- step i of the cells
abbrev step_in : List ℤ → ℕ → Step
step_in s i = step_to (nat_of (cell_at s (2 + i))) (cell_at s (2 + most_steps + i))

by_cells : {a a' : ℕ} {b b' : ℤ} → a ≡ a' → b ≡ b' → step_to a b ≡ step_to a' b'
by_cells e f = cc

by_parts : {a a' b b' : ℕ} {l l' : List Step} → a ≡ a' → b ≡ b' → l ≡ l' → ◌≡◌ {A = Curve} (record { start = a; count = b; steps = l }) (record { start = a'; count = b'; steps = l' })
by_parts e f g = cc

pub loop-i-init : goal.loop-i-init
unfolding padded listed
loop-i-init c = record { filled = refl }

pub loop-i-preserved : goal.loop-i-preserved
loop-i-preserved c =
    let l = c.loop-i in
    record {
      filled = filled_next most_steps blank_step (step_in c.args.s.now) l.step-items l.i _ (omega arith) l.invariant.filled
          (by_cells c.whole_at.ensures (search rules ∙ c.cell_at.ensures));
    }

pub returns : goal.returns
unfolding curve_in_cells
returns c =
    let l = c.loop-i in
    by_parts c.whole_at-2.ensures c.whole_at-3.ensures (filled most_steps blank_step (step_in c.args.s.now) l.step-items l.i (omega arith) (omega arith) l.invariant.filled)
