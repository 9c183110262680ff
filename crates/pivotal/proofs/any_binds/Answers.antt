-- `pivotal::any_binds`: a turn asks for one price more. Assumes nothing.
use mathlib.Core.Path.{refl, sym, ap, ◌∙◌}
use native.Mathlib.Omega.{arith}
use lib.IntN.{pos}
use lib.Signed.{lt_z}
use Rattle.rules_number.proofs.Kit.{came}
use Rattle.rules_library.specs.Slices.{cell_at}
use Rattle.rules_pivotal.specs.Pivotals.{any_to}
use Rattle.pivotal.proofs.ReadLaws.{any_next, any_found}
use Rattle.pivotal.proofs.any_binds.Goals as goal

pub loop-c-init : goal.loop-c-init
unfolding any_to
loop-c-init c = refl

pub returns-then-cell_at-gt0 : goal.returns-then-cell_at-gt0
returns-then-cell_at-gt0 c =
    any_found (λ k. lt_z (pos 0) (cell_at c.args.shadow.now k)) c.args.n c.loop-c.c (omega arith)
    (ap (lt_z (pos 0)) (sym c.cell_at.ensures) ∙ (rw (came c.cell_at.result c.cell_at.type_inv) at c.if-cell_at-gt0.true))

pub loop-c-preserved : goal.loop-c-preserved
loop-c-preserved c =
    any_next (λ k. lt_z (pos 0) (cell_at c.args.shadow.now k)) c.loop-c.c c.loop-c.invariant
    (ap (lt_z (pos 0)) (sym c.cell_at.ensures) ∙ (rw (came c.cell_at.result c.cell_at.type_inv) at c.if-cell_at-gt0.false))
