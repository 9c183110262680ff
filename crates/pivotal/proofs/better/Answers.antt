-- `pivotal::better`: by the sizes, and by what works. Assumes nothing.
use mathlib.Core.Bool.{true, false}
use mathlib.Core.Path.{sym, ◌∙◌}
use native.Mathlib.Omega.{arith}
use Rattle.rules_pivotal.proofs.TriedLaws.{not_fewer, fewer, no_use}
use Rattle.pivotal.specs.Rows.{works_on}
use Rattle.pivotal.proofs.WorksLaws.{below_floor}
use Rattle.pivotal.proofs.better.Goals as goal

pub returns-then-sellers_named-size : goal.returns-then-sellers_named-size
returns-then-sellers_named-size c = sym (not_fewer _ _ _ (omega arith))

pub returns-then-size-floor : goal.returns-then-size-floor
returns-then-size-floor c =
    let f = works_on c.args.rows.now c.args.n in
    sym (no_use f c.args.s c.args.best (below_floor f c.args.s c.args.floor c.requires.1.1 (omega arith)))

pub returns-then-works : goal.returns-then-works
returns-then-works c = sym (fewer _ _ _ (omega arith) true (sym c.works.ensures ∙ c.if-works.true))

pub returns-else-works : goal.returns-else-works
returns-else-works c = sym (fewer _ _ _ (omega arith) false (sym c.works.ensures ∙ c.if-works.false))
