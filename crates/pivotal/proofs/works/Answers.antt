-- `pivotal::works`: a turn asks for one constraint more. Assumes nothing.
use mathlib.Core.Path.{◌≡◌, refl, sym, ◌∙◌}
use native.Mathlib.Omega.{arith}
use lib.Dec.{leb}
use Rattle.rules_number.specs.Over.{all_to}
use Rattle.rules_number.proofs.OverLaws.{all_next, all_fails}
use Rattle.pivotal.specs.Rows.{lack_at, withheld_at, works_on}
use Rattle.pivotal.proofs.works.Goals as goal

pub loop-c-init : goal.loop-c-init
unfolding all_to
loop-c-init c = refl

pub returns-then-not-is_short : goal.returns-then-not-is_short
unfolding works_on
returns-then-not-is_short c =
    sym (all_fails (λ k. leb (lack_at c.args.rows.now k) (withheld_at c.args.rows.now c.args.s k)) c.args.n c.loop-c.c (omega arith) (sym c.is_short.ensures ∙ c.if-not-is_short.true))

pub loop-c-preserved : goal.loop-c-preserved
loop-c-preserved c =
    all_next (λ k. leb (lack_at c.args.rows.now k) (withheld_at c.args.rows.now c.args.s k)) c.loop-c.c c.loop-c.invariant (sym c.is_short.ensures ∙ c.if-not-is_short.false)

pub returns : goal.returns
unfolding works_on
returns c =
    let e : c.args.n ≡ c.loop-c.c = omega arith in
    rw e (sym c.loop-c.invariant)
