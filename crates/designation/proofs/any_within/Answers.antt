-- `designation::any_within`: the findings from i on decide.
use mathlib.Core.Path.{◌≡◌, refl, sym, ap, ◌∙◌}
use native.Mathlib.Omega.{arith}
use lib.IntN.{pos}
use lib.ListN.{length, get_or, drop}
use lib.Seq.{drop-length}
use mir.Syntax.{w64}
use mir.ValLaws.{to_z-of_z}
use Rattle.rules_number.proofs.Kit.{came}
use Rattle.designation.specs.Numbers.{any_within}
use Rattle.designation.proofs.NumberLaws.{any_here, any_later}
use Rattle.designation.proofs.any_within.Goals as goal

pub loop-finding-init : goal.loop-finding-init
loop-finding-init c = refl

pub returns-then-within : goal.returns-then-within
returns-then-within c =
    let fl = to_z-of_z w64 c.args.lo c.ranges.lo in
    any_here c.args.lo c.args.findings.now c.loop-finding.finding-index (omega arith) (sym (simp (fl, came (get_or c.args.findings.now c.loop-finding.finding-index (pos 0)) c.within-arg-1.given) at c.within.ensures) ∙ c.if-within.true) (rw fl at c.loop-finding.invariant)

pub loop-finding-preserved : goal.loop-finding-preserved
loop-finding-preserved c =
    let fl = to_z-of_z w64 c.args.lo c.ranges.lo in
    rw fl (any_later c.args.lo c.args.findings.now c.loop-finding.finding-index (omega arith) (sym (simp (fl, came (get_or c.args.findings.now c.loop-finding.finding-index (pos 0)) c.within-arg-1.given) at c.within.ensures) ∙ c.if-within.false) (rw fl at c.loop-finding.invariant))

pub returns : goal.returns
unfolding any_within
returns c =
    let fl = to_z-of_z w64 c.args.lo c.ranges.lo in
    let e : c.loop-finding.finding-index ≡ length c.args.findings.now = omega arith in
    sym (rw fl at c.loop-finding.invariant ∙ ap (any_within c.args.lo) (ap (λ i. drop i c.args.findings.now) e ∙ drop-length c.args.findings.now))
