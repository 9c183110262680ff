-- `mitigation::merged` meets its contract. Assumes nothing.
use Rattle.std.proofs.Common.{◌<◌, length, get_or, ap, arith, rules, of_z, w64}
use mir.Val.{SFits}
use Rattle.rules_number.specs.Over.{padded}
use Rattle.rules_number.proofs.Kit.{bits_same}
use Rattle.rules_number.proofs.OrderLaws.{eq_z_other}
use Rattle.rules_number.proofs.OverLaws.{taken_at}
use Rattle.rules_curve.specs.Curves.{blank_step}
use Rattle.rules_mitigation.specs.Mitigation.{used_steps}
use Rattle.mitigation.proofs.Walk.{joining_start, joining_same, joining_other, joining_end, joined_none}
use Rattle.mitigation.proofs.merged.Goals as goal
use Rattle.mitigation.proofs.merged.Goals.{then-last-step, else-last-step}

pub returns-then-used-eq0 : goal.returns-then-used-eq0
unfolding padded
returns-then-used-eq0 c = rw (joined_none (used_steps c.args.curve) (omega arith))

pub loop-i-init : goal.loop-i-init
loop-i-init c =
    let s = c.args.curve in
    let h : 0 < length (used_steps s) = omega arith in
    joining_start _ blank_step _ h (taken_at s.count s.steps 0 blank_step h)

pub loop-i-preserved : goal.loop-i-preserved
loop-i-preserved c =
    let s = c.args.curve in
    let l = c.loop-i in
    let x = get_or s.steps l.i blank_step in
    let h : l.i < length (used_steps s) = omega arith in
    let e = taken_at s.count s.steps l.i blank_step h in
    let fl : SFits w64 l.last.price = search rules in
    let fs : SFits w64 x.price = search rules in
    elim c.if-last-step.branch [
      | then-last-step w ↦ rw (w.steps-is, w.n-is) (joining_other _ _ _ _ _ l.invariant blank_step _ h e (eq_z_other l.last.price x.price (λ y. w.if-last-step.true (ap (of_z w64) y))) (omega arith))
      | else-last-step w ↦ rw (w.steps-is, w.n-is) (joining_same _ _ _ _ _ l.invariant blank_step _ h e (bits_same _ _ fl fs w.if-last-step.false))
    ]

pub returns : goal.returns
returns c = joining_end _ _ _ _ _ c.loop-i.invariant _ (omega arith) (omega arith)
