-- `curve_checks::settled` meets its contract. Assumes nothing.
use Rattle.std.proofs.Common.{◌≡◌, ◌≤◌, length, take, refl, arith, rules}
use Rattle.std.proofs.Math.ListN.{length-map}
use Rattle.std.proofs.Math.Seq.{take_all}
use Rattle.rules_number.specs.Over.{padded}
use Rattle.rules_number.proofs.Kit.{rd}
use Rattle.rules_curve.specs.Curves.{most_steps, step_of, blank_step, curve_of}
use Rattle.rules_curve.proofs.ChainLaws.{raw_blank, map_padded}
use Rattle.curve.proofs.UsedLaws.{used_taken}
use Rattle.curve_checks.proofs.settled.Goals as goal

pub loop-i-init : goal.loop-i-init
unfolding padded
loop-i-init c = refl

pub loop-i-preserved : goal.loop-i-preserved
loop-i-preserved c =
    let r = c.args.raw in
    let u = take c.used.result r.steps in
    rw (c.loop-i.invariant, c.settled_step.ensures)
    (map_padded step_of most_steps blank_step raw_blank u c.loop-i.i _ c.loop-i-test.true (omega arith) refl)

pub returns : goal.returns
unfolding curve_of
returns c =
    let r = c.args.raw in
    let u = take c.used.result r.steps in
    let f : rd r.start ≡ r.start = search rules in
    let n : length u ≤ c.loop-i.i = omega arith in
    rw (c.whole.ensures, f, c.loop-i.invariant, take_all c.loop-i.i u n, ← length-map u step_of, used_taken r.steps r.count c.used.result c.used.ensures.0) refl
