-- `noskjerf_why::noskjerf_why`: one answer for each way out. Assumes nothing.
use Prim.Native.Nat.{◌≤◌, ◌<◌}
use mathlib.Core.Path.{◌≡◌, sym, ap, ◌∙◌}
use native.Mathlib.Omega.{arith}
use lib.Seq.{sets}
use mir.Facts.{to_z_pos}
use mir.Syntax.{w64}
use Rattle.rules_number.proofs.Kit.{came}
use Rattle.rules_curve.specs.Refusals.{outcome_number}
use Rattle.rules_curve.proofs.RefusalLaws.{told_number}
use Rattle.rules_interval.specs.Intervals.{interval_refusal}
use Rattle.rules_state.specs.Causes.{causes_cells}
use Rattle.rules_state.specs.Intervals.{interval_in}
use Rattle.rules_state.specs.States.{market_in}
use Rattle.rules_state.specs.Takes.{if_accepted}
use Rattle.rules_state.proofs.TakeLaws.{not_written, written_zero}
use Rattle.interval.specs.Over.{interval_over}
use Rattle.cutting.proofs.AlikeLaws.{Alike, over_alike, refusal_same, why_causes}
use Rattle.noskjerf_why.proofs.WhyLaws.{few_cells, few_causes, refused, written}
use Rattle.noskjerf_why.proofs.noskjerf_why.Goals as goal
use Rattle.noskjerf_why.proofs.noskjerf_why.Goals.{After-causes_into, After-refusal_number}

-- the number, and the causes, of the interval as it is read
module _ (c : After-causes_into) where
  alike : Alike (market_in c.args.state.now).resources (interval_over c.args.constraints c.args.shadow.now c.args.resources c.args.outputs.now c.args.factors.now c.args.parameter) (interval_in c.args.constraints c.args.shadow.now c.args.resources c.args.outputs.now c.args.factors.now c.args.parameter)
  alike = over_alike (market_in c.args.state.now).resources c.args.constraints c.args.shadow.now c.args.resources c.args.outputs.now c.args.factors.now c.args.parameter

  numbered : interval_refusal (market_in c.args.state.now).resources (interval_in c.args.constraints c.args.shadow.now c.args.resources c.args.outputs.now c.args.factors.now c.args.parameter) ≡ outcome_number c.causes_into.result
  numbered =
      sym (rw (came c.args.parameter c.ranges.parameter.sfits) at c.causes_into.ensures.number ∙ refusal_same (market_in c.args.state.now).resources (interval_over c.args.constraints c.args.shadow.now c.args.resources c.args.outputs.now c.args.factors.now c.args.parameter) (interval_in c.args.constraints c.args.shadow.now c.args.resources c.args.outputs.now c.args.factors.now c.args.parameter) alike)

  caused : c.causes_into.new.causes ≡ if_accepted (interval_refusal (market_in c.args.state.now).resources (interval_in c.args.constraints c.args.shadow.now c.args.resources c.args.outputs.now c.args.factors.now c.args.parameter)) (sets c.args.causes.now 0 (causes_cells (market_in c.args.state.now) (interval_in c.args.constraints c.args.shadow.now c.args.resources c.args.outputs.now c.args.factors.now c.args.parameter))) c.args.causes.now
  caused = rw (came c.args.parameter c.ranges.parameter.sfits) at c.causes_into.ensures.causes ∙ why_causes (interval_over c.args.constraints c.args.shadow.now c.args.resources c.args.outputs.now c.args.factors.now c.args.parameter) (interval_in c.args.constraints c.args.shadow.now c.args.resources c.args.outputs.now c.args.factors.now c.args.parameter) c.args.state.now alike c.args.causes.now

small : (c : After-refusal_number) → (0 < c.refusal_number.result) × (c.refusal_number.result ≤ 99)
small c = told_number c.in-Err.refusal c.refusal_number.result c.refusal_number.ensures

pub returns-then-state-lt-STATE_ROOM : goal.returns-then-state-lt-STATE_ROOM
returns-then-state-lt-STATE_ROOM c =
    let h = few_cells c.args.state.now c.args.causes.now (interval_in c.args.constraints c.args.shadow.now c.args.resources c.args.outputs.now c.args.factors.now c.args.parameter) (omega arith) in
    record { answer = h.0; causes = h.1 }

pub returns-then-causes-lt-CAUSE_ROOM : goal.returns-then-causes-lt-CAUSE_ROOM
returns-then-causes-lt-CAUSE_ROOM c =
    let h = few_causes c.args.state.now c.args.causes.now (interval_in c.args.constraints c.args.shadow.now c.args.resources c.args.outputs.now c.args.factors.now c.args.parameter) (omega arith) (omega arith) in
    record { answer = h.0; causes = h.1 }

pub returns-in-Err : goal.returns-in-Err
returns-in-Err c =
    let p = goal.at.returns-in-Err c in
    let k = p.After-causes_into in
    let x = small p.After-refusal_number in
    let n = numbered k ∙ ap outcome_number c.in-Err.is ∙ sym c.refusal_number.ensures in
    let some : 0 < interval_refusal (market_in c.args.state.now).resources (interval_in c.args.constraints c.args.shadow.now c.args.resources c.args.outputs.now c.args.factors.now c.args.parameter) = rw n x.0 in
    let w = refused c.args.state.now c.args.causes.now (interval_in c.args.constraints c.args.shadow.now c.args.resources c.args.outputs.now c.args.factors.now c.args.parameter) (omega arith) (omega arith) c.refusal_number.result x.0 n in
    record {
      answer = to_z_pos w64 {n = c.refusal_number.result} (omega (arith, x.1)) ∙ w.0;
      causes = caused k ∙ not_written _ _ c.args.causes.now some ∙ w.1;
    }

pub returns-in-Ok : goal.returns-in-Ok
returns-in-Ok c =
    let k = (goal.at.returns-in-Ok c).After-causes_into in
    let n = numbered k ∙ ap outcome_number c.in-Ok.is in
    let h = written c.args.state.now c.args.causes.now (interval_in c.args.constraints c.args.shadow.now c.args.resources c.args.outputs.now c.args.factors.now c.args.parameter) (omega arith) (omega arith) n c.causes_into.new.causes (caused k ∙ written_zero _ _ c.args.causes.now n) in
    record { answer = h.0; causes = h.1 }
