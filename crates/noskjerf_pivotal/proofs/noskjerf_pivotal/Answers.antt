-- `noskjerf_pivotal::noskjerf_pivotal`: by the rooms of the slices, and by what the search answers. Assumes nothing.
use Prim.Native.Nat.{ℕ}
use mathlib.Core.Path.{◌≡◌, sym, ap, ◌∙◌}
use native.Mathlib.Omega.{arith}
use lib.ListN.{set}
use lib.Seq.{sets}
use mir.Facts.{to_z_pos}
use mir.Syntax.{w64}
use Rattle.rules_number.proofs.Kit.{came}
use Rattle.rules_curve.proofs.RefusalLaws.{told_number}
use Rattle.rules_interval.specs.declared.Interval.{Interval}
use Rattle.rules_path.specs.declared.Market.{Market}
use Rattle.rules_pivotal.specs.Calls.{found_cells}
use Rattle.rules_pivotal.specs.Pivotals.{pivotal_refusal, pivotal_of}
use Rattle.rules_pivotal.specs.declared.Pivotal.{Pivotal}
use Rattle.rules_state.specs.Intervals.{interval_in}
use Rattle.rules_state.specs.States.{market_in}
use Rattle.interval.specs.Over.{interval_over}
use Rattle.cutting.proofs.AlikeLaws.{Alike, over_alike}
use Rattle.noskjerf_pivotal.proofs.PivotalLaws.{refusals_alike, results_alike, few_cells, few_found, refused, written}
use Rattle.noskjerf_pivotal.proofs.noskjerf_pivotal.Goals as goal
use Rattle.noskjerf_pivotal.proofs.noskjerf_pivotal.Goals.{Start}

module _ (s : Start) where
  -- the interval that is asked for, as it is lent and as it is read
  abbrev lent : Interval
  lent = interval_over s.args.constraints s.args.shadow.now s.args.resources s.args.outputs.now s.args.factors.now s.args.parameter

  abbrev asked : Interval
  asked = interval_in s.args.constraints s.args.shadow.now s.args.resources s.args.outputs.now s.args.factors.now s.args.parameter

  abbrev known : Market
  known = market_in s.args.state.now

  alike : Alike known.resources lent asked
  alike = over_alike known.resources s.args.constraints s.args.shadow.now s.args.resources s.args.outputs.now s.args.factors.now s.args.parameter

  numbered : pivotal_refusal known lent ≡ pivotal_refusal known asked
  numbered = refusals_alike known lent asked alike

  result-is : pivotal_of known lent s.args.budget ≡ pivotal_of known asked s.args.budget
  result-is = results_alike known lent asked alike s.args.budget

pub returns-then-state-lt-STATE_ROOM : goal.returns-then-state-lt-STATE_ROOM
returns-then-state-lt-STATE_ROOM c =
    let a = asked (goal.at.returns-then-state-lt-STATE_ROOM c).Start in
    let w = few_cells c.args.state.now c.args.found.now a c.args.budget c.if-state-lt-STATE_ROOM.true in
    record { answer = w.0; found = w.1 }

pub returns-then-found-lt-FOUND_ROOM : goal.returns-then-found-lt-FOUND_ROOM
returns-then-found-lt-FOUND_ROOM c =
    let a = asked (goal.at.returns-then-found-lt-FOUND_ROOM c).Start in
    let w = few_found c.args.state.now c.args.found.now a c.args.budget c.if-state-lt-STATE_ROOM.false c.if-found-lt-FOUND_ROOM.true in
    record { answer = w.0; found = w.1 }

pub returns-in-Err : goal.returns-in-Err
returns-in-Err c =
    let s = (goal.at.returns-in-Err c).Start in
    let small = told_number c.in-Err.refusal c.refusal_number.result c.refusal_number.ensures in
    let n = sym (c.refusal_number.ensures ∙ (simp (came c.args.parameter c.ranges.parameter.sfits) at c.in-Err.ensures.number) ∙ numbered s) in
    let w = refused c.args.state.now c.args.found.now (asked s) c.args.budget c.if-state-lt-STATE_ROOM.false c.if-found-lt-FOUND_ROOM.false c.refusal_number.result small.0 n in
    record { answer = to_z_pos w64 {n = c.refusal_number.result} (omega (arith, small.1)) ∙ w.0; found = w.1 }

pub returns-in-Ok : goal.returns-in-Ok
returns-in-Ok c =
    let s = (goal.at.returns-in-Ok c).Start in
    let r = c.in-Ok.result in
    let w = written c.args.state.now c.args.found.now (asked s) c.args.budget c.if-state-lt-STATE_ROOM.false c.if-found-lt-FOUND_ROOM.false (sym ((simp (came c.args.parameter c.ranges.parameter.sfits) at c.in-Ok.ensures.number) ∙ numbered s)) _
    (ap (λ (b : ℕ). set (set (set c.args.found.now 0 b) 1 r.tried) 2 r.floor) c.best_number.ensures
    ∙ ap (λ (x : Pivotal). sets c.args.found.now 0 (found_cells x)) ((simp (came c.args.parameter c.ranges.parameter.sfits) at c.in-Ok.ensures.found) ∙ result-is s)) in
    record { answer = w.0; found = w.1 }
