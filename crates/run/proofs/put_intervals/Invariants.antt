-- What the loop of `run::put_intervals` keeps, and its measure.
use Rattle.std.proofs.Common.{◌≡◌, ◌-◌, length, drop}
use Rattle.rules_text.specs.Numbers.{lines}
use Rattle.rules_run.specs.Run.{hour_text, hour_end}
use Rattle.rules_state.specs.Layout.{verdict_room}
use Rattle.rules_state.specs.States.{hour_in, market_in, rows_in}
use Rattle.run.specs.Kept.{Kept}
use Rattle.run.proofs.GoingLaws.{Going}
use Rattle.run.proofs.KeptLaws.{SameLong}
use Rattle.run.proofs.put_intervals.Given as goal

abbrev pub invariant-loop-at : goal.invariant-loop-at
invariant-loop-at l = record {
  going : Going l.text l.initial.out (hour_text (hour_in l.initial.state).hour l.lines_before (lines (drop l.start l.text))) (hour_end (hour_in l.initial.state).hour l.lines_before (lines (drop l.start l.text))) l.out (hour_in l.state).hour l.at l.line l.i l.p;
  cells : length l.state ≡ length l.initial.state;
  room : length l.verdicts ≡ verdict_room;
  long : SameLong l.initial.shown l.initial.places l.initial.widths l.shown l.places l.widths;
  many : (market_in l.initial.state).resources ≡ (market_in l.state).resources;
  kept : Kept (market_in l.state).resources (rows_in l.state) l.out l.p l.shown l.places l.widths;
}

abbrev pub decreases-loop-at : goal.decreases-loop-at
decreases-loop-at l = 6 - l.i
