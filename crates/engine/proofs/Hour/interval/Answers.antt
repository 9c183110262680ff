-- `engine::Hour/interval`: what is answered of its cells.
use mathlib.Core.Path.{◌≡◌, ap, ◌∙◌}
use Prim.Native.Nat.{◌≤◌}
use native.Mathlib.Omega.{arith}
use lib.ListN.{length, length-map}
use Rattle.rules_hour.specs.Hours.{call_verdicts}
use Rattle.rules_state.specs.Layout.{state_room}
use Rattle.rules_state.specs.States.{hour_in}
use Rattle.hour_cells.specs.Calls.{refusal_by}
use Rattle.engine.proofs.HourLaws.{after_interval}
use Rattle.engine.proofs.Hour.interval.Goals as goal
use Rattle.std.proofs.Common.{rules}

pub returns : goal.returns
unfolding refusal_by call_verdicts
returns c =
    let t = c.called.ensures in
    let n : length c.args.self.cells ≡ state_room = search rules in
    let long : state_room ≤ length c.args.self.cells = omega arith in
    record { number = t.number; hour = ap hour_in t.hour ∙ after_interval c.args.self.cells c.args.v long; verdicts = t.verdicts; cells = t.hour }
