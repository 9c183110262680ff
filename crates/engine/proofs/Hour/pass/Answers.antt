-- `engine::Hour/pass`: what is answered of its cells.
use mathlib.Core.Path.{◌≡◌, ap, ◌∙◌}
use Prim.Native.Nat.{◌≤◌}
use native.Mathlib.Omega.{arith}
use lib.ListN.{length, length-map}
use Rattle.rules_pass.specs.Passes.{turn_verdicts}
use Rattle.rules_state.specs.Layout.{state_room}
use Rattle.rules_state.specs.States.{hour_in}
use Rattle.hour_cells.specs.Calls.{refusal_by}
use Rattle.engine.proofs.HourLaws.{after_pass}
use Rattle.engine.proofs.Hour.pass.Goals as goal
use Rattle.std.proofs.Common.{rules}

pub returns : goal.returns
unfolding refusal_by turn_verdicts
returns c =
    let t = c.called.ensures in
    let n : length c.args.self.cells ≡ state_room = search rules in
    let long : state_room ≤ length c.args.self.cells = omega arith in
    record { number = t.number; hour = ap hour_in t.hour ∙ after_pass c.args.self.cells c.args.v long; verdicts = t.verdicts; cells = t.hour }
