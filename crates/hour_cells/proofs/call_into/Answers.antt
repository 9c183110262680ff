-- `hour_cells::call_into`: by the room of the cells. Assumes nothing.
use borrow.Author.Rules.{rules}
use mathlib.Core.Path.{◌∙◌}
use native.Mathlib.Omega.{arith}
use Rattle.rules_curve.specs.Refusals.{outcome_number}
use Rattle.interval.specs.Over.{lent_interval}
use Rattle.hour_cells.proofs.CallLaws.{told, few_cells, whole_cells}
use Rattle.hour_cells.proofs.call_into.Goals as goal

pub returns-then-state-lt-STATE_ROOM : goal.returns-then-state-lt-STATE_ROOM
returns-then-state-lt-STATE_ROOM c =
    let h = few_cells c.args.pass c.args.state.now c.args.verdicts.now (lent_interval c.args.asked.now) (omega (arith, c.if-state-lt-STATE_ROOM.true)) in
    record { number = h.0; state = h.1.0; verdicts = h.1.1 }

pub returns : goal.returns
returns c =
    let t = c.taken_into.ensures in
    let h =
    whole_cells c.args.pass c.args.state.now c.args.verdicts.now (lent_interval c.args.asked.now) (omega (arith, c.if-state-lt-STATE_ROOM.false)) (outcome_number c.taken_into.result)
    c.taken_into.new.state c.taken_into.new.verdicts (t.number, (t.state, t.verdicts)) in
    record { number = told _ (λ e d p. search rules) c.taken_into.result c.map_err.result c.map_err.ensures.cases ∙ h.0; state = h.1.0; verdicts = h.1.1 }
