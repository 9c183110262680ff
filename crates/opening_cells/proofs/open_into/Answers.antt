-- `opening_cells::open_into`: by the room of the cells.
use mathlib.Core.Path.{◌∙◌}
use Prim.Native.Nat.{◌≤◌, ◌<◌}
use native.Mathlib.Omega.{arith}
use lib.ListN.{length}
use Rattle.rules_curve.specs.Refusals.{outcome_number}
use Rattle.rules_state.specs.Layout.{hour_room}
use Rattle.opening_cells.proofs.IntoLaws.{told, too_few, enough}
use Rattle.opening_cells.proofs.open_into.Goals as goal

pub returns-then-state-rows : goal.returns-then-state-rows
returns-then-state-rows c =
    let a = c.args.given.now in
    let h : length c.args.state.now < hour_room a.resources = omega (arith, c.if-state-rows.true, c.at_most-rows.ensures) in
    let r = too_few a.month a.portfolios a.sellers.now a.resources a.blocks.now c.args.state.now h in
    record { number = r.0; state = r.1 }

pub returns : goal.returns
returns c =
    let a = c.args.given.now in
    let h : hour_room a.resources ≤ length c.args.state.now = omega (arith, c.if-state-rows.false, c.at_most-rows.ensures) in
    let r = enough a.month a.portfolios a.sellers.now a.resources a.blocks.now c.args.state.now h (outcome_number c.opened.result) _ c.opened.ensures.number c.opened.ensures.state in
    record { number = told _ (λ e d p. p) c.opened.result c.map_err.result c.map_err.ensures.cases ∙ r.0; state = r.1 }
