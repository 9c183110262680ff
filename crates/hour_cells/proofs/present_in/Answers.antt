-- `hour_cells::present_in`: the curve of the row in the cells. Assumes nothing.
use mathlib.Core.Path.{ap₂, ◌∙◌}
use lib.ListN.{get_or}
use Rattle.rules_hour.specs.Hours.{row_curve, curve_in, uncut}
use Rattle.rules_state.specs.States.{standing_in, rows_in}
use Rattle.hour_cells.proofs.CallLaws.{row_same}
use Rattle.hour_cells.proofs.present_in.Goals as goal

pub returns : goal.returns
unfolding curve_in
returns c =
    let s = c.args.state.now in
    c.row_curve.ensures ∙ ap₂ row_curve c.row_in.ensures c.floor_in.ensures ∙ row_same (rows_in s) c.args.r (get_or (standing_in s).floors c.args.r uncut)
