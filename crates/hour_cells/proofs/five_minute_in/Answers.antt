-- `hour_cells::five_minute_in`: the curve of the row in the cells, cut by the passes. Assumes nothing.
use mathlib.Core.Path.{ap₂, ◌∙◌}
use lib.ListN.{get_or}
use Rattle.rules_hour.specs.Hours.{uncut, row_curve, cut_floor}
use Rattle.rules_hour.specs.declared.Floor.{Floor}
use Rattle.rules_pass.specs.Passes.{five_minute_in}
use Rattle.rules_state.specs.States.{standing_in, quarter_in, rows_in}
use Rattle.hour_cells.proofs.CallLaws.{row_same}
use Rattle.hour_cells.proofs.five_minute_in.Goals as goal

pub returns : goal.returns
unfolding five_minute_in
returns c =
    let s = c.args.state.now in
    let cut : Floor → Floor → Floor = λ pass floor. cut_floor pass.price floor in
    c.row_curve.ensures ∙ ap₂ row_curve c.row_in-row.ensures (c.cut_floor.ensures ∙ ap₂ cut c.pass_floor_in-lowest.ensures c.floor_in-floor.ensures)
    ∙ row_same (rows_in s) c.args.r (cut (get_or (quarter_in s).floors c.args.r uncut) (get_or (standing_in s).floors c.args.r uncut))
