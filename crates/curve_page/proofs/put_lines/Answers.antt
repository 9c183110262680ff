-- Goals of `curve_page::put_lines` that the search leaves. Assumes nothing.
use Rattle.std.proofs.Common.{◌≡◌, ◌≤◌, take, map, sym, ap, ◌∙◌, arith}
use Rattle.std.proofs.lemmas.List.{length-take-le}
use Rattle.rules_mitigation.specs.Mitigation.{most_mitigated_steps, used_steps}
use Rattle.rules_hour.specs.Hours.{curve_in}
use Rattle.rules_page.specs.Pages.{curve_rows, step_row}
use Rattle.rules_state.specs.States.{rows_in, standing_in, hour_in}
use Rattle.mitigated_cells.proofs.RowLaws.{steps_few}
use Rattle.line_copies.proofs.HeadLaws.{sets_back}
use Rattle.curve_page.proofs.LineLaws.{rows_are}
use Rattle.curve_page.proofs.put_lines.Goals as goal
use Rattle.curve_page.proofs.put_lines.Goals.{After-mitigated_into-n}

few : (c : After-mitigated_into-n) → c.mitigated_into-n.result ≤ most_mitigated_steps
few c = omega (arith, c.mitigated_into-n.ensures.count, steps_few c.args.state.now c.args.r)

-- the rows of the steps put are those of the curve
rows : (c : After-mitigated_into-n) → map step_row (take c.mitigated_into-n.result c.mitigated_into-n.new.steps) ≡ curve_rows (rows_in c.args.state.now) (standing_in c.args.state.now).floors c.args.r
rows c =
    let a = c.args in
    let e = c.mitigated_into-n.ensures in
    let u = used_steps (curve_in (hour_in a.state.now).hour a.r) in
    ap (map step_row) (ap (take c.mitigated_into-n.result) e.steps ∙ sets_back _ 0 u c.mitigated_into-n.result (sym e.count) (omega (arith, few c)))
    ∙ sym (rows_are a.state.now a.r)

pub slice_bounds-steps-end : goal.slice_bounds-steps-end
slice_bounds-steps-end c = omega (arith, few (goal.at.slice_bounds-steps-end c).After-mitigated_into-n, c.mitigated_into-n.array_long)

pub slice_bounds-put_steps-end : goal.slice_bounds-put_steps-end
slice_bounds-put_steps-end c =
    let m = few (goal.at.slice_bounds-put_steps-end c).After-mitigated_into-n in
    sym (length-take-le c.mitigated_into-n.result c.mitigated_into-n.new.steps (omega (arith, m, c.mitigated_into-n.array_long)))

pub returns-clause-put : goal.returns-clause-put
returns-clause-put c = rw (← (rows (goal.at.returns-clause-put c).After-mitigated_into-n)) c.put_steps.ensures.put

pub returns-clause-widths_after : goal.returns-clause-widths_after
returns-clause-widths_after c = rw (← (rows (goal.at.returns-clause-widths_after c).After-mitigated_into-n)) c.put_steps.ensures.widths_after
