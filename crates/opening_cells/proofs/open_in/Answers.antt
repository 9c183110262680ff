-- `opening_cells::open_in`: the rows in cells of their own, and put last.
use mathlib.Core.Path.{◌≡◌, sym, ◌∙◌}
use Rattle.opening_cells.specs.Hours.{rows_refusal, hour_in}
use Rattle.opening_cells.proofs.OpenLaws.{taken}
use Rattle.opening_cells.proofs.IntoLaws.{rows_last}
use Rattle.opening_cells.proofs.open_in.Goals as goal

pub returns-clause-state : goal.returns-clause-state
returns-clause-state g c =
    let a = c.args.given.now in
    let z : rows_refusal a ≡ 0 = sym c.in_ok-put_resources.ensures.number in
    let r = c.put_resources.ensures.rows z in
    rows_last a.portfolios a.sellers.now a.resources a.blocks.now c.requires.0 c.requires.1.0 g.row.CELLS c.requires.1.1.0 c.args.state.now c.put_resources.new.state _ _ r.0 r.1
    c.put_fresh.ensures c.put_all.ensures ∙ sym (taken (rows_refusal a) (hour_in a c.args.state.now) c.args.state.now z)
