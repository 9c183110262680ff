-- `opening_cells::open_one`: the row first, and a fresh hour over what lies before it.
use mathlib.Core.Path.{◌≡◌, sym, ◌∙◌}
use native.Mathlib.Omega.{arith}
use Rattle.opening_cells.specs.Hours.{rows_refusal, hour_in}
use Rattle.opening_cells.proofs.OpenLaws.{taken}
use Rattle.opening_cells.proofs.IntoLaws.{rows_first}
use Rattle.opening_cells.proofs.open_one.Goals as goal

pub returns-clause-state : goal.returns-clause-state
returns-clause-state c =
    let g = c.args.given.now in
    let z : rows_refusal g ≡ 0 = sym c.in_ok-put_resources.ensures.number in
    rows_first g.portfolios g.sellers.now g.resources g.blocks.now c.requires.0 (omega (arith, c.requires.1)) c.args.state.now _ _ (c.put_resources.ensures.rows z).1 c.put_fresh.ensures
    ∙ sym (taken (rows_refusal g) (hour_in g c.args.state.now) c.args.state.now z)
