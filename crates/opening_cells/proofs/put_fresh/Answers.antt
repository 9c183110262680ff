-- `opening_cells::put_fresh`: zeros, and over them what is known.
use Prim.Native.Nat.{◌≤◌}
use native.Mathlib.Omega.{arith}
use lib.IntN.{pos}
use Rattle.rules_state.specs.Layout.{most_resources, most_portfolios}
use Rattle.opening_cells.proofs.OpenLaws.{fresh_made}
use Rattle.opening_cells.proofs.put_fresh.Goals as goal

pub returns : goal.returns
returns c =
    let g = c.args.given.now in
    let n : g.resources ≤ most_resources = omega arith in
    let k : g.portfolios ≤ most_portfolios = omega arith in
    fresh_made (pos 0) g.portfolios g.sellers.now g.resources g.blocks.now n k c.args.state.now _ _ _ _ c.clear.ensures c.put_whole.ensures c.put_each.ensures c.put_each-2.ensures
