-- `interval_part::part_by_count` meets its contract. Assumes nothing.
use Rattle.std.proofs.Common.{◌≡◌, ℕ, ◌*◌, ◌≤◌, min, List, ℤ, arith}
use Rattle.rules_number.specs.Order.{nat_of}
use Rattle.rules_library.specs.Slices.{cell_at}
use Rattle.rules_state.specs.Layout.{market_from}
use Rattle.rules_state.specs.States.{market_in}
use Rattle.interval_part.proofs.part_by_count.Goals as goal

-- k resources have 4 cells of outputs and 32 of factors each
few_cells : (l : List ℤ) (n k : ℕ) → n ≡ nat_of (cell_at l market_from) → n ≤ k → (min (market_in l).resources 64 * 4 ≤ k * 4) × (min (market_in l).resources 64 * 32 ≤ k * 32)
unfolding market_in
few_cells l n k e h = (omega arith, omega arith)

pub part_with-requires : goal.part_with-requires
part_with-requires c =
    let r = few_cells c.args.state.now c.whole_at-n.result 1 c.whole_at-n.ensures c.if-n-le-ONE_RESOURCE.true in
    (r.0, (r.1, (omega arith, omega arith)))

pub part_with-requires-then-n-le-FEW_RESOURCES : goal.part_with-requires-then-n-le-FEW_RESOURCES
part_with-requires-then-n-le-FEW_RESOURCES c =
    let r = few_cells c.args.state.now c.whole_at-n.result 8 c.whole_at-n.ensures c.if-n-le-FEW_RESOURCES.true in
    (r.0, (r.1, (omega arith, omega arith)))

pub part_with-requires-then-n-le-HALF_RESOURCES : goal.part_with-requires-then-n-le-HALF_RESOURCES
part_with-requires-then-n-le-HALF_RESOURCES c =
    let r = few_cells c.args.state.now c.whole_at-n.result 32 c.whole_at-n.ensures c.if-n-le-HALF_RESOURCES.true in
    (r.0, (r.1, (omega arith, omega arith)))
