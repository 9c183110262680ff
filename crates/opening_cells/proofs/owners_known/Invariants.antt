-- `opening_cells::owners_known`: the portfolios of the first r resources are known.
use Rattle.std.proofs.Common.{◌≡◌, ◌*◌, true}
use Rattle.rules_number.specs.Over.{all_to}
use Rattle.rules_opening.specs.Openings.{is_known}
use Rattle.rules_library.specs.Slices.{cell_at}
use Rattle.rules_state.specs.Layout.{block_room}
use Rattle.opening_cells.proofs.owners_known.Given as goal

abbrev pub invariant-loop-r : goal.invariant-loop-r
invariant-loop-r l = all_to (λ r. is_known l.portfolios (cell_at l.blocks (block_room * r))) l.r ≡ true
