-- `opening_cells::put_each`: the first k numbers are put.
use Rattle.std.proofs.Common.{◌≡◌, ◌*◌}
use Rattle.std.proofs.lemmas.List.Edits.{sets}
use Rattle.rules_number.specs.Order.{nat_of}
use Rattle.rules_number.specs.Over.{listed}
use Rattle.rules_library.specs.Slices.{cell_at}
use Rattle.rules_state.specs.States.{cell_of}
use Rattle.opening_cells.proofs.put_each.Given as goal

abbrev pub invariant-loop-k : goal.invariant-loop-k
invariant-loop-k l = l.state ≡ sets l.initial.state l.at (listed (λ k. cell_of (nat_of (cell_at l.numbers (l.width * k)))) l.k)
