-- `opening_cells::put_resources`: the rows of the first r resources are put, and none of them is refused.
use Rattle.std.proofs.Common.{◌≡◌, ◌*◌, length}
use Rattle.std.proofs.lemmas.List.Edits.{sets}
use Rattle.rules_curve.specs.Refusals.{each_to}
use Rattle.rules_state.specs.Layout.{room_of_row}
use Rattle.opening_cells.specs.Hours.{refusal_of, rows_of}
use Rattle.opening_cells.proofs.put_resources.Given as goal

abbrev pub invariant-loop-r : goal.invariant-loop-r
invariant-loop-r l = record {
  none : each_to (refusal_of l.month l.given.blocks.now) l.r ≡ 0;
  room : length (rows_of l.given.blocks.now l.r) ≡ room_of_row * l.r;
  put : l.state ≡ sets l.initial.state l.from (rows_of l.given.blocks.now l.r);
}
