-- What the loop of `cell_copies::fill_every` keeps: the cells before its index are those of the places that it has passed.
use Rattle.std.proofs.Common.{length, ◌≡◌, ◌+◌, ◌*◌}
use Rattle.std.proofs.Common.{min as least}
use Rattle.rules_library.specs.Slices.{cell_at}
use Rattle.cell_copies.proofs.CopyLaws.{filled_to}
use Rattle.cell_copies.proofs.fill_every.Given as goal

abbrev pub invariant-loop-x : goal.invariant-loop-x
invariant-loop-x l = record {
  place : l.place ≡ least (l.step * l.x-index + l.at) (length l.from);
  filled : l.into ≡ filled_to (λ k. cell_at l.from (l.step * k + l.at)) l.initial.into l.x-index;
}
