-- `classroom::bids`: the bids so far, with the first of them past those. Assumes nothing.
use Rattle.std.proofs.Common.{◌≡◌}
use Rattle.rules_number.specs.Over.{listed, padded}
use Rattle.rules_classroom.specs.Classroom.{classroom_bid}
use Rattle.classroom.proofs.bids.Given as goal

abbrev pub invariant-loop-k : goal.invariant-loop-k
invariant-loop-k l = l.place-items ≡ padded 37 (classroom_bid 0) (listed classroom_bid l.k)
