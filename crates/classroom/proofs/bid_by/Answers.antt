-- `classroom::bid_by` meets its contract. Assumes nothing.
use Rattle.rules_number.specs.Over.{padded}
use Rattle.classroom.specs.Places.{bid_by}
use Rattle.classroom.proofs.bid_by.Goals as goal

pub returns : goal.returns
unfolding bid_by padded
returns c = rw (c.step_by-3.ensures, c.step_by-2.ensures, c.step_by.ensures)
