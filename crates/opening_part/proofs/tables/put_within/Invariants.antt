-- The loop of `opening_part::tables::put_within`.
use Rattle.text_blocks.proofs.BlockLaws.{ChargesLeft}
use Rattle.opening_part.proofs.tables.put_within.Given as goal

abbrev pub invariant-loop-k : goal.invariant-loop-k
invariant-loop-k l = ChargesLeft l.v l.initial.cells l.at l.cells l.k
