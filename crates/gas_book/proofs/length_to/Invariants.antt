-- `gas_book::length_to`: what its loop keeps. Assumes nothing.
use Rattle.std.proofs.Common.{◌+◌, ◌*◌, ◌≡◌, drop}
use Rattle.rules_gas.specs.Book.{length_of_run}
use Rattle.gas_book.proofs.length_to.Given as goal

abbrev pub invariant-loop-i : goal.invariant-loop-i
invariant-loop-i l = length_of_run l.day l.list ≡ 2 * l.i + length_of_run l.day (drop (2 * l.i) l.list)
