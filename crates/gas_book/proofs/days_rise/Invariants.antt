-- `gas_book::days_rise`: what its loop keeps. Assumes nothing.
use Rattle.std.proofs.Common.{◌*◌, ◌≡◌, drop}
use Rattle.rules_gas.specs.Book.{days_rise, rise_from}
use Rattle.gas_book.proofs.days_rise.Given as goal

abbrev pub invariant-loop-i : goal.invariant-loop-i
invariant-loop-i l = days_rise l.list ≡ rise_from l.before (drop (2 * l.i) l.list)
