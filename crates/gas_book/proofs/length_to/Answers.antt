-- `gas_book::length_to` meets its contract. Assumes nothing.
use Rattle.std.proofs.Common.{ℕ, ◌≡◌, ◌+◌, ◌*◌, drop, ap, arith}
use Rattle.rules_gas.specs.Book.{length_of_run}
use Rattle.rules_gas.proofs.BookLaws.{none_more, later_day, one_more}
use Rattle.gas_book.proofs.length_to.Goals as goal

pub returns-then-day-list : goal.returns-then-day-list
returns-then-day-list c =
    let e = later_day c.args.day c.args.list.now (2 * c.loop-i.i) (omega arith) (omega arith) in
    (omega (arith, e, c.loop-i.invariant), omega arith)

pub loop-i-preserved : goal.loop-i-preserved
loop-i-preserved c =
    let a = c.args in
    let i = c.loop-i.i in
    let e = one_more a.day a.list.now (2 * i) (omega arith) (omega arith) in
    let z : 2 * (i + 1) ≡ 2 * i + 2 = omega arith in
    let s = ap (λ (k : ℕ). length_of_run a.day (drop k a.list.now)) z in
    omega (arith, e, s, c.loop-i.invariant)

pub returns : goal.returns
returns c =
    let e = none_more c.args.day c.args.list.now (2 * c.loop-i.i) (omega arith) in
    (omega (arith, e, c.loop-i.invariant), omega arith)
