-- `number::ceil_by`, above zero: one more than the quotient of n - 1. Assumes nothing.
use mir.ValLaws.{to_z-of_z}
use Rattle.rules_number.proofs.Kit.{else_le, pos_fits, quot_fits}
use Rattle.rules_number.proofs.CeilSize.{ceil_high, less_fits, high_fits}
use Rattle.number.proofs.ceil_by.Goals as goal

pub returns-else-n-le0 : goal.returns-else-n-le0
returns-else-n-le0 c =
    let fn = c.ranges.n in
    let fw = c.ranges.w in
    let divides = else_le fw (pos_fits 0 tt) c.if-w-le0.false in
    let above = else_le fn (pos_fits 0 tt) c.if-n-le0.false in
    let fl = less_fits above fn in
    let fq = quot_fits divides fl in
    let fr = high_fits above divides fn in
    simp to_z-of_z (ceil_high above divides)
