-- Goals of `print::put_digits` that the search leaves. Assumes nothing.
use Rattle.std.proofs.Common.{◌+◌, ◌-◌, refl, arith}
use Rattle.rules_text.proofs.PrintLaws.{putting_start, putting_two}
use Rattle.print.proofs.put_digits.Goals as goal

pub loop-left-init : goal.loop-left-init
loop-left-init c = putting_start c.args.out.now c.args.at c.args.n c.digit_count-count.result c.requires.n_bound c.digit_count-count.ensures

pub loop-left-preserved : goal.loop-left-preserved
loop-left-preserved c =
    let a = c.args in
    let l = c.loop-left in
    putting_two a.out.now a.at a.n l.out l.left l.rest (a.at + l.left - 1) (a.at + l.left - 2) c.digit.result c.digit-in-loop-left.result
    l.invariant c.loop-left-test.true refl refl (omega (arith, c.digit.ensures, c.tens-ten.ensures)) (omega (arith, c.digit-in-loop-left.ensures, c.tens-ten.ensures))
