-- Goals of `print::put_high` that the search leaves. Assumes nothing.
use Rattle.std.proofs.Common.{◌-◌, refl, ◌∙◌, arith}
use Rattle.rules_text.specs.Printing.{digits}
use Rattle.print.proofs.DigitLaws.{after, over}
use Rattle.print.proofs.put_high.Goals as goal

pub returns-then-n-lt10000 : goal.returns-then-n-lt10000
returns-then-n-lt10000 c =
    let a = c.args in
    let p = c.put_few-p in
    (c.put_four.ensures ∙ over a.out.now p.new.out a.at (p.result - 1) 48 _ (digits 19 a.n) _ p.ensures.0 (omega (arith, p.ensures.1)), omega (arith, p.ensures.1))

pub returns : goal.returns
returns c =
    let a = c.args in
    let p = c.put_digits-p in
    (c.put_four-2.ensures ∙ after a.out.now p.new.out a.at p.result (digits 19 a.n) _ _ p.ensures.0 p.ensures.1 refl, omega (arith, p.ensures.1))
