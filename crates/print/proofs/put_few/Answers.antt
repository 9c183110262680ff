-- Goals of `print::put_few` that the search leaves. Assumes nothing.
use Rattle.std.proofs.Common.{◌+◌, ◌-◌, ◌*◌, ◌/◌, ◌%◌, [], ◌∷◌, length, refl, ap, ◌∙◌, arith}
use Rattle.std.proofs.Math.ListN.{set, length-set}
use Rattle.print.proofs.DigitLaws.{after, ends, tails, low_two, one_digit, two_digits, three_digits, four_digits}
use Rattle.print.proofs.put_few.Goals as goal

pub put_digit-requires : goal.put_digit-requires
put_digit-requires c = (c.if-n-lt10.true, omega (arith, c.requires.1, ap length (one_digit c.args.n c.if-n-lt10.true)))

pub put_two-requires : goal.put_two-requires
put_two-requires c = (c.if-n-lt100.true, omega (arith, c.requires.1, ap length (two_digits c.args.n c.if-n-lt10.false c.if-n-lt100.true)))

pub bounds-out-at : goal.bounds-out-at
bounds-out-at c = omega (arith, c.requires.1, c.put_two.auto.out, ap length (two_digits c.args.n c.if-n-lt10.false c.if-n-lt100.true))

pub returns-then-n-lt100 : goal.returns-then-n-lt100
returns-then-n-lt100 c =
    let a = c.args in
    ends a.out.now c.put_two.new.out a.at (a.at + 2) (a.at + 3) a.n a.end ((48 + a.n / 10) ∷ (48 + a.n % 10) ∷ []) (two_digits a.n c.if-n-lt10.false c.if-n-lt100.true) c.put_two.ensures refl (omega arith)

pub put_two-requires-then-n-lt1000 : goal.put_two-requires-then-n-lt1000
put_two-requires-then-n-lt1000 c =
    let a = c.args in
    (omega arith, omega (arith, c.requires.1, length-set a.out.now a.at c.digit.result, ap length (three_digits a.n c.if-n-lt100.false c.if-n-lt1000.true)))

pub bounds-out-at-then-n-lt1000-2 : goal.bounds-out-at-then-n-lt1000-2
bounds-out-at-then-n-lt1000-2 c =
    let a = c.args in
    omega (arith, c.requires.1, c.put_two-then-n-lt1000.auto.out, length-set a.out.now a.at c.digit.result, ap length (three_digits a.n c.if-n-lt100.false c.if-n-lt1000.true))

pub returns-then-n-lt1000 : goal.returns-then-n-lt1000
returns-then-n-lt1000 c =
    let a = c.args in
    let n = a.n in
    let m = n - n / 100 * 100 in
    let one = set a.out.now a.at c.digit.result in
    let p = c.put_two-then-n-lt1000 in
    let three = (48 + n / 100) ∷ (48 + n / 10 % 10) ∷ (48 + n % 10) ∷ [] in
    ends a.out.now p.new.out a.at (a.at + 3) (a.at + 4) n a.end three (three_digits n c.if-n-lt100.false c.if-n-lt1000.true)
    (p.ensures ∙ after a.out.now one a.at (a.at + 1) ((48 + n / 100) ∷ []) ((48 + m / 10) ∷ (48 + m % 10) ∷ []) three (ap (set a.out.now a.at) c.digit.ensures) refl (low_two n m (n / 100) refl))
    refl (omega arith)

pub put_tail-requires : goal.put_tail-requires
put_tail-requires c = (c.requires.0, omega (arith, c.requires.1, ap length (four_digits c.args.n c.if-n-lt1000.false c.requires.0)))

pub returns : goal.returns
returns c =
    let a = c.args in
    tails a.out.now a.out.now c.put_tail.new.out a.at a.at c.put_tail.result a.n a.n a.end [] (four_digits a.n c.if-n-lt1000.false c.requires.0) refl (omega arith) c.put_tail.ensures.0 c.put_tail.ensures.1
