-- Goals of `print::put_more` that the search leaves. Assumes nothing.
use Rattle.std.proofs.Common.{◌≡◌, ℕ, ◌+◌, ◌-◌, ◌*◌, ◌/◌, ◌%◌, ◌<◌, ◌≤◌, [], ◌∷◌, length, refl, ap, arith}
use Rattle.std.proofs.Math.ListN.{set, length-set}
use Rattle.rules_text.specs.Printing.{digits}
use Rattle.print.proofs.DigitLaws.{tail, tails, five_digits, six_digits}
use Rattle.print.proofs.put_more.Goals as goal

five : (n : ℕ) → 10000 ≤ n → n / 10000 < 10 → digits 19 n ≡ (48 + n / 10000) ∷ tail (n - n / 10000 * 10000)
five n l h = five_digits n (n - n / 10000 * 10000) l (omega (arith, h)) (omega arith)

six : (n : ℕ) → n < 1000000 → 10 ≤ n / 10000 → digits 19 n ≡ (48 + n / 10000 / 10) ∷ (48 + n / 10000 % 10) ∷ tail (n - n / 10000 * 10000)
six n u h = six_digits n (n - n / 10000 * 10000) (omega (arith, h)) u (omega arith)

pub put_tail-requires : goal.put_tail-requires
put_tail-requires c =
    let a = c.args in
    (omega arith, omega (arith, c.requires.2, length-set a.out.now a.at c.digit.result, ap length (five a.n c.requires.0 c.if-high-lt10.true)))

pub returns-then-high-lt10 : goal.returns-then-high-lt10
returns-then-high-lt10 c =
    let a = c.args in
    tails a.out.now (set a.out.now a.at c.digit.result) c.put_tail.new.out a.at (a.at + 1) c.put_tail.result a.n (a.n - a.n / 10000 * 10000) a.end ((48 + a.n / 10000) ∷ []) (five a.n c.requires.0 c.if-high-lt10.true)
    (ap (set a.out.now a.at) c.digit.ensures) refl c.put_tail.ensures.0 c.put_tail.ensures.1

pub put_two-requires : goal.put_two-requires
put_two-requires c = (omega (arith, c.requires.1), omega (arith, c.requires.2, ap length (six c.args.n c.requires.1 c.if-high-lt10.false)))

pub put_tail-requires-2 : goal.put_tail-requires-2
put_tail-requires-2 c = (omega arith, omega (arith, c.requires.2, c.put_two.auto.out, ap length (six c.args.n c.requires.1 c.if-high-lt10.false)))

pub returns : goal.returns
returns c =
    let a = c.args in
    let p = c.put_tail-2 in
    tails a.out.now c.put_two.new.out p.new.out a.at (a.at + 2) p.result a.n (a.n - a.n / 10000 * 10000) a.end ((48 + a.n / 10000 / 10) ∷ (48 + a.n / 10000 % 10) ∷ []) (six a.n c.requires.1 c.if-high-lt10.false)
    c.put_two.ensures refl p.ensures.0 p.ensures.1
