-- Goals of `print::put_many` that the search leaves. Assumes nothing.
use Rattle.std.proofs.Common.{◌≡◌, ℕ, ◌+◌, ◌-◌, ◌*◌, ◌/◌, ◌%◌, ◌<◌, ◌≤◌, List, [], ◌∷◌, ◌++◌, length, refl, ap, ◌∙◌, arith}
use Rattle.std.proofs.Math.ListN.{set, length-set}
use Rattle.rules_text.specs.Printing.{digits}
use Rattle.print.proofs.DigitLaws.{tail, tails, split, after, low_two, three_digits, four_digits}
use Rattle.print.proofs.put_many.Goals as goal

-- the digits before the last four are three, or four
seven : (n : ℕ) → 1000000 ≤ n → n < 100000000 → n / 10000 < 1000
    → digits 19 n ≡ (48 + n / 10000 / 100) ∷ (48 + n / 10000 / 10 % 10) ∷ (48 + n / 10000 % 10) ∷ tail (n - n / 10000 * 10000)
seven n l u t =
    let m = n - n / 10000 * 10000 in
    split n (n / 10000) m (omega (arith, l)) (omega (arith, u)) refl (omega arith) ∙ ap (λ (l : List ℕ). l ++ tail m) (three_digits (n / 10000) (omega (arith, l)) t)

eight : (n : ℕ) → 1000000 ≤ n → n < 100000000 → 1000 ≤ n / 10000 → digits 19 n ≡ tail (n / 10000) ++ tail (n - n / 10000 * 10000)
eight n l u t =
    let m = n - n / 10000 * 10000 in
    split n (n / 10000) m (omega (arith, l)) (omega (arith, u)) refl (omega arith) ∙ ap (λ (l : List ℕ). l ++ tail m) (four_digits (n / 10000) t (omega (arith, u)))

pub put_two-requires : goal.put_two-requires
put_two-requires c =
    let a = c.args in
    (omega arith, omega (arith, c.requires.2, length-set a.out.now a.at c.digit.result, ap length (seven a.n c.requires.0 c.requires.1 c.if-high-lt1000.true)))

pub put_tail-requires : goal.put_tail-requires
put_tail-requires c =
    let a = c.args in
    (omega arith, omega (arith, c.requires.2, c.put_two.auto.out, length-set a.out.now a.at c.digit.result, ap length (seven a.n c.requires.0 c.requires.1 c.if-high-lt1000.true)))

pub returns-then-high-lt1000 : goal.returns-then-high-lt1000
returns-then-high-lt1000 c =
    let a = c.args in
    let h = a.n / 10000 in
    let m = h - h / 100 * 100 in
    let one = set a.out.now a.at c.digit.result in
    let three = (48 + h / 100) ∷ (48 + h / 10 % 10) ∷ (48 + h % 10) ∷ [] in
    tails a.out.now c.put_two.new.out c.put_tail.new.out a.at (a.at + 3) c.put_tail.result a.n (a.n - h * 10000) a.end three (seven a.n c.requires.0 c.requires.1 c.if-high-lt1000.true)
    (c.put_two.ensures ∙ after a.out.now one a.at (a.at + 1) ((48 + h / 100) ∷ []) ((48 + m / 10) ∷ (48 + m % 10) ∷ []) three (ap (set a.out.now a.at) c.digit.ensures) refl (low_two h m (h / 100) refl))
    refl c.put_tail.ensures.0 c.put_tail.ensures.1

pub put_four-requires : goal.put_four-requires
put_four-requires c =
    (omega (arith, c.requires.1), omega (arith, c.requires.2, ap length (eight c.args.n c.requires.0 c.requires.1 c.if-high-lt1000.false)))

pub put_tail-requires-2 : goal.put_tail-requires-2
put_tail-requires-2 c =
    (omega arith, omega (arith, c.requires.2, c.put_four.auto.out, ap length (eight c.args.n c.requires.0 c.requires.1 c.if-high-lt1000.false)))

pub returns : goal.returns
returns c =
    let a = c.args in
    let h = a.n / 10000 in
    let p = c.put_tail-2 in
    tails a.out.now c.put_four.new.out p.new.out a.at (a.at + 4) p.result a.n (a.n - h * 10000) a.end (tail h) (eight a.n c.requires.0 c.requires.1 c.if-high-lt1000.false)
    c.put_four.ensures refl p.ensures.0 p.ensures.1
