-- Goals of `print::put_long` that the search leaves. Assumes nothing.
use Rattle.std.proofs.Common.{◌≡◌, ℕ, ◌+◌, ◌-◌, ◌*◌, ◌/◌, ◌^◌, ◌<◌, ◌≤◌, List, ◌++◌, length, refl, ap, ◌∙◌, arith}
use Rattle.std.proofs.Math.ListN.{length-append}
use Rattle.rules_text.specs.Printing.{digits}
use Rattle.print.proofs.DigitLaws.{tail, tails, split}
use Rattle.print.proofs.put_long.Goals as goal

-- the digits before the last eight, four, and four
whole : (n : ℕ) → 100000000 ≤ n → n < 10 ^ 19
    → let h = n / 100000000 in
    let t = (n - h * 100000000) / 10000 in
    digits 19 n ≡ (digits 19 h ++ tail t) ++ tail (n - h * 100000000 - t * 10000)
whole n l u =
    let h = n / 100000000 in
    let t = (n - h * 100000000) / 10000 in
    let m = n - h * 100000000 - t * 10000 in
    split n (n / 10000) m (omega (arith, l)) u refl (omega arith)
    ∙ ap (λ (l : List ℕ). l ++ tail m) (split (n / 10000) h t (omega (arith, l)) (omega (arith, u)) (omega arith) (omega arith))

size : (n : ℕ) → 100000000 ≤ n → n < 10 ^ 19 → length (digits 19 n) ≡ length (digits 19 (n / 100000000)) + 8
size n l u =
    let h = n / 100000000 in
    let t = (n - h * 100000000) / 10000 in
    let m = n - h * 100000000 - t * 10000 in
    omega (arith, ap length (whole n l u), length-append (digits 19 h ++ tail t) (tail m), length-append (digits 19 h) (tail t))

pub put_high-p-requires : goal.put_high-p-requires
put_high-p-requires c = (omega (arith, c.requires.1), omega arith, omega (arith, size c.args.n c.requires.0 c.requires.1, c.requires.2))

pub put_tail-requires : goal.put_tail-requires
put_tail-requires c =
    let p = c.put_high-p in
    (omega arith, omega (arith, p.ensures.1, p.auto.out, size c.args.n c.requires.0 c.requires.1, c.requires.2))

pub returns : goal.returns
returns c =
    let a = c.args in
    let p = c.put_high-p in
    let h = a.n / 100000000 in
    let t = (a.n - h * 100000000) / 10000 in
    tails a.out.now p.new.out c.put_tail.new.out a.at p.result c.put_tail.result a.n (a.n - h * 100000000 - t * 10000) a.end (digits 19 h ++ tail t) (whole a.n c.requires.0 c.requires.1)
    p.ensures.0 (omega (arith, p.ensures.1, length-append (digits 19 h) (tail t))) c.put_tail.ensures.0 c.put_tail.ensures.1
