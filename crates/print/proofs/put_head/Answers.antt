-- Goals of `print::put_head` that the search leaves. Assumes nothing.
use Rattle.std.proofs.Common.{◌+◌, ◌/◌, ◌%◌, [], ◌∷◌, length, refl, ap, ◌∙◌, arith}
use Rattle.std.proofs.lemmas.List.Edits.{sets}
use Rattle.print.proofs.DigitLaws.{after, one_digit, two_digits, head_one, head_two}
use Rattle.print.proofs.put_head.Goals as goal

pub returns-then-b-lt10 : goal.returns-then-b-lt10
returns-then-b-lt10 c =
    let a = c.args in
    (c.put_word.ensures ∙ ap (sets a.out.now a.at) (head_one c.head_of.result a.a a.b (omega arith) c.if-b-lt10.true (c.head_of.ensures.value c.if-b-lt10.true)), omega (arith, ap length (one_digit a.b c.if-b-lt10.true)))

pub returns : goal.returns
returns c =
    let a = c.args in
    let w = c.head_of.result in (
      after a.out.now c.put_word.new.out a.at (a.at + 4) (w % 256 ∷ w / 256 % 256 ∷ w / 65536 % 256 ∷ w / 16777216 % 256 ∷ []) (32 ∷ []) _ c.put_word.ensures refl
          (head_two w a.a a.b (omega arith) c.if-b-lt10.false (omega arith) (c.head_of.ensures.value_2 c.if-b-lt10.false)),
      omega (arith, ap length (two_digits a.b c.if-b-lt10.false (omega arith))),
    )
