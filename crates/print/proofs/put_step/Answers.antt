-- Goals of `print::put_step` that the search leaves. Assumes nothing.
use Rattle.std.proofs.Common.{arith}
use Rattle.rules_number.proofs.Kit.{rd, came}
use Rattle.rules_text.proofs.PrintLaws.{digits_few, decimal_few}
use Rattle.print.proofs.DigitLaws.{head_placed, value_placed, four_placed}
use Rattle.print.proofs.put_step.Goals as goal

pub put_value-q-requires : goal.put_value-q-requires
put_value-q-requires c =
    let a = c.args in
    let h = c.put_head-p in
    omega (arith, h.ensures.1, h.auto.out, digits_few 19 a.b, decimal_few (rd a.c), c.requires.2)

pub put_value-requires : goal.put_value-requires
put_value-requires c =
    let a = c.args in
    let h = c.put_head-p in
    let v = c.put_value-q in
    omega (arith, v.ensures.1, v.auto.out, h.ensures.1, h.auto.out, digits_few 19 a.b, decimal_few (rd a.c), decimal_few (rd a.d), c.requires.2)

pub returns : goal.returns
returns c =
    let a = c.args in
    let s = c.ranges in
    let h = c.put_head-p in
    let v = c.put_value-q in
    let w = c.put_value in
    rw (came a.c s.c.sfits, came a.d s.d.sfits) at
    (four_placed a.a a.b (rd a.c) (rd a.d)
    (value_placed (rd a.d) 10 (value_placed (rd a.c) 32 (head_placed a.a a.b c.requires.0 h.ensures.0 h.ensures.1) v.ensures.0 v.ensures.1) w.ensures.0 w.ensures.1))
