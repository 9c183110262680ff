-- Goals of `print::put_five` that the search leaves. Assumes nothing.
use Rattle.std.proofs.Common.{arith}
use Rattle.rules_number.proofs.Kit.{rd, came}
use Rattle.rules_text.proofs.PrintLaws.{digits_few, decimal_few}
use Rattle.print.proofs.DigitLaws.{head_placed, value_placed, five_placed}
use Rattle.print.proofs.put_five.Goals as goal

pub put_mark-q-requires : goal.put_mark-q-requires
put_mark-q-requires c =
    let a = c.args in
    let h = c.put_head-p in
    omega (arith, h.ensures.1, h.auto.out, digits_few 19 a.b, decimal_few (rd a.c), c.requires.2)

pub put_mark-n-requires : goal.put_mark-n-requires
put_mark-n-requires c =
    let a = c.args in
    let h = c.put_head-p in
    let v = c.put_mark-q in
    omega (arith, v.ensures.1, v.auto.out, h.ensures.1, h.auto.out, digits_few 19 a.b, decimal_few (rd a.c), decimal_few (rd a.d), c.requires.2)

pub put_mark-requires : goal.put_mark-requires
put_mark-requires c =
    let a = c.args in
    let h = c.put_head-p in
    let v = c.put_mark-q in
    let w = c.put_mark-n in
    omega (arith, w.ensures.1, w.auto.out, v.ensures.1, v.auto.out, h.ensures.1, h.auto.out, digits_few 19 a.b, decimal_few (rd a.c), decimal_few (rd a.d), decimal_few (rd a.e), c.requires.2)

pub returns : goal.returns
returns c =
    let a = c.args in
    let s = c.ranges in
    let h = c.put_head-p in
    let v = c.put_mark-q in
    let w = c.put_mark-n in
    let x = c.put_mark in
    rw (came a.c s.c.sfits, came a.d s.d.sfits, came a.e s.e.sfits) at
    (five_placed a.a a.b (rd a.c) (rd a.d) (rd a.e)
    (value_placed (rd a.e) 10
    (value_placed (rd a.d) 32 (value_placed (rd a.c) 32 (head_placed a.a a.b c.requires.0 h.ensures.0 h.ensures.1) v.ensures.0 v.ensures.1) w.ensures.0 w.ensures.1)
    x.ensures.0 x.ensures.1))
