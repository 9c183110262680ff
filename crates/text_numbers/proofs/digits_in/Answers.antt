-- `text_numbers::digits_in` meets its contract. Assumes nothing.
use Rattle.std.proofs.Common.{arith}
use Rattle.rules_text.proofs.NumberLaws.{reads_stop, reads_more, ten_top}
use Rattle.text_numbers.proofs.digits_in.Goals as goal

pub returns-then-d-gt9 : goal.returns-then-d-gt9
returns-then-d-gt9 c =
    let a = c.args in
    let d = c.wrapping_sub_u64-d in
    let r = reads_stop a.s.now a.at a.end c.requires.1 c.loop-count.value c.loop-count.count c.loop-count.invariant
    d.result c.loop-count-test.true d.ensures.value (omega (arith, d.type_inv)) c.if-d-gt9.true in
    record { value_value = r.0; count_value = r.1 }

pub overflow_mul-value : goal.overflow_mul-value
overflow_mul-value c = omega (arith, c.loop-count.invariant.small, ten_top c.loop-count.count 12 (omega arith))

pub overflow_add-value : goal.overflow_add-value
overflow_add-value c = omega (arith, c.loop-count.invariant.small, ten_top c.loop-count.count 12 (omega arith))

pub loop-count-preserved : goal.loop-count-preserved
loop-count-preserved c =
    let a = c.args in
    let d = c.wrapping_sub_u64-d in
    reads_more a.s.now a.at a.end c.requires.1 c.loop-count.value c.loop-count.count c.loop-count.invariant
    d.result c.loop-count-test.true d.ensures.value c.if-d-gt9.false
