-- `text_rows::plain_in` meets its contract. Assumes nothing.
use Rattle.std.proofs.Common.{arith}
use Rattle.text_bytes.proofs.ShortLaws.{run_first, run_more, plain_is}
use Rattle.text_rows.proofs.plain_in.Goals as goal

pub loop-count-init : goal.loop-count-init
loop-count-init c =
    let a = c.args in
    let p = c.requires in
    let d = c.wrapping_sub_u64-first in
    run_first a.s.now a.at a.end p.2 (omega (arith, p.1)) d.result (omega (arith, p.0)) d.ensures.value c.if-first-gt9.false

pub returns-then-d-gt9-clause-plain : goal.returns-then-d-gt9-clause-plain
returns-then-d-gt9-clause-plain c =
    let a = c.args in
    let p = c.requires in
    let l = c.loop-count in
    let d = c.wrapping_sub_u64-d in
    plain_is a.s.now a.at a.end p.2 (omega (arith, p.1)) l.value l.count l.invariant d.result (omega arith)
    d.ensures.value (omega (arith, d.type_inv)) c.if-d-gt9.true a.b c.if-c-b.false

pub loop-count-preserved : goal.loop-count-preserved
loop-count-preserved c =
    let a = c.args in
    let p = c.requires in
    let l = c.loop-count in
    let d = c.wrapping_sub_u64-d in
    run_more a.s.now a.at a.end p.2 (omega (arith, p.1)) l.value l.count l.invariant d.result (omega arith)
    d.ensures.value c.if-value-eq0.false c.if-d-gt9.false
