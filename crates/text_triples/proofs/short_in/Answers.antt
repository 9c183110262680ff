-- `text_triples::short_in` meets its contract. Assumes nothing.
use Rattle.std.proofs.Common.{◌+◌, arith}
use Rattle.text_bytes.proofs.ShortLaws.{run_more, plain_is, short_is}
use Rattle.text_triples.proofs.short_in.Goals as goal

pub returns-then-d-gt9-clause-short : goal.returns-then-d-gt9-clause-short
returns-then-d-gt9-clause-short c =
    let a = c.args in
    let l = c.loop-count in
    let d = c.wrapping_sub_u64-d in
    short_is a.s.now a.at a.b l.value (a.at + l.count + 1) l.invariant.1
    (plain_is a.s.now a.at 8 c.requires (omega arith) l.value l.count l.invariant.0 d.result (omega arith)
    d.ensures.value (omega (arith, d.type_inv)) c.if-d-gt9.true a.b c.if-c-b.false)

pub loop-count-preserved : goal.loop-count-preserved
loop-count-preserved c =
    let a = c.args in
    let l = c.loop-count in
    let d = c.wrapping_sub_u64-d in (
      run_more a.s.now a.at 8 c.requires (omega arith) l.value l.count l.invariant.0 d.result (omega arith)
          d.ensures.value (λ e. omega (arith, l.invariant.1)) c.if-d-gt9.false,
      omega (arith, l.invariant.1),
    )
