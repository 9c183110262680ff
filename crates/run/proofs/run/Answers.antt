-- Goals of `run::run` that the search leaves. Assumes nothing.
use Rattle.std.proofs.Common.{arith}
use Rattle.rules_run.proofs.RunLaws.{too_small, too_long, ran_parts}
use Rattle.run.proofs.run.Goals as goal

pub returns-then-out-lt-ROOM : goal.returns-then-out-lt-ROOM
returns-then-out-lt-ROOM c =
    let e = too_small c.args.out.now c.args.text.now c.if-out-lt-ROOM.true in
    record { buffer = e.0; count = e.1; whole = λ fits. absurd (omega (arith, fits, c.if-out-lt-ROOM.true)) }

pub returns-then-text-gt-MAX_TEXT : goal.returns-then-text-gt-MAX_TEXT
returns-then-text-gt-MAX_TEXT c =
    let p = c.put_refusal-end.ensures in
    let e = too_long c.args.out.now c.args.text.now c.if-out-lt-ROOM.false c.if-text-gt-MAX_TEXT.true c.put_refusal-end.new.out c.put_refusal-end.result.at c.put_refusal-end.result.number c.put_refusal-end.result.line
    p.page p.next.0 (omega (arith, p.next.1)) p.end in
    record { buffer = e.0; count = e.1.0; whole = e.1.1 }

pub returns : goal.returns
returns c =
    let p = c.put_parts-end.ensures in
    let e = ran_parts c.args.out.now c.args.text.now c.if-out-lt-ROOM.false c.if-text-gt-MAX_TEXT.false c.put_parts-end.new.out c.put_parts-end.result.at c.put_parts-end.result.number c.put_parts-end.result.line
    p.buffer p.next p.few p.end in
    record { buffer = e.0; count = e.1.0; whole = e.1.1 }
