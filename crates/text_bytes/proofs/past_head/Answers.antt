-- `text_bytes::past_head` meets its contract. Assumes nothing.
use Rattle.std.proofs.Common.{◌+◌, refl, arith}
use Rattle.text_bytes.proofs.ShortLaws.{one_same, two_same, one_bytes, two_bytes}
use Rattle.text_bytes.proofs.past_head.Goals as goal

-- an id of one digit
pub returns-then-word-n-clause-other : goal.returns-then-word-n-clause-other
returns-then-word-n-clause-other c = λ q is.
    let a = c.args in
    let b = one_bytes a.s.now a.at a.n q is c.if-n-lt10.true in
    c.if-word-n.true (omega (arith, b.0, b.1))

pub returns-then-n-lt10-clause-past : goal.returns-then-n-lt10-clause-past
returns-then-n-lt10-clause-past c =
    let a = c.args in
    let x = c.type_inv.s a.at in
    let y = c.type_inv.s (a.at + 1) in
    one_same a.s.now a.at a.n c.requires.1 (a.at + 2) refl c.if-n-lt10.true (omega (arith, x, y)) (omega (arith, x, y))

-- an id of two
pub returns-then-word-n-2-clause-other : goal.returns-then-word-n-2-clause-other
returns-then-word-n-2-clause-other c = λ q is.
    let a = c.args in
    let b = two_bytes a.s.now a.at a.n q is c.if-n-lt10.false c.requires.0 in
    c.if-word-n-2.true (omega (arith, b.0, b.1))

pub returns-then-s-at-ne32-clause-other : goal.returns-then-s-at-ne32-clause-other
returns-then-s-at-ne32-clause-other c = λ q is.
    let a = c.args in
    c.if-s-at-ne32.true (two_bytes a.s.now a.at a.n q is c.if-n-lt10.false c.requires.0).2

pub returns-clause-past : goal.returns-clause-past
returns-clause-past c =
    let a = c.args in
    let x = c.type_inv.s a.at in
    let y = c.type_inv.s (a.at + 1) in
    two_same a.s.now a.at a.n c.requires.1 (a.at + 3) refl c.if-n-lt10.false c.requires.0 (omega (arith, x, y)) (omega (arith, x, y)) c.if-s-at-ne32.false
