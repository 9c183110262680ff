-- `text_triples::id_in` meets its contract. Assumes nothing.
use Rattle.std.proofs.Common.{◌+◌, ◌*◌, ◌≤◌, refl, arith}
use Rattle.rules_text.proofs.NumberLaws.{digit_of}
use Rattle.text_bytes.proofs.ShortLaws.{one_same, two_same}
use Rattle.text_triples.proofs.id_in.Goals as goal

pub returns-then-s-at-eq32-clause-next_value : goal.returns-then-s-at-eq32-clause-next_value
returns-then-s-at-eq32-clause-next_value c =
    let a = c.args in
    let d = c.wrapping_sub_u64-first in
    let b = digit_of _ d.result d.ensures.value c.if-first-gt9.false in
    one_same a.s.now a.at d.result c.requires (a.at + 2) refl (omega (arith, c.if-first-gt9.false)) (omega (arith, b)) c.if-s-at-eq32.true

pub returns-clause-next_value : goal.returns-clause-next_value
returns-clause-next_value c =
    let a = c.args in
    let f = c.wrapping_sub_u64-first in
    let d = c.wrapping_sub_u64 in
    let g = c.wrapping_sub_u64-second in
    let m = f.result in
    let n = g.result in
    let low : 1 ≤ m = omega (arith, d.ensures.value, d.type_inv, c.if-wrapping_sub_u64-gt8.false) in
    let high : m ≤ 9 = omega (arith, d.ensures.value, d.type_inv, c.if-wrapping_sub_u64-gt8.false) in
    let x = digit_of _ m f.ensures.value high in
    let y = digit_of _ n g.ensures.value c.if-second-gt9.false in
    two_same a.s.now a.at (m * 10 + n) c.requires (a.at + 3) refl (omega (arith, low)) (omega (arith, high, c.if-second-gt9.false))
    (omega (arith, x, c.if-second-gt9.false)) (omega (arith, y, c.if-second-gt9.false)) c.if-s-at-ne32.false
