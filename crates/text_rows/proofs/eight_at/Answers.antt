-- `text_rows::eight_at` meets its contract. Assumes nothing.
use Rattle.std.proofs.Common.{refl, arith}
use Rattle.text_bytes.proofs.ShortLaws.{plus_is, stands_as}
use Rattle.text_bytes.proofs.HeadLaws.{After, after_is, elsewhere_is, other_row}
use Rattle.text_rows.proofs.StandLaws.{eight_is}
use Rattle.text_rows.proofs.eight_at.Goals as goal

pub seven_into-requires : goal.seven_into-requires
seven_into-requires c =
    let h : After c.args.n c.args.s.now c.args.at 67 c.in-Past.p = after_is c.head_at.ensures c.in-Past.is in
    (omega (arith, h.left), refl)

pub returns-in-Some : goal.returns-in-Some
returns-in-Some c =
    let h : After c.args.n c.args.s.now c.args.at 67 c.in-Past.p = after_is c.head_at.ensures c.in-Past.is in
    let p = c.in-Past.p in
    let q = c.seven_into in
    eight_is c.args.n c.args.s.now c.args.at p h.is q.new.v c.in-Some.next q.ensures.v_len
    (c.in-Some.ensures.stand c.args.at (p, stands_as (plus_is (omega (arith, h.few))) h.is, refl))

pub returns-in-Other : goal.returns-in-Other
returns-in-Other c = other_row (elsewhere_is 67 c.head_at.ensures c.in-Other.is) 6 (omega arith)
