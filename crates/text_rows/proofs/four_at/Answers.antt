-- `text_rows::four_at` meets its contract. Assumes nothing.
use Rattle.std.proofs.Common.{arith}
use Rattle.text_bytes.proofs.HeadLaws.{After, after_is, elsewhere_is, other_row}
use Rattle.text_rows.proofs.four_at.Goals as goal

pub four_in-requires : goal.four_in-requires
four_in-requires c =
    let h : After c.args.n c.args.s.now c.args.at 47 c.in-Past.p = after_is c.head_at.ensures c.in-Past.is in
    (h.few, omega (arith, h.left), h.is)

pub returns-in-Other : goal.returns-in-Other
returns-in-Other c = other_row (elsewhere_is 47 c.head_at.ensures c.in-Other.is) 3 (omega arith)
