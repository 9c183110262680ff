-- `text_triples::triple_at` meets its contract. Assumes nothing.
use Rattle.std.proofs.Common.{◌∙◌, arith}
use Rattle.text_bytes.proofs.HeadLaws.{After, after_is, elsewhere_is, other_row, after_three}
use Rattle.text_triples.proofs.triple_at.Goals as goal

pub id_and_two-requires : goal.id_and_two-requires
id_and_two-requires g c = let h : After c.args.n c.args.s.now c.args.at 17 c.in-Past.p = after_is c.head_at.ensures c.in-Past.is in (h.few, h.left, h.is)

pub returns-in-Some : goal.returns-in-Some
returns-in-Some g c =
    let h : After c.args.n c.args.s.now c.args.at 17 c.in-Past.p = after_is c.head_at.ensures c.in-Past.is in
    c.in-Some.ensures ∙ after_three h

pub returns-in-Other : goal.returns-in-Other
returns-in-Other g c = other_row (elsewhere_is 17 c.head_at.ensures c.in-Other.is) 1 (omega arith)

pub returns-in_default : goal.returns-in_default
returns-in_default g c =
    let h : After c.args.n c.args.s.now c.args.at 17 c.in-Past.p = after_is c.head_at.ensures c.in-Past.is in
    c.any_three.ensures ∙ after_three h
