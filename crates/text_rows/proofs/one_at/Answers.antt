-- `text_rows::one_at` meets its contract. Assumes nothing.
use Rattle.std.proofs.Common.{[], ◌∷◌, pos, refl, arith}
use mathlib.Core.Path.{ap₂}
use Rattle.text_bytes.proofs.ShortLaws.{plus_is}
use Rattle.text_bytes.proofs.HeadLaws.{After, after_is, elsewhere_is, other_row}
use Rattle.text_rows.proofs.StandLaws.{row_is}
use Rattle.text_rows.proofs.one_at.Goals as goal

pub plain_in-requires : goal.plain_in-requires
plain_in-requires c =
    let h : After c.args.n c.args.s.now c.args.at 9 c.in-Past.p = after_is c.head_at.ensures c.in-Past.is in
    (omega arith, omega arith, omega (arith, h.left))

pub returns-in-Some : goal.returns-in-Some
returns-in-Some c =
    let h : After c.args.n c.args.s.now c.args.at 9 c.in-Past.p = after_is c.head_at.ensures c.in-Past.is in
    let z = c.in-Some.z in
    let e = c.in-Some.ensures in
    row_is c.args.n c.args.s.now c.args.at (pos z.value ∷ []) z.next (omega arith) (c.in-Past.p, h.is, (z.next, e.plain.natural, refl)) _
    (ap₂ ◌∷◌ (plus_is {v = c.args.n} (omega (arith, h.few))) (ap₂ ◌∷◌ (plus_is {v = z.value} e.value_bound.0) refl))

pub returns-in-Other : goal.returns-in-Other
returns-in-Other c = other_row (elsewhere_is 9 c.head_at.ensures c.in-Other.is) 0 (omega arith)
