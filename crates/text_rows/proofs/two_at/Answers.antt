-- `text_rows::two_at` meets its contract. Assumes nothing.
use Rattle.std.proofs.Common.{[], ◌∷◌, pos, refl, arith}
use mathlib.Core.Path.{ap₂}
use Rattle.text_bytes.proofs.ShortLaws.{plus_is}
use Rattle.text_bytes.proofs.HeadLaws.{After, after_is, elsewhere_is, other_row}
use Rattle.text_rows.proofs.StandLaws.{row_is}
use Rattle.text_rows.proofs.two_at.Goals as goal

pub plain_in-requires : goal.plain_in-requires
plain_in-requires c =
    let h : After c.args.n c.args.s.now c.args.at 19 c.in-Past.p = after_is c.head_at.ensures c.in-Past.is in
    (omega arith, omega arith, omega (arith, h.left))

pub plain_in-requires-in-Some : goal.plain_in-requires-in-Some
plain_in-requires-in-Some c =
    let h : After c.args.n c.args.s.now c.args.at 19 c.in-Past.p = after_is c.head_at.ensures c.in-Past.is in
    (omega arith, omega arith, omega (arith, h.left, c.in-Some.ensures.value_bound.1))

pub returns-in-Some-plain_in : goal.returns-in-Some-plain_in
returns-in-Some-plain_in c =
    let h : After c.args.n c.args.s.now c.args.at 19 c.in-Past.p = after_is c.head_at.ensures c.in-Past.is in
    let y = c.in-Some.y in
    let z = c.in-Some-plain_in.z in
    let e = c.in-Some.ensures in
    let f = c.in-Some-plain_in.ensures in
    row_is c.args.n c.args.s.now c.args.at (pos y.value ∷ pos z.value ∷ []) z.next (omega arith) (c.in-Past.p, h.is, (y.next, e.plain.natural, (z.next, f.plain.natural, refl))) _
    (ap₂ ◌∷◌ (plus_is {v = c.args.n} (omega (arith, h.few))) (ap₂ ◌∷◌ (plus_is {v = y.value} e.value_bound.0) (ap₂ ◌∷◌ (plus_is {v = z.value} f.value_bound.0) refl)))

pub returns-in-Other : goal.returns-in-Other
returns-in-Other c = other_row (elsewhere_is 19 c.head_at.ensures c.in-Other.is) 1 (omega arith)
