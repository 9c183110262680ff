-- `text_rows::mark_at` meets its contract. Assumes nothing.
use Rattle.std.proofs.Common.{◌+◌, [], ◌∷◌, pos, refl, arith}
use mathlib.Core.Path.{ap₂}
use Rattle.text_bytes.proofs.ShortLaws.{plus_is, digit_is}
use Rattle.text_bytes.proofs.HeadLaws.{After, after_is, elsewhere_is, other_row}
use Rattle.text_rows.proofs.StandLaws.{row_is}
use Rattle.text_rows.proofs.mark_at.Goals as goal

pub bounds-s-p : goal.bounds-s-p
bounds-s-p c =
    let h : After c.args.n c.args.s.now c.args.at 2 c.in-Past.p = after_is c.head_at.ensures c.in-Past.is in
    omega (arith, h.left)

pub bounds-s-p-in-Past : goal.bounds-s-p-in-Past
bounds-s-p-in-Past c =
    let h : After c.args.n c.args.s.now c.args.at 2 c.in-Past.p = after_is c.head_at.ensures c.in-Past.is in
    omega (arith, h.left)

pub returns-else-s-p-ne10 : goal.returns-else-s-p-ne10
returns-else-s-p-ne10 c =
    let h : After c.args.n c.args.s.now c.args.at 2 c.in-Past.p = after_is c.head_at.ensures c.in-Past.is in
    let d = c.wrapping_sub_u64-d in
    let p = c.in-Past.p in
    row_is c.args.n c.args.s.now c.args.at (pos d.result ∷ []) (p + 2) (omega arith)
    (p, h.is, (p + 2, digit_is _ _ _ h.left d.ensures.value c.if-d-gt9.false c.if-s-p-ne10.false, refl)) _
    (ap₂ ◌∷◌ (plus_is {v = c.args.n} (omega (arith, h.few))) (ap₂ ◌∷◌ (plus_is {v = d.result} (omega (arith, c.if-d-gt9.false))) refl))

pub returns-in-Other : goal.returns-in-Other
returns-in-Other c = other_row (elsewhere_is 2 c.head_at.ensures c.in-Other.is) 0 (omega arith)
