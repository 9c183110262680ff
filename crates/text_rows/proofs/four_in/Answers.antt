-- `text_rows::four_in` meets its contract. Assumes nothing.
use Rattle.std.proofs.Common.{◌≡◌, [], ◌∷◌, ℤ, pos, neg_ℤ, cond, eqb, refl, ◌∙◌, arith}
use mathlib.Core.Path.{ap₂}
use Rattle.rules_number.proofs.Kit.{came}
use Rattle.text_bytes.proofs.ShortLaws.{plus_is}
use Rattle.text_rows.proofs.StandLaws.{row_is, signed_is}
use Rattle.text_rows.proofs.four_in.Goals as goal
use Rattle.text_rows.proofs.four_in.Goals.{else-a-eq0-via-then-a-eq0+else-sign-ne0, else-a-eq0-via-else-a-eq0}

pub returns : goal.returns
returns c =
    let s = c.args.s.now in
    let w = c.sign_width-sign.result in
    let x = c.in_ok-a.a in
    let y = c.in_ok-b.b in
    let z = c.in_ok-c.c in
    let u = c.in_ok-d.d in
    let zero : x.value ≡ 0 → w ≡ 0 = elim c.else-a-eq0.branch [ else-a-eq0-via-then-a-eq0+else-sign-ne0 k ↦ λ q. omega arith | else-a-eq0-via-else-a-eq0 k ↦ λ q. omega arith ] in
    let first = signed_is s c.args.p w 32 x.value x.next c.sign_width-sign.ensures zero c.in_ok-a.ensures.plain in
    let value : ℤ = cond (eqb w 0) (pos x.value) (neg_ℤ (pos x.value)) in
    row_is c.args.n s c.args.at (value ∷ pos y.value ∷ pos z.value ∷ pos u.value ∷ []) u.next (omega arith)
    (c.args.p, c.requires.2, (x.next, first, (y.next, c.in_ok-b.ensures.plain.natural, (z.next, c.in_ok-c.ensures.plain.natural, (u.next, c.in_ok-d.ensures.plain.natural, refl))))) _
    (ap₂ ◌∷◌ (plus_is {v = c.args.n} (omega (arith, c.requires.0)))
    (ap₂ ◌∷◌ (came c.signed.result c.signed.type_inv ∙ c.signed.ensures)
    (ap₂ ◌∷◌ (plus_is {v = y.value} c.in_ok-b.ensures.value_bound.0)
    (ap₂ ◌∷◌ (plus_is {v = z.value} c.in_ok-c.ensures.value_bound.0) (ap₂ ◌∷◌ (plus_is {v = u.value} c.in_ok-d.ensures.value_bound.0) refl)))))
