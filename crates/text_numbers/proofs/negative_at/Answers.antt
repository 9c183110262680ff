-- `text_numbers::negative_at` meets its contract. Assumes nothing.
use Rattle.std.specs.Prelude.{Some}
use Rattle.std.proofs.Common.{◌+◌, true, false, eqb, refl, ap, ◌∙◌, ℤ, eq-eqb, ne_eqb}
use Rattle.rules_number.proofs.Kit.{came}
use Rattle.rules_text.proofs.NumberLaws.{closed_none, closed_negative, closed_spelt}
use Rattle.text_numbers.proofs.negative_at.Goals as goal

pub returns-then-s-at-ne45 : goal.returns-then-s-at-ne45
returns-then-s-at-ne45 c = closed_none c.args.s.now c.args.b c.args.at c.requires.1 c.if-s-at-ne45.true

pub returns-then-not-closes : goal.returns-then-not-closes
returns-then-not-closes c =
    let d = c.digits_in-digits in
    let a = c.args in
    closed_negative a.s.now a.b a.at d.result.value d.result.count (d.ensures.value_value, d.ensures.count_value) c.if-s-at-ne45.false
    false false c.if-not-closes.ensures refl (eqb d.result.value 0) refl

pub returns-then-digits-eq0 : goal.returns-then-digits-eq0
returns-then-digits-eq0 c =
    let d = c.digits_in-digits in
    let a = c.args in
    closed_negative a.s.now a.b a.at d.result.value d.result.count (d.ensures.value_value, d.ensures.count_value) c.if-s-at-ne45.false
    true true c.if-not-closes.ensures refl true (eq-eqb d.result.value 0 c.if-digits-eq0.true)

pub minus-requires : goal.minus-requires
minus-requires c =
    let d = c.digits_in-digits in
    let a = c.args in
    (closed_spelt a.s.now a.b (a.at + 1) d.result.value d.result.count (d.ensures.value_value, d.ensures.count_value) true c.if-not-closes.ensures refl).small

pub returns : goal.returns
returns c =
    let d = c.digits_in-digits in
    let a = c.args in
    ap (λ (z : ℤ). Some (z, (a.at + 1 + d.result.count + 1))) (came c.minus.result c.minus.type_inv ∙ c.minus.ensures)
    ∙ closed_negative a.s.now a.b a.at d.result.value d.result.count (d.ensures.value_value, d.ensures.count_value) c.if-s-at-ne45.false
    true true c.if-not-closes.ensures refl false (ne_eqb d.result.value 0 c.if-digits-eq0.false)
