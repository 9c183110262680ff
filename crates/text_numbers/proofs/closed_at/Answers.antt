-- `text_numbers::closed_at` meets its contract. Assumes nothing.
use Rattle.std.specs.Prelude.{Some}
use Rattle.std.proofs.Common.{◌+◌, true, false, ℤ, refl, ap, ◌∙◌}
use Rattle.rules_number.proofs.Kit.{came}
use Rattle.rules_text.proofs.NumberLaws.{closed_end, closed_natural, closed_spelt}
use Rattle.text_numbers.proofs.closed_at.Goals as goal

pub returns-then-s-at : goal.returns-then-s-at
returns-then-s-at c = let a = c.args in closed_end a.s.now a.b a.at c.if-s-at.true

pub returns-then-not-closes : goal.returns-then-not-closes
returns-then-not-closes c =
    let d = c.digits_in-digits in
    let a = c.args in
    closed_natural a.s.now a.b a.at d.result.value d.result.count (d.ensures.value_value, d.ensures.count_value) c.if-digits-eq0.false
    false false c.if-not-closes.ensures refl

pub plus-requires : goal.plus-requires
plus-requires c =
    let d = c.digits_in-digits in
    let a = c.args in
    (closed_spelt a.s.now a.b a.at d.result.value d.result.count (d.ensures.value_value, d.ensures.count_value) true c.if-not-closes.ensures refl).small

pub returns : goal.returns
returns c =
    let d = c.digits_in-digits in
    let a = c.args in
    ap (λ (z : ℤ). Some (z, (a.at + d.result.count + 1))) (came c.plus.result c.plus.type_inv ∙ c.plus.ensures)
    ∙ closed_natural a.s.now a.b a.at d.result.value d.result.count (d.ensures.value_value, d.ensures.count_value) c.if-digits-eq0.false
    true true c.if-not-closes.ensures refl
