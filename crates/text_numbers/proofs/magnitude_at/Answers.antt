-- `text_numbers::magnitude_at` meets its contract. Assumes nothing.
use Rattle.std.proofs.Common.{true, false, sym}
use Rattle.rules_text.proofs.NumberLaws.{mag_by}
use Rattle.text_numbers.proofs.magnitude_at.Goals as goal

pub returns-then-not-is_number : goal.returns-then-not-is_number
returns-then-not-is_number c =
    let d = c.digits_at-digits in
    let a = c.args in
    sym (mag_by a.s.now a.at d.result.value d.result.count d.ensures.value_value d.ensures.count_value false (sym c.if-not-is_number.ensures))

pub returns : goal.returns
returns c =
    let d = c.digits_at-digits in
    let a = c.args in
    sym (mag_by a.s.now a.at d.result.value d.result.count d.ensures.value_value d.ensures.count_value true (sym c.if-not-is_number.ensures))
