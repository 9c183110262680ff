-- `text_numbers::number_at` meets its contract. Assumes nothing.
use Rattle.std.specs.Prelude.{Some}
use Rattle.std.proofs.Common.{◌+◌, ℤ, ap, ◌∙◌, arith}
use Rattle.rules_number.proofs.Kit.{came}
use Rattle.rules_text.proofs.NumberLaws.{past_end, number_none, number_fits, number_natural, number_zero, number_negative, spelt}
use Rattle.text_numbers.proofs.number_at.Goals as goal

pub returns-then-s-at : goal.returns-then-s-at
returns-then-s-at c = let a = c.args in past_end a.s.now a.at c.if-s-at.true

pub returns-in_err-v : goal.returns-in_err-v
returns-in_err-v c =
    let w = c.sign_width-sign in
    let a = c.args in
    let h = c.from_residual in cc (number_none a.s.now a.at w.result w.ensures c.in_err-v.ensures)

pub overflow_add-next : goal.overflow_add-next
overflow_add-next c =
    let w = c.sign_width-sign in
    let a = c.args in
    omega (arith, c.well_formed, number_fits a.s.now a.at w.result w.ensures c.in_ok-v.v c.in_ok-v.count c.in_ok-v.ensures)

pub plus-requires : goal.plus-requires
plus-requires c = (spelt _ _ _ c.in_ok-v.ensures).small

pub returns-then-sign-eq0 : goal.returns-then-sign-eq0
returns-then-sign-eq0 c =
    let w = c.sign_width-sign in
    let a = c.args in
    ap (λ (z : ℤ). Some (z, (a.at + w.result + c.in_ok-v.count))) (came c.plus.result c.plus.type_inv ∙ c.plus.ensures)
    ∙ number_natural a.s.now a.at w.result w.ensures c.in_ok-v.v c.in_ok-v.count c.in_ok-v.ensures c.if-sign-eq0.true

pub returns-then-v-eq0 : goal.returns-then-v-eq0
returns-then-v-eq0 c =
    let w = c.sign_width-sign in
    let a = c.args in
    number_zero a.s.now a.at w.result w.ensures c.in_ok-v.v c.in_ok-v.count c.in_ok-v.ensures c.if-sign-eq0.false c.if-v-eq0.true

pub minus-requires : goal.minus-requires
minus-requires c = (spelt _ _ _ c.in_ok-v.ensures).small

pub returns : goal.returns
returns c =
    let w = c.sign_width-sign in
    let a = c.args in
    ap (λ (z : ℤ). Some (z, (a.at + w.result + c.in_ok-v.count))) (came c.minus.result c.minus.type_inv ∙ c.minus.ensures)
    ∙ number_negative a.s.now a.at w.result w.ensures c.in_ok-v.v c.in_ok-v.count c.in_ok-v.ensures c.if-sign-eq0.false c.if-v-eq0.false
