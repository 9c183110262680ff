-- `text_triples::any_id_three` meets its contract. Assumes nothing.
use Rattle.std.specs.Prelude.{None, Some}
use Rattle.std.proofs.Common.{◌≡◌, ◌≤◌, Bool, cond, get_or, pos, ap, ◌∙◌, arith, rules}
use Rattle.rules_number.specs.Order.{eq_z}
use Rattle.rules_text.proofs.RowLaws.{id_no_row, id_row}
use Rattle.text_triples.proofs.any_id_three.Goals as goal

pub returns-in_err-row : goal.returns-in_err-row
returns-in_err-row c = let a = c.args in cc (id_no_row 3 a.n a.s.now a.at c.in_err-row.ensures)

pub returns-then-not-is_id : goal.returns-then-not-is_id
returns-then-not-is_id c =
    let a = c.args in
    let r = c.in_ok-row.row in
    let some : 1 ≤ 3 = omega arith in
    let same : eq_z (pos a.n) _ ≡ eq_z (pos a.n) (get_or r.v 0 (pos 0)) = ap (eq_z (pos a.n)) (search rules) in
    ap (λ (b : Bool). cond b (Some r) None) (c.if-not-is_id.ensures ∙ same) ∙ id_row 3 a.n a.s.now a.at r some c.in_ok-row.ensures

pub returns : goal.returns
returns c =
    let a = c.args in
    let r = c.in_ok-row.row in
    let some : 1 ≤ 3 = omega arith in
    let same : eq_z (pos a.n) _ ≡ eq_z (pos a.n) (get_or r.v 0 (pos 0)) = ap (eq_z (pos a.n)) (search rules) in
    ap (λ (b : Bool). cond b (Some r) None) (c.if-not-is_id.ensures ∙ same) ∙ id_row 3 a.n a.s.now a.at r some c.in_ok-row.ensures
