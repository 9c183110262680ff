-- `text_rows::any_row` meets its contract. Assumes nothing.
use Rattle.std.specs.Prelude.{None, Some}
use Rattle.std.proofs.Common.{◌≡◌, ℕ, Bool, cond, get_or, pos, ap, ◌∙◌, to_z, of_z, w64, arith, rules}
use Rattle.rules_number.specs.Order.{eq_z}
use Rattle.rules_text.specs.declared.Row as source
use Rattle.rules_text.specs.Offsets.{number_at, closed_by}
use Rattle.rules_text.proofs.RowLaws.{rowing_start, rowing_missing, rowing_more, rowing_done, row_none, row_some, in_range_lem, id_no_row, id_row}
use Rattle.text_rows.proofs.any_row.Goals as goal

pub loop-i-init : goal.loop-i-init
loop-i-init g c = let a = c.args in rowing_start g.row.N a.s.now a.at g.row.N c.requires.0

pub returns-in_err-x : goal.returns-in_err-x
returns-in_err-x g c =
    let a = c.args in
    let l = c.loop-i in
    cc (id_no_row g.row.N a.n a.s.now a.at (row_none g.row.N a.s.now a.at g.row.N (in_range_lem g.row.N c.requires.0 c.requires.1)
    (rowing_missing g.row.N a.s.now a.at g.row.N l.v l.p l.i l.invariant (omega arith)
    (c.in_err-x.ensures ∙ ap (λ (b : ℕ). closed_by a.s.now b (number_at a.s.now l.p)) c.closing.ensures))))

pub loop-i-preserved : goal.loop-i-preserved
loop-i-preserved g c =
    let a = c.args in
    let l = c.loop-i in
    let e : to_z w64 (of_z w64 c.in_ok-x.x) ≡ c.in_ok-x.x = search rules in
    rw e
    (rowing_more g.row.N a.s.now a.at g.row.N l.v l.p l.i l.invariant (omega arith) c.in_ok-x.x c.in_ok-x.q
    (c.in_ok-x.ensures ∙ ap (λ (b : ℕ). closed_by a.s.now b (number_at a.s.now l.p)) c.closing.ensures))

-- the row, and the test of its first value
pub returns-then-not-is_id : goal.returns-then-not-is_id
returns-then-not-is_id g c =
    let a = c.args in
    let l = c.loop-i in
    let d = rowing_done g.row.N a.s.now a.at g.row.N l.v l.p l.i l.invariant (omega arith) in
    let r : source.Row g.row.N = record { v = l.v; next = l.p } in
    let whole = row_some g.row.N a.s.now a.at g.row.N (in_range_lem g.row.N c.requires.0 c.requires.1) l.v l.p d.values d.end in
    let same : eq_z (pos a.n) _ ≡ eq_z (pos a.n) (get_or l.v 0 (pos 0)) = ap (eq_z (pos a.n)) (search rules) in
    ap (λ (b : Bool). cond b (Some r) None) (c.if-not-is_id.ensures ∙ same) ∙ id_row g.row.N a.n a.s.now a.at r c.requires.0 whole

pub returns : goal.returns
returns g c =
    let a = c.args in
    let l = c.loop-i in
    let d = rowing_done g.row.N a.s.now a.at g.row.N l.v l.p l.i l.invariant (omega arith) in
    let r : source.Row g.row.N = record { v = l.v; next = l.p } in
    let whole = row_some g.row.N a.s.now a.at g.row.N (in_range_lem g.row.N c.requires.0 c.requires.1) l.v l.p d.values d.end in
    let same : eq_z (pos a.n) _ ≡ eq_z (pos a.n) (get_or l.v 0 (pos 0)) = ap (eq_z (pos a.n)) (search rules) in
    ap (λ (b : Bool). cond b (Some r) None) (c.if-not-is_id.ensures ∙ same) ∙ id_row g.row.N a.n a.s.now a.at r c.requires.0 whole
