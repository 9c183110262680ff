-- `text_lines::row_at` meets its contract. Assumes nothing.
use Rattle.std.proofs.Common.{◌≡◌, ℕ, ap, ◌∙◌, to_z, of_z, w64, arith, rules}
use Rattle.rules_text.specs.Offsets.{number_at, closed_by}
use Rattle.rules_text.proofs.RowLaws.{rowing_start, rowing_missing, rowing_more, rowing_done, row_out, row_none, row_some, in_range_lem, below_range, above_range}
use Rattle.text_lines.proofs.row_at.Goals as goal

pub returns-then-k-lt1 : goal.returns-then-k-lt1
returns-then-k-lt1 c = let a = c.args in row_out 8 (λ o. o) a.s.now a.at a.k (below_range a.k c.if-k-lt1.true)

pub returns-then-k-gt8 : goal.returns-then-k-gt8
returns-then-k-gt8 c = let a = c.args in row_out 8 (λ o. o) a.s.now a.at a.k (above_range a.k c.if-k-gt8.true)

pub loop-i-init : goal.loop-i-init
loop-i-init c = let a = c.args in rowing_start 8 a.s.now a.at a.k c.if-k-lt1.false

-- the number that is read, as the laws have it
pub returns-in_err-x : goal.returns-in_err-x
returns-in_err-x c =
    let a = c.args in
    let l = c.loop-i in
    let h = c.from_residual in
    cc (row_none 8 a.s.now a.at a.k (in_range_lem a.k c.if-k-lt1.false c.if-k-gt8.false)
    (rowing_missing 8 a.s.now a.at a.k l.v l.p l.i l.invariant (omega arith)
    (c.in_err-x.ensures ∙ ap (λ (b : ℕ). closed_by a.s.now b (number_at a.s.now l.p)) c.closing.ensures)))

pub loop-i-preserved : goal.loop-i-preserved
loop-i-preserved c =
    let a = c.args in
    let l = c.loop-i in
    let e : to_z w64 (of_z w64 c.in_ok-x.x) ≡ c.in_ok-x.x = search rules in
    rw e
    (rowing_more 8 a.s.now a.at a.k l.v l.p l.i l.invariant (omega arith) c.in_ok-x.x c.in_ok-x.n
    (c.in_ok-x.ensures ∙ ap (λ (b : ℕ). closed_by a.s.now b (number_at a.s.now l.p)) c.closing.ensures))

pub returns : goal.returns
returns c =
    let a = c.args in
    let l = c.loop-i in
    let d = rowing_done 8 a.s.now a.at a.k l.v l.p l.i l.invariant (omega arith) in
    row_some 8 a.s.now a.at a.k (in_range_lem a.k c.if-k-lt1.false c.if-k-gt8.false) l.v l.p d.values d.end
