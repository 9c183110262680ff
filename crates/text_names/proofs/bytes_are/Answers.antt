-- `text_names::bytes_are` meets its contract. Assumes nothing.
use Rattle.std.specs.Prelude.{Some}
use Rattle.std.proofs.Common.{◌≡◌, ℕ, ◌+◌, length, sym, ap, ◌∙◌, arith}
use Rattle.rules_text.proofs.NameLaws.{names_all, names_other}
use Rattle.text_names.proofs.bytes_are.Goals as goal

pub returns-then-s-at : goal.returns-then-s-at
returns-then-s-at c = let a = c.args in names_other a.s.now a.at a.want.now c.loop-i.i c.loop-i.invariant.1 (omega arith) (omega arith) c.if-s-at.true

pub returns : goal.returns
returns c =
    let a = c.args in
    let i : c.loop-i.i ≡ length a.want.now = omega arith in
    ap (λ (j : ℕ). Some (a.at + j)) (sym i) ∙ names_all a.s.now a.at a.want.now c.loop-i.i c.loop-i.invariant.1 (omega arith) (omega arith)
