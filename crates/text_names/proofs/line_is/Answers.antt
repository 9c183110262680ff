-- `text_names::line_is` meets its contract. Assumes nothing.
use Rattle.std.proofs.Common.{◌≡◌, ℕ, ◌+◌, ◌≤◌, List, length, drop, sym, ◌∙◌, arith}
use Rattle.rules_text.specs.Words.{word_in}
use Rattle.rules_text.proofs.NameLaws.{names_empty, names_short}
use Rattle.rules_text.proofs.WordLaws.{two_at, four_at_lem, eight_at, word_more, word_other}
use Rattle.text_names.specs.Pairs.{word_at}
use Rattle.text_names.proofs.line_is.Goals as goal

-- a word is eight bytes
word_is : (s : List ℕ) (at : ℕ) → at + 8 ≤ length s → word_at s at ≡ word_in 8 (drop at s)
word_is s at h =
    omega (
      arith,
      eight_at s at h,
      four_at_lem s at (omega arith),
      four_at_lem s (at + 4) (omega arith),
      two_at s at (omega arith),
      two_at s (at + 2) (omega arith),
      two_at s (at + 4) (omega arith),
      two_at s (at + 4 + 2) (omega arith),
    )

pub returns-then-want-eq0 : goal.returns-then-want-eq0
returns-then-want-eq0 c = let a = c.args in names_empty a.s.now a.at a.want.now c.if-want-eq0.true

pub returns-then-s-want : goal.returns-then-s-want
returns-then-s-want c = let a = c.args in names_short a.s.now a.at a.want.now (omega arith)

pub returns-then-s-want-2 : goal.returns-then-s-want-2
returns-then-s-want-2 c = let a = c.args in names_short a.s.now a.at a.want.now (omega arith)

pub returns-then-word_at : goal.returns-then-word_at
returns-then-word_at c =
    let a = c.args in
    let i = c.loop-i.i in
    let text = c.word_at.ensures ∙ word_is a.s.now (a.at + i) (omega arith) in
    let want = c.word_at-in-loop-i.ensures ∙ word_is a.want.now i (omega arith) in
    word_other a.s.now a.at a.want.now i (λ n. omega (arith, c.type_inv.s n)) (λ n. omega (arith, c.type_inv.want n)) (omega arith) (omega arith) (λ q. c.if-word_at.true (text ∙ q ∙ sym want)) ∙ c.loop-i.invariant.1

pub loop-i-preserved : goal.loop-i-preserved
loop-i-preserved c =
    let a = c.args in
    let i = c.loop-i.i in
    let text = c.word_at.ensures ∙ word_is a.s.now (a.at + i) (omega arith) in
    let want = c.word_at-in-loop-i.ensures ∙ word_is a.want.now i (omega arith) in (
      omega arith,
      word_more a.s.now a.at a.want.now i (λ n. omega (arith, c.type_inv.s n)) (λ n. omega (arith, c.type_inv.want n)) (omega arith) (omega arith) (sym text ∙ c.if-word_at.false ∙ want) ∙ c.loop-i.invariant.1,
    )
