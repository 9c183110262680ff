-- Goals of `print::put_line` that the search leaves. Assumes nothing.
use Rattle.std.proofs.Common.{◌≡◌, ℕ, ◌+◌, [], ◌∷◌, ◌++◌, length, refl, sym, ap, subst, ◌∙◌, arith, rules}
use Rattle.std.proofs.lemmas.List.Edits.{sets}
use Rattle.std.proofs.Math.ListN.{get_or}
use Rattle.std.proofs.Math.IntN.{ℤ, pos}
use mir.Syntax.{w64}
use mir.Val.{SFits}
use Rattle.rules_number.proofs.Kit.{rd, came}
use Rattle.rules_text.specs.Printing.{decimal}
use Rattle.rules_text.proofs.ListLaws.{sets_append}
use Rattle.rules_text.proofs.PrintLaws.{Lining, lining_room, lining_more, lining_done}
use Rattle.print.proofs.put_line.Goals as goal
use Rattle.print.proofs.put_line.Goals.{After-closing}

-- the value that is put
value : (c : After-closing) → rd (get_or c.args.v.now c.loop-i.i (pos 0)) ≡ get_or c.args.v.now c.loop-i.i (pos 0)
value c =
    let f : SFits w64 (get_or c.args.v.now c.loop-i.i (pos 0)) = search rules in
    came (get_or c.args.v.now c.loop-i.i (pos 0)) f.sfits

pub put_value-p-requires : goal.put_value-p-requires
put_value-p-requires c =
    let l = c.loop-i in
    let r = lining_room c.args.out.now c.args.at c.args.v.now l.out l.p l.i l.invariant c.loop-i-test.true c.requires in
    omega (arith, r, ap (λ (z : ℤ). length (decimal z)) (value (goal.at.put_value-p-requires c).After-closing))

pub loop-i-preserved : goal.loop-i-preserved
loop-i-preserved c =
    let p = c.put_value-p in
    let b = c.closing.result in
    let l = c.loop-i in
    let a = c.args in
    let x = a.v.now in
    let d = decimal (get_or x l.i (pos 0)) in
    let e = value (goal.at.loop-i-preserved c).After-closing in
    let h = p.ensures.0 ∙ ap (λ (z : ℤ). sets l.out l.p (decimal z ++ (b ∷ []))) e ∙ sets_append l.out l.p d (b ∷ []) in
    subst (λ (q : ℕ). Lining a.out.now a.at x p.new.out q (l.i + 1)) (sym (p.ensures.1 ∙ ap (λ (z : ℤ). l.p + length (decimal z) + 1) e))
    (lining_more a.out.now a.at x l.out l.p l.i l.invariant c.loop-i-test.true (sets l.out l.p d) p.new.out (l.p + length d) b refl refl c.closing.ensures h)

pub returns : goal.returns
returns c =
    let a = c.args in
    let l = c.loop-i in
    lining_done a.out.now a.at a.v.now l.out l.p l.i l.invariant c.loop-i-test.false
