-- Goals of `print::line_within` that the search leaves. Assumes nothing.
use Rattle.std.proofs.Common.{◌≡◌, ℕ, ◌+◌, ◌-◌, length, sym, ap, subst, ◌∙◌, arith, rules}
use Rattle.std.proofs.Math.ListN.{get_or}
use Rattle.std.proofs.Math.IntN.{ℤ, pos}
use mir.Syntax.{w64}
use mir.Val.{SFits}
use borrow.Author.Tests.{le-leb, lt-leb}
use Rattle.rules_number.proofs.Kit.{came}
use Rattle.rules_text.specs.Printing.{decimal, line_text}
use Rattle.rules_text.proofs.PrintLaws.{Widening, decimal_few, widening_more, widening_done}
use Rattle.print.proofs.line_within.Goals as goal
use Rattle.print.proofs.line_within.Goals.{After-number_width-width}

-- the width that is taken is the value's
sized : (c : After-number_width-width) → c.number_width-width.result ≡ length (decimal (get_or c.args.v.now c.loop-x.x-index (pos 0)))
sized c =
    let f : SFits w64 (get_or c.args.v.now c.loop-x.x-index (pos 0)) = search rules in
    c.number_width-width.ensures ∙ ap (λ (z : ℤ). length (decimal z)) (came (get_or c.args.v.now c.loop-x.x-index (pos 0)) f.sfits)

-- what is taken with it
more : (c : After-number_width-width) → Widening c.args.v.now (c.args.room - c.loop-x.left + c.number_width-width.result + 1) (c.loop-x.x-index + 1)
more c =
    widening_more c.args.v.now (c.args.room - c.loop-x.left) c.loop-x.x-index c.loop-x.invariant.taken c.loop-x-test.true c.number_width-width.result (sized c)

pub overflow_add-width : goal.overflow_add-width
overflow_add-width c =
    omega (arith, sized (goal.at.overflow_add-width c).After-number_width-width, decimal_few (get_or c.args.v.now c.loop-x.x-index (pos 0)))

pub returns-then-left-width : goal.returns-then-left-width
returns-then-left-width c =
    let m = more (goal.at.returns-then-left-width c).After-number_width-width in
    sym (lt-leb (length (line_text c.args.v.now)) c.args.room (omega (arith, m.end, c.loop-x.invariant.some, c.if-left-width.true)))

pub loop-x-preserved : goal.loop-x-preserved
loop-x-preserved c =
    let m = more (goal.at.loop-x-preserved c).After-number_width-width in
    let k = c.number_width-width.result in
    record {
      some = omega (arith, c.loop-x.invariant.some);
      taken = subst (λ (w : ℕ). Widening c.args.v.now w (c.loop-x.x-index + 1)) (omega (arith, c.loop-x.invariant.some, c.if-left-width.false)) m;
    }

pub returns : goal.returns
returns c =
    let e = widening_done c.args.v.now (c.args.room - c.loop-x.left) c.loop-x.x-index c.loop-x.invariant.taken c.loop-x-test.false in
    sym (le-leb (length (line_text c.args.v.now)) c.args.room (omega (arith, e)))
