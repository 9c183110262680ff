-- Goals of `verdict_page::next_seller` that the search leaves. Assumes nothing.
use Rattle.std.specs.Prelude.{Option, IfSome}
use Rattle.std.proofs.Common.{◌≡◌, ℕ, ◌+◌, ◌<◌, sym, ap, subst, ◌∙◌, arith}
use Rattle.rules_path.proofs.BitLaws.{bit_zero}
use Rattle.rules_page.specs.Weights.{later, leads}
use Rattle.verdict_page.specs.Orders.{weight_in, is_left}
use Rattle.verdict_page.specs.Shown.{withheld_in}
use Rattle.verdict_page.proofs.OrderLaws.{none_led, next_in, leads_below, rest_skip, rest_none, rest_in, rest_after}
use Rattle.verdict_page.proofs.next_seller.Goals as goal

pub loop-p-init : goal.loop-p-init
loop-p-init c = let a = c.args in (sym (none_led (weight_in (withheld_in a.verdicts.now a.c)) (is_left a.left)), omega arith, omega arith)

pub returns-then-rest-eq0 : goal.returns-then-rest-eq0
returns-then-rest-eq0 c =
    let a = c.args in
    let l = c.loop-p in
    l.invariant.0 ∙ rest_none (weight_in (withheld_in a.verdicts.now a.c)) a.left l.p l.rest l.invariant.1 l.invariant.2 (λ j h. rw c.if-rest-eq0.true (bit_zero j))

pub returns-then-p-ge-MAX_PORTFOLIOS : goal.returns-then-p-ge-MAX_PORTFOLIOS
returns-then-p-ge-MAX_PORTFOLIOS c =
    let a = c.args in
    let l = c.loop-p in
    l.invariant.0
    ∙ rest_none (weight_in (withheld_in a.verdicts.now a.c)) a.left l.p l.rest l.invariant.1 l.invariant.2 (λ j h. c.zeros_below-skip.ensures.zeros j (omega (arith, c.if-p-ge-MAX_PORTFOLIOS.true, h)))

pub first_of-requires : goal.first_of-requires
first_of-requires c =
    let a = c.args in
    let l = c.loop-p in
    let e = leads_below (weight_in (withheld_in a.verdicts.now a.c)) (is_left a.left) l.p l.invariant.2 in
    (c.requires, c.if-p-ge-MAX_PORTFOLIOS.false, subst (λ (o : Option ℕ). IfSome o (λ q. q < 16)) (sym l.invariant.0) e)

pub loop-p-preserved : goal.loop-p-preserved
loop-p-preserved c =
    let a = c.args in
    let l = c.loop-p in
    let w = weight_in (withheld_in a.verdicts.now a.c) in
    let skip = c.zeros_below-skip.result in
    let p = l.p + skip in
    let inv = l.invariant in
    let best : ◌≡◌ {A = Option ℕ} l.best (leads w (is_left a.left) p) = inv.0 ∙ sym (rest_skip w a.left l.p l.rest inv.1 skip c.zeros_below-skip.ensures.zeros) in (
      next_in w (is_left a.left) p (rest_in w a.left l.p l.rest inv.1 skip c.zeros_below-skip.ensures.one.1) c.first_of.result
          (c.first_of.ensures ∙ ap (λ (o : Option ℕ). later w o p) best),
      rest_after w a.left l.p l.rest inv.1 skip,
      omega (arith, c.if-p-ge-MAX_PORTFOLIOS.false),
    )
