-- Goals of `verdict_page::put_named` that the search leaves. Assumes nothing.
use Rattle.std.specs.Prelude.{Some}
use Rattle.std.proofs.Common.{◌≡◌, ◌+◌, ◌*◌, ◌%◌, ◌^◌, ◌<◌, refl, sym, ap, ◌∙◌, arith, rules, true}
use mir.Syntax.{w64}
use mir.Val.{SFits}
use lib.Pow.{pow_pos}
use lib.Count.{ones}
use Rattle.rules_number.proofs.Kit.{came}
use Rattle.rules_text.specs.Printing.{group_text}
use Rattle.rules_page.specs.Pages.{printable, seller_rows}
use Rattle.rules_page.specs.Weights.{leads}
use Rattle.rules_library.specs.Slices.{cell_at}
use Rattle.rules_state.specs.Layout.{verdict_width}
use Rattle.rules_state.specs.Verdicts.{verdict_in}
use Rattle.verdict_page.specs.Orders.{weight_in, is_left}
use Rattle.verdict_page.specs.Shown.{withheld_in}
use Rattle.verdict_page.proofs.OrderLaws.{led, bit_there, one_shifted}
use Rattle.verdict_page.proofs.SellerLaws.{sellers_left, named_start, named_room, named_next, named_done}
use Rattle.verdict_page.proofs.put_named.Goals as goal
use Rattle.verdict_page.proofs.put_named.Goals.{In-Some}

pub loop-p-init : goal.loop-p-init
loop-p-init c =
    let a = c.args in
    let cells = a.verdicts.now in
    let from = verdict_width * a.c in
    let f : SFits w64 (cell_at cells from) = search rules in
    let g : SFits w64 (cell_at cells (from + 3)) = search rules in
    let named = simp (came (cell_at cells from) f.sfits, came (cell_at cells (from + 3)) g.sfits) at c.named_by-left.ensures in
    let left = c.named_by-left.result in
    let text = group_text (printable a.i) a.c (seller_rows (verdict_in cells a.c)) in
    named_start a.out.now a.at text (withheld_in cells a.c) (printable a.i) a.c (ones left) left refl (ap (group_text (printable a.i) a.c) (sellers_left cells a.c left named))

-- the seller is one of 16, and its bit is there
module _ (c : In-Some) where
  leading : leads (weight_in (withheld_in c.args.verdicts.now c.args.c)) (is_left c.loop-p.left) 16 ≡ Some c.in-Some.p
  leading = sym c.in-Some.ensures

  seller : (c.in-Some.p < 16) × (is_left c.loop-p.left c.in-Some.p ≡ true)
  seller = led (weight_in (withheld_in c.args.verdicts.now c.args.c)) (is_left c.loop-p.left) c.in-Some.p leading

pub put_seller-q-requires : goal.put_seller-q-requires
put_seller-q-requires c =
    let a = c.args in
    let l = c.loop-p in
    let z = (goal.at.put_seller-q-requires c).In-Some in
    let text = group_text (printable a.i) a.c (seller_rows (verdict_in a.verdicts.now a.c)) in
    let room = named_room a.out.now a.at text (withheld_in a.verdicts.now a.c) (printable a.i) a.c (ones c.named_by-left.result) l.out l.q l.left l.invariant c.in-Some.p (leading z) in
    (omega (arith, room, l.invariant.put.long, c.requires.0), c.requires.1, (seller z).0)

pub overflow_cast-left : goal.overflow_cast-left
overflow_cast-left c = let s = seller (goal.at.overflow_cast-left c).In-Some in omega (arith, s.0)

pub overflow_shl-left : goal.overflow_shl-left
overflow_shl-left c = let s = seller (goal.at.overflow_shl-left c).In-Some in omega (arith, s.0)

pub overflow_sub-left : goal.overflow_sub-left
overflow_sub-left c =
    let s = seller (goal.at.overflow_sub-left c).In-Some in
    omega (arith, one_shifted c.in-Some.p s.0, bit_there c.in-Some.p c.loop-p.left s.1)

pub loop-p-smaller : goal.loop-p-smaller
loop-p-smaller c =
    let s = seller (goal.at.loop-p-smaller c).In-Some in
    omega (arith, one_shifted c.in-Some.p s.0, bit_there c.in-Some.p c.loop-p.left s.1, pow_pos c.in-Some.p)

pub loop-p-preserved : goal.loop-p-preserved
loop-p-preserved c =
    let a = c.args in
    let l = c.loop-p in
    let z = (goal.at.loop-p-preserved c).In-Some in
    let text = group_text (printable a.i) a.c (seller_rows (verdict_in a.verdicts.now a.c)) in
    named_next a.out.now a.at text (withheld_in a.verdicts.now a.c) (printable a.i) a.c (ones c.named_by-left.result) l.out l.q l.left l.invariant c.in-Some.p (leading z)
    c.put_seller-q.new.out c.put_seller-q.result (1 * 2 ^ c.in-Some.p % 4294967296) (one_shifted c.in-Some.p (seller z).0) c.put_seller-q.ensures

pub returns : goal.returns
returns c =
    let a = c.args in
    let l = c.loop-p in
    let text = group_text (printable a.i) a.c (seller_rows (verdict_in a.verdicts.now a.c)) in
    named_done a.out.now a.at text (withheld_in a.verdicts.now a.c) (printable a.i) a.c (ones c.named_by-left.result) l.out l.q l.left l.invariant (sym c.next_seller.ensures ∙ c.in_default.is)
