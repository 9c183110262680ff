-- `opening_cells::put_resources`: a row is put after the others, or refused and not put.
use Prim.Native.Nat.{ℕ, ◌+◌, ◌*◌, ◌<◌}
use mathlib.Core.List.{List, flat_map}
use mathlib.Core.Path.{◌≡◌, refl, sym, ap, subst, ◌∙◌}
use native.Mathlib.Omega.{arith}
use lib.IntN.{ℤ}
use lib.Seq.{sets}
use Rattle.std.proofs.Common.{rules}
use Rattle.rules_number.specs.Order.{nat_of}
use Rattle.rules_number.specs.Over.{listed}
use Rattle.rules_number.proofs.Kit.{rd}
use Rattle.rules_curve.specs.Refusals.{outcome_number, number_of, each_to}
use Rattle.rules_curve.proofs.RefusalLaws.{refused_number}
use Rattle.rules_opening.specs.Resources.{row_of}
use Rattle.rules_opening.specs.declared.Row.{Row}
use Rattle.rules_state.specs.Layout.{room_of_row}
use Rattle.rules_state.specs.Openings.{block_of, resource_in}
use Rattle.rules_state.specs.States.{row_cells}
use Rattle.opening.proofs.OpeningLaws.{each_next, each_stops}
use Rattle.opening_cells.proofs.OpenLaws.{skipped, taken, rows_length, rows_put, rows_none}
use Rattle.opening_cells.specs.Hours.{refusal_of, rows_refusal}
use Rattle.opening_cells.specs.declared.LentOpening.{LentOpening}
use Rattle.opening_cells.proofs.put_resources.Goals as goal

abbrev row : List ℤ → ℕ → Row
row blocks r = row_of (resource_in (block_of blocks r))

-- by the month as it is given
by_month : (g : LentOpening) (m : ℕ) → m ≡ nat_of (rd g.month) → rd g.month ≡ g.month → each_to (refusal_of m g.blocks.now) g.resources ≡ rows_refusal g
by_month g m e f = ap (λ (k : ℕ). each_to (refusal_of k g.blocks.now) g.resources) (e ∙ ap nat_of f)

pub loop-r-init : goal.loop-r-init
unfolding listed each_to flat_map
loop-r-init c = record { none = refl; room = refl; put = refl }

pub returns-in_err-put_resource : goal.returns-in_err-put_resource
returns-in_err-put_resource c =
    let g = c.args.given.now in
    let i = c.loop-r.invariant in
    let p = c.put_resource in
    let r = c.loop-r.r in
    let n = c.in_err-put_resource.field-0.0 in
    let f = refusal_of c.whole-month.result g.blocks.now in
    let month : rd g.month ≡ g.month = search rules in
    let all = by_month g c.whole-month.result c.whole-month.ensures month in
    let e : number_of n ≡ f r = c.in_err-put_resource.ensures.number in
    let h : 0 < f r = subst (λ (k : ℕ). 0 < k) e (refused_number n) in
    let stops = each_stops f g.resources r (omega arith) i.none h in
    let s = skipped (f r) (sets c.loop-r.state (c.args.from + room_of_row * r) (row_cells (row g.blocks.now r))) c.loop-r.state h in
    let same : outcome_number c.from_residual.result ≡ number_of n = search rules in record {
      number = same ∙ e ∙ sym stops ∙ all;
      rows = λ z. absurd (omega (arith, h, sym stops ∙ all ∙ z));
      one = λ one some. p.ensures.state ∙ s ∙ rows_none (row g.blocks.now) c.args.state.now c.args.from c.loop-r.state r (omega (arith, one)) i.put;
    }

pub loop-r-preserved : goal.loop-r-preserved
loop-r-preserved c =
    let g = c.args.given.now in
    let i = c.loop-r.invariant in
    let p = c.put_resource in
    let r = c.loop-r.r in
    let f = refusal_of c.whole-month.result g.blocks.now in
    let z : f r ≡ 0 = sym c.in_ok-put_resource.ensures.number in
    let x = row g.blocks.now in
    let out = p.ensures.state ∙ taken (f r) (sets c.loop-r.state (c.args.from + room_of_row * r) (row_cells (x r))) c.loop-r.state z in record {
      none = each_next f r i.none z;
      room = rows_length x c.args.state.now c.args.from r i.room (p.ensures.room z);
      put = rows_put x c.args.state.now c.args.from c.loop-r.state _ r i.put i.room out;
    }

pub returns : goal.returns
returns c =
    let g = c.args.given.now in
    let month : rd g.month ≡ g.month = search rules in
    let all = by_month g c.whole-month.result c.whole-month.ensures month in
    let n : c.loop-r.r ≡ g.resources = omega arith in
    let i = rw n at c.loop-r.invariant in record {
      number = sym i.none ∙ all;
      rows = λ z. (i.room, i.put);
      one = λ one some. absurd (omega (arith, some, sym all ∙ i.none));
    }
