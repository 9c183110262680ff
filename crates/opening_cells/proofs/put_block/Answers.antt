-- `opening_cells::put_block`: the bid, and then its default curve.
use mathlib.Core.Bool.{Bool}
use mathlib.Core.Path.{◌≡◌, sym, ap, subst, ◌∙◌}
use Prim.Native.Nat.{ℕ, ◌*◌, ◌-◌, ◌<◌, ◌≤◌}
use mathlib.Core.List.{List}
use native.Mathlib.Omega.{arith}
use lib.IntN.{ℤ}
use lib.ListN.{length, take, drop, length-drop}
use lib.Seq.{sets}
use Rattle.std.proofs.Common.{rules}
use Rattle.rules_number.specs.Order.{nat_of}
use Rattle.rules_number.proofs.Kit.{rd, came}
use Rattle.rules_curve.specs.Refusals.{outcome_number, number_of, unless}
use Rattle.rules_curve.specs.Curves.{most_steps, bid_refusal, curve_of}
use Rattle.rules_curve.specs.declared.RawCurve.{RawCurve}
use Rattle.rules_curve.proofs.RefusalLaws.{refused_number}
use Rattle.rules_opening.specs.Resources.{resource_refusal, row_of, source_refusal}
use Rattle.rules_opening.proofs.ResourceLaws.{refused_bid}
use Rattle.rules_library.specs.Slices.{cell_at, raw_bid}
use Rattle.rules_state.specs.Layout.{curve_room, block_room}
use Rattle.rules_state.specs.Openings.{resource_in}
use Rattle.rules_state.specs.States.{curve_cells, row_cells}
use Rattle.opening_cells.proofs.BlockLaws.{tail, bid_by_lem, bid_few}
use Rattle.opening_cells.proofs.OpenLaws.{skipped, taken}
use Rattle.opening_cells.proofs.RowLaws.{refused_source, number_is, row_room, row_put}
use Rattle.opening_cells.proofs.StepLaws.{curve_full}
use Rattle.opening_cells.proofs.put_block.Goals as goal

-- the bid's steps, as they are read
abbrev part : List ℤ → List ℤ
part b = take (length b - 3) (drop 3 b)

abbrev raw : ℤ → ℕ → List ℤ → RawCurve
raw start n b = raw_bid (rd start) n (part b)

raw_is : (b : List ℤ) (start : ℤ) (n : ℕ) → rd start ≡ cell_at b 1 → n ≡ nat_of (cell_at b 2) → raw start n b ≡ (resource_in b).bid
raw_is b start n e f = bid_by_lem b e f (tail b 3)

part_room : (b : List ℤ) → length b ≡ block_room → 2 * most_steps ≤ length (part b)
part_room b h = omega (arith, ap length (tail b 3) ∙ length-drop 3 b, h)

-- ---- a bid that is taken
module _ (m : ℕ) (b : List ℤ) (start : ℤ) (n : ℕ) (start_is : rd start ≡ cell_at b 1) (n_is : n ≡ nat_of (cell_at b 2)) (ok : 0 ≡ bid_refusal m (raw start n b)) where
  bid_good : bid_refusal m (resource_in b).bid ≡ 0
  bid_good = sym (ok ∙ ap (bid_refusal m) (raw_is b start n start_is n_is))

  few : n ≤ most_steps
  few = let k = bid_few b m bid_good in omega (arith, n_is, k)

  bid_full : length (curve_cells (curve_of (raw start n b))) ≡ curve_room
  bid_full = curve_full (rd start) n (part b) few

pub returns-in_err-bid_outcome : goal.returns-in_err-bid_outcome
returns-in_err-bid_outcome c =
    let b = c.args.block.now in
    let x = resource_in b in
    let m = c.args.month in
    let s = c.cell_at in
    let f = c.in_err-bid_outcome.field-0.0 in
    let e : number_of f ≡ bid_refusal m x.bid = c.in_err-bid_outcome.ensures ∙ ap (bid_refusal m) (raw_is b s.result c.whole_at.result (came s.result s.type_inv ∙ s.ensures) c.whole_at.ensures) in
    let h : 0 < bid_refusal m x.bid = subst (λ (k : ℕ). 0 < k) e (refused_number f) in
    let r = refused_bid m x h in
    let some : 0 < resource_refusal m x = rw r h in
    let same : outcome_number c.from_residual.result ≡ number_of f = search rules in record {
      number = same ∙ e ∙ sym r;
      room = λ z. absurd (omega arith);
      state = sym (skipped (resource_refusal m x) (sets c.args.state.now c.args.at (row_cells (row_of x))) c.args.state.now some);
    }

pub returns-in_err-default : goal.returns-in_err-default
returns-in_err-default c =
    let b = c.args.block.now in
    let x = resource_in b in
    let m = c.args.month in
    let s = c.cell_at in
    let f = c.in_err-default.field-0.0 in
    let good = bid_good m b s.result c.whole_at.result (came s.result s.type_inv ∙ s.ensures) c.whole_at.ensures c.in_ok-bid_outcome.ensures in
    let e : number_of f ≡ source_refusal x.source x = c.in_err-default.ensures.number in
    let h : 0 < source_refusal x.source x = subst (λ (k : ℕ). 0 < k) e (refused_number f) in
    let r = refused_source x m good h in
    let some : 0 < resource_refusal m x = subst (λ (k : ℕ). 0 < k) r h in
    let same : outcome_number c.from_residual-in_err-default.result ≡ number_of f = search rules in record {
      number = same ∙ e ∙ r;
      room = λ z. absurd (omega arith);
      state = sym (skipped (resource_refusal m x) (sets c.args.state.now c.args.at (row_cells (row_of x))) c.args.state.now some);
    }

pub lies_inside-requires : goal.lies_inside-requires
lies_inside-requires c =
    let b = c.args.block.now in
    let s = c.cell_at in
    (few c.args.month b s.result c.whole_at.result (came s.result s.type_inv ∙ s.ensures) c.whole_at.ensures c.in_ok-bid_outcome.ensures, part_room b c.requires.0)

pub returns-then-not-lies_inside : goal.returns-then-not-lies_inside
returns-then-not-lies_inside c =
    let b = c.args.block.now in
    let x = resource_in b in
    let m = c.args.month in
    let s = c.cell_at in
    let n = c.whole_at in
    let d = c.in_ok-default in
    let start_is = came s.result s.type_inv ∙ s.ensures in
    let ok = c.in_ok-bid_outcome.ensures in
    let q =
    number_is x m (bid_good m b s.result n.result start_is n.ensures ok) d.default c.default_in.new.cells _ d.ensures.number d.ensures.ends c.default_in.ensures.cells
    (raw s.result n.result b) (raw_is b s.result n.result start_is n.ensures) (bid_full m b s.result n.result start_is n.ensures ok) in
    let t = sym c.lies_inside.ensures ∙ c.if-not-lies_inside.true in
    let number : 11 ≡ resource_refusal m x = ap (λ (test : Bool). unless test 11) (sym t) ∙ q in
    let some : 0 < resource_refusal m x = omega (arith, number) in record {
      number = number;
      room = λ z. absurd (omega arith);
      state = sym (skipped (resource_refusal m x) (sets c.args.state.now c.args.at (row_cells (row_of x))) c.args.state.now some);
    }

pub curve_of-requires : goal.curve_of-requires
curve_of-requires c =
    let b = c.args.block.now in
    let s = c.cell_at in
    (few c.args.month b s.result c.whole_at.result (came s.result s.type_inv ∙ s.ensures) c.whole_at.ensures c.in_ok-bid_outcome.ensures, part_room b c.requires.0)

pub returns : goal.returns
returns c =
    let b = c.args.block.now in
    let x = resource_in b in
    let m = c.args.month in
    let l = c.args.state.now in
    let s = c.cell_at in
    let n = c.whole_at in
    let d = c.in_ok-default in
    let start_is = came s.result s.type_inv ∙ s.ensures in
    let ok = c.in_ok-bid_outcome.ensures in
    let good = bid_good m b s.result n.result start_is n.ensures ok in
    let bid = raw_is b s.result n.result start_is n.ensures in
    let full = bid_full m b s.result n.result start_is n.ensures ok in
    let v = raw s.result n.result b in
    let q = number_is x m good d.default c.default_in.new.cells _ d.ensures.number d.ensures.ends c.default_in.ensures.cells v bid full in
    let t = sym c.lies_inside.ensures ∙ c.if-not-lies_inside.false in
    let number : 0 ≡ resource_refusal m x = ap (λ (test : Bool). unless test 11) (sym t) ∙ q in record {
      number = number;
      room = λ z. row_room x m good d.default c.default_in.new.cells _ d.ensures.number d.ensures.ends c.default_in.ensures.cells v bid full;
      state = row_put x m good d.default c.default_in.new.cells _ d.ensures.number d.ensures.ends c.default_in.ensures.cells v bid full l c.put_all.new.out c.put_all-2.new.out c.args.at
          (c.put_all.ensures ∙ ap (λ (k : List ℤ). sets l c.args.at k) c.curve_of.ensures) c.put_all-2.ensures
          ∙ sym (taken (resource_refusal m x) (sets l c.args.at (row_cells (row_of x))) l (sym number));
    }
