-- Laws of the parts of a block. Assumes nothing.
use Prim.Native.Nat.{ℕ, zero, suc, ◌+◌, ◌*◌, ◌-◌, ◌≤◌, ◌<◌}
use mathlib.Core.Path.{◌≡◌, refl, ap, subst, ◌∙◌}
use mathlib.Core.List.{List}
use native.Mathlib.Omega.{arith}
use borrow.Author.Tests.{leb-true}
use lib.Dec.{leb}
use lib.IntN.{ℤ, pos, negsuc}
use lib.ListN.{length, take, drop, length-drop, length-take}
use lib.Seq.{take_all, get_or-take, get_or-drop}
use Rattle.rules_number.specs.Order.{nat_of}
use Rattle.rules_number.proofs.ListedLaws.{listed_is}
use Rattle.rules_number.proofs.OverLaws.{both}
use Rattle.rules_curve.specs.Refusals.{outcome_number}
use Rattle.rules_curve.specs.Curves.{most_steps, most_bid_steps, lowest_bid, highest_bid, curve_of, blank_curve, unless_refused, curve_refusal, bid_refusal, default_refusal}
use Rattle.rules_curve.proofs.CheckLaws.{checks_good}
use Rattle.rules_curve.specs.declared.Curve.{Curve}
use Rattle.rules_curve.specs.declared.RawCurve.{RawCurve}
use Rattle.rules_cost.specs.Costs.{cost_refusal, cost_curve}
use Rattle.rules_cost.specs.declared.Costs.{Costs}
use Rattle.rules_opening.specs.Resources.{source_refusal, default_by}
use Rattle.rules_opening.specs.declared.Source.TheVariants.{Pack}
use Rattle.rules_library.specs.Slices.{cell_at, raw_bid, costs_in}
use Rattle.rules_state.specs.Layout.{block_room}
use Rattle.rules_state.specs.Openings.{block_of, source_of, raw_from, resource_in}
use Rattle.rules_state.specs.States.{curve_cells}
use Rattle.rules_state.specs.Takes.{if_accepted}
use Rattle.cost.specs.Cells.{ends_of}
use Rattle.cost.specs.declared.Ends.{Ends}
use Rattle.std.specs.Prelude.{Result}
use Rattle.std.specs.Result.{result_unwrap_or}
use Rattle.rules_curve.specs.declared.Refusal.{Refusal}

-- the part of a slice from an offset on
pub tail : (l : List ℤ) (n : ℕ) → take (length l - n) (drop n l) ≡ drop n l
tail l n = take_all (length l - n) (drop n l) (omega (arith, length-drop n l))

-- a block that lies within the slice is a part of it
pub block_is : (blocks : List ℤ) (r : ℕ) → block_room * r + block_room ≤ length blocks → take (block_room * r + block_room - block_room * r) (drop (block_room * r) blocks) ≡ block_of blocks r
unfolding block_of
block_is blocks r h =
    let n : block_room * r + block_room - block_room * r ≡ block_room = omega arith in
    let part = drop (block_room * r) blocks in
    ap (λ (i : ℕ). take i part) n
    ∙ listed_is (pos 0) (take block_room part) (λ k. cell_at blocks (block_room * r + k)) block_room (omega (arith, length-take block_room part, length-drop (block_room * r) blocks))
    (λ k l. get_or-take block_room part k (pos 0) l ∙ get_or-drop (block_room * r) blocks k (pos 0))

-- any number but 0 stands for a pack
pub pack_number : (number : ℤ) → (number ≡ pos 0 → ⊥) → source_of number ≡ Pack
pack_number (pos zero) h = absurd (h refl)
pack_number (pos (suc n)) h = refl
pack_number (negsuc n) h = refl

-- a curve that is taken has no more steps than it may
pub curve_few : (most : ℕ) (low top : ℤ) (c : RawCurve) → curve_refusal most low top c ≡ 0 → c.count ≤ most
curve_few most low top c e = leb-true c.count most (both (leb 1 c.count) (leb c.count most) (checks_good most low top c e).0).1

-- a refused one is blank
pub refused_blank : (n : ℕ) (c : Curve) → 0 < n → unless_refused n c ≡ blank_curve
refused_blank zero c h = absurd (omega arith)
refused_blank (suc n) c h = refl

-- what is made of a default curve with refusal n, or of none: its outcome, where it starts and ends, and its cells put over others
abbrev pub Made : ℕ → Curve → Result Ends Refusal → List ℤ → List ℤ → Type 0
Made n d ends cells before = (outcome_number ends ≡ n) × ((result_unwrap_or ends (ends_of blank_curve) ≡ ends_of (unless_refused n d)) × (cells ≡ if_accepted n (curve_cells d) before))

-- ---- the parts of its resource
module _ (b : List ℤ) where
  pub bid_in : raw_from b 1 ≡ (resource_in b).bid
  unfolding resource_in
  bid_in = refl

  pub bid_by_lem : {start : ℤ} {n : ℕ} {steps : List ℤ} → start ≡ cell_at b 1 → n ≡ nat_of (cell_at b 2) → steps ≡ drop 3 b → raw_bid start n steps ≡ (resource_in b).bid
  unfolding resource_in
  bid_by_lem e f g = rw (e, f, g)

  pub pack_by : {start : ℤ} {n : ℕ} {steps : List ℤ} → start ≡ cell_at b 56 → n ≡ nat_of (cell_at b 57) → steps ≡ drop 58 b → raw_bid start n steps ≡ (resource_in b).pack
  unfolding resource_in
  pack_by e f g = rw (e, f, g)

  pub costs_by_lem : {n : ℕ} {points charges : List ℤ} → n ≡ nat_of (cell_at b 26) → points ≡ drop 27 b → charges ≡ drop 49 b → costs_in n points charges ≡ (resource_in b).costs
  unfolding resource_in
  costs_by_lem e f g = rw (e, f, g)

  -- a bid that is taken has at most eleven steps
  pub bid_few : (month : ℕ) → bid_refusal month (resource_in b).bid ≡ 0 → nat_of (cell_at b 2) ≤ most_steps
  unfolding resource_in
  bid_few month e = omega (arith, curve_few most_bid_steps lowest_bid (highest_bid month) (raw_from b 1) e)

  -- its default curve, from its costs or from its pack
  module _ (ends : Result Ends Refusal) (cells before : List ℤ) where
    pub by_costs : (d : Costs) → cell_at b 25 ≡ pos 0 → d ≡ (resource_in b).costs → Made (cost_refusal d) (cost_curve d) ends cells before
        → Made (source_refusal (resource_in b).source (resource_in b)) (default_by (resource_in b).source (resource_in b)) ends cells before
    unfolding resource_in
    by_costs d e f m = rw e (subst (λ (y : Costs). Made (cost_refusal y) (cost_curve y) ends cells before) f m)

    pub by_pack : (d : RawCurve) → (cell_at b 25 ≡ pos 0 → ⊥) → d ≡ (resource_in b).pack → Made (default_refusal d) (curve_of d) ends cells before
        → Made (source_refusal (resource_in b).source (resource_in b)) (default_by (resource_in b).source (resource_in b)) ends cells before
    unfolding resource_in
    by_pack d e f m = rw (pack_number (cell_at b 25) e) (subst (λ (y : RawCurve). Made (default_refusal y) (curve_of y) ends cells before) f m)
