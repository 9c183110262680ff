-- `path::constraint::tally_of`: before resource r the sums are those of the resources before it. Assumes nothing.
use Rattle.std.proofs.Common.{◌≡◌, ℕ, ◌+◌, ◌-◌, ◌*◌, ◌^◌, ◌<◌, ◌≤◌, List, get_or, refl, sym, ap, ◌∙◌, true, arith, rules, pos, to_z, of_z, w64, Fits}
use Rattle.std.specs.Prelude.{ℤ, nat_abs}
use lib.Dec.{T}
use lib.Signed.{mag, non_neg}
use lib.IntN.{negsuc}
use Rattle.rules_number.proofs.OverLaws.{never}
use Rattle.rules_number.specs.Order.{in_range, nat_of}
use Rattle.rules_path.specs.Paths.{effectiveness}
use Rattle.rules_state.specs.Intervals.{outputs_in}
use Rattle.interval.specs.Over.{output_at}
use Rattle.interval.specs.declared.Output.{Output}
use Rattle.interval.proofs.OverLaws.{over_at}
use Rattle.path.specs.Tallies.{SoundOver}
use Rattle.path.proofs.TallyLaws.{added_start, added_none, added_known, added_unknown, added_past, tallied, Known, known, demand_room, supply_room, withholdable_room, prod_le, size_range, cast_fit, cast_is}
use Rattle.path.proofs.constraint.tally_of.Goals as goal
use Rattle.path.proofs.constraint.tally_of.Goals.{After-effectiveness-e, After-output_at-out, then-e-gt0+then-p-lt-MAX_PORTFOLIOS, then-e-gt0+else-p-lt-MAX_PORTFOLIOS, else-e-gt0}

-- an i64 that is cast
abbrev cast : ℤ → ℕ
cast x = nat_abs (to_z w64 (of_z w64 x))

-- what is not negative is its natural number
mag-is : (hi x : ℤ) → in_range (pos 0) hi x ≡ true → mag x ≡ nat_of x
unfolding in_range
mag-is hi (pos n) e = refl
mag-is hi (negsuc n) e = never e

-- the outputs of resource r as they are cast
module _ (sellers : List ℕ) (factors outputs : List ℤ) (n c : ℕ) (s : SoundOver factors outputs n c) (r : ℕ) (row : r < n) (o : Output) (o_is : o ≡ output_at outputs r) where
  k : Known factors (outputs_in outputs 1) (outputs_in outputs 2) (outputs_in outputs 3) sellers c r
  k = known factors (outputs_in outputs 1) (outputs_in outputs 2) (outputs_in outputs 3) sellers c n s r row

  available-at : o.available ≡ get_or (outputs_in outputs 2) r (pos 0)
  available-at = ap (λ (x : Output). x.available) o_is ∙ sym (over_at outputs 2 r (omega (arith, s.few)))

  floor-at : o.floor ≡ get_or (outputs_in outputs 3) r (pos 0)
  floor-at = ap (λ (x : Output). x.floor) o_is ∙ sym (over_at outputs 3 r (omega (arith, s.few)))

  dispatch-at : o.dispatch ≡ get_or (outputs_in outputs 1) r (pos 0)
  dispatch-at = ap (λ (x : Output). x.dispatch) o_is ∙ sym (over_at outputs 1 r (omega (arith, s.few)))

  available-in : in_range (pos 0) (pos 1000000) o.available ≡ true
  available-in = rw available-at (s.available_in r row)

  floor-in : in_range (pos 0) (get_or (outputs_in outputs 2) r (pos 0)) o.floor ≡ true
  floor-in = rw floor-at (s.floor_in_lem r row)

  dispatch-in : in_range (pos 0) (get_or (outputs_in outputs 2) r (pos 0)) o.dispatch ≡ true
  dispatch-in = rw dispatch-at (s.dispatch_in r row)

  available-small : mag o.available < 2 ^ 63
  available-small = omega (arith, mag-is (pos 1000000) o.available available-in, ap nat_of available-at, k.available_most)

  floor-small : mag o.floor < 2 ^ 63
  floor-small = omega (arith, mag-is _ o.floor floor-in, ap nat_of floor-at, k.floor_most, k.available_most)

  dispatch-small : mag o.dispatch < 2 ^ 63
  dispatch-small = omega (arith, mag-is _ o.dispatch dispatch-in, ap nat_of dispatch-at, k.dispatch_most, k.available_most)

  available-is : cast o.available ≡ nat_of (get_or (outputs_in outputs 2) r (pos 0))
  available-is = cast_is (pos 1000000) o.available available-small available-in ∙ ap nat_of available-at

  floor-is : cast o.floor ≡ nat_of (get_or (outputs_in outputs 3) r (pos 0))
  floor-is = cast_is (get_or (outputs_in outputs 2) r (pos 0)) o.floor floor-small floor-in ∙ ap nat_of floor-at

  dispatch-is : cast o.dispatch ≡ nat_of (get_or (outputs_in outputs 1) r (pos 0))
  dispatch-is = cast_is (get_or (outputs_in outputs 2) r (pos 0)) o.dispatch dispatch-small dispatch-in ∙ ap nat_of dispatch-at

  available-fit : T (non_neg (to_z w64 (of_z w64 o.available))) × Fits w64 (cast o.available)
  available-fit = cast_fit (pos 1000000) o.available available-small available-in

  floor-fit : T (non_neg (to_z w64 (of_z w64 o.floor))) × Fits w64 (cast o.floor)
  floor-fit = cast_fit (get_or (outputs_in outputs 2) r (pos 0)) o.floor floor-small floor-in

  dispatch-fit : T (non_neg (to_z w64 (of_z w64 o.dispatch))) × Fits w64 (cast o.dispatch)
  dispatch-fit = cast_fit (get_or (outputs_in outputs 2) r (pos 0)) o.dispatch dispatch-small dispatch-in

  -- e × dispatch, e × available and e × (available - floor)
  module _ (e : ℕ) (e-is : e ≡ effectiveness (get_or factors (r * 32 + c) (pos 0))) where
    most-size : cast o.available ≤ 1000000
    most-size = omega (arith, available-is, k.available_most)

    effect-size : e ≤ 1000000
    effect-size = omega (arith, e-is, k.effect_most)

    demand-size : e * cast o.dispatch ≤ 1000000000000
    demand-size = prod_le _ _ effect-size (omega (arith, dispatch-is, k.dispatch_most, k.available_most))

    supply-size : e * cast o.available ≤ 1000000000000
    supply-size = prod_le _ _ effect-size most-size

    own-size : e * (cast o.available - cast o.floor) ≤ 1000000000000
    own-size = prod_le _ _ effect-size (omega (arith, most-size))

effect-is : (c : After-effectiveness-e) → c.effectiveness-e.result ≡ effectiveness (get_or c.args.asked.now.factors.now (c.loop-r.r * 32 + c.args.c) (pos 0))
effect-is c = search rules

-- a turn, as far as the outputs are read
module _ (c : After-output_at-out) where
  row-in : c.loop-r.r < c.args.asked.now.resources
  row-in = omega (arith, c.loop-r-test.true, c.rows_in-rows.ensures.most)

  few : c.loop-r.r < 64
  few = let s = c.requires.0 in omega (arith, row-in, s.few)

  fit-most : T (non_neg (to_z w64 (of_z w64 c.output_at-out.result.available))) × Fits w64 (cast c.output_at-out.result.available)
  fit-most = available-fit c.args.sellers.now c.args.asked.now.factors.now c.args.asked.now.outputs.now c.args.asked.now.resources c.args.c c.requires.0 c.loop-r.r row-in c.output_at-out.result c.output_at-out.ensures

  fit-kept : T (non_neg (to_z w64 (of_z w64 c.output_at-out.result.floor))) × Fits w64 (cast c.output_at-out.result.floor)
  fit-kept = floor-fit c.args.sellers.now c.args.asked.now.factors.now c.args.asked.now.outputs.now c.args.asked.now.resources c.args.c c.requires.0 c.loop-r.r row-in c.output_at-out.result c.output_at-out.ensures

  fit-wanted : T (non_neg (to_z w64 (of_z w64 c.output_at-out.result.dispatch))) × Fits w64 (cast c.output_at-out.result.dispatch)
  fit-wanted = dispatch-fit c.args.sellers.now c.args.asked.now.factors.now c.args.asked.now.outputs.now c.args.asked.now.resources c.args.c c.requires.0 c.loop-r.r row-in c.output_at-out.result c.output_at-out.ensures

  module _ (e-is : c.effectiveness-e.result ≡ effectiveness (get_or c.args.asked.now.factors.now (c.loop-r.r * 32 + c.args.c) (pos 0))) where
    demand-few : c.effectiveness-e.result * cast c.output_at-out.result.dispatch ≤ 1000000000000
    demand-few = demand-size c.args.sellers.now c.args.asked.now.factors.now c.args.asked.now.outputs.now c.args.asked.now.resources c.args.c c.requires.0 c.loop-r.r row-in c.output_at-out.result c.output_at-out.ensures c.effectiveness-e.result e-is

    supply-few : c.effectiveness-e.result * cast c.output_at-out.result.available ≤ 1000000000000
    supply-few = supply-size c.args.sellers.now c.args.asked.now.factors.now c.args.asked.now.outputs.now c.args.asked.now.resources c.args.c c.requires.0 c.loop-r.r row-in c.output_at-out.result c.output_at-out.ensures c.effectiveness-e.result e-is

    own-few : c.effectiveness-e.result * (cast c.output_at-out.result.available - cast c.output_at-out.result.floor) ≤ 1000000000000
    own-few = own-size c.args.sellers.now c.args.asked.now.factors.now c.args.asked.now.outputs.now c.args.asked.now.resources c.args.c c.requires.0 c.loop-r.r row-in c.output_at-out.result c.output_at-out.ensures c.effectiveness-e.result e-is

  -- the sums so far
  room-demand : c.loop-r.demand ≤ c.loop-r.r * 1000000000000
  room-demand = demand_room c.args.asked.now.factors.now (outputs_in c.args.asked.now.outputs.now 1) (outputs_in c.args.asked.now.outputs.now 2) (outputs_in c.args.asked.now.outputs.now 3) c.args.sellers.now c.args.c c.args.asked.now.resources c.requires.0 c.loop-r.r _ _ _ (omega (arith, row-in)) c.loop-r.invariant

  room-supply : c.loop-r.supply ≤ c.loop-r.r * 1000000000000
  room-supply = supply_room c.args.asked.now.factors.now (outputs_in c.args.asked.now.outputs.now 1) (outputs_in c.args.asked.now.outputs.now 2) (outputs_in c.args.asked.now.outputs.now 3) c.args.sellers.now c.args.c c.args.asked.now.resources c.requires.0 c.loop-r.r _ _ _ (omega (arith, row-in)) c.loop-r.invariant

  room-own : (p : ℕ) → p < 16 → get_or c.loop-r.offers p 0 ≤ c.loop-r.r * 1000000000000
  room-own p h = withholdable_room c.args.asked.now.factors.now (outputs_in c.args.asked.now.outputs.now 1) (outputs_in c.args.asked.now.outputs.now 2) (outputs_in c.args.asked.now.outputs.now 3) c.args.sellers.now c.args.c c.args.asked.now.resources c.requires.0 c.loop-r.r _ _ _ p (omega (arith, row-in)) h c.loop-r.invariant

pub loop-r-init : goal.loop-r-init
loop-r-init c = rw c.requires.1 (added_start _ _ _ _ _ _)

pub effectiveness-e-requires : goal.effectiveness-e-requires
effectiveness-e-requires c =
    let h : nat_abs (get_or c.args.asked.now.factors.now (c.loop-r.r * 32 + c.args.c) (pos 0)) ≤ 1000000
    = size_range 999999 _ (c.requires.0.factor_in _ (omega (arith, c.loop-r-test.true, c.rows_in-rows.ensures.most))) in
    search rules

pub overflow_cast-most : goal.overflow_cast-most
overflow_cast-most c = fit-most (goal.at.overflow_cast-most c).After-output_at-out

pub overflow_cast-kept : goal.overflow_cast-kept
overflow_cast-kept c = fit-kept (goal.at.overflow_cast-kept c).After-output_at-out

pub overflow_cast-wanted : goal.overflow_cast-wanted
overflow_cast-wanted c = fit-wanted (goal.at.overflow_cast-wanted c).After-output_at-out

pub overflow_mul-demand : goal.overflow_mul-demand
overflow_mul-demand c = let p = goal.at.overflow_mul-demand c in omega (arith, demand-few p.After-output_at-out (effect-is p.After-effectiveness-e))

pub overflow_add-demand : goal.overflow_add-demand
overflow_add-demand c =
    let p = goal.at.overflow_add-demand c in
    omega (arith, demand-few p.After-output_at-out (effect-is p.After-effectiveness-e), room-demand p.After-output_at-out, few p.After-output_at-out)

pub overflow_mul-supply : goal.overflow_mul-supply
overflow_mul-supply c = let p = goal.at.overflow_mul-supply c in omega (arith, supply-few p.After-output_at-out (effect-is p.After-effectiveness-e))

pub overflow_add-supply : goal.overflow_add-supply
overflow_add-supply c =
    let p = goal.at.overflow_add-supply c in
    omega (arith, supply-few p.After-output_at-out (effect-is p.After-effectiveness-e), room-supply p.After-output_at-out, few p.After-output_at-out)

pub overflow_sub-offers : goal.overflow_sub-offers
overflow_sub-offers c =
    let o = (goal.at.overflow_sub-offers c).After-output_at-out in
    omega (
      arith,
      available-is c.args.sellers.now c.args.asked.now.factors.now c.args.asked.now.outputs.now c.args.asked.now.resources c.args.c c.requires.0 c.loop-r.r (row-in o) c.output_at-out.result c.output_at-out.ensures,
      floor-is c.args.sellers.now c.args.asked.now.factors.now c.args.asked.now.outputs.now c.args.asked.now.resources c.args.c c.requires.0 c.loop-r.r (row-in o) c.output_at-out.result c.output_at-out.ensures,
      (k c.args.sellers.now c.args.asked.now.factors.now c.args.asked.now.outputs.now c.args.asked.now.resources c.args.c c.requires.0 c.loop-r.r (row-in o) c.output_at-out.result c.output_at-out.ensures).floor_most,
    )

pub overflow_mul-offers : goal.overflow_mul-offers
overflow_mul-offers c = let p = goal.at.overflow_mul-offers c in omega (arith, own-few p.After-output_at-out (effect-is p.After-effectiveness-e))

pub overflow_add-offers : goal.overflow_add-offers
overflow_add-offers c =
    let p = goal.at.overflow_add-offers c in
    omega (arith, own-few p.After-output_at-out (effect-is p.After-effectiveness-e), room-own p.After-output_at-out _ c.if-p-lt-MAX_PORTFOLIOS.true, few p.After-output_at-out)

pub loop-r-preserved : goal.loop-r-preserved
loop-r-preserved c =
    let e = effect-is (goal.at.loop-r-preserved c).After-effectiveness-e in
    let f = c.args.asked.now.factors.now in
    let d = outputs_in c.args.asked.now.outputs.now 1 in
    let a = outputs_in c.args.asked.now.outputs.now 2 in
    let l = outputs_in c.args.asked.now.outputs.now 3 in
    let row : c.loop-r.r < c.args.asked.now.resources = omega (arith, c.loop-r-test.true, c.rows_in-rows.ensures.most) in
    elim c.if-e-gt0.branch [
      | then-e-gt0+then-p-lt-MAX_PORTFOLIOS w ↦
          added_known f d a l c.args.sellers.now c.args.c c.loop-r.r _ _ _ c.loop-r.invariant _ _ _ _ _ _ e
          (dispatch-is c.args.sellers.now f c.args.asked.now.outputs.now c.args.asked.now.resources c.args.c c.requires.0 c.loop-r.r row w.output_at-out.result w.output_at-out.ensures)
          (available-is c.args.sellers.now f c.args.asked.now.outputs.now c.args.asked.now.resources c.args.c c.requires.0 c.loop-r.r row w.output_at-out.result w.output_at-out.ensures)
          w.demand-is w.supply-is _
          (floor-is c.args.sellers.now f c.args.asked.now.outputs.now c.args.asked.now.resources c.args.c c.requires.0 c.loop-r.r row w.output_at-out.result w.output_at-out.ensures)
          (rw w.from-p.ensures at w.if-p-lt-MAX_PORTFOLIOS.true) (rw w.from-p.ensures at w.offers-is)
      | then-e-gt0+else-p-lt-MAX_PORTFOLIOS w ↦
          added_unknown f d a l c.args.sellers.now c.args.c c.loop-r.r _ _ _ c.loop-r.invariant _ _ _ _ _ _ e
          (dispatch-is c.args.sellers.now f c.args.asked.now.outputs.now c.args.asked.now.resources c.args.c c.requires.0 c.loop-r.r row w.output_at-out.result w.output_at-out.ensures)
          (available-is c.args.sellers.now f c.args.asked.now.outputs.now c.args.asked.now.resources c.args.c c.requires.0 c.loop-r.r row w.output_at-out.result w.output_at-out.ensures)
          w.demand-is w.supply-is (rw w.from-p.ensures at w.if-p-lt-MAX_PORTFOLIOS.false) w.offers-is
      | else-e-gt0 w ↦ rw (w.demand-is, w.supply-is, w.offers-is) (added_none f d a l c.args.sellers.now c.args.c c.loop-r.r _ _ _ c.loop-r.invariant (omega (arith, e, w.if-e-gt0.false)))
    ]

pub returns : goal.returns
returns c =
    let e = c.rows_in-rows.ensures in
    let done : c.loop-r.r ≡ c.rows_in-rows.result = omega arith in
    let o = c.args.asked.now.outputs.now in
    tallied _ _ _ _ _ _ _ _ _ _
    (added_past c.args.asked.now.factors.now (outputs_in o 1) (outputs_in o 2) (outputs_in o 3) c.args.sellers.now c.args.c c.loop-r.r c.args.asked.now.resources _ _ _ (rw done e.most) (rw done e.outside) c.loop-r.invariant)
