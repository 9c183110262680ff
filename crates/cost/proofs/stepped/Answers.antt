-- `cost::stepped`: each turn of the loop adds a step to what `Stepped` says. Assumes nothing.
use Rattle.std.proofs.Common.{ℕ, suc, ◌≡◌, ◌+◌, ◌-◌, ◌*◌, ◌/◌, ◌≤◌, ◌<◌, cond, List, length, ℤ, pos, neg_ℤ, ◌-ℤ◌, true, refl, sym, ap, ap₂, subst, ◌∙◌, arith, rules}
use lib.Dec.{leb, ltb, eqb}
use lib.ListN.{set, replicate}
use mir.Syntax.{w64}
use mir.Val.{to_z}
use mir.Facts.{to_z_pos}
use Rattle.rules_number.specs.Order.{max_z, nat_of}
use Rattle.rules_number.proofs.Kit.{rd}
use Rattle.rules_number.proofs.Meant.{Meant, fits, kept, bits, ◌⊖◌, held}
use Rattle.rules_number.proofs.OrderLaws.{max_least}
use Rattle.rules_curve.specs.Curves.{most_steps}
use Rattle.rules_cost.specs.Costs.{most_points, first_to, point_at, mw_at, heat_at, pmax, segment_count, mark, split_at, count_of_steps, segment_at, end_at, edge_at, width_at, incremental_rate, rate_at, with_adder, mw_in_range, heat_in_range, rate_in_range, points_good, mw_good, heat_good, prices_in_range, charges_in_range, cost_curve}
use Rattle.rules_cost.specs.declared.Point.{Point}
use Rattle.rules_cost.specs.declared.Costs.{Costs}
use Rattle.rules_cost.proofs.RangeLaws.{mw_size, few, mw_in, heat_in}
use Rattle.rules_cost.proofs.SplitLaws.{segment_among}
use Rattle.rules_cost.proofs.EdgeLaws.{eleven_suffice, some_step, wide_step, width_above}
use Rattle.rules_cost.proofs.CostLaws.{largest_in}
use Rattle.rules_library.specs.Slices.{cell_at, costs_in}
use Rattle.rules_state.specs.Layout.{curve_room}
use Rattle.rules_state.specs.States.{cell_of}
use Rattle.cost.specs.Cells.{charge_count, point_of, splits_at}
use Rattle.cost.specs.declared.Ends.{Ends}
use Rattle.cost.proofs.CellLaws.{cell_in}
use Rattle.cost.proofs.LiftLaws.{nat_size}
use Rattle.cost.proofs.NumberLaws.{costs_by, in_sight, mw_at_lem, heat_at_lem, next_mw, next_heat, split_by}
use Rattle.cost.proofs.StepLaws.{Stepped, before_steps, next_step, rate_fails, rates_good_lem, cells_are}
use Rattle.cost.proofs.StepLaws as law
use Rattle.cost.proofs.stepped.Goals as goal

-- ---- over plain values
end_by : (t s s' : ℕ) (k k' m m' : ℤ) → s ≡ s' → k ≡ k' → m ≡ m' → cond (eqb t s) k m ≡ cond (eqb t s') k' m'
end_by t s s' k k' m m' a b c = rw (a, b, c)

rate_by : {p p' e e' : ℤ} {x x' y y' : Point} → p ≡ p' → e ≡ e' → x ≡ x' → y ≡ y' → incremental_rate p e x y ≡ incremental_rate p' e' x' y'
rate_by a b c d = rw (a, b, c, d)

-- ---- what is known of the arguments
record Given (n : ℕ) (points charges : List ℤ) : Type 0 where
  room : (2 * most_points ≤ length points) × (charge_count ≤ length charges)
  points_hold : points_good (costs_in n points charges) ≡ true
  quantities_hold : mw_good (costs_in n points charges) ≡ true
  heats_hold : heat_good (costs_in n points charges) ≡ true
  prices_hold : prices_in_range (costs_in n points charges) ≡ true

-- a number of the points is read as it is
abbrev Read : List ℤ → ℕ → Type 0
Read l i = rd (cell_at l i) ≡ cell_at l i

-- what the calls before the loop answer: k, the segment that is split, and how many steps there are
record Before (c : Costs) (k : ℤ) (split count : ℕ) : Type 0 where
  k_is : rd k ≡ mark c
  split_is : split ≡ split_at c
  count_is : count ≡ count_of_steps c

module _ (n : ℕ) (points charges : List ℤ) (g : Given n points charges) where
  abbrev costs : Costs
  costs = costs_by n points charges

  sight : costs_in n points charges ≡ costs
  sight = in_sight n points charges

  points_are : points_good costs ≡ true
  points_are = rw (sight) at g.points_hold

  quantities_are : mw_good costs ≡ true
  quantities_are = rw (sight) at g.quantities_hold

  heats_are : heat_good costs ≡ true
  heats_are = rw (sight) at g.heats_hold

  prices_are : prices_in_range costs ≡ true
  prices_are = rw (sight) at g.prices_hold

  -- the count is 2 to 11
  count_in : (2 ≤ n) × (n ≤ most_points)
  count_in = few costs points_are

  -- PMax
  top_in : mw_in_range (pmax costs) ≡ true
  top_in = mw_in costs quantities_are (n - 1) (omega (arith, count_in))

  top_read : Read points (2 * (n - 1)) → rd (cell_at points (2 * (n - 1))) ≡ pmax costs
  top_read r = r ∙ mw_at_lem n points charges (n - 1) (omega (arith, count_in))

  mark_requires : Read points (2 * (n - 1)) → mw_in_range (rd (cell_at points (2 * (n - 1)))) ≡ true
  mark_requires r = subst (λ (z : ℤ). mw_in_range z ≡ true) (sym (top_read r)) top_in

  -- the first quantity
  first_read : Read points 0 → rd (cell_at points 0) ≡ mw_at costs 0
  first_read r = r ∙ mw_at_lem n points charges 0 (omega arith)

  mark_is : Read points (2 * (n - 1)) → (k : ℤ) → rd k ≡ k → k ≡ pos (4 * nat_of (rd (cell_at points (2 * (n - 1)))) / 5) → rd k ≡ mark costs
  unfolding mark
  mark_is a k r e = r ∙ e ∙ ap (λ (z : ℤ). pos (4 * nat_of z / 5)) (top_read a)

  split_to : (k : ℤ) (split : ℕ) → rd k ≡ mark costs → split ≡ first_to (splits_at points (rd k)) (n - 1) → split ≡ split_at costs
  split_to k split m e = e ∙ split_by n points charges (rd k) (n - 1) count_in.1 refl m

  count_to : (split count : ℕ) → split ≡ split_at costs → count ≡ cond (ltb split (n - 1)) (suc (n - 1)) (n - 1) → count ≡ count_of_steps costs
  unfolding count_of_steps
  count_to split count s e = e ∙ ap (λ (x : ℕ). cond (ltb x (segment_count costs)) (suc (segment_count costs)) (segment_count costs)) s

  before : Read points (2 * (n - 1)) → (k : ℤ) (split count : ℕ) → rd k ≡ k → k ≡ pos (4 * nat_of (rd (cell_at points (2 * (n - 1)))) / 5) → split ≡ first_to (splits_at points (rd k)) (n - 1)
      → count ≡ cond (ltb split (n - 1)) (suc (n - 1)) (n - 1) → Before costs k split count
  before a k split count r m s t =
      let i = mark_is a k r m in
      let j = split_to k split i s in
      record { k_is = i; split_is = j; count_is = count_to split count j t }

  -- the curve before its first step
  begins : Read points 0 → (k : ℤ) (split count : ℕ) → Before costs k split count
      → Stepped costs (rd (cell_at points 0)) (neg_ℤ (pos 100000)) (neg_ℤ (pos 1000000000)) (set (set (replicate curve_room (pos 0)) 0 (to_z w64 count)) 1 (rd (cell_at points 0))) 0
  begins a k split count b =
      let e : to_z w64 count ≡ cell_of (count_of_steps costs) =
      to_z_pos w64 {n = count} (omega (arith, b.count_is, eleven_suffice costs count_in.1)) ∙ ap pos (omega (arith, b.count_is, eleven_suffice costs count_in.1)) in
      let x = rd (cell_at points 0) in
      let f = first_read a ∙ sym (cell_in (mw_at costs 0) (mw_in costs quantities_are 0 (omega (arith, count_in)))) in
      subst (λ (l : List ℤ). Stepped costs x (neg_ℤ (pos 100000)) (neg_ℤ (pos 1000000000)) l 0) (sym (ap₂ (λ (x y : ℤ). set (set (replicate curve_room (pos 0)) 0 x) 1 y) e f)) (before_steps costs x (first_read a))

  -- ---- in the loop: the step's number and its segment
  module _ (k : ℤ) (split count : ℕ) (b : Before costs k split count) (t : ℕ) (lt : t < count) (i : ℕ) (here : i ≡ cond (leb t split) t (t - 1)) where
    more : t < count_of_steps costs
    more = subst (λ (n : ℕ). t < n) b.count_is lt

    segment_is : i ≡ segment_at costs t
    unfolding segment_at
    segment_is = here ∙ ap (λ (x : ℕ). cond (leb t x) t (t - 1)) b.split_is

    near : suc i < n
    near = subst (λ (i : ℕ). suc i < n) (sym segment_is) (segment_among costs quantities_are t more)

    -- a place of its two points
    placed_in : (2 * i + 3 < 2 * most_points) × (2 * most_points ≤ length points)
    placed_in = (omega (arith, near, count_in), g.room.0)

    -- the step stored has its place
    placed : t < most_steps
    placed = omega (arith, more, eleven_suffice costs count_in.1)

    from_mw : Read points (2 * i) → rd (cell_at points (2 * i)) ≡ mw_at costs i
    from_mw r = r ∙ mw_at_lem n points charges i (omega (arith, near, count_in))

    from_heat : Read points (2 * i + 1) → rd (cell_at points (2 * i + 1)) ≡ heat_at costs i
    from_heat r = r ∙ heat_at_lem n points charges i (omega (arith, near, count_in))

    to_mw : Read points (2 * i + 2) → rd (cell_at points (2 * i + 2)) ≡ mw_at costs (suc i)
    to_mw r = r ∙ next_mw n points charges i (omega (arith, near, count_in))

    to_heat : Read points (2 * i + 3) → rd (cell_at points (2 * i + 3)) ≡ heat_at costs (suc i)
    to_heat r = r ∙ next_heat n points charges i (omega (arith, near, count_in))

    heats_requires : Read points (2 * i + 1) → Read points (2 * i + 3) → (heat_in_range (rd (cell_at points (2 * i + 1))) ≡ true) × (heat_in_range (rd (cell_at points (2 * i + 3))) ≡ true)
    heats_requires r1 r3 =
        let warm : (z : ℤ) → Type 0 = λ z. heat_in_range z ≡ true in
        (subst warm (sym (from_heat r1)) (heat_in costs heats_are i (omega (arith, near))), subst warm (sym (to_heat r3)) (heat_in costs heats_are (suc i) near))

    -- its end
    module _ (r2 : Read points (2 * i + 2)) (e : ℤ) (e_read : rd e ≡ e) (e_by : e ≡ cond (eqb t split) (rd k) (rd (cell_at points (2 * i + 2)))) where
      end_is : e ≡ end_at costs t
      unfolding end_at
      end_is =
          e_by
          ∙ end_by t split (split_at costs) (rd k) (mark costs) (rd (cell_at points (2 * i + 2))) (mw_at costs (suc (segment_at costs t))) b.split_is b.k_is (to_mw r2 ∙ ap (λ (j : ℕ). mw_at costs (suc j)) segment_is)

      end_in : mw_in_range e ≡ true
      end_in = subst (λ (z : ℤ). mw_in_range z ≡ true) (sym end_is) (wide_step costs quantities_are t more).to_in

      quantities_requires : Read points (2 * i) → Read points (2 * (n - 1)) → (mw_in_range (rd (cell_at points (2 * i))) ≡ true) × ((mw_in_range (rd (cell_at points (2 * i + 2))) ≡ true) × ((mw_in_range (rd e) ≡ true) × (mw_in_range (rd (cell_at points (2 * (n - 1)))) ≡ true)))
      quantities_requires r0 rt =
          let good : (z : ℤ) → Type 0 = λ z. mw_in_range z ≡ true in (
            subst good (sym (from_mw r0)) (mw_in costs quantities_are i (omega (arith, near))),
            (
              subst good (sym (to_mw r2)) (mw_in costs quantities_are (suc i) near),
              (subst good (sym e_read) end_in, mark_requires rt),
            ),
          )

      -- R
      rate_is : Read points (2 * (n - 1)) → Read points (2 * i) → Read points (2 * i + 1) → Read points (2 * i + 3) → (r : ℤ) → r ≡ incremental_rate (rd (cell_at points (2 * (n - 1)))) (rd e) (point_of (rd (cell_at points (2 * i))) (rd (cell_at points (2 * i + 1)))) (point_of (rd (cell_at points (2 * i + 2))) (rd (cell_at points (2 * i + 3))))
          → r ≡ rate_at costs t
      unfolding rate_at
      rate_is rt r0 r1 r3 r h =
          h
          ∙ rate_by (top_read rt) (e_read ∙ end_is) (ap₂ point_of (from_mw r0) (from_heat r1)) (ap₂ point_of (to_mw r2) (to_heat r3))
          ∙ ap (λ (j : ℕ). incremental_rate (pmax costs) (end_at costs t) (point_at costs j) (point_at costs (suc j))) segment_is

      -- the width, from the edge's bits
      module _ (edge : ℕ) (reached : to_z w64 edge ≡ edge_at costs t) where
        edge_in : mw_in_range (to_z w64 edge) ≡ true
        edge_in = subst (λ (z : ℤ). mw_in_range z ≡ true) (sym reached) (wide_step costs quantities_are t more).from_in

        abbrev wide : Meant
        wide = held (mw_size e end_in) tt ⊖ bits edge (mw_size (to_z w64 edge) edge_in)

        width_is : nat_of (kept wide tt).code ≡ width_at costs t
        unfolding width_at
        width_is = ap nat_of ((kept wide tt).same ∙ ap₂ ◌-ℤ◌ end_is reached)

        width_requires : (0 < nat_of (kept wide tt).code) × (nat_of (kept wide tt).code ≤ 2000000)
        width_requires = (subst (λ (n : ℕ). 0 < n) (sym width_is) (width_above costs quantities_are t more), subst (λ (z : ℤ). nat_of z ≤ 2000000) (sym (kept wide tt).same) (nat_size wide.means wide.within))

by_parts : {s s' e e' : ℕ} → s ≡ s' → e ≡ e' → ◌≡◌ {A = Ends} (record { start = s; end = e }) (record { start = s'; end = e' })
by_parts a b = cc

pub overflow_sub-segments : goal.overflow_sub-segments
overflow_sub-segments c =
    let g : Given c.args.n c.args.points.now c.args.charges.now = record { room = c.requires.room; points_hold = c.requires.points; quantities_hold = c.requires.quantities; heats_hold = c.requires.heats; prices_hold = c.requires.prices } in
    omega (arith, count_in c.args.n c.args.points.now c.args.charges.now g, c.requires.room.0)

pub bounds-points-segments : goal.bounds-points-segments
bounds-points-segments c =
    let g : Given c.args.n c.args.points.now c.args.charges.now = record { room = c.requires.room; points_hold = c.requires.points; quantities_hold = c.requires.quantities; heats_hold = c.requires.heats; prices_hold = c.requires.prices } in
    omega (arith, count_in c.args.n c.args.points.now c.args.charges.now g, c.requires.room.0)

pub steps_of-count-requires : goal.steps_of-count-requires
steps_of-count-requires c =
    let g : Given c.args.n c.args.points.now c.args.charges.now = record { room = c.requires.room; points_hold = c.requires.points; quantities_hold = c.requires.quantities; heats_hold = c.requires.heats; prices_hold = c.requires.prices } in
    omega (arith, count_in c.args.n c.args.points.now c.args.charges.now g, c.requires.room.0)

pub overflow_mul-top : goal.overflow_mul-top
overflow_mul-top c =
    let g : Given c.args.n c.args.points.now c.args.charges.now = record { room = c.requires.room; points_hold = c.requires.points; quantities_hold = c.requires.quantities; heats_hold = c.requires.heats; prices_hold = c.requires.prices } in
    record { fits = omega (arith, count_in c.args.n c.args.points.now c.args.charges.now g) }

pub offset_bounds-points-segments : goal.offset_bounds-points-segments
offset_bounds-points-segments c =
    let g : Given c.args.n c.args.points.now c.args.charges.now = record { room = c.requires.room; points_hold = c.requires.points; quantities_hold = c.requires.quantities; heats_hold = c.requires.heats; prices_hold = c.requires.prices } in
    record { fits = omega (arith, count_in c.args.n c.args.points.now c.args.charges.now g) }

pub mark_of-k-requires : goal.mark_of-k-requires
mark_of-k-requires c =
    let g : Given c.args.n c.args.points.now c.args.charges.now = record { room = c.requires.room; points_hold = c.requires.points; quantities_hold = c.requires.quantities; heats_hold = c.requires.heats; prices_hold = c.requires.prices } in
    mark_requires c.args.n c.args.points.now c.args.charges.now g (search rules)

pub split_at-split-requires : goal.split_at-split-requires
split_at-split-requires c =
    let g : Given c.args.n c.args.points.now c.args.charges.now = record { room = c.requires.room; points_hold = c.requires.points; quantities_hold = c.requires.quantities; heats_hold = c.requires.heats; prices_hold = c.requires.prices } in
    (omega (arith, count_in c.args.n c.args.points.now c.args.charges.now g), c.requires.room.0)

pub overflow_cast-curve : goal.overflow_cast-curve
overflow_cast-curve c =
    let g : Given c.args.n c.args.points.now c.args.charges.now = record { room = c.requires.room; points_hold = c.requires.points; quantities_hold = c.requires.quantities; heats_hold = c.requires.heats; prices_hold = c.requires.prices } in
    let rt : Read c.args.points.now (2 * (c.args.n - 1)) = search rules in
    let b = before c.args.n c.args.points.now c.args.charges.now g rt c.mark_of-k.result c.split_at-split.result c.steps_of-count.result (search rules) c.mark_of-k.ensures c.split_at-split.ensures c.steps_of-count.ensures in
    record { sfits = omega (arith, b.count_is, eleven_suffice (costs c.args.n c.args.points.now c.args.charges.now g) (count_in c.args.n c.args.points.now c.args.charges.now g).1) }

pub loop-t-init : goal.loop-t-init
loop-t-init c =
    let g : Given c.args.n c.args.points.now c.args.charges.now = record { room = c.requires.room; points_hold = c.requires.points; quantities_hold = c.requires.quantities; heats_hold = c.requires.heats; prices_hold = c.requires.prices } in
    let rt : Read c.args.points.now (2 * (c.args.n - 1)) = search rules in
    let b = before c.args.n c.args.points.now c.args.charges.now g rt c.mark_of-k.result c.split_at-split.result c.steps_of-count.result (search rules) c.mark_of-k.ensures c.split_at-split.ensures c.steps_of-count.ensures in
    begins c.args.n c.args.points.now c.args.charges.now g (search rules) c.mark_of-k.result c.split_at-split.result c.steps_of-count.result b

pub bounds-points-i : goal.bounds-points-i
bounds-points-i c =
    let g : Given c.args.n c.args.points.now c.args.charges.now = record { room = c.requires.room; points_hold = c.requires.points; quantities_hold = c.requires.quantities; heats_hold = c.requires.heats; prices_hold = c.requires.prices } in
    let rt : Read c.args.points.now (2 * (c.args.n - 1)) = search rules in
    let b = before c.args.n c.args.points.now c.args.charges.now g rt c.mark_of-k.result c.split_at-split.result c.steps_of-count.result (search rules) c.mark_of-k.ensures c.split_at-split.ensures c.steps_of-count.ensures in
    omega (arith, placed_in c.args.n c.args.points.now c.args.charges.now g c.mark_of-k.result c.split_at-split.result c.steps_of-count.result b c.loop-t.t c.loop-t-test.true c.segment_of-i.result c.segment_of-i.ensures)

pub bounds-points-i-in-loop-t : goal.bounds-points-i-in-loop-t
bounds-points-i-in-loop-t c =
    let g : Given c.args.n c.args.points.now c.args.charges.now = record { room = c.requires.room; points_hold = c.requires.points; quantities_hold = c.requires.quantities; heats_hold = c.requires.heats; prices_hold = c.requires.prices } in
    let rt : Read c.args.points.now (2 * (c.args.n - 1)) = search rules in
    let b = before c.args.n c.args.points.now c.args.charges.now g rt c.mark_of-k.result c.split_at-split.result c.steps_of-count.result (search rules) c.mark_of-k.ensures c.split_at-split.ensures c.steps_of-count.ensures in
    omega (arith, placed_in c.args.n c.args.points.now c.args.charges.now g c.mark_of-k.result c.split_at-split.result c.steps_of-count.result b c.loop-t.t c.loop-t-test.true c.segment_of-i.result c.segment_of-i.ensures)

pub bounds-points-i-in-loop-t-2 : goal.bounds-points-i-in-loop-t-2
bounds-points-i-in-loop-t-2 c =
    let g : Given c.args.n c.args.points.now c.args.charges.now = record { room = c.requires.room; points_hold = c.requires.points; quantities_hold = c.requires.quantities; heats_hold = c.requires.heats; prices_hold = c.requires.prices } in
    let rt : Read c.args.points.now (2 * (c.args.n - 1)) = search rules in
    let b = before c.args.n c.args.points.now c.args.charges.now g rt c.mark_of-k.result c.split_at-split.result c.steps_of-count.result (search rules) c.mark_of-k.ensures c.split_at-split.ensures c.steps_of-count.ensures in
    omega (arith, placed_in c.args.n c.args.points.now c.args.charges.now g c.mark_of-k.result c.split_at-split.result c.steps_of-count.result b c.loop-t.t c.loop-t-test.true c.segment_of-i.result c.segment_of-i.ensures)

pub bounds-points-i-in-loop-t-3 : goal.bounds-points-i-in-loop-t-3
bounds-points-i-in-loop-t-3 c =
    let g : Given c.args.n c.args.points.now c.args.charges.now = record { room = c.requires.room; points_hold = c.requires.points; quantities_hold = c.requires.quantities; heats_hold = c.requires.heats; prices_hold = c.requires.prices } in
    let rt : Read c.args.points.now (2 * (c.args.n - 1)) = search rules in
    let b = before c.args.n c.args.points.now c.args.charges.now g rt c.mark_of-k.result c.split_at-split.result c.steps_of-count.result (search rules) c.mark_of-k.ensures c.split_at-split.ensures c.steps_of-count.ensures in
    omega (arith, placed_in c.args.n c.args.points.now c.args.charges.now g c.mark_of-k.result c.split_at-split.result c.steps_of-count.result b c.loop-t.t c.loop-t-test.true c.segment_of-i.result c.segment_of-i.ensures)

pub bounds-points-i-in-loop-t-4 : goal.bounds-points-i-in-loop-t-4
bounds-points-i-in-loop-t-4 c =
    let g : Given c.args.n c.args.points.now c.args.charges.now = record { room = c.requires.room; points_hold = c.requires.points; quantities_hold = c.requires.quantities; heats_hold = c.requires.heats; prices_hold = c.requires.prices } in
    let rt : Read c.args.points.now (2 * (c.args.n - 1)) = search rules in
    let b = before c.args.n c.args.points.now c.args.charges.now g rt c.mark_of-k.result c.split_at-split.result c.steps_of-count.result (search rules) c.mark_of-k.ensures c.split_at-split.ensures c.steps_of-count.ensures in
    omega (arith, placed_in c.args.n c.args.points.now c.args.charges.now g c.mark_of-k.result c.split_at-split.result c.steps_of-count.result b c.loop-t.t c.loop-t-test.true c.segment_of-i.result c.segment_of-i.ensures)

pub overflow_mul-i : goal.overflow_mul-i
overflow_mul-i c =
    let g : Given c.args.n c.args.points.now c.args.charges.now = record { room = c.requires.room; points_hold = c.requires.points; quantities_hold = c.requires.quantities; heats_hold = c.requires.heats; prices_hold = c.requires.prices } in
    let rt : Read c.args.points.now (2 * (c.args.n - 1)) = search rules in
    let b = before c.args.n c.args.points.now c.args.charges.now g rt c.mark_of-k.result c.split_at-split.result c.steps_of-count.result (search rules) c.mark_of-k.ensures c.split_at-split.ensures c.steps_of-count.ensures in
    record { fits = omega (arith, placed_in c.args.n c.args.points.now c.args.charges.now g c.mark_of-k.result c.split_at-split.result c.steps_of-count.result b c.loop-t.t c.loop-t-test.true c.segment_of-i.result c.segment_of-i.ensures) }

pub overflow_add-i : goal.overflow_add-i
overflow_add-i c =
    let g : Given c.args.n c.args.points.now c.args.charges.now = record { room = c.requires.room; points_hold = c.requires.points; quantities_hold = c.requires.quantities; heats_hold = c.requires.heats; prices_hold = c.requires.prices } in
    let rt : Read c.args.points.now (2 * (c.args.n - 1)) = search rules in
    let b = before c.args.n c.args.points.now c.args.charges.now g rt c.mark_of-k.result c.split_at-split.result c.steps_of-count.result (search rules) c.mark_of-k.ensures c.split_at-split.ensures c.steps_of-count.ensures in
    record { fits = omega (arith, placed_in c.args.n c.args.points.now c.args.charges.now g c.mark_of-k.result c.split_at-split.result c.steps_of-count.result b c.loop-t.t c.loop-t-test.true c.segment_of-i.result c.segment_of-i.ensures) }

pub offset_bounds-points-i : goal.offset_bounds-points-i
offset_bounds-points-i c =
    let g : Given c.args.n c.args.points.now c.args.charges.now = record { room = c.requires.room; points_hold = c.requires.points; quantities_hold = c.requires.quantities; heats_hold = c.requires.heats; prices_hold = c.requires.prices } in
    let rt : Read c.args.points.now (2 * (c.args.n - 1)) = search rules in
    let b = before c.args.n c.args.points.now c.args.charges.now g rt c.mark_of-k.result c.split_at-split.result c.steps_of-count.result (search rules) c.mark_of-k.ensures c.split_at-split.ensures c.steps_of-count.ensures in
    record { fits = omega (arith, placed_in c.args.n c.args.points.now c.args.charges.now g c.mark_of-k.result c.split_at-split.result c.steps_of-count.result b c.loop-t.t c.loop-t-test.true c.segment_of-i.result c.segment_of-i.ensures) }

pub overflow_mul-i-in-loop-t : goal.overflow_mul-i-in-loop-t
overflow_mul-i-in-loop-t c =
    let g : Given c.args.n c.args.points.now c.args.charges.now = record { room = c.requires.room; points_hold = c.requires.points; quantities_hold = c.requires.quantities; heats_hold = c.requires.heats; prices_hold = c.requires.prices } in
    let rt : Read c.args.points.now (2 * (c.args.n - 1)) = search rules in
    let b = before c.args.n c.args.points.now c.args.charges.now g rt c.mark_of-k.result c.split_at-split.result c.steps_of-count.result (search rules) c.mark_of-k.ensures c.split_at-split.ensures c.steps_of-count.ensures in
    record { fits = omega (arith, placed_in c.args.n c.args.points.now c.args.charges.now g c.mark_of-k.result c.split_at-split.result c.steps_of-count.result b c.loop-t.t c.loop-t-test.true c.segment_of-i.result c.segment_of-i.ensures) }

pub offset_bounds-points-i-in-loop-t : goal.offset_bounds-points-i-in-loop-t
offset_bounds-points-i-in-loop-t c =
    let g : Given c.args.n c.args.points.now c.args.charges.now = record { room = c.requires.room; points_hold = c.requires.points; quantities_hold = c.requires.quantities; heats_hold = c.requires.heats; prices_hold = c.requires.prices } in
    let rt : Read c.args.points.now (2 * (c.args.n - 1)) = search rules in
    let b = before c.args.n c.args.points.now c.args.charges.now g rt c.mark_of-k.result c.split_at-split.result c.steps_of-count.result (search rules) c.mark_of-k.ensures c.split_at-split.ensures c.steps_of-count.ensures in
    record { fits = omega (arith, placed_in c.args.n c.args.points.now c.args.charges.now g c.mark_of-k.result c.split_at-split.result c.steps_of-count.result b c.loop-t.t c.loop-t-test.true c.segment_of-i.result c.segment_of-i.ensures) }

pub overflow_mul-i-in-loop-t-2 : goal.overflow_mul-i-in-loop-t-2
overflow_mul-i-in-loop-t-2 c =
    let g : Given c.args.n c.args.points.now c.args.charges.now = record { room = c.requires.room; points_hold = c.requires.points; quantities_hold = c.requires.quantities; heats_hold = c.requires.heats; prices_hold = c.requires.prices } in
    let rt : Read c.args.points.now (2 * (c.args.n - 1)) = search rules in
    let b = before c.args.n c.args.points.now c.args.charges.now g rt c.mark_of-k.result c.split_at-split.result c.steps_of-count.result (search rules) c.mark_of-k.ensures c.split_at-split.ensures c.steps_of-count.ensures in
    record { fits = omega (arith, placed_in c.args.n c.args.points.now c.args.charges.now g c.mark_of-k.result c.split_at-split.result c.steps_of-count.result b c.loop-t.t c.loop-t-test.true c.segment_of-i.result c.segment_of-i.ensures) }

pub overflow_add-i-in-loop-t : goal.overflow_add-i-in-loop-t
overflow_add-i-in-loop-t c =
    let g : Given c.args.n c.args.points.now c.args.charges.now = record { room = c.requires.room; points_hold = c.requires.points; quantities_hold = c.requires.quantities; heats_hold = c.requires.heats; prices_hold = c.requires.prices } in
    let rt : Read c.args.points.now (2 * (c.args.n - 1)) = search rules in
    let b = before c.args.n c.args.points.now c.args.charges.now g rt c.mark_of-k.result c.split_at-split.result c.steps_of-count.result (search rules) c.mark_of-k.ensures c.split_at-split.ensures c.steps_of-count.ensures in
    record { fits = omega (arith, placed_in c.args.n c.args.points.now c.args.charges.now g c.mark_of-k.result c.split_at-split.result c.steps_of-count.result b c.loop-t.t c.loop-t-test.true c.segment_of-i.result c.segment_of-i.ensures) }

pub offset_bounds-points-i-in-loop-t-2 : goal.offset_bounds-points-i-in-loop-t-2
offset_bounds-points-i-in-loop-t-2 c =
    let g : Given c.args.n c.args.points.now c.args.charges.now = record { room = c.requires.room; points_hold = c.requires.points; quantities_hold = c.requires.quantities; heats_hold = c.requires.heats; prices_hold = c.requires.prices } in
    let rt : Read c.args.points.now (2 * (c.args.n - 1)) = search rules in
    let b = before c.args.n c.args.points.now c.args.charges.now g rt c.mark_of-k.result c.split_at-split.result c.steps_of-count.result (search rules) c.mark_of-k.ensures c.split_at-split.ensures c.steps_of-count.ensures in
    record { fits = omega (arith, placed_in c.args.n c.args.points.now c.args.charges.now g c.mark_of-k.result c.split_at-split.result c.steps_of-count.result b c.loop-t.t c.loop-t-test.true c.segment_of-i.result c.segment_of-i.ensures) }

pub overflow_mul-i-in-loop-t-3 : goal.overflow_mul-i-in-loop-t-3
overflow_mul-i-in-loop-t-3 c =
    let g : Given c.args.n c.args.points.now c.args.charges.now = record { room = c.requires.room; points_hold = c.requires.points; quantities_hold = c.requires.quantities; heats_hold = c.requires.heats; prices_hold = c.requires.prices } in
    let rt : Read c.args.points.now (2 * (c.args.n - 1)) = search rules in
    let b = before c.args.n c.args.points.now c.args.charges.now g rt c.mark_of-k.result c.split_at-split.result c.steps_of-count.result (search rules) c.mark_of-k.ensures c.split_at-split.ensures c.steps_of-count.ensures in
    record { fits = omega (arith, placed_in c.args.n c.args.points.now c.args.charges.now g c.mark_of-k.result c.split_at-split.result c.steps_of-count.result b c.loop-t.t c.loop-t-test.true c.segment_of-i.result c.segment_of-i.ensures) }

pub overflow_add-i-in-loop-t-2 : goal.overflow_add-i-in-loop-t-2
overflow_add-i-in-loop-t-2 c =
    let g : Given c.args.n c.args.points.now c.args.charges.now = record { room = c.requires.room; points_hold = c.requires.points; quantities_hold = c.requires.quantities; heats_hold = c.requires.heats; prices_hold = c.requires.prices } in
    let rt : Read c.args.points.now (2 * (c.args.n - 1)) = search rules in
    let b = before c.args.n c.args.points.now c.args.charges.now g rt c.mark_of-k.result c.split_at-split.result c.steps_of-count.result (search rules) c.mark_of-k.ensures c.split_at-split.ensures c.steps_of-count.ensures in
    record { fits = omega (arith, placed_in c.args.n c.args.points.now c.args.charges.now g c.mark_of-k.result c.split_at-split.result c.steps_of-count.result b c.loop-t.t c.loop-t-test.true c.segment_of-i.result c.segment_of-i.ensures) }

pub offset_bounds-points-i-in-loop-t-3 : goal.offset_bounds-points-i-in-loop-t-3
offset_bounds-points-i-in-loop-t-3 c =
    let g : Given c.args.n c.args.points.now c.args.charges.now = record { room = c.requires.room; points_hold = c.requires.points; quantities_hold = c.requires.quantities; heats_hold = c.requires.heats; prices_hold = c.requires.prices } in
    let rt : Read c.args.points.now (2 * (c.args.n - 1)) = search rules in
    let b = before c.args.n c.args.points.now c.args.charges.now g rt c.mark_of-k.result c.split_at-split.result c.steps_of-count.result (search rules) c.mark_of-k.ensures c.split_at-split.ensures c.steps_of-count.ensures in
    record { fits = omega (arith, placed_in c.args.n c.args.points.now c.args.charges.now g c.mark_of-k.result c.split_at-split.result c.steps_of-count.result b c.loop-t.t c.loop-t-test.true c.segment_of-i.result c.segment_of-i.ensures) }

pub overflow_mul-i-in-loop-t-4 : goal.overflow_mul-i-in-loop-t-4
overflow_mul-i-in-loop-t-4 c =
    let g : Given c.args.n c.args.points.now c.args.charges.now = record { room = c.requires.room; points_hold = c.requires.points; quantities_hold = c.requires.quantities; heats_hold = c.requires.heats; prices_hold = c.requires.prices } in
    let rt : Read c.args.points.now (2 * (c.args.n - 1)) = search rules in
    let b = before c.args.n c.args.points.now c.args.charges.now g rt c.mark_of-k.result c.split_at-split.result c.steps_of-count.result (search rules) c.mark_of-k.ensures c.split_at-split.ensures c.steps_of-count.ensures in
    record { fits = omega (arith, placed_in c.args.n c.args.points.now c.args.charges.now g c.mark_of-k.result c.split_at-split.result c.steps_of-count.result b c.loop-t.t c.loop-t-test.true c.segment_of-i.result c.segment_of-i.ensures) }

pub overflow_add-i-in-loop-t-3 : goal.overflow_add-i-in-loop-t-3
overflow_add-i-in-loop-t-3 c =
    let g : Given c.args.n c.args.points.now c.args.charges.now = record { room = c.requires.room; points_hold = c.requires.points; quantities_hold = c.requires.quantities; heats_hold = c.requires.heats; prices_hold = c.requires.prices } in
    let rt : Read c.args.points.now (2 * (c.args.n - 1)) = search rules in
    let b = before c.args.n c.args.points.now c.args.charges.now g rt c.mark_of-k.result c.split_at-split.result c.steps_of-count.result (search rules) c.mark_of-k.ensures c.split_at-split.ensures c.steps_of-count.ensures in
    record { fits = omega (arith, placed_in c.args.n c.args.points.now c.args.charges.now g c.mark_of-k.result c.split_at-split.result c.steps_of-count.result b c.loop-t.t c.loop-t-test.true c.segment_of-i.result c.segment_of-i.ensures) }

pub offset_bounds-points-i-in-loop-t-4 : goal.offset_bounds-points-i-in-loop-t-4
offset_bounds-points-i-in-loop-t-4 c =
    let g : Given c.args.n c.args.points.now c.args.charges.now = record { room = c.requires.room; points_hold = c.requires.points; quantities_hold = c.requires.quantities; heats_hold = c.requires.heats; prices_hold = c.requires.prices } in
    let rt : Read c.args.points.now (2 * (c.args.n - 1)) = search rules in
    let b = before c.args.n c.args.points.now c.args.charges.now g rt c.mark_of-k.result c.split_at-split.result c.steps_of-count.result (search rules) c.mark_of-k.ensures c.split_at-split.ensures c.steps_of-count.ensures in
    record { fits = omega (arith, placed_in c.args.n c.args.points.now c.args.charges.now g c.mark_of-k.result c.split_at-split.result c.steps_of-count.result b c.loop-t.t c.loop-t-test.true c.segment_of-i.result c.segment_of-i.ensures) }

pub incremental_rate-rate-requires-clause-quantities : goal.incremental_rate-rate-requires-clause-quantities
incremental_rate-rate-requires-clause-quantities c =
    let g : Given c.args.n c.args.points.now c.args.charges.now = record { room = c.requires.room; points_hold = c.requires.points; quantities_hold = c.requires.quantities; heats_hold = c.requires.heats; prices_hold = c.requires.prices } in
    let rt : Read c.args.points.now (2 * (c.args.n - 1)) = search rules in
    let b = before c.args.n c.args.points.now c.args.charges.now g rt c.mark_of-k.result c.split_at-split.result c.steps_of-count.result (search rules) c.mark_of-k.ensures c.split_at-split.ensures c.steps_of-count.ensures in
    let r2 : Read c.args.points.now (2 * c.segment_of-i.result + 2) = search rules in
    let q : rd c.end_of-end.result ≡ c.end_of-end.result = search rules in
    let r0 : Read c.args.points.now (2 * c.segment_of-i.result) = search rules in
    quantities_requires c.args.n c.args.points.now c.args.charges.now g c.mark_of-k.result c.split_at-split.result c.steps_of-count.result b c.loop-t.t c.loop-t-test.true c.segment_of-i.result c.segment_of-i.ensures r2 c.end_of-end.result q c.end_of-end.ensures r0 rt

pub incremental_rate-rate-requires-clause-heats : goal.incremental_rate-rate-requires-clause-heats
incremental_rate-rate-requires-clause-heats c =
    let g : Given c.args.n c.args.points.now c.args.charges.now = record { room = c.requires.room; points_hold = c.requires.points; quantities_hold = c.requires.quantities; heats_hold = c.requires.heats; prices_hold = c.requires.prices } in
    let rt : Read c.args.points.now (2 * (c.args.n - 1)) = search rules in
    let b = before c.args.n c.args.points.now c.args.charges.now g rt c.mark_of-k.result c.split_at-split.result c.steps_of-count.result (search rules) c.mark_of-k.ensures c.split_at-split.ensures c.steps_of-count.ensures in
    heats_requires c.args.n c.args.points.now c.args.charges.now g c.mark_of-k.result c.split_at-split.result c.steps_of-count.result b c.loop-t.t c.loop-t-test.true c.segment_of-i.result c.segment_of-i.ensures (search rules) (search rules)

pub returns-then-not-within-clause-number : goal.returns-then-not-within-clause-number
returns-then-not-within-clause-number c =
    let g : Given c.args.n c.args.points.now c.args.charges.now = record { room = c.requires.room; points_hold = c.requires.points; quantities_hold = c.requires.quantities; heats_hold = c.requires.heats; prices_hold = c.requires.prices } in
    let rt : Read c.args.points.now (2 * (c.args.n - 1)) = search rules in
    let b = before c.args.n c.args.points.now c.args.charges.now g rt c.mark_of-k.result c.split_at-split.result c.steps_of-count.result (search rules) c.mark_of-k.ensures c.split_at-split.ensures c.steps_of-count.ensures in
    let r2 : Read c.args.points.now (2 * c.segment_of-i.result + 2) = search rules in
    let q : rd c.end_of-end.result ≡ c.end_of-end.result = search rules in
    let rr : rd c.incremental_rate-rate.result ≡ c.incremental_rate-rate.result = search rules in
    let r0 : Read c.args.points.now (2 * c.segment_of-i.result) = search rules in
    let r1 : Read c.args.points.now (2 * c.segment_of-i.result + 1) = search rules in
    let r3 : Read c.args.points.now (2 * c.segment_of-i.result + 3) = search rules in
    let ri = rate_is c.args.n c.args.points.now c.args.charges.now g c.mark_of-k.result c.split_at-split.result c.steps_of-count.result b c.loop-t.t c.loop-t-test.true c.segment_of-i.result c.segment_of-i.ensures r2 c.end_of-end.result q c.end_of-end.ensures rt r0 r1 r3 c.incremental_rate-rate.result c.incremental_rate-rate.ensures in
    let out = sym (ap rate_in_range ri) ∙ ap rate_in_range (sym rr) ∙ sym c.within.ensures ∙ c.if-not-within.true in
    let bad = rate_fails (costs c.args.n c.args.points.now c.args.charges.now g) (points_are c.args.n c.args.points.now c.args.charges.now g) (quantities_are c.args.n c.args.points.now c.args.charges.now g) (prices_are c.args.n c.args.points.now c.args.charges.now g) c.loop-t.t c.loop-t.invariant (more c.args.n c.args.points.now c.args.charges.now g c.mark_of-k.result c.split_at-split.result c.steps_of-count.result b c.loop-t.t c.loop-t-test.true c.segment_of-i.result c.segment_of-i.ensures) out in
    rw (sight c.args.n c.args.points.now c.args.charges.now g, bad) refl

pub returns-then-not-within-clause-ends : goal.returns-then-not-within-clause-ends
returns-then-not-within-clause-ends c =
    let g : Given c.args.n c.args.points.now c.args.charges.now = record { room = c.requires.room; points_hold = c.requires.points; quantities_hold = c.requires.quantities; heats_hold = c.requires.heats; prices_hold = c.requires.prices } in
    let rt : Read c.args.points.now (2 * (c.args.n - 1)) = search rules in
    let b = before c.args.n c.args.points.now c.args.charges.now g rt c.mark_of-k.result c.split_at-split.result c.steps_of-count.result (search rules) c.mark_of-k.ensures c.split_at-split.ensures c.steps_of-count.ensures in
    let r2 : Read c.args.points.now (2 * c.segment_of-i.result + 2) = search rules in
    let q : rd c.end_of-end.result ≡ c.end_of-end.result = search rules in
    let rr : rd c.incremental_rate-rate.result ≡ c.incremental_rate-rate.result = search rules in
    let r0 : Read c.args.points.now (2 * c.segment_of-i.result) = search rules in
    let r1 : Read c.args.points.now (2 * c.segment_of-i.result + 1) = search rules in
    let r3 : Read c.args.points.now (2 * c.segment_of-i.result + 3) = search rules in
    let ri = rate_is c.args.n c.args.points.now c.args.charges.now g c.mark_of-k.result c.split_at-split.result c.steps_of-count.result b c.loop-t.t c.loop-t-test.true c.segment_of-i.result c.segment_of-i.ensures r2 c.end_of-end.result q c.end_of-end.ensures rt r0 r1 r3 c.incremental_rate-rate.result c.incremental_rate-rate.ensures in
    let out = sym (ap rate_in_range ri) ∙ ap rate_in_range (sym rr) ∙ sym c.within.ensures ∙ c.if-not-within.true in
    let bad = rate_fails (costs c.args.n c.args.points.now c.args.charges.now g) (points_are c.args.n c.args.points.now c.args.charges.now g) (quantities_are c.args.n c.args.points.now c.args.charges.now g) (prices_are c.args.n c.args.points.now c.args.charges.now g) c.loop-t.t c.loop-t.invariant (more c.args.n c.args.points.now c.args.charges.now g c.mark_of-k.result c.split_at-split.result c.steps_of-count.result b c.loop-t.t c.loop-t-test.true c.segment_of-i.result c.segment_of-i.ensures) out in
    rw (sight c.args.n c.args.points.now c.args.charges.now g, bad) refl

pub returns-then-not-within-clause-cells : goal.returns-then-not-within-clause-cells
returns-then-not-within-clause-cells c =
    let g : Given c.args.n c.args.points.now c.args.charges.now = record { room = c.requires.room; points_hold = c.requires.points; quantities_hold = c.requires.quantities; heats_hold = c.requires.heats; prices_hold = c.requires.prices } in
    let rt : Read c.args.points.now (2 * (c.args.n - 1)) = search rules in
    let b = before c.args.n c.args.points.now c.args.charges.now g rt c.mark_of-k.result c.split_at-split.result c.steps_of-count.result (search rules) c.mark_of-k.ensures c.split_at-split.ensures c.steps_of-count.ensures in
    let r2 : Read c.args.points.now (2 * c.segment_of-i.result + 2) = search rules in
    let q : rd c.end_of-end.result ≡ c.end_of-end.result = search rules in
    let rr : rd c.incremental_rate-rate.result ≡ c.incremental_rate-rate.result = search rules in
    let r0 : Read c.args.points.now (2 * c.segment_of-i.result) = search rules in
    let r1 : Read c.args.points.now (2 * c.segment_of-i.result + 1) = search rules in
    let r3 : Read c.args.points.now (2 * c.segment_of-i.result + 3) = search rules in
    let ri = rate_is c.args.n c.args.points.now c.args.charges.now g c.mark_of-k.result c.split_at-split.result c.steps_of-count.result b c.loop-t.t c.loop-t-test.true c.segment_of-i.result c.segment_of-i.ensures r2 c.end_of-end.result q c.end_of-end.ensures rt r0 r1 r3 c.incremental_rate-rate.result c.incremental_rate-rate.ensures in
    let out = sym (ap rate_in_range ri) ∙ ap rate_in_range (sym rr) ∙ sym c.within.ensures ∙ c.if-not-within.true in
    let bad = rate_fails (costs c.args.n c.args.points.now c.args.charges.now g) (points_are c.args.n c.args.points.now c.args.charges.now g) (quantities_are c.args.n c.args.points.now c.args.charges.now g) (prices_are c.args.n c.args.points.now c.args.charges.now g) c.loop-t.t c.loop-t.invariant (more c.args.n c.args.points.now c.args.charges.now g c.mark_of-k.result c.split_at-split.result c.steps_of-count.result b c.loop-t.t c.loop-t-test.true c.segment_of-i.result c.segment_of-i.ensures) out in
    rw (sight c.args.n c.args.points.now c.args.charges.now g, bad) refl

pub overflow_sub-end : goal.overflow_sub-end
overflow_sub-end c =
    let g : Given c.args.n c.args.points.now c.args.charges.now = record { room = c.requires.room; points_hold = c.requires.points; quantities_hold = c.requires.quantities; heats_hold = c.requires.heats; prices_hold = c.requires.prices } in
    let rt : Read c.args.points.now (2 * (c.args.n - 1)) = search rules in
    let b = before c.args.n c.args.points.now c.args.charges.now g rt c.mark_of-k.result c.split_at-split.result c.steps_of-count.result (search rules) c.mark_of-k.ensures c.split_at-split.ensures c.steps_of-count.ensures in
    let r2 : Read c.args.points.now (2 * c.segment_of-i.result + 2) = search rules in
    let q : rd c.end_of-end.result ≡ c.end_of-end.result = search rules in
    fits (wide c.args.n c.args.points.now c.args.charges.now g c.mark_of-k.result c.split_at-split.result c.steps_of-count.result b c.loop-t.t c.loop-t-test.true c.segment_of-i.result c.segment_of-i.ensures r2 c.end_of-end.result q c.end_of-end.ensures c.loop-t.edge-bits c.loop-t.invariant.reached) tt

pub step_price-requires-clause-prices : goal.step_price-requires-clause-prices
unfolding prices_in_range charges_in_range
step_price-requires-clause-prices c =
    let g : Given c.args.n c.args.points.now c.args.charges.now = record { room = c.requires.room; points_hold = c.requires.points; quantities_hold = c.requires.quantities; heats_hold = c.requires.heats; prices_hold = c.requires.prices } in
    λ n p. rw (in_sight n p c.args.charges.now) (prices_are c.args.n c.args.points.now c.args.charges.now g)

pub step_price-requires-clause-rates : goal.step_price-requires-clause-rates
step_price-requires-clause-rates c =
    let g : Given c.args.n c.args.points.now c.args.charges.now = record { room = c.requires.room; points_hold = c.requires.points; quantities_hold = c.requires.quantities; heats_hold = c.requires.heats; prices_hold = c.requires.prices } in
    let rt : Read c.args.points.now (2 * (c.args.n - 1)) = search rules in
    let b = before c.args.n c.args.points.now c.args.charges.now g rt c.mark_of-k.result c.split_at-split.result c.steps_of-count.result (search rules) c.mark_of-k.ensures c.split_at-split.ensures c.steps_of-count.ensures in
    let rr : rd c.incremental_rate-rate.result ≡ c.incremental_rate-rate.result = search rules in
    let ok = ap rate_in_range (sym rr) ∙ sym c.within.ensures ∙ c.if-not-within.false in
    let ml : rd c.max-largest.result ≡ max_z (to_z w64 c.loop-t.largest-bits) c.incremental_rate-rate.result = search rules ∙ c.max-largest.ensures ∙ ap (max_z (to_z w64 c.loop-t.largest-bits)) rr in
    let M_in : rate_in_range (to_z w64 c.loop-t.largest-bits) ≡ true = rw c.loop-t.invariant.largest (largest_in (costs c.args.n c.args.points.now c.args.charges.now g) (prices_are c.args.n c.args.points.now c.args.charges.now g) (quantities_are c.args.n c.args.points.now c.args.charges.now g) c.loop-t.t c.loop-t.invariant.short c.loop-t.invariant.rates) in
    (subst (λ (z : ℤ). rate_in_range z ≡ true) (sym ml) (max_least (λ (z : ℤ). rate_in_range z ≡ true) _ _ M_in ok), subst (λ (z : ℤ). rate_in_range z ≡ true) (sym rr) ok)

pub step_price-requires-clause-width : goal.step_price-requires-clause-width
step_price-requires-clause-width c =
    let g : Given c.args.n c.args.points.now c.args.charges.now = record { room = c.requires.room; points_hold = c.requires.points; quantities_hold = c.requires.quantities; heats_hold = c.requires.heats; prices_hold = c.requires.prices } in
    let rt : Read c.args.points.now (2 * (c.args.n - 1)) = search rules in
    let b = before c.args.n c.args.points.now c.args.charges.now g rt c.mark_of-k.result c.split_at-split.result c.steps_of-count.result (search rules) c.mark_of-k.ensures c.split_at-split.ensures c.steps_of-count.ensures in
    let r2 : Read c.args.points.now (2 * c.segment_of-i.result + 2) = search rules in
    let q : rd c.end_of-end.result ≡ c.end_of-end.result = search rules in
    width_requires c.args.n c.args.points.now c.args.charges.now g c.mark_of-k.result c.split_at-split.result c.steps_of-count.result b c.loop-t.t c.loop-t-test.true c.segment_of-i.result c.segment_of-i.ensures r2 c.end_of-end.result q c.end_of-end.ensures c.loop-t.edge-bits c.loop-t.invariant.reached

pub bounds-curve-t : goal.bounds-curve-t
bounds-curve-t c =
    let g : Given c.args.n c.args.points.now c.args.charges.now = record { room = c.requires.room; points_hold = c.requires.points; quantities_hold = c.requires.quantities; heats_hold = c.requires.heats; prices_hold = c.requires.prices } in
    let rt : Read c.args.points.now (2 * (c.args.n - 1)) = search rules in
    let b = before c.args.n c.args.points.now c.args.charges.now g rt c.mark_of-k.result c.split_at-split.result c.steps_of-count.result (search rules) c.mark_of-k.ensures c.split_at-split.ensures c.steps_of-count.ensures in
    omega (arith, placed c.args.n c.args.points.now c.args.charges.now g c.mark_of-k.result c.split_at-split.result c.steps_of-count.result b c.loop-t.t c.loop-t-test.true c.segment_of-i.result c.segment_of-i.ensures)

pub bounds-curve-t-in-loop-t : goal.bounds-curve-t-in-loop-t
bounds-curve-t-in-loop-t c =
    let g : Given c.args.n c.args.points.now c.args.charges.now = record { room = c.requires.room; points_hold = c.requires.points; quantities_hold = c.requires.quantities; heats_hold = c.requires.heats; prices_hold = c.requires.prices } in
    let rt : Read c.args.points.now (2 * (c.args.n - 1)) = search rules in
    let b = before c.args.n c.args.points.now c.args.charges.now g rt c.mark_of-k.result c.split_at-split.result c.steps_of-count.result (search rules) c.mark_of-k.ensures c.split_at-split.ensures c.steps_of-count.ensures in
    omega (arith, placed c.args.n c.args.points.now c.args.charges.now g c.mark_of-k.result c.split_at-split.result c.steps_of-count.result b c.loop-t.t c.loop-t-test.true c.segment_of-i.result c.segment_of-i.ensures)

pub overflow_add-curve : goal.overflow_add-curve
overflow_add-curve c =
    let g : Given c.args.n c.args.points.now c.args.charges.now = record { room = c.requires.room; points_hold = c.requires.points; quantities_hold = c.requires.quantities; heats_hold = c.requires.heats; prices_hold = c.requires.prices } in
    let rt : Read c.args.points.now (2 * (c.args.n - 1)) = search rules in
    let b = before c.args.n c.args.points.now c.args.charges.now g rt c.mark_of-k.result c.split_at-split.result c.steps_of-count.result (search rules) c.mark_of-k.ensures c.split_at-split.ensures c.steps_of-count.ensures in
    record { fits = omega (arith, placed c.args.n c.args.points.now c.args.charges.now g c.mark_of-k.result c.split_at-split.result c.steps_of-count.result b c.loop-t.t c.loop-t-test.true c.segment_of-i.result c.segment_of-i.ensures) }

pub offset_bounds-curve-t : goal.offset_bounds-curve-t
offset_bounds-curve-t c =
    let g : Given c.args.n c.args.points.now c.args.charges.now = record { room = c.requires.room; points_hold = c.requires.points; quantities_hold = c.requires.quantities; heats_hold = c.requires.heats; prices_hold = c.requires.prices } in
    let rt : Read c.args.points.now (2 * (c.args.n - 1)) = search rules in
    let b = before c.args.n c.args.points.now c.args.charges.now g rt c.mark_of-k.result c.split_at-split.result c.steps_of-count.result (search rules) c.mark_of-k.ensures c.split_at-split.ensures c.steps_of-count.ensures in
    record { fits = omega (arith, placed c.args.n c.args.points.now c.args.charges.now g c.mark_of-k.result c.split_at-split.result c.steps_of-count.result b c.loop-t.t c.loop-t-test.true c.segment_of-i.result c.segment_of-i.ensures) }

pub overflow_add-curve-in-loop-t-2 : goal.overflow_add-curve-in-loop-t-2
overflow_add-curve-in-loop-t-2 c =
    let g : Given c.args.n c.args.points.now c.args.charges.now = record { room = c.requires.room; points_hold = c.requires.points; quantities_hold = c.requires.quantities; heats_hold = c.requires.heats; prices_hold = c.requires.prices } in
    let rt : Read c.args.points.now (2 * (c.args.n - 1)) = search rules in
    let b = before c.args.n c.args.points.now c.args.charges.now g rt c.mark_of-k.result c.split_at-split.result c.steps_of-count.result (search rules) c.mark_of-k.ensures c.split_at-split.ensures c.steps_of-count.ensures in
    record { fits = omega (arith, placed c.args.n c.args.points.now c.args.charges.now g c.mark_of-k.result c.split_at-split.result c.steps_of-count.result b c.loop-t.t c.loop-t-test.true c.segment_of-i.result c.segment_of-i.ensures) }

pub offset_bounds-curve-t-in-loop-t : goal.offset_bounds-curve-t-in-loop-t
offset_bounds-curve-t-in-loop-t c =
    let g : Given c.args.n c.args.points.now c.args.charges.now = record { room = c.requires.room; points_hold = c.requires.points; quantities_hold = c.requires.quantities; heats_hold = c.requires.heats; prices_hold = c.requires.prices } in
    let rt : Read c.args.points.now (2 * (c.args.n - 1)) = search rules in
    let b = before c.args.n c.args.points.now c.args.charges.now g rt c.mark_of-k.result c.split_at-split.result c.steps_of-count.result (search rules) c.mark_of-k.ensures c.split_at-split.ensures c.steps_of-count.ensures in
    record { fits = omega (arith, placed c.args.n c.args.points.now c.args.charges.now g c.mark_of-k.result c.split_at-split.result c.steps_of-count.result b c.loop-t.t c.loop-t-test.true c.segment_of-i.result c.segment_of-i.ensures) }

pub loop-t-preserved : goal.loop-t-preserved
loop-t-preserved c =
    let g : Given c.args.n c.args.points.now c.args.charges.now = record { room = c.requires.room; points_hold = c.requires.points; quantities_hold = c.requires.quantities; heats_hold = c.requires.heats; prices_hold = c.requires.prices } in
    let rt : Read c.args.points.now (2 * (c.args.n - 1)) = search rules in
    let b = before c.args.n c.args.points.now c.args.charges.now g rt c.mark_of-k.result c.split_at-split.result c.steps_of-count.result (search rules) c.mark_of-k.ensures c.split_at-split.ensures c.steps_of-count.ensures in
    let r2 : Read c.args.points.now (2 * c.segment_of-i.result + 2) = search rules in
    let q : rd c.end_of-end.result ≡ c.end_of-end.result = search rules in
    let rr : rd c.incremental_rate-rate.result ≡ c.incremental_rate-rate.result = search rules in
    let r0 : Read c.args.points.now (2 * c.segment_of-i.result) = search rules in
    let r1 : Read c.args.points.now (2 * c.segment_of-i.result + 1) = search rules in
    let r3 : Read c.args.points.now (2 * c.segment_of-i.result + 3) = search rules in
    let ri = rate_is c.args.n c.args.points.now c.args.charges.now g c.mark_of-k.result c.split_at-split.result c.steps_of-count.result b c.loop-t.t c.loop-t-test.true c.segment_of-i.result c.segment_of-i.ensures r2 c.end_of-end.result q c.end_of-end.ensures rt r0 r1 r3 c.incremental_rate-rate.result c.incremental_rate-rate.ensures in
    let ok = ap rate_in_range (sym rr) ∙ sym c.within.ensures ∙ c.if-not-within.false in
    let ml : rd c.max-largest.result ≡ max_z (to_z w64 c.loop-t.largest-bits) c.incremental_rate-rate.result = search rules ∙ c.max-largest.ensures ∙ ap (max_z (to_z w64 c.loop-t.largest-bits)) rr in
    let pr : rd c.max-price.result ≡ max_z (to_z w64 c.loop-t.price-bits) c.step_price.result = search rules in
    let x = (rw (sight c.args.n c.args.points.now c.args.charges.now g) at (c.step_price.ensures c.args.n c.args.points.now)) ∙ ap (λ (z : ℤ). with_adder (costs c.args.n c.args.points.now c.args.charges.now g) (rd c.max-largest.result) z (nat_of (kept (wide c.args.n c.args.points.now c.args.charges.now g c.mark_of-k.result c.split_at-split.result c.steps_of-count.result b c.loop-t.t c.loop-t-test.true c.segment_of-i.result c.segment_of-i.ensures r2 c.end_of-end.result q c.end_of-end.ensures c.loop-t.edge-bits c.loop-t.invariant.reached) tt).code)) rr in
    next_step (costs c.args.n c.args.points.now c.args.charges.now g) (points_are c.args.n c.args.points.now c.args.charges.now g) (quantities_are c.args.n c.args.points.now c.args.charges.now g) (prices_are c.args.n c.args.points.now c.args.charges.now g) c.loop-t.t c.loop-t.invariant (more c.args.n c.args.points.now c.args.charges.now g c.mark_of-k.result c.split_at-split.result c.steps_of-count.result b c.loop-t.t c.loop-t-test.true c.segment_of-i.result c.segment_of-i.ensures)
    c.incremental_rate-rate.result (rd c.max-largest.result) c.step_price.result (rd c.max-price.result) (rd c.end_of-end.result) (nat_of (kept (wide c.args.n c.args.points.now c.args.charges.now g c.mark_of-k.result c.split_at-split.result c.steps_of-count.result b c.loop-t.t c.loop-t-test.true c.segment_of-i.result c.segment_of-i.ensures r2 c.end_of-end.result q c.end_of-end.ensures c.loop-t.edge-bits c.loop-t.invariant.reached) tt).code)
    ri ok ml (width_is c.args.n c.args.points.now c.args.charges.now g c.mark_of-k.result c.split_at-split.result c.steps_of-count.result b c.loop-t.t c.loop-t-test.true c.segment_of-i.result c.segment_of-i.ensures r2 c.end_of-end.result q c.end_of-end.ensures c.loop-t.edge-bits c.loop-t.invariant.reached) x pr (q ∙ end_is c.args.n c.args.points.now c.args.charges.now g c.mark_of-k.result c.split_at-split.result c.steps_of-count.result b c.loop-t.t c.loop-t-test.true c.segment_of-i.result c.segment_of-i.ensures r2 c.end_of-end.result q c.end_of-end.ensures)

pub returns-clause-number : goal.returns-clause-number
returns-clause-number c =
    let g : Given c.args.n c.args.points.now c.args.charges.now = record { room = c.requires.room; points_hold = c.requires.points; quantities_hold = c.requires.quantities; heats_hold = c.requires.heats; prices_hold = c.requires.prices } in
    let rt : Read c.args.points.now (2 * (c.args.n - 1)) = search rules in
    let b = before c.args.n c.args.points.now c.args.charges.now g rt c.mark_of-k.result c.split_at-split.result c.steps_of-count.result (search rules) c.mark_of-k.ensures c.split_at-split.ensures c.steps_of-count.ensures in
    let last : count_of_steps (costs c.args.n c.args.points.now c.args.charges.now g) ≤ c.loop-t.t = subst (λ (x : ℕ). x ≤ c.loop-t.t) b.count_is c.loop-t-test.false in
    let done = rates_good_lem (costs c.args.n c.args.points.now c.args.charges.now g) (points_are c.args.n c.args.points.now c.args.charges.now g) (quantities_are c.args.n c.args.points.now c.args.charges.now g) (prices_are c.args.n c.args.points.now c.args.charges.now g) c.loop-t.t c.loop-t.invariant last in
    rw (sight c.args.n c.args.points.now c.args.charges.now g, done) refl

pub returns-clause-ends : goal.returns-clause-ends
unfolding cost_curve
returns-clause-ends c =
    let g : Given c.args.n c.args.points.now c.args.charges.now = record { room = c.requires.room; points_hold = c.requires.points; quantities_hold = c.requires.quantities; heats_hold = c.requires.heats; prices_hold = c.requires.prices } in
    let rt : Read c.args.points.now (2 * (c.args.n - 1)) = search rules in
    let b = before c.args.n c.args.points.now c.args.charges.now g rt c.mark_of-k.result c.split_at-split.result c.steps_of-count.result (search rules) c.mark_of-k.ensures c.split_at-split.ensures c.steps_of-count.ensures in
    let last : count_of_steps (costs c.args.n c.args.points.now c.args.charges.now g) ≤ c.loop-t.t = subst (λ (x : ℕ). x ≤ c.loop-t.t) b.count_is c.loop-t-test.false in
    let done = rates_good_lem (costs c.args.n c.args.points.now c.args.charges.now g) (points_are c.args.n c.args.points.now c.args.charges.now g) (quantities_are c.args.n c.args.points.now c.args.charges.now g) (prices_are c.args.n c.args.points.now c.args.charges.now g) c.loop-t.t c.loop-t.invariant last in
    rw (sight c.args.n c.args.points.now c.args.charges.now g, done) (by_parts (c.whole.ensures ∙ ap nat_of (first_read c.args.n c.args.points.now c.args.charges.now g (search rules))) (c.whole-2.ensures ∙ law.end_is (costs c.args.n c.args.points.now c.args.charges.now g) (points_are c.args.n c.args.points.now c.args.charges.now g) (quantities_are c.args.n c.args.points.now c.args.charges.now g) (prices_are c.args.n c.args.points.now c.args.charges.now g) c.loop-t.t c.loop-t.invariant last (some_step (costs c.args.n c.args.points.now c.args.charges.now g) (count_in c.args.n c.args.points.now c.args.charges.now g).0)))

pub returns-clause-cells : goal.returns-clause-cells
returns-clause-cells c =
    let g : Given c.args.n c.args.points.now c.args.charges.now = record { room = c.requires.room; points_hold = c.requires.points; quantities_hold = c.requires.quantities; heats_hold = c.requires.heats; prices_hold = c.requires.prices } in
    let rt : Read c.args.points.now (2 * (c.args.n - 1)) = search rules in
    let b = before c.args.n c.args.points.now c.args.charges.now g rt c.mark_of-k.result c.split_at-split.result c.steps_of-count.result (search rules) c.mark_of-k.ensures c.split_at-split.ensures c.steps_of-count.ensures in
    let last : count_of_steps (costs c.args.n c.args.points.now c.args.charges.now g) ≤ c.loop-t.t = subst (λ (x : ℕ). x ≤ c.loop-t.t) b.count_is c.loop-t-test.false in
    let done = rates_good_lem (costs c.args.n c.args.points.now c.args.charges.now g) (points_are c.args.n c.args.points.now c.args.charges.now g) (quantities_are c.args.n c.args.points.now c.args.charges.now g) (prices_are c.args.n c.args.points.now c.args.charges.now g) c.loop-t.t c.loop-t.invariant last in
    rw (sight c.args.n c.args.points.now c.args.charges.now g, done) (cells_are (costs c.args.n c.args.points.now c.args.charges.now g) (points_are c.args.n c.args.points.now c.args.charges.now g) (quantities_are c.args.n c.args.points.now c.args.charges.now g) (prices_are c.args.n c.args.points.now c.args.charges.now g) c.loop-t.t c.loop-t.invariant last)
