-- `cost::step_price`: fuel and greenhouse are lifted by as much as they can lie below zero. Assumes nothing.
use Rattle.std.proofs.Common.{◌≡◌, ℕ, ◌+◌, ◌*◌, ◌^◌, ◌≤◌, ◌<◌, List, [], ℤ, pos, ◌+ℤ◌, true, refl, sym, ap, ap₂, subst, ◌∙◌, arith}
use native.Mathlib.Nat.{le_trans}
use lib.Dec.{T, lit<, lit≤}
use lib.IntN.{nat_abs}
use lib.Signed.{mag, non_neg, ◌≤ℤ◌}
use mir.Syntax.{w64}
use mir.Val.{Fits}
use Rattle.rules_number.specs.Order.{nat_of}
use Rattle.rules_number.specs.Ceil.{ceil_div}
use Rattle.rules_number.proofs.Kit.{rd, came, Bd, bd_pos, lit, var, add, mul, le_by, le_from}
use Rattle.rules_number.proofs.CeilSize.{bd_ceil}
use Rattle.rules_number.proofs.Meant.{Meant, fits, kept, const, cast, ◌⊕◌, ◌⊖◌, ◌⊗◌, held}
use Rattle.rules_cost.specs.Costs.{fuel, greenhouse, fee_part, step_cost, with_adder, prices_in_range, rate_in_range}
use Rattle.rules_cost.specs.declared.Costs.{Costs}
use Rattle.rules_library.specs.Slices.{costs_in}
use Rattle.cost.proofs.NumberLaws.{costs_by, in_sight}
use Rattle.rules_cost.proofs.RangeLaws.{rate_size, Sizes, sizes}
use Rattle.rules_cost.proofs.CostLaws.{fee_size}
use Rattle.cost.proofs.LiftLaws.{castable, whole_above, whole_castable, lifted_size, cast_small, cast_is, lift_above, lift_ceil, Lows, lows, put_down}
use Rattle.cost.proofs.step_price.Goals as goal

-- what is known of the arguments
record Given (charges : List ℤ) (largest rate width : ℤ) : Type 0 where
  prices : (n : ℕ) (points : List ℤ) → prices_in_range (costs_in n points charges) ≡ true
  rates : (rate_in_range largest ≡ true) × (rate_in_range rate ≡ true)
  wide : (0 < nat_of width) × (nat_of width ≤ 2000000)
  fits_width : mag width < 2 ^ 63

-- each expression of the code, with its integer and its bound
module _ (charges : List ℤ) (largest rate width : ℤ) (s : Given charges largest rate width) where
  abbrev d : Costs
  d = costs_by 0 [] charges

  priced : prices_in_range d ≡ true
  priced = rw (in_sight 0 [] charges) at (s.prices 0 [])

  size : Sizes d
  size = sizes d priced

  low : Lows d
  low = lows d priced

  abbrev fuel_1 : Meant
  fuel_1 = held (rate_size largest s.rates.0) tt ⊗ held size.gas tt

  abbrev fuel_n : Meant
  fuel_n = kept fuel_1 tt ⊕ const 100000000000

  abbrev green_1 : Meant
  green_1 = held (rate_size rate s.rates.1) tt ⊗ held size.rate tt

  abbrev green_2 : Meant
  green_2 = kept green_1 tt ⊗ held size.allowance tt

  abbrev green_n : Meant
  green_n = kept green_2 tt ⊕ const 200000000000000000

  abbrev fee_n : Meant
  fee_n = const 100 ⊗ held size.fee tt

  abbrev fixed_1 : Meant
  fixed_1 = held size.om tt ⊕ held size.msc tt

  abbrev fixed_n : Meant
  fixed_n = kept fixed_1 tt ⊕ held size.soc tt

  -- none of them lies below zero
  fuel_above : pos 0 ≤ℤ fuel_n.means
  fuel_above = lift_above fuel_1.means 100000000000 fuel_1.within

  green_above : pos 0 ≤ℤ green_n.means
  green_above = lift_above green_2.means 200000000000000000 green_2.within

  fee_above : pos 0 ≤ℤ fee_n.means
  fee_above = let f = d.fee in le_by (lit 0) (mul (lit 100) (var f)) (omega (arith, le_from (lit 0) (var f) low.fee))

  fixed_above : pos 0 ≤ℤ fixed_n.means
  fixed_above =
      le_by (lit 0) (add (add (var d.om) (var d.msc)) (var d.soc))
      (omega (arith, le_from (lit 0) (var d.om) low.om, le_from (lit 0) (var d.msc) low.msc, le_from (lit 0) (var d.soc) low.soc))

  -- the width as a whole number
  width_read : nat_abs (rd width) ≡ nat_of width
  width_read = ap nat_abs (came width s.fits_width) ∙ (whole_above width s.wide.0).1

  -- what the calls answer
  fuel_is : (r : ℕ) → pos r ≡ ceil_div (pos (nat_abs (kept fuel_n tt).code)) 1000 → pos r ≡ pos 100000000 +ℤ fuel d largest
  unfolding fuel
  fuel_is r e = lift_ceil fuel_1.means 100000000000 fuel_1.within 100000000 1000 r _ refl (lit< tt) (cast_is fuel_n tt fuel_above) e

  green_is : (r : ℕ) → pos r ≡ ceil_div (pos (nat_abs (kept green_n tt).code)) 1000000000 → pos r ≡ pos 200000000 +ℤ greenhouse d rate
  unfolding greenhouse
  green_is r e = lift_ceil green_2.means 200000000000000000 green_2.within 200000000 1000000000 r _ refl (lit< tt) (cast_is green_n tt green_above) e

  fee_is : (r : ℕ) → pos r ≡ ceil_div (pos (nat_abs (kept fee_n tt).code)) (nat_abs (rd width)) → pos r ≡ fee_part d (nat_of width)
  unfolding fee_part
  fee_is r e = e ∙ ap₂ ceil_div (cast_is fee_n tt fee_above) width_read

  fixed_is : pos (nat_abs (kept fixed_n tt).code) ≡ fixed_n.means
  fixed_is = cast_is fixed_n tt fixed_above

  -- and how large they are
  sum_small : (f g e : ℕ) → pos f ≡ ceil_div (pos (nat_abs (kept fuel_n tt).code)) 1000 → pos g ≡ ceil_div (pos (nat_abs (kept green_n tt).code)) 1000000000
      → pos e ≡ ceil_div (pos (nat_abs (kept fee_n tt).code)) (nat_abs (rd width)) → f + g + nat_abs (kept fixed_n tt).code + e ≤ 800000000
  unfolding fuel greenhouse
  sum_small f g e p q r =
      omega (
        arith,
        lifted_size f 100000000 _ (fuel_is f p) (bd_ceil 1000 (lit< tt) fuel_1.within),
        lifted_size g 200000000 _ (green_is g q) (bd_ceil 1000000000 (lit< tt) green_2.within),
        cast_small fixed_n tt,
        (subst (Bd 100000001) (sym (fee_is e r)) (fee_size d priced (nat_of width) s.wide.0)).bd,
      )

  cast_width : T (non_neg (rd width)) × Fits w64 (nat_abs (rd width))
  cast_width = subst (λ (z : ℤ). T (non_neg z) × Fits w64 (nat_abs z)) (sym (came width s.fits_width)) (whole_castable width s.fits_width s.wide.0)

price_small : (n r : ℕ) → n ≤ 800000000 → pos r ≡ ceil_div (pos (11 * n)) 10 → r ≤ 880000001
price_small n r h e = omega (arith, (subst (Bd 880000001) (sym e) (bd_ceil {A = 8800000000} 10 (lit< tt) (bd_pos (omega arith)))).bd)

abbrev price : (r : ℕ) → r ≤ 880000001 → Meant
price r h = cast h tt ⊖ const 330000000

pub overflow_mul-largest : goal.overflow_mul-largest
overflow_mul-largest c =
    let s : Given c.args.charges.now c.args.largest c.args.rate c.args.width = record { prices = c.requires.prices; rates = c.requires.rates; wide = c.requires.width; fits_width = c.ranges.width.sfits } in
    fits (fuel_1 _ _ _ _ s) tt

pub overflow_add-largest : goal.overflow_add-largest
overflow_add-largest c =
    let s : Given c.args.charges.now c.args.largest c.args.rate c.args.width = record { prices = c.requires.prices; rates = c.requires.rates; wide = c.requires.width; fits_width = c.ranges.width.sfits } in
    fits (fuel_n _ _ _ _ s) tt

pub overflow_cast-largest : goal.overflow_cast-largest
overflow_cast-largest c =
    let s : Given c.args.charges.now c.args.largest c.args.rate c.args.width = record { prices = c.requires.prices; rates = c.requires.rates; wide = c.requires.width; fits_width = c.ranges.width.sfits } in
    castable (fuel_n _ _ _ _ s) tt (fuel_above _ _ _ _ s)

pub ceil_of-fuel-requires : goal.ceil_of-fuel-requires
ceil_of-fuel-requires c =
    let s : Given c.args.charges.now c.args.largest c.args.rate c.args.width = record { prices = c.requires.prices; rates = c.requires.rates; wide = c.requires.width; fits_width = c.ranges.width.sfits } in
    (le_trans (cast_small (fuel_n _ _ _ _ s) tt) (lit≤ tt), (lit< tt, lit≤ tt))

pub overflow_mul-rate : goal.overflow_mul-rate
overflow_mul-rate c =
    let s : Given c.args.charges.now c.args.largest c.args.rate c.args.width = record { prices = c.requires.prices; rates = c.requires.rates; wide = c.requires.width; fits_width = c.ranges.width.sfits } in
    fits (green_1 _ _ _ _ s) tt

pub overflow_mul-rate-2 : goal.overflow_mul-rate-2
overflow_mul-rate-2 c =
    let s : Given c.args.charges.now c.args.largest c.args.rate c.args.width = record { prices = c.requires.prices; rates = c.requires.rates; wide = c.requires.width; fits_width = c.ranges.width.sfits } in
    fits (green_2 _ _ _ _ s) tt

pub overflow_add-rate : goal.overflow_add-rate
overflow_add-rate c =
    let s : Given c.args.charges.now c.args.largest c.args.rate c.args.width = record { prices = c.requires.prices; rates = c.requires.rates; wide = c.requires.width; fits_width = c.ranges.width.sfits } in
    fits (green_n _ _ _ _ s) tt

pub overflow_cast-rate : goal.overflow_cast-rate
overflow_cast-rate c =
    let s : Given c.args.charges.now c.args.largest c.args.rate c.args.width = record { prices = c.requires.prices; rates = c.requires.rates; wide = c.requires.width; fits_width = c.ranges.width.sfits } in
    castable (green_n _ _ _ _ s) tt (green_above _ _ _ _ s)

pub ceil_of-greenhouse-requires : goal.ceil_of-greenhouse-requires
ceil_of-greenhouse-requires c =
    let s : Given c.args.charges.now c.args.largest c.args.rate c.args.width = record { prices = c.requires.prices; rates = c.requires.rates; wide = c.requires.width; fits_width = c.ranges.width.sfits } in
    (le_trans (cast_small (green_n _ _ _ _ s) tt) (lit≤ tt), (lit< tt, lit≤ tt))

pub overflow_mul-charges : goal.overflow_mul-charges
overflow_mul-charges c =
    let s : Given c.args.charges.now c.args.largest c.args.rate c.args.width = record { prices = c.requires.prices; rates = c.requires.rates; wide = c.requires.width; fits_width = c.ranges.width.sfits } in
    fits (fee_n _ _ _ _ s) tt

pub overflow_cast-charges : goal.overflow_cast-charges
overflow_cast-charges c =
    let s : Given c.args.charges.now c.args.largest c.args.rate c.args.width = record { prices = c.requires.prices; rates = c.requires.rates; wide = c.requires.width; fits_width = c.ranges.width.sfits } in
    castable (fee_n _ _ _ _ s) tt (fee_above _ _ _ _ s)

pub overflow_cast-width : goal.overflow_cast-width
overflow_cast-width c =
    let s : Given c.args.charges.now c.args.largest c.args.rate c.args.width = record { prices = c.requires.prices; rates = c.requires.rates; wide = c.requires.width; fits_width = c.ranges.width.sfits } in
    cast_width _ _ _ _ s

pub ceil_of-fee_part-requires : goal.ceil_of-fee_part-requires
ceil_of-fee_part-requires c =
    let s : Given c.args.charges.now c.args.largest c.args.rate c.args.width = record { prices = c.requires.prices; rates = c.requires.rates; wide = c.requires.width; fits_width = c.ranges.width.sfits } in
    let w = width_read _ _ _ _ s in
    (le_trans (cast_small (fee_n _ _ _ _ s) tt) (lit≤ tt), (omega (arith, w, s.wide.0), omega (arith, w, s.wide.1)))

pub overflow_add-fixed : goal.overflow_add-fixed
overflow_add-fixed c =
    let s : Given c.args.charges.now c.args.largest c.args.rate c.args.width = record { prices = c.requires.prices; rates = c.requires.rates; wide = c.requires.width; fits_width = c.ranges.width.sfits } in
    fits (fixed_1 _ _ _ _ s) tt

pub overflow_add-fixed-2 : goal.overflow_add-fixed-2
overflow_add-fixed-2 c =
    let s : Given c.args.charges.now c.args.largest c.args.rate c.args.width = record { prices = c.requires.prices; rates = c.requires.rates; wide = c.requires.width; fits_width = c.ranges.width.sfits } in
    fits (fixed_n _ _ _ _ s) tt

pub overflow_cast-fixed : goal.overflow_cast-fixed
overflow_cast-fixed c =
    let s : Given c.args.charges.now c.args.largest c.args.rate c.args.width = record { prices = c.requires.prices; rates = c.requires.rates; wide = c.requires.width; fits_width = c.ranges.width.sfits } in
    castable (fixed_n _ _ _ _ s) tt (fixed_above _ _ _ _ s)

pub overflow_add-fuel : goal.overflow_add-fuel
overflow_add-fuel c =
    let s : Given c.args.charges.now c.args.largest c.args.rate c.args.width = record { prices = c.requires.prices; rates = c.requires.rates; wide = c.requires.width; fits_width = c.ranges.width.sfits } in
    let h = sum_small _ _ _ _ s c.ceil_of-fuel.result c.ceil_of-greenhouse.result c.ceil_of-fee_part.result c.ceil_of-fuel.ensures c.ceil_of-greenhouse.ensures c.ceil_of-fee_part.ensures in
    record { fits = omega (arith, h) }

pub overflow_add-fuel-2 : goal.overflow_add-fuel-2
overflow_add-fuel-2 c =
    let s : Given c.args.charges.now c.args.largest c.args.rate c.args.width = record { prices = c.requires.prices; rates = c.requires.rates; wide = c.requires.width; fits_width = c.ranges.width.sfits } in
    let h = sum_small _ _ _ _ s c.ceil_of-fuel.result c.ceil_of-greenhouse.result c.ceil_of-fee_part.result c.ceil_of-fuel.ensures c.ceil_of-greenhouse.ensures c.ceil_of-fee_part.ensures in
    record { fits = omega (arith, h) }

pub overflow_add-fuel-3 : goal.overflow_add-fuel-3
overflow_add-fuel-3 c =
    let s : Given c.args.charges.now c.args.largest c.args.rate c.args.width = record { prices = c.requires.prices; rates = c.requires.rates; wide = c.requires.width; fits_width = c.ranges.width.sfits } in
    let h = sum_small _ _ _ _ s c.ceil_of-fuel.result c.ceil_of-greenhouse.result c.ceil_of-fee_part.result c.ceil_of-fuel.ensures c.ceil_of-greenhouse.ensures c.ceil_of-fee_part.ensures in
    record { fits = omega (arith, h) }

pub overflow_mul-fuel : goal.overflow_mul-fuel
overflow_mul-fuel c =
    let s : Given c.args.charges.now c.args.largest c.args.rate c.args.width = record { prices = c.requires.prices; rates = c.requires.rates; wide = c.requires.width; fits_width = c.ranges.width.sfits } in
    let h = sum_small _ _ _ _ s c.ceil_of-fuel.result c.ceil_of-greenhouse.result c.ceil_of-fee_part.result c.ceil_of-fuel.ensures c.ceil_of-greenhouse.ensures c.ceil_of-fee_part.ensures in
    record { fits = omega (arith, h) }

pub ceil_of-lifted-requires : goal.ceil_of-lifted-requires
ceil_of-lifted-requires c =
    let s : Given c.args.charges.now c.args.largest c.args.rate c.args.width = record { prices = c.requires.prices; rates = c.requires.rates; wide = c.requires.width; fits_width = c.ranges.width.sfits } in
    let h = sum_small _ _ _ _ s c.ceil_of-fuel.result c.ceil_of-greenhouse.result c.ceil_of-fee_part.result c.ceil_of-fuel.ensures c.ceil_of-greenhouse.ensures c.ceil_of-fee_part.ensures in
    (omega (arith, h), (lit< tt, lit≤ tt))

pub overflow_cast-result : goal.overflow_cast-result
overflow_cast-result c =
    let s : Given c.args.charges.now c.args.largest c.args.rate c.args.width = record { prices = c.requires.prices; rates = c.requires.rates; wide = c.requires.width; fits_width = c.ranges.width.sfits } in
    let h = sum_small _ _ _ _ s c.ceil_of-fuel.result c.ceil_of-greenhouse.result c.ceil_of-fee_part.result c.ceil_of-fuel.ensures c.ceil_of-greenhouse.ensures c.ceil_of-fee_part.ensures in
    record { sfits = omega (arith, price_small _ c.ceil_of-lifted.result h c.ceil_of-lifted.ensures) }

pub overflow_sub-result : goal.overflow_sub-result
overflow_sub-result c =
    let s : Given c.args.charges.now c.args.largest c.args.rate c.args.width = record { prices = c.requires.prices; rates = c.requires.rates; wide = c.requires.width; fits_width = c.ranges.width.sfits } in
    let h = sum_small _ _ _ _ s c.ceil_of-fuel.result c.ceil_of-greenhouse.result c.ceil_of-fee_part.result c.ceil_of-fuel.ensures c.ceil_of-greenhouse.ensures c.ceil_of-fee_part.ensures in
    fits (price c.ceil_of-lifted.result (price_small _ c.ceil_of-lifted.result h c.ceil_of-lifted.ensures)) tt

pub returns : goal.returns
unfolding costs_in with_adder step_cost fuel greenhouse fee_part
returns c n points =
    let s : Given c.args.charges.now c.args.largest c.args.rate c.args.width = record { prices = c.requires.prices; rates = c.requires.rates; wide = c.requires.width; fits_width = c.ranges.width.sfits } in
    let h = sum_small _ _ _ _ s c.ceil_of-fuel.result c.ceil_of-greenhouse.result c.ceil_of-fee_part.result c.ceil_of-fuel.ensures c.ceil_of-greenhouse.ensures c.ceil_of-fee_part.ensures in
    (kept (price c.ceil_of-lifted.result (price_small _ c.ceil_of-lifted.result h c.ceil_of-lifted.ensures)) tt).same
    ∙ put_down (d _ _ _ _ s) c.args.largest c.args.rate (nat_of c.args.width) _ _ _ _ c.ceil_of-lifted.result
    (fuel_is _ _ _ _ s c.ceil_of-fuel.result c.ceil_of-fuel.ensures) (green_is _ _ _ _ s c.ceil_of-greenhouse.result c.ceil_of-greenhouse.ensures) (fixed_is _ _ _ _ s) (fee_is _ _ _ _ s c.ceil_of-fee_part.result c.ceil_of-fee_part.ensures) c.ceil_of-lifted.ensures
