-- Numbers lifted above zero, rounded up there and put down again. Assumes nothing.
use mathlib.Core.Bool.{true, ◌&&◌}
use mathlib.Core.Path.{◌≡◌, refl, sym, ap, subst, ◌∙◌}
use Prim.Native.Nat.{ℕ, ◌+◌, ◌*◌, ◌^◌, ◌≤◌, ◌<◌}
use native.Mathlib.Omega.{arith}
use lib.Dec.{T, ltb, lit<}
use lib.IntN.{ℤ, pos, negsuc, nat_abs, ◌+ℤ◌, ◌-ℤ◌, ◌*ℤ◌}
use lib.Signed.{le_z, mag, non_neg, ◌≤ℤ◌}
use mir.Syntax.{w64}
use mir.Val.{Fits}
use Rattle.rules_number.specs.Order.{nat_of, in_range}
use Rattle.rules_number.specs.Ceil.{ceil_div}
use Rattle.rules_number.proofs.Kit.{Diff, var, lit, add, sub, mul, eq_by, le_by, le_from, true_le, Bd, fit, nat_of_lem, in_lo, cast_fits}
use Rattle.rules_number.proofs.Meant.{Meant, kept}
use Rattle.rules_number.proofs.CeilLaws.{ceil_shift}
use Rattle.rules_number.proofs.OverLaws.{both}
use Rattle.rules_cost.specs.Costs.{fuel, greenhouse, fee_part, step_cost, with_adder, charges_in_range, prices_in_range}
use Rattle.rules_cost.specs.declared.Costs.{Costs}

-- ---- a signed value as a whole number
pub abs_size : {A : ℕ} (z : ℤ) → Bd A z → nat_abs z ≤ A
abs_size (pos n) b = omega (arith, b.bd)
abs_size (negsuc n) b = omega (arith, b.bd)

pub nat_size : {A : ℕ} (z : ℤ) → Bd A z → nat_of z ≤ A
nat_size (pos n) b = omega (arith, b.bd)
nat_size (negsuc n) b = omega arith

not_below : (z : ℤ) → pos 0 ≤ℤ z → le_z (pos 0) z ≡ true
not_below z h = true_le (pos 0) z (le_from (lit 0) (var z) h)

pub castable : (d : Meant) (t : T (ltb d.size (2 ^ 63))) → pos 0 ≤ℤ d.means → T (non_neg (kept d t).code) × Fits w64 (nat_abs (kept d t).code)
castable d t h = subst (λ (z : ℤ). T (non_neg z) × Fits w64 (nat_abs z)) (sym (kept d t).same) (cast_fits d.means (fit d.within t).sfits (not_below d.means h))

pub cast_small : (d : Meant) (t : T (ltb d.size (2 ^ 63))) → nat_abs (kept d t).code ≤ d.size
cast_small d t = subst (λ (z : ℤ). nat_abs z ≤ d.size) (sym (kept d t).same) (abs_size d.means d.within)

pub cast_is : (d : Meant) (t : T (ltb d.size (2 ^ 63))) → pos 0 ≤ℤ d.means → pos (nat_abs (kept d t).code) ≡ d.means
cast_is d t h = ap (λ (z : ℤ). pos (nat_abs z)) (kept d t).same ∙ nat_of_lem h

-- a number above zero
pub whole_above : (z : ℤ) → 0 < nat_of z → (pos 0 ≤ℤ z) × (nat_abs z ≡ nat_of z)
whole_above (pos n) h = (le_by (lit 0) (lit n) (omega arith), refl)
whole_above (negsuc n) h = absurd (omega arith)

pub whole_castable : (z : ℤ) → mag z < 2 ^ 63 → 0 < nat_of z → T (non_neg z) × Fits w64 (nat_abs z)
whole_castable z m h = cast_fits z m (not_below z (whole_above z h).0)

-- a difference of an equal number
of_same : {z y : ℤ} {p n : ℕ} → z ≡ y → Diff y p n → Diff z p n
of_same {z} {y} {p} {n} e d = subst (λ (x : ℤ). Diff x p n) (sym e) d

-- ---- lifted by as much as its size
module _ (x : ℤ) (L : ℕ) (b : Bd L x) where
  pub lift_above : pos 0 ≤ℤ (x +ℤ pos L)
  lift_above = le_by (lit 0) (add (var x) (lit L)) (omega (arith, b.bd))

  pub lift_ceil : (k w r n : ℕ) → k * w ≡ L → 0 < w → pos n ≡ x +ℤ pos L → pos r ≡ ceil_div (pos n) w → pos r ≡ pos k +ℤ ceil_div x w
  lift_ceil k w r n e p a h =
      let z : x +ℤ pos L ≡ pos k *ℤ pos w +ℤ x = eq_by (add (var x) (lit L)) (add (lit (k * w)) (var x)) (omega (arith, e)) in
      h ∙ ap (λ (y : ℤ). ceil_div y w) (a ∙ z) ∙ ceil_shift (pos k) x w p

pub lifted_size : {A : ℕ} (r k : ℕ) (z : ℤ) → pos r ≡ pos k +ℤ z → Bd A z → r ≤ k + A
lifted_size r k z e b = omega (arith, (of_same e (add (lit k) (var z))).dif, b.bd)

-- ---- the charges aren't negative
pub record Lows (c : Costs) : Type 0 where
  pub om : pos 0 ≤ℤ c.om
  pub msc : pos 0 ≤ℤ c.msc
  pub soc : pos 0 ≤ℤ c.soc
  pub fee : pos 0 ≤ℤ c.fee

pub lows : (c : Costs) → prices_in_range c ≡ true → Lows c
unfolding prices_in_range charges_in_range
lows c h =
    let f = in_range (pos 0) (pos 1000000) c.fee in
    let s = in_range (pos 0) (pos 1000000) c.soc in
    let m = in_range (pos 0) (pos 1000000) c.msc in
    let o = in_range (pos 0) (pos 1000000) c.om in
    let a = in_range (pos 0) (pos 10000000) c.allowance in
    let r = in_range (pos 0) (pos 200000) c.rate in
    let x = both o (m && (s && f)) (both a (o && (m && (s && f))) (both r (a && (o && (m && (s && f)))) (both (in_range (pos 0) (pos 1000000) c.gas) (r && (a && (o && (m && (s && f))))) h).1).1).1 in
    let y = both m (s && f) x.1 in
    let z = both s f y.1 in
    record { om = in_lo (pos 0) (pos 1000000) c.om x.0; msc = in_lo (pos 0) (pos 1000000) c.msc y.0; soc = in_lo (pos 0) (pos 1000000) c.soc z.0; fee = in_lo (pos 0) (pos 1000000) c.fee z.1 }

-- ---- the price, from the parts of its cost
pub put_down : (c : Costs) (M R : ℤ) (w F G S E q : ℕ) → pos F ≡ pos 100000000 +ℤ fuel c M → pos G ≡ pos 200000000 +ℤ greenhouse c R → pos S ≡ c.om +ℤ c.msc +ℤ c.soc → pos E ≡ fee_part c w
    → pos q ≡ ceil_div (pos (11 * (F + G + S + E))) 10 → pos q -ℤ pos 330000000 ≡ with_adder c M R w
unfolding with_adder step_cost
put_down c M R w F G S E q a b d e h =
    let C = step_cost c M R w in
    let parts = add (add (add (add (add (var (fuel c M)) (var (greenhouse c R))) (var c.om)) (var c.msc)) (var c.soc)) (var (fee_part c w)) in
    let f1 = (of_same a (add (lit 100000000) (var (fuel c M)))).dif in
    let f2 = (of_same b (add (lit 200000000) (var (greenhouse c R)))).dif in
    let f3 = (of_same d (add (add (var c.om) (var c.msc)) (var c.soc))).dif in
    let f4 = (of_same e (var (fee_part c w))).dif in
    let lifted : pos (11 * (F + G + S + E)) ≡ pos 330000000 *ℤ pos 10 +ℤ pos 11 *ℤ C =
    eq_by (lit (11 * (F + G + S + E))) (add (lit 3300000000) (mul (lit 11) parts)) (omega (arith, f1, f2, f3, f4)) in
    let up = h ∙ ap (λ (z : ℤ). ceil_div z 10) lifted ∙ ceil_shift (pos 330000000) (pos 11 *ℤ C) 10 (lit< tt) in
    eq_by (sub (lit q) (lit 330000000)) (var (ceil_div (pos 11 *ℤ C) 10)) (omega (arith, (of_same up (add (lit 330000000) (var (ceil_div (pos 11 *ℤ C) 10)))).dif))
