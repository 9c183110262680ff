-- The hydro price is the largest of the request's three amounts, each up, and no other number is (paper 02, 2.8). Assumes nothing.
use mathlib.Core.List.{[], ◌∷◌}
use mathlib.Core.Logic.{inl, inr, ◌↔◌}
use mathlib.Core.Path.{◌≡◌, refl, sym, ap, subst, ◌∙◌}
use Prim.Native.Nat.{ℕ, ◌≤◌, ◌<◌}
use native.Mathlib.Omega.{arith}
use lib.IntN.{ℤ, pos, ◌*ℤ◌}
use lib.Signed.{◌≤ℤ◌}
use Rattle.rules_number.specs.Ceil.{ceil_div}
use Rattle.rules_number.specs.Order.{max_z, nat_of}
use Rattle.rules_number.specs.Over.{padded}
use Rattle.rules_number.proofs.CeilLaws.{ceil_unique}
use Rattle.rules_number.proofs.CeilSize.{ceil_ge, ceil_lt}
use Rattle.rules_number.proofs.Kit.{var, le_of, eq_by, ≤ℤ_trans}
use Rattle.rules_number.proofs.OrderLaws.{max_ge_left, max_ge_right, max_least}
use Rattle.rules_curve.specs.Curves.{step_to, steps_of, curve_of}
use Rattle.rules_hydro.specs.Hydros.{one_step, gas_floor, short_term_price, long_term, hydro_price, hydro_curve}
use Rattle.rules_hydro.specs.Meaning.{Up, Largest, Tenths, OneOf, Priced}
use Rattle.rules_hydro.specs.declared.Hydro.{Hydro}
use Rattle.rules_hydro.proofs.ReadLaws.{largest_default, largest_over_lem}

-- ---- "up", "the largest", "n/10 of the largest": there is one, and one alone
up_is : (n : ℤ) (w : ℕ) → 0 < w → Up n (pos w) (ceil_div n w)
up_is n w h = record { at_or_above = ceil_ge n w h; least = ceil_lt n w h }

pub up_only : (n z : ℤ) (w : ℕ) → 0 < w → Up n (pos w) z → z ≡ ceil_div n w
up_only n z w h u = ceil_unique n z w h u.at_or_above u.least

largest_only : {Is : ℤ → Type 0} {y z : ℤ} → Largest Is y → Largest Is z → y ≡ z
largest_only {Is} {y} {z} a b = eq_by (var y) (var z) (omega (arith, le_of (b.at_least y a.one), le_of (a.at_least z b.one)))

module _ (n : ℕ) {Is : ℤ → Type 0} {y : ℤ} (l : Largest Is y) where
  tenths_is : Tenths n Is (ceil_div (pos n *ℤ y) 10)
  tenths_is = record { of = y; largest = l; up = up_is (pos n *ℤ y) 10 (omega arith) }

  tenths_only : (z : ℤ) → Tenths n Is z → z ≡ ceil_div (pos n *ℤ y) 10
  tenths_only z t = up_only (pos n *ℤ t.of) z 10 (omega arith) t.up ∙ ap (λ (k : ℤ). ceil_div (pos n *ℤ k) 10) (largest_only t.largest l)

-- of three
max_of : (a b c : ℤ) → Largest (OneOf a b c) (max_z a (max_z b c))
max_of a b c = record { one = max_least (OneOf a b c) a (max_z b c) (inl refl) (max_least (OneOf a b c) b c (inr (inl refl)) (inr (inr refl))); at_least = each }
  where
    each : (y : ℤ) → OneOf a b c y → y ≤ℤ max_z a (max_z b c)
    each y (inl e) = subst (λ (z : ℤ). z ≤ℤ max_z a (max_z b c)) (sym e) (max_ge_left a (max_z b c))
    each y (inr (inl e)) = subst (λ (z : ℤ). z ≤ℤ max_z a (max_z b c)) (sym e) (≤ℤ_trans (max_ge_left b c) (max_ge_right a (max_z b c)))
    each y (inr (inr e)) = subst (λ (z : ℤ). z ≤ℤ max_z a (max_z b c)) (sym e) (≤ℤ_trans (max_ge_right b c) (max_ge_right a (max_z b c)))

-- ---- the price
module _ (x : Hydro) (some : 1 ≤ x.hubs) where
  pub hydro_priced : Priced x (hydro_price x)
  unfolding hydro_price gas_floor short_term_price long_term
  hydro_priced = record {
    floor = _;
    short = _;
    long = _;
    gas_floor_lem = up_is _ 10000 (omega arith);
    short_term = tenths_is 14 (largest_default x.prices);
    long_term_lem = tenths_is 11 (largest_over_lem x.prices x.hubs x.horizon some);
    largest = max_of _ _ _;
  }

  hydro_only : (p : ℤ) → Priced x p → p ≡ hydro_price x
  unfolding hydro_price gas_floor short_term_price long_term
  hydro_only p d =
      largest_only
      (subst (λ (f : ℤ → Type 0). Largest f p)
      (same (up_only _ d.floor 10000 (omega arith) d.gas_floor_lem) (tenths_only 14 (largest_default x.prices) d.short d.short_term)
      (tenths_only 11 (largest_over_lem x.prices x.hubs x.horizon some) d.long d.long_term_lem))
      d.largest)
      (max_of _ _ _)
    where
      same : {a b c a' b' c' : ℤ} → a ≡ a' → b ≡ b' → c ≡ c' → OneOf a b c ≡ OneOf a' b' c'
      same p q r = rw (p, q, r)

  -- "priced at the largest of three amounts, each up", and at no other
  pub price_exactly : (p : ℤ) → (p ≡ hydro_price x) ↔ Priced x p
  price_exactly p = ((λ e. subst (Priced x) (sym e) hydro_priced), hydro_only p)

-- "one step from a given lowest to a given highest quantity"
pub one_step_lem : (x : Hydro) → ((curve_of (hydro_curve x)).start ≡ nat_of x.low) × (steps_of (curve_of (hydro_curve x)) ≡ step_to (nat_of x.high) (hydro_price x) ∷ [])
unfolding one_step curve_of padded
one_step_lem x = (refl, refl)
