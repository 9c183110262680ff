-- What limits that are met say of each value, and the refusal and the curve by whether they are met. Assumes nothing.
use Rattle.std.specs.Prelude.{List, Err, Ok, Result}
use Rattle.std.specs.Result.{IsErrAnd, MatchResult}
use mathlib.Core.Bool.{Bool, true, false}
use mathlib.Core.Path.{◌≡◌, refl, ap}
use Prim.Native.Nat.{ℕ, ◌≤◌, ◌<◌}
use native.Mathlib.Nat.{le_refl}
use native.Mathlib.Omega.{arith}
use borrow.Author.Tests.{le-leb}
use lib.IntN.{ℤ, pos, nat_abs}
use Rattle.rules_number.specs.Order.{in_range}
use Rattle.rules_number.proofs.ExactLaws.{range_exactly}
use Rattle.rules_number.proofs.Kit.{abs_bd, bd_between}
use Rattle.rules_curve.specs.Curves.{default_refusal}
use Rattle.rules_curve.specs.Demands.{Between}
use Rattle.rules_curve.specs.Refusals.{outcome_number}
use Rattle.rules_curve.specs.declared.Curve.{Curve}
use Rattle.rules_curve.specs.declared.RawCurve.{RawCurve}
use Rattle.rules_curve.specs.declared.Refusal.{Refusal}
use Rattle.rules_curve.proofs.RefusalLaws.{refused_number}
use Rattle.rules_hydro.specs.Hydros.{hydro_number, largest_at, largest_over, hydro_price, hydro_curve, prices_good, limits_good, hydro_refusal, hydro_in}
use Rattle.rules_hydro.specs.Conditions.{Limited}
use Rattle.rules_hydro.specs.declared.Hydro.{Hydro}
use Rattle.rules_hydro.specs.declared.HydroRefusal.{HydroRefusal}
use Rattle.rules_hydro.specs.declared.HydroRefusal.TheVariants as why
use Rattle.rules_hydro.proofs.Exactly.{limits_exactly, near_price, far_price}

module _ (x : Hydro) where
  -- ---- the limits, and the tests of the code
  pub unmet : (Limited x → ⊥) → limits_good x ≡ false
  unmet fails = go (limits_good x) refl
    where
      go : (t : Bool) → limits_good x ≡ t → t ≡ false
      go true e = absurd (fails ((limits_exactly x).0 e))
      go false e = refl

  pub prices_left : in_range (pos 1) (pos 100000) x.heat ≡ true → in_range (pos 0) (pos 1000000) x.gas ≡ true → 1 ≤ x.hubs → x.hubs ≤ 4 → 1 ≤ x.horizon → x.horizon ≤ 12
      → limits_good x ≡ prices_good x.prices x.hubs x.horizon
  unfolding limits_good
  prices_left a b c d e f = rw (a, b, le-leb 1 x.hubs c, le-leb x.hubs 4 d, le-leb 1 x.horizon e, le-leb x.horizon 12 f)

  -- ---- the refusal, by whether they are met
  pub outside : limits_good x ≡ false → hydro_refusal x ≡ 22
  unfolding hydro_refusal
  outside e = rw e

  pub inside : limits_good x ≡ true → hydro_refusal x ≡ default_refusal (hydro_curve x)
  unfolding hydro_refusal
  inside e = rw e

  -- ---- what they say of each value
  module _ (good : limits_good x ≡ true) where
    ok : Limited x
    ok = (limits_exactly x).0 good

    pub heat_in : in_range (pos 1) (pos 100000) x.heat ≡ true
    heat_in = (range_exactly (pos 1) (pos 100000) x.heat).1 ok.heat

    pub gas_in : in_range (pos 0) (pos 1000000) x.gas ≡ true
    gas_in = (range_exactly (pos 0) (pos 1000000) x.gas).1 ok.gas

    pub counts_in : (x.hubs ≤ 4) × (x.horizon ≤ 12)
    counts_in = (ok.hubs.1, ok.horizon.1)

    small : {z : ℤ} → Between (pos 0) (pos 100000000) z → nat_abs z ≤ 100000000
    small h = abs_bd (bd_between 100000000 h.0 h.1 (omega arith) (le_refl 100000000))

    pub near_in : nat_abs (largest_at x.prices 0 1) ≤ 100000000
    near_in = small (near_price x ok)

    pub far_in : nat_abs (largest_over x.prices x.hubs x.horizon) ≤ 100000000
    far_in = small (far_price x ok)

-- ---- 22 and the price don't depend on the quantities
module _ (low high heat gas : ℤ) (hubs horizon : ℕ) (prices : List ℤ) where
  pub limits_data : (l u : ℤ) {h g : ℤ} → h ≡ heat → g ≡ gas → limits_good (hydro_in l u h g hubs horizon prices) ≡ limits_good (hydro_in low high heat gas hubs horizon prices)
  unfolding limits_good
  limits_data l u a b = rw (a, b)

  pub price_data : (l u : ℤ) {h g : ℤ} → h ≡ heat → g ≡ gas → hydro_price (hydro_in l u h g hubs horizon prices) ≡ hydro_price (hydro_in low high heat gas hubs horizon prices)
  unfolding hydro_price
  price_data l u a b = rw (a, b)

-- ---- the numbers as they are read
pub by_fields : {l l' h h' e e' g g' : ℤ} {n m : ℕ} {p : List ℤ} → l ≡ l' → h ≡ h' → e ≡ e' → g ≡ g' → hydro_in l h e g n m p ≡ hydro_in l' h' e' g' n m p
by_fields a b c d = cc

-- ---- a curve's refusal is told as the pack's
pub told : (P : Refusal → HydroRefusal → Type 0) → ((e : Refusal) (d : HydroRefusal) → P e d → d ≡ why.Curve e) → (r : Result Curve Refusal) (s : Result Curve HydroRefusal)
    → MatchResult r (λ x. s ≡ Ok x) (λ e. IsErrAnd s (P e)) → hydro_number s ≡ outcome_number r
told P each (Ok x) s h = ap hydro_number h
told P each (Err e) (Ok x) h = absurd h
told P each (Err e) (Err d) h = ap (λ (q : HydroRefusal). hydro_number {T = Curve} (Err q)) (each e d h)

-- a refusal has a number, whatever an accepted call gives
pub refused_some : (r : HydroRefusal) → 0 < hydro_number {T = RawCurve} (Err r)
refused_some why.OutsideLimits = omega arith
refused_some (why.Curve r) = refused_number r

pub same_number : (r : HydroRefusal) → hydro_number {T = RawCurve} (Err r) ≡ hydro_number {T = Curve} (Err r)
same_number why.OutsideLimits = refl
same_number (why.Curve r) = refl
