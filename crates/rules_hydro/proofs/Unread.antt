-- "Prices past the horizon or the hub count aren't read" (paper 02, 2.8): two that agree in all else have one refusal and one curve, whatever stands there. Assumes nothing.
use mathlib.Core.Bool.{Bool, true, false}
use mathlib.Core.Path.{◌≡◌, refl, ap, ap₂}
use Prim.Native.Nat.{ℕ, zero, suc, ◌+◌, ◌-◌, ◌≤◌, ◌<◌}
use native.Mathlib.Nat.{le_refl}
use native.Mathlib.Omega.{arith}
use lib.IntN.{ℤ}
use Rattle.rules_number.specs.Order.{max_z}
use Rattle.rules_number.specs.Over.{all_to, highest_to}
use Rattle.rules_number.proofs.OverLaws.{all_same}
use Rattle.rules_hydro.specs.Hydros.{hub_price, largest_at, largest_over, short_term_price, long_term, hydro_price, is_hub_price, prices_good, limits_good, hydro_refusal, hydro_pack}
use Rattle.rules_hydro.specs.Meaning.{SameRead}
use Rattle.rules_hydro.specs.declared.Hydro.{Hydro}
use Rattle.rules_hydro.proofs.Exactly.{limits_exactly}

highest_same : (f g : ℕ → ℤ) (n : ℕ) → ((i : ℕ) → i ≤ n → f i ≡ g i) → highest_to f n ≡ highest_to g n
unfolding highest_to
highest_same f g zero h = h 0 (le_refl 0)
highest_same f g (suc n) h = ap₂ max_z (highest_same f g n (λ i l. h i (omega arith))) (h (suc n) (le_refl (suc n)))

module _ (x y : Hydro) (same : SameRead x y) where
  abbrev f : ℕ → ℕ → ℤ
  f = hub_price x.prices

  abbrev g : ℕ → ℕ → ℤ
  g = hub_price y.prices

  read_same : (i j : ℕ) → i < x.hubs → j < x.horizon + 2 → f i j ≡ g i j
  read_same i zero l h = same.peaks i l
  read_same i (suc zero) l h = same.balances i l
  read_same i (suc (suc j)) l h = same.months i (suc j) l (omega arith) (omega arith)

  limits_same : limits_good x ≡ limits_good y
  unfolding limits_good prices_good
  limits_same = rw (read, same.heat, same.gas, same.hubs, same.horizon)
    where
      read : all_to (λ i. all_to (λ j. is_hub_price (f i j)) (x.horizon + 2)) x.hubs ≡ all_to (λ i. all_to (λ j. is_hub_price (g i j)) (x.horizon + 2)) x.hubs
      read = all_same _ _ x.hubs (λ i l. all_same _ _ (x.horizon + 2) (λ j h. ap is_hub_price (read_same i j l h)))

  at_hub : (i n : ℕ) → i < x.hubs → n ≤ x.horizon → largest_at x.prices i n ≡ largest_at y.prices i n
  unfolding largest_at
  at_hub i n l h = highest_same (f i) (g i) (n + 1) (λ j b. read_same i j l (omega arith))

  price_same : 1 ≤ x.hubs → 1 ≤ x.horizon → hydro_price x ≡ hydro_price y
  unfolding hydro_price short_term_price long_term largest_over
  price_same some far = rw (at_hub 0 1 some far, over, same.heat, same.gas, same.hubs, same.horizon)
    where
      over : highest_to (λ i. largest_at x.prices i x.horizon) (x.hubs - 1) ≡ highest_to (λ i. largest_at y.prices i x.horizon) (x.hubs - 1)
      over = highest_same _ _ (x.hubs - 1) (λ i l. at_hub i x.horizon (omega arith) (le_refl x.horizon))

  -- the refusal, and the curve that is handed back
  pub hydro_unread : (hydro_refusal x ≡ hydro_refusal y) × (hydro_pack x ≡ hydro_pack y)
  unfolding hydro_refusal
  hydro_unread = go (limits_good x) refl
    where
      go : (t : Bool) → limits_good x ≡ t → (hydro_refusal x ≡ hydro_refusal y) × (hydro_pack x ≡ hydro_pack y)
      go true e = let ok = (limits_exactly x).0 e in rw (← limits_same, price_same ok.hubs.0 ok.horizon.0, same.low, same.high) (refl, refl)
      go false e = rw (← limits_same, e) (refl, refl)
