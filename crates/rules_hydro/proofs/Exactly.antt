-- 22, then 1 to 3, exactly (paper 02, 2.8): 22 where a value lies outside the request's limits, then 2 where the quantities are no edges of a step; 1 and 3 never. Assumes
-- nothing.
use mathlib.Core.Bool.{true}
use mathlib.Core.List.{[], ◌∷◌}
use mathlib.Core.Logic.{inl, inr, ◌↔◌}
use mathlib.Core.Path.{◌≡◌, refl, sym, subst}
use Prim.Native.Nat.{ℕ, zero, suc, ◌+◌, ◌≤◌, ◌<◌}
use native.Mathlib.Nat.{le_refl}
use native.Mathlib.Omega.{arith}
use lib.IntN.{ℤ, pos, neg_ℤ, ◌*ℤ◌}
use lib.ListN.{length}
use lib.Signed.{◌≤ℤ◌, ◌<ℤ◌}
use Rattle.rules_number.specs.Over.{padded}
use Rattle.rules_number.proofs.CeilSize.{bd_ceil}
use Rattle.rules_number.proofs.ExactLaws.{le_exactly, and_exactly, range_exactly, all_exactly, iff_then}
use Rattle.rules_number.proofs.Kit.{Bd, bd_lit, bd_mul, bd_le, bd_between, var, lit, neg, le_by, lt_of, ≤ℤ_trans}
use Rattle.rules_curve.specs.Curves.{most_steps, default_refusal}
use Rattle.rules_curve.specs.Demands.{◌asks◌, First, Between}
use Rattle.rules_curve.specs.Refusals.{unless}
use Rattle.rules_curve.specs.Conditions.{edge, price, Counted, Edged, DefaultPriced, default_demands}
use Rattle.rules_curve.proofs.Exactly.{default_first}
use Rattle.rules_curve.proofs.FirstLaws.{exactly, first_one, first_then}
use Rattle.rules_hydro.specs.Hydros.{one_step, hub_price, largest_at, largest_over, hydro_price, hydro_curve, prices_good, limits_good, hydro_refusal}
use Rattle.rules_hydro.specs.Conditions.{IsHubPrice, Limited, Quantities, hydro_demands, own_demands}
use Rattle.rules_hydro.specs.declared.Hydro.{Hydro}
use Rattle.rules_hydro.specs.Meaning.{Up, Tenths, AtDefaultHub, AtHub, OneOf, Priced}
use Rattle.rules_hydro.proofs.HydroPrice.{up_only, hydro_priced}
use Rattle.rules_hydro.proofs.ReadLaws.{by_name, largest_default, largest_over_lem}

-- ---- 22
module _ (x : Hydro) where
  -- the prices that are read, by place
  read_exactly : (prices_good x.prices x.hubs x.horizon ≡ true) ↔ ((i : ℕ) → i < x.hubs → (j : ℕ) → j < x.horizon + 2 → IsHubPrice (hub_price x.prices i j))
  unfolding prices_good
  read_exactly =
      all_exactly _ (λ i. (j : ℕ) → j < x.horizon + 2 → IsHubPrice (hub_price x.prices i j)) x.hubs
      (λ i. all_exactly _ (λ j. IsHubPrice (hub_price x.prices i j)) (x.horizon + 2) (λ j. range_exactly (pos 0) (pos 100000000) (hub_price x.prices i j)))

  pub limits_exactly : (limits_good x ≡ true) ↔ Limited x
  unfolding limits_good
  limits_exactly =
      iff_then
      (and_exactly _ _ (range_exactly (pos 1) (pos 100000) x.heat)
      (and_exactly _ _ (range_exactly (pos 0) (pos 1000000) x.gas)
      (and_exactly _ _ (and_exactly _ _ (le_exactly 1 x.hubs) (le_exactly x.hubs 4))
      (and_exactly _ _ (and_exactly _ _ (le_exactly 1 x.horizon) (le_exactly x.horizon 12)) read_exactly))))
      (λ h. record {
        heat = h.0;
        gas = h.1.0;
        hubs = h.1.1.0;
        horizon = h.1.1.1.0;
        peaks = λ i l. h.1.1.1.1 i l 0 (omega arith);
        balances = λ i l. h.1.1.1.1 i l 1 (omega arith);
        months = λ i k l a b. h.1.1.1.1 i l (suc k) (omega arith);
      })
      (λ h. (
        h.heat,
        (h.gas, (h.hubs, (h.horizon, λ i l j b. by_name x.prices i x.horizon IsHubPrice (h.peaks i l) (h.balances i l) (λ k c d. h.months i k l c d) j (omega arith)))),
      ))

-- ---- the price is in range
module _ (x : Hydro) (ok : Limited x) where
  -- each price that is read is a hub price
  near : (y : ℤ) → AtDefaultHub x.prices y → IsHubPrice y
  near y (inl e) = subst IsHubPrice (sym e) (ok.peaks 0 ok.hubs.0)
  near y (inr (inl e)) = subst IsHubPrice (sym e) (ok.balances 0 ok.hubs.0)
  near y (inr (inr e)) = subst IsHubPrice (sym e) (ok.months 0 1 ok.hubs.0 (omega arith) ok.horizon.0)

  at_hub : (y : ℤ) (i : ℕ) → i < x.hubs → AtHub x.prices i x.horizon y → IsHubPrice y
  at_hub y i l (inl e) = subst IsHubPrice (sym e) (ok.peaks i l)
  at_hub y i l (inr (inl e)) = subst IsHubPrice (sym e) (ok.balances i l)
  at_hub y i l (inr (inr m)) = subst IsHubPrice (sym m.is) (ok.months i m.k l m.from m.to)

  -- and so are the largest of them
  pub near_price : IsHubPrice (largest_at x.prices 0 1)
  near_price = near _ (largest_default x.prices).one

  pub far_price : IsHubPrice (largest_over x.prices x.hubs x.horizon)
  far_price = let u = (largest_over_lem x.prices x.hubs x.horizon ok.hubs.0).one in at_hub _ u.hub u.counted u.one

  tenths_size : (n : ℕ) {Is : ℤ → Type 0} {z : ℤ} → n ≤ 14 → ((y : ℤ) → Is y → IsHubPrice y) → Tenths n Is z → Bd 140000001 z
  tenths_size n {Is} {z} few each t =
      let p = each t.of t.largest.one in
      rw (up_only (pos n *ℤ t.of) z 10 (omega arith) t.up)
      (bd_le (omega arith) (bd_ceil 10 (omega arith) (bd_mul (bd_lit n) (bd_between 100000000 p.0 p.1 (omega arith) (le_refl 100000000)))))

  floor_size : {z : ℤ} → Up (pos 11 *ℤ x.heat *ℤ x.gas) (pos 10000) z → Bd 140000001 z
  floor_size {z} u =
      let heat = bd_between 100000 ok.heat.0 ok.heat.1 (omega arith) (le_refl 100000) in
      let gas = bd_between 1000000 ok.gas.0 ok.gas.1 (omega arith) (le_refl 1000000) in
      rw (up_only (pos 11 *ℤ x.heat *ℤ x.gas) z 10000 (omega arith) u) (bd_le (omega arith) (bd_ceil 10000 (omega arith) (bd_mul (bd_mul (bd_lit 11) heat) gas)))

  in_range_lem : Between (neg_ℤ (pos 1000000000)) (pos 1000000000) (hydro_price x)
  in_range_lem =
      let s = (size (hydro_priced x ok.hubs.0)).bd in
      (le_by (neg (lit 1000000000)) (var (hydro_price x)) (omega arith), le_by (var (hydro_price x)) (lit 1000000000) (omega arith))
    where
      size : Priced x (hydro_price x) → Bd 140000001 (hydro_price x)
      size d = go d.largest.one
        where
          go : OneOf d.floor d.short d.long (hydro_price x) → Bd 140000001 (hydro_price x)
          go (inl e) = subst (Bd 140000001) (sym e) (floor_size d.gas_floor_lem)
          go (inr (inl e)) = subst (Bd 140000001) (sym e) (tenths_size 14 (omega arith) near d.short_term)
          go (inr (inr e)) = subst (Bd 140000001) (sym e) (tenths_size 11 (omega arith) (λ y u. at_hub y u.hub u.counted u.one) d.long_term_lem)

-- ---- the step: of 1 to 3 only 2 is left to ask
module _ (x : Hydro) where
  full : length (hydro_curve x).steps ≡ most_steps
  unfolding one_step padded
  full = refl

  counted : Counted 11 (hydro_curve x)
  unfolding one_step
  counted = record { at_least = omega arith; at_most = omega arith }

  edged : Edged (hydro_curve x) → Quantities x
  unfolding one_step padded
  edged h = record { from = (h.within 0 (omega arith)).0; rising = h.rising 0 (omega arith); to = (h.within 1 (omega arith)).1 }

  quantities : Quantities x → Edged (hydro_curve x)
  unfolding one_step padded
  quantities h = record { within = within; rising = rising }
    where
      below : x.low ≤ℤ x.high
      below = le_by (var x.low) (var x.high) (omega (arith, lt_of h.rising))

      within : (i : ℕ) → i ≤ 1 → Between (pos 0) (pos 1000000) (edge (hydro_curve x) i)
      within zero l = (h.from, ≤ℤ_trans below h.to)
      within (suc zero) l = (≤ℤ_trans h.from below, h.to)
      within (suc (suc i)) l = absurd (omega arith)

      rising : (i : ℕ) → i < 1 → edge (hydro_curve x) i <ℤ edge (hydro_curve x) (suc i)
      rising zero l = h.rising
      rising (suc i) l = absurd (omega arith)

  priced : Limited x → DefaultPriced (hydro_curve x)
  unfolding one_step padded
  priced ok = record { within = within; never_falling_lem = λ i l. absurd (omega arith) }
    where
      within : (i : ℕ) → i < 1 → Between (neg_ℤ (pos 1000000000)) (pos 1000000000) (price (hydro_curve x) i)
      within zero l = in_range_lem x ok
      within (suc i) l = absurd (omega arith)

  own : (n : ℕ) → First n (hydro_demands x) → First n (own_demands x)
  own n (inr f) = inr f
  own n (inl (ok, inr f)) = absurd (f.0 counted)
  own n (inl (ok, inl (a, inr f))) = inl (ok, inr ((λ q. f.0 (quantities q)), f.1, f.2))
  own n (inl (ok, inl (a, inl (b, inr f)))) = absurd (f.0 (priced ok))
  own n (inl (ok, inl (a, inl (b, inl f)))) = inl (ok, inl (edged b, f.1))

  -- ---- the theorem: "It adds 22, a value outside these limits, checked before 1"
  hydro_first : First (hydro_refusal x) (hydro_demands x)
  unfolding hydro_refusal
  hydro_first =
      first_then ((22 asks Limited x) ∷ []) (default_demands (hydro_curve x)) (unless (limits_good x) 22) (default_refusal (hydro_curve x)) (first_one (limits_good x) 21 (limits_exactly x))
      (λ m. default_first (hydro_curve x) full)

  -- 22, then 2, and no other number
  pub hydro_exactly : (n : ℕ) → (hydro_refusal x ≡ n) ↔ First n (own_demands x)
  hydro_exactly n = exactly (own_demands x) (hydro_refusal x) (own (hydro_refusal x) hydro_first) n
