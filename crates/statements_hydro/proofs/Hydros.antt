-- Paper 02, 2.8, in full: the hydro default, 22, and a hydro unit in an hour. Assumes nothing.
use Rattle.std.specs.Prelude.{Ok, Err}
use mathlib.Core.List.{List, [], ◌∷◌}
use mathlib.Core.Logic.{◌⊎◌, inl, inr, ◌↔◌}
use mathlib.Core.Path.{◌≡◌, refl, sym, ap, subst}
use Prim.Native.Nat.{ℕ, suc, ◌+◌, ◌*◌, ◌≤◌, ◌<◌}
use native.Mathlib.Omega.{arith}
use lib.IntN.{ℤ, pos, ◌-ℤ◌, ◌*ℤ◌}
use lib.ListN.{get_or}
use lib.Signed.{◌≤ℤ◌, ◌<ℤ◌}
use Rattle.rules_number.specs.Over.{padded}
use Rattle.rules_curve.specs.Curves.{step_to, steps_of, curve_of, no_pack, pack_unless}
use Rattle.rules_curve.specs.Demands.{First}
use Rattle.rules_curve.specs.Refusals.{number_of}
use Rattle.rules_curve.specs.declared.RawStep.{RawStep}
use Rattle.rules_curve.specs.declared.Refusal.{Refusal}
use Rattle.rules_hydro.specs.Conditions.{Limited, Quantities}
use Rattle.rules_hydro.specs.Hydros.{one_step, hydro_price, hydro_curve, hydro_refusal, hydro_in, hydro_number, hydro_pack}
use Rattle.rules_hydro.specs.Meaning.{AtHub, Priced, SameRead}
use Rattle.rules_hydro.specs.declared.Hydro.{Hydro}
use Rattle.rules_hydro.specs.declared.HydroRefusal.TheVariants as why
use Rattle.rules_hydro.proofs.Exactly.{hydro_exactly}
use Rattle.rules_hydro.proofs.HydroPrice.{price_exactly, one_step_lem}
use Rattle.rules_hydro.proofs.Larger.{hydro_more}
use Rattle.rules_hydro.proofs.ReadLaws.{by_name, by_place, named}
use Rattle.rules_hydro.proofs.Unread.{hydro_unread}
use Rattle.statements.proofs.Plain.{Whole, Padded}
use Rattle.statements.proofs.Told.{◌says◌, Item, demands, told, taken}

-- x is lo to hi
abbrev Within : ℤ → ℤ → ℤ → Type 0
Within lo hi x = (lo ≤ℤ x) × (x ≤ℤ hi)

-- price j of hub i: 0 its day-ahead peak, 1 its balance of month, 1 + k that of month k after this one
abbrev price : List ℤ → ℕ → ℕ → ℤ
price prices i j = get_or prices (i * 14 + j) (pos 0)

abbrev blank : RawStep
blank = record { end = pos 0; price = pos 0 }

-- the numbers of an outcome, whatever is handed back, and what a slice of prices stands for
pub numbers : ((T : Type 0) (x : T) → hydro_number (Ok x) ≡ 0) × ((T : Type 0) → hydro_number {T = T} (Err why.OutsideLimits) ≡ 22) × ((T : Type 0) (r : Refusal) → hydro_number {T = T} (Err (why.Curve r)) ≡ number_of r)
numbers = ((λ T x. refl), (λ T. refl), λ T r. refl)

pub given : (low high heat gas : ℤ) (hubs horizon : ℕ) (prices : List ℤ)
    → hydro_in low high heat gas hubs horizon prices ≡ record { low = low; high = high; heat = heat; gas = gas; hubs = hubs; horizon = horizon; prices = prices }
given low high heat gas hubs horizon prices = refl

module _ (x : Hydro) where
  -- ---- 22
  -- "H is 1 to 100,000 Btu/kWh, the horizon 1 to 12 months, hub prices 0 to 100,000,000, gas as in 01"; "over 1 to 4 hubs". "Prices past the horizon or the hub count aren't read."
  abbrev Limits : Type 0
  Limits =
      Within (pos 1) (pos 100000) x.heat × Within (pos 0) (pos 1000000) x.gas × ((1 ≤ x.hubs) × (x.hubs ≤ 4)) × ((1 ≤ x.horizon) × (x.horizon ≤ 12))
      × ((i j : ℕ) → i < x.hubs → j < 2 + x.horizon → Within (pos 0) (pos 100000000) (price x.prices i j))

  limits_are : Limited x ↔ Limits
  limits_are = (
    (λ h. (
      h.heat,
      h.gas,
      h.hubs,
      h.horizon,
      λ i j l m. by_name x.prices i x.horizon (Within (pos 0) (pos 100000000)) (h.peaks i l) (h.balances i l) (λ k a b. h.months i k l a b) j (omega arith),
    )),
    λ h. record {
      heat = h.0;
      gas = h.1;
      hubs = h.2;
      horizon = h.3;
      peaks = λ i l. h.4 i 0 l (omega arith);
      balances = λ i l. h.4 i 1 l (omega arith);
      months = λ i k l a b. h.4 i (suc k) l (omega arith);
    },
  )

  abbrev Edges : Type 0
  Edges = (pos 0 ≤ℤ x.low) × (x.low <ℤ x.high) × (x.high ≤ℤ pos 1000000)

  edges_are : Quantities x ↔ Edges
  edges_are = ((λ h. (h.from, h.rising, h.to)), λ h. record { from = h.0; rising = h.1; to = h.2 })

  abbrev items : List Item
  items = (22 says limits_are) ∷ (2 says edges_are) ∷ []

  -- "It adds 22, a value outside these limits, checked before 1": then 2, and no other
  pub record Refuses (r : ℕ) : Type 0 where
    pub twenty_two : (r ≡ 22) ↔ (Limits → ⊥)
    pub two : (r ≡ 2) ↔ (Limits × (Edges → ⊥))
    pub none : (r ≡ 0) ↔ (Limits × Edges)
    pub no_other : (r ≡ 0) ⊎ ((r ≡ 2) ⊎ (r ≡ 22))

  pub refuses : Refuses (hydro_refusal x)
  refuses =
      let e : (n : ℕ) → (hydro_refusal x ≡ n) ↔ First n (demands items) = hydro_exactly x in
      record { twenty_two = told items (hydro_refusal x) e 22 refl; two = told items (hydro_refusal x) e 2 refl; none = taken items (hydro_refusal x) e; no_other = one ((e (hydro_refusal x)).0 refl) }
    where
      one : First (hydro_refusal x) (demands items) → (hydro_refusal x ≡ 0) ⊎ ((hydro_refusal x ≡ 2) ⊎ (hydro_refusal x ≡ 22))
      one (inl (m, inl f)) = inl f.1
      one (inl (m, inr f)) = inr (inl f.1)
      one (inr f) = inr (inr f.1)

  -- ---- the price
  -- "up": z is the least whole number at or above n / w
  abbrev Up : ℤ → ℤ → ℤ → Type 0
  Up n w z = (n ≤ℤ (z *ℤ w)) × (((z -ℤ pos 1) *ℤ w) <ℤ n)

  -- z is "the largest of" three
  abbrev LargestOf : ℤ → ℤ → ℤ → ℤ → Type 0
  LargestOf a b c z = ((z ≡ a) ⊎ ((z ≡ b) ⊎ (z ≡ c))) × ((a ≤ℤ z) × (b ≤ℤ z) × (c ≤ℤ z))

  -- "priced at the largest of three amounts, each up"
  pub record PriceIs (p : ℤ) : Type 0 where
    -- "11 × H × gas / 10,000"
    pub floor : ℤ
    pub gas : Up (pos 11 *ℤ x.heat *ℤ x.gas) (pos 10000) floor
    -- "14/10 of the largest of the day-ahead peak, balance-of-month and next-month prices at the default hub"
    pub near : ℤ
    pub default_hub : LargestOf (price x.prices 0 0) (price x.prices 0 1) (price x.prices 0 2) near
    pub short : ℤ
    pub short_term : Up (pos 14 *ℤ near) (pos 10) short
    -- "11/10 of the largest of day-ahead peak, balance-of-month and the monthly prices up to the storage horizon, over 1 to 4 hubs"
    pub far : ℤ
    pub one_read : (i : ℕ) × (j : ℕ) × (i < x.hubs) × (j < 2 + x.horizon) × (far ≡ price x.prices i j)
    pub each_read : (i j : ℕ) → i < x.hubs → j < 2 + x.horizon → price x.prices i j ≤ℤ far
    pub long : ℤ
    pub long_term_lem : Up (pos 11 *ℤ far) (pos 10) long
    pub largest : LargestOf floor short long p

  three : {a b c z : ℤ} → LargestOf a b c z → (y : ℤ) → (y ≡ a) ⊎ ((y ≡ b) ⊎ (y ≡ c)) → y ≤ℤ z
  three {a} {b} {c} {z} h y (inl e) = subst (λ (k : ℤ). k ≤ℤ z) (sym e) h.1.0
  three {a} {b} {c} {z} h y (inr (inl e)) = subst (λ (k : ℤ). k ≤ℤ z) (sym e) h.1.1
  three {a} {b} {c} {z} h y (inr (inr e)) = subst (λ (k : ℤ). k ≤ℤ z) (sym e) h.1.2

  price_told : (p : ℤ) → Priced x p → PriceIs p
  price_told p d =
      let near = d.short_term.largest in
      let far = d.long_term_lem.largest in
      let one = far.one in
      let at = by_place x.prices one.hub x.horizon (λ y. (j : ℕ) × (j < 2 + x.horizon) × (y ≡ price x.prices one.hub j)) (λ j h. (j, omega arith, refl)) _ one.one in
      record {
        floor = d.floor;
        gas = (d.gas_floor_lem.at_or_above, d.gas_floor_lem.least);
        near = d.short_term.of;
        default_hub = (near.one, (near.at_least _ (inl refl), near.at_least _ (inr (inl refl)), near.at_least _ (inr (inr refl))));
        short = d.short;
        short_term = (d.short_term.up.at_or_above, d.short_term.up.least);
        far = d.long_term_lem.of;
        one_read = (one.hub, at.0, one.counted, at.1, at.2);
        each_read = λ i j l h. far.at_least _ (record { hub = i; counted = l; one = named x.prices i x.horizon j (omega arith) });
        long = d.long;
        long_term_lem = (d.long_term_lem.up.at_or_above, d.long_term_lem.up.least);
        largest = (d.largest.one, (d.largest.at_least _ (inl refl), d.largest.at_least _ (inr (inl refl)), d.largest.at_least _ (inr (inr refl))));
      }

  price_back : (p : ℤ) → PriceIs p → Priced x p
  price_back p d =
      let r = d.one_read in
      record {
        floor = d.floor;
        short = d.short;
        long = d.long;
        gas_floor_lem = record { at_or_above = d.gas.0; least = d.gas.1 };
        short_term = record {
          of = d.near;
          largest = record { one = d.default_hub.0; at_least = three d.default_hub };
          up = record { at_or_above = d.short_term.0; least = d.short_term.1 };
        };
        long_term_lem = record {
          of = d.far;
          largest = record {
            one = record { hub = r.0; counted = r.2; one = subst (AtHub x.prices r.0 x.horizon) (sym r.4) (named x.prices r.0 x.horizon r.1 (omega (arith, r.3))) };
            at_least = λ y u. by_place x.prices u.hub x.horizon (λ k. k ≤ℤ d.far) (λ j h. d.each_read u.hub j u.counted (omega arith)) y u.one;
          };
          up = record { at_or_above = d.long_term_lem.0; least = d.long_term_lem.1 };
        };
        largest = record { one = d.largest.0; at_least = three d.largest };
      }

  -- this price, and no other
  pub priced : 1 ≤ x.hubs → (p : ℤ) → (p ≡ hydro_price x) ↔ PriceIs p
  priced some p = let e = price_exactly x some p in ((λ h. price_told p (e.0 h)), λ d. e.1 (price_back p d))

  -- "one step from a given lowest to a given highest quantity": as a curve, and as opening takes it from a pack; a refusal hands back no step
  pub step : ((curve_of (hydro_curve x)).start ≡ Whole x.low) × (steps_of (curve_of (hydro_curve x)) ≡ step_to (Whole x.high) (hydro_price x) ∷ [])
  step = one_step_lem x

  pub handed_back : ((hydro_refusal x ≡ 0) → hydro_pack x ≡ record { start = x.low; count = 1; steps = Padded 11 blank (record { end = x.high; price = hydro_price x } ∷ []) })
      × ((n : ℕ) → hydro_refusal x ≡ suc n → hydro_pack x ≡ record { start = pos 0; count = 0; steps = Padded 11 blank [] })
  unfolding one_step no_pack padded
  handed_back = ((λ e. ap (λ (n : ℕ). pack_unless n (hydro_curve x)) e), λ n e. ap (λ (n : ℕ). pack_unless n (hydro_curve x)) e)

-- ---- two of them
-- "All else the same, the price tables too, a larger hub count or horizon never lowers it where neither is refused": nor where one is
pub never_lowers : (x : Hydro) (hubs horizon : ℕ) → x.hubs ≤ hubs → x.horizon ≤ horizon
    → hydro_price x ≤ℤ hydro_price (record { low = x.low; high = x.high; heat = x.heat; gas = x.gas; hubs = hubs; horizon = horizon; prices = x.prices })
never_lowers x hubs horizon h k = hydro_more x _ (record { low = refl; high = refl; heat = refl; gas = refl; prices = refl }) h k

abbrev with_prices : Hydro → List ℤ → Hydro
with_prices x prices = record { low = x.low; high = x.high; heat = x.heat; gas = x.gas; hubs = x.hubs; horizon = x.horizon; prices = prices }

-- "Prices past the horizon or the hub count aren't read": other prices there change neither the refusal nor the curve
pub unread : (x : Hydro) (other : List ℤ) → ((i j : ℕ) → i < x.hubs → j < 2 + x.horizon → price x.prices i j ≡ price other i j)
    → (hydro_refusal x ≡ hydro_refusal (with_prices x other)) × (hydro_pack x ≡ hydro_pack (with_prices x other))
unread x other h = hydro_unread x (with_prices x other) same
  where
    same : SameRead x (with_prices x other)
    same = record {
      low = refl;
      high = refl;
      heat = refl;
      gas = refl;
      hubs = refl;
      horizon = refl;
      peaks = λ i l. h i 0 l (omega arith);
      balances = λ i l. h i 1 l (omega arith);
      months = λ i k l a b. h i (suc k) l (omega arith);
    }
