-- An opening whose counts are held in 63 bits is refused and opened as the opening itself: a count past the room is refused either way. Assumes nothing.
use Prim.Native.Nat.{ℕ, zero, suc, ◌≤◌, ◌<◌}
use mathlib.Core.Bool.{Bool, ◌&&◌}
use mathlib.Core.List.{List, [], ◌∷◌, map}
use mathlib.Core.Logic.{◌⊎◌, inl, inr, ⊎_elim}
use mathlib.Core.Path.{◌≡◌, refl, sym, ap, ap₂, fun_ext, ◌∙◌}
use native.Mathlib.Omega.{arith}
use borrow.Author.Tests.{lt-leb}
use lib.Dec.{leb}
use lib.IntN.{ℤ}
use lib.ListN.{get_or}
use Rattle.rules_number.specs.Order.{nat_of}
use Rattle.rules_number.specs.Over.{all_to, listed, padded}
use Rattle.rules_number.proofs.OverLaws.{le_or_lt, listed_same}
use Rattle.rules_curve.specs.Curves.{most_steps, most_bid_steps, curve_of, curve_refusal, bid_refusal, lowest_bid, highest_bid, lowest_default, highest_default}
use Rattle.rules_curve.specs.Refusals.{unless, ◌then◌, each_to}
use Rattle.rules_curve.specs.declared.Curve.{Curve}
use Rattle.rules_curve.specs.declared.RawCurve.{RawCurve}
use Rattle.rules_cost.specs.Costs.{most_points, cost_curve, cost_refusal}
use Rattle.rules_cost.specs.declared.Costs.{Costs}
use Rattle.rules_opening.specs.Openings.{resource_at, seller_at, no_resource, is_known, counts_good, opening_refusal, sellers_good, owners_good, market_of}
use Rattle.rules_opening.specs.Resources.{blank_row, lies_inside, source_refusal, default_by, resource_refusal, row_of}
use Rattle.rules_opening.specs.declared.Opening.{Opening}
use Rattle.rules_opening.specs.declared.Resource.{Resource}
use Rattle.rules_opening.specs.declared.Row.{Row}
use Rattle.rules_opening.specs.declared.Source.{Source}
use Rattle.rules_opening.specs.declared.Source.TheVariants as source
use Rattle.rules_hour.specs.Hours.{Hour, fresh_standing}
use Rattle.rules_hour.specs.Opened.{opened_hour, fresh_hour, hour_unless}
use Rattle.rules_hour.proofs.AcceptedOpening.{resource_checks}
use Rattle.rules_pass.specs.Passes.{RealTimeHour, fresh_quarter, opened_real_time}
use Rattle.rules_text.proofs.ListLaws.{and-false}
use Rattle.rules_state.specs.States.{cell_of}
use Rattle.opening_puts.proofs.BackLaws.{held_curve, held_costs, held_resource, held_opening}

-- ---- a count is held, or past any room
held : ℕ → ℕ
held n = nat_of (cell_of n)

count_held : (n : ℕ) → (held n ≡ n) ⊎ ((11 < n) × (11 < held n))
unfolding held
count_held n = ⊎_elim (λ l. inl (omega arith)) (λ l. inr (omega arith, omega arith)) (le_or_lt n 9223372036854775807)

-- ---- a curve
too_many : (most : ℕ) (low top : ℤ) (c : RawCurve) → most < c.count → curve_refusal most low top c ≡ 1
unfolding curve_refusal
too_many most low top c h = rw (lt-leb c.count most h, and-false (leb 1 c.count))

curve_with_lem : RawCurve → ℕ → RawCurve
curve_with_lem c n = record { start = c.start; count = n; steps = c.steps }

curve_number : (most : ℕ) (low top : ℤ) (c : RawCurve) → most ≤ 11 → curve_refusal most low top (held_curve c) ≡ curve_refusal most low top c
unfolding held_curve held curve_with_lem
curve_number most low top c m =
    ⊎_elim (λ e. ap (λ (n : ℕ). curve_refusal most low top (curve_with_lem c n)) e)
    (λ b. too_many most low top (held_curve c) (omega (arith, b.1)) ∙ sym (too_many most low top c (omega (arith, b.0)))) (count_held c.count)

curve_same : (most : ℕ) (low top : ℤ) (c : RawCurve) → most ≤ 11 → curve_refusal most low top c ≡ 0 → curve_of (held_curve c) ≡ curve_of c
unfolding held_curve held curve_with_lem
curve_same most low top c m e =
    ⊎_elim (λ z. ap (λ (n : ℕ). curve_of (curve_with_lem c n)) z)
    (λ b. absurd (let z = too_many most low top c (omega (arith, b.0)) in omega (arith, sym z ∙ e))) (count_held c.count)

-- ---- costs
many_points : (c : Costs) → most_points < c.count → cost_refusal c ≡ 4
unfolding cost_refusal
many_points c h = rw (lt-leb c.count most_points h, and-false (leb 2 c.count))

costs_with : Costs → ℕ → Costs
costs_with c n = record {
  count = n;
  points = c.points;
  gas = c.gas;
  rate = c.rate;
  allowance = c.allowance;
  om = c.om;
  msc = c.msc;
  soc = c.soc;
  fee = c.fee;
}

cost_number : (c : Costs) → cost_refusal (held_costs c) ≡ cost_refusal c
unfolding held_costs held costs_with
cost_number c =
    ⊎_elim (λ e. ap (λ (n : ℕ). cost_refusal (costs_with c n)) e) (λ b. many_points (held_costs c) b.1 ∙ sym (many_points c b.0)) (count_held c.count)

cost_same : (c : Costs) → cost_refusal c ≡ 0 → cost_curve (held_costs c) ≡ cost_curve c
unfolding held_costs held costs_with
cost_same c e =
    ⊎_elim (λ z. ap (λ (n : ℕ). cost_curve (costs_with c n)) z) (λ b. absurd (let z = many_points c b.0 in omega (arith, sym z ∙ e))) (count_held c.count)

-- ---- a resource
source_number_lem : (s : Source) (x : Resource) → source_refusal s (held_resource x) ≡ source_refusal s x
unfolding held_resource
source_number_lem source.Costs x = cost_number x.costs
source_number_lem source.Pack x = curve_number most_steps lowest_default highest_default x.pack (omega arith)

source_same : (s : Source) (x : Resource) → source_refusal s x ≡ 0 → default_by s (held_resource x) ≡ default_by s x
unfolding held_resource
source_same source.Costs x e = cost_same x.costs e
source_same source.Pack x e = curve_same most_steps lowest_default highest_default x.pack (omega arith) e

third : (a b c d : ℕ) → (a ≡ 0 → b ≡ 0 → c ≡ d) → (a then b then c) ≡ (a then b then d)
third zero zero c d h = h refl refl
third zero (suc b) c d h = refl
third (suc a) b c d h = refl

bid_same : (month : ℕ) (x : Resource) → bid_refusal month x.bid ≡ 0 → curve_of (held_curve x.bid) ≡ curve_of x.bid
bid_same month x e = curve_same most_bid_steps lowest_bid (highest_bid month) x.bid (omega arith) e

resource_number : (month : ℕ) (x : Resource) → resource_refusal month (held_resource x) ≡ resource_refusal month x
unfolding resource_refusal held_resource
resource_number month x =
    let inside : Curve → Curve → ℕ = λ b d. unless (lies_inside b d) 11 in
    let a = curve_number most_bid_steps lowest_bid (highest_bid month) x.bid (omega arith) in
    let b = source_number_lem x.source x in
    ap₂ (λ (i j : ℕ). i then j then inside (curve_of (held_curve x.bid)) (default_by x.source (held_resource x))) a b
    ∙ third (bid_refusal month x.bid) (source_refusal x.source x) (inside (curve_of (held_curve x.bid)) (default_by x.source (held_resource x))) (inside (curve_of x.bid) (default_by x.source x))
    (λ p q. ap₂ inside (bid_same month x p) (source_same x.source x q))

row_same : (month : ℕ) (x : Resource) → bid_refusal month x.bid ≡ 0 → source_refusal x.source x ≡ 0 → row_of (held_resource x) ≡ row_of x
unfolding row_of held_resource
row_same month x p q = ap₂ (λ (b d : Curve). record { bid = b; default = d }) (bid_same month x p) (source_same x.source x q)

-- ---- the opening
-- a fresh hour of these owners and rows, and the hour in real time that begins with an hour
abbrev fresh_with : Opening → (ℕ → ℕ) → List Row → Hour
fresh_with o f l = record {
  market = record { resources = o.resources; portfolio = padded 64 0 (listed f o.resources); seller = padded 16 0 (listed (λ p. nat_of (seller_at o p)) o.portfolios) };
  rows = padded 64 blank_row l;
  standing = fresh_standing;
}

abbrev opened_with : Hour → RealTimeHour
opened_with h = record { hour = h; quarter = fresh_quarter }

none_held : no_resource ≡ held_resource no_resource
unfolding held_resource held_curve held_costs
none_held = refl

module _ (o : Opening) where
  resource_held : (r : ℕ) → resource_at (held_opening o) r ≡ held_resource (resource_at o r)
  unfolding held_opening
  resource_held r = go o.list r
    where
      go : (l : List Resource) (k : ℕ) → get_or (map held_resource l) k no_resource ≡ held_resource (get_or l k no_resource)
      go [] k = none_held
      go (x ∷ l) zero = refl
      go (x ∷ l) (suc k) = go l k

  owner_held : (r : ℕ) → (resource_at (held_opening o) r).portfolio ≡ (resource_at o r).portfolio
  unfolding held_resource
  owner_held r = ap (λ (x : Resource). x.portfolio) (resource_held r)

  owners : ◌≡◌ {A = ℕ → Bool} (λ r. is_known o.portfolios (resource_at (held_opening o) r).portfolio) (λ r. is_known o.portfolios (resource_at o r).portfolio)
  owners = fun_ext (λ r. ap (is_known o.portfolios) (owner_held r))

  numbers : ◌≡◌ {A = ℕ → ℕ} (λ r. resource_refusal (nat_of o.month) (resource_at (held_opening o) r)) (λ r. resource_refusal (nat_of o.month) (resource_at o r))
  numbers = fun_ext (λ r. ap (resource_refusal (nat_of o.month)) (resource_held r) ∙ resource_number (nat_of o.month) (resource_at o r))

  pub opening_number : opening_refusal (held_opening o) ≡ opening_refusal o
  unfolding opening_refusal sellers_good owners_good held_opening
  opening_number =
      ap₂ (λ (f : ℕ → Bool) (g : ℕ → ℕ). unless (counts_good o) 9 then unless (sellers_good o && all_to f o.resources) 10 then each_to g o.resources) owners numbers

  -- ---- the hour
  module _ (accepted : opening_refusal o ≡ 0) where
    row_held : (r : ℕ) → r < o.resources → row_of (resource_at (held_opening o) r) ≡ row_of (resource_at o r)
    row_held r l =
        let c = resource_checks o accepted r l in
        ap row_of (resource_held r) ∙ row_same (nat_of o.month) (resource_at o r) c.0 c.1

    fresh_held : fresh_hour (held_opening o) ≡ fresh_hour o
    unfolding fresh_hour market_of held_opening
    fresh_held =
        let whose : ◌≡◌ {A = ℕ → ℕ} (λ r. nat_of (resource_at (held_opening o) r).portfolio) (λ r. nat_of (resource_at o r).portfolio) = fun_ext (λ r. ap nat_of (owner_held r)) in
        let rows : listed (λ r. row_of (resource_at (held_opening o) r)) o.resources ≡ listed (λ r. row_of (resource_at o r)) o.resources =
        listed_same (λ r. row_of (resource_at (held_opening o) r)) (λ r. row_of (resource_at o r)) o.resources row_held in
        ap₂ (λ (f : ℕ → ℕ) (l : List Row). fresh_with o f l) whose rows

  pub opening_same : opened_real_time (held_opening o) ≡ opened_real_time o
  unfolding opened_real_time opened_hour
  opening_same =
      ap (λ (n : ℕ). opened_with (hour_unless n (fresh_hour (held_opening o)))) opening_number ∙ ap opened_with (go (opening_refusal o) refl)
    where
      go : (n : ℕ) → opening_refusal o ≡ n → hour_unless n (fresh_hour (held_opening o)) ≡ hour_unless n (fresh_hour o)
      go zero e = fresh_held e
      go (suc n) e = refl
