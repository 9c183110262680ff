-- The split at the 80% mark, in the request's words (paper 02, Segments across the 80% mark). For any number of points. Assumes nothing.
use mathlib.Core.Bool.{true, false}
use mathlib.Core.Path.{◌≡◌, sym, ap₂, ◌∙◌}
use Prim.Native.Nat.{ℕ, suc, ◌*◌, ◌/◌, ◌≤◌, ◌<◌}
use native.Mathlib.Omega.{arith}
use lib.IntN.{ℤ, pos, ◌+ℤ◌, ◌-ℤ◌, ◌*ℤ◌}
use lib.Signed.{◌≤ℤ◌, ◌<ℤ◌}
use Rattle.rules_number.specs.Order.{min_z, max_z, nat_of}
use Rattle.rules_number.proofs.Kit.{lit, add, mul, le_by, lt_by, lt_not_le}
use Rattle.rules_number.proofs.CeilLaws.{ceil_unique}
use Rattle.rules_number.proofs.RangeLaws.{rises}
use Rattle.rules_number.proofs.ExactLaws.{le_z_exactly, lt_z_exactly}
use Rattle.rules_cost.specs.Conditions.{m, h, w, n, k, PMax, Quantified, Inside}
use Rattle.rules_cost.specs.Costs.{point_at, pmax, mark, segment_count, count_of_steps, end_at, edge_at, width_at, width, unlimited, is_limited, incremental_rate, rate_at, raised_price, mw_good}
use Rattle.rules_cost.proofs.RangeLaws.{above_zero}
use Rattle.rules_cost.proofs.SplitLaws.{segment_to, segment_past, end_split, end_past, edge_to, one_split, whole_mw, inside_whole, split_strictly}
use Rattle.rules_cost.proofs.EdgeLaws.{width_above}
use Rattle.rules_cost.proofs.CostLaws.{raised_never_falls}
use Rattle.rules_cost.specs.declared.Costs.{Costs}

module _ (c : Costs) (quantities : mw_good c ≡ true) (some : 0 < c.count) where
  top : pmax c ≡ pos (nat_of (pmax c))
  top = (whole_mw c quantities (segment_count c) (omega arith)).0

  -- "k, which is 4 × PMax / 5 rounded down": 5 × k <= 4 × PMax < 5 × (k + 1)
  pub mark_down : ((pos 5 *ℤ k c) ≤ℤ (pos 4 *ℤ PMax c)) × ((pos 4 *ℤ PMax c) <ℤ (pos 5 *ℤ (k c +ℤ pos 1)))
  mark_down =
      let P = nat_of (pmax c) in
      let K = 4 * P / 5 in
      rw top (le_by (mul (lit 5) (lit K)) (mul (lit 4) (lit P)) (omega arith), lt_by (mul (lit 4) (lit P)) (mul (lit 5) (add (lit K) (lit 1))) (omega arith))

  -- a step that ends at k or below is limited, one that ends above it isn't
  pub limited_to : (e : ℕ) → e ≤ 4 * nat_of (pmax c) / 5 → is_limited (pmax c) (pos e) ≡ true
  limited_to e h = rw top ((le_z_exactly _ _).1 (le_by (mul (lit 5) (lit e)) (mul (lit 4) (lit (nat_of (pmax c)))) (omega arith)))

  pub not_limited_past : (e : ℕ) → 4 * nat_of (pmax c) / 5 < e → is_limited (pmax c) (pos e) ≡ false
  not_limited_past e h =
      let P = nat_of (pmax c) in
      rw top (lt_not_le (pos 4 *ℤ pos P) (pos 5 *ℤ pos e) ((lt_z_exactly (pos 4 *ℤ pos P) (pos 5 *ℤ pos e)).1 (lt_by (mul (lit 4) (lit P)) (mul (lit 5) (lit e)) (omega arith))))

-- n / w, up, of the whole segment
pub whole_rate : (c : Costs) → Quantified c → (i : ℕ) → suc i < c.count → (q : ℤ) → n c i ≤ℤ (q *ℤ w c i) → ((q -ℤ pos 1) *ℤ w c i) <ℤ n c i
    → q ≡ unlimited (point_at c i) (point_at c (suc i))
unfolding unlimited width
whole_rate c good i l q up down =
    let rise = rises (m c i) (m c (suc i)) ((lt_z_exactly (m c i) (m c (suc i))).1 (good.rising i l)) in
    let e = above_zero (w c i) rise in
    ceil_unique (n c i) q (nat_of (w c i)) rise (rw e up) (rw e down)

-- The segment i, which k lies strictly inside, is the steps i and i + 1.
pub record TwoParts (c : Costs) (i : ℕ) : Type 0 where
  -- the lower reaches from m to k, the upper from k to m'
  pub lower_from : edge_at c i ≡ m c i
  pub lower_to : end_at c i ≡ k c
  pub upper_from : edge_at c (suc i) ≡ k c
  pub upper_to : end_at c (suc i) ≡ m c (suc i)
  pub both_among : suc i < count_of_steps c
  -- "Both parts take n and w of the whole segment for R; the lower part is limited, the upper isn't"
  pub lower_rate : rate_at c i ≡ min_z (unlimited (point_at c i) (point_at c (suc i))) (max_z (h c i) (h c (suc i)))
  pub upper_rate : rate_at c (suc i) ≡ unlimited (point_at c i) (point_at c (suc i))
  -- "The fee is spread over each part's own width"
  pub lower_width : pos (width_at c i) ≡ k c -ℤ m c i
  pub upper_width : pos (width_at c (suc i)) ≡ m c (suc i) -ℤ k c
  -- the upper part's price is raised to the lower's
  pub never_below : raised_price c i ≤ℤ raised_price c (suc i)

module _ (c : Costs) (quantities : mw_good c ≡ true) (i : ℕ) (l : suc i < c.count) (inside : Inside c i) where
  at : Rattle.rules_cost.specs.Costs.split_at c ≡ i
  at = (split_strictly c quantities i l).1 inside

  among : suc i < count_of_steps c
  among = omega (arith, at, one_split c (omega (arith, at)))

  lower_at : (edge_at c i ≡ m c i) × (end_at c i ≡ k c)
  unfolding mark
  lower_at = (edge_to c i (omega (arith, at)), end_split c i (sym at))

  upper_at : (edge_at c (suc i) ≡ k c) × (end_at c (suc i) ≡ m c (suc i))
  unfolding edge_at
  upper_at = (lower_at.1, end_past c i (omega (arith, at)))

  bounds : (nat_of (m c i) < 4 * nat_of (pmax c) / 5) × (4 * nat_of (pmax c) / 5 < nat_of (m c (suc i)))
  bounds = inside_whole c quantities i l inside

  low : rate_at c i ≡ min_z (unlimited (point_at c i) (point_at c (suc i))) (max_z (h c i) (h c (suc i)))
  unfolding rate_at incremental_rate
  low = rw (segment_to c i (omega (arith, at)), lower_at.1, limited_to c quantities (omega arith) (4 * nat_of (pmax c) / 5) (omega arith))

  high : rate_at c (suc i) ≡ unlimited (point_at c i) (point_at c (suc i))
  unfolding rate_at incremental_rate
  high =
      rw (segment_past c i (omega (arith, at)), upper_at.1 ∙ (whole_mw c quantities (suc i) l).0, not_limited_past c quantities (omega arith) (nat_of (m c (suc i))) bounds.1)

  pub split_rates : TwoParts c i
  unfolding width_at
  split_rates = record {
    lower_from = lower_at.0;
    lower_to = lower_at.1;
    upper_from = upper_at.0;
    upper_to = upper_at.1;
    both_among = among;
    lower_rate = low;
    upper_rate = high;
    lower_width = above_zero (end_at c i -ℤ edge_at c i) (width_above c quantities i (omega (arith, among))) ∙ ap₂ (λ (a b : ℤ). a -ℤ b) lower_at.1 lower_at.0;
    upper_width = above_zero (end_at c (suc i) -ℤ edge_at c (suc i)) (width_above c quantities (suc i) among) ∙ ap₂ (λ (a b : ℤ). a -ℤ b) upper_at.1 upper_at.0;
    never_below = raised_never_falls c i;
  }
