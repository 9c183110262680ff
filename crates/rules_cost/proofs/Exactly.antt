-- Costs, refusals 4 to 8, exactly: the number is that of the first demand that is not met, and 0 exactly when all five are met. Assumes nothing.
use mathlib.Core.Bool.{Bool, true, false}
use mathlib.Core.List.{[], ◌∷◌}
use mathlib.Core.Logic.{◌↔◌}
use mathlib.Core.Path.{◌≡◌, refl, sym, ap, ◌∙◌}
use Prim.Native.Nat.{ℕ, zero, suc, ◌<◌}
use lib.IntN.{ℤ, pos, neg_ℤ, ◌*ℤ◌}
use lib.Signed.{le_z, ◌<ℤ◌}
use Rattle.rules_number.specs.Order.{min_z, max_z}
use Rattle.rules_number.specs.Ceil.{ceil_div}
use Rattle.rules_number.proofs.Kit.{lt_not_le, not_le_lt}
use Rattle.rules_number.proofs.CeilSize.{ceil_ge, ceil_lt}
use Rattle.rules_number.proofs.CeilLaws.{ceil_unique}
use Rattle.rules_number.proofs.RangeLaws.{rises}
use Rattle.rules_curve.specs.Demands.{◌asks◌, Between, First}
use Rattle.rules_number.proofs.ExactLaws.{le_exactly, le_z_exactly, lt_z_exactly, and_exactly, range_exactly, all_exactly, iff_then}
use Rattle.rules_curve.proofs.FirstLaws.{exactly, accepted_exactly, first_more}
use Rattle.rules_cost.specs.Conditions.{m, h, w, n, PMax, IsRate, Pointed, Quantified, Heated, Charged, Rated, cost_demands}
use Rattle.rules_cost.specs.Costs.{most_points, count_of_steps, segment_at, end_at, edge_at, point_at, width, unlimited, incremental_rate, rate_at, points_good, mw_suits, mw_good, heat_in_range, heat_good, charges_in_range, prices_in_range, rate_in_range, rates_good, cost_refusal}
use Rattle.rules_cost.proofs.RangeLaws.{above_zero}
use Rattle.rules_cost.proofs.SplitLaws.{segment_among, step_part}
use Rattle.rules_cost.proofs.EdgeLaws.{stands}
use Rattle.rules_cost.specs.declared.Costs.{Costs}

module _ (c : Costs) where
  -- ---- 4
  points_exactly : (points_good c ≡ true) ↔ Pointed c
  points_exactly =
      iff_then (and_exactly _ _ (le_exactly 2 c.count) (le_exactly c.count most_points)) (λ g. record { at_least = g.0; at_most = g.1 }) (λ g. (g.at_least, g.at_most))

  -- ---- 5
  -- point i is in range and, if it is not the first, above the one before it
  Suits : ℕ → Type 0
  Suits zero = Between (pos 0) (pos 1000000) (m c 0)
  Suits (suc i) = Between (pos 0) (pos 1000000) (m c (suc i)) × (m c i <ℤ m c (suc i))

  suits_exactly : (i : ℕ) → (mw_suits c i ≡ true) ↔ Suits i
  unfolding mw_suits Suits
  suits_exactly zero = range_exactly (pos 0) (pos 1000000) (m c 0)
  suits_exactly (suc i) = and_exactly _ _ (range_exactly (pos 0) (pos 1000000) (m c (suc i))) (lt_z_exactly (m c i) (m c (suc i)))

  quantified : ((i : ℕ) → i < c.count → Suits i) → Quantified c
  unfolding Suits
  quantified g = record { within = within; rising = λ i l. (g (suc i) l).1 }
    where
      within : (i : ℕ) → i < c.count → Between (pos 0) (pos 1000000) (m c i)
      within zero l = g 0 l
      within (suc i) l = (g (suc i) l).0

  suiting : Quantified c → (i : ℕ) → i < c.count → Suits i
  unfolding Suits
  suiting g zero l = g.within 0 l
  suiting g (suc i) l = (g.within (suc i) l, g.rising i l)

  pub quantities_exactly : (mw_good c ≡ true) ↔ Quantified c
  unfolding mw_good
  quantities_exactly = iff_then (all_exactly (mw_suits c) Suits c.count suits_exactly) quantified suiting

  -- ---- 6
  heats_exactly : (heat_good c ≡ true) ↔ Heated c
  unfolding heat_good
  heats_exactly = all_exactly (λ i. heat_in_range (h c i)) (λ i. Between (pos 1) (pos 100000) (h c i)) c.count (λ i. range_exactly (pos 1) (pos 100000) (h c i))

  -- ---- 7
  charges_exactly : (prices_in_range c ≡ true) ↔ Charged c
  unfolding prices_in_range charges_in_range
  charges_exactly =
      let million = range_exactly (pos 0) (pos 1000000) in
      iff_then (and_exactly _ _ (million c.gas) (and_exactly _ _ (range_exactly (pos 0) (pos 200000) c.rate)
      (and_exactly _ _ (range_exactly (pos 0) (pos 10000000) c.allowance) (and_exactly _ _ (million c.om)
      (and_exactly _ _ (million c.msc) (and_exactly _ _ (million c.soc) (million c.fee)))))))
      (λ g. record { gas = g.0; rate = g.1.0; allowance = g.1.1.0; om = g.1.1.1.0; msc = g.1.1.1.1.0; soc = g.1.1.1.1.1.0; fee = g.1.1.1.1.1.1 })
      (λ g. (g.gas, (g.rate, (g.allowance, (g.om, (g.msc, (g.soc, g.fee)))))))

  -- ---- 8, where the quantities rise
  module _ (good : Quantified c) (i : ℕ) (l : suc i < c.count) (to : ℤ) where
    abbrev W : ℕ
    W = width (point_at c i) (point_at c (suc i))

    wide : 0 < W
    unfolding width
    wide = rises (m c i) (m c (suc i)) ((lt_z_exactly (m c i) (m c (suc i))).1 (good.rising i l))

    w_is : pos W ≡ w c i
    unfolding width
    w_is = above_zero (w c i) wide

    up : ℤ
    up = ceil_div (n c i) W

    -- R of a part of the segment i that ends at `to`
    abbrev rate : ℤ
    rate = incremental_rate (PMax c) to (point_at c i) (point_at c (suc i))

    abbrev Limit : Bool
    Limit = le_z (pos 5 *ℤ to) (pos 4 *ℤ PMax c)

    on : Limit ≡ true → rate ≡ min_z up (max_z (h c i) (h c (suc i)))
    unfolding incremental_rate unlimited up
    on e = rw e

    off : Limit ≡ false → rate ≡ up
    unfolding incremental_rate unlimited up
    off e = rw e

    -- there is one R, and no other
    pub rate_is : IsRate c i to rate
    unfolding up
    rate_is = record {
      q = up;
      enough = rw (← w_is) (ceil_ge (n c i) W wide);
      no_more = rw (← w_is) (ceil_lt (n c i) W wide);
      limited = λ a. on ((le_z_exactly (pos 5 *ℤ to) (pos 4 *ℤ PMax c)).1 a);
      unlimited = λ a. off (lt_not_le (pos 4 *ℤ PMax c) (pos 5 *ℤ to) ((lt_z_exactly (pos 4 *ℤ PMax c) (pos 5 *ℤ to)).1 a));
    }

    pub rate_only : (R : ℤ) → IsRate c i to R → R ≡ rate
    unfolding up
    rate_only R r = go Limit refl
      where
        same : r.q ≡ up
        same = ceil_unique (n c i) r.q W wide (rw w_is r.enough) (rw w_is r.no_more)

        go : (t : Bool) → Limit ≡ t → R ≡ rate
        go true e =
            r.limited ((le_z_exactly (pos 5 *ℤ to) (pos 4 *ℤ PMax c)).0 e) ∙ ap (λ (x : ℤ). min_z x (max_z (h c i) (h c (suc i)))) same ∙ sym (on e)
        go false e =
            r.unlimited ((lt_z_exactly (pos 4 *ℤ PMax c) (pos 5 *ℤ to)).0 (not_le_lt (pos 5 *ℤ to) (pos 4 *ℤ PMax c) e)) ∙ same ∙ sym (off e)

  -- of the steps
  module _ (good : Quantified c) where
    rising : mw_good c ≡ true
    rising = quantities_exactly.1 good

    pub step_rate_is : (t : ℕ) → t < count_of_steps c → IsRate c (segment_at c t) (end_at c t) (rate_at c t)
    unfolding rate_at
    step_rate_is t l = rate_is good (segment_at c t) (segment_among c rising t l) (end_at c t)

    pub step_rate_only : (t : ℕ) → t < count_of_steps c → (R : ℤ) → IsRate c (segment_at c t) (end_at c t) R → R ≡ rate_at c t
    unfolding rate_at
    step_rate_only t l R r = rate_only good (segment_at c t) (segment_among c rising t l) (end_at c t) R r

    rates_exactly : (rates_good c ≡ true) ↔ Rated c
    unfolding rates_good edge_at
    rates_exactly =
        iff_then (all_exactly (λ t. rate_in_range (rate_at c t)) (λ t. Between (neg_ℤ (pos 100000)) (pos 100000) (rate_at c t)) (count_of_steps c)
        (λ t. range_exactly (neg_ℤ (pos 100000)) (pos 100000) (rate_at c t)))
        (λ g i l from to R p r.
        let s = stands c rising i from to l p in
        rw (step_rate_only s.at s.among R (rw (s.segment, s.ends) r)) (g s.at s.among))
        (λ g t l. g (segment_at c t) (segment_among c rising t l) (edge_at c t) (end_at c t) (rate_at c t) (step_part c rising t l) (step_rate_is t l))

  -- ---- the theorems
  pub cost_first : First (cost_refusal c) (cost_demands c)
  unfolding cost_refusal
  cost_first =
      first_more ((4 asks Pointed c) ∷ (5 asks Quantified c) ∷ (6 asks Heated c) ∷ (7 asks Charged c) ∷ []) _ (rates_good c) 7
      (first_more ((4 asks Pointed c) ∷ (5 asks Quantified c) ∷ (6 asks Heated c) ∷ []) _ (prices_in_range c) 6
      (first_more ((4 asks Pointed c) ∷ (5 asks Quantified c) ∷ []) _ (heat_good c) 5
      (first_more ((4 asks Pointed c) ∷ []) _ (mw_good c) 4 (first_more [] 0 (points_good c) 3 refl (λ a. points_exactly)) (λ a. quantities_exactly)) (λ a. heats_exactly))
      (λ a. charges_exactly))
      (λ a. rates_exactly a.1.0)

  -- costs are refused with k exactly when k is the number of the first demand that they do not meet
  pub cost_exactly : (k : ℕ) → (cost_refusal c ≡ k) ↔ First k (cost_demands c)
  cost_exactly k = exactly (cost_demands c) (cost_refusal c) cost_first k

  -- and are taken exactly when they meet all five
  pub cost_accepted : (cost_refusal c ≡ 0) ↔ (Pointed c × Quantified c × Heated c × Charged c × Rated c)
  cost_accepted =
      iff_then (accepted_exactly (cost_demands c) (cost_refusal c) cost_first) (λ a. (a.0, a.1.0, a.1.1.0, a.1.1.1.0, a.1.1.1.1.0)) (λ a. (a.0, (a.1, (a.2, (a.3, (a.4, tt))))))
