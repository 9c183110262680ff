-- Costs in range, taken apart: the range of each field and of each point, and the widths. Assumes nothing.
use mathlib.Core.Bool.{Bool, true, false, ◌&&◌}
use mathlib.Core.Path.{◌≡◌, refl, sym, ◌∙◌}
use Prim.Native.Nat.{ℕ, zero, suc, ◌≤◌, ◌<◌}
use native.Mathlib.Omega.{arith}
use borrow.Author.Tests.{leb-true}
use lib.Dec.{leb, lit≤}
use lib.IntN.{ℤ, pos, negsuc, neg_ℤ}
use lib.Signed.{lt_z, ◌≤ℤ◌}
use Rattle.rules_number.specs.Order.{in_range, nat_of}
use Rattle.rules_number.proofs.Kit.{Bd, bd_between, in_lo, in_hi}
use Rattle.rules_number.proofs.OverLaws.{both, all_at}
use Rattle.rules_number.proofs.RangeLaws.{bd_in}
use Rattle.rules_cost.specs.Costs.{most_points, mw_at, heat_at, mw_in_range, heat_in_range, rate_in_range, mw_suits, points_good, mw_good, heat_good, charges_in_range, prices_in_range}
use Rattle.rules_cost.specs.declared.Costs.{Costs}

-- ---- the size of what is in range
pub mw_size : (m : ℤ) → mw_in_range m ≡ true → Bd 1000000 m
mw_size m e = bd_in 0 1000000 m e

pub heat_size : (h : ℤ) → heat_in_range h ≡ true → Bd 100000 h
heat_size h e = bd_in 1 100000 h e

pub rate_size : (R : ℤ) → rate_in_range R ≡ true → Bd 100000 R
rate_size R e =
    bd_between 100000 (in_lo (neg_ℤ (pos 100000)) (pos 100000) R e) (in_hi (neg_ℤ (pos 100000)) (pos 100000) R e) (lit≤ tt) (lit≤ tt)

pub rate_lowest : (R : ℤ) → rate_in_range R ≡ true → neg_ℤ (pos 100000) ≤ℤ R
rate_lowest R e = in_lo (neg_ℤ (pos 100000)) (pos 100000) R e

-- ---- 4: the count
pub few : (c : Costs) → points_good c ≡ true → (2 ≤ c.count) × (c.count ≤ most_points)
few c h = let b = both (leb 2 c.count) (leb c.count most_points) h in (leb-true _ _ b.0, leb-true _ _ b.1)

-- ---- 5: the quantities
-- the quantity before point i, and one below every quantity before the first
unfoldable pub mw_before : Costs → ℕ → ℤ
mw_before c zero = negsuc 0
mw_before c (suc i) = mw_at c i

pub suits_is : (c : Costs) (i : ℕ) → mw_suits c i ≡ (mw_in_range (mw_at c i) && lt_z (mw_before c i) (mw_at c i))
unfolding mw_suits mw_before in_range
suits_is c zero = above (mw_at c 0)
  where
    kept : (a : Bool) → a ≡ (a && true)
    kept true = refl
    kept false = refl

    above : (m : ℤ) → mw_in_range m ≡ (mw_in_range m && lt_z (negsuc 0) m)
    above (pos n) = kept (mw_in_range (pos n))
    above (negsuc n) = refl
suits_is c (suc i) = refl

module _ (c : Costs) (quantities : mw_good c ≡ true) where
  mw_suits_lem : (i : ℕ) → i < c.count → mw_suits c i ≡ true
  unfolding mw_good
  mw_suits_lem = all_at (mw_suits c) c.count quantities

  pub mw_in : (i : ℕ) → i < c.count → mw_in_range (mw_at c i) ≡ true
  mw_in i l = (both (mw_in_range (mw_at c i)) (lt_z (mw_before c i) (mw_at c i)) (sym (suits_is c i) ∙ mw_suits_lem i l)).0

  pub mw_rises : (i : ℕ) → suc i < c.count → lt_z (mw_at c i) (mw_at c (suc i)) ≡ true
  unfolding mw_suits
  mw_rises i l = (both (mw_in_range (mw_at c (suc i))) (lt_z (mw_at c i) (mw_at c (suc i))) (mw_suits_lem (suc i) l)).1

-- a number whose whole is above 0 is that whole
pub above_zero : (z : ℤ) → 0 < nat_of z → pos (nat_of z) ≡ z
above_zero (pos k) a = refl
above_zero (negsuc k) a = absurd (omega arith)

-- ---- 6: the heat rates
pub heat_in : (c : Costs) → heat_good c ≡ true → (i : ℕ) → i < c.count → heat_in_range (heat_at c i) ≡ true
unfolding heat_good
heat_in c h = all_at (λ i. heat_in_range (heat_at c i)) c.count h

-- ---- 7: prices, rate and fee
pub record Sizes (c : Costs) : Type 0 where
  pub gas : Bd 1000000 c.gas
  pub rate : Bd 200000 c.rate
  pub allowance : Bd 10000000 c.allowance
  pub om : Bd 1000000 c.om
  pub msc : Bd 1000000 c.msc
  pub soc : Bd 1000000 c.soc
  pub fee : Bd 1000000 c.fee

pub sizes : (c : Costs) → prices_in_range c ≡ true → Sizes c
unfolding prices_in_range charges_in_range
sizes c h =
    let f = in_range (pos 0) (pos 1000000) c.fee in
    let s = in_range (pos 0) (pos 1000000) c.soc in
    let m = in_range (pos 0) (pos 1000000) c.msc in
    let o = in_range (pos 0) (pos 1000000) c.om in
    let a = in_range (pos 0) (pos 10000000) c.allowance in
    let r = in_range (pos 0) (pos 200000) c.rate in
    let g = in_range (pos 0) (pos 1000000) c.gas in
    let x1 = both g (r && (a && (o && (m && (s && f))))) h in
    let x2 = both r (a && (o && (m && (s && f)))) x1.1 in
    let x3 = both a (o && (m && (s && f))) x2.1 in
    let x4 = both o (m && (s && f)) x3.1 in
    let x5 = both m (s && f) x4.1 in
    let x6 = both s f x5.1 in
    record {
      gas = bd_in 0 1000000 c.gas x1.0;
      rate = bd_in 0 200000 c.rate x2.0;
      allowance = bd_in 0 10000000 c.allowance x3.0;
      om = bd_in 0 1000000 c.om x4.0;
      msc = bd_in 0 1000000 c.msc x5.0;
      soc = bd_in 0 1000000 c.soc x6.0;
      fee = bd_in 0 1000000 c.fee x6.1;
    }
