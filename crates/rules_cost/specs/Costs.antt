-- The default curve from costs (paper 01, Default curve from costs; 39.7.1.1.1.1; paper 02, Segments across the 80% mark).
-- Segment i lies between point i, (m, h), and point i + 1, (m', h'). A step is a segment, or a part of one that is split.
use Rattle.std.specs.Prelude.{Bool, ◌&&◌, cond, ℕ, zero, suc, ◌-◌, ◌*◌, ◌/◌, leb, ltb, eqb, ℤ, pos, neg_ℤ, ◌+ℤ◌, ◌-ℤ◌, ◌*ℤ◌, get_or}
use Rattle.std.specs.Int.Signed.{le_z, lt_z}
use Rattle.rules_number.specs.Order.{min_z, max_z, in_range, nat_of}
use Rattle.rules_number.specs.Ceil.{ceil_div}
use Rattle.rules_number.specs.Over.{all_to, highest_to, listed}
use Rattle.rules_curve.specs.Refusals.{unless, ◌then◌}
use Rattle.rules_curve.specs.Curves.{step_to, curve_with}
use Rattle.rules_curve.specs.declared.Step.{Step}
use Rattle.rules_curve.specs.declared.Curve.{Curve}
use Rattle.rules_cost.specs.declared.Point.{Point}
use Rattle.rules_cost.specs.declared.Costs.{Costs}

-- the most points of a resource, which is their room
abbrev pub most_points : ℕ
most_points = 11

abbrev pub blank_point : Point
blank_point = record { mw = pos 0; heat = pos 0 }

abbrev pub point_at : Costs → ℕ → Point
point_at c i = get_or c.points i blank_point

-- quantity and average heat rate of point i
abbrev pub mw_at : Costs → ℕ → ℤ
mw_at c i = (point_at c i).mw

abbrev pub heat_at : Costs → ℕ → ℤ
heat_at c i = (point_at c i).heat

-- there is one segment fewer than points
abbrev pub segment_count : Costs → ℕ
segment_count c = c.count - 1

-- PMax, the last m
abbrev pub pmax : Costs → ℤ
pmax c = mw_at c (segment_count c)

-- ---- the split: "splits a segment at k, which is 4 × PMax / 5 rounded down, where k lies strictly inside it"
unfoldable pub mark : Costs → ℤ
mark c = pos (4 * nat_of (pmax c) / 5)

abbrev pub is_split : Costs → ℕ → Bool
is_split c i = lt_z (mw_at c i) (mark c) && lt_z (mark c) (mw_at c (suc i))

-- the first of 0, .., n - 1 of which f holds, and n where it holds of none
unfoldable pub first_to : (ℕ → Bool) → ℕ → ℕ
first_to f zero = 0
first_to f (suc n) =
    let r = first_to f n in
    cond (ltb r n) r (cond (f n) n (suc n))

-- the number of the segment that is split, and that of all segments where none is
unfoldable pub split_at : Costs → ℕ
split_at c = first_to (is_split c) (segment_count c)

-- each segment is a step, and the split one is two
unfoldable pub count_of_steps : Costs → ℕ
count_of_steps c = cond (ltb (split_at c) (segment_count c)) (suc (segment_count c)) (segment_count c)

-- the segment of step t
unfoldable pub segment_at : Costs → ℕ → ℕ
segment_at c t = cond (leb t (split_at c)) t (t - 1)

-- where step t ends: the lower part at k, any other step at m' of its segment
unfoldable pub end_at : Costs → ℕ → ℤ
end_at c t = cond (eqb t (split_at c)) (mark c) (mw_at c (suc (segment_at c t)))

-- where step t begins: at the first m, or where the step before it ends
unfoldable pub edge_at : Costs → ℕ → ℤ
edge_at c zero = mw_at c 0
edge_at c (suc t) = end_at c t

-- "each part's own width"
unfoldable pub width_at : Costs → ℕ → ℕ
width_at c t = nat_of (end_at c t -ℤ edge_at c t)

-- ---- between the neighbours p = (m, h) and q = (m', h')
-- w = m' - m
unfoldable pub width : Point → Point → ℕ
width p q = nat_of (q.mw -ℤ p.mw)

-- n / w, up, where n = h' × m' - h × m
unfoldable pub unlimited : Point → Point → ℤ
unlimited p q = ceil_div (q.heat *ℤ q.mw -ℤ p.heat *ℤ p.mw) (width p q)

-- the 80% limit of a step that ends at e: 5 × e <= 4 × PMax. So "the lower part is limited, the upper isn't"
abbrev pub is_limited : ℤ → ℤ → Bool
is_limited top e = le_z (pos 5 *ℤ e) (pos 4 *ℤ top)

-- R of a step that ends at e: where the limit holds, at most the larger of h and h'. "Both parts take n and w of the whole segment for R"
unfoldable pub incremental_rate : ℤ → ℤ → Point → Point → ℤ
incremental_rate top e p q = cond (is_limited top e) (min_z (unlimited p q) (max_z p.heat q.heat)) (unlimited p q)

-- ---- the price of a step with largest rate so far M, rate R and width w
unfoldable pub fuel : Costs → ℤ → ℤ
fuel c M = ceil_div (M *ℤ c.gas) 1000

unfoldable pub greenhouse : Costs → ℤ → ℤ
greenhouse c R = ceil_div (R *ℤ c.rate *ℤ c.allowance) 1000000000

unfoldable pub fee_part : Costs → ℕ → ℤ
fee_part c w = ceil_div (pos 100 *ℤ c.fee) w

unfoldable pub step_cost : Costs → ℤ → ℤ → ℕ → ℤ
step_cost c M R w = fuel c M +ℤ greenhouse c R +ℤ c.om +ℤ c.msc +ℤ c.soc +ℤ fee_part c w

-- with the variable cost adder of 10%
unfoldable pub with_adder : Costs → ℤ → ℤ → ℕ → ℤ
with_adder c M R w = ceil_div (pos 11 *ℤ step_cost c M R w) 10

-- ---- step by step
unfoldable pub rate_at : Costs → ℕ → ℤ
rate_at c t = incremental_rate (pmax c) (end_at c t) (point_at c (segment_at c t)) (point_at c (suc (segment_at c t)))

-- M: the largest R so far, from the left
unfoldable pub largest_rate : Costs → ℕ → ℤ
largest_rate c t = highest_to (rate_at c) t

-- "The fee is spread over each part's own width"
unfoldable pub step_price : Costs → ℕ → ℤ
step_price c t = with_adder c (largest_rate c t) (rate_at c t) (width_at c t)

-- last, each step price is raised to the largest before it
unfoldable pub raised_price : Costs → ℕ → ℤ
raised_price c t = highest_to (step_price c) t

-- the steps of the default curve, and the curve: it starts at the first m
abbrev pub cost_step : Costs → ℕ → Step
cost_step c t = step_to (nat_of (end_at c t)) (raised_price c t)

unfoldable pub cost_curve : Costs → Curve
cost_curve c = curve_with (nat_of (mw_at c 0)) (listed (cost_step c) (count_of_steps c))

-- ---- checks 4 to 8
-- 4: 2 to 11 points
abbrev pub points_good : Costs → Bool
points_good c = leb 2 c.count && leb c.count most_points

-- 5: m is 0 to 1,000,000 and above the m before it
abbrev pub mw_in_range : ℤ → Bool
mw_in_range m = in_range (pos 0) (pos 1000000) m

unfoldable pub mw_suits : Costs → ℕ → Bool
mw_suits c zero = mw_in_range (mw_at c 0)
mw_suits c (suc i) = mw_in_range (mw_at c (suc i)) && lt_z (mw_at c i) (mw_at c (suc i))

unfoldable pub mw_good : Costs → Bool
mw_good c = all_to (mw_suits c) c.count

-- 6: h is 1 to 100,000
abbrev pub heat_in_range : ℤ → Bool
heat_in_range h = in_range (pos 1) (pos 100000) h

unfoldable pub heat_good : Costs → Bool
heat_good c = all_to (λ i. heat_in_range (heat_at c i)) c.count

-- 7: gas, rate and allowance, and the four that are 0 to 1,000,000
unfoldable pub charges_in_range : Costs → Bool
charges_in_range c =
    in_range (pos 0) (pos 1000000) c.om && (in_range (pos 0) (pos 1000000) c.msc
    && (in_range (pos 0) (pos 1000000) c.soc && in_range (pos 0) (pos 1000000) c.fee))

unfoldable pub prices_in_range : Costs → Bool
prices_in_range c =
    in_range (pos 0) (pos 1000000) c.gas && (in_range (pos 0) (pos 200000) c.rate
    && (in_range (pos 0) (pos 10000000) c.allowance && charges_in_range c))

-- 8: each R, after the limit, is -100,000 to 100,000
abbrev pub rate_in_range : ℤ → Bool
rate_in_range R = in_range (neg_ℤ (pos 100000)) (pos 100000) R

unfoldable pub rates_good : Costs → Bool
rates_good c = all_to (λ t. rate_in_range (rate_at c t)) (count_of_steps c)

-- the lowest number that applies
unfoldable pub cost_refusal : Costs → ℕ
cost_refusal c =
    unless (points_good c) 4 then unless (mw_good c) 5 then unless (heat_good c) 6
    then unless (prices_in_range c) 7 then unless (rates_good c) 8
