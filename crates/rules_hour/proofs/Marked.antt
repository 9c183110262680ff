-- Marked for proof (paper 01): P1 to P10, a single table with one theorem. Assumes nothing.
use Rattle.std.specs.Prelude.{None, Some}
use mathlib.Core.Bool.{true, false}
use mathlib.Core.List.{List, [], ◌∷◌}
use mathlib.Core.Path.{◌≡◌, refl, ap, ◌∙◌}
use Prim.Native.Nat.{ℕ}
use lib.Dec.{lit<}
use lib.IntN.{ℤ, pos, negsuc, neg_ℤ, ◌+ℤ◌, +ℤ_idr}
use lib.ListN.{get_or}
use Rattle.rules_number.specs.Order.{in_range}
use Rattle.rules_number.specs.Over.{sum_to, all_to, highest_to, listed, those, sum_over, padded, up_to}
use Rattle.rules_number.proofs.CeilLaws.{ceil_shift}
use Rattle.rules_curve.specs.Refusals.{each_to}
use Rattle.rules_curve.specs.Curves.{step_to, steps_of, price_at, chain, curve_refusal, curve_of, bid_refusal}
use Rattle.rules_mitigation.specs.Mitigation.{capped, lowered, segments_n, joined, joined_after, mitigated, used_steps}
use Rattle.rules_cost.specs.Costs.{mark, first_to, split_at, count_of_steps, segment_at, end_at, edge_at, width_at, width, unlimited, is_limited, incremental_rate, fuel, greenhouse, fee_part, step_cost, with_adder, rate_at, largest_rate, step_price, raised_price, cost_curve, mw_suits, mw_good, heat_good, charges_in_range, prices_in_range, rates_good, cost_refusal}
use Rattle.rules_interval.specs.Intervals.{all_within, factors_good, outputs_good, interval_refusal}
use Rattle.rules_interval.specs.declared.Interval.{Interval}
use Rattle.rules_path.specs.Paths.{demand, supply, share, withholdable, offer, offers, largest, top, total, mask, amount_of, sellers, named, left, is_non_competitive}
use Rattle.rules_path.specs.Verdicts.{verdict_of, not_binding, finding_number}
use Rattle.rules_path.specs.Judgements.{verdicts_of}
use Rattle.rules_path.specs.declared.Finding.TheVariants.{Competitive, NonCompetitive}
use Rattle.rules_path.specs.declared.Verdict.{Verdict}
use Rattle.rules_hour.specs.Cuts.{entering, component, cut_from, cut_of}
use Rattle.rules_hour.specs.Hours.{fresh_standing, blank_hour, curve_in, next_standing, call_refusal, standing_after, call_verdicts, hour_refusal, hour_after, hour_verdicts, hour_after_all}
use Rattle.rules_opening.specs.Openings.{sellers_good, owners_good, opening_refusal, market_of}
use Rattle.rules_hour.specs.Opened.{fresh_hour, opened_hour}
use Rattle.rules_opening.proofs.CaseT.{costs_t, opening_t, interval_at, interval_t, costs3, costs4, path4, bid10}
use Rattle.rules_opening.specs.Resources.{lies_inside, resource_refusal, row_of}

-- the verdict on Case T's constraint
abbrev pub verdict_t : Verdict
verdict_t = get_or (hour_verdicts (opened_hour opening_t) interval_t) 0 not_binding

-- the price of quantity q in T's hour after these calls
abbrev pub price_t : List Interval → ℕ → ℤ
price_t calls q = price_at (used_steps (curve_in (hour_after_all (opened_hour opening_t) calls) 0)) q

pub record Marked : Type 0 where
  -- P1 T's costs give 378402, 488402; with the split 444403 up to 24000 between them
  pub p1 : steps_of (cost_curve costs_t) ≡ step_to 20000 (pos 378402) ∷ step_to 24000 (pos 444403) ∷ step_to 30000 (pos 488402) ∷ []
  pub p1_taken : cost_refusal costs_t ≡ 0
  -- P2 T's curve, read with the split
  pub p2 : used_steps (curve_in (hour_after_all (opened_hour opening_t) (interval_t ∷ [])) 0)
      ≡ step_to 15000 (pos 300000) ∷ step_to 20000 (pos 378402) ∷ step_to 24000 (pos 444403) ∷ step_to 30000 (pos 488402) ∷ []
  pub p2_opened : opening_refusal opening_t ≡ 0
  pub p2_taken : hour_refusal (opened_hour opening_t) interval_t ≡ 0
  -- T's verdict: 1, demand 10000000000, left 0; portfolio 0 withholds 15000000000
  pub p2_finding : finding_number verdict_t.finding ≡ 1
  pub p2_demand : verdict_t.demand ≡ 10000000000
  pub p2_left : verdict_t.left ≡ 0
  pub p2_named : verdict_t.named ≡ 1
  pub p2_withheld : verdict_t.withheld ≡ padded 16 0 (15000000000 ∷ [])
  -- P3 n 10, w 3: R 4; n -10: -3. Both parts take n and w of the whole segment
  pub p3_up : (rate_at (costs3 5 4) 0 ≡ pos 4) × (rate_at (costs3 5 4) 1 ≡ pos 4)
  pub p3_down : (rate_at (costs3 10 2) 0 ≡ neg_ℤ (pos 3)) × (rate_at (costs3 10 2) 1 ≡ neg_ℤ (pos 3))
  -- P4 PMax 30000: end 24000 is limited, 24001 isn't. With the split an end at 24000 is one step, limited, and one at 24001 two: the lower is limited, the upper isn't
  pub p4_limited : is_limited (pos 30000) (pos 24000) ≡ true
  pub p4_not : is_limited (pos 30000) (pos 24001) ≡ false
  pub p4_whole : (count_of_steps (costs4 24000) ≡ 2) × (rate_at (costs4 24000) 0 ≡ pos 9500)
  pub p4_two : (count_of_steps (costs4 24001) ≡ 3) × (end_at (costs4 24001) 0 ≡ pos 24000) × (end_at (costs4 24001) 1 ≡ pos 24001)
  pub p4_two_rates : (rate_at (costs4 24001) 0 ≡ pos 9500) × (rate_at (costs4 24001) 1 ≡ pos 12000)
  -- P5 withholdable 5, 4, 3, 2, all supply: left 2; demand 2 competitive, 3 not
  pub p5_left : left (path4 (2 ∷ []) 1) ≡ 2
  pub p5_competitive : (verdict_of (path4 (2 ∷ []) 1)).finding ≡ Competitive
  pub p5_not : (verdict_of (path4 (3 ∷ []) 1)).finding ≡ NonCompetitive
  -- P6 the 5 a net buyer: left 5; demand 5 competitive, 6 not
  pub p6_left : left (path4 (5 ∷ []) 0) ≡ 5
  pub p6_competitive : (verdict_of (path4 (5 ∷ []) 0)).finding ≡ Competitive
  pub p6_not : (verdict_of (path4 (5 ∷ 1 ∷ []) 0)).finding ≡ NonCompetitive
  -- P7 C = 1: L = lmp + parameter; C = 0: no cut
  pub p7_cut : (lmp parameter : ℤ) → cut_from (pos 1) lmp (pos 1) parameter ≡ Some (lmp +ℤ parameter)
  pub p7_none : (lmp parameter : ℤ) → cut_from (pos 1) lmp (pos 0) parameter ≡ None
  -- P8 bid 300000, default 378402, L 350100: stays 300000
  pub p8 : capped (Some (pos 350100)) (pos 300000) (pos 378402) ≡ pos 300000
  pub p8_hour : price_t (interval_t ∷ []) 10000 ≡ pos 300000
  -- P9 bid 900000, default 378402, L 500000 then 350100: 500000, then 378402
  pub p9_first : capped (lowered None (Some (pos 500000))) (pos 900000) (pos 378402) ≡ pos 500000
  pub p9_then : capped (lowered (lowered None (Some (pos 500000))) (Some (pos 350100))) (pos 900000) (pos 378402) ≡ pos 378402
  pub p9_hour_first : price_t (interval_at 749900 ∷ []) 15000 ≡ pos 500000
  pub p9_hour_then : price_t (interval_at 749900 ∷ interval_t ∷ []) 15000 ≡ pos 378402
  -- P10 price 5000001: refused in month 12, taken in 13
  pub p10_refused : bid_refusal 12 bid10 ≡ 3
  pub p10_taken : bid_refusal 13 bid10 ≡ 0

pub marked : Marked
unfolding in_range sum_to all_to highest_to listed those sum_over padded up_to each_to price_at chain curve_refusal curve_of segments_n joined joined_after mitigated
    mark first_to split_at count_of_steps segment_at end_at edge_at width_at width unlimited incremental_rate fuel greenhouse fee_part step_cost with_adder rate_at largest_rate step_price raised_price cost_curve
    mw_suits mw_good heat_good charges_in_range prices_in_range rates_good cost_refusal
    all_within factors_good outputs_good interval_refusal
    demand supply share withholdable offer offers largest top total mask amount_of sellers named left is_non_competitive verdict_of verdicts_of
    entering component cut_from cut_of blank_hour curve_in fresh_standing next_standing call_refusal standing_after call_verdicts hour_after hour_after_all
    sellers_good owners_good lies_inside resource_refusal opening_refusal row_of market_of fresh_hour opened_hour
marked = record {
  p1 = refl;
  p1_taken = refl;
  p2 = refl;
  p2_opened = refl;
  p2_taken = refl;
  p2_finding = refl;
  p2_demand = refl;
  p2_left = refl;
  p2_named = refl;
  p2_withheld = refl;
  p3_up = (refl, refl);
  p3_down = (refl, refl);
  p4_limited = refl;
  p4_not = refl;
  p4_whole = (refl, refl);
  p4_two = (refl, refl, refl);
  p4_two_rates = (refl, refl);
  p5_left = refl;
  p5_competitive = refl;
  p5_not = refl;
  p6_left = refl;
  p6_competitive = refl;
  p6_not = refl;
  p7_cut = λ lmp parameter. ap (λ (x : ℤ). Some (x +ℤ parameter)) (ceil_shift lmp (negsuc 0) 1000000 (lit< tt) ∙ +ℤ_idr lmp);
  p7_none = λ lmp parameter. refl;
  p8 = refl;
  p8_hour = refl;
  p9_first = refl;
  p9_then = refl;
  p9_hour_first = refl;
  p9_hour_then = refl;
  p10_refused = refl;
  p10_taken = refl;
}
