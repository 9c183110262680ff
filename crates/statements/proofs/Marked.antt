-- Paper 01, Marked for proof: P1 to P10, with their data and their numbers. Assumes nothing.
use Rattle.std.specs.Prelude.{None, Some}
use mathlib.Core.Bool.{true, false}
use mathlib.Core.List.{List, [], ◌∷◌}
use mathlib.Core.Path.{◌≡◌}
use Prim.Native.Nat.{ℕ}
use lib.IntN.{ℤ, pos, negsuc, neg_ℤ, ◌+ℤ◌}
use lib.ListN.{get_or}
use Rattle.rules_number.specs.Over.{padded}
use Rattle.rules_curve.specs.Curves.{steps_of, price_at, bid_refusal}
use Rattle.rules_curve.specs.declared.Step.{Step}
use Rattle.rules_curve.specs.declared.RawStep.{RawStep}
use Rattle.rules_curve.specs.declared.RawCurve.{RawCurve}
use Rattle.rules_mitigation.specs.Mitigation.{capped, lowered, used_steps}
use Rattle.rules_cost.specs.Costs.{count_of_steps, end_at, is_limited, rate_at, cost_curve, cost_refusal}
use Rattle.rules_cost.specs.declared.Point.{Point}
use Rattle.rules_cost.specs.declared.Costs.{Costs}
use Rattle.rules_interval.specs.declared.Interval.{Interval}
use Rattle.rules_path.specs.Paths.{Path, left}
use Rattle.rules_path.specs.Verdicts.{verdict_of, not_binding}
use Rattle.rules_path.specs.declared.Verdict.{Verdict}
use Rattle.rules_path.specs.declared.Finding.TheVariants as finding
use Rattle.rules_opening.specs.Openings.{no_raw, no_resource, opening_refusal}
use Rattle.rules_opening.specs.declared.Source.TheVariants as source
use Rattle.rules_opening.specs.declared.Opening.{Opening}
use Rattle.rules_hour.specs.Cuts.{cut_from}
use Rattle.rules_hour.specs.Hours.{curve_in, hour_refusal, hour_verdicts, hour_after_all}
use Rattle.rules_hour.specs.Opened.{opened_hour}
use Rattle.rules_hour.proofs.Marked.{marked}
use Rattle.statements.proofs.Plain.{Found, Padded}

abbrev step : ℕ → ℕ → Step
step e p = record { end = e; price = pos p }

abbrev submitted : ℕ → ℕ → RawStep
submitted e p = record { end = pos e; price = pos p }

abbrev bid : ℕ → ℕ → List RawStep → RawCurve
bid start count steps = record { start = pos start; count = count; steps = Padded 11 (submitted 0 0) steps }

abbrev point : ℕ → ℕ → Point
point m h = record { mw = pos m; heat = pos h }

abbrev costs : ℕ → List Point → ℕ → ℕ → ℕ → ℕ → ℕ → Costs
costs count points gas om msc soc fee =
    record { count = count; points = Padded 11 (point 0 0) points; gas = pos gas; rate = pos 0; allowance = pos 0; om = pos om; msc = pos msc; soc = pos soc; fee = pos fee }

-- ---- Case T
abbrev costs_t : Costs
costs_t = costs 3 (point 10000 10000 ∷ point 20000 9000 ∷ point 30000 9500 ∷ []) 40000 20000 1000 3000 50

abbrev opening_t : Opening
opening_t = record {
  month = pos 25;
  portfolios = 1;
  sellers = Padded 16 (pos 0) (pos 1 ∷ []);
  resources = 1;
  list = Padded 64 no_resource (record { portfolio = pos 0; bid = bid 10000 2 (submitted 15000 300000 ∷ submitted 30000 900000 ∷ []); source = source.Costs; costs = costs_t; pack = no_raw } ∷ []);
}

-- T's interval, whose lmp is 600000
abbrev interval_with : ℕ → Interval
interval_with lmp = record {
  constraints = 1;
  shadow = Padded 32 (pos 0) (pos 500000 ∷ []);
  resources = 1;
  lmp = Padded 64 (pos 0) (pos lmp ∷ []);
  dispatch = Padded 64 (pos 0) (pos 20000 ∷ []);
  available = Padded 64 (pos 0) (pos 30000 ∷ []);
  floor = Padded 64 (pos 0) [];
  factors = Padded 2048 (pos 0) (neg_ℤ (pos 500000) ∷ []);
  parameter = pos 100;
}

abbrev curve_t : List Interval → List Step
curve_t calls = used_steps (curve_in (hour_after_all (opened_hour opening_t) calls) 0)

abbrev verdict_t : Verdict
verdict_t = get_or (hour_verdicts (opened_hour opening_t) (interval_with 600000)) 0 not_binding

-- P3's points: n = h' × 5 - h × 2 and w = 5 - 2
abbrev costs3 : ℕ → ℕ → Costs
costs3 h h' = costs 2 (point 2 h ∷ point 5 h' ∷ []) 0 0 0 0 0

-- P4's points, with the middle one at m
abbrev ends_at : ℕ → Costs
ends_at m = costs 3 (point 20000 9000 ∷ point m 9500 ∷ point 30000 9400 ∷ []) 0 0 0 0 0

-- P5 and P6: four resources of four portfolios, each with e = 1; the first is seller s
abbrev path : List ℕ → ℕ → Path
path dispatch s = record {
  shadow = pos 1;
  resources = 4;
  factor = λ r. negsuc 0;
  dispatch = λ r. get_or dispatch r 0;
  available = λ r. get_or (5 ∷ 4 ∷ 3 ∷ 2 ∷ []) r 0;
  floor = λ r. 0;
  portfolio = λ r. r;
  portfolios = 4;
  seller = λ p. get_or (s ∷ 1 ∷ 1 ∷ 1 ∷ []) p 0;
}

-- ---- the table
-- "P1 T's costs give 378402, 488402." With the split "the second segment becomes 444403 up to 24000 and 488402 up to 30000"
pub p1 : (cost_refusal costs_t ≡ 0) × (steps_of (cost_curve costs_t) ≡ step 20000 378402 ∷ step 24000 444403 ∷ step 30000 488402 ∷ [])
unfolding padded
p1 = (marked.p1_taken, marked.p1)

-- "P2 T's curve.", and what T prints before it: verdict 1, demand 10000000000, left 0; portfolio 0 withholds 15000000000
pub p2 : (opening_refusal opening_t ≡ 0)
    × (hour_refusal (opened_hour opening_t) (interval_with 600000) ≡ 0)
    × (curve_t (interval_with 600000 ∷ []) ≡ step 15000 300000 ∷ step 20000 378402 ∷ step 24000 444403 ∷ step 30000 488402 ∷ [])
    × (Found verdict_t.finding ≡ 1)
    × (verdict_t.demand ≡ 10000000000)
    × (verdict_t.left ≡ 0)
    × (verdict_t.named ≡ 1)
    × (verdict_t.withheld ≡ Padded 16 0 (15000000000 ∷ []))
unfolding padded
p2 = (marked.p2_opened, marked.p2_taken, marked.p2, marked.p2_finding, marked.p2_demand, marked.p2_left, marked.p2_named, marked.p2_withheld)

-- "P3 n 10, w 3: R 4; n -10: -3."
pub p3 : ((rate_at (costs3 5 4) 0 ≡ pos 4) × (rate_at (costs3 5 4) 1 ≡ pos 4)) × ((rate_at (costs3 10 2) 0 ≡ neg_ℤ (pos 3)) × (rate_at (costs3 10 2) 1 ≡ neg_ℤ (pos 3)))
unfolding padded
p3 = (marked.p3_up, marked.p3_down)

-- "P4 PMax 30000: end 24000 is limited, 24001 isn't." With the split an end at 24000 is one step, and one at 24001 is two, of which the upper isn't limited
pub p4 : (is_limited (pos 30000) (pos 24000) ≡ true) × (is_limited (pos 30000) (pos 24001) ≡ false)
p4 = (marked.p4_limited, marked.p4_not)

pub p4_split : ((count_of_steps (ends_at 24000) ≡ 2) × (rate_at (ends_at 24000) 0 ≡ pos 9500))
    × ((count_of_steps (ends_at 24001) ≡ 3) × (end_at (ends_at 24001) 0 ≡ pos 24000) × (end_at (ends_at 24001) 1 ≡ pos 24001))
    × ((rate_at (ends_at 24001) 0 ≡ pos 9500) × (rate_at (ends_at 24001) 1 ≡ pos 12000))
unfolding padded
p4_split = (marked.p4_whole, marked.p4_two, marked.p4_two_rates)

-- "P5 withholdable 5, 4, 3, 2, all supply: left 2; demand 2 competitive, 3 not."
pub p5 : (left (path (2 ∷ []) 1) ≡ 2) × ((verdict_of (path (2 ∷ []) 1)).finding ≡ finding.Competitive) × ((verdict_of (path (3 ∷ []) 1)).finding ≡ finding.NonCompetitive)
p5 = (marked.p5_left, marked.p5_competitive, marked.p5_not)

-- "P6 the 5 a net buyer: left 5; demand 5 competitive, 6 not."
pub p6 : (left (path (5 ∷ []) 0) ≡ 5) × ((verdict_of (path (5 ∷ []) 0)).finding ≡ finding.Competitive) × ((verdict_of (path (5 ∷ 1 ∷ []) 0)).finding ≡ finding.NonCompetitive)
p6 = (marked.p6_left, marked.p6_competitive, marked.p6_not)

-- "P7 C = 1: L = lmp + parameter; C = 0: no cut."
pub p7 : (lmp parameter : ℤ) → (cut_from (pos 1) lmp (pos 1) parameter ≡ Some (lmp +ℤ parameter)) × (cut_from (pos 1) lmp (pos 0) parameter ≡ None)
p7 lmp parameter = (marked.p7_cut lmp parameter, marked.p7_none lmp parameter)

-- "P8 bid 300000, default 378402, L 350100: stays 300000.", and so in T's hour
pub p8 : (capped (Some (pos 350100)) (pos 300000) (pos 378402) ≡ pos 300000) × (price_at (curve_t (interval_with 600000 ∷ [])) 10000 ≡ pos 300000)
unfolding padded
p8 = (marked.p8, marked.p8_hour)

-- "P9 bid 900000, default 378402, L 500000 then 350100: 500000, then 378402.", and so in T's hour
pub p9 : (capped (lowered None (Some (pos 500000))) (pos 900000) (pos 378402) ≡ pos 500000)
    × (capped (lowered (lowered None (Some (pos 500000))) (Some (pos 350100))) (pos 900000) (pos 378402) ≡ pos 378402)
    × (price_at (curve_t (interval_with 749900 ∷ [])) 15000 ≡ pos 500000)
    × (price_at (curve_t (interval_with 749900 ∷ interval_with 600000 ∷ [])) 15000 ≡ pos 378402)
unfolding padded
p9 = (marked.p9_first, marked.p9_then, marked.p9_hour_first, marked.p9_hour_then)

-- "P10 price 5000001: refused in month 12, taken in 13."
pub p10 : (bid_refusal 12 (bid 0 1 (submitted 1 5000001 ∷ [])) ≡ 3) × (bid_refusal 13 (bid 0 1 (submitted 1 5000001 ∷ [])) ≡ 0)
unfolding padded
p10 = (marked.p10_refused, marked.p10_taken)
