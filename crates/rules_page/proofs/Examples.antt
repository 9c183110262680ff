-- Pages and refusals worked through, by computation on the definitions (paper 01, Text).
use mathlib.Core.List.{List, [], ◌∷◌, ◌++◌, map}
use mathlib.Core.Path.{◌≡◌, refl, ap, ◌∙◌}
use Prim.Native.Nat.{ℕ, min}
use lib.IntN.{pos}
use lib.ListN.{replicate}
use Rattle.rules_number.specs.Order.{in_range}
use Rattle.rules_number.specs.Over.{sum_to, all_to, highest_to, listed, those, sum_over, padded, up_to}
use Rattle.rules_curve.specs.Refusals.{each_to}
use Rattle.rules_curve.specs.Curves.{price_at, chain, curve_refusal, curve_of, step_to}
use Rattle.rules_mitigation.specs.Mitigation.{segments_n, joined, joined_after, mitigated}
use Rattle.rules_cost.specs.Costs.{mark, first_to, split_at, count_of_steps, segment_at, end_at, edge_at, width_at, width, unlimited, incremental_rate, fuel, greenhouse, fee_part, step_cost, with_adder, rate_at, largest_rate, step_price, raised_price, cost_curve, mw_suits, mw_good, heat_good, charges_in_range, prices_in_range, rates_good, cost_refusal}
use Rattle.rules_interval.specs.Intervals.{all_within, factors_good, outputs_good, interval_refusal}
use Rattle.rules_path.specs.Paths.{demand, supply, share, withholdable, offer, offers, largest, top, total, mask, amount_of, sellers, named, left, is_non_competitive}
use Rattle.rules_path.specs.Verdicts.{verdict_of, not_binding, is_named}
use Rattle.rules_path.specs.Judgements.{verdicts_of}
use Rattle.rules_path.specs.declared.Finding.{Finding}
use Rattle.rules_path.specs.declared.Finding.TheVariants.{Competitive, NonCompetitive, NotBinding}
use Rattle.rules_path.specs.declared.Verdict.{Verdict}
use Rattle.rules_hour.specs.Cuts.{entering, component, cut_from, cut_of}
use Rattle.rules_hour.specs.Hours.{fresh_standing, blank_hour, curve_in, next_standing, call_refusal, standing_after, call_verdicts, hour_after, hour_verdicts}
use Rattle.rules_opening.specs.Openings.{sellers_good, owners_good, opening_refusal, market_of}
use Rattle.rules_hour.specs.Opened.{fresh_hour, opened_hour}
use Rattle.rules_hour.specs.Hours.{Hour}
use Rattle.rules_opening.proofs.CaseT.{opening_t, interval_t}
use Rattle.rules_text.specs.Numbers.{Row, bytes}
use Rattle.rules_text.specs.Printing.{digits, decimal, line_text, group_text, table_text, refusal_text}
use Rattle.rules_page.specs.Weights.{leads, by_weight}
use Rattle.rules_page.specs.Pages.{shown, step_row, sellers_named, curve_rows, verdict_names, seller_names, curve_names, verdict_table, seller_table, curve_table, page_text, verdict_text, curve_text}
use Rattle.rules_opening.specs.Resources.{lies_inside, resource_refusal, row_of}

-- ---- case T
-- its hour after its interval
abbrev hour_t : Hour
hour_t = hour_after (opened_hour opening_t) interval_t

-- its verdict and its curve, which the page is made of
abbrev verdicts_t : List Verdict
verdicts_t = padded 32 not_binding (record { finding = NonCompetitive; demand = 10000000000; left = 0; named = 1; withheld = padded 16 0 (15000000000 ∷ []) } ∷ [])

verdicts_are : hour_verdicts (opened_hour opening_t) interval_t ≡ verdicts_t
unfolding in_range sum_to all_to highest_to listed those sum_over padded up_to each_to price_at chain curve_refusal curve_of segments_n joined joined_after mitigated
    mark first_to split_at count_of_steps segment_at end_at edge_at width_at width unlimited incremental_rate fuel greenhouse fee_part step_cost with_adder rate_at largest_rate step_price raised_price cost_curve
    mw_suits mw_good heat_good charges_in_range prices_in_range rates_good cost_refusal
    all_within factors_good outputs_good interval_refusal
    demand supply share withholdable offer offers largest top total mask amount_of sellers named left is_non_competitive verdict_of verdicts_of
    entering component cut_from cut_of fresh_standing blank_hour curve_in next_standing call_refusal standing_after call_verdicts hour_after
    sellers_good owners_good lies_inside resource_refusal opening_refusal row_of market_of fresh_hour opened_hour
verdicts_are = refl

curves_are : map (curve_rows hour_t.rows hour_t.standing.floors) (listed (λ r. r) (min hour_t.market.resources 64)) ≡ map step_row (step_to 15000 (pos 300000) ∷ step_to 20000 (pos 378402) ∷ step_to 24000 (pos 444403) ∷ step_to 30000 (pos 488402) ∷ []) ∷ []
unfolding in_range sum_to all_to highest_to listed those sum_over padded up_to each_to price_at chain curve_refusal curve_of segments_n joined joined_after mitigated
    mark first_to split_at count_of_steps segment_at end_at edge_at width_at width unlimited incremental_rate fuel greenhouse fee_part step_cost with_adder rate_at largest_rate step_price raised_price cost_curve
    mw_suits mw_good heat_good charges_in_range prices_in_range rates_good cost_refusal
    all_within factors_good outputs_good interval_refusal
    demand supply share withholdable offer offers largest top total mask amount_of sellers named left is_non_competitive verdict_of verdicts_of
    entering component cut_from cut_of fresh_standing blank_hour curve_in next_standing call_refusal standing_after call_verdicts hour_after
    sellers_good owners_good lies_inside resource_refusal opening_refusal row_of market_of fresh_hour opened_hour
curves_are = refl

-- the page of an hour with these rows
abbrev page_of : List Verdict → List (List Row) → List ℕ
page_of verdicts curves = (verdict_names ++ (verdict_table 1 1 verdicts ++ (seller_names ++ seller_table 1 1 verdicts))) ++ (curve_names ++ table_text 1 0 curves)

printed : page_of verdicts_t (map step_row (step_to 15000 (pos 300000) ∷ step_to 20000 (pos 378402) ∷ step_to 24000 (pos 444403) ∷ step_to 30000 (pos 488402) ∷ []) ∷ [])
    ≡ bytes "interval constraint verdict demand left\n1 0 1 10000000000 0\ninterval constraint portfolio withheld\n1 0 0 15000000000\ninterval resource end price\n1 0 15000 300000\n1 0 20000 378402\n1 0 24000 444403\n1 0 30000 488402\n"
unfolding padded is_named digits decimal line_text group_text table_text shown leads by_weight sellers_named verdict_table seller_table
printed = refl

-- "It prints, whole"
pub case_t : page_text 1 hour_t.market.resources hour_t.rows hour_t.standing.floors 1 (hour_verdicts (opened_hour opening_t) interval_t)
    ≡ bytes "interval constraint verdict demand left\n1 0 1 10000000000 0\ninterval constraint portfolio withheld\n1 0 0 15000000000\ninterval resource end price\n1 0 15000 300000\n1 0 20000 378402\n1 0 24000 444403\n1 0 30000 488402\n"
unfolding verdict_text curve_text curve_table
case_t =
    ap (λ (v : List Verdict). page_of v (map (curve_rows hour_t.rows hour_t.standing.floors) (listed (λ r. r) (min hour_t.market.resources 64)))) verdicts_are
    ∙ ap (page_of verdicts_t) curves_are ∙ printed

-- ---- three constraints: competitive with two sellers named, not binding, and non-competitive with none
-- a verdict of this finding, demand 7, left 9 and these sellers
abbrev verdict : Finding → ℕ → List ℕ → Verdict
verdict f sellers amounts = record { finding = f; demand = 7; left = 9; named = sellers; withheld = padded 16 0 amounts }

abbrev verdicts : List Verdict
verdicts = padded 32 not_binding (verdict Competitive 5 (4 ∷ 0 ∷ 3 ∷ []) ∷ verdict NotBinding 5 (4 ∷ 0 ∷ 3 ∷ []) ∷ verdict NonCompetitive 0 [] ∷ [])

-- the first n of them, in interval 3
pub record Tables : Type 0 where
  -- not binding: 0 0 and no sellers, whatever the verdict holds
  pub three : verdict_table 3 3 verdicts ≡ bytes "3 0 0 7 9\n3 1 2 0 0\n3 2 1 7 9\n"
  pub two : verdict_table 3 2 verdicts ≡ bytes "3 0 0 7 9\n3 1 2 0 0\n"
  pub none : verdict_table 3 0 verdicts ≡ []
  -- the larger amount first
  pub sellers_three : seller_table 3 3 verdicts ≡ bytes "3 0 0 4\n3 0 2 3\n"
  pub sellers_none : seller_table 3 0 verdicts ≡ []
  -- counts over the room
  pub over : verdict_table 3 33 (replicate 2 not_binding) ≡ bytes "3 0 2 0 0\n3 1 2 0 0\n"

pub tables : Tables
unfolding padded is_named digits decimal line_text group_text table_text shown leads by_weight sellers_named verdict_table seller_table
tables = record { three = refl; two = refl; none = refl; sellers_three = refl; sellers_none = refl; over = refl }

-- ---- a refusal
pub refusal : refusal_text 17 32 ≡ bytes "refusal line\n17 32\n"
unfolding digits decimal line_text refusal_text
refusal = refl
