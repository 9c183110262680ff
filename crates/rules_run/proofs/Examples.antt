-- Whole runs, by computation on the definitions (paper 01, Text). Assumes nothing.
use Prim.Native.Nat.{ℕ}
use mathlib.Core.Path.{◌≡◌, refl, sym, ap, subst, ◌∙◌}
use mathlib.Core.List.{List, [], ◌∷◌, ◌++◌, append-nil}
use native.Mathlib.Omega.{arith}
use lib.IntN.{pos}
use lib.ListN.{length}
use Rattle.rules_number.specs.Order.{in_range}
use Rattle.rules_number.specs.Over.{sum_to, all_to, highest_to, listed, those, sum_over, padded, up_to}
use Rattle.rules_curve.specs.Refusals.{each_to}
use Rattle.rules_curve.specs.Curves.{step_to, price_at, chain, curve_refusal, curve_of}
use Rattle.rules_curve.specs.declared.Step.{Step}
use Rattle.rules_mitigation.specs.Mitigation.{segments_n, joined, joined_after, mitigated, used_steps}
use Rattle.rules_cost.specs.Costs.{mark, first_to, split_at, count_of_steps, segment_at, end_at, edge_at, width_at, width, unlimited, incremental_rate, fuel, greenhouse, fee_part, step_cost, with_adder, rate_at, largest_rate, step_price, raised_price, cost_curve, mw_suits, mw_good, heat_good, charges_in_range, prices_in_range, rates_good, cost_refusal}
use Rattle.rules_interval.specs.Intervals.{all_within, factors_good, outputs_good, interval_refusal}
use Rattle.rules_interval.specs.declared.Interval.{Interval}
use Rattle.rules_path.specs.Paths.{demand, supply, share, withholdable, offer, offers, largest, top, total, sellers, left, is_non_competitive}
use Rattle.rules_opening.specs.Resources.{lies_inside, resource_refusal, row_of}
use Rattle.rules_hour.specs.Cuts.{entering, component, cut_from, cut_of}
use Rattle.rules_hour.specs.Hours.{fresh_standing, blank_hour, curve_in, next_standing, call_refusal, standing_after, hour_refusal, hour_after, hour_after_all}
use Rattle.rules_opening.specs.Openings.{sellers_good, owners_good, opening_refusal, market_of}
use Rattle.rules_hour.specs.Opened.{fresh_hour, opened_hour}
use Rattle.rules_hour.specs.Hours.{Hour}
use Rattle.rules_opening.proofs.CaseT.{opening_t, interval_t}
use Rattle.rules_text.specs.Numbers.{bytes, lines, number, magnitude, row}
use Rattle.rules_text.specs.Tables.{found, headed, due, single, run, rows, counted, grouped, pairs, each}
use Rattle.rules_text.specs.Offsets.{kept}
use Rattle.rules_text.specs.Printing.{digits, decimal, line_text, refusal_text}
use Rattle.rules_parts.specs.Parts.{resources_of, opening_of, read_opening, is_declared, is_factor, factor_rows, with_factors, interval_of, parameter_by, read_interval_by, read_interval}
use Rattle.rules_parts.proofs.Examples.{opening_read, interval_text_lem, reads_interval}
use Rattle.rules_page.proofs.Examples.{case_t as page-T}
use Rattle.rules_run.specs.Run.{page_of, hour_text, parts_text_by, output_by, output, ended_by, hour_end, parts_end_by, end_with, end_of}
use Rattle.rules_run.proofs.EndLaws.{refused_end, accepted_end, none_end, parts_accepted_end}
use Rattle.rules_run.proofs.Program.{TheCurve, Page, the_curve, the_page}
use Rattle.rules_run.proofs.RunLaws.{accepted_text, parts_accepted, none_text}

-- ---- Case T
pub text_t : List ℕ
text_t = bytes "month\n25\nportfolio seller\n0 1\nresource portfolio start\n0 0 10000\nresource end price\n0 15000 300000\n0 30000 900000\nresource mw heat\n0 10000 10000\n0 20000 9000\n0 30000 9500\nresource gas rate allowance om msc soc fee\n0 40000 0 0 20000 1000 3000 50\nconstraint shadow\n0 500000\nresource lmp dispatch available floor\n0 600000 20000 30000 0\nresource constraint factor\n0 0 -500000\nparameter\n100\n"

opens_t : read_opening 0 (lines text_t) ≡ found opening_read 15 (lines (bytes interval_text_lem))
unfolding text_t interval_text_lem opening_read read_opening opening_of resources_of headed due single counted rows run grouped pairs each row number magnitude kept padded
opens_t = refl

accepts_opening : opening_refusal opening_read ≡ 0
unfolding opening_read
    in_range sum_to all_to highest_to listed those sum_over padded up_to each_to price_at chain curve_refusal curve_of
    mark first_to split_at count_of_steps segment_at end_at edge_at width_at width unlimited incremental_rate fuel greenhouse fee_part step_cost with_adder rate_at largest_rate step_price raised_price cost_curve
    mw_suits mw_good heat_good charges_in_range prices_in_range rates_good cost_refusal
    sellers_good owners_good lies_inside resource_refusal opening_refusal
accepts_opening = refl

same_hour : opened_hour opening_read ≡ opened_hour opening_t
unfolding opening_read
    in_range sum_to all_to highest_to listed those sum_over padded up_to each_to price_at chain curve_refusal curve_of
    mark first_to split_at count_of_steps segment_at end_at edge_at width_at width unlimited incremental_rate fuel greenhouse fee_part step_cost with_adder rate_at largest_rate step_price raised_price cost_curve
    mw_suits mw_good heat_good charges_in_range prices_in_range rates_good cost_refusal
    sellers_good owners_good lies_inside resource_refusal opening_refusal row_of market_of fresh_hour opened_hour
same_hour = refl

accepts_interval : hour_refusal (opened_hour opening_t) interval_t ≡ 0
unfolding in_range sum_to all_to highest_to listed those sum_over padded up_to each_to price_at chain curve_refusal curve_of segments_n joined joined_after mitigated
    mark first_to split_at count_of_steps segment_at end_at edge_at width_at width unlimited incremental_rate fuel greenhouse fee_part step_cost with_adder rate_at largest_rate step_price raised_price cost_curve
    mw_suits mw_good heat_good charges_in_range prices_in_range rates_good cost_refusal
    all_within factors_good outputs_good interval_refusal
    fresh_standing blank_hour next_standing call_refusal standing_after hour_after
    sellers_good owners_good lies_inside resource_refusal opening_refusal row_of market_of fresh_hour opened_hour
accepts_interval = refl

some_lines : length (lines (bytes interval_text_lem)) ≡ 8
unfolding interval_text_lem
some_lines = refl

-- "It prints, whole"
pub case_t : output text_t ≡ bytes "interval constraint verdict demand left\n1 0 1 10000000000 0\ninterval constraint portfolio withheld\n1 0 0 15000000000\ninterval resource end price\n1 0 15000 300000\n1 0 20000 378402\n1 0 24000 444403\n1 0 30000 488402\n"
unfolding output_by text_t
case_t =
    parts_accepted (lines text_t) opening_read 15 (lines (bytes interval_text_lem)) opens_t accepts_opening
    ∙ ap (λ (h : Hour). hour_text h 15 (lines (bytes interval_text_lem))) same_hour
    ∙ accepted_text 4 1 (opened_hour opening_t) 15 (lines (bytes interval_text_lem)) (omega (arith, some_lines)) interval_t 23 [] reads_interval accepts_interval
    ∙ ap (λ (t : List ℕ). page_of 1 (opened_hour opening_t) interval_t ++ t) (none_text 4 2 (hour_after (opened_hour opening_t) interval_t) 23)
    ∙ append-nil (page_of 1 (opened_hour opening_t) interval_t) ∙ page-T

-- and nothing is refused
pub ends_t : end_of text_t ≡ ended_by 0 0
unfolding end_with text_t
ends_t =
    parts_accepted_end (lines text_t) opening_read 15 (lines (bytes interval_text_lem)) opens_t accepts_opening
    ∙ ap (λ (h : Hour). hour_end h 15 (lines (bytes interval_text_lem))) same_hour
    ∙ accepted_end 4 (opened_hour opening_t) 15 (lines (bytes interval_text_lem)) (omega (arith, some_lines)) interval_t 23 [] reads_interval accepts_interval
    ∙ none_end 4 (hour_after (opened_hour opening_t) interval_t) 23

-- the steps that it prints
abbrev steps_t : List Step
steps_t = step_to 15000 (pos 300000) ∷ step_to 20000 (pos 378402) ∷ step_to 24000 (pos 444403) ∷ step_to 30000 (pos 488402) ∷ []

curve_t_lem : used_steps (curve_in (hour_after (opened_hour opening_t) interval_t) 0) ≡ steps_t
unfolding in_range sum_to all_to highest_to listed those sum_over padded up_to each_to price_at chain curve_refusal curve_of segments_n joined joined_after mitigated
    mark first_to split_at count_of_steps segment_at end_at edge_at width_at width unlimited incremental_rate fuel greenhouse fee_part step_cost with_adder rate_at largest_rate step_price raised_price cost_curve
    mw_suits mw_good heat_good charges_in_range prices_in_range rates_good cost_refusal
    all_within factors_good outputs_good interval_refusal
    demand supply share withholdable offer offers largest top total sellers left is_non_competitive
    entering component cut_from cut_of fresh_standing blank_hour curve_in next_standing call_refusal standing_after hour_after
    sellers_good owners_good lies_inside resource_refusal opening_refusal row_of market_of fresh_hour opened_hour
curve_t_lem = refl

-- an instance of Program: it prints the page of its interval after none, and that page's curve is the one that demand 3 gives
pub record InstanceT : Type 0 where
  pub page : Page opening_read [] interval_t (output text_t)
  pub curve : TheCurve opening_read (interval_t ∷ []) 0 steps_t

pub instance_t : InstanceT
unfolding hour_after_all opening_read
instance_t = record {
  page = subst (Page opening_read [] interval_t) (ap (λ (h : Hour). page_of 1 h interval_t) same_hour ∙ page-T ∙ sym case_t)
      (the_page opening_read accepts_opening [] interval_t (ap (λ (h : Hour). hour_refusal h interval_t) same_hour ∙ accepts_interval) (omega arith));
  curve = subst (TheCurve opening_read (interval_t ∷ []) 0) (ap (λ (h : Hour). used_steps (curve_in (hour_after h interval_t) 0)) same_hour ∙ curve_t_lem)
      (the_curve opening_read accepts_opening (interval_t ∷ []) 0 (omega arith));
}

-- ---- small broken texts
pub empty : output [] ≡ bytes "refusal line\n17 1\n"
unfolding output_by parts_text_by read_opening headed digits decimal line_text refusal_text
empty = refl

-- a names line that isn't closed
pub unclosed : output (bytes "month") ≡ bytes "refusal line\n17 1\n"
unfolding output_by parts_text_by read_opening headed digits decimal line_text refusal_text
unclosed = refl

-- the text ends early: the line after the last
pub ends_early : output (bytes "month\n25\n") ≡ bytes "refusal line\n17 3\n"
unfolding output_by parts_text_by read_opening headed due single row number magnitude digits decimal line_text refusal_text
ends_early = refl

-- each part's text before its values: month 0 is refused only once the part is read
pub text_first : output (bytes "month\n0\nportfolio seller\n") ≡ bytes "refusal line\n17 4\n"
unfolding output_by parts_text_by read_opening headed due single counted rows run row number magnitude digits decimal line_text refusal_text
text_first = refl

-- ---- the same as values, and refusals by values: the part's last line
pub record Ends : Type 0 where
  pub nothing : end_of [] ≡ ended_by 17 1
  pub early : end_of (bytes "month\n25\n") ≡ ended_by 17 3
  pub text_before_values : end_of (bytes "month\n0\nportfolio seller\n") ≡ ended_by 17 4

pub ends : Ends
unfolding end_with parts_end_by read_opening headed due single counted rows run row number magnitude
ends = record { nothing = refl; early = refl; text_before_values = refl }

-- Case T's opening in month 0: its last line is line 15, whatever follows it
pub month_0 : end_of (bytes "month\n0\nportfolio seller\n0 1\nresource portfolio start\n0 0 10000\nresource end price\n0 15000 300000\n0 30000 900000\nresource mw heat\n0 10000 10000\n0 20000 9000\n0 30000 9500\nresource gas rate allowance om msc soc fee\n0 40000 0 0 20000 1000 3000 50\nwhatever\n") ≡ ended_by 9 15
unfolding end_with parts_end_by read_opening opening_of resources_of headed due single counted rows run grouped pairs each row number magnitude kept padded
    in_range opening_refusal
month_0 = refl

-- its interval with a parameter of 101: the last line is line 23
pub text_101 : List ℕ
text_101 = bytes "month\n25\nportfolio seller\n0 1\nresource portfolio start\n0 0 10000\nresource end price\n0 15000 300000\n0 30000 900000\nresource mw heat\n0 10000 10000\n0 20000 9000\n0 30000 9500\nresource gas rate allowance om msc soc fee\n0 40000 0 0 20000 1000 3000 50\nconstraint shadow\n0 500000\nresource lmp dispatch available floor\n0 600000 20000 30000 0\nresource constraint factor\n0 0 -500000\nparameter\n101\n"

interval_101 : List ℕ
interval_101 = bytes "constraint shadow\n0 500000\nresource lmp dispatch available floor\n0 600000 20000 30000 0\nresource constraint factor\n0 0 -500000\nparameter\n101\n"

abbrev with_101 : Interval
with_101 = record {
  constraints = interval_t.constraints;
  shadow = interval_t.shadow;
  resources = interval_t.resources;
  lmp = interval_t.lmp;
  dispatch = interval_t.dispatch;
  available = interval_t.available;
  floor = interval_t.floor;
  factors = interval_t.factors;
  parameter = pos 101;
}

opens_101 : read_opening 0 (lines text_101) ≡ found opening_read 15 (lines interval_101)
unfolding text_101 interval_101 opening_read read_opening opening_of resources_of headed due single counted rows run grouped pairs each row number magnitude kept padded
opens_101 = refl

reads_101 : read_interval 15 (lines interval_101) ≡ found with_101 23 []
unfolding interval_101 read_interval_by interval_of factor_rows is_factor is_declared with_factors parameter_by headed due single counted rows run row number magnitude kept padded
reads_101 = refl

refuses_101 : hour_refusal (opened_hour opening_t) with_101 ≡ 15
unfolding in_range sum_to all_to highest_to listed those sum_over padded up_to each_to price_at chain curve_refusal curve_of segments_n joined joined_after mitigated
    mark first_to split_at count_of_steps segment_at end_at edge_at width_at width unlimited incremental_rate fuel greenhouse fee_part step_cost with_adder rate_at largest_rate step_price raised_price cost_curve
    mw_suits mw_good heat_good charges_in_range prices_in_range rates_good cost_refusal
    all_within factors_good outputs_good interval_refusal
    fresh_standing blank_hour next_standing call_refusal standing_after hour_after
    sellers_good owners_good lies_inside resource_refusal opening_refusal row_of market_of fresh_hour opened_hour
refuses_101 = refl

some_101 : length (lines interval_101) ≡ 8
unfolding interval_101
some_101 = refl

pub parameter_101 : end_of text_101 ≡ ended_by 15 23
unfolding end_with text_101
parameter_101 =
    parts_accepted_end (lines text_101) opening_read 15 (lines interval_101) opens_101 accepts_opening
    ∙ ap (λ (h : Hour). hour_end h 15 (lines interval_101)) same_hour
    ∙ refused_end 4 (opened_hour opening_t) 15 (lines interval_101) (omega (arith, some_101)) with_101 23 [] reads_101 15 refuses_101 (omega arith)
