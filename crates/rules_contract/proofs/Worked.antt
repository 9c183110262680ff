-- Joins worked out, by computation (paper 02, 2.9).
use mathlib.Core.List.{List, [], ◌∷◌}
use mathlib.Core.Path.{◌≡◌, refl}
use Prim.Native.Nat.{ℕ, suc, ◌+◌}
use lib.IntN.{ℤ, pos, neg_ℤ}
use Rattle.rules_number.specs.Order.{in_range}
use Rattle.rules_number.specs.Over.{sum_to, all_to, listed, those, sum_over, padded, up_to, highest_to}
use Rattle.rules_curve.specs.Refusals.{each_to}
use Rattle.rules_curve.specs.Curves.{raw_with, no_pack, most_steps, step_to, raw_steps, chain, curve_refusal, curve_of, blank_curve, price_at}
use Rattle.rules_curve.specs.declared.RawStep.{RawStep}
use Rattle.rules_curve.specs.declared.RawCurve.{RawCurve}
use Rattle.rules_mitigation.specs.Mitigation.{segments_n, joined, joined_after, mitigated, used_steps}
use Rattle.rules_interval.specs.Intervals.{all_within, factors_good, outputs_good, interval_refusal}
use Rattle.rules_path.specs.Paths.{demand, supply, share, withholdable, offer, offers, largest, top, total, sellers, left, is_non_competitive}
use Rattle.rules_opening.specs.Openings.{no_costs, no_resource, sellers_good, owners_good, opening_refusal, market_of}
use Rattle.rules_opening.specs.Resources.{lies_inside, resource_refusal, row_of}
use Rattle.rules_opening.specs.declared.Opening.{Opening}
use Rattle.rules_opening.specs.declared.Source.TheVariants as source
use Rattle.rules_opening.proofs.CaseT.{cells, bid_t, interval_t}
use Rattle.rules_hour.specs.Cuts.{entering, component, cut_from, cut_of}
use Rattle.rules_hour.specs.Hours.{fresh_standing, curve_in, next_standing, call_refusal, standing_after, hour_after, hour_after_all}
use Rattle.rules_hour.specs.Opened.{fresh_hour, opened_hour}
use Rattle.rules_contract.specs.ContractUnits.{raised_step, raised, joined_raw, contract_refusal, joined_pack, joined_curve}

abbrev to : ℕ → ℤ → RawStep
to e p = record { end = pos e; price = p }

-- a part, and one of n steps, each one wide and of price 0
abbrev part : ℕ → List RawStep → RawCurve
part start steps = raw_with (pos start) steps

abbrev level : ℕ → ℕ → RawCurve
level start n = record { start = pos start; count = n; steps = listed (λ i. to (start + suc i) (pos 0)) most_steps }

abbrev one : ℕ → ℤ → RawCurve
one e p = part 0 (to e p ∷ [])

abbrev above : ℕ → RawCurve
above start = part start (to 20 (pos 3) ∷ to 30 (pos 7) ∷ [])

abbrev steps : RawCurve → RawCurve → List RawStep
steps a b = raw_steps (joined_pack a b)

-- parts with one fault
abbrev no_steps : RawCurve
no_steps = part 0 []

abbrev edges_fall : RawCurve
edges_fall = part 10 (to 5 (pos 0) ∷ [])

abbrev prices_fall : RawCurve
prices_fall = part 0 (to 5 (pos 2) ∷ to 10 (pos 1) ∷ [])

-- Case T's hour with a contracted unit: proxy price 700,000 up to 200 MW, default prices 500,000 and 800,000 above it
abbrev hour : Opening
hour = record {
  month = pos 25;
  portfolios = 1;
  sellers = cells 16 (pos 1 ∷ []);
  resources = 1;
  list = padded 64 no_resource (record {
    portfolio = pos 0;
    bid = bid_t;
    source = source.Pack;
    costs = no_costs;
    pack = joined_pack (part 10000 (to 20000 (pos 700000) ∷ [])) (part 20000 (to 24000 (pos 500000) ∷ to 30000 (pos 800000) ∷ []));
  } ∷ []);
}

pub record Joins : Type 0 where
  -- the second part's first price is raised
  pub raises : steps (one 10 (pos 5)) (above 10) ≡ to 10 (pos 5) ∷ to 20 (pos 5) ∷ to 30 (pos 7) ∷ []
  pub starts : (joined_pack (part 4 (to 10 (pos 5) ∷ [])) (above 10)).start ≡ pos 4
  -- nothing is raised where nothing falls
  pub stays : steps (one 10 (pos 2)) (above 10) ≡ to 10 (pos 2) ∷ to 20 (pos 3) ∷ to 30 (pos 7) ∷ []
  pub negative : steps (one 10 (neg_ℤ (pos 3))) (part 10 (to 20 (neg_ℤ (pos 9)) ∷ [])) ≡ to 10 (neg_ℤ (pos 3)) ∷ to 20 (neg_ℤ (pos 3)) ∷ []
  -- the largest of the first part, not its first; neighbours of one price aren't merged
  pub largest_of_first : steps (part 0 (to 5 (pos 5) ∷ to 10 (pos 6) ∷ [])) (above 10) ≡ to 5 (pos 5) ∷ to 10 (pos 6) ∷ to 20 (pos 6) ∷ to 30 (pos 7) ∷ []
  pub not_merged : (joined_pack (one 10 (pos 3)) (above 10)).count ≡ 3
  -- 23: a gap and an overlap
  pub apart : (contract_refusal (one 10 (pos 5)) (above 11) ≡ 23) × (contract_refusal (one 10 (pos 5)) (above 9) ≡ 23)
  -- 24: 12 steps together; 11 are taken, and 11 alone pass 1
  pub eleven : (contract_refusal (level 0 6) (level 6 5) ≡ 0) × ((joined_pack (level 0 6) (level 6 5)).count ≡ 11)
  pub twelve : contract_refusal (level 0 6) (level 6 6) ≡ 24
  pub eleven_and_one : contract_refusal (level 0 11) (part 11 (to 12 (pos 0) ∷ [])) ≡ 24
  pub apart_first : contract_refusal (level 0 11) (part 12 (to 13 (pos 0) ∷ [])) ≡ 23
  pub twelve_alone : contract_refusal (level 0 12) (part 12 (to 13 (pos 0) ∷ [])) ≡ 1
  -- the lowest number over both parts, before 23
  pub one_in_second : contract_refusal prices_fall no_steps ≡ 1
  pub one_in_first : contract_refusal no_steps edges_fall ≡ 1
  pub two_in_second : contract_refusal prices_fall edges_fall ≡ 2
  pub three : (contract_refusal prices_fall (above 11) ≡ 3) × (contract_refusal (one 10 (pos 1000000001)) (above 10) ≡ 3) × (contract_refusal (one 10 (pos 1000000000)) (above 10) ≡ 0)
  pub nothing_left : (joined_pack (one 10 (pos 5)) (above 11) ≡ no_pack) × (joined_curve (one 10 (pos 5)) (above 11) ≡ blank_curve)
  -- Case T's interval, L 350,100: 700,000 up to 240 MW, where the raised step ends
  pub taken : opening_refusal hour ≡ 0
  pub cut : used_steps (curve_in (hour_after_all (opened_hour hour) (interval_t ∷ [])) 0) ≡ step_to 15000 (pos 300000) ∷ step_to 24000 (pos 700000) ∷ step_to 30000 (pos 800000) ∷ []

pub worked : Joins
unfolding in_range sum_to all_to listed those sum_over padded up_to highest_to each_to price_at chain curve_refusal curve_of blank_curve segments_n joined joined_after mitigated
    all_within factors_good outputs_good interval_refusal
    demand supply share withholdable offer offers largest top total sellers left is_non_competitive
    entering component cut_from cut_of curve_in fresh_standing next_standing call_refusal standing_after hour_after hour_after_all
    sellers_good owners_good lies_inside resource_refusal opening_refusal row_of market_of fresh_hour opened_hour
    raised_step raised joined_raw contract_refusal no_pack
worked = record {
  raises = refl;
  starts = refl;
  stays = refl;
  negative = refl;
  largest_of_first = refl;
  not_merged = refl;
  apart = (refl, refl);
  eleven = (refl, refl);
  twelve = refl;
  eleven_and_one = refl;
  apart_first = refl;
  twelve_alone = refl;
  one_in_second = refl;
  one_in_first = refl;
  two_in_second = refl;
  three = (refl, refl, refl);
  nothing_left = (refl, refl);
  taken = refl;
  cut = refl;
}
