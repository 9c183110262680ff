-- The page of an accepted interval has the verdicts' own numbers and the curves' own steps. Assumes nothing.
use mathlib.Core.List.{List, [], ◌∷◌, ◌++◌, map}
use mathlib.Core.Path.{◌≡◌, refl, sym, ap, ap₂, ◌∙◌}
use Prim.Native.Nat.{ℕ, ◌≤◌, ◌<◌, min}
use native.Mathlib.Nat.{le_refl}
use native.Mathlib.Omega.{arith}
use lib.IntN.{pos}
use lib.ListN.{take}
use Rattle.rules_number.specs.Over.{listed, padded}
use Rattle.rules_number.proofs.OverLaws.{listed_same, listed_length, padded_used}
use Rattle.rules_curve.specs.declared.Step.{Step}
use Rattle.rules_curve.proofs.ChainLaws.{map_listed}
use Rattle.rules_mitigation.specs.Mitigation.{used_steps}
use Rattle.rules_interval.specs.Intervals.{interval_refusal}
use Rattle.rules_interval.specs.declared.Interval.{Interval}
use Rattle.rules_path.specs.Judgements.{path_in, verdicts_of, verdicts_unless}
use Rattle.rules_path.specs.Paths.{withholdable}
use Rattle.rules_path.specs.Verdicts.{finding_number, verdict_of, not_binding, is_named}
use Rattle.rules_path.specs.declared.Market.{Market}
use Rattle.rules_path.specs.declared.Verdict.{Verdict}
use Rattle.rules_opening.specs.Openings.{opening_refusal, market_of}
use Rattle.rules_opening.specs.declared.Opening.{Opening}
use Rattle.rules_hour.specs.Demand3.{hour_of, curve_after}
use Rattle.rules_hour.specs.Hours.{curve_in, call_verdicts, hour_refusal, hour_verdicts}
use Rattle.rules_hour.proofs.AcceptedOpening.{few}
use Rattle.rules_hour.proofs.FourIntervals.{accepted_exactly}
use Rattle.rules_hour.proofs.KeptLaws.{hour_kept, resources_kept}
use Rattle.rules_text.specs.Numbers.{Row}
use Rattle.rules_text.specs.Printing.{table_text}
use Rattle.rules_text.specs.Spelled.{Every, and_all}
use Rattle.rules_page.specs.Pages.{printable, verdict_row, verdict_rows, seller_rows, step_row, verdict_names, seller_names, curve_names, verdict_table, seller_table, curve_table, verdict_text, curve_text, page_text}
use Rattle.rules_page.proofs.SameValues.{same_quantity, same_verdict, same_curves}
use Rattle.rules_page.proofs.SellerOrder.{same_weights}
use Rattle.rules_page.proofs.SellerLines.{seller_line, SellerLines, seller_lines}
use Rattle.rules_page.proofs.StepBound.{StepFew, steps_few}
use Rattle.rules_page.proofs.WithinBound.{verdict_few, withholdable_few}

-- "interval constraint verdict demand left": a verdict's number, demand and left
abbrev pub verdict_line : Verdict → Row
verdict_line v = pos (finding_number v.finding) ∷ pos v.demand ∷ pos v.left ∷ []

-- "interval resource end price"
abbrev pub step_line : Step → Row
step_line s = pos s.end ∷ s.price ∷ []

-- the page of interval i, judged on a market, that leaves n resources with these curves
pub record OwnPage (i : ℕ) (m : Market) (v : Interval) (n : ℕ) (curves : ℕ → List Step) (text : List ℕ) : Type 0 where
  -- the lines of the sellers of each constraint: exactly those named, each once, with what it can withhold, the larger amount first
  pub sellers : ℕ → List Row
  pub named : (c : ℕ) → c < v.constraints → SellerLines (path_in m v c) (withholdable (path_in m v c)) (sellers c)
  -- "its three tables, names lines included"; "constraints and resources rise"
  pub is : text
      ≡ (verdict_names ++ (table_text i 0 (listed (λ c. verdict_line (verdict_of (path_in m v c)) ∷ []) v.constraints) ++ (seller_names ++ table_text i 0 (listed sellers v.constraints))))
      ++ (curve_names ++ table_text i 0 (listed (λ r. map step_line (curves r)) n))

-- ---- verdicts and sellers
module _ (m : Market) (v : Interval) (passed : interval_refusal m.resources v ≡ 0) where
  module _ (c : ℕ) (here : c < v.constraints) where
    -- "demand" and "left" are printed as they are
    pub own_verdict : verdict_rows (verdict_of (path_in m v c)) ≡ verdict_line (verdict_of (path_in m v c)) ∷ []
    own_verdict =
        let x = verdict_of (path_in m v c) in
        let f = verdict_few m v passed c here in
        ap (λ (y : Verdict). verdict_row y ∷ []) (same_verdict (path_in m v c))
        ∙ ap₂ (λ (a b : ℕ). (pos (finding_number x.finding) ∷ pos a ∷ pos b ∷ []) ∷ []) (same_quantity x.demand (omega (arith, f.demand))) (same_quantity x.left (omega (arith, f.left)))

    -- and so is "withheld"
    pub own_sellers : SellerLines (path_in m v c) (withholdable (path_in m v c)) (seller_rows (verdict_of (path_in m v c)))
    own_sellers =
        let d = path_in m v c in
        let s = seller_lines d (le_refl 16) in
        record {
          who = s.who;
          order = same_weights (withholdable d) (λ p. printable (withholdable d p)) (is_named (verdict_of d)) s.who (λ p n. sym (whole p)) s.order;
          exactly = s.exactly;
          lines = s.lines ∙ own s.who;
        }
      where
        whole : (p : ℕ) → printable (withholdable (path_in m v c) p) ≡ withholdable (path_in m v c) p
        whole p = same_quantity (withholdable (path_in m v c) p) (omega (arith, withholdable_few m v passed c here p))

        own : (l : List ℕ) → map (seller_line (λ p. printable (withholdable (path_in m v c) p))) l ≡ map (seller_line (withholdable (path_in m v c))) l
        own [] = refl
        own (p ∷ l) = ap₂ (λ (a : ℕ) (t : List Row). (pos p ∷ pos a ∷ []) ∷ t) (whole p) (own l)

-- the verdicts of an interval, in order
judged : (m : Market) (v : Interval) → take v.constraints (verdicts_of m v) ≡ listed (λ c. verdict_of (path_in m v c)) v.constraints
unfolding verdicts_of
judged m v =
    let l = listed (λ c. verdict_of (path_in m v c)) v.constraints in
    ap (λ (n : ℕ). take n (padded 32 not_binding l)) (sym (listed_length (λ c. verdict_of (path_in m v c)) v.constraints)) ∙ padded_used 32 not_binding l

rows_of : (f : Verdict → List Row) (m : Market) (v : Interval) → map f (take v.constraints (verdicts_of m v)) ≡ listed (λ c. f (verdict_of (path_in m v c))) v.constraints
rows_of f m v = ap (map f) (judged m v) ∙ map_listed f (λ c. verdict_of (path_in m v c)) v.constraints

-- ---- steps
own_steps : (l : List Step) → Every StepFew l → map step_row l ≡ map step_line l
own_steps [] h = refl
own_steps (s ∷ l) (and_all f h) = ap₂ (λ (a : ℕ) (t : List Row). (pos a ∷ s.price ∷ []) ∷ t) (same_quantity s.end (omega (arith, f.end))) (own_steps l h)

module _ (o : Opening) (accepted : opening_refusal o ≡ 0) where
  -- the steps of a resource's curve are printed as they are
  pub own_curve : (r : ℕ) → r < o.resources → (calls : List Interval) → map step_row (used_steps (curve_after o calls r)) ≡ map step_line (used_steps (curve_after o calls r))
  own_curve r l calls = own_steps (used_steps (curve_after o calls r)) (steps_few o accepted r l calls)

  -- ---- the page of an interval that the hour after these calls accepts, and that leaves the hour after
  module _ (calls : List Interval) (v : Interval) (taken : hour_refusal (hour_of o calls) v ≡ 0) where
    passed : interval_refusal (market_of o).resources v ≡ 0
    unfolding market_of
    passed = ((accepted_exactly o calls accepted v).0 taken).1

    -- its verdicts are those on the opening's market
    pub verdicts_are : hour_verdicts (hour_of o calls) v ≡ verdicts_of (market_of o) v
    unfolding call_verdicts
    verdicts_are =
        ap (λ (n : ℕ). verdicts_unless n (verdicts_of (hour_of o calls).market v)) taken
        ∙ ap (λ (m : Market). verdicts_of m v) (hour_kept o calls accepted).market

    verdict_table_lem : (i : ℕ) → i ≤ 9223372036854775807 → verdict_table i v.constraints (hour_verdicts (hour_of o calls) v)
        ≡ table_text i 0 (listed (λ c. verdict_line (verdict_of (path_in (market_of o) v c)) ∷ []) v.constraints)
    unfolding verdict_table
    verdict_table_lem i few =
        ap₂ (λ (j : ℕ) (l : List (List Row)). table_text j 0 l) (same_quantity i few)
        (ap (λ (l : List Verdict). map verdict_rows (take v.constraints l)) verdicts_are ∙ rows_of verdict_rows (market_of o) v
        ∙ listed_same (λ c. verdict_rows (verdict_of (path_in (market_of o) v c))) (λ c. verdict_line (verdict_of (path_in (market_of o) v c)) ∷ []) v.constraints (own_verdict (market_of o) v passed))

    seller_table_lem : (i : ℕ) → i ≤ 9223372036854775807 → seller_table i v.constraints (hour_verdicts (hour_of o calls) v)
        ≡ table_text i 0 (listed (λ c. seller_rows (verdict_of (path_in (market_of o) v c))) v.constraints)
    unfolding seller_table
    seller_table_lem i few =
        ap₂ (λ (j : ℕ) (l : List (List Row)). table_text j 0 l) (same_quantity i few)
        (ap (λ (l : List Verdict). map seller_rows (take v.constraints l)) verdicts_are ∙ rows_of seller_rows (market_of o) v)

  -- the curves of the hour after these calls
  curve_table_lem : (calls : List Interval) (i : ℕ) → i ≤ 9223372036854775807
      → curve_table i (hour_of o calls).market.resources (hour_of o calls).rows (hour_of o calls).standing.floors
      ≡ table_text i 0 (listed (λ r. map step_line (used_steps (curve_after o calls r))) o.resources)
  curve_table_lem calls i few-i =
      let h = hour_of o calls in
      let n : min h.market.resources 64 ≡ o.resources = omega (arith, resources_kept o h (hour_kept o calls accepted), (few o accepted).2) in
      same_curves i h
      ∙ ap₂ (λ (j : ℕ) (l : List (List Row)). table_text j 0 l) (same_quantity i few-i)
      (map_listed (λ r. map step_row (used_steps (curve_in h r))) (λ r. r) (min h.market.resources 64)
      ∙ ap (listed (λ r. map step_row (used_steps (curve_in h r)))) n
      ∙ listed_same (λ r. map step_row (used_steps (curve_in h r))) (λ r. map step_line (used_steps (curve_after o calls r))) o.resources (λ r l. own_curve r l calls))

  -- the interval's page, with the hour that it leaves
  pub own_page : (calls : List Interval) (v : Interval) → hour_refusal (hour_of o calls) v ≡ 0 → (after : List Interval) (i : ℕ) → i ≤ 9223372036854775807
      → OwnPage i (market_of o) v o.resources (λ r. used_steps (curve_after o after r))
      (page_text i (hour_of o after).market.resources (hour_of o after).rows (hour_of o after).standing.floors v.constraints (hour_verdicts (hour_of o calls) v))
  unfolding verdict_text curve_text
  own_page calls v taken after i few-i = record {
    sellers = λ c. seller_rows (verdict_of (path_in (market_of o) v c));
    named = own_sellers (market_of o) v (passed calls v taken);
    is = ap₂ (λ (x y : List ℕ). x ++ (curve_names ++ y))
        (ap₂ (λ (x y : List ℕ). verdict_names ++ (x ++ (seller_names ++ y))) (verdict_table_lem calls v taken i few-i) (seller_table_lem calls v taken i few-i)) (curve_table_lem after i few-i);
  }
