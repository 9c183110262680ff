-- Paper 01, Interval and hour: what one call more on a freshly opened hour says, does and hands back, whatever the calls before it, in full. Assumes nothing.
use Rattle.std.specs.Prelude.{None, Option}
use mathlib.Core.List.{List, [], ◌∷◌, ◌++◌}
use mathlib.Core.Logic.{◌⊎◌, ◌↔◌}
use mathlib.Core.Path.{◌≡◌, sym, ap, subst, ◌∙◌}
use Prim.Native.Nat.{ℕ, suc, ◌≤◌, ◌<◌}
use lib.IntN.{ℤ, pos, ◌+ℤ◌, ◌-ℤ◌, ◌*ℤ◌}
use lib.ListN.{length, get_or, replicate}
use lib.Signed.{◌≤ℤ◌, ◌<ℤ◌}
use Rattle.rules_number.specs.Order.{min_z, max_z}
use Rattle.rules_curve.specs.Curves.{steps_of, end_of, price_at}
use Rattle.rules_curve.specs.declared.Step.{Step}
use Rattle.rules_mitigation.specs.Mitigation.{used_steps}
use Rattle.rules_mitigation.specs.declared.Mitigated.{Mitigated}
use Rattle.rules_interval.specs.Intervals.{interval_refusal}
use Rattle.rules_interval.specs.declared.Interval.{Interval}
use Rattle.rules_path.specs.Verdicts.{not_binding}
use Rattle.rules_path.specs.declared.Verdict.{Verdict}
use Rattle.rules_path.specs.declared.Finding.TheVariants as finding
use Rattle.rules_opening.specs.Openings.{opening_refusal}
use Rattle.rules_opening.specs.declared.Opening.{Opening}
use Rattle.rules_hour.specs.Hours.{Hour, floor_in, curve_in, hour_refusal, hour_verdicts, hour_after_all}
use Rattle.rules_hour.specs.Opened.{opened_hour}
use Rattle.rules_hour.specs.Demand3.{accepted_calls, counterflow_demand, counterflow_supply, can_withhold, effectiveness_on, InBid}
use Rattle.rules_hour.proofs.Demand3.{demand_3}
use Rattle.rules_hour.proofs.FourIntervals.{at_most_four, twelve_exactly, next_exactly}
use Rattle.rules_hour.proofs.IntervalStep.{interval_by_interval}
use Rattle.rules_hour.proofs.VerdictNumbers.{Judged, refused_judges_nothing, accepted_judged}
use Rattle.rules_hour.proofs.CurveShape.{Shape, shape, opened_shape}
use Rattle.rules_hour.proofs.AcceptedOpening.{few}
use Rattle.statements.proofs.Told.{and_so}
use Rattle.statements.proofs.Plain.{SignedSum}
use Rattle.statements.proofs.Paths.{Bit}
use Rattle.statements.proofs.Curves.{Mitigates, mitigates}
use Rattle.statements.proofs.RefusedCalls.{CallSays, call_says}
use Rattle.statements.proofs.Demand3.{Demand, Supply, Withholdable, Choice, Entering, IsComponent, Accepted, bid, default, chosen, list_of, list_few, list_once, list_each, sum_at, from_sum, enters_is, component_is, accepted_are}

-- the hour after the calls
abbrev pub hour_at : Opening → List Interval → Hour
hour_at o calls = hour_after_all (opened_hour o) calls

-- what the verdict x on constraint c of an accepted call says
pub record JudgedSays (o : Opening) (v : Interval) (c : ℕ) (x : Verdict) : Type 0 where
  -- "A constraint binds exactly when its shadow price is above 0."
  pub not_binding_lem : (x.finding ≡ finding.NotBinding) ↔ (get_or v.shadow c (pos 0) ≤ℤ pos 0)
  pub non_competitive : (x.finding ≡ finding.NonCompetitive) ↔ Entering o v c
  pub demand : pos 0 <ℤ get_or v.shadow c (pos 0) → pos x.demand ≡ Demand o v c
  -- "left", supply less the three largest such amounts
  pub left : pos 0 <ℤ get_or v.shadow c (pos 0) → (y : Choice o v c) × (pos x.left ≡ Supply o v c -ℤ SignedSum (λ i. pos (y.amount i)) y.count)
  pub none_less : pos 0 <ℤ get_or v.shadow c (pos 0) → (y : Choice o v c) → pos x.left ≤ℤ (Supply o v c -ℤ SignedSum (λ i. pos (y.amount i)) y.count)
  pub withheld : (p : ℕ) → p < 16 → Bit p x.named ≡ 1 → (p < o.portfolios) × (get_or o.sellers p (pos 0) ≡ pos 1) × (pos (get_or x.withheld p 0) ≡ Withholdable o v c p)
  pub others : (p : ℕ) → p < 16 → Bit p x.named ≡ 0 → get_or x.withheld p 0 ≡ 0

pub record CallHandsBack (o : Opening) (calls : List Interval) (v : Interval) : Type 0 where
  -- "An interval call is accepted exactly when none of 12 to 16 applies, and 12 counts the accepted ones before it in the list."
  pub number : CallSays (length (Accepted o calls)) (interval_refusal o.resources v) (hour_refusal (hour_at o calls) v)
  pub at_most_four : length (Accepted o calls) ≤ 4
  -- 12 "four already accepted"
  pub twelve : (hour_refusal (hour_at o calls) v ≡ 12) ↔ (length (Accepted o calls) ≡ 4)
  pub verdicts : hour_refusal (hour_at o calls) v ≡ 0 → (c : ℕ) → c < v.constraints → JudgedSays o v c (get_or (hour_verdicts (hour_at o calls) v) c not_binding)
  -- "A refusal returns its number alone": no verdicts, and "a refused call leaves it as it was"
  pub refused : (n : ℕ) → hour_refusal (hour_at o calls) v ≡ suc n → (hour_verdicts (hour_at o calls) v ≡ replicate 32 not_binding) × (hour_at o (calls ++ (v ∷ [])) ≡ hour_at o calls)

-- the price of quantity q of resource r after the calls
abbrev price_of : Opening → List Interval → ℕ → ℕ → ℤ
price_of o calls r q = price_at (used_steps (curve_in (hour_at o calls) r)) q

-- an accepted call and the price of quantity q of a bid
pub record CallCuts (o : Opening) (calls : List Interval) (v : Interval) (r q : ℕ) : Type 0 where
  -- "If dispatch > 0 and C > 0, each quantity's price becomes the smaller of its present price and its cap, the higher of default price and L."
  pub smaller : pos 0 <ℤ get_or v.dispatch r (pos 0) → (C : ℤ) → IsComponent o v r C → pos 0 <ℤ C
      → (p : ℤ) → (get_or v.lmp r (pos 0) *ℤ pos 1000000 -ℤ C) ≤ℤ (p *ℤ pos 1000000) → ((p -ℤ pos 1) *ℤ pos 1000000) <ℤ (get_or v.lmp r (pos 0) *ℤ pos 1000000 -ℤ C)
      → price_of o (calls ++ (v ∷ [])) r q ≡ min_z (price_of o calls r q) (max_z (price_at (steps_of (default o r)) q) (p +ℤ v.parameter))
  -- "Otherwise it stays."
  pub stays : (C : ℤ) → IsComponent o v r C → (get_or v.dispatch r (pos 0) ≤ℤ pos 0) ⊎ (C ≤ℤ pos 0) → price_of o (calls ++ (v ∷ [])) r q ≡ price_of o calls r q

-- the curve c of a resource: the one mitigated curve of its bid, with the floor price k
pub record CurveSays (o : Opening) (r : ℕ) (k : Option ℤ) (c : Mitigated) : Type 0 where
  pub only : (p : ℕ) (l : List Step) → ((p ≡ c.start) × (l ≡ used_steps c)) ↔ Mitigates k (bid o r) (default o r) p l
  pub twenty : c.count ≤ 20

-- ---- from the theorems
curve_says : (o : Opening) (r : ℕ) (k : Option ℤ) (c : Mitigated) → Shape o r k c → CurveSays o r k c
curve_says o r k c h = record {
  only = λ p l. (
    (λ e. (mitigates k (bid o r) (default o r) p l).0 (rw (e.0, e.1) h.is)),
    λ m. (m.0 ∙ sym h.is.starts, h.only p l ((mitigates k (bid o r) (default o r) p l).1 m)),
  );
  twenty = h.twenty;
}

module _ (o : Opening) (v : Interval) (c : ℕ) (x : Verdict) where
  pub verdict_says : Judged o v c x → JudgedSays o v c x
  unfolding counterflow_demand counterflow_supply can_withhold effectiveness_on
  verdict_says j = record {
    not_binding_lem = j.not_binding_lem;
    non_competitive = and_so j.non_competitive (enters_is o v c);
    demand = j.demand;
    left = λ b. let l = j.left b in (chosen o v c l.choice l.few l.once l.each, l.exactly ∙ ap (λ (z : ℤ). Supply o v c -ℤ z) (sum_at l.choice));
    none_less = λ b y. rw (← from_sum y.count y.who y.amount) ((j.left b).none_less (list_of o v c y) (list_few o v c y) (list_once o v c y) (list_each o v c y));
    withheld = λ p l b. let w = j.withheld p l b in (w.0.0, w.0.1, w.1);
    others = j.others;
  }

module _ (o : Opening) (opened : opening_refusal o ≡ 0) where
  pub call_hands_back : (calls : List Interval) (v : Interval) → CallHandsBack o calls v
  call_hands_back calls v =
      let same = accepted_are o calls 0 (demand_3 o calls 0 opened (few o opened).1) in
      record {
        number = subst (λ (A : List Interval). CallSays (length A) (interval_refusal o.resources v) (hour_refusal (hour_at o calls) v)) same
            (call_says (length (accepted_calls o calls)) o.resources (hour_refusal (hour_at o calls) v) v (few o opened).2 (next_exactly o calls opened v));
        at_most_four = rw (← same) (at_most_four o calls);
        twelve = rw (← same) (twelve_exactly o calls opened v);
        verdicts = λ e c l. verdict_says o v c _ (accepted_judged o opened calls v e c l);
        refused = λ n e. (refused_judges_nothing o calls v opened n e, (interval_by_interval o calls v 0 opened (few o opened).1).refused n e);
      }

  module _ (r : ℕ) (l : r < o.resources) where
    pub call_cuts : (calls : List Interval) (v : Interval) → hour_refusal (hour_at o calls) v ≡ 0 → (q : ℕ) → (bid o r).start ≤ q → q < end_of (bid o r).start (steps_of (bid o r))
        → CallCuts o calls v r q
    call_cuts calls v e q low high =
        let step = interval_by_interval o calls v r opened l in
        let i : InBid o r q = record { from_start = low; below_end = high } in
        record {
          smaller = λ d C h a p above least. step.smaller e d C ((component_is o v r C).1 h) a p (record { at_or_above = above; least = least }) q i;
          stays = λ C h n. step.stays e C ((component_is o v r C).1 h) n q i;
        }

    -- after any list of calls, and in the opened hour, where nothing is cut
    pub curve_after_lem : (calls : List Interval) → CurveSays o r (floor_in (hour_at o calls) r).price (curve_in (hour_at o calls) r)
    curve_after_lem calls = curve_says o r _ _ (shape o r opened l calls)

    pub curve_opened : CurveSays o r None (curve_in (opened_hour o) r)
    curve_opened = curve_says o r _ _ (opened_shape o r opened l)
