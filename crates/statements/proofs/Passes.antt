-- Paper 02, 2.1, in full: the hourly and the five-minute price after every list of interval calls and passes on a freshly opened hour. Assumes nothing.
use Rattle.std.specs.Prelude.{Some}
use mathlib.Core.List.{List, [], ◌∷◌, ◌++◌, Memᴰ}
use mathlib.Core.Logic.{◌↔◌, ◌⊎◌, inl, inr, ⊎_elim}
use mathlib.Core.Path.{◌≡◌, refl, sym, ap, subst, ◌∙◌}
use Prim.Native.Nat.{ℕ, zero, suc, ◌≤◌, ◌<◌}
use lib.IntN.{ℤ, pos, ◌+ℤ◌, ◌-ℤ◌, ◌*ℤ◌}
use lib.ListN.{length, get_or, replicate}
use lib.Signed.{◌≤ℤ◌, ◌<ℤ◌}
use Rattle.rules_number.specs.Order.{min_z, max_z}
use Rattle.rules_curve.specs.Curves.{steps_of, end_of, price_at, quote}
use Rattle.rules_curve.specs.declared.Step.{Step}
use Rattle.rules_mitigation.specs.Mitigation.{used_steps}
use Rattle.rules_mitigation.specs.declared.Mitigated.{Mitigated}
use Rattle.rules_interval.specs.Conditions.{interval_demands}
use Rattle.rules_interval.specs.Intervals.{interval_refusal}
use Rattle.rules_interval.specs.declared.Interval.{Interval}
use Rattle.rules_path.specs.Verdicts.{not_binding}
use Rattle.rules_opening.specs.Openings.{opening_refusal}
use Rattle.rules_opening.specs.declared.Opening.{Opening}
use Rattle.rules_hour.specs.Hours.{curve_in, hour_refusal, hour_after_all}
use Rattle.rules_hour.specs.Opened.{opened_hour}
use Rattle.rules_hour.specs.Demand3.{InBid, default_price}
use Rattle.rules_hour.proofs.AcceptedOpening.{few}
use Rattle.rules_hour.proofs.Demand3.{demand_3 as hour-demand-3}
use Rattle.rules_pass.specs.Passes.{RealTimeHour, opened_real_time, interval_after, pass_refusal, pass_after, pass_verdicts, five_minute_in}
use Rattle.rules_pass.specs.Calls.{Request, interval, pass, after_all, intervals_in, Progress, none_yet, returned, returned_by, answers_from, answers, accepted_intervals, accepted_passes}
use Rattle.rules_pass.proofs.Demand3.{demand_3}
use Rattle.rules_pass.proofs.FiveMinute.{five_minute}
use Rattle.rules_pass.proofs.PassStep.{hour_stays, first_pass, pass_by_pass, pass_exactly, nineteen_exactly, accepted_pass_exactly, twelve_never, refused_pass_judges_nothing, accepted_pass_judged}
use Rattle.rules_pass.proofs.PassLaws.{passes_leave_the_hour}
use Rattle.statements.proofs.Told.{and_so, passed}
use Rattle.statements.proofs.Curves.{Rises, Differ, rises, differ}
use Rattle.statements.proofs.RefusedCalls.{CallSays, Resources, Constraints, Limits, Outputs, met_is, number_says}
use Rattle.statements.proofs.Demand3.{bid, IsComponent, component_is, CapsSay, caps_listed, caps_say, components_say, OwnerSays, owner_says, Accepted, accepted_are}
use Rattle.statements.proofs.Hours.{JudgedSays, verdict_says, call_hands_back}

-- ---- the calls
-- the numbers that they return, in order: "Each call gets the hour as the call before it left it"
abbrev pub numbers : RealTimeHour → List Request → List ℕ
numbers h [] = []
numbers h (interval v ∷ calls) = hour_refusal h.hour v ∷ numbers (interval_after h v) calls
numbers h (pass v ∷ calls) = pass_refusal h v ∷ numbers (pass_after h v) calls

-- the intervals that return 0, and the passes that return 0 after the last of them; some are taken already
abbrev pub intervals_with : List Interval → List Request → List ℕ → List Interval
intervals_with taken [] l = taken
intervals_with taken (c ∷ calls) [] = taken
intervals_with taken (interval v ∷ calls) (zero ∷ l) = intervals_with (taken ++ (v ∷ [])) calls l
intervals_with taken (interval v ∷ calls) (suc n ∷ l) = intervals_with taken calls l
intervals_with taken (pass v ∷ calls) (x ∷ l) = intervals_with taken calls l

abbrev pub passes_with : List Interval → List Request → List ℕ → List Interval
passes_with taken [] l = taken
passes_with taken (c ∷ calls) [] = taken
passes_with taken (interval v ∷ calls) (zero ∷ l) = passes_with [] calls l
passes_with taken (interval v ∷ calls) (suc n ∷ l) = passes_with taken calls l
passes_with taken (pass v ∷ calls) (zero ∷ l) = passes_with (taken ++ (v ∷ [])) calls l
passes_with taken (pass v ∷ calls) (suc n ∷ l) = passes_with taken calls l

module _ (o : Opening) (calls : List Request) where
  abbrev pub hour : RealTimeHour
  hour = after_all (opened_real_time o) calls

  abbrev pub Intervals : List Interval
  Intervals = intervals_with [] calls (numbers (opened_real_time o) calls)

  abbrev pub Passes : List Interval
  Passes = passes_with [] calls (numbers (opened_real_time o) calls)

-- the list with one call more
abbrev pub then : List Request → Request → List Request
then calls c = calls ++ (c ∷ [])

-- ---- "A five-minute price is the least of that interval's price and the caps of its accepted passes with a cut, for every list of passes."
-- of an hour that accepted intervals I and, since the last of them, passes P, the hourly and the five-minute curve of resource r
module _ (o : Opening) (r : ℕ) (I P : List Interval) (hourly fives : Mitigated) where
  pub record FiveMinutes : Type 0 where
    pub C : Interval → ℤ
    pub component : (v : Interval) → Memᴰ v P → IsComponent o v r (C v)
    pub prices : (q : ℕ) → (bid o r).start ≤ q → q < end_of (bid o r).start (steps_of (bid o r))
        → (before : ℤ) × (price : ℤ) × (quote hourly.start (used_steps hourly) q ≡ Some before) × (quote fives.start (used_steps fives) q ≡ Some price)
        × CapsSay o r P C q before price
    pub starts : fives.start ≡ (bid o r).start
    pub ends : end_of fives.start (used_steps fives) ≡ end_of (bid o r).start (steps_of (bid o r))
    pub merged : Rises fives.start (used_steps fives) × Differ (used_steps fives)
    -- no other curve has these prices
    pub only : (l : List Step) → Rises (bid o r).start l → end_of (bid o r).start l ≡ end_of (bid o r).start (steps_of (bid o r)) → Differ l
        → ((q : ℕ) → (bid o r).start ≤ q → q < end_of (bid o r).start (steps_of (bid o r)) → CapsSay o r P C q (price_at (used_steps hourly) q) (price_at l q))
        → l ≡ used_steps fives
    pub twenty_steps : fives.count ≤ 20
    pub up_to_three : length P ≤ 3
    pub follow : I ≡ [] → P ≡ []

module _ (o : Opening) (calls : List Request) (r : ℕ) where
  abbrev pub hourly : Mitigated
  hourly = curve_in (hour o calls).hour r

  abbrev pub fives : Mitigated
  fives = five_minute_in (hour o calls) r

  abbrev pub FiveMinuteSays : Type 0
  FiveMinuteSays = FiveMinutes o r (Intervals o calls) (Passes o calls) hourly fives

-- ---- a pass: "19, no interval accepted yet or three passes accepted since the last, tested before 13; 12 never applies to a pass"
-- a intervals are accepted before it, p passes since the last, and i is the number of its own values
pub record PassSays (a p i x : ℕ) : Type 0 where
  pub nineteen : (x ≡ 19) ↔ ((a ≡ 0) ⊎ (p ≡ 3))
  pub others : (n : ℕ) → (n ≡ 19 → ⊥) → (x ≡ n) ↔ (((0 < a) × (p < 3)) × (i ≡ n))
  pub never_twelve : x ≡ 12 → ⊥

-- the list, and then a pass of these values
module _ (o : Opening) (calls : List Request) (v : Interval) where
  abbrev number : ℕ
  number = pass_refusal (hour o calls) v

  pub record PassHandsBack : Type 0 where
    pub told : PassSays (length (Intervals o calls)) (length (Passes o calls)) (interval_refusal o.resources v) number
    pub accepted : (number ≡ 0)
        ↔ ((0 < length (Intervals o calls)) × (length (Passes o calls) < 3) × (Resources o.resources v × (Constraints o.resources v × (Limits o.resources v × Outputs o.resources v))))
    -- an accepted pass hands back a verdict on each of its constraints, as an interval does, and a refused one none
    pub verdicts : number ≡ 0 → (c : ℕ) → c < v.constraints → JudgedSays o v c (get_or (pass_verdicts (hour o calls) v) c not_binding)
    pub no_verdicts : (n : ℕ) → number ≡ suc n → pass_verdicts (hour o calls) v ≡ replicate 32 not_binding
    -- a refusal changes nothing, and no pass alters the hour
    pub refused : (n : ℕ) → number ≡ suc n → hour o (then calls (pass v)) ≡ hour o calls
    pub hours : (hour o (then calls (pass v))).hour ≡ (hour o calls).hour

  -- "The first starts from that interval's curves, each later one from the pass before."
  module _ (r q : ℕ) where
    abbrev now : Mitigated → ℤ
    now c = price_at (used_steps c) q

    pub record PassCuts : Type 0 where
      -- "If dispatch > 0 and C > 0", to the smaller of the five-minute price before it and its cap
      pub smaller : pos 0 <ℤ get_or v.dispatch r (pos 0) → (C : ℤ) → IsComponent o v r C → pos 0 <ℤ C → (price : ℤ)
          → (get_or v.lmp r (pos 0) *ℤ pos 1000000 -ℤ C) ≤ℤ (price *ℤ pos 1000000) → ((price -ℤ pos 1) *ℤ pos 1000000) <ℤ (get_or v.lmp r (pos 0) *ℤ pos 1000000 -ℤ C)
          → now (fives o (then calls (pass v)) r) ≡ min_z (now (fives o calls r)) (max_z (default_price o r q) (price +ℤ v.parameter))
      -- otherwise it stays
      pub stays : (C : ℤ) → IsComponent o v r C → (get_or v.dispatch r (pos 0) ≤ℤ pos 0) ⊎ (C ≤ℤ pos 0) → now (fives o (then calls (pass v)) r) ≡ now (fives o calls r)

-- ---- from the theorems
pub numbers_are : (h : RealTimeHour) (calls : List Request) → answers_from h calls ≡ numbers h calls
unfolding answers_from
numbers_are h [] = refl
numbers_are h (interval v ∷ calls) = ap (λ (l : List ℕ). hour_refusal h.hour v ∷ l) (numbers_are (interval_after h v) calls)
numbers_are h (pass v ∷ calls) = ap (λ (l : List ℕ). pass_refusal h v ∷ l) (numbers_are (pass_after h v) calls)

intervals_with_lem : (p : Progress) (calls : List Request) (l : List ℕ) → (returned_by p calls l).intervals ≡ intervals_with p.intervals calls l
intervals_with_lem p [] l = refl
intervals_with_lem p (c ∷ calls) [] = refl
intervals_with_lem p (interval v ∷ calls) (zero ∷ l) = intervals_with_lem (returned 0 p (interval v)) calls l
intervals_with_lem p (interval v ∷ calls) (suc n ∷ l) = intervals_with_lem p calls l
intervals_with_lem p (pass v ∷ calls) (zero ∷ l) = intervals_with_lem (returned 0 p (pass v)) calls l
intervals_with_lem p (pass v ∷ calls) (suc n ∷ l) = intervals_with_lem p calls l

passes_with_lem : (p : Progress) (calls : List Request) (l : List ℕ) → (returned_by p calls l).passes ≡ passes_with p.passes calls l
passes_with_lem p [] l = refl
passes_with_lem p (c ∷ calls) [] = refl
passes_with_lem p (interval v ∷ calls) (zero ∷ l) = passes_with_lem (returned 0 p (interval v)) calls l
passes_with_lem p (interval v ∷ calls) (suc n ∷ l) = passes_with_lem p calls l
passes_with_lem p (pass v ∷ calls) (zero ∷ l) = passes_with_lem (returned 0 p (pass v)) calls l
passes_with_lem p (pass v ∷ calls) (suc n ∷ l) = passes_with_lem p calls l

module _ (o : Opening) (opened : opening_refusal o ≡ 0) (calls : List Request) where
  pub intervals_are : accepted_intervals o calls ≡ Intervals o calls
  intervals_are = (demand_3 o calls 0 opened (few o opened).1).accepting ∙ intervals_with_lem none_yet calls (answers o calls) ∙ ap (intervals_with [] calls) (numbers_are (opened_real_time o) calls)

  passes_are : accepted_passes o calls ≡ Passes o calls
  passes_are = (five_minute o calls 0 opened (few o opened).1).accepting ∙ passes_with_lem none_yet calls (answers o calls) ∙ ap (passes_with [] calls) (numbers_are (opened_real_time o) calls)

  -- "Passes never alter the hour's curves, so an owner's hourly price keeps its causes with passes anywhere in the list."
  pub hourly_price : (r : ℕ) → r < o.resources → OwnerSays o r (Intervals o calls) (hourly o calls r)
  hourly_price r l = owner_says o r (Intervals o calls) (hourly o calls r) intervals_are (demand_3 o calls r opened l).owned

  -- the hour is that of the interval calls alone
  pub passes_apart : (hour o calls).hour ≡ hour_after_all (opened_hour o) (intervals_in calls)
  unfolding opened_real_time
  passes_apart = passes_leave_the_hour calls (opened_real_time o)

  -- an interval call among passes: 12 counts the accepted intervals before it, wherever passes stand
  pub interval_among : (v : Interval)
      → CallSays (length (Intervals o calls)) (interval_refusal o.resources v) (hour_refusal (hour o calls).hour v) × ((hour_refusal (hour o calls).hour v ≡ 12) ↔ (length (Intervals o calls) ≡ 4))
  interval_among v =
      let b = call_hands_back o opened (intervals_in calls) v in
      let same : Accepted o (intervals_in calls) ≡ Intervals o calls = sym (accepted_are o (intervals_in calls) 0 (hour-demand-3 o (intervals_in calls) 0 opened (few o opened).1)) ∙ intervals_are in
      rw (passes_apart, ← same) (b.number, b.twelve)

  pub five_minute_price_lem : (r : ℕ) → r < o.resources → FiveMinuteSays o calls r
  five_minute_price_lem r l =
      let F = five_minute o calls r opened l in
      let K = F.capped in
      let H = (demand_3 o calls r opened l).owned.capped in
      let here : (q : ℕ) → (bid o r).start ≤ q → q < end_of (bid o r).start (steps_of (bid o r)) → InBid o r q = λ q low high. record { from_start = low; below_end = high } in
      record {
        C = K.C;
        component = components_say o r (Passes o calls) (fives o calls r) passes_are K;
        prices = λ q low high.
            let i = here q low high in
            (price_at (used_steps (hourly o calls r)) q, price_at (used_steps (fives o calls r)) q, H.quoted q i, K.quoted q i, caps_say o r (Passes o calls) (fives o calls r) passes_are K q i);
        starts = K.is.starts;
        ends = K.is.ends;
        merged = ((rises (fives o calls r).start (used_steps (fives o calls r))).0 K.is.rising, (differ (used_steps (fives o calls r))).0 K.is.apart);
        only = λ k up to apart price.
            (K.only (bid o r).start k
            (record {
              price = λ q i.
                  let p = price q i.from_start i.below_end in
                  let same = caps_listed o r (Passes o calls) (fives o calls r) passes_are K q i in
                  record {
                    at_most_first = p.at_most_before;
                    at_most_each = λ y m. p.at_most_each y ((p.exactly y).1 ((same y).0 m));
                    attained = ⊎_elim inl (λ m. inr ((same (price_at k q)).1 ((p.exactly (price_at k q)).0 m))) p.one_of_them;
                  };
              starts = refl;
              ends = to;
              rising = (rises (bid o r).start k).1 up;
              apart = (differ k).1 apart;
            })).1;
        twenty_steps = K.twenty;
        up_to_three = rw (← passes_are) F.up_to_three;
        follow = λ e. sym passes_are ∙ F.follow (intervals_are ∙ e);
      }

  pub pass_hands_back : (v : Interval) → PassHandsBack o calls v
  pass_hands_back v =
      let n = o.resources in
      let said = subst (λ (A : List Interval). PassSays (length A) (length (accepted_passes o calls)) (interval_refusal n v) (number o calls v)) intervals_are
      (record {
        nineteen = nineteen_exactly o calls opened v;
        others = λ k other. and_so (pass_exactly o calls opened v k) (passed k 19 (interval_demands n v) ((λ x. x), λ x. x) other (number_says n v (few o opened).2 k));
        never_twelve = twelve_never (hour o calls) v;
      }) in
      let step = pass_by_pass o calls v 0 opened (few o opened).1 in
      record {
        told = subst (λ (A : List Interval). PassSays (length (Intervals o calls)) (length A) (interval_refusal n v) (number o calls v)) passes_are said;
        accepted =
            subst (λ (A : List Interval). (number o calls v ≡ 0) ↔ ((0 < length (Intervals o calls)) × (length A < 3) × (Resources n v × (Constraints n v × (Limits n v × Outputs n v))))) passes_are
            (subst (λ (A : List Interval). (number o calls v ≡ 0) ↔ ((0 < length A) × (length (accepted_passes o calls) < 3) × (Resources n v × (Constraints n v × (Limits n v × Outputs n v))))) intervals_are
            (and_so (accepted_pass_exactly o calls opened v) ((λ x. (x.0, x.1, (met_is n v (few o opened).2).0 x.2)), λ x. (x.0, x.1, (met_is n v (few o opened).2).1 x.2))));
        verdicts = λ e c l. verdict_says o v c _ (accepted_pass_judged o opened calls v e c l);
        no_verdicts = refused_pass_judges_nothing (hour o calls) v;
        refused = step.refused;
        hours = hour_stays o calls v;
      }

  pub pass_cuts : (v : Interval) → pass_refusal (hour o calls) v ≡ 0 → (r : ℕ) → r < o.resources → (q : ℕ) → (bid o r).start ≤ q → q < end_of (bid o r).start (steps_of (bid o r)) → PassCuts o calls v r q
  pass_cuts v e r l q low high =
      let step = pass_by_pass o calls v r opened l in
      let i : InBid o r q = record { from_start = low; below_end = high } in
      record {
        smaller = λ d C h a p above least. step.smaller e d C ((component_is o v r C).1 h) a p (record { at_or_above = above; least = least }) q i;
        stays = λ C h n. step.stays e C ((component_is o v r C).1 h) n q i;
      }

-- right after an accepted interval, and before any, the five-minute curve is the hour's
pub first_starts : (o : Opening) (calls : List Request) (v : Interval) → hour_refusal (hour o calls).hour v ≡ 0 → (r : ℕ) → fives o (then calls (interval v)) r ≡ hourly o (then calls (interval v)) r
first_starts o calls v e r = first_pass o calls v e r
