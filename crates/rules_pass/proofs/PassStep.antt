-- One more pass (paper 02, 2.1): "The first starts from that interval's curves, each later one from the pass before." Assumes nothing.
use Rattle.std.specs.Prelude.{Option}
use mathlib.Core.List.{List, [], ◌∷◌, ◌++◌}
use mathlib.Core.Logic.{◌↔◌, ◌⊎◌, inl, inr, ⊎_elim}
use mathlib.Core.Path.{◌≡◌, refl, sym, ap, subst, ◌∙◌}
use Prim.Native.Nat.{ℕ, suc, ◌≤◌, ◌<◌}
use native.Mathlib.Omega.{arith}
use lib.IntN.{ℤ, pos, ◌+ℤ◌}
use lib.Dec.{lit<}
use lib.ListN.{length, get_or, replicate}
use lib.Signed.{◌<ℤ◌, ◌≤ℤ◌}
use Rattle.rules_number.specs.Order.{min_z, max_z}
use Rattle.rules_number.proofs.OverLaws.{le_or_lt}
use Rattle.rules_curve.specs.Curves.{price_at}
use Rattle.rules_curve.specs.Demands.{◌asks◌, First, Met}
use Rattle.rules_curve.proofs.FirstLaws.{exactly, none_exactly}
use Rattle.rules_mitigation.specs.Mitigation.{capped, used_steps}
use Rattle.rules_mitigation.specs.declared.Mitigated.{Mitigated}
use Rattle.rules_mitigation.proofs.MitigationLaws.{capped_again}
use Rattle.rules_interval.specs.Conditions.{Ranged, Able, interval_demands}
use Rattle.rules_interval.specs.Intervals.{lmp_at, dispatch_at, interval_refusal}
use Rattle.rules_interval.specs.declared.Interval.{Interval}
use Rattle.rules_path.specs.Judgements.{verdicts_of, verdicts_unless}
use Rattle.rules_path.specs.Verdicts.{not_binding}
use Rattle.rules_opening.specs.Openings.{market_of, opening_refusal}
use Rattle.rules_opening.specs.declared.Opening.{Opening}
use Rattle.rules_hour.specs.Cuts.{cut_of}
use Rattle.rules_hour.specs.Hours.{Hour, uncut, row_at, floor_in, row_curve, curve_in, cut_floor, hour_refusal}
use Rattle.rules_hour.specs.Demand3.{default_price, InBid, Component, Competitive}
use Rattle.rules_hour.specs.declared.Floor.{Floor}
use Rattle.rules_hour.proofs.AcceptedOpening.{few, none_cut}
use Rattle.rules_hour.proofs.KeptLaws.{resources_kept}
use Rattle.rules_hour.proofs.VerdictNumbers.{Judged, market_judges, verdict_judged}
use Rattle.rules_hour.proofs.Caps.{cut_exactly, uncut_exactly}
use Rattle.rules_pass.specs.Conditions.{pass_demands}
use Rattle.rules_pass.specs.Passes.{RealTimeHour, fresh_quarter, pass_floor_in, five_minute_in, opened_real_time, pass_refusal, pass_after, turn_verdicts, pass_verdicts}
use Rattle.rules_pass.specs.Calls.{Request, interval, pass, after_all, hour_of, accepted_intervals, accepted_passes}
use Rattle.rules_pass.specs.FiveMinute.{curve_after, five_minute_after, price_after, five_minute_price}
use Rattle.rules_pass.specs.declared.Quarter.{Quarter}
use Rattle.rules_pass.proofs.PassLaws.{begins_quarter, refused_pass, one_more}
use Rattle.rules_pass.proofs.Exactly.{turn_open, turn_never_twelve}
use Rattle.rules_pass.proofs.ProgressLaws.{progress_intervals, hour_agrees, next_pass_floor}
use Rattle.rules_pass.proofs.Answers.{pass_here}
use Rattle.rules_pass.proofs.FiveMinute.{five_minute_price_lem}

-- the list with one call more
abbrev pub followed : List Request → Request → List Request
followed calls c = calls ++ (c ∷ [])

pub record PassStep (o : Opening) (calls : List Request) (v : Interval) (r : ℕ) : Type 0 where
  -- an accepted pass cuts each quantity's five-minute price, or leaves it: "each later one from the pass before"
  pub cuts : pass_refusal (hour_of o calls) v ≡ 0 → (q : ℕ) → InBid o r q
      → five_minute_price o (followed calls (pass v)) r q ≡ capped (cut_of (market_of o) v r) (five_minute_price o calls r q) (default_price o r q)
  -- where the resource is dispatched and its component is above 0, to the smaller of that price and its cap
  pub smaller : pass_refusal (hour_of o calls) v ≡ 0 → pos 0 <ℤ dispatch_at v r → (C : ℤ) → Component o v r C → pos 0 <ℤ C
      → (p : ℤ) → Competitive (lmp_at v r) C p → (q : ℕ) → InBid o r q
      → five_minute_price o (followed calls (pass v)) r q ≡ min_z (five_minute_price o calls r q) (max_z (default_price o r q) (p +ℤ v.parameter))
  -- otherwise it stays
  pub stays : pass_refusal (hour_of o calls) v ≡ 0 → (C : ℤ) → Component o v r C → (dispatch_at v r ≤ℤ pos 0) ⊎ (C ≤ℤ pos 0)
      → (q : ℕ) → InBid o r q → five_minute_price o (followed calls (pass v)) r q ≡ five_minute_price o calls r q
  -- a refused pass leaves the hour, the quarter hour and so every curve as they were
  pub refused : (n : ℕ) → pass_refusal (hour_of o calls) v ≡ suc n → hour_of o (followed calls (pass v)) ≡ hour_of o calls
  -- no pass, accepted or refused, alters the hour's curves
  pub hourly : curve_after o (followed calls (pass v)) r ≡ curve_after o calls r

-- a pass leaves the hour
pass_hour : (h : RealTimeHour) (v : Interval) → (pass_after h v).hour ≡ h.hour
unfolding pass_after
pass_hour h v = refl

pub hour_stays : (o : Opening) (calls : List Request) (v : Interval) → (hour_of o (followed calls (pass v))).hour ≡ (hour_of o calls).hour
hour_stays o calls v = ap (λ (h : RealTimeHour). h.hour) (one_more (opened_real_time o) calls (pass v)) ∙ pass_hour (hour_of o calls) v

module _ (o : Opening) (calls : List Request) (v : Interval) (r : ℕ) (accepted : opening_refusal o ≡ 0) (l : r < o.resources) where
  same_curve : curve_after o (followed calls (pass v)) r ≡ curve_after o calls r
  same_curve = ap (λ (h : Hour). curve_in h r) (hour_stays o calls v)

  cut_by : pass_refusal (hour_of o calls) v ≡ 0 → (q : ℕ) → InBid o r q
      → five_minute_price o (followed calls (pass v)) r q ≡ capped (cut_of (market_of o) v r) (five_minute_price o calls r q) (default_price o r q)
  cut_by e q i =
      let h = hour_of o calls in
      let floor : pass_floor_in (hour_of o (followed calls (pass v))) r ≡ cut_floor (cut_of (market_of o) v r) (pass_floor_in h r)
      = ap (λ (g : RealTimeHour). pass_floor_in g r) (one_more (opened_real_time o) calls (pass v)) ∙ next_pass_floor o accepted h _ (hour_agrees o accepted calls) v e r l in
      let d = default_price o r q in
      five_minute_price_lem o (followed calls (pass v)) r accepted l q i
      ∙ ap (λ (k : Floor). capped k.price (price_after o (followed calls (pass v)) r q) d) floor
      ∙ ap (λ (c : Mitigated). capped (cut_floor (cut_of (market_of o) v r) (pass_floor_in h r)).price (price_at (used_steps c) q) d) same_curve
      ∙ capped_again (pass_floor_in h r).price (cut_of (market_of o) v r) (price_after o calls r q) d
      ∙ ap (λ (x : ℤ). capped (cut_of (market_of o) v r) x d) (sym (five_minute_price_lem o calls r accepted l q i))

  -- none of 13 to 16 applies to it
  sound : pass_refusal (hour_of o calls) v ≡ 0 → interval_refusal o.resources v ≡ 0
  sound e =
      let h = hour_of o calls in
      ap (λ (n : ℕ). interval_refusal n v) (sym (resources_kept o h.hour (hour_agrees o accepted calls).kept))
      ∙ (turn_open h.hour.market h.hour.standing.accepted h.quarter v e).2

  pub pass_by_pass : PassStep o calls v r
  pass_by_pass = record {
    cuts = cut_by;
    smaller = λ e d C h a p k q i.
        cut_by e q i ∙ ap (λ (x : Option ℤ). capped x (five_minute_price o calls r q) (default_price o r q)) (cut_exactly o accepted v (sound e) r C h d a p k);
    stays = λ e C h a q i. cut_by e q i ∙ ap (λ (x : Option ℤ). capped x (five_minute_price o calls r q) (default_price o r q)) (uncut_exactly o accepted v (sound e) r C h a);
    refused = λ n e. one_more (opened_real_time o) calls (pass v) ∙ refused_pass (hour_of o calls) v n e;
    hourly = same_curve;
  }

-- ---- "The first starts from that interval's curves"
-- where the quarter hour has no pass, the five-minute curve is the hour's
no_pass : (h : RealTimeHour) (r : ℕ) → h.quarter ≡ fresh_quarter → five_minute_in h r ≡ curve_in h.hour r
unfolding five_minute_in curve_in fresh_quarter
no_pass h r e =
    ap (λ (k : Floor). row_curve (row_at h.hour r) (cut_floor k.price (floor_in h.hour r))) (ap (λ (k : Quarter). get_or k.floors r uncut) e ∙ none_cut 64 r)

-- right after an accepted interval the five-minute curve of every resource is the hour's, whatever passes came before
pub first_pass : (o : Opening) (calls : List Request) (v : Interval) → hour_refusal (hour_of o calls).hour v ≡ 0
    → (r : ℕ) → five_minute_after o (followed calls (interval v)) r ≡ curve_after o (followed calls (interval v)) r
first_pass o calls v e r =
    no_pass (hour_of o (followed calls (interval v))) r
    (ap (λ (h : RealTimeHour). h.quarter) (one_more (opened_real_time o) calls (interval v)) ∙ begins_quarter (hour_of o calls) v e)

-- before the first accepted interval too
pub no_interval : (o : Opening) (r : ℕ) → five_minute_after o [] r ≡ curve_after o [] r
unfolding opened_real_time after_all
no_interval o r = no_pass (opened_real_time o) r refl

-- ---- 19
-- 19 is no number of 13 to 16
none_of_them : (n : ℕ) (v : Interval) → First 19 (interval_demands n v) → ⊥
none_of_them n v (inr a) = omega (arith, a.1)
none_of_them n v (inl a) = fourteen a.1
  where
    sixteen : First 19 ((16 asks Able v) ∷ []) → ⊥
    sixteen (inr d) = omega (arith, d.1)
    sixteen (inl d) = omega (arith, d.1)

    fifteen : First 19 ((15 asks Ranged v) ∷ (16 asks Able v) ∷ []) → ⊥
    fifteen (inr c) = omega (arith, c.1)
    fifteen (inl c) = sixteen c.1

    fourteen : First 19 ((14 asks (v.constraints ≤ 32)) ∷ (15 asks Ranged v) ∷ (16 asks Able v) ∷ []) → ⊥
    fourteen (inr b) = omega (arith, b.1)
    fourteen (inl b) = fifteen b.1

-- with a accepted intervals and p passes since the last, of at most three
nineteen_by : (a p n : ℕ) (v : Interval) → p ≤ 3 → First 19 (pass_demands a p n v) ↔ ((a ≡ 0) ⊎ (p ≡ 3))
nineteen_by a p n v few = (there, λ h. inr ((λ m. ⊎_elim (λ e. omega (arith, m.0)) (λ e. omega (arith, m.1)) h), refl, lit< tt))
  where
    there : First 19 (pass_demands a p n v) → (a ≡ 0) ⊎ (p ≡ 3)
    there (inl x) = absurd (none_of_them n v x.1)
    there (inr x) =
        ⊎_elim (λ l. ⊎_elim (λ m. inr (omega (arith, few))) (λ m. absurd (x.0 (l, m))) (le_or_lt 3 p)) (λ l. inl (omega arith)) (le_or_lt 1 a)

module _ (o : Opening) (calls : List Request) (accepted : opening_refusal o ≡ 0) (v : Interval) where
  -- the next pass's number is that of the first demand that is not met
  pub pass_exactly : (n : ℕ) → (pass_refusal (hour_of o calls) v ≡ n) ↔ First n (pass_demands (length (accepted_intervals o calls)) (length (accepted_passes o calls)) o.resources v)
  pass_exactly n =
      let h = hour_of o calls in
      let a = hour_agrees o accepted calls in
      let one = subst (λ (x : ℕ). First (pass_refusal h v) (pass_demands x h.quarter.passes o.resources v)) (a.count ∙ ap length (progress_intervals o calls)) (pass_here o accepted h a.kept v) in
      let two = subst (λ (x : ℕ). First (pass_refusal h v) (pass_demands (length (accepted_intervals o calls)) x o.resources v)) a.passes one in
      exactly (pass_demands (length (accepted_intervals o calls)) (length (accepted_passes o calls)) o.resources v) (pass_refusal h v) two n

  -- a pass is accepted exactly when none of 19 and 13 to 16 applies
  pub accepted_pass_exactly : (pass_refusal (hour_of o calls) v ≡ 0)
      ↔ ((0 < length (accepted_intervals o calls)) × (length (accepted_passes o calls) < 3) × Met (interval_demands o.resources v))
  accepted_pass_exactly =
      let e = pass_exactly 0 in
      let m = none_exactly (pass_demands (length (accepted_intervals o calls)) (length (accepted_passes o calls)) o.resources v) in
      ((λ x. let y = m.0 (e.0 x) in (y.0.0, y.0.1, y.1)), λ y. e.1 (m.1 ((y.0, y.1), y.2)))

  -- "19, no interval accepted yet or three passes accepted since the last, tested before 13"
  pub nineteen_exactly : (pass_refusal (hour_of o calls) v ≡ 19) ↔ ((length (accepted_intervals o calls) ≡ 0) ⊎ (length (accepted_passes o calls) ≡ 3))
  nineteen_exactly =
      let e = pass_exactly 19 in
      let n = nineteen_by (length (accepted_intervals o calls)) (length (accepted_passes o calls)) o.resources v (hour_agrees o accepted calls).few in
      ((λ x. n.0 (e.0 x)), λ y. e.1 (n.1 y))

-- "12 never applies to a pass", whatever the hour
pub twelve_never : (h : RealTimeHour) (v : Interval) → pass_refusal h v ≡ 12 → ⊥
twelve_never h v = turn_never_twelve h.hour.market h.hour.standing.accepted h.quarter v

-- ---- the verdicts that a pass hands back
-- a refusal returns its number alone
pub refused_pass_judges_nothing : (h : RealTimeHour) (v : Interval) (n : ℕ) → pass_refusal h v ≡ suc n → pass_verdicts h v ≡ replicate 32 not_binding
unfolding turn_verdicts
refused_pass_judges_nothing h v n e = ap (λ (x : ℕ). verdicts_unless x (verdicts_of h.hour.market v)) e

-- an accepted pass has a verdict on each of its constraints, as an interval has
pub accepted_pass_judged : (o : Opening) → opening_refusal o ≡ 0 → (calls : List Request) (v : Interval) → pass_refusal (hour_of o calls) v ≡ 0 → (c : ℕ) → c < v.constraints
    → Judged o v c (get_or (pass_verdicts (hour_of o calls) v) c not_binding)
unfolding turn_verdicts
accepted_pass_judged o accepted calls v e c l =
    let h = hour_of o calls in
    let own = ap (λ (x : ℕ). get_or (verdicts_unless x (verdicts_of h.hour.market v)) c not_binding) e ∙ market_judges o [] v accepted h.hour.market (hour_agrees o accepted calls).kept.market c l in
    rw own (verdict_judged o accepted v (sound o calls v 0 accepted (few o accepted).1 e) c)
