-- From the promises of what the calls return, the sentences of demand 3 and of the requests. Assumes nothing.
use mathlib.Core.List.{List, [], ◌∷◌, map}
use mathlib.Core.Logic.{◌↔◌, ◌⊎◌, ⊎_elim}
use mathlib.Core.Path.{◌≡◌, refl, sym, ap, subst, ◌∙◌}
use Prim.Native.Nat.{ℕ, ◌<◌}
use lib.ListN.{length, get_or}
use Rattle.rules_mitigation.specs.declared.Mitigated.{Mitigated}
use Rattle.rules_interval.specs.Intervals.{interval_refusal}
use Rattle.rules_interval.specs.declared.Interval.{Interval}
use Rattle.rules_path.specs.Judgements.{verdicts_of, verdicts_unless}
use Rattle.rules_path.specs.Verdicts.{verdict_of, not_binding}
use Rattle.rules_path.specs.declared.Verdict.{Verdict}
use Rattle.rules_opening.specs.Openings.{opening_refusal}
use Rattle.rules_opening.specs.declared.Opening.{Opening}
use Rattle.rules_hour.specs.Hours.{curve_in, call_verdicts}
use Rattle.rules_hour.proofs.KeptLaws.{Kept, resources_kept}
use Rattle.rules_hour.specs.Demand3.{path_from}
use Rattle.rules_hour.proofs.VerdictNumbers.{market_judges}
use Rattle.rules_pass.specs.Passes.{RealTimeHour, opened_real_time, turn_verdicts, five_minute_in}
use Rattle.rules_pass.proofs.ProgressLaws.{hour_agrees}
use Rattle.rules_state.proofs.WrittenSlices.{sound_call, sound_turn}
use Rattle.rules_pass.specs.Calls.{Request, interval, pass, request_refusal, after, after_all, answers_from}
use Rattle.rules_hour_bid.specs.HourBids.{hour_bid_refusal, hour_bid_of}
use Rattle.statements.proofs.Demand3.{OwnerSays}
use Rattle.statements.proofs.Passes.{numbers, numbers_are, intervals_with, passes_with, hour, Intervals, Passes, FiveMinutes, hourly_price, five_minute_price_lem}
use Rattle.statements.proofs.HourBids.{HourBidIs, hour_bid_says, twenty}
use Rattle.statements.proofs.Returned.{Seen, Promised, Made, Last, VerdictIs, verdict_is}

module _ {H : Type 0} (held : H → RealTimeHour) where
  promised : (h : H) (c : Request) (x : Seen H) → Promised held h c x → (x.number ≡ request_refusal (held h) c) × (held x.hour ≡ after (held h) c)
  promised h (interval v) x p = (p.0, p.1)
  promised h (pass v) x p = (p.0, p.1)

  abbrev asked : List (Seen H) → List Request
  asked l = map (λ x. x.asked) l

  abbrev answered : List (Seen H) → List ℕ
  answered l = map (λ x. x.number) l

  last_hour : (h : H) (l : List (Seen H)) → Made held h l → held (Last held h l) ≡ after_all (held h) (asked l)
  unfolding after_all
  last_hour h [] m = refl
  last_hour h (x ∷ l) m = last_hour x.hour l m.1 ∙ ap (λ (k : RealTimeHour). after_all k (asked l)) (promised h x.asked x m.0).1

  all_numbers : (h : H) (l : List (Seen H)) → Made held h l → answered l ≡ answers_from (held h) (asked l)
  unfolding answers_from
  all_numbers h [] m = refl
  all_numbers h (x ∷ l) m =
      let p = promised h x.asked x m.0 in
      ap (λ (k : List ℕ). x.number ∷ k) (all_numbers x.hour l m.1) ∙ ap (λ (k : RealTimeHour). x.number ∷ answers_from k (asked l)) p.1
      ∙ ap (λ (n : ℕ). n ∷ answers_from (after (held h) x.asked) (asked l)) p.0

  -- `Hour::open` returned 0 and the hour `first`; the calls l were made from it, accepted and refused ones in any order
  module _ (o : Opening) (number : ℕ) (first : H) (opening_number : number ≡ opening_refusal o) (opening-hour : held first ≡ opened_real_time o) (accepted : number ≡ 0)
      (l : List (Seen H)) (made : Made held first l) where
    -- the intervals that were answered with 0, and the passes since the last of them
    abbrev pub taken : List Interval
    taken = intervals_with [] (asked l) (answered l)

    abbrev pub passed : List Interval
    passed = passes_with [] (asked l) (answered l)

    opened : opening_refusal o ≡ 0
    opened = sym opening_number ∙ accepted

    same_hour : held (Last held first l) ≡ hour o (asked l)
    same_hour = last_hour first l made ∙ ap (λ (k : RealTimeHour). after_all k (asked l)) opening-hour

    same_numbers : answered l ≡ numbers (opened_real_time o) (asked l)
    same_numbers = all_numbers first l made ∙ ap (λ (k : RealTimeHour). answers_from k (asked l)) opening-hour ∙ numbers_are (opened_real_time o) (asked l)

    taken_are : taken ≡ Intervals o (asked l)
    taken_are = ap (intervals_with [] (asked l)) same_numbers

    passed_are : passed ≡ Passes o (asked l)
    passed_are = ap (passes_with [] (asked l)) same_numbers

    -- "the price of each hundredth of a megawatt in a resource's bid is the least of its submitted price and its caps", of the curve that `Hour::curve` returns
    module _ (r : ℕ) (there : r < o.resources) where
      pub owner_returned : (c : Mitigated) → c ≡ curve_in (held (Last held first l)).hour r → OwnerSays o r taken c
      owner_returned c e = rw (e, same_hour, taken_are) (hourly_price o opened (asked l) r there)

      -- "A five-minute price is the least of that interval's price and the caps of its accepted passes with a cut", of the curve that `Hour::five_minute` returns
      pub five_minute_returned : (c f : Mitigated) → c ≡ curve_in (held (Last held first l)).hour r → f ≡ five_minute_in (held (Last held first l)) r → FiveMinutes o r taken passed c f
      five_minute_returned c f e g = rw (e, g, same_hour, taken_are, passed_are) (five_minute_price_lem o opened (asked l) r there)

      -- "the lowest of the four intervals' curves", of the bid that `Hour::hour_bid` returns with 0
      pub hour_bid_returned : (n : ℕ) (b : Mitigated) → n ≡ hour_bid_refusal (held (Last held first l)) → b ≡ hour_bid_of (held (Last held first l)) r → n ≡ 0 → HourBidIs o (asked l) r b
      hour_bid_returned n b e f z = rw (f, same_hour) (hour_bid_says o opened (asked l) r there (sym (e ∙ ap hour_bid_refusal same_hour) ∙ z))

    -- "20, fewer than four intervals accepted"
    pub twenty_returned : (n : ℕ) → n ≡ hour_bid_refusal (held (Last held first l)) → ((n ≡ 20) ↔ (length taken < 4)) × ((n ≡ 0) ↔ (length taken ≡ 4))
    twenty_returned n e = rw (e, same_hour, taken_are) ((twenty o opened (asked l)).0, (twenty o opened (asked l)).1)

    -- one more call that is answered with 0, an interval's or a pass's: the verdict that it returns on each of its constraints
    pub verdict_returned : (x : Seen H) → Promised held (Last held first l) x.asked x → x.number ≡ 0 → (v : Interval) → (x.asked ≡ interval v) ⊎ (x.asked ≡ pass v) → (c : ℕ) → c < v.constraints
        → VerdictIs o v c (get_or x.verdicts c not_binding)
    unfolding call_verdicts turn_verdicts
    verdict_returned x p z v kind c there =
        let h = held (Last held first l) in
        let kept : Kept o h.hour = subst (λ (k : RealTimeHour). Kept o k.hour) (sym same_hour) (hour_agrees o opened (asked l)).kept in
        let own : (n : ℕ) → n ≡ 0 → get_or (verdicts_unless n (verdicts_of h.hour.market v)) c not_binding ≡ verdict_of (path_from o v c)
        = λ n e. ap (λ (k : ℕ). get_or (verdicts_unless k (verdicts_of h.hour.market v)) c not_binding) e ∙ market_judges o [] v opened h.hour.market kept.market c there in
        let whole : interval_refusal h.hour.market.resources v ≡ 0 → interval_refusal o.resources v ≡ 0 = λ e. rw (resources_kept o h.hour kept) at e in
        ⊎_elim
        (λ e. let q : Promised held (Last held first l) (interval v) x = rw e at p in let n = sym q.0 ∙ z in
        verdict_is o opened v c (whole (sound_call h.hour.market h.hour.standing v n)) _ (ap (λ (y : List Verdict). get_or y c not_binding) q.2 ∙ own _ n))
        (λ e. let q : Promised held (Last held first l) (pass v) x = rw e at p in let n = sym q.0 ∙ z in
        verdict_is o opened v c (whole (sound_turn h.hour.market h.hour.standing.accepted h.quarter v n)) _ (ap (λ (y : List Verdict). get_or y c not_binding) q.2 ∙ own _ n))
        kind
