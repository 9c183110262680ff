-- Every list of calls in numbers: the hour that the state stands for afterwards is the hour after the calls, and what the papers say of that hour they say of the state. Assumes nothing.
use mathlib.Core.Bool.{Bool, true, false, cond}
use mathlib.Core.List.{List, [], ◌∷◌}
use mathlib.Core.Logic.{inr}
use mathlib.Core.Path.{◌≡◌, refl, sym, ap, subst, ◌∙◌}
use Prim.Native.Nat.{ℕ, ◌≤◌, ◌<◌}
use native.Mathlib.Omega.{arith}
use borrow.Author.Tests.{leb-true, leb-false, le-leb}
use lib.IntN.{ℤ, pos}
use lib.ListN.{length}
use Rattle.rules_curve.specs.Curves.{price_at}
use Rattle.rules_mitigation.specs.Mitigation.{used_steps}
use Rattle.rules_opening.specs.Openings.{opening_refusal}
use Rattle.rules_opening.specs.declared.Opening.{Opening}
use Rattle.rules_hour.specs.Hours.{curve_in}
use Rattle.rules_hour.specs.Demand3.{Owned, Capped}
use Rattle.rules_pass.specs.Passes.{RealTimeHour, five_minute_in}
use Rattle.rules_pass.specs.Calls.{Request, request_refusal, after, after_all, hour_of, accepted_intervals, accepted_passes}
use Rattle.rules_pass.proofs.Demand3.{demand_3}
use Rattle.rules_pass.proofs.FiveMinute.{five_minute}
use Rattle.rules_hour_bid.specs.HourBids.{hour_bid_refusal, hour_bid_of}
use Rattle.rules_hour_bid.specs.Meaning.{IsHourBid}
use Rattle.rules_hour_bid.proofs.HourBidIs.{hour_bid, given_bid}
use Rattle.rules_library.specs.Slices.{cell_at, answer_of}
use Rattle.rules_state.specs.Layout.{market_from, state_room, verdict_room}
use Rattle.rules_state.specs.States.{hour_in}
use Rattle.rules_state.specs.Calls.{holds, open_answer, state_opened, interval_answer, pass_answer}
use Rattle.rules_state.specs.Lists.{NumberCall, interval, pass, interval_by, answer_to, state_after, state_after_calls, verdicts_of, request_of, requests_in}
use Rattle.rules_state.proofs.StateCalls.{zero_opened, state_opened_lem, opening_length, state_interval, state_pass, interval_short, pass_short, interval_touches, pass_touches, interval_length, pass_length}

-- ---- one call on any state that is long enough
module _ (s : List ℤ) (long : state_room ≤ length s) where
  -- its answer: -1 where there is no room for the verdicts, else the number of the call on the hour
  pub answer_is : (c : NumberCall) → answer_to s c ≡ answer_of (holds verdict_room (verdicts_of c)) (request_refusal (hour_in s) (request_of c))
  unfolding interval_answer pass_answer
  answer_is (interval x) = rw (le-leb state_room (length s) long)
  answer_is (pass x) = rw (le-leb state_room (length s) long)

  -- the hour after it
  pub taken_call : (c : NumberCall) → verdict_room ≤ length (verdicts_of c) → hour_in (state_after s c) ≡ after (hour_in s) (request_of c)
  taken_call (interval x) h = state_interval s x.verdicts (interval_by x) long h
  taken_call (pass x) h = state_pass s x.verdicts (interval_by x) long h

  pub short_call : (c : NumberCall) → length (verdicts_of c) < verdict_room → state_after s c ≡ s
  short_call (interval x) h = (interval_short s x.verdicts (interval_by x) (inr h)).1
  short_call (pass x) h = (pass_short s x.verdicts (interval_by x) (inr h)).1

pub call_length : (s : List ℤ) (c : NumberCall) → length (state_after s c) ≡ length s
call_length s (interval x) = interval_length s x.verdicts (interval_by x)
call_length s (pass x) = pass_length s x.verdicts (interval_by x)

-- ---- a list of calls on any state that is long enough
pub calls_length : (calls : List NumberCall) (s : List ℤ) → length (state_after_calls s calls) ≡ length s
unfolding state_after_calls
calls_length [] s = refl
calls_length (c ∷ calls) s = calls_length calls (state_after s c) ∙ call_length s c

-- no call touches market, rows, or a cell past them
call_touches : (s : List ℤ) (c : NumberCall) (k : ℕ) → market_from ≤ k → cell_at (state_after s c) k ≡ cell_at s k
call_touches s (interval x) k h = interval_touches s x.verdicts (interval_by x) k h
call_touches s (pass x) k h = pass_touches s x.verdicts (interval_by x) k (inr h)

pub calls_touch : (calls : List NumberCall) (s : List ℤ) (k : ℕ) → market_from ≤ k → cell_at (state_after_calls s calls) k ≡ cell_at s k
unfolding state_after_calls
calls_touch [] s k h = refl
calls_touch (c ∷ calls) s k h = calls_touch calls (state_after s c) k h ∙ call_touches s c k h

one_call : (s : List ℤ) → state_room ≤ length s → (c : NumberCall) (later : List Request) (t : Bool) → holds verdict_room (verdicts_of c) ≡ t
    → after_all (hour_in (state_after s c)) later ≡ after_all (hour_in s) (cond t (request_of c ∷ later) later)
unfolding after_all
one_call s long c later true e = ap (λ (h : RealTimeHour). after_all h later) (taken_call s long c (leb-true verdict_room (length (verdicts_of c)) e))
one_call s long c later false e = ap (λ (l : List ℤ). after_all (hour_in l) later) (short_call s long c (leb-false verdict_room (length (verdicts_of c)) e))

-- The hour of the state after every list of calls is the hour after the requests that they are.
pub calls_in_numbers : (calls : List NumberCall) (s : List ℤ) → state_room ≤ length s → hour_in (state_after_calls s calls) ≡ after_all (hour_in s) (requests_in calls)
unfolding state_after_calls requests_in after_all
calls_in_numbers [] s long = refl
calls_in_numbers (c ∷ calls) s long =
    calls_in_numbers calls (state_after s c) (omega (arith, call_length s c))
    ∙ one_call s long c (requests_in calls) (holds verdict_room (verdicts_of c)) refl

-- ---- a state that was opened and then called
module _ (s : List ℤ) (o : Opening) (opened : open_answer s o ≡ pos 0) (calls : List NumberCall) where
  abbrev pub called : List ℤ
  called = state_after_calls (state_opened s o) calls

  pub called_long : state_room ≤ length called
  called_long = omega (arith, calls_length calls (state_opened s o), opening_length s o, (zero_opened s o opened).0)

  pub called_hour : hour_in called ≡ hour_of o (requests_in calls)
  called_hour =
      calls_in_numbers calls (state_opened s o) (omega (arith, opening_length s o, (zero_opened s o opened).0))
      ∙ ap (λ (h : RealTimeHour). after_all h (requests_in calls)) (state_opened_lem s o opened)

  -- the answer of one more call is that of the rules, which demand 3 tells of (`Answered`)
  pub next_answer : (c : NumberCall) → answer_to called c ≡ answer_of (holds verdict_room (verdicts_of c)) (request_refusal (hour_of o (requests_in calls)) (request_of c))
  next_answer c =
      answer_is called called_long c ∙ ap (λ (h : RealTimeHour). answer_of (holds verdict_room (verdicts_of c)) (request_refusal h (request_of c))) called_hour

  module _ (r : ℕ) (l : r < o.resources) where
    accepted : opening_refusal o ≡ 0
    accepted = (zero_opened s o opened).1

    -- "the price of each hundredth of a megawatt in a resource's bid is the least of its submitted price and its caps", of the curve that the state has
    pub demand_3_in_numbers : Owned o r (accepted_intervals o (requests_in calls)) (curve_in (hour_in called).hour r)
    demand_3_in_numbers =
        subst (λ (h : RealTimeHour). Owned o r (accepted_intervals o (requests_in calls)) (curve_in h.hour r)) (sym called_hour) (demand_3 o (requests_in calls) r accepted l).owned

    -- "A five-minute price is the least of that interval's price and the caps of its accepted passes with a cut"
    pub five_minute_in_numbers :
        Capped o r (λ q. price_at (used_steps (curve_in (hour_in called).hour r)) q) (accepted_passes o (requests_in calls)) (five_minute_in (hour_in called) r)
    five_minute_in_numbers =
        subst (λ (h : RealTimeHour). Capped o r (λ q. price_at (used_steps (curve_in h.hour r)) q) (accepted_passes o (requests_in calls)) (five_minute_in h r))
        (sym called_hour) (five_minute o (requests_in calls) r accepted l).capped

    -- "at each quantity, the lowest of the four intervals' curves"
    pub hour_bid_in_numbers : hour_bid_refusal (hour_in called) ≡ 0
        → IsHourBid o (requests_in calls) r (hour_bid_of (hour_in called) r).start (used_steps (hour_bid_of (hour_in called) r))
    hour_bid_in_numbers =
        subst (λ (h : RealTimeHour). hour_bid_refusal h ≡ 0 → IsHourBid o (requests_in calls) r (hour_bid_of h r).start (used_steps (hour_bid_of h r))) (sym called_hour)
        (λ full. rw (given_bid (hour_of o (requests_in calls)) r full) (hour_bid o accepted (requests_in calls) r l full))
