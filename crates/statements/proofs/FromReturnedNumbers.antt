-- From the promises of what the calls on states return, the sentence of demand 3. Assumes nothing.
use mathlib.Core.List.{List, [], ◌∷◌, map}
use mathlib.Core.Logic.{⊎_elim}
use mathlib.Core.Path.{◌≡◌, refl, sym, ap, ◌∙◌}
use Prim.Native.Nat.{ℕ, zero, suc, ◌≤◌, ◌<◌}
use native.Mathlib.Nat.{le_trans, le_of_eq}
use borrow.Author.Tests.{le-leb, lt-leb}
use lib.IntN.{ℤ, pos, negsuc}
use lib.ListN.{length}
use Rattle.rules_number.proofs.OverLaws.{le_or_lt}
use Rattle.rules_mitigation.specs.declared.Mitigated.{Mitigated}
use Rattle.rules_interval.specs.declared.Interval.{Interval}
use Rattle.rules_opening.specs.declared.Opening.{Opening}
use Rattle.rules_hour.specs.Hours.{curve_in}
use Rattle.rules_pass.specs.Passes.{RealTimeHour}
use Rattle.rules_pass.specs.Calls.{Request, request_refusal, after}
use Rattle.rules_pass.specs.Calls as requests
use Rattle.rules_state.specs.Layout.{verdict_room}
use Rattle.rules_state.specs.States.{hour_in}
use Rattle.rules_state.specs.Calls.{open_answer, state_opened}
use Rattle.rules_state.specs.Curves.{curve_answer, curve_edges, curve_prices}
use Rattle.rules_state.specs.Lists.{NumberCall, interval, pass, answer_to, state_after, state_after_calls, verdicts_of, request_of, requests_in}
use Rattle.rules_state.proofs.StateCalls.{zero_opened, state_opened_lem, opening_length}
use Rattle.rules_state.proofs.NumberCalls.{answer_is, taken_call, short_call, call_length}
use Rattle.statements.proofs.Demand3.{OwnerSays}
use Rattle.statements.proofs.Passes.{numbers, intervals_with, Intervals}
use Rattle.statements.proofs.Numbers.{WritesCurve, curve_says, owner_in_numbers}
use Rattle.statements.proofs.ReturnedNumbers.{Told, MadeOn, last_of, joins, answered_zero}

abbrev handed : List Told → List NumberCall
handed l = map (λ x. x.call) l

joins_next : (c : NumberCall) (n : ℕ) (taken : List Interval) (R : List Request) (N : List ℕ) → intervals_with (joins c (pos n) taken) R N ≡ intervals_with taken (request_of c ∷ R) (n ∷ N)
joins_next (interval y) zero taken R N = refl
joins_next (interval y) (suc n) taken R N = refl
joins_next (pass y) n taken R N = refl

joins_none : (c : NumberCall) (taken : List Interval) → joins c (negsuc 0) taken ≡ taken
joins_none (interval y) taken = refl
joins_none (pass y) taken = refl

numbers_next : (h : RealTimeHour) (c : Request) (R : List Request) → numbers h (c ∷ R) ≡ request_refusal h c ∷ numbers (after h c) R
numbers_next h (requests.interval v) R = refl
numbers_next h (requests.pass v) R = refl

-- one call, of those whose later ones are counted
module _ (s : List ℤ) (long : 3411 ≤ length s) (c : NumberCall) (answer : ℤ) (state : List ℤ) (e : answer ≡ answer_to s c) (f : state ≡ state_after s c) (taken : List Interval) (calls : List NumberCall) where
  abbrev R : List Request
  R = requests_in calls

  next_whole : 640 ≤ length (verdicts_of c)
      → intervals_with (joins c answer taken) R (numbers (hour_in state) R) ≡ intervals_with taken (requests_in (c ∷ calls)) (numbers (hour_in s) (requests_in (c ∷ calls)))
  unfolding requests_in
  next_whole h =
      let n = request_refusal (hour_in s) (request_of c) in
      let said : answer ≡ pos n = e ∙ answer_is s long c ∙ rw (le-leb verdict_room (length (verdicts_of c)) h) in
      let next : hour_in state ≡ after (hour_in s) (request_of c) = ap hour_in f ∙ taken_call s long c h in
      rw (said, next, le-leb verdict_room (length (verdicts_of c)) h)
      (joins_next c n taken R (numbers (after (hour_in s) (request_of c)) R) ∙ ap (intervals_with taken (request_of c ∷ R)) (sym (numbers_next (hour_in s) (request_of c) R)))

  next_short : length (verdicts_of c) < 640
      → intervals_with (joins c answer taken) R (numbers (hour_in state) R) ≡ intervals_with taken (requests_in (c ∷ calls)) (numbers (hour_in s) (requests_in (c ∷ calls)))
  unfolding requests_in
  next_short h =
      let said : answer ≡ negsuc 0 = e ∙ answer_is s long c ∙ rw (lt-leb verdict_room (length (verdicts_of c)) h) in
      let same : state ≡ s = f ∙ short_call s long c h in
      rw (said, same, lt-leb verdict_room (length (verdicts_of c)) h) (ap (λ (k : List Interval). intervals_with k R (numbers (hour_in s) R)) (joins_none c taken))

answered_are : (l : List Told) (s : List ℤ) → 3411 ≤ length s → MadeOn s l → (taken : List Interval)
    → answered_zero taken l ≡ intervals_with taken (requests_in (handed l)) (numbers (hour_in s) (requests_in (handed l)))
unfolding requests_in
answered_are [] s long m taken = refl
answered_are (x ∷ l) s long m taken =
    let c = x.call in
    let k : 3411 ≤ length x.state = le_trans long (le_of_eq (sym (ap length m.1.0 ∙ call_length s c))) in
    answered_are l x.state k m.1.1 (joins c x.answer taken)
    ∙ ⊎_elim (next_whole s long c x.answer x.state m.0 m.1.0 taken (handed l)) (next_short s long c x.answer x.state m.0 m.1.0 taken (handed l))
    (le_or_lt 640 (length (verdicts_of c)))

last_is : (l : List Told) (s : List ℤ) → MadeOn s l → last_of s l ≡ state_after_calls s (handed l)
unfolding state_after_calls
last_is [] s m = refl
last_is (x ∷ l) s m = last_is l x.state m.1.1 ∙ ap (λ (k : List ℤ). state_after_calls k (handed l)) m.1.0

-- `noskjerf_open` answered 0 and left the state `first`; the calls l were made from it, accepted and refused ones and slices that are too short in any order
module _ (before : List ℤ) (o : Opening) (answer : ℤ) (first : List ℤ) (opening_answer : answer ≡ open_answer before o) (opening-state : first ≡ state_opened before o) (accepted : answer ≡ pos 0)
    (l : List Told) (made : MadeOn first l) where
  opened : open_answer before o ≡ pos 0
  opened = sym opening_answer ∙ accepted

  long : 3411 ≤ length first
  long = rw opening-state (le_trans (zero_opened before o opened).0 (le_of_eq (sym (opening_length before o))))

  last : last_of first l ≡ state_after_calls (state_opened before o) (handed l)
  last = last_is l first made ∙ ap (λ (k : List ℤ). state_after_calls k (handed l)) opening-state

  taken_are : answered_zero [] l ≡ Intervals o (requests_in (handed l))
  taken_are = answered_are l first long made [] ∙ ap (λ (h : RealTimeHour). intervals_with [] (requests_in (handed l)) (numbers h (requests_in (handed l)))) (ap hour_in opening-state ∙ state_opened_lem before o opened)

  -- "the price of each hundredth of a megawatt in a resource's bid is the least of its submitted price and its caps": such a curve is what `noskjerf_curve` then writes into the lent slices
  pub owner_told : (r : ℕ) → r < o.resources → (edges : List ℕ) (prices : List ℤ) (edges' : List ℕ) (prices' : List ℤ) → curve_answer (last_of first l) edges prices ≡ pos 0
      → edges' ≡ curve_edges (last_of first l) r edges prices → prices' ≡ curve_prices (last_of first l) r edges prices
      → (c : Mitigated) × OwnerSays o r (answered_zero [] l) c × WritesCurve c edges prices edges' prices'
  owner_told r there edges prices edges' prices' zero-answer e f =
      let s = last_of first l in (
        curve_in (hour_in s).hour r,
        rw (taken_are, last) (owner_in_numbers before o opened (handed l) r there),
        rw (e, f) (curve_says s r edges prices zero-answer),
      )
