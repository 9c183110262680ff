-- The numbers that a list of calls returns, and which calls they accept (paper 01, Interval and hour): "An interval call is accepted exactly when none of
-- 12 to 16 applies, and 12 counts the accepted ones before it in the list." Assumes nothing.
use mathlib.Core.List.Memᴰ
use mathlib.Core.List.{List, [], ◌∷◌, Memᴰ}
use mathlib.Core.Logic.{⊎_elim}
use mathlib.Core.Path.{◌≡◌, refl, sym, ap, ap₂, subst, ◌∙◌}
use Prim.Native.Nat.{ℕ, zero, suc}
use native.Mathlib.Nat.{le_trans, le_of_eq}
use lib.ListN.{take}
use Rattle.rules_curve.specs.Demands.{First}
use Rattle.rules_curve.proofs.FirstLaws.{accepted_exactly}
use Rattle.rules_interval.specs.Intervals.{interval_refusal}
use Rattle.rules_interval.specs.declared.Interval.{Interval}
use Rattle.rules_opening.specs.Openings.{opening_refusal}
use Rattle.rules_opening.specs.declared.Opening.{Opening}
use Rattle.rules_hour.specs.Conditions.{call_demands}
use Rattle.rules_hour.specs.Hours.{Hour, fresh_standing, next_standing, standing_unless, standing_after, hour_refusal, hour_after}
use Rattle.rules_hour.specs.Opened.{fresh_hour}
use Rattle.rules_hour.specs.Demand3.{kept_by, sound_calls, accepted_calls, answers_from, answers, returning_zero, counted_by, Answered}
use Rattle.rules_hour.proofs.AcceptedOpening.{opened_hour_lem, few}
use Rattle.rules_hour.proofs.Exactly.{call_first}
use Rattle.rules_hour.proofs.KeptLaws.{Call, full, faulty, taken, call, Kept, next_hour, resources_kept, next_kept, call_kept, fresh_kept}
use Rattle.rules_hour.proofs.CallLaws.{counting, counting_none, counting_full, counting_faulty, counting_taken}

-- ---- an accepted call is one to which none of 13 to 16 applies
sound_member : (n : ℕ) (calls : List Interval) (v : Interval) → Memᴰ v (sound_calls n calls) → interval_refusal n v ≡ 0
unfolding sound_calls
sound_member n [] v m = absurd (Memᴰ.not-nil m)
sound_member n (u ∷ calls) v m = go (interval_refusal n u) refl m (sound_member n calls v)
  where
    go : (x : ℕ) → interval_refusal n u ≡ x → Memᴰ v (kept_by x u (sound_calls n calls)) → (Memᴰ v (sound_calls n calls) → interval_refusal n v ≡ 0) → interval_refusal n v ≡ 0
    go zero e k ih = ⊎_elim (λ z. rw z e) ih (Memᴰ.cases_cons k)
    go (suc x) e k ih = ih k

taken_member : (k : ℕ) (l : List Interval) (v : Interval) → Memᴰ v (take k l) → Memᴰ v l
taken_member zero l v m = absurd (Memᴰ.not-nil m)
taken_member (suc k) [] v m = m
taken_member (suc k) (u ∷ l) v m = ⊎_elim Memᴰ.head (λ x. Memᴰ.tail (taken_member k l v x)) (Memᴰ.cases_cons m)

pub accepted_sound : (o : Opening) (calls : List Interval) (v : Interval) → Memᴰ v (accepted_calls o calls) → interval_refusal o.resources v ≡ 0
accepted_sound o calls v m = sound_member o.resources calls v (taken_member 4 (sound_calls o.resources calls) v m)

-- ---- one call
module _ (h : Hour) (v : Interval) where
  -- how many are accepted after it
  pub count_after : (hour_after h v).standing.accepted ≡ counted_by (hour_refusal h v) h.standing.accepted
  unfolding hour_after standing_after next_standing
  count_after = go (hour_refusal h v)
    where
      go : (x : ℕ) → (standing_unless x (next_standing h.market h.standing v) h.standing).accepted ≡ counted_by x h.standing.accepted
      go zero = refl
      go (suc x) = refl

-- ---- a list of calls, from any hour that the calls on an opening can leave
module _ (o : Opening) (accepted : opening_refusal o ≡ 0) where
  -- the number that a call returns
  pub first_here : (h : Hour) → Kept o h → (v : Interval) → First (hour_refusal h v) (call_demands h.standing.accepted o.resources v)
  first_here h k v =
      let n = resources_kept o h k in
      subst (λ (x : ℕ). First (hour_refusal h v) (call_demands h.standing.accepted x v)) n (call_first h.market h.standing v (le_trans (le_of_eq n) (few o accepted).2))

  answered_from : (calls : List Interval) (h : Hour) → Kept o h → Answered o.resources h.standing.accepted calls (answers_from h calls)
  unfolding answers_from
  answered_from [] h k = refl
  answered_from (v ∷ calls) h k = (
    accepted_exactly (call_demands h.standing.accepted o.resources v) (hour_refusal h v) (first_here h k v),
    first_here h k v,
    subst (λ (a : ℕ). Answered o.resources a calls (answers_from (hour_after h v) calls)) (count_after h v) (answered_from calls (hour_after h v) (call_kept o h k v)),
  )

  accepting_from : (calls : List Interval) (h : Hour) → Kept o h → counting o.resources h.standing.accepted calls ≡ returning_zero calls (answers_from h calls)
  unfolding answers_from next_standing
  accepting_from [] h k = counting_none o.resources h.standing.accepted
  accepting_from (v ∷ calls) h k = go (call h v) (λ g x. accepting_from calls g x)
    where
      here : {n : ℕ} → interval_refusal h.market.resources v ≡ n → interval_refusal o.resources v ≡ n
      here e = ap (λ (x : ℕ). interval_refusal x v) (sym (resources_kept o h k)) ∙ e

      by : {x : ℕ} {g : Hour} → hour_refusal h v ≡ x → hour_after h v ≡ g
          → kept_by (hour_refusal h v) v (returning_zero calls (answers_from (hour_after h v) calls)) ≡ kept_by x v (returning_zero calls (answers_from g calls))
      by = ap₂ (λ (x : ℕ) (g : Hour). kept_by x v (returning_zero calls (answers_from g calls)))

      go : Call h v → ((g : Hour) → Kept o g → counting o.resources g.standing.accepted calls ≡ returning_zero calls (answers_from g calls))
          → counting o.resources h.standing.accepted (v ∷ calls) ≡ kept_by (hour_refusal h v) v (returning_zero calls (answers_from (hour_after h v) calls))
      go (full f y e) ih = counting_full o.resources h.standing.accepted v calls f ∙ ih h k ∙ sym (by y e)
      go (faulty x f y e) ih = counting_faulty o.resources h.standing.accepted v calls x (here f) ∙ ih h k ∙ sym (by y e)
      go (taken f c y e) ih =
          counting_taken o.resources h.standing.accepted v calls f (here c) ∙ ap (λ (l : List Interval). v ∷ l) (ih (next_hour h v) (next_kept o h k v)) ∙ sym (by y e)

  -- ---- from the hour that opening returned
  module _ (calls : List Interval) where
    -- each number is 0 exactly when none of 12 to 16 applies, and else the first of them that does
    pub answers_exactly : Answered o.resources 0 calls (answers o calls)
    unfolding fresh_hour fresh_standing
    answers_exactly = rw (opened_hour_lem o accepted) (answered_from calls (fresh_hour o) (fresh_kept o accepted))

    -- the accepted calls are those that return 0
    pub accepted_return_zero : accepted_calls o calls ≡ returning_zero calls (answers o calls)
    unfolding counting fresh_hour fresh_standing
    accepted_return_zero = rw (opened_hour_lem o accepted) (accepting_from calls (fresh_hour o) (fresh_kept o accepted))
