-- The hour in real time after a list of calls, and what the opening data and the calls alone say of it. Assumes nothing.
use Rattle.std.specs.Prelude.{None, Option, Some}
use mathlib.Core.Bool.{Bool, ◌&&◌}
use mathlib.Core.List.Memᴰ
use mathlib.Core.List.{List, [], ◌∷◌, ◌++◌, Memᴰ}
use mathlib.Core.Logic.{◌⊎◌, inl, inr, ⊎_elim}
use mathlib.Core.Path.{◌≡◌, refl, sym, ap, ap₂, subst, ◌∙◌}
use Prim.Native.Nat.{ℕ, zero, suc, ◌+◌, ◌≤◌, ◌<◌}
use native.Mathlib.Nat.{le_trans, le_of_eq}
use native.Mathlib.Omega.{arith}
use borrow.Author.Tests.{lt-ltb, le-ltb}
use lib.Dec.{ltb}
use lib.IntN.{ℤ}
use lib.ListN.{length, get_or, length-append}
use Rattle.rules_number.specs.Least.{least}
use Rattle.rules_number.proofs.OverLaws.{le_or_lt}
use Rattle.rules_curve.specs.Refusals.{unless, ◌then◌}
use Rattle.rules_mitigation.specs.Mitigation.{capped}
use Rattle.rules_mitigation.proofs.MitigationLaws.{capped_again}
use Rattle.rules_interval.specs.Intervals.{interval_refusal}
use Rattle.rules_interval.specs.declared.Interval.{Interval}
use Rattle.rules_path.specs.declared.Market.{Market}
use Rattle.rules_opening.specs.Openings.{market_of, opening_refusal}
use Rattle.rules_opening.specs.declared.Opening.{Opening}
use Rattle.rules_hour.specs.Cuts.{cut_of}
use Rattle.rules_hour.specs.Hours.{Hour, uncut, cut_floor, fresh_standing, call_refusal, hour_refusal}
use Rattle.rules_hour.specs.Opened.{fresh_hour}
use Rattle.rules_hour.specs.Demand3.{with_cap, caps_in, counted_by}
use Rattle.rules_hour.specs.declared.Floor.{Floor}
use Rattle.rules_hour.proofs.AcceptedOpening.{opened_hour_lem, few, none_cut}
use Rattle.rules_hour.proofs.KeptLaws.{Kept, resources_kept, floor_cut, floors_many, call_kept, fresh_kept}
use Rattle.rules_hour.proofs.CallLaws.{counting, counting_none, counting_full, counting_faulty, counting_taken}
use Rattle.rules_hour.proofs.Answers.{count_after}
use Rattle.rules_pass.specs.Passes.{RealTimeHour, fresh_quarter, turn_refusal, next_quarter, pass_floor_in, opened_real_time, interval_after, pass_refusal, pass_after}
use Rattle.rules_pass.specs.Calls.{Request, interval, pass, request_refusal, after, after_all, hour_of, intervals_in, accepted_intervals, Progress, none_yet, returned, number_at, progress_from}
use Rattle.rules_pass.specs.declared.Quarter.{Quarter}
use Rattle.rules_pass.proofs.PassLaws.{refused_interval, begins_quarter, refused_pass, accepted_pass}
use Rattle.rules_pass.proofs.Exactly.{turn_open}

-- ---- the accepted intervals are those of the interval calls alone
-- passes leave them
pass_intervals : (x : ℕ) (p : Progress) (v : Interval) → (returned x p (pass v)).intervals ≡ p.intervals
pass_intervals zero p v = refl
pass_intervals (suc x) p v = refl

pub append-nil : (l : List Interval) → l ++ [] ≡ l
append-nil [] = refl
append-nil (v ∷ l) = ap (λ (k : List Interval). v ∷ k) (append-nil l)

pub append_one : (l : List Interval) (v : Interval) (k : List Interval) → (l ++ (v ∷ [])) ++ k ≡ l ++ (v ∷ k)
append_one [] v k = refl
append_one (u ∷ l) v k = ap (λ (x : List Interval). u ∷ x) (append_one l v k)

-- an interval is counted where it is accepted
module _ (n : ℕ) (p : Progress) (v : Interval) (calls : List Interval) where
  -- what a list of interval calls adds to those accepted so far
  joined : Progress → List Interval
  joined k = k.intervals ++ counting n (length k.intervals) calls

  interval_counted : joined (returned (number_at n p (interval v)) p (interval v)) ≡ p.intervals ++ counting n (length p.intervals) (v ∷ calls)
  unfolding joined
  interval_counted = ⊎_elim full (λ l. go l (interval_refusal n v) refl) (le_or_lt 4 (length p.intervals))
    where
      by : (x : ℕ) → number_at n p (interval v) ≡ x → joined (returned (number_at n p (interval v)) p (interval v)) ≡ joined (returned x p (interval v))
      by x = ap (λ (y : ℕ). joined (returned y p (interval v)))

      behind : {k l : List Interval} → k ≡ l → p.intervals ++ k ≡ p.intervals ++ l
      behind = ap (λ (x : List Interval). p.intervals ++ x)

      full : 4 ≤ length p.intervals → joined (returned (number_at n p (interval v)) p (interval v)) ≡ p.intervals ++ counting n (length p.intervals) (v ∷ calls)
      full l = by 12 (ap (λ (t : Bool). unless t 12 then interval_refusal n v) (le-ltb (length p.intervals) 4 l)) ∙ behind (sym (counting_full n (length p.intervals) v calls l))

      go : length p.intervals < 4 → (x : ℕ) → interval_refusal n v ≡ x
          → joined (returned (number_at n p (interval v)) p (interval v)) ≡ p.intervals ++ counting n (length p.intervals) (v ∷ calls)
      go l (suc x) e =
          by (suc x) (ap₂ (λ (t : Bool) (y : ℕ). unless t 12 then y) (lt-ltb (length p.intervals) 4 l) e) ∙ behind (sym (counting_faulty n (length p.intervals) v calls x e))
      go l zero e =
          by 0 (ap₂ (λ (t : Bool) (y : ℕ). unless t 12 then y) (lt-ltb (length p.intervals) 4 l) e)
          ∙ append_one p.intervals v (counting n (length (p.intervals ++ (v ∷ []))) calls)
          ∙ ap (λ (k : ℕ). p.intervals ++ (v ∷ counting n k calls)) (length-append p.intervals (v ∷ []))
          ∙ behind (sym (counting_taken n (length p.intervals) v calls l e))

intervals_counted : (n : ℕ) (calls : List Request) (p : Progress) → (progress_from n p calls).intervals ≡ p.intervals ++ counting n (length p.intervals) (intervals_in calls)
unfolding progress_from intervals_in joined
intervals_counted n [] p = sym (ap (λ (l : List Interval). p.intervals ++ l) (counting_none n (length p.intervals)) ∙ append-nil p.intervals)
intervals_counted n (pass v ∷ calls) p =
    let x = number_at n p (pass v) in
    intervals_counted n calls (returned x p (pass v)) ∙ ap (λ (l : List Interval). l ++ counting n (length l) (intervals_in calls)) (pass_intervals x p v)
intervals_counted n (interval v ∷ calls) p =
    intervals_counted n calls (returned (number_at n p (interval v)) p (interval v)) ∙ interval_counted n p v (intervals_in calls)

pub progress_intervals : (o : Opening) (calls : List Request) → (progress_from o.resources none_yet calls).intervals ≡ accepted_intervals o calls
unfolding counting
progress_intervals o calls = intervals_counted o.resources calls none_yet

-- ---- what a list leaves
-- one pass more among the caps
cap_last : (k : Option ℤ) (b d : ℤ) → least b (with_cap k d []) ≡ capped k b d
unfolding least
cap_last None b d = refl
cap_last (Some l) b d = refl

behind : (k j : Option ℤ) (b d : ℤ) (more rest : List ℤ) → ((x : ℤ) → least x more ≡ capped k (least x rest) d) → least b (with_cap j d more) ≡ capped k (least b (with_cap j d rest)) d
unfolding least
behind k None b d more rest h = h b
behind k (Some x) b d more rest h = h _

caps_more : (m : Market) (r : ℕ) (b d : ℤ) (l : List Interval) (v : Interval) → least b (caps_in m r d (l ++ (v ∷ []))) ≡ capped (cut_of m v r) (least b (caps_in m r d l)) d
unfolding caps_in least
caps_more m r b d [] v = cap_last (cut_of m v r) b d
caps_more m r b d (u ∷ l) v = behind (cut_of m v r) (cut_of m u r) b d (caps_in m r d (l ++ (v ∷ []))) (caps_in m r d l) (λ x. caps_more m r x d l v)

-- a pass among those before it, or the last
last_or : (l : List Interval) (v u : Interval) → Memᴰ u (l ++ (v ∷ [])) → Memᴰ u l ⊎ (u ≡ v)
last_or [] v u m = ⊎_elim inr (λ k. absurd (Memᴰ.not-nil k)) (Memᴰ.cases_cons m)
last_or (w ∷ l) v u m = ⊎_elim (λ e. inl (Memᴰ.head e)) (λ k. ⊎_elim (λ x. inl (Memᴰ.tail x)) inr (last_or l v u k)) (Memᴰ.cases_cons m)

-- the hour h is as the calls alone say
pub record Agrees (o : Opening) (h : RealTimeHour) (p : Progress) : Type 0 where
  pub kept : Kept o h.hour
  pub count : h.hour.standing.accepted ≡ length p.intervals
  pub passes : h.quarter.passes ≡ length p.passes
  pub few : length p.passes ≤ 3
  pub follow : p.intervals ≡ [] → p.passes ≡ []
  pub sound : (v : Interval) → Memᴰ v p.passes → interval_refusal o.resources v ≡ 0
  pub room : o.resources ≤ length h.quarter.floors
  pub price : (r : ℕ) → r < o.resources → (b d : ℤ) → capped (pass_floor_in h r).price b d ≡ least b (caps_in (market_of o) r d p.passes)

-- what a call leaves of the hour itself
pub interval_kept : {o : Opening} (h : RealTimeHour) (v : Interval) → Kept o h.hour → Kept o (interval_after h v).hour
unfolding interval_after
interval_kept {o} h v k = call_kept o h.hour k v

pub pass_kept : {o : Opening} (h : RealTimeHour) (v : Interval) → Kept o h.hour → Kept o (pass_after h v).hour
unfolding pass_after
pass_kept h v k = k

pub pass_count : (h : RealTimeHour) (v : Interval) → (pass_after h v).hour.standing.accepted ≡ h.hour.standing.accepted
unfolding pass_after
pass_count h v = refl

pub counts : (h : RealTimeHour) (v : Interval) → hour_refusal h.hour v ≡ 0 → (interval_after h v).hour.standing.accepted ≡ h.hour.standing.accepted + 1
unfolding interval_after
counts h v e = count_after h.hour v ∙ ap (λ (n : ℕ). counted_by n h.hour.standing.accepted) e

module _ (o : Opening) (opened : opening_refusal o ≡ 0) where
  -- an hour whose quarter hour begins
  begun : (h : RealTimeHour) (l : List Interval) → Kept o h.hour → h.hour.standing.accepted ≡ length l → h.quarter ≡ fresh_quarter → Agrees o h (record { intervals = l; passes = [] })
  unfolding caps_in least fresh_quarter
  begun h l k c e = record {
    kept = k;
    count = c;
    passes = ap (λ (x : Quarter). x.passes) e;
    few = omega arith;
    follow = λ z. refl;
    sound = λ v m. absurd (Memᴰ.not-nil m);
    room = le_trans (few o opened).2 (le_of_eq (sym (ap (λ (x : Quarter). length x.floors) e)));
    price = λ r z b d. ap (λ (x : Quarter). capped (get_or x.floors r uncut).price b d) e ∙ ap (λ (x : Floor). capped x.price b d) (none_cut 64 r);
  }

  module _ (h : RealTimeHour) (p : Progress) (a : Agrees o h p) where
    -- the number that a call returns
    pub same_number : (c : Request) → request_refusal h c ≡ number_at o.resources p c
    unfolding call_refusal turn_refusal
    same_number (interval v) = ap₂ (λ (x y : ℕ). unless (ltb x 4) 12 then interval_refusal y v) a.count (resources_kept o h.hour a.kept)
    same_number (pass v) =
        ap₂ (λ (x y : ℕ). unless (ltb 0 x && ltb y 3) 19 then interval_refusal h.hour.market.resources v) a.count a.passes
        ∙ ap (λ (y : ℕ). unless (ltb 0 (length p.intervals) && ltb (length p.passes) 3) 19 then interval_refusal y v) (resources_kept o h.hour a.kept)

    interval_by_lem : (v : Interval) (n : ℕ) → hour_refusal h.hour v ≡ n → Agrees o (interval_after h v) (returned n p (interval v))
    interval_by_lem v (suc n) e = rw (refused_interval h v n e) a
    interval_by_lem v zero e = begun (interval_after h v) (p.intervals ++ (v ∷ [])) (interval_kept h v a.kept) (counts h v e ∙ ap (λ (x : ℕ). x + 1) a.count ∙ sym (length-append p.intervals (v ∷ []))) (begins_quarter h v e)

    -- an accepted pass
    module _ (v : Interval) (e : pass_refusal h v ≡ 0) where
      turn : (0 < h.hour.standing.accepted) × (h.quarter.passes < 3) × (interval_refusal h.hour.market.resources v ≡ 0)
      turn = turn_open h.hour.market h.hour.standing.accepted h.quarter v e

      pub next_pass_floor : (r : ℕ) → r < o.resources → pass_floor_in (pass_after h v) r ≡ cut_floor (cut_of (market_of o) v r) (pass_floor_in h r)
      unfolding next_quarter
      next_pass_floor r l =
          ap (λ (x : Quarter). get_or x.floors r uncut) (accepted_pass h v e)
          ∙ floor_cut h.hour.market v h.quarter.floors r (le_trans l (le_of_eq (sym (resources_kept o h.hour a.kept)))) (le_trans l a.room)
          ∙ ap (λ (m : Market). cut_floor (cut_of m v r) (pass_floor_in h r)) a.kept.market

      pass_taken : Agrees o (pass_after h v) (returned 0 p (pass v))
      unfolding next_quarter
      pass_taken =
          let many = length-append p.passes (v ∷ []) in
          let own : interval_refusal o.resources v ≡ 0 = ap (λ (n : ℕ). interval_refusal n v) (sym (resources_kept o h.hour a.kept)) ∙ turn.2 in
          record {
            kept = pass_kept h v a.kept;
            count = pass_count h v ∙ a.count;
            passes = ap (λ (x : Quarter). x.passes) (accepted_pass h v e) ∙ ap (λ (n : ℕ). n + 1) a.passes ∙ sym many;
            few = let z = turn.1 in omega (arith, z, many, a.passes);
            follow = λ z. let n : length p.intervals ≡ 0 = ap length z in absurd (omega (arith, n, turn.0, a.count));
            sound = λ u m. ⊎_elim (a.sound u) (λ i. rw i own) (last_or p.passes v u m);
            room = le_trans a.room (le_of_eq (sym (ap (λ (x : Quarter). length x.floors) (accepted_pass h v e) ∙ floors_many h.hour.market v h.quarter.floors)));
            price = λ r l b d.
                ap (λ (x : Floor). capped x.price b d) (next_pass_floor r l)
                ∙ capped_again (pass_floor_in h r).price (cut_of (market_of o) v r) b d
                ∙ ap (λ (x : ℤ). capped (cut_of (market_of o) v r) x d) (a.price r l b d)
                ∙ sym (caps_more (market_of o) r b d p.passes v);
          }

    pass_by : (v : Interval) (n : ℕ) → pass_refusal h v ≡ n → Agrees o (pass_after h v) (returned n p (pass v))
    pass_by v zero e = pass_taken v e
    pass_by v (suc n) e = rw (refused_pass h v n e) a

    -- any call
    pub call_agrees : (c : Request) → Agrees o (after h c) (returned (number_at o.resources p c) p c)
    call_agrees (interval v) = subst (λ (n : ℕ). Agrees o (interval_after h v) (returned n p (interval v))) (same_number (interval v)) (interval_by_lem v (hour_refusal h.hour v) refl)
    call_agrees (pass v) = subst (λ (n : ℕ). Agrees o (pass_after h v) (returned n p (pass v))) (same_number (pass v)) (pass_by v (pass_refusal h v) refl)

  -- any list
  list_agrees : (calls : List Request) (h : RealTimeHour) (p : Progress) → Agrees o h p → Agrees o (after_all h calls) (progress_from o.resources p calls)
  unfolding after_all progress_from
  list_agrees [] h p a = a
  list_agrees (c ∷ calls) h p a = list_agrees calls (after h c) (returned (number_at o.resources p c) p c) (call_agrees h p a c)

  pub opened_agrees : Agrees o (opened_real_time o) none_yet
  unfolding opened_real_time fresh_hour fresh_standing
  opened_agrees = begun (opened_real_time o) [] (rw (opened_hour_lem o opened) (fresh_kept o opened)) (ap (λ (h : Hour). h.standing.accepted) (opened_hour_lem o opened)) refl

  -- from the hour that opening returned
  pub hour_agrees : (calls : List Request) → Agrees o (hour_of o calls) (progress_from o.resources none_yet calls)
  hour_agrees calls = list_agrees calls (opened_real_time o) none_yet opened_agrees
