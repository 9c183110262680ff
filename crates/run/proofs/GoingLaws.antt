-- How far a run has come: each interval is read, taken and printed before the next. Assumes nothing.
use Prim.Native.Nat.{ℕ, zero, suc, ◌+◌, ◌-◌, ◌*◌, ◌≤◌, ◌<◌}
use mathlib.Core.Path.{◌≡◌, refl, sym, ap, subst, ◌∙◌}
use mathlib.Core.List.{List, [], append-nil}
use native.Mathlib.Omega.{arith}
use lib.ListN.{length, drop, length-drop, drop_of_length-le}
use lib.IntN.{ℤ}
use lib.Seq.{sets}
use Rattle.rules_interval.specs.declared.Interval.{Interval}
use Rattle.rules_hour.specs.Hours.{Hour, call_refusal, hour_refusal, hour_after}
use Rattle.rules_text.specs.Numbers.{Line, lines}
use Rattle.rules_text.specs.Tables.{faulty, found}
use Rattle.rules_text.specs.Printing.{refusal_text}
use Rattle.rules_text.proofs.LineLaws.{lines_some}
use Rattle.rules_parts.specs.Parts.{read_interval}
use Rattle.rules_state.specs.States.{hour_in, standing_in, market_in}
use Rattle.rules_state.specs.Takes.{standing_written}
use Rattle.rules_state.specs.Verdicts.{judged_cells}
use Rattle.page.proofs.PageLaws.{Putting, putting_start, putting_next, putting_done}
use Rattle.rules_run.specs.Run.{page_of, intervals, hour_text, Ended, ended_by, intervals_end, hour_end}
use Rattle.rules_run.proofs.CountLaws.{Uses, interval_using}
use Rattle.rules_run.proofs.RunLaws.{faulty_text, refused_text, accepted_text, none_text, accepts_few, accepts_counts}
use Rattle.rules_run.proofs.EndLaws.{faulty_end, refused_end, accepted_end, none_end}
use Rattle.run.specs.Took.{Took, faulted, declined, taken}
use Rattle.run.proofs.CellLaws.{call_few}

pub positive : (n : ℕ) → (n ≡ 0 → ⊥) → 0 < n
positive zero h = absurd (h refl)
positive (suc n) h = omega arith

-- a text that was put, the room that it took, and how it ends
pub within : {A B C D : Type 0} → A × B → C → D → A × ((B × C) × D)
within e h d = (e.0, ((e.1, h), d))

-- a line is left before the text's end
pub some_line : (s : List ℕ) (at : ℕ) → at < length s → 0 < length (lines (drop at s))
some_line s at l =
    let e = lines_some (drop at s) (λ z. omega (arith, l, length-drop at s, ap length z)) in
    omega (arith, ap length e)

-- ---- how far a run over text s has come: interval i is next
pub record Going (s out whole : List ℕ) (end : Ended) (now : List ℕ) (hour : Hour) (at line i p : ℕ) : Type 0 where
  pub put : Putting out 0 whole now p (intervals (6 - i) i hour line (lines (drop at s)))
  pub ends : intervals_end (6 - i) hour line (lines (drop at s)) ≡ end
  pub few : p + 163840 ≤ i * 163840
  pub low : 1 ≤ i
  pub high : i ≤ 5
  pub count : hour.standing.accepted + 1 ≡ i
  pub left : line + length (lines (drop at s)) ≤ 65536

pub going_start : (s out : List ℕ) (hour : Hour) (at line : ℕ) → hour.standing.accepted ≡ 0 → line + length (lines (drop at s)) ≤ 65536
    → Going s out (hour_text hour line (lines (drop at s))) (hour_end hour line (lines (drop at s))) out hour at line 1 0
going_start s out hour at line e h = record {
  put = putting_start out 0 (hour_text hour line (lines (drop at s)));
  ends = refl;
  few = omega arith;
  low = omega arith;
  high = omega arith;
  count = omega (arith, e);
  left = h;
}

module _ {s out whole : List ℕ} {end : Ended} {now : List ℕ} {hour : Hour} {at line i p : ℕ} (w : Going s out whole end now hour at line i p) where
  -- the text has no more lines
  pub going_done : length s ≤ at → (now ≡ sets out 0 whole) × (p ≡ length whole)
  going_done h =
      let e : lines (drop at s) ≡ [] = ap lines (drop_of_length-le s h) in
      let d = putting_done w.put (ap (intervals (6 - i) i hour line) e ∙ none_text (6 - i) i hour line) in
      (d.0, omega (arith, d.1))

  pub done_end : length s ≤ at → ended_by 0 0 ≡ end
  done_end h =
      let e : lines (drop at s) ≡ [] = ap lines (drop_of_length-le s h) in
      sym (ap (intervals_end (6 - i) hour line) e ∙ none_end (6 - i) hour line) ∙ w.ends

  fuel : 6 - i ≡ suc (5 - i)
  fuel = omega (arith, w.high)

  -- the whole ends as the rest does
  end_is : (e : Ended) → intervals_end (suc (5 - i)) hour line (lines (drop at s)) ≡ e → e ≡ end
  end_is e h = sym h ∙ ap (λ (n : ℕ). intervals_end n hour line (lines (drop at s))) (sym fuel) ∙ w.ends

  -- the rest is put at once
  rest_put : (t put : List ℕ) (r : ℕ) → intervals (suc (5 - i)) i hour line (lines (drop at s)) ≡ t → put ≡ sets now p t → r ≡ p + length t
      → (put ≡ sets out 0 whole) × (r ≡ length whole)
  rest_put t put r e f g =
      let d = putting_done (putting_next w.put t [] put r (ap (λ (n : ℕ). intervals n i hour line (lines (drop at s))) fuel ∙ e ∙ sym (append-nil t)) f g) refl in
      (d.0, omega (arith, d.1))

  module _ (l : at < length s) where
    -- a faulty line ends the run
    pub going_faulty : (k : ℕ) (put : List ℕ) (r : ℕ) → read_interval line (lines (drop at s)) ≡ faulty k → put ≡ sets now p (refusal_text 17 k) → r ≡ p + length (refusal_text 17 k)
        → (put ≡ sets out 0 whole) × (r ≡ length whole)
    going_faulty k put r e = rest_put (refusal_text 17 k) put r (faulty_text (5 - i) i hour line (lines (drop at s)) (some_line s at l) k e)

    pub faulty_ends : (k : ℕ) → read_interval line (lines (drop at s)) ≡ faulty k → ended_by 17 k ≡ end
    faulty_ends k e = end_is (ended_by 17 k) (faulty_end (5 - i) hour line (lines (drop at s)) (some_line s at l) k e)

    module _ (v : Interval) (m : ℕ) (rest : List Line) (e : read_interval line (lines (drop at s)) ≡ found v m rest) where
      -- so does a refusal
      pub going_refused : (k : ℕ) (put : List ℕ) (r : ℕ) → hour_refusal hour v ≡ k → 0 < k → put ≡ sets now p (refusal_text k m) → r ≡ p + length (refusal_text k m)
          → (put ≡ sets out 0 whole) × (r ≡ length whole)
      going_refused k put r g h =
          rest_put (refusal_text k m) put r (refused_text (5 - i) i hour line (lines (drop at s)) (some_line s at l) v m rest e k g h)

      pub refused_ends : (k : ℕ) → hour_refusal hour v ≡ k → 0 < k → ended_by k m ≡ end
      refused_ends k g h = end_is (ended_by k m) (refused_end (5 - i) hour line (lines (drop at s)) (some_line s at l) v m rest e k g h)

      pub accepted_ends : hour_refusal hour v ≡ 0 → intervals_end (5 - i) (hour_after hour v) m rest ≡ end
      accepted_ends g = end_is _ (accepted_end (5 - i) hour line (lines (drop at s)) (some_line s at l) v m rest e g)

      -- the lines are used up
      pub left_after : m + length rest ≤ 65536
      left_after = omega (arith, w.left, subst (Uses line (lines (drop at s))) e (interval_using line (lines (drop at s))))

      pub going_few : hour_refusal hour v ≡ 0 → i ≤ 4
      going_few g = omega (arith, w.count, accepts_few hour v g)

  -- a refusal fits after four pages
  pub refused_room : {r : ℕ} → r ≤ p + 64 → r ≤ 655424
  refused_room h = omega (arith, h, w.few, w.high)

  -- an accepted interval's page is put, and the next is read
  pub going_next : at < length s → (v : Interval) (m next : ℕ) → read_interval line (lines (drop at s)) ≡ found v m (lines (drop next s)) → hour_refusal hour v ≡ 0
      → (after : Hour) (put : List ℕ) (q : ℕ) → after ≡ hour_after hour v → put ≡ sets now p (page_of i hour v) → q ≡ p + length (page_of i hour v) → q ≤ p + 163840
      → Going s out whole end put after next m (i + 1) q
  going_next l v m next e g after put q a b c d = record {
    put =
        subst (λ (h : Hour). Putting out 0 whole put q (intervals (6 - (i + 1)) (i + 1) h m (lines (drop next s)))) (sym a)
        (subst (λ (j : ℕ). Putting out 0 whole put q (intervals (6 - j) j (hour_after hour v) m (lines (drop next s)))) (let z : suc i ≡ i + 1 = omega arith in z)
        (subst (λ (n : ℕ). Putting out 0 whole put q (intervals n (suc i) (hour_after hour v) m (lines (drop next s)))) (let z : 5 - i ≡ 6 - suc i = omega arith in z)
        (putting_next w.put (page_of i hour v) (intervals (5 - i) (suc i) (hour_after hour v) m (lines (drop next s))) put q
        (ap (λ (n : ℕ). intervals n i hour line (lines (drop at s))) fuel ∙ accepted_text (5 - i) i hour line (lines (drop at s)) (some_line s at l) v m (lines (drop next s)) e g) b c)));
    ends =
        ap (λ (h : Hour). intervals_end (6 - (i + 1)) h m (lines (drop next s))) a
        ∙ ap (λ (n : ℕ). intervals_end n (hour_after hour v) m (lines (drop next s))) (let z : 6 - (i + 1) ≡ 5 - i = omega arith in z)
        ∙ accepted_ends l v m (lines (drop next s)) e g;
    few = omega (arith, w.few, d);
    low = omega arith;
    high = omega (arith, going_few l v m (lines (drop next s)) e g);
    count = omega (arith, ap (λ (h : Hour). h.standing.accepted) a, accepts_counts hour v g, w.count);
    left = left_after l v m (lines (drop next s)) e;
  }

-- ---- a part that ends the run: a faulty line, or a refusal
module _ {s out whole : List ℕ} {end : Ended} {now : List ℕ} {state : List ℤ} {at line i p : ℕ} (w : Going s out whole end now (hour_in state).hour at line i p) (l : at < length s)
    {after verdicts left : List ℤ} {number last next constraints : ℕ} where
  pub stopped : Took s at line state after verdicts left number last next constraints → 0 < number → (put : List ℕ) (r : ℕ) → put ≡ sets now p (refusal_text number last)
      → r ≡ p + length (refusal_text number last) → (put ≡ sets out 0 whole) × (r ≡ length whole)
  stopped (faulted e h) some put r f g =
      going_faulty w l last put r e (f ∙ ap (λ (n : ℕ). sets now p (refusal_text n last)) h) (g ∙ ap (λ (n : ℕ). p + length (refusal_text n last)) h)
  stopped (declined v rest e g h) some put r f k = going_refused w l v last rest e number put r g h f k
  stopped (taken v e h g c a b) some put r f k = absurd (omega (arith, some, h))

  pub stopped_ends : Took s at line state after verdicts left number last next constraints → 0 < number → ended_by number last ≡ end
  stopped_ends (faulted e h) some = ap (λ (n : ℕ). ended_by n last) h ∙ faulty_ends w l last e
  stopped_ends (declined v rest e g h) some = refused_ends w l v last rest e number g h
  stopped_ends (taken v e h g c a b) some = absurd (omega (arith, some, h))

  pub stopped_few : Took s at line state after verdicts left number last next constraints → 0 < number → (number ≤ 99) × (last ≤ 200000)
  stopped_few (faulted e h) some = (omega (arith, h), omega (arith, w.left, subst (Uses line (lines (drop at s))) e (interval_using line (lines (drop at s)))))
  stopped_few (declined v rest e g h) some = (omega (arith, g, call_few (market_in state) (standing_in state) v), omega (arith, left_after w l v last rest e))
  stopped_few (taken v e h g c a b) some = absurd (omega (arith, some, h))

-- ---- an accepted interval
pub record Accepted (s : List ℕ) (at line : ℕ) (state after verdicts left : List ℤ) (last next constraints : ℕ) : Type 0 where
  pub interval : Interval
  pub read : read_interval line (lines (drop at s)) ≡ found interval last (lines (drop next s))
  pub none : call_refusal (market_in state) (standing_in state) interval ≡ 0
  pub many : constraints ≡ interval.constraints
  pub written : after ≡ standing_written state interval
  pub judged : left ≡ sets verdicts 0 (judged_cells (market_in state) interval)

pub accepting : {s : List ℕ} {at line : ℕ} {state after verdicts left : List ℤ} {number last next constraints : ℕ} → Took s at line state after verdicts left number last next constraints → number ≡ 0
    → Accepted s at line state after verdicts left last next constraints
accepting (faulted e h) z = absurd (omega (arith, z, h))
accepting (declined v rest e g h) z = absurd (omega (arith, z, h))
accepting (taken v e h g c a b) z = record { interval = v; read = e; none = g; many = c; written = a; judged = b }
