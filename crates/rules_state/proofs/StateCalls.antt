-- The calls on a state: opening, an interval, a pass. Each makes of the hour that the state stands for what the engine's rules make of it; where the answer isn't 0 the
-- state is as it was, to the cell. Assumes nothing.
use Rattle.std.specs.Prelude.{None}
use mathlib.Core.Bool.{true, false, ◌&&◌}
use mathlib.Core.List.{List}
use mathlib.Core.Logic.{◌⊎◌, ⊎_elim}
use mathlib.Core.Path.{◌≡◌, refl, sym, ap, ◌∙◌}
use Prim.Native.Nat.{ℕ, zero, suc, ◌+◌, ◌≤◌, ◌<◌}
use native.Mathlib.Omega.{arith}
use borrow.Author.Tests.{leb-true, le-leb, lt-leb}
use lib.IntN.{ℤ, pos, negsuc}
use lib.ListN.{length}
use lib.Seq.{sets, length-sets}
use Rattle.rules_text.proofs.ListLaws.{and-false, sets_before}
use Rattle.rules_interval.specs.declared.Interval.{Interval}
use Rattle.rules_opening.specs.Openings.{opening_refusal}
use Rattle.rules_opening.specs.declared.Opening.{Opening}
use Rattle.rules_hour.specs.Cuts.{cut_of}
use Rattle.rules_hour.specs.Hours.{call_refusal, hour_refusal, hour_after}
use Rattle.rules_pass.specs.Passes.{fresh_quarter, turn_refusal, opened_real_time, interval_after, pass_refusal, pass_after}
use Rattle.rules_pass.proofs.PassLaws.{refused_interval, refused_pass}
use Rattle.rules_library.specs.Slices.{cell_at, if_written}
use Rattle.rules_state.specs.Layout.{most_resources, quarter_from, market_from, state_room, verdict_room}
use Rattle.rules_state.specs.States.{standing_in, quarter_in, market_in, hour_in, quarter_cells, state_cells}
use Rattle.rules_state.specs.Takes.{standing_written}
use Rattle.rules_state.specs.Calls.{holds, open_answer, state_opened, interval_answer, interval_written, pass_written, state_after_interval, pass_answer, state_after_pass}
use Rattle.rules_state.proofs.StandLaws.{stored_past}
use Rattle.rules_state.proofs.BackAgain.{quarter_room}
use Rattle.rules_state.proofs.HourBack.{state_room_lem, stored_back}
use Rattle.rules_state.proofs.OpenedFits.{opened_fits}
use Rattle.rules_state.proofs.TakeLaws.{standing_length, standing_past, standing_kept, standing_after_lem, standing_market, standing_rows, quarter_length, quarter_outside, quarter_kept, quarter_after_lem, quarter_standing, quarter_market, quarter_rows}
use Rattle.rules_state.proofs.CallStates.{answered, answer_zero, unwritten, either_way, fresh_fits, quarter_stored}

-- both slices are long enough
room : {A B : Type 0} (n m : ℕ) (k : List A) (l : List B) → n ≤ length k → m ≤ length l → (holds n k && holds m l) ≡ true
room n m k l h i = rw (le-leb n (length k) h) (le-leb m (length l) i)

-- the first is too short, or the second
short : {A B : Type 0} (n m : ℕ) (k : List A) (l : List B) → length k < n → (holds n k && holds m l) ≡ false
short n m k l h = rw (lt-leb n (length k) h)

short_second : {A B : Type 0} (n m : ℕ) (k : List A) (l : List B) → length l < m → (holds n k && holds m l) ≡ false
short_second n m k l h = rw (lt-leb m (length l) h) (and-false (holds n k))

not_suc : (n : ℕ) → pos (suc n) ≡ pos 0 → ⊥
not_suc n e = let z : suc n ≡ 0 = cc in omega arith

-- no call adds a cell
pub written_length : {A : Type 0} (answer : ℤ) (s : List A) (i : ℕ) (cells : List A) → length (if_written answer (sets s i cells) s) ≡ length s
written_length answer s i cells = either_way (λ l. length l ≡ length s) answer (sets s i cells) s refl (λ e. length-sets s i cells)

-- ---- opening
module _ (s : List ℤ) (o : Opening) where
  pub opening_short : length s < state_room → (open_answer s o ≡ negsuc 0) × (state_opened s o ≡ s)
  unfolding open_answer state_opened
  opening_short h = let e = lt-leb state_room (length s) h in (rw e, rw e)

  pub opening_refused : (open_answer s o ≡ pos 0 → ⊥) → state_opened s o ≡ s
  unfolding state_opened
  opening_refused h = unwritten (open_answer s o) (sets s 0 (state_cells (opened_real_time o))) s h

  pub zero_opened : open_answer s o ≡ pos 0 → (state_room ≤ length s) × (opening_refusal o ≡ 0)
  unfolding open_answer
  zero_opened e = let z = answer_zero (holds state_room s) (opening_refusal o) e in (leb-true state_room (length s) z.0, z.1)

  -- the state is the opened hour, whatever it held
  pub state_opened_lem : open_answer s o ≡ pos 0 → hour_in (state_opened s o) ≡ opened_real_time o
  unfolding state_opened
  state_opened_lem e = let z = zero_opened e in rw e (stored_back (opened_real_time o) (opened_fits o z.1) s z.0)

  pub opening_answer : state_room ≤ length s → open_answer s o ≡ pos (opening_refusal o)
  unfolding open_answer
  opening_answer h = answered (holds state_room s) (opening_refusal o) (le-leb state_room (length s) h)

  -- cells past the hour's are as they were, and no cell is added
  pub opening_past : (k : ℕ) → state_room ≤ k → cell_at (state_opened s o) k ≡ cell_at s k
  unfolding state_opened
  opening_past k h =
      either_way (λ l. cell_at l k ≡ cell_at s k) (open_answer s o) (sets s 0 (state_cells (opened_real_time o))) s refl
      (λ e. stored_past (pos 0) s 0 (state_cells (opened_real_time o)) k (omega (arith, state_room_lem (opened_real_time o) (opened_fits o (zero_opened e).1))))

  pub opening_length : length (state_opened s o) ≡ length s
  unfolding state_opened
  opening_length = written_length (open_answer s o) s 0 (state_cells (opened_real_time o))

-- ---- an interval and a pass, of any state
module _ (s verdicts : List ℤ) (v : Interval) where
  -- a slice that is too short: -1, and the state is as it was
  abbrev Short : Type 0
  Short = (length s < state_room) ⊎ (length verdicts < verdict_room)

  no_room : Short → (holds state_room s && holds verdict_room verdicts) ≡ false
  no_room h = ⊎_elim (short state_room verdict_room s verdicts) (short_second state_room verdict_room s verdicts) h

  pub interval_short : Short → (interval_answer s verdicts v ≡ negsuc 0) × (state_after_interval s verdicts v ≡ s)
  unfolding interval_answer state_after_interval
  interval_short h = let e = no_room h in (rw e, rw e)

  pub pass_short : Short → (pass_answer s verdicts v ≡ negsuc 0) × (state_after_pass s verdicts v ≡ s)
  unfolding pass_answer state_after_pass
  pass_short h = let e = no_room h in (rw e, rw e)

  pub interval_answer_lem : state_room ≤ length s → verdict_room ≤ length verdicts → interval_answer s verdicts v ≡ pos (hour_refusal (hour_in s).hour v)
  unfolding interval_answer
  interval_answer_lem h k = answered (holds state_room s && holds verdict_room verdicts) (call_refusal (market_in s) (standing_in s) v) (room state_room verdict_room s verdicts h k)

  pub pass_answer_lem : state_room ≤ length s → verdict_room ≤ length verdicts → pass_answer s verdicts v ≡ pos (pass_refusal (hour_in s) v)
  unfolding pass_answer
  pass_answer_lem h k =
      answered (holds state_room s && holds verdict_room verdicts) (turn_refusal (market_in s) (standing_in s).accepted (quarter_in s) v) (room state_room verdict_room s verdicts h k)

  interval_zero : interval_answer s verdicts v ≡ pos 0 → call_refusal (market_in s) (standing_in s) v ≡ 0
  unfolding interval_answer
  interval_zero e = (answer_zero (holds state_room s && holds verdict_room verdicts) (call_refusal (market_in s) (standing_in s) v) e).1

  pass_zero : pass_answer s verdicts v ≡ pos 0 → turn_refusal (market_in s) (standing_in s).accepted (quarter_in s) v ≡ 0
  unfolding pass_answer
  pass_zero e = (answer_zero (holds state_room s && holds verdict_room verdicts) (turn_refusal (market_in s) (standing_in s).accepted (quarter_in s) v) e).1

  -- where the answer isn't 0, the state is as it was, to the cell
  pub interval_refused : (interval_answer s verdicts v ≡ pos 0 → ⊥) → state_after_interval s verdicts v ≡ s
  unfolding state_after_interval
  interval_refused h = unwritten (interval_answer s verdicts v) (interval_written s v) s h

  pub pass_refused : (pass_answer s verdicts v ≡ pos 0 → ⊥) → state_after_pass s verdicts v ≡ s
  unfolding state_after_pass
  pass_refused h = unwritten (pass_answer s verdicts v) (pass_written s v) s h

  -- the hour after it, accepted or refused
  pub state_interval : state_room ≤ length s → verdict_room ≤ length verdicts → hour_in (state_after_interval s verdicts v) ≡ interval_after (hour_in s) v
  unfolding state_after_interval interval_after hour_after
  state_interval h k = go (call_refusal (market_in s) (standing_in s) v) refl
    where
      go : (n : ℕ) → call_refusal (market_in s) (standing_in s) v ≡ n → hour_in (state_after_interval s verdicts v) ≡ interval_after (hour_in s) v
      go zero e =
          rw (interval_answer_lem h k, e) (quarter_stored (standing_written s v) (omega (arith, standing_length s v e)) fresh_quarter fresh_fits
          ∙ rw (standing_market s v e, standing_rows s v e, standing_after_lem s v e (omega arith)))
      go (suc n) e = ap hour_in (interval_refused (λ z. not_suc n (sym (interval_answer_lem h k ∙ ap pos e) ∙ z))) ∙ sym (refused_interval (hour_in s) v n e)

  pub state_pass : state_room ≤ length s → verdict_room ≤ length verdicts → hour_in (state_after_pass s verdicts v) ≡ pass_after (hour_in s) v
  unfolding state_after_pass pass_after
  state_pass h k = go (turn_refusal (market_in s) (standing_in s).accepted (quarter_in s) v) refl
    where
      go : (n : ℕ) → turn_refusal (market_in s) (standing_in s).accepted (quarter_in s) v ≡ n → hour_in (state_after_pass s verdicts v) ≡ pass_after (hour_in s) v
      go zero e =
          rw (pass_answer_lem h k, e) (rw (quarter_market s v e, quarter_rows s v e, quarter_standing s v e, quarter_after_lem s v e (omega arith)))
      go (suc n) e = ap hour_in (pass_refused (λ z. not_suc n (sym (pass_answer_lem h k ∙ ap pos e) ∙ z))) ∙ sym (refused_pass (hour_in s) v n e)

  -- an interval touches standing and quarter hour alone, a pass the quarter hour alone
  pub interval_touches : (k : ℕ) → market_from ≤ k → cell_at (state_after_interval s verdicts v) k ≡ cell_at s k
  unfolding state_after_interval
  interval_touches k h =
      either_way (λ l. cell_at l k ≡ cell_at s k) (interval_answer s verdicts v) (interval_written s v) s refl
      (λ e. stored_past (pos 0) (standing_written s v) quarter_from (quarter_cells fresh_quarter) k (omega (arith, quarter_room fresh_quarter fresh_fits))
      ∙ standing_past s v (interval_zero e) k (omega arith))

  pub pass_touches : (k : ℕ) → (k < quarter_from) ⊎ (market_from ≤ k) → cell_at (state_after_pass s verdicts v) k ≡ cell_at s k
  unfolding state_after_pass
  pass_touches k h =
      either_way (λ l. cell_at l k ≡ cell_at s k) (pass_answer s verdicts v) (pass_written s v) s refl (λ e. quarter_outside s v (pass_zero e) k h)

  -- of the standing an interval touches the count, and mark and price of each resource that it cuts; a pass the same of the quarter hour
  pub interval_keeps : (r : ℕ) → r < most_resources → cut_of (market_in s) v r ≡ None → (k : ℕ) → (k ≡ 1 + r) ⊎ (k ≡ 65 + r) → cell_at (state_after_interval s verdicts v) k ≡ cell_at s k
  unfolding state_after_interval
  interval_keeps r m u k o =
      either_way (λ l. cell_at l k ≡ cell_at s k) (interval_answer s verdicts v) (interval_written s v) s refl
      (λ e. sets_before (pos 0) (standing_written s v) quarter_from (quarter_cells fresh_quarter) k (⊎_elim (λ y. omega arith) (λ y. omega arith) o) ∙ standing_kept s v (interval_zero e) r m u k o)

  pub pass_keeps : (r : ℕ) → r < most_resources → cut_of (market_in s) v r ≡ None → (k : ℕ) → (k ≡ 130 + r) ⊎ (k ≡ 194 + r) → cell_at (state_after_pass s verdicts v) k ≡ cell_at s k
  unfolding state_after_pass
  pass_keeps r m u k o = either_way (λ l. cell_at l k ≡ cell_at s k) (pass_answer s verdicts v) (pass_written s v) s refl (λ e. quarter_kept s v (pass_zero e) r m u k o)

  pub interval_length : length (state_after_interval s verdicts v) ≡ length s
  unfolding state_after_interval
  interval_length =
      either_way (λ l. length l ≡ length s) (interval_answer s verdicts v) (interval_written s v) s refl
      (λ e. length-sets (standing_written s v) quarter_from (quarter_cells fresh_quarter) ∙ standing_length s v (interval_zero e))

  pub pass_length : length (state_after_pass s verdicts v) ≡ length s
  unfolding state_after_pass
  pass_length = either_way (λ l. length l ≡ length s) (pass_answer s verdicts v) (pass_written s v) s refl (λ e. quarter_length s v (pass_zero e))
