-- Laws of the curve of a row in cells, and of what a call on an hour in cells promises. Assumes nothing.
use Rattle.std.specs.Prelude.{Result, Ok, Err, ⊤}
use Rattle.std.specs.Result.{MatchResult, IsErrAnd}
use mathlib.Core.Bool.{Bool, true, false}
use mathlib.Core.List.{List, [], ◌∷◌}
use mathlib.Core.Path.{◌≡◌, refl, sym, ap, ◌∙◌}
use Prim.Native.Nat.{ℕ, zero, suc, ◌≤◌, ◌<◌}
use native.Mathlib.Omega.{arith}
use borrow.Author.Tests.{le-leb, lt-leb}
use lib.IntN.{ℤ, pos, negsuc}
use lib.ListN.{length, get_or}
use lib.Seq.{sets}
use Rattle.rules_number.specs.Over.{padded}
use Rattle.rules_curve.specs.Curves.{blank_curve}
use Rattle.rules_mitigation.specs.Mitigation.{mitigated, segments_n, joined}
use Rattle.rules_interval.specs.Intervals.{interval_refusal}
use Rattle.rules_interval.specs.declared.Interval.{Interval}
use Rattle.rules_opening.specs.Resources.{blank_row}
use Rattle.rules_opening.specs.declared.Row.{Row}
use Rattle.rules_hour.specs.Hours.{no_row, row_curve}
use Rattle.rules_hour.specs.declared.Floor.{Floor}
use Rattle.rules_pass.specs.Passes.{fresh_quarter}
use Rattle.rules_pass.specs.declared.Quarter.{Quarter}
use Rattle.rules_curve.specs.Refusals.{outcome_number}
use Rattle.rules_curve.specs.declared.Refusal.{Refusal}
use Rattle.rules_state.specs.Calls.{called_number, interval_written}
use Rattle.rules_state.specs.declared.CallError.{CallError}
use Rattle.rules_state.specs.declared.CallError.TheVariants.{Refused}
use Rattle.rules_library.specs.Slices.{if_written}
use Rattle.rules_state.specs.Layout.{quarter_from, state_room}
use Rattle.rules_state.specs.States.{standing_in, quarter_in, market_in, quarter_cells}
use Rattle.rules_state.specs.Takes.{if_accepted, standing_written}
use Rattle.rules_state.specs.Verdicts.{judged_cells}
use Rattle.rules_state.proofs.TakeLaws.{written_zero}
use Rattle.rules_state.proofs.WrittenSlices.{sound_call, sound_turn}
use Rattle.cutting.proofs.AlikeLaws.{Alike, call_same, call_begins, call_verdicts_lem, turn_same, turn_state, turn_verdicts_lem}
use Rattle.hour_cells.specs.Calls.{refusal_by, answer_in, written_by}

-- ---- a blank row has the curve of none
pub row_same : (l : List Row) (r : ℕ) (k : Floor) → row_curve (get_or l r blank_row) k ≡ row_curve (get_or l r no_row) k
unfolding mitigated blank_curve padded segments_n joined
row_same [] r k = refl
row_same (x ∷ l) zero k = refl
row_same (x ∷ l) (suc r) k = row_same l r k

-- ---- a call
pub refused_so : {A : Type 0} (n : ℕ) (a b l : A) → 0 < n → if_accepted n a l ≡ if_accepted n b l
refused_so zero a b l h = absurd (omega arith)
refused_so (suc n) a b l h = refl

-- 13 to 16 don't apply to an accepted one
pub sound : (pass : Bool) (l : List ℤ) (v : Interval) → refusal_by pass l v ≡ 0 → interval_refusal (market_in l).resources v ≡ 0
unfolding refusal_by
sound true l v e = sound_turn (market_in l) (standing_in l).accepted (quarter_in l) v e
sound false l v e = sound_call (market_in l) (standing_in l) v e

-- an accepted interval begins a quarter hour
pub begun : (l : List ℤ) (v : Interval) (n : ℕ) (cut out : List ℤ) (q : Quarter) → n ≡ 0 → cut ≡ if_accepted n (standing_written l v) l → q ≡ fresh_quarter → out ≡ sets cut quarter_from (quarter_cells q)
    → out ≡ if_accepted n (interval_written l v) l
begun l v n cut out q z e f o =
    o ∙ ap (λ (k : List ℤ). sets k quarter_from (quarter_cells q)) (e ∙ written_zero n (standing_written l v) l z)
    ∙ ap (λ (d : Quarter). sets (standing_written l v) quarter_from (quarter_cells d)) f ∙ sym (written_zero n (interval_written l v) l z)

-- what a call promises of its number, of the cells and of the verdicts' cells
abbrev pub Called : Bool → List ℤ → List ℤ → Interval → ℕ → List ℤ → List ℤ → Type 0
Called pass l k v n s t =
    (n ≡ refusal_by pass l v)
    × ((s ≡ if_accepted (refusal_by pass l v) (written_by pass l v) l) × (t ≡ if_accepted (refusal_by pass l v) (sets k 0 (judged_cells (market_in l) v)) k))

pub by_kind : (kind pass : Bool) (l k : List ℤ) (v : Interval) (n : ℕ) (s t : List ℤ) → pass ≡ kind → Called kind l k v n s t → Called pass l k v n s t
by_kind kind pass l k v n s t e h = rw e h

-- the same of an interval that is alike
pub alike_called : (pass : Bool) (l k : List ℤ) (v w : Interval) → Alike (market_in l).resources v w → (n : ℕ) (s t : List ℤ) → Called pass l k v n s t → Called pass l k w n s t
unfolding refusal_by written_by
alike_called true l k v w a n s t h = (h.0 ∙ turn_same v w l a, (h.1.0 ∙ turn_state v w l a, h.1.1 ∙ turn_verdicts_lem v w l a k))
alike_called false l k v w a n s t h = (h.0 ∙ call_same v w l a, (h.1.0 ∙ call_begins v w l a, h.1.1 ∙ call_verdicts_lem v w l a k))

-- an outcome's number is told with the errors of a call
pub told : (P : Refusal → CallError → Type 0) → ((e : Refusal) (d : CallError) → P e d → d ≡ Refused e) → (r : Result ⊤ Refusal) (s : Result ⊤ CallError)
    → MatchResult r (λ x. s ≡ Ok x) (λ e. IsErrAnd s (P e)) → called_number s ≡ pos (outcome_number r)
told P each (Ok x) s h = ap called_number h
told P each (Err e) (Ok x) h = absurd h
told P each (Err e) (Err d) h = ap (λ (q : CallError). called_number {T = ⊤} (Err q)) (each e d h)

-- ---- by the room of the cells
module _ (pass : Bool) (l k : List ℤ) (v : Interval) where
  -- what a call promises of its answer, of the cells and of the verdicts' cells
  abbrev pub Answers : ℤ → List ℤ → List ℤ → Type 0
  Answers z s t = (z ≡ answer_in pass l v) × ((s ≡ if_written (answer_in pass l v) (written_by pass l v) l) × (t ≡ if_written (answer_in pass l v) (sets k 0 (judged_cells (market_in l) v)) k))

  written_so : {A : Type 0} (n : ℕ) (a b : List A) → if_accepted n a b ≡ if_written (pos n) a b
  written_so zero a b = refl
  written_so (suc n) a b = refl

  pub few_cells : length l < state_room → Answers (negsuc 0) l k
  unfolding answer_in
  few_cells h = rw (lt-leb state_room (length l) h) (refl, (refl, refl))

  module _ (h : state_room ≤ length l) where
    long_answer : answer_in pass l v ≡ pos (refusal_by pass l v)
    unfolding answer_in
    long_answer = rw (le-leb state_room (length l) h)

    by_room : {A : Type 0} (a b : List A) → if_accepted (refusal_by pass l v) a b ≡ if_written (answer_in pass l v) a b
    by_room a b = written_so (refusal_by pass l v) a b ∙ ap (λ (z : ℤ). if_written z a b) (sym long_answer)

    -- in the cells of a whole hour the answer is the outcome's
    pub whole_cells : (n : ℕ) (s t : List ℤ) → Called pass l k v n s t → Answers (pos n) s t
    whole_cells n s t m = (ap pos m.0 ∙ sym long_answer, (m.1.0 ∙ by_room (written_by pass l v) l, m.1.1 ∙ by_room (sets k 0 (judged_cells (market_in l) v)) k))

    pub in_whole : (z : ℤ) (s t : List ℤ) → Answers z s t → (z ≡ pos (refusal_by pass l v)) × Called pass l k v (refusal_by pass l v) s t
    in_whole z s t m = (m.0 ∙ long_answer, (refl, (m.1.0 ∙ sym (by_room (written_by pass l v) l), m.1.1 ∙ sym (by_room (sets k 0 (judged_cells (market_in l) v)) k))))
