-- Laws of the answers of noskjerf_why, one for each way out. Assumes nothing.
use Prim.Native.Nat.{ℕ, ◌≤◌, ◌<◌}
use mathlib.Core.Path.{◌≡◌}
use mathlib.Core.List.{List}
use lib.IntN.{ℤ, pos, negsuc}
use lib.ListN.{length}
use lib.Seq.{sets}
use Rattle.rules_interval.specs.Intervals.{interval_refusal}
use Rattle.rules_interval.specs.declared.Interval.{Interval}
use Rattle.rules_state.specs.Calls.{why_answer, causes_after}
use Rattle.rules_state.specs.Causes.{causes_cells}
use Rattle.rules_state.specs.Layout.{state_room, cause_room}
use Rattle.rules_state.specs.States.{market_in}
use Rattle.cells.proofs.AnswerLaws as answers

module _ (state causes : List ℤ) (v : Interval) where
  abbrev number : ℕ
  number = interval_refusal (market_in state).resources v

  abbrev next : List ℤ
  next = sets causes 0 (causes_cells (market_in state) v)

  -- the answer and the slice are as they should be
  abbrev pub Answered : ℤ → List ℤ → Type 0
  Answered z s = (z ≡ why_answer state causes v) × (s ≡ causes_after state causes v)

  pub few_cells : length state < state_room → Answered (negsuc 0) causes
  unfolding why_answer causes_after
  few_cells h = answers.few_state state_room cause_room number state causes next h

  module _ (h : state_room ≤ length state) where
    pub few_causes : length causes < cause_room → Answered (negsuc 0) causes
    unfolding why_answer causes_after
    few_causes k = answers.few_found state_room cause_room number state causes next h k

    module _ (k : cause_room ≤ length causes) where
      pub refused : (n : ℕ) → 0 < n → interval_refusal (market_in state).resources v ≡ n → Answered (pos n) causes
      unfolding why_answer causes_after
      refused n l e = answers.told_refused state_room cause_room number state causes next h k n l e

      pub written : interval_refusal (market_in state).resources v ≡ 0 → (out : List ℤ) → out ≡ sets causes 0 (causes_cells (market_in state) v) → Answered (pos 0) out
      unfolding why_answer causes_after
      written z out o = answers.told_written state_room cause_room number state causes next h k z out o
