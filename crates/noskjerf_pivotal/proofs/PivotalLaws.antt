-- Laws of the answers of noskjerf_pivotal, one for each way out. Assumes nothing.
use Prim.Native.Nat.{ℕ, ◌≤◌, ◌<◌}
use mathlib.Core.Path.{◌≡◌}
use mathlib.Core.List.{List}
use native.Mathlib.Omega.{arith}
use lib.IntN.{ℤ, pos, negsuc}
use lib.ListN.{length}
use lib.Seq.{sets}
use Rattle.rules_interval.specs.Intervals.{interval_refusal}
use Rattle.rules_interval.specs.declared.Interval.{Interval}
use Rattle.rules_interval.proofs.IntervalLaws.{in_limits}
use Rattle.rules_path.specs.declared.Market.{Market}
use Rattle.rules_pivotal.specs.Calls.{found_room, found_cells, pivotal_answer, found_after}
use Rattle.rules_pivotal.specs.Pivotals.{pivotal_refusal, pivotal_of}
use Rattle.rules_pivotal.proofs.SamePivotal as pivotals
use Rattle.rules_state.specs.Layout.{state_room}
use Rattle.rules_state.specs.States.{market_in}
use Rattle.cells.proofs.AnswerLaws as answers
use Rattle.cutting.proofs.AlikeLaws.{Alike, refusal_same, path_same}

-- two intervals that are alike have one result
module _ (m : Market) (v w : Interval) (s : Alike m.resources v w) where
  judged : interval_refusal m.resources v ≡ 0 → pivotals.Judged m v w
  judged z =
      let i = in_limits m.resources v z in
      record { constraints = s.constraints; paths = path_same m v w s (omega (arith, i.count, i.few)) i.constraints }

  pub refusals_alike : pivotal_refusal m v ≡ pivotal_refusal m w
  refusals_alike = pivotals.pivotal_refusal_same m v w (refusal_same m.resources v w s) judged

  pub results_alike : (budget : ℕ) → pivotal_of m v budget ≡ pivotal_of m w budget
  results_alike budget = pivotals.pivotal_same m v w (refusal_same m.resources v w s) judged budget

module _ (state : List ℤ) (found : List ℕ) (v : Interval) (budget : ℕ) where
  abbrev number : ℕ
  number = pivotal_refusal (market_in state) v

  abbrev next : List ℕ
  next = sets found 0 (found_cells (pivotal_of (market_in state) v budget))

  -- the answer and the slice are as they should be
  abbrev pub Answered : ℤ → List ℕ → Type 0
  Answered z s = (z ≡ pivotal_answer state found v) × (s ≡ found_after state found v budget)

  pub few_cells : length state < state_room → Answered (negsuc 0) found
  unfolding pivotal_answer found_after
  few_cells h = answers.few_state state_room found_room number state found next h

  module _ (h : state_room ≤ length state) where
    pub few_found : length found < found_room → Answered (negsuc 0) found
    unfolding pivotal_answer found_after
    few_found k = answers.few_found state_room found_room number state found next h k

    module _ (k : found_room ≤ length found) where
      pub refused : (n : ℕ) → 0 < n → pivotal_refusal (market_in state) v ≡ n → Answered (pos n) found
      unfolding pivotal_answer found_after
      refused n l e = answers.told_refused state_room found_room number state found next h k n l e

      pub written : pivotal_refusal (market_in state) v ≡ 0 → (out : List ℕ) → out ≡ sets found 0 (found_cells (pivotal_of (market_in state) v budget)) → Answered (pos 0) out
      unfolding pivotal_answer found_after
      written z out o = answers.told_written state_room found_room number state found next h k z out o
