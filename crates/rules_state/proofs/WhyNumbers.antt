-- Why, of a state that was opened and then called (`noskjerf_why`): the causes are those of demand 3. Assumes nothing.
use mathlib.Core.Bool.{◌&&◌}
use mathlib.Core.List.{List}
use mathlib.Core.Path.{◌≡◌, ap, ◌∙◌}
use Prim.Native.Nat.{ℕ, ◌+◌, ◌*◌, ◌≤◌, ◌<◌}
use borrow.Author.Tests.{le-leb}
use lib.IntN.{ℤ, pos}
use lib.ListN.{length}
use Rattle.rules_interval.specs.Intervals.{interval_refusal}
use Rattle.rules_interval.specs.declared.Interval.{Interval}
use Rattle.rules_path.specs.declared.Market.{Market}
use Rattle.rules_opening.specs.Openings.{market_of}
use Rattle.rules_opening.specs.declared.Opening.{Opening}
use Rattle.rules_hour.specs.Hours.{Hour}
use Rattle.rules_hour.proofs.KeptLaws.{hour_kept}
use Rattle.rules_pass.specs.Passes.{RealTimeHour}
use Rattle.rules_pass.specs.Calls.{intervals_in}
use Rattle.rules_pass.proofs.Demand3.{hour_alone}
use Rattle.rules_library.specs.Slices.{cell_at}
use Rattle.rules_state.specs.Layout.{state_room, cause_room}
use Rattle.rules_state.specs.States.{market_in}
use Rattle.rules_state.specs.Calls.{holds, open_answer, why_answer, causes_after}
use Rattle.rules_state.specs.Lists.{NumberCall, requests_in}
use Rattle.rules_state.proofs.CallStates.{answered}
use Rattle.rules_state.proofs.StateCalls.{zero_opened}
use Rattle.rules_state.proofs.NumberCalls.{called, called_long, called_hour}
use Rattle.rules_state.proofs.CauseExactly.{Cause, why_exactly, why_past}

module _ (s : List ℤ) (o : Opening) (opened : open_answer s o ≡ pos 0) (calls : List NumberCall) where
  -- its market is the opening's
  pub called_market : market_in (called s o opened calls) ≡ market_of o
  called_market =
      ap (λ (h : RealTimeHour). h.hour.market) (called_hour s o opened calls)
      ∙ ap (λ (h : Hour). h.market) (hour_alone o (requests_in calls)) ∙ (hour_kept o (intervals_in (requests_in calls)) (zero_opened s o opened).1).market

  module _ (causes : List ℤ) (v : Interval) where
    -- 13 to 16, of the opening's number of resources
    pub why_answer_lem : cause_room ≤ length causes → why_answer (called s o opened calls) causes v ≡ pos (interval_refusal o.resources v)
    unfolding why_answer market_of
    why_answer_lem h =
        answered (holds state_room (called s o opened calls) && holds cause_room causes) (interval_refusal (market_in (called s o opened calls)).resources v)
        (rw (le-leb state_room (length (called s o opened calls)) (called_long s o opened calls)) (le-leb cause_room (length causes) h))
        ∙ ap (λ (m : Market). pos (interval_refusal m.resources v)) called_market

    abbrev cell : ℕ → ℤ
    cell i = cell_at (causes_after (called s o opened calls) causes v) i

    pub why_in_numbers : why_answer (called s o opened calls) causes v ≡ pos 0 → (r : ℕ) → r < o.resources
        → Cause o v r (cell (4 * r + 0)) (cell (4 * r + 1)) (cell (4 * r + 2)) (cell (4 * r + 3))
    why_in_numbers e r l = why_exactly o (zero_opened s o opened).1 (called s o opened calls) causes called_market v e r l

    pub zeros_past : why_answer (called s o opened calls) causes v ≡ pos 0 → (r k : ℕ) → o.resources ≤ r → r < 64 → k < 4 → cell (4 * r + k) ≡ pos 0
    zeros_past e r k l h i = why_past o (zero_opened s o opened).1 (called s o opened calls) causes called_market v e r k l h i
