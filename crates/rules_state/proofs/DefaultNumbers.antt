-- The default curve of a state that was opened and then called is the one that opening made. Assumes nothing.
use mathlib.Core.List.{List}
use mathlib.Core.Path.{◌≡◌, sym, ap, ◌∙◌}
use Prim.Native.Nat.{ℕ, ◌<◌}
use native.Mathlib.Nat.{le_trans}
use lib.IntN.{ℤ, pos}
use Rattle.rules_number.proofs.OverLaws.{listed_at}
use Rattle.rules_opening.specs.Resources.{blank_row}
use Rattle.rules_opening.specs.declared.Opening.{Opening}
use Rattle.rules_opening.specs.declared.Row.{Row}
use Rattle.rules_hour.specs.Hours.{Hour, no_row, row_at}
use Rattle.rules_hour.specs.Demand3.{default_of}
use Rattle.rules_hour.proofs.AcceptedOpening.{few}
use Rattle.rules_hour.proofs.KeptLaws.{hour_kept}
use Rattle.rules_pass.specs.Passes.{RealTimeHour}
use Rattle.rules_pass.specs.Calls.{intervals_in}
use Rattle.rules_pass.proofs.Demand3.{hour_alone}
use Rattle.rules_state.specs.Layout.{most_resources}
use Rattle.rules_state.specs.States.{row_in, rows_in, hour_in}
use Rattle.rules_state.specs.Calls.{open_answer}
use Rattle.rules_state.specs.Curves.{default_in}
use Rattle.rules_state.specs.Lists.{NumberCall, requests_in}
use Rattle.rules_state.proofs.StateCalls.{zero_opened}
use Rattle.rules_state.proofs.NumberCalls.{called, called_hour}

-- of any state: that of its row
pub row_default : (s : List ℤ) (r : ℕ) → r < most_resources → default_in s r ≡ (row_at (hour_in s).hour r).default
unfolding rows_in
row_default s r h =
    ap (λ (x : Row). x.default) (listed_at (row_in s) blank_row most_resources r h) ∙ sym (ap (λ (x : Row). x.default) (listed_at (row_in s) no_row most_resources r h))

pub default_in_numbers : (s : List ℤ) (o : Opening) (opened : open_answer s o ≡ pos 0) (calls : List NumberCall) (r : ℕ) → r < o.resources
    → default_in (called s o opened calls) r ≡ default_of o r
default_in_numbers s o opened calls r l =
    let accepted = (zero_opened s o opened).1 in
    row_default (called s o opened calls) r (le_trans l (few o accepted).2)
    ∙ ap (λ (h : RealTimeHour). (row_at h.hour r).default) (called_hour s o opened calls)
    ∙ ap (λ (h : Hour). (row_at h r).default) (hour_alone o (requests_in calls)) ∙ (hour_kept o (intervals_in (requests_in calls)) accepted).default r l
