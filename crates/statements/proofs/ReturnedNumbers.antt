-- The same of an hour in numbers: of states and answers that are known by the promises of `noskjerf_open`, `noskjerf_interval`, `noskjerf_pass` and `noskjerf_curve` alone. A call counts as
-- accepted exactly if it was answered with 0. Assumes nothing.
use mathlib.Core.List.{List, [], ◌∷◌, ◌++◌}
use mathlib.Core.Path.{◌≡◌}
use Prim.Native.Nat.{zero, suc}
use lib.IntN.{ℤ, pos, negsuc}
use Rattle.rules_interval.specs.declared.Interval.{Interval}
use Rattle.rules_state.specs.Lists.{NumberCall, interval, pass, interval_by, answer_to, state_after}

-- what a caller sees of a call: what it handed in, the answer, and the state afterwards
pub record Told : Type 0 where
  pub call : NumberCall
  pub answer : ℤ
  pub state : List ℤ

-- the promises, each call on the state that the one before it left
abbrev pub MadeOn : List ℤ → List Told → Type 0
MadeOn s [] = Unit {0}
MadeOn s (x ∷ l) = (x.answer ≡ answer_to s x.call) × ((x.state ≡ state_after s x.call) × MadeOn x.state l)

abbrev pub last_of : List ℤ → List Told → List ℤ
last_of s [] = s
last_of s (x ∷ l) = last_of x.state l

-- the intervals that were answered with 0, after some that are taken already
abbrev pub joins : NumberCall → ℤ → List Interval → List Interval
joins (interval y) (pos zero) taken = taken ++ (interval_by y ∷ [])
joins (interval y) (pos (suc n)) taken = taken
joins (interval y) (negsuc n) taken = taken
joins (pass y) z taken = taken

abbrev pub answered_zero : List Interval → List Told → List Interval
answered_zero taken [] = taken
answered_zero taken (x ∷ l) = answered_zero (joins x.call x.answer taken) l
