-- What an interval call and a pass answer, by the way they end. Assumes nothing.
use mathlib.Core.Bool.{Bool, true, false, ◌&&◌}
use mathlib.Core.List.{List}
use mathlib.Core.Path.{◌≡◌, refl, sym, ap, ap₂, ◌∙◌}
use Prim.Native.Nat.{ℕ, ◌+◌, ◌≤◌, ◌<◌}
use borrow.Author.Tests.{lt-ltb, le-ltb}
use lib.Dec.{ltb}
use lib.IntN.{ℤ}
use Rattle.rules_number.specs.Order.{nat_of}
use Rattle.rules_curve.specs.Refusals.{unless, ◌then◌}
use Rattle.rules_interval.specs.Intervals.{interval_refusal}
use Rattle.rules_interval.specs.declared.Interval.{Interval}
use Rattle.rules_path.specs.declared.Market.{Market}
use Rattle.rules_hour.specs.Hours.{call_refusal}
use Rattle.rules_hour.specs.declared.Standing.{Standing}
use Rattle.rules_pass.specs.Passes.{turn_refusal}
use Rattle.rules_pass.specs.declared.Quarter.{Quarter}
use Rattle.rules_library.specs.Slices.{cell_at}
use Rattle.rules_state.specs.Layout.{quarter_from}
use Rattle.rules_state.specs.States.{standing_in, quarter_in}
use Rattle.rules_state.specs.Takes.{if_accepted, standing_written, quarter_written}
use Rattle.cutting.specs.Places.{counted}

-- ---- an interval
module _ (m : Market) (s : Standing) (v : Interval) where
  -- four are accepted already
  pub full : 4 ≤ s.accepted → call_refusal m s v ≡ 12
  unfolding call_refusal
  full l = rw (le-ltb s.accepted 4 l)

  -- fewer are: the interval's own number
  pub open_for : s.accepted < 4 → call_refusal m s v ≡ interval_refusal m.resources v
  unfolding call_refusal
  open_for l = rw (lt-ltb s.accepted 4 l)

-- ---- a pass
module _ (m : Market) (accepted : ℕ) (k : Quarter) (v : Interval) where
  -- no interval is accepted, or three passes are
  turn_by : {t u : Bool} → ltb 0 accepted ≡ t → ltb k.passes 3 ≡ u → turn_refusal m accepted k v ≡ (unless (t && u) 19 then interval_refusal m.resources v)
  unfolding turn_refusal
  turn_by = ap₂ (λ (t u : Bool). unless (t && u) 19 then interval_refusal m.resources v)

  pub no_interval : accepted ≤ 0 → turn_refusal m accepted k v ≡ 19
  no_interval l = turn_by (le-ltb 0 accepted l) refl

  pub three_passes : 0 < accepted → 3 ≤ k.passes → turn_refusal m accepted k v ≡ 19
  three_passes h l = turn_by (lt-ltb 0 accepted h) (le-ltb k.passes 3 l)

  -- else the pass's own number
  pub own_turn : 0 < accepted → k.passes < 3 → turn_refusal m accepted k v ≡ interval_refusal m.resources v
  own_turn h l = turn_by (lt-ltb 0 accepted h) (lt-ltb k.passes 3 l)

-- ---- in cells
module _ (l : List ℤ) (v : Interval) where
  pub accepted_in : (standing_in l).accepted ≡ nat_of (cell_at l 0)
  unfolding standing_in
  accepted_in = refl

  pub passes_in : (quarter_in l).passes ≡ nat_of (cell_at l quarter_from)
  unfolding quarter_in
  passes_in = refl

  -- what is counted is what an accepted interval, and an accepted pass, writes
  pub interval_written_lem : (n : ℕ) → n ≡ (standing_in l).accepted → counted false (n + 1) v l ≡ standing_written l v
  unfolding standing_written
  interval_written_lem n e = ap (λ (k : ℕ). counted false (k + 1) v l) e

  pub pass_written_lem : (n : ℕ) → n ≡ (quarter_in l).passes → counted true (n + 1) v l ≡ quarter_written l v
  unfolding quarter_written
  pass_written_lem n e = ap (λ (k : ℕ). counted true (k + 1) v l) e

-- what is written by one number is written by the same number
pub same_number : {A : Type 0} (n k : ℕ) (x a b : A) → n ≡ k → x ≡ if_accepted k a b → x ≡ if_accepted n a b
same_number n k x a b e h = h ∙ ap (λ (i : ℕ). if_accepted i a b) (sym e)
