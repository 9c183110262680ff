-- What each call on a tally in numbers answers, and what it leaves. Assumes nothing.
use mathlib.Core.Bool.{Bool, true, false, ◌&&◌}
use mathlib.Core.List.{List, map}
use mathlib.Core.Path.{◌≡◌, refl}
use Prim.Native.Nat.{ℕ, zero, suc, ◌≤◌, ◌<◌}
use native.Mathlib.Omega.{arith}
use borrow.Author.Tests.{le-leb, lt-leb}
use lib.IntN.{ℤ, pos, negsuc}
use lib.ListN.{length, get_or}
use lib.Seq.{sets}
use Rattle.rules_library.specs.Slices.{if_written}
use Rattle.rules_path.specs.Verdicts.{finding_number}
use Rattle.rules_state.specs.Calls.{holds}
use Rattle.rules_state.specs.Verdicts.{finding_by}
use Rattle.rules_state.proofs.StandLaws.{stored_past}
use Rattle.rules_designation.specs.Calls.{tally_room, tally_in, tally_cells, day_of, day_answer, cells_after, hour_cells, hours_room, designation_answer, hours_after, mark_answer, marks_of, marks_after}
use Rattle.rules_designation.specs.Designations.{designation}
use Rattle.rules_designation.specs.Marks.{marked_day}
use Rattle.rules_designation.specs.Tallies.{day_refusal, tally_after}
use Rattle.rules_designation.specs.declared.Day.{Day}
use Rattle.rules_designation.proofs.AfterCalls.{sized_in, sized_after, cells_length}

-- ---- a day
module _ (l : List ℕ) (d : Day) where
  pub day_told : tally_room ≤ length l → day_answer l d ≡ pos (day_refusal (tally_in l) d)
  unfolding day_answer
  day_told h = rw (le-leb tally_room (length l) h)

  pub day_short : length l < tally_room → day_answer l d ≡ negsuc 0
  unfolding day_answer
  day_short h = rw (lt-leb tally_room (length l) h)

  abbrev next : List ℕ
  next = sets l 0 (tally_cells (tally_after (tally_in l) d))

  -- the numbers stay where the answer isn't 0, and those past the tally always
  pub day_left : (day_answer l d ≡ pos 0 → ⊥) → cells_after l d ≡ l
  unfolding cells_after
  day_left n = go (day_answer l d) n
    where
      go : (z : ℤ) → (z ≡ pos 0 → ⊥) → if_written z next l ≡ l
      go (pos zero) n = absurd (n refl)
      go (pos (suc k)) n = refl
      go (negsuc k) n = refl

  pub day_past : (k : ℕ) → tally_room ≤ k → get_or (cells_after l d) k 0 ≡ get_or l k 0
  unfolding cells_after
  day_past k h = go (day_answer l d)
    where
      long : length (tally_cells (tally_after (tally_in l) d)) ≡ 122
      long = cells_length (tally_after (tally_in l) d) (sized_after (tally_in l) d (sized_in l))

      go : (z : ℤ) → get_or (if_written z next l) k 0 ≡ get_or l k 0
      go (pos zero) = stored_past 0 l 0 (tally_cells (tally_after (tally_in l) d)) k (omega (arith, long))
      go (pos (suc n)) = refl
      go (negsuc n) = refl

-- ---- the default verdict
module _ (l hours : List ℕ) where
  pub designation_told : tally_room ≤ length l → 2 ≤ length hours
      → (designation_answer l hours ≡ pos (finding_number (designation (tally_in l)))) × (hours_after l hours ≡ sets hours 0 (hour_cells (tally_in l)))
  unfolding designation_answer hours_after
  designation_told h k = rw (le-leb tally_room (length l) h, le-leb 2 (length hours) k) (refl, refl)

  short : hours_room l hours ≡ false → (designation_answer l hours ≡ negsuc 0) × (hours_after l hours ≡ hours)
  unfolding designation_answer hours_after
  short e = rw e (refl, refl)

  pub tally_short : length l < tally_room → (designation_answer l hours ≡ negsuc 0) × (hours_after l hours ≡ hours)
  tally_short h = short (rw (lt-leb tally_room (length l) h))

  pub hours_short : length hours < 2 → (designation_answer l hours ≡ negsuc 0) × (hours_after l hours ≡ hours)
  hours_short h = short (rw (lt-leb 2 (length hours) h) (second (holds tally_room l)))
    where
      second : (t : Bool) → (t && false) ≡ false
      second true = refl
      second false = refl

-- ---- an hour's marks
module _ (marks : List ℕ) (hour : ℕ) (l : List ℤ) where
  pub mark_told : 2 ≤ length marks
      → (mark_answer marks ≡ pos 0) × (marks_after marks hour l ≡ sets marks 0 (marks_of (marked_day (day_of 0 (get_or marks 0 0) (get_or marks 1 0)) hour (map finding_by l))))
  unfolding mark_answer marks_after
  mark_told h = rw (le-leb 2 (length marks) h) (refl, refl)

  pub mark_short : length marks < 2 → (mark_answer marks ≡ negsuc 0) × (marks_after marks hour l ≡ marks)
  unfolding mark_answer marks_after
  mark_short h = rw (lt-leb 2 (length marks) h) (refl, refl)
