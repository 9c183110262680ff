-- A tally in 122 numbers that the caller keeps: how many days are held, the last day's number, and the masks of each kind, the newest day first.
use Rattle.std.specs.Prelude.{Bool, ◌&&◌, cond, List, [], ◌∷◌, ◌++◌, map, ℕ, ◌+◌, ℤ, get_or, replicate}
use Rattle.std.proofs.lemmas.List.Edits.{sets}
use Rattle.rules_number.specs.Over.{listed}
use Rattle.rules_path.specs.Verdicts.{finding_number}
use Rattle.rules_designation.specs.Designations.{hours_in, designation}
use Rattle.rules_designation.specs.Marks.{marked_day}
use Rattle.rules_designation.specs.Tallies.{held_days, day_refusal, tally_after}
use Rattle.rules_designation.specs.declared.Day.{Day}
use Rattle.rules_designation.specs.declared.Tally.{Tally}
use Rattle.rules_library.specs.Slices.{answer_of, if_written}
use Rattle.rules_state.specs.Calls.{holds}
use Rattle.rules_state.specs.Verdicts.{finding_by}

abbrev pub bound_from : ℕ
bound_from = 2

abbrev pub non_competitive_from : ℕ
non_competitive_from = 62

abbrev pub tally_room : ℕ
tally_room = 122

abbrev pub mask_in : List ℕ → ℕ → ℕ → ℕ
mask_in l from i = get_or l (from + i) 0

unfoldable pub masks_in : List ℕ → ℕ → List ℕ
masks_in l from = listed (mask_in l from) held_days

-- every content is a tally
unfoldable pub tally_in : List ℕ → Tally
tally_in l = record { days = get_or l 0 0; last = get_or l 1 0; bound = masks_in l bound_from; noncompetitive = masks_in l non_competitive_from }

unfoldable pub tally_cells : Tally → List ℕ
tally_cells t = t.days ∷ t.last ∷ t.bound ++ t.noncompetitive

abbrev pub day_of : ℕ → ℕ → ℕ → Day
day_of number bound non = record { number = number; bound = bound; noncompetitive = non }

-- a day more: the answer, and the tally afterwards
unfoldable pub day_answer : List ℕ → Day → ℤ
day_answer l d = answer_of (holds tally_room l) (day_refusal (tally_in l) d)

unfoldable pub cells_after : List ℕ → Day → List ℕ
cells_after l d = if_written (day_answer l d) (sets l 0 (tally_cells (tally_after (tally_in l) d))) l

-- the default verdict by its number, and the hours
abbrev pub hour_cells : Tally → List ℕ
hour_cells t = hours_in t.bound ∷ hours_in t.noncompetitive ∷ []

abbrev pub hours_room : List ℕ → List ℕ → Bool
hours_room l hours = holds tally_room l && holds 2 hours

unfoldable pub designation_answer : List ℕ → List ℕ → ℤ
designation_answer l hours = answer_of (hours_room l hours) (finding_number (designation (tally_in l)))

unfoldable pub hours_after : List ℕ → List ℕ → List ℕ
hours_after l hours = cond (hours_room l hours) (sets hours 0 (hour_cells (tally_in l))) hours

-- an hour's marks
unfoldable pub mark_answer : List ℕ → ℤ
mark_answer marks = answer_of (holds 2 marks) 0

abbrev pub marks_of : Day → List ℕ
marks_of d = d.bound ∷ d.noncompetitive ∷ []

unfoldable pub marks_after : List ℕ → ℕ → List ℤ → List ℕ
marks_after marks hour l = cond (holds 2 marks) (sets marks 0 (marks_of (marked_day (day_of 0 (get_or marks 0 0) (get_or marks 1 0)) hour (map finding_by l)))) marks

-- ---- calls in turn
unfoldable pub cells_over : List ℕ → List Day → List ℕ
cells_over l [] = l
cells_over l (d ∷ days) = cells_over (cells_after l d) days

-- "a fresh tally"
abbrev pub cells_fresh : List ℕ
cells_fresh = replicate tally_room 0
