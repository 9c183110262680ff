-- Paper 02, 2.5 No parameter means zero: "Missing now means 0, formerly 100. The classroom hours that leaned on the old value must write 100 and, where that
-- stays within 65,536 bytes, print as before." What was printed formerly, and a text with 100 written.
use Rattle.std.specs.Prelude.{ℕ, suc, ◌+◌, ◌≤◌, ◌≡◌, List, [], ◌∷◌, Bool, true, false, cond, ◌&&◌, pos, length, get_or}
use Rattle.rules_text.specs.Numbers.{Line, bytes, same, lines}
use Rattle.rules_text.specs.Spelled.{together}
use Rattle.rules_run.specs.Run.{output_by, output, Ended, end_with, end_of}

-- "formerly 100": what was printed, and how the run ended
abbrev pub output_formerly : List ℕ → List ℕ
output_formerly = output_by (pos 100)

abbrev pub end_formerly : List ℕ → Ended
end_formerly = end_with (pos 100)

-- ---- "must write 100"
-- whether a line is the names of the parameter's table, after which the parameter is due
abbrev pub is_names : Line → Bool
is_names l = same (bytes "parameter\n") l

-- whether a line is a missing parameter, where one is due
abbrev pub is_missing : Bool → Line → Bool
is_missing isDue l = isDue && same (bytes "-\n") l

-- lines, with 100 written for each missing parameter; isDue says whether the first is a parameter's line
abbrev pub with_hundreds : Bool → List Line → List Line
with_hundreds isDue [] = []
with_hundreds isDue (l ∷ ls) = cond (is_missing isDue l) (bytes "100\n") l ∷ with_hundreds (is_names l) ls

-- a text, with 100 written for each missing parameter
unfoldable pub written : List ℕ → List ℕ
written t = together (with_hundreds false (lines t))

-- how many lines are missing parameters
abbrev pub one : Bool → ℕ
one true = 1
one false = 0

unfoldable pub missing_in : Bool → List Line → ℕ
missing_in isDue [] = 0
missing_in isDue (l ∷ ls) = one (is_missing isDue l) + missing_in (is_names l) ls

-- "where that stays within 65,536 bytes"
abbrev pub StaysWithin : List ℕ → Type 0
StaysWithin t = length (written t) ≤ 65536

-- "print as before", byte for byte, and so with the same refusal on the same line
abbrev pub PrintsAsBefore : Type 0
PrintsAsBefore = (t : List ℕ) → StaysWithin t → output (written t) ≡ output_formerly t

abbrev pub EndsAsBefore : Type 0
EndsAsBefore = (t : List ℕ) → StaysWithin t → end_of (written t) ≡ end_formerly t

-- ---- the same line by line
-- line i of a text, counted from 0; no bytes where it has none
abbrev pub line_of : List ℕ → ℕ → Line
line_of t i = get_or (lines t) i []

-- the line after line i is a missing parameter: "-" alone below the names of the parameter's table
pub record MissingAfter (t : List ℕ) (i : ℕ) : Type 0 where
  pub names : line_of t i ≡ bytes "parameter\n"
  pub value : line_of t (suc i) ≡ bytes "-\n"

-- 100 is written for each missing parameter, and no other line changes
pub record WrittenSays (t : List ℕ) : Type 0 where
  pub as_many : length (lines (written t)) ≡ length (lines t)
  pub first : line_of (written t) 0 ≡ line_of t 0
  pub hundred : (i : ℕ) → MissingAfter t i → line_of (written t) (suc i) ≡ bytes "100\n"
  pub other : (i : ℕ) → (MissingAfter t i → ⊥) → line_of (written t) (suc i) ≡ line_of t (suc i)
