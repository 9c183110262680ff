-- The answers as numbers.
use Rattle.std.specs.Prelude.{ℕ, Bool, cond, ◌&&◌, List, [], ◌∷◌, leb, ℤ, pos, negsuc, length}
use Rattle.std.proofs.lemmas.List.Edits.{sets}
use Rattle.rules_run.specs.Run.{Ended, run_room}
use Rattle.rules_run.specs.declared.Ran.{Ran}
use Rattle.rules_run.specs.declared.Ran.TheVariants.{Printed, TooSmall}

-- how many bytes were printed, or -1 where the page is too small
abbrev pub ran_number : Ran → ℤ
ran_number (Printed count number line) = pos count
ran_number TooSmall = negsuc 0

-- ---- a run that tells its refusal: into a page, and its number and line into a slice of two numbers or more
abbrev pub told_room : List ℕ → List ℕ → Bool
told_room page told = leb 2 (length told) && leb run_room (length page)

-- how many bytes were printed, or -1 where the page or the slice is too small
unfoldable pub told_answer : List ℕ → List ℕ → List ℕ → ℤ
told_answer page told printed = cond (told_room page told) (pos (length printed)) (negsuc 0)

-- the page and the slice afterwards
unfoldable pub told_page : List ℕ → List ℕ → List ℕ → List ℕ
told_page page told printed = cond (told_room page told) (sets page 0 printed) page

unfoldable pub told_after : List ℕ → List ℕ → Ended → List ℕ
told_after page told e = cond (told_room page told) (sets told 0 (e.number ∷ e.line ∷ [])) told
