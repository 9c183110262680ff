-- What the part of a text that opens an hour answers.
use Rattle.std.specs.Prelude.{ℕ, zero, suc, ◌+◌, ◌-◌, ◌≡◌, Bool, true, false, ℤ, pos, length, drop, Result, Ok, Err}
use mathlib.Core.List.{List, [], flat_map}
use Rattle.rules_opening.specs.declared.Opening.{Opening}
use Rattle.rules_opening.specs.Openings.{opening_refusal}
use Rattle.rules_text.specs.Numbers.{Line, lines}
use Rattle.rules_text.specs.Tables.{Reading, Reader, faulty, found, ◌▷◌, headed, counted}
use Rattle.rules_text.specs.Offsets.{kept, bytes_of}
use Rattle.rules_state.specs.Layout.{hour_room}
use Rattle.rules_state.specs.Calls.{holds}
use Rattle.rules_state.specs.OpenedInto.{opened_into}
use Rattle.text_blocks.specs.Blocks.{owner_cells, last_three, opening_with}
use Rattle.opening_part.specs.declared.PartOpened.{PartOpened}
use Rattle.opening_part.specs.declared.tables.TableEnd.{TableEnd}

-- the cells with what is found, up to a line, with the next line at an offset of the text; or the faulty line
abbrev pub read_cells : List ℕ → Result TableEnd ℕ → List ℤ → Reading (List ℤ)
read_cells s (Ok g) l = found l g.line (lines (drop g.next s))
read_cells s (Err line) l = faulty line

-- the part's last four tables, after a month and the marks of the portfolios, from the first line of the resources on
abbrev pub last_four : ℤ → ℕ → List ℤ → Reader Opening
last_four month portfolios sellers =
    counted 3 ▷ λ rows. last_three (length rows) (opening_with month portfolios sellers (length rows) (kept 128 (pos 0) (flat_map owner_cells rows)))

-- the same with the names of the resources' table
abbrev pub headed_four : ℤ → ℕ → List ℤ → Reader Opening
headed_four month portfolios sellers =
    headed "resource portfolio start\n" (counted 3) ▷ λ rows.
    last_three (length rows) (opening_with month portfolios sellers (length rows) (kept 128 (pos 0) (flat_map owner_cells rows)))

-- ---- answers
-- number 17 and the faulty line
abbrev pub faulty_at : ℕ → PartOpened
faulty_at line = record { number = 17; line = line; next = 0; resources = 0 }

-- by the number of the opening's refusal
abbrev pub part_by : ℕ → ℕ → ℕ → ℕ → PartOpened
part_by zero line next resources = record { number = 0; line = line; next = next; resources = resources }
part_by (suc n) line next resources = record { number = suc n; line = line; next = 0; resources = 0 }

-- by whether the cells have room for so many resources: else the number that says so
abbrev pub too_short_page : ℕ
too_short_page = 255

abbrev pub part_in : Bool → ℕ → ℕ → ℕ → ℕ → PartOpened
part_in true number line next resources = part_by number line next resources
part_in false number line next resources = record { number = too_short_page; line = line; next = 0; resources = resources }

-- to what is read, with the offset after so many lines, of these cells
unfoldable pub part_answer : (ℕ → ℕ) → List ℤ → Reading Opening → PartOpened
part_answer after l (faulty line) = faulty_at line
part_answer after l (found o line rest) = part_in (holds (hour_room o.resources) l) (opening_refusal o) line (after line) o.resources

-- the cells of the hour after it
unfoldable pub part_state : Reading Opening → List ℤ → List ℤ
part_state (faulty line) l = l
part_state (found o line rest) l = opened_into o l

-- the lines after it
abbrev pub lines_then : {A : Type 0} → Reading A → List Line
lines_then (faulty line) = []
lines_then (found a line rest) = rest

-- the answer r to what is read at offset `at`, before which n lines stand, with the cells before and after
pub record Opened (s : List ℕ) (n at : ℕ) (read : Reading Opening) (before after : List ℤ) (r : PartOpened) : Type 0 where
  pub answer : r ≡ part_answer (λ k. at + bytes_of (k - n) (lines (drop at s))) before read
  pub state : after ≡ part_state read before
  pub rest : r.number ≡ 0 → lines (drop r.next s) ≡ lines_then read
