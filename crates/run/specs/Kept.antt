-- The lines of curves that stand on a page: those of a later interval are copied from them where a resource's floor price is the same.
use Rattle.std.specs.Prelude.{ℕ, ◌+◌, ◌*◌, ◌≤◌, ◌<◌, ◌≡◌, List, map, ℤ, length, take, drop, get_or}
use Rattle.rules_mitigation.specs.Mitigation.{most_mitigated_steps, used_steps}
use Rattle.rules_opening.specs.declared.Row as engine
use Rattle.rules_hour.specs.Hours.{no_row, row_curve}
use Rattle.rules_hour.specs.declared.Floor.{Floor}
use Rattle.rules_text.specs.Numbers.{Row}
use Rattle.rules_text.specs.Printing.{group_text}
use Rattle.rules_page.specs.Pages.{curve_bytes, step_row}
use Rattle.rules_library.specs.Slices.{cell_at}
use Rattle.rules_state.specs.States.{floor_of}
use Rattle.line_copies.specs.Lines.{width_of}

-- what is printed of resource r at a floor price
abbrev pub rows_at : List engine.Row → ℕ → Floor → List Row
rows_at rows r floor = map step_row (used_steps (row_curve (get_or rows r no_row) floor))

-- the floor price at which the lines of resource r were put: a mark and a price for each resource in turn
abbrev pub floor_shown : List ℤ → ℕ → Floor
floor_shown shown r = floor_of (cell_at shown (2 * r)) (cell_at shown (2 * r + 1))

-- where the lines of resource r begin, and how many bytes they take: an offset and a length for each resource in turn
abbrev pub place_of : List ℕ → ℕ → ℕ
place_of lines r = get_or lines (2 * r) 0

abbrev pub length_of : List ℕ → ℕ → ℕ
length_of lines r = get_or lines (2 * r + 1) 0

-- the n bytes at an offset, all before `end`, are the lines of group r in a table of some interval of one digit, and their widths stand from an index on
pub record Stands (l : List Row) (r : ℕ) (page : List ℕ) (end from n : ℕ) (widths : List ℕ) (base : ℕ) : Type 0 where
  pub interval : ℕ
  pub small : interval < 10
  pub lines : take n (drop from page) ≡ group_text interval r l
  pub before : from + n ≤ end
  pub few : n ≤ curve_bytes
  pub short : length l ≤ most_mitigated_steps
  pub wide : take (length l) (drop base widths) ≡ map (width_of interval r) l

-- so do those of each of k resources whose lines were put
pub record Kept (k : ℕ) (rows : List engine.Row) (page : List ℕ) (end : ℕ) (shown : List ℤ) (lines widths : List ℕ) : Type 0 where
  pub stands : (r : ℕ) → r < k → 0 < length_of lines r
      → Stands (rows_at rows r (floor_shown shown r)) r page end (place_of lines r) (length_of lines r) widths (most_mitigated_steps * r)

-- the lists have room for k resources
pub record Rooms (k : ℕ) (shown : List ℤ) (lines widths : List ℕ) : Type 0 where
  pub floors : 2 * k ≤ length shown
  pub places : 2 * k ≤ length lines
  pub wide : most_mitigated_steps * k ≤ length widths
