-- Lines of a page put once more at a later place, each with another first byte.
use Rattle.std.specs.Prelude.{ℕ, ◌+◌, Bool, ◌&&◌, cond, List, [], ◌∷◌, leb, pos, length, take, drop, set, None, Option, Some}
use Rattle.std.proofs.lemmas.List.Edits.{sets}
use Rattle.rules_text.specs.Numbers.{Row}
use Rattle.rules_text.specs.Printing.{line_text}

-- how wide the line of a row is, in group c of a table of interval i
abbrev pub width_of : ℕ → ℕ → Row → ℕ
width_of i c x = length (line_text (pos i ∷ pos c ∷ x))

-- a text of lines of these widths, the next of which begins at p, with d as the first byte of each: one past the end is none
unfoldable pub headed : ℕ → ℕ → List ℕ → List ℕ → List ℕ
headed d p [] t = t
headed d p (w ∷ ws) t = headed d (p + w) ws (set t p d)

-- the n bytes of a page from an offset on, as lines with d as their first byte; their widths stand from an index on
abbrev pub lines_again : List ℕ → ℕ → ℕ → List ℕ → ℕ → ℕ → List ℕ
lines_again page from n widths base d = headed d 0 (drop base widths) (take n (drop from page))

-- whether they lie before their new place, and the page has room there
abbrev pub is_later : List ℕ → ℕ → ℕ → ℕ → Bool
is_later page from at n = leb (from + n) at && leb (at + n) (length page)

-- the page afterwards, in which nothing is changed where not
unfoldable pub with_lines : List ℕ → ℕ → ℕ → ℕ → List ℕ → ℕ → ℕ → List ℕ
with_lines page from at n widths base d = cond (is_later page from at n) (sets page at (lines_again page from n widths base d)) page

-- the offset after them
unfoldable pub lines_to : List ℕ → ℕ → ℕ → ℕ → Option ℕ
lines_to page from at n = cond (is_later page from at n) (Some (at + n)) None
