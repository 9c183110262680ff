-- The id at the head of a line.
use Rattle.std.specs.Prelude.{ℕ, ◌+◌, List, Bool, cond, ◌&&◌, ltb, leb, length, pos, None, Option, Some, ℤ}
use Rattle.rules_number.specs.Order.{eq_z}
use Rattle.rules_text.specs.Offsets.{number_at, closed_by}
use Rattle.text_bytes.specs.declared.Head.{Head}
use Rattle.text_bytes.specs.declared.Head.TheVariants.{Unread, Other, Past}

-- whether the number that a space closes is the id n
abbrev pub head_of : ℕ → Option (ℤ × ℕ) → Head
head_of n None = Other
head_of n (Some (z, q)) = cond (eq_z (pos n) z) (Past q) Other

-- whether the id n has two digits at most, and k bytes are left of a text after these and a space
abbrev pub fits : ℕ → ℕ → List ℕ → ℕ → Bool
fits n k s at = ltb n 100 && leb (at + (k + 3)) (length s)

abbrev pub head_on : ℕ → ℕ → List ℕ → ℕ → Head
head_on n k s at = cond (fits n k s at) (head_of n (closed_by s 32 (number_at s at))) Unread
