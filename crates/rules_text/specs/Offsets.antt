-- What stands at an offset of a text, as the code answers it.
use Rattle.std.specs.Prelude.{ℕ, ◌+◌, List, [], true, false, cond, ◌&&◌, length, drop, take, get_or, replicate, leb, eqb, pos, None, Some, ℤ, Option}
use Rattle.std.proofs.lemmas.List.Edits.{sets}
use Rattle.rules_text.specs.Numbers.{Line, Row, same, lines, number, row}
use Rattle.rules_text.specs.Tables.{if_suits, has_id}
use Rattle.rules_text.specs.Spelled.{together}
use Rattle.rules_text.specs.declared.Row as source

abbrev pub shifted : ℕ → Option (ℤ × ℕ) → Option (ℤ × ℕ)
shifted p None = None
shifted p (Some (z, k)) = Some (z, p + k)

-- the number at an offset, with the offset after it
unfoldable pub number_at : List ℕ → ℕ → Option (ℤ × ℕ)
number_at s p = shifted p (number (drop p s))

-- a number that the byte b closes, with the offset after that byte
abbrev pub closed_by : List ℕ → ℕ → Option (ℤ × ℕ) → Option (ℤ × ℕ)
closed_by s b None = None
closed_by s b (Some (z, n)) = cond (eqb (get_or s n 0) b) (Some (z, n + 1)) None

-- where the wanted bytes, a names line with its byte 10, stand at an offset, the offset after them
unfoldable pub names_at : List ℕ → ℕ → Line → Option ℕ
names_at s p want = cond (same want (take (length want) (drop p s))) (Some (p + length want)) None

-- the line at an offset, which is empty at the text's end
unfoldable pub line_at : List ℕ → ℕ → Line
line_at s p = get_or (lines (drop p s)) 0 []

-- an array of n cells: the first n values, with blanks after them; those past the room are not kept
unfoldable pub kept : {A : Type 0} → ℕ → A → List A → List A
kept n blank xs = sets (replicate n blank) 0 xs

-- the values of a line before the offset `next`, in m cells, or none
abbrev pub as_row : (m : ℕ) → ℕ → Option Row → Option (source.Row m)
as_row m next None = None
as_row m next (Some xs) = Some (record { v = kept m (pos 0) xs; next = next })

-- lines of 1 to 8 values have a row; no other has
unfoldable pub row_of : (m : ℕ) → (Option Row → Option Row) → List ℕ → ℕ → ℕ → Option (source.Row m)
row_of m which s p k = cond (leb 1 k && leb k 8) (as_row m (p + length (line_at s p)) (which (row k (line_at s p)))) None

-- the k values of the line at an offset, in m cells, with the offset of the next line
abbrev pub row_at : (m : ℕ) → List ℕ → ℕ → ℕ → Option (source.Row m)
row_at m = row_of m (λ o. o)

-- the m values of the line at an offset, where the first of them is the id n
abbrev pub id_row_at : (m : ℕ) → ℕ → List ℕ → ℕ → Option (source.Row m)
id_row_at m n s p = row_of m (if_suits (has_id n)) s p m

-- the bytes of the first k of some lines: by so much the offset after them exceeds the one before
unfoldable pub bytes_of : ℕ → List Line → ℕ
bytes_of k ls = length (together (take k ls))
