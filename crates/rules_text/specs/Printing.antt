-- Paper 01, Text: what is printed.
use Rattle.std.specs.Prelude.{ℕ, zero, suc, ◌+◌, ◌/◌, ◌%◌, List, [], ◌∷◌, ◌++◌, Bool, cond, length, leb, ltb, ℤ, pos, negsuc, None, Option, Some}
use Rattle.rules_text.specs.Numbers.{Row, bytes, closing}
use Rattle.std.proofs.lemmas.List.Edits.{sets}

-- the decimal digits of n, where they are at most f
unfoldable pub digits : ℕ → ℕ → List ℕ
digits zero n = []
digits (suc f) n = let more = digits f (n / 10) ++ ((48 + n % 10) ∷ []) in cond (ltb n 10) ((48 + n) ∷ []) more

-- what stands before the digits of a number
unfoldable pub sign : ℤ → List ℕ
sign (pos n) = []
sign (negsuc n) = 45 ∷ []

-- a number as text, ""-" before a negative": 19 digits hold every number of 63 bits
unfoldable pub decimal : ℤ → List ℕ
decimal (pos n) = digits 19 n
decimal (negsuc n) = 45 ∷ digits 19 (suc n)

-- a line of values, "one space between, each line closed by byte 10"
unfoldable pub line_text : Row → List ℕ
line_text [] = []
line_text (z ∷ zs) = decimal z ++ (closing (length zs) ∷ line_text zs)

-- the lines of group c in a table of interval i
unfoldable pub group_text : ℕ → ℕ → List Row → List ℕ
group_text i c [] = []
group_text i c (x ∷ xs) = line_text (pos i ∷ pos c ∷ x) ++ group_text i c xs

-- the lines of a table of interval i: a group for each constraint or resource, from c on
unfoldable pub table_text : ℕ → ℕ → List (List Row) → List ℕ
table_text i c [] = []
table_text i c (g ∷ gs) = group_text i c g ++ table_text i (suc c) gs

-- "the program prints the line `refusal line`, then a line of the two values"
unfoldable pub refusal_text : ℕ → ℕ → List ℕ
refusal_text number line = bytes "refusal line\n" ++ line_text (pos number ∷ pos line ∷ [])

-- ---- a text put into a buffer at an offset
-- whether it fits
abbrev pub holds : List ℕ → ℕ → List ℕ → Bool
holds out at text = leb (at + length text) (length out)

-- the buffer afterwards, in which nothing is changed where the text does not fit
unfoldable pub printed : List ℕ → ℕ → List ℕ → List ℕ
printed out at text = cond (holds out at text) (sets out at text) out

-- the offset after the text, where it fits
unfoldable pub printed_to : List ℕ → ℕ → List ℕ → Option ℕ
printed_to out at text = cond (holds out at text) (Some (at + length text)) None
