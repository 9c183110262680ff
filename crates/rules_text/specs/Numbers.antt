-- Paper 01, Text: lines, their numbers and values. A text is a list of bytes.
use Rattle.std.specs.Prelude.{ℕ, zero, suc, ◌+◌, ◌-◌, ◌*◌, List, [], ◌∷◌, Bool, true, false, cond, not, ◌&&◌, ◌||◌, drop, get_or, leb, eqb, ℤ, pos, neg_ℤ, Some, None, Option}
use Prim.Native.String.{String, [] as nothing, ◌∷◌ as ◌before◌}
use Prim.Native.Char.{code}

-- the bytes of a line, the byte 10 that closes it included
abbrev pub Line : Type 0
Line = List ℕ

-- the values of a line, in order
abbrev pub Row : Type 0
Row = List ℤ

-- the bytes of a quoted text, all of whose characters are ASCII
abbrev pub bytes : String → Line
bytes nothing = []
bytes (c before s) = code c ∷ bytes s

-- whether a line is the one that is wanted
abbrev pub same : Line → Line → Bool
same [] [] = true
same [] (b ∷ t) = false
same (a ∷ s) [] = false
same (a ∷ s) (b ∷ t) = let more = same s t in cond (eqb a b) more false

-- ---- "one space between, each line closed by byte 10"
-- what closes a number that k others follow in its line
abbrev pub closing : ℕ → ℕ
closing zero = 10
closing (suc k) = 32

-- a byte before the lines of what follows it
abbrev pub joined : Bool → ℕ → List Line → List Line
joined true b ls = (b ∷ []) ∷ ls
joined false b [] = (b ∷ []) ∷ []
joined false b (l ∷ ls) = (b ∷ l) ∷ ls

-- the lines of a text; the last may lack the byte 10, and then no row or names line is that one
abbrev pub lines : List ℕ → List Line
lines [] = []
lines (b ∷ t) = joined (eqb b 10) b (lines t)

-- ---- "no leading zeros, no -0, when read at most 12 digits, "-" before a negative"
-- the bytes `0` to `9`
abbrev pub is_digit : ℕ → Bool
is_digit b = leb 48 b && leb b 57

-- how many digits a text begins with
abbrev pub digit_count : List ℕ → ℕ
digit_count [] = 0
digit_count (b ∷ t) = let more = suc (digit_count t) in cond (is_digit b) more 0

-- the number that the digits that a text begins with spell, after digits that spell n
abbrev pub value : ℕ → List ℕ → ℕ
value n [] = n
value n (b ∷ t) = let more = value (n * 10 + (b - 48)) t in cond (is_digit b) more n

-- k digits are a number: 1 to 12 of them, and the first is no 0 unless it is the only one
abbrev pub formed : ℕ → ℕ → Bool
formed first k = (leb 1 k && leb k 12) && (eqb k 1 || not (eqb first 48))

-- the digits that a text begins with, as a number, and how many they are
unfoldable pub magnitude : List ℕ → Option (ℕ × ℕ)
magnitude t = cond (formed (get_or t 0 0) (digit_count t)) (Some (value 0 t, digit_count t)) None

abbrev pub plain : Option (ℕ × ℕ) → Option (ℤ × ℕ)
plain None = None
plain (Some (v, k)) = Some (pos v, k)

-- after "-"; there is no -0
abbrev pub negated : Option (ℕ × ℕ) → Option (ℤ × ℕ)
negated None = None
negated (Some (v, k)) = cond (eqb v 0) None (Some (neg_ℤ (pos v), suc k))

-- the number that a text begins with, and how many bytes it takes
unfoldable pub number : List ℕ → Option (ℤ × ℕ)
number t = cond (eqb (get_or t 0 0) 45) (negated (magnitude (drop 1 t))) (plain (magnitude t))

-- ---- "lines of values"
abbrev pub put : ℤ → Option Row → Option Row
put z None = None
put z (Some zs) = Some (z ∷ zs)

-- a number closed by the byte b, and then the rest of the line
abbrev pub field : Option (ℤ × ℕ) → Line → ℕ → (Line → Option Row) → Option Row
field None l b rest = None
field (Some (z, k)) l b rest = let more = put z (rest (drop (suc k) l)) in cond (eqb (get_or l k 0) b) more None

-- the k numbers of a line of values
unfoldable pub row : ℕ → Line → Option Row
row zero [] = Some []
row zero (b ∷ t) = None
row (suc k) l = field (number l) l (closing k) (row k)
