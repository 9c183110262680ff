-- Paper 01, Text, the other way round: what tables, lines and numbers are in a text.
use Rattle.std.specs.Prelude.{ℕ, suc, ◌^◌, ◌<◌, List, [], ◌∷◌, ◌++◌, map, ℤ, pos, nat_abs}
use Rattle.rules_text.specs.Numbers.{Line, Row}
use Rattle.rules_text.specs.Printing.{line_text}

-- "when read at most 12 digits"
abbrev pub Small : ℤ → Type 0
Small z = nat_abs z < 10 ^ 12

pub data Every {A : Type 0} (P : A → Type 0) : List A → Type 0 where
  no_more : Every P []
  and_all : {x : A} {l : List A} → P x → Every P l → Every P (x ∷ l)

-- ---- tables
-- a line for each, which "count up by one" from i
unfoldable pub counted_rows : {A : Type 0} → (A → Row) → ℕ → List A → List Row
counted_rows f i [] = []
counted_rows f i (a ∷ l) = (pos i ∷ f a) ∷ counted_rows f (suc i) l

-- the lines of each, "grouped by rising" number from i
unfoldable pub grouped_rows : {A : Type 0} → (A → List Row) → ℕ → List A → List (List Row)
grouped_rows f i [] = []
grouped_rows f i (a ∷ l) = map (λ x. pos i ∷ x) (f a) ∷ grouped_rows f (suc i) l

-- lists one after another
unfoldable pub together : {A : Type 0} → List (List A) → List A
together [] = []
together (l ∷ ls) = l ++ together ls

-- "Each table is a line of names, then lines of values in that order"
abbrev pub table_lines : Line → List Row → List Line
table_lines names rows = names ∷ map line_text rows
