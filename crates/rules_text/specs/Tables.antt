-- Paper 01, Text: tables, read line by line, with the number of the lines before.
use Rattle.std.specs.Prelude.{ℕ, zero, suc, ◌+◌, List, [], ◌∷◌, Bool, cond, length, drop, get_or, ℤ, pos, None, Option, Some}
use Prim.Native.String.{String}
use Rattle.rules_number.specs.Order.{eq_z}
use Rattle.rules_text.specs.Numbers.{Line, Row, bytes, row, same}

-- the number of the faulty line; or what is read, the number of its last line, and the lines after it
pub data Reading (A : Type 0) : Type 0 where
  faulty : ℕ → Reading A
  found : A → ℕ → List Line → Reading A

-- to read A from lines before which n others stand
abbrev pub Reader : Type 0 → Type 0
Reader A = ℕ → List Line → Reading A

abbrev pub next : {A B : Type 0} → Reading A → (A → Reader B) → Reading B
next (faulty line) f = faulty line
next (found a n ls) f = f a n ls

-- the one, and then the other
infixr 20 ◌▷◌
abbrev pub ◌▷◌ : {A B : Type 0} → Reader A → (A → Reader B) → Reader B
(m ▷ f) n ls = next (m n ls) f

-- ---- lines that are due: any other is "the faulty one", or "the one after the last if the text ends early"
abbrev pub taken : {A : Type 0} → Option A → Reader A
taken None n ls = faulty (suc n)
taken (Some a) n ls = found a (suc n) ls

unfoldable pub due : {A : Type 0} → (Line → Option A) → Reader A
due is n [] = faulty (suc n)
due is n (l ∷ ls) = taken (is l) n ls

-- "Each table is a line of names, then lines of values in that order"
unfoldable pub headed : {A : Type 0} → String → Reader A → Reader A
headed names values n [] = faulty (suc n)
headed names values n (l ∷ ls) = let rest = values (suc n) ls in cond (same (bytes names) l) rest (faulty (suc n))

-- ---- values
abbrev pub cell : ℕ → Row → ℤ
cell i x = get_or x i (pos 0)

abbrev pub one : Option Row → Option ℤ
one None = None
one (Some x) = Some (cell 0 x)

-- the value of a line of one value: "month and parameter one line"
unfoldable pub single : Line → Option ℤ
single l = one (row 1 l)

abbrev pub if_suits : (Row → Bool) → Option Row → Option Row
if_suits suits None = None
if_suits suits (Some x) = cond (suits x) (Some x) None

-- whether a line's first value, its id, is n: "Ids (portfolio, resource, constraint) count from 0"
abbrev pub has_id : ℕ → Row → Bool
has_id n x = eq_z (pos n) (cell 0 x)

-- ---- tables that end before the first line that does not suit: what follows them refuses that line
abbrev pub and_more : Option Row → (Row → List Row) → List Row
and_more None more = []
and_more (Some x) more = x ∷ more x

-- the longest run of lines of k values that suit, where i is what suits depends on, from line to line
unfoldable pub run : ℕ → (ℕ → Row → Bool) → (ℕ → Row → ℕ) → ℕ → List Line → List Row
run k suits after i [] = []
run k suits after i (l ∷ ls) = and_more (if_suits (suits i) (row k l)) (λ x. run k suits after (after i x) ls)

unfoldable pub rows : (List Line → List Row) → Reader (List Row)
rows of n ls = let xs = of ls in found xs (n + length xs) (drop (length xs) ls)

-- lines of k values that "count up by one", from 0
abbrev pub counting : ℕ → List Line → List Row
counting k = run k has_id (λ i x. suc i) 0

unfoldable pub counted : ℕ → Reader (List Row)
counted k = rows (counting k)

-- "one line for each resource": of k values, for m resources from r on
unfoldable pub each : ℕ → ℕ → ℕ → Reader (List Row)
each k zero r n ls = found [] n ls
each k (suc m) r n ls = (due (λ l. if_suits (has_id r) (row k l)) ▷ λ x. each k m (suc r) ▷ λ xs. found (x ∷ xs)) n ls

-- "grouped by rising resource": the lines of each of m resources, from r on
unfoldable pub grouped : (ℕ → List Line → List Row) → ℕ → ℕ → Reader (List (List Row))
grouped of zero r n ls = found [] n ls
grouped of (suc m) r n ls = (rows (of r) ▷ λ g. grouped of m (suc r) ▷ λ gs. found (g ∷ gs)) n ls

-- the steps, or the points, of resource r
unfoldable pub pairs : ℕ → List Line → List Row
pairs r = run 3 (λ i. has_id r) (λ i x. i) 0
