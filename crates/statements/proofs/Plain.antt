-- Sums, finding numbers, lines and tables of the statements' own, and that the rules' are these. Assumes nothing.
use mathlib.Core.Bool.{cond}
use mathlib.Core.List.{List, [], ◌∷◌, ◌++◌, map}
use mathlib.Core.Path.{◌≡◌, refl, ap, ap₂, fun_ext}
use Prim.Native.Nat.{ℕ, zero, suc, ◌+◌, ◌-◌, ◌/◌, ◌%◌}
use Prim.Native.String.{String, [] as nothing, ◌∷◌ as ◌before◌}
use Prim.Native.Char.{code}
use lib.Dec.{ltb}
use lib.IntN.{ℤ, pos, negsuc, ◌+ℤ◌}
use lib.ListN.{length, replicate}
use Rattle.rules_text.specs.Printing.{digits, decimal, line_text, group_text, table_text}
use Rattle.rules_text.specs.Spelled.{grouped_rows, together}
use Rattle.rules_path.specs.declared.Finding.{Finding}
use Rattle.rules_path.specs.declared.Finding.TheVariants as finding

-- f 0 + .. + f (n - 1), of whole numbers and of signed ones
abbrev pub Sum : (ℕ → ℕ) → ℕ → ℕ
Sum f zero = 0
Sum f (suc n) = Sum f n + f n

abbrev pub SignedSum : (ℕ → ℤ) → ℕ → ℤ
SignedSum f zero = pos 0
SignedSum f (suc n) = SignedSum f n +ℤ f n

-- the sum of f x over the x of a list
abbrev pub SumOver : (ℕ → ℤ) → List ℕ → ℤ
SumOver f [] = pos 0
SumOver f (x ∷ l) = f x +ℤ SumOver f l

-- "Verdict 0 is competitive, 1 non-competitive, 2 not binding"
abbrev pub Found : Finding → ℕ
Found finding.Competitive = 0
Found finding.NonCompetitive = 1
Found finding.NotBinding = 2

-- a number as a whole one: 0 where it is negative
abbrev pub Whole : ℤ → ℕ
Whole (pos n) = n
Whole (negsuc n) = 0

-- an array of n cells that holds l, and b in each cell past it
abbrev pub Padded : {A : Type 0} → ℕ → A → List A → List A
Padded n b l = l ++ replicate (n - length l) b

-- f 0, .., f (n - 1), in order; and lists one after another
unfoldable pub Listed : {A : Type 0} → (ℕ → A) → ℕ → List A
Listed f zero = []
Listed f (suc n) = Listed f n ++ (f n ∷ [])

unfoldable pub Joined : {A : Type 0} → List (List A) → List A
Joined [] = []
Joined (l ∷ ls) = l ++ Joined ls

-- ---- texts
-- the bytes of a quoted text
abbrev pub Ascii : String → List ℕ
Ascii nothing = []
Ascii (c before s) = code c ∷ Ascii s

-- the decimal digits of n, of which there are at most f, and a number, ""-" before a negative"
unfoldable pub Digits : ℕ → ℕ → List ℕ
Digits zero n = []
Digits (suc f) n = cond (ltb n 10) ((48 + n) ∷ []) (Digits f (n / 10) ++ ((48 + n % 10) ∷ []))

unfoldable pub Decimal : ℤ → List ℕ
Decimal (pos n) = Digits 19 n
Decimal (negsuc n) = 45 ∷ Digits 19 (suc n)

-- a line of values, "one space between, each line closed by byte 10"
unfoldable pub LineOf : List ℤ → List ℕ
LineOf [] = []
LineOf (z ∷ []) = Decimal z ++ (10 ∷ [])
LineOf (z ∷ x ∷ l) = Decimal z ++ (32 ∷ LineOf (x ∷ l))

-- rows of a table: one for each, which "count up by one" from i; and those of each, "grouped by rising" number from i
unfoldable pub Counted : {A : Type 0} → (A → List ℤ) → ℕ → List A → List (List ℤ)
Counted f i [] = []
Counted f i (a ∷ l) = (pos i ∷ f a) ∷ Counted f (suc i) l

unfoldable pub Grouped : {A : Type 0} → (A → List (List ℤ)) → ℕ → List A → List (List ℤ)
Grouped f i [] = []
Grouped f i (a ∷ l) = map (λ x. pos i ∷ x) (f a) ++ Grouped f (suc i) l

-- the lines of a printed table of interval i: those of each constraint or resource, from c on, begin with the two numbers
unfoldable pub TableOf : ℕ → ℕ → List (List (List ℤ)) → List ℕ
TableOf i c [] = []
TableOf i c (g ∷ gs) = Joined (map (λ x. LineOf (pos i ∷ pos c ∷ x)) g) ++ TableOf i (suc c) gs

-- ---- from the definitions
pub together_is : {A : Type 0} (l : List (List A)) → together l ≡ Joined l
unfolding together Joined
together_is l = refl

digits_is : (f n : ℕ) → digits f n ≡ Digits f n
unfolding digits Digits
digits_is f n = refl

pub decimal_is : (z : ℤ) → decimal z ≡ Decimal z
unfolding decimal Decimal
decimal_is (pos n) = digits_is 19 n
decimal_is (negsuc n) = ap (λ (l : List ℕ). 45 ∷ l) (digits_is 19 (suc n))

pub line_is : (l : List ℤ) → line_text l ≡ LineOf l
unfolding line_text LineOf
line_is [] = refl
line_is (z ∷ []) = ap (λ (t : List ℕ). t ++ (10 ∷ [])) (decimal_is z)
line_is (z ∷ x ∷ l) = ap₂ (λ (s t : List ℕ). s ++ (32 ∷ t)) (decimal_is z) (line_is (x ∷ l))

pub lines_are : line_text ≡ LineOf
lines_are = fun_ext line_is

pub grouped_is : {A : Type 0} (f : A → List (List ℤ)) (i : ℕ) (l : List A) → together (grouped_rows f i l) ≡ Grouped f i l
unfolding together grouped_rows Grouped
grouped_is f i [] = refl
grouped_is f i (a ∷ l) = ap (λ (t : List (List ℤ)). map (λ x. pos i ∷ x) (f a) ++ t) (grouped_is f (suc i) l)

group_is : (i c : ℕ) (g : List (List ℤ)) → group_text i c g ≡ Joined (map (λ x. LineOf (pos i ∷ pos c ∷ x)) g)
unfolding group_text Joined
group_is i c [] = refl
group_is i c (x ∷ g) = ap₂ (λ (s t : List ℕ). s ++ t) (line_is (pos i ∷ pos c ∷ x)) (group_is i c g)

pub table_is : (i c : ℕ) (gs : List (List (List ℤ))) → table_text i c gs ≡ TableOf i c gs
unfolding table_text TableOf
table_is i c [] = refl
table_is i c (g ∷ gs) = ap₂ (λ (s t : List ℕ). s ++ t) (group_is i c g) (table_is i (suc c) gs)
