-- The definitions at closed texts, computed. Assumes nothing.
use Rattle.std.specs.Prelude.{None, Some}
use mathlib.Core.Path.{◌≡◌, refl}
use mathlib.Core.List.{[], ◌∷◌}
use lib.IntN.{pos, negsuc}
use Rattle.rules_text.specs.Numbers.{bytes, lines, number, magnitude, row}
use Rattle.rules_text.specs.Tables.{faulty, found, headed, due, single, counting, run}
use Rattle.rules_text.specs.Offsets.{number_at, names_at}

-- ---- numbers
zero_alone : number (bytes "0 ") ≡ Some (pos 0, 1)
unfolding number magnitude
zero_alone = refl

minus_five : number (bytes "-5\n") ≡ Some (negsuc 4, 2)
unfolding number magnitude
minus_five = refl

minus_zero : number (bytes "-0\n") ≡ None
unfolding number magnitude
minus_zero = refl

zero_in_front : number (bytes "05\n") ≡ None
unfolding number magnitude
zero_in_front = refl

minus_zero_in_front : number (bytes "-05\n") ≡ None
unfolding number magnitude
minus_zero_in_front = refl

twelve_digits : number (bytes "-999999999999\n") ≡ Some (negsuc 999999999998, 13)
unfolding number magnitude
twelve_digits = refl

thirteen_digits : number (bytes "1000000000000\n") ≡ None
unfolding number magnitude
thirteen_digits = refl

minus_alone : number (bytes "-\n") ≡ None
unfolding number magnitude
minus_alone = refl

plus_sign : number (bytes "+5\n") ≡ None
unfolding number magnitude
plus_sign = refl

at_offset : number_at (bytes "0 15000\n") 2 ≡ Some (pos 15000, 7)
unfolding number_at number magnitude
at_offset = refl

-- ---- lines of values
three_values : row 3 (bytes "0 15000 -3\n") ≡ Some (pos 0 ∷ pos 15000 ∷ negsuc 2 ∷ [])
unfolding row number magnitude
three_values = refl

double_space : row 2 (bytes "1  2\n") ≡ None
unfolding row number magnitude
double_space = refl

leading_space : row 2 (bytes " 1 2\n") ≡ None
unfolding row number magnitude
leading_space = refl

trailing_space : row 2 (bytes "1 2 \n") ≡ None
unfolding row number magnitude
trailing_space = refl

too_few : row 3 (bytes "1 2\n") ≡ None
unfolding row number magnitude
too_few = refl

carriage_return : row 1 (bytes "1\r\n") ≡ None
unfolding row number magnitude
carriage_return = refl

unclosed : row 1 (bytes "1") ≡ None
unfolding row number magnitude
unclosed = refl

-- ---- tables
-- two portfolios, then a line that is none of theirs
two_portfolios : counting 2 (lines (bytes "0 1\n1 0\n3 1\n")) ≡ (pos 0 ∷ pos 1 ∷ []) ∷ (pos 1 ∷ pos 0 ∷ []) ∷ []
unfolding run row number magnitude
two_portfolios = refl

-- the month's table of Case T, in lines 1 and 2, and what follows it
month : headed "month\n" (due single) 0 (lines (bytes "month\n25\nportfolio seller\n")) ≡ found (pos 25) 2 (bytes "portfolio seller\n" ∷ [])
unfolding headed due single row number magnitude
month = refl

-- an empty text: line 1; a names line that is not closed: its own; a text that ends early: the line after the last
empty_text : headed "month\n" (due single) 0 (lines (bytes "")) ≡ faulty 1
unfolding headed
empty_text = refl

unclosed_names : headed "month\n" (due single) 0 (lines (bytes "month")) ≡ faulty 1
unfolding headed
unclosed_names = refl

ends_early : headed "month\n" (due single) 0 (lines (bytes "month\n")) ≡ faulty 2
unfolding headed due
ends_early = refl

names_found : names_at (bytes "25\nportfolio seller\n") 3 (bytes "portfolio seller\n") ≡ Some 20
unfolding names_at
names_found = refl

other_names : names_at (bytes "portfolio sellers\n") 0 (bytes "portfolio seller\n") ≡ None
unfolding names_at
other_names = refl
