-- The definitions at closed texts, computed. Assumes nothing.
use Rattle.std.specs.Prelude.{Some}
use mathlib.Core.Path.{◌≡◌, refl}
use mathlib.Core.List.{[], ◌∷◌}
use lib.IntN.{pos, negsuc}
use Rattle.rules_text.specs.Numbers.{bytes}
use Rattle.rules_text.specs.Printing.{digits, decimal, line_text, refusal_text, printed, printed_to}

negative : decimal (negsuc 21633) ≡ bytes "-21634"
unfolding decimal digits
negative = refl

lowest : decimal (negsuc 9223372036854775807) ≡ bytes "-9223372036854775808"
unfolding decimal digits
lowest = refl

-- a line of Case T's third table
curve_line : line_text (pos 1 ∷ pos 0 ∷ pos 20000 ∷ pos 378402 ∷ []) ≡ bytes "1 0 20000 378402\n"
unfolding line_text decimal digits
curve_line = refl

refusal : refusal_text 17 23 ≡ bytes "refusal line\n17 23\n"
unfolding refusal_text line_text decimal digits
refusal = refl

fits : printed_to (bytes "....") 1 (bytes "-5\n") ≡ Some 4
unfolding printed_to
fits = refl

does_not_fit : printed (bytes "....") 2 (bytes "-5\n") ≡ bytes "...."
unfolding printed
does_not_fit = refl
