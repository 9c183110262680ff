-- The sellers left to print, as bits of a number.
use Rattle.std.specs.Prelude.{ℕ, Bool, List, eqb, get_or}
use Rattle.rules_path.specs.Verdicts.{bit}
use Rattle.rules_page.specs.Pages.{printable}

-- what portfolio p withholds, as it is printed
abbrev pub weight_in : List ℕ → ℕ → ℕ
weight_in withheld p = printable (get_or withheld p 0)

-- whether the bit of portfolio p is a one
abbrev pub is_left : ℕ → ℕ → Bool
is_left left p = eqb (bit p left) 1
