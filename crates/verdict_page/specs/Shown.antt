-- What the cells of a verdict say as it is printed: "2 not binding (then 0 0 and no sellers)".
use Rattle.std.specs.Prelude.{ℕ, zero, suc, ◌+◌, ◌*◌, Bool, true, false, List, ℤ, pos, negsuc}
use Rattle.rules_path.specs.declared.Finding.{Finding}
use Rattle.rules_path.specs.declared.Finding.TheVariants.{Competitive, NonCompetitive, NotBinding}
use Rattle.rules_state.specs.Layout.{verdict_width, most_portfolios}
use Rattle.rules_state.specs.States.{wholes_in}

-- whether a cell holds the finding of a constraint that binds
abbrev pub is_judged : ℤ → Bool
is_judged (pos zero) = true
is_judged (pos (suc zero)) = true
is_judged (pos (suc (suc n))) = false
is_judged (negsuc n) = false

-- a number of a verdict with this finding
abbrev pub shown_whole : Finding → ℕ → ℕ
shown_whole Competitive n = n
shown_whole NonCompetitive n = n
shown_whole NotBinding n = 0

-- what each portfolio withholds of constraint c
abbrev pub withheld_in : List ℤ → ℕ → List ℕ
withheld_in l c = wholes_in l (verdict_width * c + 4) most_portfolios
