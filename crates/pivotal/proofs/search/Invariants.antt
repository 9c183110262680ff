use mathlib.Core.Path.{◌≡◌}
use Rattle.rules_pivotal.specs.Searches.{searched_to}
use Rattle.rules_pivotal.proofs.TriedLaws.{found_of}
use Rattle.pivotal.specs.Rows.{works_on}
use Rattle.pivotal.proofs.search.Given as goal

-- what is found among the sets up to the last
abbrev pub invariant-loop-last : goal.invariant-loop-last
invariant-loop-last l = found_of l.best l.tried ≡ searched_to (works_on l.rows l.n) l.sellers l.budget l.last
