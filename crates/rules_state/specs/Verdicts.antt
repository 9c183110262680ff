-- Verdicts in numbers: twenty of each constraint.
use mathlib.Core.List.{List, ◌∷◌, map, flat_map}
use Rattle.std.specs.Prelude.{ℕ, zero, suc, ◌+◌, ◌*◌, ◌%◌, ℤ, pos, negsuc}
use Rattle.rules_number.specs.Order.{nat_of}
use Rattle.rules_number.specs.Over.{listed}
use Rattle.rules_interval.specs.declared.Interval.{Interval}
use Rattle.rules_path.specs.Judgements.{path_in}
use Rattle.rules_path.specs.Verdicts.{finding_number, verdict_of}
use Rattle.rules_path.specs.declared.Finding.{Finding}
use Rattle.rules_path.specs.declared.Finding.TheVariants.{Competitive, NonCompetitive, NotBinding}
use Rattle.rules_path.specs.declared.Market.{Market}
use Rattle.rules_path.specs.declared.Verdict.{Verdict}
use Rattle.rules_library.specs.Slices.{cell_at}
use Rattle.rules_state.specs.Layout.{most_portfolios, most_constraints, verdict_width}
use Rattle.rules_state.specs.States.{cell_of, wholes_in}

-- the finding by its number, demand, left, the sellers named as bits, and what each of 16 portfolios withholds
unfoldable pub verdict_cells : Verdict → List ℤ
verdict_cells v = pos (finding_number v.finding) ∷ cell_of v.demand ∷ cell_of v.left ∷ cell_of v.named ∷ map cell_of v.withheld

unfoldable pub verdicts_cells : List Verdict → List ℤ
verdicts_cells l = flat_map verdict_cells l

-- the verdicts on the constraints of an interval, as far as it has constraints
unfoldable pub judged_cells : Market → Interval → List ℤ
judged_cells m v = verdicts_cells (listed (λ c. verdict_of (path_in m v c)) v.constraints)

-- ---- from cells: the verdict that they stand for, whatever they hold
-- by its number; any other than 0 and 1 is not binding
abbrev pub finding_by : ℤ → Finding
finding_by (pos zero) = Competitive
finding_by (pos (suc zero)) = NonCompetitive
finding_by (pos (suc (suc n))) = NotBinding
finding_by (negsuc n) = NotBinding

-- the sellers named are 32 bits
unfoldable pub verdict_in : List ℤ → ℕ → Verdict
verdict_in l c = record {
  finding = finding_by (cell_at l (verdict_width * c));
  demand = nat_of (cell_at l (verdict_width * c + 1));
  left = nat_of (cell_at l (verdict_width * c + 2));
  named = nat_of (cell_at l (verdict_width * c + 3)) % 4294967296;
  withheld = wholes_in l (verdict_width * c + 4) most_portfolios;
}

unfoldable pub verdicts_in : List ℤ → List Verdict
verdicts_in l = listed (verdict_in l) most_constraints
