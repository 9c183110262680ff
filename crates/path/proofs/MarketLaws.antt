-- The verdicts for the market that cells stand for, by the net sellers of its resources. Assumes nothing.
use mathlib.Core.List.{List}
use mathlib.Core.Path.{◌≡◌, ap, ◌∙◌}
use Prim.Native.Nat.{ℕ}
use lib.IntN.{ℤ}
use Rattle.rules_number.specs.Over.{listed}
use Rattle.rules_number.proofs.OverLaws.{listed_same}
use Rattle.rules_path.specs.Verdicts.{path_of, verdict_of}
use Rattle.rules_path.specs.Judgements.{path_in}
use Rattle.rules_path.specs.declared.Market.{Market}
use Rattle.rules_path.specs.declared.Verdict.{Verdict}
use Rattle.rules_library.specs.Slices.{cell_at}
use Rattle.rules_state.specs.Intervals.{outputs_in}
use Rattle.rules_state.specs.Verdicts.{verdicts_cells, judged_cells}
use Rattle.interval.specs.Over.{interval_over}
use Rattle.path.specs.Tallies.{SellersIn, sold_of}
use Rattle.path.proofs.SellerLaws.{verdict_sold}

-- the verdict on constraint c as the code has it
abbrev pub found : List ℤ → List ℕ → List ℤ → List ℤ → ℕ → ℕ → Verdict
found shadow by factors outputs n c = verdict_of (sold_of (cell_at shadow c) by factors outputs n c)

module _ (m : Market) (constraints : ℕ) (shadow : List ℤ) (resources : ℕ) (outputs factors : List ℤ) (parameter : ℤ) (n : ℕ) (by : List ℕ) (n-is : n ≡ m.resources)
    (by-is : SellersIn m n by) where
  found_is : (c : ℕ) → found shadow by factors outputs n c ≡ verdict_of (path_in m (interval_over constraints shadow resources outputs factors parameter) c)
  found_is c =
      verdict_sold (cell_at shadow c) factors (outputs_in outputs 1) (outputs_in outputs 2) (outputs_in outputs 3) m by n c by-is
      ∙ ap (λ (k : ℕ). verdict_of (path_of (cell_at shadow c) factors (outputs_in outputs 1) (outputs_in outputs 2) (outputs_in outputs 3) m.portfolio m.seller k c)) n-is

  pub found_cells_lem : verdicts_cells (listed (found shadow by factors outputs n) constraints) ≡ judged_cells m (interval_over constraints shadow resources outputs factors parameter)
  unfolding judged_cells
  found_cells_lem =
      ap verdicts_cells (listed_same (found shadow by factors outputs n) (λ c. verdict_of (path_in m (interval_over constraints shadow resources outputs factors parameter) c)) constraints (λ c h. found_is c))
