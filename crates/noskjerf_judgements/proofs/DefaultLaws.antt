-- The answer and the slices of put_checked where a default curve comes from costs. Assumes nothing.
use Prim.Native.Nat.{ℕ}
use mathlib.Core.List.{List}
use mathlib.Core.Path.{◌∙◌}
use lib.IntN.{ℤ}
use Rattle.rules_curve.specs.Curves.{unless_refused}
use Rattle.rules_cost.specs.Costs.{cost_refusal, cost_curve}
use Rattle.rules_cost.specs.declared.Costs.{Costs}
use Rattle.rules_library.proofs.Meaning.{unless_written}
use Rattle.put_slices.proofs.PutLaws.{Answered}

-- the curve where nothing is refused
pub put_costs : (edges : List ℕ) (prices : List ℤ) (c : Costs) (r : ℤ) (e : List ℕ) (p : List ℤ)
    → Answered edges prices (cost_refusal c) (unless_refused (cost_refusal c) (cost_curve c)) r e p → Answered edges prices (cost_refusal c) (cost_curve c) r e p
put_costs edges prices c r e p h = let u = unless_written edges prices (cost_refusal c) (cost_curve c) in (h.0, (h.1.0 ∙ u.0, h.1.1 ∙ u.1))
