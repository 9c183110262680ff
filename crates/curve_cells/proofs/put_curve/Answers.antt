-- `curve_cells::put_curve`: the number of steps and the start, and then the ends. Assumes nothing.
use Rattle.std.proofs.Common.{ℕ, List, map, ap, ◌∙◌}
use lib.ListN.{set}
use lib.Seq.{sets}
use Rattle.rules_curve.specs.declared.Step.{Step}
use Rattle.curve_cells.proofs.put_curve.Goals as goal

pub returns-clause-edges : goal.returns-clause-edges
returns-clause-edges c =
    let a = c.args in
    let first = c.put-2.ensures ∙ ap (λ (l : List ℕ). set l 1 a.start) c.put.ensures in
    c.put_steps.ensures.edges ∙ ap (λ (l : List ℕ). sets l 2 (map (λ (x : Step). x.end) a.steps.now)) first
