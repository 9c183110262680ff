-- `curve_checks::edges_good`: the edges are good exactly if those from here on are, from the last one on. Assumes nothing.
use Rattle.std.proofs.Common.{◌≡◌, drop}
use Rattle.rules_curve.specs.Curves.{chain, edge_suits, edges_good}
use Rattle.curve_checks.proofs.edges_good.Given as goal

abbrev pub invariant-loop-step : goal.invariant-loop-step
invariant-loop-step l = chain edge_suits (λ s. s.end) l.edge (drop l.step-index l.steps) ≡ edges_good l.fn.raw
