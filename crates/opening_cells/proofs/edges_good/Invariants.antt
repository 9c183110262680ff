-- `opening_cells::edges_good`: the edges from step i on decide.
use Rattle.std.proofs.Common.{◌≡◌, ◌&&◌, pos, drop}
use Rattle.std.specs.Int.Signed.{le_z}
use Rattle.rules_number.specs.Over.{listed}
use Rattle.rules_curve.specs.Curves.{chain, edge_suits, edges_good}
use Rattle.rules_library.specs.Slices.{raw_step_at, raw_bid}
use Rattle.opening_cells.proofs.edges_good.Given as goal

abbrev pub invariant-loop-i : goal.invariant-loop-i
invariant-loop-i l =
    (le_z l.p (pos 1000000) && chain edge_suits (λ s. s.end) l.p (drop l.i (listed (raw_step_at l.raw.steps.now) l.raw.count))) ≡ edges_good (raw_bid l.raw.start l.raw.count l.raw.steps.now)
