-- `opening_cells::prices_good`: the prices from step i on decide.
use Rattle.std.proofs.Common.{◌≡◌, ◌&&◌, drop}
use Rattle.std.specs.Int.Signed.{le_z}
use Rattle.rules_number.specs.Over.{listed}
use Rattle.rules_curve.specs.Curves.{chain, price_suits, prices_good}
use Rattle.rules_library.specs.Slices.{raw_step_at, raw_bid}
use Rattle.opening_cells.proofs.prices_good.Given as goal

abbrev pub invariant-loop-i : goal.invariant-loop-i
invariant-loop-i l =
    (le_z l.p l.top && chain (price_suits l.top) (λ s. s.price) l.p (drop l.i (listed (raw_step_at l.raw.steps.now) l.raw.count))) ≡ prices_good l.low l.top (raw_bid l.raw.start l.raw.count l.raw.steps.now)
