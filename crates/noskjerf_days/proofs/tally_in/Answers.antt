-- `noskjerf_days::tally_in`: its days, its last day and its masks.
use mathlib.Core.Path.{ap₂}
use mathlib.Core.List.{List}
use Prim.Native.Nat.{ℕ}
use lib.ListN.{get_or}
use Rattle.rules_designation.specs.declared.Tally.{Tally}
use Rattle.rules_designation.specs.Calls.{tally_in}
use Rattle.noskjerf_days.proofs.tally_in.Goals as goal

pub returns : goal.returns
unfolding tally_in
returns c =
    let l = c.args.cells.now in
    ap₂ (λ (x y : List ℕ). tally_with (get_or l 0 0) (get_or l 1 0) x y) c.masks_in.ensures c.masks_in-2.ensures
  where
    tally_with : ℕ → ℕ → List ℕ → List ℕ → Tally
    tally_with d n b m = record { days = d; last = n; bound = b; noncompetitive = m }
