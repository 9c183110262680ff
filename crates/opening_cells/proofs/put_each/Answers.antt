-- `opening_cells::put_each`: one more is put.
use Prim.Native.Nat.{ℕ, ◌*◌}
use mathlib.Core.List.{List}
use mathlib.Core.Path.{refl, ap}
use lib.IntN.{ℤ}
use Rattle.rules_number.specs.Order.{nat_of}
use Rattle.rules_number.specs.Over.{listed}
use Rattle.rules_library.specs.Slices.{cell_at}
use Rattle.rules_state.specs.States.{cell_of}
use Rattle.opening_cells.proofs.RunLaws.{listed_put}
use Rattle.opening_cells.proofs.put_each.Goals as goal

-- the cell that is put k-th
abbrev cell_by : List ℤ → ℕ → ℕ → ℤ
cell_by numbers width k = cell_of (nat_of (cell_at numbers (width * k)))

pub loop-k-init : goal.loop-k-init
unfolding listed
loop-k-init c = refl

pub loop-k-preserved : goal.loop-k-preserved
loop-k-preserved c =
    listed_put c.args.state.now c.args.at (cell_by c.args.numbers.now c.args.width) c.loop-k.state _ c.loop-k.k _ c.loop-k.invariant (ap cell_of c.whole_at.ensures) c.put_whole.ensures
