use mathlib.Core.Path.{◌≡◌}
use mathlib.Core.List.{List}
use Prim.Native.Nat.{ℕ, ◌<◌}
use lib.ListN.{length}
use Rattle.rules_path.specs.Paths.{at}
use Rattle.rules_path.specs.declared.Market.{Market}
use Rattle.rules_state.specs.States.{market_in}
use Rattle.path.specs.Tallies.{seller_of}
use Rattle.path.proofs.sellers_in.Given as goal

-- the sellers so far
pub record So-far (m : Market) (out : List ℕ) (n ports r : ℕ) : Type 0 where
  pub whole : length out ≡ 64
  pub at_each : (i : ℕ) → i < r → at out i ≡ seller_of m i
  pub below : (i : ℕ) → i < r → seller_of m i < 16 → seller_of m i < ports

abbrev pub invariant-loop-r : goal.invariant-loop-r
invariant-loop-r l = So-far (market_in l.state) l.sellers l.n l.ports l.r
