use mathlib.Core.List.{List, map}
use mathlib.Core.Path.{◌≡◌}
use Prim.Native.Nat.{ℕ, ◌≤◌, ◌+◌, ◌-◌}
use lib.IntN.{ℤ}
use lib.ListN.{length, replicate}
use lib.Seq.{sets}
use Rattle.rules_path.specs.Paths.{top, total, mask}
use Rattle.rules_path.proofs.TopLaws.{stored}
use Rattle.rules_state.specs.States.{cell_of}
use Rattle.path.specs.Tallies.{Within}
use Rattle.path.proofs.constraint.put_sellers.Given as goal

-- what is held so far
pub record Held-so-far (w₀ w : List ℕ) (ports t m : ℕ) (before out : List ℤ) (from k : ℕ) : Type 0 where
  pub v : List ℕ
  pub few : k ≤ 3
  pub sum : t + total (top k w 16) ≡ total (top 3 w₀ 16)
  pub bits : m + mask (top k w 16) ≡ mask (top 3 w₀ 16)
  pub cells : stored (top k w 16) v ≡ stored (top 3 w₀ 16) (replicate 16 0)
  pub none : Within w ports
  pub sixteen : length v ≡ 16
  pub put : out ≡ sets before from (map cell_of v)

abbrev pub invariant-loop-turn : goal.invariant-loop-turn
invariant-loop-turn l = Held-so-far l.initial.w l.w l.ports l.total l.named l.initial.verdicts l.verdicts l.at (3 - l.turn)
