-- The test of a designation, as the code finds it. Assumes nothing.
use mathlib.Core.Bool.{false}
use mathlib.Core.Path.{◌≡◌}
use Prim.Native.Nat.{ℕ, ◌-◌, ◌*◌, ◌≤◌, ◌<◌}
use native.Mathlib.Omega.{arith}
use borrow.Author.Tests.{le-leb, lt-leb}
use lib.Dec.{leb}
use Rattle.rules_designation.specs.Designations.{is_competitive}

pub too_few : (b n : ℕ) → b < 10 → false ≡ is_competitive b n
unfolding is_competitive
too_few b n h = rw (lt-leb 10 b h)

pub too_many : (b n : ℕ) → 10 ≤ b → b < n → false ≡ is_competitive b n
unfolding is_competitive
too_many b n h k = rw (le-leb 10 b h, lt-leb (3 * b) (4 * (b - n)) (omega arith))

pub compared : (b n : ℕ) → 10 ≤ b → leb (3 * b) (4 * (b - n)) ≡ is_competitive b n
unfolding is_competitive
compared b n h = rw (le-leb 10 b h)
