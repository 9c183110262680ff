-- Laws of a number of each floor put in turn. Assumes nothing.
use Prim.Native.Nat.{ℕ, ◌+◌, ◌^◌, ◌≤◌, ◌<◌}
use mathlib.Core.Path.{◌≡◌, refl, ap, ◌∙◌}
use mathlib.Core.List.{List, map}
use native.Mathlib.Omega.{arith}
use lib.IntN.{ℤ}
use lib.Signed.{mag}
use lib.ListN.{length, get_or, set, length-set}
use lib.Seq.{sets}
use Rattle.rules_number.proofs.Kit.{rd, came}
use Rattle.rules_hour.specs.Hours.{uncut}
use Rattle.rules_hour.specs.declared.Floor.{Floor}
use Rattle.rules_state.specs.Layout.{most_resources}
use Rattle.cells.proofs.PutLaws.{Left, begins, goes_on, ends}

-- those of the first r floors are put
pub record Puts (f : Floor → ℤ) (floors : List Floor) (before : List ℤ) (at : ℕ) (state : List ℤ) (r : ℕ) : Type 0 where
  pub many : length floors ≡ most_resources
  pub few : r ≤ most_resources
  pub room : length state ≡ length before
  pub left : Left f floors before at state r

pub starts : (f : Floor → ℤ) (floors : List Floor) (before : List ℤ) (at : ℕ) → length floors ≡ most_resources → Puts f floors before at before 0
starts f floors before at n = record { many = n; few = omega arith; room = refl; left = begins f floors before at }

module _ {f : Floor → ℤ} {floors : List Floor} {before : List ℤ} {at : ℕ} {state : List ℤ} {r : ℕ} (h : Puts f floors before at state r) where
  pub again : {next : List ℤ} {x : ℤ} → r < most_resources → next ≡ set state (at + r) (rd x) → mag x < 2 ^ 63 → x ≡ f (get_or floors r uncut) → Puts f floors before at next (r + 1)
  again {next} {x} m e k g = record {
    many = h.many;
    few = omega arith;
    room = ap length e ∙ length-set state (at + r) (rd x) ∙ h.room;
    left = goes_on f floors before at uncut state r next (rd x) h.left (omega (arith, h.many)) e (came x k ∙ g);
  }

  pub ended : most_resources ≤ r → state ≡ sets before at (map f floors)
  ended m = ends f floors before at state r h.left (omega (arith, h.many))
