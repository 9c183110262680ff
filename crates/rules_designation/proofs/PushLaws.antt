-- Sixty masks with one more in front. Assumes nothing.
use mathlib.Core.List.{List, ◌∷◌}
use mathlib.Core.Path.{◌≡◌, refl}
use Prim.Native.Nat.{ℕ, zero, suc, ◌+◌, ◌-◌, ◌≤◌, ◌<◌}
use native.Mathlib.Omega.{arith}
use native.Mathlib.Numerals.{add-one}
use lib.ListN.{get_or, set, replicate, length, length-take}
use lib.Seq.{get_or-take}
use Rattle.rules_number.specs.Over.{listed, padded}
use Rattle.rules_number.proofs.OverLaws.{padded_next}
use Rattle.rules_number.proofs.ListedLaws.{listed_is}
use Rattle.rules_designation.specs.Tallies.{held_days, pushed}

-- cell i of sixty masks with x in front
abbrev pub entry_pushed : List ℕ → ℕ → ℕ → ℕ
entry_pushed l x zero = x
entry_pushed l x (suc i) = get_or l i 0

pushed_at : (l : List ℕ) (x q : ℕ) → q < held_days → get_or (pushed l x) q 0 ≡ entry_pushed l x q
unfolding pushed
pushed_at l x zero h = refl
pushed_at l x (suc q) h = get_or-take held_days (x ∷ l) (suc q) 0 h

pub pushed_length : (l : List ℕ) (x : ℕ) → length l ≡ 60 → length (pushed l x) ≡ 60
unfolding pushed
pushed_length l x e = omega (arith, length-take held_days (x ∷ l))

pub pushed_listed : (l : List ℕ) (x : ℕ) → length l ≡ 60 → pushed l x ≡ listed (entry_pushed l x) 60
pushed_listed l x e = listed_is 0 (pushed l x) (entry_pushed l x) 60 (pushed_length l x e) (pushed_at l x)

-- how a loop fills them: the first cell, and a further one
pub pushed_first : (l : List ℕ) (x : ℕ) → set (replicate 60 0) 0 x ≡ padded 60 0 (listed (entry_pushed l x) 1)
unfolding listed padded
pushed_first l x = padded_next 60 0 (entry_pushed l x) 0 (omega arith)

pub pushed_next : (l : List ℕ) (x i : ℕ) → 1 ≤ i → i < 60 → set (padded 60 0 (listed (entry_pushed l x) i)) i (get_or l (i - 1) 0) ≡ padded 60 0 (listed (entry_pushed l x) (i + 1))
pushed_next l x zero h k = absurd (omega arith)
pushed_next l x (suc i) h k =
    let e : suc i - 1 ≡ i = omega arith in
    rw (e, add-one (suc i)) (padded_next 60 0 (entry_pushed l x) (suc i) k)
