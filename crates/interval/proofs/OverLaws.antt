-- Where an output stands in the slice that is lent. Assumes nothing.
use mathlib.Core.List.{List}
use mathlib.Core.Path.{◌≡◌, sym, ap, ◌∙◌}
use Prim.Native.Nat.{ℕ, ◌+◌, ◌-◌, ◌*◌, ◌/◌, ◌≤◌, ◌<◌}
use native.Mathlib.Omega.{arith}
use lib.IntN.{ℤ, pos}
use lib.ListN.{length, length-drop, take, drop, get_or-eq_default}
use lib.Seq.{take_all, get_or-drop}
use Rattle.rules_number.proofs.OverLaws.{listed_at}
use Rattle.rules_interval.specs.Intervals.{cell, output_good}
use Rattle.rules_library.specs.Slices.{cell_at}
use Rattle.rules_state.specs.Layout.{most_resources}
use Rattle.rules_state.specs.Intervals.{outputs_in}
use Rattle.interval.specs.Over.{output_at}
use Rattle.interval.specs.declared.Output.{Output}

pub over_at : (outputs : List ℤ) (k r : ℕ) → r < 64 → cell (outputs_in outputs k) r ≡ cell_at outputs (4 * r + k)
over_at outputs k r h = listed_at (λ i. cell_at outputs (4 * i + k)) (pos 0) most_resources r h

-- the first of the four
pub over_first : (outputs : List ℤ) (r : ℕ) → r < 64 → cell (outputs_in outputs 0) r ≡ cell_at outputs (4 * r)
over_first outputs r h =
    let e : 4 * r + 0 ≡ 4 * r = omega arith in
    over_at outputs 0 r h ∙ ap (cell_at outputs) e

pub over_good : (outputs : List ℤ) (r : ℕ) → r < 64 → (o : Output) → o ≡ output_at outputs r
    → output_good o.available o.floor o.dispatch ≡ output_good (cell (outputs_in outputs 2) r) (cell (outputs_in outputs 3) r) (cell (outputs_in outputs 1) r)
over_good outputs r h o e = rw (e, over_at outputs 1 r h, over_at outputs 2 r h, over_at outputs 3 r h)

-- ---- the four of a resource
module _ (l : List ℤ) (r : ℕ) where
  pub four_are : (a b c d : ℤ) → a ≡ cell_at l (4 * r) → b ≡ cell_at l (4 * r + 1) → c ≡ cell_at l (4 * r + 2) → d ≡ cell_at l (4 * r + 3)
      → record { lmp = a; dispatch = b; available = c; floor = d } ≡ output_at l r
  four_are a b c d ea eb ec ed = rw (ea, eb, ec, ed)

  past : (i : ℕ) → length l ≤ i → pos 0 ≡ cell_at l i
  past i h = sym (get_or-eq_default l (pos 0) h)

  -- past the end
  pub four_past : length l / 4 < r → record { lmp = pos 0; dispatch = pos 0; available = pos 0; floor = pos 0 } ≡ output_at l r
  four_past h =
      four_are (pos 0) (pos 0) (pos 0) (pos 0) (past (4 * r) (omega arith)) (past (4 * r + 1) (omega arith)) (past (4 * r + 2) (omega arith)) (past (4 * r + 3) (omega arith))

  -- of the part of the slice that begins with them
  pub of_part : (k : ℕ) → cell_at (take (length l - 4 * r) (drop (4 * r) l)) k ≡ cell_at l (4 * r + k)
  of_part k =
      let whole : take (length l - 4 * r) (drop (4 * r) l) ≡ drop (4 * r) l = take_all (length l - 4 * r) (drop (4 * r) l) (simp length-drop (omega arith)) in
      rw whole (get_or-drop (4 * r) l k (pos 0))

  pub first_of_part : cell_at (take (length l - 4 * r) (drop (4 * r) l)) 0 ≡ cell_at l (4 * r)
  first_of_part =
      let e : 4 * r + 0 ≡ 4 * r = omega arith in
      of_part 0 ∙ ap (cell_at l) e
