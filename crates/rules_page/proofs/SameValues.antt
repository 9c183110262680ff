-- What specs/Pages prints is what the engine holds: an engine's verdict is shown as it is, a quantity of 63 bits too, and each resource by its present curve. Assumes nothing.
use Prim.Native.Nat.{ℕ, ◌≤◌, min}
use mathlib.Core.Path.{◌≡◌, refl}
use mathlib.Core.Bool.{Bool, true, false}
use mathlib.Core.List.{map}
use native.Mathlib.Omega.{arith}
use Rattle.rules_number.specs.Over.{listed}
use Rattle.rules_mitigation.specs.Mitigation.{used_steps}
use Rattle.rules_path.specs.Paths.{Path, binds, is_non_competitive}
use Rattle.rules_path.specs.Verdicts.{verdict_of}
use Rattle.rules_hour.specs.Hours.{curve_in}
use Rattle.rules_hour.specs.Hours.{Hour}
use Rattle.rules_text.specs.Printing.{table_text}
use Rattle.rules_page.specs.Pages.{printable, shown, step_row, curve_table}

-- a quantity of 63 bits is printed as it is
pub same_quantity : (n : ℕ) → n ≤ 9223372036854775807 → printable n ≡ n
same_quantity n h = omega arith

-- a verdict of the engine is shown as it is
pub same_verdict : (d : Path) → shown (verdict_of d) ≡ verdict_of d
unfolding shown verdict_of
same_verdict d = go (binds d) (is_non_competitive d) refl refl
  where
    go : (b n : Bool) → binds d ≡ b → is_non_competitive d ≡ n → shown (verdict_of d) ≡ verdict_of d
    go true true e f = rw (e, f)
    go true false e f = rw (e, f)
    go false n e f = rw e

-- the curves of a page are the present curves of the hour's resources, in order
pub same_curves : (i : ℕ) (h : Hour) → curve_table i h.market.resources h.rows h.standing.floors
    ≡ table_text (printable i) 0 (map (λ r. map step_row (used_steps (curve_in h r))) (listed (λ r. r) (min h.market.resources 64)))
unfolding curve_table curve_in
same_curves i h = refl
