-- The lines of a resource's curve. Assumes nothing.
use Rattle.std.specs.Prelude.{None, Some}
use Prim.Native.Nat.{ℕ, ◌+◌, ◌≤◌, ◌<◌}
use mathlib.Core.Path.{◌≡◌, refl, sym, ap, ◌∙◌}
use mathlib.Core.Bool.{Bool, true, false, cond}
use mathlib.Core.List.{List, [], ◌∷◌, ◌++◌, map}
use native.Mathlib.Omega.{arith}
use lib.IntN.{ℤ, pos}
use lib.ListN.{length, drop, get_or, drop_of_length-le}
use lib.Seq.{sets}
use Rattle.rules_mitigation.specs.Mitigation.{used_steps}
use Rattle.rules_hour.specs.Hours.{curve_in}
use Rattle.rules_text.specs.Numbers.{Row}
use Rattle.rules_text.specs.Printing.{line_text, group_text}
use Rattle.rules_text.proofs.ListLaws.{at_cons}
use Rattle.rules_page.specs.Pages.{step_row, curve_rows}
use Rattle.rules_state.specs.Layout.{most_resources}
use Rattle.rules_state.specs.States.{rows_in, standing_in, hour_in}
use Rattle.curve_page.specs.Widths.{lines_in, lines_to}
use Rattle.mitigated_cells.proofs.RowLaws.{steps_none}

-- the next line of a group
module _ (i c : ℕ) (l : List Row) (s : ℕ) where
  pub line_next : (d : Row) → s < length l → group_text i c (drop s l) ≡ line_text (pos i ∷ pos c ∷ get_or l s d) ++ group_text i c (drop (s + 1) l)
  unfolding group_text
  line_next d h = ap (group_text i c) (at_cons d l s h)

  pub line_done : length l ≤ s → group_text i c (drop s l) ≡ []
  unfolding group_text
  line_done h = ap (group_text i c) (drop_of_length-le l h)

-- the rows of a curve, and none where there is no such resource
module _ (st : List ℤ) (r : ℕ) where
  pub rows_are : curve_rows (rows_in st) (standing_in st).floors r ≡ map step_row (used_steps (curve_in (hour_in st).hour r))
  unfolding curve_in
  rows_are = refl

  pub rows_none : most_resources ≤ r → curve_rows (rows_in st) (standing_in st).floors r ≡ []
  rows_none h = rows_are ∙ ap (map step_row) (steps_none st r h)

  pub lines_none : (i : ℕ) → most_resources ≤ r → group_text i r (curve_rows (rows_in st) (standing_in st).floors r) ≡ []
  unfolding group_text
  lines_none i h = ap (group_text i r) (rows_none h)

-- ---- where there is room for lines and widths, and where not
module _ (room : Bool) (l : List ℕ) (at : ℕ) (text : List ℕ) where
  pub none_in : room ≡ false → l ≡ lines_in room l at text
  unfolding lines_in
  none_in e = sym (ap (λ (b : Bool). cond b (sets l at text) l) e)

  pub none_to : room ≡ false → None ≡ lines_to room at text
  unfolding lines_to
  none_to e = sym (ap (λ (b : Bool). cond b (Some (at + length text)) None) e)

  pub some_in : (now : List ℕ) → room ≡ true → now ≡ sets l at text → now ≡ lines_in room l at text
  unfolding lines_in
  some_in now e f = f ∙ sym (ap (λ (b : Bool). cond b (sets l at text) l) e)

  pub some_to : (r : ℕ) → room ≡ true → r ≡ at + length text → Some r ≡ lines_to room at text
  unfolding lines_to
  some_to r e f = ap Some f ∙ sym (ap (λ (b : Bool). cond b (Some (at + length text)) None) e)
