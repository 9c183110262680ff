-- Laws of a row: a bid that is taken, and what is made of its default curve. Assumes nothing.
use mathlib.Core.Bool.{◌&&◌}
use mathlib.Core.List.{List, ◌++◌}
use mathlib.Core.Path.{◌≡◌, refl, sym, ap, ap₂, ◌∙◌}
use Prim.Native.Nat.{ℕ, ◌+◌, ◌<◌}
use lib.Dec.{leb}
use lib.IntN.{ℤ}
use lib.ListN.{length, length-append}
use lib.Seq.{sets}
use Rattle.rules_curve.specs.Refusals.{unless}
use Rattle.rules_curve.specs.Curves.{steps_of, end_of, curve_of, bid_refusal, unless_refused}
use Rattle.rules_curve.specs.declared.Curve.{Curve}
use Rattle.rules_curve.specs.declared.RawCurve.{RawCurve}
use Rattle.rules_opening.specs.Resources.{default_by, lies_inside, resource_refusal, row_of, source_refusal}
use Rattle.rules_opening.specs.declared.Resource.{Resource}
use Rattle.rules_opening.proofs.ResourceLaws.{then_first}
use Rattle.rules_state.specs.Layout.{curve_room, room_of_row}
use Rattle.rules_state.specs.States.{curve_cells, row_cells}
use Rattle.rules_state.specs.Takes.{if_accepted}
use Rattle.rules_state.proofs.BackAgain.{curve_room_lem}
use Rattle.rules_state.proofs.OpenedFits.{default_fits}
use Rattle.cost.specs.Cells.{ends_of}
use Rattle.cost.specs.declared.Ends.{Ends}
use Rattle.opening_cells.proofs.CurveLaws.{cells_after_lem}

-- 11 where a bid goes past the start or the end of a default curve
abbrev pub number_from : Ends → Curve → ℕ
number_from ends bid = unless (leb ends.start bid.start && leb (end_of bid.start (steps_of bid)) ends.end) 11

module _ (x : Resource) (month : ℕ) (good : bid_refusal month x.bid ≡ 0) where
  abbrev refusal : ℕ
  refusal = source_refusal x.source x

  abbrev default : Curve
  default = default_by x.source x

  -- one whose default curve is refused
  pub refused_source : 0 < refusal → refusal ≡ resource_refusal month x
  unfolding resource_refusal
  refused_source h = rw good (sym (then_first refusal _ h))

  -- ---- one whose default curve is put in cells
  module _ (ends : Ends) (curve before : List ℤ) (none : 0 ≡ refusal) (ends_are : ends ≡ ends_of (unless_refused refusal default)) (curve_is : curve ≡ if_accepted refusal (curve_cells default) before)
      (raw : RawCurve) (raw_is : raw ≡ x.bid) (bid-full : length (curve_cells (curve_of raw)) ≡ curve_room) where
    -- the cells are those of a curve
    pub cells_full : length curve ≡ curve_room
    cells_full = ap length (rw (sym none) at curve_is) ∙ curve_room_lem default (default_fits x.source x (sym none))

    pub number_is : number_from ends (curve_of raw) ≡ resource_refusal month x
    unfolding resource_refusal lies_inside
    number_is = rw (good, sym none, raw_is, rw (sym none) at ends_are) refl

    cells_are : curve_cells (curve_of raw) ++ curve ≡ row_cells (row_of x)
    unfolding row_cells row_of
    cells_are = ap₂ (λ (r : RawCurve) (l : List ℤ). curve_cells (curve_of r) ++ l) raw_is (rw (sym none) at curve_is)

    pub row_room : length (row_cells (row_of x)) ≡ room_of_row
    row_room = ap length (sym cells_are) ∙ length-append (curve_cells (curve_of raw)) curve ∙ ap₂ ◌+◌ bid-full cells_full

    -- its bid and then its default curve
    pub row_put : (s first out : List ℤ) (at : ℕ) → first ≡ sets s at (curve_cells (curve_of raw)) → out ≡ sets first (at + curve_room) curve → out ≡ sets s at (row_cells (row_of x))
    row_put s first out at e f = cells_after_lem s first out at (curve_cells (curve_of raw)) curve bid-full e f ∙ ap (λ (l : List ℤ). sets s at l) cells_are
