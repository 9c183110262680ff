-- Goals of `curve_page::print_lines` that the search leaves. Assumes nothing.
use Rattle.std.proofs.Common.{◌≡◌, ℕ, List, [], length, sym, ap, ◌∙◌, arith, true, false}
use Rattle.std.proofs.lemmas.List.Edits.{sets}
use Rattle.std.proofs.Math.IntN.{ℤ}
use Rattle.std.proofs.Common.{map}
use mathlib.Core.Bool.{Bool, ◌&&◌}
use Rattle.rules_mitigation.specs.Mitigation.{most_mitigated_steps}
use Rattle.rules_text.specs.Numbers.{Row}
use Rattle.rules_text.specs.Printing.{group_text}
use Rattle.rules_text.proofs.ListLaws.{and-false}
use Rattle.rules_page.specs.Pages.{curve_bytes, curve_rows, printable, is_room}
use Rattle.rules_state.specs.States.{rows_in, standing_in}
use Rattle.line_copies.specs.Lines.{width_of}
use Rattle.curve_page.specs.Widths.{has_both}
use Rattle.curve_page.proofs.LineLaws.{rows_none, lines_none, none_in, none_to, some_in, some_to}
use Rattle.curve_page.proofs.print_lines.Goals as goal

-- the rows, the lines and their widths, and whether there is room for both
abbrev rows : List ℤ → ℕ → List Row
rows st r = curve_rows (rows_in st) (standing_in st).floors r

abbrev text : List ℤ → ℕ → ℕ → List ℕ
text st i r = group_text (printable i) r (rows st r)

abbrev wide : List ℤ → ℕ → ℕ → List ℕ
wide st i r = map (width_of (printable i) r) (rows st r)

module _ (out : List ℕ) (at : ℕ) (widths : List ℕ) (base : ℕ) where
  first_not : is_room curve_bytes out at ≡ false → has_both out at widths base ≡ false
  first_not e = ap (λ (b : Bool). b && is_room most_mitigated_steps widths base) e

  second_not : is_room most_mitigated_steps widths base ≡ false → has_both out at widths base ≡ false
  second_not e = ap (λ (b : Bool). is_room curve_bytes out at && b) e ∙ and-false (is_room curve_bytes out at)

  both : is_room curve_bytes out at ≡ true → is_room most_mitigated_steps widths base ≡ true → has_both out at widths base ≡ true
  both e f = ap (λ (b : Bool). b && is_room most_mitigated_steps widths base) e ∙ f

pub returns-then-not-has_room-clause-buffer : goal.returns-then-not-has_room-clause-buffer
returns-then-not-has_room-clause-buffer c =
    let a = c.args in
    let st = a.state.now in
    let room = has_both a.out.now a.at a.widths.now a.base in
    let f : room ≡ false = first_not a.out.now a.at a.widths.now a.base (sym c.has_room.ensures ∙ c.if-not-has_room.true) in
    none_in room a.out.now a.at (text st a.i a.r) f

pub returns-then-not-has_room-clause-widths : goal.returns-then-not-has_room-clause-widths
returns-then-not-has_room-clause-widths c =
    let a = c.args in
    let st = a.state.now in
    let room = has_both a.out.now a.at a.widths.now a.base in
    let f : room ≡ false = first_not a.out.now a.at a.widths.now a.base (sym c.has_room.ensures ∙ c.if-not-has_room.true) in
    none_in room a.widths.now a.base (wide st a.i a.r) f

pub returns-then-not-has_room-clause-next : goal.returns-then-not-has_room-clause-next
returns-then-not-has_room-clause-next c =
    let a = c.args in
    let st = a.state.now in
    let room = has_both a.out.now a.at a.widths.now a.base in
    let f : room ≡ false = first_not a.out.now a.at a.widths.now a.base (sym c.has_room.ensures ∙ c.if-not-has_room.true) in
    none_to room a.out.now a.at (text st a.i a.r) f

pub returns-then-not-has_room-2-clause-buffer : goal.returns-then-not-has_room-2-clause-buffer
returns-then-not-has_room-2-clause-buffer c =
    let a = c.args in
    let st = a.state.now in
    let room = has_both a.out.now a.at a.widths.now a.base in
    let f : room ≡ false = second_not a.out.now a.at a.widths.now a.base (sym c.has_room-2.ensures ∙ c.if-not-has_room-2.true) in
    none_in room a.out.now a.at (text st a.i a.r) f

pub returns-then-not-has_room-2-clause-widths : goal.returns-then-not-has_room-2-clause-widths
returns-then-not-has_room-2-clause-widths c =
    let a = c.args in
    let st = a.state.now in
    let room = has_both a.out.now a.at a.widths.now a.base in
    let f : room ≡ false = second_not a.out.now a.at a.widths.now a.base (sym c.has_room-2.ensures ∙ c.if-not-has_room-2.true) in
    none_in room a.widths.now a.base (wide st a.i a.r) f

pub returns-then-not-has_room-2-clause-next : goal.returns-then-not-has_room-2-clause-next
returns-then-not-has_room-2-clause-next c =
    let a = c.args in
    let st = a.state.now in
    let room = has_both a.out.now a.at a.widths.now a.base in
    let f : room ≡ false = second_not a.out.now a.at a.widths.now a.base (sym c.has_room-2.ensures ∙ c.if-not-has_room-2.true) in
    none_to room a.out.now a.at (text st a.i a.r) f

pub returns-then-r-ge-MAX_RESOURCES-clause-buffer : goal.returns-then-r-ge-MAX_RESOURCES-clause-buffer
returns-then-r-ge-MAX_RESOURCES-clause-buffer c =
    let a = c.args in
    let st = a.state.now in
    let room = has_both a.out.now a.at a.widths.now a.base in
    let f : room ≡ true = both a.out.now a.at a.widths.now a.base (sym c.has_room.ensures ∙ c.if-not-has_room.false) (sym c.has_room-2.ensures ∙ c.if-not-has_room-2.false) in
    let n : text st a.i a.r ≡ [] = lines_none st a.r (printable a.i) c.if-r-ge-MAX_RESOURCES.true in
    some_in room a.out.now a.at (text st a.i a.r) a.out.now f (sym (ap (sets a.out.now a.at) n))

pub returns-then-r-ge-MAX_RESOURCES-clause-widths : goal.returns-then-r-ge-MAX_RESOURCES-clause-widths
returns-then-r-ge-MAX_RESOURCES-clause-widths c =
    let a = c.args in
    let st = a.state.now in
    let room = has_both a.out.now a.at a.widths.now a.base in
    let f : room ≡ true = both a.out.now a.at a.widths.now a.base (sym c.has_room.ensures ∙ c.if-not-has_room.false) (sym c.has_room-2.ensures ∙ c.if-not-has_room-2.false) in
    let w : wide st a.i a.r ≡ [] = ap (map (width_of (printable a.i) a.r)) (rows_none st a.r c.if-r-ge-MAX_RESOURCES.true) in
    some_in room a.widths.now a.base (wide st a.i a.r) a.widths.now f (sym (ap (sets a.widths.now a.base) w))

pub returns-then-r-ge-MAX_RESOURCES-clause-next : goal.returns-then-r-ge-MAX_RESOURCES-clause-next
returns-then-r-ge-MAX_RESOURCES-clause-next c =
    let a = c.args in
    let st = a.state.now in
    let room = has_both a.out.now a.at a.widths.now a.base in
    let f : room ≡ true = both a.out.now a.at a.widths.now a.base (sym c.has_room.ensures ∙ c.if-not-has_room.false) (sym c.has_room-2.ensures ∙ c.if-not-has_room-2.false) in
    let n : text st a.i a.r ≡ [] = lines_none st a.r (printable a.i) c.if-r-ge-MAX_RESOURCES.true in
    some_to room a.out.now a.at (text st a.i a.r) a.at f (omega (arith, ap length n))

pub returns-then-r-ge-MAX_RESOURCES-clause-whole : goal.returns-then-r-ge-MAX_RESOURCES-clause-whole
returns-then-r-ge-MAX_RESOURCES-clause-whole c =
    let a = c.args in
    let n : text a.state.now a.i a.r ≡ [] = lines_none a.state.now a.r (printable a.i) c.if-r-ge-MAX_RESOURCES.true in
    λ h. omega (arith, ap length n)

pub returns-clause-buffer : goal.returns-clause-buffer
returns-clause-buffer c =
    let a = c.args in
    let st = a.state.now in
    let room = has_both a.out.now a.at a.widths.now a.base in
    let f : room ≡ true = both a.out.now a.at a.widths.now a.base (sym c.has_room.ensures ∙ c.if-not-has_room.false) (sym c.has_room-2.ensures ∙ c.if-not-has_room-2.false) in
    some_in room a.out.now a.at (text st a.i a.r) c.put_lines.new.out f c.put_lines.ensures.put.buffer

pub returns-clause-widths : goal.returns-clause-widths
returns-clause-widths c =
    let a = c.args in
    let st = a.state.now in
    let room = has_both a.out.now a.at a.widths.now a.base in
    let f : room ≡ true = both a.out.now a.at a.widths.now a.base (sym c.has_room.ensures ∙ c.if-not-has_room.false) (sym c.has_room-2.ensures ∙ c.if-not-has_room-2.false) in
    some_in room a.widths.now a.base (wide st a.i a.r) c.put_lines.new.widths f c.put_lines.ensures.widths_after

pub returns-clause-next : goal.returns-clause-next
returns-clause-next c =
    let a = c.args in
    let st = a.state.now in
    let room = has_both a.out.now a.at a.widths.now a.base in
    let f : room ≡ true = both a.out.now a.at a.widths.now a.base (sym c.has_room.ensures ∙ c.if-not-has_room.false) (sym c.has_room-2.ensures ∙ c.if-not-has_room-2.false) in
    some_to room a.out.now a.at (text st a.i a.r) c.put_lines.result f c.put_lines.ensures.put.next
