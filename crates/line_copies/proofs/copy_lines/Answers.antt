-- Goals of `line_copies::copy_lines` that the search leaves. Assumes nothing.
use Rattle.std.specs.Prelude.{None, Some}
use Rattle.std.proofs.Common.{◌≡◌, ℕ, ◌+◌, ◌≤◌, List, length, take, drop, sym, ap, ◌∙◌, arith, true, false, cond}
use Rattle.std.proofs.lemmas.List.Edits.{sets}
use Rattle.std.proofs.Math.Dec.{leb}
use mathlib.Core.Bool.{Bool, ◌&&◌}
use borrow.Author.Tests.{leb-true}
use Rattle.std.proofs.Math.ListN.{length-drop}
use Rattle.std.proofs.lemmas.List.{length-take-le}
use Rattle.rules_text.proofs.ListLaws.{and-false}
use Rattle.line_copies.specs.Lines.{headed, lines_again, is_later, with_lines, lines_to}
use Rattle.line_copies.proofs.HeadLaws.{sets_over, sets_back, headed_length}
use Rattle.line_copies.proofs.copy_lines.Goals as goal
use Rattle.line_copies.proofs.copy_lines.Goals.{then-not-has_room-via-then-not-has_room, then-not-has_room-via-else-not-has_room+then-not-has_room-2}

-- ---- where nothing is put, and where the lines are
module _ (page : List ℕ) (from at n : ℕ) (widths : List ℕ) (base d : ℕ) where
  none : is_later page from at n ≡ false → (page ≡ with_lines page from at n widths base d) × (None ≡ lines_to page from at n)
  unfolding with_lines lines_to
  none e = (sym (ap (λ (b : Bool). cond b (sets page at (lines_again page from n widths base d)) page) e), sym (ap (λ (b : Bool). cond b (Some (at + n)) None) e))

  some : (copied last : List ℕ) → is_later page from at n ≡ true → from + n ≤ at → at + n ≤ length page
      → copied ≡ sets page at (take n (drop from page)) → last ≡ sets copied at (headed d 0 (drop base widths) (take n (drop at copied)))
      → (last ≡ with_lines page from at n widths base d) × (Some (at + n) ≡ lines_to page from at n)
  unfolding with_lines lines_to
  some copied last e source room c h =
      let t = take n (drop from page) in
      let long : length t ≡ n = length-take-le n (drop from page) (omega (arith, source, room, length-drop from page)) in
      let back : take n (drop at copied) ≡ t = ap (λ (l : List ℕ). take n (drop at l)) c ∙ sets_back page at t n long room in
      let put : last ≡ sets page at (headed d 0 (drop base widths) t)
      = h ∙ ap (λ (l : List ℕ). sets copied at (headed d 0 (drop base widths) l)) back ∙ ap (λ (l : List ℕ). sets l at (headed d 0 (drop base widths) t)) c
      ∙ sets_over page at t (headed d 0 (drop base widths) t) (omega (arith, headed_length d 0 (drop base widths) t)) in
      (put ∙ sym (ap (λ (b : Bool). cond b (sets page at (lines_again page from n widths base d)) page) e), sym (ap (λ (b : Bool). cond b (Some (at + n)) None) e))

  first_not : leb (from + n) at ≡ false → is_later page from at n ≡ false
  first_not e = ap (λ (b : Bool). b && leb (at + n) (length page)) e

  second_not : leb (at + n) (length page) ≡ false → is_later page from at n ≡ false
  second_not e = ap (λ (b : Bool). leb (from + n) at && b) e ∙ and-false (leb (from + n) at)

  both : leb (from + n) at ≡ true → leb (at + n) (length page) ≡ true → is_later page from at n ≡ true
  both e f = ap (λ (b : Bool). b && leb (at + n) (length page)) e ∙ f

pub returns-then-not-has_room : goal.returns-then-not-has_room
returns-then-not-has_room c =
    let a = c.args in
    let e : is_later a.page.now a.from a.at a.n ≡ false = elim c.then-not-has_room.branch [
      | then-not-has_room-via-then-not-has_room w ↦ first_not a.page.now a.from a.at a.n a.widths.now a.base a.first (sym c.has_room.ensures ∙ w.if-not-has_room.true)
      | then-not-has_room-via-else-not-has_room+then-not-has_room-2 w ↦
          second_not a.page.now a.from a.at a.n a.widths.now a.base a.first (sym w.has_room-else-not-has_room.ensures ∙ w.if-not-has_room-2.true)
    ] in
    let p = none a.page.now a.from a.at a.n a.widths.now a.base a.first e in
    record { page = p.0; next = p.1 }

pub returns : goal.returns
returns c =
    let a = c.args in
    let e = sym c.has_room.ensures ∙ c.if-not-has_room.false in
    let f = sym c.has_room-else-not-has_room.ensures ∙ c.if-not-has_room-2.false in
    let source = leb-true (a.from + a.n) a.at e in
    let room = leb-true (a.at + a.n) (length a.page.now) f in
    let p = some a.page.now a.from a.at a.n a.widths.now a.base a.first c.copy_bytes.new.page c.put_heads.new.page
    (both a.page.now a.from a.at a.n a.widths.now a.base a.first e f) source room c.copy_bytes.ensures c.put_heads.ensures in
    record { page = p.0; next = p.1 }
