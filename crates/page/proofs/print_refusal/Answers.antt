-- Goals of `page::print_refusal` that the search leaves. Assumes nothing.
use Rattle.std.proofs.Common.{◌≡◌, ℕ, ◌+◌, ◌≤◌, [], ◌∷◌, length, refl, sym, ◌∙◌, arith, rules, true}
use Rattle.std.proofs.Math.IntN.{pos}
use mir.Syntax.{w64}
use mir.Val.{SFits}
use Rattle.rules_number.proofs.Kit.{came}
use Rattle.rules_text.specs.Printing.{line_text}
use mathlib.Core.List.{append-nil}
use borrow.Author.Tests.{leb-true}
use Rattle.rules_text.specs.Numbers.{Row, bytes}
use Rattle.rules_text.specs.Printing.{refusal_text, printed, printed_to}
use Rattle.rules_page.specs.Pages.{printable, refusal_room, is_room, put_within, put_within_to}
use Rattle.rules_text.proofs.PrintLaws.{line_few}
use Rattle.page.proofs.PageLaws.{Putting, putting_start, putting_next, putting_done, within_none, within_some, put_both}
use Rattle.page.proofs.print_refusal.Goals as goal
use Rattle.page.proofs.print_refusal.Goals.{After-print_line}

pub returns-then-not-has_room-clause-buffer : goal.returns-then-not-has_room-clause-buffer
returns-then-not-has_room-clause-buffer c =
    let a = c.args in
    (within_none refusal_room a.out.now a.at (refusal_text (printable a.number) (printable a.line)) (sym c.has_room.ensures ∙ c.if-not-has_room.true)).0

pub returns-then-not-has_room-clause-next : goal.returns-then-not-has_room-clause-next
returns-then-not-has_room-clause-next c =
    let a = c.args in
    (within_none refusal_room a.out.now a.at (refusal_text (printable a.number) (printable a.line)) (sym c.has_room.ensures ∙ c.if-not-has_room.true)).1

-- the two values
abbrev values : ℕ → ℕ → Row
values number line = pos (printable number) ∷ pos (printable line) ∷ []

-- the room that was tested
holds-room : (c : After-print_line) → is_room refusal_room c.args.out.now c.args.at ≡ true
holds-room c = sym c.has_room.ensures ∙ c.if-not-has_room.false

room : (c : After-print_line) → c.args.at + refusal_room ≤ length c.args.out.now
room c = leb-true (c.args.at + refusal_room) (length c.args.out.now) (holds-room c)

-- after the names line, the line of values is left
named : (c : After-print_line) → Putting c.args.out.now c.args.at (refusal_text (printable c.args.number) (printable c.args.line)) c.put_names-next.new.out c.put_names-next.result (line_text (values c.args.number c.args.line))
unfolding refusal_text
named c =
    let a = c.args in
    let e = c.put_names-next.ensures.whole (omega (arith, room c)) in
    putting_next (putting_start a.out.now a.at (refusal_text (printable a.number) (printable a.line))) (bytes "refusal line\n") (line_text (values a.number a.line)) c.put_names-next.new.out c.put_names-next.result refl e.0 e.1

-- the line of values, at the numbers themselves
put : (c : After-print_line)
    → (c.print_line.new.out ≡ printed c.put_names-next.new.out c.put_names-next.result (line_text (values c.args.number c.args.line)))
    × (c.print_line.result ≡ printed_to c.put_names-next.new.out c.put_names-next.result (line_text (values c.args.number c.args.line)))
put c =
    let f : SFits w64 c.printable.result = search rules in
    let g : SFits w64 c.printable-2.result = search rules in
    let fa = came c.printable.result f.sfits ∙ c.printable.ensures in
    let fb = came c.printable-2.result g.sfits ∙ c.printable-2.ensures in
    (simp (fa, fb) at c.print_line.ensures.out_after, simp (fa, fb) at c.print_line.ensures.value)

whole : (c : After-print_line) → (c.print_line.new.out ≡ put_within refusal_room c.args.out.now c.args.at (refusal_text (printable c.args.number) (printable c.args.line)))
    × (c.print_line.result ≡ put_within_to refusal_room c.args.out.now c.args.at (refusal_text (printable c.args.number) (printable c.args.line)))
whole c =
    let a = c.args in
    let v = values a.number a.line in
    let text = refusal_text (printable a.number) (printable a.line) in
    let n = c.put_names-next in
    let k = named c in
    let w = put c in
    let few = line_few v in
    let after = (n.ensures.whole (omega (arith, room c))).1 in
    let fits : n.result + length (line_text v) ≤ length n.new.out = omega (arith, room c, k.long, after) in
    let b = put_both n.new.out n.result (line_text v) c.print_line.new.out c.print_line.result fits w.0 w.1 in
    let d = putting_done (putting_next k (line_text v) [] c.print_line.new.out (n.result + length (line_text v)) (sym (append-nil (line_text v))) b.0 refl) refl in
    let r = within_some refusal_room a.out.now a.at text c.print_line.new.out (n.result + length (line_text v)) (holds-room c) d.0 d.1 in
    (r.0, b.1 ∙ r.1)

pub returns-clause-buffer : goal.returns-clause-buffer
returns-clause-buffer c = (whole (goal.at.returns-clause-buffer c).After-print_line).0

pub returns-clause-next : goal.returns-clause-next
returns-clause-next c = (whole (goal.at.returns-clause-next c).After-print_line).1
