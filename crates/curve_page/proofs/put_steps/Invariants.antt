-- What the loop of `curve_page::put_steps` keeps.
use Rattle.std.proofs.Common.{◌≡◌, ◌+◌, ◌*◌, ◌≤◌, length, drop, map}
use Rattle.std.proofs.lemmas.List.Edits.{sets}
use Rattle.rules_text.specs.Printing.{group_text}
use Rattle.rules_page.specs.Pages.{printable, step_row}
use Rattle.line_copies.specs.Lines.{width_of}
use Rattle.page.proofs.PageLaws.{Putting}
use Rattle.curve_page.proofs.put_steps.Given as goal

abbrev pub invariant-loop-k : goal.invariant-loop-k
invariant-loop-k l =
    let all = map step_row l.steps in
    Putting l.fn.out l.at (group_text (printable l.i) l.r all) l.out l.p (group_text (printable l.i) l.r (drop l.k all)) × (l.p ≤ l.at + 84 * l.k)
    × (length l.widths ≡ length l.fn.widths)
    × (sets l.widths (l.base + l.k) (map (width_of (printable l.i) l.r) (drop l.k all)) ≡ sets l.fn.widths l.base (map (width_of (printable l.i) l.r) all))
