-- Goals of `print::line_fits` that the search leaves. Assumes nothing.
use Rattle.std.proofs.Common.{◌+◌, length, sym, ◌∙◌, arith}
use Rattle.rules_text.specs.Printing.{line_text}
use borrow.Author.Tests.{le-leb, leb-true}
use Rattle.rules_text.proofs.PrintLaws.{line_few}
use Rattle.print.proofs.line_fits.Goals as goal

pub returns-then-has_room : goal.returns-then-has_room
returns-then-has_room c =
    let a = c.args in
    let room = leb-true (a.at + 105) a.size (sym c.has_room.ensures ∙ c.if-has_room.true) in
    sym (le-leb (a.at + length (line_text a.v.now)) a.size (omega (arith, room, line_few a.v.now, c.if-v-le5.true)))
