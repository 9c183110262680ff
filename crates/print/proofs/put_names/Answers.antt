-- Goals of `print::put_names` that the search leaves. Assumes nothing.
use Rattle.std.proofs.Common.{sym, ◌∙◌}
use Rattle.rules_text.proofs.PrintLaws.{prints, prints_none}
use Rattle.print.proofs.put_names.Goals as goal

pub returns-then-not-has_room-clause-page : goal.returns-then-not-has_room-clause-page
returns-then-not-has_room-clause-page c = let a = c.args in (prints_none a.out.now a.at a.names.now (sym c.has_room.ensures ∙ c.if-not-has_room.true)).0

pub returns-clause-page : goal.returns-clause-page
returns-clause-page c =
    let a = c.args in
    (prints a.out.now a.at a.names.now c.put_bytes.new.out c.put_bytes.result (sym c.has_room.ensures ∙ c.if-not-has_room.false) c.put_bytes.ensures.0 c.put_bytes.ensures.1).0
