-- `text_rows::single_at` meets its contract. Assumes nothing.
use Rattle.std.proofs.Common.{pos, rules}
use Rattle.rules_text.proofs.NumberLaws.{closed_end}
use Rattle.text_bytes.proofs.ShortLaws.{plus_is}
use Rattle.text_rows.proofs.StandLaws.{single_is, single_lacks}
use Rattle.text_rows.proofs.single_at.Goals as goal

pub returns-then-s-at : goal.returns-then-s-at
returns-then-s-at c = let a = c.args in single_lacks a.s.now a.at (closed_end a.s.now 10 a.at c.if-s-at.true)

pub returns-in-Some : goal.returns-in-Some
returns-in-Some c =
    let a = c.args in
    let z = c.in-Some.z in
    let e = c.in-Some.ensures in
    single_is a.s.now a.at _ (pos z.value) z.next (plus_is e.value_bound.0) e.plain.natural

pub returns-in_err-x : goal.returns-in_err-x
returns-in_err-x c = cc (single_lacks c.args.s.now c.args.at c.in_err-x.ensures)

pub returns : goal.returns
returns c = single_is c.args.s.now c.args.at _ c.in_ok-x.x c.in_ok-x.next (search rules) c.in_ok-x.ensures
