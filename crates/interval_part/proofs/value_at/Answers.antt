-- `interval_part::value_at` meets its contract. Assumes nothing.
use Rattle.std.proofs.Common.{◌≡◌, ◌+◌, drop, get_or, ℤ, pos, sym, ap, ◌∙◌, to_z, of_z, w64, arith, rules}
use Rattle.rules_text.specs.Numbers.{lines}
use Rattle.rules_text.specs.Tables.{found}
use Rattle.rules_text.proofs.UsedLaws.{used_line}
use Rattle.interval_part.proofs.ReadLaws.{value_missing, value_found, single_none, single_held}
use Rattle.interval_part.proofs.value_at.Goals as goal

pub returns-in_default-clause-result_value : goal.returns-in_default-clause-result_value
returns-in_default-clause-result_value c =
    let a = c.args in
    sym (value_missing a.s.now a.at a.n (single_none a.s.now a.at c.in_default.ensures))

pub returns-clause-result_value : goal.returns-clause-result_value
returns-clause-result_value c =
    let a = c.args in
    let r = c.in-Some.row in
    let h = single_held a.s.now a.at r c.in-Some.ensures in
    let x = get_or r.v 0 (pos 0) in
    let v : to_z w64 (of_z w64 x) ≡ x = search rules in
    ap (λ (z : ℤ). found z (a.n + 1) (lines (drop r.next a.s.now))) (v ∙ h.cells 0 (omega arith)) ∙ sym (value_found a.s.now a.at a.n h.x h.is r.next h.after)

pub returns-clause-next_value : goal.returns-clause-next_value
returns-clause-next_value c =
    let a = c.args in
    let r = c.in-Some.row in
    (used_line a.s.now a.n a.at r.next (single_held a.s.now a.at r c.in-Some.ensures).after).offset
