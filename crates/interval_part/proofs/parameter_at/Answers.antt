-- `interval_part::parameter_at` meets its contract. Assumes nothing.
use Rattle.std.proofs.Common.{◌+◌, drop, pos, sym, refl, ◌∙◌}
use Rattle.rules_text.specs.Numbers.{lines}
use Rattle.rules_text.specs.Tables.{found}
use Rattle.rules_text.proofs.NameLaws.{not_headed, past_names}
use Rattle.rules_text.proofs.UsedLaws.{used_names}
use Rattle.interval_part.proofs.ReadLaws.{parameter_missing, parameter_there}
use Rattle.interval_part.proofs.parameter_at.Goals as goal

pub returns-in_default-clause-result_value : goal.returns-in_default-clause-result_value
returns-in_default-clause-result_value c =
    let a = c.args in
    c.value_at.ensures.result_value
    ∙ sym (parameter_there a.n (lines (drop a.at a.s.now)) (a.n + 1) (not_headed "-\n" (found (pos 0)) a.n a.s.now a.at refl c.in_default.ensures))

pub returns-clause-result_value : goal.returns-clause-result_value
returns-clause-result_value c =
    let a = c.args in
    sym (parameter_missing a.n (lines (drop a.at a.s.now)) (a.n + 1) (lines (drop c.in-Some.next a.s.now)) (past_names "-\n" (found (pos 0)) a.n a.s.now a.at refl c.in-Some.next c.in-Some.ensures))

pub returns-clause-next_value : goal.returns-clause-next_value
returns-clause-next_value c = let a = c.args in (used_names "-\n" a.s.now a.n a.at refl c.in-Some.next c.in-Some.ensures).offset
