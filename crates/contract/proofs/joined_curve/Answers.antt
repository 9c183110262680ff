-- `contract::joined_curve` meets its contract. Assumes nothing.
use Rattle.std.proofs.Common.{◌≡◌, ◌<◌, ℕ, sym, subst, ap, ◌∙◌, length, rules}
use Rattle.std.proofs.lemmas.Result.{err_from_is_err_and}
use Rattle.rules_curve.specs.Curves.{most_steps, checked_default, default_refusal, pack_unless, curve_of}
use Rattle.rules_curve.specs.declared.RawCurve.{RawCurve}
use Rattle.rules_curve.proofs.Answered.{packed_checked, refused_alone}
use Rattle.rules_curve.proofs.RefusalLaws.{refused_number}
use Rattle.rules_contract.specs.ContractUnits.{joined_raw, contract_refusal, joined_pack, joined_curve}
use Rattle.rules_contract.proofs.Joins.{joined_passes}
use Rattle.contract.proofs.joined_curve.Goals as goal

-- a join that is taken passes, and is checked as it is
checked_join : (a b : RawCurve) → length a.steps ≡ most_steps → length b.steps ≡ most_steps → checked_default (joined_pack a b) ≡ joined_curve a b
checked_join a b full_a full_b = packed_checked (contract_refusal a b) (joined_raw a b) (λ e. joined_passes a b full_a full_b e)

pub returns-in_err-joined : goal.returns-in_err-joined
returns-in_err-joined c =
    let a = c.args.proxy in
    let b = c.args.above in
    let e = c.in_err-joined.ensures.number in
    let some : 0 < contract_refusal a b = subst (λ (n : ℕ). 0 < n) e (refused_number _) in
    let p = err_from_is_err_and c.from_residual.result c.from_residual.ensures.1 in
    rw (p.1, p.2) (record { number = e; curve = sym (refused_alone (contract_refusal a b) (curve_of (joined_raw a b)) some) })

pub returns : goal.returns
returns c =
    let a = c.args.proxy in
    let b = c.args.above in
    let full_a : length a.steps ≡ most_steps = search rules in
    let full_b : length b.steps ≡ most_steps = search rules in
    let j = c.in_ok-joined.ensures in
    let z = sym j.number in
    let same = j.pack ∙ ap (λ (n : ℕ). pack_unless n (joined_raw a b)) z in
    record {
      number = c.checked_default.ensures.number ∙ ap default_refusal same ∙ joined_passes a b full_a full_b z ∙ j.number;
      curve = c.checked_default.ensures.curve ∙ ap checked_default j.pack ∙ checked_join a b full_a full_b;
    }
