-- `hour_cells::taken_into`: a pass, a refusal, an accepted interval. Assumes nothing.
use borrow.Author.Rules.{rules}
use mathlib.Core.Bool.{true, false}
use mathlib.Core.Path.{◌≡◌, sym, ap, subst, ◌∙◌}
use Prim.Native.Nat.{◌<◌}
use Rattle.rules_curve.specs.Refusals.{number_of, outcome_number}
use Rattle.rules_curve.proofs.RefusalLaws.{refused_number}
use Rattle.rules_hour.specs.Hours.{call_refusal}
use Rattle.rules_state.specs.Calls.{interval_written}
use Rattle.rules_state.specs.States.{standing_in, market_in}
use Rattle.rules_state.specs.Takes.{standing_written}
use Rattle.interval.specs.Over.{lent_interval}
use Rattle.hour_cells.specs.Calls.{refusal_by, written_by}
use Rattle.hour_cells.proofs.CallLaws.{by_kind, refused_so, begun}
use Rattle.hour_cells.proofs.taken_into.Goals as goal

pub returns-then-pass : goal.returns-then-pass
unfolding refusal_by written_by
returns-then-pass c =
    let t = c.pass_into.ensures in
    let h =
    by_kind true c.args.pass c.args.state.now c.args.verdicts.now (lent_interval c.args.asked.now) (outcome_number c.pass_into.result) c.pass_into.new.state c.pass_into.new.verdicts
    c.if-pass.true (t.number, (t.state, t.verdicts)) in
    record { number = h.0; state = h.1.0; verdicts = h.1.1 }

pub returns-in_err-take_into : goal.returns-in_err-take_into
unfolding refusal_by written_by
returns-in_err-take_into c =
    let l = c.args.state.now in
    let v = lent_interval c.args.asked.now in
    let n = number_of c.in_err-take_into.field-0.0 in
    let e = c.in_err-take_into.ensures in
    let some : 0 < call_refusal (market_in l) (standing_in l) v = subst (λ k. 0 < k) e.number (refused_number c.in_err-take_into.field-0.0) in
    let h =
    by_kind false c.args.pass l c.args.verdicts.now v n c.take_into.new.state c.take_into.new.verdicts c.if-pass.false
    (e.number, (e.state ∙ refused_so (call_refusal (market_in l) (standing_in l) v) (standing_written l v) (interval_written l v) l some, e.verdicts)) in
    let same : outcome_number c.from_residual.result ≡ n = search rules in
    record { number = same ∙ h.0; state = h.1.0; verdicts = h.1.1 }

pub returns : goal.returns
unfolding refusal_by written_by
returns c =
    let l = c.args.state.now in
    let e = c.take_into.ensures in
    let zero : call_refusal (market_in c.args.state.now) (standing_in c.args.state.now) (lent_interval c.args.asked.now) ≡ 0 = sym e.number ∙ ap outcome_number c.in_ok-take_into.was in
    let h =
    by_kind false c.args.pass l c.args.verdicts.now (lent_interval c.args.asked.now) 0 c.put_quarter.new.state c.take_into.new.verdicts c.if-pass.false
    (sym zero, (begun l (lent_interval c.args.asked.now) (call_refusal (market_in c.args.state.now) (standing_in c.args.state.now) (lent_interval c.args.asked.now)) c.take_into.new.state c.put_quarter.new.state c.fresh_quarter.result zero e.state c.fresh_quarter.ensures c.put_quarter.ensures.state, e.verdicts)) in
    record { number = h.0; state = h.1.0; verdicts = h.1.1 }
