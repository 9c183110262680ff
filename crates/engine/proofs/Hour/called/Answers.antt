-- `engine::Hour/called`: a call in the cells of a whole hour.
use Rattle.std.specs.Prelude.{Err}
use mathlib.Core.Path.{◌≡◌, sym, ap, subst, ◌∙◌}
use mathlib.Core.List.{List}
use Prim.Native.Nat.{◌≤◌, ◌<◌}
use native.Mathlib.Omega.{arith}
use lib.IntN.{ℤ, pos}
use lib.ListN.{length}
use Rattle.rules_number.proofs.Kit.{rd}
use Rattle.rules_curve.specs.Refusals.{number_of, outcome_number}
use Rattle.rules_interval.specs.declared.Interval.{Interval}
use Rattle.rules_state.specs.Calls.{called_number}
use Rattle.rules_state.specs.Layout.{most_resources, state_room}
use Rattle.rules_state.specs.States.{market_in}
use Rattle.rules_curve.proofs.RefusalLaws.{refused_number}
use Rattle.rules_state.proofs.TakeLaws.{not_written}
use Rattle.engine.proofs.HourLaws.{by_call}
use Rattle.hour_cells.specs.Calls.{refusal_by}
use Rattle.hour_cells.proofs.CallLaws.{Called, Answers, in_whole, sound}
use Rattle.engine.proofs.OutputLaws.{read_over}
use Rattle.engine.proofs.VerdictsBack.{none_bind, read_back}
use Rattle.engine.proofs.Hour.called.Goals as goal
use Rattle.std.proofs.Common.{rules}
use Rattle.interval.specs.Over.{interval_over}
use Rattle.engine.proofs.Hour.called.Goals.{After-map_err}

module _ (c : After-map_err) where
  abbrev v : Interval
  v = c.args.v

  abbrev cells : List ℤ
  cells = c.args.self.cells

  -- what the types say: an interval has room for 64 resources
  prices : length c.args.v.lmp ≡ most_resources
  prices = search rules

  dispatches : length c.args.v.dispatch ≡ most_resources
  dispatches = search rules

  quantities : length c.args.v.available ≡ most_resources
  quantities = search rules

  floors : length c.args.v.floor ≡ most_resources
  floors = search rules

  -- and an hour has 3,411 cells
  whole : state_room ≤ length c.args.self.cells
  whole = let n : length c.args.self.cells ≡ state_room = search rules in omega arith

  read : interval_over v.constraints v.shadow v.resources c.outputs_of-outputs.result v.factors v.parameter ≡ v
  read = read_over v c.outputs_of-outputs.result prices dispatches quantities floors c.outputs_of-outputs.ensures

  abbrev found : List ℤ
  found = c.call_into.new.verdicts

  made : (called_number c.call_into.result ≡ pos (refusal_by c.args.pass cells v))
      × Called c.args.pass cells c.none_found-found.result v (refusal_by c.args.pass cells v) c.call_into.new.state found
  made =
      let held : rd v.parameter ≡ v.parameter = search rules in
      let e = c.call_into.ensures in
      in_whole c.args.pass cells c.none_found-found.result v whole (called_number c.call_into.result) c.call_into.new.state found
      (subst (λ (w : Interval). Answers c.args.pass cells c.none_found-found.result w (called_number c.call_into.result) c.call_into.new.state found) read
      (rw held at e.number, (rw held at e.state, rw held at e.verdicts)))

  number : outcome_number c.map_err.result ≡ refusal_by c.args.pass cells v
  number = by_call _ (λ e d p. p) c.call_into.result c.map_err.result c.map_err.ensures.cases _ made.0

pub returns-in_err-map_err : goal.returns-in_err-map_err
returns-in_err-map_err c =
    let t = (goal.at.returns-in_err-map_err c).After-map_err in
    let d = c.in_err-map_err.field-0.0 in
    let is : c.from_residual.result ≡ Err d = search rules in
    let n : number_of d ≡ refusal_by c.args.pass c.args.self.cells c.args.v = sym (ap outcome_number c.in_err-map_err.was) ∙ number t in
    let some = subst (λ k. 0 < k) n (refused_number d) in
    rw is (record { number = n; hour = sym (not_written _ _ _ some); verdicts = none_bind _ _ some })

pub returns : goal.returns
returns c =
    let t = (goal.at.returns c).After-map_err in
    let l = c.args.self.cells in
    let n = refusal_by c.args.pass l c.args.v in
    let m = (made t).1 in
    record {
      number = sym (sym (number t) ∙ ap outcome_number c.in_ok-map_err.was);
      hour = m.1.0;
      verdicts = c.verdicts_in-answer.ensures ∙ read_back (market_in l) c.args.v n (sound c.args.pass l c.args.v) c.none_found-found.result c.call_into.new.verdicts c.none_found-found.ensures m.1.1;
    }
