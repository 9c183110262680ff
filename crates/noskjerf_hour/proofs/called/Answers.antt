-- `noskjerf_hour::called`: by the room of both slices, and by what the call answers.
use Prim.Native.Nat.{ℕ}
use mathlib.Core.Path.{◌≡◌, refl, sym, ap, ◌∙◌}
use mathlib.Core.List.{List}
use native.Mathlib.Omega.{arith}
use mir.Facts.{to_z_pos}
use mir.Syntax.{w64}
use lib.IntN.{ℤ, pos, negsuc, pos-ne-negsuc}
use Rattle.rules_number.specs.Order.{nat_of}
use Rattle.rules_curve.specs.Refusals.{number_of}
use Rattle.rules_interval.specs.declared.Interval.{Interval}
use Rattle.rules_state.specs.Calls.{called_number}
use Rattle.rules_state.specs.States.{market_in}
use Rattle.rules_state.proofs.TakeLaws.{not_written, written_zero}
use Rattle.cutting.proofs.AlikeLaws.{over_alike}
use Rattle.rules_curve.proofs.RefusalLaws.{told_number}
use Rattle.verdict_cells.proofs.CallLaws.{Answered, few_cells, few_verdicts, refused, written}
use Rattle.hour_cells.specs.Calls.{written_by}
use Rattle.hour_cells.proofs.CallLaws.{Called, in_whole, alike_called}
use Rattle.noskjerf_hour.specs.Calls.{lent_in, answer_by, state_by, verdicts_by}
use Rattle.noskjerf_hour.proofs.CallLaws as laws
use Rattle.noskjerf_hour.proofs.called.Goals as goal
use Rattle.std.proofs.Common.{ℕ, Bool}
use Rattle.interval.specs.Over.{lent_interval}
use Rattle.hour_cells.specs.Calls.{refusal_by}
use Rattle.noskjerf_hour.proofs.called.Goals.{After-call_into}

-- what is left by an answer and two slices that are as they should be
done : (pass : Bool) (state verdicts : List ℤ) (v : Interval) (z : ℤ) (s t : List ℤ)
    → Answered state verdicts (written_by pass state v) (laws.told pass state verdicts v) (laws.number pass state verdicts v) z s t
    → (z ≡ answer_by pass state verdicts v) × ((s ≡ state_by pass state verdicts v) × (t ≡ verdicts_by pass state verdicts v))
done pass state verdicts v z s t h = laws.answered pass state verdicts v z s t h

module _ (c : After-call_into) where
  abbrev asked : Interval
  asked = lent_in c.args.asked.now

  abbrev over : Interval
  over = lent_interval c.args.asked.now

  abbrev number : ℕ
  number = refusal_by c.args.pass c.args.state.now asked

  abbrev next : List ℤ
  next = written_by c.args.pass c.args.state.now asked

  abbrev told : List ℤ
  told = laws.told c.args.pass c.args.state.now c.args.verdicts.now asked

  made : (called_number c.call_into.result ≡ pos number) × Called c.args.pass c.args.state.now c.none_found-found.result asked number c.call_into.new.state c.call_into.new.verdicts
  made =
      let a = c.args in
      let i = a.asked.now in
      let e = c.call_into.ensures in
      let blank = c.none_found-found.result in
      let out = c.call_into.new in
      let w = in_whole a.pass a.state.now blank over c.if-state-lt-STATE_ROOM.false (called_number c.call_into.result) out.state out.verdicts (e.number, (e.state, e.verdicts)) in
      let m = alike_called a.pass a.state.now blank over asked (over_alike (market_in a.state.now).resources i.constraints i.shadow.now i.resources i.outputs.now i.factors.now i.parameter) _ out.state out.verdicts w.1 in
      (w.0 ∙ ap pos m.0, (refl, m.1))

pub returns-then-state-lt-STATE_ROOM : goal.returns-then-state-lt-STATE_ROOM
returns-then-state-lt-STATE_ROOM c =
    let a = c.args in
    let v = lent_in a.asked.now in
    let r = done a.pass a.state.now a.verdicts.now v (negsuc 0) a.state.now a.verdicts.now
    (few_cells a.state.now a.verdicts.now (written_by a.pass a.state.now v) (laws.told a.pass a.state.now a.verdicts.now v) (refusal_by a.pass a.state.now v) c.if-state-lt-STATE_ROOM.true) in
    record { answer = r.0; state = r.1.0; verdicts = r.1.1 }

pub returns-then-verdicts-lt-VERDICT_ROOM : goal.returns-then-verdicts-lt-VERDICT_ROOM
returns-then-verdicts-lt-VERDICT_ROOM c =
    let a = c.args in
    let v = lent_in a.asked.now in
    let r = done a.pass a.state.now a.verdicts.now v (negsuc 0) a.state.now a.verdicts.now
    (few_verdicts a.state.now a.verdicts.now (written_by a.pass a.state.now v) (laws.told a.pass a.state.now a.verdicts.now v) (refusal_by a.pass a.state.now v) c.if-state-lt-STATE_ROOM.false
    c.if-verdicts-lt-VERDICT_ROOM.true) in
    record { answer = r.0; state = r.1.0; verdicts = r.1.1 }

pub returns-in-Err-TooShort : goal.returns-in-Err-TooShort
returns-in-Err-TooShort c =
    let t = (goal.at.returns-in-Err-TooShort c).After-call_into in
    let short : called_number c.call_into.result ≡ negsuc 0 = rw (c.in-Err-TooShort.is, c.in-Err-TooShort.field-0-is) refl in
    absurd (pos-ne-negsuc (number t) 0 (sym (made t).0 ∙ short))

pub returns-in-Err-Refused : goal.returns-in-Err-Refused
returns-in-Err-Refused c =
    let t = (goal.at.returns-in-Err-Refused c).After-call_into in
    let a = c.args in
    let r = c.refusal_number.result in
    let read : r ≡ number_of c.in-Err-Refused.refusal = rw c.in-Err-Refused.field-0-is at c.refusal_number.ensures in
    let small = told_number c.in-Err-Refused.refusal r read in
    let told_is : called_number c.call_into.result ≡ pos (number_of c.in-Err-Refused.refusal) = rw (c.in-Err-Refused.is, c.in-Err-Refused.field-0-is) refl in
    let n : number t ≡ r = ap nat_of (sym (made t).0 ∙ told_is) ∙ sym read in
    let w = done a.pass a.state.now a.verdicts.now (asked t) (pos r) a.state.now a.verdicts.now
    (refused a.state.now a.verdicts.now (next t) (told t) (number t) c.if-state-lt-STATE_ROOM.false c.if-verdicts-lt-VERDICT_ROOM.false r small.0 n) in
    let kept = (made t).1.1.0 ∙ not_written (number t) (next t) a.state.now (rw n small.0) in
    record { answer = to_z_pos w64 {n = r} (omega (arith, small.1)) ∙ w.0; state = kept ∙ w.1.0; verdicts = w.1.1 }

pub returns-in-Ok : goal.returns-in-Ok
returns-in-Ok c =
    let t = (goal.at.returns-in-Ok c).After-call_into in
    let a = c.args in
    let before = a.state.now in
    let lent = a.verdicts.now in
    let m = (made t).1 in
    let zero : number t ≡ 0 = ap nat_of (sym (made t).0 ∙ ap called_number c.in-Ok.is) in
    let w = done a.pass before lent (asked t) (pos 0) c.call_into.new.state c.put_all.new.out
    (written before lent (next t) (told t) (number t) c.if-state-lt-STATE_ROOM.false c.if-verdicts-lt-VERDICT_ROOM.false zero c.call_into.new.state (m.1.0 ∙ written_zero (number t) (next t) before zero)
    c.put_all.new.out (laws.judged a.pass before lent (asked t) zero c.none_found-found.result c.call_into.new.verdicts c.put_all.new.out c.none_found-found.ensures m.1.1 c.put_all.ensures)) in
    record { answer = w.0; state = w.1.0; verdicts = w.1.1 }
