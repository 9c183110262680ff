-- `noskjerf_hour::noskjerf_open`: by the room of the state, and by what opening answers.
use mathlib.Core.Path.{◌≡◌, refl, sym, ap, ◌∙◌}
use native.Mathlib.Omega.{arith}
use mir.Facts.{to_z_pos}
use mir.Syntax.{w64}
use lib.IntN.{pos, negsuc, pos-ne-negsuc}
use lib.ListN.{replicate}
use Rattle.rules_number.specs.Order.{nat_of}
use Rattle.rules_number.proofs.Kit.{came}
use Rattle.rules_curve.specs.Refusals.{number_of}
use Rattle.rules_opening.specs.Openings.{opening_refusal}
use Rattle.rules_opening.specs.declared.Opening.{Opening}
use Rattle.rules_state.specs.Calls.{called_number}
use Rattle.rules_state.specs.Layout.{state_room}
use Rattle.rules_state.specs.Openings.{opening_in}
use Rattle.rules_state.specs.OpenedInto.{opened_into}
use Rattle.rules_curve.proofs.RefusalLaws.{told_number}
use Rattle.noskjerf_hour.proofs.OpenLaws.{answered, few_cells, refused, written}
use Rattle.noskjerf_hour.proofs.noskjerf_open.Goals as goal
use Rattle.noskjerf_hour.proofs.noskjerf_open.Goals.{After-open_into}

module _ (c : After-open_into) where
  abbrev asked : Opening
  asked = opening_in c.args.month c.args.portfolios c.args.sellers.now c.args.resources c.args.blocks.now

  opened : c.open_into.new.state ≡ opened_into asked (replicate state_room (pos 0))
  opened = rw (came c.args.month c.ranges.month.sfits) at c.open_into.ensures.state

  answer : called_number c.open_into.result ≡ pos (opening_refusal asked)
  answer = answered c.args.state.now asked (called_number c.open_into.result) (rw (came c.args.month c.ranges.month.sfits) at c.open_into.ensures.number)

pub returns-then-state-lt-STATE_ROOM : goal.returns-then-state-lt-STATE_ROOM
returns-then-state-lt-STATE_ROOM c =
    let r = few_cells c.args.state.now (opening_in c.args.month c.args.portfolios c.args.sellers.now c.args.resources c.args.blocks.now) c.if-state-lt-STATE_ROOM.true in
    record { answer = r.0; state = r.1 }

pub returns-in-Err-TooShort : goal.returns-in-Err-TooShort
returns-in-Err-TooShort c =
    let t = (goal.at.returns-in-Err-TooShort c).After-open_into in
    let short : called_number c.open_into.result ≡ negsuc 0 = rw (c.in-Err-TooShort.is, c.in-Err-TooShort.field-0-is) refl in
    absurd (pos-ne-negsuc (opening_refusal (asked t)) 0 (sym (answer t) ∙ short))

pub returns-in-Err-Refused : goal.returns-in-Err-Refused
returns-in-Err-Refused c =
    let t = (goal.at.returns-in-Err-Refused c).After-open_into in
    let read : c.refusal_number.result ≡ number_of c.in-Err-Refused.refusal = rw c.in-Err-Refused.field-0-is at c.refusal_number.ensures in
    let small = told_number c.in-Err-Refused.refusal c.refusal_number.result read in
    let told_is : called_number c.open_into.result ≡ pos (number_of c.in-Err-Refused.refusal) = rw (c.in-Err-Refused.is, c.in-Err-Refused.field-0-is) refl in
    let n : opening_refusal (asked t) ≡ c.refusal_number.result = ap nat_of (sym (answer t) ∙ told_is) ∙ sym read in
    let w = refused c.args.state.now (asked t) c.if-state-lt-STATE_ROOM.false c.refusal_number.result small.0 n in
    record { answer = to_z_pos w64 {n = c.refusal_number.result} (omega (arith, small.1)) ∙ w.0; state = w.1 }

pub returns-in-Ok : goal.returns-in-Ok
returns-in-Ok c =
    let t = (goal.at.returns-in-Ok c).After-open_into in
    let zero : opening_refusal (asked t) ≡ 0 = ap nat_of (sym (answer t) ∙ ap called_number c.in-Ok.is) in
    let w = written c.args.state.now (asked t) c.if-state-lt-STATE_ROOM.false zero c.open_into.new.state c.put_all.new.out (opened t) c.put_all.ensures in
    record { answer = w.0; state = w.1 }
