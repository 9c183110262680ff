-- `noskjerf_days::noskjerf_day`: by the room of the tally, and by what the day is answered.
use mathlib.Core.Path.{sym, ap, ◌∙◌}
use native.Mathlib.Omega.{arith}
use lib.Seq.{sets}
use mir.Facts.{to_z_pos}
use mir.Syntax.{w64}
use Rattle.rules_curve.proofs.RefusalLaws.{told_number}
use Rattle.rules_designation.specs.Tallies.{day_refusal, tally_after}
use Rattle.rules_designation.specs.declared.Tally.{Tally}
use Rattle.rules_designation.specs.Calls.{tally_cells, day_of}
use Rattle.noskjerf_days.proofs.DayLaws.{few_cells, refused, written}
use Rattle.noskjerf_days.proofs.noskjerf_day.Goals as goal

pub returns-then-tally-lt-TALLY_ROOM : goal.returns-then-tally-lt-TALLY_ROOM
returns-then-tally-lt-TALLY_ROOM c =
    let k = few_cells c.args.tally.now (day_of c.args.day c.args.bound c.args.noncompetitive) c.if-tally-lt-TALLY_ROOM.true in
    record { answer = k.0; tally = k.1 }

pub returns-in-Err : goal.returns-in-Err
returns-in-Err c =
    let d = day_of c.args.day c.args.bound c.args.noncompetitive in
    let small = told_number c.in-Err.refusal c.refusal_number.result c.refusal_number.ensures in
    let n = ap (λ (t : Tally). day_refusal t d) (sym c.tally_in.ensures) ∙ sym c.in-Err.ensures.0 ∙ sym c.refusal_number.ensures in
    let w = refused c.args.tally.now d c.if-tally-lt-TALLY_ROOM.false c.refusal_number.result small.0 n in
    record { answer = to_z_pos w64 {n = c.refusal_number.result} (omega (arith, small.1)) ∙ w.0; tally = w.1 }

pub returns-in-Ok : goal.returns-in-Ok
returns-in-Ok c =
    let d = day_of c.args.day c.args.bound c.args.noncompetitive in
    let after = c.in-Ok.ensures.1 ∙ ap (λ (t : Tally). tally_after t d) c.tally_in.ensures in
    let n = ap (λ (t : Tally). day_refusal t d) (sym c.tally_in.ensures) ∙ sym c.in-Ok.ensures.0 in
    let w = written c.args.tally.now d c.if-tally-lt-TALLY_ROOM.false n c.put_tally.new.cells (c.put_tally.ensures ∙ ap (λ (x : Tally). sets c.args.tally.now 0 (tally_cells x)) after) in
    record { answer = w.0; tally = w.1 }
