-- `noskjerf_days::noskjerf_designation`: by the room of both slices.
use Prim.Native.Nat.{◌≤◌}
use mathlib.Core.Path.{sym, ap, ◌∙◌}
use native.Mathlib.Omega.{arith}
use mir.Facts.{to_z_pos}
use mir.Syntax.{w64}
use Rattle.rules_path.specs.Verdicts.{finding_number}
use Rattle.rules_designation.specs.Designations.{hours_in, designation}
use Rattle.rules_designation.specs.declared.Tally.{Tally}
use Rattle.rules_designation.proofs.CallAnswers.{tally_short, hours_short}
use Rattle.noskjerf_days.proofs.DayLaws.{found, small_finding}
use Rattle.noskjerf_days.proofs.noskjerf_designation.Goals as goal

pub returns-then-tally-lt-TALLY_ROOM : goal.returns-then-tally-lt-TALLY_ROOM
returns-then-tally-lt-TALLY_ROOM c =
    let k = tally_short c.args.tally.now c.args.hours.now c.if-tally-lt-TALLY_ROOM.true in
    record { answer = sym k.0; hours = sym k.1 }

pub returns-then-hours-lt2 : goal.returns-then-hours-lt2
returns-then-hours-lt2 c =
    let k = hours_short c.args.tally.now c.args.hours.now c.if-hours-lt2.true in
    record { answer = sym k.0; hours = sym k.1 }

pub returns : goal.returns
returns c =
    let h = c.tally_in-held.ensures in
    let small : c.finding_number.result ≤ 2 = rw c.finding_number.ensures (small_finding c.designated.result) in
    let k = found c.args.tally.now c.args.hours.now c.if-tally-lt-TALLY_ROOM.false c.if-hours-lt2.false c.finding_number.result c.hours_in.result c.hours_in-2.result
    (c.finding_number.ensures ∙ ap finding_number (c.designated.ensures ∙ ap designation h)) (c.hours_in.ensures ∙ ap (λ (x : Tally). hours_in x.bound) h)
    (c.hours_in-2.ensures ∙ ap (λ (x : Tally). hours_in x.noncompetitive) h) in
    record { answer = to_z_pos w64 {n = c.finding_number.result} (omega (arith, small)) ∙ k.0; hours = k.1 }
