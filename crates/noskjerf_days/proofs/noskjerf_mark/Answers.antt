-- `noskjerf_days::noskjerf_mark`: by the room of the marks.
use mathlib.Core.Path.{sym, ap, ◌∙◌}
use lib.Seq.{sets}
use Rattle.rules_designation.specs.Calls.{marks_of}
use Rattle.rules_designation.specs.declared.Day.{Day}
use Rattle.rules_designation.proofs.CallAnswers.{mark_told, mark_short}
use Rattle.noskjerf_days.proofs.noskjerf_mark.Goals as goal

pub returns-then-marks-lt2 : goal.returns-then-marks-lt2
returns-then-marks-lt2 c =
    let k = mark_short c.args.marks.now c.args.hour c.args.findings.now c.if-marks-lt2.true in
    record { answer = sym k.0; marks = sym k.1 }

pub returns : goal.returns
returns c =
    let k = mark_told c.args.marks.now c.args.hour c.args.findings.now c.if-marks-lt2.false in
    record { answer = sym k.0; marks = ap (λ (d : Day). sets c.args.marks.now 0 (marks_of d)) c.marked-marked.ensures ∙ sym k.1 }
