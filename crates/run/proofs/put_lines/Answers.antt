-- Goals of `run::put_lines` that the search leaves. Assumes nothing.
use Rattle.std.proofs.Common.{get_or, arith}
use Rattle.rules_hour.specs.Hours.{uncut}
use Rattle.rules_state.specs.States.{standing_in}
use Rattle.run.proofs.KeptLaws.{put_copied}
use Rattle.run.proofs.put_lines.Goals as goal

pub put_again-requires : goal.put_again-requires
put_again-requires c =
    let w = c.requires.kept.stands c.args.r c.requires.room.1.1.0 (c.is_shown.ensures c.if-not-is_shown.false).0 in
    (w.before, (omega (arith, w.few, c.requires.room.0), c.requires.room.1.1.1.0))

pub returns : goal.returns
returns c =
    let h = c.is_shown.ensures c.if-not-is_shown.false in
    let p = put_copied c.requires.kept c.args.i c.args.r c.requires.room.1.1.1.0 c.requires.room.1.1.0 c.requires.room.0 c.requires.rooms (get_or (standing_in c.args.state.now).floors c.args.r uncut) h.1 h.0 c.put_again.new.out c.put_again.result c.put_again.ensures.0 c.put_again.ensures.1 in
    record { page = p.0; widths = p.1 }
