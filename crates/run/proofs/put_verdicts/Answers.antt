-- Goals of `run::put_verdicts` that the search leaves. Assumes nothing.
use Rattle.std.proofs.Common.{arith}
use Rattle.rules_page.specs.Pages.{verdict_text, verdict_room}
use Rattle.rules_state.specs.Verdicts.{verdicts_in}
use Rattle.rules_run.proofs.RunLaws.{put_to, put_full}
use Rattle.run.proofs.put_verdicts.Goals as goal

pub returns-in-Some : goal.returns-in-Some
returns-in-Some c =
    let g = put_to verdict_room c.args.out.now c.args.at (verdict_text c.args.i c.args.constraints (verdicts_in c.args.verdicts.now)) c.print_verdicts.new.out c.print_verdicts.result c.requires c.print_verdicts.ensures.buffer c.print_verdicts.ensures.next c.in-Some.next c.in-Some.is in
    (g.0, (g.1, omega (arith, g.1, c.print_verdicts.ensures.whole c.requires)))

pub returns-in-None : goal.returns-in-None
returns-in-None c =
    put_full verdict_room c.args.out.now c.args.at (verdict_text c.args.i c.args.constraints (verdicts_in c.args.verdicts.now)) c.print_verdicts.new.out c.print_verdicts.result c.requires c.print_verdicts.ensures.buffer c.print_verdicts.ensures.next c.in-None.is
