-- Goals of `run::put_fresh` that the search leaves. Assumes nothing.
use Rattle.std.proofs.Common.{◌*◌, map}
use Rattle.rules_mitigation.specs.Mitigation.{most_mitigated_steps}
use Rattle.rules_text.specs.Printing.{group_text}
use Rattle.rules_page.specs.Pages.{printable, curve_rows}
use Rattle.rules_state.specs.States.{rows_in, standing_in}
use Rattle.line_copies.specs.Lines.{width_of}
use Rattle.run.proofs.LinesPut.{fresh_to, fresh_full}
use Rattle.run.proofs.put_fresh.Goals as goal

pub returns-in-Some : goal.returns-in-Some
returns-in-Some c =
    let p = fresh_to c.args.out.now c.args.at (group_text (printable c.args.i) c.args.r (curve_rows (rows_in c.args.state.now) (standing_in c.args.state.now).floors c.args.r)) c.args.widths.now (most_mitigated_steps * c.args.r)
    (map (width_of (printable c.args.i) c.args.r) (curve_rows (rows_in c.args.state.now) (standing_in c.args.state.now).floors c.args.r)) c.print_lines.new.out c.print_lines.new.widths c.print_lines.result c.requires.0 c.requires.1.1
    c.print_lines.ensures.buffer c.print_lines.ensures.widths c.print_lines.ensures.next c.print_lines.ensures.whole c.in-Some.next c.in-Some.is in
    record { page = p.0; widths = p.1 }

pub returns-in-None : goal.returns-in-None
returns-in-None c =
    fresh_full c.args.out.now c.args.at (group_text (printable c.args.i) c.args.r (curve_rows (rows_in c.args.state.now) (standing_in c.args.state.now).floors c.args.r)) c.args.widths.now (most_mitigated_steps * c.args.r)
    (map (width_of (printable c.args.i) c.args.r) (curve_rows (rows_in c.args.state.now) (standing_in c.args.state.now).floors c.args.r)) c.print_lines.new.out c.print_lines.new.widths c.print_lines.result c.requires.0 c.requires.1.1
    c.print_lines.ensures.buffer c.print_lines.ensures.widths c.print_lines.ensures.next c.print_lines.ensures.whole c.in-None.is
