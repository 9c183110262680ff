-- Goals of `print::print_any` that the search leaves. Assumes nothing.
use Rattle.std.proofs.Common.{sym, ◌∙◌}
use Rattle.rules_text.specs.Printing.{line_text}
use Rattle.rules_text.proofs.PrintLaws.{prints, prints_none}
use Rattle.print.proofs.print_any.Goals as goal

pub returns-then-not-line_fits : goal.returns-then-not-line_fits
returns-then-not-line_fits c =
    let a = c.args in
    let p = prints_none a.out.now a.at (line_text a.v.now) (sym c.line_fits.ensures ∙ c.if-not-line_fits.true) in
    record { out_after = p.0; value = p.1 }

pub returns : goal.returns
returns c =
    let a = c.args in
    let n = c.put_line in
    let p = prints a.out.now a.at (line_text a.v.now) n.new.out n.result (sym c.line_fits.ensures ∙ c.if-not-line_fits.false) n.ensures.0 n.ensures.1 in
    record { out_after = p.0; value = p.1 }
