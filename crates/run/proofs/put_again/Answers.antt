-- Goals of `run::put_again` that the search leaves. Assumes nothing.
use Rattle.std.proofs.Common.{◌+◌}
use Rattle.run.proofs.LinesPut.{again_to, again_full}
use Rattle.run.proofs.put_again.Goals as goal

pub returns-in-Some : goal.returns-in-Some
returns-in-Some c =
    again_to c.args.out.now c.args.from c.args.at c.args.n c.args.widths.now c.args.base (48 + c.args.i) c.copy_lines.new.page c.copy_lines.result c.requires.0 c.requires.1.0 c.copy_lines.ensures.page c.copy_lines.ensures.next c.in-Some.next c.in-Some.is

pub returns-in-None : goal.returns-in-None
returns-in-None c =
    again_full c.args.out.now c.args.from c.args.at c.args.n c.args.widths.now c.args.base (48 + c.args.i) c.copy_lines.new.page c.copy_lines.result c.requires.0 c.requires.1.0 c.copy_lines.ensures.page c.copy_lines.ensures.next c.in-None.is
