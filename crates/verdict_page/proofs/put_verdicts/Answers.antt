-- Goals of `verdict_page::put_verdicts` that the search leaves. Assumes nothing.
use Rattle.std.proofs.Common.{arith}
use Rattle.rules_page.specs.Pages.{verdict_rows, verdict_table}
use Rattle.verdict_page.proofs.TableLaws.{table_more, table_whole}
use Rattle.verdict_page.proofs.put_verdicts.Goals as goal

pub loop-c-preserved : goal.loop-c-preserved
loop-c-preserved c =
    let a = c.args in
    let x = c.loop-c in
    table_more verdict_rows 105 a.out.now a.at a.i a.constraints a.verdicts.now x.out x.p x.c x.invariant c.put_verdict-p.new.out c.put_verdict-p.result
    (omega (arith, c.loop-c-test.true, c.at_most-n.ensures)) c.put_verdict-p.ensures

pub returns : goal.returns
unfolding verdict_table
returns c =
    let a = c.args in
    let x = c.loop-c in
    table_whole verdict_rows 105 a.out.now a.at a.i a.constraints a.verdicts.now x.out x.p x.c x.invariant (omega (arith, c.loop-c-test.false, c.at_most-n.ensures))
