-- Goals of `verdict_page::put_sellers` that the search leaves. Assumes nothing.
use Rattle.std.proofs.Common.{arith}
use Rattle.rules_page.specs.Pages.{seller_rows, seller_table}
use Rattle.verdict_page.proofs.TableLaws.{table_more, table_whole}
use Rattle.verdict_page.proofs.put_sellers.Goals as goal

pub loop-c-preserved : goal.loop-c-preserved
loop-c-preserved c =
    let a = c.args in
    let x = c.loop-c in
    table_more seller_rows 1344 a.out.now a.at a.i a.constraints a.verdicts.now x.out x.p x.c x.invariant c.put_named-p.new.out c.put_named-p.result
    (omega (arith, c.loop-c-test.true, c.at_most-n.ensures)) c.put_named-p.ensures

pub returns : goal.returns
unfolding seller_table
returns c =
    let a = c.args in
    let x = c.loop-c in
    table_whole seller_rows 1344 a.out.now a.at a.i a.constraints a.verdicts.now x.out x.p x.c x.invariant (omega (arith, c.loop-c-test.false, c.at_most-n.ensures))
