-- Goals of `line_copies::put_heads` that the search leaves. Assumes nothing.
use Rattle.line_copies.proofs.HeadLaws.{heading_start, heading_next, heading_past, heading_done}
use Rattle.line_copies.proofs.put_heads.Goals as goal

pub loop-k-init : goal.loop-k-init
loop-k-init c = heading_start c.args.page.now c.args.at c.args.n c.args.widths.now c.args.base c.args.first c.requires

pub returns-then-n-p : goal.returns-then-n-p
returns-then-n-p c =
    let a = c.args in
    let l = c.loop-k in
    heading_past a.page.now a.at a.n a.widths.now a.base a.first c.requires l.page l.p l.k l.invariant c.if-n-p.true

pub loop-k-preserved : goal.loop-k-preserved
loop-k-preserved c =
    let a = c.args in
    let l = c.loop-k in
    heading_next a.page.now a.at a.n a.widths.now a.base a.first c.requires l.page l.p l.k l.invariant c.loop-k-test.true c.if-n-p.false

pub returns : goal.returns
returns c =
    let a = c.args in
    let l = c.loop-k in
    heading_done a.page.now a.at a.n a.widths.now a.base a.first c.requires l.page l.p l.k l.invariant c.loop-k-test.false
