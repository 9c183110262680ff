-- What the loop of `verdict_page::put_named` keeps, and its measure.
use Rattle.std.specs.Int.Count.{ones}
use Rattle.rules_text.specs.Printing.{group_text}
use Rattle.rules_page.specs.Pages.{printable, seller_rows}
use Rattle.rules_state.specs.Verdicts.{verdict_in}
use Rattle.verdict_page.specs.Shown.{withheld_in}
use Rattle.verdict_page.proofs.SellerLaws.{Named}
use Rattle.verdict_page.proofs.put_named.Given as goal

abbrev pub invariant-loop-p : goal.invariant-loop-p
invariant-loop-p l = Named l.fn.out l.at (group_text (printable l.i) l.c (seller_rows (verdict_in l.verdicts l.c))) (withheld_in l.verdicts l.c) (printable l.i) l.c (ones l.initial.left) l.out l.q l.left

abbrev pub decreases-loop-p : goal.decreases-loop-p
decreases-loop-p l = l.left
