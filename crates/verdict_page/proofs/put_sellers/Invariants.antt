-- What the loop of `verdict_page::put_sellers` keeps.
use Rattle.rules_page.specs.Pages.{seller_rows}
use Rattle.verdict_page.proofs.TableLaws.{Table}
use Rattle.verdict_page.proofs.put_sellers.Given as goal

abbrev pub invariant-loop-c : goal.invariant-loop-c
invariant-loop-c l = Table seller_rows 1344 l.fn.out l.at l.i l.constraints l.verdicts l.out l.p l.c
