-- What the loop of `verdict_page::put_verdicts` keeps.
use Rattle.rules_page.specs.Pages.{verdict_rows}
use Rattle.verdict_page.proofs.TableLaws.{Table}
use Rattle.verdict_page.proofs.put_verdicts.Given as goal

abbrev pub invariant-loop-c : goal.invariant-loop-c
invariant-loop-c l = Table verdict_rows 105 l.fn.out l.at l.i l.constraints l.verdicts l.out l.p l.c
