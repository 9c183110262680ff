-- The loop of `text_numbers::digits_in`.
use Rattle.rules_text.proofs.NumberLaws.{Reads}
use Rattle.text_numbers.proofs.digits_in.Given as goal

abbrev pub invariant-loop-count : goal.invariant-loop-count
invariant-loop-count l = Reads l.s l.at l.end l.value l.count
