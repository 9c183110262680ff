-- The loop of `text_rows::plain_in`.
use Rattle.text_bytes.proofs.ShortLaws.{Run}
use Rattle.text_rows.proofs.plain_in.Given as goal

abbrev pub invariant-loop-count : goal.invariant-loop-count
invariant-loop-count l = Run l.s l.at l.end l.value l.count
