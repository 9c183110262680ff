-- The loop of `text_triples::short_in`.
use Rattle.std.proofs.Common.{◌≤◌}
use Rattle.text_bytes.proofs.ShortLaws.{Run}
use Rattle.text_triples.proofs.short_in.Given as goal

abbrev pub invariant-loop-count : goal.invariant-loop-count
invariant-loop-count l = Run l.s l.at 8 l.value l.count × (1 ≤ l.value)
