-- The loop of `text_names::bytes_are`: what is left of the wanted bytes stands there exactly where all of them do.
use Rattle.std.proofs.Common.{◌≡◌, ◌+◌, ◌≤◌, length, drop}
use Rattle.rules_text.proofs.NameLaws.{starts}
use Rattle.text_names.proofs.bytes_are.Given as goal

abbrev pub invariant-loop-i : goal.invariant-loop-i
invariant-loop-i l = (l.i ≤ length l.want) × (starts (drop l.i l.want) (drop (l.at + l.i) l.s) ≡ starts l.want (drop l.at l.s))
