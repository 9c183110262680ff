-- The loop of `text_names::line_is`: what is left of the wanted bytes stands there exactly where all of them do.
use Rattle.std.proofs.Common.{◌≡◌, ◌+◌, ◌-◌, ◌≤◌, length, drop}
use Rattle.rules_text.specs.Offsets.{names_at}
use Rattle.text_names.proofs.line_is.Given as goal

abbrev pub invariant-loop-i : goal.invariant-loop-i
invariant-loop-i l = (l.i ≤ length l.want) × (names_at l.s (l.at + l.i) (drop l.i l.want) ≡ names_at l.s l.at l.want)

abbrev pub decreases-loop-i : goal.decreases-loop-i
decreases-loop-i l = length l.want - l.i
