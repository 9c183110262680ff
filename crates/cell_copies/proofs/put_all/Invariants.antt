-- What the loop of `cell_copies::put_all` keeps: what is left, put where the loop stands, gives the whole.
use Rattle.std.proofs.Common.{drop, ◌≡◌, ◌+◌}
use Rattle.std.proofs.lemmas.List.Edits.{sets}
use Rattle.cell_copies.proofs.put_all.Given as goal

abbrev pub invariant-loop-i : goal.invariant-loop-i
invariant-loop-i l = sets l.out (l.at + l.i) (drop l.i l.from) ≡ sets l.initial.out l.at l.from
