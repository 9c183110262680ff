-- What the loop of `opening_puts::put_pairs` keeps: the numbers of the elements before its index are put.
use Rattle.std.proofs.Common.{List, [], ◌∷◌, ◌≡◌, ℤ}
use Rattle.opening_puts.proofs.PutLaws.{Pairs}
use Rattle.opening_puts.proofs.put_pairs.Given as goal

abbrev pub invariant-loop-k : goal.invariant-loop-k
invariant-loop-k g l =
    (numbers : g.row.T.Denot → List ℤ) → ((x : g.row.T.Denot) (y : ℤ × ℤ) → goal.F-post g l.pair x y → numbers x ≡ y.0 ∷ y.1 ∷ []) → Pairs numbers g.row.N l.list l.initial.blocks l.at l.blocks l.k
