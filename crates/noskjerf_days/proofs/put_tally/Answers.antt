-- `noskjerf_days::put_tally`: its first two numbers, and then the masks.
use mathlib.Core.List.{List}
use mathlib.Core.Path.{◌≡◌, ap, ◌∙◌}
use Prim.Native.Nat.{ℕ}
use lib.ListN.{length}
use lib.Seq.{sets}
use Rattle.noskjerf_days.proofs.DayLaws.{cells_put}
use Rattle.noskjerf_days.proofs.put_tally.Goals as goal
use Rattle.std.proofs.Common.{rules}

pub returns : goal.returns
returns c =
    let a = c.args in
    let n : length a.tally.bound ≡ 60 = search rules in
    c.put_masks-2.ensures ∙ ap (λ (l : List ℕ). sets l 62 a.tally.noncompetitive) c.put_masks.ensures ∙ cells_put a.cells.now a.tally n
