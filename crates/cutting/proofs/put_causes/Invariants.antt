use Rattle.std.proofs.Common.{◌≡◌, ℕ, List, length}
use Rattle.rules_number.specs.Over.{listed}
use Rattle.rules_state.specs.Layout.{most_resources, cause_width}
use Rattle.interval.specs.Over.{lent_interval}
use Rattle.cells.proofs.PutLaws.{BlocksLeft}
use Rattle.cutting.specs.Entering.{cause_over}
use Rattle.cutting.proofs.put_causes.Given as goal

-- the resources in turn
abbrev pub all : List ℕ
all = listed (λ r. r) most_resources

-- what is left is to put the causes from r on
abbrev pub invariant-loop-r : goal.invariant-loop-r
invariant-loop-r l =
    (length l.causes ≡ length l.initial.causes)
    × BlocksLeft (cause_over (lent_interval l.asked) l.entering) cause_width all l.initial.causes 0 l.causes l.r
