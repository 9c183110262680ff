use Rattle.std.proofs.Common.{◌≡◌, leb, true}
use Rattle.rules_number.specs.Over.{all_to}
use Rattle.pivotal.specs.Rows.{lack_at, withheld_at}
use Rattle.pivotal.proofs.works.Given as goal

-- the constraints before c are left short
abbrev pub invariant-loop-c : goal.invariant-loop-c
invariant-loop-c l = all_to (λ k. leb (lack_at l.rows k) (withheld_at l.rows l.s k)) l.c ≡ true
