use Rattle.std.proofs.Common.{◌≡◌, false, pos}
use Rattle.std.specs.Int.Signed.{lt_z}
use Rattle.rules_library.specs.Slices.{cell_at}
use Rattle.rules_pivotal.specs.Pivotals.{any_to}
use Rattle.pivotal.proofs.any_binds.Given as goal

-- none before c binds
abbrev pub invariant-loop-c : goal.invariant-loop-c
invariant-loop-c l = any_to (λ k. lt_z (pos 0) (cell_at l.shadow k)) l.c ≡ false
