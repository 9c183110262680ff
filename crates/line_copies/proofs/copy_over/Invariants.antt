-- What the loop of `line_copies::copy_over` keeps: as many bytes, and those before the index put.
use Rattle.std.proofs.Common.{◌≡◌, length, take}
use Rattle.line_copies.proofs.copy_over.Given as goal

abbrev pub invariant-loop-k : goal.invariant-loop-k
invariant-loop-k l = (length l.into ≡ length l.bytes) × (take l.k l.into ≡ take l.k l.bytes)
