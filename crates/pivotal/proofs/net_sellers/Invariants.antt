use Rattle.std.proofs.Common.{◌≡◌, eqb}
use Rattle.rules_path.specs.Paths.{at}
use Rattle.rules_mask.specs.Masks.{set_of}
use Rattle.rules_state.specs.States.{market_in}
use Rattle.pivotal.proofs.net_sellers.Given as goal

-- the net sellers before p
abbrev pub invariant-loop-p : goal.invariant-loop-p
invariant-loop-p l = l.set ≡ set_of (λ q. eqb (at (market_in l.state).seller q) 1) l.p
