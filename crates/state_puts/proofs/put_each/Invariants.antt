-- What the loop of `state_puts::put_each` keeps: the numbers of the floors before its index are put.
use Rattle.std.proofs.Common.{◌≡◌, ℤ, Option}
use Rattle.rules_hour.specs.declared.Floor.{Floor}
use Rattle.state_puts.proofs.FloorLaws.{Puts}
use Rattle.state_puts.proofs.put_each.Given as goal

abbrev pub invariant-loop-r : goal.invariant-loop-r
invariant-loop-r g l =
    (value : Option ℤ → ℤ) → ((price : Option ℤ) (x : ℤ) → goal.F-post g l.number price x → x ≡ value price) → Puts (λ (f : Floor). value f.price) l.floors l.initial.state l.at l.state l.r
