-- What the loop of `verdict_page::next_seller` keeps, and its measure.
use Rattle.std.specs.Prelude.{ℕ, Option}
use Rattle.std.proofs.Common.{◌≡◌, ◌-◌, ◌/◌, ◌^◌, ◌≤◌}
use Rattle.rules_page.specs.Weights.{leads}
use Rattle.verdict_page.specs.Orders.{weight_in, is_left}
use Rattle.verdict_page.specs.Shown.{withheld_in}
use Rattle.verdict_page.proofs.next_seller.Given as goal

abbrev pub invariant-loop-p : goal.invariant-loop-p
invariant-loop-p l = (◌≡◌ {A = Option ℕ} l.best (leads (weight_in (withheld_in l.verdicts l.c)) (is_left l.left) l.p)) × (l.rest ≡ l.left / 2 ^ l.p) × (l.p ≤ 16)

abbrev pub decreases-loop-p : goal.decreases-loop-p
decreases-loop-p l = 16 - l.p
