-- A resource, exactly: the number is that of the first of bid, costs or pack, 11 that is not met, and 0 exactly when all are met. Assumes nothing.
use mathlib.Core.Bool.{true}
use mathlib.Core.List.{◌++◌}
use mathlib.Core.Logic.{◌↔◌}
use mathlib.Core.Path.{◌≡◌, refl, ap, ◌∙◌}
use Prim.Native.Nat.{ℕ, zero, suc, ◌-◌, ◌≤◌, ◌<◌}
use native.Mathlib.Nat.{le_refl}
use native.Mathlib.Omega.{arith}
use lib.Dec.{leb}
use lib.IntN.{ℤ, pos, negsuc}
use lib.ListN.{length}
use lib.Signed.{◌≤ℤ◌}
use Rattle.rules_number.specs.Order.{nat_of}
use Rattle.rules_number.specs.Over.{listed}
use Rattle.rules_number.proofs.OverLaws.{listed_length, listed_at}
use Rattle.rules_curve.specs.Demands.{First, Met}
use Rattle.rules_curve.specs.Conditions.{edge, Counted, Edged, bid_demands}
use Rattle.rules_curve.specs.Curves.{steps_of, end_of, curve_of, blank_step, bid_refusal}
use Rattle.rules_curve.proofs.Answered.{same_start, raw_end}
use Rattle.rules_curve.proofs.CheckLaws.{with_used}
use Rattle.rules_number.proofs.ExactLaws.{le_z_exactly, and_exactly, iff_then}
use Rattle.rules_curve.proofs.FirstLaws.{exactly, first_then, first_more}
use Rattle.rules_curve.proofs.Exactly.{bid_first, default_first}
use Rattle.rules_cost.specs.Conditions.{m}
use Rattle.rules_cost.specs.Costs.{edge_at, mw_at, count_of_steps, cost_step, cost_curve}
use Rattle.rules_cost.specs.declared.Costs.{Costs}
use Rattle.rules_cost.proofs.Exactly.{cost_first}
use Rattle.rules_cost.proofs.EdgeLaws.{some_step, last_edge}
use Rattle.rules_opening.specs.ResourceConditions.{source_demands, default_start, default_end, Inside, resource_demands, Full}
use Rattle.rules_opening.specs.Resources.{default_by, lies_inside, resource_refusal, source_refusal}
use Rattle.rules_opening.specs.declared.Source.{Source}
use Rattle.rules_opening.specs.declared.Source.TheVariants as source
use Rattle.rules_opening.specs.declared.Resource.{Resource}
use Rattle.rules_opening.proofs.ResourceLaws.{end_last}

-- natural numbers of integers that are not negative
nat_exactly : (a b : ℤ) → pos 0 ≤ℤ a → pos 0 ≤ℤ b → (leb (nat_of a) (nat_of b) ≡ true) ↔ (a ≤ℤ b)
nat_exactly (pos a) (pos b) h k = le_z_exactly (pos a) (pos b)
nat_exactly (pos a) (negsuc b) h k = absurd k.le
nat_exactly (negsuc a) b h k = absurd h.le

-- ---- where a curve from costs ends
cost_end : (c : Costs) → 2 ≤ c.count → end_of (cost_curve c).start (steps_of (cost_curve c)) ≡ nat_of (m c (c.count - 1))
unfolding cost_curve edge_at
cost_end c h = rw (with_used (nat_of (mw_at c 0)) (listed (cost_step c) (count_of_steps c))) (go (count_of_steps c) (some_step c h) ∙ ap nat_of (last_edge c))
  where
    go : (n : ℕ) → 0 < n → end_of (nat_of (mw_at c 0)) (listed (cost_step c) n) ≡ nat_of (edge_at c n)
    go zero h = absurd (omega arith)
    go (suc n) h =
        end_last (nat_of (mw_at c 0)) n (listed (cost_step c) (suc n)) (listed_length (cost_step c) (suc n))
        ∙ ap (λ s. s.end) (listed_at (cost_step c) blank_step (suc n) n (le_refl (suc n)))

-- ---- 11, where the bid and the costs or the pack are met
module _ (x : Resource) (full : Full x) (count : Counted 10 x.bid) (edges : Edged x.bid) where
  bid_room : x.bid.count ≤ length x.bid.steps
  bid_room = omega (arith, count.at_most, full.bid)

  from_to : (s : Source) → Met (source_demands s x)
      → ((default_by s x).start ≡ nat_of (default_start s x)) × (end_of (default_by s x).start (steps_of (default_by s x)) ≡ nat_of (default_end s x))
      × (pos 0 ≤ℤ default_start s x) × (pos 0 ≤ℤ default_end s x)
  unfolding curve_of cost_curve
  from_to source.Costs met =
      let few = met.0.at_least in
      (refl, cost_end x.costs few, (met.1.0.within 0 (omega arith)).0, (met.1.0.within (x.costs.count - 1) (omega arith)).0)
  from_to source.Pack met =
      let few = met.0.at_most in
      (refl, raw_end x.pack (omega (arith, full.pack)), (met.1.0.within 0 (omega arith)).0, (met.1.0.within x.pack.count (le_refl x.pack.count)).0)

  inside_exactly : (s : Source) → Met (source_demands s x) → (lies_inside (curve_of x.bid) (default_by s x) ≡ true) ↔ Inside s x
  unfolding lies_inside
  inside_exactly s met =
      let d = from_to s met in
      rw (raw_end x.bid bid_room, same_start x.bid, d.1, d.0)
      (iff_then (and_exactly _ _ (nat_exactly (default_start s x) (edge x.bid 0) d.2 (edges.within 0 (omega arith)).0)
      (nat_exactly (edge x.bid x.bid.count) (default_end s x) (edges.within x.bid.count (le_refl x.bid.count)).0 d.3))
      (λ h. record { starts = h.0; ends = h.1 }) (λ h. (h.starts, h.ends)))

source_first : (s : Source) (x : Resource) → Full x → First (source_refusal s x) (source_demands s x)
source_first source.Costs x full = cost_first x.costs
source_first source.Pack x full = default_first x.pack full.pack

-- ---- the theorems
module _ (month : ℕ) (x : Resource) (full : Full x) where
  pub resource_first : First (resource_refusal month x) (resource_demands month x)
  unfolding resource_refusal
  resource_first =
      first_more (bid_demands month x.bid ++ source_demands x.source x) _ (lies_inside (curve_of x.bid) (default_by x.source x)) 10
      (first_then (bid_demands month x.bid) (source_demands x.source x) (bid_refusal month x.bid) (source_refusal x.source x) (bid_first x.bid full.bid month)
      (λ met. source_first x.source x full))
      (λ met. inside_exactly x full met.0 met.1.0 x.source met.1.1.1)

  -- a resource is refused with n exactly when n is the number of the first demand that it does not meet
  pub resource_exactly : (n : ℕ) → (resource_refusal month x ≡ n) ↔ First n (resource_demands month x)
  resource_exactly n = exactly (resource_demands month x) (resource_refusal month x) resource_first n
