-- The bound for the default price of every quantity (paper 02, 2.14). Assumes nothing.
use Rattle.std.specs.Prelude.{None, Option, Some}
use mathlib.Core.Bool.{Bool, true, false, cond}
use mathlib.Core.List.{List, [], ◌∷◌}
use mathlib.Core.Path.{◌≡◌, refl, sym, ap, subst, ◌∙◌}
use Prim.Native.Nat.{ℕ, zero, suc, ◌≤◌, ◌<◌}
use native.Mathlib.Omega.{arith}
use borrow.Author.Tests.{ltb-true, ltb-false}
use lib.Dec.{ltb}
use lib.IntN.{ℤ, pos}
use lib.ListN.{length, get_or, length-take}
use lib.Seq.{get_or-take}
use lib.Signed.{◌≤ℤ◌, ◌<ℤ◌}
use Rattle.rules_number.proofs.Kit.{lit, le_by, lt_by}
use Rattle.rules_curve.specs.Curves.{blank_step, steps_of, quote, quote_from}
use Rattle.rules_curve.specs.declared.Step.{Step}
use Rattle.rules_curve.specs.declared.Curve.{Curve}
use Rattle.rules_cost.specs.Meaning.{step, edge_of, IsDefaultCurve}
use Rattle.rules_cost.specs.Costs.{cost_curve, cost_refusal}
use Rattle.rules_cost.specs.declared.Costs.{Costs}
use Rattle.rules_cost.proofs.Formula.{accepted_curve}
use Rattle.rules_rounding.specs.Ratios.{Ratio}
use Rattle.rules_rounding.specs.Unrounded.{ExactRaised}
use Rattle.rules_rounding.specs.Bound.{Rounded}
use Rattle.rules_rounding.proofs.Bounded.{rounding_bounded}

-- a price that a quantity has is that of a step: the first that ends above it
record Found (l : List Step) (q : ℕ) (x : ℤ) : Type 0 where
  at : ℕ
  among : at < length l
  its : (get_or l at blank_step).price ≡ x
  below : q < (get_or l at blank_step).end
  before : (i : ℕ) → i < at → (get_or l i blank_step).end ≤ q

abbrev priced : Option ℤ → ℤ
priced (Some x) = x
priced None = pos 0

abbrev IsPrice : Option ℤ → Type 0
IsPrice (Some x) = Unit {0}
IsPrice None = ⊥

outside_none : {X : Type 0} {x : ℤ} → None ≡ Some x → X
outside_none e = absurd (subst IsPrice (sym e) tt)

found : (l : List Step) (q : ℕ) (x : ℤ) → quote_from l q ≡ Some x → Found l q x
unfolding quote_from
found [] q x e = outside_none e
found (s ∷ l) q x e = go (ltb q s.end) refl e (found l q x)
  where
    earlier : (n : ℕ) → s.end ≤ q → ((k : ℕ) → k < n → (get_or l k blank_step).end ≤ q) → (k : ℕ) → k < suc n → (get_or (s ∷ l) k blank_step).end ≤ q
    earlier n first h zero m = first
    earlier n first h (suc k) m = h k (omega arith)

    go : (t : Bool) → ltb q s.end ≡ t → cond t (Some s.price) (quote_from l q) ≡ Some x → (quote_from l q ≡ Some x → Found l q x) → Found (s ∷ l) q x
    go true i e ih = record { at = 0; among = omega arith; its = ap priced e; below = ltb-true q s.end i; before = λ k h. absurd (omega arith) }
    go false i e ih =
        let f = ih e in
        record { at = suc f.at; among = omega (arith, f.among); its = f.its; below = f.below; before = earlier f.at (ltb-false q s.end i) f.before }

-- the price x of quantity q is that of the step of k that q lies in, and near the unrounded one of that step
pub record Bounded (c : Costs) (k : Curve) (segment : ℕ → ℕ) (q : ℕ) (x : ℤ) : Type 0 where
  pub at : ℕ
  pub among : at < k.count
  pub from : edge_of k at ≤ℤ pos q
  pub below : pos q <ℤ edge_of k (suc at)
  pub price : x ≡ (step k at).price
  pub rounded : (exact : Ratio) → ExactRaised c (edge_of k) segment at exact → Rounded c x exact

pub default_price_bounded : (c : Costs) → cost_refusal c ≡ 0 → (k : Curve) (d : IsDefaultCurve c k) (q : ℕ) (x : ℤ) → quote k.start (steps_of k) q ≡ Some x
    → Bounded c k d.segment q x
default_price_bounded c accepted k d q x e = go (ltb q k.start) refl e
  where
    own : (t : ℕ) → t < k.count → get_or (steps_of k) t blank_step ≡ step k t
    own t l = get_or-take k.count k.steps t blank_step l

    edge : (t : ℕ) → t < k.count → k.start ≤ q → ((i : ℕ) → i < t → (get_or (steps_of k) i blank_step).end ≤ q) → edge_of k t ≤ℤ pos q
    edge zero l first before = le_by (lit k.start) (lit q) (omega arith)
    edge (suc t) l first before = le_by (lit (step k t).end) (lit q) (omega (arith, before t (omega arith), ap (λ (s : Step). s.end) (own t (omega arith))))

    inside : k.start ≤ q → Found (steps_of k) q x → Bounded c k d.segment q x
    inside first f =
        let l : f.at < k.count = omega (arith, f.among, length-take k.count k.steps) in
        let price : x ≡ (step k f.at).price = sym f.its ∙ ap (λ (s : Step). s.price) (own f.at l) in
        record {
          at = f.at;
          among = l;
          from = edge f.at l first f.before;
          below = lt_by (lit q) (lit (step k f.at).end) (omega (arith, f.below, ap (λ (s : Step). s.end) (own f.at l)));
          price = price;
          rounded = λ exact amounts. rw price (rounding_bounded c accepted k d f.at l exact amounts);
        }

    go : (t : Bool) → ltb q k.start ≡ t → cond t None (quote_from (steps_of k) q) ≡ Some x → Bounded c k d.segment q x
    go true i e = outside_none e
    go false i e = inside (ltb-false q k.start i) (found (steps_of k) q x e)

-- the engine's curve is the default curve
pub engine_curve : (c : Costs) → cost_refusal c ≡ 0 → IsDefaultCurve c (cost_curve c)
engine_curve c accepted = (accepted_curve c accepted (cost_curve c)).1 (record { start = refl; count = refl; each = λ i l. refl })
