-- The step that holds a quantity of a curve as it was read, and the price there. Assumes nothing.
use mathlib.Core.List.{List, [], ◌∷◌, map}
use mathlib.Core.Logic.{⊎_elim}
use mathlib.Core.Path.{◌≡◌, refl, ap, ◌∙◌}
use Prim.Native.Nat.{ℕ, zero, suc, ◌≤◌, ◌<◌}
use native.Mathlib.Nat.{le_refl, le_trans}
use native.Mathlib.Omega.{arith}
use lib.IntN.{ℤ, pos, negsuc}
use lib.ListN.{length, take}
use lib.Signed.{◌≤ℤ◌, ◌<ℤ◌, ≤ℤ_refl}
use Rattle.rules_number.specs.Order.{nat_of}
use Rattle.rules_number.proofs.Kit.{lt_of, ≤ℤ_trans}
use Rattle.rules_number.proofs.OverLaws.{le_or_lt, last_or_before}
use Rattle.rules_curve.specs.Conditions.{edge, price, Edged}
use Rattle.rules_curve.specs.Curves.{steps_of, step_of, end_of, price_at, curve_of}
use Rattle.rules_curve.specs.Meaning.{NeverBelow, NeverFalling}
use Rattle.rules_curve.specs.declared.RawStep.{RawStep}
use Rattle.rules_curve.specs.declared.RawCurve.{RawCurve}
use Rattle.rules_curve.specs.declared.Step.{Step}
use Rattle.rules_curve.proofs.Answered.{same_start, same_steps, raw_end}
use Rattle.rules_curve.proofs.PriceLaws.{price_here, price_later, below_later}
use Rattle.rules_contract.specs.Meaning.{Within, price_in}

-- step i of curve c holds quantity q
pub record Holds (c : RawCurve) (i q : ℕ) : Type 0 where
  pub among : i < c.count
  pub from : nat_of (edge c i) ≤ q
  pub to : q < nat_of (edge c (suc i))

-- some step does, and q has its price in the steps l
pub record Held (c : RawCurve) (l : List Step) (q : ℕ) : Type 0 where
  pub at : ℕ
  pub holds : Holds c at q
  pub priced : price_at l q ≡ price c at

abbrev read : ℤ → ℕ → List RawStep → RawCurve
read p n l = record { start = p; count = n; steps = l }

edge_later : (p : ℤ) (n : ℕ) (s : RawStep) (l : List RawStep) (i : ℕ) → edge (read p (suc n) (s ∷ l)) (suc i) ≡ edge (read s.end n l) i
edge_later p n s l zero = refl
edge_later p n s l (suc i) = refl

held_later : (p : ℤ) (n : ℕ) (s : RawStep) (l : List RawStep) (q : ℕ) → nat_of s.end ≤ q → Held (read s.end n l) (map step_of (take n l)) q
    → Held (read p (suc n) (s ∷ l)) (map step_of (take (suc n) (s ∷ l))) q
held_later p n s l q x h = record {
  at = suc h.at;
  holds = record { among = let k = h.holds.among in omega arith; from = rw (edge_later p n s l h.at) h.holds.from; to = h.holds.to };
  priced = price_later (step_of s) (map step_of (take n l)) q x ∙ h.priced;
}

held_in : (p : ℤ) (n : ℕ) (l : List RawStep) (q : ℕ) → n ≤ length l → nat_of p ≤ q → q < end_of (nat_of p) (map step_of (take n l)) → Held (read p n l) (map step_of (take n l)) q
held_in p zero l q h x y = absurd (omega arith)
held_in p (suc n) [] q h x y = absurd (omega arith)
held_in p (suc n) (s ∷ l) q h x y =
    ⊎_elim
    (λ k. held_later p n s l q k (held_in s.end n l q (omega arith) k y))
    (λ k. record { at = 0; holds = record { among = omega arith; from = x; to = k }; priced = price_here (step_of s) (map step_of (take n l)) q k })
    (le_or_lt (nat_of s.end) q)

-- ---- the edges as quantities
nat_le : (x y : ℤ) → x <ℤ y → nat_of x ≤ nat_of y
nat_le (pos a) (pos b) h = omega (arith, lt_of h)
nat_le (pos a) (negsuc b) h = omega (arith, lt_of h)
nat_le (negsuc a) y h = omega arith

nat_lt : (x y : ℤ) → pos 0 ≤ℤ x → x <ℤ y → nat_of x < nat_of y
nat_lt (pos a) (pos b) z h = omega (arith, lt_of h)
nat_lt (pos a) (negsuc b) z h = omega (arith, lt_of h)
nat_lt (negsuc a) y z h = absurd z.le

pub edges_up : (c : RawCurve) → Edged c → (i j : ℕ) → i ≤ j → j ≤ c.count → nat_of (edge c i) ≤ nat_of (edge c j)
edges_up c e i zero h k = let z : i ≡ 0 = omega arith in rw z (le_refl (nat_of (edge c 0)))
edges_up c e i (suc j) h k =
    ⊎_elim
    (λ z. rw z (le_refl (nat_of (edge c (suc j)))))
    (λ l. le_trans (edges_up c e i j (omega arith) (omega arith)) (nat_le (edge c j) (edge c (suc j)) (e.rising j k)))
    (last_or_before i (suc j) (omega arith))

-- ---- a curve as it was read, whose edges rise
module _ (c : RawCurve) (room : c.count ≤ length c.steps) where
  pub held : (q : ℕ) → Within (curve_of c) q → Held c (steps_of (curve_of c)) q
  held q w =
      rw (same_steps c)
      (held_in c.start c.count c.steps q room (rw (same_start c) at w.0) (rw (same_start c, same_steps c) at w.1))

  module _ (e : Edged c) where
    -- a step holds its lower edge
    pub lower_edge : (i : ℕ) → i < c.count → Holds c i (nat_of (edge c i))
    lower_edge i h = record {
      among = h;
      from = le_refl (nat_of (edge c i));
      to = nat_lt (edge c i) (edge c (suc i)) (e.within i (omega arith)).0 (e.rising i h);
    }

    pub within : (i q : ℕ) → Holds c i q → Within (curve_of c) q
    within i q h = (
      omega (arith, same_start c, edges_up c e 0 i (omega arith) (let k = h.among in omega arith), h.from),
      omega (arith, raw_end c room, edges_up c e (suc i) c.count h.among (le_refl c.count), h.to),
    )

    below : (i j q : ℕ) → Holds c i q → Holds c j q → i ≤ j
    below i j q h k =
        ⊎_elim (λ x. x) (λ x. absurd (omega (arith, edges_up c e (suc j) i x (let l = h.among in omega arith), h.from, k.to))) (le_or_lt i j)

    -- a quantity has the price of the step that holds it
    pub price_of_lem : (i q : ℕ) → Holds c i q → price_in (curve_of c) q ≡ price c i
    price_of_lem i q h =
        let k = held q (within i q h) in
        let same : k.at ≡ i = omega (arith, below i k.at q h k.holds, below k.at i q k.holds h) in
        k.priced ∙ ap (price c) same

-- ---- prices that never fall, by quantity
at_least : (m : ℤ) (p : ℕ) (l : List Step) (q : ℕ) → NeverBelow m l → p ≤ q → q < end_of p l → m ≤ℤ price_at l q
at_least m p [] q b h k = absurd (omega arith)
at_least m p (s ∷ l) q b h k =
    ⊎_elim
    (λ x. rw (price_later s l q x) (≤ℤ_trans b.0 (at_least s.price s.end l q b.1 x k)))
    (λ x. rw (price_here s l q x) b.0)
    (le_or_lt s.end q)

pub price_mono : (p : ℕ) (l : List Step) (q r : ℕ) → NeverFalling l → p ≤ q → q ≤ r → r < end_of p l → price_at l q ≤ℤ price_at l r
price_mono p [] q r f h k m = absurd (omega arith)
price_mono p (s ∷ l) q r f h k m =
    ⊎_elim
    (λ x. rw (price_later s l q x, price_later s l r (omega arith)) (price_mono s.end l q r (below_later s.price l f) x k m))
    (λ x. rw (price_here s l q x) (at_least s.price p (s ∷ l) r (≤ℤ_refl s.price, f) (omega arith) m))
    (le_or_lt s.end q)
