-- Paper 01, Units, Curve, and Interval and hour: rounding up, the price of a quantity, and the mitigated curve, in full. Assumes nothing.
use Rattle.std.specs.Prelude.{None, Some, Option}
use mathlib.Core.Bool.{true}
use mathlib.Core.List.{List, [], ◌∷◌}
use mathlib.Core.Logic.{◌⊎◌, inl, inr, ◌↔◌}
use mathlib.Core.Path.{◌≡◌, refl, sym, ap, ◌∙◌}
use Prim.Native.Nat.{ℕ, zero, suc, ◌≤◌, ◌<◌}
use native.Mathlib.Omega.{arith}
use lib.IntN.{ℤ, pos, ◌-ℤ◌, ◌*ℤ◌}
use lib.ListN.{length, get_or}
use lib.Signed.{◌≤ℤ◌, ◌<ℤ◌}
use Rattle.rules_number.specs.Order.{min_z, max_z, eq_z}
use Rattle.rules_number.specs.Ceil.{ceil_div}
use Rattle.rules_number.proofs.OrderLaws.{min_le_left, min_le_right, min_least, max_ge_left, max_ge_right, max_least, eq_z_true, eq_z_same, eq_z_other}
use Rattle.rules_number.proofs.CeilSize.{ceil_ge, ceil_lt}
use Rattle.rules_number.proofs.CeilLaws.{ceil_unique}
use Rattle.rules_number.proofs.OverLaws.{never}
use Rattle.rules_curve.specs.Curves.{price_at, end_of, steps_of, quote}
use Rattle.rules_curve.specs.Meaning.{Rising, NeverBelow, NeverFalling, Sound, SoundBid}
use Rattle.rules_curve.specs.declared.Step.{Step}
use Rattle.rules_curve.specs.declared.Curve.{Curve}
use Rattle.rules_curve.proofs.PriceLaws.{price_here, price_later}
use Rattle.rules_curve.proofs.QuoteLaws.{quote_inside, quote_before, quote_past}
use Rattle.rules_mitigation.specs.Mitigation.{capped, lowered, mitigated_steps, mitigated, used_steps}
use Rattle.rules_mitigation.specs.Meaning.{Apart, Inside, IsMitigated}
use Rattle.rules_mitigation.proofs.MitigatedCurve.{mitigated_is, mitigated_only, twenty_suffice, further_cut}
use native.Mathlib.Nat.{le_trans}

-- ---- ""Up" means rounded toward plus infinity": n / w, up, is the one whole number q with q × w >= n > (q - 1) × w
pub up : (n : ℤ) (w : ℕ) → 0 < w → (q : ℤ) → (q ≡ ceil_div n w) ↔ ((n ≤ℤ (q *ℤ pos w)) × (((q -ℤ pos 1) *ℤ pos w) <ℤ n))
up n w h q = ((λ e. rw e (ceil_ge n w h, ceil_lt n w h)), λ b. ceil_unique n q w h b.0 b.1)

-- the smaller and the larger of two
pub smaller : (a b : ℤ) → (min_z a b ≤ℤ a) × (min_z a b ≤ℤ b) × ((min_z a b ≡ a) ⊎ (min_z a b ≡ b))
smaller a b = (min_le_left a b, min_le_right a b, min_least (λ x. (x ≡ a) ⊎ (x ≡ b)) a b (inl refl) (inr refl))

pub larger : (a b : ℤ) → (a ≤ℤ max_z a b) × (b ≤ℤ max_z a b) × ((max_z a b ≡ a) ⊎ (max_z a b ≡ b))
larger a b = (max_ge_left a b, max_ge_right a b, max_least (λ x. (x ≡ a) ⊎ (x ≡ b)) a b (inl refl) (inr refl))

-- whether two are the same
pub same : (a b : ℤ) → (eq_z a b ≡ true) ↔ (a ≡ b)
same a b = (eq_z_true a b, λ e. ap (λ (x : ℤ). eq_z x b) e ∙ eq_z_same b)

-- ---- steps, numbered from 0, of a curve that starts at p
abbrev pub ended : List Step → ℕ → ℕ
ended l i = (get_or l i (record { end = 0; price = pos 0 })).end

abbrev pub priced : List Step → ℕ → ℤ
priced l i = (get_or l i (record { end = 0; price = pos 0 })).price

-- the lower edge of step i
abbrev pub edge : ℕ → List Step → ℕ → ℕ
edge p l zero = p
edge p l (suc i) = ended l i

-- "Start and ends strictly rise; prices never fall."
abbrev pub Rises : ℕ → List Step → Type 0
Rises p l = (i : ℕ) → i < length l → edge p l i < ended l i

abbrev pub NeverFalls : List Step → Type 0
NeverFalls l = (i : ℕ) → suc i < length l → priced l i ≤ℤ priced l (suc i)

-- no two neighbours have one price
abbrev pub Differ : List Step → Type 0
Differ l = (i : ℕ) → suc i < length l → priced l i ≡ priced l (suc i) → ⊥

-- ---- the mitigated curve
-- x is the price that the bid price b and the default price d become: "the smaller of its present price and its cap, the higher of default price and L. Otherwise it stays."
abbrev pub Becomes : Option ℤ → ℤ → ℤ → ℤ → Type 0
Becomes floor b d x = (floor ≡ None → x ≡ b) × ((L : ℤ) → floor ≡ Some L → x ≡ min_z b (max_z d L))

-- what 1 to 3 leave of a curve of so many steps at most
abbrev pub Good : ℕ → Curve → Type 0
Good most c = (length (steps_of c) ≤ most) × Rises c.start (steps_of c) × NeverFalls (steps_of c)

-- where it ends
abbrev pub end : Curve → ℕ
end c = end_of c.start (steps_of c)

-- the curve that starts at p and has the steps l is the bid, each quantity at that price
abbrev pub Mitigates : Option ℤ → Curve → Curve → ℕ → List Step → Type 0
Mitigates floor bid default p l =
    (p ≡ bid.start) × (end_of p l ≡ end bid)
    × ((q : ℕ) → bid.start ≤ q → q < end bid → Becomes floor (price_at (steps_of bid) q) (price_at (steps_of default) q) (price_at l q))
    × Rises p l × NeverFalls l × Differ l

-- ---- from the theorems
rises_later : (p : ℕ) (s : Step) (l : List Step) → Rises p (s ∷ l) → Rises s.end l
rises_later p s l h zero k = h 1 (omega arith)
rises_later p s l h (suc i) k = h (suc (suc i)) (omega arith)

pub rises : (p : ℕ) (l : List Step) → Rising p l ↔ Rises p l
rises p l = (there p l, back p l)
  where
    there : (p : ℕ) (l : List Step) → Rising p l → Rises p l
    there p [] r i h = absurd (omega arith)
    there p (s ∷ l) r zero h = r.0
    there p (s ∷ l) r (suc zero) h = there s.end l r.1 zero (omega arith)
    there p (s ∷ l) r (suc (suc i)) h = there s.end l r.1 (suc i) (omega arith)

    back : (p : ℕ) (l : List Step) → Rises p l → Rising p l
    back p [] h = tt
    back p (s ∷ l) h = (h 0 (omega arith), back s.end l (rises_later p s l h))

pub never_falls : (l : List Step) → NeverFalling l ↔ NeverFalls l
never_falls [] = ((λ b i h. absurd (omega arith)), λ h. tt)
never_falls (s ∷ l) = (there s l, back s l)
  where
    there : (s : Step) (l : List Step) → NeverBelow s.price l → NeverFalls (s ∷ l)
    there s [] b i h = absurd (omega arith)
    there s (t ∷ l) b zero h = b.0
    there s (t ∷ l) b (suc i) h = there t l b.1 i (omega arith)

    back : (s : Step) (l : List Step) → NeverFalls (s ∷ l) → NeverBelow s.price l
    back s [] h = tt
    back s (t ∷ l) h = (h 0 (omega arith), back t l (λ i k. h (suc i) (omega arith)))

pub differ : (l : List Step) → Apart l ↔ Differ l
differ l = (there l, back l)
  where
    there : (l : List Step) → Apart l → Differ l
    there [] a i h e = omega arith
    there (s ∷ []) a i h e = omega arith
    there (s ∷ t ∷ l) a zero h e = never (sym a.0 ∙ ap (λ (x : ℤ). eq_z x t.price) e ∙ eq_z_same t.price)
    there (s ∷ t ∷ l) a (suc i) h e = there (t ∷ l) a.1 i (omega arith) e

    back : (l : List Step) → Differ l → Apart l
    back [] h = tt
    back (s ∷ []) h = tt
    back (s ∷ t ∷ l) h = (eq_z_other s.price t.price (h 0 (omega arith)), back (t ∷ l) (λ i k. h (suc i) (omega arith)))

-- ---- "Quantity q has the price of the step with lower edge <= q < end."
from_start : (p : ℕ) (l : List Step) → Rises p l → (i : ℕ) → i ≤ length l → p ≤ edge p l i
from_start p l r zero h = omega arith
from_start p l r (suc i) h = let k = r i h in omega (arith, from_start p l r i (omega arith))

pub price_of_step : (p : ℕ) (l : List Step) → Rises p l → (i q : ℕ) → i < length l → edge p l i ≤ q → q < ended l i → price_at l q ≡ priced l i
price_of_step p [] r i q h k m = absurd (omega arith)
price_of_step p (s ∷ l) r zero q h k m = price_here s l q m
price_of_step p (s ∷ l) r (suc zero) q h k m = price_later s l q k ∙ price_of_step s.end l (rises_later p s l r) zero q (omega arith) k m
price_of_step p (s ∷ l) r (suc (suc i)) q h k m =
    let e = from_start s.end l (rises_later p s l r) (suc i) (omega arith) in
    price_later s l q (omega arith) ∙ price_of_step s.end l (rises_later p s l r) (suc i) q (omega arith) k m

-- it has none before the start and none from the end on
pub price_or_none : (p : ℕ) (l : List Step) → Rises p l → (q : ℕ)
    → (q < p → quote p l q ≡ None) × (p ≤ q → q < end_of p l → quote p l q ≡ Some (price_at l q)) × (end_of p l ≤ q → quote p l q ≡ None)
price_or_none p l r q = (quote_before p l q, quote_inside p l q, quote_past p l q ((rises p l).1 r))

becomes : (floor : Option ℤ) (b d x : ℤ) → (x ≡ capped floor b d) ↔ Becomes floor b d x
becomes floor b d x =
    ((λ e. ((λ q. e ∙ ap (λ (f : Option ℤ). capped f b d) q), λ L q. e ∙ ap (λ (f : Option ℤ). capped f b d) q)), back floor)
  where
    back : (floor : Option ℤ) → Becomes floor b d x → x ≡ capped floor b d
    back None h = h.0 refl
    back (Some L) h = h.1 L refl

pub mitigates : (floor : Option ℤ) (bid default : Curve) (p : ℕ) (l : List Step) → IsMitigated floor bid default p l ↔ Mitigates floor bid default p l
mitigates floor bid default p l = (
  (λ h. (
    h.starts,
    h.ends,
    (λ q a b. (becomes floor _ _ _).0 (h.price q a b)),
    (rises p l).0 h.rising,
    (never_falls l).0 h.never_falling_lem,
    (differ l).0 h.apart,
  )),
  λ h. record {
    starts = h.0;
    ends = h.1;
    price = λ q a b. (becomes floor _ _ _).1 (h.2 q a b);
    rising = (rises p l).1 h.3;
    never_falling_lem = (never_falls l).1 h.4;
    apart = (differ l).1 h.5;
  },
)

sound : (most : ℕ) → most ≤ 11 → (c : Curve) → Good most c → Sound c
sound most room c g = record { few = le_trans g.0 room; rising = (rises c.start (steps_of c)).1 g.1; never_falling_lem = (never_falls (steps_of c)).1 g.2 }

sound_bid : (c : Curve) → Good 10 c → SoundBid c
sound_bid c g = record { few = g.0; sound = sound 10 (omega arith) c g }

pub sound_default : (c : Curve) → Good 11 c → Sound c
sound_default c g = sound 11 (omega arith) c g

-- a bid of at most 10 steps and a default curve of at most 11
module _ (bid default : Curve) (b : Good 10 bid) (d : Good 11 default) (starts : default.start ≤ bid.start) (ends : end bid ≤ end default) where
  inside : Inside bid default
  inside = record { begins = starts; ends = ends }

  -- it is the only such curve: "Neighbouring steps with one price are merged"
  pub mitigated_curve : (floor : Option ℤ) (p : ℕ) (l : List Step)
      → ((p ≡ (mitigated floor bid default).start) × (l ≡ used_steps (mitigated floor bid default))) ↔ Mitigates floor bid default p l
  mitigated_curve floor p l =
      let is = mitigated_is floor bid default (sound_bid bid b) (sound_default default d) inside in (
        (λ e. (mitigates floor bid default p l).0 (rw (e.0, e.1) is)),
        λ h. (h.0 ∙ sym is.starts, mitigated_only floor bid default (sound_bid bid b) (sound_default default d) inside p l ((mitigates floor bid default p l).1 h)),
      )

  -- "A default curve may so have 11 steps, a mitigated one 20"
  pub twenty : (floor : Option ℤ) → (mitigated floor bid default).count ≤ 20
  twenty floor = twenty_suffice floor bid default (sound_bid bid b) (sound_default default d) inside

  -- "An hour takes an interval and becomes the next hour, so a cut made earlier carries on."
  pub carries_on : (floor k : Option ℤ) (q : ℕ) → bid.start ≤ q → q < end bid
      → Becomes k (price_at (mitigated_steps floor bid default) q) (price_at (steps_of default) q) (price_at (mitigated_steps (lowered floor k) bid default) q)
  carries_on floor k q h m = (becomes k _ _ _).0 (further_cut floor k bid default (sound_bid bid b) inside q h m)
