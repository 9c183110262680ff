-- What a mitigated curve is: its price, its ends, its size, one further cut, and that it is the only such curve.
use Rattle.std.specs.Prelude.{None, Option, Some}
use mathlib.Core.Bool.{true, false}
use mathlib.Core.List.{List, [], ◌∷◌}
use mathlib.Core.Logic.{◌⊎◌, inl, inr, ⊎_elim}
use mathlib.Core.Path.{◌≡◌, refl, ap, ap₂, sym, ◌∙◌}
use Prim.Native.Nat.{ℕ, ◌+◌, ◌<◌, ◌≤◌}
use native.Mathlib.Nat.{le_refl}
use native.Mathlib.Omega.{arith}
use lib.IntN.{ℤ}
use lib.ListN.{length, length-take}
use Rattle.rules_number.specs.Order.{eq_z, min_z, max_z}
use Rattle.rules_number.proofs.OrderLaws.{eq_z_same, eq_z_cases, caps_join}
use Rattle.rules_number.proofs.OverLaws.{le_or_lt, padded_used}
use Rattle.rules_curve.proofs.CheckLaws.{bid_steps_lem}
use Rattle.rules_curve.proofs.PriceLaws.{price_here, price_later, within_end, rising_end}
use Rattle.rules_curve.specs.Curves.{most_steps, most_bid_steps, price_at, step_to, blank_step, steps_of, bid_steps, end_of}
use Rattle.rules_mitigation.specs.Mitigation.{capped, lowered, segments, joined, joined_after, mitigated_steps, most_mitigated_steps, mitigated, used_steps}
use Rattle.rules_curve.specs.Meaning.{Rising}
use Rattle.rules_mitigation.specs.Meaning.{Apart}
use Rattle.rules_curve.specs.declared.Step.{Step}
use Rattle.rules_curve.specs.declared.Curve.{Curve}
use Rattle.rules_mitigation.proofs.SegmentLaws.{segments_length, joined_same, joined_other, merged_price, segments_end, joined_length, joined_end, reaches_end, segments_none}

module _ (floor : Option ℤ) (bid default : Curve) where
  -- 20 steps suffice, whatever the bid
  pub mitigated_length : length (steps_of default) ≤ most_steps → (mitigated floor bid default).count ≤ most_mitigated_steps
  unfolding mitigated
  mitigated_length r =
      let bs = bid_steps bid in
      let ds = steps_of default in
      omega (arith, length-take most_bid_steps (steps_of bid), joined_length (segments (capped floor) bid.start bs ds), segments_length (capped floor) (length bs + length ds) bid.start bs ds)

  -- those of a bid of at most ten steps
  pub mitigated_all : length (steps_of bid) ≤ most_bid_steps → mitigated_steps floor bid default ≡ joined (segments (capped floor) bid.start (steps_of bid) (steps_of default))
  mitigated_all few = rw (bid_steps_lem bid few)

  pub mitigated_used : used_steps (mitigated floor bid default) ≡ mitigated_steps floor bid default
  unfolding mitigated
  mitigated_used = padded_used most_mitigated_steps blank_step (mitigated_steps floor bid default)

  module _ (few : length (steps_of bid) ≤ most_bid_steps) (rising : Rising bid.start (steps_of bid)) (begins : default.start ≤ bid.start)
      (covered : end_of bid.start (steps_of bid) ≤ end_of default.start (steps_of default)) where
    -- the curve ends where its bid does
    pub mitigated_end : end_of bid.start (mitigated_steps floor bid default) ≡ end_of bid.start (steps_of bid)
    mitigated_end =
        ap (end_of bid.start) (mitigated_all few) ∙ joined_end bid.start (segments (capped floor) bid.start (steps_of bid) (steps_of default))
        ∙ go (steps_of bid) (steps_of default) rising covered
      where
        go : (bs ds : List Step) → Rising bid.start bs → end_of bid.start bs ≤ end_of default.start ds
            → end_of bid.start (segments (capped floor) bid.start bs ds) ≡ end_of bid.start bs
        go [] ds r k = segments_none (capped floor) _ bid.start ds
        go (b ∷ bs) [] r k = absurd (omega (arith, rising_end b.end bs r.1, r.0))
        go (b ∷ bs) (d ∷ ds) r k = segments_end (capped floor) _ bid.start (b ∷ bs) (d ∷ ds) (omega arith) r (reaches_end default.start _ d ds k)

    -- each quantity's price is the smaller of its price in the bid and its cap
    pub mitigated_price : (q : ℕ) → bid.start ≤ q → q < end_of bid.start (steps_of bid)
        → price_at (mitigated_steps floor bid default) q ≡ capped floor (price_at (steps_of bid) q) (price_at (steps_of default) q)
    mitigated_price q h k =
        ap (λ (l : List Step). price_at l q) (mitigated_all few) ∙ merged_price (capped floor) bid.start (steps_of bid) (steps_of default) q rising h
        (within_end bid.start (steps_of bid) q h k)
        (within_end default.start (steps_of default) q (omega arith) (omega arith))

-- a further cut: the smaller of the price so far and the higher of default and floor price
pub capped_lowered : (floor : Option ℤ) (l b d : ℤ) → capped (lowered floor (Some l)) b d ≡ min_z (capped floor b d) (max_z d l)
capped_lowered None l b d = refl
capped_lowered (Some k) l b d = sym (caps_join b d k l)

pub capped_again : (floor k : Option ℤ) (b d : ℤ) → capped (lowered floor k) b d ≡ capped k (capped floor b d) d
capped_again floor None b d = refl
capped_again floor (Some l) b d = capped_lowered floor l b d

-- one interval: each quantity's price becomes the smaller of its present price and its cap, or stays
module _ (floor k : Option ℤ) (bid default : Curve) (few : length (steps_of bid) ≤ most_bid_steps) (rising : Rising bid.start (steps_of bid)) (begins : default.start ≤ bid.start)
    (covered : end_of bid.start (steps_of bid) ≤ end_of default.start (steps_of default)) where
  pub cut_price : (q : ℕ) → bid.start ≤ q → q < end_of bid.start (steps_of bid)
      → price_at (mitigated_steps (lowered floor k) bid default) q ≡ capped k (price_at (mitigated_steps floor bid default) q) (price_at (steps_of default) q)
  cut_price q h z =
      mitigated_price (lowered floor k) bid default few rising begins covered q h z
      ∙ capped_again floor k (price_at (steps_of bid) q) (price_at (steps_of default) q)
      ∙ ap (λ (x : ℤ). capped k x (price_at (steps_of default) q)) (sym (mitigated_price floor bid default few rising begins covered q h z))

pub apart_later : (s : Step) (l : List Step) → Apart (s ∷ l) → Apart l
apart_later s [] a = tt
apart_later s (t ∷ l) a = a.1

-- the first step after joining keeps its price
data Headed (s : Step) : List Step → Type 0 where
  headed : {t : Step} {l : List Step} → t.price ≡ s.price → Apart (t ∷ l) → Headed s (t ∷ l)

joined_after_apart : (s : Step) (l : List Step) → Headed s (joined_after s l)
unfolding joined_after
joined_after_apart s [] = headed refl tt
joined_after_apart s (t ∷ l) =
    ⊎_elim (λ e. rw (joined_same s t l e) (same e (joined_after_apart t l))) (λ e. rw (joined_other s t l e) (other e (joined_after_apart t l))) (eq_z_cases s.price t.price)
  where
    same : {k : List Step} → s.price ≡ t.price → Headed t k → Headed s k
    same e (headed q a) = headed (q ∙ sym e) a

    other : {k : List Step} → eq_z s.price t.price ≡ false → Headed t k → Headed s (s ∷ k)
    other e (headed {t = x} {l = k} q a) = let p : Apart (s ∷ x ∷ k) = (rw q e, a) in headed {t = s} {l = x ∷ k} refl p

pub joined_apart : (l : List Step) → Apart (joined l)
unfolding joined
joined_apart [] = tt
joined_apart (s ∷ l) = go (joined_after_apart s l)
  where
    go : {k : List Step} → Headed s k → Apart k
    go (headed q a) = a

-- ---- the only such curve
price_first : (p : ℕ) (s : Step) (l : List Step) → Rising p (s ∷ l) → price_at (s ∷ l) p ≡ s.price
price_first p s l r = price_here s l p r.0

-- past the first step of a curve that goes on, the price is another one
price_second : (p : ℕ) (s : Step) (l : List Step) → Rising p (s ∷ l) → Apart (s ∷ l) → s.end < end_of p (s ∷ l) → price_at (s ∷ l) s.end ≡ s.price → ⊥
price_second p s [] r a h e = omega arith
price_second p s (t ∷ l) r a h e =
    let x : t.price ≡ s.price = sym (price_first s.end t l r.1) ∙ sym (price_later s (t ∷ l) s.end (le_refl s.end)) ∙ e in
    let y : eq_z s.price t.price ≡ true = rw x (eq_z_same s.price) in
    let z : ◌≡◌ {A = ℕ} 0 1 = cc (y, a.0) in
    omega arith

-- Two curves that rise from p, keep neighbours apart, end at one place and have one price at each quantity are one.
pub only_curve : (p : ℕ) (k l : List Step) → Rising p k → Rising p l → Apart k → Apart l → end_of p k ≡ end_of p l
    → ((q : ℕ) → p ≤ q → q < end_of p k → price_at k q ≡ price_at l q) → k ≡ l
only_curve p [] [] rk rl ak al e f = refl
only_curve p [] (t ∷ l) rk rl ak al e f = absurd (omega (arith, rising_end t.end l rl.1, rl.0))
only_curve p (s ∷ k) [] rk rl ak al e f = absurd (omega (arith, rising_end s.end k rk.1, rk.0))
only_curve p (s ∷ k) (t ∷ l) rk rl ak al e f = go (le_or_lt s.end t.end) (le_or_lt t.end s.end) (λ g u. only_curve s.end k l rk.1 g (apart_later s k ak) (apart_later t l al) u)
  where
    last : s.end ≤ end_of p (s ∷ k)
    last = rising_end s.end k rk.1

    other : t.end ≤ end_of p (t ∷ l)
    other = rising_end t.end l rl.1

    first : s.price ≡ t.price
    first = sym (price_first p s k rk) ∙ f p (le_refl p) (omega (arith, rk.0, last)) ∙ price_first p t l rl

    go : (s.end ≤ t.end) ⊎ (t.end < s.end) → (t.end ≤ s.end) ⊎ (s.end < t.end)
        → (Rising s.end l → end_of s.end k ≡ end_of s.end l → ((q : ℕ) → s.end ≤ q → q < end_of s.end k → price_at k q ≡ price_at l q) → k ≡ l)
        → s ∷ k ≡ t ∷ l
    go (inr h) (inl b) ih =
        absurd (price_second p t l rl al (omega (arith, last)) (sym (f t.end (omega (arith, rl.0)) (omega (arith, last))) ∙ price_here s k t.end h ∙ first))
    go (inr h) (inr b) ih = absurd (omega arith)
    go (inl a) (inr h) ih =
        absurd (price_second p s k rk ak (omega (arith, other)) (f s.end (omega (arith, rk.0)) (omega (arith, other)) ∙ price_here t l s.end h ∙ sym first))
    go (inl a) (inl b) ih =
        let same : s.end ≡ t.end = omega arith in
        let step : s ≡ t = ap₂ step_to same first in
        ap₂ (λ (x : Step) (y : List Step). x ∷ y) step
        (ih (rw same rl.1) (e ∙ ap (λ (x : ℕ). end_of x l) (sym same))
        (λ q h z. sym (price_later s k q h) ∙ f q (omega (arith, rk.0)) z ∙ price_later t l q (omega arith)))
