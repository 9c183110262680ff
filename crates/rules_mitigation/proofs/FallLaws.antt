-- Prices that never fall: in the segments of two curves, and after joining. Assumes nothing.
use Rattle.std.specs.Prelude.{None, Option, Some}
use mathlib.Core.List.{List, [], ◌∷◌}
use mathlib.Core.Logic.{⊎_elim}
use Prim.Native.Nat.{ℕ, zero, suc}
use lib.IntN.{ℤ}
use lib.Signed.{◌≤ℤ◌, ≤ℤ_refl}
use Rattle.rules_number.proofs.Kit.{≤ℤ_trans}
use Rattle.rules_number.proofs.OrderLaws.{min_mono, max_mono, eq_z_cases}
use Rattle.rules_mitigation.specs.Mitigation.{capped, segments_n, joined, joined_after}
use Rattle.rules_curve.specs.Meaning.{NeverBelow, NeverFalling}
use Rattle.rules_curve.specs.declared.Step.{Step}
use Rattle.rules_curve.proofs.PriceLaws.{below_later}
use Rattle.rules_mitigation.proofs.SegmentLaws.{segments_cases, joined_same, joined_other}

-- f grows with each of the two prices
abbrev pub Growing : (ℤ → ℤ → ℤ) → Type 0
Growing f = (a b c d : ℤ) → a ≤ℤ c → b ≤ℤ d → f a b ≤ℤ f c d

pub capped_growing : (floor : Option ℤ) → Growing (capped floor)
capped_growing None a b c d h k = h
capped_growing (Some l) a b c d h k = min_mono h (max_mono k (≤ℤ_refl l))

-- p is at most the first price of the segments
AtMostFirst : (ℤ → ℤ → ℤ) → ℤ → List Step → List Step → Type 0
AtMostFirst f p [] ds = Unit {0}
AtMostFirst f p (b ∷ bs) [] = Unit {0}
AtMostFirst f p (b ∷ bs) (d ∷ ds) = p ≤ℤ f b.price d.price

module _ (f : ℤ → ℤ → ℤ) (grows : Growing f) where
  -- past the first step of the default curve, and of the bid
  default_on : (p : ℤ) (b : Step) (bs : List Step) (d : Step) (ds : List Step) → p ≤ℤ f b.price d.price → NeverBelow d.price ds
      → AtMostFirst f p (b ∷ bs) ds
  unfolding AtMostFirst
  default_on p b bs d [] h n = tt
  default_on p b bs d (e ∷ ds) h n = ≤ℤ_trans h (grows b.price d.price b.price e.price (≤ℤ_refl b.price) n.0)

  bid_on : (p : ℤ) (b : Step) (bs : List Step) (d : Step) (ds : List Step) → p ≤ℤ f b.price d.price → NeverBelow b.price bs
      → AtMostFirst f p bs (d ∷ ds)
  unfolding AtMostFirst
  bid_on p b [] d ds h n = tt
  bid_on p b (a ∷ bs) d ds h n = ≤ℤ_trans h (grows b.price d.price a.price d.price n.0 (≤ℤ_refl d.price))

  segments_below : (n at : ℕ) (bs ds : List Step) (p : ℤ) → AtMostFirst f p bs ds → NeverFalling bs → NeverFalling ds → NeverBelow p (segments_n f n at bs ds)
  unfolding segments_n AtMostFirst
  segments_below zero at bs ds p h x y = tt
  segments_below (suc n) at [] ds p h x y = tt
  segments_below (suc n) at (b ∷ bs) [] p h x y = tt
  segments_below (suc n) at (b ∷ bs) (d ∷ ds) p h x y =
      let here = ≤ℤ_refl (f b.price d.price) in
      segments_cases f n at b bs d ds (NeverBelow p)
      (λ k. segments_below n at (b ∷ bs) ds p (default_on p b bs d ds h y) x (below_later d.price ds y))
      (λ k k'. (h, segments_below n d.end (b ∷ bs) ds (f b.price d.price) (default_on _ b bs d ds here y) x (below_later d.price ds y)))
      (λ k k'. (h, segments_below n b.end bs (d ∷ ds) (f b.price d.price) (bid_on _ b bs d ds here x) (below_later b.price bs x) y))

  pub segments_never_fall : (n at : ℕ) (bs ds : List Step) → NeverFalling bs → NeverFalling ds → NeverFalling (segments_n f n at bs ds)
  unfolding segments_n AtMostFirst
  segments_never_fall zero at bs ds x y = tt
  segments_never_fall (suc n) at [] ds x y = tt
  segments_never_fall (suc n) at (b ∷ bs) [] x y = tt
  segments_never_fall (suc n) at (b ∷ bs) (d ∷ ds) x y =
      below_later (f b.price d.price) (segments_n f (suc n) at (b ∷ bs) (d ∷ ds))
      (segments_below (suc n) at (b ∷ bs) (d ∷ ds) (f b.price d.price) (≤ℤ_refl (f b.price d.price)) x y)

-- joining takes steps away
joined_after_below : (p : ℤ) (s : Step) (l : List Step) → p ≤ℤ s.price → NeverBelow s.price l → NeverBelow p (joined_after s l)
unfolding joined_after
joined_after_below p s [] h n = (h, tt)
joined_after_below p s (t ∷ l) h n =
    ⊎_elim (λ e. rw (joined_same s t l e) (joined_after_below p t l (≤ℤ_trans h n.0) n.1))
    (λ e. rw (joined_other s t l e) (h, joined_after_below s.price t l n.0 n.1))
    (eq_z_cases s.price t.price)

pub joined_never_falls : (l : List Step) → NeverFalling l → NeverFalling (joined l)
unfolding joined
joined_never_falls [] n = tt
joined_never_falls (s ∷ l) n = below_later s.price (joined_after s l) (joined_after_below s.price s l (≤ℤ_refl s.price) n)
