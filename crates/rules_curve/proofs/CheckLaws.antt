-- What a curve that passes the checks is like.
use mathlib.Core.Bool.{Bool, true, false, cond}
use mathlib.Core.List.{List, [], ◌∷◌, map}
use mathlib.Core.Path.{◌≡◌, refl, ◌∙◌}
use Prim.Native.Nat.{ℕ, zero, suc, ◌<◌, ◌≤◌}
use native.Mathlib.Nat.{le_refl, le_trans}
use native.Mathlib.Omega.{arith}
use mathlib.Core.Logic.{⊎_elim}
use borrow.Author.Tests.{ltb-true, leb-true}
use lib.Dec.{leb}
use lib.ListN.{length, get_or, length-map, length-take}
use lib.Seq.{take_all}
use lib.IntN.{ℤ, pos, negsuc}
use lib.Signed.{lt_z}
use Rattle.rules_number.specs.Order.{in_range, nat_of}
use Rattle.rules_number.proofs.Kit.{var, le_by, le_true}
use Rattle.rules_number.proofs.OverLaws.{never, both, last_or_before, padded_used, taken_at}
use Rattle.rules_curve.specs.Refusals.{unless, ◌then◌, each_to}
use Rattle.rules_curve.specs.Curves.{most_steps, most_bid_steps, bid_steps, chain, edge_suits, price_suits, raw_steps, step_of, steps_of, curve_of, curve_with, blank_step, curve_refusal, count_good, edges_good, prices_good}
use Rattle.rules_curve.specs.Meaning.{Rising, NeverBelow, NeverFalling, Sound, SoundBid}
use Rattle.rules_curve.proofs.PriceLaws.{below_later}
use Rattle.rules_curve.specs.declared.Step.{Step}
use Rattle.rules_curve.specs.declared.RawStep.{RawStep}
use Rattle.rules_curve.specs.declared.RawCurve.{RawCurve}
use Rattle.rules_curve.specs.declared.Curve.{Curve}

-- ---- a chain of checks that accepts
refused : {X : Type 0} (n : ℕ) → suc n ≡ 0 → X
refused n e = absurd (omega arith)

pub then_both : (a b : ℕ) → (a then b) ≡ 0 → (a ≡ 0) × (b ≡ 0)
then_both zero b e = (refl, e)
then_both (suc a) b e = refused a e

pub unless_holds : (t : Bool) (n : ℕ) → unless t (suc n) ≡ 0 → t ≡ true
unless_holds true n e = refl
unless_holds false n e = refused n e

pub each_at : (f : ℕ → ℕ) (n : ℕ) → each_to f n ≡ 0 → (i : ℕ) → i < n → f i ≡ 0
unfolding each_to
each_at f zero e i h = absurd (omega arith)
each_at f (suc n) e i h =
    let b = then_both (each_to f n) (f n) e in
    ⊎_elim (λ x. rw x b.1) (λ l. each_at f n b.0 i l) (last_or_before i n h)

-- ---- the edges rise
above : (a : ℕ) (z : ℤ) → lt_z (pos a) z ≡ true → (a < nat_of z) × (z ≡ pos (nat_of z))
above a (pos b) e = (ltb-true a b e, refl)
above a (negsuc b) e = never e

chain_both : (s : Bool) (l : Bool) → cond s l false ≡ true → (s ≡ true) × (l ≡ true)
chain_both true l e = (refl, e)
chain_both false l e = never e

pub chain_rising : (p : ℕ) (l : List RawStep) → chain edge_suits (λ s. s.end) (pos p) l ≡ true → Rising p (map step_of l)
unfolding chain
chain_rising p [] e = tt
chain_rising p (s ∷ l) e =
    let t = chain_both _ _ e in
    let u = above p s.end (both _ _ t.0).0 in
    (u.0, chain_rising (nat_of s.end) l (rw u.1 at t.1))

start_good : (z : ℤ) → in_range (pos 0) (pos 1000000) z ≡ true → z ≡ pos (nat_of z)
unfolding in_range
start_good (pos n) e = refl
start_good (negsuc n) e = never e

-- ---- the prices never fall
pub chain_never_falls : (top p : ℤ) (l : List RawStep) → chain (price_suits top) (λ s. s.price) p l ≡ true → NeverBelow p (map step_of l)
unfolding chain
chain_never_falls top p [] e = tt
chain_never_falls top p (s ∷ l) e =
    let t = chain_both _ _ e in
    (le_by (var p) (var s.price) (le_true p s.price (both _ _ t.0).0), chain_never_falls top s.price l t.1)

-- the steps of a curve that is made of steps
pub with_used : (s : ℕ) (l : List Step) → steps_of (curve_with s l) ≡ l
with_used s l = padded_used most_steps blank_step l

-- a curve made of steps that rise and never fall
pub sound_with : (s : ℕ) (l : List Step) → length l ≤ most_steps → Rising s l → NeverFalling l → Sound (curve_with s l)
sound_with s l n r f = let u = with_used s l in record { few = rw u n; rising = rw u r; never_falling_lem = rw u f }

-- ---- which number a curve is refused with
module _ (most : ℕ) (low top : ℤ) (c : RawCurve) where
  pub refused_count : count_good most c ≡ false → curve_refusal most low top c ≡ 1
  unfolding curve_refusal
  refused_count n = rw n

  pub refused_edge : count_good most c ≡ true → edges_good c ≡ false → curve_refusal most low top c ≡ 2
  unfolding curve_refusal
  refused_edge n e = rw (n, e)

  pub refused_price : count_good most c ≡ true → edges_good c ≡ true → prices_good low top c ≡ false → curve_refusal most low top c ≡ 3
  unfolding curve_refusal
  refused_price n e p = rw (n, e, p)

  pub taken_curve : count_good most c ≡ true → edges_good c ≡ true → prices_good low top c ≡ true → curve_refusal most low top c ≡ 0
  unfolding curve_refusal
  taken_curve n e p = rw (n, e, p)

-- ---- a curve that passes
module _ (most : ℕ) (low top : ℤ) (c : RawCurve) (passed : curve_refusal most low top c ≡ 0) where
  pub checks_good : (count_good most c ≡ true) × (edges_good c ≡ true) × (prices_good low top c ≡ true)
  unfolding curve_refusal
  checks_good =
      let x = then_both (unless (count_good most c) 1 then unless (edges_good c) 2) (unless (prices_good low top c) 3) passed in
      let y = then_both (unless (count_good most c) 1) (unless (edges_good c) 2) x.0 in
      (unless_holds (count_good most c) 0 y.0, unless_holds (edges_good c) 1 y.1, unless_holds (prices_good low top c) 2 x.1)

  -- a curve that passes rises
  pub checked_rising : Rising (curve_of c).start (steps_of (curve_of c))
  unfolding curve_of
  checked_rising =
      let e = both (in_range (pos 0) (pos 1000000) c.start) (chain edge_suits (λ s. s.end) c.start (raw_steps c)) checks_good.1 in
      rw (with_used (nat_of c.start) (map step_of (raw_steps c)))
      (chain_rising (nat_of c.start) (raw_steps c) (rw (← start_good c.start e.0) e.1))

  -- it has no more steps than that
  pub checked_few : length (steps_of (curve_of c)) ≤ most
  unfolding curve_of
  checked_few =
      let b = both (leb 1 c.count) (leb c.count most) checks_good.0 in
      rw (with_used (nat_of c.start) (map step_of (raw_steps c)), length-map (raw_steps c) step_of)
      (omega (arith, leb-true c.count most b.1, length-take c.count c.steps))

  -- its ends rise and its prices never fall
  pub checked_sound : most ≤ most_steps → Sound (curve_of c)
  unfolding curve_of
  checked_sound room =
      sound_with (nat_of c.start) (map step_of (raw_steps c))
      (rw (with_used (nat_of c.start) (map step_of (raw_steps c))) at (le_trans checked_few room))
      (rw (with_used (nat_of c.start) (map step_of (raw_steps c))) at checked_rising)
      (below_later low (map step_of (raw_steps c)) (chain_never_falls top low (raw_steps c) checks_good.2))

-- of a bid, and of a default curve
pub bid_checked : (low top : ℤ) (c : RawCurve) → curve_refusal most_bid_steps low top c ≡ 0 → SoundBid (curve_of c)
bid_checked low top c passed = record { few = checked_few most_bid_steps low top c passed; sound = checked_sound most_bid_steps low top c passed (omega arith) }

pub default_checked : (low top : ℤ) (c : RawCurve) → curve_refusal most_steps low top c ≡ 0 → Sound (curve_of c)
default_checked low top c passed = checked_sound most_steps low top c passed (le_refl most_steps)

-- a bid's ten steps are all that it has
pub bid_steps_lem : (c : Curve) → length (steps_of c) ≤ most_bid_steps → bid_steps c ≡ steps_of c
bid_steps_lem c few = take_all most_bid_steps (steps_of c) few

pub bid_at_lem : (c : Curve) (i : ℕ) → i < length (bid_steps c) → get_or (bid_steps c) i blank_step ≡ get_or c.steps i blank_step
bid_at_lem c i h =
    taken_at most_bid_steps (steps_of c) i blank_step h
    ∙ taken_at c.count c.steps i blank_step (omega (arith, length-take most_bid_steps (steps_of c)))
