-- A bid that was never cut, divided where its default curve divides it and joined again: the bid, with equal neighbours joined. Assumes nothing.
use Rattle.std.specs.Prelude.{None}
use mathlib.Core.List.{List, [], ◌∷◌}
use mathlib.Core.Bool.{false}
use mathlib.Core.Logic.{inl, inr}
use mathlib.Core.Path.{◌≡◌, refl, ap, ◌∙◌}
use Prim.Native.Nat.{ℕ, zero, suc, ◌+◌, ◌<◌, ◌≤◌}
use native.Mathlib.Nat.{le_refl, le_of_suc-le-suc, not-suc-le-zero}
use native.Mathlib.Omega.{arith}
use native.Mathlib.Numerals.{add-one}
use lib.IntN.{ℤ}
use lib.ListN.{length, drop, get_or, set, length-set, drop_of_length-le}
use lib.Seq.{drop-cons}
use Rattle.rules_number.specs.Order.{eq_z}
use Rattle.rules_curve.specs.Curves.{step_to, blank_step, steps_of, bid_steps}
use Rattle.rules_curve.specs.declared.Step.{Step}
use Rattle.rules_curve.specs.declared.Curve.{Curve}
use Rattle.rules_mitigation.specs.Mitigation.{capped, segments_n, joined, joined_after, mitigated_steps}
use Rattle.rules_mitigation.proofs.SegmentLaws.{segments_cases, joined_same, Reaches, reaches_later}
use Rattle.mitigated_cells.proofs.PutLaws.{Reached, put_next, Ended, put_ended}

-- steps from an edge on lie under an end: only the last may reach it
abbrev pub Under : ℕ → ℕ → List Step → Type 0
Under top at [] = at ≤ top
Under top at (b ∷ bs) = (at < top) × Under top b.end bs

under_at : (top at : ℕ) (bs : List Step) → Under top at bs → at ≤ top
under_at top at [] h = h
under_at top at (b ∷ bs) h = omega (arith, h.0)

-- a step more is seen: the steps left suffice where those after it do
pub under_next : (top at i : ℕ) (bs : List Step) (b d : Step) (to : ℕ) → i < length bs → get_or bs i d ≡ b → to ≡ b.end → at < top → Under top to (drop (i + 1) bs) → Under top at (drop i bs)
under_next top at i bs b d to h e f l u =
    let o : drop i bs ≡ b ∷ drop (i + 1) bs = rw (add-one, ← e) (drop-cons bs i d h) in
    rw o (l, rw f at u)

pub under_none : (top at i : ℕ) (bs : List Step) → length bs ≤ i → at ≤ top → Under top at (drop i bs)
under_none top at i bs h l = rw (drop_of_length-le bs h) l

pub reaches_at : (ds : List Step) (k : ℕ) (d : Step) → k < length ds → Reaches (get_or ds k d).end ds
reaches_at [] k d h = absurd (not-suc-le-zero h)
reaches_at (x ∷ ds) zero d h = inl (le_refl x.end)
reaches_at (x ∷ ds) (suc k) d h = inr (reaches_at ds k d (le_of_suc-le-suc h))

-- a step at the price of the next one counts for nothing
after_same : (s t b : Step) (l bs : List Step) → t.price ≡ b.price → joined_after t l ≡ joined_after b bs → joined_after s (t ∷ l) ≡ joined_after s (b ∷ bs)
unfolding joined_after
after_same s t b l bs e f = rw (f, e)

after_uncut : (top : ℕ) (s : Step) (n at : ℕ) (bs ds : List Step) → length bs + length ds ≤ n → Under top at bs → Reaches top ds
    → joined_after s (segments_n (capped None) n at bs ds) ≡ joined_after s bs
unfolding segments_n
after_uncut top s zero at [] ds m u r = refl
after_uncut top s (suc n) at [] ds m u r = refl
after_uncut top s zero at (b ∷ bs) ds m u r = absurd (omega arith)
after_uncut top s (suc n) at (b ∷ bs) [] m u r = absurd r
after_uncut top s (suc n) at (b ∷ bs) (d ∷ ds) m u r =
    let e = under_at top b.end bs u.1 in
    segments_cases (capped None) n at b bs d ds (λ l. joined_after s l ≡ joined_after s (b ∷ bs))
    (λ k. after_uncut top s n at (b ∷ bs) ds (omega arith) u (reaches_later top d ds (omega (arith, u.0)) r))
    (λ k k'.
    let t = step_to d.end b.price in
    after_same s t b _ bs refl (after_uncut top t n d.end (b ∷ bs) ds (omega arith) (omega (arith, e), u.1) (reaches_later top d ds (omega (arith, e)) r) ∙ joined_same t b bs refl))
    (λ k k'. after_same s (step_to b.end b.price) b _ bs refl (after_uncut top b n b.end bs (d ∷ ds) (omega arith) u.1 r))

segments_uncut : (top n at : ℕ) (bs ds : List Step) → length bs + length ds ≤ n → Under top at bs → Reaches top ds → joined (segments_n (capped None) n at bs ds) ≡ joined bs
unfolding segments_n joined
segments_uncut top zero at [] ds m u r = refl
segments_uncut top (suc n) at [] ds m u r = refl
segments_uncut top zero at (b ∷ bs) ds m u r = absurd (omega arith)
segments_uncut top (suc n) at (b ∷ bs) [] m u r = absurd r
segments_uncut top (suc n) at (b ∷ bs) (d ∷ ds) m u r =
    let e = under_at top b.end bs u.1 in
    segments_cases (capped None) n at b bs d ds (λ l. joined l ≡ joined (b ∷ bs))
    (λ k. segments_uncut top n at (b ∷ bs) ds (omega arith) u (reaches_later top d ds (omega (arith, u.0)) r))
    (λ k k'.
    let t = step_to d.end b.price in
    after_uncut top t n d.end (b ∷ bs) ds (omega arith) (omega (arith, e), u.1) (reaches_later top d ds (omega (arith, e)) r) ∙ joined_same t b bs refl)
    (λ k k'. after_uncut top b n b.end bs (d ∷ ds) (omega arith) u.1 r)

pub steps_uncut : (top : ℕ) (bid default : Curve) → Under top bid.start (bid_steps bid) → Reaches top (steps_of default) → mitigated_steps None bid default ≡ joined (bid_steps bid)
steps_uncut top bid default u r = segments_uncut top _ bid.start (bid_steps bid) (steps_of default) (le_refl _) u r

-- ---- the bid put into cells: the steps before i are put, n with neighbours joined
pub record Putting (bs : List Step) (s₀ now : List Step) (last : ℤ) (i n : ℕ) : Type 0 where
  pub few : n ≤ i
  pub in_bid : i ≤ length bs
  pub long : length now ≡ length s₀
  pub reached : Reached (joined bs) s₀ now last n (drop i bs)

module _ (bs : List Step) (s₀ : List Step) where
  pub putting_start : (last : ℤ) → Putting bs s₀ s₀ last 0 0
  putting_start last = record {
    few = omega arith;
    in_bid = omega arith;
    long = refl;
    reached = inl (record { none = refl; same = refl; left = refl });
  }

  module _ (now : List Step) (last : ℤ) (i n : ℕ) (w : Putting bs s₀ now last i n) where
    pub putting_next : (k to : ℕ) (p : ℤ) → i < length bs → get_or bs i blank_step ≡ step_to to p
        → (now' : List Step) → now' ≡ set now k (step_to to p)
        → (n ≡ 0 → k ≡ 0) → (0 < n → last ≡ p → k + 1 ≡ n) → (0 < n → eq_z last p ≡ false → k ≡ n) → k ≤ n → Putting bs s₀ now' p (i + 1) (k + 1)
    putting_next k to p h is now' put first same other most =
        let o : drop i bs ≡ step_to to p ∷ drop (i + 1) bs = rw (add-one, ← is) (drop-cons bs i blank_step h) in
        record {
          few = omega (arith, w.few, most);
          in_bid = omega (arith, h);
          long = ap length put ∙ length-set now k (step_to to p) ∙ w.long;
          reached = rw put (put_next (step_to to p) (drop (i + 1) bs) k (rw o at w.reached) first same other);
        }

    pub putting_ended : length bs ≤ i → Ended (joined bs) s₀ now n
    putting_ended h = put_ended (rw (drop_of_length-le bs h) at w.reached)
