-- Laws of the segments and of the joined curve.
use mathlib.Core.Bool.{false}
use mathlib.Core.List.{List, [], ◌∷◌}
use mathlib.Core.Logic.{◌⊎◌, inl, inr, ⊎_elim}
use mathlib.Core.Path.{◌≡◌, refl, sym, ◌∙◌}
use Prim.Native.Nat.{ℕ, zero, suc, ◌+◌, ◌-◌, ◌<◌, ◌≤◌}
use native.Mathlib.Omega.{arith}
use borrow.Author.Tests.{le-leb, lt-leb, lt-ltb, le-ltb}
use lib.IntN.{ℤ}
use lib.ListN.{length}
use Rattle.rules_number.specs.Order.{eq_z}
use Rattle.rules_number.proofs.OrderLaws.{eq_z_same, eq_z_cases}
use Rattle.rules_number.proofs.OverLaws.{le_or_lt}
use Rattle.rules_curve.proofs.PriceLaws.{price_here, price_later, Within, within_later, rising_end}
use Rattle.rules_curve.specs.Curves.{price_at, step_to, end_of}
use Rattle.rules_mitigation.specs.Mitigation.{segments_n, segments, joined, joined_after}
use Rattle.rules_curve.specs.Meaning.{Rising}
use Rattle.rules_curve.specs.declared.Step.{Step}

-- ---- one step of segments
module _ (f : ℤ → ℤ → ℤ) (n at : ℕ) (b : Step) (bs : List Step) (d : Step) (ds : List Step) where
  pub segments_skip : d.end ≤ at → segments_n f (suc n) at (b ∷ bs) (d ∷ ds) ≡ segments_n f n at (b ∷ bs) ds
  unfolding segments_n
  segments_skip h = rw (le-leb d.end at h)

  pub segments_default : at < d.end → d.end < b.end
      → segments_n f (suc n) at (b ∷ bs) (d ∷ ds) ≡ step_to d.end (f b.price d.price) ∷ segments_n f n d.end (b ∷ bs) ds
  unfolding segments_n
  segments_default h k = rw (lt-leb d.end at h, lt-ltb d.end b.end k)

  pub segments_bid : at < d.end → b.end ≤ d.end
      → segments_n f (suc n) at (b ∷ bs) (d ∷ ds) ≡ step_to b.end (f b.price d.price) ∷ segments_n f n b.end bs (d ∷ ds)
  unfolding segments_n
  segments_bid h k = rw (lt-leb d.end at h, le-ltb d.end b.end k)

  -- the three ways
  pub segments_cases : (P : List Step → Type 0)
      → (d.end ≤ at → P (segments_n f n at (b ∷ bs) ds))
      → (at < d.end → d.end < b.end → P (step_to d.end (f b.price d.price) ∷ segments_n f n d.end (b ∷ bs) ds))
      → (at < d.end → b.end ≤ d.end → P (step_to b.end (f b.price d.price) ∷ segments_n f n b.end bs (d ∷ ds)))
      → P (segments_n f (suc n) at (b ∷ bs) (d ∷ ds))
  segments_cases P x y z =
      ⊎_elim (λ h. rw (segments_skip h) (x h))
      (λ h. ⊎_elim (λ k. rw (segments_bid h k) (z h k)) (λ k. rw (segments_default h k) (y h k)) (le_or_lt b.end d.end))
      (le_or_lt d.end at)

-- ---- the price in the segments
pub segments_price : (f : ℤ → ℤ → ℤ) (n at : ℕ) (bs ds : List Step) (q : ℕ) → length bs + length ds ≤ n → at ≤ q → Within bs q → Within ds q
    → price_at (segments_n f n at bs ds) q ≡ f (price_at bs q) (price_at ds q)
segments_price f n at [] ds q m h w v = absurd w
segments_price f n at (b ∷ bs) [] q m h w v = absurd v
segments_price f zero at (b ∷ bs) (d ∷ ds) q m h w v = absurd (omega arith)
segments_price f (suc n) at (b ∷ bs) (d ∷ ds) q m h w v =
    segments_cases f n at b bs d ds (λ l. price_at l q ≡ f (price_at (b ∷ bs) q) (price_at (d ∷ ds) q))
    (λ k. segments_price f n at (b ∷ bs) ds q (omega arith) h w (within_later d ds q (omega arith) v) ∙ rw (price_later d ds q (omega arith)))
    (λ k k'. ⊎_elim
    (λ x. price_later (step_to d.end (f b.price d.price)) _ q x
    ∙ segments_price f n d.end (b ∷ bs) ds q (omega arith) x w (within_later d ds q x v) ∙ rw (price_later d ds q x))
    (λ x. price_here (step_to d.end (f b.price d.price)) _ q x ∙ rw (price_here d ds q x, price_here b bs q (omega arith)))
    (le_or_lt d.end q))
    (λ k k'. ⊎_elim
    (λ x. price_later (step_to b.end (f b.price d.price)) _ q x
    ∙ segments_price f n b.end bs (d ∷ ds) q (omega arith) x (within_later b bs q x w) v ∙ rw (price_later b bs q x))
    (λ x. price_here (step_to b.end (f b.price d.price)) _ q x ∙ rw (price_here d ds q (omega arith), price_here b bs q x))
    (le_or_lt b.end q))

-- ---- the segments rise, and are few
pub segments_rising : (f : ℤ → ℤ → ℤ) (n at : ℕ) (bs ds : List Step) → Rising at bs → Rising at (segments_n f n at bs ds)
unfolding segments_n
segments_rising f zero at bs ds r = tt
segments_rising f (suc n) at [] ds r = tt
segments_rising f (suc n) at (b ∷ bs) [] r = tt
segments_rising f (suc n) at (b ∷ bs) (d ∷ ds) r =
    segments_cases f n at b bs d ds (Rising at)
    (λ k. segments_rising f n at (b ∷ bs) ds r)
    (λ k k'. (k, segments_rising f n d.end (b ∷ bs) ds (k', r.1)))
    (λ k k'. (r.0, segments_rising f n b.end bs (d ∷ ds) r.1))

pub segments_length : (f : ℤ → ℤ → ℤ) (n at : ℕ) (bs ds : List Step) → length (segments_n f n at bs ds) ≤ length bs + length ds - 1
unfolding segments_n
segments_length f zero at bs ds = omega arith
segments_length f (suc n) at [] ds = omega arith
segments_length f (suc n) at (b ∷ bs) [] = omega arith
segments_length f (suc n) at (b ∷ bs) (d ∷ ds) =
    segments_cases f n at b bs d ds (λ l. length l ≤ suc (length bs) + suc (length ds) - 1)
    (λ k. omega (arith, segments_length f n at (b ∷ bs) ds))
    (λ k k'. omega (arith, segments_length f n d.end (b ∷ bs) ds))
    (λ k k'. omega (arith, segments_length f n b.end bs (d ∷ ds)))

-- ---- joining keeps each price
module _ (s t : Step) (l : List Step) where
  pub joined_same : s.price ≡ t.price → joined_after s (t ∷ l) ≡ joined_after t l
  unfolding joined_after
  joined_same e = rw (e, eq_z_same t.price)

  pub joined_other : eq_z s.price t.price ≡ false → joined_after s (t ∷ l) ≡ s ∷ joined_after t l
  unfolding joined_after
  joined_other e = rw e

pub joined_after_price : (p : ℕ) (s : Step) (l : List Step) (q : ℕ) → Rising p (s ∷ l) → price_at (joined_after s l) q ≡ price_at (s ∷ l) q
unfolding joined_after
joined_after_price p s [] q r = refl
joined_after_price p s (t ∷ l) q r =
    ⊎_elim
    (λ e. rw (joined_same s t l e) (joined_after_price s.end t l q r.1
    ∙ ⊎_elim (λ x. sym (price_later s (t ∷ l) q x)) (λ x. rw (price_here s (t ∷ l) q x, price_here t l q (omega arith), e)) (le_or_lt s.end q)))
    (λ e. rw (joined_other s t l e)
    (⊎_elim (λ x. rw (price_later s (t ∷ l) q x, price_later s (joined_after t l) q x) (joined_after_price s.end t l q r.1))
    (λ x. rw (price_here s (t ∷ l) q x, price_here s (joined_after t l) q x)) (le_or_lt s.end q)))
    (eq_z_cases s.price t.price)

pub joined_after_rising : (p : ℕ) (s : Step) (l : List Step) → Rising p (s ∷ l) → Rising p (joined_after s l)
unfolding joined_after
joined_after_rising p s [] r = r
joined_after_rising p s (t ∷ l) r =
    ⊎_elim (λ e. rw (joined_same s t l e) (joined_after_rising p t l (omega arith, r.1.1)))
    (λ e. rw (joined_other s t l e) (r.0, joined_after_rising s.end t l r.1))
    (eq_z_cases s.price t.price)

pub joined_rising : (p : ℕ) (l : List Step) → Rising p l → Rising p (joined l)
unfolding joined
joined_rising p [] r = tt
joined_rising p (s ∷ l) r = joined_after_rising p s l r

pub joined_price : (p : ℕ) (l : List Step) (q : ℕ) → Rising p l → price_at (joined l) q ≡ price_at l q
unfolding joined
joined_price p [] q r = refl
joined_price p (s ∷ l) q r = joined_after_price p s l q r

-- the price of the merged curve
pub merged_price : (f : ℤ → ℤ → ℤ) (at : ℕ) (bs ds : List Step) (q : ℕ) → Rising at bs → at ≤ q → Within bs q → Within ds q
    → price_at (joined (segments f at bs ds)) q ≡ f (price_at bs q) (price_at ds q)
merged_price f at bs ds q r h w v =
    joined_price at (segments f at bs ds) q (segments_rising f (length bs + length ds) at bs ds r)
    ∙ segments_price f (length bs + length ds) at bs ds q (omega arith) h w v

-- some step ends at e or above
abbrev pub Reaches : ℕ → List Step → Type 0
Reaches e [] = ⊥
Reaches e (s ∷ l) = (e ≤ s.end) ⊎ Reaches e l

pub reaches_later : (e : ℕ) (s : Step) (l : List Step) → s.end < e → Reaches e (s ∷ l) → Reaches e l
reaches_later e s l h (inl w) = absurd (omega arith)
reaches_later e s l h (inr w) = w

-- the segments end where the bid does
pub segments_end : (f : ℤ → ℤ → ℤ) (n at : ℕ) (bs ds : List Step) → length bs + length ds ≤ n → Rising at bs → Reaches (end_of at bs) ds → end_of at (segments_n f n at bs ds) ≡ end_of at bs
unfolding segments_n
segments_end f zero at [] ds m r v = refl
segments_end f zero at (b ∷ bs) ds m r v = absurd (omega arith)
segments_end f (suc n) at [] ds m r v = refl
segments_end f (suc n) at (b ∷ bs) [] m r v = absurd v
segments_end f (suc n) at (b ∷ bs) (d ∷ ds) m r v =
    let e = rising_end b.end bs r.1 in
    segments_cases f n at b bs d ds (λ l. end_of at l ≡ end_of at (b ∷ bs))
    (λ k. segments_end f n at (b ∷ bs) ds (omega arith) r (reaches_later _ d ds (omega arith) v))
    (λ k k'. segments_end f n d.end (b ∷ bs) ds (omega arith) (k', r.1) (reaches_later _ d ds (omega arith) v))
    (λ k k'. segments_end f n b.end bs (d ∷ ds) (omega arith) r.1 v)

pub joined_after_end : (p : ℕ) (s : Step) (l : List Step) → end_of p (joined_after s l) ≡ end_of s.end l
unfolding joined_after
joined_after_end p s [] = refl
joined_after_end p s (t ∷ l) =
    ⊎_elim (λ e. rw (joined_same s t l e) (joined_after_end p t l)) (λ e. rw (joined_other s t l e) (joined_after_end s.end t l)) (eq_z_cases s.price t.price)

pub joined_after_length : (s : Step) (l : List Step) → length (joined_after s l) ≤ suc (length l)
unfolding joined_after
joined_after_length s [] = omega arith
joined_after_length s (t ∷ l) =
    ⊎_elim (λ e. rw (joined_same s t l e) (omega (arith, joined_after_length t l))) (λ e. rw (joined_other s t l e) (omega (arith, joined_after_length t l))) (eq_z_cases s.price t.price)

pub joined_length : (l : List Step) → length (joined l) ≤ length l
unfolding joined
joined_length [] = omega arith
joined_length (s ∷ l) = joined_after_length s l

pub joined_end : (p : ℕ) (l : List Step) → end_of p (joined l) ≡ end_of p l
unfolding joined
joined_end p [] = refl
joined_end p (s ∷ l) = joined_after_end p s l

-- the last step reaches the end
pub reaches_end : (p e : ℕ) (d : Step) (ds : List Step) → e ≤ end_of p (d ∷ ds) → Reaches e (d ∷ ds)
reaches_end p e d [] k = inl k
reaches_end p e d (x ∷ ds) k = inr (reaches_end d.end e x ds k)

pub segments_none : (f : ℤ → ℤ → ℤ) (n at : ℕ) (ds : List Step) → end_of at (segments_n f n at [] ds) ≡ at
unfolding segments_n
segments_none f zero at ds = refl
segments_none f (suc n) at ds = refl
