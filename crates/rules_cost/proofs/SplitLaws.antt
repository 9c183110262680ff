-- The split at the 80% mark: which segment is split, and what each step is. Assumes nothing.
use mathlib.Core.Bool.{Bool, true, false, cond}
use mathlib.Core.Logic.{◌⊎◌, inl, inr, ⊎_elim, ◌↔◌}
use mathlib.Core.Path.{◌≡◌, refl, sym, ap, ◌∙◌}
use Prim.Native.Nat.{ℕ, zero, suc, ◌*◌, ◌/◌, ◌≤◌, ◌<◌}
use native.Mathlib.Omega.{arith}
use borrow.Author.Tests.{le-leb, lt-leb, lt-ltb, le-ltb, ltb-true, ne_eqb, eq-eqb}
use lib.IntN.{ℤ, pos}
use lib.Signed.{lt_z}
use Rattle.rules_number.specs.Order.{nat_of}
use Rattle.rules_number.proofs.OverLaws.{never, le_or_lt, last_or_before}
use Rattle.rules_number.proofs.ExactLaws.{lt_z_exactly, and_exactly}
use Rattle.rules_number.proofs.RangeLaws.{nat_is}
use Rattle.rules_cost.specs.Conditions.{m, k, Inside, Part, whole, lower, upper}
use Rattle.rules_cost.specs.Costs.{mw_at, segment_count, pmax, mark, is_split, first_to, split_at, count_of_steps, segment_at, end_at, edge_at, mw_good}
use Rattle.rules_cost.proofs.RangeLaws.{mw_in, mw_rises}
use Rattle.rules_cost.specs.declared.Costs.{Costs}

-- ---- the first of which f holds
module _ (f : ℕ → Bool) where
  next_found : (n r : ℕ) → first_to f n ≡ r → r < n → first_to f (suc n) ≡ r
  unfolding first_to
  next_found n r e h = rw (e, lt-ltb r n h)

  next_none : (n : ℕ) (t : Bool) → first_to f n ≡ n → f n ≡ t → first_to f (suc n) ≡ cond t n (suc n)
  unfolding first_to
  next_none n t e h = rw (e, le-ltb n n (omega arith), h)

  pub first_none : (n : ℕ) → ((i : ℕ) → i < n → f i ≡ false) → first_to f n ≡ n
  unfolding first_to
  first_none zero h = refl
  first_none (suc n) h = next_none n false (first_none n (λ i l. h i (omega arith))) (h n (omega arith))

  pub first_is : (n i : ℕ) → i < n → f i ≡ true → ((j : ℕ) → j < i → f j ≡ false) → first_to f n ≡ i
  first_is zero i l e h = absurd (omega arith)
  first_is (suc n) i l e h =
      ⊎_elim (λ q. next_none n true (first_none n (λ j k. h j (omega arith))) (rw (← q) e) ∙ sym q) (λ k. next_found n i (first_is n i k e h) k) (last_or_before i n l)

  -- it holds of none before the first
  pub record First (n : ℕ) : Type 0 where
    pub none : (i : ℕ) → i < first_to f n → f i ≡ false
    pub at : (first_to f n ≡ n) ⊎ ((first_to f n < n) × (f (first_to f n) ≡ true))

  pub first : (n : ℕ) → First n
  unfolding first_to
  first zero = record { none = λ i l. absurd (omega arith); at = inl refl }
  first (suc n) = let p = first n in ⊎_elim (λ e. go (f n) refl e p.none) (λ q. here q p.none) p.at
    where
      here : (first_to f n < n) × (f (first_to f n) ≡ true) → ((i : ℕ) → i < first_to f n → f i ≡ false) → First (suc n)
      here q h =
          let e = next_found n (first_to f n) refl q.0 in
          record { none = λ i l. h i (rw e at l); at = inr (rw e (omega (arith, q.0)), rw e q.1) }

      go : (t : Bool) → f n ≡ t → first_to f n ≡ n → ((i : ℕ) → i < first_to f n → f i ≡ false) → First (suc n)
      go true x e h = let z = next_none n true e x in record { none = λ i l. h i (rw e (rw z at l)); at = inr (rw z (omega arith), rw z x) }
      go false x e h =
          let z = next_none n false e x in
          record { none = λ i l. ⊎_elim (λ q. rw q x) (λ b. h i (rw e b)) (last_or_before i n (rw z at l)); at = inl z }

-- ---- the steps, by the number of the split segment
module _ (c : Costs) where
  abbrev s : ℕ
  s = split_at c

  abbrev n : ℕ
  n = segment_count c

  pub segment_to : (t : ℕ) → t ≤ s → segment_at c t ≡ t
  unfolding segment_at
  segment_to t h = rw (le-leb t s h)

  pub segment_past : (t : ℕ) → s ≤ t → segment_at c (suc t) ≡ t
  unfolding segment_at
  segment_past t h = rw (lt-leb (suc t) s (omega arith)) (omega arith)

  pub end_split : (t : ℕ) → t ≡ s → end_at c t ≡ mark c
  unfolding end_at
  end_split t e = rw (eq-eqb t s e)

  pub end_other : (t : ℕ) → (t ≡ s → ⊥) → end_at c t ≡ mw_at c (suc (segment_at c t))
  unfolding end_at
  end_other t e = rw (ne_eqb t s e)

  pub end_before : (t : ℕ) → t < s → end_at c t ≡ mw_at c (suc t)
  end_before t h = end_other t (λ e. omega arith) ∙ ap (λ (i : ℕ). mw_at c (suc i)) (segment_to t (omega arith))

  pub end_past : (t : ℕ) → s ≤ t → end_at c (suc t) ≡ mw_at c (suc t)
  end_past t h = end_other (suc t) (λ e. omega arith) ∙ ap (λ (i : ℕ). mw_at c (suc i)) (segment_past t h)

  pub edge_to : (t : ℕ) → t ≤ s → edge_at c t ≡ mw_at c t
  unfolding edge_at
  edge_to zero h = refl
  edge_to (suc t) h = end_before t h

  -- no segment is split, or one is
  pub none_split : s ≡ n → count_of_steps c ≡ n
  unfolding count_of_steps
  none_split e = rw (le-ltb s n (omega arith))

  pub one_split : s < n → count_of_steps c ≡ suc n
  unfolding count_of_steps
  one_split h = rw (lt-ltb s n h)

  pub split_cases : (s ≡ n) ⊎ ((s < n) × (is_split c s ≡ true))
  unfolding split_at
  split_cases = (first (is_split c) n).at

  -- k lies strictly inside the segment i
  pub inside_exactly : (i : ℕ) → (is_split c i ≡ true) ↔ Inside c i
  unfolding mark
  inside_exactly i = and_exactly _ _ (lt_z_exactly (m c i) (k c)) (lt_z_exactly (k c) (m c (suc i)))

  pub not_inside : (i : ℕ) → is_split c i ≡ false → Inside c i → ⊥
  not_inside i e h = never (sym e ∙ (inside_exactly i).1 h)

  pub before_split : (i : ℕ) → i < s → Inside c i → ⊥
  unfolding split_at
  before_split i h = not_inside i ((first (is_split c) n).none i h)

-- ---- where the quantities rise (5)
module _ (c : Costs) (quantities : mw_good c ≡ true) where
  q : ℕ → ℕ
  q i = nat_of (mw_at c i)

  pub whole_mw : (i : ℕ) → i < c.count → (mw_at c i ≡ pos (nat_of (mw_at c i))) × (nat_of (mw_at c i) ≤ 1000000)
  whole_mw i l = nat_is 1000000 (mw_at c i) (mw_in c quantities i l)

  below : (a b : ℤ) → lt_z a b ≡ true → a ≡ pos (nat_of a) → b ≡ pos (nat_of b) → nat_of a < nat_of b
  below a b e x y = ltb-true (nat_of a) (nat_of b) (sym (ap (λ (z : ℤ). lt_z z b) x ∙ ap (lt_z (pos (nat_of a))) y) ∙ e)

  rise : (i : ℕ) → suc i < c.count → q i < q (suc i)
  unfolding q
  rise i l = below (mw_at c i) (mw_at c (suc i)) (mw_rises c quantities i l) (whole_mw i (omega arith)).0 (whole_mw (suc i) l).0

  pub mw_below : (i j : ℕ) → i < j → j < c.count → nat_of (mw_at c i) < nat_of (mw_at c j)
  unfolding q
  mw_below i zero h l = absurd (omega arith)
  mw_below i (suc j) h l = ⊎_elim (λ e. rw e (rise j l)) (λ k. let x = mw_below i j k (omega arith) in let y = rise j l in omega arith) (last_or_before i j h)

  -- k as a whole number
  abbrev K : ℕ
  K = 4 * nat_of (pmax c) / 5

  pub inside_whole : (i : ℕ) → suc i < c.count → Inside c i → (nat_of (mw_at c i) < K) × (K < nat_of (mw_at c (suc i)))
  inside_whole i l h = (
    below (mw_at c i) (pos K) ((lt_z_exactly (m c i) (k c)).1 h.0) (whole_mw i (omega arith)).0 refl,
    below (pos K) (mw_at c (suc i)) ((lt_z_exactly (k c) (m c (suc i))).1 h.1) refl (whole_mw (suc i) l).0,
  )

  -- at most one segment is split
  pub split_once : (i j : ℕ) → suc i < c.count → suc j < c.count → Inside c i → Inside c j → i ≡ j
  split_once i j a b x y = ⊎_elim (λ l. ⊎_elim (λ e. e) (λ l. absurd (apart i j l b x y a)) (same_or_less i j l)) (λ l. absurd (apart j i l a y x b)) (le_or_lt i j)
    where
      same_or_less : (i j : ℕ) → i ≤ j → (i ≡ j) ⊎ (i < j)
      same_or_less i j l = last_or_before i j (omega arith)

      apart : (i j : ℕ) → i < j → suc j < c.count → Inside c i → Inside c j → suc i < c.count → ⊥
      apart i j l b x y a =
          let u = inside_whole i a x in
          let v = inside_whole j b y in
          ⊎_elim (λ e. omega (arith, ap (λ (z : ℕ). nat_of (mw_at c z)) e)) (λ z. omega (arith, mw_below (suc i) j z (omega arith))) (same_or_less (suc i) j l)

  -- the segment that is split is that which k lies strictly inside
  pub split_strictly : (i : ℕ) → suc i < c.count → (split_at c ≡ i) ↔ Inside c i
  split_strictly i l = ((λ e. ⊎_elim (λ z. absurd (omega arith)) (λ z. (inside_exactly c i).0 (rw e at z.1)) (split_cases c)), back)
    where
      back : Inside c i → split_at c ≡ i
      back h =
          ⊎_elim (λ z. absurd (before_split c i (omega arith) h)) (λ z. split_once (split_at c) i (omega (arith, z.0)) l ((inside_exactly c (split_at c)).0 z.1) h) (split_cases c)

  -- a segment past the split one is whole
  past_split : split_at c < segment_count c → (i : ℕ) → split_at c < i → suc i < c.count → Inside c i → ⊥
  past_split z i h l x = omega (arith, (split_strictly i l).1 x)

  -- each step is a segment, or a part of the one that is split
  pub segment_among : (t : ℕ) → t < count_of_steps c → suc (segment_at c t) < c.count
  segment_among t l = ⊎_elim (λ e. rw (segment_to c t (omega (arith, none_split c e))) (omega (arith, none_split c e))) (λ z. go t l z.0) (split_cases c)
    where
      go : (t : ℕ) → t < count_of_steps c → split_at c < segment_count c → suc (segment_at c t) < c.count
      go t l z = ⊎_elim (λ h. rw (segment_to c t h) (omega arith)) (λ h. past t h l z) (le_or_lt t (split_at c))
        where
          past : (t : ℕ) → split_at c < t → t < count_of_steps c → split_at c < segment_count c → suc (segment_at c t) < c.count
          past zero h l z = absurd (omega arith)
          past (suc t) h l z = rw (segment_past c t (omega arith)) (omega (arith, one_split c z))

  pub step_part : (t : ℕ) → t < count_of_steps c → Part c (segment_at c t) (edge_at c t) (edge_at c (suc t))
  unfolding edge_at mark
  step_part t l = ⊎_elim (λ e. before t (omega (arith, none_split c e))) (λ z. ⊎_elim (λ h. upto t h z.1) (λ h. after t h l z.0 z.1) (le_or_lt t (split_at c))) (split_cases c)
    where
      before : (t : ℕ) → t < split_at c → Part c (segment_at c t) (edge_at c t) (end_at c t)
      before t h = rw (segment_to c t (omega arith)) (whole (before_split c t h) (edge_to c t (omega arith)) (end_before c t h))

      upto : (t : ℕ) → t ≤ split_at c → is_split c (split_at c) ≡ true → Part c (segment_at c t) (edge_at c t) (end_at c t)
      upto t h x =
          ⊎_elim (λ e. rw (segment_to c t h) (lower ((inside_exactly c t).0 (rw e x)) (edge_to c t h) (end_split c t e))) (before t) (last_or_before t (split_at c) (omega arith))

      after : (t : ℕ) → split_at c < t → t < count_of_steps c → split_at c < segment_count c → is_split c (split_at c) ≡ true → Part c (segment_at c t) (edge_at c t) (end_at c t)
      after zero h l z x = absurd (omega arith)
      after (suc t) h l z x =
          rw (segment_past c t (omega arith))
          (⊎_elim (λ e. upper ((inside_exactly c t).0 (rw (← e) x)) (end_split c t (sym e)) (end_past c t (omega arith)))
          (λ k. whole (past_split z t k (omega (arith, one_split c z))) (later t k) (end_past c t (omega arith)))
          (last_or_before (split_at c) t (omega arith)))
        where
          later : (t : ℕ) → split_at c < t → end_at c t ≡ mw_at c t
          later zero k = absurd (omega arith)
          later (suc t) k = end_past c t (omega arith)
