-- The steps of a default curve from costs: their edges, their number, and that no other steps are those of the paper's words. Assumes nothing.
use mathlib.Core.Bool.{true}
use mathlib.Core.Logic.{◌⊎◌, inl, inr, ⊎_elim}
use mathlib.Core.Path.{◌≡◌, refl, sym, ap, ◌∙◌}
use Prim.Native.Nat.{ℕ, zero, suc, ◌*◌, ◌/◌, ◌≤◌, ◌<◌}
use native.Mathlib.Omega.{arith}
use borrow.Author.Tests.{le-leb}
use lib.IntN.{ℤ}
use lib.Signed.{lt_z, ◌<ℤ◌}
use Rattle.rules_number.specs.Order.{nat_of, in_range}
use Rattle.rules_number.proofs.OverLaws.{le_or_lt, last_or_before}
use Rattle.rules_number.proofs.ExactLaws.{lt_z_exactly}
use Rattle.rules_number.proofs.RangeLaws.{rises}
use Rattle.rules_curve.specs.Curves.{most_steps}
use Rattle.rules_cost.specs.Conditions.{m, k, PMax, Inside, Part, whole, lower, upper}
use Rattle.rules_cost.specs.Costs.{most_points, mw_at, segment_count, pmax, mark, split_at, count_of_steps, segment_at, end_at, edge_at, width_at, mw_in_range, mw_good}
use Rattle.rules_cost.specs.Meaning.{Steps}
use Rattle.rules_cost.proofs.RangeLaws.{mw_in, mw_rises}
use Rattle.rules_cost.proofs.SplitLaws.{segment_to, segment_past, end_split, end_before, end_past, edge_to, none_split, one_split, split_cases, whole_mw, mw_below, inside_whole, split_once, split_strictly, segment_among, step_part}
use Rattle.rules_cost.specs.declared.Costs.{Costs}

module _ (c : Costs) where
  -- "A default curve may so have 11 steps"
  pub step_count : (count_of_steps c ≡ segment_count c) ⊎ ((count_of_steps c ≡ suc (segment_count c)) × (split_at c < segment_count c))
  step_count = ⊎_elim (λ e. inl (none_split c e)) (λ z. inr (one_split c z.0, z.0)) (split_cases c)

  pub eleven_suffice : c.count ≤ most_points → count_of_steps c ≤ most_steps
  eleven_suffice h = ⊎_elim (λ e. omega arith) (λ e. omega (arith, e.0, e.1)) step_count

  pub some_step : 2 ≤ c.count → 1 ≤ count_of_steps c
  some_step h = ⊎_elim (λ e. omega arith) (λ e. omega (arith, e.0)) step_count

  -- the first step starts at the first m, and the last ends at the last
  pub first_edge : edge_at c 0 ≡ mw_at c 0
  unfolding edge_at
  first_edge = refl

  pub last_edge : edge_at c (count_of_steps c) ≡ pmax c
  unfolding edge_at
  last_edge =
      ⊎_elim (λ e. ap (edge_at c) (none_split c e) ∙ edge_to c (segment_count c) (omega arith))
      (λ z. ap (edge_at c) (one_split c z.0) ∙ past (segment_count c) z.0) (split_cases c)
    where
      past : (n : ℕ) → split_at c < n → edge_at c (suc n) ≡ mw_at c n
      past zero h = absurd (omega arith)
      past (suc n) h = end_past c n (omega arith)

module _ (c : Costs) (quantities : mw_good c ≡ true) where
  -- k is at most PMax
  mark_in : 1 ≤ c.count → mw_in_range (k c) ≡ true
  unfolding in_range
  mark_in h =
      let top = (whole_mw c quantities (segment_count c) (omega arith)).1 in
      rw (le-leb 0 (4 * nat_of (pmax c) / 5) (omega arith), le-leb (4 * nat_of (pmax c) / 5) 1000000 (omega arith))

  pub record Wide (from to : ℤ) : Type 0 where
    pub rises : lt_z from to ≡ true
    pub from_in : mw_in_range from ≡ true
    pub to_in : mw_in_range to ≡ true

  wide_part : (i : ℕ) (from to : ℤ) → suc i < c.count → Part c i from to → Wide from to
  wide_part i from to l (whole x f t) = record { rises = rw (f, t) (mw_rises c quantities i l); from_in = rw f (mw_in c quantities i (omega arith)); to_in = rw t (mw_in c quantities (suc i) l) }
  wide_part i from to l (lower x f t) = record { rises = rw (f, t) ((lt_z_exactly (m c i) (k c)).1 x.0); from_in = rw f (mw_in c quantities i (omega arith)); to_in = rw t (mark_in (omega arith)) }
  wide_part i from to l (upper x f t) = record { rises = rw (f, t) ((lt_z_exactly (k c) (m c (suc i))).1 x.1); from_in = rw f (mark_in (omega arith)); to_in = rw t (mw_in c quantities (suc i) l) }

  pub wide_step : (t : ℕ) → t < count_of_steps c → Wide (edge_at c t) (end_at c t)
  unfolding edge_at
  wide_step t l = wide_part (segment_at c t) (edge_at c t) (end_at c t) (segment_among c quantities t l) (step_part c quantities t l)

  -- "Start and ends strictly rise"
  pub edges_rise : (t : ℕ) → t < count_of_steps c → edge_at c t <ℤ edge_at c (suc t)
  unfolding edge_at
  edges_rise t l = (lt_z_exactly (edge_at c t) (end_at c t)).0 (wide_step t l).rises

  pub width_above : (t : ℕ) → t < count_of_steps c → 0 < width_at c t
  unfolding width_at
  width_above t l = rises (edge_at c t) (end_at c t) (wide_step t l).rises

  -- the steps are those of the paper's words
  pub steps_are : Steps c (count_of_steps c) (edge_at c) (segment_at c)
  steps_are = record { starts = first_edge c; among = segment_among c quantities; parts = step_part c quantities; ends = last_edge c }

  -- ---- and no others are
  same_mw : (i j : ℕ) → i < c.count → j < c.count → m c i ≡ m c j → i ≡ j
  same_mw i j a b e =
      let z : nat_of (mw_at c i) ≡ nat_of (mw_at c j) = ap nat_of e in
      ⊎_elim (λ l. ⊎_elim (λ x. x) (λ x. absurd (omega (arith, mw_below c quantities i j x b))) (last_or_before i j (omega arith)))
      (λ l. absurd (omega (arith, mw_below c quantities j i l a))) (le_or_lt i j)

  -- k isn't a point's m where it lies strictly inside a segment
  no_point_lem : (i j : ℕ) → suc i < c.count → j < c.count → Inside c i → m c j ≡ k c → ⊥
  no_point_lem i j a b x e =
      let z : nat_of (mw_at c j) ≡ 4 * nat_of (pmax c) / 5 = ap nat_of e in
      let u = inside_whole c quantities i a x in
      ⊎_elim (λ l. ⊎_elim (λ q. omega (arith, ap (λ (n : ℕ). nat_of (mw_at c n)) q)) (λ q. omega (arith, mw_below c quantities j i q (omega arith))) (last_or_before j i (omega arith)))
      (λ l. ⊎_elim (λ q. omega (arith, ap (λ (n : ℕ). nat_of (mw_at c n)) q)) (λ q. omega (arith, mw_below c quantities (suc i) j q b)) (last_or_before (suc i) j (omega arith)))
      (le_or_lt j i)

  -- of parts that begin at one place, each is of the same segment and ends at the same place
  module _ (i j : ℕ) (x y x' y' : ℤ) (a : suc i < c.count) (b : suc j < c.count) (e : x ≡ x') where
    here : x ≡ m c i → x' ≡ m c j → i ≡ j
    here f g = same_mw i j (omega arith) (omega arith) (sym f ∙ e ∙ g)

    ended : (to to' : ℕ → ℤ) → to i ≡ to' i → i ≡ j → y ≡ to i → y' ≡ to' j → (i ≡ j) × (y ≡ y')
    ended to to' s q t u = (q, t ∙ s ∙ ap to' q ∙ sym u)

    part_same : Part c i x y → Part c j x' y' → (i ≡ j) × (y ≡ y')
    part_same (whole p f t) (whole q g u) = ended (λ n. m c (suc n)) (λ n. m c (suc n)) refl (here f g) t u
    part_same (whole p f t) (lower q g u) = absurd (p (rw (here f g) q))
    part_same (whole p f t) (upper q g u) = absurd (no_point_lem j i b (omega arith) q (sym f ∙ e ∙ g))
    part_same (lower p f t) (whole q g u) = absurd (q (rw (← here f g) p))
    part_same (lower p f t) (lower q g u) = ended (λ n. k c) (λ n. k c) refl (here f g) t u
    part_same (lower p f t) (upper q g u) = absurd (no_point_lem i i a (omega arith) p (sym f ∙ e ∙ g))
    part_same (upper p f t) (whole q g u) = absurd (no_point_lem i j a (omega arith) p (sym g ∙ sym e ∙ f))
    part_same (upper p f t) (lower q g u) = absurd (no_point_lem j j b (omega arith) q (sym g ∙ sym e ∙ f))
    part_same (upper p f t) (upper q g u) = ended (λ n. m c (suc n)) (λ n. m c (suc n)) refl (split_once c quantities i j a b p q) t u

  -- no part begins at PMax
  no_part_last : (i : ℕ) (x y : ℤ) → suc i < c.count → Part c i x y → x ≡ PMax c → ⊥
  no_part_last i x y a (whole p f t) e = omega (arith, same_mw i (segment_count c) (omega arith) (omega arith) (sym f ∙ e))
  no_part_last i x y a (lower p f t) e = omega (arith, same_mw i (segment_count c) (omega arith) (omega arith) (sym f ∙ e))
  no_part_last i x y a (upper p f t) e = no_point_lem i (segment_count c) a (omega arith) p (sym e ∙ f)

  module _ (n n' : ℕ) (edge edge' : ℕ → ℤ) (segment segment' : ℕ → ℕ) (s : Steps c n edge segment) (s' : Steps c n' edge' segment') where
    edges_same : (t : ℕ) → t ≤ n → t ≤ n' → edge t ≡ edge' t
    edges_same zero h h' = s.starts ∙ sym s'.starts
    edges_same (suc t) h h' =
        (part_same (segment t) (segment' t) (edge t) (edge (suc t)) (edge' t) (edge' (suc t)) (s.among t h) (s'.among t h') (edges_same t (omega arith) (omega arith)) (s.parts t h) (s'.parts t h')).1

    not_longer : n < n' → ⊥
    not_longer h =
        no_part_last (segment' n) (edge' n) (edge' (suc n)) (s'.among n h) (s'.parts n h) (sym (edges_same n (omega arith) (omega arith)) ∙ s.ends)

    segments_same : (t : ℕ) → t < n → t < n' → segment t ≡ segment' t
    segments_same t h h' =
        (part_same (segment t) (segment' t) (edge t) (edge (suc t)) (edge' t) (edge' (suc t)) (s.among t h) (s'.among t h') (edges_same t (omega arith) (omega arith)) (s.parts t h) (s'.parts t h')).0

  pub record Alone (n : ℕ) (edge : ℕ → ℤ) (segment : ℕ → ℕ) : Type 0 where
    pub count : n ≡ count_of_steps c
    pub edges : (t : ℕ) → t ≤ n → edge t ≡ edge_at c t
    pub segments : (t : ℕ) → t < n → segment t ≡ segment_at c t

  pub steps_only : (n : ℕ) (edge : ℕ → ℤ) (segment : ℕ → ℕ) → Steps c n edge segment → Alone n edge segment
  steps_only n edge segment s =
      let e : n ≡ count_of_steps c =
      ⊎_elim (λ l. ⊎_elim (λ q. q) (λ q. absurd (not_longer n (count_of_steps c) edge (edge_at c) segment (segment_at c) s steps_are q)) (last_or_before n (count_of_steps c) (omega arith)))
      (λ l. absurd (not_longer (count_of_steps c) n (edge_at c) edge (segment_at c) segment steps_are s l)) (le_or_lt n (count_of_steps c)) in
      record {
        count = e;
        edges = λ t h. edges_same n (count_of_steps c) edge (edge_at c) segment (segment_at c) s steps_are t h (omega arith);
        segments = λ t h. segments_same n (count_of_steps c) edge (edge_at c) segment (segment_at c) s steps_are t h (omega arith);
      }

  -- each part of a segment is a step
  pub record Stands (i : ℕ) (from to : ℤ) : Type 0 where
    pub at : ℕ
    pub among : at < count_of_steps c
    pub segment : segment_at c at ≡ i
    pub ends : end_at c at ≡ to

  pub stands : (i : ℕ) (from to : ℤ) → suc i < c.count → Part c i from to → Stands i from to
  unfolding mark
  stands i from to l (whole p f t) = ⊎_elim (λ h. past h) (λ h. record { at = i; among = short h; segment = segment_to c i (omega arith); ends = end_before c i h ∙ sym t }) (le_or_lt (split_at c) i)
    where
      short : i < split_at c → i < count_of_steps c
      short h = ⊎_elim (λ e. omega arith) (λ e. omega (arith, e.0, e.1)) (step_count c)

      past : split_at c ≤ i → Stands i from to
      past h = ⊎_elim (λ e. absurd (omega arith)) (λ z. record { at = suc i; among = omega (arith, one_split c z.0); segment = segment_past c i h; ends = end_past c i h ∙ sym t }) (split_cases c)
  stands i from to l (lower p f t) =
      let e = (split_strictly c quantities i l).1 p in
      record { at = i; among = omega (arith, one_split c (omega arith)); segment = segment_to c i (omega arith); ends = end_split c i (sym e) ∙ sym t }
  stands i from to l (upper p f t) =
      let e = (split_strictly c quantities i l).1 p in
      record { at = suc i; among = omega (arith, one_split c (omega arith)); segment = segment_past c i (omega arith); ends = end_past c i (omega arith) ∙ sym t }
