-- What one constraint alone needs, and the floor. Assumes nothing.
use mathlib.Core.Bool.{Bool, true, false, not, ◌||◌, cond}
use mathlib.Core.List.{List}
use mathlib.Core.Logic.{◌⊎◌, inl, inr, ⊎_elim}
use mathlib.Core.Path.{◌≡◌, refl, sym, ap, ◌∙◌, subst}
use Prim.Native.Nat.{ℕ, zero, suc, ◌+◌, ◌≤◌, ◌<◌, zero-le}
use native.Mathlib.Nat.{le_refl, le_trans, le_of_eq}
use native.Mathlib.Omega.{arith}
use borrow.Author.Tests.{ltb-true, ltb-false}
use lib.Count.{ones}
use lib.Dec.{ltb}
use lib.IntN.{pos}
use lib.ListN.{length}
use lib.Signed.{◌<ℤ◌}
use Rattle.rules_number.proofs.OverLaws.{never, tested, last_or_before, le_or_lt, all_at}
use Rattle.rules_number.proofs.TestLaws.{above_exactly}
use Rattle.rules_interval.specs.Intervals.{shadow_at}
use Rattle.rules_interval.specs.declared.Interval.{Interval}
use Rattle.rules_path.specs.Judgements.{path_in}
use Rattle.rules_path.specs.Paths.{Path, binds, demand, supply, offers, Withheld, NetSeller, Possible, top, total, mask}
use Rattle.rules_path.specs.Verdicts.{bit}
use Rattle.rules_path.specs.declared.Market.{Market}
use Rattle.rules_path.proofs.MaskLaws.{mask_on, mask_ones}
use Rattle.rules_path.proofs.PathLaws.{possible_among, top_possible}
use Rattle.rules_path.proofs.TopLaws.{total_le, top_total, top_short, top_distinct}
use Rattle.rules_pivotal.specs.Meaning.{OfNetSellers, Short, BindsIn, Needs, IsFloor}
use Rattle.rules_pivotal.specs.Pivotals.{net_sellers, withheld_by, leaves_short, is_short, works_in, suffices, first_to, need_of, most_to, floor_of}
use Rattle.rules_pivotal.proofs.SellerSets.{all_of_sellers, sellers_below, net_ones, full_is, short_exactly, short_mono, members_to, members_possible, members_total, members_ones, possible_on, total_by}

-- ---- the first of which a test holds
module _ (f : ℕ → Bool) where
  pub first_most : (n : ℕ) → first_to f n ≤ n
  unfolding first_to
  first_most zero = le_refl 0
  first_most (suc n) = go (ltb (first_to f n) n) refl (f n)
    where
      go : (t : Bool) → ltb (first_to f n) n ≡ t → (u : Bool) → cond t (first_to f n) (cond u n (suc n)) ≤ suc n
      go true e u = omega (arith, ltb-true (first_to f n) n e)
      go false e true = omega arith
      go false e false = le_refl (suc n)

  pub first_le : (n k : ℕ) → f k ≡ true → first_to f n ≤ k
  unfolding first_to
  first_le zero k e = zero-le
  first_le (suc n) k e = go (first_le n k e) (ltb (first_to f n) n) refl (f n) refl
    where
      go : first_to f n ≤ k → (t : Bool) → ltb (first_to f n) n ≡ t → (u : Bool) → f n ≡ u → cond t (first_to f n) (cond u n (suc n)) ≤ k
      go h true x u y = h
      go h false x true y = omega (arith, ltb-false (first_to f n) n x)
      go h false x false y =
          ⊎_elim (λ z. let w : f n ≡ true = ap f z ∙ e in never (sym y ∙ w)) (λ z. z) (last_or_before n k (omega (arith, ltb-false (first_to f n) n x)))

  pub first_holds : (n : ℕ) → first_to f n < n → f (first_to f n) ≡ true
  unfolding first_to
  first_holds zero h = absurd (omega arith)
  first_holds (suc n) h = go (first_holds n) (ltb (first_to f n) n) refl (f n) refl h
    where
      go : (first_to f n < n → f (first_to f n) ≡ true) → (t : Bool) → ltb (first_to f n) n ≡ t → (u : Bool) → f n ≡ u → cond t (first_to f n) (cond u n (suc n)) < suc n
          → f (cond t (first_to f n) (cond u n (suc n))) ≡ true
      go ih true x u y l = ih (ltb-true (first_to f n) n x)
      go ih false x true y l = y
      go ih false x false y l = absurd (omega arith)

-- ---- the largest
module _ (f : ℕ → ℕ) where
  pub most_ge : (n i : ℕ) → i < n → f i ≤ most_to f n
  unfolding most_to
  most_ge zero i h = absurd (omega arith)
  most_ge (suc n) i h = ⊎_elim (λ e. rw e (omega arith)) (λ l. omega (arith, most_ge n i l)) (last_or_before i n h)

  pub most_le : (b n : ℕ) → ((i : ℕ) → i < n → f i ≤ b) → most_to f n ≤ b
  unfolding most_to
  most_le b zero h = zero-le
  most_le b (suc n) h = omega (arith, most_le b n (λ i l. h i (omega arith)), h n (omega arith))

  -- one of them, or there is none
  pub most_at : (n : ℕ) → (most_to f n ≡ 0) ⊎ ((i : ℕ) × (i < n) × (most_to f n ≡ f i))
  unfolding most_to
  most_at zero = inl refl
  most_at (suc n) = ⊎_elim (λ l. inr (n, omega arith, omega arith)) (λ l. ⊎_elim (λ e. absurd (omega arith)) (λ x. inr (x.0, omega (arith, x.1), omega (arith, x.2))) (most_at n)) (le_or_lt (most_to f n) (f n))

-- ---- one constraint
module _ (d : Path) where
  -- no set of k net sellers withholds more than the k that can withhold most
  pub possible_most : (k : ℕ) (l : List Withheld) → length l ≤ k → Possible d l → total l ≤ total (top k (offers d) d.portfolios)
  possible_most k l few h = le_trans (total_le k (offers d) d.portfolios l few (possible_among d l h)) (le_of_eq (sym (top_total k (offers d) d.portfolios)))

  pub top_is_possible : (k : ℕ) → Possible d (top k (offers d) d.portfolios)
  top_is_possible k = top_possible d k (offers d) d.portfolios (λ i. le_refl _)

module _ (m : Market) (v : Interval) (c : ℕ) where
  abbrev d : Path
  d = path_in m v c

  seller_of_lem : (s : ℕ) → OfNetSellers m s → (p : ℕ) → bit p s ≡ 1 → NetSeller d p
  seller_of_lem s of p e = of p e

  -- a set that leaves the constraint short has at least as many members as it needs
  pub short_suffices : (s : ℕ) → OfNetSellers m s → is_short d s ≡ true → suffices d (ones s) ≡ true
  unfolding withheld_by
  short_suffices s of e =
      let l = members_to d s 16 in
      let long = members_ones d s 16 (sellers_below m s of) in
      let most = possible_most d (ones s) l (le_of_eq long) (members_possible d s (seller_of_lem s of) 16) in
      short_mono d (withheld_by d s) (total (top (ones s) (offers d) 16)) (omega (arith, members_total d s 16)) e

  pub short_needs : (s : ℕ) → OfNetSellers m s → is_short d s ≡ true → need_of d ≤ ones s
  unfolding need_of
  short_needs s of e = first_le (suffices d) 16 (ones s) (short_suffices s of e)

  module _ (whole : is_short d (net_sellers m) ≡ true) where
    -- as many of those that can withhold most as it needs leave it short
    need_suffices : suffices d (need_of d) ≡ true
    unfolding need_of
    need_suffices = ⊎_elim last (λ l. first_holds (suffices d) 16 l) (le_or_lt 16 (first_to (suffices d) 16))
      where
        last : 16 ≤ first_to (suffices d) 16 → suffices d (first_to (suffices d) 16) ≡ true
        last l =
            let all = short_suffices (net_sellers m) (all_of_sellers m) whole in
            let e : ones (net_sellers m) ≡ first_to (suffices d) 16 = omega (arith, net_ones m, first_most (suffices d) 16, first_le (suffices d) 16 (ones (net_sellers m)) all) in
            subst (λ (k : ℕ). suffices d k ≡ true) e all

    chosen : List Withheld
    chosen = top (need_of d) (offers d) 16

    chosen_of : OfNetSellers m (mask chosen)
    unfolding chosen
    chosen_of p e = possible_on d chosen (top_is_possible d (need_of d)) p ((mask_on p chosen (top_distinct (need_of d) (offers d) 16)).1 e)

    chosen_short : is_short d (mask chosen) ≡ true
    unfolding chosen
    chosen_short = short_mono d (total chosen) (withheld_by d (mask chosen)) (total_by d chosen (top_is_possible d (need_of d))) need_suffices

    chosen_ones : ones (mask chosen) ≡ need_of d
    unfolding chosen
    chosen_ones =
        omega (arith, mask_ones chosen (top_distinct (need_of d) (offers d) 16), top_short (need_of d) (offers d) 16, short_needs (mask chosen) chosen_of chosen_short)

    module _ (binding : pos 0 <ℤ shadow_at v c) where
      to_short : (s : ℕ) → is_short d s ≡ true → Short d s
      to_short s e = rw (full_is d s refl) ((short_exactly d (withheld_by d s)).0 e binding)

      of_short : (s : ℕ) → Short d s → is_short d s ≡ true
      of_short s h = (short_exactly d (withheld_by d s)).1 (λ b. rw (full_is d s refl) at h)

      -- "the count that one constraint alone needs"
      pub need_is : Needs m d (need_of d)
      need_is = record {
        set = mask chosen;
        of_sellers = chosen_of;
        members = chosen_ones;
        short = to_short (mask chosen) chosen_short;
        no_fewer = λ s of h. short_needs s of (of_short s h);
      }

      pub need_only : (k : ℕ) → Needs m d k → k ≡ need_of d
      need_only k n =
          let a : k ≤ need_of d = le_trans (n.no_fewer (mask chosen) chosen_of (to_short (mask chosen) chosen_short)) (le_of_eq chosen_ones) in
          let b : need_of d ≤ ones n.set = short_needs n.set n.of_sellers (of_short n.set n.short) in
          omega (arith, n.members)

-- ---- the floor
module _ (m : Market) (v : Interval) where
  need_at : ℕ → ℕ
  need_at c = need_of (path_in m v c)

  -- "No set that works has fewer members than the floor"
  pub floor_below : (s : ℕ) → OfNetSellers m s → works_in m v s ≡ true → floor_of m v ≤ ones s
  unfolding floor_of works_in need_at
  floor_below s of w = most_le need_at (ones s) v.constraints (λ c l. short_needs m v c s of (all_at (λ x. is_short (path_in m v x) s) v.constraints w c l))

  module _ (whole : works_in m v (net_sellers m) ≡ true) where
    each : (c : ℕ) → c < v.constraints → is_short (path_in m v c) (net_sellers m) ≡ true
    unfolding works_in
    each c l = all_at (λ x. is_short (path_in m v x) (net_sellers m)) v.constraints whole c l

    -- one that doesn't bind needs none
    not_binding_lem : (c : ℕ) → binds (path_in m v c) ≡ false → need_of (path_in m v c) ≡ 0
    unfolding need_of leaves_short
    not_binding_lem c e =
        let h = first_le (suffices (path_in m v c)) 16 0 (ap (λ (t : Bool). not t || ltb (supply (path_in m v c)) (demand (path_in m v c) + total (top 0 (offers (path_in m v c)) 16))) e) in
        omega arith

    -- "a floor: the largest count that one constraint alone needs"
    pub floor_is : (b : ℕ) → BindsIn v b → IsFloor m v (floor_of m v)
    unfolding floor_of need_at
    floor_is b binding = go (most_at need_at v.constraints)
      where
        at_least : (c : ℕ) → BindsIn v c → (k : ℕ) → Needs m (path_in m v c) k → k ≤ most_to need_at v.constraints
        at_least c x k n = le_trans (le_of_eq (need_only m v c (each c x.0) x.1 k n)) (most_ge need_at v.constraints (c) x.0)

        by : (c : ℕ) → BindsIn v c → need_of (path_in m v c) ≡ most_to need_at v.constraints → IsFloor m v (most_to need_at v.constraints)
        by c x e = record { at_least = at_least; one = c; one_binds = x; attained = subst (Needs m (path_in m v c)) e (need_is m v c (each c x.0) x.1) }

        none : most_to need_at v.constraints ≡ 0 → IsFloor m v (most_to need_at v.constraints)
        none z = by b binding (omega (arith, most_ge need_at v.constraints b binding.0))

        go : (most_to need_at v.constraints ≡ 0) ⊎ ((i : ℕ) × (i < v.constraints) × (most_to need_at v.constraints ≡ need_at i)) → IsFloor m v (most_to need_at v.constraints)
        go (inl z) = none z
        go (inr x) =
            ⊎_elim (λ e. by x.0 (x.1, (above_exactly (shadow_at v x.0)).0 e) (sym x.2)) (λ e. none (x.2 ∙ not_binding_lem x.0 e)) (tested (binds (path_in m v x.0)))
