-- The search in the request's words, for any test of a set. Assumes nothing.
use mathlib.Core.Bool.{Bool, true, false, ◌&&◌, cond}
use mathlib.Core.Logic.{◌⊎◌, inl, inr, ⊎_elim}
use mathlib.Core.Path.{◌≡◌, refl, sym, ap, ◌∙◌, subst}
use Prim.Native.Nat.{ℕ, zero, suc, min, ◌+◌, ◌-◌, ◌^◌, ◌≤◌, ◌<◌}
use native.Mathlib.Omega.{arith}
use native.Mathlib.Nat.{le_refl, le_trans}
use borrow.Author.Tests.{ltb-true, ltb-false}
use lib.Count.{ones}
use lib.Dec.{ltb}
use Rattle.rules_number.specs.Over.{sum_to}
use Rattle.rules_number.proofs.OverLaws.{le_or_lt, last_or_before, never}
use Rattle.rules_mask.specs.Masks.{is_within, sets_to}
use Rattle.rules_mask.proofs.CountLaws.{sets_are}
use Rattle.rules_mask.proofs.SizeLaws.{within_le, within_self, same_size}
use Rattle.rules_pivotal.specs.Searches.{better_of, tried_one, searched_to, searched}
use Rattle.rules_pivotal.specs.declared.Found.{Found}
use Rattle.rules_pivotal.proofs.TriedLaws.{not_fewer, fewer, no_use, not_within, used_up, one_tried}

-- "sets are tried in rising order of their number [..] only net sellers in it, the empty set left out, until the given budget or the sets run out": s is a set of net sellers,
-- and up to it there are no more of them than the budget
pub record Tried (m budget s : ℕ) : Type 0 where
  pub not_empty : 0 < s
  pub of_sellers : is_within m s ≡ true
  pub in_budget : sets_to m s ≤ budget

-- the one has fewer members, or as many and no higher number
abbrev pub Before : ℕ → ℕ → Type 0
Before a s = (ones a < ones s) ⊎ ((ones a ≡ ones s) × (a ≤ s))

module _ (f : ℕ → Bool) (m b : ℕ) where
  abbrev now : ℕ → Found
  now n = searched_to f m b n

  -- ---- the sets tried
  abbrev add : Bool → ℕ
  add t = cond t 1 0

  sets_next : (n : ℕ) → sets_to m (suc n) ≡ sets_to m n + add (is_within m (suc n))
  unfolding sets_to sum_to
  sets_next n = refl

  sets_mono : (n k : ℕ) → n ≤ k → sets_to m n ≤ sets_to m k
  sets_mono n zero h = let e : n ≡ 0 = omega arith in rw e (le_refl (sets_to m 0))
  sets_mono n (suc k) h =
      ⊎_elim (λ l. le_trans (sets_mono n k l) (omega (arith, sets_next k))) (λ l. let e : n ≡ suc k = omega arith in rw e (le_refl (sets_to m (suc k)))) (le_or_lt n k)

  count_to : (n : ℕ) → (now n).tried ≡ min b (sets_to m n)
  unfolding searched_to sets_to sum_to
  count_to zero = omega arith
  count_to (suc n) = go (count_to n) (is_within m (suc n)) (ltb (now n).tried b) refl
    where
      go : (now n).tried ≡ min b (sets_to m n) → (t u : Bool) → ltb (now n).tried b ≡ u
          → (cond (t && u) (record { best = better_of f (suc n) (now n).best; tried = (now n).tried + 1 }) (now n)).tried ≡ min b (sets_to m n + add t)
      go h true true e = omega (arith, h, ltb-true (now n).tried b e)
      go h true false e = omega (arith, h, ltb-false (now n).tried b e)
      go h false u e = omega (arith, h)

  -- ---- the best so far
  pub record SoFar (n best : ℕ) : Type 0 where
    -- it is the whole set, or one of those tried that works
    pub one : (best ≡ m) ⊎ (Tried m b best × (best ≤ n) × (f best ≡ true))
    -- and of those tried that work none comes before it
    pub least : (s : ℕ) → s ≤ n → Tried m b s → f s ≡ true → Before best s

  -- where the number isn't tried, or doesn't work, all is as it was
  kept : (n best : ℕ) → SoFar n best → (Tried m b (suc n) → f (suc n) ≡ true → Before best (suc n)) → SoFar (suc n) best
  kept n best h new = record {
    one = ⊎_elim inl (λ x. inr (x.0, omega (arith, x.1), x.2)) h.one;
    least = λ s l t w. ⊎_elim (λ k. h.least s k t w) (λ k. let e : s ≡ suc n = omega arith in subst (Before best) (sym e) (new (subst (Tried m b) e t) (subst (λ (z : ℕ). f z ≡ true) e w))) (le_or_lt s n);
  }

  -- one that works and has no fewer members comes after
  not_before : (n best : ℕ) → SoFar n best → ones best ≤ ones (suc n) → Tried m b (suc n) → Before best (suc n)
  not_before n best h l t = ⊎_elim (λ e. inr (e, low e)) inl (last_or_before (ones best) (ones (suc n)) (omega arith))
    where
      low : ones best ≡ ones (suc n) → best ≤ suc n
      low e = ⊎_elim (λ z. let x : suc n ≡ m = same_size m (suc n) t.of_sellers (sym e ∙ ap ones z) in omega arith) (λ x. omega (arith, x.1)) h.one

  replaced : (n best : ℕ) → SoFar n best → ones (suc n) < ones best → Tried m b (suc n) → f (suc n) ≡ true → SoFar (suc n) (suc n)
  replaced n best h l t w = record {
    one = inr (t, le_refl (suc n), w);
    least = λ s k u x. ⊎_elim (λ j. inl (⊎_elim (λ y. omega (arith, y)) (λ y. omega (arith, y.0)) (h.least s j u x))) (λ j. let e : s ≡ suc n = omega arith in rw e (inr (refl, le_refl (suc n)))) (le_or_lt s n);
  }

  -- tried is what the budget allows
  is_tried : (n : ℕ) → is_within m (suc n) ≡ true → (now n).tried < b → Tried m b (suc n)
  is_tried n e l = record { not_empty = omega arith; of_sellers = e; in_budget = omega (arith, count_to n, sets_next n, ap add e) }

  not_tried : (n : ℕ) → b ≤ (now n).tried → Tried m b (suc n) → ⊥
  not_tried n l t = omega (arith, count_to n, sets_next n, ap add t.of_sellers, t.in_budget)

  pub so_far : (n : ℕ) → SoFar n (now n).best
  unfolding searched_to
  so_far zero = record { one = inl refl; least = λ s l t w. absurd (omega (arith, t.not_empty)) }
  so_far (suc n) = go (is_within m (suc n)) refl (so_far n)
    where
      tries : SoFar n (now n).best → is_within m (suc n) ≡ true → (now n).tried < b → (t : Bool) → f (suc n) ≡ t → SoFar (suc n) (better_of f (suc n) (now n).best)
      tries h e l true w =
          ⊎_elim (λ k. subst (SoFar (suc n)) (sym (not_fewer f (suc n) (now n).best k)) (kept n (now n).best h (λ t x. not_before n (now n).best h k t)))
          (λ k. subst (SoFar (suc n)) (sym (fewer f (suc n) (now n).best k true w)) (replaced n (now n).best h k (is_tried n e l) w))
          (le_or_lt (ones (now n).best) (ones (suc n)))
      tries h e l false w = subst (SoFar (suc n)) (sym (no_use f (suc n) (now n).best w)) (kept n (now n).best h (λ t x. never (sym w ∙ x)))

      go : (t : Bool) → is_within m (suc n) ≡ t → SoFar n (now n).best → SoFar (suc n) (tried_one f m b (suc n) (now n)).best
      go false e h = subst (λ (x : Found). SoFar (suc n) x.best) (sym (not_within f m b n e)) (kept n (now n).best h (λ t x. never (sym e ∙ t.of_sellers)))
      go true e h =
          ⊎_elim (λ l. subst (λ (x : Found). SoFar (suc n) x.best) (sym (used_up f m b n l)) (kept n (now n).best h (λ t x. absurd (not_tried n l t))))
          (λ l. subst (λ (x : Found). SoFar (suc n) x.best) (sym (one_tried f m b n e l)) (tries h e l (f (suc n)) refl))
          (le_or_lt b (now n).tried)

-- no more sets are tried than the budget
pub in_budget : (f : ℕ → Bool) (m b : ℕ) → (searched f m b).tried ≤ b
unfolding searched
in_budget f m b = omega (arith, count_to f m b m)

-- ---- the whole search
pub record Search (f : ℕ → Bool) (m budget : ℕ) (found : Found) : Type 0 where
  -- "sets tried equals the smaller of budget and the number of non-empty sets of net sellers", one less than two to their number; so it is bounded by the budget
  pub count : found.tried ≡ min budget (2 ^ ones m - 1)
  -- the best is the whole set or one of those tried; it works, and of those tried that work none has fewer members, nor as many and a lower number
  pub one : (found.best ≡ m) ⊎ Tried m budget found.best
  pub works : f found.best ≡ true
  pub of_sellers : is_within m found.best ≡ true
  pub least : (s : ℕ) → Tried m budget s → f s ≡ true → Before found.best s
  -- "with the sets all tried, no working set has fewer than the best"
  pub all_tried : 2 ^ ones m - 1 ≤ budget → (s : ℕ) → 0 < s → is_within m s ≡ true → f s ≡ true → ones found.best ≤ ones s

module _ (f : ℕ → Bool) (m : ℕ) (whole : f m ≡ true) where
  fewer_than : (a s : ℕ) → Before a s → ones a ≤ ones s
  fewer_than a s x = ⊎_elim (λ l. omega arith) (λ e. omega (arith, e.0)) x

  pub search_is : (budget : ℕ) → Search f m budget (searched f m budget)
  unfolding searched
  search_is budget = record {
    count = omega (arith, count_to f m budget m, sets_are m);
    one = ⊎_elim inl (λ x. inr x.0) h.one;
    works = ⊎_elim (λ e. ap f e ∙ whole) (λ x. x.2) h.one;
    of_sellers = ⊎_elim (λ e. ap (is_within m) e ∙ within_self m) (λ x. x.0.of_sellers) h.one;
    least = λ s t w. h.least s (within_le m s t.of_sellers) t w;
    all_tried = λ l s p e w.
        let most = sets_mono f m budget s m (within_le m s e) in
        fewer_than best s (h.least s (within_le m s e) (record { not_empty = p; of_sellers = e; in_budget = omega (arith, sets_are m) }) w);
  }
    where
      best : ℕ
      best = (searched_to f m budget m).best

      h : SoFar f m budget m (searched_to f m budget m).best
      h = so_far f m budget m

  -- "More budget never gives a best with more members"
  pub more_budget : (budget more : ℕ) → budget ≤ more → ones (searched f m more).best ≤ ones (searched f m budget).best
  more_budget budget more l =
      let a = search_is budget in
      let b = search_is more in
      ⊎_elim (λ e. most b e) (λ t. fewer_than (searched f m more).best (searched f m budget).best (b.least (searched f m budget).best (wider t) a.works)) a.one
    where
      wider : {s : ℕ} → Tried m budget s → Tried m more s
      wider t = record { not_empty = t.not_empty; of_sellers = t.of_sellers; in_budget = omega (arith, t.in_budget) }

      most : Search f m more (searched f m more) → (searched f m budget).best ≡ m → ones (searched f m more).best ≤ ones (searched f m budget).best
      most b e = le_trans (Rattle.rules_mask.proofs.SizeLaws.within_ones m (searched f m more).best b.of_sellers) (omega (arith, ap ones e))

  -- the best is the only such set
  pub best_only : (budget s : ℕ) → (s ≡ m) ⊎ Tried m budget s → f s ≡ true → ((t : ℕ) → Tried m budget t → f t ≡ true → Before s t) → Before s m → (searched f m budget).best ≡ s
  best_only budget s one w least first =
      let a = search_is budget in
      let b = (searched f m budget).best in
      let there : Before b s = ⊎_elim (λ e. rw e (to_whole a)) (λ t. a.least s t w) one in
      let back : Before s b = ⊎_elim (λ e. rw e first) (λ t. least b t a.works) a.one in
      both_ways b s there back
    where
      both_ways : (x y : ℕ) → Before x y → Before y x → x ≡ y
      both_ways x y (inl p) (inl q) = absurd (omega arith)
      both_ways x y (inl p) (inr q) = absurd (omega (arith, q.0))
      both_ways x y (inr p) (inl q) = absurd (omega (arith, p.0))
      both_ways x y (inr p) (inr q) = omega (arith, p.1, q.1)

      to_whole : Search f m budget (searched f m budget) → Before (searched f m budget).best m
      to_whole a =
          ⊎_elim (λ e. inr (e, within_le m (searched f m budget).best a.of_sellers)) inl
          (last_or_before (ones (searched f m budget).best) (ones m) (omega (arith, Rattle.rules_mask.proofs.SizeLaws.within_ones m (searched f m budget).best a.of_sellers)))
