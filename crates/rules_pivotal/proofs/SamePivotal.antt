-- Two intervals whose constraints are judged alike have one result. Assumes nothing.
use mathlib.Core.Bool.{Bool, true, false, ◌||◌, ◌&&◌, cond}
use mathlib.Core.List.{List}
use mathlib.Core.Path.{◌≡◌, refl, ap, ap₂, ◌∙◌}
use Prim.Native.Nat.{ℕ, zero, suc, max, ◌+◌, ◌<◌}
use native.Mathlib.Omega.{arith}
use lib.Count.{ones}
use lib.Dec.{ltb}
use Rattle.rules_number.specs.Over.{sum_to, all_to}
use Rattle.rules_number.proofs.OverLaws.{sum_same, all_same}
use Rattle.rules_curve.specs.Refusals.{unless, ◌then◌}
use Rattle.rules_interval.specs.Intervals.{interval_refusal}
use Rattle.rules_interval.specs.declared.Interval.{Interval}
use Rattle.rules_path.specs.Judgements.{path_in}
use Rattle.rules_path.specs.Paths.{Path, binds, withholdable, offers, top, total}
use Rattle.rules_path.specs.declared.Market.{Market}
use Rattle.rules_path.proofs.SamePath.{Same, demand_same, supply_same, withholdable_same, offers_same}
use Rattle.rules_mask.specs.Masks.{is_in, is_within}
use Rattle.rules_pivotal.specs.Pivotals.{net_sellers, withheld_by, leaves_short, is_short, works_in, suffices, first_to, need_of, most_to, floor_of, none_found, found_with, pivotal_in, any_to, any_binds, pivotal_refusal, pivotal_unless, pivotal_of}
use Rattle.rules_pivotal.specs.Searches.{better_of, tried_one, searched_to, searched}
use Rattle.rules_pivotal.specs.declared.Found.{Found}

-- ---- by the values alone
pub first_same : (f g : ℕ → Bool) → ((i : ℕ) → f i ≡ g i) → (n : ℕ) → first_to f n ≡ first_to g n
unfolding first_to
first_same f g h zero = refl
first_same f g h (suc n) = rw (first_same f g h n, h n)

-- a search asks of the sets of net sellers alone
module _ (f g : ℕ → Bool) (m budget : ℕ) (h : (s : ℕ) → is_within m s ≡ true → f s ≡ g s) where
  one_same : (s : ℕ) (x : Found) → tried_one f m budget s x ≡ tried_one g m budget s x
  unfolding better_of
  one_same s x = go (is_within m s) refl
    where
      go : (t : Bool) → is_within m s ≡ t
          → cond (t && ltb x.tried budget) (record { best = cond (ltb (ones s) (ones x.best) && f s) s x.best; tried = x.tried + 1 }) x
          ≡ cond (t && ltb x.tried budget) (record { best = cond (ltb (ones s) (ones x.best) && g s) s x.best; tried = x.tried + 1 }) x
      go true e = rw (h s e)
      go false e = refl

  to_same : (n : ℕ) → searched_to f m budget n ≡ searched_to g m budget n
  unfolding searched_to
  to_same zero = refl
  to_same (suc n) = one_same (suc n) (searched_to f m budget n) ∙ ap (tried_one g m budget (suc n)) (to_same n)

  pub search_same : searched f m budget ≡ searched g m budget
  unfolding searched
  search_same = to_same m

pub most_same : (f g : ℕ → ℕ) (n : ℕ) → ((i : ℕ) → i < n → f i ≡ g i) → most_to f n ≡ most_to g n
unfolding most_to
most_same f g zero h = refl
most_same f g (suc n) h = ap₂ max (most_same f g n (λ i l. h i (omega arith))) (h n (omega arith))

any_same : (f g : ℕ → Bool) (n : ℕ) → ((i : ℕ) → i < n → f i ≡ g i) → any_to f n ≡ any_to g n
unfolding any_to
any_same f g zero h = refl
any_same f g (suc n) h = ap₂ (λ (x y : Bool). x || y) (any_same f g n (λ i l. h i (omega arith))) (h n (omega arith))

-- ---- one constraint
module _ (d e : Path) (s : Same d e) where
  short_same : (w : ℕ) → leaves_short d w ≡ leaves_short e w
  unfolding leaves_short
  short_same w = rw (s.binding, supply_same d e s, demand_same d e s)

  withheld_same : (x : ℕ) → withheld_by d x ≡ withheld_by e x
  unfolding withheld_by
  withheld_same x =
      sum_same _ _ d.portfolios (λ p h. ap (λ (y : ℕ). cond (is_in p x) y 0) (withholdable_same d e s p))
      ∙ ap (sum_to (λ p. cond (is_in p x) (withholdable e p) 0)) s.portfolios

  set_same : (x : ℕ) → is_short d x ≡ is_short e x
  set_same x = short_same (withheld_by d x) ∙ ap (leaves_short e) (withheld_same x)

  suffices_same : (k : ℕ) → suffices d k ≡ suffices e k
  suffices_same k =
      short_same (total (top k (offers d) d.portfolios))
      ∙ ap₂ (λ (l : List ℕ) (n : ℕ). leaves_short e (total (top k l n))) (offers_same d e s) s.portfolios

  need_same : need_of d ≡ need_of e
  unfolding need_of
  need_same = first_same (suffices d) (suffices e) suffices_same d.portfolios ∙ ap (first_to (suffices e)) s.portfolios

-- ---- an interval
module _ (m : Market) (v w : Interval) where
  pub record Judged : Type 0 where
    pub constraints : v.constraints ≡ w.constraints
    pub paths : (c : ℕ) → c < v.constraints → Same (path_in m v c) (path_in m w c)

  module _ (j : Judged) where
    works_same : (s : ℕ) → works_in m v s ≡ works_in m w s
    unfolding works_in
    works_same s =
        all_same _ _ v.constraints (λ c h. set_same (path_in m v c) (path_in m w c) (j.paths c h) s)
        ∙ ap (all_to (λ c. is_short (path_in m w c) s)) j.constraints

    floor_same : floor_of m v ≡ floor_of m w
    unfolding floor_of
    floor_same =
        most_same _ _ v.constraints (λ c h. need_same (path_in m v c) (path_in m w c) (j.paths c h))
        ∙ ap (most_to (λ c. need_of (path_in m w c))) j.constraints

    binds_same : any_binds m v ≡ any_binds m w
    unfolding any_binds
    binds_same = any_same _ _ v.constraints (λ c h. (j.paths c h).binding) ∙ ap (any_to (λ c. binds (path_in m w c))) j.constraints

    in_same : (budget : ℕ) → pivotal_in m v budget ≡ pivotal_in m w budget
    unfolding pivotal_in
    in_same budget =
        let all = net_sellers m in
        ap (λ (t : Bool). cond t (found_with (searched (works_in m v) all budget) (floor_of m v)) none_found) (works_same all)
        ∙ ap₂ (λ (x : Found) (k : ℕ). cond (works_in m w all) (found_with x k) none_found) (search_same (works_in m v) (works_in m w) all budget (λ s e. works_same s)) floor_same

  -- what is judged matters only where none of 13 to 16 applies
  module _ (e : interval_refusal m.resources v ≡ interval_refusal m.resources w) (j : interval_refusal m.resources v ≡ 0 → Judged) where
    pub pivotal_refusal_same : pivotal_refusal m v ≡ pivotal_refusal m w
    unfolding pivotal_refusal
    pivotal_refusal_same = go (interval_refusal m.resources v) refl ∙ ap (λ (n : ℕ). n then unless (any_binds m w) 26) e
      where
        go : (n : ℕ) → interval_refusal m.resources v ≡ n → (n then unless (any_binds m v) 26) ≡ (n then unless (any_binds m w) 26)
        go zero z = ap (λ (t : Bool). unless t 26) (binds_same (j z))
        go (suc n) z = refl

    pub pivotal_same : (budget : ℕ) → pivotal_of m v budget ≡ pivotal_of m w budget
    unfolding pivotal_of pivotal_refusal
    pivotal_same budget = go (interval_refusal m.resources v) refl ∙ ap (λ (n : ℕ). pivotal_unless n (pivotal_in m w budget)) pivotal_refusal_same
      where
        go : (n : ℕ) → interval_refusal m.resources v ≡ n → pivotal_unless (pivotal_refusal m v) (pivotal_in m v budget) ≡ pivotal_unless (pivotal_refusal m v) (pivotal_in m w budget)
        go zero z = ap (pivotal_unless (pivotal_refusal m v)) (in_same (j z) budget)
        go (suc n) z = rw z
