-- Short on every path together, in the request's words. Assumes nothing.
use Rattle.std.specs.Prelude.{None, Option, Some}
use mathlib.Core.Bool.{Bool, true, false, cond}
use mathlib.Core.Logic.{◌↔◌, ◌⊎◌}
use mathlib.Core.Path.{◌≡◌, refl, sym, ap, ◌∙◌}
use Prim.Native.Nat.{ℕ, zero, suc, min, ◌+◌, ◌-◌, ◌*◌, ◌^◌, ◌≤◌, ◌<◌, zero-le}
use native.Mathlib.Nat.{le_refl, le_trans, le_of_eq}
use native.Mathlib.Omega.{arith}
use lib.Count.{ones}
use lib.Dec.{eqb}
use lib.IntN.{pos}
use lib.Signed.{◌<ℤ◌}
use Rattle.rules_number.specs.Order.{nat_of}
use Rattle.rules_number.specs.Over.{sum_to}
use Rattle.rules_number.proofs.OverLaws.{never}
use Rattle.rules_number.proofs.RangeLaws.{nat_is}
use Rattle.rules_number.proofs.SumLaws.{sum_le}
use Rattle.rules_interval.specs.Intervals.{shadow_at, dispatch_at, available_at, interval_refusal}
use Rattle.rules_interval.specs.declared.Interval.{Interval}
use Rattle.rules_interval.proofs.IntervalLaws.{in_limits}
use Rattle.rules_path.specs.Judgements.{path_in}
use Rattle.rules_path.specs.Paths.{Path, at, withholdable, offers, top, total, is_non_competitive}
use Rattle.rules_path.specs.Verdicts.{bit}
use Rattle.rules_path.specs.declared.Market.{Market}
use Rattle.rules_path.proofs.BitLaws.{bit_zero}
use Rattle.rules_path.proofs.PathLaws.{demand_within, non_competitive}
use Rattle.rules_path.proofs.TopLaws.{top_short}
use Rattle.rules_mask.proofs.SizeLaws.{set_ones}
use Rattle.rules_pivotal.specs.Meaning.{OfNetSellers, full_of, Works, IsFloor}
use Rattle.rules_pivotal.specs.Pivotals.{net_sellers, works_in, suffices, first_to, need_of, floor_of, none_found, found_with, pivotal_in, pivotal_refusal, pivotal_unless, pivotal_of}
use Rattle.rules_pivotal.specs.Searches.{searched}
use Rattle.rules_pivotal.specs.declared.Pivotal.{Pivotal}
use Rattle.rules_pivotal.proofs.Exactly.{SomeBinds, taken}
use Rattle.rules_pivotal.proofs.FloorLaws.{first_le, first_holds, possible_most, top_is_possible, floor_below, floor_is}
use Rattle.rules_pivotal.proofs.Searching.{Tried, Before, Search, search_is, in_budget, more_budget}
use Rattle.rules_pivotal.proofs.SellerSets.{within_sellers, short_exactly, works_exactly, works_mono}

-- ---- the empty set leaves nothing short: dispatch is at most available (16)
module _ (m : Market) (v : Interval) (passed : interval_refusal m.resources v ≡ 0) where
  dispatched : (r : ℕ) → r < m.resources → nat_of (dispatch_at v r) ≤ nat_of (available_at v r)
  dispatched r l =
      let limits = in_limits m.resources v passed in
      let k : r < v.resources = le_trans l (le_of_eq (sym limits.count)) in
      let a = nat_is 1000000 (available_at v r) (limits.available r k) in
      (nat_is (nat_of (available_at v r)) (dispatch_at v r) (rw a.0 at (limits.dispatch r k))).1

  nothing : (d : Path) → full_of d 0 ≡ 0
  nothing d =
      let h : sum_to (λ p. bit p 0 * withholdable d p) 16 ≤ 16 * 0 = sum_le (λ p. bit p 0 * withholdable d p) 0 16 (λ p l. le_of_eq (ap (λ (x : ℕ). x * withholdable d p) (bit_zero p) ∙ native.Mathlib.Nat.zero-mul (withholdable d p))) in
      omega arith

  pub empty_never : SomeBinds v → Works m v 0 → ⊥
  empty_never b w = let c = b.0 in omega (arith, demand_within (path_in m v c) dispatched, w c b.1, nothing (path_in m v c))

-- ---- the result
-- how many net sellers there are
abbrev pub seller_count : Market → ℕ
seller_count m = sum_to (λ p. cond (eqb (at m.seller p) 1) 1 0) 16

pub count_is : (m : Market) → ones (net_sellers m) ≡ seller_count m
unfolding net_sellers
count_is m = set_ones (λ p. eqb (at m.seller p) 1) 16

-- a best set, with the sets tried and a floor
pub record Together (m : Market) (v : Interval) (budget best tried floor : ℕ) : Type 0 where
  -- "Then sets are tried in rising order of their number [..] until the given budget or the sets run out": both are what the definition comes to
  pub found : searched (works_in m v) (net_sellers m) budget ≡ record { best = best; tried = tried }
  -- the best is a set of net sellers that works: all of them, or one of the sets tried
  pub of_sellers : OfNetSellers m best
  pub works : Works m v best
  pub one : (best ≡ net_sellers m) ⊎ Tried (net_sellers m) budget best
  -- "a set that works replaces the best only if it has fewer members": of the sets tried that work none has fewer, and of those with as many none has a lower number
  pub least : (s : ℕ) → Tried (net_sellers m) budget s → Works m v s → Before best s
  -- "sets tried equals the smaller of budget and the number of non-empty sets of net sellers"
  pub count : tried ≡ min budget (2 ^ seller_count m - 1)
  pub in_budget : tried ≤ budget
  -- "a floor: the largest count that one constraint alone needs"
  pub is_floor : IsFloor m v floor
  -- "No set that works has fewer members than the floor, so the best is off by at most their difference"
  pub no_fewer : (s : ℕ) → OfNetSellers m s → Works m v s → floor ≤ ones s
  pub off_by : (s : ℕ) → OfNetSellers m s → Works m v s → ones best ≤ ones s + (ones best - floor)
  -- "with the sets all tried, no working set has fewer than the best"
  pub all_tried : 2 ^ seller_count m - 1 ≤ budget → (s : ℕ) → OfNetSellers m s → Works m v s → ones best ≤ ones s

pub data Says (m : Market) (v : Interval) (budget : ℕ) (r : Pivotal) : Type 0 where
  -- "If all net sellers together can't, no set of them can, and the result is none, with 0 sets tried and floor 0."
  none : (Works m v (net_sellers m) → ⊥) → ((s : ℕ) → OfNetSellers m s → Works m v s → ⊥) → r ≡ record { best = None; tried = 0; floor = 0 } → Says m v budget r
  -- "Otherwise that whole set is the first best."
  some : Works m v (net_sellers m) → (set : ℕ) → r.best ≡ Some set → Together m v budget set r.tried r.floor → Says m v budget r

module _ (m : Market) (v : Interval) (budget : ℕ) (accepted : pivotal_refusal m v ≡ 0) where
  taken_it : (interval_refusal m.resources v ≡ 0) × SomeBinds v
  taken_it = taken m v accepted

  no_set : works_in m v (net_sellers m) ≡ false → (s : ℕ) → OfNetSellers m s → Works m v s → ⊥
  no_set e s of w = never (sym e ∙ works_mono m v s (net_sellers m) ((within_sellers m s).1 of) ((works_exactly m v s).1 w))

  together : works_in m v (net_sellers m) ≡ true → Together m v budget (searched (works_in m v) (net_sellers m) budget).best (searched (works_in m v) (net_sellers m) budget).tried (floor_of m v)
  together e = record {
    found = refl;
    of_sellers = (within_sellers m b).0 h.of_sellers;
    works = (works_exactly m v b).0 h.works;
    one = h.one;
    least = λ s t w. h.least s t ((works_exactly m v s).1 w);
    count = counted;
    in_budget = omega (arith, counted);
    is_floor = floor_is m v e taken_it.1.0 taken_it.1.1;
    no_fewer = below;
    off_by = λ s of w. omega (arith, below s of w);
    all_tried = λ l s of w. h.all_tried (le_trans (le_of_eq (ap (λ (k : ℕ). 2 ^ k - 1) (count_is m))) l) s (not_empty s w) ((within_sellers m s).1 of) ((works_exactly m v s).1 w);
  }
    where
      b : ℕ
      b = (searched (works_in m v) (net_sellers m) budget).best

      h : Search (works_in m v) (net_sellers m) budget (searched (works_in m v) (net_sellers m) budget)
      h = search_is (works_in m v) (net_sellers m) e budget

      counted : (searched (works_in m v) (net_sellers m) budget).tried ≡ min budget (2 ^ seller_count m - 1)
      counted = h.count ∙ ap (λ (k : ℕ). min budget (2 ^ k - 1)) (count_is m)

      below : (s : ℕ) → OfNetSellers m s → Works m v s → floor_of m v ≤ ones s
      below s of w = floor_below m v s of ((works_exactly m v s).1 w)

      not_empty : (s : ℕ) → Works m v s → 0 < s
      not_empty zero w = absurd (empty_never m v taken_it.0 taken_it.1 w)
      not_empty (suc s) w = omega arith

  pub pivotal_is : Says m v budget (pivotal_of m v budget)
  unfolding pivotal_of pivotal_in
  pivotal_is = rw accepted (go (works_in m v (net_sellers m)) refl)
    where
      go : (t : Bool) → works_in m v (net_sellers m) ≡ t → Says m v budget (cond t (found_with (searched (works_in m v) (net_sellers m) budget) (floor_of m v)) none_found)
      go true e = some ((works_exactly m v (net_sellers m)).0 e) (searched (works_in m v) (net_sellers m) budget).best refl (together e)
      go false e = none (λ w. never (sym e ∙ (works_exactly m v (net_sellers m)).1 w)) (no_set e) refl

-- a refusal returns its number alone
pub refused_alone : (m : Market) (v : Interval) (budget : ℕ) → 0 < pivotal_refusal m v → pivotal_of m v budget ≡ none_found
unfolding pivotal_of
refused_alone m v budget h = go (pivotal_refusal m v) h
  where
    go : (k : ℕ) → 0 < k → pivotal_unless k (pivotal_in m v budget) ≡ none_found
    go zero l = absurd (omega arith)
    go (suc k) l = refl

-- "Sets tried is a field equal to the definition's count and bounded by budget", whatever the result
pub tried_in_budget : (m : Market) (v : Interval) (budget : ℕ) → (pivotal_of m v budget).tried ≤ budget
unfolding pivotal_of pivotal_in
tried_in_budget m v budget = go (pivotal_refusal m v) (works_in m v (net_sellers m))
  where
    go : (k : ℕ) (t : Bool) → (pivotal_unless k (cond t (found_with (searched (works_in m v) (net_sellers m) budget) (floor_of m v)) none_found)).tried ≤ budget
    go zero true = in_budget (works_in m v) (net_sellers m) budget
    go zero false = zero-le
    go (suc k) t = zero-le

-- "More budget never gives a best with more members": how many members a result has, 0 where there is none
abbrev pub members_of : Option ℕ → ℕ
members_of None = 0
members_of (Some s) = ones s

pub more_never_worse : (m : Market) (v : Interval) (budget more : ℕ) → budget ≤ more → members_of (pivotal_of m v more).best ≤ members_of (pivotal_of m v budget).best
unfolding pivotal_of pivotal_in
more_never_worse m v budget more l = go (pivotal_refusal m v) (works_in m v (net_sellers m)) refl
  where
    go : (k : ℕ) (t : Bool) → works_in m v (net_sellers m) ≡ t
        → members_of (pivotal_unless k (cond t (found_with (searched (works_in m v) (net_sellers m) more) (floor_of m v)) none_found)).best
        ≤ members_of (pivotal_unless k (cond t (found_with (searched (works_in m v) (net_sellers m) budget) (floor_of m v)) none_found)).best
    go zero true e = more_budget (works_in m v) (net_sellers m) e budget more l
    go zero false e = le_refl 0
    go (suc k) t e = le_refl 0

-- ---- one constraint alone is non-competitive exactly where it needs at most three
module _ (m : Market) (v : Interval) (c : ℕ) (binding : pos 0 <ℤ shadow_at v c) where
  abbrev path : Path
  path = path_in m v c

  pub three_exactly : (is_non_competitive (path_in m v c) ≡ true) ↔ (need_of (path_in m v c) ≤ 3)
  unfolding need_of
  three_exactly = (
    (λ e.
        let n = (non_competitive path).0 e in
        first_le (suffices path) 16 3 ((short_exactly path (total (top 3 (offers path) 16))).1 (λ b. omega (arith, n.below, possible_most path 3 n.choice n.few n.possible)))),
    λ l.
        let k = first_to (suffices path) 16 in
        let s = first_holds (suffices path) 16 (omega arith) in
        (non_competitive path).1 (record {
          binding = binding;
          choice = top k (offers path) 16;
          few = le_trans (top_short k (offers path) 16) l;
          possible = top_is_possible path k;
          below = (short_exactly path (total (top k (offers path) 16))).0 s binding;
        }),
  )
