-- Paper 02, 2.11, in full: the fewest net sellers whose full withholding leaves every binding constraint of an interval short; the sets tried; the floor; 26. Assumes nothing.
use Rattle.std.specs.Prelude.{None, Option, Some}
use mathlib.Core.Bool.{Bool, true, false, ◌&&◌, cond}
use mathlib.Core.List.{List}
use mathlib.Core.Logic.{◌↔◌, ◌⊎◌, inl, inr, ⊎_elim}
use mathlib.Core.Path.{◌≡◌, refl, sym, ap, ap₂, ◌∙◌, subst}
use Prim.Native.Nat.{ℕ, zero, suc, min, ◌+◌, ◌-◌, ◌*◌, ◌^◌, ◌≤◌, ◌<◌}
use native.Mathlib.Omega.{arith}
use borrow.Author.Tests.{ltb-true, ltb-false, le-leb, lt-leb}
use Rattle.std.proofs.lemmas.Option.{none-some}
use lib.Count.{ones}
use lib.Dec.{eqb, ltb, leb}
use lib.IntN.{ℤ, pos, negsuc}
use lib.ListN.{length, get_or}
use lib.Seq.{sets}
use lib.Signed.{◌<ℤ◌}
use Rattle.rules_number.specs.Over.{sum_to}
use Rattle.rules_number.proofs.OverLaws.{never, le_or_lt}
use Rattle.rules_curve.specs.Refusals.{unless, ◌then◌}
use Rattle.rules_interval.specs.Intervals.{is_same_count, constraints_good, ranges_good, outputs_good, interval_refusal}
use Rattle.rules_interval.specs.declared.Interval.{Interval}
use Rattle.rules_path.specs.Judgements.{path_in}
use Rattle.rules_path.specs.Paths.{demand, supply, share, withholdable}
use Rattle.rules_path.specs.declared.Market.{Market}
use Rattle.rules_mask.specs.Masks.{is_within, set_of}
use Rattle.rules_mask.proofs.SizeLaws.{within_le}
use Rattle.rules_library.specs.Slices.{answer_of, if_written}
use Rattle.rules_state.specs.States.{market_in}
use Rattle.rules_state.proofs.StandLaws.{stored_at, stored_past}
use Rattle.rules_pivotal.specs.Calls.{found_cells, pivotal_answer, found_after}
use Rattle.rules_pivotal.specs.Meaning.{full_of, Works, Needs}
use Rattle.rules_pivotal.specs.Pivotals.{net_sellers, works_in, any_binds, pivotal_refusal, pivotal_of}
use Rattle.rules_pivotal.specs.Searches.{better_of, tried_one, searched_to, searched}
use Rattle.rules_pivotal.specs.declared.Found.{Found}
use Rattle.rules_pivotal.specs.declared.Pivotal.{Pivotal}
use Rattle.rules_pivotal.proofs.Exactly.{binds_exactly}
use Rattle.rules_pivotal.proofs.Jointly as rules
use Rattle.rules_pivotal.proofs.SellerSets.{within_sellers, works_exactly}
use Rattle.statements.proofs.Paths.{Bit, Demand, Supply, Withholdable}
use Rattle.statements.proofs.Plain.{Sum}

module _ (m : Market) (v : Interval) where
  -- a set of net sellers, "bit p standing for portfolio p and only net sellers in it"
  abbrev pub NetSellers : ℕ → Type 0
  NetSellers s = (p : ℕ) → Bit p s ≡ 1 → (p < 16) × (get_or m.seller p 0 ≡ 1)

  -- "all net sellers together", and how many they are
  abbrev pub All : ℕ
  All = Sum (λ p. cond (eqb (get_or m.seller p 0) 1) (2 ^ p) 0) 16

  abbrev pub HowMany : ℕ
  HowMany = Sum (λ p. cond (eqb (get_or m.seller p 0) 1) 1 0) 16

  -- constraint c binds
  abbrev pub Binding : ℕ → Type 0
  Binding c = (c < v.constraints) × (pos 0 <ℤ get_or v.shadow c (pos 0))

  -- "full withholding" of a set leaves constraint c short: supply less all that its members can withhold is below demand
  abbrev pub ShortOn : ℕ → ℕ → Type 0
  ShortOn c s = Supply (path_in m v c) < Demand (path_in m v c) + Sum (λ p. Bit p s * Withholdable (path_in m v c) p) 16

  -- "leaves every binding constraint of an interval short"
  abbrev pub LeavesShort : ℕ → Type 0
  LeavesShort s = (c : ℕ) → Binding c → ShortOn c s

  -- k is the count that constraint c alone needs: some set of so many net sellers leaves it short, and none of fewer does
  abbrev pub Alone : ℕ → ℕ → Type 0
  Alone c k = ((s : ℕ) × NetSellers s × (ones s ≡ k) × ShortOn c s) × ((s : ℕ) → NetSellers s → ShortOn c s → k ≤ ones s)

  -- ---- the search, word for word, as far as number n: a best so far, and how many sets were tried
  -- number s is a set of net sellers and budget is left: it is tried, and "a set that works replaces the best only if it has fewer members"; any other number leaves all as it was
  abbrev pub Tries : ℕ → ℕ → ℕ → ℕ → ℕ → ℕ → Type 0
  Tries budget s best tried best' tried' =
      (NetSellers s × (tried < budget) × (tried' ≡ tried + 1)
      × (((ones s < ones best) × LeavesShort s × (best' ≡ s)) ⊎ (((ones s < ones best) × LeavesShort s → ⊥) × (best' ≡ best))))
      ⊎ ((NetSellers s × (tried < budget) → ⊥) × (tried' ≡ tried) × (best' ≡ best))

  -- "that whole set is the first best. Then sets are tried in rising order of their number [..] the empty set left out, until the given budget or the sets run out"
  abbrev pub SearchedTo : ℕ → ℕ → ℕ → ℕ → Type 0
  SearchedTo budget zero best tried = (best ≡ All) × (tried ≡ 0)
  SearchedTo budget (suc n) best tried = (b t : ℕ) × SearchedTo budget n b t × Tries budget (suc n) b t best tried

  pub record SetSays (budget set tried floor : ℕ) : Type 0 where
    pub searched : SearchedTo budget All set tried
    pub none_above : (s : ℕ) → NetSellers s → s ≤ All
    pub of_sellers : NetSellers set
    pub works : LeavesShort set
    -- "sets tried equals the smaller of budget and the number of non-empty sets of net sellers"
    pub count : tried ≡ min budget (2 ^ HowMany - 1)
    -- "a floor: the largest count that one constraint alone needs"
    pub largest : (c : ℕ) → Binding c → (k : ℕ) → Alone c k → k ≤ floor
    pub attained : (c : ℕ) × Binding c × Alone c floor
    -- "No set that works has fewer members than the floor, so the best is off by at most their difference; with the sets all tried, no working set has fewer than the best."
    pub no_fewer : (s : ℕ) → NetSellers s → LeavesShort s → floor ≤ ones s
    pub off_by : (s : ℕ) → NetSellers s → LeavesShort s → ones set - ones s ≤ ones set - floor
    pub all_tried : 2 ^ HowMany - 1 ≤ budget → (s : ℕ) → NetSellers s → LeavesShort s → ones set ≤ ones s

  pub record Says (budget : ℕ) (r : Pivotal) : Type 0 where
    -- "If all net sellers together can't, no set of them can, and the result is none, with 0 sets tried and floor 0."
    pub none : (r ≡ record { best = None; tried = 0; floor = 0 }) ↔ (LeavesShort All → ⊥)
    pub no_set : (LeavesShort All → ⊥) → (s : ℕ) → NetSellers s → LeavesShort s → ⊥
    -- "Otherwise that whole set is the first best."
    pub some : LeavesShort All → (set : ℕ) × (r.best ≡ Some set) × SetSays budget set r.tried r.floor

  -- ---- in the rules' words, and back
  all_is : net_sellers m ≡ All
  unfolding net_sellers set_of sum_to
  all_is = refl

  short_is : (c s : ℕ) → (supply (path_in m v c) < demand (path_in m v c) + full_of (path_in m v c) s) ↔ ShortOn c s
  unfolding demand supply withholdable share sum_to
  short_is c s = ((λ h. h), λ h. h)

  works_are : (s : ℕ) → Works m v s ↔ LeavesShort s
  works_are s = ((λ w c b. (short_is c s).0 (w c b)), λ w c b. (short_is c s).1 (w c b))

  all_works : Works m v (net_sellers m) ↔ LeavesShort All
  all_works = ((λ w. subst LeavesShort all_is ((works_are (net_sellers m)).0 w)), λ w. (works_are (net_sellers m)).1 (subst LeavesShort (sym all_is) w))

  tested : (s : ℕ) (t : Bool) → works_in m v s ≡ t → cond t (LeavesShort s) (LeavesShort s → ⊥)
  tested s true e = (works_are s).0 ((works_exactly m v s).0 e)
  tested s false e = λ w. never (sym e ∙ (works_exactly m v s).1 ((works_are s).1 w))

  needs_are : (c k : ℕ) → Needs m (path_in m v c) k ↔ Alone c k
  needs_are c k = (
    (λ n. ((n.set, n.of_sellers, n.members, (short_is c n.set).0 n.short), λ s of h. n.no_fewer s of ((short_is c s).1 h))),
    λ a. record { set = a.0.0; of_sellers = a.0.1; members = a.0.2; short = (short_is c a.0.0).1 a.0.3; no_fewer = λ s of h. a.1 s of ((short_is c s).0 h) },
  )

  count_are : sum_to (λ p. cond (eqb (get_or m.seller p 0) 1) 1 0) 16 ≡ HowMany
  unfolding sum_to
  count_are = refl

  -- ---- the search
  module _ (budget : ℕ) where
    abbrev one : ℕ → Found → Found
    one s f = tried_one (works_in m v) (net_sellers m) budget s f

    abbrev if_tried : ℕ → Found → Bool → Found
    if_tried s f t = cond t (record { best = cond (ltb (ones s) (ones f.best) && works_in m v s) s f.best; tried = f.tried + 1 }) f

    better : (s b : ℕ) (x y : Bool) → ltb (ones s) (ones b) ≡ x → works_in m v s ≡ y
        → ((ones s < ones b) × LeavesShort s × (cond (x && y) s b ≡ s)) ⊎ (((ones s < ones b) × LeavesShort s → ⊥) × (cond (x && y) s b ≡ b))
    better s b true true e w = inl (ltb-true (ones s) (ones b) e, tested s true w, refl)
    better s b true false e w = inr ((λ k. tested s false w k.1), refl)
    better s b false y e w = inr ((λ k. absurd (omega (arith, k.0, ltb-false (ones s) (ones b) e))), refl)

    tries : (s : ℕ) (f : Found) → Tries budget s f.best f.tried (one s f).best (one s f).tried
    unfolding better_of
    tries s f = go (is_within (net_sellers m) s) refl (ltb f.tried budget) refl
      where
        go : (t : Bool) → is_within (net_sellers m) s ≡ t → (u : Bool) → ltb f.tried budget ≡ u → Tries budget s f.best f.tried (if_tried s f (t && u)).best (if_tried s f (t && u)).tried
        go true e true l = inl ((within_sellers m s).0 e, ltb-true f.tried budget l, refl, better s f.best (ltb (ones s) (ones f.best)) (works_in m v s) refl refl)
        go true e false l = inr ((λ k. absurd (omega (arith, k.1, ltb-false f.tried budget l))), refl, refl)
        go false e u l = inr ((λ k. never (sym e ∙ (within_sellers m s).1 k.0)), refl, refl)

    searched_to_lem : (n : ℕ) → let f = searched_to (works_in m v) (net_sellers m) budget n in SearchedTo budget n f.best f.tried
    unfolding searched_to
    searched_to_lem zero = (all_is, refl)
    searched_to_lem (suc n) = let f = searched_to (works_in m v) (net_sellers m) budget n in (f.best, f.tried, searched_to_lem n, tries (suc n) f)

  set_says : (budget set tried floor : ℕ) → rules.Together m v budget set tried floor → SetSays budget set tried floor
  unfolding searched
  set_says budget set tried floor t = record {
    searched = subst (λ (n : ℕ). SearchedTo budget n set tried) all_is (subst (λ (f : Found). SearchedTo budget (net_sellers m) f.best f.tried) t.found (searched_to_lem budget (net_sellers m)));
    none_above = λ s of. subst (λ (n : ℕ). s ≤ n) all_is (within_le (net_sellers m) s ((within_sellers m s).1 of));
    of_sellers = t.of_sellers;
    works = (works_are set).0 t.works;
    count = t.count ∙ ap (λ (k : ℕ). min budget (2 ^ k - 1)) count_are;
    largest = λ c b k a. t.is_floor.at_least c b k ((needs_are c k).1 a);
    attained = let f = t.is_floor in (f.one, f.one_binds, (needs_are f.one floor).0 f.attained);
    no_fewer = λ s of w. t.no_fewer s of ((works_are s).1 w);
    off_by = λ s of w. omega (arith, t.no_fewer s of ((works_are s).1 w));
    all_tried = λ h s of w. t.all_tried (subst (λ (k : ℕ). 2 ^ k - 1 ≤ budget) (sym count_are) h) s of ((works_are s).1 w);
  }

  -- an interval that is taken, with any budget
  pub together : pivotal_refusal m v ≡ 0 → (budget : ℕ) → Says budget (pivotal_of m v budget)
  together accepted budget = said (pivotal_of m v budget) (rules.pivotal_is m v budget accepted)
    where
      said : (r : Pivotal) → rules.Says m v budget r → Says budget r
      said r (rules.none un all e) = record {
        none = ((λ x w. un (all_works.1 w)), λ w. e);
        no_set = λ w s of x. all s of ((works_are s).1 x);
        some = λ w. absurd (un (all_works.1 w));
      }
      said r (rules.some w set e t) = record {
        none = ((λ x un. none-some set (sym (ap (λ (y : Pivotal). y.best) x) ∙ e)), λ un. absurd (un (all_works.0 w)));
        no_set = λ un. absurd (un (all_works.0 w));
        some = λ x. (set, e, set_says budget set r.tried r.floor t);
      }

  -- "26, no constraint binds, after 13 to 16; 12 never applies here"
  pub record RefusalSays : Type 0 where
    pub first : 0 < interval_refusal m.resources v → pivotal_refusal m v ≡ interval_refusal m.resources v
    pub twenty_six : interval_refusal m.resources v ≡ 0 → (pivotal_refusal m v ≡ 26) ↔ (((c : ℕ) × Binding c) → ⊥)
    pub taken : (pivotal_refusal m v ≡ 0) ↔ ((interval_refusal m.resources v ≡ 0) × ((c : ℕ) × Binding c))
    pub twelve : pivotal_refusal m v ≡ 12 → ⊥
    -- a refusal returns its number alone
    pub alone : (budget : ℕ) → 0 < pivotal_refusal m v → pivotal_of m v budget ≡ record { best = None; tried = 0; floor = 0 }

  pub refusals : RefusalSays
  unfolding pivotal_refusal interval_refusal
  refusals = record {
    first = by_interval (interval_refusal m.resources v);
    twenty_six = λ z. rw z (last (any_binds m v) refl);
    taken = all (interval_refusal m.resources v);
    twelve = never_twelve (is_same_count m.resources v) (constraints_good v) (ranges_good v.shadow v.lmp v.parameter v.factors v.resources v.constraints) (outputs_good v.available v.floor v.dispatch v.resources) (any_binds m v);
    alone = rules.refused_alone m v;
  }
    where
      by_interval : (n : ℕ) → 0 < n → (n then unless (any_binds m v) 26) ≡ n
      by_interval zero h = absurd (omega arith)
      by_interval (suc n) h = refl

      last : (t : Bool) → any_binds m v ≡ t → (unless t 26 ≡ 26) ↔ (((c : ℕ) × Binding c) → ⊥)
      last true e = ((λ x. absurd (omega (arith, x))), λ n. absurd (n ((binds_exactly m v).0 e)))
      last false e = ((λ x b. never (sym e ∙ (binds_exactly m v).1 b)), λ n. refl)

      some : (t : Bool) → any_binds m v ≡ t → (unless t 26 ≡ 0) ↔ ((◌≡◌ {A = ℕ} 0 0) × ((c : ℕ) × Binding c))
      some true e = ((λ x. (refl, (binds_exactly m v).0 e)), λ b. refl)
      some false e = ((λ x. absurd (omega (arith, x))), λ b. never (sym e ∙ (binds_exactly m v).1 b.1))

      all : (n : ℕ) → ((n then unless (any_binds m v) 26) ≡ 0) ↔ ((n ≡ 0) × ((c : ℕ) × Binding c))
      all zero = some (any_binds m v) refl
      all (suc n) = ((λ x. absurd (omega (arith, x))), λ b. absurd (omega (arith, b.0)))

      never_twelve : (a b c d e : Bool) → ((unless a 13 then unless b 14 then unless c 15 then unless d 16) then unless e 26) ≡ 12 → ⊥
      never_twelve false b c d e x = omega (arith, x)
      never_twelve true false c d e x = omega (arith, x)
      never_twelve true true false d e x = omega (arith, x)
      never_twelve true true true false e x = omega (arith, x)
      never_twelve true true true true false x = omega (arith, x)
      never_twelve true true true true true x = omega (arith, x)

  -- "More budget never gives a best with more members."
  pub more_budget : (budget more : ℕ) → budget ≤ more → (s t : ℕ) → (pivotal_of m v budget).best ≡ Some s → (pivotal_of m v more).best ≡ Some t → ones t ≤ ones s
  more_budget budget more h s t e f =
      let k = rules.more_never_worse m v budget more h in
      omega (arith, subst (λ (b : Option ℕ). rules.members_of b ≤ rules.members_of (pivotal_of m v budget).best) f k, ap rules.members_of e)

  -- sets tried are "bounded by budget", whatever the result
  pub within_budget : (budget : ℕ) → (pivotal_of m v budget).tried ≤ budget
  within_budget budget = rules.tried_in_budget m v budget

-- ---- the call in numbers, on a state and a slice for what is found: of the hour it reads the market alone
module _ (state : List ℤ) (found : List ℕ) (v : Interval) (budget : ℕ) where
  -- the number of a best set; none is 0
  abbrev pub Number : Option ℕ → ℕ
  Number None = 0
  Number (Some s) = s

  abbrev pub Result : Pivotal
  Result = pivotal_of (market_in state) v budget

  abbrev pub After : List ℕ
  After = found_after state found v budget

  pub record CallSays : Type 0 where
    pub too_short : (length state < 3411) ⊎ (length found < 3) → pivotal_answer state found v ≡ negsuc 0
    pub number : 3411 ≤ length state → 3 ≤ length found → pivotal_answer state found v ≡ pos (pivotal_refusal (market_in state) v)
    -- "a refusal changes no curve and no lent buffer"
    pub kept : (pivotal_answer state found v ≡ pos 0 → ⊥) → After ≡ found
    pub told : pivotal_answer state found v ≡ pos 0 → (get_or After 0 0 ≡ Number Result.best) × (get_or After 1 0 ≡ Result.tried) × (get_or After 2 0 ≡ Result.floor)
    pub past : (i : ℕ) → 3 ≤ i → get_or After i 0 ≡ get_or found i 0

  pub call : CallSays
  unfolding pivotal_answer found_after
  call = record {
    too_short = short;
    number = λ s f. ap₂ (λ (x y : Bool). answer_of (x && y) number) (le-leb 3411 (length state) s) (le-leb 3 (length found) f);
    kept = left (answer_of room number);
    told = λ e. (told_at e 0 (omega arith), told_at e 1 (omega arith), told_at e 2 (omega arith));
    past = λ i h. beyond (answer_of room number) i h;
  }
    where
      number : ℕ
      number = pivotal_refusal (market_in state) v

      room : Bool
      room = leb 3411 (length state) && leb 3 (length found)

      cells : List ℕ
      cells = found_cells (pivotal_of (market_in state) v budget)

      and-false : (a : Bool) → (a && false) ≡ false
      and-false true = refl
      and-false false = refl

      short : (length state < 3411) ⊎ (length found < 3) → answer_of room number ≡ negsuc 0
      short (inl h) = ap (λ (t : Bool). answer_of (t && leb 3 (length found)) number) (lt-leb 3411 (length state) h)
      short (inr h) = ap (λ (t : Bool). answer_of (leb 3411 (length state) && t) number) (lt-leb 3 (length found) h) ∙ ap (λ (t : Bool). answer_of t number) (and-false (leb 3411 (length state)))

      left : (r : ℤ) → (r ≡ pos 0 → ⊥) → if_written r (sets found 0 cells) found ≡ found
      left (pos zero) h = absurd (h refl)
      left (pos (suc n)) h = refl
      left (negsuc n) h = refl

      beyond : (r : ℤ) (i : ℕ) → 3 ≤ i → get_or (if_written r (sets found 0 cells) found) i 0 ≡ get_or found i 0
      beyond (pos zero) i h = stored_past 0 found 0 cells i (omega arith)
      beyond (pos (suc n)) i h = refl
      beyond (negsuc n) i h = refl

      fits : answer_of room number ≡ pos 0 → 3 ≤ length found
      fits e = ⊎_elim (λ h. h) (λ h. absurd (let m = short (inr h) in let o : ◌≡◌ {A = ℕ} 0 1 = cc in omega arith)) (le_or_lt 3 (length found))

      told_at : (e : answer_of room number ≡ pos 0) (k : ℕ) → k < 3 → get_or (if_written (answer_of room number) (sets found 0 cells) found) k 0 ≡ get_or cells k 0
      told_at e k h =
          let z : 0 + k ≡ k = omega arith in
          ap (λ (r : ℤ). get_or (if_written r (sets found 0 cells) found) k 0) e ∙ ap (λ (j : ℕ). get_or (sets found 0 cells) j 0) (sym z) ∙ stored_at 0 found 0 cells (omega (arith, fits e)) k (omega arith)
