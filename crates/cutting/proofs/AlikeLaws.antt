-- Two intervals that say the same of the constraints and of the resources of an hour are refused, judged, cut and written alike. Assumes nothing.
use Rattle.std.specs.Prelude.{Option}
use Prim.Native.Nat.{ℕ, zero, suc, ◌+◌, ◌*◌, ◌≤◌, ◌<◌, min}
use native.Mathlib.Omega.{arith}
use borrow.Author.Tests.{eqb-true, leb-true, ltb-true}
use mathlib.Core.Bool.{Bool, true, false, cond, ◌&&◌}
use mathlib.Core.List.{List, [], ◌∷◌, ◌++◌, flat_map}
use mathlib.Core.Path.{◌≡◌, refl, sym, ap, ap₂, ◌∙◌}
use lib.Dec.{ltb, eqb, leb}
use lib.IntN.{ℤ, pos, neg_ℤ, ◌+ℤ◌, ◌*ℤ◌}
use lib.ListN.{set, replicate}
use lib.Seq.{sets}
use lib.Signed.{lt_z}
use Rattle.rules_number.specs.Order.{in_range, nat_of}
use Rattle.rules_number.specs.Over.{those, sum_over, listed}
use Rattle.rules_number.proofs.OverLaws.{both, all_same, listed_at, listed_same, sum_taken, sum_skipped}
use Rattle.rules_curve.specs.Refusals.{unless, ◌then◌}
use Rattle.rules_curve.proofs.CheckLaws.{then_both}
use Rattle.rules_interval.specs.declared.Interval.{Interval}
use Rattle.rules_interval.specs.Intervals.{shadow_at, lmp_at, dispatch_at, available_at, floor_at, factor_at, is_same_count, constraints_good, all_within, factors_good, ranges_good, outputs_good, interval_refusal}
use Rattle.rules_interval.proofs.IntervalLaws.{in_limits}
use Rattle.rules_path.specs.declared.Market.{Market}
use Rattle.rules_path.specs.Paths.{effectiveness, is_non_competitive}
use Rattle.rules_path.specs.Judgements.{path_in}
use Rattle.rules_path.specs.Verdicts.{verdict_of}
use Rattle.rules_path.proofs.SamePath.{Same, non_competitive_same, verdict_same}
use Rattle.rules_hour.specs.Cuts.{entering, component, cut_of}
use Rattle.rules_hour.specs.Hours.{call_refusal}
use Rattle.rules_pass.specs.Passes.{turn_refusal, fresh_quarter}
use Rattle.rules_library.specs.Slices.{cell_at}
use Rattle.rules_state.specs.Layout.{most_resources, most_constraints, quarter_from, cause_width}
use Rattle.rules_state.specs.States.{cell_of, standing_in, quarter_in, market_in, quarter_cells}
use Rattle.rules_state.specs.Takes.{if_accepted, cut_cell, cuts_by, cuts_to, standing_written, quarter_written}
use Rattle.rules_state.specs.Verdicts.{verdicts_cells, judged_cells}
use Rattle.rules_state.specs.Causes.{cause_of, cause_at, causes_cells}
use Rattle.rules_state.specs.Calls.{interval_written}
use Rattle.rules_state.specs.Intervals.{interval_in}
use Rattle.interval.specs.Over.{interval_over}

-- in an hour of n resources, of which at most 64 count
pub record Alike (n : ℕ) (v w : Interval) : Type 0 where
  pub constraints : v.constraints ≡ w.constraints
  pub resources : v.resources ≡ w.resources
  pub parameter : v.parameter ≡ w.parameter
  pub shadow : (c : ℕ) → c < 32 → shadow_at v c ≡ shadow_at w c
  pub lmp : (r : ℕ) → r < min n 64 → lmp_at v r ≡ lmp_at w r
  pub dispatch : (r : ℕ) → r < min n 64 → dispatch_at v r ≡ dispatch_at w r
  pub available : (r : ℕ) → r < min n 64 → available_at v r ≡ available_at w r
  pub floor : (r : ℕ) → r < min n 64 → floor_at v r ≡ floor_at w r
  pub factor : (r c : ℕ) → r < min n 64 → c < 32 → factor_at v r c ≡ factor_at w r c

-- ---- those below n of which f holds, and a sum over them
those_below : (f g : ℕ → Bool) (n : ℕ) → ((c : ℕ) → c < n → f c ≡ g c) → those f n ≡ those g n
unfolding those
those_below f g zero h = refl
those_below f g (suc n) h = ap₂ (λ (l : List ℕ) (t : Bool). l ++ cond t (n ∷ []) []) (those_below f g n (λ c i. h c (omega arith))) (h n (omega arith))

sum_below : (x y : ℕ → ℤ) (f : ℕ → Bool) (n : ℕ) → ((c : ℕ) → c < n → x c ≡ y c) → sum_over x (those f n) ≡ sum_over y (those f n)
unfolding those sum_over
sum_below x y f zero h = refl
sum_below x y f (suc n) h = go (f n) refl (sum_below x y f n (λ c i. h c (omega arith)))
  where
    go : (t : Bool) → f n ≡ t → sum_over x (those f n) ≡ sum_over y (those f n) → sum_over x (those f (suc n)) ≡ sum_over y (those f (suc n))
    go true e ih = sum_taken x f n e ∙ ap₂ (λ (a b : ℤ). a +ℤ b) ih (h n (omega arith)) ∙ sym (sum_taken y f n e)
    go false e ih = sum_skipped x f n e ∙ ih ∙ sym (sum_skipped y f n e)

flat_same : (f g : ℕ → List ℤ) → ((r : ℕ) → f r ≡ g r) → (l : List ℕ) → flat_map f l ≡ flat_map g l
unfolding flat_map
flat_same f g h [] = refl
flat_same f g h (r ∷ l) = ap₂ ◌++◌ (h r) (flat_same f g h l)

-- ---- refusals: checks 15 and 16 matter only where 13 and 14 have passed
checked_by : (a b x y p q : Bool) → (a ≡ true → b ≡ true → (x ≡ y) × (p ≡ q))
    → (unless a 13 then unless b 14 then unless x 15 then unless p 16) ≡ (unless a 13 then unless b 14 then unless y 15 then unless q 16)
checked_by false b x y p q h = refl
checked_by true false x y p q h = refl
checked_by true true x y p q h = ap₂ (λ (s t : Bool). unless s 15 then unless t 16) (h refl refl).0 (h refl refl).1

module _ (n : ℕ) (v w : Interval) (s : Alike n v w) where
  module _ (k m : ℕ) (rows : k ≤ min n 64) (few : m ≤ 32) where
    shadows_good : all_within (pos 0) (pos 100000000) v.shadow m ≡ all_within (pos 0) (pos 100000000) w.shadow m
    unfolding all_within
    shadows_good = all_same _ _ m (λ c i. ap (in_range (pos 0) (pos 100000000)) (s.shadow c (omega arith)))

    prices_good_lem : all_within (neg_ℤ (pos 100000000)) (pos 100000000) v.lmp k ≡ all_within (neg_ℤ (pos 100000000)) (pos 100000000) w.lmp k
    unfolding all_within
    prices_good_lem = all_same _ _ k (λ r h. ap (in_range (neg_ℤ (pos 100000000)) (pos 100000000)) (s.lmp r (omega arith)))

    factors_good_lem : factors_good v.factors k m ≡ factors_good w.factors k m
    unfolding factors_good
    factors_good_lem = all_same _ _ k (λ r h. all_same _ _ m (λ c i. ap (in_range (neg_ℤ (pos 1000000)) (pos 1000000)) (s.factor r c (omega arith) (omega arith))))

    outputs_good_lem : outputs_good v.available v.floor v.dispatch k ≡ outputs_good w.available w.floor w.dispatch k
    unfolding outputs_good
    outputs_good_lem =
        all_same _ _ k (λ r h.
        ap₂ (λ (a : ℤ) (t : Bool). in_range (pos 0) (pos 1000000) a && t) (s.available r (omega arith))
        (ap₂ ◌&&◌ (ap₂ (in_range (pos 0)) (s.available r (omega arith)) (s.floor r (omega arith))) (ap₂ (in_range (pos 0)) (s.available r (omega arith)) (s.dispatch r (omega arith)))))

    ranges_good_lem : (p : ℤ) → ranges_good v.shadow v.lmp p v.factors k m ≡ ranges_good w.shadow w.lmp p w.factors k m
    ranges_good_lem p = rw (shadows_good, prices_good_lem, factors_good_lem)

  pub refusal_same : interval_refusal n v ≡ interval_refusal n w
  unfolding interval_refusal
  refusal_same =
      rw (s.constraints, s.resources, s.parameter)
      (checked_by (is_same_count n w) (constraints_good w) (ranges_good v.shadow v.lmp w.parameter v.factors w.resources w.constraints)
      (ranges_good w.shadow w.lmp w.parameter w.factors w.resources w.constraints) (outputs_good v.available v.floor v.dispatch w.resources)
      (outputs_good w.available w.floor w.dispatch w.resources) (λ a b.
      let x = both (eqb w.resources n) (leb w.resources 64) a in
      let e = eqb-true w.resources n x.0 in
      let f = leb-true w.resources 64 x.1 in
      let g = leb-true w.constraints 32 b in
      (ranges_good_lem w.resources w.constraints (omega arith) g w.parameter, outputs_good_lem w.resources w.constraints (omega arith) g)))

-- ---- verdicts and cuts
module _ (m : Market) (v w : Interval) (s : Alike m.resources v w) (rows : m.resources ≤ 64) (few : v.constraints ≤ 32) where
  pub path_same : (c : ℕ) → c < v.constraints → Same (path_in m v c) (path_in m w c)
  path_same c h = record {
    binding = ap (lt_z (pos 0)) (s.shadow c (omega arith));
    resources = refl;
    effective = λ r i. ap effectiveness (s.factor r c (omega arith) (omega arith));
    dispatch = λ r i. ap nat_of (s.dispatch r (omega arith));
    available = λ r i. ap nat_of (s.available r (omega arith));
    floor = λ r i. ap nat_of (s.floor r (omega arith));
    portfolio = λ r i. refl;
    portfolios = refl;
    seller = λ p i. refl;
  }

  pub judged_same : judged_cells m v ≡ judged_cells m w
  unfolding judged_cells
  judged_same =
      ap verdicts_cells (listed_same _ _ v.constraints (λ c h. verdict_same (path_in m v c) (path_in m w c) (path_same c h)))
      ∙ ap (λ (k : ℕ). verdicts_cells (listed (λ c. verdict_of (path_in m w c)) k)) s.constraints

  entering_same : entering m v ≡ those (λ c. is_non_competitive (path_in m w c)) v.constraints
  unfolding entering
  entering_same = those_below _ _ v.constraints (λ c h. non_competitive_same (path_in m v c) (path_in m w c) (path_same c h))

  component_same : (r : ℕ) → r < m.resources → component m v r ≡ component m w r
  unfolding component entering
  component_same r h =
      ap (λ (l : List ℕ). neg_ℤ (sum_over (λ c. factor_at v r c *ℤ shadow_at v c) l)) entering_same
      ∙ ap neg_ℤ (sum_below (λ c. factor_at v r c *ℤ shadow_at v c) (λ c. factor_at w r c *ℤ shadow_at w c) (λ c. is_non_competitive (path_in m w c)) v.constraints
      (λ c i. ap₂ (λ (x y : ℤ). x *ℤ y) (s.factor r c (omega arith) (omega arith)) (s.shadow c (omega arith))))
      ∙ ap (λ (k : ℕ). neg_ℤ (sum_over (λ c. factor_at w r c *ℤ shadow_at w c) (those (λ c. is_non_competitive (path_in m w c)) k))) s.constraints

  cut_same : (r : ℕ) → r < m.resources → cut_of m v r ≡ cut_of m w r
  unfolding cut_of
  cut_same r h = rw (s.dispatch r (omega arith), s.lmp r (omega arith), component_same r h, s.parameter)

  cuts_same : (from n : ℕ) (l : List ℤ) → n ≤ m.resources → cuts_to m v from n l ≡ cuts_to m w from n l
  unfolding cuts_by
  cuts_same from zero l h = refl
  cuts_same from (suc n) l h =
      ap (λ (x : List ℤ). cut_cell from n (cut_of m v n) x) (cuts_same from n l (omega arith)) ∙ ap (λ (x : Option ℤ). cut_cell from n x (cuts_to m w from n l)) (cut_same n (omega arith))

  cause_same : (r : ℕ) → cause_at m v r ≡ cause_at m w r
  unfolding cause_at cause_of
  cause_same r = go (ltb r m.resources) refl
    where
      go : (t : Bool) → ltb r m.resources ≡ t → cond t (cause_of m v r) (replicate cause_width (pos 0)) ≡ cond t (cause_of m w r) (replicate cause_width (pos 0))
      go true e =
          let h = ltb-true r m.resources e in
          rw (cut_same r h, component_same r h, s.lmp r (omega arith))
      go false e = refl

  pub causes_same : causes_cells m v ≡ causes_cells m w
  unfolding causes_cells
  causes_same = flat_same (cause_at m v) (cause_at m w) cause_same (listed (λ r. r) most_resources)

-- ---- what is written in the hour of the cells l
accepted_by : {A : Type 0} (n : ℕ) (a b x : A) → (n ≡ 0 → a ≡ b) → if_accepted n a x ≡ if_accepted n b x
accepted_by zero a b x h = h refl
accepted_by (suc n) a b x h = refl

module _ (v w : Interval) (l : List ℤ) (s : Alike (market_in l).resources v w) where
  -- the number of an interval, of a pass, and of neither
  pub call_same : call_refusal (market_in l) (standing_in l) v ≡ call_refusal (market_in l) (standing_in l) w
  unfolding call_refusal
  call_same = ap (λ (n : ℕ). unless (ltb (standing_in l).accepted 4) 12 then n) (refusal_same (market_in l).resources v w s)

  pub turn_same : turn_refusal (market_in l) (standing_in l).accepted (quarter_in l) v ≡ turn_refusal (market_in l) (standing_in l).accepted (quarter_in l) w
  unfolding turn_refusal
  turn_same = ap (λ (n : ℕ). unless (ltb 0 (standing_in l).accepted && ltb (quarter_in l).passes 3) 19 then n) (refusal_same (market_in l).resources v w s)

  -- after a check of the hour, by what an accepted interval is
  taken_after : {A : Type 0} (k : ℕ) (a b x : A) → ((market_in l).resources ≤ 64 → v.constraints ≤ 32 → a ≡ b)
      → if_accepted (k then interval_refusal (market_in l).resources v) a x ≡ if_accepted (k then interval_refusal (market_in l).resources w) b x
  taken_after k a b x h =
      accepted_by (k then interval_refusal (market_in l).resources v) a b x (λ z.
      let i = in_limits (market_in l).resources v (then_both k (interval_refusal (market_in l).resources v) z).1 in
      let e = i.count in
      let f = i.few in
      h (omega arith) i.constraints)
      ∙ ap (λ (n : ℕ). if_accepted (k then n) b x) (refusal_same (market_in l).resources v w s)

  standing_same : (market_in l).resources ≤ 64 → v.constraints ≤ 32 → standing_written l v ≡ standing_written l w
  unfolding standing_written
  standing_same rows few = ap (λ (x : List ℤ). set x 0 (cell_of ((standing_in l).accepted + 1))) (cuts_same (market_in l) v w s rows few 1 (market_in l).resources l (omega arith))

  quarter_same : (market_in l).resources ≤ 64 → v.constraints ≤ 32 → quarter_written l v ≡ quarter_written l w
  unfolding quarter_written
  quarter_same rows few = ap (λ (x : List ℤ). set x quarter_from (cell_of ((quarter_in l).passes + 1))) (cuts_same (market_in l) v w s rows few (quarter_from + 1) (market_in l).resources l (omega arith))

  -- an interval
  pub call_writes : {A : Type 0} (f : List ℤ → A) (x : A)
      → if_accepted (call_refusal (market_in l) (standing_in l) v) (f (standing_written l v)) x ≡ if_accepted (call_refusal (market_in l) (standing_in l) w) (f (standing_written l w)) x
  unfolding call_refusal
  call_writes f x = taken_after (unless (ltb (standing_in l).accepted 4) 12) _ _ x (λ rows few. ap f (standing_same rows few))

  pub call_state : if_accepted (call_refusal (market_in l) (standing_in l) v) (standing_written l v) l ≡ if_accepted (call_refusal (market_in l) (standing_in l) w) (standing_written l w) l
  call_state = call_writes (λ x. x) l

  pub call_begins : if_accepted (call_refusal (market_in l) (standing_in l) v) (interval_written l v) l ≡ if_accepted (call_refusal (market_in l) (standing_in l) w) (interval_written l w) l
  call_begins = call_writes (λ x. sets x quarter_from (quarter_cells fresh_quarter)) l

  pub call_verdicts_lem : (k : List ℤ) → if_accepted (call_refusal (market_in l) (standing_in l) v) (sets k 0 (judged_cells (market_in l) v)) k
      ≡ if_accepted (call_refusal (market_in l) (standing_in l) w) (sets k 0 (judged_cells (market_in l) w)) k
  unfolding call_refusal
  call_verdicts_lem k = taken_after (unless (ltb (standing_in l).accepted 4) 12) _ _ k (λ rows few. ap (sets k 0) (judged_same (market_in l) v w s rows few))

  -- a pass
  pub turn_state : if_accepted (turn_refusal (market_in l) (standing_in l).accepted (quarter_in l) v) (quarter_written l v) l
      ≡ if_accepted (turn_refusal (market_in l) (standing_in l).accepted (quarter_in l) w) (quarter_written l w) l
  unfolding turn_refusal
  turn_state = taken_after (unless (ltb 0 (standing_in l).accepted && ltb (quarter_in l).passes 3) 19) _ _ l quarter_same

  pub turn_verdicts_lem : (k : List ℤ) → if_accepted (turn_refusal (market_in l) (standing_in l).accepted (quarter_in l) v) (sets k 0 (judged_cells (market_in l) v)) k
      ≡ if_accepted (turn_refusal (market_in l) (standing_in l).accepted (quarter_in l) w) (sets k 0 (judged_cells (market_in l) w)) k
  unfolding turn_refusal
  turn_verdicts_lem k = taken_after (unless (ltb 0 (standing_in l).accepted && ltb (quarter_in l).passes 3) 19) _ _ k (λ rows few. ap (sets k 0) (judged_same (market_in l) v w s rows few))

  -- why it cuts
  pub why_causes : (k : List ℤ) → if_accepted (interval_refusal (market_in l).resources v) (sets k 0 (causes_cells (market_in l) v)) k
      ≡ if_accepted (interval_refusal (market_in l).resources w) (sets k 0 (causes_cells (market_in l) w)) k
  why_causes k = taken_after 0 _ _ k (λ rows few. ap (sets k 0) (causes_same (market_in l) v w s rows few))

-- ---- lists as they are lent, and the same in 32, 256 and 2048 numbers
pub over_alike : (n constraints : ℕ) (shadow : List ℤ) (resources : ℕ) (outputs factors : List ℤ) (parameter : ℤ)
    → Alike n (interval_over constraints shadow resources outputs factors parameter) (interval_in constraints shadow resources outputs factors parameter)
unfolding interval_in
over_alike n constraints shadow resources outputs factors parameter = record {
  constraints = refl;
  resources = refl;
  parameter = refl;
  shadow = λ c h. sym (listed_at (cell_at shadow) (pos 0) most_constraints c h);
  lmp = λ r h. refl;
  dispatch = λ r h. refl;
  available = λ r h. refl;
  floor = λ r h. refl;
  factor = λ r c h i. sym (listed_at (cell_at factors) (pos 0) (most_resources * most_constraints) (r * 32 + c) (omega arith));
}
