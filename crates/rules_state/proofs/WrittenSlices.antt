-- What stands in the slices that calls write: the curves, the verdicts. Assumes nothing.
use Rattle.std.specs.Prelude.{Option}
use mathlib.Core.Bool.{true, false, ◌&&◌}
use mathlib.Core.List.{List, ◌∷◌, map, flat_map}
use mathlib.Core.Logic.{◌⊎◌, inl, inr, ⊎_elim}
use mathlib.Core.Path.{◌≡◌, refl, sym, ap, subst, ◌∙◌}
use Prim.Native.Nat.{ℕ, ◌+◌, ◌*◌, ◌%◌, ◌≤◌, ◌<◌}
use native.Mathlib.Nat.{le_trans, le_of_eq}
use native.Mathlib.Omega.{arith}
use borrow.Author.Tests.{leb-true, le-leb, lt-leb, lt-ltb, le-ltb}
use lib.Count.{ones}
use lib.Dec.{ltb}
use lib.IntN.{ℤ, pos, negsuc}
use lib.ListN.{length, get_or, length-map, length-take, get_or-eq_default}
use lib.Seq.{sets, length-sets}
use Rattle.rules_number.specs.Order.{nat_of}
use Rattle.rules_number.specs.Over.{listed, padded}
use Rattle.rules_number.proofs.OverLaws.{both, tested, le_or_lt, listed_at, listed_length, padded_length}
use Rattle.rules_number.proofs.CellLaws.{cell_listed}
use Rattle.rules_curve.specs.Curves.{most_steps, blank_step, steps_of, blank_curve}
use Rattle.rules_curve.specs.declared.Curve.{Curve}
use Rattle.rules_curve.proofs.CheckLaws.{then_both}
use Rattle.rules_mitigation.specs.Mitigation.{most_mitigated_steps, mitigated_steps, mitigated}
use Rattle.rules_mitigation.specs.declared.Mitigated.{Mitigated}
use Rattle.rules_mitigation.proofs.MitigationLaws.{mitigated_length}
use Rattle.rules_interval.specs.Intervals.{interval_refusal}
use Rattle.rules_interval.specs.declared.Interval.{Interval}
use Rattle.rules_interval.proofs.IntervalLaws.{in_limits}
use Rattle.rules_path.specs.Paths.{Path, binds, offers, amount_of, sellers, named}
use Rattle.rules_path.specs.Verdicts.{finding_number, not_binding, verdict_of}
use Rattle.rules_path.specs.Judgements.{path_in, verdicts_of}
use Rattle.rules_path.specs.declared.Market.{Market}
use Rattle.rules_path.proofs.TopLaws.{mask_bound}
use Rattle.rules_page.proofs.SameValues.{same_quantity}
use Rattle.rules_page.proofs.WithinBound.{most, VerdictFew, verdict_few}
use Rattle.rules_path.specs.declared.Verdict.{Verdict}
use Rattle.rules_opening.specs.Resources.{blank_row}
use Rattle.rules_opening.specs.declared.Row.{Row}
use Rattle.rules_hour.specs.Hours.{no_row, row_at, curve_in, call_refusal, call_verdicts}
use Rattle.rules_curve.specs.Refusals.{unless}
use Rattle.rules_hour.specs.declared.Standing.{Standing}
use Rattle.rules_pass.specs.declared.Quarter.{Quarter}
use Rattle.rules_pass.specs.Passes.{turn_refusal, turn_verdicts, five_minute_in}
use Rattle.rules_hour_bid.specs.HourBids.{hour_bid_refusal, hour_bid_in, hour_bid_of}
use Rattle.rules_hour_bid.proofs.HourBidIs.{given_bid}
use Rattle.rules_text.proofs.ListLaws.{and-false}
use Rattle.rules_library.specs.Slices.{cell_at, edges_of, prices_of, edge_count, price_count}
use Rattle.rules_state.specs.Layout.{most_resources, most_constraints, state_room, verdict_width, verdict_room, cause_room}
use Rattle.rules_state.specs.States.{curve_in_cells, row_in, rows_in, hour_in, market_in, standing_in, quarter_in, cell_of}
use Rattle.rules_state.specs.Fits.{Each}
use Rattle.rules_state.specs.Verdicts.{verdict_cells, verdicts_cells, judged_cells, verdict_in}
use Rattle.rules_state.specs.Calls.{holds, interval_answer, pass_answer, verdicts_after_interval, verdicts_after_pass, why_answer, causes_after, sellers_answer}
use Rattle.rules_state.specs.Causes.{causes_cells}
use Rattle.rules_state.specs.Curves.{mitigated_edges, mitigated_prices, mitigated_edge_count, mitigated_room, curve_answer, curve_edges, curve_prices, five_minute_edges, five_minute_prices, hour_bid_answer, hour_bid_edges, hour_bid_prices, default_in, default_of_answer, default_of_edges, default_of_prices}
use Rattle.rules_state.proofs.StandLaws.{Stands, stands_first, stands_rest, map_at, stored_at, stored_past, stands_stored, stands_each, each_listed, each_padded, flat_length}
use Rattle.rules_state.proofs.CallStates.{answered, answer_zero, unwritten}

-- ---- n values stand at the head of a slice, and the rest of it is as it was
pub record Written {A : Type 0} (d : A) (n : ℕ) (values before after : List A) : Type 0 where
  pub many : length values ≡ n
  pub here : (k : ℕ) → k < n → get_or after k d ≡ get_or values k d
  pub past : (k : ℕ) → n ≤ k → get_or after k d ≡ get_or before k d
  pub long : length after ≡ length before

pub written : {A : Type 0} (d : A) (n : ℕ) (values before : List A) → length values ≡ n → n ≤ length before → Written d n values before (sets before 0 values)
written {A} d n values before e h = record {
  many = e;
  here = λ k l. let z : 0 + k ≡ k = omega arith in ap (λ (i : ℕ). get_or (sets before 0 values) i d) (sym z) ∙ stored_at d before 0 values (omega arith) k (omega arith);
  past = λ k l. stored_past d before 0 values k (omega arith);
  long = length-sets before 0 values;
}

-- ---- the curves of a state have 20 steps, used and blank, and use no more, whatever stands in it
abbrev Roomy : Mitigated → Type 0
Roomy c = (length c.steps ≡ most_mitigated_steps) × (c.count ≤ most_mitigated_steps)

room_of : (floor : Option ℤ) (x : Row) → length (steps_of x.default) ≤ most_steps → Roomy (mitigated floor x.bid x.default)
unfolding mitigated
room_of floor x few =
    let n = mitigated_length floor x.bid x.default few in
    (padded_length most_mitigated_steps blank_step (mitigated_steps floor x.bid x.default) n, n)

module _ (s : List ℤ) (r : ℕ) where
  default_few : length (steps_of (row_at (hour_in s).hour r).default) ≤ most_steps
  unfolding rows_in row_in curve_in_cells
  default_few = ⊎_elim
      (λ h. rw (get_or-eq_default (rows_in s) no_row (le_trans (le_of_eq (listed_length (row_in s) most_resources)) h)) (omega arith))
      (λ h. rw (listed_at (row_in s) no_row most_resources r h) (few_steps (row_in s r).default (listed_length _ most_steps)))
      (le_or_lt most_resources r)
    where
      few_steps : (c : Curve) → length c.steps ≡ most_steps → length (steps_of c) ≤ most_steps
      few_steps c e = omega (arith, length-take c.count c.steps)

  pub curve_steps : Roomy (curve_in (hour_in s).hour r)
  unfolding curve_in
  curve_steps = room_of _ (row_at (hour_in s).hour r) default_few

  pub five_minute_steps : Roomy (five_minute_in (hour_in s) r)
  unfolding five_minute_in
  five_minute_steps = room_of _ (row_at (hour_in s).hour r) default_few

  pub hour_bid_steps : hour_bid_refusal (hour_in s) ≡ 0 → Roomy (hour_bid_of (hour_in s) r)
  unfolding hour_bid_in
  hour_bid_steps e = rw (given_bid (hour_in s) r e) (room_of _ (row_at (hour_in s).hour r) default_few)

-- a curve into its two slices
pub record CurveWritten (c : Mitigated) (edges : List ℕ) (prices : List ℤ) (edges' : List ℕ) (prices' : List ℤ) : Type 0 where
  pub ends : Written 0 22 (c.count ∷ c.start ∷ map (λ s. s.end) c.steps) edges edges'
  pub priced : Written (pos 0) 20 (map (λ s. s.price) c.steps) prices prices'
  pub few : c.count ≤ 20

module _ (s : List ℤ) (edges : List ℕ) (prices : List ℤ) where
  room_two : mitigated_room s edges prices ≡ true → (22 ≤ length edges) × (20 ≤ length prices)
  room_two e =
      let b = (both (holds state_room s) (holds mitigated_edge_count edges && holds most_mitigated_steps prices) e).1 in
      let c = both (holds mitigated_edge_count edges) (holds most_mitigated_steps prices) b in
      (leb-true mitigated_edge_count (length edges) c.0, leb-true most_mitigated_steps (length prices) c.1)

  into_both : (c : Mitigated) → Roomy c → mitigated_room s edges prices ≡ true
      → CurveWritten c edges prices (sets edges 0 (mitigated_edges c)) (sets prices 0 (mitigated_prices c))
  into_both c n e = let z = room_two e in record {
    ends = written 0 22 (mitigated_edges c) edges (omega (arith, n.0, length-map c.steps (λ s. s.end))) z.0;
    priced = written (pos 0) 20 (mitigated_prices c) prices (length-map c.steps (λ s. s.price) ∙ n.0) z.1;
    few = n.1;
  }

  -- the state, and slices for n edges and m prices, have room, or one of them hasn't
  all_room : (n m : ℕ) → state_room ≤ length s → n ≤ length edges → m ≤ length prices → (holds state_room s && (holds n edges && holds m prices)) ≡ true
  all_room n m h k l = rw (le-leb state_room (length s) h, le-leb n (length edges) k) (le-leb m (length prices) l)

  no_room : (n m : ℕ) → (length s < state_room) ⊎ ((length edges < n) ⊎ (length prices < m)) → (holds state_room s && (holds n edges && holds m prices)) ≡ false
  no_room n m (inl h) = rw (lt-leb state_room (length s) h)
  no_room n m (inr (inl h)) = rw (lt-leb n (length edges) h) (and-false (holds state_room s))
  no_room n m (inr (inr h)) = rw (lt-leb m (length prices) h, and-false (holds n edges)) (and-false (holds state_room s))

  -- -1 where the state or a slice is too short; else 0, and 20 of a bid for the hour that isn't full
  pub curve_answer_lem : 3411 ≤ length s → 22 ≤ length edges → 20 ≤ length prices
      → (curve_answer s edges prices ≡ pos 0) × (hour_bid_answer s edges prices ≡ pos (hour_bid_refusal (hour_in s)))
  unfolding curve_answer hour_bid_answer
  curve_answer_lem h k l =
      let e = all_room mitigated_edge_count most_mitigated_steps h k l in
      (answered (mitigated_room s edges prices) 0 e, answered (mitigated_room s edges prices) (hour_bid_refusal (hour_in s)) e)

  pub curve_short : (length s < 3411) ⊎ ((length edges < 22) ⊎ (length prices < 20)) → (curve_answer s edges prices ≡ negsuc 0) × (hour_bid_answer s edges prices ≡ negsuc 0)
  unfolding curve_answer hour_bid_answer
  curve_short h = let e = no_room mitigated_edge_count most_mitigated_steps h in (rw e, rw e)

  -- the same of the default curve's call, which refuses nothing
  pub default_answer_lem : 3411 ≤ length s → 13 ≤ length edges → 11 ≤ length prices → default_of_answer s edges prices ≡ pos 0
  unfolding default_of_answer
  default_answer_lem h k l = rw (all_room edge_count price_count h k l)

  pub default_short : (length s < 3411) ⊎ ((length edges < 13) ⊎ (length prices < 11)) → default_of_answer s edges prices ≡ negsuc 0
  unfolding default_of_answer
  default_short h = rw (no_room edge_count price_count h)

  answer_room : curve_answer s edges prices ≡ pos 0 → mitigated_room s edges prices ≡ true
  unfolding curve_answer
  answer_room e = (answer_zero (mitigated_room s edges prices) 0 e).0

  bid_zero : hour_bid_answer s edges prices ≡ pos 0 → (mitigated_room s edges prices ≡ true) × (hour_bid_refusal (hour_in s) ≡ 0)
  unfolding hour_bid_answer
  bid_zero e = answer_zero (mitigated_room s edges prices) (hour_bid_refusal (hour_in s)) e

  -- the present curve, the five-minute curve, the bid for the hour
  pub curve_written : (r : ℕ) → curve_answer s edges prices ≡ pos 0
      → CurveWritten (curve_in (hour_in s).hour r) edges prices (curve_edges s r edges prices) (curve_prices s r edges prices)
  unfolding curve_edges curve_prices
  curve_written r e = rw e (into_both (curve_in (hour_in s).hour r) (curve_steps s r) (answer_room e))

  pub five_minute_written : (r : ℕ) → curve_answer s edges prices ≡ pos 0
      → CurveWritten (five_minute_in (hour_in s) r) edges prices (five_minute_edges s r edges prices) (five_minute_prices s r edges prices)
  unfolding five_minute_edges five_minute_prices
  five_minute_written r e = rw e (into_both (five_minute_in (hour_in s) r) (five_minute_steps s r) (answer_room e))

  pub hour_bid_written : (r : ℕ) → hour_bid_answer s edges prices ≡ pos 0
      → CurveWritten (hour_bid_of (hour_in s) r) edges prices (hour_bid_edges s r edges prices) (hour_bid_prices s r edges prices)
  unfolding hour_bid_edges hour_bid_prices
  hour_bid_written r e = let z = bid_zero e in rw e (into_both (hour_bid_of (hour_in s) r) (hour_bid_steps s r z.1) z.0)

  -- where the answer isn't 0, the slices are as they were
  pub curve_unwritten : (r : ℕ) → (curve_answer s edges prices ≡ pos 0 → ⊥) → (curve_edges s r edges prices ≡ edges) × (curve_prices s r edges prices ≡ prices)
  unfolding curve_edges curve_prices
  curve_unwritten r h =
      let c = curve_in (hour_in s).hour r in
      (unwritten (curve_answer s edges prices) (sets edges 0 (mitigated_edges c)) edges h, unwritten (curve_answer s edges prices) (sets prices 0 (mitigated_prices c)) prices h)

  pub five_minute_unwritten : (r : ℕ) → (curve_answer s edges prices ≡ pos 0 → ⊥) → (five_minute_edges s r edges prices ≡ edges) × (five_minute_prices s r edges prices ≡ prices)
  unfolding five_minute_edges five_minute_prices
  five_minute_unwritten r h =
      let c = five_minute_in (hour_in s) r in
      (unwritten (curve_answer s edges prices) (sets edges 0 (mitigated_edges c)) edges h, unwritten (curve_answer s edges prices) (sets prices 0 (mitigated_prices c)) prices h)

  pub hour_bid_unwritten : (r : ℕ) → (hour_bid_answer s edges prices ≡ pos 0 → ⊥) → (hour_bid_edges s r edges prices ≡ edges) × (hour_bid_prices s r edges prices ≡ prices)
  unfolding hour_bid_edges hour_bid_prices
  hour_bid_unwritten r h =
      let c = hour_bid_of (hour_in s) r in
      (unwritten (hour_bid_answer s edges prices) (sets edges 0 (mitigated_edges c)) edges h, unwritten (hour_bid_answer s edges prices) (sets prices 0 (mitigated_prices c)) prices h)

  -- the default curve: 13 and 11 numbers
  default_room : (r : ℕ) → length (default_in s r).steps ≡ most_steps
  unfolding rows_in row_in curve_in_cells blank_curve padded
  default_room r = ⊎_elim
      (λ h. ap (λ (x : Row). length x.default.steps) (get_or-eq_default (rows_in s) blank_row (le_trans (le_of_eq (listed_length (row_in s) most_resources)) h)))
      (λ h. ap (λ (x : Row). length x.default.steps) (listed_at (row_in s) blank_row most_resources r h) ∙ listed_length _ most_steps)
      (le_or_lt most_resources r)

  -- no more steps than there is room for are handed out, whatever stands in the state
  pub default_within : (r : ℕ) → length (steps_of (default_in s r)) ≤ most_steps
  default_within r = let c = default_in s r in omega (arith, length-take c.count c.steps, default_room r)

  pub default_written : (r : ℕ) → default_of_answer s edges prices ≡ pos 0
      → Written 0 13 (edges_of (default_in s r)) edges (default_of_edges s r edges prices) × Written (pos 0) 11 (prices_of (default_in s r)) prices (default_of_prices s r edges prices)
  unfolding default_of_edges default_of_prices default_of_answer
  default_written r e =
      let z = (answer_zero (holds state_room s && (holds edge_count edges && holds price_count prices)) 0 e).0 in
      let b = both (holds edge_count edges) (holds price_count prices) (both (holds state_room s) (holds edge_count edges && holds price_count prices) z).1 in
      let c = default_in s r in
      let n = default_room r in
      rw e (
        written 0 13 (edges_of c) edges (omega (arith, length-map c.steps (λ s. s.end))) (leb-true edge_count (length edges) b.0),
        written (pos 0) 11 (prices_of c) prices (length-map c.steps (λ s. s.price) ∙ n) (leb-true price_count (length prices) b.1),
      )

-- ---- verdicts: twenty numbers of each of 32 constraints
pub verdict_width_lem : (v : Verdict) → length v.withheld ≡ 16 → length (verdict_cells v) ≡ verdict_width
unfolding verdict_cells
verdict_width_lem v e = omega (arith, length-map v.withheld cell_of)

pub withheld_room : (d : Path) → length (verdict_of d).withheld ≡ 16
unfolding verdict_of
withheld_room d = ⊎_elim (λ e. rw e (listed_length (λ p. amount_of p (sellers d)) 16)) (λ e. rw e) (tested (binds d))

pub verdict_room_lem : (d : Path) → length (verdict_cells (verdict_of d)) ≡ verdict_width
verdict_room_lem d = verdict_width_lem (verdict_of d) (withheld_room d)

module _ (m : Market) (v : Interval) (n : ℕ) (sound : interval_refusal n v ≡ 0) where
  verdicts_many : length (verdicts_of m v) ≡ most_constraints
  unfolding verdicts_of
  verdicts_many =
      padded_length most_constraints not_binding (listed (λ c. verdict_of (path_in m v c)) v.constraints)
      (omega (arith, listed_length (λ c. verdict_of (path_in m v c)) v.constraints, (in_limits n v sound).constraints))

  verdicts_each : Each (λ x. length (verdict_cells x) ≡ verdict_width) (verdicts_of m v)
  unfolding verdicts_of
  verdicts_each =
      each_padded (λ x. length (verdict_cells x) ≡ verdict_width) most_constraints not_binding (listed (λ c. verdict_of (path_in m v c)) v.constraints) (verdict_width_lem not_binding refl)
      (each_listed (λ x. length (verdict_cells x) ≡ verdict_width) (λ c. verdict_of (path_in m v c)) v.constraints (λ c l. verdict_room_lem (path_in m v c)))

  verdicts_room : length (verdicts_cells (verdicts_of m v)) ≡ verdict_room
  unfolding verdicts_cells
  verdicts_room = flat_length verdict_cells verdict_width (verdicts_of m v) verdicts_each ∙ ap (λ (k : ℕ). verdict_width * k) verdicts_many

  verdict_is : (c : ℕ) → c < v.constraints → get_or (verdicts_of m v) c not_binding ≡ verdict_of (path_in m v c)
  unfolding verdicts_of
  verdict_is c h = cell_listed most_constraints not_binding not_binding (λ i. verdict_of (path_in m v i)) v.constraints c h

  -- constraint c of the interval, at 20 c
  verdict_at : (l : List ℤ) → Stands l 0 (verdicts_cells (verdicts_of m v)) → (c : ℕ) → c < v.constraints → Stands l (verdict_width * c) (verdict_cells (verdict_of (path_in m v c)))
  unfolding verdicts_cells
  verdict_at l t c h =
      let few : v.constraints ≤ most_constraints = (in_limits n v sound).constraints in
      let from : 0 + verdict_width * c ≡ verdict_width * c = omega arith in
      subst (λ (x : Verdict). Stands l (verdict_width * c) (verdict_cells x)) (verdict_is c h)
      (subst (λ (i : ℕ). Stands l i (verdict_cells (get_or (verdicts_of m v) c not_binding))) from (stands_each verdict_cells verdict_width not_binding l (verdicts_of m v) 0 verdicts_each t c (omega (arith, verdicts_many))))

  verdicts_written : (before : List ℤ) → verdict_room ≤ length before → Written (pos 0) 640 (verdicts_cells (verdicts_of m v)) before (sets before 0 (verdicts_cells (verdicts_of m v)))
  verdicts_written before h = written (pos 0) 640 (verdicts_cells (verdicts_of m v)) before verdicts_room h

-- the finding on constraint c of an interval, where its verdicts are written as far as it has constraints
pub judged_finding : (m : Market) (v : Interval) (l : List ℤ) → v.constraints ≤ most_constraints → verdict_room ≤ length l
    → (c : ℕ) → c < v.constraints → cell_at (sets l 0 (judged_cells m v)) (verdict_width * c) ≡ pos (finding_number (verdict_of (path_in m v c)).finding)
unfolding judged_cells verdicts_cells verdict_cells
judged_finding m v l few room c h =
    let of : ℕ → Verdict = λ c. verdict_of (path_in m v c) in
    let verdicts = listed of v.constraints in
    let all = flat_map verdict_cells verdicts in
    let each = each_listed (λ x. length (verdict_cells x) ≡ verdict_width) of v.constraints (λ c l. verdict_room_lem (path_in m v c)) in
    let n : length all ≡ verdict_width * v.constraints = flat_length verdict_cells verdict_width verdicts each ∙ ap (λ (k : ℕ). verdict_width * k) (listed_length of v.constraints) in
    let t = stands_each verdict_cells verdict_width not_binding (sets l 0 all) verdicts 0 each (stands_stored l 0 all (omega arith)) c (omega (arith, listed_length of v.constraints)) in
    let z : 0 + verdict_width * c ≡ verdict_width * c = omega arith in
    let x = get_or verdicts c not_binding in
    ap (λ (i : ℕ). cell_at (sets l 0 all) i) (sym z)
    ∙ stands_first (sets l 0 all) (0 + verdict_width * c) (pos (finding_number x.finding)) (cell_of x.demand ∷ cell_of x.left ∷ cell_of x.named ∷ map cell_of x.withheld) t
    ∙ ap (λ (y : Verdict). pos (finding_number y.finding)) (listed_at of not_binding v.constraints c h)

-- none of 13 to 16 applies to an accepted interval or pass
pub sound_call : (m : Market) (k : Standing) (v : Interval) → call_refusal m k v ≡ 0 → interval_refusal m.resources v ≡ 0
unfolding call_refusal
sound_call m k v e = (then_both (unless (ltb k.accepted 4) 12) (interval_refusal m.resources v) e).1

pub sound_turn : (m : Market) (a : ℕ) (k : Quarter) (v : Interval) → turn_refusal m a k v ≡ 0 → interval_refusal m.resources v ≡ 0
unfolding turn_refusal
sound_turn m a k v e = (then_both (unless (ltb 0 a && ltb k.passes 3) 19) (interval_refusal m.resources v) e).1

-- a verdict's own numbers, from cell i on
pub record VerdictCells (l : List ℤ) (i : ℕ) (x : Verdict) : Type 0 where
  pub finding : cell_at l i ≡ pos (finding_number x.finding)
  pub demand : cell_at l (i + 1) ≡ pos x.demand
  pub left : cell_at l (i + 2) ≡ pos x.left
  pub named : cell_at l (i + 3) ≡ pos x.named
  pub withheld : (p : ℕ) → p < 16 → cell_at l (i + 4 + p) ≡ pos (get_or x.withheld p 0)

own : (n k : ℕ) → n ≤ k → k ≤ 9223372036854775807 → cell_of n ≡ pos n
own n k h l = ap pos (same_quantity n (omega arith))

-- three sellers of 16 are named
pub named_few : (m : Market) (v : Interval) (c : ℕ) → (verdict_of (path_in m v c)).named ≤ 98304
unfolding verdict_of named sellers
named_few m v c = ⊎_elim (λ e. rw e (mask_bound 3 (offers (path_in m v c)))) (λ e. rw e (omega arith)) (tested (binds (path_in m v c)))

verdict_in_lem : (l : List ℤ) (i : ℕ) (x : Verdict) → length x.withheld ≡ 16 → VerdictFew x → x.named ≤ 98304 → Stands l i (verdict_cells x) → VerdictCells l i x
unfolding verdict_cells
verdict_in_lem l i x n few names t =
    let w = map cell_of x.withheld in
    let f = pos (finding_number x.finding) in
    let d = cell_of x.demand in
    let k = cell_of x.left in
    let m = cell_of x.named in
    let one = stands_rest l i f (d ∷ k ∷ m ∷ w) (i + 1) refl t in
    let two = stands_rest l (i + 1) d (k ∷ m ∷ w) (i + 2) (omega arith) one in
    let three = stands_rest l (i + 2) k (m ∷ w) (i + 3) (omega arith) two in
    let four = stands_rest l (i + 3) m w (i + 4) (omega arith) three in
    record {
      finding = stands_first l i f (d ∷ k ∷ m ∷ w) t;
      demand = stands_first l (i + 1) d (k ∷ m ∷ w) one ∙ own x.demand most few.demand (omega arith);
      left = stands_first l (i + 2) k (m ∷ w) two ∙ own x.left most few.left (omega arith);
      named = stands_first l (i + 3) m w three ∙ own x.named 98304 names (omega arith);
      withheld = λ p h.
          four p (omega (arith, length-map x.withheld cell_of)) ∙ map_at cell_of 0 x.withheld p (omega arith) ∙ own (get_or x.withheld p 0) most (few.withheld p) (omega arith);
    }

-- an accepted interval, and an accepted pass, write the verdicts on their constraints
-- as many sellers as the verdict has bits that are ones; -1 where there are too few numbers, and nobody past the constraints
pub sellers_are : (l : List ℤ) (c n : ℕ) → c < 32 → 640 ≤ length l → n ≡ nat_of (cell_at l (20 * c + 3)) → sellers_answer l c ≡ pos (ones (n % 4294967296))
unfolding sellers_answer verdict_in
sellers_are l c n h room e = rw (le-leb verdict_room (length l) room, lt-ltb c most_constraints h, e)

sellers_counted : (l : List ℤ) (c : ℕ) (x : Verdict) → c < 32 → 640 ≤ length l → x.named ≤ 98304 → cell_at l (20 * c + 3) ≡ pos x.named → sellers_answer l c ≡ pos (ones x.named)
sellers_counted l c x h room few e =
    let own : x.named % 4294967296 ≡ x.named = omega arith in
    sellers_are l c x.named h room (sym (ap nat_of e)) ∙ ap (λ (k : ℕ). pos (ones k)) own

pub sellers_short : (l : List ℤ) (c : ℕ) → length l < 640 → sellers_answer l c ≡ negsuc 0
unfolding sellers_answer
sellers_short l c h = rw (lt-leb verdict_room (length l) h)

pub sellers_past : (l : List ℤ) (c : ℕ) → 640 ≤ length l → 32 ≤ c → sellers_answer l c ≡ pos 0
unfolding sellers_answer
sellers_past l c room h = rw (le-leb verdict_room (length l) room, le-ltb c most_constraints h)

module _ (s verdicts : List ℤ) (v : Interval) where
  pub record VerdictsTold (after : List ℤ) : Type 0 where
    pub told : (c : ℕ) → c < v.constraints → VerdictCells after (20 * c) (verdict_of (path_in (market_in s) v c))
    pub all : Written (pos 0) 640 (verdicts_cells (verdicts_of (market_in s) v)) verdicts after
    pub sellers : (c : ℕ) → c < v.constraints → sellers_answer after c ≡ pos (ones (verdict_of (path_in (market_in s) v c)).named)

  tell : interval_refusal (market_in s).resources v ≡ 0 → verdict_room ≤ length verdicts → VerdictsTold (sets verdicts 0 (verdicts_cells (verdicts_of (market_in s) v)))
  tell sound h =
      let w = verdicts_written (market_in s) v (market_in s).resources sound verdicts h in
      let after = sets verdicts 0 (verdicts_cells (verdicts_of (market_in s) v)) in
      let told : (c : ℕ) → c < v.constraints → VerdictCells after (20 * c) (verdict_of (path_in (market_in s) v c)) = λ c l.
      verdict_in_lem after (20 * c) (verdict_of (path_in (market_in s) v c)) (withheld_room (path_in (market_in s) v c))
      (verdict_few (market_in s) v sound c l) (named_few (market_in s) v c)
      (verdict_at (market_in s) v (market_in s).resources sound after
      (stands_stored verdicts 0 (verdicts_cells (verdicts_of (market_in s) v)) (omega (arith, verdicts_room (market_in s) v (market_in s).resources sound))) c l) in
      record {
        told = told;
        all = w;
        sellers = λ c l.
            sellers_counted after c (verdict_of (path_in (market_in s) v c)) (omega (arith, l, (in_limits (market_in s).resources v sound).constraints))
            (omega (arith, h, w.long)) (named_few (market_in s) v c) (told c l).named;
      }

  room_second : (holds state_room s && holds verdict_room verdicts) ≡ true → verdict_room ≤ length verdicts
  room_second e = leb-true verdict_room (length verdicts) (both (holds state_room s) (holds verdict_room verdicts) e).1

  pub interval_verdicts : interval_answer s verdicts v ≡ pos 0 → VerdictsTold (verdicts_after_interval s verdicts v)
  unfolding verdicts_after_interval interval_answer call_verdicts
  interval_verdicts e =
      let z = answer_zero (holds state_room s && holds verdict_room verdicts) (call_refusal (market_in s) (standing_in s) v) e in
      let n = z.1 in
      rw (e, n) (tell (sound_call (market_in s) (standing_in s) v n) (room_second z.0))

  pub pass_verdicts_lem : pass_answer s verdicts v ≡ pos 0 → VerdictsTold (verdicts_after_pass s verdicts v)
  unfolding verdicts_after_pass pass_answer turn_verdicts
  pass_verdicts_lem e =
      let z = answer_zero (holds state_room s && holds verdict_room verdicts) (turn_refusal (market_in s) (standing_in s).accepted (quarter_in s) v) e in
      let n = z.1 in
      rw (e, n) (tell (sound_turn (market_in s) (standing_in s).accepted (quarter_in s) v n) (room_second z.0))

  -- where the answer isn't 0, the slice is as it was
  pub interval_verdicts_left : (interval_answer s verdicts v ≡ pos 0 → ⊥) → verdicts_after_interval s verdicts v ≡ verdicts
  unfolding verdicts_after_interval
  interval_verdicts_left h = unwritten (interval_answer s verdicts v) (sets verdicts 0 (verdicts_cells (call_verdicts (market_in s) (standing_in s) v))) verdicts h

  pub pass_verdicts_left : (pass_answer s verdicts v ≡ pos 0 → ⊥) → verdicts_after_pass s verdicts v ≡ verdicts
  unfolding verdicts_after_pass
  pass_verdicts_left h =
      unwritten (pass_answer s verdicts v) (sets verdicts 0 (verdicts_cells (turn_verdicts (market_in s) (standing_in s).accepted (quarter_in s) v))) verdicts h

-- why: -1 where the state or the slice is too short
pub why_short : (s causes : List ℤ) (v : Interval) → (length s < 3411) ⊎ (length causes < 256) → why_answer s causes v ≡ negsuc 0
unfolding why_answer
why_short s causes v (inl h) = rw (lt-leb state_room (length s) h)
why_short s causes v (inr h) = rw (lt-leb cause_room (length causes) h, and-false (holds state_room s))

pub causes_left : (s causes : List ℤ) (v : Interval) → (why_answer s causes v ≡ pos 0 → ⊥) → causes_after s causes v ≡ causes
unfolding causes_after
causes_left s causes v h = unwritten (why_answer s causes v) (sets causes 0 (causes_cells (market_in s) v)) causes h

pub default_left : (s : List ℤ) (edges : List ℕ) (prices : List ℤ) (r : ℕ) → (default_of_answer s edges prices ≡ pos 0 → ⊥)
    → (default_of_edges s r edges prices ≡ edges) × (default_of_prices s r edges prices ≡ prices)
unfolding default_of_edges default_of_prices
default_left s edges prices r h =
    let c = default_in s r in
    (unwritten (default_of_answer s edges prices) (sets edges 0 (edges_of c)) edges h, unwritten (default_of_answer s edges prices) (sets prices 0 (prices_of c)) prices h)
