-- An hour in numbers, in full: what every cell of a state means, what each call makes of it, and the papers' sentences on states that were opened and then called. Assumes nothing.
use Rattle.std.specs.Prelude.{None, Some}
use mathlib.Core.List.{List, ◌∷◌, map}
use mathlib.Core.Logic.{◌↔◌, ◌⊎◌, inl, inr}
use mathlib.Core.Path.{◌≡◌, refl, sym, ap, subst, ◌∙◌}
use Prim.Native.Nat.{ℕ, ◌+◌, ◌*◌, ◌≤◌, ◌<◌, min}
use borrow.Author.Tests.{le-leb}
use lib.IntN.{ℤ, pos, negsuc, ◌+ℤ◌, ◌-ℤ◌, ◌*ℤ◌}
use native.Mathlib.Omega.{arith}
use lib.Count.{ones}
use lib.ListN.{length, get_or, take, length-map}
use lib.Seq.{sets}
use lib.Signed.{◌≤ℤ◌, ◌<ℤ◌}
use Rattle.rules_number.specs.Over.{listed}
use Rattle.rules_curve.specs.Curves.{step_to, steps_of}
use Rattle.rules_curve.specs.declared.Curve.{Curve}
use Rattle.rules_curve.specs.declared.RawCurve.{RawCurve}
use Rattle.rules_curve.specs.declared.RawStep.{RawStep}
use Rattle.rules_cost.specs.Costs.{blank_point}
use Rattle.rules_mitigation.specs.declared.Mitigated.{Mitigated}
use Rattle.rules_interval.specs.Intervals.{interval_refusal}
use Rattle.rules_interval.specs.declared.Interval.{Interval}
use Rattle.rules_path.specs.Judgements.{path_in}
use Rattle.rules_path.specs.Verdicts.{verdict_of}
use Rattle.rules_path.specs.declared.Verdict.{Verdict}
use Rattle.rules_opening.specs.Openings.{no_resource, opening_refusal}
use Rattle.rules_opening.specs.declared.Opening.{Opening}
use Rattle.rules_opening.specs.declared.Resource.{Resource}
use Rattle.rules_opening.specs.declared.Source.TheVariants as source
use Rattle.rules_hour.specs.Cuts.{cut_of}
use Rattle.rules_hour.specs.Hours.{uncut, no_row, curve_in, hour_refusal}
use Rattle.rules_pass.specs.Passes.{RealTimeHour, opened_real_time, interval_after, pass_refusal, pass_after, five_minute_in}
use Rattle.rules_pass.specs.Calls.{request_refusal, after_all}
use Rattle.rules_hour_bid.specs.HourBids.{hour_bid_refusal, hour_bid_of}
use Rattle.rules_state.specs.States.{hour_in, state_cells}
use Rattle.rules_state.specs.Fits.{Fits}
use Rattle.rules_state.specs.Openings.{opening_in}
use Rattle.rules_state.specs.Intervals.{interval_in}
use Rattle.rules_state.specs.Calls.{open_answer, state_opened, interval_answer, state_after_interval, verdicts_after_interval, pass_answer, state_after_pass, verdicts_after_pass, why_answer, causes_after, sellers_answer}
use Rattle.rules_state.specs.Curves.{curve_answer, curve_edges, curve_prices, five_minute_edges, five_minute_prices, hour_bid_answer, hour_bid_edges, hour_bid_prices, default_in, default_of_answer, default_of_edges, default_of_prices}
use Rattle.rules_state.specs.Lists.{NumberCall, answer_to, verdicts_of, request_of, requests_in, state_after_calls}
use Rattle.rules_state.proofs.StateCells.{CurveCells, state_cells_lem}
use Rattle.rules_state.proofs.ReadNumbers.{CurveRead, opening_read, interval_read}
use Rattle.rules_state.proofs.HourBack.{stored_back}
use Rattle.rules_state.proofs.OpenedFits.{opened_fits}
use Rattle.rules_state.proofs.StateCalls.{zero_opened, opening_answer, state_opened_lem, opening_refused, opening_short, opening_past, interval_answer_lem, interval_refused, interval_short, interval_touches, interval_keeps, state_interval, pass_answer_lem, pass_refused, pass_short, pass_touches, pass_keeps, state_pass}
use Rattle.rules_state.proofs.NumberCalls.{calls_in_numbers, calls_touch, called_hour, next_answer}
use Rattle.rules_state.proofs.WrittenSlices.{CurveWritten, curve_answer_lem, curve_short, curve_unwritten, five_minute_unwritten, hour_bid_unwritten, curve_written, five_minute_written, hour_bid_written, default_written, VerdictCells, interval_verdicts, pass_verdicts_lem, sellers_short, sellers_past, interval_verdicts_left, pass_verdicts_left, causes_left, default_left, default_within, default_answer_lem, default_short, why_short}
use Rattle.rules_state.proofs.DefaultNumbers.{default_in_numbers}
use Rattle.rules_state.proofs.WhyNumbers.{why_answer_lem, why_in_numbers, zeros_past}
use Rattle.statements.proofs.Plain.{Found, Whole, Listed}
use Rattle.statements.proofs.Demand3.{default, IsComponent, OwnerSays, component_is}
use Rattle.statements.proofs.Passes.{hour, Intervals, FiveMinuteSays, fives, hourly_price, five_minute_price_lem}
use Rattle.statements.proofs.HourBids.{HourBidSays, hour_bid_says}

-- cell i of a state or a slice: past its end it is 0
abbrev at : List ℤ → ℕ → ℤ
at l i = get_or l i (pos 0)

-- ---- what every cell means, whatever it holds
-- a curve: its number of steps, its start, eleven ends, eleven prices; those past its number of steps mean nothing
pub record CurveSays (l : List ℤ) (i : ℕ) (c : Curve) : Type 0 where
  pub count : c.count ≡ Whole (at l i)
  pub start : c.start ≡ Whole (at l (i + 1))
  pub used : steps_of c ≡ Listed (λ k. step_to (Whole (at l (i + 2 + k))) (at l (i + 13 + k))) (min (Whole (at l i)) 11)

pub record CellsSay (l : List ℤ) : Type 0 where
  -- 0: intervals accepted. 1 to 64: the cut mark of each resource, 0 uncut and any other number cut. 65 to 128: its lowest floor price
  pub accepted : (hour_in l).hour.standing.accepted ≡ Whole (at l 0)
  pub uncut_mark : (r : ℕ) → r < 64 → at l (1 + r) ≡ pos 0 → (get_or (hour_in l).hour.standing.floors r uncut).price ≡ None
  pub cut_mark : (r : ℕ) → r < 64 → (at l (1 + r) ≡ pos 0 → ⊥) → (get_or (hour_in l).hour.standing.floors r uncut).price ≡ Some (at l (65 + r))
  -- 129: passes accepted since the last accepted interval. 130 to 193 and 194 to 257: marks and floor prices of the quarter hour
  pub passes : (hour_in l).quarter.passes ≡ Whole (at l 129)
  pub pass_uncut : (r : ℕ) → r < 64 → at l (130 + r) ≡ pos 0 → (get_or (hour_in l).quarter.floors r uncut).price ≡ None
  pub pass_cut : (r : ℕ) → r < 64 → (at l (130 + r) ≡ pos 0 → ⊥) → (get_or (hour_in l).quarter.floors r uncut).price ≡ Some (at l (194 + r))
  -- 258: resources. 259 to 322: the portfolio of each. 323 to 338: the mark of each portfolio
  pub resources : (hour_in l).hour.market.resources ≡ Whole (at l 258)
  pub portfolio : (r : ℕ) → r < 64 → get_or (hour_in l).hour.market.portfolio r 0 ≡ Whole (at l (259 + r))
  pub seller : (p : ℕ) → p < 16 → get_or (hour_in l).hour.market.seller p 0 ≡ Whole (at l (323 + p))
  -- 339 + 48 r and 24 more: the bid of resource r. 363 + 48 r and 24 more: its default curve
  pub bid : (r : ℕ) → r < 64 → CurveSays l (339 + 48 * r) (get_or (hour_in l).hour.rows r no_row).bid
  pub default : (r : ℕ) → r < 64 → CurveSays l (363 + 48 * r) (get_or (hour_in l).hour.rows r no_row).default

-- ---- what is read of the numbers of an opening and of an interval; those past a slice's end count as 0
-- a curve as it is read: its start, its number of steps, end and price of eleven steps in turn
pub record RawSays (l : List ℤ) (i : ℕ) (c : RawCurve) : Type 0 where
  pub start : c.start ≡ at l i
  pub count : c.count ≡ Whole (at l (i + 1))
  pub step : (k : ℕ) → k < 11 → (d : RawStep) → get_or c.steps k d ≡ record { end = at l (i + 2 + 2 * k); price = at l (i + 3 + 2 * k) }

raw_says : {l : List ℤ} {i : ℕ} {c : RawCurve} → CurveRead l i c → RawSays l i c
raw_says x = record { start = x.start; count = x.count; step = x.step }

-- a resource: its portfolio; its bid; 0 for costs, any other number for a pack; its number of points, quantity and heat rate of eleven points in turn; gas, rate, allowance, om, msc, soc, fee;
-- the pack's curve
pub record ResourceSays (l : List ℤ) (i : ℕ) (x : Resource) : Type 0 where
  pub portfolio : x.portfolio ≡ at l i
  pub bid : RawSays l (i + 1) x.bid
  pub costs : at l (i + 25) ≡ pos 0 → x.source ≡ source.Costs
  pub packed : (at l (i + 25) ≡ pos 0 → ⊥) → x.source ≡ source.Pack
  pub points : x.costs.count ≡ Whole (at l (i + 26))
  pub point : (k : ℕ) → k < 11 → get_or x.costs.points k blank_point ≡ record { mw = at l (i + 27 + 2 * k); heat = at l (i + 28 + 2 * k) }
  pub gas : x.costs.gas ≡ at l (i + 49)
  pub rate : x.costs.rate ≡ at l (i + 50)
  pub allowance : x.costs.allowance ≡ at l (i + 51)
  pub om : x.costs.om ≡ at l (i + 52)
  pub msc : x.costs.msc ≡ at l (i + 53)
  pub soc : x.costs.soc ≡ at l (i + 54)
  pub fee : x.costs.fee ≡ at l (i + 55)
  pub pack : RawSays l (i + 56) x.pack

module _ (month : ℤ) (portfolios : ℕ) (sellers : List ℤ) (resources : ℕ) (blocks : List ℤ) where
  pub record OpeningSays (o : Opening) : Type 0 where
    pub month_is : o.month ≡ month
    pub portfolios_are : o.portfolios ≡ portfolios
    pub seller : (p : ℕ) → p < 16 → get_or o.sellers p (pos 0) ≡ at sellers p
    pub resources_are : o.resources ≡ resources
    -- 80 numbers a resource
    pub resource : (r : ℕ) → r < 64 → ResourceSays blocks (80 * r) (get_or o.list r no_resource)

  pub opening_says : OpeningSays (opening_in month portfolios sellers resources blocks)
  opening_says =
      let read = opening_read month portfolios sellers resources blocks in
      record {
        month_is = read.month_is;
        portfolios_are = read.portfolios_are;
        seller = read.seller;
        resources_are = read.resources_are;
        resource = λ r h. let x = read.resource r h in record {
          portfolio = x.portfolio;
          bid = raw_says x.bid;
          costs = x.from_costs_lem;
          packed = x.from_pack;
          points = x.points;
          point = x.point;
          gas = x.gas;
          rate = x.rate;
          allowance = x.allowance;
          om = x.om;
          msc = x.msc;
          soc = x.soc;
          fee = x.fee;
          pack = raw_says x.pack;
        };
      }

module _ (constraints : ℕ) (shadow : List ℤ) (resources : ℕ) (outputs factors : List ℤ) (parameter : ℤ) where
  pub record IntervalSays (v : Interval) : Type 0 where
    pub constraints_are : v.constraints ≡ constraints
    pub shadow_price : (c : ℕ) → c < 32 → get_or v.shadow c (pos 0) ≡ at shadow c
    pub resources_are : v.resources ≡ resources
    -- lmp, dispatch, available and floor of each resource in turn
    pub lmp : (r : ℕ) → r < 64 → get_or v.lmp r (pos 0) ≡ at outputs (4 * r)
    pub dispatch : (r : ℕ) → r < 64 → get_or v.dispatch r (pos 0) ≡ at outputs (4 * r + 1)
    pub available : (r : ℕ) → r < 64 → get_or v.available r (pos 0) ≡ at outputs (4 * r + 2)
    pub floor : (r : ℕ) → r < 64 → get_or v.floor r (pos 0) ≡ at outputs (4 * r + 3)
    -- the factor of resource r on constraint c
    pub factor : (r c : ℕ) → r < 64 → c < 32 → get_or v.factors (r * 32 + c) (pos 0) ≡ at factors (32 * r + c)
    pub parameter_is_lem : v.parameter ≡ parameter

  pub interval_says : IntervalSays (interval_in constraints shadow resources outputs factors parameter)
  interval_says = let read = interval_read constraints shadow resources outputs factors parameter in record {
    constraints_are = read.constraints_are;
    shadow_price = read.shadow_at_lem;
    resources_are = read.resources_are;
    lmp = read.lmp;
    dispatch = read.dispatch;
    available = read.available;
    floor = read.floor;
    factor = read.factor;
    parameter_is_lem = read.parameter_is_lem;
  }

-- ---- from the theorems
cells_curve : {l : List ℤ} {i : ℕ} {c : Curve} → CurveCells l i c → CurveSays l i c
unfolding listed Listed
cells_curve x = record { count = x.count; start = x.start; used = x.used }

pub cells_say : (l : List ℤ) → CellsSay l
cells_say l =
    let c = state_cells_lem l in
    record {
      accepted = c.accepted;
      uncut_mark = c.uncut_mark;
      cut_mark = c.cut_mark;
      passes = c.passes;
      pass_uncut = c.pass_uncut;
      pass_cut = c.pass_cut;
      resources = c.resources;
      portfolio = c.portfolio;
      seller = c.seller;
      bid = λ r h. cells_curve (c.bid r h);
      default = λ r h. cells_curve (c.default r h);
    }

-- every hour that cells can hold is read back from a state that it is put into, whatever that held
pub hour_put : (h : RealTimeHour) → Fits h → (s : List ℤ) → 3411 ≤ length s → hour_in (sets s 0 (state_cells h)) ≡ h
hour_put h f s long = stored_back h f s long

-- an opened hour is one
pub opened_held : (o : Opening) → opening_refusal o ≡ 0 → Fits (opened_real_time o)
opened_held = opened_fits

-- ---- opening, "the state as it was, to the cell" where it is refused
pub record OpensState (s : List ℤ) (o : Opening) : Type 0 where
  pub answer : 3411 ≤ length s → open_answer s o ≡ pos (opening_refusal o)
  pub accepted : open_answer s o ≡ pos 0 → hour_in (state_opened s o) ≡ opened_real_time o
  pub refused : (open_answer s o ≡ pos 0 → ⊥) → state_opened s o ≡ s
  pub short : length s < 3411 → (open_answer s o ≡ negsuc 0) × (state_opened s o ≡ s)
  pub past : (k : ℕ) → 3411 ≤ k → at (state_opened s o) k ≡ at s k

pub opens_state : (s : List ℤ) (o : Opening) → OpensState s o
opens_state s o = record {
  answer = opening_answer s o;
  accepted = state_opened_lem s o;
  refused = opening_refused s o;
  short = opening_short s o;
  past = opening_past s o;
}

-- ---- an interval and a pass, of every state, and of every slice for their verdicts
module _ (s verdicts : List ℤ) (v : Interval) where
  pub record TakesState : Type 0 where
    pub interval_number : 3411 ≤ length s → 640 ≤ length verdicts → interval_answer s verdicts v ≡ pos (hour_refusal (hour_in s).hour v)
    pub interval_hour : 3411 ≤ length s → 640 ≤ length verdicts → hour_in (state_after_interval s verdicts v) ≡ interval_after (hour_in s) v
    pub interval_refused : (interval_answer s verdicts v ≡ pos 0 → ⊥) → state_after_interval s verdicts v ≡ s
    pub interval_short : (length s < 3411) ⊎ (length verdicts < 640) → (interval_answer s verdicts v ≡ negsuc 0) × (state_after_interval s verdicts v ≡ s)
    -- an interval leaves market and rows alone, and a pass the standing too
    pub interval_leaves : (k : ℕ) → 258 ≤ k → at (state_after_interval s verdicts v) k ≡ at s k
    -- and of the standing all but the count, and mark and price of each resource that it cuts
    pub interval_keeps : (r : ℕ) → r < 64 → cut_of (hour_in s).hour.market v r ≡ None
        → (at (state_after_interval s verdicts v) (1 + r) ≡ at s (1 + r)) × (at (state_after_interval s verdicts v) (65 + r) ≡ at s (65 + r))
    pub pass_number : 3411 ≤ length s → 640 ≤ length verdicts → pass_answer s verdicts v ≡ pos (pass_refusal (hour_in s) v)
    pub pass_hour : 3411 ≤ length s → 640 ≤ length verdicts → hour_in (state_after_pass s verdicts v) ≡ pass_after (hour_in s) v
    pub pass_refused : (pass_answer s verdicts v ≡ pos 0 → ⊥) → state_after_pass s verdicts v ≡ s
    pub pass_short : (length s < 3411) ⊎ (length verdicts < 640) → (pass_answer s verdicts v ≡ negsuc 0) × (state_after_pass s verdicts v ≡ s)
    pub pass_leaves : (k : ℕ) → (k < 129) ⊎ (258 ≤ k) → at (state_after_pass s verdicts v) k ≡ at s k
    pub pass_keeps : (r : ℕ) → r < 64 → cut_of (hour_in s).hour.market v r ≡ None
        → (at (state_after_pass s verdicts v) (130 + r) ≡ at s (130 + r)) × (at (state_after_pass s verdicts v) (194 + r) ≡ at s (194 + r))

  pub takes_state : TakesState
  takes_state = record {
    interval_number = interval_answer_lem s verdicts v;
    interval_hour = state_interval s verdicts v;
    interval_refused = interval_refused s verdicts v;
    interval_short = interval_short s verdicts v;
    interval_leaves = interval_touches s verdicts v;
    interval_keeps = λ r h u. (interval_keeps s verdicts v r h u (1 + r) (inl refl), interval_keeps s verdicts v r h u (65 + r) (inr refl));
    pass_number = pass_answer_lem s verdicts v;
    pass_hour = state_pass s verdicts v;
    pass_refused = pass_refused s verdicts v;
    pass_short = pass_short s verdicts v;
    pass_leaves = pass_touches s verdicts v;
    pass_keeps = λ r h u. (pass_keeps s verdicts v r h u (130 + r) (inl refl), pass_keeps s verdicts v r h u (194 + r) (inr refl));
  }

-- ---- every list of calls, from every state
pub calls_state : (calls : List NumberCall) (s : List ℤ) → 3411 ≤ length s → hour_in (state_after_calls s calls) ≡ after_all (hour_in s) (requests_in calls)
calls_state = calls_in_numbers

-- none of them touches market, rows, or a cell past them
pub calls_leave : (calls : List NumberCall) (s : List ℤ) (k : ℕ) → 258 ≤ k → at (state_after_calls s calls) k ≡ at s k
calls_leave = calls_touch

-- ---- a state that was opened and then called: the papers' sentences
module _ (s : List ℤ) (o : Opening) (opened : open_answer s o ≡ pos 0) (calls : List NumberCall) where
  abbrev state : List ℤ
  state = state_after_calls (state_opened s o) calls

  pub state_hour : hour_in state ≡ hour o (requests_in calls)
  state_hour = called_hour s o opened calls

  -- one more call is answered with the number that the rules give it
  pub next_number : (c : NumberCall) → 640 ≤ length (verdicts_of c) → answer_to state c ≡ pos (request_refusal (hour o (requests_in calls)) (request_of c))
  next_number c h = next_answer s o opened calls c ∙ rw (le-leb 640 (length (verdicts_of c)) h)

  module _ (r : ℕ) (l : r < o.resources) where
    -- "the price of each hundredth of a megawatt in a resource's bid is the least of its submitted price and its caps"
    pub owner_in_numbers : OwnerSays o r (Intervals o (requests_in calls)) (curve_in (hour_in state).hour r)
    owner_in_numbers =
        subst (λ (h : RealTimeHour). OwnerSays o r (Intervals o (requests_in calls)) (curve_in h.hour r)) (sym state_hour) (hourly_price o (zero_opened s o opened).1 (requests_in calls) r l)

    -- "A five-minute price is the least of that interval's price and the caps of its accepted passes with a cut, for every list of passes."
    pub five_minute_in_numbers : (five_minute_in (hour_in state) r ≡ fives o (requests_in calls) r) × FiveMinuteSays o (requests_in calls) r
    five_minute_in_numbers = (ap (λ (h : RealTimeHour). five_minute_in h r) state_hour, five_minute_price_lem o (zero_opened s o opened).1 (requests_in calls) r l)

    -- "It takes, at each quantity, the lowest of the four intervals' curves (34.1.5.3), neighbours with one price merged."
    pub hour_bid_in_numbers : hour_bid_refusal (hour_in state) ≡ 0 → (hour_bid_of (hour_in state) r ≡ hour_bid_of (hour o (requests_in calls)) r) × HourBidSays o (requests_in calls) r
    hour_bid_in_numbers full = (
      ap (λ (h : RealTimeHour). hour_bid_of h r) state_hour,
      hour_bid_says o (zero_opened s o opened).1 (requests_in calls) r l (ap hour_bid_refusal (sym state_hour) ∙ full),
    )

    -- ---- why: the four numbers of resource r in an interval of these values
    module _ (v : Interval) (causes : List ℤ) where
      abbrev told : ℕ → ℤ
      told k = at (causes_after state causes v) (4 * r + k)

      pub record WhySays : Type 0 where
        -- its mark is 1 exactly when it is dispatched and its component is above 0, and else 0
        pub cut : (told 0 ≡ pos 1) ↔ ((pos 0 <ℤ get_or v.dispatch r (pos 0)) × (pos 0 <ℤ told 1))
        pub uncut : (told 0 ≡ pos 0) ↔ ((get_or v.dispatch r (pos 0) ≤ℤ pos 0) ⊎ (told 1 ≤ℤ pos 0))
        -- its component, its competitive price and its floor price
        pub component : IsComponent o v r (told 1)
        pub competitive : ((get_or v.lmp r (pos 0) *ℤ pos 1000000 -ℤ told 1) ≤ℤ (told 2 *ℤ pos 1000000)) × (((told 2 -ℤ pos 1) *ℤ pos 1000000) <ℤ (get_or v.lmp r (pos 0) *ℤ pos 1000000 -ℤ told 1))
        pub floored : told 0 ≡ pos 1 → told 3 ≡ told 2 +ℤ v.parameter
        pub no_floor : told 0 ≡ pos 0 → told 3 ≡ pos 0

      pub why_says : why_answer state causes v ≡ pos 0 → WhySays
      why_says e = let c = why_in_numbers s o opened calls causes v e r l in record {
        cut = c.cut;
        uncut = c.uncut;
        component = (component_is o v r (told 1)).0 c.component;
        competitive = (c.competitive.at_or_above, c.competitive.least);
        floored = c.floored;
        no_floor = c.no_floor;
      }

  -- the default curve is the one that opening made, from costs or from a pack
  pub default_stays : (r : ℕ) → r < o.resources → default_in state r ≡ default o r
  default_stays r l = default_in_numbers s o opened calls r l

  -- past the resources there are zeros
  pub no_why : (v : Interval) (causes : List ℤ) → why_answer state causes v ≡ pos 0 → (r k : ℕ) → o.resources ≤ r → r < 64 → k < 4 → at (causes_after state causes v) (4 * r + k) ≡ pos 0
  no_why v causes e r k l h i = zeros_past s o opened calls causes v e r k l h i

  -- the answer is the lowest of 13 to 16 that applies to the values, for the opening's number of resources
  pub why_number : (v : Interval) (causes : List ℤ) → 256 ≤ length causes → why_answer state causes v ≡ pos (interval_refusal o.resources v)
  why_number v causes h = why_answer_lem s o opened calls causes v h

-- ---- curves into lent slices: the number of steps, the start and twenty ends; twenty prices
module _ (c : Mitigated) (edges : List ℕ) (prices : List ℤ) (edges' : List ℕ) (prices' : List ℤ) where
  pub record WritesCurve : Type 0 where
    pub room : length c.steps ≡ 20
    pub within : c.count ≤ 20
    pub edge : (k : ℕ) → k < 22 → get_or edges' k 0 ≡ get_or (c.count ∷ c.start ∷ map (λ s. s.end) c.steps) k 0
    pub price : (k : ℕ) → k < 20 → get_or prices' k (pos 0) ≡ get_or (map (λ s. s.price) c.steps) k (pos 0)
    pub edges_past : (k : ℕ) → 22 ≤ k → get_or edges' k 0 ≡ get_or edges k 0
    pub prices_past : (k : ℕ) → 20 ≤ k → get_or prices' k (pos 0) ≡ get_or prices k (pos 0)

  writes : CurveWritten c edges prices edges' prices' → WritesCurve
  writes w = record {
    room = sym (length-map c.steps (λ s. s.price)) ∙ w.priced.many;
    within = w.few;
    edge = w.ends.here;
    price = w.priced.here;
    edges_past = w.ends.past;
    prices_past = w.priced.past;
  }

module _ (s : List ℤ) (r : ℕ) (edges : List ℕ) (prices : List ℤ) where
  -- -1 where the state or a slice is too short, else 0 or, of the bid for the hour, 20; where it isn't 0 the slices are as they were
  pub record CurveCalls : Type 0 where
    pub answer : 3411 ≤ length s → 22 ≤ length edges → 20 ≤ length prices → (curve_answer s edges prices ≡ pos 0) × (hour_bid_answer s edges prices ≡ pos (hour_bid_refusal (hour_in s)))
    pub short : (length s < 3411) ⊎ ((length edges < 22) ⊎ (length prices < 20)) → (curve_answer s edges prices ≡ negsuc 0) × (hour_bid_answer s edges prices ≡ negsuc 0)
    pub curve_left : (curve_answer s edges prices ≡ pos 0 → ⊥) → (curve_edges s r edges prices ≡ edges) × (curve_prices s r edges prices ≡ prices)
    pub five_minute_left : (curve_answer s edges prices ≡ pos 0 → ⊥) → (five_minute_edges s r edges prices ≡ edges) × (five_minute_prices s r edges prices ≡ prices)
    pub hour_bid_left : (hour_bid_answer s edges prices ≡ pos 0 → ⊥) → (hour_bid_edges s r edges prices ≡ edges) × (hour_bid_prices s r edges prices ≡ prices)

  pub curve_calls : CurveCalls
  curve_calls = record {
    answer = curve_answer_lem s edges prices;
    short = curve_short s edges prices;
    curve_left = curve_unwritten s edges prices r;
    five_minute_left = five_minute_unwritten s edges prices r;
    hour_bid_left = hour_bid_unwritten s edges prices r;
  }

  pub curve_says : curve_answer s edges prices ≡ pos 0 → WritesCurve (curve_in (hour_in s).hour r) edges prices (curve_edges s r edges prices) (curve_prices s r edges prices)
  curve_says e = writes (curve_in (hour_in s).hour r) edges prices (curve_edges s r edges prices) (curve_prices s r edges prices) (curve_written s edges prices r e)

  pub five_minute_says : curve_answer s edges prices ≡ pos 0 → WritesCurve (five_minute_in (hour_in s) r) edges prices (five_minute_edges s r edges prices) (five_minute_prices s r edges prices)
  five_minute_says e = writes (five_minute_in (hour_in s) r) edges prices (five_minute_edges s r edges prices) (five_minute_prices s r edges prices) (five_minute_written s edges prices r e)

  pub bid_says : hour_bid_answer s edges prices ≡ pos 0 → WritesCurve (hour_bid_of (hour_in s) r) edges prices (hour_bid_edges s r edges prices) (hour_bid_prices s r edges prices)
  bid_says e = writes (hour_bid_of (hour_in s) r) edges prices (hour_bid_edges s r edges prices) (hour_bid_prices s r edges prices) (hour_bid_written s edges prices r e)

-- a default curve: 13 numbers and 11
module _ (s : List ℤ) (r : ℕ) (edges : List ℕ) (prices : List ℤ) where
  abbrev of : Curve
  of = default_in s r

  pub record WritesDefault : Type 0 where
    pub edge : (k : ℕ) → k < 13 → get_or (default_of_edges s r edges prices) k 0 ≡ get_or (length (take of.count of.steps) ∷ of.start ∷ map (λ s. s.end) of.steps) k 0
    pub within : get_or (default_of_edges s r edges prices) 0 0 ≤ 11
    pub price : (k : ℕ) → k < 11 → get_or (default_of_prices s r edges prices) k (pos 0) ≡ get_or (map (λ s. s.price) of.steps) k (pos 0)
    pub edges_past : (k : ℕ) → 13 ≤ k → get_or (default_of_edges s r edges prices) k 0 ≡ get_or edges k 0
    pub prices_past : (k : ℕ) → 11 ≤ k → get_or (default_of_prices s r edges prices) k (pos 0) ≡ get_or prices k (pos 0)

  -- the call refuses nothing: 0, or -1 where the state or a slice is too short
  pub default_number : 3411 ≤ length s → 13 ≤ length edges → 11 ≤ length prices → default_of_answer s edges prices ≡ pos 0
  default_number = default_answer_lem s edges prices

  pub default_too_short : (length s < 3411) ⊎ ((length edges < 13) ⊎ (length prices < 11)) → default_of_answer s edges prices ≡ negsuc 0
  default_too_short = default_short s edges prices

  pub default_says : default_of_answer s edges prices ≡ pos 0 → WritesDefault
  default_says e = let w = default_written s edges prices r e in record { edge = w.0.here; within = rw (w.0.here 0 (omega arith)) (default_within s edges prices r); price = w.1.here; edges_past = w.0.past; prices_past = w.1.past }

-- ---- the verdicts of an accepted interval, or pass: twenty numbers of each of its constraints
-- a verdict from number i of a slice on: 0 competitive, 1 non-competitive, 2 not binding; demand; left; bit p for each seller named; what each of 16 portfolios withholds
pub record VerdictSays (l : List ℤ) (i : ℕ) (x : Verdict) : Type 0 where
  pub finding : at l i ≡ pos (Found x.finding)
  pub demand : at l (i + 1) ≡ pos x.demand
  pub left : at l (i + 2) ≡ pos x.left
  pub named : at l (i + 3) ≡ pos x.named
  pub withheld : (p : ℕ) → p < 16 → at l (i + 4 + p) ≡ pos (get_or x.withheld p 0)

verdict_says : {l : List ℤ} {i : ℕ} {x : Verdict} → VerdictCells l i x → VerdictSays l i x
verdict_says v = record { finding = v.finding; demand = v.demand; left = v.left; named = v.named; withheld = v.withheld }

-- how many sellers a verdict names is counted from its bits: at most three
module _ (s verdicts : List ℤ) (v : Interval) where
  pub interval_sellers : interval_answer s verdicts v ≡ pos 0 → (c : ℕ) → c < v.constraints
      → sellers_answer (verdicts_after_interval s verdicts v) c ≡ pos (ones (verdict_of (path_in (hour_in s).hour.market v c)).named)
  interval_sellers e = (interval_verdicts s verdicts v e).sellers

  pub pass_sellers : pass_answer s verdicts v ≡ pos 0 → (c : ℕ) → c < v.constraints
      → sellers_answer (verdicts_after_pass s verdicts v) c ≡ pos (ones (verdict_of (path_in (hour_in s).hour.market v c)).named)
  pass_sellers e = (pass_verdicts_lem s verdicts v e).sellers

pub sellers_too_short : (l : List ℤ) (c : ℕ) → length l < 640 → sellers_answer l c ≡ negsuc 0
sellers_too_short = sellers_short

pub no_sellers_past : (l : List ℤ) (c : ℕ) → 640 ≤ length l → 32 ≤ c → sellers_answer l c ≡ pos 0
no_sellers_past = sellers_past

module _ (s verdicts : List ℤ) (v : Interval) where
  pub interval_verdicts_say : interval_answer s verdicts v ≡ pos 0 → (c : ℕ) → c < v.constraints
      → VerdictSays (verdicts_after_interval s verdicts v) (20 * c) (verdict_of (path_in (hour_in s).hour.market v c))
  interval_verdicts_say e c l = verdict_says ((interval_verdicts s verdicts v e).told c l)

  pub pass_verdicts_say : pass_answer s verdicts v ≡ pos 0 → (c : ℕ) → c < v.constraints
      → VerdictSays (verdicts_after_pass s verdicts v) (20 * c) (verdict_of (path_in (hour_in s).hour.market v c))
  pass_verdicts_say e c l = verdict_says ((pass_verdicts_lem s verdicts v e).told c l)

-- ---- where the answer isn't 0, the slices for verdicts, causes and default curves are as they were too
module _ (s l : List ℤ) (v : Interval) (r : ℕ) (edges : List ℕ) where
  pub record Left : Type 0 where
    pub interval_verdicts : (interval_answer s l v ≡ pos 0 → ⊥) → verdicts_after_interval s l v ≡ l
    pub pass_verdicts_lem : (pass_answer s l v ≡ pos 0 → ⊥) → verdicts_after_pass s l v ≡ l
    pub causes : (why_answer s l v ≡ pos 0 → ⊥) → causes_after s l v ≡ l
    pub no_causes : (length s < 3411) ⊎ (length l < 256) → why_answer s l v ≡ negsuc 0
    pub default_curve : (default_of_answer s edges l ≡ pos 0 → ⊥) → (default_of_edges s r edges l ≡ edges) × (default_of_prices s r edges l ≡ l)

  pub left : Left
  left = record {
    interval_verdicts = interval_verdicts_left s l v;
    pass_verdicts_lem = pass_verdicts_left s l v;
    causes = causes_left s l v;
    no_causes = why_short s l v;
    default_curve = default_left s edges l r;
  }
