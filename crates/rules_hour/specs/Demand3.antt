-- Demand 3: what any list of interval calls leaves of a submitted bid (paper 01, Interval and hour, its second paragraph).
-- "After every list of interval calls on a freshly opened hour, accepted and refused ones in any order, the price of each hundredth of a megawatt in a
-- resource's bid is the least of its submitted price and its caps."
-- Everything here but `answers`, `hour_of` and `curve_after` is made from the opening data and the calls alone.
use Rattle.std.specs.Prelude.{◌&&◌, cond, ◌↔◌, ◌⊎◌, ◌≡◌, ℕ, zero, suc, ◌+◌, ◌≤◌, ◌<◌, ℤ, pos, neg_ℤ, ◌+ℤ◌, ◌-ℤ◌, ◌*ℤ◌, length, take, ◌<ℤ◌, ◌≤ℤ◌, None, Option, Some}
use mathlib.Core.List.{List, [], ◌∷◌, Memᴰ}
use Rattle.std.specs.Int.Signed.{lt_z}
use Rattle.rules_number.specs.Order.{max_z, eq_z, nat_of}
use Rattle.rules_number.specs.Over.{sum_over}
use Rattle.rules_number.specs.Least.{IsLeast}
use Rattle.rules_curve.specs.Curves.{steps_of, end_of, price_at, quote, curve_of}
use Rattle.rules_curve.specs.Demands.{First, Met}
use Rattle.rules_curve.specs.Meaning.{Rising}
use Rattle.rules_curve.specs.declared.Step.{Step}
use Rattle.rules_curve.specs.declared.Curve.{Curve}
use Rattle.rules_mitigation.specs.Mitigation.{most_mitigated_steps, used_steps}
use Rattle.rules_mitigation.specs.Meaning.{Apart}
use Rattle.rules_mitigation.specs.declared.Mitigated.{Mitigated}
use Rattle.rules_interval.specs.Intervals.{shadow_at, lmp_at, dispatch_at, available_at, floor_at, factor_at, interval_refusal}
use Rattle.rules_interval.specs.declared.Interval.{Interval}
use Rattle.rules_path.specs.Paths.{Path, Withheld}
use Rattle.rules_path.specs.declared.Market.{Market}
use Rattle.rules_opening.specs.Resources.{default_by}
use Rattle.rules_opening.specs.Openings.{resource_at, seller_at, market_of}
use Rattle.rules_opening.specs.declared.Opening.{Opening}
use Rattle.rules_hour.specs.Conditions.{call_demands}
use Rattle.rules_hour.specs.Cuts.{cut_of}
use Rattle.rules_hour.specs.Hours.{Hour, curve_in, hour_refusal, hour_after, hour_after_all}
use Rattle.rules_hour.specs.Opened.{opened_hour}

-- ---- the submitted bid, the default curve and their prices
-- "The submitted price is the price of that quantity in the bid that opening took, the default price its price in the resource's default curve."
abbrev pub submitted : Opening → ℕ → Curve
submitted o r = curve_of (resource_at o r).bid

abbrev pub default_of : Opening → ℕ → Curve
default_of o r = default_by (resource_at o r).source (resource_at o r)

abbrev pub submitted_price : Opening → ℕ → ℕ → ℤ
submitted_price o r q = price_at (steps_of (submitted o r)) q

abbrev pub default_price : Opening → ℕ → ℕ → ℤ
default_price o r q = price_at (steps_of (default_of o r)) q

-- quantity q is a hundredth of a megawatt of the bid of resource r
pub record InBid (o : Opening) (r q : ℕ) : Type 0 where
  pub from_start : (submitted o r).start ≤ q
  pub below_end : q < end_of (submitted o r).start (steps_of (submitted o r))

-- and of its default curve
pub record InDefault (o : Opening) (r q : ℕ) : Type 0 where
  pub from_start : (default_of o r).start ≤ q
  pub below_end : q < end_of (default_of o r).start (steps_of (default_of o r))

-- "Quantity q has the price of the step with lower edge <= q < end": the price that a curve has of it, or none
abbrev pub quote_in : Curve → ℕ → Option ℤ
quote_in c q = quote c.start (steps_of c) q

-- ---- which calls are accepted
abbrev pub kept_by : ℕ → Interval → List Interval → List Interval
kept_by zero v l = v ∷ l
kept_by (suc n) v l = l

-- the calls on an hour of n resources to which none of 13 to 16 applies
unfoldable pub sound_calls : ℕ → List Interval → List Interval
sound_calls n [] = []
sound_calls n (v ∷ calls) = kept_by (interval_refusal n v) v (sound_calls n calls)

-- "An interval call is accepted exactly when none of 12 to 16 applies": the first four of them
abbrev pub accepted_calls : Opening → List Interval → List Interval
accepted_calls o calls = take 4 (sound_calls o.resources calls)

-- ---- the caps of a resource on a default price d
-- a cut's cap: the higher of default price and L
abbrev pub with_cap : Option ℤ → ℤ → List ℤ → List ℤ
with_cap None d l = l
with_cap (Some floor) d l = max_z d floor ∷ l

-- one for each of these calls in which the resource is dispatched and C is above 0, and no other
unfoldable pub caps_in : Market → ℕ → ℤ → List Interval → List ℤ
caps_in m r d [] = []
caps_in m r d (v ∷ calls) = with_cap (cut_of m v r) d (caps_in m r d calls)

-- those of quantity q in these accepted calls
abbrev pub caps_of : Opening → List Interval → ℕ → ℕ → List ℤ
caps_of o accepted r q = caps_in (market_of o) r (default_price o r q) accepted

abbrev pub caps : Opening → List Interval → ℕ → ℕ → List ℤ
caps o calls r q = caps_of o (accepted_calls o calls) r q

-- ---- which constraints enter, in the opening's and the interval's own numbers
-- f 0 + .. + f (n - 1)
abbrev pub sum_of : (ℕ → ℤ) → ℕ → ℤ
sum_of f zero = pos 0
sum_of f (suc n) = sum_of f n +ℤ f n

-- "A resource's effectiveness e is -s where its shift factor s is below 0, else 0."
unfoldable pub effectiveness_on : Interval → ℕ → ℕ → ℤ
effectiveness_on v c r = cond (lt_z (factor_at v r c) (pos 0)) (neg_ℤ (factor_at v r c)) (pos 0)

-- "Demand is the sum of e × dispatch over all resources. Supply is the sum of e × available."
unfoldable pub counterflow_demand : Opening → Interval → ℕ → ℤ
counterflow_demand o v c = sum_of (λ r. effectiveness_on v c r *ℤ dispatch_at v r) o.resources

unfoldable pub counterflow_supply : Opening → Interval → ℕ → ℤ
counterflow_supply o v c = sum_of (λ r. effectiveness_on v c r *ℤ available_at v r) o.resources

-- "a portfolio can withhold the sum of e × (available - floor) over its resources"
unfoldable pub can_withhold : Opening → Interval → ℕ → ℕ → ℤ
can_withhold o v c p =
    sum_of (λ r. cond (eq_z (resource_at o r).portfolio (pos p)) (effectiveness_on v c r *ℤ (available_at v r -ℤ floor_at v r)) (pos 0)) o.resources

-- "Seller 1 marks a net seller"
abbrev pub IsNetSeller : Opening → ℕ → Type 0
IsNetSeller o p = (p < o.portfolios) × (seller_at o p ≡ pos 1)

-- sellers and the whole amount that each withholds: no seller stands twice
abbrev pub EachOnce : List Withheld → Type 0
EachOnce [] = Unit {0}
EachOnce (x ∷ l) = ((y : Withheld) → Memᴰ y l → x.who ≡ y.who → ⊥) × EachOnce l

-- the amounts added up
abbrev pub withheld_by : List Withheld → ℤ
withheld_by [] = pos 0
withheld_by (x ∷ l) = pos x.amount +ℤ withheld_by l

-- "it binds and some choice of at most three net sellers, each withholding no more than it can, leaves counterflow supply below counterflow demand"
pub record Enters (o : Opening) (v : Interval) (c : ℕ) : Type 0 where
  pub binding : pos 0 <ℤ shadow_at v c
  pub choice : List Withheld
  pub few : length choice ≤ 3
  pub once : EachOnce choice
  pub each : (x : Withheld) → Memᴰ x choice → IsNetSeller o x.who × (pos x.amount ≤ℤ can_withhold o v c x.who)
  pub below : (counterflow_supply o v c -ℤ withheld_by choice) <ℤ counterflow_demand o v c

-- ---- a cap in the user's words
-- the numbers of a list rise, from n on
abbrev pub RisingFrom : ℕ → List ℕ → Type 0
RisingFrom n [] = Unit {0}
RisingFrom n (x ∷ l) = (n ≤ x) × RisingFrom (suc x) l

-- "its non-competitive congestion component": minus the sum of s × shadow over the constraints that enter, each once. "A constraint enters that component
-- exactly when it binds and some choice of at most three net sellers, each withholding no more than it can, leaves counterflow supply below counterflow demand."
pub record Component (o : Opening) (v : Interval) (r : ℕ) (C : ℤ) : Type 0 where
  pub constraints : List ℕ
  pub once : RisingFrom 0 constraints
  pub enters : (c : ℕ) → Memᴰ c constraints ↔ ((c < v.constraints) × Enters o v c)
  pub sum : C ≡ neg_ℤ (sum_over (λ c. factor_at v r c *ℤ shadow_at v c) constraints)

-- "the resource's competitive price in that interval": the least whole number at or above lmp - C / 1,000,000
pub record Competitive (lmp C p : ℤ) : Type 0 where
  pub at_or_above : (lmp *ℤ pos 1000000 -ℤ C) ≤ℤ (p *ℤ pos 1000000)
  pub least : ((p -ℤ pos 1) *ℤ pos 1000000) <ℤ (lmp *ℤ pos 1000000 -ℤ C)

-- y is the cap of quantity q in interval v, "in which the resource was dispatched and its non-competitive congestion component was above zero".
-- "The cap is the higher of its default price and the resource's competitive price in that interval plus the parameter."
pub record CapIn (o : Opening) (v : Interval) (r q : ℕ) (y : ℤ) : Type 0 where
  pub dispatched : pos 0 <ℤ dispatch_at v r
  pub C : ℤ
  pub component : Component o v r C
  pub above : pos 0 <ℤ C
  pub price : ℤ
  pub competitive : Competitive (lmp_at v r) C price
  pub default : ℤ
  pub default_price_lem : quote_in (default_of o r) q ≡ Some default
  pub cap : y ≡ max_z default (price +ℤ v.parameter)

-- interval v has no cap for resource r: it isn't dispatched, or its component isn't above 0
pub record NoCapIn (o : Opening) (v : Interval) (r : ℕ) : Type 0 where
  pub C : ℤ
  pub component : Component o v r C
  pub either : (dispatch_at v r ≤ℤ pos 0) ⊎ (C ≤ℤ pos 0)

-- y is a cap of quantity q: that of one of these accepted intervals
pub record Cap (o : Opening) (accepted : List Interval) (r q : ℕ) (y : ℤ) : Type 0 where
  pub call : Interval
  pub listed : Memᴰ call accepted
  pub in_call : CapIn o call r q y

-- these are the caps of quantity q in these intervals, in their order: one for each that has one, and no other
pub data OneEach (o : Opening) (r q : ℕ) : List Interval → List ℤ → Type 0 where
  none : OneEach o r q [] []
  one : {v : Interval} {y : ℤ} {calls : List Interval} {l : List ℤ} → CapIn o v r q y → OneEach o r q calls l → OneEach o r q (v ∷ calls) (y ∷ l)
  no_other : {v : Interval} {calls : List Interval} {l : List ℤ} → NoCapIn o v r → OneEach o r q calls l → OneEach o r q (v ∷ calls) l

-- how many of these intervals have resource r dispatched and its component, which is C of the interval, above 0
unfoldable pub how_many : ℕ → (Interval → ℤ) → List Interval → ℕ
how_many r C [] = 0
how_many r C (v ∷ calls) = cond (lt_z (pos 0) (dispatch_at v r) && lt_z (pos 0) (C v)) 1 0 + how_many r C calls

-- ---- the numbers that the calls return
-- in order: "Each call gets the hour as the call before it left it"
unfoldable pub answers_from : Hour → List Interval → List ℕ
answers_from h [] = []
answers_from h (v ∷ calls) = hour_refusal h v ∷ answers_from (hour_after h v) calls

abbrev pub answers : Opening → List Interval → List ℕ
answers o calls = answers_from (opened_hour o) calls

-- the calls that return 0
abbrev pub returning_zero : List Interval → List ℕ → List Interval
returning_zero [] l = []
returning_zero (v ∷ calls) [] = []
returning_zero (v ∷ calls) (x ∷ l) = kept_by x v (returning_zero calls l)

-- how many are accepted after a call that returns this number, where a were before it
abbrev pub counted_by : ℕ → ℕ → ℕ
counted_by zero a = a + 1
counted_by (suc x) a = a

-- the numbers of these calls on an hour of n resources that has accepted a: each is 0 exactly when none of 12 to 16 applies, and else the first that applies
abbrev pub Answered : ℕ → ℕ → List Interval → List ℕ → Type 0
Answered n a [] l = l ≡ []
Answered n a (v ∷ calls) [] = ⊥
Answered n a (v ∷ calls) (x ∷ l) = ((x ≡ 0) ↔ Met (call_demands a n v)) × First x (call_demands a n v) × Answered n (counted_by x a) calls l

-- ---- the statement
-- the resource's curve in the hour as the list leaves it, from the hour that opening returned
abbrev pub hour_of : Opening → List Interval → Hour
hour_of o calls = hour_after_all (opened_hour o) calls

abbrev pub curve_after : Opening → List Interval → ℕ → Mitigated
curve_after o calls r = curve_in (hour_of o calls) r

-- the steps l, from p on, are the bid of resource r with each hundredth q of a megawatt at a price x that Is q x
pub record OverBid (o : Opening) (r : ℕ) (Is : ℕ → ℤ → Type 0) (p : ℕ) (l : List Step) : Type 0 where
  pub price : (q : ℕ) → InBid o r q → Is q (price_at l q)
  -- "this curve starts and ends where its submitted bid does"
  pub starts : p ≡ (submitted o r).start
  pub ends : end_of p l ≡ end_of (submitted o r).start (steps_of (submitted o r))
  -- "Neighbouring steps with one price are merged"
  pub rising : Rising p l
  pub apart : Apart l

-- at the least of its price before, `before q`, and its caps in these accepted calls
abbrev pub CappedSteps : Opening → ℕ → (ℕ → ℤ) → List Interval → ℕ → List Step → Type 0
CappedSteps o r before accepted p l = OverBid o r (λ q x. IsLeast (before q) (caps_of o accepted r q) x) p l

-- c is that curve and no other is; each accepted call has its cap in the user's words
pub record Capped (o : Opening) (r : ℕ) (before : ℕ → ℤ) (accepted : List Interval) (c : Mitigated) : Type 0 where
  pub is : CappedSteps o r before accepted c.start (used_steps c)
  pub only : (p : ℕ) (l : List Step) → CappedSteps o r before accepted p l → (p ≡ c.start) × (l ≡ used_steps c)
  -- "19 steps always suffice", 20 since a default curve may have 11
  pub twenty : c.count ≤ most_mitigated_steps
  -- "one cap for each accepted interval of the list in which .., and no other"
  pub capping : (q : ℕ) → InBid o r q → (y : ℤ) → Memᴰ y (caps_of o accepted r q) ↔ Cap o accepted r q y
  pub one_each : (q : ℕ) → InBid o r q → OneEach o r q accepted (caps_of o accepted r q)
  -- as many caps as accepted intervals in which the resource is dispatched and its component C above 0
  pub C : Interval → ℤ
  pub component : (v : Interval) → Memᴰ v accepted → Component o v r (C v)
  pub number : (q : ℕ) → length (caps_of o accepted r q) ≡ how_many r C accepted
  -- the price is the one that the curve has of the quantity
  pub quoted : (q : ℕ) → InBid o r q → quote c.start (used_steps c) q ≡ Some (price_at (used_steps c) q)

-- the prices of quantity q are those that the submitted bid and the default curve have of it
pub record Quoted (o : Opening) (r q : ℕ) : Type 0 where
  pub before : quote_in (submitted o r) q ≡ Some (submitted_price o r q)
  pub default : quote_in (default_of o r) q ≡ Some (default_price o r q)

-- the owner's sentence, of the curve c of resource r where these intervals were accepted
pub record Owned (o : Opening) (r : ℕ) (accepted : List Interval) (c : Mitigated) : Type 0 where
  -- "the price of each hundredth of a megawatt in a resource's bid is the least of its submitted price and its caps"
  pub capped : Capped o r (submitted_price o r) accepted c
  -- "The submitted price is the price of that quantity in the bid that opening took, the default price its price in the resource's default curve."
  pub quoted : (q : ℕ) → InBid o r q → Quoted o r q
  -- 11: the bid reaches nowhere outside its default curve, at its start or at its end; a quantity outside has no default price
  pub default_covers : (q : ℕ) → InBid o r q → InDefault o r q
  pub no_default : (q : ℕ) → (q < (default_of o r).start) ⊎ (end_of (default_of o r).start (steps_of (default_of o r)) ≤ q) → quote_in (default_of o r) q ≡ None

pub record Demand3 (o : Opening) (calls : List Interval) (r : ℕ) : Type 0 where
  pub owned : Owned o r (accepted_calls o calls) (curve_after o calls r)
  -- "An interval call is accepted exactly when none of 12 to 16 applies, and 12 counts the accepted ones before it in the list."
  pub answered : Answered o.resources 0 calls (answers o calls)
  pub accepting : accepted_calls o calls ≡ returning_zero calls (answers o calls)
  pub counted : (hour_of o calls).standing.accepted ≡ length (accepted_calls o calls)

-- ---- the verdict
-- what constraint c of a call is judged on, in the opening's own numbers
abbrev pub path_from : Opening → Interval → ℕ → Path
path_from o v c = record {
  shadow = shadow_at v c;
  resources = o.resources;
  factor = λ r. factor_at v r c;
  dispatch = λ r. nat_of (dispatch_at v r);
  available = λ r. nat_of (available_at v r);
  floor = λ r. nat_of (floor_at v r);
  portfolio = λ r. nat_of (resource_at o r).portfolio;
  portfolios = o.portfolios;
  seller = λ p. nat_of (seller_at o p);
}
