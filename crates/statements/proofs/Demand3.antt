-- Demand 3 in full, for every list of interval calls on a freshly opened hour, in the opening's and the intervals' own numbers. Assumes nothing.
use Rattle.std.specs.Prelude.{None, Some}
use mathlib.Core.Bool.{cond, ◌&&◌}
use mathlib.Core.List.Memᴰ
use mathlib.Core.List.{List, [], ◌∷◌, Memᴰ}
use mathlib.Core.Logic.{◌⊎◌, inl, inr, ⊎_elim, ◌↔◌}
use mathlib.Core.Path.{◌≡◌, refl, sym, ap, subst, ◌∙◌}
use Prim.Native.Nat.{ℕ, zero, suc, ◌+◌, ◌*◌, ◌≤◌, ◌<◌}
use native.Mathlib.Omega.{arith}
use lib.IntN.{ℤ, pos, neg_ℤ, ◌+ℤ◌, ◌-ℤ◌, ◌*ℤ◌, +ℤ_idl, +ℤ_idr, +ℤ_assoc}
use lib.ListN.{length, get_or}
use lib.Signed.{lt_z, ◌≤ℤ◌, ◌<ℤ◌}
use Rattle.rules_number.specs.Order.{max_z, eq_z}
use Rattle.rules_number.specs.Over.{sum_over}
use Rattle.rules_curve.proofs.FirstLaws.{exactly}
use Rattle.rules_curve.specs.Curves.{steps_of, end_of, price_at, quote, curve_of}
use Rattle.rules_curve.specs.declared.Curve.{Curve}
use Rattle.rules_mitigation.specs.Mitigation.{used_steps}
use Rattle.rules_mitigation.specs.declared.Mitigated.{Mitigated}
use Rattle.rules_interval.specs.Intervals.{interval_refusal}
use Rattle.rules_interval.specs.declared.Interval.{Interval}
use Rattle.rules_path.specs.Paths.{Withheld}
use Rattle.rules_opening.specs.Resources.{default_by}
use Rattle.rules_opening.specs.Openings.{no_resource, opening_refusal}
use Rattle.rules_opening.specs.declared.Resource.{Resource}
use Rattle.rules_opening.specs.declared.Opening.{Opening}
use Rattle.rules_hour.specs.Hours.{Hour, curve_in, hour_refusal, hour_after, hour_after_all}
use Rattle.rules_hour.specs.Opened.{opened_hour}
use Rattle.rules_hour.specs.Demand3.{accepted_calls, effectiveness_on, counterflow_demand, counterflow_supply, can_withhold, EachOnce, withheld_by, Enters, RisingFrom, Component, CapIn, NoCapIn, OneEach, none, one, no_other, how_many, answers, answers_from, returning_zero, counted_by, Answered, InBid, submitted_price, default_price, caps_of, caps, Capped, Owned, Demand3}
use Rattle.rules_hour.specs.Conditions.{call_demands}
use Rattle.rules_hour.proofs.AcceptedOpening.{few}
use Rattle.rules_hour.proofs.Demand3.{demand_3}
use Rattle.statements.proofs.Told.{and_so}
use Rattle.statements.proofs.Plain.{SignedSum, SumOver}
use Rattle.statements.proofs.Paths.{nobody, who_at, amount_at, list_from, from_length}
use Rattle.statements.proofs.RefusedCalls.{Resources, Constraints, Limits, Outputs, CallSays, call_says, accepted_says}

abbrev pub resource : Opening → ℕ → Resource
resource o r = get_or o.list r no_resource

-- "The submitted price is the price of that quantity in the bid that opening took, the default price its price in the resource's default curve."
abbrev pub bid : Opening → ℕ → Curve
bid o r = curve_of (resource o r).bid

abbrev pub default : Opening → ℕ → Curve
default o r = default_by (resource o r).source (resource o r)

module _ (o : Opening) (v : Interval) where
  -- s of resource r on constraint c, and "effectiveness e is -s where its shift factor s is below 0, else 0"
  abbrev pub s : ℕ → ℕ → ℤ
  s c r = get_or v.factors (r * 32 + c) (pos 0)

  abbrev e : ℕ → ℕ → ℤ
  e c r = cond (lt_z (s c r) (pos 0)) (neg_ℤ (s c r)) (pos 0)

  -- "Demand is the sum of e × dispatch over all resources. Supply is the sum of e × available."
  abbrev pub Demand : ℕ → ℤ
  Demand c = SignedSum (λ r. e c r *ℤ get_or v.dispatch r (pos 0)) o.resources

  abbrev pub Supply : ℕ → ℤ
  Supply c = SignedSum (λ r. e c r *ℤ get_or v.available r (pos 0)) o.resources

  -- "a portfolio can withhold the sum of e × (available - floor) over its resources"
  abbrev pub Withholdable : ℕ → ℕ → ℤ
  Withholdable c p = SignedSum (λ r. cond (eq_z (resource o r).portfolio (pos p)) (e c r *ℤ (get_or v.available r (pos 0) -ℤ get_or v.floor r (pos 0))) (pos 0)) o.resources

  -- "some choice of at most three net sellers, each withholding no more than it can"
  pub record Choice (c : ℕ) : Type 0 where
    pub count : ℕ
    pub at_most_three : count ≤ 3
    pub who : ℕ → ℕ
    pub amount : ℕ → ℕ
    pub net_seller : (i : ℕ) → i < count → (who i < o.portfolios) × (get_or o.sellers (who i) (pos 0) ≡ pos 1)
    pub up_to : (i : ℕ) → i < count → pos (amount i) ≤ℤ Withholdable c (who i)
    pub distinct : (i j : ℕ) → i < j → j < count → who i ≡ who j → ⊥

  -- "A constraint enters that component exactly when it binds and some choice .. leaves counterflow supply below counterflow demand."
  abbrev pub Entering : ℕ → Type 0
  Entering c = (pos 0 <ℤ get_or v.shadow c (pos 0)) × ((x : Choice c) × ((Supply c -ℤ SignedSum (λ i. pos (x.amount i)) x.count) <ℤ Demand c))

  -- C is "minus the sum of s × shadow over non-competitive constraints", each once
  abbrev pub IsComponent : ℕ → ℤ → Type 0
  IsComponent r C =
      (cs : List ℕ) × ((i : ℕ) → suc i < length cs → get_or cs i 0 < get_or cs (suc i) 0)
      × ((c : ℕ) → Memᴰ c cs ↔ ((c < v.constraints) × Entering c))
      × (C ≡ neg_ℤ (SumOver (λ c. s c r *ℤ get_or v.shadow c (pos 0)) cs))

  -- "in which the resource was dispatched and its non-competitive congestion component was above zero": "The cap is the higher of its default price and the resource's competitive price in that
  -- interval plus the parameter", the competitive price being lmp - C / 1,000,000, up
  abbrev pub CapOf : ℕ → ℕ → ℤ → Type 0
  CapOf r q y =
      (C : ℤ) × (price : ℤ) × (d : ℤ) × IsComponent r C × (pos 0 <ℤ get_or v.dispatch r (pos 0)) × (pos 0 <ℤ C)
      × ((get_or v.lmp r (pos 0) *ℤ pos 1000000 -ℤ C) ≤ℤ (price *ℤ pos 1000000)) × (((price -ℤ pos 1) *ℤ pos 1000000) <ℤ (get_or v.lmp r (pos 0) *ℤ pos 1000000 -ℤ C))
      × (quote (default o r).start (steps_of (default o r)) q ≡ Some d)
      × (y ≡ max_z d (price +ℤ v.parameter))

  abbrev pub NoCapOf : ℕ → Type 0
  NoCapOf r = (C : ℤ) × IsComponent r C × ((get_or v.dispatch r (pos 0) ≤ℤ pos 0) ⊎ (C ≤ℤ pos 0))

-- ---- the calls: "Each call gets the hour as the call before it left it"
-- the numbers that they return, in order
abbrev numbers : Hour → List Interval → List ℕ
numbers h [] = []
numbers h (v ∷ calls) = hour_refusal h v ∷ numbers (hour_after h v) calls

-- those that return 0
abbrev with_zero : List Interval → List ℕ → List Interval
with_zero [] l = []
with_zero (v ∷ calls) [] = []
with_zero (v ∷ calls) (zero ∷ l) = v ∷ with_zero calls l
with_zero (v ∷ calls) (suc n ∷ l) = with_zero calls l

abbrev pub Accepted : Opening → List Interval → List Interval
Accepted o calls = with_zero calls (numbers (opened_hour o) calls)

-- "An interval call is accepted exactly when none of 12 to 16 applies, and 12 counts the accepted ones before it in the list", of which there are a
abbrev Acceptable : ℕ → ℕ → Interval → Type 0
Acceptable n a v = (a < 4) × (Resources n v × (Constraints n v × (Limits n v × Outputs n v)))

-- how many are accepted after a call that returns this number
abbrev counting : ℕ → ℕ → ℕ
counting zero a = a + 1
counting (suc x) a = a

abbrev CallsSay : ℕ → ℕ → List Interval → List ℕ → Type 0
CallsSay n a [] l = l ≡ []
CallsSay n a (v ∷ calls) [] = ⊥
CallsSay n a (v ∷ calls) (x ∷ l) = ((x ≡ 0) ↔ Acceptable n a v) × CallSays a (interval_refusal n v) x × CallsSay n (counting x a) calls l

-- ---- caps: one for each of these intervals that has one, in order, and no other
abbrev EachOne : Opening → ℕ → ℕ → List Interval → List ℤ → Type 0
EachOne o r q [] caps = caps ≡ []
EachOne o r q (v ∷ calls) caps =
    ((y : ℤ) × (rest : List ℤ) × (caps ≡ y ∷ rest) × CapOf o v r q y × EachOne o r q calls rest) ⊎ (NoCapOf o v r × EachOne o r q calls caps)

-- how many of these intervals have resource r dispatched and its component, which is C of the interval, above 0
abbrev many : ℕ → (Interval → ℤ) → List Interval → ℕ
many r C [] = 0
many r C (v ∷ calls) = cond (lt_z (pos 0) (get_or v.dispatch r (pos 0)) && lt_z (pos 0) (C v)) 1 0 + many r C calls

-- these intervals are accepted, and C is the component of resource r in each
module _ (o : Opening) (r : ℕ) (A : List Interval) (C : Interval → ℤ) where
  -- price is the least of another price before and the caps of quantity q: one cap for each of these intervals that has one, and no other
  pub record CapsSay (q : ℕ) (before price : ℤ) : Type 0 where
    pub caps : List ℤ
    pub exactly : (y : ℤ) → Memᴰ y caps ↔ ((v : Interval) × Memᴰ v A × CapOf o v r q y)
    pub one_each : EachOne o r q A caps
    pub number : length caps ≡ many r C A
    pub at_most_before : price ≤ℤ before
    pub at_most_each : (y : ℤ) → Memᴰ y caps → price ≤ℤ y
    pub one_of_them : (price ≡ before) ⊎ Memᴰ price caps

  -- "the price of each hundredth of a megawatt in a resource's bid is the least of its submitted price and its caps. Such a hundredth has one cap for each accepted interval of the list in which
  -- the resource was dispatched and its non-competitive congestion component was above zero, and no other.", of the curve that the list leaves
  pub record PriceSays (after : Mitigated) (q : ℕ) : Type 0 where
    pub submitted : ℤ
    pub price : ℤ
    pub default_price_lem : ℤ
    pub before : quote (bid o r).start (steps_of (bid o r)) q ≡ Some submitted
    pub afterwards : quote after.start (used_steps after) q ≡ Some price
    pub inside : ((default o r).start ≤ q) × (q < end_of (default o r).start (steps_of (default o r))) × (quote (default o r).start (steps_of (default o r)) q ≡ Some default_price_lem)
    pub capped : CapsSay q submitted price

-- the curve of resource r where these intervals are accepted
pub record OwnerSays (o : Opening) (r : ℕ) (A : List Interval) (after : Mitigated) : Type 0 where
  pub C : Interval → ℤ
  pub component : (v : Interval) → Memᴰ v A → IsComponent o v r (C v)
  pub prices : (q : ℕ) → (bid o r).start ≤ q → q < end_of (bid o r).start (steps_of (bid o r)) → PriceSays o r A C after q
  -- a quantity outside the default curve has no default price
  pub no_default : (q : ℕ) → (q < (default o r).start) ⊎ (end_of (default o r).start (steps_of (default o r)) ≤ q) → quote (default o r).start (steps_of (default o r)) q ≡ None
  -- "this curve starts and ends where its submitted bid does"
  pub starts : after.start ≡ (bid o r).start
  pub ends : end_of after.start (used_steps after) ≡ end_of (bid o r).start (steps_of (bid o r))

module _ (o : Opening) (calls : List Interval) (r : ℕ) where
  -- "The price after the list is that in the resource's curve in the hour as the list leaves it"
  abbrev pub after : Mitigated
  after = curve_in (hour_after_all (opened_hour o) calls) r

  pub record Demand3Says : Type 0 where
    pub owner : OwnerSays o r (Accepted o calls) after
    pub calls_say : CallsSay o.resources 0 calls (numbers (opened_hour o) calls)
    pub counted : (hour_after_all (opened_hour o) calls).standing.accepted ≡ length (Accepted o calls)

-- ---- from the theorem
pub mem_at : (l : List Withheld) (i : ℕ) → i < length l → Memᴰ (get_or l i nobody) l
mem_at [] i h = absurd (omega arith)
mem_at (x ∷ l) zero h = Memᴰ.head refl
mem_at (x ∷ l) (suc i) h = Memᴰ.tail (mem_at l i (omega arith))

pub once_at : (l : List Withheld) → EachOnce l → (i j : ℕ) → i < j → j < length l → who_at l i ≡ who_at l j → ⊥
once_at [] o i j h k q = omega arith
once_at (x ∷ l) o i zero h k q = omega arith
once_at (x ∷ l) o zero (suc j) h k q = o.0 (get_or l j nobody) (mem_at l j (omega arith)) q
once_at (x ∷ l) o (suc i) (suc j) h k q = once_at l o.1 i j (omega arith) (omega arith) q

sum_front : (f : ℕ → ℤ) (n : ℕ) → SignedSum f (suc n) ≡ f 0 +ℤ SignedSum (λ i. f (suc i)) n
sum_front f zero = +ℤ_idl (f 0) ∙ sym (+ℤ_idr (f 0))
sum_front f (suc n) = ap (λ (z : ℤ). z +ℤ f (suc n)) (sum_front f n) ∙ +ℤ_assoc (f 0) (SignedSum (λ i. f (suc i)) n) (f (suc n))

pub sum_at : (l : List Withheld) → withheld_by l ≡ SignedSum (λ i. pos (amount_at l i)) (length l)
sum_at [] = refl
sum_at (x ∷ l) = ap (λ (z : ℤ). pos x.amount +ℤ z) (sum_at l) ∙ sym (sum_front (λ i. pos (amount_at (x ∷ l) i)) (length l))

from_mem : (k : ℕ) (w a : ℕ → ℕ) (x : Withheld) → Memᴰ x (list_from k w a) → (i : ℕ) × (i < k) × (x ≡ record { who = w i; amount = a i })
from_mem zero w a x m = absurd (Memᴰ.not-nil m)
from_mem (suc k) w a x m = ⊎_elim
    (λ q. (0, omega arith, q))
    (λ n. let t = from_mem k (λ i. w (suc i)) (λ i. a (suc i)) x n in (suc t.0, omega (arith, t.1), t.2))
    (Memᴰ.cases_cons m)

from_once : (k : ℕ) (w a : ℕ → ℕ) → ((i j : ℕ) → i < j → j < k → w i ≡ w j → ⊥) → EachOnce (list_from k w a)
from_once zero w a h = tt
from_once (suc k) w a h = (
  (λ y m q. let t = from_mem k (λ i. w (suc i)) (λ i. a (suc i)) y m in h 0 (suc t.0) (omega arith) (omega (arith, t.1)) (q ∙ ap (λ (x : Withheld). x.who) t.2)),
  from_once k (λ i. w (suc i)) (λ i. a (suc i)) (λ i j l m. h (suc i) (suc j) (omega arith) (omega arith)),
)

pub from_sum : (k : ℕ) (w a : ℕ → ℕ) → withheld_by (list_from k w a) ≡ SignedSum (λ i. pos (a i)) k
from_sum zero w a = refl
from_sum (suc k) w a = ap (λ (z : ℤ). pos (a 0) +ℤ z) (from_sum k (λ i. w (suc i)) (λ i. a (suc i))) ∙ sym (sum_front (λ i. pos (a i)) k)

pub rising_at : (n : ℕ) (l : List ℕ) → RisingFrom n l → (i : ℕ) → suc i < length l → get_or l i 0 < get_or l (suc i) 0
rising_at n [] r i h = absurd (omega arith)
rising_at n (x ∷ []) r i h = absurd (omega arith)
rising_at n (x ∷ y ∷ l) r zero h = r.1.0
rising_at n (x ∷ y ∷ l) r (suc i) h = rising_at (suc x) (y ∷ l) r.1 i (omega arith)

rising_from : (n x : ℕ) (l : List ℕ) → n ≤ x → ((i : ℕ) → suc i < length (x ∷ l) → get_or (x ∷ l) i 0 < get_or (x ∷ l) (suc i) 0) → RisingFrom n (x ∷ l)
rising_from n x [] k h = (k, tt)
rising_from n x (y ∷ l) k h = (k, rising_from (suc x) y l (h 0 (omega arith)) (λ i m. h (suc i) (omega arith)))

rising_zero : (l : List ℕ) → ((i : ℕ) → suc i < length l → get_or l i 0 < get_or l (suc i) 0) → RisingFrom 0 l
rising_zero [] h = tt
rising_zero (x ∷ l) h = rising_from 0 x l (omega arith) h

-- a choice, and a list of sellers
module _ (o : Opening) (v : Interval) (c : ℕ) where
  abbrev pub Able : Withheld → Type 0
  Able x = ((x.who < o.portfolios) × (get_or o.sellers x.who (pos 0) ≡ pos 1)) × (pos x.amount ≤ℤ Withholdable o v c x.who)

  abbrev pub chosen : (l : List Withheld) → length l ≤ 3 → EachOnce l → ((x : Withheld) → Memᴰ x l → Able x) → Choice o v c
  chosen l few once each = record {
    count = length l;
    at_most_three = few;
    who = who_at l;
    amount = amount_at l;
    net_seller = λ i k. (each (get_or l i nobody) (mem_at l i k)).0;
    up_to = λ i k. (each (get_or l i nobody) (mem_at l i k)).1;
    distinct = once_at l once;
  }

  module _ (x : Choice o v c) where
    abbrev pub list_of : List Withheld
    list_of = list_from x.count x.who x.amount

    pub list_few : length list_of ≤ 3
    list_few = rw (from_length x.count x.who x.amount) x.at_most_three

    pub list_once : EachOnce list_of
    list_once = from_once x.count x.who x.amount x.distinct

    pub list_each : (y : Withheld) → Memᴰ y list_of → Able y
    list_each y m = let t = from_mem x.count x.who x.amount y m in rw t.2 (x.net_seller t.0 t.1, x.up_to t.0 t.1)

module _ (o : Opening) (v : Interval) where
  pub enters_is : (c : ℕ) → Enters o v c ↔ Entering o v c
  unfolding counterflow_demand counterflow_supply can_withhold effectiveness_on
  enters_is c = (
    (λ h. (h.binding, (chosen o v c h.choice h.few h.once h.each, rw (← sum_at h.choice) h.below))),
    λ h.
        let x = h.1.0 in
        record {
          binding = h.0;
          choice = list_of o v c x;
          few = list_few o v c x;
          once = list_once o v c x;
          each = list_each o v c x;
          below = rw (from_sum x.count x.who x.amount) h.1.1;
        },
  )

  pub component_is : (r : ℕ) (C : ℤ) → Component o v r C ↔ IsComponent o v r C
  unfolding sum_over
  component_is r C = (
    (λ h. (h.constraints, rising_at 0 h.constraints h.once, (λ c. and_so (h.enters c) (within c)), h.sum)),
    λ h. record { constraints = h.0; once = rising_zero h.0 h.1; enters = λ c. and_so (h.2 c) (back c); sum = h.3 },
  )
    where
      within : (c : ℕ) → ((c < v.constraints) × Enters o v c) ↔ ((c < v.constraints) × Entering o v c)
      within c = ((λ x. (x.0, (enters_is c).0 x.1)), λ x. (x.0, (enters_is c).1 x.1))

      back : (c : ℕ) → ((c < v.constraints) × Entering o v c) ↔ ((c < v.constraints) × Enters o v c)
      back c = ((within c).1, (within c).0)

  cap_is : (r q : ℕ) (y : ℤ) → CapIn o v r q y ↔ CapOf o v r q y
  cap_is r q y = (
    (λ h. (h.C, h.price, h.default, (component_is r h.C).0 h.component, h.dispatched, h.above, h.competitive.at_or_above, h.competitive.least, h.default_price_lem, h.cap)),
    λ h. record {
      dispatched = h.4;
      C = h.0;
      component = (component_is r h.0).1 h.3;
      above = h.5;
      price = h.1;
      competitive = record { at_or_above = h.6; least = h.7 };
      default = h.2;
      default_price_lem = h.8;
      cap = h.9;
    },
  )

  no_cap_is : (r : ℕ) → NoCapIn o v r → NoCapOf o v r
  no_cap_is r h = (h.C, (component_is r h.C).0 h.component, h.either)

each_one : (o : Opening) (r q : ℕ) (calls : List Interval) (caps : List ℤ) → OneEach o r q calls caps → EachOne o r q calls caps
each_one o r q [] [] none = refl
each_one o r q [] (y ∷ l) e = elim e [ ]
each_one o r q (v ∷ calls) (y ∷ caps) (one c h) = inl (y, caps, refl, (cap_is o v r q y).0 c, each_one o r q calls caps h)
each_one o r q (v ∷ calls) caps (no_other n h) = inr (no_cap_is o v r n, each_one o r q calls caps h)

many_is : (r : ℕ) (C : Interval → ℤ) (calls : List Interval) → how_many r C calls ≡ many r C calls
unfolding how_many
many_is r C [] = refl
many_is r C (v ∷ calls) = ap (λ (n : ℕ). cond (lt_z (pos 0) (get_or v.dispatch r (pos 0)) && lt_z (pos 0) (C v)) 1 0 + n) (many_is r C calls)

numbers_are : (h : Hour) (calls : List Interval) → answers_from h calls ≡ numbers h calls
unfolding answers_from
numbers_are h [] = refl
numbers_are h (v ∷ calls) = ap (λ (l : List ℕ). hour_refusal h v ∷ l) (numbers_are (hour_after h v) calls)

zeros_are : (calls : List Interval) (l : List ℕ) → returning_zero calls l ≡ with_zero calls l
zeros_are [] l = refl
zeros_are (v ∷ calls) [] = refl
zeros_are (v ∷ calls) (zero ∷ l) = ap (λ (x : List Interval). v ∷ x) (zeros_are calls l)
zeros_are (v ∷ calls) (suc n ∷ l) = zeros_are calls l

counted_is : (x a : ℕ) → counted_by x a ≡ counting x a
counted_is zero a = refl
counted_is (suc x) a = refl

calls_say : (n a : ℕ) → n ≤ 64 → (calls : List Interval) (l : List ℕ) → Answered n a calls l → CallsSay n a calls l
calls_say n a small [] l h = h
calls_say n a small (v ∷ calls) [] h = h
calls_say n a small (v ∷ calls) (x ∷ l) h =
    let e = exactly (call_demands a n v) x h.1 in
    (and_so h.0 (accepted_says a n x v small e), call_says a n x v small e, calls_say n (counting x a) small calls l (subst (λ (b : ℕ). Answered n b calls l) (counted_is x a) h.2))

-- the caps of a curve whose accepted intervals are those of A
module _ (o : Opening) (r : ℕ) {before : ℕ → ℤ} {accepted : List Interval} (A : List Interval) (c : Mitigated) (same : accepted ≡ A) (K : Capped o r before accepted c) where
  pub caps_listed : (q : ℕ) → InBid o r q → (y : ℤ) → Memᴰ y (caps_of o accepted r q) ↔ ((v : Interval) × Memᴰ v A × CapOf o v r q y)
  caps_listed q i y = and_so (K.capping q i y) (
    (λ x. (x.call, rw same at x.listed, (cap_is o x.call r q y).0 x.in_call)),
    λ x. record { call = x.0; listed = rw same x.1; in_call = (cap_is o x.0 r q y).1 x.2 },
  )

  pub caps_say : (q : ℕ) → InBid o r q → CapsSay o r A K.C q (before q) (price_at (used_steps c) q)
  caps_say q i =
      let p = K.is.price q i in
      record {
        caps = caps_of o accepted r q;
        exactly = caps_listed q i;
        one_each = subst (λ (x : List Interval). EachOne o r q x (caps_of o accepted r q)) same (each_one o r q accepted (caps_of o accepted r q) (K.one_each q i));
        number = K.number q ∙ many_is r K.C accepted ∙ ap (many r K.C) same;
        at_most_before = p.at_most_first;
        at_most_each = p.at_most_each;
        one_of_them = p.attained;
      }

  pub components_say : (v : Interval) → Memᴰ v A → IsComponent o v r (K.C v)
  components_say v m = (component_is o v r (K.C v)).0 (K.component v (rw same m))

pub owner_says : (o : Opening) (r : ℕ) {accepted : List Interval} (A : List Interval) (c : Mitigated) → accepted ≡ A → Owned o r accepted c → OwnerSays o r A c
owner_says o r A c same W = record {
  C = W.capped.C;
  component = components_say o r A c same W.capped;
  prices = λ q low high.
      let i : InBid o r q = record { from_start = low; below_end = high } in
      let covers = W.default_covers q i in
      record {
        submitted = submitted_price o r q;
        price = price_at (used_steps c) q;
        default_price_lem = default_price o r q;
        before = (W.quoted q i).before;
        afterwards = W.capped.quoted q i;
        inside = (covers.from_start, covers.below_end, (W.quoted q i).default);
        capped = caps_say o r A c same W.capped q i;
      };
  no_default = W.no_default;
  starts = W.capped.is.starts;
  ends = W.capped.is.ends;
}

module _ (o : Opening) (calls : List Interval) (r : ℕ) (D : Demand3 o calls r) where
  pub accepted_are : accepted_calls o calls ≡ Accepted o calls
  accepted_are = D.accepting ∙ zeros_are calls (answers o calls) ∙ ap (with_zero calls) (numbers_are (opened_hour o) calls)

  pub caps_are : (q : ℕ) → InBid o r q → (y : ℤ) → Memᴰ y (caps o calls r q) ↔ ((v : Interval) × Memᴰ v (Accepted o calls) × CapOf o v r q y)
  caps_are = caps_listed o r (Accepted o calls) (after o calls r) accepted_are D.owned.capped

  pub demand3_says : o.resources ≤ 64 → Demand3Says o calls r
  demand3_says at_most = record {
    owner = owner_says o r (Accepted o calls) (after o calls r) accepted_are D.owned;
    calls_say = rw (← numbers_are (opened_hour o) calls) (calls_say o.resources 0 at_most calls (answers o calls) D.answered);
    counted = rw (← accepted_are) D.counted;
  }

pub demand3 : (o : Opening) (calls : List Interval) (r : ℕ) → opening_refusal o ≡ 0 → r < o.resources → Demand3Says o calls r
demand3 o calls r opened l = demand3_says o calls r (demand_3 o calls r opened l) (few o opened).2
