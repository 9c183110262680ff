-- The caps of a quantity are those that the user's words give: the component, the competitive price and the cut, each by its property.
use Rattle.std.specs.Prelude.{Option, Some, None}
use mathlib.Core.Bool.{Bool, true, false, ◌&&◌, cond}
use mathlib.Core.List.Memᴰ
use mathlib.Core.List.{List, [], ◌∷◌, Memᴰ}
use mathlib.Core.Logic.{◌⊎◌, inl, inr, ⊎_elim, ◌↔◌}
use mathlib.Core.Path.{◌≡◌, refl, sym, ap, ap₂, ◌∙◌}
use Prim.Native.Nat.{ℕ, ◌+◌, ◌<◌}
use native.Mathlib.Omega.{arith}
use lib.Dec.{lit<}
use lib.IntN.{ℤ, pos, neg_ℤ, ◌+ℤ◌, ◌-ℤ◌, ◌*ℤ◌}
use lib.ListN.{length}
use lib.Signed.{lt_z, ◌<ℤ◌, ◌≤ℤ◌}
use Rattle.rules_number.specs.Order.{max_z}
use Rattle.rules_number.specs.Over.{sum_over}
use Rattle.rules_number.proofs.CeilSize.{ceil_ge, ceil_lt}
use Rattle.rules_number.proofs.CeilLaws.{ceil_unique}
use Rattle.rules_number.proofs.OverLaws.{tested, those_iff}
use Rattle.rules_number.proofs.TestLaws.{above_exactly, not_above_exactly}
use Rattle.rules_interval.specs.Intervals.{shadow_at, lmp_at, dispatch_at, factor_at, interval_refusal}
use Rattle.rules_interval.specs.declared.Interval.{Interval}
use Rattle.rules_path.specs.Paths.{is_non_competitive}
use Rattle.rules_path.specs.Judgements.{path_in}
use Rattle.rules_path.specs.declared.Market.{Market}
use Rattle.rules_path.proofs.PathLaws.{non_competitive}
use Rattle.rules_opening.specs.Openings.{market_of, opening_refusal}
use Rattle.rules_opening.specs.declared.Opening.{Opening}
use Rattle.rules_hour.specs.Cuts.{entering, component, competitive_price, cut_from, cut_of}
use Rattle.rules_hour.specs.Demand3.{with_cap, caps_in, default_of, default_price, quote_in, caps_of, RisingFrom, Enters, Component, Competitive, CapIn, Cap, OneEach, none, one, no_other, how_many}
use Rattle.rules_hour.proofs.RisingLaws.{those_rising, rising_only}
use Rattle.rules_hour.proofs.Counterflow.{enters_exactly}
use Rattle.rules_hour.proofs.MarketLaws.{market_non_competitive}

-- ---- the competitive price
-- rounding up gives the competitive price
pub price_is : (lmp C : ℤ) → Competitive lmp C (competitive_price lmp C)
price_is lmp C = record {
  at_or_above = ceil_ge (lmp *ℤ pos 1000000 -ℤ C) 1000000 (lit< tt);
  least = ceil_lt (lmp *ℤ pos 1000000 -ℤ C) 1000000 (lit< tt);
}

-- and nothing else is it
pub price_only : (lmp C p : ℤ) → Competitive lmp C p → p ≡ competitive_price lmp C
price_only lmp C p h = ceil_unique (lmp *ℤ pos 1000000 -ℤ C) p 1000000 (lit< tt) h.at_or_above h.least

-- ---- the component
-- the constraints that enter rise
entering_rising : (m : Market) (v : Interval) → RisingFrom 0 (entering m v)
unfolding entering
entering_rising m v = those_rising (λ c. is_non_competitive (path_in m v c)) v.constraints

-- of a call to which none of 13 to 16 applies, on an accepted opening
module _ (o : Opening) (accepted : opening_refusal o ≡ 0) (v : Interval) (sound : interval_refusal o.resources v ≡ 0) where
  -- a constraint enters exactly when demand 3 says that it does
  pub entering_exactly : (c : ℕ) → Memᴰ c (entering (market_of o) v) ↔ ((c < v.constraints) × Enters o v c)
  unfolding entering
  entering_exactly c =
      let i = those_iff (λ x. is_non_competitive (path_in (market_of o) v x)) v.constraints c in
      let n = non_competitive (path_in (market_of o) v c) in
      let m = market_non_competitive o v c accepted in
      let e = enters_exactly o accepted v sound c in
      ((λ x. let y = i.0 x in (y.0, e.1 (m.1 (n.0 y.1)))), λ x. i.1 (x.0, n.1 (m.0 (e.0 x.1))))

  module _ (r : ℕ) where
    -- minus the sum over the constraints that enter is the component
    pub component_is : Component o v r (component (market_of o) v r)
    unfolding component
    component_is = record {
      constraints = entering (market_of o) v;
      once = entering_rising (market_of o) v;
      enters = entering_exactly;
      sum = refl;
    }

    -- and nothing else is it
    pub component_only : (C : ℤ) → Component o v r C → C ≡ component (market_of o) v r
    unfolding component
    component_only C h =
        h.sum
        ∙ ap (λ (l : List ℕ). neg_ℤ (sum_over (λ c. factor_at v r c *ℤ shadow_at v c) l))
        (rising_only 0 h.constraints (entering (market_of o) v) h.once (entering_rising (market_of o) v)
        (λ c m. (entering_exactly c).1 ((h.enters c).0 m)) (λ c m. (h.enters c).1 ((entering_exactly c).0 m)))

-- ---- the cut
module _ (m : Market) (v : Interval) (r : ℕ) where
  -- a cut by its two tests
  by_tests : {s t : Bool} → lt_z (pos 0) (dispatch_at v r) ≡ s → lt_z (pos 0) (component m v r) ≡ t
      → cut_of m v r ≡ cond (s && t) (Some (competitive_price (lmp_at v r) (component m v r) +ℤ v.parameter)) None
  unfolding cut_of cut_from
  by_tests = ap₂ (λ (s t : Bool). cond (s && t) (Some (competitive_price (lmp_at v r) (component m v r) +ℤ v.parameter)) None)

  -- a resource that is dispatched with a component above 0 is cut at its floor price
  cut_is : pos 0 <ℤ dispatch_at v r → pos 0 <ℤ component m v r → cut_of m v r ≡ Some (competitive_price (lmp_at v r) (component m v r) +ℤ v.parameter)
  cut_is e f = by_tests ((above_exactly (dispatch_at v r)).1 e) ((above_exactly (component m v r)).1 f)

  -- and no other is
  no_cut : (dispatch_at v r ≤ℤ pos 0) ⊎ (component m v r ≤ℤ pos 0) → cut_of m v r ≡ None
  no_cut (inl e) = by_tests ((not_above_exactly (dispatch_at v r)).1 e) refl
  no_cut (inr e) =
      ⊎_elim (λ d. by_tests d ((not_above_exactly (component m v r)).1 e)) (λ d. by_tests d refl) (tested (lt_z (pos 0) (dispatch_at v r)))

  -- the two ways of a cut
  data Cutting : Type 0 where
    cuts : pos 0 <ℤ dispatch_at v r → pos 0 <ℤ component m v r → Cutting
    stays : (dispatch_at v r ≤ℤ pos 0) ⊎ (component m v r ≤ℤ pos 0) → Cutting

  -- every cut goes one of them
  cutting : Cutting
  cutting = go (tested (lt_z (pos 0) (dispatch_at v r))) (tested (lt_z (pos 0) (component m v r)))
    where
      go : (lt_z (pos 0) (dispatch_at v r) ≡ true) ⊎ (lt_z (pos 0) (dispatch_at v r) ≡ false)
          → (lt_z (pos 0) (component m v r) ≡ true) ⊎ (lt_z (pos 0) (component m v r) ≡ false) → Cutting
      go (inl e) (inl f) = cuts ((above_exactly (dispatch_at v r)).0 e) ((above_exactly (component m v r)).0 f)
      go (inl e) (inr f) = stays (inr ((not_above_exactly (component m v r)).0 f))
      go (inr e) f = stays (inl ((not_above_exactly (dispatch_at v r)).0 e))

-- the cut where C is a component by its property
module _ (o : Opening) (accepted : opening_refusal o ≡ 0) (v : Interval) (sound : interval_refusal o.resources v ≡ 0) (r : ℕ) (C : ℤ) (h : Component o v r C) where
  -- dispatched, and C above 0
  pub cut_exactly : pos 0 <ℤ dispatch_at v r → pos 0 <ℤ C → (p : ℤ) → Competitive (lmp_at v r) C p → cut_of (market_of o) v r ≡ Some (p +ℤ v.parameter)
  cut_exactly e f p k =
      let c = component_only o accepted v sound r C h in
      cut_is (market_of o) v r e (rw c at f)
      ∙ ap (λ (x : ℤ). Some (x +ℤ v.parameter)) (sym (price_only (lmp_at v r) C p k ∙ ap (competitive_price (lmp_at v r)) c))

  -- not dispatched, or C not above 0
  pub uncut_exactly : (dispatch_at v r ≤ℤ pos 0) ⊎ (C ≤ℤ pos 0) → cut_of (market_of o) v r ≡ None
  uncut_exactly e = no_cut (market_of o) v r (rw (component_only o accepted v sound r C h) at e)

-- ---- the caps
-- a quantity has one default price
same_price : {x : (Option ℤ)} {d e : ℤ} → x ≡ Some d → x ≡ Some e → d ≡ e
same_price p q = cc

module _ (o : Opening) (accepted : opening_refusal o ≡ 0) (r q : ℕ) (d : ℤ) (default : quote_in (default_of o r) q ≡ Some d) where
  -- each of the calls is one that none of 13 to 16 refuses
  abbrev AllSound : List Interval → Type 0
  AllSound calls = (v : Interval) → Memᴰ v calls → interval_refusal o.resources v ≡ 0

  -- a call's cap, or none
  cap_is : (v : Interval) → interval_refusal o.resources v ≡ 0 → pos 0 <ℤ dispatch_at v r → pos 0 <ℤ component (market_of o) v r
      → CapIn o v r q (max_z d (competitive_price (lmp_at v r) (component (market_of o) v r) +ℤ v.parameter))
  cap_is v s e f = record {
    dispatched = e;
    C = component (market_of o) v r;
    component = component_is o accepted v s r;
    above = f;
    price = competitive_price (lmp_at v r) (component (market_of o) v r);
    competitive = price_is (lmp_at v r) (component (market_of o) v r);
    default = d;
    default_price_lem = default;
    cap = refl;
  }

  -- the caps are one for each call that has one, and no other
  one_for_each : (calls : List Interval) → AllSound calls → OneEach o r q calls (caps_in (market_of o) r d calls)
  unfolding caps_in
  one_for_each [] sound = none
  one_for_each (v ∷ calls) sound = go (cutting (market_of o) v r) (one_for_each calls (λ u m. sound u (Memᴰ.tail m)))
    where
      here : interval_refusal o.resources v ≡ 0
      here = sound v (Memᴰ.head refl)

      go : Cutting (market_of o) v r → OneEach o r q calls (caps_in (market_of o) r d calls)
          → OneEach o r q (v ∷ calls) (with_cap (cut_of (market_of o) v r) d (caps_in (market_of o) r d calls))
      go (cuts e f) rest = rw (cut_is (market_of o) v r e f) (one (cap_is v here e f) rest)
      go (stays e) rest =
          rw (no_cut (market_of o) v r e) (no_other (record { C = component (market_of o) v r; component = component_is o accepted v here r; either = e }) rest)

  -- and nothing else is: order and number are those of the calls
  one_for_each_only : {calls : List Interval} {l : List ℤ} → OneEach o r q calls l → AllSound calls → l ≡ caps_in (market_of o) r d calls
  unfolding caps_in
  one_for_each_only none sound = refl
  one_for_each_only (one {v = v} {y = y} {calls = calls} {l = l} c rest) sound =
      let cut = cut_exactly o accepted v (sound v (Memᴰ.head refl)) r c.C c.component c.dispatched c.above c.price c.competitive in
      rw cut (ap₂ (λ (x : ℤ) (k : List ℤ). x ∷ k) (c.cap ∙ ap (λ (x : ℤ). max_z x (c.price +ℤ v.parameter)) (same_price c.default_price_lem default))
      (one_for_each_only rest (λ u m. sound u (Memᴰ.tail m))))
  one_for_each_only (no_other {v = v} n rest) sound =
      rw (uncut_exactly o accepted v (sound v (Memᴰ.head refl)) r n.C n.component n.either) (one_for_each_only rest (λ u m. sound u (Memᴰ.tail m)))

module _ (o : Opening) (r q : ℕ) (y : ℤ) where
  -- what holds of the calls after one holds of them all
  later : (v : Interval) (calls : List Interval) → Cap o calls r q y → Cap o (v ∷ calls) r q y
  later v calls a = record { call = a.call; listed = Memᴰ.tail a.listed; in_call = a.in_call }

  -- each cap is one of a call
  among : {calls : List Interval} {l : List ℤ} → OneEach o r q calls l → Memᴰ y l → Cap o calls r q y
  among none m = absurd (Memᴰ.not-nil m)
  among (one {v = v} {calls = calls} c rest) m =
      ⊎_elim (λ e. record { call = v; listed = Memᴰ.head refl; in_call = rw e c }) (λ k. later v calls (among rest k)) (Memᴰ.cases_cons m)
  among (no_other {v = v} {calls = calls} n rest) m = later v calls (among rest m)

-- each call that cuts has its cap, behind any others
module _ (m : Market) (r : ℕ) (d l : ℤ) where
  behind : (k : Option ℤ) (rest : List ℤ) → Memᴰ (max_z d l) rest → Memᴰ (max_z d l) (with_cap k d rest)
  behind None rest h = h
  behind (Some x) rest h = Memᴰ.tail h

  caps_each : (calls : List Interval) (v : Interval) → Memᴰ v calls → cut_of m v r ≡ Some l → Memᴰ (max_z d l) (caps_in m r d calls)
  unfolding caps_in
  caps_each [] v h e = absurd (Memᴰ.not-nil h)
  caps_each (w ∷ calls) v h e =
      ⊎_elim (λ x. rw (← x, e) (Memᴰ.head refl)) (λ k. behind (cut_of m w r) (caps_in m r d calls) (caps_each calls v k e)) (Memᴰ.cases_cons h)

-- ---- how many there are
count_one : (t : Bool) (x d : ℤ) (l : List ℤ) → length (with_cap (cond t (Some x) None) d l) ≡ cond t 1 0 + length l
count_one true x d l = omega arith
count_one false x d l = omega arith

count_caps : (m : Market) (r : ℕ) (d : ℤ) (calls : List Interval) → length (caps_in m r d calls) ≡ how_many r (λ v. component m v r) calls
unfolding caps_in how_many cut_of cut_from
count_caps m r d [] = refl
count_caps m r d (v ∷ calls) =
    let t = lt_z (pos 0) (dispatch_at v r) && lt_z (pos 0) (component m v r) in
    count_one t _ d (caps_in m r d calls) ∙ ap (λ (n : ℕ). cond t 1 0 + n) (count_caps m r d calls)

-- ---- the caps of a quantity in accepted calls, to each of which none of 13 to 16 applies
module _ (o : Opening) (accepted : opening_refusal o ≡ 0) (calls : List Interval) (sound : (v : Interval) → Memᴰ v calls → interval_refusal o.resources v ≡ 0) (r : ℕ) where
  -- the component in each of them
  pub components : (v : Interval) → Memᴰ v calls → Component o v r (component (market_of o) v r)
  components v m = component_is o accepted v (sound v m) r

  module _ (q : ℕ) where
    -- There are as many caps as calls in which the resource is dispatched and its component above 0.
    pub caps_number : length (caps_of o calls r q) ≡ how_many r (λ v. component (market_of o) v r) calls
    caps_number = count_caps (market_of o) r (default_price o r q) calls

    module _ (default : quote_in (default_of o r) q ≡ Some (default_price o r q)) where
      -- One for each such call, and no other.
      pub caps_one_each : OneEach o r q calls (caps_of o calls r q)
      caps_one_each = one_for_each o accepted r q (default_price o r q) default calls sound

      -- No other list is that.
      pub caps_only : (l : List ℤ) → OneEach o r q calls l → l ≡ caps_of o calls r q
      caps_only l h = one_for_each_only o accepted r q (default_price o r q) default h sound

      -- The caps are exactly those of the user's words.
      pub capping_exactly : (y : ℤ) → Memᴰ y (caps_of o calls r q) ↔ Cap o calls r q y
      capping_exactly y = (
        among o r q y caps_one_each,
        λ a.
            let c = a.in_call in
            let s = sound a.call a.listed in
            let price = c.cap ∙ ap (λ (x : ℤ). max_z x (c.price +ℤ a.call.parameter)) (same_price c.default_price_lem default) in
            rw price
            (caps_each (market_of o) r (default_price o r q) (c.price +ℤ a.call.parameter) calls a.call a.listed
            (cut_exactly o accepted a.call s r c.C c.component c.dispatched c.above c.price c.competitive)),
      )
