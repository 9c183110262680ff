-- The bid for the hour is the lowest of the four intervals' curves and, while cuts carry on, the fourth (paper 02, 2.2). Assumes nothing.
use Rattle.std.specs.Prelude.{None, Option, Some}
use mathlib.Core.List.Memᴰ
use mathlib.Core.List.{List, [], ◌∷◌, ◌++◌, append_assoc, append-nil, Memᴰ}
use mathlib.Core.Logic.{◌↔◌, inr, ⊎_elim}
use mathlib.Core.Path.{◌≡◌, refl, sym, ap, subst, ◌∙◌}
use Prim.Native.Nat.{ℕ, zero, suc, ◌+◌, ◌≤◌, ◌<◌}
use native.Mathlib.Omega.{arith}
use borrow.Author.Tests.{le-leb, lt-leb, leb-true}
use lib.Dec.{leb}
use lib.IntN.{ℤ}
use lib.ListN.{length, get_or}
use lib.Signed.{◌≤ℤ◌, ≤ℤ_refl}
use Rattle.rules_number.specs.Least.{IsLeast}
use Rattle.rules_number.specs.Order.{max_z}
use Rattle.rules_number.proofs.Kit.{≤ℤ_trans}
use Rattle.rules_number.proofs.LeastLaws.{least_only}
use Rattle.rules_number.proofs.OrderLaws.{min_le_left}
use Rattle.rules_number.proofs.OverLaws.{le_or_lt}
use Rattle.rules_curve.specs.Curves.{price_at}
use Rattle.rules_curve.specs.declared.Step.{Step}
use Rattle.rules_curve.proofs.CheckLaws.{unless_holds}
use Rattle.rules_mitigation.specs.Mitigation.{capped, most_mitigated_steps, blank_mitigated, used_steps}
use Rattle.rules_interval.specs.declared.Interval.{Interval}
use Rattle.rules_opening.specs.Openings.{market_of, opening_refusal}
use Rattle.rules_opening.specs.declared.Opening.{Opening}
use Rattle.rules_hour.specs.Hours.{Hour, fresh_standing, row_at, floor_in, row_curve, curve_in, hour_refusal}
use Rattle.rules_hour.specs.Opened.{fresh_hour}
use Rattle.rules_hour.specs.Cuts.{cut_of}
use Rattle.rules_hour.specs.Demand3.{default_price, InBid, OverBid}
use Rattle.rules_hour.proofs.AcceptedOpening.{opened_hour_lem, few}
use Rattle.rules_hour.proofs.CurveShape.{Shape, kept_shape}
use Rattle.rules_hour.proofs.FourIntervals.{at_most_four}
use Rattle.rules_hour.proofs.Owners.{steps_only}
use Rattle.rules_pass.specs.Passes.{RealTimeHour, opened_real_time}
use Rattle.rules_pass.specs.Calls.{Request, interval, pass, after_all, hour_of, intervals_in, accepted_intervals}
use Rattle.rules_pass.specs.FiveMinute.{curve_after, price_after}
use Rattle.rules_pass.proofs.Demand3.{hour_alone, demand_3}
use Rattle.rules_pass.proofs.PassLaws.{one_more, refused_interval}
use Rattle.rules_pass.proofs.PassStep.{hour_stays}
use Rattle.rules_pass.proofs.ProgressLaws.{counts, hour_agrees}
use Rattle.rules_hour.proofs.IntervalStep as base
use Rattle.rules_hour_bid.specs.HourBids.{hour_bid_refusal, hour_bid_in, mitigated_unless, hour_bid_of}
use Rattle.rules_hour_bid.specs.Meaning.{joining, prefixes_from, accepted_prefixes, Lowest, IsHourBid}

-- ---- one call more
-- an interval stands at the end of the interval calls too
intervals_followed : (calls : List Request) (v : Interval) → intervals_in (calls ++ (interval v ∷ [])) ≡ intervals_in calls ++ (v ∷ [])
unfolding intervals_in
intervals_followed [] v = refl
intervals_followed (interval u ∷ calls) v = ap (λ (l : List Interval). u ∷ l) (intervals_followed calls v)
intervals_followed (pass u ∷ calls) v = intervals_followed calls v

-- a refused interval leaves the hour
refused_stays : (o : Opening) (calls : List Request) (v : Interval) (n : ℕ) → hour_refusal (hour_of o calls).hour v ≡ suc n → hour_of o (calls ++ (interval v ∷ [])) ≡ hour_of o calls
refused_stays o calls v n e = one_more (opened_real_time o) calls (interval v) ∙ refused_interval (hour_of o calls) v n e

-- an accepted one counts
accepted_counts : (o : Opening) (calls : List Request) (v : Interval) → hour_refusal (hour_of o calls).hour v ≡ 0
    → (hour_of o (calls ++ (interval v ∷ []))).hour.standing.accepted ≡ (hour_of o calls).hour.standing.accepted + 1
accepted_counts o calls v e = ap (λ (h : RealTimeHour). h.hour.standing.accepted) (one_more (opened_real_time o) calls (interval v)) ∙ counts (hour_of o calls) v e

capped_below : (k : Option ℤ) (b d : ℤ) → capped k b d ≤ℤ b
capped_below None b d = ≤ℤ_refl b
capped_below (Some l) b d = min_le_left b (max_z d l)

module _ (o : Opening) (accepted : opening_refusal o ≡ 0) (r : ℕ) (l : r < o.resources) (q : ℕ) (i : InBid o r q) where
  -- the price after a list is that after its interval calls
  price_alone : (calls : List Request) → price_after o calls r q ≡ base.price_after o (intervals_in calls) r q
  price_alone calls = ap (λ (h : Hour). price_at (used_steps (curve_in h r)) q) (hour_alone o calls)

  -- an accepted interval never raises an hourly price
  pub later_never_higher : (calls : List Request) (v : Interval) → hour_refusal (hour_of o calls).hour v ≡ 0 → price_after o (calls ++ (interval v ∷ [])) r q ≤ℤ price_after o calls r q
  later_never_higher calls v e =
      let alone = subst (λ (h : Hour). hour_refusal h v ≡ 0) (hour_alone o calls) e in
      let cut = (base.interval_by_interval o (intervals_in calls) v r accepted l).cuts alone q i in
      let next : price_after o (calls ++ (interval v ∷ [])) r q ≡ base.price_after o (intervals_in calls ++ (v ∷ [])) r q
      = price_alone (calls ++ (interval v ∷ [])) ∙ ap (λ (x : List Interval). base.price_after o x r q) (intervals_followed calls v) in
      rw (next, cut, price_alone calls) (capped_below (cut_of (market_of o) v r) (base.price_after o (intervals_in calls) r q) (default_price o r q))

-- ---- the accepted intervals of a list
-- the last of some lists of calls, the one given where there is none
abbrev last : List Request → List (List Request) → List Request
last c [] = c
last c (x ∷ l) = last x l

-- each is at most the one before it
Falls : (List Request → ℤ) → List Request → List (List Request) → Type 0
Falls price c [] = Unit {0}
Falls price c (x ∷ l) = (price x ≤ℤ price c) × Falls price x l

-- what a list of calls after others does: the hour is as its last accepted interval left it, each accepted one counts, and a price falls with each
record Along (o : Opening) (r : ℕ) (before whole : List Request) (ps : List (List Request)) : Type 0 where
  hour : (hour_of o whole).hour ≡ (hour_of o (last before ps)).hour
  count : (hour_of o whole).hour.standing.accepted ≡ (hour_of o before).hour.standing.accepted + length ps
  falls : (q : ℕ) → InBid o r q → Falls (λ c. price_after o c r q) before ps

module _ (o : Opening) (accepted : opening_refusal o ≡ 0) (r : ℕ) (l : r < o.resources) where
  -- the same, where the call after `before` leaves the hour
  stays : (before next whole : List Request) (ps : List (List Request)) → (hour_of o next).hour ≡ (hour_of o before).hour → Along o r next whole ps → Along o r before whole ps
  unfolding Falls
  stays before next whole [] e a = record { hour = a.hour ∙ e; count = a.count ∙ ap (λ (h : Hour). h.standing.accepted + 0) e; falls = λ q i. tt }
  stays before next whole (x ∷ ps) e a = record {
    hour = a.hour;
    count = a.count ∙ ap (λ (h : Hour). h.standing.accepted + length (x ∷ ps)) e;
    falls = λ q i. let f = a.falls q i in (subst (λ (h : Hour). price_after o x r q ≤ℤ price_at (used_steps (curve_in h r)) q) e f.0, f.1);
  }

  -- and where it is an accepted interval
  joins : (before : List Request) (v : Interval) (whole : List Request) (ps : List (List Request)) → hour_refusal (hour_of o before).hour v ≡ 0
      → Along o r (before ++ (interval v ∷ [])) whole ps → Along o r before whole ((before ++ (interval v ∷ [])) ∷ ps)
  unfolding Falls
  joins before v whole ps e a = record {
    hour = a.hour;
    count = a.count ∙ ap (λ (n : ℕ). n + length ps) (accepted_counts o before v e) ∙ (let z : (hour_of o before).hour.standing.accepted + 1 + length ps ≡ (hour_of o before).hour.standing.accepted + suc (length ps) = omega arith in z);
    falls = λ q i. (later_never_higher o accepted r l q i before v e, a.falls q i);
  }

  along_by : (before : List Request) (v : Interval) (whole : List Request) (ps : List (List Request)) (n : ℕ) → hour_refusal (hour_of o before).hour v ≡ n
      → Along o r (before ++ (interval v ∷ [])) whole ps → Along o r before whole (joining n (before ++ (interval v ∷ [])) ps)
  along_by before v whole ps zero e a = joins before v whole ps e a
  along_by before v whole ps (suc n) e a = stays before (before ++ (interval v ∷ [])) whole ps (ap (λ (h : RealTimeHour). h.hour) (refused_stays o before v n e)) a

  along : (calls before : List Request) → Along o r before (before ++ calls) (prefixes_from o before calls)
  unfolding prefixes_from Falls
  along [] before = rw (append-nil before) (record { hour = refl; count = omega arith; falls = λ q i. tt })
  along (interval v ∷ calls) before =
      let next = before ++ (interval v ∷ []) in
      let rest = subst (λ (x : List Request). Along o r next x (prefixes_from o next calls)) (append_assoc before (interval v ∷ []) calls) (along calls next) in
      along_by before v (before ++ (interval v ∷ calls)) (prefixes_from o next calls) (hour_refusal (hour_of o before).hour v) refl rest
  along (pass v ∷ calls) before =
      let next = before ++ (pass v ∷ []) in
      let rest = subst (λ (x : List Request). Along o r next x (prefixes_from o next calls)) (append_assoc before (pass v ∷ []) calls) (along calls next) in
      stays before next (before ++ (pass v ∷ calls)) (prefixes_from o next calls) (hour_stays o before v) rest

-- ---- the number of any hour
module _ (h : RealTimeHour) where
  pub full_hour : 4 ≤ h.hour.standing.accepted → hour_bid_refusal h ≡ 0
  unfolding hour_bid_refusal
  full_hour l = rw (le-leb 4 h.hour.standing.accepted l)

  pub open_hour : h.hour.standing.accepted < 4 → hour_bid_refusal h ≡ 20
  unfolding hour_bid_refusal
  open_hour l = rw (lt-leb 4 h.hour.standing.accepted l)

  full_count : hour_bid_refusal h ≡ 0 → 4 ≤ h.hour.standing.accepted
  unfolding hour_bid_refusal
  full_count e = leb-true 4 h.hour.standing.accepted (unless_holds (leb 4 h.hour.standing.accepted) 19 e)

-- ---- from the hour that opening returned
-- equal lists of four have equal members
lists_same : {a b c d w x y z : List Request} → ◌≡◌ {A = List (List Request)} (a ∷ b ∷ c ∷ d ∷ []) (w ∷ x ∷ y ∷ z ∷ []) → (a ≡ w) × (b ≡ x) × (c ≡ y) × (d ≡ z)
lists_same e = (
  ap (λ (l : List (List Request)). get_or l 0 []) e,
  ap (λ (l : List (List Request)). get_or l 1 []) e,
  ap (λ (l : List (List Request)). get_or l 2 []) e,
  ap (λ (l : List (List Request)). get_or l 3 []) e,
)

-- four lists
four_of_lem : (ps : List (List Request)) → length ps ≡ 4
    → (a : List Request) × (b : List Request) × (c : List Request) × (d : List Request) × (ps ≡ a ∷ b ∷ c ∷ d ∷ [])
four_of_lem [] e = absurd (omega arith)
four_of_lem (a ∷ []) e = absurd (omega arith)
four_of_lem (a ∷ b ∷ []) e = absurd (omega arith)
four_of_lem (a ∷ b ∷ c ∷ []) e = absurd (omega arith)
four_of_lem (a ∷ b ∷ c ∷ d ∷ []) e = (a, b, c, d, refl)
four_of_lem (a ∷ b ∷ c ∷ d ∷ x ∷ ps) e = absurd (omega arith)

-- a chain that falls has its last as the least
chain_least : (w x y z : ℤ) → x ≤ℤ w → y ≤ℤ x → z ≤ℤ y → IsLeast w (x ∷ y ∷ z ∷ []) z
chain_least w x y z a b c = record {
  at_most_first = ≤ℤ_trans (≤ℤ_trans c b) a;
  at_most_each = λ t m.
      ⊎_elim (λ e. rw e (≤ℤ_trans c b))
      (λ n. ⊎_elim (λ e. rw e c) (λ k. ⊎_elim (λ e. rw e (≤ℤ_refl z)) (λ j. absurd (Memᴰ.not-nil j)) (Memᴰ.cases_cons k)) (Memᴰ.cases_cons n)) (Memᴰ.cases_cons m);
  attained = inr (Memᴰ.tail (Memᴰ.tail (Memᴰ.head refl)));
}

module _ (o : Opening) (accepted : opening_refusal o ≡ 0) (calls : List Request) where
  -- the hour counts the accepted intervals
  hour_counts : (hour_of o calls).hour.standing.accepted ≡ length (accepted_intervals o calls)
  hour_counts = (demand_3 o calls 0 accepted (few o accepted).1).counted

  from_opening : (r : ℕ) → r < o.resources → Along o r [] calls (accepted_prefixes o calls)
  from_opening r l = along o accepted r l calls []

  -- there are as many prefixes as accepted intervals
  pub as_many : length (accepted_prefixes o calls) ≡ length (accepted_intervals o calls)
  unfolding opened_real_time after_all fresh_hour fresh_standing
  as_many =
      let fresh : (hour_of o []).hour.standing.accepted ≡ 0 = ap (λ (h : Hour). h.standing.accepted) (opened_hour_lem o accepted) in
      omega (arith, (from_opening 0 (few o accepted).1).count, fresh, hour_counts)

  -- ---- 20
  -- "20, fewer than four intervals accepted, the only check"
  pub twenty_exactly : (hour_bid_refusal (hour_of o calls) ≡ 20) ↔ (length (accepted_intervals o calls) < 4)
  twenty_exactly = (
    (λ e. ⊎_elim (λ l. absurd (let z : ◌≡◌ {A = ℕ} 0 20 = sym (full l) ∙ e in omega arith)) (λ l. l) (le_or_lt 4 (length (accepted_intervals o calls)))),
    short,
  )
    where
      full : 4 ≤ length (accepted_intervals o calls) → hour_bid_refusal (hour_of o calls) ≡ 0
      full l = full_hour (hour_of o calls) (omega (arith, hour_counts))

      short : length (accepted_intervals o calls) < 4 → hour_bid_refusal (hour_of o calls) ≡ 20
      short l = open_hour (hour_of o calls) (omega (arith, hour_counts))

  -- else it is 0
  pub zero_exactly : (hour_bid_refusal (hour_of o calls) ≡ 0) ↔ (length (accepted_intervals o calls) ≡ 4)
  zero_exactly = (
    (λ e. let l = full_count (hour_of o calls) e in omega (arith, l, hour_counts, at_most_four o (intervals_in calls))),
    λ e. full_hour (hour_of o calls) (omega (arith, hour_counts)),
  )

  module _ (r : ℕ) (l : r < o.resources) (full : hour_bid_refusal (hour_of o calls) ≡ 0) where
    -- the four lists that end with an accepted interval
    prefixes : (a : List Request) × (b : List Request) × (c : List Request) × (d : List Request) × (accepted_prefixes o calls ≡ a ∷ b ∷ c ∷ d ∷ [])
    prefixes = four_of_lem (accepted_prefixes o calls) (as_many ∙ zero_exactly.0 full)

    -- the hour is as the fourth left it
    fourth_hour : (hour_of o calls).hour ≡ (hour_of o prefixes.3).hour
    fourth_hour = subst (λ (ps : List (List Request)). (hour_of o calls).hour ≡ (hour_of o (last [] ps)).hour) prefixes.4 (from_opening r l).hour

    lowest_price : (q : ℕ) → InBid o r q → Lowest o r prefixes.0 prefixes.1 prefixes.2 prefixes.3 q (price_after o calls r q)
    unfolding Falls
    lowest_price q i =
        let f : Falls (λ c. price_after o c r q) [] (prefixes.0 ∷ prefixes.1 ∷ prefixes.2 ∷ prefixes.3 ∷ [])
        = subst (Falls (λ c. price_after o c r q) []) prefixes.4 ((from_opening r l).falls q i) in
        rw (ap (λ (h : Hour). price_at (used_steps (curve_in h r)) q) fourth_hour)
        (chain_least (price_after o prefixes.0 r q) (price_after o prefixes.1 r q) (price_after o prefixes.2 r q) (price_after o prefixes.3 r q) f.1.0 f.1.1.0 f.1.1.1.0)

    own : Shape o r (floor_in (hour_of o calls).hour r).price (curve_in (hour_of o calls).hour r)
    own = kept_shape o r accepted l (hour_of o calls).hour (hour_agrees o accepted calls).kept

    -- "It takes, at each quantity, the lowest of the four intervals' curves (34.1.5.3), neighbours with one price merged."
    pub hour_bid : IsHourBid o calls r (hour_bid_in (hour_of o calls) r).start (used_steps (hour_bid_in (hour_of o calls) r))
    unfolding hour_bid_in curve_in
    hour_bid = record {
      first = prefixes.0;
      second = prefixes.1;
      third = prefixes.2;
      fourth = prefixes.3;
      four = prefixes.4;
      lowest = record { price = lowest_price; starts = own.is.starts; ends = own.is.ends; rising = own.is.rising; apart = own.is.apart };
    }

    -- no other curve is that
    pub hour_bid_only : (p : ℕ) (k : List Step) → IsHourBid o calls r p k → (p ≡ (hour_bid_in (hour_of o calls) r).start) × (k ≡ used_steps (hour_bid_in (hour_of o calls) r))
    hour_bid_only p k h =
        let mine = hour_bid in
        let same = lists_same (sym h.four ∙ mine.four) in
        steps_only (λ q x y. least_only)
        (subst (λ (t : List Request). OverBid o r (Lowest o r mine.first mine.second mine.third t) p k) same.3
        (subst (λ (t : List Request). OverBid o r (Lowest o r mine.first mine.second t h.fourth) p k) same.2
        (subst (λ (t : List Request). OverBid o r (Lowest o r mine.first t h.third h.fourth) p k) same.1
        (subst (λ (t : List Request). OverBid o r (Lowest o r t h.second h.third h.fourth) p k) same.0 h.lowest))))
        mine.lowest

    -- "Users also want it shown that, while cuts carry on, this is the fourth curve."
    pub fourth_curve : (first second third fourth : List Request) → accepted_prefixes o calls ≡ first ∷ second ∷ third ∷ fourth ∷ [] → hour_bid_in (hour_of o calls) r ≡ curve_after o fourth r
    unfolding hour_bid_in curve_in
    fourth_curve first second third fourth four =
        ap (λ (h : Hour). row_curve (row_at h r) (floor_in h r))
        (subst (λ (ps : List (List Request)). (hour_of o calls).hour ≡ (hour_of o (last [] ps)).hour) four (from_opening r l).hour)

    -- "Room of 19 steps must be enough", 20 since a default curve may have 11.
    pub hour_bid_twenty : (hour_bid_in (hour_of o calls) r).count ≤ most_mitigated_steps
    unfolding hour_bid_in curve_in
    hour_bid_twenty = own.twenty

-- "A refusal returns its number alone"
pub refused_bid : (h : RealTimeHour) (r n : ℕ) → hour_bid_refusal h ≡ suc n → hour_bid_of h r ≡ blank_mitigated
unfolding hour_bid_of
refused_bid h r n e = ap (λ (x : ℕ). mitigated_unless x (hour_bid_in h r)) e

pub given_bid : (h : RealTimeHour) (r : ℕ) → hour_bid_refusal h ≡ 0 → hour_bid_of h r ≡ hour_bid_in h r
unfolding hour_bid_of
given_bid h r e = ap (λ (x : ℕ). mitigated_unless x (hour_bid_in h r)) e
