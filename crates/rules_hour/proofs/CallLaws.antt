-- A list of calls: which of them count, and what they leave of a price.
use Rattle.std.specs.Prelude.{None, Option, Some}
use mathlib.Core.List.{List, [], ◌∷◌}
use mathlib.Core.Path.{◌≡◌, refl, sym, ap, ◌∙◌}
use Prim.Native.Nat.{ℕ, suc, ◌+◌, ◌-◌, ◌≤◌, ◌<◌}
use native.Mathlib.Nat.{zero-add}
use native.Mathlib.Omega.{arith}
use lib.IntN.{ℤ, pos}
use lib.ListN.{length, take}
use lib.Seq.{take-nil}
use Rattle.rules_number.specs.Least.{least}
use Rattle.rules_mitigation.specs.Mitigation.{capped, lowered}
use Rattle.rules_mitigation.proofs.MitigationLaws.{capped_lowered}
use Rattle.rules_interval.specs.Intervals.{interval_refusal}
use Rattle.rules_interval.specs.declared.Interval.{Interval}
use Rattle.rules_hour.specs.Cuts.{cut_of}
use Rattle.rules_hour.specs.Hours.{fresh_standing, floor_in, next_standing, hour_after, hour_after_all}
use Rattle.rules_opening.specs.Openings.{market_of, opening_refusal}
use Rattle.rules_hour.specs.Opened.{fresh_hour}
use Rattle.rules_hour.specs.Demand3.{sound_calls, accepted_calls, with_cap, caps_in, hour_of}
use Rattle.rules_hour.specs.declared.Floor.{Floor}
use Rattle.rules_hour.specs.Hours.{Hour}
use Rattle.rules_opening.specs.declared.Opening.{Opening}
use Rattle.rules_hour.proofs.AcceptedOpening.{opened_hour_lem, fresh_floor}
use Rattle.rules_hour.proofs.KeptLaws.{Call, full, faulty, taken, call, Kept, next_hour, resources_kept, next_floor, next_kept, fresh_kept}

-- ---- the calls that count
-- what is left of the four, of the calls on an hour of n resources that has accepted a
unfoldable pub counting : ℕ → ℕ → List Interval → List Interval
counting n a calls = take (4 - a) (sound_calls n calls)

-- of no call, none counts
pub counting_none : (n a : ℕ) → counting n a [] ≡ []
unfolding counting sound_calls
counting_none n a = take-nil (4 - a)

module _ (n a : ℕ) (v : Interval) (calls : List Interval) where
  -- a call past the four, and one that 13 to 16 refuse, don't count
  pub counting_full : 4 ≤ a → counting n a (v ∷ calls) ≡ counting n a calls
  unfolding counting
  counting_full l = let z : 4 - a ≡ 0 = omega arith in rw z

  pub counting_faulty : (x : ℕ) → interval_refusal n v ≡ suc x → counting n a (v ∷ calls) ≡ counting n a calls
  unfolding counting sound_calls
  counting_faulty x e = rw e

  -- any other does
  pub counting_taken : a < 4 → interval_refusal n v ≡ 0 → counting n a (v ∷ calls) ≡ v ∷ counting n (a + 1) calls
  unfolding counting sound_calls
  counting_taken l e = let z : 4 - a ≡ suc (4 - (a + 1)) = omega arith in rw (e, z)

-- ---- one cut of a price
-- a further cut puts its cap among those that the price is the least of
cut_price : (f k : Option ℤ) (b d : ℤ) (l : List ℤ) → least (capped (lowered f k) b d) l ≡ least (capped f b d) (with_cap k d l)
unfolding least
cut_price f None b d l = refl
cut_price f (Some x) b d l = ap (λ (z : ℤ). least z l) (capped_lowered f x b d)

-- ---- a list of calls, from any hour that the calls on an opening can leave
-- g is h after the calls: a price b on a default price d, and the count
record After (o : Opening) (r : ℕ) (b d : ℤ) (h : Hour) (calls : List Interval) (g : Hour) : Type 0 where
  price : capped (floor_in g r).price b d ≡ least (capped (floor_in h r).price b d) (caps_in (market_of o) r d (counting o.resources h.standing.accepted calls))
  count : g.standing.accepted ≡ h.standing.accepted + length (counting o.resources h.standing.accepted calls)

module _ (o : Opening) (r : ℕ) (l : r < o.resources) (b d : ℤ) where
  -- no call
  none : (h : Hour) → After o r b d h [] h
  unfolding caps_in least
  none h =
      let e = counting_none o.resources h.standing.accepted in
      record { price = ap (λ (x : List Interval). least (capped (floor_in h r).price b d) (caps_in (market_of o) r d x)) (sym e); count = rw e (omega arith) }

  -- a refused call changes nothing
  skipped : (h : Hour) (v : Interval) (calls : List Interval) (g : Hour)
      → counting o.resources h.standing.accepted (v ∷ calls) ≡ counting o.resources h.standing.accepted calls → After o r b d h calls g → After o r b d h (v ∷ calls) g
  skipped h v calls g e a = record {
    price = a.price ∙ ap (λ (x : List Interval). least (capped (floor_in h r).price b d) (caps_in (market_of o) r d x)) (sym e);
    count = a.count ∙ ap (λ (x : List Interval). h.standing.accepted + length x) (sym e);
  }

  -- an accepted one cuts the floor price
  cut : (h : Hour) → Kept o h → (v : Interval) (calls : List Interval) (g : Hour) → h.standing.accepted < 4 → interval_refusal o.resources v ≡ 0
      → After o r b d (next_hour h v) calls g → After o r b d h (v ∷ calls) g
  unfolding caps_in next_standing
  cut h k v calls g f e a =
      let rest : List Interval = counting o.resources (h.standing.accepted + 1) calls in
      let c : counting o.resources h.standing.accepted (v ∷ calls) ≡ v ∷ rest = counting_taken o.resources h.standing.accepted v calls f e in
      record {
        price =
            a.price
            ∙ ap (λ (x : Floor). least (capped x.price b d) (caps_in (market_of o) r d rest)) (next_floor o h k v r l)
            ∙ cut_price (floor_in h r).price (cut_of (market_of o) v r) b d (caps_in (market_of o) r d rest)
            ∙ ap (λ (x : List Interval). least (capped (floor_in h r).price b d) (caps_in (market_of o) r d x)) (sym c);
        count = a.count ∙ rw c (omega arith);
      }

  -- any list
  after : (calls : List Interval) (h : Hour) → Kept o h → After o r b d h calls (hour_after_all h calls)
  unfolding hour_after_all
  after [] h k = none h
  after (v ∷ calls) h k = go (call h v) (λ g x. after calls g x)
    where
      here : {n : ℕ} → interval_refusal h.market.resources v ≡ n → interval_refusal o.resources v ≡ n
      here e = ap (λ (x : ℕ). interval_refusal x v) (sym (resources_kept o h k)) ∙ e

      go : Call h v → ((g : Hour) → Kept o g → After o r b d g calls (hour_after_all g calls)) → After o r b d h (v ∷ calls) (hour_after_all (hour_after h v) calls)
      go (full f y e) ih = rw e (skipped h v calls (hour_after_all h calls) (counting_full o.resources h.standing.accepted v calls f) (ih h k))
      go (faulty x f y e) ih = rw e (skipped h v calls (hour_after_all h calls) (counting_faulty o.resources h.standing.accepted v calls x (here f)) (ih h k))
      go (taken f c y e) ih = rw e (cut h k v calls (hour_after_all (next_hour h v) calls) f (here c) (ih (next_hour h v) (next_kept o h k v)))

-- ---- from the hour that opening returned
module _ (o : Opening) (accepted : opening_refusal o ≡ 0) (calls : List Interval) (r : ℕ) (l : r < o.resources) where
  -- the list, from the fresh hour
  from_fresh : (b d : ℤ) → After o r b d (fresh_hour o) calls (hour_of o calls)
  from_fresh b d = rw (opened_hour_lem o accepted) (after o r l b d calls (fresh_hour o) (fresh_kept o accepted))

  -- the floor price that the list leaves gives the least of a price and the caps
  pub floor_price : (b d : ℤ) → capped (floor_in (hour_of o calls) r).price b d ≡ least b (caps_in (market_of o) r d (accepted_calls o calls))
  unfolding counting fresh_hour fresh_standing
  floor_price b d =
      (from_fresh b d).price ∙ ap (λ (x : Floor). least (capped x.price b d) (caps_in (market_of o) r d (accepted_calls o calls))) (fresh_floor o r l)

  -- the hour counts the accepted calls
  pub hour_count : (hour_of o calls).standing.accepted ≡ length (accepted_calls o calls)
  unfolding counting fresh_hour fresh_standing
  hour_count = (from_fresh (pos 0) (pos 0)).count ∙ zero-add (length (accepted_calls o calls))
