-- What a call does to an hour, and what every call keeps: the market, and the bid and default curve of each resource.
use mathlib.Core.Bool.{Bool}
use mathlib.Core.List.{List, [], ◌∷◌, ◌++◌}
use mathlib.Core.Logic.{⊎_elim}
use mathlib.Core.Path.{◌≡◌, refl, sym, ap, ap₂, ◌∙◌}
use Prim.Native.Nat.{ℕ, zero, suc, ◌≤◌, ◌<◌}
use native.Mathlib.Nat.{zero-add, le_trans, le_of_eq}
use borrow.Author.Tests.{lt-ltb, le-ltb}
use lib.Dec.{ltb}
use lib.ListN.{length, get_or}
use Rattle.rules_number.proofs.OverLaws.{le_or_lt, up_to_in, up_to_length}
use Rattle.rules_curve.specs.Refusals.{unless, ◌then◌}
use Rattle.rules_curve.specs.declared.Curve.{Curve}
use Rattle.rules_mitigation.specs.Mitigation.{mitigated}
use Rattle.rules_interval.specs.Intervals.{interval_refusal}
use Rattle.rules_interval.specs.declared.Interval.{Interval}
use Rattle.rules_path.specs.declared.Market.{Market}
use Rattle.rules_hour.specs.Cuts.{cut_of}
use Rattle.rules_hour.specs.Hours.{uncut, row_at, floor_in, curve_in, cut_floor, cut_floors, next_standing, call_refusal, standing_unless, standing_after, standing_at, hour_refusal, hour_after, hour_after_all}
use Rattle.rules_opening.specs.Openings.{market_of, opening_refusal}
use Rattle.rules_hour.specs.Opened.{fresh_hour, opened_hour}
use Rattle.rules_hour.specs.Demand3.{submitted, default_of, hour_of}
use Rattle.rules_opening.specs.declared.Row.{Row}
use Rattle.rules_hour.specs.Hours.{Hour}
use Rattle.rules_hour.specs.declared.Floor.{Floor}
use Rattle.rules_opening.specs.declared.Opening.{Opening}
use Rattle.rules_hour.proofs.AcceptedOpening.{opened_hour_lem, fresh_row, fresh_room}
use Rattle.rules_opening.specs.Resources.{row_of}

-- ---- floor prices
-- those of the resources that there are, each cut, and as many as before
module _ (m : Market) (v : Interval) (floors : List Floor) where
  pub floor_cut : (r : ℕ) → r < m.resources → r < length floors → get_or (cut_floors m v floors) r uncut ≡ cut_floor (cut_of m v r) (get_or floors r uncut)
  floor_cut r l k =
      up_to_in (λ i x. cut_floor (cut_of m v i) x) uncut 0 m.resources floors r l k ∙ ap (λ (i : ℕ). cut_floor (cut_of m v i) (get_or floors r uncut)) (zero-add r)

  pub floors_many : length (cut_floors m v floors) ≡ length floors
  floors_many = up_to_length (λ i x. cut_floor (cut_of m v i) x) uncut 0 m.resources floors

-- ---- one call
-- the hour after an interval that it accepts
abbrev pub next_hour : Hour → Interval → Hour
next_hour h v = standing_at h (next_standing h.market h.standing v)

-- an accepted call gives the next hour, and a refused one leaves the hour as it was
module _ (h : Hour) (v : Interval) where
  pub accepted_call : hour_refusal h v ≡ 0 → hour_after h v ≡ next_hour h v
  unfolding hour_after standing_after
  accepted_call e = ap (λ (n : ℕ). standing_at h (standing_unless n (next_standing h.market h.standing v) h.standing)) e

  pub refused_call : (n : ℕ) → hour_refusal h v ≡ suc n → hour_after h v ≡ h
  unfolding hour_after standing_after
  refused_call n e = ap (λ (m : ℕ). standing_at h (standing_unless m (next_standing h.market h.standing v) h.standing)) e

  -- the three ways of a call: 12, 13 to 16, or accepted
  pub data Call : Type 0 where
    full : 4 ≤ h.standing.accepted → hour_refusal h v ≡ 12 → hour_after h v ≡ h → Call
    faulty : (n : ℕ) → interval_refusal h.market.resources v ≡ suc n → hour_refusal h v ≡ suc n → hour_after h v ≡ h → Call
    taken : h.standing.accepted < 4 → interval_refusal h.market.resources v ≡ 0 → hour_refusal h v ≡ 0 → hour_after h v ≡ next_hour h v → Call

  -- a call's number by its two tests
  by_tests : {t : Bool} {n : ℕ} → ltb h.standing.accepted 4 ≡ t → interval_refusal h.market.resources v ≡ n → hour_refusal h v ≡ (unless t 12 then n)
  unfolding call_refusal
  by_tests = ap₂ (λ (t : Bool) (n : ℕ). unless t 12 then n)

  -- every call goes one of them
  pub call : Call
  call =
      ⊎_elim (λ l. let r = by_tests (le-ltb h.standing.accepted 4 l) refl in full l r (refused_call 11 r)) (λ l. go l (interval_refusal h.market.resources v) refl)
      (le_or_lt 4 h.standing.accepted)
    where
      go : h.standing.accepted < 4 → (n : ℕ) → interval_refusal h.market.resources v ≡ n → Call
      go l zero e = let r = by_tests (lt-ltb h.standing.accepted 4 l) e in taken l e r (accepted_call r)
      go l (suc n) e = let r = by_tests (lt-ltb h.standing.accepted 4 l) e in faulty n e r (refused_call n r)

-- the hour after a list and one more call
pub one_more : (h : Hour) (calls : List Interval) (v : Interval) → hour_after_all h (calls ++ (v ∷ [])) ≡ hour_after (hour_after_all h calls) v
unfolding hour_after_all
one_more h [] v = refl
one_more h (u ∷ calls) v = one_more (hour_after h u) calls v

-- ---- what every call keeps
-- the opening's market, the submitted bid and the default curve of each resource, and a floor price for each
pub record Kept (o : Opening) (h : Hour) : Type 0 where
  pub market : h.market ≡ market_of o
  pub room : o.resources ≤ length h.standing.floors
  pub bid : (r : ℕ) → r < o.resources → (row_at h r).bid ≡ submitted o r
  pub default : (r : ℕ) → r < o.resources → (row_at h r).default ≡ default_of o r

module _ (o : Opening) (h : Hour) (k : Kept o h) where
  -- the hour has the opening's resources
  pub resources_kept : h.market.resources ≡ o.resources
  unfolding market_of
  resources_kept = ap (λ (m : Market). m.resources) k.market

  -- an accepted call cuts each floor price
  pub next_floor : (v : Interval) (r : ℕ) → r < o.resources → floor_in (next_hour h v) r ≡ cut_floor (cut_of (market_of o) v r) (floor_in h r)
  unfolding next_standing
  next_floor v r l =
      floor_cut h.market v h.standing.floors r (le_trans l (le_of_eq (sym resources_kept))) (le_trans l k.room)
      ∙ ap (λ (m : Market). cut_floor (cut_of m v r) (floor_in h r)) k.market

  -- and keeps the rest
  pub next_kept : (v : Interval) → Kept o (next_hour h v)
  unfolding next_standing
  next_kept v = record {
    market = k.market;
    room = le_trans k.room (le_of_eq (sym (floors_many h.market v h.standing.floors)));
    bid = k.bid;
    default = k.default;
  }

  -- so does any call
  pub call_kept : (v : Interval) → Kept o (hour_after h v)
  call_kept v = go (call h v)
    where
      go : Call h v → Kept o (hour_after h v)
      go (full f x e) = rw e k
      go (faulty n f x e) = rw e k
      go (taken f g x e) = rw e (next_kept v)

  -- a row's curve, from the submitted bid and the default curve
  pub kept_curve : (r : ℕ) → r < o.resources → curve_in h r ≡ mitigated (floor_in h r).price (submitted o r) (default_of o r)
  unfolding curve_in
  kept_curve r l = ap₂ (λ (x y : Curve). mitigated (floor_in h r).price x y) (k.bid r l) (k.default r l)

-- any list of calls keeps it
pub list_kept : (o : Opening) (calls : List Interval) (h : Hour) → Kept o h → Kept o (hour_after_all h calls)
unfolding hour_after_all
list_kept o [] h k = k
list_kept o (v ∷ calls) h k = list_kept o calls (hour_after h v) (call_kept o h k v)

-- the fresh hour has it
pub fresh_kept : (o : Opening) → opening_refusal o ≡ 0 → Kept o (fresh_hour o)
unfolding fresh_hour row_of
fresh_kept o accepted = record {
  market = refl;
  room = fresh_room o accepted;
  bid = λ r l. ap (λ (x : Row). x.bid) (fresh_row o r l);
  default = λ r l. ap (λ (x : Row). x.default) (fresh_row o r l);
}

-- so has the hour after any list, from the hour that opening returned
pub hour_kept : (o : Opening) (calls : List Interval) → opening_refusal o ≡ 0 → Kept o (hour_of o calls)
hour_kept o calls accepted = list_kept o calls (opened_hour o) (rw (opened_hour_lem o accepted) (fresh_kept o accepted))
