-- One more interval (paper 01, Interval and hour): "If dispatch > 0 and C > 0, each quantity's price becomes the smaller of its present price and its cap,
-- the higher of default price and L. Otherwise it stays." "a refused call leaves it as it was". Assumes nothing.
use Rattle.std.specs.Prelude.{Option}
use mathlib.Core.List.{List, [], ◌∷◌, ◌++◌}
use mathlib.Core.Logic.{◌⊎◌}
use mathlib.Core.Path.{◌≡◌, sym, ap, ◌∙◌}
use Prim.Native.Nat.{ℕ, suc, ◌<◌}
use lib.IntN.{ℤ, pos, ◌+ℤ◌}
use lib.Signed.{◌<ℤ◌, ◌≤ℤ◌}
use Rattle.rules_number.specs.Order.{min_z, max_z}
use Rattle.rules_curve.specs.Curves.{price_at}
use Rattle.rules_mitigation.specs.Mitigation.{capped, lowered, used_steps}
use Rattle.rules_mitigation.proofs.MitigationLaws.{capped_again}
use Rattle.rules_interval.specs.Intervals.{lmp_at, dispatch_at, interval_refusal}
use Rattle.rules_interval.specs.declared.Interval.{Interval}
use Rattle.rules_hour.specs.Cuts.{cut_of}
use Rattle.rules_hour.specs.Hours.{floor_in, hour_refusal}
use Rattle.rules_opening.specs.Openings.{market_of, opening_refusal}
use Rattle.rules_hour.specs.Opened.{opened_hour}
use Rattle.rules_hour.specs.Demand3.{submitted_price, default_price, InBid, Component, Competitive, hour_of, curve_after}
use Rattle.rules_hour.specs.declared.Floor.{Floor}
use Rattle.rules_hour.specs.Hours.{Hour}
use Rattle.rules_opening.specs.declared.Opening.{Opening}
use Rattle.rules_hour.proofs.KeptLaws.{accepted_call, refused_call, one_more, next_floor, hour_kept}
use Rattle.rules_hour.proofs.FourIntervals.{accepted_exactly}
use Rattle.rules_hour.proofs.Caps.{cut_exactly, uncut_exactly}
use Rattle.rules_hour.proofs.CurveShape.{shape}

-- the price of quantity q in the hour after the list
abbrev pub price_after : Opening → List Interval → ℕ → ℕ → ℤ
price_after o calls r q = price_at (used_steps (curve_after o calls r)) q

-- the list with one call more
abbrev pub followed : List Interval → Interval → List Interval
followed calls v = calls ++ (v ∷ [])

pub record IntervalStep (o : Opening) (calls : List Interval) (v : Interval) (r : ℕ) : Type 0 where
  -- an accepted interval cuts each quantity's present price, or leaves it
  pub cuts : hour_refusal (hour_of o calls) v ≡ 0 → (q : ℕ) → InBid o r q
      → price_after o (followed calls v) r q ≡ capped (cut_of (market_of o) v r) (price_after o calls r q) (default_price o r q)
  -- "If dispatch > 0 and C > 0, each quantity's price becomes the smaller of its present price and its cap, the higher of default price and L."
  pub smaller : hour_refusal (hour_of o calls) v ≡ 0 → pos 0 <ℤ dispatch_at v r → (C : ℤ) → Component o v r C → pos 0 <ℤ C
      → (p : ℤ) → Competitive (lmp_at v r) C p → (q : ℕ) → InBid o r q
      → price_after o (followed calls v) r q ≡ min_z (price_after o calls r q) (max_z (default_price o r q) (p +ℤ v.parameter))
  -- "Otherwise it stays."
  pub stays : hour_refusal (hour_of o calls) v ≡ 0 → (C : ℤ) → Component o v r C → (dispatch_at v r ≤ℤ pos 0) ⊎ (C ≤ℤ pos 0)
      → (q : ℕ) → InBid o r q → price_after o (followed calls v) r q ≡ price_after o calls r q
  -- a refused one leaves the hour, and so its curves, as they were
  pub refused : (n : ℕ) → hour_refusal (hour_of o calls) v ≡ suc n → hour_of o (followed calls v) ≡ hour_of o calls

module _ (o : Opening) (calls : List Interval) (v : Interval) (r : ℕ) (accepted : opening_refusal o ≡ 0) (l : r < o.resources) where
  -- the floor price after an accepted interval is the lower of the two
  floor_after : hour_refusal (hour_of o calls) v ≡ 0 → (floor_in (hour_of o (followed calls v)) r).price ≡ lowered (floor_in (hour_of o calls) r).price (cut_of (market_of o) v r)
  floor_after e =
      ap (λ (h : Hour). (floor_in h r).price) (one_more (opened_hour o) calls v ∙ accepted_call (hour_of o calls) v e)
      ∙ ap (λ (x : Floor). x.price) (next_floor o (hour_of o calls) (hour_kept o calls accepted) v r l)

  cut_by : hour_refusal (hour_of o calls) v ≡ 0 → (q : ℕ) → InBid o r q
      → price_after o (followed calls v) r q ≡ capped (cut_of (market_of o) v r) (price_after o calls r q) (default_price o r q)
  cut_by e q i =
      let after = (shape o r accepted l (followed calls v)).is.price q i.from_start i.below_end in
      let before = (shape o r accepted l calls).is.price q i.from_start i.below_end in
      after
      ∙ ap (λ (k : Option ℤ). capped k (submitted_price o r q) (default_price o r q)) (floor_after e)
      ∙ capped_again (floor_in (hour_of o calls) r).price (cut_of (market_of o) v r) (submitted_price o r q) (default_price o r q)
      ∙ ap (λ (x : ℤ). capped (cut_of (market_of o) v r) x (default_price o r q)) (sym before)

  -- none of 13 to 16 applies to it
  sound : hour_refusal (hour_of o calls) v ≡ 0 → interval_refusal o.resources v ≡ 0
  sound e = ((accepted_exactly o calls accepted v).0 e).1

  pub interval_by_interval : IntervalStep o calls v r
  interval_by_interval = record {
    cuts = cut_by;
    smaller = λ e d C h a p k q i.
        cut_by e q i ∙ ap (λ (x : Option ℤ). capped x (price_after o calls r q) (default_price o r q)) (cut_exactly o accepted v (sound e) r C h d a p k);
    stays = λ e C h a q i. cut_by e q i ∙ ap (λ (x : Option ℤ). capped x (price_after o calls r q) (default_price o r q)) (uncut_exactly o accepted v (sound e) r C h a);
    refused = λ n e. one_more (opened_hour o) calls v ∙ refused_call (hour_of o calls) v n e;
  }
