-- Why, in demand 3's words: a resource's mark is 1 exactly when it is dispatched and its component is above 0; the component, the competitive price and the floor price are
-- those that its cap is made of. Assumes nothing.
use Rattle.std.specs.Prelude.{None, Option, Some}
use mathlib.Core.Bool.{Bool, true, false, cond, ◌&&◌}
use mathlib.Core.List.{List, flat_map}
use mathlib.Core.Logic.{◌⊎◌, inl, inr, ⊎_elim, ◌↔◌}
use mathlib.Core.Path.{◌≡◌, refl, sym, ap, subst, ◌∙◌}
use Prim.Native.Nat.{ℕ, ◌+◌, ◌*◌, ◌≤◌, ◌<◌}
use native.Mathlib.Omega.{arith}
use borrow.Author.Tests.{leb-true, lt-ltb, le-ltb}
use lib.IntN.{ℤ, pos, ◌+ℤ◌}
use lib.ListN.{length, get_or, replicate, get_or-replicate}
use lib.Seq.{sets}
use lib.Signed.{lt_z, ◌<ℤ◌, ◌≤ℤ◌}
use Rattle.rules_number.specs.Over.{listed}
use Rattle.rules_number.proofs.OverLaws.{both, tested, listed_at, listed_length}
use Rattle.rules_number.proofs.TestLaws.{above_exactly, not_above_exactly}
use Rattle.rules_interval.specs.Intervals.{lmp_at, dispatch_at, interval_refusal}
use Rattle.rules_interval.specs.declared.Interval.{Interval}
use Rattle.rules_path.specs.declared.Market.{Market}
use Rattle.rules_opening.specs.Openings.{opening_refusal, market_of}
use Rattle.rules_opening.specs.declared.Opening.{Opening}
use Rattle.rules_hour.specs.Cuts.{component, competitive_price, cut_of}
use Rattle.rules_hour.specs.Demand3.{Component, Competitive}
use Rattle.rules_hour.proofs.Caps.{price_is, component_is, cut_exactly, uncut_exactly}
use Rattle.rules_hour.proofs.AcceptedOpening.{few}
use Rattle.rules_library.specs.Slices.{cell_at}
use Rattle.rules_state.specs.Layout.{most_resources, cause_width, cause_room, state_room}
use Rattle.rules_state.specs.States.{mark_of, price_of, market_in}
use Rattle.rules_state.specs.Causes.{cause_of, is_there, cause_at, causes_cells}
use Rattle.rules_state.specs.Calls.{holds, why_answer, causes_after}
use Rattle.rules_state.proofs.StandLaws.{Stands, stands_stored, stands_each, each_listed, flat_length}
use Rattle.rules_state.proofs.CallStates.{answer_zero}

-- ---- the four numbers of a resource, in demand 3's words
pub record Cause (o : Opening) (v : Interval) (r : ℕ) (mark C price floor : ℤ) : Type 0 where
  -- "in which the resource was dispatched and its non-competitive congestion component was above zero"
  pub cut : (mark ≡ pos 1) ↔ ((pos 0 <ℤ dispatch_at v r) × (pos 0 <ℤ C))
  pub uncut : (mark ≡ pos 0) ↔ ((dispatch_at v r ≤ℤ pos 0) ⊎ (C ≤ℤ pos 0))
  pub component : Component o v r C
  pub competitive : Competitive (lmp_at v r) C price
  -- the floor price of its cap: "the resource's competitive price in that interval plus the parameter"
  pub floored : mark ≡ pos 1 → floor ≡ price +ℤ v.parameter
  pub no_floor : mark ≡ pos 0 → floor ≡ pos 0

differ : {X : Type 0} → pos 0 ≡ pos 1 → X
differ e = absurd (let z : ◌≡◌ {A = ℕ} 0 1 = cc in omega arith)

module _ (o : Opening) (accepted : opening_refusal o ≡ 0) (v : Interval) (sound : interval_refusal o.resources v ≡ 0) (r : ℕ) where
  abbrev C : ℤ
  C = component (market_of o) v r

  abbrev price : ℤ
  price = competitive_price (lmp_at v r) C

  abbrev cut : Option ℤ
  cut = cut_of (market_of o) v r

  cutting : ((pos 0 <ℤ dispatch_at v r) × (pos 0 <ℤ C)) ⊎ ((dispatch_at v r ≤ℤ pos 0) ⊎ (C ≤ℤ pos 0))
  cutting = go (tested (lt_z (pos 0) (dispatch_at v r))) (tested (lt_z (pos 0) C))
    where
      go : (lt_z (pos 0) (dispatch_at v r) ≡ true) ⊎ (lt_z (pos 0) (dispatch_at v r) ≡ false) → (lt_z (pos 0) C ≡ true) ⊎ (lt_z (pos 0) C ≡ false)
          → ((pos 0 <ℤ dispatch_at v r) × (pos 0 <ℤ C)) ⊎ ((dispatch_at v r ≤ℤ pos 0) ⊎ (C ≤ℤ pos 0))
      go (inl e) (inl f) = inl ((above_exactly (dispatch_at v r)).0 e, (above_exactly C).0 f)
      go (inl e) (inr f) = inr (inr ((not_above_exactly C).0 f))
      go (inr e) f = inr (inl ((not_above_exactly (dispatch_at v r)).0 e))

  cut_is : (pos 0 <ℤ dispatch_at v r) × (pos 0 <ℤ C) → cut ≡ Some (price +ℤ v.parameter)
  cut_is h = cut_exactly o accepted v sound r C (component_is o accepted v sound r) h.0 h.1 price (price_is (lmp_at v r) C)

  uncut_is : (dispatch_at v r ≤ℤ pos 0) ⊎ (C ≤ℤ pos 0) → cut ≡ None
  uncut_is h = uncut_exactly o accepted v sound r C (component_is o accepted v sound r) h

  -- the numbers of resource r
  pub cause_exactly : Cause o v r (mark_of cut) C price (price_of cut)
  cause_exactly = record {
    cut = ((λ e. ⊎_elim (λ h. h) (λ h. differ (sym (ap mark_of (uncut_is h)) ∙ e)) cutting), λ h. ap mark_of (cut_is h));
    uncut = ((λ e. ⊎_elim (λ h. differ (sym e ∙ ap mark_of (cut_is h))) (λ h. h) cutting), λ h. ap mark_of (uncut_is h));
    component = component_is o accepted v sound r;
    competitive = price_is (lmp_at v r) C;
    floored = λ e. ⊎_elim (λ h. ap price_of (cut_is h)) (λ h. differ (sym (ap mark_of (uncut_is h)) ∙ e)) cutting;
    no_floor = λ e. ⊎_elim (λ h. differ (sym e ∙ ap mark_of (cut_is h))) (λ h. ap price_of (uncut_is h)) cutting;
  }

-- ---- where they stand
either_long : (t : Bool) (a b : List ℤ) (n : ℕ) → length a ≡ n → length b ≡ n → length (cond t a b) ≡ n
either_long true a b n e f = e
either_long false a b n e f = f

cause_room_lem : (m : Market) (v : Interval) (r : ℕ) → length (cause_at m v r) ≡ cause_width
unfolding cause_at cause_of
cause_room_lem m v r = either_long (is_there m r) (cause_of m v r) (replicate cause_width (pos 0)) cause_width refl refl

module _ (s causes : List ℤ) (v : Interval) (zero-answer : why_answer s causes v ≡ pos 0) where
  why_zero : (cause_room ≤ length causes) × (interval_refusal (market_in s).resources v ≡ 0)
  unfolding why_answer
  why_zero =
      let z = answer_zero (holds state_room s && holds cause_room causes) (interval_refusal (market_in s).resources v) zero-answer in
      (leb-true cause_room (length causes) (both (holds state_room s) (holds cause_room causes) z.0).1, z.1)

  -- four of each resource, at 4 r
  pub causes_stand : (r : ℕ) → r < most_resources → Stands (causes_after s causes v) (cause_width * r) (cause_at (market_in s) v r)
  unfolding causes_after causes_cells
  causes_stand r h =
      let m = market_in s in
      let all = listed (λ i. i) most_resources in
      let each = each_listed (λ i. length (cause_at m v i) ≡ cause_width) (λ i. i) most_resources (λ i l. cause_room_lem m v i) in
      let n : length (flat_map (cause_at m v) all) ≡ cause_room = flat_length (cause_at m v) cause_width all each ∙ ap (λ (k : ℕ). cause_width * k) (listed_length (λ i. i) most_resources) in
      let t = stands_each (cause_at m v) cause_width 0 (sets causes 0 (flat_map (cause_at m v) all)) all 0 each
      (stands_stored causes 0 (flat_map (cause_at m v) all) (omega (arith, why_zero.0))) r (omega (arith, listed_length (λ (i : ℕ). i) most_resources)) in
      let at : get_or all r 0 ≡ r = listed_at (λ i. i) 0 most_resources r h in
      let from : 0 + cause_width * r ≡ cause_width * r = omega arith in
      rw zero-answer (rw (from, at) at t)

-- Why, of a state whose hour has the opening's market: "four numbers a resource", and zeros past the resources.
module _ (o : Opening) (accepted : opening_refusal o ≡ 0) (s causes : List ℤ) (owned : market_in s ≡ market_of o) (v : Interval) (zero-answer : why_answer s causes v ≡ pos 0) where
  abbrev told : ℕ → ℕ → ℤ
  told r k = cell_at (causes_after s causes v) (cause_width * r + k)

  sound_why : interval_refusal o.resources v ≡ 0
  unfolding market_of
  sound_why = ap (λ (m : Market). interval_refusal m.resources v) (sym owned) ∙ (why_zero s causes v zero-answer).1

  stand_here : (r : ℕ) → r < most_resources → Stands (causes_after s causes v) (cause_width * r) (cause_at (market_of o) v r)
  stand_here r h = subst (λ (m : Market). Stands (causes_after s causes v) (cause_width * r) (cause_at m v r)) owned (causes_stand s causes v zero-answer r h)

  pub why_past : (r k : ℕ) → o.resources ≤ r → r < most_resources → k < cause_width → told r k ≡ pos 0
  unfolding cause_at market_of
  why_past r k l h i =
      let t = stand_here r h k (omega (arith, cause_room_lem (market_of o) v r)) in
      t ∙ rw (le-ltb r o.resources l) (get_or-replicate cause_width k (pos 0) (pos 0) i)

  own_cause : (r : ℕ) → r < o.resources → cause_at (market_of o) v r ≡ cause_of (market_of o) v r
  unfolding cause_at market_of
  own_cause r l = rw (lt-ltb r o.resources l)

  own_stand : (r : ℕ) → r < o.resources → Stands (causes_after s causes v) (cause_width * r) (cause_of (market_of o) v r)
  own_stand r l = subst (Stands (causes_after s causes v) (cause_width * r)) (own_cause r l) (stand_here r (omega (arith, (few o accepted).2)))

  pub why_exactly : (r : ℕ) → r < o.resources → Cause o v r (told r 0) (told r 1) (told r 2) (told r 3)
  unfolding cause_of
  why_exactly r l =
      let t = own_stand r l in
      rw (t 0 (omega arith), t 1 (omega arith), t 2 (omega arith), t 3 (omega arith)) (cause_exactly o accepted v sound_why r)
