-- The verdicts that an interval call hands back, on the opening's own numbers (paper 01, Path verdict). Assumes nothing.
use mathlib.Core.Bool.{true, false}
use mathlib.Core.List.{List, Memᴰ}
use mathlib.Core.Logic.{◌↔◌, ◌⊎◌, inl, inr}
use mathlib.Core.Path.{◌≡◌, sym, ap, ◌∙◌}
use Prim.Native.Nat.{ℕ, suc, ◌-◌, ◌≤◌, ◌<◌}
use native.Mathlib.Omega.{arith}
use lib.IntN.{ℤ, pos, ◌-ℤ◌}
use lib.ListN.{length, get_or, replicate}
use lib.Signed.{◌≤ℤ◌, ◌<ℤ◌}
use Rattle.rules_number.proofs.OverLaws.{tested}
use Rattle.rules_number.proofs.CellLaws.{cell_listed}
use Rattle.rules_number.proofs.Kit.{lit, sub, eq_by, le_by}
use Rattle.rules_number.proofs.ExactLaws.{iff_then}
use Rattle.rules_number.proofs.TestLaws.{above_exactly}
use Rattle.rules_interval.specs.Intervals.{shadow_at, interval_refusal}
use Rattle.rules_interval.specs.declared.Interval.{Interval}
use Rattle.rules_path.specs.Paths.{Path, binds, at, demand, supply, total, named, left, Possible, Withheld}
use Rattle.rules_path.specs.Verdicts.{verdict_of, not_binding, bit}
use Rattle.rules_path.specs.Judgements.{path_in, verdicts_of, verdicts_unless}
use Rattle.rules_path.specs.declared.Finding.TheVariants as finding
use Rattle.rules_path.specs.declared.Market.{Market}
use Rattle.rules_path.specs.declared.Verdict.{Verdict}
use Rattle.rules_path.proofs.BitLaws.{bit_zero}
use Rattle.rules_path.proofs.PathVerdict.{non_competitive_exactly, not_binding_exactly, least_left, named_can_withhold, withheld_within_supply, withheld_of_named, withheld_of_others}
use Rattle.rules_opening.specs.Openings.{seller_at, opening_refusal, market_of}
use Rattle.rules_opening.specs.declared.Opening.{Opening}
use Rattle.rules_hour.specs.Hours.{call_verdicts, hour_refusal, hour_verdicts}
use Rattle.rules_hour.specs.Demand3.{counterflow_demand, counterflow_supply, can_withhold, IsNetSeller, EachOnce, withheld_by, Enters, hour_of, path_from}
use Rattle.rules_hour.proofs.KeptLaws.{hour_kept}
use Rattle.rules_hour.proofs.FourIntervals.{accepted_exactly}
use Rattle.rules_hour.proofs.Counterflow.{one_exactly, demand_is, supply_is, can_withhold_is, withheld_is, possible_is, once_of, each_of, enters_exactly}
use Rattle.rules_hour.proofs.MarketLaws.{same_verdict_numbers}

module _ (o : Opening) (calls : List Interval) (v : Interval) (accepted : opening_refusal o ≡ 0) where
  -- a refusal returns its number alone: no verdicts
  pub refused_judges_nothing : (n : ℕ) → hour_refusal (hour_of o calls) v ≡ suc n → hour_verdicts (hour_of o calls) v ≡ replicate 32 not_binding
  unfolding call_verdicts
  refused_judges_nothing n e = ap (λ (x : ℕ). verdicts_unless x (verdicts_of (hour_of o calls).market v)) e

  -- the verdict on each constraint in the opening's market is that on its own numbers
  pub market_judges : (m : Market) → m ≡ market_of o → (c : ℕ) → c < v.constraints → get_or (verdicts_of m v) c not_binding ≡ verdict_of (path_from o v c)
  unfolding verdicts_of
  market_judges m e c l =
      cell_listed 32 not_binding not_binding (λ i. verdict_of (path_in m v i)) v.constraints c l
      ∙ ap (λ (x : Market). verdict_of (path_in x v c)) e
      ∙ sym (same_verdict_numbers o v c accepted).verdict

  -- an accepted call has one on each of its constraints
  pub accepted_judges : hour_refusal (hour_of o calls) v ≡ 0 → (c : ℕ) → c < v.constraints → get_or (hour_verdicts (hour_of o calls) v) c not_binding ≡ verdict_of (path_from o v c)
  unfolding call_verdicts
  accepted_judges e c l =
      ap (λ (x : ℕ). get_or (verdicts_unless x (verdicts_of (hour_of o calls).market v)) c not_binding) e ∙ market_judges (hour_of o calls).market (hour_kept o calls accepted).market c l

-- x is what some choice of at most three net sellers leaves of supply, and no other choice leaves less
pub record LeastLeft (o : Opening) (v : Interval) (c : ℕ) (x : ℤ) : Type 0 where
  pub choice : List Withheld
  pub few : length choice ≤ 3
  pub once : EachOnce choice
  pub each : (y : Withheld) → Memᴰ y choice → IsNetSeller o y.who × (pos y.amount ≤ℤ can_withhold o v c y.who)
  pub exactly : x ≡ counterflow_supply o v c -ℤ withheld_by choice
  pub none_less : (l : List Withheld) → length l ≤ 3 → EachOnce l
      → ((y : Withheld) → Memᴰ y l → IsNetSeller o y.who × (pos y.amount ≤ℤ can_withhold o v c y.who)) → x ≤ℤ (counterflow_supply o v c -ℤ withheld_by l)

-- what a verdict x on constraint c says, in the opening's and the interval's own sums
pub record Judged (o : Opening) (v : Interval) (c : ℕ) (x : Verdict) : Type 0 where
  -- "A constraint binds exactly when its shadow price is above 0."
  pub not_binding_lem : (x.finding ≡ finding.NotBinding) ↔ (shadow_at v c ≤ℤ pos 0)
  -- "it binds and some set of at most three net sellers, each withholding a whole amount up to that, leaves supply less withheld below demand"
  pub non_competitive : (x.finding ≡ finding.NonCompetitive) ↔ Enters o v c
  pub demand : pos 0 <ℤ shadow_at v c → pos x.demand ≡ counterflow_demand o v c
  -- "left", supply less the three largest such amounts
  pub left : pos 0 <ℤ shadow_at v c → LeastLeft o v c (pos x.left)
  -- what is withheld by a seller named is all that it can, and of any other portfolio it is 0
  pub withheld : (p : ℕ) → p < 16 → bit p x.named ≡ 1 → IsNetSeller o p × (pos (at x.withheld p) ≡ can_withhold o v c p)
  pub others : (p : ℕ) → p < 16 → bit p x.named ≡ 0 → at x.withheld p ≡ 0

module _ (o : Opening) (accepted : opening_refusal o ≡ 0) (v : Interval) (sound : interval_refusal o.resources v ≡ 0) (c : ℕ) where
  abbrev d : Path
  d = path_from o v c

  below_supply : (l : List Withheld) → Possible d l → pos (supply d - total l) ≡ (counterflow_supply o v c -ℤ withheld_by l)
  below_supply l h =
      rw (supply_is o accepted v sound c, withheld_is l)
      (eq_by (lit (supply d - total l)) (sub (lit (supply d)) (lit (total l))) (omega (arith, withheld_within_supply d l h)))

  -- the verdict where the constraint binds
  binding_verdict : pos 0 <ℤ shadow_at v c → ((verdict_of d).demand ≡ demand d) × ((verdict_of d).left ≡ left d)
  unfolding verdict_of
  binding_verdict h = let b = (above_exactly (shadow_at v c)).1 h in (rw b, rw b)

  least : LeastLeft o v c (pos (left d))
  least =
      let x = least_left d in
      record {
        choice = x.choice;
        few = x.few;
        once = once_of o accepted v sound c x.choice x.possible;
        each = each_of o accepted v sound c x.choice x.possible;
        exactly = ap pos x.exactly ∙ below_supply x.choice x.possible;
        none_less = λ l few once each.
            let p = possible_is o accepted v sound c l once each in
            rw (← below_supply l p) (le_by (lit (left d)) (lit (supply d - total l)) (omega (arith, x.none_less l few p)));
      }

  -- a seller named is one of the three
  named_there : (p : ℕ) → bit p (verdict_of d).named ≡ 1 → bit p (named d) ≡ 1
  unfolding verdict_of
  named_there p b = go (tested (binds d))
    where
      go : (binds d ≡ true) ⊎ (binds d ≡ false) → bit p (named d) ≡ 1
      go (inl e) = rw e at b
      go (inr e) = let z : bit p 0 ≡ 1 = rw e at b in absurd (omega (arith, bit_zero p))

  -- The verdict on a constraint says so.
  pub verdict_judged : Judged o v c (verdict_of d)
  verdict_judged = record {
    not_binding_lem = not_binding_exactly d;
    non_competitive = let e = enters_exactly o accepted v sound c in iff_then (non_competitive_exactly d) e.1 e.0;
    demand = λ h. ap pos (binding_verdict h).0 ∙ sym (demand_is o accepted v sound c);
    left = λ h. rw (binding_verdict h).1 least;
    withheld = λ p l b.
        let s = (named_can_withhold d p (named_there p b)).0 in
        ((s.0, (one_exactly (seller_at o p)).1 s.1), ap pos (withheld_of_named d p l b) ∙ sym (can_withhold_is o accepted v sound c p));
    others = withheld_of_others d;
  }

-- So do the verdicts that an accepted call hands back.
pub accepted_judged : (o : Opening) → opening_refusal o ≡ 0 → (calls : List Interval) (v : Interval) → hour_refusal (hour_of o calls) v ≡ 0 → (c : ℕ) → c < v.constraints
    → Judged o v c (get_or (hour_verdicts (hour_of o calls) v) c not_binding)
accepted_judged o accepted calls v e c l =
    rw (accepted_judges o calls v accepted e c l) (verdict_judged o accepted v ((accepted_exactly o calls accepted v).0 e).1 c)
