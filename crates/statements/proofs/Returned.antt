-- Demand 3 and what the requests add, of what the calls return: of hours and answers that are known by the promises of `Hour::open`, `interval`, `pass`, `curve`, `five_minute` and
-- `hour_bid` alone. How an hour is held need not be believed: `held` is any reading of it for which the promises hold. Assumes nothing.
use mathlib.Core.List.{List, [], ◌∷◌}
use mathlib.Core.Logic.{◌↔◌}
use mathlib.Core.Path.{◌≡◌, refl, sym, ap, ◌∙◌}
use Prim.Native.Nat.{ℕ, ◌+◌, ◌*◌}
use native.Mathlib.Omega.{arith}
use lib.IntN.{ℤ, pos}
use lib.ListN.{get_or}
use lib.Signed.{◌≤ℤ◌, ◌<ℤ◌}
use Rattle.rules_number.proofs.ExactLaws.{le_z_exactly, lt_z_exactly}
use Rattle.rules_number.proofs.Kit.{le_not_lt}
use Rattle.rules_interval.specs.Intervals.{interval_refusal}
use Rattle.rules_interval.specs.declared.Interval.{Interval}
use Rattle.rules_path.specs.Verdicts.{finding_number, verdict_of}
use Rattle.rules_path.specs.declared.Finding.{Finding}
use Rattle.rules_path.specs.declared.Finding.TheVariants as finding
use Rattle.rules_path.specs.declared.Verdict.{Verdict}
use Rattle.rules_opening.specs.Openings.{opening_refusal, no_resource}
use Rattle.rules_opening.specs.declared.Opening.{Opening}
use Rattle.rules_hour.specs.Hours.{hour_refusal, hour_verdicts}
use Rattle.rules_hour.specs.Demand3.{path_from}
use Rattle.rules_hour.proofs.VerdictNumbers.{verdict_judged}
use Rattle.rules_pass.specs.Passes.{RealTimeHour, interval_after, pass_refusal, pass_after, pass_verdicts}
use Rattle.rules_pass.specs.Calls.{Request, interval, pass}
use Rattle.statements.proofs.Paths.{VerdictSays, finding_says}
use Rattle.statements.proofs.Paths.{verdict_says as path-says}
use Rattle.statements.proofs.Plain.{Whole}
use Rattle.statements.proofs.Hours.{JudgedSays, verdict_says}
use Rattle.statements.proofs.Demand3.{Entering}

-- what a caller sees of a call: what it asked, the number of the outcome, the hour that was handed back, and the verdicts
pub record Seen (H : Type 0) : Type 0 where
  pub asked : Request
  pub number : ℕ
  pub hour : H
  pub verdicts : List Verdict

-- a number at or below 0 isn't above it
apart : (z : ℤ) → z ≤ℤ pos 0 → pos 0 <ℤ z → ⊥
apart z a b = let e = sym ((lt_z_exactly (pos 0) z).1 b) ∙ le_not_lt z (pos 0) ((le_z_exactly z (pos 0)).1 a) in absurd (let o : ◌≡◌ {A = ℕ} 0 1 = cc in omega arith)

-- the path of constraint c: the interval's numbers, and who owns what by the opening; resources and portfolios are numbered from 0
pub record JudgedFrom (o : Opening) (v : Interval) (c : ℕ) : Type 0 where
  pub shadow : (path_from o v c).shadow ≡ get_or v.shadow c (pos 0)
  pub resources : (path_from o v c).resources ≡ o.resources
  pub factor : (r : ℕ) → (path_from o v c).factor r ≡ get_or v.factors (r * 32 + c) (pos 0)
  pub dispatch : (r : ℕ) → (path_from o v c).dispatch r ≡ Whole (get_or v.dispatch r (pos 0))
  pub available : (r : ℕ) → (path_from o v c).available r ≡ Whole (get_or v.available r (pos 0))
  pub floor : (r : ℕ) → (path_from o v c).floor r ≡ Whole (get_or v.floor r (pos 0))
  pub portfolio : (r : ℕ) → (path_from o v c).portfolio r ≡ Whole (get_or o.list r no_resource).portfolio
  pub portfolios : (path_from o v c).portfolios ≡ o.portfolios
  pub seller : (p : ℕ) → (path_from o v c).seller p ≡ Whole (get_or o.sellers p (pos 0))

-- what a returned verdict x on constraint c is, in full
pub record VerdictIs (o : Opening) (v : Interval) (c : ℕ) (x : Verdict) : Type 0 where
  pub judged : JudgedSays o v c x
  -- "Verdict 0 is competitive": it binds, and no choice of net sellers leaves supply below demand
  pub competitive : (x.finding ≡ finding.Competitive) ↔ ((pos 0 <ℤ get_or v.shadow c (pos 0)) × (Entering o v c → ⊥))
  -- demand, left, the sellers named and what they withhold, ties and "0 0 and no sellers" among them, of the path that the interval's numbers are
  pub carries : VerdictSays (path_from o v c) x
  pub on : JudgedFrom o v c

module _ (o : Opening) (opened : opening_refusal o ≡ 0) (v : Interval) (c : ℕ) (sound : interval_refusal o.resources v ≡ 0) where
  judged_by : (x : Verdict) → x ≡ verdict_of (path_from o v c) → JudgedSays o v c x
  judged_by x e = rw e (verdict_says o v c _ (verdict_judged o opened v sound c))

  pub verdict_is : (x : Verdict) → x ≡ verdict_of (path_from o v c) → VerdictIs o v c x
  verdict_is x e =
      let J = judged_by x e in
      record {
        judged = J;
        competitive = (
          λ f. (
            ((finding_says (path_from o v c)).competitive.0 (sym (ap (λ (y : Verdict). y.finding) e) ∙ f)).0,
            λ y. absurd (let g = sym f ∙ J.non_competitive.1 y in let a : ◌≡◌ {A = ℕ} 0 1 = ap finding_number g in omega arith),
          ),
          λ y. go x.finding refl y,
        );
        carries = rw e (path-says (path_from o v c));
        on = record { shadow = refl; resources = refl; factor = λ r. refl; dispatch = λ r. refl; available = λ r. refl; floor = λ r. refl; portfolio = λ r. refl; portfolios = refl; seller = λ p. refl };
      }
    where
      go : (f : Finding) → x.finding ≡ f → (pos 0 <ℤ get_or v.shadow c (pos 0)) × (Entering o v c → ⊥) → x.finding ≡ finding.Competitive
      go finding.Competitive g y = g
      go finding.NonCompetitive g y = absurd (y.1 ((judged_by x e).non_competitive.0 g))
      go finding.NotBinding g y = absurd (apart (get_or v.shadow c (pos 0)) ((judged_by x e).not_binding_lem.0 g) y.0)

module _ {H : Type 0} (held : H → RealTimeHour) where
  -- the promises of `Hour::interval` and `Hour::pass`, of a call on the hour h
  abbrev pub Promised : H → Request → Seen H → Type 0
  Promised h (interval v) x = (x.number ≡ hour_refusal (held h).hour v) × (held x.hour ≡ interval_after (held h) v) × (x.verdicts ≡ hour_verdicts (held h).hour v)
  Promised h (pass v) x = (x.number ≡ pass_refusal (held h) v) × (held x.hour ≡ pass_after (held h) v) × (x.verdicts ≡ pass_verdicts (held h) v)

  -- "Each call gets the hour as the call before it left it": the one that it handed back
  abbrev pub Made : H → List (Seen H) → Type 0
  Made h [] = Unit {0}
  Made h (x ∷ l) = Promised h x.asked x × Made x.hour l

  abbrev pub Last : H → List (Seen H) → H
  Last h [] = h
  Last h (x ∷ l) = Last x.hour l
