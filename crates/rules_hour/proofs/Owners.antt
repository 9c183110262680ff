-- The owner's sentence of any curve whose floor price gives each quantity the least of a price before and its caps. Assumes nothing.
use Rattle.std.specs.Prelude.{Option}
use mathlib.Core.List.{List, Memᴰ}
use mathlib.Core.Logic.{⊎_elim}
use mathlib.Core.Path.{◌≡◌, sym, ap, subst, ◌∙◌}
use Prim.Native.Nat.{ℕ, ◌<◌}
use native.Mathlib.Nat.{le_trans}
use lib.IntN.{ℤ}
use Rattle.rules_number.specs.Least.{least}
use Rattle.rules_number.proofs.LeastLaws.{least_is_least, least_only}
use Rattle.rules_curve.specs.Curves.{steps_of, end_of, price_at}
use Rattle.rules_curve.specs.Meaning.{Rising}
use Rattle.rules_curve.specs.declared.Step.{Step}
use Rattle.rules_curve.proofs.QuoteLaws.{quote_inside, quote_before, quote_past}
use Rattle.rules_mitigation.specs.Mitigation.{capped, used_steps}
use Rattle.rules_mitigation.specs.declared.Mitigated.{Mitigated}
use Rattle.rules_mitigation.proofs.MitigationLaws.{only_curve}
use Rattle.rules_interval.specs.Intervals.{interval_refusal}
use Rattle.rules_interval.specs.declared.Interval.{Interval}
use Rattle.rules_opening.specs.Openings.{market_of, opening_refusal}
use Rattle.rules_opening.specs.declared.Opening.{Opening}
use Rattle.rules_hour.specs.Cuts.{component}
use Rattle.rules_hour.specs.Demand3.{submitted, default_of, submitted_price, default_price, InBid, InDefault, Quoted, caps_of, OverBid, CappedSteps, Capped, Owned}
use Rattle.rules_hour.proofs.AcceptedOpening.{default_sound, bid_inside}
use Rattle.rules_hour.proofs.Caps.{caps_one_each, capping_exactly, components, caps_number}
use Rattle.rules_hour.proofs.CurveShape.{Shape}

-- such steps rise from where the submitted bid starts to where it ends
module _ {o : Opening} {r : ℕ} {Is : ℕ → ℤ → Type 0} {p : ℕ} {l : List Step} (d : OverBid o r Is p l) where
  steps_rise : Rising (submitted o r).start l
  steps_rise = subst (λ (x : ℕ). Rising x l) d.starts d.rising

  steps_end : end_of (submitted o r).start l ≡ end_of (submitted o r).start (steps_of (submitted o r))
  steps_end = ap (λ (x : ℕ). end_of x l) (sym d.starts) ∙ d.ends

-- where each hundredth has one price, there is one such curve
pub steps_only : {o : Opening} {r : ℕ} {Is : ℕ → ℤ → Type 0} {p k : ℕ} {l m : List Step} → ((q : ℕ) (x y : ℤ) → Is q x → Is q y → x ≡ y)
    → OverBid o r Is p l → OverBid o r Is k m → (p ≡ k) × (l ≡ m)
steps_only {o} {r} {l = l} {m = m} one a b = (
  a.starts ∙ sym b.starts,
  only_curve (submitted o r).start l m (steps_rise a) (steps_rise b) a.apart b.apart (steps_end a ∙ sym (steps_end b))
      (λ q h e. let i : InBid o r q = record { from_start = h; below_end = subst (λ (x : ℕ). q < x) (steps_end a) e } in one q (price_at l q) (price_at m q) (a.price q i) (b.price q i)),
)

module _ (o : Opening) (accepted : opening_refusal o ≡ 0) (r : ℕ) (l : r < o.resources) where
  -- the default curve has a price of each quantity of the bid: 11, at its start and at its end
  covered : (q : ℕ) → InBid o r q → InDefault o r q
  covered q i =
      let inside = bid_inside o accepted r l in
      record { from_start = le_trans inside.begins i.from_start; below_end = le_trans i.below_end inside.ends }

  priced : (q : ℕ) → InBid o r q → Quoted o r q
  priced q i =
      let d = covered q i in
      record {
        before = quote_inside (submitted o r).start (steps_of (submitted o r)) q i.from_start i.below_end;
        default = quote_inside (default_of o r).start (steps_of (default_of o r)) q d.from_start d.below_end;
      }

  -- none of 13 to 16 applies to any of these calls; c is the bid with the floor price k
  module _ (calls : List Interval) (sound : (v : Interval) → Memᴰ v calls → interval_refusal o.resources v ≡ 0) (c : Mitigated) (k : Option ℤ) (s : Shape o r k c) where
    pub capped_curve : (before : ℕ → ℤ) → ((q : ℕ) → InBid o r q → capped k (submitted_price o r q) (default_price o r q) ≡ least (before q) (caps_of o calls r q))
        → Capped o r before calls c
    capped_curve before lowest =
        let curve = s.is in
        let steps : CappedSteps o r before calls c.start (used_steps c) = record {
          price = λ q i. rw (curve.price q i.from_start i.below_end ∙ lowest q i) (least_is_least (before q) (caps_of o calls r q));
          starts = curve.starts;
          ends = curve.ends;
          rising = curve.rising;
          apart = curve.apart;
        } in
        record {
          is = steps;
          only = λ p m h. steps_only (λ q x y. least_only) h steps;
          twenty = s.twenty;
          capping = λ q i. capping_exactly o accepted calls sound r q (priced q i).default;
          one_each = λ q i. caps_one_each o accepted calls sound r q (priced q i).default;
          C = λ v. component (market_of o) v r;
          component = components o accepted calls sound r;
          number = caps_number o accepted calls sound r;
          quoted = λ q i. quote_inside c.start (used_steps c) q (rw curve.starts i.from_start) (rw curve.ends i.below_end);
        }

    pub owned_curve : ((q : ℕ) → InBid o r q → capped k (submitted_price o r q) (default_price o r q) ≡ least (submitted_price o r q) (caps_of o calls r q)) → Owned o r calls c
    owned_curve lowest = record {
      capped = capped_curve (submitted_price o r) lowest;
      quoted = priced;
      default_covers = covered;
      no_default = λ q. ⊎_elim (quote_before (default_of o r).start (steps_of (default_of o r)) q) (quote_past (default_of o r).start (steps_of (default_of o r)) q (default_sound o accepted r l).rising);
    }
