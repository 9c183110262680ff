-- The mitigated curve of a bid (paper 01, Interval and hour; 31.2.3, 34.1.5):
-- "each quantity's price becomes the smaller of its present price and its cap, the higher of default price and L. Otherwise it stays.
-- Neighbouring steps with one price are merged, in the opened hour too; 19 steps always suffice." Since a default curve may have 11 steps: "a mitigated one 20".
-- Assumes nothing.
use Rattle.std.specs.Prelude.{Option, ℤ}
use mathlib.Core.List.{List}
use mathlib.Core.Path.{◌≡◌, refl, sym, ◌∙◌}
use Prim.Native.Nat.{ℕ, ◌+◌, ◌<◌, ◌≤◌}
use lib.ListN.{length}
use Rattle.rules_curve.specs.Curves.{price_at, end_of, steps_of}
use Rattle.rules_mitigation.specs.Mitigation.{capped, lowered, segments, mitigated_steps, most_mitigated_steps, mitigated, used_steps}
use Rattle.rules_curve.specs.Meaning.{Sound, SoundBid}
use Rattle.rules_mitigation.specs.Meaning.{Inside, IsMitigated}
use Rattle.rules_curve.specs.declared.Step.{Step}
use Rattle.rules_curve.specs.declared.Curve.{Curve}
use Rattle.rules_mitigation.proofs.SegmentLaws.{segments_rising, joined_rising}
use Rattle.rules_mitigation.proofs.FallLaws.{capped_growing, segments_never_fall, joined_never_falls}
use Rattle.rules_mitigation.proofs.MitigationLaws.{mitigated_length, mitigated_all, mitigated_used, mitigated_end, mitigated_price, joined_apart, only_curve, cut_price}

module _ (floor : Option ℤ) (bid default : Curve) (sb : SoundBid bid) (sd : Sound default) (inside : Inside bid default) where
  -- "the smaller of its present price and its cap", for every quantity of the bid; it starts and ends where the bid does; merged
  pub mitigated_is : IsMitigated floor bid default (mitigated floor bid default).start (used_steps (mitigated floor bid default))
  unfolding mitigated
  mitigated_is = rw (mitigated_used floor bid default, mitigated_all floor bid default sb.few) (record {
    starts = refl;
    ends = rw (mitigated_all floor bid default sb.few) at (mitigated_end floor bid default sb.few sb.sound.rising inside.begins inside.ends);
    price = λ q h k. rw (mitigated_all floor bid default sb.few) at (mitigated_price floor bid default sb.few sb.sound.rising inside.begins inside.ends q h k);
    rising = joined_rising bid.start parts (segments_rising (capped floor) (length (steps_of bid) + length (steps_of default)) bid.start (steps_of bid) (steps_of default) sb.sound.rising);
    never_falling_lem = joined_never_falls parts (segments_never_fall (capped floor) (capped_growing floor) (length (steps_of bid) + length (steps_of default)) bid.start (steps_of bid) (steps_of default) sb.sound.never_falling_lem sd.never_falling_lem);
    apart = joined_apart parts;
  })
    where
      parts : List Step
      parts = segments (capped floor) bid.start (steps_of bid) (steps_of default)

  -- it is the only curve of which all that holds
  pub mitigated_only : (p : ℕ) (l : List Step) → IsMitigated floor bid default p l → l ≡ used_steps (mitigated floor bid default)
  mitigated_only p l m =
      let i = mitigated_is in
      let e : p ≡ (mitigated floor bid default).start = m.starts ∙ sym i.starts in
      only_curve p l (used_steps (mitigated floor bid default)) m.rising (rw e i.rising) m.apart i.apart (m.ends ∙ rw e (sym i.ends))
      (λ q h k. m.price q (rw m.starts at h) (rw m.ends at k) ∙ sym (i.price q (rw m.starts at h) (rw m.ends at k)))

  -- "A default curve may so have 11 steps, a mitigated one 20"
  pub twenty_suffice : (mitigated floor bid default).count ≤ most_mitigated_steps
  twenty_suffice = mitigated_length floor bid default sd.few

-- "An hour takes an interval and becomes the next hour, so a cut made earlier carries on": a further cut gives the smaller of the present price and the new cap
module _ (floor k : Option ℤ) (bid default : Curve) (sb : SoundBid bid) (inside : Inside bid default) where
  pub further_cut : (q : ℕ) → bid.start ≤ q → q < end_of bid.start (steps_of bid)
      → price_at (mitigated_steps (lowered floor k) bid default) q ≡ capped k (price_at (mitigated_steps floor bid default) q) (price_at (steps_of default) q)
  further_cut = cut_price floor k bid default sb.few sb.sound.rising inside.begins inside.ends
