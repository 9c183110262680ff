-- The five-minute price, as one statement over every list of calls (paper 02, 2.1): "A five-minute price is the least of that interval's price and the caps of its
-- accepted passes with a cut, for every list of passes." Assumes nothing.
use Rattle.std.specs.Prelude.{Option}
use mathlib.Core.List.{List}
use mathlib.Core.Path.{◌≡◌, sym, ap, ap₂, ◌∙◌}
use Prim.Native.Nat.{ℕ, ◌<◌}
use lib.IntN.{ℤ}
use Rattle.rules_number.specs.Least.{least}
use Rattle.rules_curve.specs.declared.Curve.{Curve}
use Rattle.rules_mitigation.specs.Mitigation.{capped, lowered, mitigated}
use Rattle.rules_mitigation.proofs.MitigationLaws.{capped_again}
use Rattle.rules_opening.specs.Openings.{opening_refusal}
use Rattle.rules_opening.specs.declared.Opening.{Opening}
use Rattle.rules_hour.specs.Hours.{floor_in}
use Rattle.rules_hour.specs.Demand3.{submitted_price, default_price, InBid, caps_of}
use Rattle.rules_hour.proofs.CurveShape.{Shape, shape_by, kept_shape}
use Rattle.rules_hour.proofs.Owners.{capped_curve}
use Rattle.rules_pass.specs.Passes.{pass_floor_in, five_minute_in}
use Rattle.rules_pass.specs.Calls.{Request, none_yet, hour_of, accepted_passes, progress_from}
use Rattle.rules_pass.specs.FiveMinute.{five_minute_after, price_after, five_minute_price, FiveMinute}
use Rattle.rules_pass.proofs.ProgressLaws.{Agrees, hour_agrees, progress_intervals}
use Rattle.rules_pass.proofs.Answers.{passes_return_zero}

module _ (o : Opening) (calls : List Request) (r : ℕ) (accepted : opening_refusal o ≡ 0) (l : r < o.resources) where
  agreed : Agrees o (hour_of o calls) (progress_from o.resources none_yet calls)
  agreed = hour_agrees o accepted calls

  -- the floor price of the intervals, the one of the passes, and the lower of the two
  abbrev hours : Option ℤ
  hours = (floor_in (hour_of o calls).hour r).price

  abbrev quarters : Option ℤ
  quarters = (pass_floor_in (hour_of o calls) r).price

  five_minute_shape : Shape o r (lowered hours quarters) (five_minute_after o calls r)
  unfolding five_minute_in
  five_minute_shape =
      let k = agreed.kept in
      shape_by o r accepted l (lowered hours quarters) (five_minute_after o calls r) (ap₂ (λ (x y : Curve). mitigated (lowered hours quarters) x y) (k.bid r l) (k.default r l))

  -- the hourly price, by the floor price of the intervals
  pub hourly_price : (q : ℕ) → InBid o r q → price_after o calls r q ≡ capped hours (submitted_price o r q) (default_price o r q)
  hourly_price q i = (kept_shape o r accepted l (hour_of o calls).hour agreed.kept).is.price q i.from_start i.below_end

  -- the five-minute price, by both
  pub five_minute_price_lem : (q : ℕ) → InBid o r q → five_minute_price o calls r q ≡ capped quarters (price_after o calls r q) (default_price o r q)
  five_minute_price_lem q i =
      five_minute_shape.is.price q i.from_start i.below_end
      ∙ capped_again hours quarters (submitted_price o r q) (default_price o r q)
      ∙ ap (λ (x : ℤ). capped quarters x (default_price o r q)) (sym (hourly_price q i))

  lowest : (q : ℕ) → InBid o r q → capped (lowered hours quarters) (submitted_price o r q) (default_price o r q) ≡ least (price_after o calls r q) (caps_of o (accepted_passes o calls) r q)
  lowest q i =
      capped_again hours quarters (submitted_price o r q) (default_price o r q)
      ∙ ap (λ (x : ℤ). capped quarters x (default_price o r q)) (sym (hourly_price q i))
      ∙ agreed.price r l (price_after o calls r q) (default_price o r q)

  pub five_minute : FiveMinute o calls r
  five_minute = record {
    capped = capped_curve o accepted r l (accepted_passes o calls) agreed.sound (five_minute_after o calls r) (lowered hours quarters) five_minute_shape (price_after o calls r) lowest;
    accepting = passes_return_zero o accepted calls;
    counted = agreed.passes;
    up_to_three = agreed.few;
    follow = λ e. agreed.follow (progress_intervals o calls ∙ e);
  }
