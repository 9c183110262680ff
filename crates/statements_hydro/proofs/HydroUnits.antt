-- A hydro unit in an hour (paper 02, 2.8), of what the calls return: of hours and answers that are known by the promises of `Hour::open`, `interval`, `pass`, `curve` and `five_minute`, and of
-- a default that is known by the promise of `hydro::default_curve`. Assumes nothing.
use Rattle.std.specs.Prelude.{Some, Result}
use Rattle.std.specs.Result.{result_unwrap_or}
use mathlib.Core.List.{List, []}
use mathlib.Core.Logic.{◌↔◌}
use mathlib.Core.Path.{◌≡◌, sym, ◌∙◌}
use Prim.Native.Nat.{ℕ, ◌≤◌, ◌<◌}
use lib.IntN.{ℤ, pos}
use lib.ListN.{get_or}
use Rattle.rules_curve.specs.Curves.{steps_of, end_of, quote, no_pack}
use Rattle.rules_curve.specs.declared.RawCurve.{RawCurve}
use Rattle.rules_mitigation.specs.declared.Mitigated.{Mitigated}
use Rattle.rules_interval.specs.declared.Interval.{Interval}
use Rattle.rules_opening.specs.Openings.{opening_refusal}
use Rattle.rules_opening.specs.declared.Opening.{Opening}
use Rattle.rules_opening.specs.declared.Source.TheVariants as source
use Rattle.rules_hour.specs.Hours.{curve_in}
use Rattle.rules_pass.specs.Passes.{RealTimeHour, opened_real_time, five_minute_in}
use Rattle.rules_hydro.specs.Hydros.{hydro_price, hydro_refusal, hydro_number, hydro_pack}
use Rattle.rules_hydro.specs.declared.Hydro.{Hydro}
use Rattle.rules_hydro.specs.declared.HydroRefusal.{HydroRefusal}
use Rattle.rules_hydro.proofs.Units.{hydro_unit, same_causes}
use Rattle.statements.proofs.Told.{and_so}
use Rattle.statements.proofs.Demand3.{resource, bid, default, IsComponent, component_is, OwnerSays}
use Rattle.statements.proofs.Passes.{FiveMinutes}
use Rattle.statements.proofs.Returned.{Seen, Made, Last}
use Rattle.statements.proofs.FromReturned.{taken, passed, owner_returned, five_minute_returned}

-- what resource r has after the intervals I, and the passes P since the last of them: its hourly and its five-minute curve
pub record HydroSays (o : Opening) (r : ℕ) (x : Hydro) (I P : List Interval) (hourly fives : Mitigated) : Type 0 where
  -- the owner's sentence and the five-minute price, as of any resource
  pub owner : OwnerSays o r I hourly
  pub five_minute : FiveMinutes o r I P hourly fives
  -- the default price that its caps are made of is the hydro price, at each quantity of the bid
  pub default_price_lem : (q : ℕ) → (bid o r).start ≤ q → q < end_of (bid o r).start (steps_of (bid o r)) → quote (default o r).start (steps_of (default o r)) q ≡ Some (hydro_price x)

-- `Hour::open` returned 0 and the hour `first`; the calls l were made from it. Resource r took its default curve from the pack: what `default_curve` returned of x
module _ {H : Type 0} (held : H → RealTimeHour) (o : Opening) (number : ℕ) (first : H) (opening_number : number ≡ opening_refusal o) (opening-hour : held first ≡ opened_real_time o) (accepted : number ≡ 0)
    (l : List (Seen H)) (made : Made held first l) (r : ℕ) (there : r < o.resources)
    (x : Hydro) (d : Result RawCurve HydroRefusal) (told : hydro_number d ≡ hydro_refusal x) (handed : result_unwrap_or d no_pack ≡ hydro_pack x)
    (packed : (resource o r).source ≡ source.Pack) (put : (resource o r).pack ≡ result_unwrap_or d no_pack) where
  -- the pack was accepted, and the sentence is that of any resource
  pub hydro_returned : (hourly fives : Mitigated) → hourly ≡ curve_in (held (Last held first l)).hour r → fives ≡ five_minute_in (held (Last held first l)) r
      → (hydro_number d ≡ 0)
      × HydroSays o r x (taken held o number first opening_number opening-hour accepted l made) (passed held o number first opening_number opening-hour accepted l made) hourly fives
  hydro_returned hourly fives e f =
      let u = hydro_unit o [] r x (sym opening_number ∙ accepted) there (record { packed = packed; pack = put ∙ handed }) in (
        told ∙ u.taken,
        record {
          owner = owner_returned held o number first opening_number opening-hour accepted l made r there hourly e;
          five_minute = five_minute_returned held o number first opening_number opening-hour accepted l made r there hourly fives e f;
          default_price_lem = λ q low high. u.default q (record { from_start = low; below_end = high });
        },
      )

-- "A cut on a hydro unit has the same causes as on any other": the component is the same in an hour with any other default curves, and any other bids
pub causes_same : (o p : Opening) → o.resources ≡ p.resources → o.portfolios ≡ p.portfolios
    → ((r : ℕ) → r < o.resources → (resource o r).portfolio ≡ (resource p r).portfolio) → ((k : ℕ) → k < o.portfolios → get_or o.sellers k (pos 0) ≡ get_or p.sellers k (pos 0))
    → (v : Interval) (r : ℕ) (C : ℤ) → IsComponent o v r C ↔ IsComponent p v r C
causes_same o p a b c d v r C =
    let e = component_is o v r C in
    and_so (e.1, e.0) (and_so (same_causes o p (record { resources = a; owners = c; portfolios = b; sellers = d }) v r C) (component_is p v r C))
