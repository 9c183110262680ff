-- What any list of interval calls and passes leaves of a submitted bid (paper 02, 2.1): the hourly price, which is demand 3 over such lists, and the five-minute price.
use Rattle.std.specs.Prelude.{List, [], ◌≡◌, ℕ, ◌≤◌, ℤ, length}
use Rattle.rules_curve.specs.Curves.{price_at}
use Rattle.rules_mitigation.specs.Mitigation.{used_steps}
use Rattle.rules_mitigation.specs.declared.Mitigated.{Mitigated}
use Rattle.rules_opening.specs.declared.Opening.{Opening}
use Rattle.rules_hour.specs.Hours.{curve_in}
use Rattle.rules_hour.specs.Demand3.{Capped, Owned}
use Rattle.rules_pass.specs.Passes.{five_minute_in}
use Rattle.rules_pass.specs.Calls.{Request, none_yet, hour_of, accepted_intervals, accepted_passes, answers, returned_by, Answered}

-- the hourly and the five-minute curve of resource r after a list, from the hour that opening returned
abbrev pub curve_after : Opening → List Request → ℕ → Mitigated
curve_after o calls r = curve_in (hour_of o calls).hour r

abbrev pub five_minute_after : Opening → List Request → ℕ → Mitigated
five_minute_after o calls r = five_minute_in (hour_of o calls) r

-- the prices of quantity q in them
abbrev pub price_after : Opening → List Request → ℕ → ℕ → ℤ
price_after o calls r q = price_at (used_steps (curve_after o calls r)) q

abbrev pub five_minute_price : Opening → List Request → ℕ → ℕ → ℤ
five_minute_price o calls r q = price_at (used_steps (five_minute_after o calls r)) q

-- Demand 3 over lists of both kinds of call: "Passes never alter the hour's curves, so an owner's hourly price keeps its causes with passes anywhere in the list."
pub record Demand3 (o : Opening) (calls : List Request) (r : ℕ) : Type 0 where
  -- the owner's sentence: its caps are those of the accepted intervals, which are those of the interval calls alone
  pub owned : Owned o r (accepted_intervals o calls) (curve_after o calls r)
  -- an interval is accepted exactly when none of 12 to 16 applies, a pass exactly when none of 19 and 13 to 16 does; 12 counts the accepted intervals before it in
  -- the list, and 19 those and the accepted passes since the last of them
  pub answered : Answered o.resources 0 0 calls (answers o calls)
  pub accepting : accepted_intervals o calls ≡ (returned_by none_yet calls (answers o calls)).intervals
  pub counted : (hour_of o calls).hour.standing.accepted ≡ length (accepted_intervals o calls)

-- "A five-minute price is the least of that interval's price and the caps of its accepted passes with a cut, for every list of passes."
pub record FiveMinute (o : Opening) (calls : List Request) (r : ℕ) : Type 0 where
  -- it is the only such curve, 20 steps suffice, and each such pass has its cap in the words of demand 3
  pub capped : Capped o r (price_after o calls r) (accepted_passes o calls) (five_minute_after o calls r)
  -- "its accepted passes": those since the last accepted interval that returned 0
  pub accepting : accepted_passes o calls ≡ (returned_by none_yet calls (answers o calls)).passes
  pub counted : (hour_of o calls).quarter.passes ≡ length (accepted_passes o calls)
  -- "Up to three five-minute passes follow an accepted interval."
  pub up_to_three : length (accepted_passes o calls) ≤ 3
  pub follow : accepted_intervals o calls ≡ [] → accepted_passes o calls ≡ []
