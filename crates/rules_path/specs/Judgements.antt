-- The verdicts on the constraints of an interval (paper 01, Path verdict; Refused, by place: 13 to 16).
use Rattle.std.specs.Prelude.{List, ℕ, zero, suc, replicate}
use Rattle.rules_number.specs.Over.{listed, padded}
use Rattle.rules_interval.specs.Intervals.{shadow_at, interval_refusal}
use Rattle.rules_interval.specs.declared.Interval.{Interval}
use Rattle.rules_path.specs.Paths.{Path}
use Rattle.rules_path.specs.Verdicts.{path_of, verdict_of, not_binding}
use Rattle.rules_path.specs.declared.Market.{Market}
use Rattle.rules_path.specs.declared.Verdict.{Verdict}

-- what constraint c of an interval is judged on
abbrev pub path_in : Market → Interval → ℕ → Path
path_in m v c = path_of (shadow_at v c) v.factors v.dispatch v.available v.floor m.portfolio m.seller m.resources c

-- the verdicts on all constraints, in order
unfoldable pub verdicts_of : Market → Interval → List Verdict
verdicts_of m v = padded 32 not_binding (listed (λ c. verdict_of (path_in m v c)) v.constraints)

-- a refusal returns its number alone
abbrev pub verdicts_unless : ℕ → List Verdict → List Verdict
verdicts_unless zero l = l
verdicts_unless (suc n) l = replicate 32 not_binding

unfoldable pub judged_verdicts : Market → Interval → List Verdict
judged_verdicts m v = verdicts_unless (interval_refusal m.resources v) (verdicts_of m v)
