-- Paper 01, Text: "Verdict 0 is competitive, 1 non-competitive, 2 not binding"; past the constraints of an interval no verdict is told. Assumes nothing.
use mathlib.Core.Path.{◌≡◌, refl}
use Prim.Native.Nat.{ℕ, ◌≤◌}
use native.Mathlib.Omega.{arith}
use lib.ListN.{get_or}
use Rattle.rules_number.specs.Over.{listed}
use Rattle.rules_number.proofs.CellLaws.{cell_past}
use Rattle.rules_number.proofs.OverLaws.{listed_length}
use Rattle.rules_interval.specs.declared.Interval.{Interval}
use Rattle.rules_path.specs.Judgements.{path_in, verdicts_of}
use Rattle.rules_path.specs.Verdicts.{finding_number, verdict_of, not_binding}
use Rattle.rules_path.specs.declared.Market.{Market}
use Rattle.rules_path.specs.declared.Verdict.{Verdict}
use Rattle.rules_path.specs.declared.Finding.TheVariants.{Competitive, NonCompetitive, NotBinding}

pub finding_numbers : (finding_number Competitive ≡ 0) × (finding_number NonCompetitive ≡ 1) × (finding_number NotBinding ≡ 2)
finding_numbers = (refl, refl, refl)

-- past the constraints stands the verdict "not binding"
pub not_binding_past : (m : Market) (v : Interval) (c : ℕ) → v.constraints ≤ c → get_or (verdicts_of m v) c not_binding ≡ not_binding
unfolding verdicts_of
not_binding_past m v c h =
    let judged : ℕ → Verdict = λ k. verdict_of (path_in m v k) in
    cell_past 32 not_binding (listed judged v.constraints) c (omega (arith, listed_length judged v.constraints))
