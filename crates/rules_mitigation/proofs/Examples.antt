-- Worked examples of paper 01, by computation (Case T's curve; Marked for proof: P8, P9).
use Rattle.std.specs.Prelude.{None, Some}
use mathlib.Core.List.{[], ◌∷◌, ◌++◌}
use mathlib.Core.Path.{◌≡◌, refl}
use Prim.Native.Nat.{◌+◌, ◌*◌}
use lib.IntN.{pos}
use Rattle.rules_number.specs.Over.{listed, padded}
use Rattle.rules_curve.specs.Curves.{step_to, curve_with}
use Rattle.rules_mitigation.specs.Mitigation.{capped, lowered, segments_n, joined, joined_after, mitigated, used_steps}
use Rattle.rules_curve.specs.declared.Curve.{Curve}

-- Case T's bid and default curve
abbrev bid_t : Curve
bid_t = curve_with 10000 (step_to 15000 (pos 300000) ∷ step_to 30000 (pos 900000) ∷ [])

abbrev default_t : Curve
default_t = curve_with 10000 (step_to 20000 (pos 378402) ∷ step_to 24000 (pos 444403) ∷ step_to 30000 (pos 488402) ∷ [])

-- a bid of one price in two steps
abbrev level : Curve
level = curve_with 0 (step_to 5 (pos 7) ∷ step_to 10 (pos 7) ∷ [])

-- a bid of ten steps and a default curve of eleven, whose ends alternate up to the last
abbrev ten : Curve
ten = curve_with 0 (listed (λ i. step_to (10 * i + 10) (pos (20 * i + 10))) 10)

abbrev eleven : Curve
eleven = curve_with 0 (listed (λ i. step_to (10 * i + 5) (pos (20 * i))) 10 ++ (step_to 100 (pos 200) ∷ []))

pub record Mitigations : Type 0 where
  -- Case T's curve, L = 350100
  pub curve_t_lem : used_steps (mitigated (Some (pos 350100)) bid_t default_t) ≡ step_to 15000 (pos 300000) ∷ step_to 20000 (pos 378402) ∷ step_to 24000 (pos 444403) ∷ step_to 30000 (pos 488402) ∷ []
  -- P8: bid 300000, default 378402, L 350100: stays 300000
  pub p8 : capped (Some (pos 350100)) (pos 300000) (pos 378402) ≡ pos 300000
  -- P9: bid 900000, default 378402, L 500000 then 350100: 500000, then 378402
  pub p9_first : capped (lowered None (Some (pos 500000))) (pos 900000) (pos 378402) ≡ pos 500000
  pub p9_then : capped (lowered (lowered None (Some (pos 500000))) (Some (pos 350100))) (pos 900000) (pos 378402) ≡ pos 378402
  -- neighbouring steps with one price are merged, also without a cut
  pub merged : used_steps (mitigated None level level) ≡ step_to 10 (pos 7) ∷ []
  -- no fewer than 20 steps suffice
  pub twenty_reached : used_steps (mitigated (Some (pos 0)) ten eleven) ≡ listed (λ i. step_to (5 * i + 5) (pos (10 * i))) 20

pub examples : Mitigations
unfolding padded listed segments_n joined joined_after mitigated
examples = record {
  curve_t_lem = refl;
  p8 = refl;
  p9_first = refl;
  p9_then = refl;
  merged = refl;
  twenty_reached = refl;
}
