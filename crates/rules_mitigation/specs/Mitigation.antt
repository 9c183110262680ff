-- The mitigated curve of a bid (paper 01, Interval and hour; 31.2.3, 34.1.5).
use Rattle.std.specs.Prelude.{cond, List, [], ◌∷◌, ℕ, zero, suc, ◌+◌, leb, ltb, ℤ, length, take, None, Option, Some}
use Rattle.rules_number.specs.Order.{min_z, max_z, eq_z}
use Rattle.rules_number.specs.Over.{padded}
use Rattle.rules_curve.specs.Curves.{step_to, blank_step, steps_of, bid_steps}
use Rattle.rules_curve.specs.declared.Step.{Step}
use Rattle.rules_curve.specs.declared.Curve.{Curve}
use Rattle.rules_mitigation.specs.declared.Mitigated.{Mitigated}

-- the smaller of the price b and its cap, the higher of default price d and floor price
abbrev pub capped : Option ℤ → ℤ → ℤ → ℤ
capped None b d = b
capped (Some l) b d = min_z b (max_z d l)

-- the floor after a further cut: the lowest so far
abbrev pub lowered : Option ℤ → Option ℤ → Option ℤ
lowered f None = f
lowered None (Some l) = Some l
lowered (Some k) (Some l) = Some (min_z k l)

-- The steps of the bid, divided where a default step ends, each at the price that f makes of the two prices. at is the lower edge reached.
-- Each call uses up one step of the bid or of the default curve, so n bounds the calls.
unfoldable pub segments_n : (ℤ → ℤ → ℤ) → ℕ → ℕ → List Step → List Step → List Step
segments_n f zero at bs ds = []
segments_n f (suc n) at [] ds = []
segments_n f (suc n) at (b ∷ bs) [] = []
segments_n f (suc n) at (b ∷ bs) (d ∷ ds) =
    let skipped = segments_n f n at (b ∷ bs) ds in
    let to_default = step_to d.end (f b.price d.price) ∷ segments_n f n d.end (b ∷ bs) ds in
    let to-bid = step_to b.end (f b.price d.price) ∷ segments_n f n b.end bs (d ∷ ds) in
    let step = cond (ltb d.end b.end) to_default to-bid in
    cond (leb d.end at) skipped step

abbrev pub segments : (ℤ → ℤ → ℤ) → ℕ → List Step → List Step → List Step
segments f at bs ds = segments_n f (length bs + length ds) at bs ds

-- the steps after s, with neighbouring steps of one price made one
unfoldable pub joined_after : Step → List Step → List Step
joined_after s [] = s ∷ []
joined_after s (t ∷ l) =
    let later = joined_after t l in
    let kept = s ∷ later in
    cond (eq_z s.price t.price) later kept

-- neighbouring steps with one price are merged
unfoldable pub joined : List Step → List Step
joined [] = []
joined (s ∷ l) = joined_after s l

-- the steps of a bid after its cuts
abbrev pub mitigated_steps : Option ℤ → Curve → Curve → List Step
mitigated_steps floor bid default = joined (segments (capped floor) bid.start (bid_steps bid) (steps_of default))

-- the most steps of a mitigated curve, which is its room
abbrev pub most_mitigated_steps : ℕ
most_mitigated_steps = 20

-- the curve with the steps l, with blank steps past them
abbrev pub mitigated_of : ℕ → List Step → Mitigated
mitigated_of s l = record { start = s; count = length l; steps = padded most_mitigated_steps blank_step l }

-- the curve with no step
abbrev pub blank_mitigated : Mitigated
blank_mitigated = mitigated_of 0 []

unfoldable pub mitigated : Option ℤ → Curve → Curve → Mitigated
mitigated floor bid default = mitigated_of bid.start (mitigated_steps floor bid default)

-- the steps that a mitigated curve uses
abbrev pub used_steps : Mitigated → List Step
used_steps c = take c.count c.steps
