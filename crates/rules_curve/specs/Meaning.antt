-- What a curve is, in paper 01's words (Curve).
use Rattle.std.specs.Prelude.{List, [], ◌∷◌, ℕ, ◌<◌, ◌≤◌, ℤ, length, ◌≤ℤ◌}
use Rattle.rules_curve.specs.Curves.{most_steps, most_bid_steps, steps_of}
use Rattle.rules_curve.specs.declared.Step.{Step}
use Rattle.rules_curve.specs.declared.Curve.{Curve}

-- the ends strictly rise, from p
abbrev pub Rising : ℕ → List Step → Type 0
Rising p [] = Unit {0}
Rising p (s ∷ l) = (p < s.end) × Rising s.end l

-- the prices never fall, from p
abbrev pub NeverBelow : ℤ → List Step → Type 0
NeverBelow p [] = Unit {0}
NeverBelow p (s ∷ l) = (p ≤ℤ s.price) × NeverBelow s.price l

-- the prices never fall
abbrev pub NeverFalling : List Step → Type 0
NeverFalling [] = Unit {0}
NeverFalling (s ∷ l) = NeverBelow s.price l

-- what the checks 1 to 3 leave: "Start and ends strictly rise; prices never fall", and there are at most 11 steps
pub record Sound (c : Curve) : Type 0 where
  pub few : length (steps_of c) ≤ most_steps
  pub rising : Rising c.start (steps_of c)
  pub never_falling_lem : NeverFalling (steps_of c)

-- what they leave of a bid, which has at most 10
pub record SoundBid (c : Curve) : Type 0 where
  pub few : length (steps_of c) ≤ most_bid_steps
  pub sound : Sound c
