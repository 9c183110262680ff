-- What the mitigated curve of a bid is, in paper 01's words (Interval and hour). The theorems of proofs/MitigatedCurve.antt are about these.
use Rattle.std.specs.Prelude.{false, List, [], ◌∷◌, ◌≡◌, ℕ, ◌<◌, ◌≤◌, Option, ℤ}
use Rattle.rules_number.specs.Order.{eq_z}
use Rattle.rules_curve.specs.Curves.{price_at, end_of, steps_of}
use Rattle.rules_curve.specs.Meaning.{Rising, NeverFalling}
use Rattle.rules_curve.specs.declared.Step.{Step}
use Rattle.rules_curve.specs.declared.Curve.{Curve}
use Rattle.rules_mitigation.specs.Mitigation.{capped}

-- no two neighbouring steps have one price
abbrev pub Apart : List Step → Type 0
Apart [] = Unit {0}
Apart (s ∷ []) = Unit {0}
Apart (s ∷ t ∷ l) = (eq_z s.price t.price ≡ false) × Apart (t ∷ l)

-- the bid reaches nowhere outside its default curve
pub record Inside (bid default : Curve) : Type 0 where
  pub begins : default.start ≤ bid.start
  pub ends : end_of bid.start (steps_of bid) ≤ end_of default.start (steps_of default)

-- the curve that starts at p with the steps l is the bid, each quantity at the smaller of its bid price and its cap
pub record IsMitigated (floor : Option ℤ) (bid default : Curve) (p : ℕ) (l : List Step) : Type 0 where
  -- it starts and ends where the bid does
  pub starts : p ≡ bid.start
  pub ends : end_of p l ≡ end_of bid.start (steps_of bid)
  pub price : (q : ℕ) → bid.start ≤ q → q < end_of bid.start (steps_of bid)
      → price_at l q ≡ capped floor (price_at (steps_of bid) q) (price_at (steps_of default) q)
  -- its ends rise, its prices never fall and no two neighbours have one price
  pub rising : Rising p l
  pub never_falling_lem : NeverFalling l
  pub apart : Apart l
