-- Some of the bids by their places, worked by hand (paper 02, 2.12).
use mathlib.Core.List.{List, [], ◌∷◌, flat_map, zip_with}
use mathlib.Core.Path.{◌≡◌, refl}
use Prim.Native.Nat.{ℕ}
use lib.IntN.{pos}
use Rattle.rules_number.specs.Over.{padded}
use Rattle.rules_curve.specs.Curves.{raw_steps, no_pack}
use Rattle.rules_curve.specs.declared.RawStep.{RawStep}
use Rattle.rules_classroom.specs.Classroom.{classroom_bids, classroom_bid}

abbrev to : ℕ → ℕ → RawStep
to e p = record { end = pos e; price = pos p }

abbrev steps : ℕ → List RawStep
steps k = raw_steps (classroom_bid k)

pub record Places : Type 0 where
  pub first : steps 0 ≡ to 100 0 ∷ []
  pub second : steps 1 ≡ to 100 10000 ∷ []
  pub third_price : steps 2 ≡ to 100 20000 ∷ []
  pub next_end : steps 3 ≡ to 200 0 ∷ []
  pub last_of_one : steps 8 ≡ to 300 20000 ∷ []
  pub two : steps 9 ≡ to 100 0 ∷ to 200 0 ∷ []
  pub rising_price : steps 10 ≡ to 100 0 ∷ to 200 10000 ∷ []
  pub last_of_first_ends : steps 14 ≡ to 100 20000 ∷ to 200 20000 ∷ []
  pub next_ends : steps 15 ≡ to 100 0 ∷ to 300 0 ∷ []
  pub last_of_two : steps 26 ≡ to 200 20000 ∷ to 300 20000 ∷ []
  pub three : steps 27 ≡ to 100 0 ∷ to 200 0 ∷ to 300 0 ∷ []
  pub last_price_first : steps 28 ≡ to 100 0 ∷ to 200 0 ∷ to 300 10000 ∷ []
  pub last : steps 36 ≡ to 100 20000 ∷ to 200 20000 ∷ to 300 20000 ∷ []
  -- past the last there is none
  pub none : steps 37 ≡ []
  -- a bid as a whole: blank steps past the count
  pub whole : classroom_bid 9 ≡ record { start = pos 0; count = 2; steps = to 100 0 ∷ to 200 0 ∷ to 0 0 ∷ to 0 0 ∷ to 0 0 ∷ to 0 0 ∷ to 0 0 ∷ to 0 0 ∷ to 0 0 ∷ to 0 0 ∷ to 0 0 ∷ [] }

pub worked : Places
unfolding classroom_bids classroom_bid flat_map zip_with padded no_pack
worked = record {
  first = refl;
  second = refl;
  third_price = refl;
  next_end = refl;
  last_of_one = refl;
  two = refl;
  rising_price = refl;
  last_of_first_ends = refl;
  next_ends = refl;
  last_of_two = refl;
  three = refl;
  last_price_first = refl;
  last = refl;
  none = refl;
  whole = refl;
}
