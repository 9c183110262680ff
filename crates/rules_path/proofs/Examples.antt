-- Cases of paper 01 (Marked for proof, P5 and P6) and of its slips, by computation on the definitions.
use mathlib.Core.List.{List, [], ◌∷◌}
use mathlib.Core.Path.{◌≡◌, refl}
use Prim.Native.Nat.{ℕ}
use lib.IntN.{ℤ, pos, negsuc}
use lib.ListN.{get_or, replicate}
use Rattle.rules_number.specs.Over.{sum_to, listed}
use Rattle.rules_path.specs.declared.Finding.TheVariants.{Competitive, NonCompetitive}
use Rattle.rules_path.specs.Paths.{Path, at, demand, supply, share, withholdable, offer, offers, largest, top, total, mask, amount_of, sellers, named, left, is_non_competitive}
use Rattle.rules_path.specs.Verdicts.{verdict_of, not_binding}

-- four resources of four portfolios, each with shift factor -1; the first of the portfolios is a net seller where s is 1
abbrev pub four : ℤ → List ℕ → List ℕ → List ℕ → ℕ → Path
four shadow dispatch available floor s = record {
  shadow = shadow;
  resources = 4;
  factor = λ r. negsuc 0;
  dispatch = at dispatch;
  available = at available;
  floor = at floor;
  portfolio = λ r. r;
  portfolios = 4;
  seller = at (s ∷ 1 ∷ 1 ∷ 1 ∷ []);
}

-- withholdable 5, 4, 3, 2, all supply
abbrev pub marked : List ℕ → ℕ → Path
marked dispatch s = four (pos 1) dispatch (5 ∷ 4 ∷ 3 ∷ 2 ∷ []) [] s

-- an array of 16 amounts, 0 past those given
abbrev pub amounts : List ℕ → List ℕ
amounts l = listed (at l) 16

pub record Marked : Type 0 where
  -- P5 withholdable 5, 4, 3, 2, all supply: left 2; demand 2 competitive, 3 not
  pub p5_competitive : verdict_of (marked (2 ∷ []) 1) ≡ record { finding = Competitive; demand = 2; left = 2; named = 7; withheld = amounts (5 ∷ 4 ∷ 3 ∷ []) }
  pub p5_not : verdict_of (marked (3 ∷ []) 1) ≡ record { finding = NonCompetitive; demand = 3; left = 2; named = 7; withheld = amounts (5 ∷ 4 ∷ 3 ∷ []) }
  -- P6 the 5 a net buyer: left 5; demand 5 competitive, 6 not
  pub p6_competitive : verdict_of (marked (5 ∷ []) 0) ≡ record { finding = Competitive; demand = 5; left = 5; named = 14; withheld = amounts (0 ∷ 4 ∷ 3 ∷ 2 ∷ []) }
  pub p6_not : verdict_of (marked (5 ∷ 1 ∷ []) 0) ≡ record { finding = NonCompetitive; demand = 6; left = 5; named = 14; withheld = amounts (0 ∷ 4 ∷ 3 ∷ 2 ∷ []) }
  -- a shadow price of 0 doesn't bind: then 0 0 and no sellers
  pub not_binding_lem : verdict_of (four (pos 0) (3 ∷ []) (5 ∷ 4 ∷ 3 ∷ 2 ∷ []) [] 1) ≡ not_binding
  -- output that can't be withheld stays: left 3 where the 3 has a floor of 2 and only 1 to withhold
  pub floor_stays : verdict_of (four (pos 1) (4 ∷ []) (5 ∷ 4 ∷ 3 ∷ 1 ∷ []) (0 ∷ 0 ∷ 2 ∷ []) 1) ≡ record { finding = NonCompetitive; demand = 4; left = 3; named = 7; withheld = amounts (5 ∷ 4 ∷ 1 ∷ []) }
  -- of four equal amounts the lower three numbers are named
  pub ties : verdict_of (four (pos 1) (1 ∷ []) (1 ∷ 1 ∷ 1 ∷ 1 ∷ []) [] 1) ≡ record { finding = Competitive; demand = 1; left = 1; named = 7; withheld = amounts (1 ∷ 1 ∷ 1 ∷ []) }
  -- who can withhold 0 isn't named
  pub nothing_to_withhold : verdict_of (four (pos 1) [] (0 ∷ 2 ∷ []) [] 1) ≡ record { finding = Competitive; demand = 0; left = 0; named = 2; withheld = amounts (0 ∷ 2 ∷ []) }

pub marked_cases : Marked
unfolding sum_to listed demand supply share withholdable offer offers largest top total mask amount_of sellers named left is_non_competitive verdict_of
marked_cases = record {
  p5_competitive = refl;
  p5_not = refl;
  p6_competitive = refl;
  p6_not = refl;
  not_binding_lem = refl;
  floor_stays = refl;
  ties = refl;
  nothing_to_withhold = refl;
}

-- one resource of 10 MW, dispatched at 4, with shift factor s
abbrev pub lone : ℤ → Path
lone s = record {
  shadow = pos 1;
  resources = 1;
  factor = λ r. s;
  dispatch = λ r. 4;
  available = λ r. 10;
  floor = λ r. 0;
  portfolio = λ r. 0;
  portfolios = 1;
  seller = λ p. 1;
}

-- a factor below 0 gives counterflow, e = -s; one above 0 gives none
pub record Counterflow : Type 0 where
  pub below : verdict_of (lone (negsuc 2)) ≡ record { finding = NonCompetitive; demand = 12; left = 0; named = 1; withheld = amounts (30 ∷ []) }
  pub above : verdict_of (lone (pos 3)) ≡ record { finding = Competitive; demand = 0; left = 0; named = 0; withheld = replicate 16 0 }

pub counterflow : Counterflow
unfolding sum_to listed demand supply share withholdable offer offers largest top total mask amount_of sellers named left is_non_competitive verdict_of
counterflow = record { below = refl; above = refl }

-- one portfolio's two resources, of e 3 and e 2 and 10 and 7 available, of which 4 of the first can't be withheld
abbrev pub pair : List ℕ → Path
pair dispatch = record {
  shadow = pos 1;
  resources = 2;
  factor = λ r. get_or (negsuc 2 ∷ negsuc 1 ∷ []) r (pos 0);
  dispatch = at dispatch;
  available = at (10 ∷ 7 ∷ []);
  floor = at (4 ∷ []);
  portfolio = λ r. 0;
  portfolios = 1;
  seller = λ p. 1;
}

-- "a portfolio can withhold the sum of e × (available - floor) over its resources": 3 × (10 - 4) + 2 × 7 = 32, of a supply of 3 × 10 + 2 × 7 = 44
pub record TwoResources : Type 0 where
  pub each : (share (pair []) 0 0 ≡ 18) × (share (pair []) 0 1 ≡ 14)
  pub sum : withholdable (pair []) 0 ≡ 32
  pub all : supply (pair []) ≡ 44
  -- demand 3 × 4 = 12 is left, 3 × 3 + 2 × 2 = 13 isn't
  pub competitive : verdict_of (pair (4 ∷ [])) ≡ record { finding = Competitive; demand = 12; left = 12; named = 1; withheld = amounts (32 ∷ []) }
  pub not : verdict_of (pair (3 ∷ 2 ∷ [])) ≡ record { finding = NonCompetitive; demand = 13; left = 12; named = 1; withheld = amounts (32 ∷ []) }

pub two_resources : TwoResources
unfolding sum_to listed demand supply share withholdable offer offers largest top total mask amount_of sellers named left is_non_competitive verdict_of
two_resources = record { each = (refl, refl); sum = refl; all = refl; competitive = refl; not = refl }
