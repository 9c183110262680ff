-- A constraint's sums and sellers as the code holds them.
use Rattle.std.specs.Prelude.{true, cond, ◌&&◌, List, map, ◌≡◌, ℕ, ◌+◌, ◌*◌, ◌≤◌, ◌<◌, ltb, eqb, ℤ, pos, negsuc, get_or, replicate}
use Rattle.std.proofs.lemmas.List.Edits.{sets}
use Rattle.rules_number.specs.Order.{in_range}
use Rattle.rules_number.specs.Over.{listed}
use Rattle.rules_path.specs.Paths.{Path, demand, supply, withholdable, at, Withheld, total, mask, amount_of}
use Rattle.rules_path.specs.Verdicts.{path_of}
use Rattle.rules_path.specs.declared.Market.{Market}
use Rattle.rules_state.specs.Intervals.{outputs_in}
use Rattle.rules_state.specs.States.{cell_of}
use Rattle.rules_library.specs.Slices.{cell_at}
use Rattle.interval.specs.declared.LentInterval.{LentInterval}
use Rattle.path.specs.declared.constraint.Tally.{Tally}
use Rattle.path.specs.declared.constraint.Top.{Top}

-- the portfolio of resource r where that is a net seller, else 16
unfoldable pub seller_of : Market → ℕ → ℕ
seller_of m r = cond (ltb (at m.portfolio r) 16 && eqb (at m.seller (at m.portfolio r)) 1) (at m.portfolio r) 16

-- the same of each of the first n resources
abbrev pub SellersIn : Market → ℕ → List ℕ → Type 0
SellersIn m n sellers = (r : ℕ) → r < n → at sellers r ≡ seller_of m r

-- the net sellers of the first n resources are below ports
abbrev pub Sold : List ℕ → ℕ → ℕ → Type 0
Sold sellers n ports = (r : ℕ) → r < n → at sellers r < 16 → at sellers r < ports

-- a constraint whose resources are net sellers', or of no portfolio
abbrev pub sold_of : ℤ → List ℕ → List ℤ → List ℤ → ℕ → ℕ → Path
sold_of shadow sellers factors outputs resources c =
    path_of shadow factors (outputs_in outputs 1) (outputs_in outputs 2) (outputs_in outputs 3) sellers (replicate 16 1) resources c

-- constraint c of a lent interval, in the same way
abbrev pub sold_in : LentInterval → List ℕ → ℕ → Path
sold_in v sellers c = sold_of (cell_at v.shadow.now c) sellers v.factors.now v.outputs.now v.resources c

-- demand, supply and what each portfolio can withhold
pub record Tallied : Type 0 where
  pub demand : ℕ
  pub supply : ℕ
  pub offers : List ℕ

-- the same as the code holds them
abbrev pub tallied : Tally → List ℕ → Tallied
tallied t offers = record { demand = t.demand; supply = t.supply; offers = offers }

abbrev pub tally_of : Path → Tallied
tally_of d = record { demand = demand d; supply = supply d; offers = listed (withholdable d) d.portfolios }

-- no amount is above what 64 resources can withhold
abbrev pub Held : List ℕ → Type 0
Held w = (p : ℕ) → at w p ≤ 64000000000000

-- from ports on there is no amount
abbrev pub Within : List ℕ → ℕ → Type 0
Within w ports = (p : ℕ) → ports ≤ p → at w p ≡ 0

-- a list of sellers added up, and as one number
abbrev pub top_of : List Withheld → Top
top_of l = record { total = total l; named = mask l }

-- what each portfolio withholds, in cells
abbrev pub withheld_cells : List Withheld → List ℤ
withheld_cells l = map cell_of (listed (λ p. amount_of p l) 16)

-- 16 cells are 0
unfoldable pub Clear : List ℤ → ℕ → Type 0
Clear out from = out ≡ sets out from (replicate 16 (pos 0))

-- what refusals 15 and 16 have left out: factors within a million either way, available within 0 and a million, floor and dispatch within 0 and available
pub record Sound (factors dispatch available floor : List ℤ) (resources c : ℕ) : Type 0 where
  pub few : resources ≤ 64
  pub column : c < 32
  pub factor_in : (r : ℕ) → r < resources → in_range (negsuc 999999) (pos 1000000) (get_or factors (r * 32 + c) (pos 0)) ≡ true
  pub available_in : (r : ℕ) → r < resources → in_range (pos 0) (pos 1000000) (get_or available r (pos 0)) ≡ true
  pub floor_in_lem : (r : ℕ) → r < resources → in_range (pos 0) (get_or available r (pos 0)) (get_or floor r (pos 0)) ≡ true
  pub dispatch_in : (r : ℕ) → r < resources → in_range (pos 0) (get_or available r (pos 0)) (get_or dispatch r (pos 0)) ≡ true

-- the same where the outputs are lent in turn
abbrev pub SoundOver : List ℤ → List ℤ → ℕ → ℕ → Type 0
SoundOver factors outputs resources c = Sound factors (outputs_in outputs 1) (outputs_in outputs 2) (outputs_in outputs 3) resources c

-- the first r of n rows have a cell in column c of a slice of that length, and no later one has
pub record Reaches (length n c r : ℕ) : Type 0 where
  pub most : r ≤ n
  pub inside : (k : ℕ) → k < r → k * 32 + c < length
  pub outside : (k : ℕ) → r ≤ k → k < n → length ≤ k * 32 + c
