-- The path verdict of one constraint (paper 01, Path verdict; 39.7.2.2), for any number of resources and portfolios.
use Rattle.std.specs.Prelude.{Bool, ◌&&◌, cond, List, [], ◌∷◌, ◌≡◌, ℕ, zero, suc, ◌+◌, ◌-◌, ◌*◌, ◌^◌, ◌≤◌, ◌<◌, ltb, eqb, ℤ, pos, negsuc, length, get_or, set, ◌<ℤ◌}
use Rattle.std.specs.Int.Signed.{lt_z}
use Rattle.rules_number.specs.Over.{sum_to, listed}

-- what one constraint is judged on: its shadow price; shift factor s, dispatch, available, floor and portfolio of each resource; seller p is 1 for a net seller, 0 for a net buyer
pub record Path : Type 0 where
  pub shadow : ℤ
  pub resources : ℕ
  pub factor : ℕ → ℤ
  pub dispatch : ℕ → ℕ
  pub available : ℕ → ℕ
  pub floor : ℕ → ℕ
  pub portfolio : ℕ → ℕ
  pub portfolios : ℕ
  pub seller : ℕ → ℕ

-- a constraint binds exactly when its shadow price is above 0
abbrev pub binds : Path → Bool
binds d = lt_z (pos 0) d.shadow

-- effectiveness: -s where the shift factor s is below 0, else 0
abbrev pub effectiveness : ℤ → ℕ
effectiveness (pos n) = 0
effectiveness (negsuc n) = suc n

-- e of resource r
abbrev pub effect : Path → ℕ → ℕ
effect d r = effectiveness (d.factor r)

-- the sum of e × dispatch over all resources
unfoldable pub demand : Path → ℕ
demand d = sum_to (λ r. effect d r * d.dispatch r) d.resources

-- the sum of e × available
unfoldable pub supply : Path → ℕ
supply d = sum_to (λ r. effect d r * d.available r) d.resources

-- what resource r adds to what portfolio p can withhold: e × (available - floor) where it is p's
unfoldable pub share : Path → ℕ → ℕ → ℕ
share d p r = cond (eqb (d.portfolio r) p) (effect d r * (d.available r - d.floor r)) 0

-- what portfolio p can withhold
unfoldable pub withholdable : Path → ℕ → ℕ
withholdable d p = sum_to (share d p) d.resources

-- the same of a net seller, and 0 of a net buyer
unfoldable pub offer : Path → ℕ → ℕ
offer d p = cond (eqb (d.seller p) 1) (withholdable d p) 0

-- what each portfolio offers, in order
unfoldable pub offers : Path → List ℕ
offers d = listed (offer d) d.portfolios

-- ---- the three largest
abbrev pub at : List ℕ → ℕ → ℕ
at l i = get_or l i 0

-- the number of the largest of the first n amounts; ties: the lower number
unfoldable pub largest : List ℕ → ℕ → ℕ
largest w zero = 0
largest w (suc n) = cond (ltb (at w (largest w n)) (at w n)) n (largest w n)

-- one seller and the amount that it withholds
pub record Withheld : Type 0 where
  pub who : ℕ
  pub amount : ℕ

-- the k largest of the first n amounts, the largest first: each is struck out before the next is looked for, and an amount of 0 isn't named
unfoldable pub top : ℕ → List ℕ → ℕ → List Withheld
top zero w n = []
top (suc k) w n =
    cond (ltb 0 (at w (largest w n))) (record { who = largest w n; amount = at w (largest w n) } ∷ top k (set w (largest w n) 0) n) []

-- the amounts added up
unfoldable pub total : List Withheld → ℕ
total [] = 0
total (x ∷ l) = x.amount + total l

-- the portfolios as one number, bit p standing for portfolio p
unfoldable pub mask : List Withheld → ℕ
mask [] = 0
mask (x ∷ l) = 2 ^ x.who + mask l

-- what portfolio p withholds; 0 where it isn't on the list
unfoldable pub amount_of : ℕ → List Withheld → ℕ
amount_of p [] = 0
amount_of p (x ∷ l) = cond (eqb x.who p) x.amount (amount_of p l)

-- the sellers named
unfoldable pub sellers : Path → List Withheld
sellers d = top 3 (offers d) d.portfolios

-- the same as one number
unfoldable pub named : Path → ℕ
named d = mask (sellers d)

-- supply less the three largest such amounts
unfoldable pub left : Path → ℕ
left d = supply d - total (sellers d)

-- binding, and left below demand
unfoldable pub is_non_competitive : Path → Bool
is_non_competitive d = binds d && ltb (left d) (demand d)

-- ---- the same in the paper's words
-- l has no entry of portfolio p
unfoldable pub Absent : ℕ → List Withheld → Type 0
Absent p [] = Unit {0}
Absent p (x ∷ l) = (x.who ≡ p → ⊥) × Absent p l

-- p is a net seller
abbrev pub NetSeller : Path → ℕ → Type 0
NetSeller d p = (p < d.portfolios) × (d.seller p ≡ 1)

-- a set of net sellers, each withholding a whole amount up to what it can
unfoldable pub Possible : Path → List Withheld → Type 0
Possible d [] = Unit {0}
Possible d (x ∷ l) = NetSeller d x.who × (x.amount ≤ withholdable d x.who) × Absent x.who l × Possible d l

-- it binds, and some set of at most three net sellers, each withholding a whole amount up to that, leaves supply less withheld below demand
pub record NonCompetitive (d : Path) : Type 0 where
  pub binding : pos 0 <ℤ d.shadow
  pub choice : List Withheld
  pub few : length choice ≤ 3
  pub possible : Possible d choice
  pub below : supply d < demand d + total choice
