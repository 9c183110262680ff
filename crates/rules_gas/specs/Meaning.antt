-- A book, its run and the price in use, in the request's words. No definition of the engine is cited here.
use Rattle.std.specs.Prelude.{List, [], ◌∷◌, ◌++◌, ◌≡◌, ℕ, suc, ◌%◌, ◌≤◌, ◌<◌, length, get_or}

-- "(day, price)"
pub record Entry : Type 0 where
  pub day : ℕ
  pub price : ℕ

-- the entries of a list of numbers; a last number without its partner is no entry
abbrev pub entries : List ℕ → List Entry
entries [] = []
entries (d ∷ []) = []
entries (d ∷ p ∷ l) = record { day = d; price = p } ∷ entries l

-- entry i, counted from 0
abbrev pub entry_at : List Entry → ℕ → Entry
entry_at es i = get_or es i (record { day = 0; price = 0 })

abbrev pub day_at : List Entry → ℕ → ℕ
day_at es i = (entry_at es i).day

-- "with days strictly rising"
abbrev pub Rising : List Entry → Type 0
Rising es = (i : ℕ) → suc i < length es → day_at es i < day_at es (suc i)

-- a list of whole pairs whose days rise
pub record Book (l : List ℕ) : Type 0 where
  pub pairs : length l % 2 ≡ 0
  pub rising : Rising (entries l)

-- "the chosen list ends inside a pair"
abbrev pub EndsInside : List ℕ → Type 0
EndsInside l = length l % 2 ≡ 1

-- "its days fail to rise somewhere in it, later days included"
pub record FailsToRise (es : List Entry) : Type 0 where
  pub at : ℕ
  pub among : suc at < length es
  pub fails : day_at es (suc at) ≤ day_at es at

-- every entry is up to the day; every entry is later
abbrev pub UpTo : ℕ → List Entry → Type 0
UpTo day es = (i : ℕ) → i < length es → day_at es i ≤ day

abbrev pub Later : ℕ → List Entry → Type 0
Later day es = (i : ℕ) → i < length es → day < day_at es i

-- "the run of entries up to that day": a front of the list, in whole pairs; its entries are up to the day, and those after it are later
pub record IsRun (day : ℕ) (l run : List ℕ) : Type 0 where
  pub rest : List ℕ
  pub whole : run ++ rest ≡ l
  pub pairs : length run % 2 ≡ 0
  pub up_to : UpTo day (entries run)
  pub later : Later day (entries rest)

-- "the price in use": that of the entry with the greatest day up to the trading day, "so an unpublished day takes the latest before it"
pub record InUse (day : ℕ) (es : List Entry) (price : ℕ) : Type 0 where
  pub at : ℕ
  pub among : at < length es
  pub up_to : day_at es at ≤ day
  pub greatest : (i : ℕ) → i < length es → day_at es i ≤ day → day_at es i ≤ day_at es at
  pub priced : (entry_at es at).price ≡ price
