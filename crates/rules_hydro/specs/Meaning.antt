-- What the hydro price is, in the request's words (paper 02, 2.8).
use Rattle.std.specs.Prelude.{◌⊎◌, ◌≡◌, ℕ, ◌<◌, ◌≤◌, ℤ, pos, ◌-ℤ◌, ◌*ℤ◌, ◌≤ℤ◌, ◌<ℤ◌, List}
use Rattle.rules_hydro.specs.Hydros.{peak, balance, month}
use Rattle.rules_hydro.specs.declared.Hydro.{Hydro}

-- "up": z is the least whole number at or above n / w
pub record Up (n w z : ℤ) : Type 0 where
  pub at_or_above : n ≤ℤ (z *ℤ w)
  pub least : ((z -ℤ pos 1) *ℤ w) <ℤ n

-- "the largest of": z is one of those, and none of them is above it
pub record Largest (Is : ℤ → Type 0) (z : ℤ) : Type 0 where
  pub one : Is z
  pub at_least : (y : ℤ) → Is y → y ≤ℤ z

-- "n/10 of the largest of", up
pub record Tenths (n : ℕ) (Is : ℤ → Type 0) (z : ℤ) : Type 0 where
  pub of : ℤ
  pub largest : Largest Is of
  pub up : Up (pos n *ℤ of) (pos 10) z

-- "the day-ahead peak, balance-of-month and next-month prices at the default hub": "The first hub is the default one, and the first monthly price is next month's."
abbrev pub AtDefaultHub : List ℤ → ℤ → Type 0
AtDefaultHub prices p = (p ≡ peak prices 0) ⊎ ((p ≡ balance prices 0) ⊎ (p ≡ month prices 0 1))

-- "day-ahead peak, balance-of-month and the monthly prices up to the storage horizon", n months, of hub i
pub record MonthTo (prices : List ℤ) (i n : ℕ) (p : ℤ) : Type 0 where
  pub k : ℕ
  pub from : 1 ≤ k
  pub to : k ≤ n
  pub is : p ≡ month prices i k

abbrev pub AtHub : List ℤ → ℕ → ℕ → ℤ → Type 0
AtHub prices i n p = (p ≡ peak prices i) ⊎ ((p ≡ balance prices i) ⊎ MonthTo prices i n p)

-- "over 1 to 4 hubs"
pub record AtHubs (prices : List ℤ) (hubs n : ℕ) (p : ℤ) : Type 0 where
  pub hub : ℕ
  pub counted : hub < hubs
  pub one : AtHub prices hub n p

-- "the largest of three amounts"
abbrev pub OneOf : ℤ → ℤ → ℤ → ℤ → Type 0
OneOf a b c y = (y ≡ a) ⊎ ((y ≡ b) ⊎ (y ≡ c))

-- "priced at the largest of three amounts, each up: 11 × H × gas / 10,000; 14/10 of the largest of ..; 11/10 of the largest of .."
pub record Priced (x : Hydro) (p : ℤ) : Type 0 where
  pub floor : ℤ
  pub short : ℤ
  pub long : ℤ
  pub gas_floor_lem : Up (pos 11 *ℤ x.heat *ℤ x.gas) (pos 10000) floor
  pub short_term : Tenths 14 (AtDefaultHub x.prices) short
  pub long_term_lem : Tenths 11 (AtHubs x.prices x.hubs x.horizon) long
  pub largest : Largest (OneOf floor short long) p

-- ---- two of them
-- "All else the same, the price tables too"
pub record SameButSize (x y : Hydro) : Type 0 where
  pub low : x.low ≡ y.low
  pub high : x.high ≡ y.high
  pub heat : x.heat ≡ y.heat
  pub gas : x.gas ≡ y.gas
  pub prices : x.prices ≡ y.prices

-- "Prices past the horizon or the hub count aren't read": all the same but those
pub record SameRead (x y : Hydro) : Type 0 where
  pub low : x.low ≡ y.low
  pub high : x.high ≡ y.high
  pub heat : x.heat ≡ y.heat
  pub gas : x.gas ≡ y.gas
  pub hubs : x.hubs ≡ y.hubs
  pub horizon : x.horizon ≡ y.horizon
  pub peaks : (i : ℕ) → i < x.hubs → peak x.prices i ≡ peak y.prices i
  pub balances : (i : ℕ) → i < x.hubs → balance x.prices i ≡ balance y.prices i
  pub months : (i k : ℕ) → i < x.hubs → 1 ≤ k → k ≤ x.horizon → month x.prices i k ≡ month y.prices i k
