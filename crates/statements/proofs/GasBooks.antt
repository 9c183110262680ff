-- Paper 02, 2.7, in full: the run of a book of gas prices, the price in use, and 21. Assumes nothing.
use Rattle.std.specs.Prelude.{None, Option, Some}
use mathlib.Core.List.{List, [], ◌∷◌, ◌++◌}
use mathlib.Core.Logic.{◌↔◌, ◌⊎◌, inl, inr, ⊎_elim}
use mathlib.Core.Path.{◌≡◌, refl, sym, ap, subst}
use Prim.Native.Nat.{ℕ, suc, ◌%◌, ◌≤◌, ◌<◌}
use lib.IntN.{pos}
use lib.ListN.{length, get_or}
use Rattle.rules_curve.specs.Curves.{blank_curve, unless_refused}
use Rattle.rules_curve.specs.declared.Curve.{Curve}
use Rattle.rules_cost.specs.Costs.{cost_refusal, cost_curve}
use Rattle.rules_cost.specs.declared.Costs.{Costs}
use Rattle.rules_gas.specs.Book.{run_in, gas_run, last_price, price_in_use}
use Rattle.rules_gas.specs.Booked.{with_gas, booked_refusal, booked_curve}
use Rattle.rules_gas.specs.Meaning.{Entry, entries, Book, FailsToRise, IsRun, InUse}
use Rattle.rules_gas.specs.declared.GasMarket.TheVariants.{DayAhead, RealTime}
use Rattle.rules_gas.proofs.CostAfterBook.{cost_after_book, no_curve_lem, priced_as}
use Rattle.rules_gas.proofs.GasRun.{run_is, run_only, empty_exactly, later_entries_unused}
use Rattle.rules_gas.proofs.PriceInUse.{last_none, price_exactly, from_its_day}

-- a list of (day, price) by its pairs: how many they are, and day and price of pair i
abbrev Pairs : List ℕ → List (ℕ × ℕ)
Pairs [] = []
Pairs (d ∷ []) = []
Pairs (d ∷ p ∷ l) = (d, p) ∷ Pairs l

abbrev Count : List ℕ → ℕ
Count l = length (Pairs l)

abbrev Day : List ℕ → ℕ → ℕ
Day l i = (get_or (Pairs l) i (0, 0)).0

abbrev Price : List ℕ → ℕ → ℕ
Price l i = (get_or (Pairs l) i (0, 0)).1

count_is : (l : List ℕ) → length (entries l) ≡ Count l
count_is [] = refl
count_is (d ∷ []) = refl
count_is (d ∷ p ∷ l) = ap suc (count_is l)

day_is : (l : List ℕ) (i : ℕ) → get_or (entries l) i (record { day = 0; price = 0 }) ≡ record { day = Day l i; price = Price l i }
day_is [] i = refl
day_is (d ∷ []) i = refl
day_is (d ∷ p ∷ l) Prim.Native.Nat.zero = refl
day_is (d ∷ p ∷ l) (suc i) = day_is l i

abbrev entry_of : List Entry → ℕ → Entry
entry_of es i = get_or es i (record { day = 0; price = 0 })

-- what holds of each entry's day, said of the pairs, and back
told : (P : ℕ → Type 0) (l : List ℕ) → ((i : ℕ) → i < length (entries l) → P (entry_of (entries l) i).day) → (i : ℕ) → i < Count l → P (Day l i)
told P l h i b = subst (λ (e : Entry). P e.day) (day_is l i) (h i (subst (λ (n : ℕ). i < n) (sym (count_is l)) b))

back : (P : ℕ → Type 0) (l : List ℕ) → ((i : ℕ) → i < Count l → P (Day l i)) → (i : ℕ) → i < length (entries l) → P (entry_of (entries l) i).day
back P l h i b = subst (λ (e : Entry). P e.day) (sym (day_is l i)) (h i (subst (λ (n : ℕ). i < n) (count_is l) b))

-- a list of (day, price) "with days strictly rising"
abbrev IsBook : List ℕ → Type 0
IsBook l = (length l % 2 ≡ 0) × ((i : ℕ) → suc i < Count l → Day l i < Day l (suc i))

rising : (l : List ℕ) → IsBook l → (i : ℕ) → suc i < length (entries l) → (entry_of (entries l) i).day < (entry_of (entries l) (suc i)).day
rising l b i h =
    subst (λ (e : Entry). e.day < (entry_of (entries l) (suc i)).day) (sym (day_is l i))
    (subst (λ (e : Entry). Day l i < e.day) (sym (day_is l (suc i))) (b.1 i (subst (λ (n : ℕ). suc i < n) (count_is l) h)))

book : (l : List ℕ) → IsBook l → Book l
book l b = record { pairs = b.0; rising = rising l b }

-- "the run of entries up to that day": a front in whole pairs, each of its entries up to the day, each after it later
abbrev Run : ℕ → List ℕ → List ℕ → Type 0
Run day l run =
    (rest : List ℕ) × (run ++ rest ≡ l) × (length run % 2 ≡ 0) × ((i : ℕ) → i < Count run → Day run i ≤ day) × ((i : ℕ) → i < Count rest → day < Day rest i)

run_told : (day : ℕ) (l run : List ℕ) → IsRun day l run → Run day l run
run_told day l run x = (x.rest, x.whole, x.pairs, told (λ d. d ≤ day) run x.up_to, told (λ d. day < d) x.rest x.later)

run_back : (day : ℕ) (l run : List ℕ) → Run day l run → IsRun day l run
run_back day l run x = record {
  rest = x.0;
  whole = x.1;
  pairs = x.2;
  up_to = back (λ d. d ≤ day) run x.3;
  later = back (λ d. day < d) x.0 x.4;
}

-- "its days fail to rise somewhere in it, later days included"
abbrev Falls : List ℕ → Type 0
Falls l = (i : ℕ) × (suc i < Count l) × (Day l (suc i) ≤ Day l i)

falls_told : (l : List ℕ) → FailsToRise (entries l) → Falls l
falls_told l f = (
  f.at,
  subst (λ (n : ℕ). suc f.at < n) (count_is l) f.among,
  subst (λ (e : Entry). e.day ≤ Day l f.at) (day_is l (suc f.at)) (subst (λ (e : Entry). (entry_of (entries l) (suc f.at)).day ≤ e.day) (day_is l f.at) f.fails),
)

falls_back : (l : List ℕ) → Falls l → FailsToRise (entries l)
falls_back l f = record {
  at = f.0;
  among = subst (λ (n : ℕ). suc f.0 < n) (sym (count_is l)) f.1;
  fails = subst (λ (e : Entry). e.day ≤ (entry_of (entries l) f.0).day) (sym (day_is l (suc f.0))) (subst (λ (e : Entry). Day l (suc f.0) ≤ e.day) (sym (day_is l f.0)) f.2);
}

-- "the price in use": that of the entry with the greatest day up to the trading day
abbrev InUseOn : ℕ → List ℕ → ℕ → Type 0
InUseOn day l p = (i : ℕ) × (i < Count l) × (Day l i ≤ day) × ((j : ℕ) → j < Count l → Day l j ≤ day → Day l j ≤ Day l i) × (Price l i ≡ p)

use_told : (day : ℕ) (l : List ℕ) (p : ℕ) → InUse day (entries l) p → InUseOn day l p
use_told day l p u =
    let e = day_is l u.at in (
      u.at,
      subst (λ (n : ℕ). u.at < n) (count_is l) u.among,
      subst (λ (x : Entry). x.day ≤ day) e u.up_to,
      told (λ d. d ≤ day → d ≤ Day l u.at) l (λ j b k. subst (λ (x : Entry). (entry_of (entries l) j).day ≤ x.day) e (u.greatest j b k)),
      subst (λ (x : Entry). x.price ≡ p) e u.priced,
    )

use_back : (day : ℕ) (l : List ℕ) (p : ℕ) → InUseOn day l p → InUse day (entries l) p
use_back day l p u =
    let e = sym (day_is l u.0) in record {
      at = u.0;
      among = subst (λ (n : ℕ). u.0 < n) (sym (count_is l)) u.1;
      up_to = subst (λ (x : Entry). x.day ≤ day) e u.2;
      greatest = back (λ d. d ≤ day → d ≤ (entry_of (entries l) u.0).day) l (λ j b k. subst (λ (x : Entry). Day l j ≤ x.day) e (u.3 j b k));
      priced = subst (λ (x : Entry). x.price ≡ p) e u.4;
    }

-- what a book says of a trading day, by the list that is chosen: the run handed back, the price in use, and refusal and curve of costs at that price
pub record BookSays (day : ℕ) (l run : List ℕ) (price : Option ℕ) (refusal : Costs → ℕ) (curve : Costs → Curve) : Type 0 where
  -- "the book hands back the run of entries up to that day"
  pub handed_back : IsBook l → (x : List ℕ) → (x ≡ run) ↔ Run day l x
  -- "The last entry of the run is the price in use, so an unpublished day takes the latest before it"
  pub in_use : IsBook l → (p : ℕ) → (price ≡ Some p) ↔ InUseOn day l p
  -- "21, the chosen list ends inside a pair, its days fail to rise somewhere in it, later days included, or the run is empty .. an empty part handed back means 21"
  pub twenty_one : (run ≡ []) ↔ ((length l % 2 ≡ 1) ⊎ (Falls l ⊎ ((i : ℕ) → i < Count l → day < Day l i)))
  -- "found before any cost check": whatever the costs
  pub before_costs : (c : Costs) → (refusal c ≡ 21) ↔ (run ≡ [])
  pub no_curve_lem : (c : Costs) → run ≡ [] → curve c ≡ blank_curve
  -- else the default curve of the costs with that gas price, and their refusals
  pub at_price : (c : Costs) (p : ℕ) → price ≡ Some p → (refusal c ≡ cost_refusal (with_gas c p)) × (curve c ≡ unless_refused (cost_refusal (with_gas c p)) (cost_curve (with_gas c p)))
  -- every other number of the costs stays, and the gas price that stood there isn't looked at
  pub gas_price : (c : Costs) (p : ℕ) → with_gas c p ≡ record {
    count = c.count;
    points = c.points;
    gas = pos p;
    rate = c.rate;
    allowance = c.allowance;
    om = c.om;
    msc = c.msc;
    soc = c.soc;
    fee = c.fee;
  }
  -- no price exactly where the run is empty
  pub no_price : (price ≡ None) ↔ (run ≡ [])
  -- on other days: an entry's price is in use from its day on until the day before the next entry's
  pub from_its_day : IsBook l → (i : ℕ) → i < Count l → Day l i ≤ day → (suc i < Count l → day < Day l (suc i)) → price ≡ Some (Price l i)

gas_is : (c : Costs) (p : ℕ) → with_gas c p ≡ record {
  count = c.count;
  points = c.points;
  gas = pos p;
  rate = c.rate;
  allowance = c.allowance;
  om = c.om;
  msc = c.msc;
  soc = c.soc;
  fee = c.fee;
}
unfolding with_gas
gas_is c p = refl

module _ (day : ℕ) (l : List ℕ) where
  three : (run_in day l ≡ []) ↔ ((length l % 2 ≡ 1) ⊎ (Falls l ⊎ ((i : ℕ) → i < Count l → day < Day l i)))
  three =
      let e = empty_exactly day l in (
        (λ h. ⊎_elim inl (λ x. inr (⊎_elim (λ f. inl (falls_told l f)) (λ n. inr (told (λ d. day < d) l n)) x)) (e.0 h)),
        λ w. e.1 (⊎_elim inl (λ x. inr (⊎_elim (λ f. inl (falls_back l f)) (λ n. inr (back (λ d. day < d) l n)) x)) w),
      )

  handed : IsBook l → (x : List ℕ) → (x ≡ run_in day l) ↔ Run day l x
  handed b x = (
    (λ h. run_told day l x (subst (IsRun day l) (sym h) (run_is day l (book l b)))),
    λ r. run_only day l x (book l b) (run_back day l x r),
  )

  used : IsBook l → (p : ℕ) → (last_price (run_in day l) ≡ Some p) ↔ InUseOn day l p
  used b p = let e = price_exactly day l (book l b) p in ((λ h. use_told day l p (e.0 h)), λ u. e.1 (use_back day l p u))

  in_use_from : IsBook l → (i : ℕ) → i < Count l → Day l i ≤ day → (suc i < Count l → day < Day l (suc i)) → last_price (run_in day l) ≡ Some (Price l i)
  in_use_from b i h up next =
      (price_exactly day l (book l b) (Price l i)).1
      (subst (λ (e : Entry). InUse day (entries l) e.price) (day_is l i)
      (from_its_day day (entries l) i (book l b).rising (subst (λ (n : ℕ). i < n) (sym (count_is l)) h) (subst (λ (e : Entry). e.day ≤ day) (sym (day_is l i)) up)
      (λ k. subst (λ (e : Entry). day < e.day) (sym (day_is l (suc i))) (next (subst (λ (n : ℕ). suc i < n) (count_is l) k)))))

  -- "out of the day-ahead list or the real-time list .. The answer never depends on the other list": the other list is any
  pub day_ahead_book : (other : List ℕ) → BookSays day l (gas_run DayAhead day l other) (price_in_use DayAhead day l other) (booked_refusal DayAhead day l other) (booked_curve DayAhead day l other)
  day_ahead_book other = record {
    handed_back = handed;
    in_use = used;
    twenty_one = three;
    before_costs = cost_after_book DayAhead day l other;
    no_curve_lem = no_curve_lem DayAhead day l other;
    at_price = priced_as DayAhead day l other;
    gas_price = λ c p. gas_is c p;
    no_price = last_none (run_in day l);
    from_its_day = in_use_from;
  }

  pub real_time_book : (other : List ℕ) → BookSays day l (gas_run RealTime day other l) (price_in_use RealTime day other l) (booked_refusal RealTime day other l) (booked_curve RealTime day other l)
  real_time_book other = record {
    handed_back = handed;
    in_use = used;
    twenty_one = three;
    before_costs = cost_after_book RealTime day other l;
    no_curve_lem = no_curve_lem RealTime day other l;
    at_price = priced_as RealTime day other l;
    gas_price = λ c p. gas_is c p;
    no_price = last_none (run_in day l);
    from_its_day = in_use_from;
  }

  -- entries that follow and are later than the day change nothing
  pub later_unused : (more : List ℕ) → IsBook l → IsBook (l ++ more) → ((i : ℕ) → i < Count more → day < Day more i) → run_in day (l ++ more) ≡ run_in day l
  later_unused more b b' h = later_entries_unused day l more (book l b) (book (l ++ more) b') (back (λ d. day < d) more h)
