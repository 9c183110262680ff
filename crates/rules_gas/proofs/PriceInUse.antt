-- The price in use is that of the entry with the greatest day up to the trading day (paper 02, 2.7; 39.7.1.1.1.3). Assumes nothing.
use Rattle.std.specs.Prelude.{None, Option, Some}
use mathlib.Core.Bool.{Bool, true, false, cond}
use mathlib.Core.List.{List, [], ◌∷◌}
use mathlib.Core.Logic.{◌↔◌, ⊎_elim}
use mathlib.Core.Path.{◌≡◌, refl, sym, ap, subst, ◌∙◌}
use Prim.Native.Nat.{ℕ, zero, suc, ◌≤◌, ◌<◌}
use native.Mathlib.Omega.{arith}
use borrow.Author.Tests.{ltb-false}
use Rattle.std.proofs.lemmas.Option.{none-some, same_Some}
use lib.Dec.{ltb}
use lib.ListN.{length, take}
use Rattle.rules_number.proofs.OverLaws.{le_or_lt}
use Rattle.rules_gas.specs.Book.{length_of_run, run_in, chosen, gas_run, book_refusal, gas_number, gas_value, last_price, price_in_use}
use Rattle.rules_gas.specs.Meaning.{Entry, entries, entry_at, day_at, Rising, Book, Later, InUse}
use Rattle.rules_gas.specs.declared.GasMarket.{GasMarket}
use Rattle.rules_gas.proofs.BookLaws.{last_number}
use Rattle.rules_gas.proofs.EntryLaws.{entry, rising_rest}
use Rattle.rules_gas.proofs.GasRun.{front, front_none, book_run}

-- ---- an earlier entry has a lower day
pub lower : (es : List Entry) → Rising es → (i j : ℕ) → i < j → j < length es → day_at es i < day_at es j
lower es r i zero h l = absurd (omega arith)
lower es r i (suc j) h l =
    let next = r j l in
    ⊎_elim
    (λ (k : j ≤ i). let e : i ≡ j = omega arith in subst (λ (x : ℕ). day_at es x < day_at es (suc j)) (sym e) next)
    (λ (k : i < j). let before = lower es r i j k (omega arith) in omega arith)
    (le_or_lt j i)

same_or_lower : (es : List Entry) → Rising es → (i j : ℕ) → i ≤ j → j < length es → day_at es i ≤ day_at es j
same_or_lower es r i j h l =
    ⊎_elim
    (λ (k : j ≤ i). let e : i ≡ j = omega arith in subst (λ (x : ℕ). day_at es x ≤ day_at es j) (sym e) (omega arith))
    (λ (k : i < j). let b = lower es r i j k l in omega arith)
    (le_or_lt j i)

-- ---- there is one price in use at most
same_entry : (day : ℕ) (es : List Entry) (p q : ℕ) → Rising es → (a : InUse day es p) → (b : InUse day es q) → a.at ≤ b.at
same_entry day es p q r a b =
    let day-of = b.greatest a.at a.among a.up_to in
    ⊎_elim (λ h. h) (λ (k : b.at < a.at). let d = lower es r b.at a.at k a.among in absurd (omega arith)) (le_or_lt a.at b.at)

pub in_use_only : (day : ℕ) (es : List Entry) (p q : ℕ) → Rising es → InUse day es p → InUse day es q → p ≡ q
in_use_only day es p q r a b =
    let h = same_entry day es p q r a b in
    let k = same_entry day es q p r b a in
    let e : a.at ≡ b.at = omega arith in
    sym a.priced ∙ ap (λ (i : ℕ). (entry_at es i).price) e ∙ b.priced

-- ---- the last price of a run that isn't empty is in use
record Found (day : ℕ) (l : List ℕ) (run : List ℕ) : Type 0 where
  price : ℕ
  last : last_price run ≡ Some price
  in_use : InUse day (entries l) price

-- the first entry alone is up to the day
first_alone : (day d p : ℕ) (l : List ℕ) → d ≤ day → Later day (entries l) → InUse day (entry d p ∷ entries l) p
first_alone day d p l h later = record {
  at = 0;
  among = omega arith;
  up_to = h;
  greatest = greatest;
  priced = refl;
}
  where
    greatest : (i : ℕ) → i < length (entry d p ∷ entries l) → day_at (entry d p ∷ entries l) i ≤ day → day_at (entry d p ∷ entries l) i ≤ d
    greatest zero m k = omega arith
    greatest (suc i) m k = let x = later i (omega arith) in absurd (omega arith)

-- an entry before them changes nothing where a later one is up to the day
one_before : (day d p price : ℕ) (l : List ℕ) → Rising (entry d p ∷ entries l) → InUse day (entries l) price → InUse day (entry d p ∷ entries l) price
one_before day d p price l r u =
    let m = u.among in
    record {
      at = suc u.at;
      among = omega arith;
      up_to = u.up_to;
      greatest = greatest;
      priced = u.priced;
    }
  where
    greatest : (i : ℕ) → i < length (entry d p ∷ entries l) → day_at (entry d p ∷ entries l) i ≤ day → day_at (entry d p ∷ entries l) i ≤ day_at (entries l) u.at
    greatest zero m k = let a = u.among in let b = lower (entry d p ∷ entries l) r 0 (suc u.at) (omega arith) (omega arith) in omega arith
    greatest (suc i) m k = u.greatest i (omega arith) k

found_more : (day d p : ℕ) (l t : List ℕ) → front day l ≡ t → d ≤ day → Rising (entry d p ∷ entries l) → ((t ≡ [] → ⊥) → Found day l t) → Found day (d ∷ p ∷ l) (d ∷ p ∷ t)
unfolding last_price
found_more day d p l [] e h r ih =
    record { price = p; last = refl; in_use = first_alone day d p l h (front_none day l (rising_rest (entry d p) (entries l) r) e) }
found_more day d p l (x ∷ t) e h r ih =
    let f = ih (λ z. let n = ap length z in absurd (omega arith)) in
    record { price = f.price; last = f.last; in_use = one_before day d p f.price l r f.in_use }

found_by : (day d p : ℕ) (l : List ℕ) (b : Bool) → ltb day d ≡ b → Rising (entry d p ∷ entries l) → (take (cond b 0 (suc (suc (length_of_run day l)))) (d ∷ p ∷ l) ≡ [] → ⊥)
    → ((front day l ≡ [] → ⊥) → Found day l (front day l)) → Found day (d ∷ p ∷ l) (take (cond b 0 (suc (suc (length_of_run day l)))) (d ∷ p ∷ l))
found_by day d p l true e r h ih = absurd (h refl)
found_by day d p l false e r h ih = found_more day d p l (front day l) refl (ltb-false day d e) r ih

found : (day : ℕ) (l : List ℕ) → Rising (entries l) → (front day l ≡ [] → ⊥) → Found day l (front day l)
unfolding length_of_run
found day [] r h = absurd (h refl)
found day (d ∷ []) r h = absurd (h refl)
found day (d ∷ p ∷ l) r h = found_by day d p l (ltb day d) refl r h (found day l (rising_rest (entry d p) (entries l) r))

-- ---- both ways
pub last_none : (run : List ℕ) → (last_price run ≡ None) ↔ (run ≡ [])
unfolding last_price
last_none [] = ((λ e. refl), λ e. refl)
last_none (x ∷ l) = ((λ e. absurd (none-some _ (sym e))), λ e. let n = ap length e in absurd (omega arith))

module _ (day : ℕ) (l : List ℕ) (book : Book l) (price : ℕ) where
  last_in_use : last_price (front day l) ≡ Some price → InUse day (entries l) price
  last_in_use e =
      let f = found day l book.rising (λ z. none-some price (sym ((last_none (front day l)).1 z) ∙ e)) in
      subst (InUse day (entries l)) (same_Some f.price price (sym f.last ∙ e)) f.in_use

  in_use_last : InUse day (entries l) price → last_price (front day l) ≡ Some price
  in_use_last u =
      let f = found day l book.rising (λ z. let k = front_none day l book.rising z u.at u.among in let m = u.up_to in absurd (omega arith)) in
      f.last ∙ ap (λ (p : ℕ). Some p) (in_use_only day (entries l) f.price price book.rising f.in_use u)

  pub price_exactly : (last_price (run_in day l) ≡ Some price) ↔ InUse day (entries l) price
  price_exactly = subst (λ (run : List ℕ). (last_price run ≡ Some price) ↔ InUse day (entries l) price) (book_run day l book) (last_in_use, in_use_last)

-- "The last entry of the run is the price in use, so an unpublished day takes the latest before it"
pub price_in_use_lem : (market : GasMarket) (day : ℕ) (ahead real : List ℕ) (price : ℕ) → Book (chosen market ahead real)
    → (price_in_use market day ahead real ≡ Some price) ↔ InUse day (entries (chosen market ahead real)) price
price_in_use_lem market day ahead real price book = price_exactly day (chosen market ahead real) book price

-- an entry's price is in use from its day on until the day before the next entry's
pub from_its_day : (day : ℕ) (es : List Entry) (i : ℕ) → Rising es → i < length es → day_at es i ≤ day → (suc i < length es → day < day_at es (suc i)) → InUse day es (entry_at es i).price
from_its_day day es i r l h next = record {
  at = i;
  among = l;
  up_to = h;
  greatest = greatest;
  priced = refl;
}
  where
    greatest : (j : ℕ) → j < length es → day_at es j ≤ day → day_at es j ≤ day_at es i
    greatest j m k =
        ⊎_elim
        (λ (b : j ≤ i). same_or_lower es r j i b l)
        (λ (b : i < j). let n = next (omega arith) in let d = same_or_lower es r (suc i) j (omega arith) m in absurd (omega arith))
        (le_or_lt j i)

-- ---- the numbers of an answer: 21 exactly where there is no price
pub gas_number_lem : (g : Option ℕ) → ((gas_number g ≡ 21) ↔ (g ≡ None)) × ((gas_number g ≡ 0) ↔ (g ≡ Some (gas_value g)))
gas_number_lem (Some p) = (((λ h. absurd (omega arith)), λ h. absurd (none-some p (sym h))), ((λ h. refl), λ h. refl))
gas_number_lem None = (((λ h. refl), λ h. refl), ((λ h. absurd (omega arith)), λ h. absurd (none-some 0 h)))

-- "an empty part handed back means 21"
pub book_number : (market : GasMarket) (day : ℕ) (ahead real : List ℕ)
    → (gas_number (price_in_use market day ahead real) ≡ book_refusal market day ahead real) × ((book_refusal market day ahead real ≡ 21) ↔ (gas_run market day ahead real ≡ []))
book_number market day ahead real =
    let run = gas_run market day ahead real in
    let e = last_number run in
    let n = (gas_number_lem (last_price run)).0 in
    let b = last_none run in
    (e, ((λ h. b.0 (n.0 (e ∙ h))), λ h. sym e ∙ n.1 (b.1 h)))
