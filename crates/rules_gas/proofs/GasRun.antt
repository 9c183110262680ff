-- The run of a book, in the request's words (paper 02, 2.7). Assumes nothing.
use mathlib.Core.Bool.{Bool, true, false, cond}
use mathlib.Core.List.{List, [], ◌∷◌, ◌++◌, append_assoc}
use mathlib.Core.Logic.{◌↔◌, ◌⊎◌, inl, inr, ⊎_elim}
use mathlib.Core.Path.{◌≡◌, refl, sym, ap, subst, ◌∙◌}
use Prim.Native.Nat.{ℕ, suc, ◌%◌, ◌≤◌, ◌<◌}
use native.Mathlib.Omega.{arith}
use borrow.Author.Tests.{ltb-true, ltb-false, lt-ltb, le-ltb, eqb-true, eq-eqb}
use lib.Dec.{ltb, eqb}
use lib.ListN.{length, take, drop, take-append-drop}
use Rattle.rules_number.proofs.OverLaws.{never}
use Rattle.rules_gas.specs.Book.{days_rise, length_of_run, run_in, chosen, gas_run}
use Rattle.rules_gas.specs.Meaning.{Entry, entries, Rising, Book, EndsInside, FailsToRise, UpTo, Later, IsRun}
use Rattle.rules_gas.specs.declared.GasMarket.{GasMarket}
use Rattle.rules_gas.specs.declared.GasMarket.TheVariants.{DayAhead, RealTime}
use Rattle.rules_gas.proofs.BookLaws.{run_odd, run_fall, run_is_front}
use Rattle.rules_gas.proofs.EntryLaws.{entry, each, rest_of, first_of, rising_rest, all_later, days_true, days_false, days_fall, days_rise_lem}

-- the front that is taken of any list
abbrev pub front : ℕ → List ℕ → List ℕ
front day l = take (length_of_run day l) l

abbrev pub rest : ℕ → List ℕ → List ℕ
rest day l = drop (length_of_run day l) l

-- ---- the front's entries are up to the day, in whole pairs
up_by : (day d p : ℕ) (l : List ℕ) (b : Bool) → ltb day d ≡ b → UpTo day (entries (front day l))
    → UpTo day (entries (take (cond b 0 (suc (suc (length_of_run day l)))) (d ∷ p ∷ l)))
up_by day d p l true e ih = λ i h. absurd (omega arith)
up_by day d p l false e ih = each (λ x. x ≤ day) (entry d p) (entries (front day l)) (ltb-false day d e) ih

up_to_day : (day : ℕ) (l : List ℕ) → UpTo day (entries (front day l))
unfolding length_of_run
up_to_day day [] = λ i h. absurd (omega arith)
up_to_day day (d ∷ []) = λ i h. absurd (omega arith)
up_to_day day (d ∷ p ∷ l) = up_by day d p l (ltb day d) refl (up_to_day day l)

pairs_by : (day d p : ℕ) (l : List ℕ) (b : Bool) → length (front day l) % 2 ≡ 0 → length (take (cond b 0 (suc (suc (length_of_run day l)))) (d ∷ p ∷ l)) % 2 ≡ 0
pairs_by day d p l true ih = refl
pairs_by day d p l false ih = omega arith

in_pairs : (day : ℕ) (l : List ℕ) → length (front day l) % 2 ≡ 0
unfolding length_of_run
in_pairs day [] = refl
in_pairs day (d ∷ []) = refl
in_pairs day (d ∷ p ∷ l) = pairs_by day d p l (ltb day d) (in_pairs day l)

-- ---- the entries after it are later, where days rise
after_by : (day d p : ℕ) (l : List ℕ) (b : Bool) → ltb day d ≡ b → Rising (entry d p ∷ entries l) → Later day (entries (rest day l))
    → Later day (entries (drop (cond b 0 (suc (suc (length_of_run day l)))) (d ∷ p ∷ l)))
after_by day d p l true e r ih = all_later day (entry d p) (entries l) r (ltb-true day d e)
after_by day d p l false e r ih = ih

after_day : (day : ℕ) (l : List ℕ) → Rising (entries l) → Later day (entries (rest day l))
unfolding length_of_run
after_day day [] r = λ i h. absurd (omega arith)
after_day day (d ∷ []) r = λ i h. absurd (omega arith)
after_day day (d ∷ p ∷ l) r = after_by day d p l (ltb day d) refl r (after_day day l (rising_rest (entry d p) (entries l) r))

pub front_is : (day : ℕ) (l : List ℕ) → Book l → IsRun day l (front day l)
front_is day l k = record {
  rest = rest day l;
  whole = take-append-drop (length_of_run day l) l;
  pairs = in_pairs day l;
  up_to = up_to_day day l;
  later = after_day day l k.rising;
}

-- ---- a list is a book exactly when the test says so
pub book_run : (day : ℕ) (l : List ℕ) → Book l → front day l ≡ run_in day l
book_run day l k = run_is_front day l k.pairs (days_rise_lem l k.rising)

-- "the book hands back the run of entries up to that day"
pub run_is : (day : ℕ) (l : List ℕ) → Book l → IsRun day l (run_in day l)
run_is day l k = subst (IsRun day l) (book_run day l k) (front_is day l k)

-- ---- the only such front
later_none : (day : ℕ) (l : List ℕ) → Later day (entries l) → front day l ≡ []
unfolding length_of_run
later_none day [] h = refl
later_none day (d ∷ []) h = refl
later_none day (d ∷ p ∷ l) h = rw (lt-ltb day d (first_of (λ x. day < x) (entry d p) (entries l) h)) refl

only_front : (day : ℕ) (run rest : List ℕ) → length run % 2 ≡ 0 → UpTo day (entries run) → Later day (entries rest) → front day (run ++ rest) ≡ run
unfolding length_of_run
only_front day [] rest e u h = later_none day rest h
only_front day (d ∷ []) rest e u h = absurd (omega arith)
only_front day (d ∷ p ∷ run) rest e u h =
    let here = le-ltb day d (first_of (λ x. x ≤ day) (entry d p) (entries run) u) in
    let more = only_front day run rest (omega arith) (rest_of (λ x. x ≤ day) (entry d p) (entries run) u) h in
    rw here (ap (λ (t : List ℕ). d ∷ p ∷ t) more)

pub run_only : (day : ℕ) (l run : List ℕ) → Book l → IsRun day l run → run ≡ run_in day l
run_only day l run k x =
    sym (only_front day run x.rest x.pairs x.up_to x.later) ∙ ap (front day) x.whole ∙ book_run day l k

-- ---- 21
-- the run is empty exactly where no entry is up to the day
pub front_none : (day : ℕ) (l : List ℕ) → Rising (entries l) → front day l ≡ [] → Later day (entries l)
front_none day l r e = subst (λ (x : List ℕ). Later day (entries x)) (ap (λ (x : List ℕ). x ++ rest day l) (sym e) ∙ take-append-drop (length_of_run day l) l) (after_day day l r)

odd_one : (n : ℕ) → (n % 2 ≡ 0 → ⊥) → n % 2 ≡ 1
odd_one n h = omega arith

one_odd : (n : ℕ) → n % 2 ≡ 1 → n % 2 ≡ 0 → ⊥
one_odd n h k = omega arith

abbrev Why : ℕ → List ℕ → Type 0
Why day l = EndsInside l ⊎ (FailsToRise (entries l) ⊎ Later day (entries l))

why_by : (day : ℕ) (l : List ℕ) (even rise : Bool) → eqb (length l % 2) 0 ≡ even → days_rise l ≡ rise → run_in day l ≡ [] → Why day l
why_by day l false rise e d h = inl (odd_one (length l) (λ k. never (sym e ∙ eq-eqb (length l % 2) 0 k)))
why_by day l true false e d h = inr (inl (days_false l d))
why_by day l true true e d h =
    inr (inr (front_none day l (days_true l d) (run_is_front day l (eqb-true (length l % 2) 0 e) d ∙ h)))

none_by : (day : ℕ) (l : List ℕ) (even rise : Bool) → eqb (length l % 2) 0 ≡ even → days_rise l ≡ rise → Later day (entries l) → run_in day l ≡ []
none_by day l false rise e d h = sym (run_odd day l (λ k. never (sym e ∙ eq-eqb (length l % 2) 0 k)))
none_by day l true false e d h = sym (run_fall day l d)
none_by day l true true e d h = sym (run_is_front day l (eqb-true (length l % 2) 0 e) d) ∙ later_none day l h

pub empty_exactly : (day : ℕ) (l : List ℕ) → (run_in day l ≡ []) ↔ Why day l
empty_exactly day l = (
  why_by day l (eqb (length l % 2) 0) (days_rise l) refl refl,
  ⊎_elim (λ o. sym (run_odd day l (one_odd (length l) o))) (⊎_elim (λ f. sym (run_fall day l (days_fall l f))) (none_by day l (eqb (length l % 2) 0) (days_rise l) refl refl)),
)

-- "21, the chosen list ends inside a pair, its days fail to rise somewhere in it, later days included, or the run is empty .. an empty part handed back means 21"
pub twenty_one_exactly : (market : GasMarket) (day : ℕ) (ahead real : List ℕ) → (gas_run market day ahead real ≡ [])
    ↔ (EndsInside (chosen market ahead real) ⊎ (FailsToRise (entries (chosen market ahead real)) ⊎ Later day (entries (chosen market ahead real))))
twenty_one_exactly market day ahead real = empty_exactly day (chosen market ahead real)

-- ---- "The answer never depends on the other list": whatever that is, broken or not
pub other_list_unread : (day : ℕ) (l other other' : List ℕ) → (gas_run DayAhead day l other ≡ gas_run DayAhead day l other') × (gas_run RealTime day other l ≡ gas_run RealTime day other' l)
other_list_unread day l other other' = (refl, refl)

-- each market has its own list
pub own_list : (day : ℕ) (ahead real : List ℕ) → (gas_run DayAhead day ahead real ≡ run_in day ahead) × (gas_run RealTime day ahead real ≡ run_in day real)
own_list day ahead real = (refl, refl)

-- ---- entries later than the day
entries_append : (a b : List ℕ) → length a % 2 ≡ 0 → entries (a ++ b) ≡ entries a ++ entries b
entries_append [] b h = refl
entries_append (d ∷ []) b h = absurd (omega arith)
entries_append (d ∷ p ∷ a) b h = ap (λ (t : List Entry). entry d p ∷ t) (entries_append a b (omega arith))

later_append : (day : ℕ) (a b : List Entry) → Later day a → Later day b → Later day (a ++ b)
later_append day [] b h k = k
later_append day (e ∷ a) b h k =
    each (λ x. day < x) e (a ++ b) (first_of (λ x. day < x) e a h) (later_append day a b (rest_of (λ x. day < x) e a h) k)

rest_even : (run rest l : List ℕ) → run ++ rest ≡ l → length run % 2 ≡ 0 → length l % 2 ≡ 0 → length rest % 2 ≡ 0
rest_even [] rest l e h k = ap (λ (x : List ℕ). length x % 2) e ∙ k
rest_even (d ∷ []) rest l e h k = absurd (omega arith)
rest_even (d ∷ p ∷ run) rest l e h k = rest_even run rest (run ++ rest) refl (omega arith) (let z = ap length e in omega arith)

-- entries that come after a book's and are later than the day change no run up to it
pub later_entries_unused : (day : ℕ) (l more : List ℕ) → Book l → Book (l ++ more) → Later day (entries more) → run_in day (l ++ more) ≡ run_in day l
later_entries_unused day l more k k' h =
    let x = run_is day l k in
    let even = rest_even (run_in day l) x.rest l x.whole x.pairs k.pairs in
    sym (run_only day (l ++ more) (run_in day l) k' (record {
      rest = x.rest ++ more;
      whole = sym (append_assoc (run_in day l) x.rest more) ∙ ap (λ (t : List ℕ). t ++ more) x.whole;
      pairs = x.pairs;
      up_to = x.up_to;
      later = subst (Later day) (sym (entries_append x.rest more even)) (later_append day (entries x.rest) (entries more) x.later h);
    }))
