-- The tests of a book say what they should of its entries. Assumes nothing.
use mathlib.Core.Bool.{Bool, true, false, cond}
use mathlib.Core.List.{List, [], ◌∷◌}
use mathlib.Core.Path.{◌≡◌, refl, sym}
use Prim.Native.Nat.{ℕ, zero, suc, ◌≤◌, ◌<◌}
use native.Mathlib.Omega.{arith}
use borrow.Author.Tests.{leb-true, leb-false}
use lib.Dec.{leb}
use lib.ListN.{length}
use Rattle.rules_number.proofs.OverLaws.{never}
use Rattle.rules_gas.specs.Book.{rise_from, days_rise}
use Rattle.rules_gas.specs.Meaning.{Entry, entries, day_at, Rising, FailsToRise, Later}

abbrev pub entry : ℕ → ℕ → Entry
entry d p = record { day = d; price = p }

-- ---- entries one by one
pub each : (P : ℕ → Type 0) (e : Entry) (es : List Entry) → P e.day → ((i : ℕ) → i < length es → P (day_at es i)) → (i : ℕ) → i < length (e ∷ es) → P (day_at (e ∷ es) i)
each P e es h t zero l = h
each P e es h t (suc i) l = t i (omega arith)

pub rest_of : (P : ℕ → Type 0) (e : Entry) (es : List Entry) → ((i : ℕ) → i < length (e ∷ es) → P (day_at (e ∷ es) i)) → (i : ℕ) → i < length es → P (day_at es i)
rest_of P e es h i l = h (suc i) (omega arith)

pub first_of : (P : ℕ → Type 0) (e : Entry) (es : List Entry) → ((i : ℕ) → i < length (e ∷ es) → P (day_at (e ∷ es) i)) → P e.day
first_of P e es h = h 0 (omega arith)

-- ---- days that rise
rising_more : (e f : Entry) (es : List Entry) → e.day < f.day → Rising (f ∷ es) → Rising (e ∷ f ∷ es)
rising_more e f es h r zero l = h
rising_more e f es h r (suc i) l = r i (omega arith)

pub rising_rest : (e : Entry) (es : List Entry) → Rising (e ∷ es) → Rising es
rising_rest e es r i l = r (suc i) (omega arith)

-- days that rise from one are later than whatever that one is later than
pub all_later : (day : ℕ) (e : Entry) (es : List Entry) → Rising (e ∷ es) → day < e.day → Later day (e ∷ es)
all_later day e [] r h = each (λ d. day < d) e [] h (λ i l. absurd (omega arith))
all_later day e (f ∷ es) r h =
    let k : e.day < f.day = r 0 (omega arith) in
    each (λ d. day < d) e (f ∷ es) h (all_later day f es (rising_rest e (f ∷ es) r) (omega arith))

rise_by : (d p e q : ℕ) (l : List ℕ) (b : Bool) → leb e d ≡ b → cond b false (rise_from e l) ≡ true → (rise_from e l ≡ true → Rising (entry e q ∷ entries l))
    → Rising (entry d p ∷ entry e q ∷ entries l)
rise_by d p e q l true t h ih = never h
rise_by d p e q l false t h ih = rising_more (entry d p) (entry e q) (entries l) (leb-false e d t) (ih h)

rise_true : (d p : ℕ) (l : List ℕ) → rise_from d l ≡ true → Rising (entry d p ∷ entries l)
unfolding rise_from
rise_true d p [] h = λ i l. absurd (omega arith)
rise_true d p (e ∷ []) h = λ i l. absurd (omega arith)
rise_true d p (e ∷ q ∷ l) h = rise_by d p e q l (leb e d) refl h (rise_true e q l)

pub days_true : (l : List ℕ) → days_rise l ≡ true → Rising (entries l)
unfolding days_rise
days_true [] h = λ i l. absurd (omega arith)
days_true (e ∷ []) h = λ i l. absurd (omega arith)
days_true (e ∷ q ∷ l) h = rise_true e q l h

-- ---- days that fail to rise
fail_first : (e f : Entry) (es : List Entry) → f.day ≤ e.day → FailsToRise (e ∷ f ∷ es)
fail_first e f es h = record { at = 0; among = omega arith; fails = h }

fail_more : (e : Entry) (es : List Entry) → FailsToRise es → FailsToRise (e ∷ es)
fail_more e es f = let l = f.among in record { at = suc f.at; among = omega arith; fails = f.fails }

fall_by : (d p e q : ℕ) (l : List ℕ) (b : Bool) → leb e d ≡ b → cond b false (rise_from e l) ≡ false → (rise_from e l ≡ false → FailsToRise (entry e q ∷ entries l))
    → FailsToRise (entry d p ∷ entry e q ∷ entries l)
fall_by d p e q l true t h ih = fail_first (entry d p) (entry e q) (entries l) (leb-true e d t)
fall_by d p e q l false t h ih = fail_more (entry d p) (entry e q ∷ entries l) (ih h)

rise_false : (d p : ℕ) (l : List ℕ) → rise_from d l ≡ false → FailsToRise (entry d p ∷ entries l)
unfolding rise_from
rise_false d p [] h = never (sym h)
rise_false d p (e ∷ []) h = never (sym h)
rise_false d p (e ∷ q ∷ l) h = fall_by d p e q l (leb e d) refl h (rise_false e q l)

pub days_false : (l : List ℕ) → days_rise l ≡ false → FailsToRise (entries l)
unfolding days_rise
days_false [] h = never (sym h)
days_false (e ∷ []) h = never (sym h)
days_false (e ∷ q ∷ l) h = rise_false e q l h

pub not_both : (es : List Entry) → Rising es → FailsToRise es → ⊥
not_both es r f = let a = r f.at f.among in let b = f.fails in omega arith

-- ---- both ways
falls_by : (l : List ℕ) (b : Bool) → days_rise l ≡ b → FailsToRise (entries l) → days_rise l ≡ false
falls_by l true e f = absurd (not_both (entries l) (days_true l e) f)
falls_by l false e f = e

pub days_fall : (l : List ℕ) → FailsToRise (entries l) → days_rise l ≡ false
days_fall l f = falls_by l (days_rise l) refl f

rises_by : (l : List ℕ) (b : Bool) → days_rise l ≡ b → Rising (entries l) → days_rise l ≡ true
rises_by l true e r = e
rises_by l false e r = absurd (not_both (entries l) r (days_false l e))

pub days_rise_lem : (l : List ℕ) → Rising (entries l) → days_rise l ≡ true
days_rise_lem l r = rises_by l (days_rise l) refl r
