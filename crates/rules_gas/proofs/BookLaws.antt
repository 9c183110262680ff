-- Laws of lists of pairs, from an index on: what a loop over a list needs. Assumes nothing.
use Rattle.std.specs.Prelude.{None, Some}
use Prim.Native.Nat.{ℕ, suc, ◌+◌, ◌-◌, ◌%◌, ◌≤◌, ◌<◌}
use mathlib.Core.Path.{◌≡◌, refl, sym, ap, ◌∙◌}
use mathlib.Core.List.{List, [], ◌∷◌}
use mathlib.Core.Bool.{Bool, true, false, cond, ◌&&◌}
use native.Mathlib.Omega.{arith}
use native.Mathlib.Nat.{add_assoc}
use native.Mathlib.Numerals.{add-one}
use borrow.Author.Tests.{lt-ltb, le-ltb, le-leb, lt-leb, eq-eqb, ne_eqb}
use lib.Dec.{leb, ltb, eqb}
use lib.ListN.{length, drop, take, get_or, length-drop}
use lib.Seq.{drop-cons}
use Rattle.rules_gas.specs.Book.{rise_from, days_rise, length_of_run, is_book, run_in, run_refusal, gas_number, last_price}

at_cons : (t : List ℕ) (i : ℕ) → i < length t → drop i t ≡ get_or t i 0 ∷ drop (i + 1) t
at_cons t i h = rw add-one (drop-cons t i 0 h)

-- a list from an index on, by its first pair
pub pair_at_lem : (l : List ℕ) (i : ℕ) → i + 2 ≤ length l → drop i l ≡ get_or l i 0 ∷ get_or l (i + 1) 0 ∷ drop (i + 2) l
pair_at_lem l i h =
    at_cons l i (omega arith)
    ∙ ap (λ (t : List ℕ). get_or l i 0 ∷ t) (at_cons l (i + 1) (omega arith) ∙ ap (λ (n : ℕ). get_or l (i + 1) 0 ∷ drop n l) (add_assoc i 1 1))

-- ---- the run's length
length_short : (day : ℕ) (l : List ℕ) → length l < 2 → length_of_run day l ≡ 0
unfolding length_of_run
length_short day [] h = refl
length_short day (d ∷ []) h = refl
length_short day (d ∷ p ∷ l) h = absurd (omega arith)

module _ (day : ℕ) (l : List ℕ) (i : ℕ) where
  pub none_more : length l - i < 2 → length_of_run day (drop i l) ≡ 0
  none_more h = let d = length-drop i l in length_short day (drop i l) (omega arith)

  by_pair : i + 2 ≤ length l → (b : Bool) → ltb day (get_or l i 0) ≡ b → length_of_run day (drop i l) ≡ cond b 0 (suc (suc (length_of_run day (drop (i + 2) l))))
  unfolding length_of_run
  by_pair h b e = ap (length_of_run day) (pair_at_lem l i h) ∙ ap (λ (x : Bool). cond x 0 (suc (suc (length_of_run day (drop (i + 2) l))))) e

  pub later_day : i + 2 ≤ length l → day < get_or l i 0 → length_of_run day (drop i l) ≡ 0
  later_day h k = by_pair h true (lt-ltb day (get_or l i 0) k)

  pub one_more : i + 2 ≤ length l → get_or l i 0 ≤ day → length_of_run day (drop i l) ≡ suc (suc (length_of_run day (drop (i + 2) l)))
  one_more h k = by_pair h false (le-ltb day (get_or l i 0) k)

-- ---- rising days
rise_short : (d : ℕ) (l : List ℕ) → length l < 2 → rise_from d l ≡ true
unfolding rise_from
rise_short d [] h = refl
rise_short d (e ∷ []) h = refl
rise_short d (e ∷ p ∷ l) h = absurd (omega arith)

pub days_short : (l : List ℕ) → length l < 2 → true ≡ days_rise l
unfolding days_rise
days_short [] h = refl
days_short (e ∷ []) h = refl
days_short (e ∷ p ∷ l) h = absurd (omega arith)

pub days_from : (l : List ℕ) → 2 ≤ length l → days_rise l ≡ rise_from (get_or l 0 0) (drop 2 l)
unfolding days_rise
days_from [] h = absurd (omega arith)
days_from (e ∷ []) h = absurd (omega arith)
days_from (e ∷ p ∷ l) h = refl

module _ (d : ℕ) (l : List ℕ) (i : ℕ) where
  pub all_rise : length l - i < 2 → rise_from d (drop i l) ≡ true
  all_rise h = let n = length-drop i l in rise_short d (drop i l) (omega arith)

  rise_by : i + 2 ≤ length l → (b : Bool) → leb (get_or l i 0) d ≡ b → rise_from d (drop i l) ≡ cond b false (rise_from (get_or l i 0) (drop (i + 2) l))
  unfolding rise_from
  rise_by h b e = ap (rise_from d) (pair_at_lem l i h) ∙ ap (λ (x : Bool). cond x false (rise_from (get_or l i 0) (drop (i + 2) l))) e

  pub no_rise : i + 2 ≤ length l → get_or l i 0 ≤ d → rise_from d (drop i l) ≡ false
  no_rise h k = rise_by h true (le-leb (get_or l i 0) d k)

  pub next_rise : i + 2 ≤ length l → d < get_or l i 0 → rise_from d (drop i l) ≡ rise_from (get_or l i 0) (drop (i + 2) l)
  next_rise h k = rise_by h false (lt-leb (get_or l i 0) d k)

-- ---- the run
and-false : (b : Bool) → b && false ≡ false
and-false true = refl
and-false false = refl

module _ (day : ℕ) (l : List ℕ) where
  run_by : (b : Bool) → is_book l ≡ b → cond b (take (length_of_run day l) l) [] ≡ run_in day l
  unfolding run_in
  run_by b e = ap (λ (x : Bool). cond x (take (length_of_run day l) l) []) (sym e)

  -- the list ends inside a pair
  pub run_odd : (length l % 2 ≡ 0 → ⊥) → [] ≡ run_in day l
  run_odd h = run_by false (ap (λ (x : Bool). x && days_rise l) (ne_eqb (length l % 2) 0 h))

  -- its days fail to rise
  pub run_fall : days_rise l ≡ false → [] ≡ run_in day l
  run_fall h = run_by false (ap (λ (x : Bool). eqb (length l % 2) 0 && x) h ∙ and-false (eqb (length l % 2) 0))

  pub run_is_front : length l % 2 ≡ 0 → days_rise l ≡ true → take (length_of_run day l) l ≡ run_in day l
  run_is_front h k = run_by true (ap (λ (x : Bool). x && days_rise l) (eq-eqb (length l % 2) 0 h) ∙ k)

-- ---- the last price
pub last_none : (l : List ℕ) → length l ≡ 0 → None ≡ last_price l
unfolding last_price
last_none [] h = refl
last_none (x ∷ l) h = absurd (omega arith)

pub last_is : (l : List ℕ) → (length l ≡ 0 → ⊥) → Some (get_or l (length l - 1) 0) ≡ last_price l
unfolding last_price
last_is [] h = absurd (h refl)
last_is (x ∷ l) h = let n : length (x ∷ l) - 1 ≡ length l = omega arith in ap (λ (i : ℕ). Some (get_or (x ∷ l) i 0)) n

-- and its number
pub last_number : (l : List ℕ) → gas_number (last_price l) ≡ run_refusal l
unfolding last_price
last_number [] = refl
last_number (x ∷ l) = rw (le-leb 1 (length (x ∷ l)) (omega arith)) refl
