-- Paper 02, 2.5: a text with 100 written, line by line. Assumes nothing.
use Prim.Native.Nat.{ℕ, zero, suc, ◌+◌, ◌*◌}
use mathlib.Core.List.{List, [], ◌∷◌, ◌++◌}
use mathlib.Core.Bool.{Bool, true, false, cond, ◌&&◌}
use mathlib.Core.Logic.{◌↔◌}
use mathlib.Core.Path.{◌≡◌, refl, sym, ap, ◌∙◌}
use native.Mathlib.Omega.{arith}
use lib.Dec.{eqb}
use lib.ListN.{length, get_or, length-append}
use Rattle.rules_number.proofs.OverLaws.{never}
use Rattle.rules_text.specs.Numbers.{Line, bytes, same, joined, lines}
use Rattle.rules_text.specs.Spelled.{together}
use Rattle.rules_text.proofs.NameLaws.{is_line, same_eq}
use Rattle.rules_text.proofs.ClosedLines.{lines_closed, together_lines, no_ten}
use Rattle.rules_run.specs.Formerly.{is_names, is_missing, with_hundreds, written, one, missing_in, line_of, MissingAfter, WrittenSays}

-- ---- by computation
pub record Writes : Type 0 where
  pub each : written (bytes "parameter\n-\nparameter\n-\n") ≡ bytes "parameter\n100\nparameter\n100\n"
  pub of_month : written (bytes "month\n-\n") ≡ bytes "month\n-\n"
  pub after_value : written (bytes "parameter\n0\n-\n") ≡ bytes "parameter\n0\n-\n"
  pub unclosed : written (bytes "parameter\n-") ≡ bytes "parameter\n-"
  pub no_line : written (bytes "parameter\n\n") ≡ bytes "parameter\n\n"

pub writes : Writes
unfolding written together
writes = record { each = refl; of_month = refl; after_value = refl; unclosed = refl; no_line = refl }

-- ---- the lines of a text: each is closed by its only byte 10, and the last may have none
data AreLines : List Line → Type 0 where
  none_left : AreLines []
  last : (b : ℕ) (l : Line) → no_ten (b ∷ l) ≡ true → AreLines ((b ∷ l) ∷ [])
  more : (l : Line) (ls : List Line) → is_line l ≡ true → AreLines ls → AreLines (l ∷ ls)

lines_are : (t : List ℕ) → AreLines (lines t)
lines_are [] = none_left
lines_are (b ∷ t) = go (eqb b 10) refl (lines_are t)
  where
    go : (d : Bool) → eqb b 10 ≡ d → {ls : List Line} → AreLines ls → AreLines (joined d b ls)
    go true e {ls} a = more (b ∷ []) ls (rw e refl) a
    go false e none_left = last b [] (rw e refl)
    go false e (last c l u) = last b (c ∷ l) (rw e u)
    go false e (more l ls h a) = more (b ∷ l) ls (rw e h) a

open_line : (b : ℕ) (l : Line) → no_ten (b ∷ l) ≡ true → lines ((b ∷ l) ++ []) ≡ (b ∷ l) ∷ []
open_line b [] h = go (eqb b 10) h
  where
    go : (d : Bool) → cond d false true ≡ true → joined d b [] ≡ (b ∷ []) ∷ []
    go true e = never e
    go false e = refl
open_line b (c ∷ l) h = go (eqb b 10) h (open_line c l)
  where
    go : (d : Bool) → cond d false (no_ten (c ∷ l)) ≡ true → (no_ten (c ∷ l) ≡ true → lines ((c ∷ l) ++ []) ≡ (c ∷ l) ∷ []) → joined d b (lines ((c ∷ l) ++ [])) ≡ (b ∷ c ∷ l) ∷ []
    go true e ih = never e
    go false e ih = ap (joined false b) (ih e)

lines_of : {ls : List Line} → AreLines ls → lines (together ls) ≡ ls
unfolding together
lines_of none_left = refl
lines_of (last b l u) = open_line b l u
lines_of (more l ls h a) = lines_closed l (together ls) h ∙ ap (λ (x : List Line). l ∷ x) (lines_of a)

-- 100 written leaves lines lines
written_are : (isDue : Bool) {ls : List Line} → AreLines ls → AreLines (with_hundreds isDue ls)
written_are isDue none_left = none_left
written_are isDue (last b l u) = go (is_missing isDue (b ∷ l))
  where
    go : (d : Bool) → AreLines (cond d (bytes "100\n") (b ∷ l) ∷ [])
    go true = more (bytes "100\n") [] refl none_left
    go false = last b l u
written_are isDue (more l ls h a) = go (is_missing isDue l) (with_hundreds (is_names l) ls) (written_are (is_names l) a)
  where
    go : (d : Bool) (rest : List Line) → AreLines rest → AreLines (cond d (bytes "100\n") l ∷ rest)
    go true rest r = more (bytes "100\n") rest refl r
    go false rest r = more l rest h r

-- each line stays one line
pub written_lines : (t : List ℕ) → lines (written t) ≡ with_hundreds false (lines t)
unfolding written
written_lines t = lines_of (written_are false (lines_are t))

-- ---- line by line
as_many : (isDue : Bool) (ls : List Line) → length (with_hundreds isDue ls) ≡ length ls
as_many isDue [] = refl
as_many isDue (l ∷ ls) = ap suc (as_many (is_names l) ls)

-- "-" is no empty line
none_there : (isDue : Bool) → cond (is_missing isDue []) (bytes "100\n") [] ≡ []
none_there true = refl
none_there false = refl

line_after : (isDue : Bool) (ls : List Line) (i : ℕ)
    → get_or (with_hundreds isDue ls) (suc i) [] ≡ cond (is_missing (is_names (get_or ls i [])) (get_or ls (suc i) [])) (bytes "100\n") (get_or ls (suc i) [])
line_after isDue [] i = refl
line_after isDue (l ∷ []) zero = sym (none_there (is_names l))
line_after isDue (l ∷ m ∷ ls) zero = refl
line_after isDue (l ∷ ls) (suc i) = line_after (is_names l) ls i

first_line : (ls : List Line) → get_or (with_hundreds false ls) 0 [] ≡ get_or ls 0 []
first_line [] = refl
first_line (l ∷ ls) = refl

-- a line that isn't a missing parameter stays
other_line : (p l : Line) → (p ≡ bytes "parameter\n" → l ≡ bytes "-\n" → ⊥) → cond (is_missing (is_names p) l) (bytes "100\n") l ≡ l
other_line p l h = go (is_names p) (same (bytes "-\n") l) refl refl
  where
    go : (a d : Bool) → is_names p ≡ a → same (bytes "-\n") l ≡ d → cond (a && d) (bytes "100\n") l ≡ l
    go true true e f = absurd (h (sym (same_eq (bytes "parameter\n") p e)) (sym (same_eq (bytes "-\n") l f)))
    go true false e f = refl
    go false d e f = refl

pub written_says : (t : List ℕ) → WrittenSays t
written_says t = record {
  as_many = ap length (written_lines t) ∙ as_many false (lines t);
  first = ap (λ (ls : List Line). get_or ls 0 []) (written_lines t) ∙ first_line (lines t);
  hundred = λ i m.
      at i ∙ ap (λ (p : Line). cond (is_missing (is_names p) (line_of t (suc i))) (bytes "100\n") (line_of t (suc i))) m.names
      ∙ ap (λ (l : Line). cond (is_missing true l) (bytes "100\n") l) m.value;
  other = λ i h. at i ∙ other_line (line_of t i) (line_of t (suc i)) (λ e f. h (record { names = e; value = f }));
}
  where
    at : (i : ℕ) → line_of (written t) (suc i) ≡ cond (is_missing (is_names (line_of t i)) (line_of t (suc i))) (bytes "100\n") (line_of t (suc i))
    at i = ap (λ (ls : List Line). get_or ls (suc i) []) (written_lines t) ∙ line_after false (lines t) i

-- ---- a text stays as it is exactly where no parameter is missing
rest_stays : (p : Line) (ls : List Line) → ((i : ℕ) → get_or (p ∷ ls) i [] ≡ bytes "parameter\n" → get_or ls i [] ≡ bytes "-\n" → ⊥) → with_hundreds (is_names p) ls ≡ ls
rest_stays p [] h = refl
rest_stays p (l ∷ ls) h = ap (λ (x : Line). x ∷ with_hundreds (is_names l) ls) (other_line p l (h 0)) ∙ ap (λ (x : List Line). l ∷ x) (rest_stays l ls (λ i. h (suc i)))

lines_stay : (ls : List Line) → ((i : ℕ) → get_or ls i [] ≡ bytes "parameter\n" → get_or ls (suc i) [] ≡ bytes "-\n" → ⊥) → with_hundreds false ls ≡ ls
lines_stay [] h = refl
lines_stay (l ∷ ls) h = ap (λ (x : List Line). l ∷ x) (rest_stays l ls h)

pub stays_exactly : (t : List ℕ) → (written t ≡ t) ↔ ((i : ℕ) → MissingAfter t i → ⊥)
unfolding written
stays_exactly t = (
  (λ e i m.
      let z : bytes "100\n" ≡ bytes "-\n" = sym ((written_says t).hundred i m) ∙ ap (λ (u : List ℕ). line_of u (suc i)) e ∙ m.value in
      let y : ◌≡◌ {A = ℕ} 4 2 = ap length z in omega (arith, y)),
  λ h. ap together (lines_stay (lines t) (λ i e f. h i (record { names = e; value = f }))) ∙ together_lines t,
)

-- nothing is missing once 100 is written
hundreds_again : (isDue : Bool) (ls : List Line) → with_hundreds isDue (with_hundreds isDue ls) ≡ with_hundreds isDue ls
hundreds_again isDue [] = refl
hundreds_again isDue (l ∷ ls) = go isDue (same (bytes "-\n") l) refl (hundreds_again (is_names l) ls)
  where
    go : (a d : Bool) → same (bytes "-\n") l ≡ d → with_hundreds (is_names l) (with_hundreds (is_names l) ls) ≡ with_hundreds (is_names l) ls
        → with_hundreds a (cond (a && d) (bytes "100\n") l ∷ with_hundreds (is_names l) ls) ≡ cond (a && d) (bytes "100\n") l ∷ with_hundreds (is_names l) ls
    go false d e ih = ap (λ (x : List Line). l ∷ x) ih
    go true false e ih = ap (λ (b : Bool). cond b (bytes "100\n") l ∷ with_hundreds (is_names l) (with_hundreds (is_names l) ls)) e ∙ ap (λ (x : List Line). l ∷ x) ih
    go true true e ih =
        let z : is_names l ≡ false = ap is_names (sym (same_eq (bytes "-\n") l e)) in
        ap (λ (x : List Line). bytes "100\n" ∷ x) (ap (λ (b : Bool). with_hundreds b (with_hundreds (is_names l) ls)) (sym z) ∙ ih)

pub no_more_missing : (t : List ℕ) → written (written t) ≡ written t
unfolding written
no_more_missing t = ap (λ (ls : List Line). together (with_hundreds false ls)) (written_lines t) ∙ ap together (hundreds_again false (lines t))

-- ---- two bytes more for each
hundred_by_two : (isDue : Bool) (l : Line) → length (cond (is_missing isDue l) (bytes "100\n") l) ≡ length l + 2 * one (is_missing isDue l)
hundred_by_two false l = omega arith
hundred_by_two true l = go (same (bytes "-\n") l) refl
  where
    go : (d : Bool) → same (bytes "-\n") l ≡ d → length (cond d (bytes "100\n") l) ≡ length l + 2 * one d
    go true e = omega (arith, ap length (same_eq (bytes "-\n") l e))
    go false e = omega arith

lines_by_two : (isDue : Bool) (ls : List Line) → length (together (with_hundreds isDue ls)) ≡ length (together ls) + 2 * missing_in isDue ls
unfolding together missing_in
lines_by_two isDue [] = refl
lines_by_two isDue (l ∷ ls) =
    omega (arith, hundred_by_two isDue l, lines_by_two (is_names l) ls, length-append l (together ls), length-append (cond (is_missing isDue l) (bytes "100\n") l) (together (with_hundreds (is_names l) ls)))

pub written_by_two : (t : List ℕ) → length (written t) ≡ length t + 2 * missing_in false (lines t)
unfolding written
written_by_two t = omega (arith, lines_by_two false (lines t), ap length (together_lines t))
