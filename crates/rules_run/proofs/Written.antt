-- Paper 02, 2.5: "The classroom hours that leaned on the old value must write 100 and, where that stays within 65,536 bytes, print as before." Whatever a
-- missing parameter means now, a text with 100 written prints what it printed while a missing one meant 100, and ends as it did. Assumes nothing.
use Rattle.std.specs.Prelude.{None, Option, Some}
use Prim.Native.Nat.{ℕ, zero, suc, ◌+◌}
use Prim.Native.String.{String}
use mathlib.Core.List.{List, [], ◌∷◌, ◌++◌}
use mathlib.Core.Bool.{Bool, true, false, cond}
use mathlib.Core.Path.{◌≡◌, refl, sym, ap, ◌∙◌}
use native.Mathlib.Omega.{arith}
use borrow.Author.Tests.{le-ltb}
use lib.Dec.{ltb}
use lib.ListN.{length, drop}
use lib.IntN.{ℤ, pos}
use Rattle.rules_opening.specs.Openings.{opening_refusal}
use Rattle.rules_hour.specs.Hours.{Hour, hour_refusal, hour_after}
use Rattle.rules_hour.specs.Opened.{opened_hour}
use Rattle.rules_text.specs.Numbers.{Line, Row, bytes, row, number, magnitude, same, lines}
use Rattle.rules_text.specs.Tables.{Reading, faulty, found, Reader, next, ◌▷◌, taken, due, headed, single, if_suits, has_id, and_more, run, rows, counted, each, grouped, pairs}
use Rattle.rules_text.specs.Printing.{refusal_text}
use Rattle.rules_text.proofs.NameLaws.{same_eq}
use Rattle.rules_parts.specs.Parts.{opening_of, read_opening, is_factor, place_of, factor_rows, interval_of, parameter_by, read_interval_by, missing_parameter}
use Rattle.rules_run.specs.Run.{part, answer, page_of, intervals_by, parts_text_by, output_by, output, Ended, ended_by, part_end, answer_end, intervals_end_by, parts_end_by, end_with, end_of}
use Rattle.rules_run.specs.Formerly.{output_formerly, end_formerly, is_names, with_hundreds, written, StaysWithin, PrintsAsBefore, EndsAsBefore, MissingAfter}
use Rattle.rules_run.proofs.WrittenLines.{written_lines, stays_exactly, written_by_two}

-- ---- readers that find the same in lines where 100 is written as in the lines as they were
-- what was read, with 100 written in the lines after it
abbrev rest_written : {A : Type 0} → Reading A → Reading A
rest_written (faulty k) = faulty k
rest_written (found a n ls) = found a n (with_hundreds false ls)

-- a reader finds in lines where 100 is written what another finds in the lines as they were
record Agree {A : Type 0} (now formerly : Reader A) : Type 0 where
  on : (n : ℕ) (ls : List Line) → now n (with_hundreds false ls) ≡ rest_written (formerly n ls)

found_agree : {A : Type 0} (a : A) → Agree (found a) (found a)
found_agree a = record { on = λ n ls. refl }

then_agree : {A B : Type 0} {m m' : Reader A} {f f' : A → Reader B} → Agree m m' → ((a : A) → Agree (f a) (f' a)) → Agree (m ▷ f) (m' ▷ f')
then_agree {A} {B} {m} {m'} {f} {f'} u w = record { on = λ n ls. ap (λ (r : Reading A). next r f) (u.on n ls) ∙ go (m' n ls) }
  where
    go : (r : Reading A) → next (rest_written r) f ≡ rest_written (next r f')
    go (faulty k) = refl
    go (found a k rest) = (w a).on k rest

module _ {A : Type 0} where
  -- the names of the parameter's table are no line that is due
  due_on : (is : Line → Option A) → is (bytes "parameter\n") ≡ None → (n : ℕ) (ls : List Line) → due is n (with_hundreds false ls) ≡ rest_written (due is n ls)
  unfolding due
  due_on is h n [] = refl
  due_on is h n (l ∷ ls) = go (is_names l) refl
    where
      other : (o : Option A) → taken o n (with_hundreds false ls) ≡ rest_written (taken o n ls)
      other None = refl
      other (Some a) = refl

      go : (d : Bool) → is_names l ≡ d → taken (is l) n (with_hundreds d ls) ≡ rest_written (taken (is l) n ls)
      go true e =
          let z : is l ≡ None = ap is (sym (same_eq (bytes "parameter\n") l e)) ∙ h in
          ap (λ (o : Option A). taken o n (with_hundreds true ls)) z ∙ sym (ap (λ (o : Option A). rest_written (taken o n ls)) z)
      go false e = other (is l)

  due_agree : (is : Line → Option A) → is (bytes "parameter\n") ≡ None → Agree (due is) (due is)
  due_agree is h = record { on = due_on is h }

  -- a table of other names
  headed_on : (names : String) (now formerly : Reader A) → is_names (bytes names) ≡ false → Agree now formerly
      → (n : ℕ) (ls : List Line) → headed names now n (with_hundreds false ls) ≡ rest_written (headed names formerly n ls)
  unfolding headed
  headed_on names now formerly other u n [] = refl
  headed_on names now formerly other u n (l ∷ ls) = go (same (bytes names) l) refl
    where
      go : (d : Bool) → same (bytes names) l ≡ d → cond d (now (suc n) (with_hundreds (is_names l) ls)) (faulty (suc n)) ≡ rest_written (cond d (formerly (suc n) ls) (faulty (suc n)))
      go true e =
          let z : is_names l ≡ false = ap is_names (sym (same_eq (bytes names) l e)) ∙ other in
          ap (λ (d : Bool). now (suc n) (with_hundreds d ls)) z ∙ u.on (suc n) ls
      go false e = refl

  headed_agree : {now formerly : Reader A} (names : String) → is_names (bytes names) ≡ false → Agree now formerly → Agree (headed names now) (headed names formerly)
  headed_agree {now} {formerly} names other u = record { on = headed_on names now formerly other u }

-- no numbers stand in the names of the parameter's table
names_no_row : (k : ℕ) → row k (bytes "parameter\n") ≡ None
unfolding row number magnitude
names_no_row zero = refl
names_no_row (suc k) = refl

no_names : (k : ℕ) (suits : Row → Bool) (l : Line) (x : Row) → if_suits suits (row k l) ≡ Some x → is_names l ≡ false
no_names k suits l x e = go (is_names l) refl
  where
    go : (d : Bool) → is_names l ≡ d → d ≡ false
    go true q =
        let z : row k l ≡ None = ap (row k) (sym (same_eq (bytes "parameter\n") l q)) ∙ names_no_row k in
        let y : Some x ≡ None = sym e ∙ ap (if_suits suits) z in absurd (let o : ◌≡◌ {A = ℕ} 0 1 = cc in omega arith)
    go false q = refl

-- a run of rows ends before the names of the parameter's table
module _ (k : ℕ) (suits : ℕ → Row → Bool) (after : ℕ → Row → ℕ) where
  run_on : (i : ℕ) (ls : List Line) → run k suits after i (with_hundreds false ls) ≡ run k suits after i ls
  unfolding run
  run_on i [] = refl
  run_on i (l ∷ ls) = go (if_suits (suits i) (row k l)) refl (λ j. run_on j ls)
    where
      go : (o : Option Row) → if_suits (suits i) (row k l) ≡ o → ((j : ℕ) → run k suits after j (with_hundreds false ls) ≡ run k suits after j ls)
          → and_more o (λ x. run k suits after (after i x) (with_hundreds (is_names l) ls)) ≡ and_more o (λ x. run k suits after (after i x) ls)
      go None e ih = refl
      go (Some x) e ih = ap (λ (d : Bool). x ∷ run k suits after (after i x) (with_hundreds d ls)) (no_names k (suits i) l x e) ∙ ap (λ (t : List Row). x ∷ t) (ih (after i x))

  past_on : (i : ℕ) (ls : List Line) → drop (length (run k suits after i ls)) (with_hundreds false ls) ≡ with_hundreds false (drop (length (run k suits after i ls)) ls)
  unfolding run
  past_on i [] = refl
  past_on i (l ∷ ls) = go (if_suits (suits i) (row k l)) refl (λ j. past_on j ls)
    where
      go : (o : Option Row) → if_suits (suits i) (row k l) ≡ o
          → ((j : ℕ) → drop (length (run k suits after j ls)) (with_hundreds false ls) ≡ with_hundreds false (drop (length (run k suits after j ls)) ls))
          → drop (length (and_more o (λ x. run k suits after (after i x) ls))) (l ∷ with_hundreds (is_names l) ls)
          ≡ with_hundreds false (drop (length (and_more o (λ x. run k suits after (after i x) ls))) (l ∷ ls))
      go None e ih = refl
      go (Some x) e ih = ap (λ (d : Bool). drop (length (run k suits after (after i x) ls)) (with_hundreds d ls)) (no_names k (suits i) l x e) ∙ ih (after i x)

  rows_agree : (i : ℕ) → Agree (rows (run k suits after i)) (rows (run k suits after i))
  unfolding rows
  rows_agree i =
      record {
        on = λ n ls.
            ap (λ (t : List Row). found t (n + length t) (drop (length t) (with_hundreds false ls))) (run_on i ls)
            ∙ ap (found (run k suits after i ls) (n + length (run k suits after i ls))) (past_on i ls);
      }

counted_agree : (k : ℕ) → Agree (counted k) (counted k)
unfolding counted
counted_agree k = rows_agree k has_id (λ i x. suc i) 0

pairs_agree : (r : ℕ) → Agree (rows (pairs r)) (rows (pairs r))
unfolding pairs
pairs_agree r = rows_agree 3 (λ i. has_id r) (λ i x. i) 0

factors_agree : (n m : ℕ) → Agree (rows (factor_rows n m)) (rows (factor_rows n m))
unfolding factor_rows
factors_agree n m = rows_agree 3 (is_factor n m) (λ i x. suc (place_of m x)) 0

grouped_agree : (m r : ℕ) → Agree (grouped pairs m r) (grouped pairs m r)
unfolding grouped
grouped_agree zero r = found_agree []
grouped_agree (suc m) r = then_agree (pairs_agree r) λ g. then_agree (grouped_agree m (suc r)) λ gs. found_agree (g ∷ gs)

each_agree : (k m r : ℕ) → Agree (each k m r) (each k m r)
unfolding each
each_agree k zero r = found_agree []
each_agree k (suc m) r = then_agree (due_agree (λ l. if_suits (has_id r) (row k l)) (ap (if_suits (has_id r)) (names_no_row k))) λ x. then_agree (each_agree k m (suc r)) λ xs. found_agree (x ∷ xs)

no_single : single (bytes "parameter\n") ≡ None
unfolding single row number magnitude
no_single = refl

opening_agree : Agree read_opening read_opening
unfolding read_opening
opening_agree =
    then_agree (headed_agree "month\n" refl (due_agree single no_single)) λ month.
    then_agree (headed_agree "portfolio seller\n" refl (counted_agree 2)) λ portfolios.
    then_agree (headed_agree "resource portfolio start\n" refl (counted_agree 3)) λ resources.
    then_agree (headed_agree "resource end price\n" refl (grouped_agree (length resources) 0)) λ steps.
    then_agree (headed_agree "resource mw heat\n" refl (grouped_agree (length resources) 0)) λ points.
    then_agree (headed_agree "resource gas rate allowance om msc soc fee\n" refl (each_agree 8 (length resources) 0)) λ costs.
    found_agree (opening_of month portfolios resources steps points costs)

-- what is made of a reading is the same where that of what is found is: `of` is part, or part_end
module _ {A B : Type 0} (of : Reading A → (A → ℕ → List Line → B) → B) (fault : ℕ → B) (at-fault : (k : ℕ) (values : A → ℕ → List Line → B) → of (faulty k) values ≡ fault k)
    (when-found : (a : A) (n : ℕ) (ls : List Line) (values : A → ℕ → List Line → B) → of (found a n ls) values ≡ values a n ls) where
  values_written : (r : Reading A) (now formerly : A → ℕ → List Line → B) → ((a : A) (n : ℕ) (ls : List Line) → now a n (with_hundreds false ls) ≡ formerly a n ls)
      → of (rest_written r) now ≡ of r formerly
  values_written (faulty k) now formerly h = at-fault k now ∙ sym (at-fault k formerly)
  values_written (found a n ls) now formerly h = when-found a n (with_hundreds false ls) now ∙ h a n ls ∙ sym (when-found a n ls formerly)

  same_values : (s r : Reading A) → s ≡ rest_written r → (now formerly : A → ℕ → List Line → B) → ((a : A) (n : ℕ) (ls : List Line) → now a n (with_hundreds false ls) ≡ formerly a n ls)
      → of s now ≡ of r formerly
  same_values s r e now formerly h = ap (λ (x : Reading A). of x now) e ∙ values_written r now formerly h

-- ---- whatever a missing parameter means, a written 100 is 100
module _ (missing : ℤ) where
  hundred_is : parameter_by missing (bytes "100\n") ≡ Some (pos 100)
  unfolding parameter_by single row number magnitude
  hundred_is = refl

  -- the line after the names
  due_hundred : (n : ℕ) (ls : List Line) → due (parameter_by missing) n (with_hundreds true ls) ≡ rest_written (due (parameter_by (pos 100)) n ls)
  unfolding due parameter_by
  due_hundred n [] = refl
  due_hundred n (l ∷ ls) = go (same (bytes "-\n") l) refl
    where
      go : (d : Bool) → same (bytes "-\n") l ≡ d
          → taken (parameter_by missing (cond d (bytes "100\n") l)) n (with_hundreds (is_names l) ls) ≡ rest_written (taken (cond d (Some (pos 100)) (single l)) n ls)
      go true e =
          ap (λ (o : Option ℤ). taken o n (with_hundreds (is_names l) ls)) hundred_is
          ∙ ap (λ (d : Bool). found (pos 100) (suc n) (with_hundreds d ls)) (ap is_names (sym (same_eq (bytes "-\n") l e)))
      go false e =
          ap (λ (d : Bool). taken (cond d (Some missing) (single l)) n (with_hundreds (is_names l) ls)) e
          ∙ due_on single no_single n (l ∷ ls)

  parameter_on : (n : ℕ) (ls : List Line) → headed "parameter\n" (due (parameter_by missing)) n (with_hundreds false ls) ≡ rest_written (headed "parameter\n" (due (parameter_by (pos 100))) n ls)
  unfolding headed
  parameter_on n [] = refl
  parameter_on n (l ∷ ls) = go (is_names l)
    where
      go : (d : Bool) → cond d (due (parameter_by missing) (suc n) (with_hundreds d ls)) (faulty (suc n)) ≡ rest_written (cond d (due (parameter_by (pos 100)) (suc n) ls) (faulty (suc n)))
      go true = due_hundred (suc n) ls
      go false = refl

  parameter_agree : Agree (headed "parameter\n" (due (parameter_by missing))) (headed "parameter\n" (due (parameter_by (pos 100))))
  parameter_agree = record { on = parameter_on }

  interval_agree : Agree (read_interval_by missing) (read_interval_by (pos 100))
  unfolding read_interval_by
  interval_agree =
      then_agree (headed_agree "constraint shadow\n" refl (counted_agree 2)) λ constraints.
      then_agree (headed_agree "resource lmp dispatch available floor\n" refl (counted_agree 5)) λ resources.
      then_agree (headed_agree "resource constraint factor\n" refl (factors_agree (length resources) (length constraints))) λ factors.
      then_agree parameter_agree λ parameter.
      found_agree (interval_of constraints resources factors parameter)

  -- ---- the run
  intervals_agree : (f i : ℕ) (h : Hour) (n : ℕ) (ls : List Line) → intervals_by missing f i h n (with_hundreds false ls) ≡ intervals_by (pos 100) f i h n ls
  unfolding intervals_by
  intervals_agree zero i h n ls = refl
  intervals_agree (suc f) i h n [] = refl
  intervals_agree (suc f) i h n (l ∷ ls) =
      same_values part (refusal_text 17) (λ k values. refl) (λ v m rest values. refl) _ (read_interval_by (pos 100) n (l ∷ ls)) (interval_agree.on n (l ∷ ls)) _ _
      (λ v m rest. ap (λ (t : List ℕ). answer m (hour_refusal h v) (page_of i h v ++ t)) (intervals_agree f (suc i) (hour_after h v) m rest))

  parts_agree : (ls : List Line) → parts_text_by missing (with_hundreds false ls) ≡ parts_text_by (pos 100) ls
  unfolding parts_text_by
  parts_agree ls =
      same_values part (refusal_text 17) (λ k values. refl) (λ o n rest values. refl) _ (read_opening 0 ls) (opening_agree.on 0 ls) _ _
      (λ o n rest. ap (λ (t : List ℕ). answer n (opening_refusal o) t) (intervals_agree 5 1 (opened_hour o) n rest))

  intervals_end_agree : (f : ℕ) (h : Hour) (n : ℕ) (ls : List Line) → intervals_end_by missing f h n (with_hundreds false ls) ≡ intervals_end_by (pos 100) f h n ls
  unfolding intervals_end_by
  intervals_end_agree zero h n ls = refl
  intervals_end_agree (suc f) h n [] = refl
  intervals_end_agree (suc f) h n (l ∷ ls) =
      same_values part_end (ended_by 17) (λ k values. refl) (λ v m rest values. refl) _ (read_interval_by (pos 100) n (l ∷ ls)) (interval_agree.on n (l ∷ ls)) _ _
      (λ v m rest. ap (answer_end m (hour_refusal h v)) (intervals_end_agree f (hour_after h v) m rest))

  parts_end_agree : (ls : List Line) → parts_end_by missing (with_hundreds false ls) ≡ parts_end_by (pos 100) ls
  unfolding parts_end_by
  parts_end_agree ls =
      same_values part_end (ended_by 17) (λ k values. refl) (λ o n rest values. refl) _ (read_opening 0 ls) (opening_agree.on 0 ls) _ _
      (λ o n rest. ap (answer_end n (opening_refusal o)) (intervals_end_agree 5 (opened_hour o) n rest))

-- ---- a whole text
-- of at most 65,536 bytes
module _ {B : Type 0} (t : List ℕ) (h : StaysWithin t) (long : B) where
  now_read : (short : B) → cond (ltb 65536 (length (written t))) long short ≡ short
  now_read short = ap (λ (b : Bool). cond b long short) (le-ltb 65536 (length (written t)) (omega (arith, h)))

  formerly_read : (short : B) → cond (ltb 65536 (length t)) long short ≡ short
  formerly_read short = ap (λ (b : Bool). cond b long short) (le-ltb 65536 (length t) (omega (arith, h, written_by_two t)))

module _ (missing : ℤ) (t : List ℕ) where
  same_parts : parts_text_by missing (lines (written t)) ≡ parts_text_by (pos 100) (lines t)
  same_parts = ap (parts_text_by missing) (written_lines t) ∙ parts_agree missing (lines t)

  same_ends : parts_end_by missing (lines (written t)) ≡ parts_end_by (pos 100) (lines t)
  same_ends = ap (parts_end_by missing) (written_lines t) ∙ parts_end_agree missing (lines t)

  pub written_whatever : StaysWithin t → output_by missing (written t) ≡ output_formerly t
  unfolding output_by
  written_whatever h = now_read t h (refusal_text 18 1) _ ∙ same_parts ∙ sym (formerly_read t h (refusal_text 18 1) _)

  pub ends_whatever : StaysWithin t → end_with missing (written t) ≡ end_formerly t
  unfolding end_with
  ends_whatever h = now_read t h (ended_by 18 1) _ ∙ same_ends ∙ sym (formerly_read t h (ended_by 18 1) _)

-- "must write 100 and .. print as before"
pub written_100 : PrintsAsBefore
written_100 = written_whatever missing_parameter

pub written_100_ends : EndsAsBefore
written_100_ends = ends_whatever missing_parameter

-- "otherwise unaltered": a text in which no parameter is missing prints as it did, and ends as it did, whatever its length
module _ (t : List ℕ) (none_missing : (i : ℕ) → MissingAfter t i → ⊥) where
  as_it_is : written t ≡ t
  as_it_is = (stays_exactly t).1 none_missing

  pub nothing_missing : output t ≡ output_formerly t
  unfolding output_by
  nothing_missing =
      ap (λ (x : List ℕ). cond (ltb 65536 (length t)) (refusal_text 18 1) x) (ap (λ (u : List ℕ). parts_text_by missing_parameter (lines u)) (sym as_it_is) ∙ same_parts missing_parameter t)

  pub nothing_missing_ends : end_of t ≡ end_formerly t
  unfolding end_with
  nothing_missing_ends = ap (λ (x : Ended). cond (ltb 65536 (length t)) (ended_by 18 1) x) (ap (λ (u : List ℕ). parts_end_by missing_parameter (lines u)) (sym as_it_is) ∙ same_ends missing_parameter t)
