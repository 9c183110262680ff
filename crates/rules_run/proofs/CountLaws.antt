-- Reading a part uses up lines one by one: the number of the last line read and the lines after it add up to what there was. Assumes nothing.
use Rattle.std.specs.Prelude.{None, Option, Some}
use Prim.Native.Nat.{ℕ, zero, suc, ◌+◌, ◌≤◌}
use Prim.Native.String.{String}
use mathlib.Core.List.{List, [], ◌∷◌}
use mathlib.Core.Bool.{Bool, true, false, cond}
use mathlib.Core.Path.{◌≡◌, refl, ◌∙◌}
use native.Mathlib.Omega.{arith}
use lib.ListN.{length, length-drop}
use Rattle.rules_text.specs.Numbers.{Line, Row, bytes, row, same}
use Rattle.rules_text.specs.Tables.{Reading, faulty, found, Reader, next, ◌▷◌, taken, due, headed, single, if_suits, has_id, and_more, run, rows, counting, counted, each, grouped, pairs}
use Rattle.rules_parts.specs.Parts.{opening_of, read_opening, factor_rows, interval_of, parameter_of, read_interval_by, read_interval}

-- lines ls, before which n stand, are used up to line m, with the lines rest after it; a faulty line is one of them or the one after them
abbrev pub Uses : {A : Type 0} → ℕ → List Line → Reading A → Type 0
Uses n ls (faulty k) = k ≤ suc (n + length ls)
Uses n ls (found a m rest) = m + length rest ≡ n + length ls

-- a reader that uses lines up
abbrev pub Using : {A : Type 0} → Reader A → Type 0
Using m = (n : ℕ) (ls : List Line) → Uses n ls (m n ls)

module _ {A : Type 0} where
  found_using : (a : A) → Using (found a)
  found_using a n ls = refl

  due_using : (is : Line → Option A) → Using (due is)
  unfolding due
  due_using is n [] = omega arith
  due_using is n (l ∷ ls) = go (is l)
    where
      go : (o : Option A) → Uses n (l ∷ ls) (taken o n ls)
      go None = omega arith
      go (Some a) = omega arith

  headed_using : (names : String) (values : Reader A) → Using values → Using (headed names values)
  unfolding headed
  headed_using names values u n [] = omega arith
  headed_using names values u n (l ∷ ls) = go (same (bytes names) l)
    where
      more : (r : Reading A) → Uses (suc n) ls r → Uses n (l ∷ ls) r
      more (faulty k) e = omega (arith, e)
      more (found a m rest) e = omega (arith, e)

      go : (t : Bool) → Uses n (l ∷ ls) (cond t (values (suc n) ls) (faulty (suc n)))
      go true = more (values (suc n) ls) (u (suc n) ls)
      go false = omega arith

then_using : {A B : Type 0} (m : Reader A) (f : A → Reader B) → Using m → ((a : A) → Using (f a)) → Using (m ▷ f)
then_using {A} {B} m f u w n ls = go (m n ls) (u n ls)
  where
    further : (k : ℕ) (rest : List Line) (r : Reading B) → k + length rest ≡ n + length ls → Uses k rest r → Uses n ls r
    further k rest (faulty j) e x = omega (arith, e, x)
    further k rest (found b j more) e x = x ∙ e

    go : (r : Reading A) → Uses n ls r → Uses n ls (next r f)
    go (faulty k) e = e
    go (found a k rest) e = further k rest (f a k rest) e (w a k rest)

-- a run has no more rows than there are lines
run_few : (k : ℕ) (suits : ℕ → Row → Bool) (after : ℕ → Row → ℕ) (i : ℕ) (ls : List Line) → length (run k suits after i ls) ≤ length ls
unfolding run
run_few k suits after i [] = omega arith
run_few k suits after i (l ∷ ls) = go (if_suits (suits i) (row k l)) (λ j. run_few k suits after j ls)
  where
    go : (o : Option Row) → ((j : ℕ) → length (run k suits after j ls) ≤ length ls) → length (and_more o (λ x. run k suits after (after i x) ls)) ≤ suc (length ls)
    go None h = omega arith
    go (Some x) h = omega (arith, h (after i x))

rows_using : (of : List Line → List Row) → ((ls : List Line) → length (of ls) ≤ length ls) → Using (rows of)
unfolding rows
rows_using of h n ls = omega (arith, length-drop (length (of ls)) ls, h ls)

counted_using : (k : ℕ) → Using (counted k)
unfolding counted
counted_using k = rows_using (counting k) (run_few k has_id (λ i x. suc i) 0)

pairs_few : (r : ℕ) (ls : List Line) → length (pairs r ls) ≤ length ls
unfolding pairs
pairs_few r = run_few 3 (λ i. has_id r) (λ i x. i) 0

grouped_using : (m r : ℕ) → Using (grouped pairs m r)
unfolding grouped
grouped_using zero r n ls = refl
grouped_using (suc m) r n ls =
    then_using (rows (pairs r)) (λ g. grouped pairs m (suc r) ▷ λ gs. found (g ∷ gs)) (rows_using (pairs r) (pairs_few r))
    (λ g. then_using (grouped pairs m (suc r)) (λ gs. found (g ∷ gs)) (grouped_using m (suc r)) (λ gs. found_using (g ∷ gs))) n ls

each_using : (k m r : ℕ) → Using (each k m r)
unfolding each
each_using k zero r n ls = refl
each_using k (suc m) r n ls =
    then_using (due (λ l. if_suits (has_id r) (row k l))) (λ x. each k m (suc r) ▷ λ xs. found (x ∷ xs)) (due_using (λ l. if_suits (has_id r) (row k l)))
    (λ x. then_using (each k m (suc r)) (λ xs. found (x ∷ xs)) (each_using k m (suc r)) (λ xs. found_using (x ∷ xs))) n ls

pub opening_using : Using read_opening
unfolding read_opening
opening_using =
    then_using (headed "month\n" (due single)) _ (headed_using "month\n" (due single) (due_using single)) λ month.
    then_using (headed "portfolio seller\n" (counted 2)) _ (headed_using "portfolio seller\n" (counted 2) (counted_using 2)) λ portfolios.
    then_using (headed "resource portfolio start\n" (counted 3)) _ (headed_using "resource portfolio start\n" (counted 3) (counted_using 3)) λ resources.
    then_using (headed "resource end price\n" (grouped pairs (length resources) 0)) _ (headed_using "resource end price\n" (grouped pairs (length resources) 0) (grouped_using (length resources) 0)) λ steps.
    then_using (headed "resource mw heat\n" (grouped pairs (length resources) 0)) _ (headed_using "resource mw heat\n" (grouped pairs (length resources) 0) (grouped_using (length resources) 0)) λ points.
    then_using (headed "resource gas rate allowance om msc soc fee\n" (each 8 (length resources) 0)) _
    (headed_using "resource gas rate allowance om msc soc fee\n" (each 8 (length resources) 0) (each_using 8 (length resources) 0)) λ costs.
    found_using (opening_of month portfolios resources steps points costs)

factors_few : (n m : ℕ) (ls : List Line) → length (factor_rows n m ls) ≤ length ls
unfolding factor_rows
factors_few n m = run_few 3 _ _ 0

pub interval_using : Using read_interval
unfolding read_interval_by
interval_using =
    then_using (headed "constraint shadow\n" (counted 2)) _ (headed_using "constraint shadow\n" (counted 2) (counted_using 2)) λ constraints.
    then_using (headed "resource lmp dispatch available floor\n" (counted 5)) _ (headed_using "resource lmp dispatch available floor\n" (counted 5) (counted_using 5)) λ resources.
    then_using (headed "resource constraint factor\n" (rows (factor_rows (length resources) (length constraints)))) _
    (headed_using "resource constraint factor\n" (rows (factor_rows (length resources) (length constraints))) (rows_using (factor_rows (length resources) (length constraints)) (factors_few (length resources) (length constraints)))) λ factors.
    then_using (headed "parameter\n" (due parameter_of)) _ (headed_using "parameter\n" (due parameter_of) (due_using parameter_of)) λ parameter.
    found_using (interval_of constraints resources factors parameter)
