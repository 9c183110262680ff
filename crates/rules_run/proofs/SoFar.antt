-- A text so far: what an accepted text prints stands at the beginning of what any longer text prints, so that a caller can drive an hour by appending each
-- interval's part to the text so far. Assumes nothing.
use Rattle.std.specs.Prelude.{None, Option, Some}
use Prim.Native.Nat.{ℕ, zero, suc, ◌+◌, ◌≤◌, ◌<◌}
use Prim.Native.String.{String}
use mathlib.Core.List.{List, [], ◌∷◌, ◌++◌, append_assoc}
use mathlib.Core.Bool.{Bool, true, false, cond}
use mathlib.Core.Path.{◌≡◌, refl, sym, ap, subst, ◌∙◌}
use native.Mathlib.Omega.{arith}
use lib.Dec.{eqb}
use lib.ListN.{length, drop, length-append}
use Rattle.rules_interval.specs.declared.Interval.{Interval}
use Rattle.rules_opening.specs.Openings.{opening_refusal}
use Rattle.rules_opening.specs.declared.Opening.{Opening}
use Rattle.rules_hour.specs.Demand3.{hour_of}
use Rattle.rules_hour.specs.Hours.{hour_refusal, hour_after, hour_after_all}
use Rattle.rules_hour.specs.Opened.{opened_hour}
use Rattle.rules_hour.specs.Hours.{Hour}
use Rattle.rules_text.specs.Numbers.{Line, Row, bytes, row, same, joined, lines}
use Rattle.rules_text.proofs.LineLaws.{line, lines_some}
use Rattle.rules_text.proofs.LineLaws.{after as past}
use Rattle.rules_text.specs.Tables.{Reading, faulty, found, Reader, next, ◌▷◌, taken, due, headed, single, if_suits, has_id, and_more, run, rows, counted, each, grouped, pairs}
use Rattle.rules_parts.specs.Parts.{opening_of, read_opening, is_factor, place_of, factor_rows, interval_of, parameter_of, read_interval_by, read_interval}
use Rattle.rules_run.specs.Run.{page_of, intervals, hour_text, parts_text, output}
use Rattle.rules_run.proofs.RunLaws.{accepted_text, parts_accepted, none_text}
use Rattle.rules_run.proofs.Meaning.{others_read}

-- ---- lines put after those that were read
-- what was read stays, and the lines after it have more after them
abbrev Stays : {A : Type 0} → List Line → Reading A → Reading A → Type 0
Stays more (faulty k) longer = Unit {0}
Stays more (found a n rest) longer = longer ≡ found a n (rest ++ more)

-- the same where a line is left
abbrev Keeps : {A : Type 0} → List Line → Reading A → Reading A → Type 0
Keeps more (faulty k) longer = Unit {0}
Keeps more (found a n []) longer = Unit {0}
Keeps more (found a n (l ∷ rest)) longer = longer ≡ found a n ((l ∷ rest) ++ more)

-- a reader that knows where it ends, and one that stops at the first line that isn't its own
abbrev Ending : {A : Type 0} → Reader A → Type 0
Ending m = (more : List Line) (n : ℕ) (ls : List Line) → Stays more (m n ls) (m n (ls ++ more))

abbrev Stopping : {A : Type 0} → Reader A → Type 0
Stopping m = (more : List Line) (n : ℕ) (ls : List Line) → Keeps more (m n ls) (m n (ls ++ more))

-- nothing is read of no line; or all of it
abbrev IsFaulty : {A : Type 0} → Reading A → Type 0
IsFaulty (faulty k) = Unit {0}
IsFaulty (found a n rest) = ⊥

abbrev Spent : {A : Type 0} → Reading A → Type 0
Spent (faulty k) = Unit {0}
Spent (found a n []) = Unit {0}
Spent (found a n (l ∷ rest)) = ⊥

module _ {A : Type 0} where
  found_ends : (a : A) → Ending (found a)
  found_ends a more n ls = refl

  due_ends : (is : Line → Option A) → Ending (due is)
  unfolding due
  due_ends is more n [] = tt
  due_ends is more n (l ∷ ls) = go (is l)
    where
      go : (o : Option A) → Stays more (taken o n ls) (taken o n (ls ++ more))
      go None = tt
      go (Some a) = refl

  headed_ends : (names : String) (values : Reader A) → Ending values → Ending (headed names values)
  unfolding headed
  headed_ends names values u more n [] = tt
  headed_ends names values u more n (l ∷ ls) = go (same (bytes names) l)
    where
      go : (b : Bool) → Stays more (cond b (values (suc n) ls) (faulty (suc n))) (cond b (values (suc n) (ls ++ more)) (faulty (suc n)))
      go true = u more (suc n) ls
      go false = tt

  headed_stops : (names : String) (values : Reader A) → Stopping values → Stopping (headed names values)
  unfolding headed
  headed_stops names values u more n [] = tt
  headed_stops names values u more n (l ∷ ls) = go (same (bytes names) l)
    where
      go : (b : Bool) → Keeps more (cond b (values (suc n) ls) (faulty (suc n))) (cond b (values (suc n) (ls ++ more)) (faulty (suc n)))
      go true = u more (suc n) ls
      go false = tt

module _ {A B : Type 0} (m : Reader A) (f : A → Reader B) where
  then_ends : Ending m → ((a : A) → Ending (f a)) → Ending (m ▷ f)
  then_ends u w more n ls = go (m n ls) (m n (ls ++ more)) (u more n ls)
    where
      go : (r longer : Reading A) → Stays more r longer → Stays more (next r f) (next longer f)
      go (faulty k) longer s = tt
      go (found a k rest) longer s = subst (λ (x : Reading A). Stays more (f a k rest) (next x f)) (sym s) (w a more k rest)

  stops_then_ends : Stopping m → ((a : A) → Ending (f a)) → ((a : A) (k : ℕ) → IsFaulty (f a k [])) → Ending (m ▷ f)
  stops_then_ends u w bare more n ls = go (m n ls) (m n (ls ++ more)) (u more n ls)
    where
      nothing : (r longer : Reading B) → IsFaulty r → Stays more r longer
      nothing (faulty k) longer z = tt
      nothing (found b k rest) longer z = absurd z

      go : (r longer : Reading A) → Keeps more r longer → Stays more (next r f) (next longer f)
      go (faulty k) longer s = tt
      go (found a k []) longer s = nothing (f a k []) (next longer f) (bare a k)
      go (found a k (l ∷ rest)) longer s = subst (λ (x : Reading A). Stays more (f a k (l ∷ rest)) (next x f)) (sym s) (w a more k (l ∷ rest))

  stops_then_stops : Stopping m → ((a : A) → Stopping (f a)) → ((a : A) (k : ℕ) → Spent (f a k [])) → Stopping (m ▷ f)
  stops_then_stops u w spent more n ls = go (m n ls) (m n (ls ++ more)) (u more n ls)
    where
      nothing : (r longer : Reading B) → Spent r → Keeps more r longer
      nothing (faulty k) longer z = tt
      nothing (found b k []) longer z = tt
      nothing (found b k (l ∷ rest)) longer z = absurd z

      go : (r longer : Reading A) → Keeps more r longer → Keeps more (next r f) (next longer f)
      go (faulty k) longer s = tt
      go (found a k []) longer s = nothing (f a k []) (next longer f) (spent a k)
      go (found a k (l ∷ rest)) longer s = subst (λ (x : Reading A). Keeps more (f a k (l ∷ rest)) (next x f)) (sym s) (w a more k (l ∷ rest))

found_stops : {A : Type 0} (a : A) → Stopping (found a)
found_stops a more n [] = tt
found_stops a more n (l ∷ ls) = refl

-- ---- tables
-- a run that a line ends is the same with more lines after that one
module _ (k : ℕ) (suits : ℕ → Row → Bool) (after : ℕ → Row → ℕ) (more : List Line) where
  run_stops : (i : ℕ) (ls : List Line) (l : Line) (rest : List Line) → drop (length (run k suits after i ls)) ls ≡ l ∷ rest → run k suits after i (ls ++ more) ≡ run k suits after i ls
  unfolding run
  run_stops i [] l rest e = absurd (let z : ◌≡◌ {A = ℕ} 0 1 = cc in omega arith)
  run_stops i (x ∷ ls) l rest e = go (if_suits (suits i) (row k x)) (λ y. run_stops (after i y) ls l rest) e
    where
      go : (o : Option Row) → ((y : Row) → drop (length (run k suits after (after i y) ls)) ls ≡ l ∷ rest → run k suits after (after i y) (ls ++ more) ≡ run k suits after (after i y) ls)
          → drop (length (and_more o (λ y. run k suits after (after i y) ls))) (x ∷ ls) ≡ l ∷ rest
          → and_more o (λ y. run k suits after (after i y) (ls ++ more)) ≡ and_more o (λ y. run k suits after (after i y) ls)
      go None h d = refl
      go (Some y) h d = ap (λ (t : List Row). y ∷ t) (h y d)

drop_more : (c : ℕ) (ls : List Line) (l : Line) (rest more : List Line) → drop c ls ≡ l ∷ rest → drop c (ls ++ more) ≡ (l ∷ rest) ++ more
drop_more zero ls l rest more e = ap (λ (t : List Line). t ++ more) e
drop_more (suc c) [] l rest more e = absurd (let z : ◌≡◌ {A = ℕ} 0 1 = cc in omega arith)
drop_more (suc c) (x ∷ ls) l rest more e = drop_more c ls l rest more e

rows_stop : (k : ℕ) (suits : ℕ → Row → Bool) (after : ℕ → Row → ℕ) (i : ℕ) → Stopping (rows (run k suits after i))
unfolding rows
rows_stop k suits after i more n ls = go (drop (length (run k suits after i ls)) ls) refl
  where
    xs : List Line → List Row
    xs = run k suits after i

    go : (left : List Line) → drop (length (xs ls)) ls ≡ left → Keeps more (found (xs ls) (n + length (xs ls)) left) (found (xs (ls ++ more)) (n + length (xs (ls ++ more))) (drop (length (xs (ls ++ more))) (ls ++ more)))
    go [] e = tt
    go (l ∷ rest) e =
        ap (λ (t : List Row). found t (n + length t) (drop (length t) (ls ++ more))) (run_stops k suits after more i ls l rest e)
        ∙ ap (found (xs ls) (n + length (xs ls))) (drop_more (length (xs ls)) ls l rest more e)

counted_stops : (k : ℕ) → Stopping (counted k)
unfolding counted
counted_stops k = rows_stop k has_id (λ i x. suc i) 0

pairs_stop : (r : ℕ) → Stopping (rows (pairs r))
unfolding pairs
pairs_stop r = rows_stop 3 (λ i. has_id r) (λ i x. i) 0

-- groups of no line
spent_next : {A B : Type 0} (r : Reading A) (f : A → Reader B) → Spent r → ((a : A) (k : ℕ) → Spent (f a k [])) → Spent (next r f)
spent_next (faulty k) f s h = tt
spent_next (found a k []) f s h = h a k
spent_next (found a k (l ∷ rest)) f s h = absurd s

grouped_spent : (m r n : ℕ) → Spent (grouped pairs m r n [])
unfolding grouped rows pairs run
grouped_spent zero r n = tt
grouped_spent (suc m) r n = spent_next (grouped pairs m (suc r) (n + 0) []) (λ gs. found ([] ∷ gs)) (grouped_spent m (suc r) (n + 0)) (λ gs k. tt)

grouped_stops : (m r : ℕ) → Stopping (grouped pairs m r)
unfolding grouped
grouped_stops zero r = found_stops []
grouped_stops (suc m) r =
    stops_then_stops (rows (pairs r)) (λ g. grouped pairs m (suc r) ▷ λ gs. found (g ∷ gs)) (pairs_stop r)
    (λ g. stops_then_stops (grouped pairs m (suc r)) (λ gs. found (g ∷ gs)) (grouped_stops m (suc r)) (λ gs. found_stops (g ∷ gs)) (λ gs k. tt))
    (λ g k. spent_next (grouped pairs m (suc r) k []) (λ gs. found (g ∷ gs)) (grouped_spent m (suc r) k) (λ gs j. tt))

each_ends : (k m r : ℕ) → Ending (each k m r)
unfolding each
each_ends k zero r = found_ends []
each_ends k (suc m) r =
    then_ends (due (λ l. if_suits (has_id r) (row k l))) (λ x. each k m (suc r) ▷ λ xs. found (x ∷ xs)) (due_ends (λ l. if_suits (has_id r) (row k l)))
    (λ x. then_ends (each k m (suc r)) (λ xs. found (x ∷ xs)) (each_ends k m (suc r)) (λ xs. found_ends (x ∷ xs)))

-- ---- "A part ends with the last line due to it; what follows belongs to the next."
pub opening_ends : Ending read_opening
unfolding read_opening headed
opening_ends =
    then_ends (headed "month\n" (due single)) _ (headed_ends "month\n" (due single) (due_ends single)) λ month.
    stops_then_ends (headed "portfolio seller\n" (counted 2)) _ (headed_stops "portfolio seller\n" (counted 2) (counted_stops 2)) (λ portfolios.
    stops_then_ends (headed "resource portfolio start\n" (counted 3)) _ (headed_stops "resource portfolio start\n" (counted 3) (counted_stops 3)) (λ resources.
    stops_then_ends (headed "resource end price\n" (grouped pairs (length resources) 0)) _ (headed_stops "resource end price\n" (grouped pairs (length resources) 0) (grouped_stops (length resources) 0)) (λ steps.
    stops_then_ends (headed "resource mw heat\n" (grouped pairs (length resources) 0)) _ (headed_stops "resource mw heat\n" (grouped pairs (length resources) 0) (grouped_stops (length resources) 0)) (λ points.
    then_ends (headed "resource gas rate allowance om msc soc fee\n" (each 8 (length resources) 0)) _
    (headed_ends "resource gas rate allowance om msc soc fee\n" (each 8 (length resources) 0) (each_ends 8 (length resources) 0)) λ costs.
    found_ends (opening_of month portfolios resources steps points costs))
    (λ points k. tt)) (λ steps k. tt)) (λ resources k. tt)) (λ portfolios k. tt)

factors_stop : (n m : ℕ) → Stopping (rows (factor_rows n m))
unfolding factor_rows
factors_stop n m = rows_stop 3 (is_factor n m) (λ i x. suc (place_of m x)) 0

pub interval_ends : Ending read_interval
unfolding read_interval_by headed
interval_ends =
    stops_then_ends (headed "constraint shadow\n" (counted 2)) _ (headed_stops "constraint shadow\n" (counted 2) (counted_stops 2)) (λ constraints.
    stops_then_ends (headed "resource lmp dispatch available floor\n" (counted 5)) _ (headed_stops "resource lmp dispatch available floor\n" (counted 5) (counted_stops 5)) (λ resources.
    stops_then_ends (headed "resource constraint factor\n" (rows (factor_rows (length resources) (length constraints)))) _
    (headed_stops "resource constraint factor\n" (rows (factor_rows (length resources) (length constraints))) (factors_stop (length resources) (length constraints))) (λ factors.
    then_ends (headed "parameter\n" (due parameter_of)) _ (headed_ends "parameter\n" (due parameter_of) (due_ends parameter_of)) λ parameter.
    found_ends (interval_of constraints resources factors parameter))
    (λ factors k. tt)) (λ resources k. tt)) (λ constraints k. tt)

-- a part that is found is found with more lines after it
found_longer : {A : Type 0} (m : Reader A) → Ending m → (more : List Line) (n : ℕ) (ls : List Line) (a : A) (k : ℕ) (rest : List Line) → m n ls ≡ found a k rest → m n (ls ++ more) ≡ found a k (rest ++ more)
found_longer m u more n ls a k rest e = subst (λ (r : Reading _). Stays more r (m n (ls ++ more))) e (u more n ls)

-- ---- the text so far
-- lines ls, before which n stand, are the parts of these calls on an hour, each accepted, and m lines stand before what follows
abbrev pub Accepts : Hour → ℕ → List Line → List Interval → ℕ → Type 0
Accepts h n ls [] m = (ls ≡ []) × (n ≡ m)
Accepts h n ls (v ∷ calls) m = (k : ℕ) × (rest : List Line) × (0 < length ls) × (read_interval n ls ≡ found v k rest) × (hour_refusal h v ≡ 0) × Accepts (hour_after h v) k rest calls m

-- room for f parts after those of the calls, and the number of the interval after them
abbrev room : List Interval → ℕ → ℕ
room [] f = f
room (v ∷ calls) f = suc (room calls f)

room_is : (calls : List Interval) (f : ℕ) → room calls f ≡ length calls + f
room_is [] f = omega arith
room_is (v ∷ calls) f = omega (arith, room_is calls f)

abbrev after : List Interval → ℕ → ℕ
after [] i = i
after (v ∷ calls) i = after calls (suc i)

after_is : (calls : List Interval) (i : ℕ) → after calls i ≡ length calls + i
after_is [] i = omega arith
after_is (v ∷ calls) i = omega (arith, after_is calls (suc i))

pages_stand : (calls : List Interval) (f i : ℕ) (h : Hour) (n : ℕ) (ls : List Line) (m : ℕ) (more : List Line) → Accepts h n ls calls m
    → intervals (room calls f) i h n (ls ++ more) ≡ intervals (room calls f) i h n ls ++ intervals f (after calls i) (hour_after_all h calls) m more
unfolding hour_after_all
pages_stand [] f i h n ls m more a =
    ap (λ (t : List Line). intervals f i h n (t ++ more)) a.0 ∙ ap (λ (k : ℕ). intervals f i h k more) a.1
    ∙ ap (λ (t : List ℕ). t ++ intervals f i h m more) (sym (ap (intervals f i h n) a.0 ∙ none_text f i h n))
pages_stand (v ∷ calls) f i h n ls m more (k, rest, lined, e, g, a) =
    accepted_text (room calls f) i h n (ls ++ more) (omega (arith, lined, length-append ls more)) v k (rest ++ more) (found_longer read_interval interval_ends more n ls v k rest e) g
    ∙ ap (λ (t : List ℕ). page_of i h v ++ t) (pages_stand calls f (suc i) (hour_after h v) k rest m more a)
    ∙ sym (append_assoc (page_of i h v) (intervals (room calls f) (suc i) (hour_after h v) k rest) (intervals f (after calls (suc i)) (hour_after_all (hour_after h v) calls) m more))
    ∙ ap (λ (t : List ℕ). t ++ intervals f (after calls (suc i)) (hour_after_all (hour_after h v) calls) m more) (sym (accepted_text (room calls f) i h n ls lined v k rest e g))

-- lines of an opening and these calls, all accepted, with more lines after them
parts_so_far : (ls more : List Line) (o : Opening) (n : ℕ) (rest : List Line) → read_opening 0 ls ≡ found o n rest → opening_refusal o ≡ 0
    → (calls : List Interval) (m : ℕ) → Accepts (opened_hour o) n rest calls m → (f : ℕ) → length calls + f ≡ 5
    → parts_text (ls ++ more) ≡ parts_text ls ++ intervals f (length calls + 1) (hour_of o calls) m more
parts_so_far ls more o n rest e g calls m a f five =
    parts_accepted (ls ++ more) o n (rest ++ more) (found_longer read_opening opening_ends more 0 ls o n rest e) g
    ∙ ap (λ (k : ℕ). intervals k 1 (opened_hour o) n (rest ++ more)) (sym (room_is calls f ∙ five))
    ∙ pages_stand calls f 1 (opened_hour o) n rest m more a
    ∙ ap (λ (k : ℕ). intervals k 1 (opened_hour o) n rest ++ intervals f (after calls 1) (hour_of o calls) m more) (room_is calls f ∙ five)
    ∙ ap (λ (k : ℕ). hour_text (opened_hour o) n rest ++ intervals f k (hour_of o calls) m more) (after_is calls 1)
    ∙ ap (λ (t : List ℕ). t ++ intervals f (length calls + 1) (hour_of o calls) m more) (sym (parts_accepted ls o n rest e g))

-- ---- in bytes
joined_longer : (c : Bool) (b : ℕ) (t : List ℕ) (more : List Line) → (t ≡ [] → ⊥) → joined c b (lines t ++ more) ≡ joined c b (lines t) ++ more
joined_longer true b t more s = refl
joined_longer false b t more s = go (lines t) (lines_some t s)
  where
    go : (ls : List Line) → ls ≡ line t ∷ lines (past t) → joined false b (ls ++ more) ≡ joined false b ls ++ more
    go [] e = absurd (let z : ◌≡◌ {A = ℕ} 0 1 = cc in omega arith)
    go (l ∷ ls) e = refl

-- a text that ends with byte 10, and more after it
pub lines_longer : (s u : List ℕ) → lines ((s ++ 10 ∷ []) ++ u) ≡ lines (s ++ 10 ∷ []) ++ lines u
lines_longer [] u = refl
lines_longer (b ∷ s) u =
    ap (joined (eqb b 10) b) (lines_longer s u)
    ∙ joined_longer (eqb b 10) b (s ++ 10 ∷ []) (lines u) (λ e. omega (arith, ap length e, length-append s (10 ∷ [])))

-- A text of an opening and these calls, all accepted, whose last byte is 10; and a longer one that begins with it. What the first prints stands at the
-- beginning of what the second prints, and what follows is what the rest prints on the hour that the calls leave.
pub text_so_far : (s u : List ℕ) → length ((s ++ 10 ∷ []) ++ u) ≤ 65536
    → (o : Opening) (n : ℕ) (rest : List Line) → read_opening 0 (lines (s ++ 10 ∷ [])) ≡ found o n rest → opening_refusal o ≡ 0
    → (calls : List Interval) (m : ℕ) → Accepts (opened_hour o) n rest calls m → (f : ℕ) → length calls + f ≡ 5
    → output ((s ++ 10 ∷ []) ++ u) ≡ output (s ++ 10 ∷ []) ++ intervals f (length calls + 1) (hour_of o calls) m (lines u)
text_so_far s u short o n rest e g calls m a f five =
    others_read ((s ++ 10 ∷ []) ++ u) short ∙ ap parts_text (lines_longer s u) ∙ parts_so_far (lines (s ++ 10 ∷ [])) (lines u) o n rest e g calls m a f five
    ∙ ap (λ (t : List ℕ). t ++ intervals f (length calls + 1) (hour_of o calls) m (lines u)) (sym (others_read (s ++ 10 ∷ []) (omega (arith, short, length-append (s ++ 10 ∷ []) u))))
