-- A reader reads back lines: one law for each way in which readers are put together. Assumes nothing.
use Rattle.std.specs.Prelude.{None, Option, Some}
use Prim.Native.Nat.{ℕ, zero, suc, ◌+◌, ◌^◌, ◌<◌, ◌≤◌}
use Prim.Native.String.{String}
use mathlib.Core.Path.{◌≡◌, refl, sym, ap, subst, ◌∙◌}
use mathlib.Core.List.{List, [], ◌∷◌, ◌++◌, append_assoc, map}
use mathlib.Core.Bool.{Bool, true, false, cond}
use native.Mathlib.Omega.{arith}
use native.Mathlib.Nat.{add-zero}
use borrow.Author.Tests.{eq-eqb, ne_eqb}
use lib.ListN.{length, drop, get_or, length-append, length-map}
use lib.Seq.{drop-append_seam}
use lib.IntN.{ℤ, pos}
use Rattle.rules_text.specs.Numbers.{Line, Row, bytes, same, number, closing, field, row}
use Rattle.rules_text.specs.Tables.{Reader, Reading, found, faulty, next, ◌▷◌, taken, due, headed, single, one, if_suits, has_id, and_more, run, rows, counting, counted, each, grouped, pairs}
use Rattle.rules_text.specs.Printing.{line_text}
use Rattle.rules_text.proofs.RoundTrip.{row_back}
use Rattle.rules_text.specs.Spelled.{Every, no_more, and_all, Small, counted_rows, grouped_rows, together}

-- from lines that begin with ls, and then `rest`, r reads a, and leaves the rest
abbrev pub Reads : {A : Type 0} → Reader A → List Line → A → List Line → Type 0
Reads r ls a rest = (n : ℕ) → r n (ls ++ rest) ≡ found a (n + length ls) rest

-- ---- readers put together
module _ {A B : Type 0} where
  pub then_back : (m : Reader A) (f : A → Reader B) (ls ls' : List Line) (a : A) (b : B) (rest : List Line) → Reads m ls a (ls' ++ rest) → Reads (f a) ls' b rest → Reads (m ▷ f) (ls ++ ls') b rest
  then_back m f ls ls' a b rest p q n =
      let e : n + length ls + length ls' ≡ n + length (ls ++ ls') = let l = length-append ls ls' in omega arith in
      ap (λ (t : List Line). next (m n t) f) (append_assoc ls ls' rest) ∙ ap (λ (x : Reading A). next x f) (p n) ∙ q (n + length ls)
      ∙ ap (λ (k : ℕ). found b k rest) e

  -- what is read goes into a value
  pub into_back : (m : Reader A) (g : A → B) (ls : List Line) (a : A) (rest : List Line) → Reads m ls a rest → Reads (m ▷ λ x. found (g x)) ls (g a) rest
  into_back m g ls a rest p n = ap (λ (x : Reading A). next x (λ y. found (g y))) (p n)

same_refl : (l : Line) → same l l ≡ true
same_refl [] = refl
same_refl (b ∷ l) = rw (eq-eqb b b refl) (same_refl l)

module _ {A : Type 0} where
  pub headed_back : (names : String) (r : Reader A) (ls : List Line) (a : A) (rest : List Line) → Reads r ls a rest → Reads (headed names r) (bytes names ∷ ls) a rest
  unfolding headed
  headed_back names r ls a rest p n =
      let e : suc n + length ls ≡ n + suc (length ls) = omega arith in
      ap (λ (b : Bool). cond b (r (suc n) (ls ++ rest)) (faulty (suc n))) (same_refl (bytes names)) ∙ p (suc n) ∙ ap (λ (k : ℕ). found a k rest) e

  pub due_back : (is : Line → Option A) (l : Line) (a : A) (rest : List Line) → is l ≡ Some a → Reads (due is) (l ∷ []) a rest
  unfolding due
  due_back is l a rest e n =
      let k : suc n ≡ n + 1 = omega arith in
      ap (λ (o : Option A). taken o n rest) e ∙ ap (λ (j : ℕ). found a j rest) k

-- ---- rows
every_at : {A : Type 0} (P : A → Type 0) (d : A) (l : List A) → Every P l → (i : ℕ) → i < length l → P (get_or l i d)
every_at P d [] h i k = absurd (omega arith)
every_at P d (x ∷ l) (and_all p h) zero k = p
every_at P d (x ∷ l) (and_all p h) (suc i) k = every_at P d l h i (omega arith)

pub row_every : (k : ℕ) (x : Row) → length x ≡ k → Every Small x → row k (line_text x) ≡ Some x
row_every k x e h = subst (λ (j : ℕ). row j (line_text x) ≡ Some x) e (row_back x (every_at Small (pos 0) x h))

pub single_back : (z : ℤ) → Small z → single (line_text (z ∷ [])) ≡ Some z
unfolding single
single_back z h = ap one (row_every 1 (z ∷ []) refl (and_all h no_more))

pub rows_back : (of : List Line → List Row) (xs : List Row) (rest : List Line) → of (map line_text xs ++ rest) ≡ xs → Reads (rows of) (map line_text xs) xs rest
unfolding rows
rows_back of xs rest e n =
    let l : length xs ≡ length (map line_text xs) = sym (length-map xs line_text) in
    ap (λ (ys : List Row). found ys (n + length ys) (drop (length ys) (map line_text xs ++ rest))) e
    ∙ ap (λ (k : ℕ). found xs (n + k) (drop k (map line_text xs ++ rest))) l
    ∙ ap (found xs (n + length (map line_text xs))) (drop-append_seam (map line_text xs) rest)

-- ---- runs
-- a line that suits, and the run goes on
pub run_more : (k : ℕ) (suits : ℕ → Row → Bool) (after : ℕ → Row → ℕ) (i : ℕ) (x : Row) (ls : List Line) → row k (line_text x) ≡ Some x → suits i x ≡ true
    → run k suits after i (line_text x ∷ ls) ≡ x ∷ run k suits after (after i x) ls
unfolding run
run_more k suits after i x ls e s =
    ap (λ (o : Option Row). and_more (if_suits (suits i) o) (λ y. run k suits after (after i y) ls)) e
    ∙ ap (λ (b : Bool). and_more (cond b (Some x) None) (λ y. run k suits after (after i y) ls)) s

-- a line that does not suit ends it
pub run_other : (k : ℕ) (suits : ℕ → Row → Bool) (after : ℕ → Row → ℕ) (i : ℕ) (x : Row) (ls : List Line) → row k (line_text x) ≡ Some x → suits i x ≡ false
    → run k suits after i (line_text x ∷ ls) ≡ []
unfolding run
run_other k suits after i x ls e s =
    ap (λ (o : Option Row). and_more (if_suits (suits i) o) (λ y. run k suits after (after i y) ls)) e
    ∙ ap (λ (b : Bool). and_more (cond b (Some x) None) (λ y. run k suits after (after i y) ls)) s

-- lines of which the first, if any, begins with no number
abbrev pub Names : List Line → Type 0
Names ls = number (get_or ls 0 []) ≡ None

pub run_names : (k : ℕ) (suits : ℕ → Row → Bool) (after : ℕ → Row → ℕ) (i : ℕ) (ls : List Line) → Names ls → run (suc k) suits after i ls ≡ []
unfolding run row
run_names k suits after i [] h = refl
run_names k suits after i (l ∷ ls) h = ap (λ (z : Option (ℤ × ℕ)). and_more (if_suits (suits i) (field z l (closing k) (row k))) (λ y. run (suc k) suits after (after i y) ls)) h

-- ---- rows that count up
id_yes : (i : ℕ) (x : Row) → has_id i (pos i ∷ x) ≡ true
id_yes i x = eq-eqb i i refl

id_no : (i j : ℕ) (x : Row) → i < j → has_id i (pos j ∷ x) ≡ false
id_no i j x h = ne_eqb i j (λ e. omega arith)

-- k values past the id
pub record Values (k : ℕ) (x : Row) : Type 0 where
  pub count : length x ≡ k
  pub small : Every Small x

row_id : (k i : ℕ) (x : Row) → Values k x → i < 10 ^ 12 → row (suc k) (line_text (pos i ∷ x)) ≡ Some (pos i ∷ x)
row_id k i x v h = row_every (suc k) (pos i ∷ x) (ap suc v.count) (and_all h v.small)

module _ {A : Type 0} (f : A → Row) where
  pub counted_length : (i : ℕ) (l : List A) → length (counted_rows f i l) ≡ length l
  unfolding counted_rows
  counted_length i [] = refl
  counted_length i (a ∷ l) = ap suc (counted_length (suc i) l)

  pub counted_map : {B : Type 0} (g : Row → B) (h : A → B) → ((i : ℕ) (a : A) → g (pos i ∷ f a) ≡ h a) → (i : ℕ) (l : List A) → map g (counted_rows f i l) ≡ map h l
  unfolding counted_rows
  counted_map g h e i [] = refl
  counted_map g h e i (a ∷ l) = rw (e i a, counted_map g h e (suc i) l) refl

  module _ (k : ℕ) (rest : List Line) where
    counting_from : (i : ℕ) (l : List A) → Every (λ a. Values k (f a)) l → i + length l ≤ 10 ^ 12 → Names rest
        → run (suc k) has_id (λ j x. suc j) i (map line_text (counted_rows f i l) ++ rest) ≡ counted_rows f i l
    unfolding counted_rows
    counting_from i [] h s q = run_names k has_id (λ j x. suc j) i rest q
    counting_from i (a ∷ l) (and_all v h) s q =
        run_more (suc k) has_id (λ j x. suc j) i (pos i ∷ f a) (map line_text (counted_rows f (suc i) l) ++ rest) (row_id k i (f a) v (omega arith)) (id_yes i (f a))
        ∙ ap (λ (r : List Row). (pos i ∷ f a) ∷ r) (counting_from (suc i) l h (omega arith) q)

    pub counted_back : (l : List A) → Every (λ a. Values k (f a)) l → length l ≤ 10 ^ 12 → Names rest → Reads (counted (suc k)) (map line_text (counted_rows f 0 l)) (counted_rows f 0 l) rest
    unfolding counted
    counted_back l h s q = rows_back (counting (suc k)) (counted_rows f 0 l) rest (counting_from 0 l h (omega arith) q)

    -- "one line for each resource"
    pub each_back : (i : ℕ) (l : List A) → Every (λ a. Values k (f a)) l → i + length l ≤ 10 ^ 12 → Reads (each (suc k) (length l) i) (map line_text (counted_rows f i l)) (counted_rows f i l) rest
    unfolding each counted_rows
    each_back i [] h s = λ n. ap (λ (j : ℕ). found [] j rest) (sym (add-zero n))
    each_back i (a ∷ l) (and_all v h) s =
        let x : Row = pos i ∷ f a in
        let o : if_suits (has_id i) (row (suc k) (line_text x)) ≡ Some x =
        ap (if_suits (has_id i)) (row_id k i (f a) v (omega arith)) ∙ ap (λ (b : Bool). cond b (Some x) None) (id_yes i (f a)) in
        then_back (due (λ t. if_suits (has_id i) (row (suc k) t))) (λ y. each (suc k) (length l) (suc i) ▷ λ ys. found (y ∷ ys)) (line_text x ∷ []) (map line_text (counted_rows f (suc i) l)) x (x ∷ counted_rows f (suc i) l) rest
        (due_back (λ t. if_suits (has_id i) (row (suc k) t)) (line_text x) x (map line_text (counted_rows f (suc i) l) ++ rest) o)
        (into_back (each (suc k) (length l) (suc i)) (λ ys. x ∷ ys) (map line_text (counted_rows f (suc i) l)) (counted_rows f (suc i) l) rest (each_back (suc i) l h (omega arith)))

-- ---- rows that are grouped
pub map-append : (xs ys : List Row) → map line_text (xs ++ ys) ≡ map line_text xs ++ map line_text ys
map-append [] ys = refl
map-append (x ∷ xs) ys = ap (λ (r : List Line). line_text x ∷ r) (map-append xs ys)

-- the rows of resource i
abbrev pub with_id : ℕ → List Row → List Row
with_id i g = map (λ x. pos i ∷ x) g

pairs_more : (i : ℕ) (g : List Row) (ls : List Line) → Every (Values 2) g → i < 10 ^ 12 → pairs i ls ≡ [] → pairs i (map line_text (with_id i g) ++ ls) ≡ with_id i g
unfolding pairs
pairs_more i [] ls h s q = q
pairs_more i (x ∷ g) ls (and_all v h) s q =
    run_more 3 (λ j. has_id i) (λ j y. j) 0 (pos i ∷ x) (map line_text (with_id i g) ++ ls) (row_id 2 i x v s) (id_yes i x)
    ∙ ap (λ (r : List Row). (pos i ∷ x) ∷ r) (pairs_more i g ls h s q)

module _ {A : Type 0} (f : A → List Row) where
  pub grouped_length : (i : ℕ) (l : List A) → length (grouped_rows f i l) ≡ length l
  unfolding grouped_rows
  grouped_length i [] = refl
  grouped_length i (a ∷ l) = ap suc (grouped_length (suc i) l)

  abbrev group_lines : ℕ → List A → List Line
  group_lines i l = map line_text (together (grouped_rows f i l))

  groups_cons : (i : ℕ) (a : A) (l : List A) → group_lines i (a ∷ l) ≡ map line_text (with_id i (f a)) ++ group_lines (suc i) l
  unfolding together grouped_rows
  groups_cons i a l = map-append (with_id i (f a)) (together (grouped_rows f (suc i) l))

  module _ (rest : List Line) (names : Names rest) where
    -- the groups of later resources hold no line of resource i
    first_other : (i j : ℕ) (g : List Row) (ls : List Line) → Every (Values 2) g → i < j → j < 10 ^ 12 → pairs i ls ≡ [] → pairs i (map line_text (with_id j g) ++ ls) ≡ []
    unfolding pairs
    first_other i j [] ls h k s q = q
    first_other i j (x ∷ g) ls (and_all v h) k s q =
        run_other 3 (λ m. has_id i) (λ m y. m) 0 (pos j ∷ x) (map line_text (with_id j g) ++ ls) (row_id 2 j x v s) (id_no i j x k)

    others : (i j : ℕ) (l : List A) → Every (λ a. Every (Values 2) (f a)) l → i < j → j + length l ≤ 10 ^ 12 → pairs i (group_lines j l ++ rest) ≡ []
    unfolding together grouped_rows pairs
    others i j [] h k s = run_names 2 (λ m. has_id i) (λ m y. m) 0 rest names
    others i j (a ∷ l) (and_all v h) k s =
        ap (λ (t : List Line). pairs i (t ++ rest)) (groups_cons j a l) ∙ ap (pairs i) (append_assoc (map line_text (with_id j (f a))) (group_lines (suc j) l) rest)
        ∙ first_other i j (f a) (group_lines (suc j) l ++ rest) v k (omega arith) (others i (suc j) l h (omega arith) (omega arith))

    pub grouped_back : (i : ℕ) (l : List A) → Every (λ a. Every (Values 2) (f a)) l → i + length l ≤ 10 ^ 12 → Reads (grouped pairs (length l) i) (group_lines i l) (grouped_rows f i l) rest
    unfolding grouped together grouped_rows
    grouped_back i [] h s = λ n. ap (λ (j : ℕ). found [] j rest) (sym (add-zero n))
    grouped_back i (a ∷ l) (and_all v h) s =
        let g : List Row = with_id i (f a) in
        let more : List Line = group_lines (suc i) l in
        let e : pairs i (map line_text g ++ (more ++ rest)) ≡ g = pairs_more i (f a) (more ++ rest) v (omega arith) (others i (suc i) l h (omega arith) (omega arith)) in
        subst (λ (t : List Line). Reads (grouped pairs (suc (length l)) i) t (g ∷ grouped_rows f (suc i) l) rest) (sym (groups_cons i a l))
        (then_back (rows (pairs i)) (λ y. grouped pairs (length l) (suc i) ▷ λ ys. found (y ∷ ys)) (map line_text g) more g (g ∷ grouped_rows f (suc i) l) rest
        (rows_back (pairs i) g (more ++ rest) e)
        (into_back (grouped pairs (length l) (suc i)) (λ ys. g ∷ ys) more (grouped_rows f (suc i) l) rest (grouped_back (suc i) l h (omega arith))))
