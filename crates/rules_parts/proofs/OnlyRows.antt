-- What a reader takes as a table is the text of its rows, and of no others. Assumes nothing.
use Rattle.std.specs.Prelude.{None, Option, Some}
use Prim.Native.Nat.{ℕ, zero, suc}
use Prim.Native.String.{String}
use mathlib.Core.Path.{◌≡◌, refl, sym, ap, subst, ◌∙◌}
use mathlib.Core.List.{List, [], ◌∷◌, ◌++◌, append_assoc, map}
use mathlib.Core.Bool.{Bool, true, false, cond}
use native.Mathlib.Omega.{arith}
use borrow.Author.Tests.{eqb-true}
use lib.ListN.{length, drop}
use lib.IntN.{ℤ, pos, negsuc}
use Rattle.rules_number.proofs.OverLaws.{never}
use Rattle.rules_text.specs.Numbers.{Line, Row, bytes, same, row}
use Rattle.rules_text.specs.Tables.{Reader, Reading, found, faulty, next, ◌▷◌, taken, due, headed, cell, one, single, if_suits, has_id, and_more, run, rows, counting, counted, each, grouped, pairs}
use Rattle.rules_text.proofs.NameLaws.{same_eq}
use Rattle.rules_text.specs.Printing.{line_text}
use Rattle.rules_text.specs.Spelled.{Every, no_more, and_all, Small, counted_rows, grouped_rows, together}
use Rattle.rules_text.proofs.ReaderLaws.{Values, with_id, map-append}
use Rattle.rules_text.proofs.OnlySpelling.{Spelled, row_only}

no : {X : Type 0} → ◌≡◌ {A = ℕ} 0 1 → X
no e = absurd (omega arith)

-- ---- readers taken apart
pub record Two {A B : Type 0} (m : Reader A) (f : A → Reader B) (n : ℕ) (ls : List Line) (b : B) (n' : ℕ) (ls' : List Line) : Type 0 where
  pub a : A
  pub at : ℕ
  pub left : List Line
  pub first : m n ls ≡ found a at left
  pub then' : f a at left ≡ found b n' ls'

two_by : {A B : Type 0} (m : Reader A) (f : A → Reader B) (n : ℕ) (ls : List Line) (b : B) (n' : ℕ) (ls' : List Line) (x : Reading A) → m n ls ≡ x → next x f ≡ found b n' ls' → Two m f n ls b n' ls'
two_by m f n ls b n' ls' (faulty k) e h = no (cc)
two_by m f n ls b n' ls' (found a n1 ls1) e h = record { a = a; at = n1; left = ls1; first = e; then' = h }

pub two : {A B : Type 0} (m : Reader A) (f : A → Reader B) (n : ℕ) (ls : List Line) (b : B) (n' : ℕ) (ls' : List Line) → (m ▷ f) n ls ≡ found b n' ls' → Two m f n ls b n' ls'
two m f n ls b n' ls' h = two_by m f n ls b n' ls' (m n ls) refl h

pub record Headed {A : Type 0} (names : String) (r : Reader A) (n : ℕ) (ls : List Line) (a : A) (n' : ℕ) (ls' : List Line) : Type 0 where
  pub below : List Line
  pub is : ls ≡ bytes names ∷ below
  pub reads : r (suc n) below ≡ found a n' ls'

headed_by : {A : Type 0} (names : String) (r : Reader A) (n : ℕ) (l : Line) (ls : List Line) (a : A) (n' : ℕ) (ls' : List Line) (b : Bool) → same (bytes names) l ≡ b → cond b (r (suc n) ls) (faulty (suc n)) ≡ found a n' ls'
    → Headed names r n (l ∷ ls) a n' ls'
headed_by names r n l ls a n' ls' true e h = record { below = ls; is = ap (λ (x : Line). x ∷ ls) (sym (same_eq (bytes names) l e)); reads = h }
headed_by names r n l ls a n' ls' false e h = no (cc)

pub headed_only : {A : Type 0} (names : String) (r : Reader A) (n : ℕ) (ls : List Line) (a : A) (n' : ℕ) (ls' : List Line) → headed names r n ls ≡ found a n' ls' → Headed names r n ls a n' ls'
unfolding headed
headed_only names r n [] a n' ls' h = no (cc)
headed_only names r n (l ∷ ls) a n' ls' h = headed_by names r n l ls a n' ls' (same (bytes names) l) refl h

-- a table below its names, and what is read after it
pub record Stage {A : Type 0} (title : String) (Table : List Line → A → List Line → Type 0) (More : A → List Line → Type 0) (ls : List Line) : Type 0 where
  pub below : List Line
  pub left : List Line
  pub a : A
  pub names : ls ≡ bytes title ∷ below
  pub table : Table below a left
  pub more : More a left

pub stage : {A B : Type 0} (title : String) (r : Reader A) (f : A → Reader B) {Table : List Line → A → List Line → Type 0} {More : A → List Line → Type 0} (n : ℕ) (ls : List Line) (b : B) (n' : ℕ) (ls' : List Line)
    → ((k : ℕ) (u : List Line) (a : A) (m : ℕ) (v : List Line) → r k u ≡ found a m v → Table u a v) → ((a : A) (k : ℕ) (u : List Line) → f a k u ≡ found b n' ls' → More a u)
    → (headed title r ▷ f) n ls ≡ found b n' ls' → Stage title Table More ls
stage title r f n ls b n' ls' table more h =
    let A = two (headed title r) f n ls b n' ls' h in
    let B = headed_only title r n ls A.a A.at A.left A.first in
    record {
      below = B.below;
      left = A.left;
      a = A.a;
      names = B.is;
      table = table (suc n) B.below A.a A.at A.left B.reads;
      more = more A.a A.at A.left A.then';
    }

pub record Due {A : Type 0} (is : Line → Option A) (ls : List Line) (a : A) (ls' : List Line) : Type 0 where
  pub line : Line
  pub lines : ls ≡ line ∷ ls'
  pub reads : is line ≡ Some a

due_by : {A : Type 0} (is : Line → Option A) (n : ℕ) (l : Line) (ls : List Line) (a : A) (n' : ℕ) (ls' : List Line) (o : Option A) → is l ≡ o → taken o n ls ≡ found a n' ls' → Due is (l ∷ ls) a ls'
due_by is n l ls a n' ls' None e h = no (cc)
due_by is n l ls a n' ls' (Some b) e h =
    let p : b ≡ a = cc in
    let t : ls ≡ ls' = cc in
    record { line = l; lines = ap (λ (u : List Line). l ∷ u) t; reads = e ∙ ap Some p }

pub due_only : {A : Type 0} (is : Line → Option A) (n : ℕ) (ls : List Line) (a : A) (n' : ℕ) (ls' : List Line) → due is n ls ≡ found a n' ls' → Due is ls a ls'
unfolding due
due_only is n [] a n' ls' h = no (cc)
due_only is n (l ∷ ls) a n' ls' h = due_by is n l ls a n' ls' (is l) refl h

-- ---- a line of one value
one_row : (l : Line) (x : Row) (z : ℤ) → Spelled 1 l x → cell 0 x ≡ z → (l ≡ line_text (z ∷ [])) × Small z
one_row l [] z s e = absurd (omega (arith, s.count))
one_row l (y ∷ []) z s e = go s.small
  where
    go : Every Small (y ∷ []) → (l ≡ line_text (z ∷ [])) × Small z
    go (and_all p q) = (s.is ∙ ap (λ (w : ℤ). line_text (w ∷ [])) e, subst Small e p)
one_row l (y ∷ w ∷ x) z s e = absurd (omega (arith, s.count))

one_by : (l : Line) (z : ℤ) (o : Option Row) → row 1 l ≡ o → one o ≡ Some z → (l ≡ line_text (z ∷ [])) × Small z
one_by l z None e h = no (cc)
one_by l z (Some x) e h = let q : cell 0 x ≡ z = cc in one_row l x z (row_only 1 l x e) q

pub single_only : (l : Line) (z : ℤ) → single l ≡ Some z → (l ≡ line_text (z ∷ [])) × Small z
unfolding single
single_only l z h = one_by l z (row 1 l) refl h

-- ---- a line with an id
pub record WithId (k i : ℕ) (l : Line) (x : Row) : Type 0 where
  pub tail : Row
  pub is : x ≡ pos i ∷ tail
  pub values : Values k tail
  pub line : l ≡ line_text x

id_row : (k i : ℕ) (l : Line) (x : Row) → Spelled (suc k) l x → has_id i x ≡ true → WithId k i l x
id_row k i l [] s e = absurd (omega (arith, s.count))
id_row k i l (pos j ∷ x) s e = go s.small
  where
    go : Every Small (pos j ∷ x) → WithId k i l (pos j ∷ x)
    go (and_all p q) = record { tail = x; is = ap (λ (m : ℕ). pos m ∷ x) (sym (eqb-true i j e)); values = record { count = (let c = s.count in omega arith); small = q }; line = s.is }
id_row k i l (negsuc j ∷ x) s e = never e

pub record Suited (k : ℕ) (suits : Row → Bool) (l : Line) (x : Row) : Type 0 where
  pub spelled : Spelled k l x
  pub test : suits x ≡ true

suited_by : (k : ℕ) (suits : Row → Bool) (l : Line) (x y : Row) (b : Bool) → row k l ≡ Some y → suits y ≡ b → cond b (Some y) None ≡ Some x → Suited k suits l x
suited_by k suits l x y true e s h = let q : y ≡ x = cc in subst (Suited k suits l) q (record { spelled = row_only k l y e; test = s })
suited_by k suits l x y false e s h = no (cc)

suited_of : (k : ℕ) (suits : Row → Bool) (l : Line) (x : Row) (o : Option Row) → row k l ≡ o → if_suits suits o ≡ Some x → Suited k suits l x
suited_of k suits l x None e h = no (cc)
suited_of k suits l x (Some y) e h = suited_by k suits l x y (suits y) e refl h

pub suited : (k : ℕ) (suits : Row → Bool) (l : Line) (x : Row) → if_suits suits (row k l) ≡ Some x → Suited k suits l x
suited k suits l x h = suited_of k suits l x (row k l) refl h

-- ---- a run is the lines of its rows, and each row suits
module _ (k : ℕ) (suits : ℕ → Row → Bool) (after : ℕ → Row → ℕ) where
  pub data Run : ℕ → List Row → Type 0 where
    ended : {i : ℕ} → Run i []
    goes : {i : ℕ} {x : Row} {xs : List Row} {l : Line} → Suited k (suits i) l x → Run (after i x) xs → Run i (x ∷ xs)

  pub record Ran (i : ℕ) (ls : List Line) (xs : List Row) : Type 0 where
    pub runs : Run i xs
    pub is : ls ≡ map line_text xs ++ drop (length xs) ls

  ran_by : (i : ℕ) (l : Line) (ls : List Line) (o : Option Row) → if_suits (suits i) (row k l) ≡ o → ((j : ℕ) → Ran j ls (run k suits after j ls)) → Ran i (l ∷ ls) (and_more o (λ x. run k suits after (after i x) ls))
  ran_by i l ls None e ih = record { runs = ended; is = refl }
  ran_by i l ls (Some x) e ih =
      let s = suited k (suits i) l x e in
      let r = ih (after i x) in
      record { runs = goes s r.runs; is = ap (λ (y : Line). y ∷ ls) s.spelled.is ∙ ap (λ (t : List Line). line_text x ∷ t) r.is }

  pub ran : (i : ℕ) (ls : List Line) → Ran i ls (run k suits after i ls)
  unfolding run
  ran i [] = record { runs = ended; is = refl }
  ran i (l ∷ ls) = ran_by i l ls (if_suits (suits i) (row k l)) refl (λ j. ran j ls)

-- rows read from lines: those lines, and what is left
pub rows_only : (of : List Line → List Row) → ((ls : List Line) → ls ≡ map line_text (of ls) ++ drop (length (of ls)) ls)
    → (n : ℕ) (ls : List Line) (xs : List Row) (n' : ℕ) (ls' : List Line) → rows of n ls ≡ found xs n' ls' → (xs ≡ of ls) × (ls ≡ map line_text xs ++ ls')
unfolding rows
rows_only of e n ls xs n' ls' h =
    let a : of ls ≡ xs = cc in
    let t : drop (length (of ls)) ls ≡ ls' = cc in
    (sym a, e ls ∙ ap (λ (ys : List Row). map line_text ys ++ drop (length (of ls)) ls) a ∙ ap (λ (u : List Line). map line_text xs ++ u) t)

-- ---- rows that count up
pub record Counts (k i : ℕ) (xs : List Row) : Type 0 where
  pub tails : List Row
  pub is : counted_rows (λ y. y) i tails ≡ xs
  pub values : Every (Values k) tails

unfoldable counts_cons : (k i : ℕ) (l : Line) (x : Row) (xs : List Row) → WithId k i l x → Counts k (suc i) xs → Counts k i (x ∷ xs)
unfolding counted_rows
counts_cons k i l x xs w c = record {
  tails = w.tail ∷ c.tails;
  is = ap (λ (y : Row). y ∷ counted_rows (λ z. z) (suc i) c.tails) (sym w.is) ∙ ap (λ (ys : List Row). x ∷ ys) c.is;
  values = and_all w.values c.values;
}

unfoldable counts_nil : (k i : ℕ) → Counts k i []
unfolding counted_rows
counts_nil k i = record { tails = []; is = refl; values = no_more }

counts_of : (k i : ℕ) (xs : List Row) → Run (suc k) has_id (λ j x. suc j) i xs → Counts k i xs
counts_of k i [] r = counts_nil k i
counts_of k i (x ∷ xs) (goes {l = l} s r) = counts_cons k i l x xs (id_row k i l x s.spelled s.test) (counts_of k (suc i) xs r)

pub counted_only : (k n : ℕ) (ls : List Line) (xs : List Row) (n' : ℕ) (ls' : List Line) → counted (suc k) n ls ≡ found xs n' ls' → Counts k 0 xs × (ls ≡ map line_text xs ++ ls')
unfolding counted
counted_only k n ls xs n' ls' h =
    let r = rows_only (counting (suc k)) (λ t. (ran (suc k) has_id (λ j x. suc j) 0 t).is) n ls xs n' ls' h in
    (subst (Counts k 0) (sym r.0) (counts_of k 0 (counting (suc k) ls) (ran (suc k) has_id (λ j x. suc j) 0 ls).runs), r.1)

pub record Eaches (k m r : ℕ) (ls : List Line) (xs : List Row) (ls' : List Line) : Type 0 where
  pub counts : Counts k r xs
  pub many : length counts.tails ≡ m
  pub is : ls ≡ map line_text xs ++ ls'

eaches_cons : (k m r : ℕ) (ls : List Line) (l : Line) (x : Row) (ls1 : List Line) (xs : List Row) (ls' : List Line) → WithId k r l x → ls ≡ l ∷ ls1 → Eaches k m (suc r) ls1 xs ls' → Eaches k (suc m) r ls (x ∷ xs) ls'
unfolding counts_cons
eaches_cons k m r ls l x ls1 xs ls' w e E = record {
  counts = counts_cons k r l x xs w E.counts;
  many = ap suc E.many;
  is = e ∙ ap (λ (y : Line). y ∷ ls1) w.line ∙ ap (λ (t : List Line). line_text x ∷ t) E.is;
}

pub each_only : (k m r n : ℕ) (ls : List Line) (xs : List Row) (n' : ℕ) (ls' : List Line) → each (suc k) m r n ls ≡ found xs n' ls' → Eaches k m r ls xs ls'
unfolding each counts_nil
each_only k zero r n ls xs n' ls' h =
    let a : [] ≡ xs = cc in
    let t : ls ≡ ls' = cc in
    subst (λ (ys : List Row). Eaches k 0 r ls ys ls') a (record { counts = counts_nil k r; many = refl; is = t })
each_only k (suc m) r n ls xs n' ls' h =
    let A = two (due (λ l. if_suits (has_id r) (row (suc k) l))) (λ x. each (suc k) m (suc r) ▷ λ ys. found (x ∷ ys)) n ls xs n' ls' h in
    let D = due_only (λ l. if_suits (has_id r) (row (suc k) l)) n ls A.a A.at A.left A.first in
    let B = two (each (suc k) m (suc r)) (λ ys. found (A.a ∷ ys)) A.at A.left xs n' ls' A.then' in
    let E = each_only k m (suc r) A.at A.left B.a B.at B.left B.first in
    let s = suited (suc k) (has_id r) D.line A.a D.reads in
    let w = id_row k r D.line A.a s.spelled s.test in
    let a : A.a ∷ B.a ≡ xs = let q = B.then' in cc in
    let t : B.left ≡ ls' = let q = B.then' in cc in
    subst (λ (ys : List Row). Eaches k (suc m) r ls ys ls') a (eaches_cons k m r ls D.line A.a A.left B.a ls' w D.lines (subst (λ (u : List Line). Eaches k m (suc r) A.left B.a u) t E))

-- ---- rows that are grouped
pub record Groups (m r : ℕ) (ls : List Line) (gs : List (List Row)) (ls' : List Line) : Type 0 where
  pub tails : List (List Row)
  pub are : grouped_rows (λ y. y) r tails ≡ gs
  pub values : Every (Every (Values 2)) tails
  pub many : length tails ≡ m
  pub is : ls ≡ map line_text (together gs) ++ ls'

pub record Group (r : ℕ) (xs : List Row) : Type 0 where
  pub tails : List Row
  pub are : with_id r tails ≡ xs
  pub values : Every (Values 2) tails

group_of : (r i : ℕ) (xs : List Row) → Run 3 (λ j. has_id r) (λ j x. j) i xs → Group r xs
group_of r i [] q = record { tails = []; are = refl; values = no_more }
group_of r i (x ∷ xs) (goes {l = l} s q) =
    let w = id_row 2 r l x s.spelled s.test in
    let g = group_of r i xs q in
    record {
      tails = w.tail ∷ g.tails;
      are = ap (λ (y : Row). y ∷ with_id r g.tails) (sym w.is) ∙ ap (λ (ys : List Row). x ∷ ys) g.are;
      values = and_all w.values g.values;
    }

pairs_only : (r n : ℕ) (ls : List Line) (xs : List Row) (n' : ℕ) (ls' : List Line) → rows (pairs r) n ls ≡ found xs n' ls' → Group r xs × (ls ≡ map line_text xs ++ ls')
unfolding pairs
pairs_only r n ls xs n' ls' h =
    let q = rows_only (pairs r) (λ t. (ran 3 (λ j. has_id r) (λ j x. j) 0 t).is) n ls xs n' ls' h in
    (subst (Group r) (sym q.0) (group_of r 0 (pairs r ls) (ran 3 (λ j. has_id r) (λ j x. j) 0 ls).runs), q.1)

groups_cons : (m r : ℕ) (ls : List Line) (g : List Row) (ls1 : List Line) (gs : List (List Row)) (ls' : List Line) → Group r g → ls ≡ map line_text g ++ ls1 → Groups m (suc r) ls1 gs ls' → Groups (suc m) r ls (g ∷ gs) ls'
unfolding grouped_rows together
groups_cons m r ls g ls1 gs ls' G e H = record {
  tails = G.tails ∷ H.tails;
  are = ap (λ (y : List Row). y ∷ grouped_rows (λ z. z) (suc r) H.tails) G.are ∙ ap (λ (ys : List (List Row)). g ∷ ys) H.are;
  values = and_all G.values H.values;
  many = ap suc H.many;
  is =
      e ∙ ap (λ (t : List Line). map line_text g ++ t) H.is ∙ sym (append_assoc (map line_text g) (map line_text (together gs)) ls')
      ∙ ap (λ (t : List Line). t ++ ls') (sym (map-append g (together gs)));
}

pub grouped_only : (m r n : ℕ) (ls : List Line) (gs : List (List Row)) (n' : ℕ) (ls' : List Line) → grouped pairs m r n ls ≡ found gs n' ls' → Groups m r ls gs ls'
unfolding grouped grouped_rows together
grouped_only zero r n ls gs n' ls' h =
    let a : [] ≡ gs = cc in
    let t : ls ≡ ls' = cc in
    subst (λ (ys : List (List Row)). Groups 0 r ls ys ls') a (record { tails = []; are = refl; values = no_more; many = refl; is = t })
grouped_only (suc m) r n ls gs n' ls' h =
    let A = two (rows (pairs r)) (λ g. grouped pairs m (suc r) ▷ λ ys. found (g ∷ ys)) n ls gs n' ls' h in
    let P = pairs_only r n ls A.a A.at A.left A.first in
    let B = two (grouped pairs m (suc r)) (λ ys. found (A.a ∷ ys)) A.at A.left gs n' ls' A.then' in
    let H = grouped_only m (suc r) A.at A.left B.a B.at B.left B.first in
    let a : A.a ∷ B.a ≡ gs = let q = B.then' in cc in
    let t : B.left ≡ ls' = let q = B.then' in cc in
    subst (λ (ys : List (List Row)). Groups (suc m) r ls ys ls') a
    (groups_cons m r ls A.a A.left B.a ls' P.0 P.1 (subst (λ (u : List Line). Groups m (suc r) A.left B.a u) t H))

-- the rows alone
pub record Grouped (m : ℕ) (gs : List (List Row)) : Type 0 where
  pub tails : List (List Row)
  pub are : grouped_rows (λ y. y) 0 tails ≡ gs
  pub values : Every (Every (Values 2)) tails
  pub many : length tails ≡ m

pub group_rows : (m : ℕ) (ls : List Line) (gs : List (List Row)) (ls' : List Line) → Groups m 0 ls gs ls' → Grouped m gs
group_rows m ls gs ls' g = record { tails = g.tails; are = g.are; values = g.values; many = g.many }
