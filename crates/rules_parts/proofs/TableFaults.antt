-- The first faulty line of each kind of table. Assumes nothing.
use Rattle.std.specs.Prelude.{None, Option, Some}
use Prim.Native.Nat.{ℕ, zero, suc, ◌+◌, ◌^◌, ◌<◌, ◌≤◌}
use Prim.Native.String.{String}
use mathlib.Core.Path.{◌≡◌, refl, sym, ap, subst, ◌∙◌}
use mathlib.Core.List.{List, [], ◌∷◌, ◌++◌, map}
use mathlib.Core.Bool.{Bool, true, false, cond}
use mathlib.Core.Logic.{inl, inr, ⊎_elim}
use native.Mathlib.Omega.{arith}
use native.Mathlib.Nat.{add-zero}
use borrow.Author.Tests.{eqb-true}
use lib.ListN.{length, drop, take, get_or, replicate, length-replicate, take-append-drop}
use lib.Seq.{length-take-le, drop_at}
use lib.IntN.{pos, negsuc}
use Rattle.rules_number.specs.Order.{eq_z}
use Rattle.rules_number.proofs.OverLaws.{never}
use Rattle.rules_text.specs.Numbers.{Line, Row, bytes, same, number, magnitude, row}
use Rattle.rules_text.specs.Tables.{Reader, Reading, found, faulty, next, ◌▷◌, taken, due, headed, cell, if_suits, has_id, and_more, run, rows, counting, counted, each, grouped, pairs}
use Rattle.rules_text.proofs.StageLaws.{run_few}
use Rattle.rules_text.specs.Printing.{line_text}
use Rattle.rules_text.specs.Spelled.{Every, no_more, and_all, Small, counted_rows}
use Rattle.rules_text.proofs.ReaderLaws.{Names, Reads, Values, headed_back, due_back, run_names, each_back}
use Rattle.rules_text.proofs.OnlySpelling.{row_only}
use Rattle.rules_parts.proofs.FaultLaws.{Alike, Locally, Local, Fault, Inner, OuterFault, Outer, then_local, found_outer}

no : {X : Type 0} → ◌≡◌ {A = ℕ} 0 1 → X
no e = absurd (omega arith)

-- any value will do
abbrev pub Any : {A : Type 0} → A → Type 0
Any a = a ≡ a

-- ---- a names line
module _ {A : Type 0} (names : String) (r : Reader A) (Q : A → Type 0) (are : number (bytes names) ≡ None) (p : Inner r Q) where
  reads_headed : (n : ℕ) (rest : List Line) → Names rest → headed names r n ((bytes names ∷ p.possible.ls) ++ rest) ≡ found p.possible.value (n + length (bytes names ∷ p.possible.ls)) rest
  reads_headed n rest h = headed_back names r p.possible.ls p.possible.value rest (λ k. p.possible.reads k rest h) n

  -- another line, or none, in its place
  unnamed : (n : ℕ) (ls : List Line) (line : ℕ) → suc n ≡ line → ((l : Line) (tail : List Line) → ls ≡ l ∷ tail → same (bytes names) l ≡ false) → OuterFault (headed names r) Q n ls line
  unfolding headed
  unnamed n ls line e h = record {
    fault = record {
      start = [];
      left = ls;
      is = refl;
      number = omega arith;
      never = λ l tail w others. ap (λ (b : Bool). cond b (r (suc n) others) (faulty (suc n))) (h l tail w) ∙ ap faulty e;
      more = bytes names ∷ p.possible.ls;
      part = p.possible.value;
      good = p.possible.good;
      whole = reads_headed n;
    };
    alike = λ rest w. inl are;
  }

  named : (n : ℕ) (l : Line) (ls : List Line) (line : ℕ) → same (bytes names) l ≡ true → r (suc n) ls ≡ faulty line → OuterFault (headed names r) Q n (l ∷ ls) line
  unfolding headed
  named n l ls line s e =
      let F = p.fault (suc n) ls line e in
      let through : (t : List Line) → headed names r n (l ∷ t) ≡ r (suc n) t = λ t. ap (λ (b : Bool). cond b (r (suc n) t) (faulty (suc n))) s in
      record {
        fault = record {
          start = l ∷ F.start;
          left = F.left;
          is = ap (λ (t : List Line). l ∷ t) F.is;
          number = omega (arith, F.number);
          never = λ x tail w others. through (F.start ++ (x ∷ others)) ∙ F.never x tail w others;
          more = F.more;
          part = F.part;
          good = F.good;
          whole = λ rest w.
              let size : suc n + length (F.start ++ F.more) ≡ n + suc (length (F.start ++ F.more)) = omega arith in
              through (F.start ++ (F.more ++ rest)) ∙ F.whole rest w ∙ ap (λ (k : ℕ). found F.part k rest) size;
        };
        alike = λ rest w. inr refl;
      }

  fault_by : (n : ℕ) (l : Line) (ls : List Line) (line : ℕ) (b : Bool) → same (bytes names) l ≡ b → cond b (r (suc n) ls) (faulty (suc n)) ≡ faulty line → OuterFault (headed names r) Q n (l ∷ ls) line
  fault_by n l ls line true e h = named n l ls line e h
  fault_by n l ls line false e h =
      let q : suc n ≡ line = cc in
      unnamed n (l ∷ ls) line q (λ x tail w. let z : l ≡ x = cc in ap (same (bytes names)) (sym z) ∙ e)

  fault_of : (n : ℕ) (ls : List Line) (line : ℕ) → headed names r n ls ≡ faulty line → OuterFault (headed names r) Q n ls line
  unfolding headed
  fault_of n [] line h = let q : suc n ≡ line = cc in unnamed n [] line q (λ x tail w. no (cc))
  fault_of n (l ∷ ls) line h = fault_by n l ls line (same (bytes names) l) refl h

  local_by : (n : ℕ) (l : Line) (ls : List Line) (a : A) (n' : ℕ) (ls' : List Line) (b : Bool) → same (bytes names) l ≡ b → cond b (r (suc n) ls) (faulty (suc n)) ≡ found a n' ls' → Locally (headed names r) Q n (l ∷ ls) a n' ls'
  unfolding headed
  local_by n l ls a n' ls' false e h = no (cc)
  local_by n l ls a n' ls' true e h =
      let L = p.local (suc n) ls a n' ls' h in
      record {
        pre = l ∷ L.pre;
        is = ap (λ (t : List Line). l ∷ t) L.is;
        count = omega (arith, L.count);
        good = L.good;
        local = λ other w. ap (λ (b : Bool). cond b (r (suc n) (L.pre ++ other)) (faulty (suc n))) e ∙ L.local other w;
      }

  local_of : Local (headed names r) Q
  unfolding headed
  local_of n [] a n' ls' h = no (cc)
  local_of n (l ∷ ls) a n' ls' h = local_by n l ls a n' ls' (same (bytes names) l) refl h

  pub headed_outer : Outer (headed names r) Q
  headed_outer = record {
    local = local_of;
    possible = record { ls = bytes names ∷ p.possible.ls; value = p.possible.value; good = p.possible.good; reads = reads_headed };
    names = λ rest h. are;
    fault = fault_of;
  }

-- ---- a line that is due, of which l is one
module _ {A : Type 0} (is : Line → Option A) where
  due_by : (n : ℕ) (l : Line) (ls : List Line) (a : A) (n' : ℕ) (ls' : List Line) (o : Option A) → is l ≡ o → taken o n ls ≡ found a n' ls' → Locally (due is) Any n (l ∷ ls) a n' ls'
  unfolding due
  due_by n l ls a n' ls' None e h = no (cc)
  due_by n l ls a n' ls' (Some b) e h =
      let p : b ≡ a = cc in
      let c : suc n ≡ n' = cc in
      let t : ls ≡ ls' = cc in
      record {
        pre = l ∷ [];
        is = ap (λ (u : List Line). l ∷ u) t;
        count = omega arith;
        good = refl;
        local = λ other w. ap (λ (o : Option A). taken o n other) e ∙ ap (λ (x : A). found x (suc n) other) p ∙ ap (λ (k : ℕ). found a k other) c;
      }

  pub due_local : Local (due is) Any
  unfolding due
  due_local n [] a n' ls' h = no (cc)
  due_local n (l ∷ ls) a n' ls' h = due_by n l ls a n' ls' (is l) refl h

  module _ (l : Line) (a : A) (one : is l ≡ Some a) where
    refused : (n : ℕ) (ls : List Line) (line : ℕ) → suc n ≡ line → ((x : Line) (tail : List Line) → ls ≡ x ∷ tail → is x ≡ None) → Fault (due is) Any n ls line
    unfolding due
    refused n ls line e h = record {
      start = [];
      left = ls;
      is = refl;
      number = omega arith;
      never = λ x tail w others. ap (λ (o : Option A). taken o n others) (h x tail w) ∙ ap faulty e;
      more = l ∷ [];
      part = a;
      good = refl;
      whole = λ rest w. due_back is l a rest one n;
    }

    due_fault_by : (n : ℕ) (x : Line) (ls : List Line) (line : ℕ) (o : Option A) → is x ≡ o → taken o n ls ≡ faulty line → Fault (due is) Any n (x ∷ ls) line
    due_fault_by n x ls line None e h = let q : suc n ≡ line = cc in refused n (x ∷ ls) line q (λ y tail w. let z : x ≡ y = cc in ap is (sym z) ∙ e)
    due_fault_by n x ls line (Some b) e h = no (cc)

    due_fault : (n : ℕ) (ls : List Line) (line : ℕ) → due is n ls ≡ faulty line → Fault (due is) Any n ls line
    unfolding due
    due_fault n [] line h = let q : suc n ≡ line = cc in refused n [] line q (λ y tail w. no (cc))
    due_fault n (x ∷ ls) line h = due_fault_by n x ls line (is x) refl h

    pub due_inner : Inner (due is) Any
    due_inner = record { local = due_local; possible = record { ls = l ∷ []; value = a; good = refl; reads = λ n rest h. due_back is l a rest one n }; fault = due_fault }

-- ---- rows that end before the first line that does not suit
pub record Rows (of : List Line → List Row) (Q : List Row → Type 0) : Type 0 where
  pub few : (ls : List Line) → length (of ls) ≤ length ls
  pub good : (ls : List Line) → Q (of ls)
  pub names : (ls : List Line) → Names ls → of ls ≡ []
  pub same : (ls other : List Line) → Alike (drop (length (of ls)) ls) other → of (take (length (of ls)) ls ++ other) ≡ of ls

module _ (of : List Line → List Row) (Q : List Row → Type 0) (p : Rows of Q) where
  rows_local : Local (rows of) Q
  unfolding rows
  rows_local n ls xs n' ls' h =
      let a : of ls ≡ xs = cc in
      let c : n + length (of ls) ≡ n' = cc in
      let t : drop (length (of ls)) ls ≡ ls' = cc in
      let pre = take (length (of ls)) ls in
      let size : length pre ≡ length (of ls) = length-take-le (length (of ls)) ls (p.few ls) in
      record {
        pre = take (length (of ls)) ls;
        is = sym (take-append-drop (length (of ls)) ls) ∙ ap (λ (u : List Line). take (length (of ls)) ls ++ u) t;
        count = omega arith;
        good = subst Q a (p.good ls);
        local = λ other w.
            let e : of (take (length (of ls)) ls ++ other) ≡ of ls = p.same ls other (subst (λ (u : List Line). Alike u other) (sym t) w) in
            ap (λ (ys : List Row). found ys (n + length ys) (drop (length ys) (take (length (of ls)) ls ++ other))) e
            ∙ ap (λ (u : List Line). found (of ls) (n + length (of ls)) u) (drop_at (take (length (of ls)) ls) other (length (of ls)) size)
            ∙ ap (λ (ys : List Row). found ys (n + length (of ls)) other) a ∙ ap (λ (k : ℕ). found xs k other) c;
      }

  pub rows_inner : Inner (rows of) Q
  unfolding rows number magnitude
  rows_inner = record {
    local = rows_local;
    possible = record {
      ls = [];
      value = [];
      good = subst Q (p.names [] refl) (p.good []);
      reads = λ n rest h. ap (λ (ys : List Row). found ys (n + length ys) (drop (length ys) rest)) (p.names rest h);
    };
    fault = λ n ls line h. no (cc);
  }

-- ---- runs
module _ (k : ℕ) (suits : ℕ → Row → Bool) (after : ℕ → Row → ℕ) where
  -- a run ends where the first line does not suit
  run_ends : (i : ℕ) (l : Line) (ls : List Line) → if_suits (suits i) (row (suc k) l) ≡ None → get_or ls 0 [] ≡ l → run (suc k) suits after i ls ≡ []
  unfolding run
  run_ends i l [] e h = refl
  run_ends i l (x ∷ ls) e h = ap (λ (o : Option Row). and_more o (λ y. run (suc k) suits after (after i y) ls)) (ap (λ (y : Line). if_suits (suits i) (row (suc k) y)) h ∙ e)

  -- no line is no row
  no_line : (i : ℕ) → if_suits (suits i) (row (suc k) []) ≡ None
  unfolding row number magnitude
  no_line i = refl

  abbrev from : ℕ → List Line → List Row
  from i ls = run (suc k) suits after i ls

  run_by : (i : ℕ) (l : Line) (ls other : List Line) (o : Option Row) → if_suits (suits i) (row (suc k) l) ≡ o
      → ((j : ℕ) → Alike (drop (length (from j ls)) ls) other → from j (take (length (from j ls)) ls ++ other) ≡ from j ls)
      → Alike (drop (length (and_more o (λ y. from (after i y) ls))) (l ∷ ls)) other
      → from i (take (length (and_more o (λ y. from (after i y) ls))) (l ∷ ls) ++ other) ≡ and_more o (λ y. from (after i y) ls)
  unfolding run
  run_by i l ls other None e ih w = ⊎_elim (λ h. run_names k suits after i other h) (λ h. run_ends i l other e (sym h)) w
  run_by i l ls other (Some x) e ih w =
      ap (λ (o : Option Row). and_more o (λ y. from (after i y) (take (length (from (after i x) ls)) ls ++ other))) e
      ∙ ap (λ (t : List Row). x ∷ t) (ih (after i x) w)

  run_same : (ls other : List Line) (i : ℕ) → Alike (drop (length (from i ls)) ls) other → from i (take (length (from i ls)) ls ++ other) ≡ from i ls
  unfolding run
  run_same [] other i w = ⊎_elim (λ h. run_names k suits after i other h) (λ h. run_ends i [] other (no_line i) (sym h)) w
  run_same (l ∷ ls) other i w = run_by i l ls other (if_suits (suits i) (row (suc k) l)) refl (λ j. run_same ls other j) w

  pub run_rows : (Q : List Row → Type 0) (i : ℕ) → ((ls : List Line) → Q (from i ls)) → Rows (from i) Q
  run_rows Q i q = record { few = run_few (suc k) suits after i; good = q; names = run_names k suits after i; same = λ ls other w. run_same ls other i w }

-- ---- ids that count up are below 10 ^ 12, for they are read
abbrev pub Few : List Row → Type 0
Few xs = length xs ≤ 10 ^ 12

id_small : (i : ℕ) (x : Row) → Every Small x → 0 < length x → eq_z (pos i) (cell 0 x) ≡ true → i < 10 ^ 12
id_small i [] s h e = absurd (omega arith)
id_small i (pos j ∷ x) (and_all s r) h e = let q = eqb-true i j e in omega arith
id_small i (negsuc j ∷ x) s h e = never e

few_by : (k i : ℕ) (l : Line) (xs : List Row) (o : Option Row) → row (suc k) l ≡ o → i ≤ 10 ^ 12 → (i < 10 ^ 12 → suc i + length xs ≤ 10 ^ 12) → i + length (and_more (if_suits (has_id i) o) (λ y. xs)) ≤ 10 ^ 12
few_by k i l xs None e h ih = omega arith
few_by k i l xs (Some x) e h ih = go (has_id i x) refl
  where
    go : (b : Bool) → has_id i x ≡ b → i + length (and_more (cond b (Some x) None) (λ y. xs)) ≤ 10 ^ 12
    go true q = let s = row_only (suc k) l x e in let r = ih (id_small i x s.small (omega (arith, s.count)) q) in omega arith
    go false q = omega arith

counting_few : (k i : ℕ) (ls : List Line) → i ≤ 10 ^ 12 → i + length (run (suc k) has_id (λ j x. suc j) i ls) ≤ 10 ^ 12
unfolding run
counting_few k i [] h = omega arith
counting_few k i (l ∷ ls) h = few_by k i l (run (suc k) has_id (λ j x. suc j) (suc i) ls) (row (suc k) l) refl h (λ s. counting_few k (suc i) ls (omega arith))

pub counted_inner : (k : ℕ) → Inner (counted (suc k)) Few
unfolding counted
counted_inner k = rows_inner (counting (suc k)) Few (run_rows k has_id (λ j x. suc j) Few 0 (λ ls. let h = counting_few k 0 ls (omega arith) in omega arith))

-- ---- groups
pairs_rows : (r : ℕ) → Rows (pairs r) Any
unfolding pairs
pairs_rows r = run_rows 2 (λ i. has_id r) (λ i x. i) Any 0 (λ ls. refl)

grouped_local : (m r : ℕ) → Local (grouped pairs m r) Any
unfolding grouped
grouped_local zero r = (found_outer [] Any refl).local
grouped_local (suc m) r =
    then_local (rows (pairs r)) (λ g. grouped pairs m (suc r) ▷ λ gs. found (g ∷ gs)) Any Any (rows_local (pairs r) Any (pairs_rows r))
    (λ g q. then_local (grouped pairs m (suc r)) (λ gs. found (g ∷ gs)) Any Any (grouped_local m (suc r)) (λ gs w. (found_outer (g ∷ gs) Any refl).local))

-- none of m resources has lines
grouped_none : (m r n : ℕ) (rest : List Line) → Names rest → grouped pairs m r n rest ≡ found (replicate m []) n rest
unfolding grouped rows
grouped_none zero r n rest h = refl
grouped_none (suc m) r n rest h =
    ap (λ (ys : List Row). next (grouped pairs m (suc r) (n + length ys) (drop (length ys) rest)) (λ gs. found (ys ∷ gs))) ((pairs_rows r).names rest h)
    ∙ ap (λ (k : ℕ). next (grouped pairs m (suc r) k rest) (λ gs. found ([] ∷ gs))) (add-zero n)
    ∙ ap (λ (x : Reading (List (List Row))). next x (λ gs. found ([] ∷ gs))) (grouped_none m (suc r) n rest h)

-- and it never refuses
some_found : {A B : Type 0} (x : Reading A) (g : A → B) (line : ℕ) → next x (λ a. found (g a)) ≡ faulty line → x ≡ faulty line
some_found (faulty k) g line h = let q : k ≡ line = cc in ap faulty q
some_found (found a n ls) g line h = no (cc)

grouped_never : (m r n : ℕ) (ls : List Line) (line : ℕ) → grouped pairs m r n ls ≡ faulty line → ⊥
unfolding grouped rows
grouped_never zero r n ls line h = no (cc)
grouped_never (suc m) r n ls line h =
    let xs = pairs r ls in
    grouped_never m (suc r) (n + length xs) (drop (length xs) ls) line (some_found (grouped pairs m (suc r) (n + length xs) (drop (length xs) ls)) (λ gs. xs ∷ gs) line h)

pub grouped_inner : (m : ℕ) → Inner (grouped pairs m 0) Any
grouped_inner m = record {
  local = grouped_local m 0;
  possible = record { ls = []; value = replicate m []; good = refl; reads = λ n rest h. grouped_none m 0 n rest h ∙ ap (λ (k : ℕ). found (replicate m []) k rest) (sym (add-zero n)) };
  fault = λ n ls line h. absurd (grouped_never m 0 n ls line h);
}

-- ---- a line for each
each_local : (k m r : ℕ) → Local (each k m r) Any
unfolding each
each_local k zero r = (found_outer [] Any refl).local
each_local k (suc m) r =
    then_local (due (λ l. if_suits (has_id r) (row k l))) (λ x. each k m (suc r) ▷ λ xs. found (x ∷ xs)) Any Any (due_local (λ l. if_suits (has_id r) (row k l)))
    (λ x q. then_local (each k m (suc r)) (λ xs. found (x ∷ xs)) Any Any (each_local k m (suc r)) (λ xs w. (found_outer (x ∷ xs) Any refl).local))

-- lines of zeros
module _ (k : ℕ) where
  zeros : ℕ → Row
  zeros i = replicate k (pos 0)

  zeros_small : (j : ℕ) → Every Small (replicate j (pos 0))
  zeros_small zero = no_more
  zeros_small (suc j) = let z : Small (pos 0) = omega arith in and_all z (zeros_small j)

  zeros_values : (l : List ℕ) → Every (λ i. Values k (zeros i)) l
  unfolding zeros
  zeros_values [] = no_more
  zeros_values (i ∷ l) = and_all (record { count = length-replicate k (pos 0); small = zeros_small k }) (zeros_values l)

  abbrev blanks : ℕ → List ℕ
  blanks m = replicate m 0

  zero_rows : ℕ → ℕ → List Row
  zero_rows m r = counted_rows zeros r (blanks m)

  zeros_read : (m r : ℕ) → r + m ≤ 10 ^ 12 → (rest : List Line) → Reads (each (suc k) m r) (map line_text (zero_rows m r)) (zero_rows m r) rest
  unfolding zero_rows
  zeros_read m r h rest =
      let e : length (blanks m) ≡ m = length-replicate m 0 in
      subst (λ (j : ℕ). Reads (each (suc k) j r) (map line_text (counted_rows zeros r (blanks m))) (counted_rows zeros r (blanks m)) rest) e
      (each_back zeros k rest r (blanks m) (zeros_values (blanks m)) (omega arith))

  module _ (m r : ℕ) (h : r + suc m ≤ 10 ^ 12) (n : ℕ) (line : ℕ) where
    -- another line, or none, in the place of the first
    each_refused : (ls : List Line) → suc n ≡ line → ((x : Line) (tail : List Line) → ls ≡ x ∷ tail → if_suits (has_id r) (row (suc k) x) ≡ None) → Fault (each (suc k) (suc m) r) Any n ls line
    unfolding each due
    each_refused ls e w = record {
      start = [];
      left = ls;
      is = refl;
      number = omega arith;
      never = λ x tail q others. ap (λ (o : Option Row). next (taken o n others) (λ y. each (suc k) m (suc r) ▷ λ ys. found (y ∷ ys))) (w x tail q) ∙ ap faulty e;
      more = map line_text (zero_rows (suc m) r);
      part = zero_rows (suc m) r;
      good = refl;
      whole = λ rest q. zeros_read (suc m) r h rest n;
    }

    -- a line in the place of the first, and the fault further on
    each_later : (l : Line) (ls : List Line) (x : Row) → if_suits (has_id r) (row (suc k) l) ≡ Some x → Fault (each (suc k) m (suc r)) Any (suc n) ls line → Fault (each (suc k) (suc m) r) Any n (l ∷ ls) line
    unfolding each due
    each_later l ls x e F =
        let through : (t : List Line) → each (suc k) (suc m) r n (l ∷ t) ≡ next (each (suc k) m (suc r) (suc n) t) (λ ys. found (x ∷ ys)) =
        λ t. ap (λ (o : Option Row). next (taken o n t) (λ y. each (suc k) m (suc r) ▷ λ ys. found (y ∷ ys))) e in
        record {
          start = l ∷ F.start;
          left = F.left;
          is = ap (λ (t : List Line). l ∷ t) F.is;
          number = omega (arith, F.number);
          never = λ y tail w others. through (F.start ++ (y ∷ others)) ∙ ap (λ (z : Reading (List Row)). next z (λ ys. found (x ∷ ys))) (F.never y tail w others);
          more = F.more;
          part = x ∷ F.part;
          good = refl;
          whole = λ rest w.
              let size : suc n + length (F.start ++ F.more) ≡ n + suc (length (F.start ++ F.more)) = omega arith in
              through (F.start ++ (F.more ++ rest)) ∙ ap (λ (z : Reading (List Row)). next z (λ ys. found (x ∷ ys))) (F.whole rest w)
              ∙ ap (λ (j : ℕ). found (x ∷ F.part) j rest) size;
        }

    each_by : (l : Line) (ls : List Line) (o : Option Row) → if_suits (has_id r) (row (suc k) l) ≡ o → next (taken o n ls) (λ y. each (suc k) m (suc r) ▷ λ ys. found (y ∷ ys)) ≡ faulty line
        → (each (suc k) m (suc r) (suc n) ls ≡ faulty line → Fault (each (suc k) m (suc r)) Any (suc n) ls line) → Fault (each (suc k) (suc m) r) Any n (l ∷ ls) line
    each_by l ls None e w ih = let q : suc n ≡ line = cc in each_refused (l ∷ ls) q (λ x tail z. let y : l ≡ x = cc in ap (λ (t : Line). if_suits (has_id r) (row (suc k) t)) (sym y) ∙ e)
    each_by l ls (Some x) e w ih = each_later l ls x e (ih (some_found (each (suc k) m (suc r) (suc n) ls) (λ ys. x ∷ ys) line w))

  each_fault : (m r : ℕ) → r + m ≤ 10 ^ 12 → (n : ℕ) (ls : List Line) (line : ℕ) → each (suc k) m r n ls ≡ faulty line → Fault (each (suc k) m r) Any n ls line
  unfolding each due
  each_fault zero r h n ls line w = no (cc)
  each_fault (suc m) r h n [] line w = let q : suc n ≡ line = cc in each_refused m r h n line [] q (λ x tail z. no (cc))
  each_fault (suc m) r h n (l ∷ ls) line w = each_by m r h n line l ls (if_suits (has_id r) (row (suc k) l)) refl w (λ e. each_fault m (suc r) (omega arith) (suc n) ls line e)

  pub each_inner : (m : ℕ) → m ≤ 10 ^ 12 → Inner (each (suc k) m 0) Any
  each_inner m h = record {
    local = each_local (suc k) m 0;
    possible = record { ls = map line_text (zero_rows m 0); value = zero_rows m 0; good = refl; reads = λ n rest w. zeros_read m 0 (omega arith) rest n };
    fault = λ n ls line w. each_fault m 0 (omega arith) n ls line w;
  }
