-- Whatever is read as an opening is the text of one, with nothing else in it. Assumes nothing.
use Prim.Native.Nat.{ℕ, zero, suc}
use mathlib.Core.Path.{◌≡◌, refl, sym, ap, subst, ◌∙◌}
use mathlib.Core.List.{List, [], ◌∷◌, ◌++◌, append_assoc, map}
use native.Mathlib.Omega.{arith}
use lib.ListN.{length, drop}
use lib.IntN.{ℤ, pos}
use Rattle.rules_curve.specs.declared.RawStep.{RawStep}
use Rattle.rules_cost.specs.declared.Point.{Point}
use Rattle.rules_opening.specs.declared.Opening.{Opening}
use Rattle.rules_text.specs.Numbers.{Line, Row, bytes}
use Rattle.rules_text.specs.Tables.{found, due, cell, single, counted, grouped, pairs, each}
use Rattle.rules_parts.specs.Parts.{opening_of, read_opening}
use Rattle.rules_text.specs.Printing.{line_text}
use Rattle.rules_parts.specs.Texts.{GivenOpening, GivenResource, seller_row, resource_row, step_row, point_row, cost_row, step_rows, point_rows, opening_lines, ResourceSmall, OpeningSmall}
use Rattle.rules_text.specs.Spelled.{Every, no_more, and_all, Small, table_lines, counted_rows, grouped_rows, together}
use Rattle.rules_text.proofs.ReaderLaws.{Values, counted_length}
use Rattle.rules_parts.proofs.OpeningBack.{got, read_two, read_three, read_four, read_five, read_six}
use Rattle.rules_parts.proofs.OnlyRows.{Due, Counts, Eaches, Groups, Grouped, group_rows, Stage, stage, due_only, single_only, counted_only, each_only, grouped_only}

-- ---- values from rows
abbrev pub firsts : ℕ → Row → Row
firsts zero y = []
firsts (suc k) y = cell 0 y ∷ firsts k (drop 1 y)

pub firsts_are : (k : ℕ) (y : Row) → length y ≡ k → firsts k y ≡ y
firsts_are zero [] h = refl
firsts_are zero (x ∷ y) h = absurd (omega arith)
firsts_are (suc k) [] h = absurd (omega arith)
firsts_are (suc k) (x ∷ y) h = ap (λ (t : Row). x ∷ t) (firsts_are k y (omega arith))

pub firsts_small : (k : ℕ) (y : Row) → Values k y → Every Small (firsts k y)
firsts_small k y v = subst (Every Small) (sym (firsts_are k y v.count)) v.small

abbrev step_from : Row → RawStep
step_from y = record { end = cell 0 y; price = cell 0 (drop 1 y) }

abbrev point_from : Row → Point
point_from y = record { mw = cell 0 y; heat = cell 0 (drop 1 y) }

steps_are : (s : List Row) → Every (Values 2) s → map step_row (map step_from s) ≡ s
steps_are [] h = refl
steps_are (y ∷ s) (and_all v h) = ap (λ (t : Row). t ∷ map step_row (map step_from s)) (firsts_are 2 y v.count) ∙ ap (λ (t : List Row). y ∷ t) (steps_are s h)

steps_small : (s : List Row) → Every (Values 2) s → Every (λ x. Every Small (step_row x)) (map step_from s)
steps_small [] h = no_more
steps_small (y ∷ s) (and_all v h) = and_all (firsts_small 2 y v) (steps_small s h)

points_are : (s : List Row) → Every (Values 2) s → map point_row (map point_from s) ≡ s
points_are [] h = refl
points_are (y ∷ s) (and_all v h) = ap (λ (t : Row). t ∷ map point_row (map point_from s)) (firsts_are 2 y v.count) ∙ ap (λ (t : List Row). y ∷ t) (points_are s h)

points_small : (s : List Row) → Every (Values 2) s → Every (λ x. Every Small (point_row x)) (map point_from s)
points_small [] h = no_more
points_small (y ∷ s) (and_all v h) = and_all (firsts_small 2 y v) (points_small s h)

abbrev tl : Row → Row
tl y = drop 1 y

abbrev given : Row → List Row → List Row → Row → GivenResource
given t s p c = record {
  portfolio = cell 0 t;
  start = cell 0 (tl t);
  steps = map step_from s;
  points = map point_from p;
  gas = cell 0 c;
  rate = cell 0 (tl c);
  allowance = cell 0 (tl (tl c));
  om = cell 0 (tl (tl (tl c)));
  msc = cell 0 (tl (tl (tl (tl c))));
  soc = cell 0 (tl (tl (tl (tl (tl c)))));
  fee = cell 0 (tl (tl (tl (tl (tl (tl c))))));
}

-- resources whose rows these are
record Given (ts : List Row) (ss ps : List (List Row)) (cs : List Row) : Type 0 where
  pub l : List GivenResource
  pub rows : map resource_row l ≡ ts
  pub steps : map step_rows l ≡ ss
  pub points : map point_rows l ≡ ps
  pub costs : map cost_row l ≡ cs
  pub small : Every ResourceSmall l

given_cons : (t : Row) (ts : List Row) (s : List Row) (ss : List (List Row)) (p : List Row) (ps : List (List Row)) (q : Row) (cs : List Row) → Values 2 t → Every (Values 2) s → Every (Values 2) p → Values 7 q
    → Given ts ss ps cs → Given (t ∷ ts) (s ∷ ss) (p ∷ ps) (q ∷ cs)
given_cons t ts s ss p ps q cs v w x y G = record {
  l = given t s p q ∷ G.l;
  rows = ap (λ (r : Row). r ∷ map resource_row G.l) (firsts_are 2 t v.count) ∙ ap (λ (r : List Row). t ∷ r) G.rows;
  steps = ap (λ (r : List Row). r ∷ map step_rows G.l) (steps_are s w) ∙ ap (λ (r : List (List Row)). s ∷ r) G.steps;
  points = ap (λ (r : List Row). r ∷ map point_rows G.l) (points_are p x) ∙ ap (λ (r : List (List Row)). p ∷ r) G.points;
  costs = ap (λ (r : Row). r ∷ map cost_row G.l) (firsts_are 7 q y.count) ∙ ap (λ (r : List Row). q ∷ r) G.costs;
  small = and_all (record { resource = firsts_small 2 t v; steps = steps_small s w; points = points_small p x; costs = firsts_small 7 q y }) G.small;
}

given_of : (m : ℕ) (ts : List Row) (ss ps : List (List Row)) (cs : List Row) → length ts ≡ m → length ss ≡ m → length ps ≡ m → length cs ≡ m
    → Every (Values 2) ts → Every (Every (Values 2)) ss → Every (Every (Values 2)) ps → Every (Values 7) cs → Given ts ss ps cs
given_of zero [] [] [] [] a b c d e f g h = record { l = []; rows = refl; steps = refl; points = refl; costs = refl; small = no_more }
given_of zero (t ∷ ts) ss ps cs a b c d e f g h = absurd (omega arith)
given_of zero [] (s ∷ ss) ps cs a b c d e f g h = absurd (omega arith)
given_of zero [] [] (p ∷ ps) cs a b c d e f g h = absurd (omega arith)
given_of zero [] [] [] (q ∷ cs) a b c d e f g h = absurd (omega arith)
given_of (suc m) [] ss ps cs a b c d e f g h = absurd (omega arith)
given_of (suc m) (t ∷ ts) [] ps cs a b c d e f g h = absurd (omega arith)
given_of (suc m) (t ∷ ts) (s ∷ ss) [] cs a b c d e f g h = absurd (omega arith)
given_of (suc m) (t ∷ ts) (s ∷ ss) (p ∷ ps) [] a b c d e f g h = absurd (omega arith)
given_of (suc m) (t ∷ ts) (s ∷ ss) (p ∷ ps) (q ∷ cs) a b c d (and_all v e) (and_all w f) (and_all x g) (and_all y h) =
    given_cons t ts s ss p ps q cs v w x y (given_of m ts ss ps cs (omega arith) (omega arith) (omega arith) (omega arith) e f g h)

pub counted_as : {A : Type 0} (f : A → Row) (i : ℕ) (l : List A) → counted_rows f i l ≡ counted_rows (λ y. y) i (map f l)
unfolding counted_rows
counted_as f i [] = refl
counted_as f i (a ∷ l) = ap (λ (t : List Row). (pos i ∷ f a) ∷ t) (counted_as f (suc i) l)

grouped_as : {A : Type 0} (f : A → List Row) (i : ℕ) (l : List A) → grouped_rows f i l ≡ grouped_rows (λ y. y) i (map f l)
unfolding grouped_rows
grouped_as f i [] = refl
grouped_as f i (a ∷ l) = ap (λ (t : List (List Row)). map (λ x. pos i ∷ x) (f a) ∷ t) (grouped_as f (suc i) l)

-- values of rows of one value
pub ones : List Row → List ℤ
ones ts = map (cell 0) ts

pub ones_are : (f : ℤ → Row) → ((z : ℤ) → f z ≡ z ∷ []) → (ts : List Row) → Every (Values 1) ts → (map f (ones ts) ≡ ts) × Every Small (ones ts)
unfolding ones
ones_are f e [] h = (refl, no_more)
ones_are f e (t ∷ ts) (and_all v h) =
    let r = ones_are f e ts h in
    (ap (λ (x : Row). x ∷ map f (map (cell 0) ts)) (e (cell 0 t) ∙ firsts_are 1 t v.count) ∙ ap (λ (x : List Row). t ∷ x) r.0, and_all (first (firsts_small 1 t v)) r.1)
  where
    first : {z : ℤ} → Every Small (z ∷ []) → Small z
    first (and_all p q) = p

-- ---- table after table, from the last
abbrev FromSix : ℤ → List Row → List Row → List (List Row) → List (List Row) → Opening → List Line → List Line → Type 0
FromSix month ps rs ss hs a ls' ls =
    Stage "resource gas rate allowance om msc soc fee\n" (Eaches 7 (length rs) 0) (λ cs left. (left ≡ ls') × (a ≡ opening_of month ps rs ss hs cs)) ls

abbrev FromFive : ℤ → List Row → List Row → List (List Row) → Opening → List Line → List Line → Type 0
FromFive month ps rs ss a ls' ls = Stage "resource mw heat\n" (Groups (length rs) 0) (λ hs left. FromSix month ps rs ss hs a ls' left) ls

abbrev FromFour : ℤ → List Row → List Row → Opening → List Line → List Line → Type 0
FromFour month ps rs a ls' ls = Stage "resource end price\n" (Groups (length rs) 0) (λ ss left. FromFive month ps rs ss a ls' left) ls

abbrev FromThree : ℤ → List Row → Opening → List Line → List Line → Type 0
FromThree month ps a ls' ls = Stage "resource portfolio start\n" (λ below rs left. Counts 2 0 rs × (below ≡ map line_text rs ++ left)) (λ rs left. FromFour month ps rs a ls' left) ls

abbrev FromTwo : ℤ → Opening → List Line → List Line → Type 0
FromTwo month a ls' ls = Stage "portfolio seller\n" (λ below ps left. Counts 1 0 ps × (below ≡ map line_text ps ++ left)) (λ ps left. FromThree month ps a ls' left) ls

abbrev FromOne : Opening → List Line → List Line → Type 0
FromOne a ls' ls = Stage "month\n" (Due single) (λ month left. FromTwo month a ls' left) ls

module _ (a : Opening) (n' : ℕ) (ls' : List Line) where
  from_six : (month : ℤ) (ps rs : List Row) (ss hs : List (List Row)) (n : ℕ) (ls : List Line) → read_six month ps rs ss hs n ls ≡ found a n' ls' → FromSix month ps rs ss hs a ls' ls
  from_six month ps rs ss hs n ls h =
      stage "resource gas rate allowance om msc soc fee\n" (each 8 (length rs) 0) (λ c. found (opening_of month ps rs ss hs c)) n ls a n' ls' (each_only 7 (length rs) 0) (λ c k u e. (cc, cc)) h

  from_five_lem : (month : ℤ) (ps rs : List Row) (ss : List (List Row)) (n : ℕ) (ls : List Line) → read_five month ps rs ss n ls ≡ found a n' ls' → FromFive month ps rs ss a ls' ls
  from_five_lem month ps rs ss n ls h =
      stage "resource mw heat\n" (grouped pairs (length rs) 0) (λ x. read_six month ps rs ss x) n ls a n' ls' (grouped_only (length rs) 0) (from_six month ps rs ss) h

  from_four_lem : (month : ℤ) (ps rs : List Row) (n : ℕ) (ls : List Line) → read_four month ps rs n ls ≡ found a n' ls' → FromFour month ps rs a ls' ls
  from_four_lem month ps rs n ls h =
      stage "resource end price\n" (grouped pairs (length rs) 0) (λ x. read_five month ps rs x) n ls a n' ls' (grouped_only (length rs) 0) (from_five_lem month ps rs) h

  from_three_lem : (month : ℤ) (ps : List Row) (n : ℕ) (ls : List Line) → read_three month ps n ls ≡ found a n' ls' → FromThree month ps a ls' ls
  from_three_lem month ps n ls h = stage "resource portfolio start\n" (counted 3) (λ x. read_four month ps x) n ls a n' ls' (counted_only 2) (from_four_lem month ps) h

  from_two_lem : (month : ℤ) (n : ℕ) (ls : List Line) → read_two month n ls ≡ found a n' ls' → FromTwo month a ls' ls
  from_two_lem month n ls h = stage "portfolio seller\n" (counted 2) (λ x. read_three month x) n ls a n' ls' (counted_only 1) (from_three_lem month) h

  from_one : (n : ℕ) (ls : List Line) → read_opening n ls ≡ found a n' ls' → FromOne a ls' ls
  unfolding read_opening
  from_one n ls h = stage "month\n" (due single) (λ x. read_two x) n ls a n' ls' (due_only single) from_two_lem h

-- ---- the tables together
abbrev from_five : List (List Row) → List Row → List Line
from_five hs cs = table_lines (bytes "resource mw heat\n") (together hs) ++ table_lines (bytes "resource gas rate allowance om msc soc fee\n") cs

abbrev from_four : List (List Row) → List (List Row) → List Row → List Line
from_four ss hs cs = table_lines (bytes "resource end price\n") (together ss) ++ from_five hs cs

abbrev from_three : List Row → List (List Row) → List (List Row) → List Row → List Line
from_three rs ss hs cs = table_lines (bytes "resource portfolio start\n") rs ++ from_four ss hs cs

abbrev from_two : List Row → List Row → List (List Row) → List (List Row) → List Row → List Line
from_two ps rs ss hs cs = table_lines (bytes "portfolio seller\n") ps ++ from_three rs ss hs cs

abbrev opens : ℤ → List Row → List Row → List (List Row) → List (List Row) → List Row → List Line
opens month ps rs ss hs cs = table_lines (bytes "month\n") ((month ∷ []) ∷ []) ++ from_two ps rs ss hs cs

-- a table before others
pub glue : (ls below left : List Line) (l : Line) (t u : List Line) (ls' : List Line) → ls ≡ l ∷ below → below ≡ t ++ left → left ≡ u ++ ls' → ls ≡ ((l ∷ t) ++ u) ++ ls'
glue ls below left l t u ls' p q r = p ∙ ap (λ (x : List Line). l ∷ x) (q ∙ ap (λ (x : List Line). t ++ x) r ∙ sym (append_assoc t u ls'))

-- what was read, as plain lists
pub record Opens (ls : List Line) (a : Opening) (ls' : List Line) : Type 0 where
  pub month : ℤ
  pub ps : List Row
  pub rs : List Row
  pub ss : List (List Row)
  pub hs : List (List Row)
  pub cs : List Row
  pub is : ls ≡ opens month ps rs ss hs cs ++ ls'
  pub value : a ≡ opening_of month ps rs ss hs cs
  pub small : Small month
  pub portfolios : Counts 1 0 ps
  pub resources : Counts 2 0 rs
  pub steps : Grouped (length rs) ss
  pub points : Grouped (length rs) hs
  pub costs : Counts 7 0 cs
  pub many : length costs.tails ≡ length rs

opens_of : (ls : List Line) (a : Opening) (ls' : List Line) → FromOne a ls' ls → Opens ls a ls'
opens_of ls a ls' one =
    let two' = one.more in
    let three = two'.more in
    let four = three.more in
    let five = four.more in
    let six = five.more in
    let M = single_only one.table.line one.a one.table.reads in
    let c6 : five.left ≡ table_lines (bytes "resource gas rate allowance om msc soc fee\n") six.a ++ ls' =
    six.names ∙ ap (λ (x : List Line). bytes "resource gas rate allowance om msc soc fee\n" ∷ x) (six.table.is ∙ ap (λ (x : List Line). map line_text six.a ++ x) six.more.0) in
    let c5 = glue four.left five.below five.left (bytes "resource mw heat\n") (map line_text (together five.a)) (table_lines (bytes "resource gas rate allowance om msc soc fee\n") six.a) ls' five.names five.table.is c6 in
    let c4 = glue three.left four.below four.left (bytes "resource end price\n") (map line_text (together four.a)) (from_five five.a six.a) ls' four.names four.table.is c5 in
    let c3 = glue two'.left three.below three.left (bytes "resource portfolio start\n") (map line_text three.a) (from_four four.a five.a six.a) ls' three.names three.table.1 c4 in
    let c2 = glue one.left two'.below two'.left (bytes "portfolio seller\n") (map line_text two'.a) (from_three three.a four.a five.a six.a) ls' two'.names two'.table.1 c3 in
    record {
      month = one.a;
      ps = two'.a;
      rs = three.a;
      ss = four.a;
      hs = five.a;
      cs = six.a;
      is = glue ls one.below one.left (bytes "month\n") (line_text (one.a ∷ []) ∷ []) (from_two two'.a three.a four.a five.a six.a) ls' one.names (one.table.lines ∙ ap (λ (x : Line). x ∷ one.left) M.0) c2;
      value = six.more.1;
      small = M.1;
      portfolios = two'.table.0;
      resources = three.table.0;
      steps = group_rows (length three.a) four.below four.a four.left four.table;
      points = group_rows (length three.a) five.below five.a five.left five.table;
      costs = six.table.counts;
      many = six.table.many;
    }

-- ---- the theorem
pub record IsOpening (ls : List Line) (a : Opening) (ls' : List Line) : Type 0 where
  pub o : GivenOpening
  pub small : OpeningSmall o
  pub is : ls ≡ opening_lines o ++ ls'
  pub value : a ≡ got o

by_rows : (P : List Row → List Row → List (List Row) → List (List Row) → List Row → Type 0) {ps ps' rs rs' : List Row} {ss ss' hs hs' : List (List Row)} {cs cs' : List Row}
    → ps ≡ ps' → rs ≡ rs' → ss ≡ ss' → hs ≡ hs' → cs ≡ cs' → P ps rs ss hs cs → P ps' rs' ss' hs' cs'
by_rows P {ps} {ps'} {rs} {rs'} {ss} {ss'} {hs} {hs'} {cs} {cs'} a b c d e h =
    subst (λ (x : List Row). P ps' rs' ss' hs' x) e (subst (λ (x : List (List Row)). P ps' rs' ss' x cs) d (subst (λ (x : List (List Row)). P ps' rs' x hs cs) c
    (subst (λ (x : List Row). P ps' x ss hs cs) b (subst (λ (x : List Row). P x rs ss hs cs) a h))))

module _ (ls : List Line) (a : Opening) (ls' : List Line) (O : Opens ls a ls') where
  size : length O.resources.tails ≡ length O.rs
  size = sym (counted_length (λ y. y) 0 O.resources.tails) ∙ ap length O.resources.is

  resources : Given O.resources.tails O.steps.tails O.points.tails O.costs.tails
  resources = given_of (length O.rs) O.resources.tails O.steps.tails O.points.tails O.costs.tails size O.steps.many O.points.many O.many
      O.resources.values O.steps.values O.points.values O.costs.values

  sellers : (map seller_row (ones O.portfolios.tails) ≡ O.portfolios.tails) × Every Small (ones O.portfolios.tails)
  sellers = ones_are seller_row (λ z. refl) O.portfolios.tails O.portfolios.values

  finish : (G : Given O.resources.tails O.steps.tails O.points.tails O.costs.tails) → IsOpening ls a ls'
  unfolding opening_lines
  finish G =
      let l = G.l in
      let zs = ones O.portfolios.tails in
      let ps : O.ps ≡ counted_rows seller_row 0 (ones O.portfolios.tails) = sym (counted_as seller_row 0 (ones O.portfolios.tails) ∙ ap (counted_rows (λ y. y) 0) sellers.0 ∙ O.portfolios.is) in
      let rs : O.rs ≡ counted_rows resource_row 0 G.l = sym (counted_as resource_row 0 G.l ∙ ap (counted_rows (λ y. y) 0) G.rows ∙ O.resources.is) in
      let ss : O.ss ≡ grouped_rows step_rows 0 G.l = sym (grouped_as step_rows 0 G.l ∙ ap (grouped_rows (λ y. y) 0) G.steps ∙ O.steps.are) in
      let hs : O.hs ≡ grouped_rows point_rows 0 G.l = sym (grouped_as point_rows 0 G.l ∙ ap (grouped_rows (λ y. y) 0) G.points ∙ O.points.are) in
      let cs : O.cs ≡ counted_rows cost_row 0 G.l = sym (counted_as cost_row 0 G.l ∙ ap (counted_rows (λ y. y) 0) G.costs ∙ O.costs.is) in
      record {
        o = record { month = O.month; sellers = ones O.portfolios.tails; resources = G.l };
        small = record { month = O.small; sellers = sellers.1; resources = G.small };
        is = by_rows (λ p r s h c. ls ≡ opens O.month p r s h c ++ ls') ps rs ss hs cs O.is;
        value = by_rows (λ p r s h c. a ≡ opening_of O.month p r s h c) ps rs ss hs cs O.value;
      }

-- whatever is read as an opening is the lines of one, whose numbers have at most 12 digits, and the opening is its values
pub opening_only : (n : ℕ) (ls : List Line) (a : Opening) (n' : ℕ) (ls' : List Line) → read_opening n ls ≡ found a n' ls' → IsOpening ls a ls'
opening_only n ls a n' ls' h = finish ls a ls' (opens_of ls a ls' (from_one a n' ls' n ls h)) (resources ls a ls' (opens_of ls a ls' (from_one a n' ls' n ls h)))
