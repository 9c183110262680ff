-- Lines closed by byte 10: those of a text, and the text of those. Assumes nothing.
use Prim.Native.Nat.{ℕ, zero, suc, ◌+◌, ◌/◌, ◌%◌, ◌<◌, ◌≤◌}
use mathlib.Core.Path.{◌≡◌, refl, sym, ap, ◌∙◌}
use mathlib.Core.List.{List, [], ◌∷◌, ◌++◌, append_assoc, map}
use mathlib.Core.Bool.{Bool, true, false, cond}
use mathlib.Core.Logic.{⊎_elim}
use native.Mathlib.Omega.{arith}
use borrow.Author.Tests.{ne_eqb}
use lib.Dec.{eqb}
use lib.IntN.{ℤ, pos, negsuc}
use Rattle.rules_number.proofs.OverLaws.{never, le_or_lt}
use Rattle.rules_text.specs.Numbers.{Line, Row, lines, joined}
use Rattle.rules_text.proofs.NameLaws.{is_line}
use Rattle.rules_text.specs.Printing.{digits, decimal, line_text}
use Rattle.rules_text.proofs.PrintLaws.{digits_one, digits_more}
use Rattle.rules_text.specs.Spelled.{Every, no_more, and_all, counted_rows, grouped_rows, together}

-- ---- a closed line is the first of a text that begins with it
closed_by_lem : (b : ℕ) (l t : List ℕ) (d : Bool) → eqb b 10 ≡ d → is_line (b ∷ l) ≡ true → (is_line l ≡ true → lines (l ++ t) ≡ l ∷ lines t) → joined d b (lines (l ++ t)) ≡ (b ∷ l) ∷ lines t
closed_by_lem b [] t true e h ih = refl
closed_by_lem b (c ∷ l) t true e h ih = never (rw e at h)
closed_by_lem b l t false e h ih = ap (joined false b) (ih (rw e at h))

pub lines_closed : (l t : List ℕ) → is_line l ≡ true → lines (l ++ t) ≡ l ∷ lines t
lines_closed [] t h = never h
lines_closed (b ∷ l) t h = closed_by_lem b l t (eqb b 10) refl h (lines_closed l t)

-- the lines of a text of closed lines are those
pub lines_together : (ls : List Line) (t : List ℕ) → Every (λ l. is_line l ≡ true) ls → lines (together ls ++ t) ≡ ls ++ lines t
unfolding together
lines_together [] t h = refl
lines_together (l ∷ ls) t (and_all p h) =
    ap lines (append_assoc l (together ls) t) ∙ lines_closed l (together ls ++ t) p ∙ ap (λ (r : List Line). l ∷ r) (lines_together ls t h)

-- ---- a line of values is closed
cons_line : (b : ℕ) (t : List ℕ) → (b ≡ 10 → ⊥) → is_line t ≡ true → is_line (b ∷ t) ≡ true
cons_line b t n h = rw (ne_eqb b 10 n) h

digits_line : (f n : ℕ) (r : List ℕ) → is_line r ≡ true → is_line (digits f n ++ r) ≡ true
unfolding digits
digits_line zero n r h = h
digits_line (suc f) n r h = ⊎_elim (more (digits_line f (n / 10) ((48 + n % 10) ∷ r) (cons_line (48 + n % 10) r (λ q. omega arith) h))) one (le_or_lt 10 n)
  where
    more : is_line (digits f (n / 10) ++ ((48 + n % 10) ∷ r)) ≡ true → 10 ≤ n → is_line (digits (suc f) n ++ r) ≡ true
    more ih k = ap (λ (l : List ℕ). is_line (l ++ r)) (digits_more f n k) ∙ ap is_line (append_assoc (digits f (n / 10)) ((48 + n % 10) ∷ []) r) ∙ ih

    one : n < 10 → is_line (digits (suc f) n ++ r) ≡ true
    one k = ap (λ (l : List ℕ). is_line (l ++ r)) (digits_one f n k) ∙ cons_line (48 + n) r (λ q. omega arith) h

decimal_line : (z : ℤ) (r : List ℕ) → is_line r ≡ true → is_line (decimal z ++ r) ≡ true
unfolding decimal
decimal_line (pos n) r h = digits_line 19 n r h
decimal_line (negsuc n) r h = cons_line 45 (digits 19 (suc n) ++ r) (λ q. omega arith) (digits_line 19 (suc n) r h)

pub line_closed : (z : ℤ) (zs : Row) → is_line (line_text (z ∷ zs)) ≡ true
unfolding line_text
line_closed z [] = decimal_line z (10 ∷ []) refl
line_closed z (y ∷ zs) = decimal_line z (32 ∷ line_text (y ∷ zs)) (cons_line 32 (line_text (y ∷ zs)) (λ q. omega arith) (line_closed y zs))

-- ---- the lines of any text, together, are the text
together_joined : (b : ℕ) (ls : List Line) (d : Bool) → together (joined d b ls) ≡ b ∷ together ls
unfolding together
together_joined b ls true = refl
together_joined b [] false = refl
together_joined b (l ∷ ls) false = refl

pub together_lines : (t : List ℕ) → together (lines t) ≡ t
unfolding together
together_lines [] = refl
together_lines (b ∷ t) = together_joined b (lines t) (eqb b 10) ∙ ap (λ (r : List ℕ). b ∷ r) (together_lines t)

-- ---- what holds of every element
module _ {A : Type 0} where
  pub every_map : (P Q : A → Type 0) → ((x : A) → P x → Q x) → (l : List A) → Every P l → Every Q l
  every_map P Q f [] h = no_more
  every_map P Q f (x ∷ l) (and_all p h) = and_all (f x p) (every_map P Q f l h)

  pub every_append : (P : A → Type 0) (l m : List A) → Every P l → Every P m → Every P (l ++ m)
  every_append P [] m h k = k
  every_append P (x ∷ l) m (and_all p h) k = and_all p (every_append P l m h k)

-- ---- the lines of a table are closed
abbrev pub Closed : List Line → Type 0
Closed ls = Every (λ t. is_line t ≡ true) ls

pub counted_closed : {A : Type 0} (f : A → Row) (i : ℕ) (l : List A) → Closed (map line_text (counted_rows f i l))
unfolding counted_rows
counted_closed f i [] = no_more
counted_closed f i (a ∷ l) = and_all (line_closed (pos i) (f a)) (counted_closed f (suc i) l)

group_closed : (i : ℕ) (g h : List Row) → Closed (map line_text h) → Closed (map line_text (map (λ x. pos i ∷ x) g ++ h))
group_closed i [] h c = c
group_closed i (x ∷ g) h c = and_all (line_closed (pos i) x) (group_closed i g h c)

pub grouped_closed : {A : Type 0} (f : A → List Row) (i : ℕ) (l : List A) → Closed (map line_text (together (grouped_rows f i l)))
unfolding grouped_rows together
grouped_closed f i [] = no_more
grouped_closed f i (a ∷ l) = group_closed i (f a) (together (grouped_rows f (suc i) l)) (grouped_closed f (suc i) l)

-- ---- the lines of any text: closed ones, and then what follows the last byte 10, if anything
abbrev pub no_ten : List ℕ → Bool
no_ten [] = true
no_ten (b ∷ t) = cond (eqb b 10) false (no_ten t)

abbrev pub left : List ℕ → List Line
left [] = []
left (b ∷ t) = (b ∷ t) ∷ []

pub record Split (t : List ℕ) : Type 0 where
  pub closed : List Line
  pub open' : List ℕ
  pub is : lines t ≡ closed ++ left open'
  pub ends : Closed closed
  pub none : no_ten open' ≡ true

split_by : (b : ℕ) (t : List ℕ) (d : Bool) → eqb b 10 ≡ d → (cs : List Line) (o : List ℕ) → lines t ≡ cs ++ left o → Closed cs → no_ten o ≡ true → joined d b (lines t) ≡ lines (b ∷ t) → Split (b ∷ t)
split_by b t true e cs o is c q w = let p : is_line (b ∷ []) ≡ true = rw e refl in record { closed = (b ∷ []) ∷ cs; open' = o; is = sym w ∙ ap (λ (l : List Line). (b ∷ []) ∷ l) is; ends = and_all p c; none = q }
split_by b t false e [] [] is c q w = record { closed = []; open' = b ∷ []; is = sym w ∙ ap (joined false b) is; ends = no_more; none = rw e refl }
split_by b t false e [] (a ∷ o) is c q w = record { closed = []; open' = b ∷ a ∷ o; is = sym w ∙ ap (joined false b) is; ends = no_more; none = rw e q }
split_by b t false e (l ∷ cs) o is (and_all p c) q w = let p' : is_line (b ∷ l) ≡ true = rw e p in record { closed = (b ∷ l) ∷ cs; open' = o; is = sym w ∙ ap (joined false b) is; ends = and_all p' c; none = q }

pub split : (t : List ℕ) → Split t
split [] = record { closed = []; open' = []; is = refl; ends = no_more; none = refl }
split (b ∷ t) = let s = split t in split_by b t (eqb b 10) refl s.closed s.open' s.is s.ends s.none refl
