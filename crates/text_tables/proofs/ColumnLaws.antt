-- Laws of a table in lent cells: a loop over lines of an id that counts up and m values, which it keeps in turn. Assumes nothing.
use Rattle.std.specs.Prelude.{None, Some, Option}
use Prim.Native.Nat.{ℕ, zero, suc, ◌+◌, ◌*◌, ◌<◌, ◌≤◌}
use native.Mathlib.Omega.{arith}
use native.Mathlib.Numerals.{add-one}
use native.Mathlib.Nat.{mul-suc}
use mathlib.Core.Path.{◌≡◌, refl, sym, ap, ◌∙◌}
use mathlib.Core.List.{List, [], ◌∷◌, map, flat_map}
use mathlib.Core.Bool.{Bool, true, false, cond}
use borrow.Author.Tests.{eqb-true}
use lib.Dec.{eqb}
use lib.ListN.{length, drop, get_or, set, length-drop}
use lib.Seq.{sets, drop-drop, length-sets}
use lib.IntN.{ℤ}
use Rattle.rules_text.specs.declared.Row as source
use Rattle.rules_text.specs.Numbers.{Line, Row, lines, closing, number, put, field, row}
use Rattle.rules_text.specs.Tables.{cell, has_id, if_suits, run, counting}
use Rattle.rules_text.specs.Offsets.{as_row, id_row_at, bytes_of}
use Rattle.rules_text.proofs.ListLaws.{byte_there, sets_append}
use Rattle.rules_text.proofs.LineLaws.{line, after, lines_cons, lines_some}
use Rattle.rules_text.proofs.RowLaws.{row_in, in_range_lem, Held, held, not_held, closing_some}
use Rattle.rules_text.proofs.TableLaws.{row_there}
use Rattle.rules_text.proofs.UsedLaws.{Used, used_none, used_next, used_count}

-- ---- a line of k values has so many bytes at least
module _ (k : ℕ) (shorter : (l : Line) (x : Row) → row k l ≡ Some x → k ≤ length l) (l : Line) (x : Row) where
  put_long : (n : ℕ) (z : ℤ) → n < length l → (o : Option Row) → row k (drop (suc n) l) ≡ o → put z o ≡ Some x → suc k ≤ length l
  put_long n z h None e q = let c : ◌≡◌ {A = ℕ} 0 1 = cc in absurd (omega arith)
  put_long n z h (Some y) e q = omega (arith, shorter (drop (suc n) l) y e, length-drop (suc n) l)

  byte_long : (n : ℕ) (z : ℤ) (d : Bool) → eqb (get_or l n 0) (closing k) ≡ d → cond d (put z (row k (drop (suc n) l))) None ≡ Some x → suc k ≤ length l
  byte_long n z true e q = put_long n z (byte_there l n (omega (arith, eqb-true (get_or l n 0) (closing k) e, closing_some k))) (row k (drop (suc n) l)) refl q
  byte_long n z false e q = let c : ◌≡◌ {A = ℕ} 0 1 = cc in absurd (omega arith)

  field_long : (y : Option (ℤ × ℕ)) → field y l (closing k) (row k) ≡ Some x → suc k ≤ length l
  field_long None q = let c : ◌≡◌ {A = ℕ} 0 1 = cc in absurd (omega arith)
  field_long (Some (z, n)) q = byte_long n z (eqb (get_or l n 0) (closing k)) refl q

row_long : (k : ℕ) (l : Line) (x : Row) → row k l ≡ Some x → k ≤ length l
unfolding row
row_long zero l x e = omega arith
row_long (suc k) l x e = field_long k (row_long k) l x (number l) e

suits_by : (x : Row) (suits : Row → Bool) (y : Row) (d : Bool) → cond d (Some y) None ≡ Some x → Some y ≡ Some x
suits_by x suits y true e = e
suits_by x suits y false e = let c : ◌≡◌ {A = ℕ} 0 1 = cc in absurd (omega arith)

suits_some : (x : Row) (suits : Row → Bool) (o : Option Row) → if_suits suits o ≡ Some x → o ≡ Some x
suits_some x suits None e = e
suits_some x suits (Some y) e = suits_by x suits y (suits y) e

line_by : (b : ℕ) (t : List ℕ) (d : Bool) → length (line t) ≤ length t → length (cond d [] (line t)) ≤ length t
line_by b t true h = omega arith
line_by b t false h = h

line_few : (t : List ℕ) → length (line t) ≤ length t
line_few [] = omega arith
line_few (b ∷ t) = let h = line_by b t (eqb b 10) (line_few t) in omega arith

-- ---- rows of suc m values
abbrev up : ℕ → Row → ℕ
up i x = suc i

-- from row i on
abbrev From : ℕ → ℕ → List ℕ → List Row
From m i t = run (suc m) has_id up i (lines t)

-- at an offset of a text
abbrev rows : ℕ → List ℕ → ℕ → List Row
rows m s at = counting (suc m) (lines (drop at s))

-- the line at an offset, where it is row i
abbrev due : ℕ → List ℕ → ℕ → ℕ → Option Row
due m s i next = if_suits (has_id i) (row (suc m) (line (drop next s)))

from_none : (m i : ℕ) (t : List ℕ) → if_suits (has_id i) (row (suc m) (line t)) ≡ None → From m i t ≡ []
unfolding run
from_none m i [] e = refl
from_none m i (b ∷ u) e = rw (lines_cons b u, e) refl

from_more : (m i : ℕ) (t : List ℕ) (x : Row) → if_suits (has_id i) (row (suc m) (line t)) ≡ Some x → From m i t ≡ x ∷ From m (suc i) (after t)
unfolding run
from_more m i t x e = rw (lines_some t (row_there (has_id i) m x t e), e) refl

-- k values of a row, from value i on
abbrev values : ℕ → ℕ → List ℤ → List ℤ
values i zero x = []
values i (suc k) x = cell i x ∷ values (suc i) k x

values_length : (i k : ℕ) (x : List ℤ) → length (values i k x) ≡ k
values_length i zero x = refl
values_length i (suc k) x = ap suc (values_length (suc i) k x)

values_same : (n i k : ℕ) (v x : List ℤ) → ((j : ℕ) → j < n → cell j v ≡ cell j x) → i + k ≤ n → values i k v ≡ values i k x
values_same n i zero v x e h = refl
values_same n i (suc k) v x e h = let z = e i (omega arith) in let w = values_same n (suc i) k v x e (omega arith) in cc

-- values put in turn, from k places past i on
abbrev past : ℕ → ℕ → ℕ
past i zero = i
past i (suc k) = i + suc k

abbrev puts : List ℤ → ℕ → ℕ → List ℤ → List ℤ
puts cells i k [] = cells
puts cells i k (x ∷ xs) = puts (set cells (past i k) x) i (suc k) xs

past_next : (i k : ℕ) → past i (suc k) ≡ suc (past i k)
past_next i zero = omega arith
past_next i (suc k) = omega arith

puts_sets : (cells : List ℤ) (i k : ℕ) (xs : List ℤ) → puts cells i k xs ≡ sets cells (past i k) xs
puts_sets cells i k [] = refl
puts_sets cells i k (x ∷ xs) = let one = set cells (past i k) x in puts_sets one i (suc k) xs ∙ ap (λ (j : ℕ). sets one j xs) (past_next i k)

-- a table of one value to a row
one_each : (xs : List Row) → flat_map (values 1 1) xs ≡ map (cell 1) xs
unfolding flat_map
one_each [] = refl
one_each (x ∷ xs) = ap (λ (l : List ℤ). cell 1 x ∷ l) (one_each xs)

-- a table of m values to a row, at an offset of a text
module _ (m : ℕ) (s : List ℕ) (at : ℕ) where
  -- the cells after the table
  abbrev table : List ℤ → List ℤ
  table cells = sets cells 0 (flat_map (values 1 m) (rows m s at))

  -- the rows read so far are kept, and `next` is past them
  pub record Keeps (before : List ℤ) (count : ℕ) (cells : List ℤ) (next : ℕ) : Type 0 where
    pub short : m ≤ 7
    pub counts : count + length (From m count (drop next s)) ≡ length (rows m s at)
    pub stores : sets cells (m * count) (flat_map (values 1 m) (From m count (drop next s))) ≡ table before
    pub rest : lines (drop next s) ≡ drop count (lines (drop at s))
    pub used : Used s 0 at count next
    -- values are fewer than bytes
    pub few : m * count + length (drop next s) ≤ length s

  -- all of them are, and the cells are as they are to be
  abbrev Ended : ℕ → ℕ → List ℤ → List ℤ → Type 0
  Ended count next cells whole =
      (count ≡ length (rows m s at)) × ((cells ≡ whole) × ((lines (drop next s) ≡ drop count (lines (drop at s))) × (next ≡ at + bytes_of count (lines (drop at s)))))

  -- how many lines are left
  abbrev pub left : ℕ → ℕ
  left next = length (lines (drop next s))

  pub starts : m ≤ 7 → (cells : List ℤ) → Keeps cells 0 cells at
  starts short cells =
      let z : m * 0 ≡ 0 = omega arith in
      record {
        short = short;
        counts = omega arith;
        stores = ap (λ (i : ℕ). sets cells i (flat_map (values 1 m) (rows m s at))) z;
        rest = refl;
        used = used_none s 0 at;
        few = omega (arith, length-drop at s);
      }

module _ {m : ℕ} {s : List ℕ} {at : ℕ} {before : List ℤ} {count : ℕ} {cells : List ℤ} {next : ℕ} (h : Keeps m s at before count cells next) where
  pub same_room : length cells ≡ length before
  same_room =
      sym (length-sets cells (m * count) (flat_map (values 1 m) (From m count (drop next s)))) ∙ ap length h.stores ∙ length-sets before 0 (flat_map (values 1 m) (rows m s at))

  -- the line as it is read
  abbrev line_read : Option (source.Row (suc m))
  line_read = id_row_at (suc m) count s next

  abbrev end : ℕ
  end = next + length (line (drop next s))

  answers : line_read ≡ as_row (suc m) end (due m s count next)
  answers = row_in (suc m) (if_suits (has_id count)) s next (suc m) (in_range_lem (suc m) (omega arith) (omega (arith, h.short)))

  long : (x : Row) → due m s count next ≡ Some x → suc m ≤ length (line (drop next s))
  long x e = row_long (suc m) (line (drop next s)) x (suits_some x (has_id count) (row (suc m) (line (drop next s))) e)

  -- the table ends
  pub ended : None ≡ line_read → Ended m s at count next cells (table m s at before)
  unfolding flat_map
  ended q =
      let y = from_none m count (drop next s) (not_held (suc m) end (due m s count next) (q ∙ answers)) in
      let z : length (From m count (drop next s)) ≡ 0 = ap length y in
      (omega (arith, h.counts), (ap (λ (r : List Row). sets cells (m * count) (flat_map (values 1 m) r)) (sym y) ∙ h.stores, (h.rest, used_count h.used)))

  -- it is one row more
  module _ {r : source.Row (suc m)} (e : Some r ≡ line_read) where
    there : Held (suc m) end (due m s count next) r
    there = held (suc m) end (due m s count next) r (e ∙ answers)

    goes_on : drop r.next s ≡ after (drop next s)
    goes_on = ap (λ (n : ℕ). drop n s) there.after ∙ sym (drop-drop (length (line (drop next s))) next s)

    one_more : From m count (drop next s) ≡ there.x ∷ From m (count + 1) (drop r.next s)
    one_more =
        from_more m count (drop next s) there.x there.is ∙ ap (λ (i : ℕ). there.x ∷ From m i (after (drop next s))) (sym (add-one count))
        ∙ ap (λ (t : List ℕ). there.x ∷ From m (count + 1) t) (sym goes_on)

    one_line : lines (drop next s) ≡ line (drop next s) ∷ lines (drop r.next s)
    one_line = lines_some (drop next s) (row_there (has_id count) m there.x (drop next s) there.is) ∙ ap (λ (t : List ℕ). line (drop next s) ∷ lines t) (sym goes_on)

    pub fewer : left m s at r.next < left m s at next
    fewer = let z = ap length one_line in omega arith

    place : m * (count + 1) ≡ m * count + m
    place = ap (λ (i : ℕ). m * i) (add-one count) ∙ rw mul-suc (omega arith)

    -- once its values are in the cells
    module _ {b : List ℤ} (eb : b ≡ puts cells (m * count) 0 (values 1 m r.v)) where
      stored : sets b (m * (count + 1)) (flat_map (values 1 m) (From m (count + 1) (drop r.next s))) ≡ table m s at before
      unfolding flat_map
      stored =
          let own = values 1 m there.x in
          let later = flat_map (values 1 m) (From m (count + 1) (drop r.next s)) in
          let i : m * (count + 1) ≡ m * count + length own = omega (arith, place, values_length 1 m there.x) in
          let same = values_same (suc m) 1 m r.v there.x there.cells (omega arith) in
          ap (λ (l : List ℤ). sets l (m * (count + 1)) later) (eb ∙ puts_sets cells (m * count) 0 (values 1 m r.v) ∙ ap (sets cells (m * count)) same)
          ∙ ap (λ (j : ℕ). sets (sets cells (m * count) own) j later) i
          ∙ sym (sets_append cells (m * count) own later) ∙ ap (λ (r : List Row). sets cells (m * count) (flat_map (values 1 m) r)) (sym one_more) ∙ h.stores

      pub again : Keeps m s at before (count + 1) b r.next
      again =
          let y = ap length one_more in
          record {
            short = h.short;
            counts = omega (arith, h.counts);
            stores = stored;
            rest = ap (drop 1) (sym one_line ∙ h.rest) ∙ drop-drop 1 count (lines (drop at s));
            used = used_next h.used there.after;
            few = omega (arith, h.few, place, there.after, long there.x there.is, line_few (drop next s), length-drop next s, length-drop r.next s);
          }

-- a row's values as they are put: one to a row
pub one_sets : (count : ℕ) (cells v : List ℤ) {b : List ℤ} → b ≡ set cells count (cell 1 v) → b ≡ puts cells (1 * count) 0 (values 1 1 v)
one_sets count cells v e = let i : count ≡ 1 * count = omega arith in e ∙ ap (λ (j : ℕ). set cells j (cell 1 v)) i

pub ended_one : {s : List ℕ} {at : ℕ} {before : List ℤ} {count : ℕ} {cells : List ℤ} {next : ℕ} → Keeps 1 s at before count cells next → None ≡ id_row_at 2 count s next
    → Ended 1 s at count next cells (sets before 0 (map (cell 1) (rows 1 s at)))
ended_one {s} {at} {before} h q = let d = ended h q in (d.0, (d.1.0 ∙ ap (sets before 0) (one_each (rows 1 s at)), d.1.1))
