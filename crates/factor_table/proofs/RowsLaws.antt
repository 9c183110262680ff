-- Laws of the factor table read resource by resource. Assumes nothing.
use Rattle.std.specs.Prelude.{None, Option, Some}
use Prim.Native.Nat.{ℕ, suc, ◌+◌, ◌*◌, ◌≤◌}
use mathlib.Core.Path.{◌≡◌, refl, sym, ap, ◌∙◌}
use mathlib.Core.List.{List, [], ◌∷◌, ◌++◌}
use mathlib.Core.Bool.{Bool, true, false, cond, ◌&&◌}
use native.Mathlib.Omega.{arith}
use native.Mathlib.Nat.{mul-le-mul_right}
use borrow.Author.Tests.{le-leb, lt-leb, lt-ltb, ltb-false}
use lib.Dec.{leb}
use lib.ListN.{length, drop, length-append}
use lib.IntN.{ℤ}
use Rattle.rules_number.specs.Order.{nat_of}
use Rattle.rules_text.specs.Numbers.{Line, Row, lines, row}
use Rattle.rules_text.specs.Tables.{cell, if_suits, and_more, run}
use Rattle.rules_text.specs.Offsets.{bytes_of}
use Rattle.rules_text.proofs.StageLaws.{run_few}
use Rattle.rules_text.proofs.UsedLaws.{used_lines, used_then, used_count, bytes_past}
use Rattle.rules_parts.specs.Parts.{is_declared, place, place_of, is_factor, factor_rows, with_factor, with_factors}
use Rattle.rules_parts.proofs.DeclaredLaws.{declared_below}
use Rattle.text_tables.specs.declared.Table.{Table}
use Rattle.factor_table.specs.Factors.{factors_of, Read}
use Rattle.factor_table.proofs.FactorLaws.{declared_at, comes_before, suits_of, suited, fails, none_suits, stands, length_stored}

-- factors stored, and then others
stored_then : (a : List ℤ) (xs ys : List Row) → with_factors a (xs ++ ys) ≡ with_factors (with_factors a xs) ys
unfolding with_factors
stored_then a [] ys = refl
stored_then a (x ∷ xs) ys = stored_then (with_factor a x) xs ys

-- two tests that differ in the last part alone
same_last : (a b p q : Bool) → (a ≡ true → b ≡ true → p ≡ q) → (a && (b && p)) ≡ (a && (b && q))
same_last true true p q h = h refl refl
same_last true false p q h = refl
same_last false b p q h = refl

module _ (m : ℕ) where
  abbrev From : ℕ → ℕ → List Line → List Row
  From n i = run 3 (is_factor n m) (λ j x. suc (place_of m x)) i

  -- ---- no factor of the resources before b comes after them
  past_false : (b : ℕ) (x : Row) (t : Bool) → is_factor b m (place m b 0) x ≡ t → t ≡ false
  past_false b x true e =
      let h = stands b m (place m b 0) x e in
      let q = comes_before m b 0 (nat_of (cell 0 x)) (nat_of (cell 1 x)) h.resource h.constraint in
      let f = h.from in
      absurd (omega arith)
  past_false b x false e = refl

  none_past : (b : ℕ) (ls : List Line) → From b (place m b 0) ls ≡ []
  unfolding run
  none_past b [] = refl
  none_past b (l ∷ ls) =
      ap (λ (o : Option Row). and_more o (λ x. From b (suc (place_of m x)) ls)) (none_suits (is_factor b m (place m b 0)) (λ x. past_false b x (is_factor b m (place m b 0) x) refl) (row 3 l))

  -- ---- the factors of the resources before c are those of the resources before b, and then the others
  module _ (b c : ℕ) (below : b ≤ c) where
    wider_by : (i : ℕ) (x : Row) → is_factor b m i x ≡ true → is_factor c m i x ≡ true
    unfolding is_factor
    wider_by i x e =
        let h = stands b m i x e in
        let f = h.from in
        let k = h.resource in
        let d = declared_at b (cell 0 x) h.declared c ∙ lt-ltb (nat_of (cell 0 x)) c (omega arith) in
        rw (d, h.constrained) (le-leb i (place_of m x) f)

    wider : (i : ℕ) (o : Option Row) (x : Row) → if_suits (is_factor b m i) o ≡ Some x → if_suits (is_factor c m i) o ≡ Some x
    wider i o x e = let h = suits_of (is_factor b m i) o x e in suited (is_factor c m i) o x h.0 (wider_by i x h.1)

    last_by : (i : ℕ) → i ≤ place m b 0 → (x : Row) → is_declared c (cell 0 x) ≡ true → is_declared m (cell 1 x) ≡ true → is_factor b m i x ≡ false
        → (t : Bool) → is_declared b (cell 0 x) ≡ t → leb i (place_of m x) ≡ leb (place m b 0) (place_of m x)
    unfolding is_factor
    last_by i w x dc dm e true db =
        let k = declared_below b (cell 0 x) db in
        let q = comes_before m b 0 (nat_of (cell 0 x)) (nat_of (cell 1 x)) k (declared_below m (cell 1 x) dm) in
        (rw (db, dm) at e) ∙ sym (lt-leb (place m b 0) (place_of m x) q)
    last_by i w x dc dm e false db =
        let k = ltb-false (nat_of (cell 0 x)) b (sym (declared_at c (cell 0 x) dc b) ∙ db) in
        let p : b * m ≤ nat_of (cell 0 x) * m = mul-le-mul_right m k in
        le-leb i (place_of m x) (omega arith) ∙ sym (le-leb (place m b 0) (place_of m x) (omega arith))

    flags : (i : ℕ) → i ≤ place m b 0 → (x : Row) → is_factor b m i x ≡ false → is_factor c m i x ≡ is_factor c m (place m b 0) x
    unfolding is_factor
    flags i w x e =
        same_last (is_declared c (cell 0 x)) (is_declared m (cell 1 x)) (leb i (place_of m x)) (leb (place m b 0) (place_of m x))
        (λ dc dm. last_by i w x dc dm e (is_declared b (cell 0 x)) refl)

    later : (i : ℕ) → i ≤ place m b 0 → (o : Option Row) → if_suits (is_factor b m i) o ≡ None → if_suits (is_factor c m i) o ≡ if_suits (is_factor c m (place m b 0)) o
    later i w None e = refl
    later i w (Some x) e = ap (λ (t : Bool). cond t (Some x) None) (flags i w x (fails (is_factor b m i) x e))

    abbrev Parted : ℕ → List Line → Type 0
    Parted i ls = From c i ls ≡ From b i ls ++ From c (place m b 0) (drop (length (From b i ls)) ls)

    parted_by : (i : ℕ) → i ≤ place m b 0 → (l : Line) (ls : List Line) → ((j : ℕ) → j ≤ place m b 0 → Parted j ls) → (o : Option Row) → if_suits (is_factor b m i) (row 3 l) ≡ o → Parted i (l ∷ ls)
    unfolding run
    parted_by i w l ls ih None e =
        let z : From b i (l ∷ ls) ≡ [] = ap (λ (o : Option Row). and_more o (λ x. From b (suc (place_of m x)) ls)) e in
        ap (λ (o : Option Row). and_more o (λ x. From c (suc (place_of m x)) ls)) (later i w (row 3 l) e)
        ∙ sym (ap (λ (xs : List Row). xs ++ From c (place m b 0) (drop (length xs) (l ∷ ls))) z)
    parted_by i w l ls ih (Some x) e =
        let h = stands b m i x (suits_of (is_factor b m i) (row 3 l) x e).1 in
        let q = comes_before m b 0 (nat_of (cell 0 x)) (nat_of (cell 1 x)) h.resource h.constraint in
        let z : From b i (l ∷ ls) ≡ x ∷ From b (suc (place_of m x)) ls = ap (λ (o : Option Row). and_more o (λ x. From b (suc (place_of m x)) ls)) e in
        ap (λ (o : Option Row). and_more o (λ x. From c (suc (place_of m x)) ls)) (wider i (row 3 l) x e)
        ∙ ap (λ (xs : List Row). x ∷ xs) (ih (suc (place_of m x)) q)
        ∙ sym (ap (λ (xs : List Row). xs ++ From c (place m b 0) (drop (length xs) (l ∷ ls))) z)

    parted : (i : ℕ) → i ≤ place m b 0 → (ls : List Line) → Parted i ls
    unfolding run
    parted i w [] = refl
    parted i w (l ∷ ls) = parted_by i w l ls (λ j v. parted j v ls) (if_suits (is_factor b m i) (row 3 l)) refl

  -- ---- the loop over the resources before b: those from r on are still to be read in the lines ls, after count rows
  pub record Rows (b r k : ℕ) (a : List ℤ) (ls : List Line) (N : ℕ) (S : List ℤ) : Type 0 where
    pub upto : r ≤ b
    pub count : k + length (factors_of m r b ls) ≡ N
    pub cells : with_factors a (factors_of m r b ls) ≡ S

  module _ (b r count : ℕ) (a : List ℤ) (ls : List Line) (N : ℕ) (S : List ℤ) (h : Rows b r count a ls N S) where
    pub rows_room : length a ≡ length S
    rows_room = sym (length_stored a (factors_of m r b ls)) ∙ ap length h.cells

    pub rows_end : r ≡ b → (count ≡ N) × (a ≡ S)
    unfolding with_factors
    rows_end e =
        let z : factors_of m r b ls ≡ [] = ap (λ (i : ℕ). factors_of m i b ls) e ∙ none_past b ls in
        let n = ap length z in
        let k = h.count in
        (omega arith, ap (with_factors a) (sym z) ∙ h.cells)

    -- the rows of the resources before q are read
    pub rows_next : (q : ℕ) → r ≤ q → q ≤ b → (k : ℕ) → k ≡ length (factors_of m r q ls) → (a' : List ℤ) → a' ≡ with_factors a (factors_of m r q ls) → (ls' : List Line) → ls' ≡ drop k ls
        → Rows b q (count + k) a' ls' N S
    rows_next q u w k ek a' ea ls' el =
        let p : r * m ≤ q * m = mul-le-mul_right m u in
        let xs = factors_of m r q ls in
        let z : factors_of m r b ls ≡ xs ++ factors_of m q b ls' =
        parted q b w (place m r 0) (omega arith) ls ∙ ap (λ (j : ℕ). xs ++ factors_of m q b (drop j ls)) (sym ek) ∙ ap (λ (l : List Line). xs ++ factors_of m q b l) (sym el) in
        let n = ap length z ∙ length-append xs (factors_of m q b ls') in
        let c = h.count in
        record {
          upto = w;
          count = omega arith;
          cells = ap (λ (l : List ℤ). with_factors l (factors_of m q b ls')) ea ∙ sym (stored_then a xs (factors_of m q b ls')) ∙ ap (with_factors a) (sym z) ∙ h.cells;
        }

  pub rows_start : (b r : ℕ) → r ≤ b → (a : List ℤ) (ls : List Line) → Rows b r 0 a ls (length (factors_of m r b ls)) (with_factors a (factors_of m r b ls))
  rows_start b r u a ls = record { upto = u; count = omega arith; cells = refl }

  -- rows are no more than lines
  pub rows_few : (a b : ℕ) (ls : List Line) → length (factors_of m a b ls) ≤ length ls
  rows_few a b ls = run_few 3 (is_factor b m) (λ j x. suc (place_of m x)) (place m a 0) ls

  -- all resources, from 0 on
  pub whole_table : (n : ℕ) (ls : List Line) → factors_of m 0 n ls ≡ factor_rows n m ls
  unfolding factor_rows
  whole_table n ls = let z : place m 0 0 ≡ 0 = omega arith in ap (λ (i : ℕ). From n i ls) z

  -- ---- the answers of two calls, and of the whole table
  module _ (s : List ℕ) (at a b c : ℕ) (up : a ≤ b) (over : b ≤ c) (x y z : List ℤ) (t u : Table) where
    pub read_then : Read s at (factors_of m a b (lines (drop at s))) x y t → Read s t.next (factors_of m b c (lines (drop t.next s))) y z u
        → Read s at (factors_of m a c (lines (drop at s))) x z (record { count = t.count + u.count; next = u.next })
    read_then h k =
        let i = rows_start c a (omega arith) x (lines (drop at s)) in
        let j = rows_next c a 0 x (lines (drop at s)) _ _ i b up over t.count h.count y h.cells (lines (drop t.next s)) (bytes_past s at t.count t.next h.offset) in
        let l = rows_next c b (0 + t.count) y (lines (drop t.next s)) _ _ j c over (omega arith) u.count k.count z k.cells (lines (drop u.next s)) (bytes_past s t.next u.count u.next k.offset) in
        let e = rows_end c c (0 + t.count + u.count) z (lines (drop u.next s)) _ _ l refl in
        let n = e.0 in
        record {
          count = omega arith;
          cells = e.1;
          offset = used_count (used_then (used_lines s 0 at t.count t.next h.offset t.count (omega arith)) (used_lines s t.count t.next u.count u.next k.offset (t.count + u.count) refl));
        }

  pub read_whole : (s : List ℕ) (at n : ℕ) (x y : List ℤ) (t : Table) → Read s at (factors_of m 0 n (lines (drop at s))) x y t
      → (t.count ≡ length (factor_rows n m (lines (drop at s))))
      × ((y ≡ with_factors x (factor_rows n m (lines (drop at s)))) × ((lines (drop t.next s) ≡ drop t.count (lines (drop at s))) × (t.next ≡ at + bytes_of t.count (lines (drop at s)))))
  read_whole s at n x y t h =
      let e = whole_table n (lines (drop at s)) in
      (h.count ∙ ap length e, (h.cells ∙ ap (with_factors x) e, (bytes_past s at t.count t.next h.offset, h.offset)))
