-- Laws of factors: declared ids, places, the factor of a line, and a row of factors read by a loop. Assumes nothing.
use Rattle.std.specs.Prelude.{None, Option, Some}
use Prim.Native.Nat.{ℕ, suc, ◌+◌, ◌*◌, ◌≤◌, ◌<◌}
use mathlib.Core.Path.{◌≡◌, refl, sym, ap, ◌∙◌}
use mathlib.Core.List.{List, [], ◌∷◌, map}
use mathlib.Core.Bool.{Bool, true, false, cond, ◌&&◌}
use mathlib.Core.Logic.{⊎_elim}
use native.Mathlib.Omega.{arith}
use native.Mathlib.Nat.{suc-mul, mul-le-mul_right}
use borrow.Author.Tests.{le-leb, lt-leb, lt-ltb, leb-true}
use lib.Dec.{leb, ltb}
use lib.ListN.{length, length-set}
use lib.Seq.{sets}
use lib.IntN.{ℤ, pos, negsuc, nat_abs}
use lib.Signed.{lt_z}
use Rattle.std.proofs.lemmas.Option.{none-some, same_Some}
use Rattle.rules_number.specs.Order.{nat_of, eq_z}
use Rattle.rules_number.proofs.OrderLaws.{eq_z_true, eq_z_same}
use Rattle.rules_number.proofs.OverLaws.{never, both, le_or_lt}
use Rattle.rules_text.specs.Numbers.{Line, Row, lines, row}
use Rattle.rules_text.specs.Tables.{cell, has_id, if_suits, run}
use Rattle.rules_text.specs.Offsets.{line_at, as_row, row_of}
use Rattle.rules_text.proofs.LineLaws.{line, after, lines_cons, lines_some}
use Rattle.rules_text.proofs.TableLaws.{row_there, Loop, turns}
use Rattle.rules_parts.specs.Parts.{is_declared, place, place_of, is_factor, factor_cell, with_factor, with_factors}
use Rattle.rules_parts.proofs.DeclaredLaws.{declared_below}
use Rattle.factor_table.specs.Factors.{as_factor}
use Rattle.factor_table.specs.declared.Factor.{Factor}

-- ---- declared ids
pub declared_at : (n : ℕ) (z : ℤ) → is_declared n z ≡ true → (b : ℕ) → is_declared b z ≡ ltb (nat_of z) b
unfolding is_declared
declared_at n (pos k) e b = simp (le-leb 0 k (omega arith))
declared_at n (negsuc k) e b = never e

pub declared_in : (n k : ℕ) → k < n → is_declared n (pos k) ≡ true
unfolding is_declared
declared_in n k h = simp (le-leb 0 k (omega arith), lt-ltb k n h)

-- a value that is not below 0, as a natural number
pub natural : (z : ℤ) → lt_z z (pos 0) ≡ false → nat_abs z ≡ nat_of z
natural (pos k) e = refl
natural (negsuc k) e = never (sym e)

-- ---- places
module _ (m r c : ℕ) where
  -- a factor of an earlier resource comes before
  pub comes_before : (x y : ℕ) → x < r → y < m → place m x y < place m r 0
  comes_before x y h inside =
      let p : suc x * m ≤ r * m = mul-le-mul_right m h in
      let q = suc-mul x m in
      omega arith

  -- one of the same resource comes where its constraint does
  pub comes_same : (y : ℕ) → leb (place m r c) (place m r y) ≡ leb c y
  comes_same y =
      ⊎_elim (λ h. le-leb (r * m + c) (r * m + y) (omega arith) ∙ sym (le-leb c y h)) (λ h. lt-leb (r * m + c) (r * m + y) (omega arith) ∙ sym (lt-leb c y h)) (le_or_lt c y)

-- ---- the factor of a line
-- the row of a line of 1 to 8 values
pub row_of_lem : (m : ℕ) (which : Option Row → Option Row) (s : List ℕ) (p k : ℕ) → (leb 1 k && leb k 8) ≡ true → row_of m which s p k ≡ as_row m (p + length (line_at s p)) (which (row k (line_at s p)))
unfolding row_of
row_of_lem m which s p k e = rw e refl

module _ (suits : Row → Bool) where
  suits_by : (x y : Row) (b : Bool) → suits y ≡ b → cond b (Some y) None ≡ Some x → (y ≡ x) × (suits x ≡ true)
  suits_by x y true q e = let z : y ≡ x = cc in (z, ap suits (sym z) ∙ q)
  suits_by x y false q e = let z : ◌≡◌ {A = ℕ} 0 1 = cc in absurd (omega arith)

  -- a row that suits is there
  pub suits_of : (o : Option Row) (x : Row) → if_suits suits o ≡ Some x → (o ≡ Some x) × (suits x ≡ true)
  suits_of None x e = let z : ◌≡◌ {A = ℕ} 0 1 = cc in absurd (omega arith)
  suits_of (Some y) x e = let h = suits_by x y (suits y) refl e in (ap Some h.0, h.1)

  pub suited : (o : Option Row) (x : Row) → o ≡ Some x → suits x ≡ true → if_suits suits o ≡ Some x
  suited o x e q = rw (e, q) refl

  unsuited_by : (y : Row) (b : Bool) → suits y ≡ b → cond b (Some y) None ≡ None → suits y ≡ false
  unsuited_by y true q e = let z : ◌≡◌ {A = ℕ} 0 1 = cc in absurd (omega arith)
  unsuited_by y false q e = q

  -- one that does not suit fails
  pub fails : (x : Row) → if_suits suits (Some x) ≡ None → suits x ≡ false
  fails x e = unsuited_by x (suits x) refl e

  pub unsuited : (o : Option Row) (x : Row) → o ≡ Some x → suits x ≡ false → if_suits suits o ≡ None
  unsuited o x e q = rw (e, q) refl

  -- none suits
  pub none_suits : ((x : Row) → suits x ≡ false) → (o : Option Row) → if_suits suits o ≡ None
  none_suits h None = refl
  none_suits h (Some x) = ap (λ (b : Bool). cond b (Some x) None) (h x)

-- what a factor is: its ids are declared, and it comes at place i or after it
pub record Stands (n m i : ℕ) (x : Row) : Type 0 where
  pub declared : is_declared n (cell 0 x) ≡ true
  pub constrained : is_declared m (cell 1 x) ≡ true
  pub resource : nat_of (cell 0 x) < n
  pub constraint : nat_of (cell 1 x) < m
  pub from : i ≤ place_of m x

pub stands : (n m i : ℕ) (x : Row) → is_factor n m i x ≡ true → Stands n m i x
unfolding is_factor
stands n m i x e =
    let a = both (is_declared n (cell 0 x)) (is_declared m (cell 1 x) && leb i (place_of m x)) e in
    let b = both (is_declared m (cell 1 x)) (leb i (place_of m x)) a.1 in
    record {
      declared = a.0;
      constrained = b.0;
      resource = declared_below n (cell 0 x) a.0;
      constraint = declared_below m (cell 1 x) b.0;
      from = leb-true i (place_of m x) b.1;
    }

module _ (r m c : ℕ) (x : Row) where
  -- a factor of the resource r alone has its id
  pub own_resource : is_factor (r + 1) m (place m r c) x ≡ true → nat_of (cell 0 x) ≡ r
  own_resource e =
      let h = stands (r + 1) m (place m r c) x e in
      let a = h.resource in
      let f = h.from in
      ⊎_elim (λ b. omega arith) (λ b. let q = comes_before m r c (nat_of (cell 0 x)) (nat_of (cell 1 x)) b h.constraint in absurd (omega arith)) (le_or_lt r (nat_of (cell 0 x)))

  own_id : (z : ℤ) → is_declared (r + 1) z ≡ true → nat_of z ≡ r → eq_z (pos r) z ≡ true
  unfolding is_declared
  own_id (pos k) d e = ap (λ (k : ℕ). eq_z (pos r) (pos k)) e ∙ eq_z_same (pos r)
  own_id (negsuc k) d e = never d

  other_by : has_id r x ≡ false → (b : Bool) → is_factor (r + 1) m (place m r c) x ≡ b → b ≡ false
  other_by h true e = sym (own_id (cell 0 x) (stands (r + 1) m (place m r c) x e).declared (own_resource e)) ∙ h
  other_by h false e = refl

  -- no other line is a factor of r
  pub other_resource : has_id r x ≡ false → is_factor (r + 1) m (place m r c) x ≡ false
  other_resource h = other_by h (is_factor (r + 1) m (place m r c) x) refl

  -- a line with the id r is one where its constraint is declared and comes at c or after it
  pub same_resource : has_id r x ≡ true → is_factor (r + 1) m (place m r c) x ≡ (is_declared m (cell 1 x) && leb c (nat_of (cell 1 x)))
  unfolding is_factor
  same_resource h =
      ap (λ (z : ℤ). is_declared (r + 1) z && (is_declared m (cell 1 x) && leb (place m r c) (place m (nat_of z) (nat_of (cell 1 x))))) (sym (eq_z_true (pos r) (cell 0 x) h))
      ∙ ap (λ (b : Bool). b && (is_declared m (cell 1 x) && leb (place m r c) (place m r (nat_of (cell 1 x))))) (declared_in (r + 1) r (omega arith))
      ∙ ap (λ (b : Bool). is_declared m (cell 1 x) && b) (comes_same m r c (nat_of (cell 1 x)))

pub and-false : (a b : Bool) → b ≡ false → (a && b) ≡ false
and-false true b e = e
and-false false b e = refl

module _ (r m c : ℕ) where
  -- a line without the id r is no factor of r
  pub other_row : (o : Option Row) → if_suits (has_id r) o ≡ None → if_suits (is_factor (r + 1) m (place m r c)) o ≡ None
  other_row None e = refl
  other_row (Some x) e = unsuited (is_factor (r + 1) m (place m r c)) (Some x) x refl (other_resource r m c x (fails (has_id r) x e))

-- a factor that is there: the values x of its line
pub record Taken (next : ℕ) (o : Option Row) (f : Factor) : Type 0 where
  pub x : Row
  pub is : o ≡ Some x
  pub constraint : f.constraint ≡ nat_of (cell 1 x)
  pub value : f.value ≡ cell 2 x
  pub after : f.next ≡ next

pub taken : (next : ℕ) (o : Option Row) (f : Factor) → Some f ≡ as_factor next o → Taken next o f
taken next None f e = absurd (none-some f (sym e))
taken next (Some x) f e =
    let i = same_Some f (record { constraint = nat_of (cell 1 x); value = cell 2 x; next = next }) e in
    record {
      x = x;
      is = refl;
      constraint = ap (λ (w : Factor). w.constraint) i;
      value = ap (λ (w : Factor). w.value) i;
      after = ap (λ (w : Factor). w.next) i;
    }

pub not_taken : (next : ℕ) (o : Option Row) → None ≡ as_factor next o → o ≡ None
not_taken next None e = refl
not_taken next (Some x) e = absurd (none-some (record { constraint = nat_of (cell 1 x); value = cell 2 x; next = next }) e)

-- factors that are stored leave as many cells
pub length_stored : (a : List ℤ) (xs : List Row) → length (with_factors a xs) ≡ length a
unfolding with_factors
length_stored a [] = refl
length_stored a (x ∷ xs) = length_stored (with_factor a x) xs ∙ length-set a (factor_cell (nat_of (cell 0 x)) (nat_of (cell 1 x))) (cell 2 x)

-- ---- the loop: the rows that are still to be read, stored in what is stored, are the whole
sets_none : (i : ℕ) (xs : List ℤ) → sets [] i xs ≡ []
sets_none i [] = refl
sets_none i (x ∷ xs) = sets_none (suc i) xs

module _ (n m : ℕ) where
  abbrev pub up : ℕ → Row → ℕ
  up i x = suc (place_of m x)

  abbrev pub Left : ℕ → List ℕ → List Row
  Left i t = run 3 (is_factor n m) up i (lines t)

  left_none : (i : ℕ) (t : List ℕ) → if_suits (is_factor n m i) (row 3 (line t)) ≡ None → Left i t ≡ []
  unfolding run
  left_none i [] e = refl
  left_none i (b ∷ u) e = rw (lines_cons b u, e) refl

  left_more : (i : ℕ) (t : List ℕ) (x : Row) → if_suits (is_factor n m i) (row 3 (line t)) ≡ Some x → Left i t ≡ x ∷ Left (up i x) (after t)
  unfolding run
  left_more i t x e = rw (lines_some t (row_there (is_factor n m i) 2 x t e), e) refl

  -- count rows are read, from the lines L, and their factors stored in a; the rest t goes on at constraint c of resource r
  pub record Reads (count r c : ℕ) (a : List ℤ) (t : List ℕ) (N : ℕ) (S : List ℤ) (L : List Line) : Type 0 where
    pub lines : Loop 2 (is_factor n m) up (cell 2) count (place m r c) [] t N [] L
    pub stores : with_factors a (Left (place m r c) t) ≡ S
    pub width : c ≤ m

  pub reads_start : (r : ℕ) (a : List ℤ) (t : List ℕ) → Reads 0 r 0 a t (length (Left (place m r 0) t)) (with_factors a (Left (place m r 0) t)) (lines t)
  reads_start r a t = record {
    lines = record { count = omega arith; stores = sets_none 0 (map (cell 2) (Left (place m r 0) t)); rest = refl };
    stores = refl;
    width = omega arith;
  }

  module _ (count r c : ℕ) (a : List ℤ) (t : List ℕ) (N : ℕ) (S : List ℤ) (L : List Line) (h : Reads count r c a t N S L) where
    pub room : length a ≡ length S
    room = sym (length_stored a (Left (place m r c) t)) ∙ ap length h.stores

    pub stored : if_suits (is_factor n m (place m r c)) (row 3 (line t)) ≡ None → a ≡ S
    unfolding with_factors
    stored e = ap (with_factors a) (sym (left_none (place m r c) t e)) ∙ h.stores

    pub record Goes (r' c' : ℕ) (b : List ℤ) (u : List ℕ) : Type 0 where
      pub again : Reads (count + 1) r' c' b u N S L
      pub fewer : length (lines u) < length (lines t)
      pub below : count < length L

    pub goes : (x : Row) → if_suits (is_factor n m (place m r c)) (row 3 (line t)) ≡ Some x → (r' c' : ℕ) → r' ≡ nat_of (cell 0 x) → c' ≡ nat_of (cell 1 x) + 1 → c' ≤ m
        → (b : List ℤ) → b ≡ with_factor a x → (u : List ℕ) → u ≡ after t → Goes r' c' b u
    unfolding with_factors
    goes x e r' c' er ec w b eb u eu =
        let j : up (place m r c) x ≡ place m r' c' = omega (arith, ap (λ (z : ℕ). z * m) er) in
        let y : Left (place m r c) t ≡ x ∷ Left (place m r' c') u =
        left_more (place m r c) t x e ∙ ap (λ (i : ℕ). x ∷ Left i (after t)) j ∙ ap (λ (l : List ℕ). x ∷ Left (place m r' c') l) (sym eu) in
        let k = turns 2 (is_factor n m) up (cell 2) count (place m r c) [] t N [] L h.lines x e (place m r' c') j [] refl u eu in
        record {
          again = record {
            lines = k.again;
            stores = ap (λ (l : List ℤ). with_factors l (Left (place m r' c') u)) eb ∙ ap (with_factors a) (sym y) ∙ h.stores;
            width = w;
          };
          fewer = k.fewer;
          below = k.below;
        }
