-- Laws of lines of values: one value more, and what a row answers. Assumes nothing.
use Rattle.std.specs.Prelude.{None, Some, Option}
use Prim.Native.Nat.{ℕ, zero, suc, ◌+◌, ◌-◌, ◌≤◌, ◌<◌}
use mathlib.Core.Path.{◌≡◌, refl, sym, ap, subst, ◌∙◌}
use mathlib.Core.List.{List, [], ◌∷◌}
use mathlib.Core.Bool.{Bool, true, false, cond, ◌&&◌, false≢true}
use native.Mathlib.Omega.{arith}
use native.Mathlib.Numerals.{add-one}
use borrow.Author.Tests.{eq-eqb, ne_eqb, eqb-true, eqb-false, le-leb, lt-leb}
use lib.Dec.{leb, eqb}
use lib.ListN.{length, drop, get_or, set, replicate, length-drop, length-set, length-replicate}
use lib.Seq.{sets, drop-drop, get_or-drop}
use lib.IntN.{ℤ, pos}
use Rattle.std.proofs.lemmas.Option.{none-some, same_Some}
use Rattle.rules_number.specs.Order.{eq_z}
use Rattle.rules_text.specs.declared.Row as source
use Rattle.rules_text.specs.Numbers.{Line, Row, closing, number, put, field, row}
use Rattle.rules_text.specs.Tables.{cell, if_suits, has_id}
use Rattle.rules_text.specs.Offsets.{shifted, number_at, closed_by, line_at, kept, as_row, row_of, row_at, id_row_at}
use Rattle.rules_text.proofs.ListLaws.{and-false, head_at, byte_there, sets_read, some_pair}
use Rattle.rules_text.proofs.LineLaws.{line, line_at_lem, head_line, number_line, within}

-- what is left of a line, where m of its values are left
abbrev pub left : ℕ → List ℕ → Line
left zero t = []
left (suc m) t = line t

pub closing_some : (m : ℕ) → 0 < closing m
closing_some zero = omega arith
closing_some (suc m) = omega arith

closed : (u : List ℕ) (m : ℕ) → get_or u 0 0 ≡ closing m → drop 1 (line u) ≡ left m (drop 1 u)
closed [] zero e = absurd (omega arith)
closed [] (suc m) e = absurd (omega arith)
closed (b ∷ w) zero e = ap (λ (x : Bool). cond x [] (line w)) (eq-eqb b 10 e)
closed (b ∷ w) (suc m) e = ap (λ (x : Bool). cond x [] (line w)) (ne_eqb b 10 (λ q. omega arith))

-- ---- one value more of a line: n is past the byte that closes it
pub record Stepped (s : List ℕ) (p m n : ℕ) (z : ℤ) : Type 0 where
  pub value : row (suc m) (line (drop p s)) ≡ put z (row m (left m (drop n s)))
  pub end : n + length (left m (drop n s)) ≡ p + length (line (drop p s))

module _ (s : List ℕ) (p m : ℕ) where
  row_is : (x : Option (ℤ × ℕ)) → number (drop p s) ≡ x → row (suc m) (line (drop p s)) ≡ field x (line (drop p s)) (closing m) (row m)
  unfolding row
  row_is x e = ap (λ (y : Option (ℤ × ℕ)). field y (line (drop p s)) (closing m) (row m)) (number_line (drop p s) ∙ e)

  -- the byte after a number, in the line and in the text
  byte_as : (k : ℕ) (z : ℤ) → number (drop p s) ≡ Some (z, k) → get_or (line (drop p s)) k 0 ≡ get_or s (p + k) 0
  byte_as k z e =
      head_at 0 (line (drop p s)) k ∙ ap (λ (l : List ℕ). get_or l 0 0) (within (drop p s) k z e)
      ∙ head_line (drop k (drop p s)) ∙ sym (head_at 0 (drop p s) k) ∙ get_or-drop p s k 0

  step_as : (z : ℤ) (k : ℕ) → number (drop p s) ≡ Some (z, k) → get_or s (p + k) 0 ≡ closing m → Stepped s p m (p + k + 1) z
  step_as z k e b =
      let l = line (drop p s) in
      let w = within (drop p s) k z e in
      let u : drop 1 (drop k (drop p s)) ≡ drop (p + k + 1) s = ap (drop 1) (drop-drop k p s) ∙ drop-drop 1 (p + k) s in
      let c : drop (suc k) l ≡ left m (drop (p + k + 1) s) =
      ap (λ (n : ℕ). drop n l) (sym (add-one k)) ∙ sym (drop-drop 1 k l) ∙ ap (drop 1) w
      ∙ closed (drop k (drop p s)) m (sym (head_at 0 (drop p s) k) ∙ get_or-drop p s k 0 ∙ b) ∙ ap (left m) u in
      let here : k < length l = byte_there l k (omega (arith, byte_as k z e, closing_some m)) in
      let size = sym (ap length c) ∙ length-drop (suc k) l in
      record {
        value = row_is (Some (z, k)) e
            ∙ ap (λ (x : Bool). cond x (put z (row m (drop (suc k) l))) None) (eq-eqb (get_or l k 0) (closing m) (byte_as k z e ∙ b))
            ∙ ap (λ (i : List ℕ). put z (row m i)) c;
        end = omega arith;
      }

  unclosed_as : (z : ℤ) (k : ℕ) → number (drop p s) ≡ Some (z, k) → (get_or s (p + k) 0 ≡ closing m → ⊥) → row (suc m) (line (drop p s)) ≡ None
  unclosed_as z k e b =
      row_is (Some (z, k)) e
      ∙ ap (λ (x : Bool). cond x (put z (row m (drop (suc k) (line (drop p s))))) None) (ne_eqb (get_or (line (drop p s)) k 0) (closing m) (λ h. b (sym (byte_as k z e) ∙ h)))

  -- by the number that the text from the offset on begins with, and whether the byte closes it
  stepped_by : (z : ℤ) (n : ℕ) (y : ℤ) (k : ℕ) → number (drop p s) ≡ Some (y, k) → (d : Bool) → eqb (get_or s (p + k) 0) (closing m) ≡ d → ◌≡◌ {A = Option (ℤ × ℕ)} (Some (z, n)) (cond d (Some (y, p + k + 1)) None) → Stepped s p m n z
  stepped_by z n y k e true b q =
      let i : p + k + 1 ≡ n = sym (some_pair q).1 in
      let w : y ≡ z = sym (some_pair q).0 in
      subst (λ j. Stepped s p m j z) i (step_as z k (e ∙ ap (λ (v : ℤ). Some (v, k)) w) (eqb-true (get_or s (p + k) 0) (closing m) b))
  stepped_by z n y k e false b q = let o : ◌≡◌ {A = ℕ} 0 1 = cc in absurd (omega arith)

  stepped_of : (z : ℤ) (n : ℕ) (x : Option (ℤ × ℕ)) → number (drop p s) ≡ x → Some (z, n) ≡ closed_by s (closing m) (shifted p x) → Stepped s p m n z
  stepped_of z n None e q = let o : ◌≡◌ {A = ℕ} 0 1 = cc in absurd (omega arith)
  stepped_of z n (Some (y, k)) e q = stepped_by z n y k e (eqb (get_or s (p + k) 0) (closing m)) refl q

  pub stepped : (z : ℤ) (n : ℕ) → Some (z, n) ≡ closed_by s (closing m) (number_at s p) → Stepped s p m n z
  unfolding number_at
  stepped z n q = stepped_of z n (number (drop p s)) refl q

  missing_by : (y : ℤ) (k : ℕ) → number (drop p s) ≡ Some (y, k) → (d : Bool) → eqb (get_or s (p + k) 0) (closing m) ≡ d → ◌≡◌ {A = Option (ℤ × ℕ)} None (cond d (Some (y, p + k + 1)) None) → row (suc m) (line (drop p s)) ≡ None
  missing_by y k e true b q = let o : ◌≡◌ {A = ℕ} 0 1 = cc in absurd (omega arith)
  missing_by y k e false b q = unclosed_as y k e (eqb-false (get_or s (p + k) 0) (closing m) b)

  missing_of : (x : Option (ℤ × ℕ)) → number (drop p s) ≡ x → None ≡ closed_by s (closing m) (shifted p x) → row (suc m) (line (drop p s)) ≡ None
  missing_of None e q = row_is None e
  missing_of (Some (y, k)) e q = missing_by y k e (eqb (get_or s (p + k) 0) (closing m)) refl q

  pub missing : None ≡ closed_by s (closing m) (number_at s p) → row (suc m) (line (drop p s)) ≡ None
  unfolding number_at
  missing q = missing_of (number (drop p s)) refl q

-- ---- values stored from a cell on
abbrev pub stored : List ℤ → ℕ → Option Row → Option (List ℤ)
stored a i None = None
stored a i (Some zs) = Some (sets a i zs)

stored_put : (a : List ℤ) (i : ℕ) (z : ℤ) (o : Option Row) → stored a i (put z o) ≡ stored (set a i z) (i + 1) o
stored_put a i z None = refl
stored_put a i z (Some zs) = rw add-one

-- ---- a loop over the k values of a line: i are stored in m cells, and what is left of the line, stored after them, is the whole
pub record Rowing (m : ℕ) (s : List ℕ) (at k : ℕ) (v : List ℤ) (p i : ℕ) : Type 0 where
  pub within : i ≤ k
  pub long : length v ≡ m
  pub values : stored v i (row (k - i) (left (k - i) (drop p s))) ≡ stored (replicate m (pos 0)) 0 (row k (line (drop at s)))
  pub end : p + length (left (k - i) (drop p s)) ≡ at + length (line (drop at s))

left_some : (k : ℕ) (t : List ℕ) → 1 ≤ k → left k t ≡ line t
left_some zero t h = absurd (omega arith)
left_some (suc k) t h = refl

pub rowing_start : (m : ℕ) (s : List ℕ) (at k : ℕ) → 1 ≤ k → Rowing m s at k (replicate m (pos 0)) at 0
rowing_start m s at k h =
    let z : k - 0 ≡ k = omega arith in
    let l = left_some k (drop at s) h in
    record {
      within = omega arith;
      long = length-replicate m (pos 0);
      values = rw (z, l);
      end = rw (z, l);
    }

module _ (m : ℕ) (s : List ℕ) (at k : ℕ) (v : List ℤ) (p i : ℕ) (r : Rowing m s at k v p i) where
  -- where the line is no row of k values
  none_by : (j : ℕ) → k - i ≡ suc j → row (suc j) (line (drop p s)) ≡ None → None ≡ stored (replicate m (pos 0)) 0 (row k (line (drop at s)))
  none_by j e q = sym (ap (stored v i) q) ∙ ap (λ (n : ℕ). stored v i (row n (left n (drop p s)))) (sym e) ∙ r.values

  module _ (here : i < k) where
    pub rowing_missing : None ≡ closed_by s (closing (k - i - 1)) (number_at s p) → None ≡ stored (replicate m (pos 0)) 0 (row k (line (drop at s)))
    rowing_missing e = none_by (k - i - 1) (omega arith) (missing s p (k - i - 1) e)

    pub rowing_more : (z : ℤ) (n : ℕ) → Some (z, n) ≡ closed_by s (closing (k - i - 1)) (number_at s p) → Rowing m s at k (set v i z) n (i + 1)
    rowing_more z n e =
        let st = stepped s p (k - i - 1) z n e in
        let u : k - (i + 1) ≡ k - i - 1 = omega arith in
        let w : k - i ≡ suc (k - i - 1) = omega arith in
        let end : p + length (line (drop p s)) ≡ at + length (line (drop at s)) = ap (λ (j : ℕ). p + length (left j (drop p s))) (sym w) ∙ r.end in
        record {
          within = omega arith;
          long = length-set v i z ∙ r.long;
          values = rw u (sym (stored_put v i z (row (k - i - 1) (left (k - i - 1) (drop n s))))
              ∙ ap (stored v i) (sym st.value) ∙ ap (λ (j : ℕ). stored v i (row j (left j (drop p s)))) (sym w) ∙ r.values);
          end = rw u (st.end ∙ end);
        }

  pub record Rowed : Type 0 where
    pub values : Some v ≡ stored (replicate m (pos 0)) 0 (row k (line (drop at s)))
    pub end : p ≡ at + length (line (drop at s))

  pub rowing_done : k ≤ i → Rowed
  unfolding row
  rowing_done h =
      let z : k - i ≡ 0 = omega (arith, r.within) in
      let end : p + 0 ≡ at + length (line (drop at s)) = ap (λ (j : ℕ). p + length (left j (drop p s))) (sym z) ∙ r.end in
      record {
        values = ap (λ (j : ℕ). stored v i (row j (left j (drop p s)))) (sym z) ∙ r.values;
        end = omega arith;
      }

-- ---- what a row answers
module _ (m : ℕ) (which : Option Row → Option Row) (s : List ℕ) (p k : ℕ) where
  pub row_out : (leb 1 k && leb k 8) ≡ false → None ≡ row_of m which s p k
  unfolding row_of
  row_out e = sym (ap (λ (b : Bool). cond b (as_row m (p + length (line_at s p)) (which (row k (line_at s p)))) None) e)

  pub row_in : (leb 1 k && leb k 8) ≡ true → row_of m which s p k ≡ as_row m (p + length (line (drop p s))) (which (row k (line (drop p s))))
  unfolding row_of
  row_in e =
      ap (λ (b : Bool). cond b (as_row m (p + length (line_at s p)) (which (row k (line_at s p)))) None) e
      ∙ ap (λ (l : Line). as_row m (p + length l) (which (row k l))) (line_at_lem s p)

pub in_range_lem : (k : ℕ) → 1 ≤ k → k ≤ 8 → (leb 1 k && leb k 8) ≡ true
in_range_lem k a b = simp (le-leb 1 k a, le-leb k 8 b)

pub below_range : (k : ℕ) → k < 1 → (leb 1 k && leb k 8) ≡ false
below_range k h = simp (lt-leb 1 k h)

pub above_range : (k : ℕ) → 8 < k → (leb 1 k && leb k 8) ≡ false
above_range k h = rw (lt-leb k 8 h) (and-false (leb 1 k))

-- no values stored, or all of them
module _ (m next : ℕ) where
  as_none : (o : Option Row) → None ≡ stored (replicate m (pos 0)) 0 o → None ≡ as_row m next o
  as_none None e = refl
  as_none (Some xs) e = absurd (none-some (sets (replicate m (pos 0)) 0 xs) e)

  as_some : (v : List ℤ) (o : Option Row) → Some v ≡ stored (replicate m (pos 0)) 0 o → ◌≡◌ {A = Option (source.Row m)} (Some (record { v = v; next = next })) (as_row m next o)
  unfolding kept
  as_some v None e = absurd (none-some v (sym e))
  as_some v (Some xs) e = ap (λ (w : List ℤ). Some (record { v = w; next = next })) (same_Some v (sets (replicate m (pos 0)) 0 xs) e)

module _ (m : ℕ) (s : List ℕ) (at k : ℕ) (range : (leb 1 k && leb k 8) ≡ true) where
  pub row_none : None ≡ stored (replicate m (pos 0)) 0 (row k (line (drop at s))) → None ≡ row_at m s at k
  row_none e = as_none m (at + length (line (drop at s))) (row k (line (drop at s))) e ∙ sym (row_in m (λ o. o) s at k range)

  pub row_some : (v : List ℤ) (p : ℕ) → Some v ≡ stored (replicate m (pos 0)) 0 (row k (line (drop at s))) → p ≡ at + length (line (drop at s))
      → ◌≡◌ {A = Option (source.Row m)} (Some (record { v = v; next = p })) (row_at m s at k)
  row_some v p e q =
      as_some m p v (row k (line (drop at s))) e ∙ ap (λ (n : ℕ). as_row m n (row k (line (drop at s)))) q ∙ sym (row_in m (λ o. o) s at k range)

-- a row that is there: the values x, by their cells, and the offset of the next line
pub record Held (m next : ℕ) (o : Option Row) (r : source.Row m) : Type 0 where
  pub x : Row
  pub is : o ≡ Some x
  pub cells : (j : ℕ) → j < m → get_or r.v j (pos 0) ≡ cell j x
  pub after : r.next ≡ next

pub held : (m next : ℕ) (o : Option Row) (r : source.Row m) → Some r ≡ as_row m next o → Held m next o r
unfolding kept
held m next None r e = absurd (none-some r (sym e))
held m next (Some xs) r e =
    let i = same_Some r (record { v = kept m (pos 0) xs; next = next }) e in
    record {
      x = xs;
      is = refl;
      cells = λ j h. ap (λ (w : source.Row m). get_or w.v j (pos 0)) i ∙ sets_read m (pos 0) xs j h;
      after = ap (λ (w : source.Row m). w.next) i;
    }

pub not_held : (m next : ℕ) (o : Option Row) → None ≡ as_row m next o → o ≡ None
not_held m next None e = refl
not_held m next (Some xs) e = absurd (none-some (record { v = kept m (pos 0) xs; next = next }) e)

-- ---- a row with its id
module _ (m n : ℕ) (s : List ℕ) (at : ℕ) where
  abbrev end : ℕ
  end = at + length (line (drop at s))

  none_suits : (o : Option Row) → None ≡ as_row m end o → None ≡ as_row m end (if_suits (has_id n) o)
  none_suits None e = refl
  none_suits (Some x) e = absurd (none-some (record { v = kept m (pos 0) x; next = end }) e)

  pub id_no_row : None ≡ row_at m s at m → None ≡ id_row_at m n s at
  id_no_row e = go (leb 1 m && leb m 8) refl
    where
      go : (b : Bool) → (leb 1 m && leb m 8) ≡ b → None ≡ id_row_at m n s at
      go false q = row_out m (if_suits (has_id n)) s at m q
      go true q = none_suits (row m (line (drop at s))) (e ∙ row_in m (λ o. o) s at m q) ∙ sym (row_in m (if_suits (has_id n)) s at m q)

  -- it is the row of the id n where its first value is n
  module _ (r : source.Row m) (some : 1 ≤ m) (e : Some r ≡ row_at m s at m) where
    by_test : (x : Row) → Some r ≡ as_row m end (Some x) → (b : Bool) → ◌≡◌ {A = Option (source.Row m)} (cond b (Some r) None) (as_row m end (cond b (Some x) None))
    by_test x q true = q
    by_test x q false = refl

    by_line : (o : Option Row) → Some r ≡ as_row m end o → ◌≡◌ {A = Option (source.Row m)} (cond (eq_z (pos n) (get_or r.v 0 (pos 0))) (Some r) None) (as_row m end (if_suits (has_id n) o))
    unfolding kept
    by_line None q = absurd (none-some r (sym q))
    by_line (Some x) q =
        let i = same_Some r (record { v = kept m (pos 0) x; next = end }) q in
        let test : eq_z (pos n) (get_or r.v 0 (pos 0)) ≡ has_id n x = ap (λ (w : source.Row m). eq_z (pos n) (get_or w.v 0 (pos 0))) i ∙ ap (eq_z (pos n)) (sets_read m (pos 0) x 0 (omega arith)) in
        ap (λ (b : Bool). cond b (Some r) None) test ∙ by_test x q (has_id n x)

    pub id_row : ◌≡◌ {A = Option (source.Row m)} (cond (eq_z (pos n) (get_or r.v 0 (pos 0))) (Some r) None) (id_row_at m n s at)
    id_row = go (leb 1 m && leb m 8) refl
      where
        go : (b : Bool) → (leb 1 m && leb m 8) ≡ b → ◌≡◌ {A = Option (source.Row m)} (cond (eq_z (pos n) (get_or r.v 0 (pos 0))) (Some r) None) (id_row_at m n s at)
        go false q = absurd (none-some r (row_out m (λ o. o) s at m q ∙ sym e))
        go true q = by_line (row m (line (drop at s))) (e ∙ row_in m (λ o. o) s at m q) ∙ sym (row_in m (if_suits (has_id n)) s at m q)
