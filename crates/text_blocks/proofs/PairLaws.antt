-- Laws of one resource's lines, put pair by pair by a loop: what is still to be read, put after what is put, is the whole. Assumes nothing.
use Rattle.std.specs.Prelude.{None, Some}
use Prim.Native.Nat.{ℕ, zero, suc, ◌+◌, ◌*◌, ◌-◌, ◌≤◌, ◌<◌}
use mathlib.Core.Path.{◌≡◌, refl, sym, ap, ◌∙◌}
use mathlib.Core.List.{List, [], ◌∷◌}
use mathlib.Core.Logic.{⊎_elim}
use mathlib.Core.Bool.{Bool, true, false, cond}
use native.Mathlib.Omega.{arith}
use borrow.Author.Tests.{lt-ltb, le-ltb}
use lib.Dec.{ltb}
use lib.IntN.{ℤ, pos}
use lib.ListN.{length, drop, get_or, set, length-set}
use lib.Seq.{sets, drop-drop}
use Rattle.rules_number.proofs.OverLaws.{le_or_lt}
use Rattle.rules_text.specs.Numbers.{Row, lines, row}
use Rattle.rules_text.specs.Tables.{cell, has_id, if_suits, run, pairs}
use Rattle.rules_text.proofs.LineLaws.{line, after, lines_cons, lines_some}
use Rattle.rules_text.proofs.RowLaws.{Held}
use Rattle.rules_text.proofs.TableLaws.{row_there}
use Rattle.rules_text.proofs.UsedLaws.{Used, used_none, used_next}
use Rattle.rules_text.specs.declared.Row as source
use Rattle.text_blocks.specs.Blocks.{pairs_to}

pairs_none : (r : ℕ) (t : List ℕ) → if_suits (has_id r) (row 3 (line t)) ≡ None → pairs r (lines t) ≡ []
unfolding pairs run
pairs_none r [] e = refl
pairs_none r (b ∷ u) e = rw (lines_cons b u, e) refl

pairs_more : (r : ℕ) (t : List ℕ) (x : Row) → if_suits (has_id r) (row 3 (line t)) ≡ Some x → pairs r (lines t) ≡ x ∷ pairs r (lines (after t))
unfolding pairs run
pairs_more r t x e = rw (lines_some t (row_there (has_id r) 2 x t e), e) refl

pairs_empty : (n : ℕ) → pairs_to n [] ≡ []
unfolding pairs_to
pairs_empty zero = refl
pairs_empty (suc n) = refl

-- ---- a pair more
-- line k of those whose values begin at a cell
abbrev pub put_pair_at : ℕ → ℕ → List ℤ → ℤ → ℤ → List ℤ
put_pair_at base k l x y = cond (ltb k 11) (set (set l (base + 2 * k) x) (base + 2 * k + 1) y) l

put_length : (b : Bool) (l : List ℤ) (i j : ℕ) (x y : ℤ) → length (cond b (set (set l i x) j y) l) ≡ length l
put_length true l i j x y = length-set (set l i x) j y ∙ length-set l i x
put_length false l i j x y = refl

pair_put : (base k : ℕ) (l : List ℤ) (x : Row) (xs : List Row)
    → sets (put_pair_at base k l (cell 1 x) (cell 2 x)) (base + 2 * (k + 1)) (pairs_to (11 - (k + 1)) xs) ≡ sets l (base + 2 * k) (pairs_to (11 - k) (x ∷ xs))
unfolding pairs_to
pair_put base k l x xs = ⊎_elim past here (le_or_lt 11 k)
  where
    past : 11 ≤ k → sets (put_pair_at base k l (cell 1 x) (cell 2 x)) (base + 2 * (k + 1)) (pairs_to (11 - (k + 1)) xs) ≡ sets l (base + 2 * k) (pairs_to (11 - k) (x ∷ xs))
    past h =
        let a : 11 - k ≡ 0 = omega arith in
        let b : 11 - (k + 1) ≡ 0 = omega arith in
        ap (λ (n : ℕ). sets (put_pair_at base k l (cell 1 x) (cell 2 x)) (base + 2 * (k + 1)) (pairs_to n xs)) b
        ∙ ap (λ (t : Bool). cond t (set (set l (base + 2 * k) (cell 1 x)) (base + 2 * k + 1) (cell 2 x)) l) (le-ltb k 11 h)
        ∙ ap (λ (n : ℕ). sets l (base + 2 * k) (pairs_to n (x ∷ xs))) (sym a)

    here : k < 11 → sets (put_pair_at base k l (cell 1 x) (cell 2 x)) (base + 2 * (k + 1)) (pairs_to (11 - (k + 1)) xs) ≡ sets l (base + 2 * k) (pairs_to (11 - k) (x ∷ xs))
    here h =
        let n = 11 - (k + 1) in
        let p = base + 2 * k in
        let a : 11 - k ≡ suc n = omega arith in
        let b : base + 2 * (k + 1) ≡ suc (suc p) = omega arith in
        let d : p + 1 ≡ suc p = omega arith in
        ap (λ (t : Bool). sets (cond t (set (set l p (cell 1 x)) (p + 1) (cell 2 x)) l) (base + 2 * (k + 1)) (pairs_to n xs)) (lt-ltb k 11 h)
        ∙ ap (λ (i : ℕ). sets (set (set l p (cell 1 x)) (p + 1) (cell 2 x)) i (pairs_to n xs)) b
        ∙ ap (λ (i : ℕ). sets (set (set l p (cell 1 x)) i (cell 2 x)) (suc (suc p)) (pairs_to n xs)) d
        ∙ ap (λ (i : ℕ). sets l p (pairs_to i (x ∷ xs))) (sym a)

-- ---- the loop
-- k lines of resource r from offset `at` on are put in b from a cell on, and the next is at offset q
pub record Pairing (s : List ℕ) (at r : ℕ) (a : List ℤ) (base : ℕ) (b : List ℤ) (k q : ℕ) : Type 0 where
  pub counts : k + length (pairs r (lines (drop q s))) ≡ length (pairs r (lines (drop at s)))
  pub stores : sets b (base + 2 * k) (pairs_to (11 - k) (pairs r (lines (drop q s)))) ≡ sets a base (pairs_to 11 (pairs r (lines (drop at s))))
  pub long : length b ≡ length a
  pub used : Used s 0 at k q

pub pairing_start : (s : List ℕ) (at r : ℕ) (a : List ℤ) (base : ℕ) → Pairing s at r a base a 0 at
pairing_start s at r a base =
    let z : base + 2 * 0 ≡ base = omega arith in
    record { counts = omega arith; stores = ap (λ (i : ℕ). sets a i (pairs_to 11 (pairs r (lines (drop at s))))) z; long = refl; used = used_none s 0 at }

module _ (s : List ℕ) (at r : ℕ) (a : List ℤ) (base : ℕ) (b : List ℤ) (k q : ℕ) (h : Pairing s at r a base b k q) where
  -- the line is none of the resource
  pub record Ended : Type 0 where
    pub counts : k ≡ length (pairs r (lines (drop at s)))
    pub stores : b ≡ sets a base (pairs_to 11 (pairs r (lines (drop at s))))

  pub pairing_end : if_suits (has_id r) (row 3 (line (drop q s))) ≡ None → Ended
  pairing_end e =
      let y = pairs_none r (drop q s) e in
      let z : length (pairs r (lines (drop q s))) ≡ 0 = ap length y in
      let c = h.counts in
      record {
        counts = omega arith;
        stores = ap (sets b (base + 2 * k)) (sym (ap (pairs_to (11 - k)) y ∙ pairs_empty (11 - k))) ∙ h.stores;
      }

  -- it is one more
  pub record Turned (l : List ℤ) (p : ℕ) : Type 0 where
    pub again : Pairing s at r a base l (k + 1) p
    pub fewer : length (lines (drop p s)) < length (lines (drop q s))
    pub below : k < length (pairs r (lines (drop at s)))

  pub pairing_turn : (x : source.Row 3) → Held 3 (q + length (line (drop q s))) (if_suits (has_id r) (row 3 (line (drop q s)))) x
      → (l : List ℤ) → l ≡ put_pair_at base k b (get_or x.v 1 (pos 0)) (get_or x.v 2 (pos 0)) → Turned l x.next
  pairing_turn x t l el =
      let u : drop x.next s ≡ after (drop q s) = ap (λ (n : ℕ). drop n s) t.after ∙ sym (drop-drop (length (line (drop q s))) q s) in
      let y : pairs r (lines (drop q s)) ≡ t.x ∷ pairs r (lines (drop x.next s)) = pairs_more r (drop q s) t.x t.is ∙ ap (λ (w : List ℕ). t.x ∷ pairs r (lines w)) (sym u) in
      let z : lines (drop q s) ≡ line (drop q s) ∷ lines (drop x.next s) = lines_some (drop q s) (row_there (has_id r) 2 t.x (drop q s) t.is) ∙ ap (λ (w : List ℕ). line (drop q s) ∷ lines w) (sym u) in
      let yl = ap length y in
      let zl = ap length z in
      let hc = h.counts in
      let e : l ≡ put_pair_at base k b (cell 1 t.x) (cell 2 t.x) = el ∙ ap (λ (v : ℤ). put_pair_at base k b v (get_or x.v 2 (pos 0))) (t.cells 1 (omega arith)) ∙ ap (put_pair_at base k b (cell 1 t.x)) (t.cells 2 (omega arith)) in
      record {
        again = record {
          counts = omega arith;
          stores = ap (λ (m : List ℤ). sets m (base + 2 * (k + 1)) (pairs_to (11 - (k + 1)) (pairs r (lines (drop x.next s))))) e
              ∙ pair_put base k b t.x (pairs r (lines (drop x.next s)))
              ∙ ap (λ (m : List Row). sets b (base + 2 * k) (pairs_to (11 - k) m)) (sym y) ∙ h.stores;
          long = ap length e ∙ put_length (ltb k 11) b (base + 2 * k) (base + 2 * k + 1) (cell 1 t.x) (cell 2 t.x) ∙ h.long;
          used = used_next h.used t.after;
        };
        fewer = omega arith;
        below = omega arith;
      }
