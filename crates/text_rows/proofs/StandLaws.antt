-- Laws of values that stand in turn: a line of them is a row, and one that lacks a value is none. Assumes nothing.
use Rattle.std.specs.Prelude.{None, Some, Option}
use Rattle.std.proofs.Common.{◌≡◌, ℕ, suc, ◌+◌, ◌-◌, ◌*◌, ◌<◌, ◌≤◌, Bool, true, false, cond, eqb, List, [], ◌∷◌, ◌++◌, length, get_or, take, drop, set, replicate, ℤ, pos, neg_ℤ, sym, refl, ap, ◌∙◌, subst, append-nil, add-one, arith, length-append, length-set, take-suc-set, eq-eqb, ne_eqb, eqb-true}
use lib.ListN.{length-replicate, drop_of_length-le}
use Rattle.rules_text.proofs.ListLaws.{some_pair}
use lib.Seq.{sets-eq}
use Rattle.rules_number.proofs.OrderLaws.{eq_z_same}
use Rattle.rules_text.specs.declared.Row as source
use Rattle.rules_text.specs.Numbers.{closing, put, row}
use Rattle.rules_text.specs.Tables.{if_suits, has_id}
use Rattle.rules_text.specs.Offsets.{number_at, closed_by, kept, as_row, row_at, id_row_at}
use Rattle.rules_text.proofs.LineLaws.{line}
use Rattle.rules_text.proofs.RowLaws.{left, row_in, in_range_lem, stepped, rowing_start, rowing_more, rowing_missing, rowing_done, row_some, row_none}
use Rattle.text_bytes.specs.Shorts.{Plain}
use Rattle.text_rows.specs.Rows.{Stand}

-- ---- a value more at the end
pub stand_more : (s : List ℕ) (m at p n : ℕ) (zs : List ℤ) (z : ℤ) → Stand s (suc m) at zs p → Some (z, n) ≡ closed_by s (closing m) (number_at s p) → Stand s m at (zs ++ z ∷ []) n
stand_more s m at p n [] z e i =
    let k : 0 + m ≡ m = omega arith in
    (n, i ∙ ap (λ (j : ℕ). closed_by s (closing m) (number_at s j)) (sym e) ∙ ap (λ (j : ℕ). closed_by s (closing j) (number_at s at)) (sym k), refl)
stand_more s m at p n (y ∷ zs) z (q, e, more) i =
    let k : length zs + suc m ≡ length (zs ++ z ∷ []) + m = omega (arith, length-append zs (z ∷ [])) in
    (q, e ∙ ap (λ (j : ℕ). closed_by s (closing j) (number_at s at)) k, stand_more s m q p n zs z more i)

-- ---- a line is its first value and the line of the others
stands : (s : List ℕ) (at n : ℕ) (zs : List ℤ) → Stand s 0 at zs n → (row (length zs) (left (length zs) (drop at s)) ≡ Some zs) × (n ≡ at + length (left (length zs) (drop at s)))
unfolding row
stands s at n [] e = (refl, omega arith)
stands s at n (z ∷ zs) (p, e, more) =
    let k : length zs + 0 ≡ length zs = omega arith in
    let t = stepped s at (length zs) z p (e ∙ ap (λ (j : ℕ). closed_by s (closing j) (number_at s at)) k) in
    let r = stands s p n zs more in
    (t.value ∙ ap (put z) r.0, omega (arith, t.end, r.1))

-- ---- a line of the id n and others
kept_all : (m : ℕ) (xs : List ℤ) → length xs ≡ m → kept m (pos 0) xs ≡ xs
unfolding kept
kept_all m xs e =
    let h : length (replicate m (pos 0)) ≤ 0 + length xs = omega (arith, length-replicate m (pos 0)) in
    sets-eq xs (replicate m (pos 0)) 0 (omega (arith, length-replicate m (pos 0)))
    ∙ ap (λ (l : List ℤ). xs ++ l) (drop_of_length-le (replicate m (pos 0)) h) ∙ append-nil xs

module _ (n : ℕ) (s : List ℕ) (at : ℕ) where
  line_is : (zs : List ℤ) (q : ℕ) → length zs ≤ 7 → Stand s 0 at (pos n ∷ zs) q
      → ◌≡◌ {A = Option (source.Row (suc (length zs)))} (Some (record { v = pos n ∷ zs; next = q })) (id_row_at (suc (length zs)) n s at)
  line_is zs q h e =
      let m = suc (length zs) in
      let xs = pos n ∷ zs in
      let r = stands s at q xs e in
      ap (λ (l : List ℤ). Some (record { v = l; next = q })) (sym (kept_all m xs refl)) ∙ ap (λ (i : ℕ). as_row m i (Some xs)) r.1
      ∙ sym (row_in m (if_suits (has_id n)) s at m (in_range_lem m (omega arith) (omega arith))
      ∙ ap (λ o. as_row m (at + length (line (drop at s))) (if_suits (has_id n) o)) r.0
      ∙ ap (λ (b : Bool). as_row m (at + length (line (drop at s))) (cond b (Some xs) None)) (eq_z_same (pos n)))

  -- as a call hands it back
  pub row_is : (zs : List ℤ) (q : ℕ) → length zs ≤ 7 → Stand s 0 at (pos n ∷ zs) q → (v : List ℤ) → v ≡ pos n ∷ zs
      → ◌≡◌ {A = Option (source.Row (suc (length zs)))} (Some (record { v = v; next = q })) (id_row_at (suc (length zs)) n s at)
  row_is zs q h e v i = ap (λ (l : List ℤ). Some (record { v = l; next = q })) i ∙ line_is zs q h e

-- ---- a line of a value alone
module _ (s : List ℕ) (at : ℕ) where
  pub single_is : (x z : ℤ) (q : ℕ) → x ≡ z → Some (z, q) ≡ closed_by s 10 (number_at s at) → ◌≡◌ {A = Option (source.Row 1)} (Some (record { v = x ∷ []; next = q })) (row_at 1 s at 1)
  single_is x z q i e =
      let r = rowing_done 1 s at 1 (z ∷ []) q 1 (rowing_more 1 s at 1 (replicate 1 (pos 0)) at 0 (rowing_start 1 s at 1 (omega arith)) (omega arith) z q e) (omega arith) in
      ap (λ (y : ℤ). Some (record { v = y ∷ []; next = q })) i ∙ row_some 1 s at 1 refl (z ∷ []) q r.values r.end

  pub single_lacks : None ≡ closed_by s 10 (number_at s at) → None ≡ row_at 1 s at 1
  single_lacks e = row_none 1 s at 1 refl (rowing_missing 1 s at 1 (replicate 1 (pos 0)) at 0 (rowing_start 1 s at 1 (omega arith)) (omega arith) e)

-- ---- values put in turn after the first of eight: i stand in v, and p is past them
pub record Filling (s : List ℕ) (at : ℕ) (before v : List ℤ) (p i : ℕ) : Type 0 where
  pub some : 1 ≤ i
  pub within : i ≤ 8
  pub near : p + 8 ≤ at + 8 * i
  pub long : length v ≡ 8
  pub stand : (q : ℕ) → Stand s 7 q (take 1 before) at → Stand s (8 - i) q (take i v) p

module _ (s : List ℕ) (at : ℕ) (before : List ℤ) where
  module _ (v : List ℤ) (p i : ℕ) (r : Filling s at before v p i) where
    pub filling_more : i < 8 → (z : ℤ) (n : ℕ) → Some (z, n) ≡ closed_by s (closing (7 - i)) (number_at s p) → n ≤ p + 8 → Filling s at before (set v i z) n (i + 1)
    filling_more here z n e h =
        let k : 8 - i ≡ suc (7 - i) = omega arith in
        let m : 7 - i ≡ 8 - (i + 1) = omega arith in
        let t : take i v ++ z ∷ [] ≡ take (i + 1) (set v i z) = sym (ap (λ (j : ℕ). take j (set v i z)) (add-one i) ∙ take-suc-set v i z (omega (arith, r.long))) in
        record {
          some = omega arith;
          within = omega arith;
          near = omega (arith, r.near);
          long = length-set v i z ∙ r.long;
          stand = λ q w.
              subst (λ (l : List ℤ). Stand s (8 - (i + 1)) q l n) t
              (subst (λ (j : ℕ). Stand s j q (take i v ++ z ∷ []) n) m
              (stand_more s (7 - i) q p n (take i v) z (subst (λ (j : ℕ). Stand s j q (take i v) p) k (r.stand q w)) e));
        }

-- ---- a sign, and the number after it
pub signed_is : (s : List ℕ) (p w b v n : ℕ) → w ≡ cond (eqb (get_or s p 0) 45) 1 0 → (v ≡ 0 → w ≡ 0) → Plain s (p + w) b v n
    → Some (cond (eqb w 0) (pos v) (neg_ℤ (pos v)), n) ≡ closed_by s b (number_at s p)
signed_is s p w b v n e z f = go (eqb (get_or s p 0) 45) refl
  where
    go : (d : Bool) → eqb (get_or s p 0) 45 ≡ d → Some (cond (eqb w 0) (pos v) (neg_ℤ (pos v)), n) ≡ closed_by s b (number_at s p)
    go true i =
        let one : w ≡ 1 = e ∙ ap (λ (d : Bool). cond d 1 0) i in
        ap (λ (d : Bool). Some (cond d (pos v) (neg_ℤ (pos v)), n)) (ne_eqb w 0 (λ h. omega arith))
        ∙ f.negative (λ h. omega (arith, z h)) p (omega arith) (eqb-true (get_or s p 0) 45 i)
    go false i =
        let none : w ≡ 0 = e ∙ ap (λ (d : Bool). cond d 1 0) i in
        let here : p + w ≡ p = omega arith in
        ap (λ (d : Bool). Some (cond d (pos v) (neg_ℤ (pos v)), n)) (eq-eqb w 0 none) ∙ f.natural ∙ ap (λ (j : ℕ). closed_by s b (number_at s j)) here

-- ---- eight values, of which the first is the id
pub eight_is : (n : ℕ) (s : List ℕ) (at p : ℕ) → Some (pos n, p) ≡ closed_by s 32 (number_at s at) → (v : List ℤ) (q : ℕ) → length v ≡ 8 → Stand s 0 at v q
    → ◌≡◌ {A = Option (source.Row 8)} (Some (record { v = v; next = q })) (id_row_at 8 n s at)
eight_is n s at p e [] q l w = absurd (omega arith)
eight_is n s at p e (z ∷ zs) q l (r, f, more) =
    let k : length zs + 0 ≡ 7 = omega arith in
    let g : Some (z, r) ≡ closed_by s 32 (number_at s at) = f ∙ ap (λ (j : ℕ). closed_by s (closing j) (number_at s at)) k in
    let i : z ≡ pos n = (some_pair (g ∙ sym e)).0 in
    let w : Stand s 0 at (pos n ∷ zs) q = subst (λ (y : ℤ). Stand s 0 at (y ∷ zs) q) i (r, f, more) in
    subst (λ (m : ℕ). ◌≡◌ {A = Option (source.Row m)} (Some (record { v = z ∷ zs; next = q })) (id_row_at m n s at)) l
    (row_is n s at zs q (omega arith) w (z ∷ zs) (ap (λ (y : ℤ). y ∷ zs) i))
