-- Laws of short numbers, of ids compared as bytes, and of lines that begin with an id. Assumes nothing.
use Rattle.std.specs.Prelude.{None, Some, Option}
use Prim.Native.Nat.{ℕ, suc, ◌+◌, ◌-◌, ◌*◌, ◌/◌, ◌%◌, ◌^◌, ◌≤◌, ◌<◌}
use mathlib.Core.Path.{◌≡◌, refl, sym, ap, subst, ◌∙◌}
use mathlib.Core.List.{List, [], ◌∷◌, ◌++◌}
use mathlib.Core.Bool.{Bool, true, false, cond, ◌||◌}
use native.Mathlib.Omega.{arith}
use borrow.Author.Tests.{eq-eqb, ne_eqb, eqb-true, le-leb}
use lib.Dec.{eqb}
use lib.ListN.{length, drop, take, get_or}
use lib.Seq.{get_or-take, get_or-drop, drop-drop}
use lib.IntN.{ℤ, pos, neg_ℤ, ◌-ℤ◌, +ℤ_idl}
use mir.Syntax.{w64}
use mir.Val.{SFits, to_z}
use Rattle.rules_number.specs.Order.{eq_z}
use Rattle.rules_number.proofs.Kit.{rd}
use Rattle.rules_number.proofs.Meant.{Meant, const, cast, kept, fits, ◌⊖◌}
use Rattle.rules_number.proofs.OrderLaws.{eq_z_true, eq_z_same}
use Rattle.rules_text.specs.Numbers.{Row, is_digit, digit_count, value, formed, magnitude, plain, negated, number, put, row}
use Rattle.rules_text.specs.Tables.{if_suits, has_id}
use Rattle.rules_text.specs.Offsets.{shifted, number_at, closed_by, as_row, row_at, id_row_at}
use Rattle.rules_text.specs.Printing.{decimal}
use Rattle.rules_text.proofs.ListLaws.{at_cons, head_at, some_pair}
use Rattle.rules_text.proofs.NumberLaws.{Reads, reads_start, reads_stop, reads_more, take_few, mag_is, number_plain, number_minus}
use Rattle.rules_text.proofs.LineLaws.{line}
use Rattle.rules_text.proofs.RowLaws.{left, row_in, in_range_lem, stepped, missing}
use Rattle.rules_text.proofs.PrintLaws.{digits_one, digits_more}
use Rattle.rules_text.proofs.OnlySpelling.{Begins, number_iff}
use Rattle.text_bytes.specs.Shorts.{Short, Plain}

-- ---- a byte that is no digit
minus_first : (t : List ℕ) → get_or t 0 0 ≡ 45 → digit_count t ≡ 0
minus_first [] e = refl
minus_first (b ∷ t) e = ap (λ (x : ℕ). cond (is_digit x) (suc (digit_count t)) 0) e

space_first : (t : List ℕ) → get_or t 0 0 ≡ 32 → digit_count t ≡ 0
space_first [] e = refl
space_first (b ∷ t) e = ap (λ (x : ℕ). cond (is_digit x) (suc (digit_count t)) 0) e

-- ---- short numbers
closed_is : (s : List ℕ) (b at n : ℕ) (z : ℤ) → Some (z, n) ≡ number_at s at → get_or s n 0 ≡ b → Some (z, n + 1) ≡ closed_by s b (number_at s at)
closed_is s b at n z e c = sym (ap (λ (x : Bool). cond x (Some (z, n + 1)) None) (eq-eqb (get_or s n 0) b c)) ∙ ap (closed_by s b) e

or_true : (b : Bool) → (b || true) ≡ true
or_true true = refl
or_true false = refl

-- k digits, of which the first is no 0 unless it is the only one
formed_lead : (f k : ℕ) → 1 ≤ k → k ≤ 12 → (f ≡ 48 → k ≡ 1) → formed f k ≡ true
formed_lead f k a b n = go (eqb f 48) refl
  where
    go : (d : Bool) → eqb f 48 ≡ d → formed f k ≡ true
    go true e = simp (le-leb 1 k a, le-leb k 12 b, eq-eqb k 1 (n (eqb-true f 48 e)))
    go false e = simp (le-leb 1 k a, le-leb k 12 b, e) (or_true (eqb k 1))

-- k digits spell v, and the byte b closes them
module _ (s : List ℕ) (at v k : ℕ) (m : Some (v, k) ≡ magnitude (drop at s)) where
  natural_is : k ≡ digit_count (drop at s) → 1 ≤ k → (b : ℕ) → get_or s (at + k) 0 ≡ b → Some (pos v, at + k + 1) ≡ closed_by s b (number_at s at)
  unfolding number_at
  natural_is n has b c =
      let l = number_plain (drop at s) (λ e. let z = minus_first (drop at s) e in omega (arith, has)) in
      closed_is s b at (at + k) (pos v) (sym (ap (shifted at) (l ∙ ap plain (sym m)))) c

  negative_is : 1 ≤ v → (b : ℕ) → get_or s (at + k) 0 ≡ b → (p : ℕ) → at ≡ p + 1 → get_or s p 0 ≡ 45 → Some (neg_ℤ (pos v), at + k + 1) ≡ closed_by s b (number_at s p)
  unfolding number_at
  negative_is above b c p e i =
      let o = number_minus (drop p s) (sym (head_at 0 s p) ∙ i) in
      let u : magnitude (drop 1 (drop p s)) ≡ Some (v, k) = ap magnitude (drop-drop 1 p s ∙ ap (λ (j : ℕ). drop j s) (sym e)) ∙ sym m in
      let x : p + suc k ≡ at + k = omega arith in
      closed_is s b p (at + k) (neg_ℤ (pos v))
      (sym (ap (shifted p) (o ∙ ap negated u ∙ ap (λ (y : Bool). cond y None (Some (neg_ℤ (pos v), suc k))) (ne_eqb v 0 (λ j. omega (arith, above)))) ∙ ap (λ (j : ℕ). Some (neg_ℤ (pos v), j)) x)) c

module _ (s : List ℕ) (at end : ℕ) where
  -- k digits have been read, of which the first is no 0 unless it is the only one, and spell v
  pub record Run (v k : ℕ) : Type 0 where
    pub reads : Reads s at end v k
    pub some : 1 ≤ k
    pub lead : get_or s at 0 ≡ 48 → (k ≡ 1) × (v ≡ 0)

  module _ (room : at + end ≤ length s) (few : end ≤ 12) where
    pub run_first : (d : ℕ) → 0 < end → (d + 48) % 2 ^ 64 ≡ get_or s at 0 → d ≤ 9 → Run d 1
    run_first d has e h =
        let z : at + 0 ≡ at = omega arith in
        let f : get_or s (at + 0) 0 ≡ get_or s at 0 = ap (λ (i : ℕ). get_or s i 0) z in
        let m : 0 * 10 + d ≡ d = omega arith in
        record {
          reads = subst (λ (x : ℕ). Reads s at end x 1) m (reads_more s at end room 0 0 (reads_start s at end) d (omega arith) (omega arith) (omega arith));
          some = omega arith;
          lead = λ l. (refl, omega arith);
        }

    module _ (v k : ℕ) (r : Run v k) (d : ℕ) (here : k < end) (wraps : (d + 48) % 2 ^ 64 ≡ get_or s (at + k) 0) where
      pub run_more : (v ≡ 0 → ⊥) → d ≤ 9 → Run (v * 10 + d) (k + 1)
      run_more above h = record {
        reads = reads_more s at end room v k r.reads d here wraps h;
        some = omega arith;
        lead = λ l. absurd (above (r.lead l).1);
      }

      spells : d < 2 ^ 64 → 9 < d → (Some (v, k) ≡ magnitude (drop at s)) × (k ≡ digit_count (drop at s))
      spells f h =
          let t = drop at s in
          let q = reads_stop s at end room v k r.reads d here wraps f h in
          let w = take_few end 0 t (omega (arith, q.1)) in
          let n : k ≡ digit_count t = q.1 ∙ w.0 in (
            ap (λ (x : ℕ). Some (x, k)) (q.0 ∙ w.1) ∙ ap (λ (j : ℕ). Some (value 0 t, j)) n
                ∙ sym (mag_is t (ap (λ (x : ℕ). formed x (digit_count t)) (sym (head_at 0 s at)) ∙ ap (formed (get_or s at 0)) (sym n) ∙ formed_lead (get_or s at 0) k r.some (omega arith) (λ l. (r.lead l).0))),
            n,
          )

      pub plain_is : d < 2 ^ 64 → 9 < d → (b : ℕ) → get_or s (at + k) 0 ≡ b → Plain s at b v (at + k + 1)
      plain_is f h b c = let m = spells f h in record { natural = natural_is s at v k m.0 m.1 r.some b c; negative = λ above. negative_is s at v k m.0 (omega (arith, above)) b c }

-- a number that is no 0
pub short_is : (s : List ℕ) (at b v n : ℕ) → 1 ≤ v → Plain s at b v n → Short s at b v n
short_is s at b v n h p = record { natural = p.natural; negative = p.negative (λ e. omega arith) }

-- a digit that byte 10 closes
pub digit_is : (s : List ℕ) (p d : ℕ) → p + 2 ≤ length s → (d + 48) % 2 ^ 64 ≡ get_or s p 0 → d ≤ 9 → get_or s (p + 1) 0 ≡ 10 → Some (pos d, p + 2) ≡ closed_by s 10 (number_at s p)
digit_is s p d room e h c =
    let next : p + 1 + 1 ≡ p + 2 = omega arith in
    let r = run_first s p 2 room (omega arith) d (omega arith) e h in
    ap (λ (j : ℕ). Some (pos d, j)) (sym next)
    ∙ (plain_is s p 2 room (omega arith) d 1 r (2 ^ 64 - 38) (omega arith) (omega arith) (omega arith) (omega arith) 10 c).natural

-- ---- what digits spell, as a signed number
abbrev spelt : (v : ℕ) → v < 10 ^ 12 → Meant
spelt v h = cast {n = v} {A = 1000000000000} (omega arith) tt

abbrev away : (v : ℕ) → v < 10 ^ 12 → Meant
away v h = const 0 ⊖ spelt v h

pub plus_is : {v : ℕ} → v < 10 ^ 12 → to_z w64 v ≡ pos v
plus_is {v} h = (spelt v h).same

pub minus_fits : {v : ℕ} → v < 10 ^ 12 → SFits w64 (pos 0 -ℤ to_z w64 v)
minus_fits {v} h = fits (away v h) tt

pub minus_is : {v : ℕ} → v < 10 ^ 12 → rd (pos 0 -ℤ to_z w64 v) ≡ neg_ℤ (pos v)
minus_is {v} h = (kept (away v h) tt).same ∙ +ℤ_idl (neg_ℤ (pos v))

-- where it stands
pub stands_as : {x z : ℤ} {n : ℕ} {y : Option (ℤ × ℕ)} → x ≡ z → Some (z, n) ≡ y → Some (x, n) ≡ y
stands_as {x} {z} {n} e i = ap (λ (w : ℤ). Some (w, n)) e ∙ i

-- ---- the id n, of which the text has the decimal d
module _ (s : List ℕ) (at n : ℕ) (d : List ℕ) (spelled : decimal (pos n) ≡ d) where
  id_closed : n < 10 ^ 12 → take (length d) (drop at s) ≡ d → get_or s (at + length d) 0 ≡ 32 → Some (pos n, at + length d + 1) ≡ closed_by s 32 (number_at s at)
  unfolding number_at
  id_closed small is c =
      let t = drop at s in
      let k = length d in
      let b : Begins t (pos n) k = record {
        is = is ∙ sym spelled;
        count = ap length (sym spelled);
        small = small;
        stop = space_first (drop k t) (sym (head_at 0 t k) ∙ get_or-drop at s k 0 ∙ c);
      } in
      closed_is s 32 at (at + k) (pos n) (sym (ap (shifted at) ((number_iff t (pos n) k).1 b))) c

  bytes_by : (q : ℕ) (y : ℤ) (k : ℕ) → number (drop at s) ≡ Some (y, k) → (e : Bool) → eqb (get_or s (at + k) 0) 32 ≡ e → ◌≡◌ {A = Option (ℤ × ℕ)} (Some (pos n, q)) (cond e (Some (y, at + k + 1)) None)
      → (take (length d) (drop at s) ≡ d) × (get_or s (at + length d) 0 ≡ 32)
  bytes_by q y k e true c h =
      let z : y ≡ pos n = sym (some_pair h).0 in
      let b = (number_iff (drop at s) (pos n) k).0 (e ∙ ap (λ (x : ℤ). Some (x, k)) z) in
      let m : k ≡ length d = b.count ∙ ap length spelled in
      (ap (λ (i : ℕ). take i (drop at s)) (sym m) ∙ b.is ∙ spelled, ap (λ (i : ℕ). get_or s (at + i) 0) (sym m) ∙ eqb-true (get_or s (at + k) 0) 32 c)
  bytes_by q y k e false c h = let o : ◌≡◌ {A = ℕ} 0 1 = cc in absurd (omega arith)

  bytes_of : (q : ℕ) (x : Option (ℤ × ℕ)) → number (drop at s) ≡ x → Some (pos n, q) ≡ closed_by s 32 (shifted at x) → (take (length d) (drop at s) ≡ d) × (get_or s (at + length d) 0 ≡ 32)
  bytes_of q None e h = let o : ◌≡◌ {A = ℕ} 0 1 = cc in absurd (omega arith)
  bytes_of q (Some (y, k)) e h = bytes_by q y k e (eqb (get_or s (at + k) 0) 32) refl h

  id_bytes : (q : ℕ) → Some (pos n, q) ≡ closed_by s 32 (number_at s at) → (take (length d) (drop at s) ≡ d) × (get_or s (at + length d) 0 ≡ 32)
  unfolding number_at
  id_bytes q h = bytes_of q (number (drop at s)) refl h

  byte_of : (i : ℕ) → i < length d → take (length d) (drop at s) ≡ d → get_or s (at + i) 0 ≡ get_or d i 0
  byte_of i h e = sym (get_or-drop at s i 0) ∙ sym (get_or-take (length d) (drop at s) i 0 h) ∙ ap (λ (l : List ℕ). get_or l i 0) e

one_digit : (n : ℕ) → n < 10 → decimal (pos n) ≡ (48 + n) ∷ []
unfolding decimal
one_digit n h = digits_one 18 n h

two_digits : (n : ℕ) → 10 ≤ n → n < 100 → decimal (pos n) ≡ (48 + n / 10) ∷ (48 + n % 10) ∷ []
unfolding decimal
two_digits n h g = digits_more 18 n h ∙ ap (λ (l : List ℕ). l ++ ((48 + n % 10) ∷ [])) (digits_one 17 (n / 10) (omega arith))

module _ (s : List ℕ) (at n : ℕ) (room : at + 3 ≤ length s) where
  pub one_same : (q : ℕ) → q ≡ at + 2 → n < 10 → get_or s at 0 ≡ 48 + n → get_or s (at + 1) 0 ≡ 32 → Some (pos n, q) ≡ closed_by s 32 (number_at s at)
  one_same q e h a b =
      let w : q ≡ at + 1 + 1 = omega arith in
      ap (λ (j : ℕ). Some (pos n, j)) w
      ∙ id_closed s at n ((48 + n) ∷ []) (one_digit n h) (omega arith) (ap (take 1) (at_cons 0 s at (omega arith)) ∙ ap (λ (x : ℕ). x ∷ []) a) b

  pub two_same : (q : ℕ) → q ≡ at + 3 → 10 ≤ n → n < 100 → get_or s at 0 ≡ 48 + n / 10 → get_or s (at + 1) 0 ≡ 48 + n % 10 → get_or s (at + 2) 0 ≡ 32
      → Some (pos n, q) ≡ closed_by s 32 (number_at s at)
  two_same q e h g a b c =
      let w : q ≡ at + 2 + 1 = omega arith in
      let v : drop at s ≡ get_or s at 0 ∷ get_or s (at + 1) 0 ∷ drop (at + 1 + 1) s = at_cons 0 s at (omega arith) ∙ ap (λ (l : List ℕ). get_or s at 0 ∷ l) (at_cons 0 s (at + 1) (omega arith)) in
      ap (λ (j : ℕ). Some (pos n, j)) w
      ∙ id_closed s at n ((48 + n / 10) ∷ (48 + n % 10) ∷ []) (two_digits n h g) (omega arith)
      (ap (take 2) v ∙ ap (λ (x : ℕ). x ∷ get_or s (at + 1) 0 ∷ []) a ∙ ap (λ (x : ℕ). (48 + n / 10) ∷ x ∷ []) b) c

module _ (s : List ℕ) (at n q : ℕ) (is : Some (pos n, q) ≡ closed_by s 32 (number_at s at)) where
  pub one_bytes : n < 10 → (get_or s at 0 ≡ 48 + n) × (get_or s (at + 1) 0 ≡ 32)
  one_bytes h =
      let d = one_digit n h in
      let b = id_bytes s at n ((48 + n) ∷ []) d q is in
      (head_at 0 s at ∙ sym (get_or-take 1 (drop at s) 0 0 (omega arith)) ∙ ap (λ (l : List ℕ). get_or l 0 0) b.0, b.1)

  pub two_bytes : 10 ≤ n → n < 100 → (get_or s at 0 ≡ 48 + n / 10) × (get_or s (at + 1) 0 ≡ 48 + n % 10) × (get_or s (at + 2) 0 ≡ 32)
  two_bytes h g =
      let d = two_digits n h g in
      let l = (48 + n / 10) ∷ (48 + n % 10) ∷ [] in
      let b = id_bytes s at n l d q is in
      (head_at 0 s at ∙ sym (get_or-take 2 (drop at s) 0 0 (omega arith)) ∙ ap (λ (l : List ℕ). get_or l 0 0) b.0, byte_of s at n l d 1 (omega arith) b.0, b.1)

-- the line's first value is the id n, or is not
module _ (s : List ℕ) (at n : ℕ) where
  same_by : (o : Option Row) → put (pos n) o ≡ if_suits (has_id n) (put (pos n) o)
  same_by None = refl
  same_by (Some zs) = sym (ap (λ (b : Bool). cond b (Some (pos n ∷ zs)) None) (eq_z_same (pos n)))

  pub id_same : (p : ℕ) → Some (pos n, p) ≡ closed_by s 32 (number_at s at) → row_at 3 s at 3 ≡ id_row_at 3 n s at
  id_same p e =
      let v = (stepped s at 2 (pos n) p e).value in
      let o = row 2 (left 2 (drop p s)) in
      row_in 3 (λ o. o) s at 3 refl
      ∙ ap (as_row 3 (at + length (line (drop at s)))) (v ∙ same_by o ∙ ap (if_suits (has_id n)) (sym v)) ∙ sym (row_in 3 (if_suits (has_id n)) s at 3 refl)

  other_put : (z : ℤ) (o : Option Row) → eq_z (pos n) z ≡ false → if_suits (has_id n) (put z o) ≡ None
  other_put z None h = refl
  other_put z (Some zs) h = ap (λ (b : Bool). cond b (Some (z ∷ zs)) None) h

  -- in a line of any more values
  other_by : (k : ℕ) → ((q : ℕ) → Some (pos n, q) ≡ closed_by s 32 (number_at s at) → ⊥) → (x : Option (ℤ × ℕ)) → closed_by s 32 (number_at s at) ≡ x
      → if_suits (has_id n) (row (suc (suc k)) (line (drop at s))) ≡ None
  other_by k h None e = ap (if_suits (has_id n)) (missing s at (suc k) (sym e))
  other_by k h (Some (z, q)) e = ap (if_suits (has_id n)) (stepped s at (suc k) z q (sym e)).value ∙ other_put z (row (suc k) (left (suc k) (drop q s))) (go (eq_z (pos n) z) refl)
    where
      go : (b : Bool) → eq_z (pos n) z ≡ b → b ≡ false
      go true f = absurd (h q (ap (λ (w : ℤ). Some (w, q)) (eq_z_true (pos n) z f) ∙ sym e))
      go false f = refl

  pub id_other : (k : ℕ) → k ≤ 6 → ((q : ℕ) → Some (pos n, q) ≡ closed_by s 32 (number_at s at) → ⊥) → None ≡ id_row_at (suc (suc k)) n s at
  id_other k short h =
      sym (row_in (suc (suc k)) (if_suits (has_id n)) s at (suc (suc k)) (in_range_lem (suc (suc k)) (omega arith) (omega arith))
      ∙ ap (as_row (suc (suc k)) (at + length (line (drop at s)))) (other_by k h (closed_by s 32 (number_at s at)) refl))
