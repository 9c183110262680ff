-- Only what would be printed is read: a number has one spelling, and a row one line. Assumes nothing.
use Rattle.std.specs.Prelude.{Some, None, Option}
use Prim.Native.Nat.{ℕ, zero, suc, ◌+◌, ◌-◌, ◌*◌, ◌/◌, ◌%◌, ◌<◌, ◌≤◌}
use mathlib.Core.Path.{◌≡◌, refl, sym, ap, subst, ◌∙◌}
use mathlib.Core.List.{List, [], ◌∷◌, ◌++◌, append_assoc, append-nil}
use mathlib.Core.Bool.{Bool, true, false, cond, not, ◌&&◌, ◌||◌}
use mathlib.Core.Logic.{⊎_elim, ◌↔◌}
use native.Mathlib.Omega.{arith}
use native.Mathlib.Nat.{add-zero, eq-zero-or-pos}
use borrow.Author.Tests.{leb-true, eqb-true}
use lib.Dec.{eqb, leb}
use Rattle.std.proofs.lemmas.Option.{none-some}
use lib.ListN.{length, drop, take, get_or, take-append-drop}
use lib.Seq.{drop-cons, length-take-le}
use lib.IntN.{ℤ, pos, negsuc, neg_ℤ}
use Rattle.rules_number.proofs.OverLaws.{never, both}
use Rattle.rules_text.specs.Numbers.{Line, Row, is_digit, digit_count, value, formed, magnitude, plain, negated, number, closing, put, field, row}
use Rattle.rules_text.proofs.ListLaws.{byte_there, some_pair}
use Rattle.rules_text.proofs.LineLaws.{plain_end, negated_end}
use Rattle.rules_text.proofs.NumberLaws.{value_none, formed_within, mag_parts, spelt}
use Rattle.rules_text.proofs.RowLaws.{closing_some}
use Rattle.rules_text.specs.Printing.{digits, decimal, line_text}
use Rattle.rules_text.proofs.PrintLaws.{digits_one, digits_more}
use Rattle.rules_text.proofs.RoundTrip.{number_back}
use Rattle.rules_text.specs.Spelled.{Every, no_more, and_all, Small}
use Rattle.rules_text.proofs.ReaderLaws.{row_every}

-- ---- digits, from the left
module _ (b m : ℕ) (digit : is_digit b ≡ true) where
  range : (48 ≤ b) × (b ≤ 57)
  range = let p = both (leb 48 b) (leb b 57) digit in (leb-true 48 b p.0, leb-true b 57 p.1)

  one_more : (f : ℕ) → 1 ≤ m → digits (suc f) (m * 10 + (b - 48)) ≡ digits f m ++ (b ∷ [])
  one_more f h =
      let r = range in
      let d : (m * 10 + (b - 48)) / 10 ≡ m = omega (arith, r.0, r.1) in
      let c : 48 + (m * 10 + (b - 48)) % 10 ≡ b = omega (arith, r.0, r.1) in
      digits_more f (m * 10 + (b - 48)) (omega arith) ∙ ap (λ (x : ℕ). digits f x ++ ((48 + (m * 10 + (b - 48)) % 10) ∷ [])) d ∙ ap (λ (x : ℕ). digits f m ++ (x ∷ [])) c

more_by : (f m b : ℕ) (t : List ℕ) (d : Bool) → is_digit b ≡ d → 1 ≤ m
    → (digits (suc f + digit_count t) (value (m * 10 + (b - 48)) t) ≡ digits (suc f) (m * 10 + (b - 48)) ++ take (digit_count t) t)
    → digits (f + cond d (suc (digit_count t)) 0) (cond d (value (m * 10 + (b - 48)) t) m) ≡ digits f m ++ take (cond d (suc (digit_count t)) 0) (b ∷ t)
more_by f m b t true e h ih =
    let k : f + suc (digit_count t) ≡ suc f + digit_count t = omega arith in
    ap (λ (n : ℕ). digits n (value (m * 10 + (b - 48)) t)) k ∙ ih ∙ ap (λ (l : List ℕ). l ++ take (digit_count t) t) (one_more b m e f h)
    ∙ append_assoc (digits f m) (b ∷ []) (take (digit_count t) t)
more_by f m b t false e h ih = ap (λ (n : ℕ). digits n m) (add-zero f) ∙ sym (append-nil (digits f m))

more : (t : List ℕ) (f m : ℕ) → 1 ≤ m → digits (f + digit_count t) (value m t) ≡ digits f m ++ take (digit_count t) t
more [] f m h = ap (λ (n : ℕ). digits n m) (add-zero f) ∙ sym (append-nil (digits f m))
more (b ∷ t) f m h = more_by f m b t (is_digit b) refl h (more t (suc f) (m * 10 + (b - 48)) (omega arith))

-- the first digit is a 0 alone, or no 0
alone : (f k : ℕ) → formed f k ≡ true → f ≡ 48 → k ≡ 1
alone f k e z = eqb-true k 1 (only (eqb k 1) (ap (λ (x : ℕ). eqb k 1 || not (eqb x 48)) (sym z) ∙ (both (leb 1 k && leb k 12) (eqb k 1 || not (eqb f 48)) e).1))
  where
    only : (x : Bool) → (x || not (eqb 48 48)) ≡ true → x ≡ true
    only true h = refl
    only false h = never h

first_by : (b : ℕ) (t : List ℕ) (d : Bool) → is_digit b ≡ d → formed b (cond d (suc (digit_count t)) 0) ≡ true
    → take (cond d (suc (digit_count t)) 0) (b ∷ t) ≡ digits 19 (cond d (value (0 * 10 + (b - 48)) t) 0)
first_by b t false e h = never h
first_by b t true e h = ⊎_elim zeroed some' (eq-zero-or-pos (b - 48))
  where
    r : (48 ≤ b) × (b ≤ 57)
    r = range b 0 e

    w : (1 ≤ suc (digit_count t)) × (suc (digit_count t) ≤ 12)
    w = formed_within b (suc (digit_count t)) h

    m : 0 * 10 + (b - 48) ≡ b - 48
    m = omega arith

    zeroed : b - 48 ≡ 0 → b ∷ take (digit_count t) t ≡ digits 19 (value (0 * 10 + (b - 48)) t)
    zeroed z =
        let q : b ≡ 48 = omega (arith, r.0) in
        let c : digit_count t ≡ 0 = let o = alone b (suc (digit_count t)) h q in omega arith in
        ap (λ (n : ℕ). b ∷ take n t) c ∙ ap (λ (x : ℕ). x ∷ []) q ∙ sym (ap (digits 19) (ap (λ (n : ℕ). value n t) (m ∙ z) ∙ value_none 0 t c) ∙ digits_one 18 0 (omega arith))

    some' : 0 < b - 48 → b ∷ take (digit_count t) t ≡ digits 19 (value (0 * 10 + (b - 48)) t)
    some' p =
        let k : 19 ≡ suc (18 - digit_count t) + digit_count t = omega (arith, w.1) in
        let q : 48 + (b - 48) ≡ b = omega (arith, r.0) in
        sym (ap (λ (n : ℕ). digits 19 (value n t)) m ∙ ap (λ (n : ℕ). digits n (value (b - 48) t)) k ∙ more t (suc (18 - digit_count t)) (b - 48) p
        ∙ ap (λ (l : List ℕ). l ++ take (digit_count t) t) (digits_one (18 - digit_count t) (b - 48) (omega (arith, r.1)) ∙ ap (λ (x : ℕ). x ∷ []) q))

formed_first : (t : List ℕ) → formed (get_or t 0 0) (digit_count t) ≡ true → take (digit_count t) t ≡ digits 19 (value 0 t)
formed_first [] e = never e
formed_first (b ∷ t) e = first_by b t (is_digit b) refl e

digits_only : (t : List ℕ) (v k : ℕ) → Some (v, k) ≡ magnitude t → take k t ≡ digits 19 v
digits_only t v k m = let p = mag_parts t v k m in ap (λ (n : ℕ). take n t) (sym p.2) ∙ formed_first t p.0 ∙ ap (digits 19) p.1

-- ---- numbers
-- a text begins with the only spelling of z, of k bytes
pub record Spelling (t : List ℕ) (z : ℤ) (k : ℕ) : Type 0 where
  pub is : take k t ≡ decimal z
  pub small : Small z

plain_only : (t : List ℕ) (z : ℤ) (k : ℕ) (m : Option (ℕ × ℕ)) → m ≡ magnitude t → plain m ≡ Some (z, k) → Spelling t z k
unfolding decimal
plain_only t z k None e h = absurd (none-some (z, k) h)
plain_only t z k (Some (v, n)) e h =
    let p : pos v ≡ z = (some_pair h).0 in
    let q : n ≡ k = (some_pair h).1 in
    subst (Spelling t z) q (subst (λ (x : ℤ). Spelling t x n) p (record { is = digits_only t v n e; small = (spelt t v n e).small }))

minus_by : (b : ℕ) (t : List ℕ) (z : ℤ) (k v n : ℕ) (d : Bool) → b ≡ 45 → Some (v, n) ≡ magnitude t → eqb v 0 ≡ d → ◌≡◌ {A = Option (ℤ × ℕ)} (cond d None (Some (neg_ℤ (pos v), suc n))) (Some (z, k)) → Spelling (b ∷ t) z k
unfolding decimal
minus_by b t z k v n true w e f h = absurd (none-some (z, k) h)
minus_by b t z k zero n false w e f h = never (sym f)
minus_by b t z k (suc v) n false w e f h =
    let p : negsuc v ≡ z = (some_pair h).0 in
    let q : suc n ≡ k = (some_pair h).1 in
    subst (Spelling (b ∷ t) z) q (subst (λ (x : ℤ). Spelling (b ∷ t) x (suc n)) p
    (record { is = ap (λ (x : ℕ). x ∷ take n t) w ∙ ap (λ (l : List ℕ). 45 ∷ l) (digits_only t (suc v) n e); small = (spelt t (suc v) n e).small }))

minus_only : (b : ℕ) (t : List ℕ) (z : ℤ) (k : ℕ) (m : Option (ℕ × ℕ)) → b ≡ 45 → m ≡ magnitude t → negated m ≡ Some (z, k) → Spelling (b ∷ t) z k
minus_only b t z k None w e h = absurd (none-some (z, k) h)
minus_only b t z k (Some (v, n)) w e h = minus_by b t z k v n (eqb v 0) w e refl h

number_by : (b : ℕ) (t : List ℕ) (z : ℤ) (k : ℕ) (d : Bool) → eqb b 45 ≡ d → cond d (negated (magnitude t)) (plain (magnitude (b ∷ t))) ≡ Some (z, k) → Spelling (b ∷ t) z k
number_by b t z k true e h = minus_only b t z k (magnitude t) (eqb-true b 45 e) refl h
number_by b t z k false e h = plain_only (b ∷ t) z k (magnitude (b ∷ t)) refl h

-- what is read as a number is that number's only spelling
pub number_only : (t : List ℕ) (z : ℤ) (k : ℕ) → number t ≡ Some (z, k) → Spelling t z k
unfolding number
number_only [] z k h = plain_only [] z k (magnitude []) refl h
number_only (b ∷ t) z k h = number_by b t z k (eqb b 45) refl h

-- ---- rows
pub record Spelled (k : ℕ) (l : Line) (xs : Row) : Type 0 where
  pub count : length xs ≡ k
  pub is : l ≡ line_text xs
  pub small : Every Small xs

module _ (k : ℕ) (l : Line) (xs : Row) (z : ℤ) (n : ℕ) (s : Spelling l z n) (closed : eqb (get_or l n 0) (closing k) ≡ true) where
  put_only : (o : Option Row) → o ≡ row k (drop (suc n) l) → put z o ≡ Some xs → ((zs : Row) → row k (drop (suc n) l) ≡ Some zs → Spelled k (drop (suc n) l) zs) → Spelled (suc k) l xs
  unfolding line_text
  put_only None e h ih = absurd (none-some xs h)
  put_only (Some zs) e h ih =
      let p : z ∷ zs ≡ xs = cc in
      let r = ih zs (sym e) in
      let c : get_or l n 0 ≡ closing k = eqb-true (get_or l n 0) (closing k) closed in
      let there : n < length l = byte_there l n (omega (arith, closing_some k)) in
      subst (Spelled (suc k) l) p
      (record {
        count = ap suc r.count;
        is =
            sym (take-append-drop n l) ∙ ap (λ (t : List ℕ). t ++ drop n l) s.is ∙ ap (λ (t : List ℕ). decimal z ++ t) (drop-cons l n 0 there)
            ∙ ap (λ (b : ℕ). decimal z ++ (b ∷ drop (suc n) l)) (c ∙ ap closing (sym r.count)) ∙ ap (λ (t : List ℕ). decimal z ++ (closing (length zs) ∷ t)) r.is;
        small = and_all s.small r.small;
      })

close_only : (k : ℕ) (l : Line) (xs : Row) (z : ℤ) (n : ℕ) (d : Bool) → Spelling l z n → eqb (get_or l n 0) (closing k) ≡ d → cond d (put z (row k (drop (suc n) l))) None ≡ Some xs
    → ((zs : Row) → row k (drop (suc n) l) ≡ Some zs → Spelled k (drop (suc n) l) zs) → Spelled (suc k) l xs
close_only k l xs z n true s e h ih = put_only k l xs z n s e (row k (drop (suc n) l)) refl h ih
close_only k l xs z n false s e h ih = absurd (none-some xs h)

field_only : (k : ℕ) (l : Line) (xs : Row) (x : Option (ℤ × ℕ)) → number l ≡ x → field x l (closing k) (row k) ≡ Some xs
    → ((t : Line) (zs : Row) → row k t ≡ Some zs → Spelled k t zs) → Spelled (suc k) l xs
field_only k l xs None e h ih = absurd (none-some xs h)
field_only k l xs (Some (z, n)) e h ih = close_only k l xs z n (eqb (get_or l n 0) (closing k)) (number_only l z n e) refl h (ih (drop (suc n) l))

nil_only : (l : Line) (xs : Row) → row 0 l ≡ Some xs → Spelled 0 l xs
unfolding row line_text
nil_only [] xs h = let p : [] ≡ xs = cc in subst (Spelled 0 []) p (record { count = refl; is = refl; small = no_more })
nil_only (b ∷ l) xs h = absurd (none-some xs h)

pub row_only : (k : ℕ) (l : Line) (xs : Row) → row k l ≡ Some xs → Spelled k l xs
unfolding row
row_only zero l xs h = nil_only l xs h
row_only (suc k) l xs h = field_only k l xs (number l) refl h (row_only k)

-- a line is read as k values exactly where it is the line of those, each of at most 12 digits
pub row_iff : (k : ℕ) (l : Line) (xs : Row) → (row k l ≡ Some xs) ↔ Spelled k l xs
row_iff k l xs = (row_only k l xs, λ s. ap (row k) s.is ∙ row_every k xs s.count s.small)

-- a text begins with a number exactly where it begins with its decimal, and no digit follows
pub record Begins (t : List ℕ) (z : ℤ) (k : ℕ) : Type 0 where
  pub is : take k t ≡ decimal z
  pub count : k ≡ length (decimal z)
  pub small : Small z
  pub stop : digit_count (drop k t) ≡ 0

-- past the digits of a text stands no digit
past_by : (b : ℕ) (t : List ℕ) (d : Bool) → is_digit b ≡ d → digit_count (drop (digit_count t) t) ≡ 0 → digit_count (drop (cond d (suc (digit_count t)) 0) (b ∷ t)) ≡ 0
past_by b t true e ih = ih
past_by b t false e ih = ap (λ (x : Bool). cond x (suc (digit_count t)) 0) e

past_digits : (t : List ℕ) → digit_count (drop (digit_count t) t) ≡ 0
past_digits [] = refl
past_digits (b ∷ t) = past_by b t (is_digit b) refl (past_digits t)

mag_stop : (t : List ℕ) (v k : ℕ) → Some (v, k) ≡ magnitude t → (digit_count (drop k t) ≡ 0) × (k ≤ length t)
mag_stop t v k e = let s = spelt t v k e in (ap (λ (n : ℕ). digit_count (drop n t)) s.count ∙ past_digits t, s.fits)

stop_by : (b : ℕ) (t : List ℕ) (z : ℤ) (k : ℕ) (d : Bool) → cond d (negated (magnitude t)) (plain (magnitude (b ∷ t))) ≡ Some (z, k) → (digit_count (drop k (b ∷ t)) ≡ 0) × (k ≤ suc (length t))
stop_by b t z k true h = negated_end k z (magnitude t) (λ (j : ℕ). (digit_count (drop j (b ∷ t)) ≡ 0) × (j ≤ suc (length t))) (λ v n m. let s = mag_stop t v n m in (s.0, omega (arith, s.1))) h
stop_by b t z k false h = plain_end k z (magnitude (b ∷ t)) (λ (j : ℕ). (digit_count (drop j (b ∷ t)) ≡ 0) × (j ≤ suc (length t))) (mag_stop (b ∷ t)) h

number_stop : (t : List ℕ) (z : ℤ) (k : ℕ) → number t ≡ Some (z, k) → (digit_count (drop k t) ≡ 0) × (k ≤ length t)
unfolding number
number_stop [] z k h = plain_end k z (magnitude []) (λ (j : ℕ). (digit_count (drop j []) ≡ 0) × (j ≤ 0)) (mag_stop []) h
number_stop (b ∷ t) z k h = stop_by b t z k (eqb b 45) h

-- both ways
pub number_iff : (t : List ℕ) (z : ℤ) (k : ℕ) → (number t ≡ Some (z, k)) ↔ Begins t z k
number_iff t z k = (there, back)
  where
    there : number t ≡ Some (z, k) → Begins t z k
    there h =
        let s = number_only t z k h in
        let e = number_stop t z k h in
        record { is = s.is; count = sym (length-take-le k t e.1) ∙ ap length s.is; small = s.small; stop = e.0 }

    back : Begins t z k → number t ≡ Some (z, k)
    back b =
        ap number (sym (take-append-drop k t) ∙ ap (λ (l : List ℕ). l ++ drop k t) b.is) ∙ number_back z (drop k t) b.small b.stop ∙ ap (λ (j : ℕ). Some (z, j)) (sym b.count)
