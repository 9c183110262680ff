-- Laws of specs/Numbers: the digits that a text begins with, read one by one, and the number that they are. Assumes nothing.
use Rattle.std.specs.Prelude.{Some, None, Option}
use Prim.Native.Nat.{ℕ, zero, suc, ◌+◌, ◌-◌, ◌*◌, ◌%◌, ◌^◌, ◌≤◌, ◌<◌}
use mathlib.Core.Path.{◌≡◌, refl, sym, ap, ◌∙◌}
use mathlib.Core.List.{List, [], ◌∷◌}
use mathlib.Core.Bool.{Bool, true, false, cond, not, ◌&&◌, ◌||◌}
use mathlib.Core.Logic.{⊎_elim}
use native.Mathlib.Omega.{arith}
use native.Mathlib.Nat.{pow-suc, pow-le-pow_right, add-zero}
use native.Mathlib.Numerals.{add-one}
use borrow.Author.Tests.{lt-leb, le-leb, leb-true, eq-eqb, ne_eqb, eqb-true, eqb-false}
use lib.Dec.{leb, eqb}
use Rattle.std.proofs.lemmas.Option.{cond_some}
use lib.ListN.{length, drop, take, get_or, drop_of_length-le, length-drop}
use lib.Seq.{get_or-take, get_or-drop, length-take-le, drop-drop, take_all}
use lib.IntN.{ℤ, pos, neg_ℤ}
use Rattle.rules_number.proofs.OverLaws.{le_or_lt, both}
use Rattle.rules_text.proofs.ListLaws.{and-false, at_cons, head_at}
use Rattle.rules_text.specs.Numbers.{is_digit, digit_count, value, formed, magnitude, plain, negated, number}
use Rattle.rules_text.specs.Offsets.{shifted, number_at, closed_by}

-- ---- a byte as a digit
pub digit_yes : (b : ℕ) → 48 ≤ b → b ≤ 57 → is_digit b ≡ true
digit_yes b p q = simp (le-leb 48 b p, le-leb b 57 q)

digit_low : (b : ℕ) → b < 48 → is_digit b ≡ false
digit_low b p = simp (lt-leb 48 b p)

digit_high : (b : ℕ) → 57 < b → is_digit b ≡ false
digit_high b p = rw (lt-leb b 57 p) (and-false (leb 48 b))

-- what b - 48 is where it wraps
module _ (b d : ℕ) (wraps : (d + 48) % 2 ^ 64 ≡ b) where
  pub digit_of : d ≤ 9 → b ≡ d + 48
  digit_of h = omega arith

  pub digit_none : d < 2 ^ 64 → 9 < d → is_digit b ≡ false
  digit_none f h = ⊎_elim (λ p. digit_high b (omega arith)) (λ p. digit_low b p) (le_or_lt 48 b)

-- ---- one digit more
pub count_more : (t : List ℕ) (i : ℕ) → i < length t → is_digit (get_or t i 0) ≡ true → digit_count (drop i t) ≡ suc (digit_count (drop (i + 1) t))
count_more t i h e = ap digit_count (at_cons 0 t i h) ∙ ap (λ (b : Bool). cond b (suc (digit_count (drop (i + 1) t))) 0) e

count_none : (t : List ℕ) (i : ℕ) → i < length t → is_digit (get_or t i 0) ≡ false → digit_count (drop i t) ≡ 0
count_none t i h e = ap digit_count (at_cons 0 t i h) ∙ ap (λ (b : Bool). cond b (suc (digit_count (drop (i + 1) t))) 0) e

count_end : (t : List ℕ) (i : ℕ) → length t ≤ i → digit_count (drop i t) ≡ 0
count_end t i h = ap digit_count (drop_of_length-le t h)

value_more : (t : List ℕ) (i n : ℕ) → i < length t → is_digit (get_or t i 0) ≡ true → value n (drop i t) ≡ value (n * 10 + (get_or t i 0 - 48)) (drop (i + 1) t)
value_more t i n h e =
    ap (value n) (at_cons 0 t i h) ∙ ap (λ (b : Bool). cond b (value (n * 10 + (get_or t i 0 - 48)) (drop (i + 1) t)) n) e

cond_zero : (b : Bool) (k m n : ℕ) → cond b (suc k) 0 ≡ 0 → cond b m n ≡ n
cond_zero true k m n e = absurd (omega arith)
cond_zero false k m n e = refl

-- where a text begins with no digit
pub value_none : (n : ℕ) (t : List ℕ) → digit_count t ≡ 0 → value n t ≡ n
value_none n [] e = refl
value_none n (b ∷ t) e = cond_zero (is_digit b) (digit_count t) (value (n * 10 + (b - 48)) t) n e

-- one digit more keeps a number below the next power of ten
pub ten_more : (v d n : ℕ) → v < 10 ^ n → d ≤ 9 → v * 10 + d < 10 ^ (n + 1)
ten_more v d n p q = rw (add-one, pow-suc) (omega arith)

pub ten_top : (n m : ℕ) → n ≤ m → 10 ^ n ≤ 10 ^ m
ten_top n m h = pow-le-pow_right (omega arith) h

-- ---- the loop over the first `end` bytes from an offset: v is what the first j of them spell
module _ (s : List ℕ) (at end : ℕ) where
  pub record Reads (v j : ℕ) : Type 0 where
    pub within : j ≤ end
    pub count : j + digit_count (drop j (take end (drop at s))) ≡ digit_count (take end (drop at s))
    pub spelled : value v (drop j (take end (drop at s))) ≡ value 0 (take end (drop at s))
    pub small : v < 10 ^ j

  pub reads_start : Reads 0 0
  reads_start = record { within = omega arith; count = omega arith; spelled = refl; small = omega arith }

  module _ (room : at + end ≤ length s) where
    long : length (take end (drop at s)) ≡ end
    long = length-take-le end (drop at s) (omega (arith, length-drop at s))

    module _ (v j : ℕ) (r : Reads v j) where
      ended : digit_count (drop j (take end (drop at s))) ≡ 0 → (v ≡ value 0 (take end (drop at s))) × (j ≡ digit_count (take end (drop at s)))
      ended z = (sym (value_none v (drop j (take end (drop at s))) z) ∙ r.spelled, omega (arith, r.count))

      pub reads_all : end ≤ j → (v ≡ value 0 (take end (drop at s))) × (j ≡ digit_count (take end (drop at s)))
      reads_all h = ended (count_end (take end (drop at s)) j (omega (arith, long)))

      module _ (d : ℕ) (here : j < end) (wraps : (d + 48) % 2 ^ 64 ≡ get_or s (at + j) 0) where
        byte : get_or (take end (drop at s)) j 0 ≡ get_or s (at + j) 0
        byte = get_or-take end (drop at s) j 0 here ∙ get_or-drop at s j 0

        pub reads_stop : d < 2 ^ 64 → 9 < d → (v ≡ value 0 (take end (drop at s))) × (j ≡ digit_count (take end (drop at s)))
        reads_stop f h = ended (count_none (take end (drop at s)) j (omega (arith, long)) (ap is_digit byte ∙ digit_none (get_or s (at + j) 0) d wraps f h))

        pub reads_more : d ≤ 9 → Reads (v * 10 + d) (j + 1)
        reads_more h =
            let b : get_or (take end (drop at s)) j 0 ≡ d + 48 = byte ∙ digit_of (get_or s (at + j) 0) d wraps h in
            let e : is_digit (get_or (take end (drop at s)) j 0) ≡ true = digit_yes (get_or (take end (drop at s)) j 0) (omega arith) (omega arith) in
            let k = count_more (take end (drop at s)) j (omega (arith, long)) e in
            let m : get_or (take end (drop at s)) j 0 - 48 ≡ d = omega arith in
            record {
              within = omega arith;
              count = omega (arith, r.count);
              spelled = ap (λ (x : ℕ). value (v * 10 + x) (drop (j + 1) (take end (drop at s)))) (sym m) ∙ sym (value_more (take end (drop at s)) j v (omega (arith, long)) e) ∙ r.spelled;
              small = ten_more v d j r.small h;
            }

-- where fewer than 13 bytes are left, they are all
pub take_left : (s : List ℕ) (at n : ℕ) → n ≡ length s - at → n < 13 → take n (drop at s) ≡ take 13 (drop at s)
take_left s at n e h =
    let d = length-drop at s in
    take_all n (drop at s) (omega arith) ∙ sym (take_all 13 (drop at s) (omega arith))

-- ---- 13 bytes tell whether a text begins with 1 to 12 digits, and then what they spell
take_by : (b k n : ℕ) (t : List ℕ) (d : Bool) → cond d (suc (digit_count (take k t))) 0 < suc k
    → (digit_count (take k t) < k → (digit_count (take k t) ≡ digit_count t) × (value (n * 10 + (b - 48)) (take k t) ≡ value (n * 10 + (b - 48)) t))
    → (cond d (suc (digit_count (take k t))) 0 ≡ cond d (suc (digit_count t)) 0) × (cond d (value (n * 10 + (b - 48)) (take k t)) n ≡ cond d (value (n * 10 + (b - 48)) t) n)
take_by b k n t true h ih = let r = ih (omega arith) in (ap suc r.0, r.1)
take_by b k n t false h ih = (refl, refl)

pub take_few : (k n : ℕ) (t : List ℕ) → digit_count (take k t) < k → (digit_count (take k t) ≡ digit_count t) × (value n (take k t) ≡ value n t)
take_few zero n t h = absurd (omega arith)
take_few (suc k) n [] h = (refl, refl)
take_few (suc k) n (b ∷ t) h = take_by b k n t (is_digit b) h (take_few k (n * 10 + (b - 48)) t)

most_by : (k : ℕ) (t : List ℕ) (d : Bool) → digit_count (take k t) ≤ digit_count t → cond d (suc (digit_count (take k t))) 0 ≤ cond d (suc (digit_count t)) 0
most_by k t true h = omega arith
most_by k t false h = omega arith

pub take_most : (k : ℕ) (t : List ℕ) → digit_count (take k t) ≤ digit_count t
take_most zero t = omega arith
take_most (suc k) [] = omega arith
take_most (suc k) (b ∷ t) = most_by k t (is_digit b) (take_most k t)

count_by : (k n : ℕ) (d : Bool) → k ≤ n → cond d (suc k) 0 ≤ suc n
count_by k n true h = omega arith
count_by k n false h = omega arith

pub count_length : (t : List ℕ) → digit_count t ≤ length t
count_length [] = omega arith
count_length (b ∷ t) = count_by (digit_count t) (length t) (is_digit b) (count_length t)

-- ---- when digits are a number
pub formed_few : (f k : ℕ) → k < 1 → formed f k ≡ false
formed_few f k h = simp (lt-leb 1 k h)

pub formed_many : (f k : ℕ) → 12 < k → formed f k ≡ false
formed_many f k h =
    ap (λ (b : Bool). (leb 1 k && b) && (eqb k 1 || not (eqb f 48))) (lt-leb k 12 h) ∙ ap (λ (b : Bool). b && (eqb k 1 || not (eqb f 48))) (and-false (leb 1 k))

pub formed_one : (f k : ℕ) → k ≡ 1 → formed f k ≡ true
formed_one f k e = rw e

pub formed_more : (f k : ℕ) → 1 ≤ k → k ≤ 12 → (k ≡ 1 → ⊥) → formed f k ≡ not (eqb f 48)
formed_more f k a b n = simp (le-leb 1 k a, le-leb k 12 b, ne_eqb k 1 n)

pub formed_within : (f k : ℕ) → formed f k ≡ true → (1 ≤ k) × (k ≤ 12)
formed_within f k e =
    let b = both (leb 1 k) (leb k 12) (both (leb 1 k && leb k 12) (eqb k 1 || not (eqb f 48)) e).0 in
    (leb-true 1 k b.0, leb-true k 12 b.1)

pub mag_is : (t : List ℕ) → formed (get_or t 0 0) (digit_count t) ≡ true → magnitude t ≡ Some (value 0 t, digit_count t)
unfolding magnitude
mag_is t e = ap (λ (b : Bool). cond b (Some (value 0 t, digit_count t)) None) e

mag_none : (t : List ℕ) → formed (get_or t 0 0) (digit_count t) ≡ false → magnitude t ≡ None
unfolding magnitude
mag_none t e = ap (λ (b : Bool). cond b (Some (value 0 t, digit_count t)) None) e

-- a digit stands in the text
pub digit_there : (s : List ℕ) (at k : ℕ) → k ≡ digit_count (take 13 (drop at s)) → 1 < k → at < length s
digit_there s at k e h = omega (arith, take_most 13 (drop at s), count_length (drop at s), length-drop at s)

-- where v and k are of the first 13 bytes
module _ (s : List ℕ) (at v k : ℕ) (spelled : v ≡ value 0 (take 13 (drop at s))) (count : k ≡ digit_count (take 13 (drop at s))) where
  mag_few : k < 1 → None ≡ magnitude (drop at s)
  mag_few h =
      let q = take_few 13 0 (drop at s) (omega arith) in
      sym (mag_none (drop at s) (formed_few (get_or (drop at s) 0 0) (digit_count (drop at s)) (omega (arith, q.0))))

  mag_many : 12 < k → None ≡ magnitude (drop at s)
  mag_many h =
      let q = take_most 13 (drop at s) in
      sym (mag_none (drop at s) (formed_many (get_or (drop at s) 0 0) (digit_count (drop at s)) (omega arith)))

  module _ (low : 1 ≤ k) (high : k ≤ 12) where
    same : (k ≡ digit_count (drop at s)) × (v ≡ value 0 (drop at s))
    same = let q = take_few 13 0 (drop at s) (omega arith) in (count ∙ q.0, spelled ∙ q.1)

    by : formed (get_or (drop at s) 0 0) (digit_count (drop at s)) ≡ true → Some (v, k) ≡ magnitude (drop at s)
    by e = ap (λ (x : ℕ). Some (x, k)) same.1 ∙ ap (λ (j : ℕ). Some (value 0 (drop at s), j)) same.0 ∙ sym (mag_is (drop at s) e)

  -- the number that they are, if any
  pub mag_by : (f : Bool) → formed (get_or s at 0) k ≡ f → magnitude (drop at s) ≡ cond f (Some (v, k)) None
  mag_by true e =
      let w = formed_within (get_or s at 0) k e in
      sym (by w.0 w.1 (ap (λ (x : ℕ). formed x (digit_count (drop at s))) (sym (head_at 0 s at)) ∙ ap (formed (get_or s at 0)) (sym (same w.0 w.1).0) ∙ e))
  mag_by false e =
      ⊎_elim
      (λ h. let q = take_few 13 0 (drop at s) (omega arith) in
      mag_none (drop at s) (ap (λ (x : ℕ). formed x (digit_count (drop at s))) (sym (head_at 0 s at)) ∙ ap (formed (get_or s at 0)) (sym (count ∙ q.0)) ∙ e))
      (λ h. sym (mag_many h)) (le_or_lt k 12)

-- ---- what digits spell is below a power of ten
by_digit : (n j b k v : ℕ) (p q : Bool) → leb 48 b ≡ p → leb b 57 ≡ q → n < 10 ^ j → (n * 10 + (b - 48) < 10 ^ (j + 1) → v < 10 ^ (j + 1 + k))
    → cond (p && q) v n < 10 ^ (j + cond (p && q) (suc k) 0)
by_digit n j b k v true true e f h next =
    let hi = leb-true b 57 f in
    let m : j + suc k ≡ j + 1 + k = omega arith in
    rw m (next (ten_more n (b - 48) j h (omega arith)))
by_digit n j b k v true false e f h next = rw (add-zero j) h
by_digit n j b k v false q e f h next = rw (add-zero j) h

value_small : (n j : ℕ) (t : List ℕ) → n < 10 ^ j → value n t < 10 ^ (j + digit_count t)
value_small n j [] h = rw (add-zero j) h
value_small n j (b ∷ t) h =
    by_digit n j b (digit_count t) (value (n * 10 + (b - 48)) t) (leb 48 b) (leb b 57) refl refl h (value_small (n * 10 + (b - 48)) (j + 1) t)

-- a number of a text is below 10 ^ 12, and stands in the text
pub record Spelt (t : List ℕ) (v k : ℕ) : Type 0 where
  pub count : k ≡ digit_count t
  pub some : 1 ≤ k
  pub small : v < 10 ^ 12
  pub fits : k ≤ length t

-- a text that begins with a number is formed, and these are its parts
pub mag_parts : (t : List ℕ) (v k : ℕ) → Some (v, k) ≡ magnitude t → (formed (get_or t 0 0) (digit_count t) ≡ true) × (value 0 t ≡ v) × (digit_count t ≡ k)
unfolding magnitude
mag_parts t v k m =
    let c = cond_some (formed (get_or t 0 0) (digit_count t)) (value 0 t, digit_count t) (v, k) (sym m) in
    (c.0, ap (λ (x : ℕ × ℕ). x.0) c.1, ap (λ (x : ℕ × ℕ). x.1) c.1)

pub spelt : (t : List ℕ) (v k : ℕ) → Some (v, k) ≡ magnitude t → Spelt t v k
spelt t v k m =
    let p = mag_parts t v k m in
    let same : value 0 t ≡ v = p.1 in
    let count : digit_count t ≡ k = p.2 in
    let w = formed_within (get_or t 0 0) (digit_count t) p.0 in
    let low : value 0 t < 10 ^ (0 + digit_count t) = value_small 0 0 t (omega arith) in
    let top = ten_top (0 + digit_count t) 12 (omega (arith, w.1)) in
    record { count = sym count; some = omega (arith, w.0); small = omega arith; fits = omega (arith, count_length t) }

-- ---- the ways out of number_at: `from` is past the sign
pub number_minus : (t : List ℕ) → get_or t 0 0 ≡ 45 → number t ≡ negated (magnitude (drop 1 t))
unfolding number
number_minus t e = ap (λ (b : Bool). cond b (negated (magnitude (drop 1 t))) (plain (magnitude t))) (eq-eqb (get_or t 0 0) 45 e)

pub number_plain : (t : List ℕ) → (get_or t 0 0 ≡ 45 → ⊥) → number t ≡ plain (magnitude t)
unfolding number
number_plain t e = ap (λ (b : Bool). cond b (negated (magnitude (drop 1 t))) (plain (magnitude t))) (ne_eqb (get_or t 0 0) 45 e)

pub past_end : (s : List ℕ) (at : ℕ) → length s ≤ at → None ≡ number_at s at
unfolding number_at number magnitude
past_end s at h = rw (drop_of_length-le s h)

module _ (s : List ℕ) (at w : ℕ) (width : w ≡ cond (eqb (get_or s at 0) 45) 1 0) where
  -- by the sign, which stands there or not
  sign_by : (P : Type 0) → (get_or s at 0 ≡ 45 → w ≡ 1 → P) → ((get_or s at 0 ≡ 45 → ⊥) → w ≡ 0 → P) → P
  sign_by P there absent = go (eqb (get_or s at 0) 45) refl
    where
      go : (b : Bool) → eqb (get_or s at 0) 45 ≡ b → P
      go true e = there (eqb-true (get_or s at 0) 45 e) (width ∙ ap (λ (b : Bool). cond b 1 0) e)
      go false e = absent (eqb-false (get_or s at 0) 45 e) (width ∙ ap (λ (b : Bool). cond b 1 0) e)

  pub width_most : w ≤ 1
  width_most = sign_by (w ≤ 1) (λ e q. omega arith) (λ e q. omega arith)

  at_minus : get_or s at 0 ≡ 45 → w ≡ 1 → number_at s at ≡ shifted at (negated (magnitude (drop (at + w) s)))
  unfolding number_at
  at_minus e q =
      ap (shifted at) (number_minus (drop at s) (sym (head_at 0 s at) ∙ e))
      ∙ ap (λ (l : List ℕ). shifted at (negated (magnitude l))) (drop-drop 1 at s ∙ ap (λ (n : ℕ). drop (at + n) s) (sym q))

  at_plain : (get_or s at 0 ≡ 45 → ⊥) → w ≡ 0 → number_at s at ≡ shifted at (plain (magnitude (drop (at + w) s)))
  unfolding number_at
  at_plain e q =
      ap (shifted at) (number_plain (drop at s) (λ h. e (head_at 0 s at ∙ h)))
      ∙ ap (λ (n : ℕ). shifted at (plain (magnitude (drop n s)))) (sym (ap (λ (n : ℕ). at + n) q ∙ add-zero at))

  pub number_none : None ≡ magnitude (drop (at + w) s) → None ≡ number_at s at
  number_none m = sign_by (None ≡ number_at s at) (λ e q. sym (at_minus e q ∙ ap (λ (x : Option (ℕ × ℕ)). shifted at (negated x)) (sym m))) (λ e q. sym (at_plain e q ∙ ap (λ (x : Option (ℕ × ℕ)). shifted at (plain x)) (sym m)))

  module _ (v k : ℕ) (m : Some (v, k) ≡ magnitude (drop (at + w) s)) where
    pub number_fits : at + w + k ≤ length s
    number_fits = let q = spelt (drop (at + w) s) v k m in omega (arith, q.some, q.fits, length-drop (at + w) s)

    pub number_natural : w ≡ 0 → Some (pos v, at + w + k) ≡ number_at s at
    number_natural z =
        sign_by (Some (pos v, at + w + k) ≡ number_at s at) (λ e q. absurd (omega arith))
        (λ e q. ap (λ (j : ℕ). Some (pos v, j)) (let n : at + w + k ≡ at + k = omega arith in n) ∙ sym (at_plain e q ∙ ap (λ (x : Option (ℕ × ℕ)). shifted at (plain x)) (sym m)))

    negative_is : (w ≡ 0 → ⊥) → number_at s at ≡ shifted at (negated (Some (v, k)))
    negative_is z = sign_by (number_at s at ≡ shifted at (negated (Some (v, k)))) (λ e q. at_minus e q ∙ ap (λ (x : Option (ℕ × ℕ)). shifted at (negated x)) (sym m)) (λ e q. absurd (z q))

    pub number_zero : (w ≡ 0 → ⊥) → v ≡ 0 → None ≡ number_at s at
    number_zero z h = sym (negative_is z ∙ ap (λ (b : Bool). shifted at (cond b None (Some (neg_ℤ (pos v), suc k)))) (eq-eqb v 0 h))

    pub number_negative : (w ≡ 0 → ⊥) → (v ≡ 0 → ⊥) → Some (neg_ℤ (pos v), at + w + k) ≡ number_at s at
    number_negative z h =
        let one : w ≡ 1 = sign_by (w ≡ 1) (λ e q. q) (λ e q. absurd (z q)) in
        let n : at + w + k ≡ at + suc k = omega arith in
        ap (λ (j : ℕ). Some (neg_ℤ (pos v), j)) n ∙ sym (negative_is z ∙ ap (λ (b : Bool). shifted at (cond b None (Some (neg_ℤ (pos v), suc k)))) (ne_eqb v 0 h))

-- ---- the ways out of closed_at and negative_at
sign_first : (t : List ℕ) → get_or t 0 0 ≡ 45 → digit_count (take 13 t) ≡ 0
sign_first [] e = refl
sign_first (b ∷ t) e = ap (λ (x : ℕ). cond (is_digit x) (suc (digit_count (take 12 t))) 0) e

unsigned : (s : List ℕ) (at : ℕ) → (get_or s at 0 ≡ 45 → ⊥) → number_at s at ≡ shifted at (plain (magnitude (drop at s)))
unfolding number_at
unsigned s at e = ap (shifted at) (number_plain (drop at s) (λ h. e (head_at 0 s at ∙ h)))

pub closed_end : (s : List ℕ) (b at : ℕ) → length s ≤ at → None ≡ closed_by s b (number_at s at)
closed_end s b at h = ap (closed_by s b) (past_end s at h)

pub closed_none : (s : List ℕ) (b at : ℕ) → digit_count (take 13 (drop at s)) ≡ 0 → (get_or s at 0 ≡ 45 → ⊥) → None ≡ closed_by s b (number_at s at)
closed_none s b at z e =
    let m = mag_few s at (value 0 (take 13 (drop at s))) (digit_count (take 13 (drop at s))) refl refl (omega arith) in
    sym (ap (closed_by s b) (unsigned s at e ∙ ap (λ (x : Option (ℕ × ℕ)). shifted at (plain x)) (sym m)))

module _ (s : List ℕ) (b at v k : ℕ) where
  natural_by : (f : Bool) → cond (f && eqb (get_or s (at + k) 0) b) (Some (pos v, at + k + 1)) None ≡ closed_by s b (shifted at (plain (cond f (Some (v, k)) None)))
  natural_by true = refl
  natural_by false = refl

  pub closed_natural : (v ≡ value 0 (take 13 (drop at s))) × (k ≡ digit_count (take 13 (drop at s))) → (k ≡ 0 → ⊥)
      → (r f : Bool) → r ≡ (formed (get_or s at 0) k && eqb (get_or s (at + k) 0) b) → r ≡ f → cond f (Some (pos v, at + k + 1)) None ≡ closed_by s b (number_at s at)
  closed_natural d h r f e q =
      let n = unsigned s at (λ x. h (d.1 ∙ sign_first (drop at s) (sym (head_at 0 s at) ∙ x))) in
      let m = mag_by s at v k d.0 d.1 (formed (get_or s at 0) k) refl in
      ap (λ (x : Bool). cond x (Some (pos v, at + k + 1)) None) (sym q ∙ e) ∙ natural_by (formed (get_or s at 0) k)
      ∙ sym (ap (closed_by s b) (n ∙ ap (λ (x : Option (ℕ × ℕ)). shifted at (plain x)) m))

  neither : (q : Bool) → ◌≡◌ {A = Option (ℤ × ℕ)} (cond q None None) None
  neither true = refl
  neither false = refl

  below_by : (x : ℤ) (z : Bool) (n : ℕ) → n ≡ at + suc k → cond (eqb (get_or s n 0) b) (cond z None (Some (x, n + 1))) None ≡ closed_by s b (shifted at (cond z None (Some (x, suc k))))
  below_by x true n e = neither (eqb (get_or s n 0) b)
  below_by x false n e = ap (λ (m : ℕ). cond (eqb (get_or s m 0) b) (Some (x, m + 1)) None) e

  negative_by : (f : Bool) → cond (f && eqb (get_or s (at + 1 + k) 0) b) (cond (eqb v 0) None (Some (neg_ℤ (pos v), at + 1 + k + 1))) None ≡ closed_by s b (shifted at (negated (cond f (Some (v, k)) None)))
  negative_by true = below_by (neg_ℤ (pos v)) (eqb v 0) (at + 1 + k) (omega arith)
  negative_by false = refl

  pub closed_negative : (v ≡ value 0 (take 13 (drop (at + 1) s))) × (k ≡ digit_count (take 13 (drop (at + 1) s))) → get_or s at 0 ≡ 45
      → (r f : Bool) → r ≡ (formed (get_or s (at + 1) 0) k && eqb (get_or s (at + 1 + k) 0) b) → r ≡ f → (z : Bool) → eqb v 0 ≡ z
      → cond f (cond z None (Some (neg_ℤ (pos v), at + 1 + k + 1))) None ≡ closed_by s b (number_at s at)
  closed_negative d h r f e q z o =
      let n = at_minus s at 1 (sym (ap (λ (x : Bool). cond x 1 0) (eq-eqb (get_or s at 0) 45 h))) h refl in
      let m = mag_by s (at + 1) v k d.0 d.1 (formed (get_or s (at + 1) 0) k) refl in
      ap (λ (x : Bool). cond f (cond x None (Some (neg_ℤ (pos v), at + 1 + k + 1))) None) (sym o)
      ∙ ap (λ (x : Bool). cond x (cond (eqb v 0) None (Some (neg_ℤ (pos v), at + 1 + k + 1))) None) (sym q ∙ e) ∙ negative_by (formed (get_or s (at + 1) 0) k)
      ∙ sym (ap (closed_by s b) (n ∙ ap (λ (x : Option (ℕ × ℕ)). shifted at (negated x)) m))

-- a number that a byte closes is a number
pub closed_spelt : (s : List ℕ) (b at v k : ℕ) → (v ≡ value 0 (take 13 (drop at s))) × (k ≡ digit_count (take 13 (drop at s)))
    → (r : Bool) → r ≡ (formed (get_or s at 0) k && eqb (get_or s (at + k) 0) b) → r ≡ true → Spelt (drop at s) v k
closed_spelt s b at v k d r e h =
    spelt (drop at s) v k (sym (mag_by s at v k d.0 d.1 true (both (formed (get_or s at 0) k) (eqb (get_or s (at + k) 0) b) (sym e ∙ h)).0))
