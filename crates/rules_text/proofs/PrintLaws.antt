-- Laws of specs/Printing: the digits of a number, put one by one from the last, and texts put one after another. Assumes nothing.
use Rattle.std.specs.Prelude.{None, Some}
use Prim.Native.Nat.{ℕ, zero, suc, ◌+◌, ◌-◌, ◌*◌, ◌/◌, ◌%◌, ◌^◌, ◌≤◌, ◌<◌, min}
use mathlib.Core.Path.{◌≡◌, refl, sym, ap, subst, ◌∙◌}
use mathlib.Core.List.{List, [], ◌∷◌, ◌++◌}
use mathlib.Core.Bool.{Bool, true, false, cond}
use mathlib.Core.Logic.{⊎_elim}
use native.Mathlib.Omega.{arith}
use native.Mathlib.Nat.{pow-suc, not-suc-le-zero}
use native.Mathlib.Numerals.{add-one}
use borrow.Author.Tests.{lt-ltb, le-ltb, ltb-true}
use lib.ListN.{length, drop, take, get_or, set, length-append, length-drop, length-take, length-set, drop_of_length-le}
use lib.Seq.{sets, length-sets, take_all}
use lib.IntN.{ℤ, pos, negsuc, nat_abs}
use lib.Signed.{lt_z, mag}
use Rattle.rules_number.proofs.OverLaws.{never, le_or_lt}
use Rattle.rules_text.specs.Numbers.{Row, closing}
use Rattle.rules_text.specs.Printing.{digits, sign, decimal, line_text, holds, printed, printed_to}
use Rattle.rules_text.proofs.ListLaws.{at_cons, sets_append, sets_set}
use Rattle.rules_text.proofs.NumberLaws.{ten_top}

pub digits_one : (f n : ℕ) → n < 10 → digits (suc f) n ≡ (48 + n) ∷ []
unfolding digits
digits_one f n h = ap (λ (b : Bool). cond b ((48 + n) ∷ []) (digits f (n / 10) ++ ((48 + n % 10) ∷ []))) (lt-ltb n 10 h)

pub digits_more : (f n : ℕ) → 10 ≤ n → digits (suc f) n ≡ digits f (n / 10) ++ ((48 + n % 10) ∷ [])
unfolding digits
digits_more f n h = ap (λ (b : Bool). cond b ((48 + n) ∷ []) (digits f (n / 10) ++ ((48 + n % 10) ∷ []))) (le-ltb n 10 h)

more_length : (f n : ℕ) → 10 ≤ n → length (digits (suc f) n) ≡ suc (length (digits f (n / 10)))
more_length f n h =
    let e = ap length (digits_more f n h) ∙ length-append (digits f (n / 10)) ((48 + n % 10) ∷ []) in
    omega arith

-- ---- at most 19 of them
pub digits_few : (f n : ℕ) → length (digits f n) ≤ f
unfolding digits
digits_few zero n = omega arith
digits_few (suc f) n = ⊎_elim
    (λ h. let e = more_length f n h in let r = digits_few f (n / 10) in omega arith)
    (λ h. let e = ap length (digits_one f n h) in omega arith) (le_or_lt 10 n)

pub decimal_few : (z : ℤ) → length (decimal z) ≤ 20
unfolding decimal
decimal_few (pos n) = omega (arith, digits_few 19 n)
decimal_few (negsuc n) = omega (arith, digits_few 19 (suc n))

-- ---- how many they are: n is below the k-th power of ten, and no smaller one
pub places : (f k n : ℕ) → suc k ≤ f → n < 10 ^ suc k → (0 < k → 10 ^ k ≤ n) → length (digits f n) ≡ suc k
places zero k n r h l = absurd (omega arith)
places (suc f) zero n r h l = ap length (digits_one f n h)
places (suc f) (suc k) n r h l =
    let top : 10 ^ suc (suc k) ≡ 10 ^ suc k * 10 = pow-suc 10 (suc k) in
    let low : 10 ^ suc k ≡ 10 ^ k * 10 = pow-suc 10 k in
    let one = ten_top 0 k (omega arith) in
    let at_least_lem = l (omega arith) in
    more_length f n (omega arith) ∙ ap suc (places f k (n / 10) (omega arith) (omega arith) (λ z. omega arith))

-- the loop of digit_count, which starts at seven digits
pub record Counting (n count bound : ℕ) : Type 0 where
  pub some : 1 ≤ count
  pub is : bound ≡ 10 ^ count
  pub passed : 1 < count → 10 ^ (count - 1) ≤ n

module _ (n count bound : ℕ) (small : n < 10 ^ 19) (c : Counting n count bound) where
  below : bound ≤ n → count < 19
  below h = ⊎_elim (λ k. absurd (omega (arith, c.is, ten_top 19 count k))) (λ k. k) (le_or_lt 19 count)

  pub counting_bound : bound ≤ n → (bound ≤ 10 ^ 18) × (count < 19)
  counting_bound h =
      let k = below h in
      (omega (arith, c.is, ten_top count 18 (omega arith)), k)

  pub counting_more : bound ≤ n → Counting n (count + 1) (bound * 10)
  counting_more h =
      let e : count + 1 - 1 ≡ count = omega arith in
      record {
        some = omega (arith, c.some);
        is = ap (λ (b : ℕ). b * 10) c.is ∙ sym (pow-suc 10 count) ∙ ap (λ (k : ℕ). 10 ^ k) (sym (add-one count));
        passed = λ z. rw e (omega (arith, c.is));
      }

  pub counting_done : n < bound → count ≡ length (digits 19 n)
  counting_done h = sym (⊎_elim few many (le_or_lt count 19))
    where
      w : count ≡ suc (count - 1)
      w = omega (arith, c.some)

      few : count ≤ 19 → length (digits 19 n) ≡ count
      few k = places 19 (count - 1) n (omega (arith, c.some)) (subst (λ (j : ℕ). n < 10 ^ j) w (omega (arith, c.is))) (λ z. c.passed (omega arith)) ∙ sym w

      many : 19 < count → length (digits 19 n) ≡ count
      many k = absurd (omega (arith, c.passed (omega arith), ten_top 19 (count - 1) (omega arith)))

-- ---- the last k digits of n, the first of them first
abbrev pub last : ℕ → ℕ → List ℕ
last zero n = []
last (suc k) n = last k (n / 10) ++ ((48 + n % 10) ∷ [])

last_length : (k n : ℕ) → length (last k n) ≡ k
last_length zero n = refl
last_length (suc k) n = length-append (last k (n / 10)) ((48 + n % 10) ∷ []) ∙ (let e = last_length k (n / 10) in omega arith)

pub digits_last : (f n : ℕ) → digits f n ≡ last (length (digits f n)) n
unfolding digits
digits_last zero n = refl
digits_last (suc f) n = ⊎_elim (more (digits_last f (n / 10))) one (le_or_lt 10 n)
  where
    more : digits f (n / 10) ≡ last (length (digits f (n / 10))) (n / 10) → 10 ≤ n → digits (suc f) n ≡ last (length (digits (suc f) n)) n
    more ih h = digits_more f n h ∙ ap (λ (l : List ℕ). l ++ ((48 + n % 10) ∷ [])) ih ∙ ap (λ (k : ℕ). last k n) (sym (more_length f n h))

    one : n < 10 → digits (suc f) n ≡ last (length (digits (suc f) n)) n
    one h =
        let m : n ≡ n % 10 = omega arith in
        digits_one f n h ∙ ap (λ (d : ℕ). (48 + d) ∷ []) m ∙ ap (λ (k : ℕ). last k n) (sym (ap length (digits_one f n h)))

-- n is below the power of ten of that many places
digits_top : (f n : ℕ) → n < 10 ^ f → n < 10 ^ length (digits f n)
unfolding digits
digits_top zero n h = h
digits_top (suc f) n h = ⊎_elim (more (digits_top f (n / 10))) one (le_or_lt 10 n)
  where
    more : (n / 10 < 10 ^ f → n / 10 < 10 ^ length (digits f (n / 10))) → 10 ≤ n → n < 10 ^ length (digits (suc f) n)
    more ih m =
        let t : 10 ^ suc f ≡ 10 ^ f * 10 = pow-suc 10 f in
        let i = ih (omega arith) in
        let u : 10 ^ suc (length (digits f (n / 10))) ≡ 10 ^ length (digits f (n / 10)) * 10 = pow-suc 10 (length (digits f (n / 10))) in
        subst (λ (k : ℕ). n < 10 ^ k) (sym (more_length f n m)) (omega arith)

    one : n < 10 → n < 10 ^ length (digits (suc f) n)
    one m = subst (λ (k : ℕ). n < 10 ^ k) (sym (ap length (digits_one f n m))) m

-- the loop of put_digits: the last `left` digits of `rest` are still to be put
pub record Putting (out : List ℕ) (at n : ℕ) (now : List ℕ) (left rest : ℕ) : Type 0 where
  pub high : left ≤ length (digits 19 n)
  pub small : rest < 10 ^ left
  pub whole : sets now at (last left rest) ≡ sets out at (digits 19 n)
  pub long : length now ≡ length out

pub putting_start : (out : List ℕ) (at n k : ℕ) → n < 10 ^ 19 → k ≡ length (digits 19 n) → Putting out at n out k n
putting_start out at n k h e =
    record {
      high = omega arith;
      small = subst (λ (j : ℕ). n < 10 ^ j) (sym e) (digits_top 19 n h);
      whole = ap (λ (j : ℕ). sets out at (last j n)) e ∙ ap (sets out at) (sym (digits_last 19 n));
      long = refl;
    }

module _ (out : List ℕ) (at n : ℕ) (now : List ℕ) (left rest : ℕ) (w : Putting out at n now left rest) where
  -- one digit
  pub putting_one : (i d : ℕ) → 0 < left → i ≡ at + (left - 1) → d ≡ 48 + rest % 10 → Putting out at n (set now i d) (left - 1) (rest / 10)
  putting_one i d h a e =
      let k : left ≡ suc (left - 1) = omega arith in
      let l = last (left - 1) (rest / 10) in
      let j : at + length l ≡ i = let q = last_length (left - 1) (rest / 10) in omega arith in
      let t : 10 ^ left ≡ 10 ^ (left - 1) * 10 = ap (λ (m : ℕ). 10 ^ m) k ∙ pow-suc 10 (left - 1) in
      record {
        high = omega (arith, w.high);
        small = omega (arith, w.small);
        whole =
            sets_set now at l i d (omega arith) ∙ ap (λ (m : ℕ). set (sets now at l) m d) (sym j)
            ∙ ap (set (sets now at l) (at + length l)) e ∙ sym (sets_append now at l ((48 + rest % 10) ∷ []))
            ∙ ap (λ (m : ℕ). sets now at (last m rest)) (sym k) ∙ w.whole;
        long = length-set now i d ∙ w.long;
      }

  pub putting_done : left ≡ 0 → now ≡ sets out at (digits 19 n)
  putting_done z = ap (λ (i : ℕ). sets now at (last i rest)) (sym z) ∙ w.whole

-- two digits, the last one first
pub putting_two : (out : List ℕ) (at n : ℕ) (now : List ℕ) (left rest i j d e : ℕ) → Putting out at n now left rest → 1 < left → i ≡ at + left - 1 → j ≡ at + left - 2
    → d ≡ 48 + rest % 10 → e ≡ 48 + rest % 100 / 10 → Putting out at n (set (set now i d) j e) (left - 2) (rest / 100)
putting_two out at n now left rest i j d e w h a b p q =
    let one = putting_one out at n now left rest w i d (omega arith) (omega arith) p in
    let two = putting_one out at n (set now i d) (left - 1) (rest / 10) one j e (omega arith) (omega arith) (omega arith) in
    let k : left - 1 - 1 ≡ left - 2 = omega arith in
    let r : rest / 10 / 10 ≡ rest / 100 = omega arith in
    subst (λ (m : ℕ). Putting out at n (set (set now i d) j e) m (rest / 100)) k
    (subst (λ (m : ℕ). Putting out at n (set (set now i d) j e) (left - 1 - 1) m) r two)

-- the one digit that is left
pub putting_end : (out : List ℕ) (at n : ℕ) (now : List ℕ) (left rest d : ℕ) → Putting out at n now left rest → left ≡ 1 → d ≡ 48 + rest → set now at d ≡ sets out at (digits 19 n)
putting_end out at n now left rest d w h p =
    let t : rest < 10 = subst (λ (k : ℕ). rest < 10 ^ k) h w.small in
    putting_done out at n (set now at d) (left - 1) (rest / 10)
    (putting_one out at n now left rest w at d (omega arith) (omega arith) (omega arith)) (omega arith)

-- ---- a number with its sign
pub sign_plus : (x : ℤ) → lt_z x (pos 0) ≡ false → sign x ≡ []
unfolding sign
sign_plus (pos n) e = refl
sign_plus (negsuc n) e = never (sym e)

pub sign_minus : (x : ℤ) → lt_z x (pos 0) ≡ true → sign x ≡ 45 ∷ []
unfolding sign
sign_minus (pos n) e = absurd (not-suc-le-zero (ltb-true n 0 e))
sign_minus (negsuc n) e = refl

pub decimal_sign : (x : ℤ) → decimal x ≡ sign x ++ digits 19 (nat_abs x)
unfolding decimal sign
decimal_sign (pos n) = refl
decimal_sign (negsuc n) = refl

pub decimal_plus : (x : ℤ) → lt_z x (pos 0) ≡ false → decimal x ≡ digits 19 (nat_abs x)
decimal_plus x e = decimal_sign x ∙ ap (λ (l : List ℕ). l ++ digits 19 (nat_abs x)) (sign_plus x e)

pub decimal_minus : (x : ℤ) → lt_z x (pos 0) ≡ true → decimal x ≡ 45 ∷ digits 19 (nat_abs x)
decimal_minus x e = decimal_sign x ∙ ap (λ (l : List ℕ). l ++ digits 19 (nat_abs x)) (sign_minus x e)

pub abs_small : (x : ℤ) → mag x < 2 ^ 63 → nat_abs x < 10 ^ 19
abs_small (pos n) h = omega arith
abs_small (negsuc n) h = omega arith

-- ---- one text after another: the values of a line from the i-th on
line_next : (x : Row) (i : ℕ) → i < length x → line_text (drop i x) ≡ decimal (get_or x i (pos 0)) ++ (closing (length x - i - 1) ∷ line_text (drop (i + 1) x))
unfolding line_text
line_next x i h =
    let d = length-drop (i + 1) x in
    let k : length (drop (i + 1) x) ≡ length x - i - 1 = omega arith in
    ap line_text (at_cons (pos 0) x i h) ∙ ap (λ (n : ℕ). decimal (get_or x i (pos 0)) ++ (closing n ∷ line_text (drop (i + 1) x))) k

-- the loop of put_line: what is left of the line, put at p, is the whole
pub record Lining (out : List ℕ) (at : ℕ) (x : Row) (now : List ℕ) (p i : ℕ) : Type 0 where
  pub within : i ≤ length x
  pub whole : sets now p (line_text (drop i x)) ≡ sets out at (line_text x)
  pub end : p + length (line_text (drop i x)) ≡ at + length (line_text x)
  pub long : length now ≡ length out

pub lining_start : (out : List ℕ) (at : ℕ) (x : Row) → Lining out at x out at 0
lining_start out at x = record { within = omega arith; whole = refl; end = refl; long = refl }

module _ (out : List ℕ) (at : ℕ) (x : Row) (now : List ℕ) (p i : ℕ) (w : Lining out at x now p i) where
  pub lining_done : length x ≤ i → (now ≡ sets out at (line_text x)) × (p ≡ at + length (line_text x))
  unfolding line_text
  lining_done h =
      let e : drop i x ≡ [] = drop_of_length-le x h in (
        ap (λ (l : Row). sets now p (line_text l)) (sym e) ∙ w.whole,
        let z = ap (λ (l : Row). length (line_text l)) e in omega (arith, w.end),
      )

  module _ (here : i < length x) where
    -- the number and the byte that closes it fit
    pub lining_room : at + length (line_text x) ≤ length out → p + length (decimal (get_or x i (pos 0))) < length now
    lining_room r =
        let e = ap length (line_next x i here) ∙ length-append (decimal (get_or x i (pos 0))) (closing (length x - i - 1) ∷ line_text (drop (i + 1) x)) in
        omega (arith, w.end, w.long)

    pub lining_more : (put last : List ℕ) (q b : ℕ) → put ≡ sets now p (decimal (get_or x i (pos 0))) → q ≡ p + length (decimal (get_or x i (pos 0))) → b ≡ closing (length x - i - 1)
        → last ≡ set put q b → Lining out at x last (q + 1) (i + 1)
    lining_more put last q b e f g h =
        let d = decimal (get_or x i (pos 0)) in
        let t = line_text (drop (i + 1) x) in
        let n = line_next x i here in
        let size = ap length n ∙ length-append d (closing (length x - i - 1) ∷ t) in
        record {
          within = omega arith;
          whole =
              ap (λ (l : List ℕ). sets l (q + 1) t) h ∙ ap (λ (j : ℕ). sets (set put q b) j t) (add-one q)
              ∙ ap (λ (j : ℕ). sets put q (j ∷ t)) g ∙ ap (λ (l : List ℕ). sets l q (closing (length x - i - 1) ∷ t)) e
              ∙ ap (λ (j : ℕ). sets (sets now p d) j (closing (length x - i - 1) ∷ t)) f
              ∙ sym (sets_append now p d (closing (length x - i - 1) ∷ t)) ∙ ap (sets now p) (sym n) ∙ w.whole;
          end = omega (arith, w.end);
          long = ap length h ∙ length-set put q b ∙ ap length e ∙ length-sets now p d ∙ w.long;
        }

-- the loop of line_width
pub record Widening (x : Row) (width i : ℕ) : Type 0 where
  pub within : i ≤ length x
  pub end : width + length (line_text (drop i x)) ≡ length (line_text x)
  pub small : width ≤ 21 * i

pub widening_start : (x : Row) → Widening x 0 0
widening_start x = record { within = omega arith; end = omega arith; small = omega arith }

module _ (x : Row) (width i : ℕ) (w : Widening x width i) where
  pub widening_done : length x ≤ i → width ≡ length (line_text x)
  unfolding line_text
  widening_done h = let z = ap (λ (l : Row). length (line_text l)) (drop_of_length-le x h) in omega (arith, w.end)

  pub widening_more : i < length x → (k : ℕ) → k ≡ length (decimal (get_or x i (pos 0))) → Widening x (width + k + 1) (i + 1)
  widening_more here k e =
      let size = ap length (line_next x i here) ∙ length-append (decimal (get_or x i (pos 0))) (closing (length x - i - 1) ∷ line_text (drop (i + 1) x)) in
      let few = decimal_few (get_or x i (pos 0)) in
      record { within = omega arith; end = omega (arith, w.end); small = omega (arith, w.small) }

-- the first k values of an array of five
module _ (v : Row) (k : ℕ) (long : length v ≡ 5) where
  pub first_length : k ≤ 5 → length (take k v) ≡ k
  first_length h = length-take k v ∙ omega arith

  pub first_most : take (min k 5) v ≡ take k v
  first_most = ⊎_elim (λ h. let e : min k 5 ≡ k = omega arith in ap (λ (n : ℕ). take n v) e)
      (λ h. let e : min k 5 ≡ 5 = omega arith in ap (λ (n : ℕ). take n v) e ∙ take_all 5 v (omega arith) ∙ sym (take_all k v (omega arith))) (le_or_lt k 5)

-- the loop of put_names: what is left of the names, put at at + i, is the whole
pub names_step : (out now : List ℕ) (at : ℕ) (names : List ℕ) (i : ℕ) → i < length names → sets now (at + i) (drop i names) ≡ sets out at names
    → sets (set now (at + i) (get_or names i 0)) (at + (i + 1)) (drop (i + 1) names) ≡ sets out at names
names_step out now at names i h e =
    let k : at + (i + 1) ≡ suc (at + i) = omega arith in
    ap (λ (j : ℕ). sets (set now (at + i) (get_or names i 0)) j (drop (i + 1) names)) k ∙ ap (sets now (at + i)) (sym (at_cons 0 names i h)) ∙ e

module _ (out : List ℕ) (at : ℕ) (text : List ℕ) where
  pub prints : (now : List ℕ) (r : ℕ) → holds out at text ≡ true → now ≡ sets out at text → r ≡ at + length text → (now ≡ printed out at text) × (Some r ≡ printed_to out at text)
  unfolding printed printed_to
  prints now r h e f =
      (e ∙ sym (ap (λ (b : Bool). cond b (sets out at text) out) h), ap Some f ∙ sym (ap (λ (b : Bool). cond b (Some (at + length text)) None) h))

  pub prints_none : holds out at text ≡ false → (out ≡ printed out at text) × (None ≡ printed_to out at text)
  unfolding printed printed_to
  prints_none h = (sym (ap (λ (b : Bool). cond b (sets out at text) out) h), sym (ap (λ (b : Bool). cond b (Some (at + length text)) None) h))

-- a line has at most 21 bytes for each value
pub line_few : (x : Row) → length (line_text x) ≤ 21 * length x
unfolding line_text
line_few [] = omega arith
line_few (z ∷ zs) = omega (arith, length-append (decimal z) (closing (length zs) ∷ line_text zs), decimal_few z, line_few zs)
