-- What is printed is read back: a number of at most 12 digits, whatever follows it that is no digit, and a line of such numbers. Assumes nothing.
use Rattle.std.specs.Prelude.{None, Option, Some}
use Prim.Native.Nat.{ℕ, zero, suc, ◌+◌, ◌-◌, ◌*◌, ◌/◌, ◌%◌, ◌^◌, ◌≤◌, ◌<◌}
use mathlib.Core.Path.{◌≡◌, refl, sym, ap, subst, ◌∙◌}
use mathlib.Core.List.{List, [], ◌∷◌, ◌++◌, append_assoc}
use mathlib.Core.Bool.{Bool, true, cond}
use mathlib.Core.Logic.{⊎_elim}
use native.Mathlib.Omega.{arith}
use native.Mathlib.Numerals.{add-one}
use native.Mathlib.Nat.{pow-suc, mod-lt, eq-zero-or-pos}
use borrow.Author.Tests.{le-leb, eq-eqb, ne_eqb}
use lib.Dec.{eqb}
use lib.ListN.{length, drop, get_or, length-append}
use lib.Seq.{get_or-append_seam, drop-append-add}
use lib.IntN.{ℤ, pos, negsuc, nat_abs}
use Rattle.rules_number.proofs.OverLaws.{le_or_lt}
use Rattle.rules_text.specs.Numbers.{Row, digit_count, value, formed, magnitude, plain, negated, number, closing, put, field, row}
use Rattle.rules_text.specs.Printing.{digits, decimal, line_text}
use Rattle.rules_text.proofs.ListLaws.{or_true}
use Rattle.rules_text.proofs.NumberLaws.{digit_yes, value_none, mag_is, number_minus, number_plain}
use Rattle.rules_text.proofs.PrintLaws.{digits_one, digits_more}

-- a digit in front
count_cons : (d : ℕ) (r : List ℕ) → d < 10 → digit_count ((48 + d) ∷ r) ≡ suc (digit_count r)
count_cons d r h = ap (λ (b : Bool). cond b (suc (digit_count r)) 0) (digit_yes (48 + d) (omega arith) (omega arith))

value_cons : (m d : ℕ) (r : List ℕ) → d < 10 → value m ((48 + d) ∷ r) ≡ value (m * 10 + d) r
value_cons m d r h =
    let e : 48 + d - 48 ≡ d = omega arith in
    ap (λ (b : Bool). cond b (value (m * 10 + (48 + d - 48)) r) m) (digit_yes (48 + d) (omega arith) (omega arith)) ∙ ap (λ (x : ℕ). value (m * 10 + x) r) e

-- what digits do to a text that they stand before, by their recursion
module _ (P : ℕ → ℕ → List ℕ → List ℕ → Type 0)
    (one : (f n : ℕ) (r : List ℕ) → n < 10 → P (suc f) n r ((48 + n) ∷ r))
    (many : (f n : ℕ) (r : List ℕ) → 10 ≤ n → P f (n / 10) ((48 + n % 10) ∷ r) (digits f (n / 10) ++ ((48 + n % 10) ∷ r)) → P (suc f) n r (digits f (n / 10) ++ ((48 + n % 10) ∷ r)))
    (none_left : (n : ℕ) (r : List ℕ) → P zero n r r) where
  by_size : (f n : ℕ) (r : List ℕ) → P f (n / 10) ((48 + n % 10) ∷ r) (digits f (n / 10) ++ ((48 + n % 10) ∷ r)) → P (suc f) n r (digits (suc f) n ++ r)
  by_size f n r ih = ⊎_elim
      (λ h. subst (λ (l : List ℕ). P (suc f) n r (l ++ r)) (sym (digits_more f n h)) (subst (P (suc f) n r) (sym (append_assoc (digits f (n / 10)) ((48 + n % 10) ∷ []) r)) (many f n r h ih)))
      (λ h. subst (λ (l : List ℕ). P (suc f) n r (l ++ r)) (sym (digits_one f n h)) (one f n r h)) (le_or_lt 10 n)

  digits_ind : (f n : ℕ) (r : List ℕ) → P f n r (digits f n ++ r)
  unfolding digits
  digits_ind zero n r = none_left n r
  digits_ind (suc f) n r = by_size f n r (digits_ind f (n / 10) ((48 + n % 10) ∷ r))

-- the digits are counted, and spell the number
value_back : (f n : ℕ) (r : List ℕ) → n < 10 ^ f → value 0 (digits f n ++ r) ≡ value n r
value_back = digits_ind (λ f n r l. n < 10 ^ f → value 0 l ≡ value n r)
    (λ f n r h _. value_cons 0 n r h ∙ (let e : 0 * 10 + n ≡ n = omega arith in ap (λ (x : ℕ). value x r) e))
    (λ f n r h ih s.
    let q : 10 ^ suc f ≡ 10 ^ f * 10 = pow-suc 10 f in
    let e : n / 10 * 10 + n % 10 ≡ n = omega arith in
    ih (omega arith) ∙ value_cons (n / 10) (n % 10) r (mod-lt n (omega arith)) ∙ ap (λ (x : ℕ). value x r) e)
    (λ n r s. let e : 0 ≡ n = omega arith in ap (λ (x : ℕ). value x r) e)

count_back : (f n : ℕ) (r : List ℕ) → digit_count (digits f n ++ r) + length r ≡ digit_count r + length (digits f n ++ r)
count_back = digits_ind (λ f n r l. digit_count l + length r ≡ digit_count r + length l)
    (λ f n r h. let c = count_cons n r h in omega arith)
    (λ f n r h ih. let c = count_cons (n % 10) r (mod-lt n (omega arith)) in omega arith)
    (λ n r. refl)

short_by : (n m k a b : ℕ) → 10 ≤ n → m ≡ n / 10 → n < 10 ^ suc k → ((j : ℕ) → m < 10 ^ suc j → a ≤ suc j + suc b) → a ≤ suc k + b
short_by n m zero a b h e s ih = absurd (omega arith)
short_by n m (suc k) a b h e s ih =
    let q : 10 ^ suc (suc k) ≡ 10 ^ suc k * 10 = pow-suc 10 (suc k) in
    let i = ih k (omega arith) in
    omega arith

short : (f n : ℕ) (r : List ℕ) (k : ℕ) → n < 10 ^ suc k → length (digits f n ++ r) ≤ suc k + length r
short = digits_ind (λ f n r l. (k : ℕ) → n < 10 ^ suc k → length l ≤ suc k + length r)
    (λ f n r h k s. omega arith)
    (λ f n r h ih k s. short_by n (n / 10) k (length (digits f (n / 10) ++ ((48 + n % 10) ∷ r))) (length r) h refl s ih)
    (λ n r k s. omega arith)

long : (f n : ℕ) (r : List ℕ) → (length r ≤ length (digits f n ++ r)) × (0 < f → length r < length (digits f n ++ r))
long = digits_ind (λ f n r l. (length r ≤ length l) × (0 < f → length r < length l))
    (λ f n r h. (omega arith, λ z. omega arith))
    (λ f n r h ih. (omega (arith, ih.0), λ z. omega (arith, ih.0)))
    (λ n r. (omega arith, λ z. absurd (omega arith)))

first_back : (f n : ℕ) (r : List ℕ) → n < 10 ^ f → 0 < n → 49 ≤ get_or (digits f n ++ r) 0 0
first_back = digits_ind (λ f n r l. n < 10 ^ f → 0 < n → 49 ≤ get_or l 0 0)
    (λ f n r h s z. omega arith)
    (λ f n r h ih s z. let q : 10 ^ suc f ≡ 10 ^ f * 10 = pow-suc 10 f in ih (omega arith) (omega arith))
    (λ n r s z. absurd (omega arith))

-- what stands first: a 0 alone, or no 0
abbrev First : ℕ → List ℕ → Type 0
First n r = (get_or (digits 19 n ++ r) 0 0 ≡ 45 → ⊥) × (formed (get_or (digits 19 n ++ r) 0 0) (digit_count (digits 19 n ++ r)) ≡ true)

formed_yes : (x k : ℕ) → 1 ≤ k → k ≤ 12 → 49 ≤ x → formed x k ≡ true
formed_yes x k a b c = simp (le-leb 1 k a, le-leb k 12 b, ne_eqb x 48 (λ q. omega arith)) (or_true (eqb k 1))

module _ (n : ℕ) (r : List ℕ) (small : n < 10 ^ 12) (stop : digit_count r ≡ 0) where
  counted : digit_count (digits 19 n ++ r) ≡ length (digits 19 n)
  counted = omega (arith, count_back 19 n r, length-append (digits 19 n) r)

  at_zero : n ≡ 0 → First n r
  unfolding digits
  at_zero z =
      let c : digit_count (48 ∷ r) ≡ 1 = count_cons 0 r (omega arith) ∙ ap suc stop in
      subst (λ (m : ℕ). First m r) (sym z) ((λ q. omega arith), ap (formed 48) c)

  above : 0 < n → First n r
  above z =
      let f = first_back 19 n r (omega arith) z in
      let l = length-append (digits 19 n) r in
      let a = (long 19 n r).1 (omega arith) in
      let b = short 19 n r 11 small in
      ((λ q. omega arith), formed_yes (get_or (digits 19 n ++ r) 0 0) (digit_count (digits 19 n ++ r)) (omega (arith, counted)) (omega (arith, counted)) f)

  first : First n r
  first = ⊎_elim at_zero above (eq-zero-or-pos n)

  magnitude_back : magnitude (digits 19 n ++ r) ≡ Some (n, length (digits 19 n))
  magnitude_back =
      mag_is (digits 19 n ++ r) first.1
      ∙ ap (λ (v : ℕ). Some (v, digit_count (digits 19 n ++ r))) (value_back 19 n r (omega arith) ∙ value_none n r stop)
      ∙ ap (λ (j : ℕ). Some (n, j)) counted

-- a number of at most 12 digits that is printed is read back as itself, where no digit follows
pub number_back : (z : ℤ) (r : List ℕ) → nat_abs z < 10 ^ 12 → digit_count r ≡ 0 → number (decimal z ++ r) ≡ Some (z, length (decimal z))
unfolding decimal
number_back (pos n) r small stop = number_plain (digits 19 n ++ r) (first n r small stop).0 ∙ ap plain (magnitude_back n r small stop)
number_back (negsuc m) r small stop =
    number_minus (45 ∷ digits 19 (suc m) ++ r) refl ∙ ap negated (magnitude_back (suc m) r small stop)
    ∙ ap (λ (b : Bool). cond b None (Some (negsuc m, suc (length (digits 19 (suc m)))))) (ne_eqb (suc m) 0 (λ q. omega arith))

closing_none : (k : ℕ) (t : List ℕ) → digit_count (closing k ∷ t) ≡ 0
closing_none zero t = refl
closing_none (suc k) t = refl

row_by : (k : ℕ) (z : ℤ) (zs : Row) (d t : List ℕ) → number (d ++ (closing k ∷ t)) ≡ Some (z, length d) → row k t ≡ Some zs → row (suc k) (d ++ (closing k ∷ t)) ≡ Some (z ∷ zs)
unfolding row
row_by k z zs d t e ih =
    let l = d ++ (closing k ∷ t) in
    ap (λ (x : Option (ℤ × ℕ)). field x l (closing k) (row k)) e
    ∙ ap (λ (b : Bool). cond b (put z (row k (drop (suc (length d)) l))) None) (eq-eqb (get_or l (length d) 0) (closing k) (get_or-append_seam d (closing k) t 0))
    ∙ ap (λ (n : ℕ). put z (row k (drop n l))) (sym (add-one (length d)))
    ∙ ap (λ (u : List ℕ). put z (row k u)) (drop-append-add d (closing k ∷ t) 1)
    ∙ ap (put z) ih

-- a line of such numbers that is printed is read back as itself
pub row_back : (xs : Row) → ((i : ℕ) → i < length xs → nat_abs (get_or xs i (pos 0)) < 10 ^ 12) → row (length xs) (line_text xs) ≡ Some xs
unfolding line_text row
row_back [] small = refl
row_back (z ∷ zs) small =
    row_by (length zs) z zs (decimal z) (line_text zs) (number_back z (closing (length zs) ∷ line_text zs) (small 0 (omega arith)) (closing_none (length zs) (line_text zs)))
    (row_back zs (λ i h. small (suc i) (omega arith)))
