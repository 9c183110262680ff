-- Paper 01, Text: what is printed is read back, nothing else is read, and which line is faulty, in full. Assumes nothing.
use Rattle.std.specs.Prelude.{Some}
use mathlib.Core.Bool.{Bool, true, false, cond}
use mathlib.Core.List.Memᴰ
use mathlib.Core.List.{List, [], ◌∷◌, ◌++◌, Memᴰ}
use mathlib.Core.Logic.{⊎_elim, ◌↔◌}
use mathlib.Core.Path.{◌≡◌, refl, sym, ap, ◌∙◌}
use Prim.Native.Nat.{ℕ, zero, suc, ◌≤◌, ◌<◌}
use native.Mathlib.Omega.{arith}
use borrow.Author.Tests.{leb-true, eqb-true, eq-eqb, ne_eqb}
use lib.Dec.{leb, eqb}
use lib.IntN.{ℤ, pos, nat_abs}
use lib.ListN.{length, take, drop, get_or}
use Rattle.rules_number.proofs.OverLaws.{never, both}
use Rattle.rules_text.specs.Numbers.{Line, lines, is_digit, digit_count, number, row}
use Rattle.rules_text.specs.Spelled.{Every, no_more, and_all, together}
use Rattle.rules_text.proofs.NameLaws.{is_line}
use Rattle.rules_text.proofs.NumberLaws.{digit_yes}
use Rattle.rules_text.proofs.ClosedLines.{lines_together, together_lines, no_ten, left, split}
use Rattle.rules_text.proofs.RoundTrip.{number_back, row_back}
use Rattle.rules_text.proofs.OnlySpelling.{number_iff, row_iff}
use Rattle.statements.proofs.Told.{and_so}
use Rattle.statements.proofs.Plain.{Decimal, LineOf, Joined, decimal_is, line_is}

-- what holds of every element holds of each that is in the list
pub each : {A : Type 0} (P Q : A → Type 0) → ((x : A) → P x ↔ Q x) → (l : List A) → Every P l ↔ ((x : A) → Memᴰ x l → Q x)
each {A} P Q e l = (there l, back l)
  where
    there : (l : List A) → Every P l → (x : A) → Memᴰ x l → Q x
    there [] h x m = absurd (Memᴰ.not-nil m)
    there (y ∷ l) (and_all p h) x m = ⊎_elim (λ q. rw q ((e y).0 p)) (λ n. there l h x n) (Memᴰ.cases_cons m)

    back : (l : List A) → ((x : A) → Memᴰ x l → Q x) → Every P l
    back [] h = no_more
    back (y ∷ l) h = and_all ((e y).1 (h y (Memᴰ.head refl))) (back l (λ x m. h x (Memᴰ.tail m)))

-- ---- "when read at most 12 digits"
abbrev pub Twelve : ℤ → Type 0
Twelve z = nat_abs z < 1000000000000

pub twelve : (l : List ℤ) → Every (λ z. nat_abs z < 1000000000000) l ↔ ((z : ℤ) → Memᴰ z l → Twelve z)
twelve l = each (λ z. nat_abs z < 1000000000000) Twelve (λ z. ((λ h. h), λ h. h)) l

-- no digit stands at place k
abbrev pub NoDigit : List ℕ → ℕ → Type 0
NoDigit t k = 48 ≤ get_or t k 0 → get_or t k 0 ≤ 57 → ⊥

no_digit : (k : ℕ) (t : List ℕ) → (digit_count (drop k t) ≡ 0) ↔ NoDigit t k
no_digit zero [] = ((λ e low high. omega arith), λ h. refl)
no_digit (suc k) [] = ((λ e low high. omega arith), λ h. refl)
no_digit (suc k) (b ∷ t) = no_digit k t
no_digit zero (b ∷ t) = ((λ e low high. let d = digit_yes b low high in let n : suc (digit_count t) ≡ 0 = rw d at e in omega arith), λ h. back (is_digit b) refl h)
  where
    back : (d : Bool) → is_digit b ≡ d → NoDigit (b ∷ t) 0 → cond d (suc (digit_count t)) 0 ≡ 0
    back true e h = let r = both (leb 48 b) (leb b 57) e in absurd (h (leb-true 48 b r.0) (leb-true b 57 r.1))
    back false e h = refl

-- a text begins with a number of k bytes exactly when it begins with the bytes that print it, which are k, and no digit follows them
pub number_read : (t : List ℕ) (z : ℤ) (k : ℕ) → (number t ≡ Some (z, k)) ↔ ((take k t ≡ Decimal z) × (k ≡ length (Decimal z)) × Twelve z × NoDigit t k)
number_read t z k = rw (← decimal_is z) (and_so (number_iff t z k) (
  (λ b. (b.is, b.count, b.small, (no_digit k t).0 b.stop)),
  λ b. record { is = b.0; count = b.1; small = b.2; stop = (no_digit k t).1 b.3 },
))

-- a line is read as k values exactly when it is the line that prints them
pub line_read : (k : ℕ) (l : List ℕ) (xs : List ℤ) → (row k l ≡ Some xs) ↔ ((length xs ≡ k) × (l ≡ LineOf xs) × ((z : ℤ) → Memᴰ z xs → Twelve z))
line_read k l xs =
    rw (← line_is xs) (and_so (row_iff k l xs) ((λ s. (s.count, s.is, (twelve xs).0 s.small)), λ s. record { count = s.0; is = s.1; small = (twelve xs).1 s.2 }))

-- so what is printed, of numbers that have at most 12 digits, is read back as itself
pub number_again : (z : ℤ) (r : List ℕ) → Twelve z → NoDigit r 0 → number (Decimal z ++ r) ≡ Some (z, length (Decimal z))
number_again z r small stop = rw (← decimal_is z) (number_back z r small ((no_digit 0 r).1 stop))

pub line_again : (xs : List ℤ) → ((i : ℕ) → i < length xs → Twelve (get_or xs i (pos 0))) → row (length xs) (LineOf xs) ≡ Some xs
line_again xs h = rw (← line_is xs) (row_back xs h)

-- ---- "each line closed by byte 10"
abbrev pub NoTen : List ℕ → Type 0
NoTen l = Memᴰ 10 l → ⊥

abbrev pub ClosedLine : List ℕ → Type 0
ClosedLine l = (body : List ℕ) × (l ≡ body ++ (10 ∷ [])) × NoTen body

no_ten_lem : (l : List ℕ) → no_ten l ≡ true → NoTen l
no_ten_lem [] h m = Memᴰ.not-nil m
no_ten_lem (b ∷ l) h m = go (eqb b 10) refl h (no_ten_lem l)
  where
    go : (d : Bool) → eqb b 10 ≡ d → cond d false (no_ten l) ≡ true → (no_ten l ≡ true → NoTen l) → ⊥
    go true e h ih = never h
    go false e h ih = ⊎_elim (λ q. never (sym e ∙ eq-eqb b 10 (sym q))) (ih h) (Memᴰ.cases_cons m)

closed_there : (l : List ℕ) → is_line l ≡ true → ClosedLine l
closed_there [] h = never h
closed_there (b ∷ l) h = go (eqb b 10) refl l h (closed_there l)
  where
    go : (d : Bool) → eqb b 10 ≡ d → (l : List ℕ) → is_line (b ∷ l) ≡ true → (is_line l ≡ true → ClosedLine l) → ClosedLine (b ∷ l)
    go true e [] h ih = ([], ap (λ (x : ℕ). x ∷ []) (eqb-true b 10 e), λ m. Memᴰ.not-nil m)
    go true e (c ∷ l) h ih = never (rw e at h)
    go false e l h ih =
        let c = ih (rw e at h) in
        (b ∷ c.0, ap (λ (x : List ℕ). b ∷ x) c.1, λ m. ⊎_elim (λ q. never (sym e ∙ eq-eqb b 10 (sym q))) c.2 (Memᴰ.cases_cons m))

closed_back : (body : List ℕ) → NoTen body → is_line (body ++ (10 ∷ [])) ≡ true
closed_back [] h = refl
closed_back (b ∷ l) h = rw (ne_eqb b 10 (λ e. h (Memᴰ.head (sym e)))) (closed_back l (λ m. h (Memᴰ.tail m)))

closed_line : (l : List ℕ) → (is_line l ≡ true) ↔ ClosedLine l
closed_line l = (closed_there l, λ c. rw c.1 (closed_back c.0 c.2))

-- what follows the last byte 10, if anything
abbrev pub last : List ℕ → List (List ℕ)
last [] = []
last (b ∷ t) = (b ∷ t) ∷ []

-- the lines of a text, joined, are the text; byte 10 stands at the end of each and nowhere else, save that what follows the last one is a line without it
pub text_lines : (t : List ℕ) → (Joined (lines t) ≡ t)
    × ((closed : List (List ℕ)) × (rest : List ℕ) × (lines t ≡ closed ++ last rest) × ((l : List ℕ) → Memᴰ l closed → ClosedLine l) × NoTen rest)
unfolding together Joined
text_lines t = let s = split t in (together_lines t, (s.closed, s.open', s.is ∙ ap (λ (r : List Line). s.closed ++ r) (left_is s.open'), (each _ ClosedLine closed_line s.closed).0 s.ends, no_ten_lem s.open' s.none))
  where
    left_is : (o : List ℕ) → left o ≡ last o
    left_is [] = refl
    left_is (b ∷ o) = refl

-- closed lines before a text are its first lines
pub lines_of_lines : (ls : List (List ℕ)) (t : List ℕ) → ((l : List ℕ) → Memᴰ l ls → ClosedLine l) → lines (Joined ls ++ t) ≡ ls ++ lines t
unfolding together Joined
lines_of_lines ls t h = lines_together ls t ((each _ ClosedLine closed_line ls).1 h)
