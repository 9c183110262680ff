-- Laws of lines: the first line of a text and the lines after it, and the number that a line begins with. Assumes nothing.
use Rattle.std.specs.Prelude.{Option, Some, None}
use Prim.Native.Nat.{ℕ, suc, ◌+◌, ◌-◌, ◌*◌, ◌≤◌}
use mathlib.Core.Path.{◌≡◌, refl, sym, ap, subst, ◌∙◌}
use mathlib.Core.List.{List, [], ◌∷◌}
use mathlib.Core.Bool.{Bool, true, false, cond}
use mathlib.Core.Logic.{⊎_elim}
use native.Mathlib.Omega.{arith}
use borrow.Author.Tests.{leb-true, ne_eqb, eqb-true}
use lib.Dec.{leb, eqb}
use Rattle.std.proofs.lemmas.Option.{none-some}
use lib.ListN.{length, drop, get_or, length-drop}
use lib.Seq.{drop-drop}
use lib.IntN.{ℤ, pos, neg_ℤ}
use Rattle.rules_number.proofs.OverLaws.{both, le_or_lt}
use Rattle.rules_text.specs.Numbers.{Line, lines, joined, is_digit, digit_count, value, formed, magnitude, plain, negated, number}
use Rattle.rules_text.specs.Offsets.{shifted, number_at, line_at}
use Rattle.rules_text.proofs.ListLaws.{some_pair}
use Rattle.rules_text.proofs.NumberLaws.{spelt, past_end}

-- the first line of a text
abbrev pub line : List ℕ → Line
line [] = []
line (b ∷ t) = b ∷ cond (eqb b 10) [] (line t)

-- what follows it
abbrev pub after : List ℕ → List ℕ
after t = drop (length (line t)) t

-- ---- the lines of a text, by its first
lines_by : (b c : ℕ) (t : List ℕ) (d : Bool) → lines (c ∷ t) ≡ line (c ∷ t) ∷ lines (after (c ∷ t))
    → joined d b (lines (c ∷ t)) ≡ (b ∷ cond d [] (line (c ∷ t))) ∷ lines (drop (length (cond d [] (line (c ∷ t)))) (c ∷ t))
lines_by b c t true ih = refl
lines_by b c t false ih = ap (joined false b) ih

lines_one_lem : (b : ℕ) (d : Bool) → joined d b [] ≡ (b ∷ cond d [] []) ∷ lines (drop (length (cond d [] (line []))) [])
lines_one_lem b true = refl
lines_one_lem b false = refl

pub lines_cons : (b : ℕ) (t : List ℕ) → lines (b ∷ t) ≡ line (b ∷ t) ∷ lines (after (b ∷ t))
lines_cons b [] = lines_one_lem b (eqb b 10)
lines_cons b (c ∷ t) = lines_by b c t (eqb b 10) (lines_cons c t)

pub lines_some : (t : List ℕ) → (t ≡ [] → ⊥) → lines t ≡ line t ∷ lines (after t)
lines_some [] h = absurd (h refl)
lines_some (b ∷ t) h = lines_cons b t

pub lines_after : (t : List ℕ) → lines (after t) ≡ drop 1 (lines t)
lines_after [] = refl
lines_after (b ∷ t) = sym (ap (drop 1) (lines_cons b t))

joined_length : (b : ℕ) (ls : List Line) (d : Bool) → length (joined d b ls) ≤ suc (length ls)
joined_length b ls true = omega arith
joined_length b [] false = omega arith
joined_length b (l ∷ ls) false = omega arith

pub lines_few : (t : List ℕ) → length (lines t) ≤ length t
lines_few [] = omega arith
lines_few (b ∷ t) = let h = lines_few t in let j = joined_length b (lines t) (eqb b 10) in omega arith

pub first_line : (t : List ℕ) → get_or (lines t) 0 [] ≡ line t
first_line [] = refl
first_line (b ∷ t) = ap (λ (ls : List Line). get_or ls 0 []) (lines_cons b t)

pub line_at_lem : (s : List ℕ) (p : ℕ) → line_at s p ≡ line (drop p s)
unfolding line_at
line_at_lem s p = first_line (drop p s)

-- past the line at an offset
pub next_lines : (s : List ℕ) (p q : ℕ) → q ≡ p + length (line (drop p s)) → lines (drop q s) ≡ drop 1 (lines (drop p s))
next_lines s p q e = ap (λ (n : ℕ). lines (drop n s)) e ∙ ap lines (sym (drop-drop (length (line (drop p s))) p s)) ∙ lines_after (drop p s)

-- ---- the digits of a text are those of its first line
digit_in : (b : ℕ) → is_digit b ≡ true → eqb b 10 ≡ false
digit_in b e = let h = leb-true 48 b (both (leb 48 b) (leb b 57) e).0 in ne_eqb b 10 (λ q. omega arith)

count_by : (b : ℕ) (t : List ℕ) (d : Bool) → is_digit b ≡ d → digit_count (line t) ≡ digit_count t
    → cond d (suc (digit_count (cond (eqb b 10) [] (line t)))) 0 ≡ cond d (suc (digit_count t)) 0
count_by b t true e ih = ap (λ (x : Bool). suc (digit_count (cond x [] (line t)))) (digit_in b e) ∙ ap suc ih
count_by b t false e ih = refl

count_line : (t : List ℕ) → digit_count (line t) ≡ digit_count t
count_line [] = refl
count_line (b ∷ t) = count_by b t (is_digit b) refl (count_line t)

value_by : (n m b : ℕ) (t : List ℕ) (d : Bool) → is_digit b ≡ d → value m (line t) ≡ value m t
    → cond d (value m (cond (eqb b 10) [] (line t))) n ≡ cond d (value m t) n
value_by n m b t true e ih = ap (λ (x : Bool). value m (cond x [] (line t))) (digit_in b e) ∙ ih
value_by n m b t false e ih = refl

value_line : (n : ℕ) (t : List ℕ) → value n (line t) ≡ value n t
value_line n [] = refl
value_line n (b ∷ t) = value_by n (n * 10 + (b - 48)) b t (is_digit b) refl (value_line (n * 10 + (b - 48)) t)

pub head_line : (t : List ℕ) → get_or (line t) 0 0 ≡ get_or t 0 0
head_line [] = refl
head_line (b ∷ t) = refl

drop_by : (b k : ℕ) (t : List ℕ) (d : Bool) → is_digit b ≡ d → drop k (line t) ≡ line (drop k t)
    → drop (cond d (suc k) 0) (line (b ∷ t)) ≡ line (drop (cond d (suc k) 0) (b ∷ t))
drop_by b k t true e ih = ap (λ (x : Bool). drop k (cond x [] (line t))) (digit_in b e) ∙ ih
drop_by b k t false e ih = refl

drop_line : (t : List ℕ) → drop (digit_count t) (line t) ≡ line (drop (digit_count t) t)
drop_line [] = refl
drop_line (b ∷ t) = drop_by b (digit_count t) t (is_digit b) refl (drop_line t)

-- ---- and so is the number that it begins with
spelled : ℕ → ℕ → ℕ → Option (ℕ × ℕ)
spelled f k v = cond (formed f k) (Some (v, k)) None

mag_line : (t : List ℕ) → magnitude (line t) ≡ magnitude t
unfolding spelled magnitude
mag_line t =
    ap (λ (f : ℕ). spelled f (digit_count (line t)) (value 0 (line t))) (head_line t)
    ∙ ap (λ (k : ℕ). spelled (get_or t 0 0) k (value 0 (line t))) (count_line t)
    ∙ ap (spelled (get_or t 0 0) (digit_count t)) (value_line 0 t)

minus_in : (b : ℕ) → eqb b 45 ≡ true → eqb b 10 ≡ false
minus_in b e = let h = eqb-true b 45 e in ne_eqb b 10 (λ q. omega arith)

number_by : (b : ℕ) (t : List ℕ) (d : Bool) → eqb b 45 ≡ d
    → cond d (negated (magnitude (cond (eqb b 10) [] (line t)))) (plain (magnitude (line (b ∷ t)))) ≡ cond d (negated (magnitude t)) (plain (magnitude (b ∷ t)))
number_by b t true e = ap (λ (x : Bool). negated (magnitude (cond x [] (line t)))) (minus_in b e) ∙ ap negated (mag_line t)
number_by b t false e = ap plain (mag_line (b ∷ t))

pub number_line : (t : List ℕ) → number (line t) ≡ number t
unfolding number
number_line [] = refl
number_line (b ∷ t) = number_by b t (eqb b 45) refl

-- ---- past a number the line goes on
-- what holds past the digits holds past a number that they are, and past a negative one
pub plain_end : (k : ℕ) (z : ℤ) (m : Option (ℕ × ℕ)) (P : ℕ → Type 0) → ((v n : ℕ) → Some (v, n) ≡ m → P n) → plain m ≡ Some (z, k) → P k
plain_end k z None P h e = absurd (none-some (z, k) e)
plain_end k z (Some (v, n)) P h e = let q : n ≡ k = (some_pair e).1 in subst P q (h v n refl)

negated_by : (v n k : ℕ) (z : ℤ) (P : ℕ → Type 0) (d : Bool) → P (suc n) → ◌≡◌ {A = Option (ℤ × ℕ)} (cond d None (Some (neg_ℤ (pos v), suc n))) (Some (z, k)) → P k
negated_by v n k z P true h e = absurd (none-some (z, k) e)
negated_by v n k z P false h e = let q : suc n ≡ k = (some_pair e).1 in subst P q h

pub negated_end : (k : ℕ) (z : ℤ) (m : Option (ℕ × ℕ)) (P : ℕ → Type 0) → ((v n : ℕ) → Some (v, n) ≡ m → P (suc n)) → negated m ≡ Some (z, k) → P k
negated_end k z None P h e = absurd (none-some (z, k) e)
negated_end k z (Some (v, n)) P h e = negated_by v n k z P (eqb v 0) (h v n refl) e

-- the k bytes of a number lie within the text's first line
abbrev Within : List ℕ → ℕ → Type 0
Within t k = drop k (line t) ≡ line (drop k t)

digits_within : (t : List ℕ) (v n : ℕ) → Some (v, n) ≡ magnitude t → Within t n
digits_within t v n m = subst (Within t) (sym (spelt t v n m).count) (drop_line t)

past_minus : (b n : ℕ) (t : List ℕ) → eqb b 10 ≡ false → Within t n → Within (b ∷ t) (suc n)
past_minus b n t e w = ap (λ (x : Bool). drop n (cond x [] (line t))) e ∙ w

within_by : (b : ℕ) (t : List ℕ) (k : ℕ) (z : ℤ) (d : Bool) → eqb b 45 ≡ d → cond d (negated (magnitude t)) (plain (magnitude (b ∷ t))) ≡ Some (z, k) → Within (b ∷ t) k
within_by b t k z true e q = negated_end k z (magnitude t) (Within (b ∷ t)) (λ v n m. past_minus b n t (minus_in b e) (digits_within t v n m)) q
within_by b t k z false e q = plain_end k z (magnitude (b ∷ t)) (Within (b ∷ t)) (digits_within (b ∷ t)) q

pub within : (t : List ℕ) (k : ℕ) (z : ℤ) → number t ≡ Some (z, k) → drop k (line t) ≡ line (drop k t)
unfolding number
within [] k z q = plain_end k z (magnitude []) (Within []) (digits_within []) q
within (b ∷ t) k z q = within_by b t k z (eqb b 45) refl q

-- ---- and it ends where the text ends, or before
few_by : (b : ℕ) (t : List ℕ) (k : ℕ) (z : ℤ) (d : Bool) → cond d (negated (magnitude t)) (plain (magnitude (b ∷ t))) ≡ Some (z, k) → k ≤ length (b ∷ t)
few_by b t k z true q = negated_end k z (magnitude t) (λ (j : ℕ). j ≤ length (b ∷ t)) (λ v n m. omega (arith, (spelt t v n m).fits)) q
few_by b t k z false q = plain_end k z (magnitude (b ∷ t)) (λ (j : ℕ). j ≤ length (b ∷ t)) (λ v n m. (spelt (b ∷ t) v n m).fits) q

few : (t : List ℕ) (k : ℕ) (z : ℤ) → number t ≡ Some (z, k) → k ≤ length t
unfolding number
few [] k z q = plain_end k z (magnitude []) (λ (j : ℕ). j ≤ 0) (λ v n m. (spelt [] v n m).fits) q
few (b ∷ t) k z q = few_by b t k z (eqb b 45) q

ends_by : (s : List ℕ) (p n : ℕ) (z : ℤ) (x : Option (ℤ × ℕ)) → number (drop p s) ≡ x → Some (z, n) ≡ shifted p x → p ≤ length s → n ≤ length s
ends_by s p n z None e q h = absurd (none-some (z, n) (sym q))
ends_by s p n z (Some (y, k)) e q h = let c : n ≡ p + k = (some_pair q).1 in omega (arith, few (drop p s) k y e, length-drop p s)

pub number_ends : (s : List ℕ) (p n : ℕ) (z : ℤ) → Some (z, n) ≡ number_at s p → n ≤ length s
unfolding number_at
number_ends s p n z q = ⊎_elim
    (λ h. absurd (none-some (z, n) (past_end s p h ∙ sym q)))
    (λ h. ends_by s p n z (number (drop p s)) refl q (omega arith)) (le_or_lt (length s) p)
