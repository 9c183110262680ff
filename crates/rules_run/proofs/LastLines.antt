-- What is printed ends with the two lines of a refusal exactly when the run ends with that refusal. Assumes nothing.
use Rattle.std.specs.Prelude.{Some}
use Prim.Native.Nat.{ℕ, zero, suc, ◌+◌, ◌/◌, ◌%◌, ◌^◌, ◌≤◌, ◌<◌}
use mathlib.Core.Path.{◌≡◌, refl, sym, ap, ap₂, subst, ◌∙◌}
use mathlib.Core.List.{List, [], ◌∷◌, ◌++◌, append_assoc, append-nil, map}
use mathlib.Core.Bool.{true, cond}
use mathlib.Core.Logic.{⊎_elim, ◌↔◌}
use native.Mathlib.Omega.{arith}
use borrow.Author.Tests.{ne_eqb}
use lib.Dec.{eqb}
use lib.IntN.{ℤ, pos, negsuc}
use lib.ListN.{length, get_or, length-append}
use Rattle.rules_number.specs.Over.{listed}
use Rattle.rules_number.proofs.OverLaws.{le_or_lt}
use Rattle.rules_curve.specs.declared.Step.{Step}
use Rattle.rules_interval.specs.declared.Interval.{Interval}
use Rattle.rules_path.specs.Judgements.{path_in}
use Rattle.rules_path.specs.Paths.{withholdable}
use Rattle.rules_path.specs.Verdicts.{verdict_of}
use Rattle.rules_path.specs.declared.Market.{Market}
use Rattle.rules_opening.specs.Openings.{market_of}
use Rattle.rules_opening.specs.declared.Opening.{Opening}
use Rattle.rules_text.specs.Numbers.{Line, Row, bytes, lines, row}
use Rattle.rules_text.specs.Printing.{digits, decimal, line_text, group_text, table_text, refusal_text}
use Rattle.rules_text.specs.Spelled.{together, Every, no_more, and_all}
use Rattle.rules_text.proofs.ClosedLines.{line_closed, lines_together, every_map, every_append}
use Rattle.rules_text.proofs.NameLaws.{is_line}
use Rattle.rules_text.proofs.PrintLaws.{digits_one, digits_more}
use Rattle.rules_text.proofs.ReaderLaws.{row_every}
use Rattle.rules_page.specs.Pages.{verdict_names, seller_names, curve_names}
use Rattle.rules_page.proofs.OwnPage.{verdict_line, step_line, OwnPage}
use Rattle.rules_page.proofs.SellerLines.{seller_line}
use Rattle.rules_run.specs.Run.{output, Ended, ended_by, end_of, last_lines}
use Rattle.rules_run.proofs.Course.{eighteen_exactly}
use Rattle.rules_run.proofs.Meaning.{longer_refused}
use Rattle.rules_run.proofs.Program.{Prints, Program, refused, printed, program}
use Rattle.rules_run.proofs.RefusedLine.{end_few}
use Rattle.rules_run.proofs.SoFar.{lines_longer}

-- ---- the spaces of a line: a line of values has one less than values
spaces : List ℕ → ℕ
spaces [] = 0
spaces (b ∷ t) = cond (eqb b 32) 1 0 + spaces t

spaces_append : (s t : List ℕ) → spaces (s ++ t) ≡ spaces s + spaces t
unfolding spaces
spaces_append [] t = omega arith
spaces_append (b ∷ s) t = omega (arith, spaces_append s t)

digit_none : (n : ℕ) → spaces ((48 + n) ∷ []) ≡ 0
unfolding spaces
digit_none n = rw (ne_eqb (48 + n) 32 (λ q. omega arith))

digits_none : (f n : ℕ) → spaces (digits f n) ≡ 0
unfolding digits spaces
digits_none zero n = refl
digits_none (suc f) n = ⊎_elim (more (digits_none f (n / 10))) (λ h. ap spaces (digits_one f n h) ∙ digit_none n) (le_or_lt 10 n)
  where
    more : spaces (digits f (n / 10)) ≡ 0 → 10 ≤ n → spaces (digits (suc f) n) ≡ 0
    more ih h = ap spaces (digits_more f n h) ∙ omega (arith, spaces_append (digits f (n / 10)) ((48 + n % 10) ∷ []), digit_none (n % 10))

decimal_none : (z : ℤ) → spaces (decimal z) ≡ 0
unfolding decimal spaces
decimal_none (pos n) = digits_none 19 n
decimal_none (negsuc n) = omega (arith, digits_none 19 (suc n))

line_spaces : (z : ℤ) (zs : Row) → spaces (line_text (z ∷ zs)) ≡ length zs
unfolding line_text spaces
line_spaces z [] = spaces_append (decimal z) (10 ∷ []) ∙ omega (arith, decimal_none z)
line_spaces z (y ∷ zs) = spaces_append (decimal z) (32 ∷ line_text (y ∷ zs)) ∙ omega (arith, decimal_none z, line_spaces y zs)

-- ---- the lines of the tables that a page ends with: each is closed and has three spaces, so that none is the line of two values
abbrev Wide : Line → Type 0
Wide l = (is_line l ≡ true) × (spaces l ≡ 3)

record WideText (t : List ℕ) : Type 0 where
  ls : List Line
  is : t ≡ together ls
  wide : Every Wide ls

together_append : (ls ls' : List Line) → together (ls ++ ls') ≡ together ls ++ together ls'
unfolding together
together_append [] ls' = refl
together_append (l ∷ ls) ls' = ap (λ (t : List ℕ). l ++ t) (together_append ls ls') ∙ sym (append_assoc l (together ls) (together ls'))

wide_append : (s t : List ℕ) → WideText s → WideText t → WideText (s ++ t)
wide_append s t a b = record {
  ls = a.ls ++ b.ls;
  is = ap₂ (λ (x y : List ℕ). x ++ y) a.is b.is ∙ sym (together_append a.ls b.ls);
  wide = every_append Wide a.ls b.ls a.wide b.wide;
}

wide_line : (l : Line) → is_line l ≡ true → spaces l ≡ 3 → WideText l
unfolding together
wide_line l h k = record { ls = l ∷ []; is = sym (append-nil l); wide = and_all (h, k) no_more }

-- rows of two values, past the interval and the constraint or resource
abbrev Pairs : List Row → Type 0
Pairs xs = Every (λ x. length x ≡ 2) xs

wide_group : (i c : ℕ) (xs : List Row) → Pairs xs → WideText (group_text i c xs)
unfolding group_text together
wide_group i c [] h = record { ls = []; is = refl; wide = no_more }
wide_group i c (x ∷ xs) (and_all p h) =
    wide_append (line_text (pos i ∷ pos c ∷ x)) (group_text i c xs) (wide_line (line_text (pos i ∷ pos c ∷ x)) (line_closed (pos i) (pos c ∷ x)) (line_spaces (pos i) (pos c ∷ x) ∙ ap suc p))
    (wide_group i c xs h)

wide_table : (i c : ℕ) (gs : List (List Row)) → Every Pairs gs → WideText (table_text i c gs)
unfolding table_text together
wide_table i c [] h = record { ls = []; is = refl; wide = no_more }
wide_table i c (g ∷ gs) (and_all p h) = wide_append (group_text i c g) (table_text i (suc c) gs) (wide_group i c g p) (wide_table i (suc c) gs h)

every_listed : {A : Type 0} (P : A → Type 0) (f : ℕ → A) (n : ℕ) → ((i : ℕ) → i < n → P (f i)) → Every P (listed f n)
unfolding listed
every_listed P f zero h = no_more
every_listed P f (suc n) h = every_append P (listed f n) (f n ∷ []) (every_listed P f n (λ i l. h i (omega arith))) (and_all (h n (omega arith)) no_more)

pairs_map : {A : Type 0} (f : A → Row) → ((a : A) → length (f a) ≡ 2) → (l : List A) → Pairs (map f l)
pairs_map f h [] = no_more
pairs_map f h (a ∷ l) = and_all (h a) (pairs_map f h l)

-- a text that ends with such lines, after a byte 10
record WideEnd (t : List ℕ) : Type 0 where
  front : List ℕ
  ls : List Line
  is : t ≡ (front ++ (10 ∷ [])) ++ together ls
  wide : Every Wide ls
  some : 0 < length ls

some_of : (t : List ℕ) (w : WideText t) → 0 < length t → 0 < length w.ls
unfolding together
some_of t w h = go w.ls w.is
  where
    go : (ls : List Line) → t ≡ together ls → 0 < length ls
    go [] e = absurd (omega (arith, h, ap length e))
    go (l ∷ ls) e = omega arith

-- after a names line with its byte 10
end_of_lem : (t names w : List ℕ) → t ≡ (names ++ (10 ∷ [])) ++ w → WideText w → 0 < length w → WideEnd t
end_of_lem t names w e x h = record { front = names; ls = x.ls; is = e ∙ ap (λ (y : List ℕ). (names ++ (10 ∷ [])) ++ y) x.is; wide = x.wide; some = some_of w x h }

-- the lines of sellers and of curves, with the curves' names line between them
page_end : (i : ℕ) (m : Market) (v : Interval) (n : ℕ) (curves : ℕ → List Step) (page : List ℕ) → OwnPage i m v n curves page → WideEnd page
unfolding spaces
page_end i m v n curves page p =
    let verdicts = table_text i 0 (listed (λ c. verdict_line (verdict_of (path_in m v c)) ∷ []) v.constraints) in
    let sellers = table_text i 0 (listed p.sellers v.constraints) in
    let steps = table_text i 0 (listed (λ r. map step_line (curves r)) n) in
    let names = bytes "interval constraint portfolio withheld" in
    let ws = wide_table i 0 (listed p.sellers v.constraints) (every_listed Pairs p.sellers v.constraints
    (λ c l. subst Pairs (sym (p.named c l).lines) (pairs_map (seller_line (withholdable (path_in m v c))) (λ q. refl) (p.named c l).who))) in
    let wc = wide_table i 0 (listed (λ r. map step_line (curves r)) n) (every_listed Pairs (λ r. map step_line (curves r)) n (λ r l. pairs_map step_line (λ s. refl) (curves r))) in
    let w = wide_append sellers (curve_names ++ steps) ws (wide_append curve_names steps (wide_line curve_names refl refl) wc) in
    let size : length curve_names ≡ 28 = refl in
    let regroup : (verdict_names ++ (verdicts ++ (seller_names ++ sellers))) ++ (curve_names ++ steps) ≡ (((verdict_names ++ verdicts) ++ names) ++ (10 ∷ [])) ++ (sellers ++ (curve_names ++ steps)) =
    simp append_assoc in
    end_of_lem page ((verdict_names ++ verdicts) ++ names) (sellers ++ (curve_names ++ steps)) (p.is ∙ regroup) w
    (omega (arith, size, length-append sellers (curve_names ++ steps), length-append curve_names steps))

-- ---- the last line of a text
last_of : List Line → Line
last_of [] = []
last_of (l ∷ []) = l
last_of (l ∷ k ∷ ls) = last_of (k ∷ ls)

last_append : (a ls : List Line) → 0 < length ls → last_of (a ++ ls) ≡ last_of ls
unfolding last_of
last_append [] ls h = refl
last_append (l ∷ []) [] h = absurd (omega arith)
last_append (l ∷ []) (k ∷ ls) h = refl
last_append (l ∷ k ∷ a) ls h = last_append (k ∷ a) ls h

last_wide : (ls : List Line) → Every Wide ls → 0 < length ls → spaces (last_of ls) ≡ 3
unfolding last_of
last_wide [] h k = absurd (omega arith)
last_wide (l ∷ []) (and_all p h) k = p.1
last_wide (l ∷ m ∷ ls) (and_all p h) k = last_wide (m ∷ ls) h (omega arith)

-- closed lines after a byte 10
lines_end : (front : List ℕ) (ls : List Line) → Every (λ l. is_line l ≡ true) ls → lines ((front ++ (10 ∷ [])) ++ together ls) ≡ lines (front ++ (10 ∷ [])) ++ ls
lines_end front ls h =
    lines_longer front (together ls)
    ∙ ap (λ (t : List Line). lines (front ++ (10 ∷ [])) ++ t) (ap lines (sym (append-nil (together ls))) ∙ lines_together ls [] h ∙ append-nil ls)

-- of the text of a refusal, whatever stands before it, the line of its two values
refusal_last : (before : List ℕ) (number line : ℕ) → last_of (lines (before ++ refusal_text number line)) ≡ line_text (pos number ∷ pos line ∷ [])
unfolding refusal_text together last_of
refusal_last before number line =
    let l = line_text (pos number ∷ pos line ∷ []) in
    let names = bytes "refusal line" in
    let regroup : before ++ (bytes "refusal line\n" ++ l) ≡ ((before ++ names) ++ (10 ∷ [])) ++ (l ++ []) = simp (append_assoc, append-nil) in
    ap (λ (t : List ℕ). last_of (lines t)) regroup ∙ ap last_of (lines_end (before ++ names) (l ∷ []) (and_all (line_closed (pos number) (pos line ∷ [])) no_more))
    ∙ last_append (lines ((before ++ names) ++ (10 ∷ []))) (l ∷ []) (omega arith)

-- of a text that ends with wide lines, none of two values
wide_last : (t : List ℕ) → WideEnd t → spaces (last_of (lines t)) ≡ 3
wide_last t w =
    ap (λ (x : List ℕ). spaces (last_of (lines x))) w.is
    ∙ ap (λ (x : List Line). spaces (last_of x)) (lines_end w.front w.ls (every_map Wide (λ l. is_line l ≡ true) (λ l p. p.0) w.ls w.wide))
    ∙ ap spaces (last_append (lines (w.front ++ (10 ∷ []))) w.ls w.some) ∙ last_wide w.ls w.wide w.some

-- more before it
wide_after : (x t : List ℕ) → WideEnd t → WideEnd (x ++ t)
wide_after x t w = record {
  front = x ++ w.front;
  ls = w.ls;
  is = ap (λ (y : List ℕ). x ++ y) w.is ∙ (simp append_assoc);
  wide = w.wide;
  some = w.some;
}

-- the values of two lines of two small values
two_values : (a b c d : ℕ) → a < 10 ^ 12 → b < 10 ^ 12 → c < 10 ^ 12 → d < 10 ^ 12 → line_text (pos a ∷ pos b ∷ []) ≡ line_text (pos c ∷ pos d ∷ []) → (a ≡ c) × (b ≡ d)
two_values a b c d ha hb hc hd e =
    let x : row 2 (line_text (pos a ∷ pos b ∷ [])) ≡ Some (pos a ∷ pos b ∷ []) = row_every 2 (pos a ∷ pos b ∷ []) refl (and_all ha (and_all hb no_more)) in
    let y : row 2 (line_text (pos c ∷ pos d ∷ [])) ≡ Some (pos c ∷ pos d ∷ []) = row_every 2 (pos c ∷ pos d ∷ []) refl (and_all hc (and_all hd no_more)) in
    let z : Some (pos a ∷ pos b ∷ []) ≡ Some (pos c ∷ pos d ∷ []) = sym x ∙ ap (row 2) e ∙ y in
    ((cc), (cc))

-- ---- the pages of calls
split_last : {A : Type 0} (x : A) (l : List A) → (before : List A) × (v : A) × (x ∷ l ≡ before ++ (v ∷ []))
split_last x [] = ([], x, refl)
split_last x (y ∷ l) = let s = split_last y l in (x ∷ s.0, s.1, ap (λ t. x ∷ t) s.2)

together_last : (pages : List (List ℕ)) (k : ℕ) → length pages ≡ suc k → (x : List ℕ) × (together pages ≡ x ++ get_or pages k [])
unfolding together
together_last [] k e = absurd (omega arith)
together_last (p ∷ pages) zero e = ([], ap (λ (t : List ℕ). p ++ t) (empty pages (omega arith)) ∙ append-nil p)
  where
    empty : (l : List (List ℕ)) → length l ≡ 0 → together l ≡ []
    empty [] z = refl
    empty (x ∷ l) z = absurd (omega arith)
together_last (p ∷ pages) (suc k) e =
    let x = together_last pages k (omega arith) in
    (p ++ x.0, ap (λ (t : List ℕ). p ++ t) x.1 ∙ sym (append_assoc p x.0 (get_or pages k [])))

-- where nothing is refused, what is printed does not end with the lines of a refusal
module _ (text : List ℕ) (o : Opening) (calls : List Interval) (p : Prints text o calls) (before : List ℕ) (number line : ℕ) (ends : output text ≡ before ++ refusal_text number line) where
  no_refusal : together p.pages ≡ output text → ⊥
  unfolding refusal_text together
  no_refusal e = go calls refl
    where
      go : (c : List Interval) → calls ≡ c → ⊥
      go [] z = none p.pages (p.count ∙ ap length z) e
        where
          none : (pages : List (List ℕ)) → length pages ≡ 0 → together pages ≡ output text → ⊥
          none [] n q = omega (arith, ap length (q ∙ ends), length-append before (bytes "refusal line\n" ++ line_text (pos number ∷ pos line ∷ [])), length-append (bytes "refusal line\n") (line_text (pos number ∷ pos line ∷ [])))
          none (x ∷ pages) n q = omega arith
      go (v ∷ later) z =
          let s = split_last v later in
          let whole : calls ≡ s.0 ++ (s.1 ∷ []) = z ∙ s.2 in
          let count : length p.pages ≡ suc (length s.0) = omega (arith, p.count, ap length whole, length-append s.0 (s.1 ∷ [])) in
          let t = together_last p.pages (length s.0) count in
          let page = p.page s.0 s.1 [] whole in
          let w = wide_after t.0 (get_or p.pages (length s.0) []) (page_end (suc (length s.0)) (market_of o) s.1 o.resources page.steps (get_or p.pages (length s.0) []) page.tables) in
          let three = wide_last (t.0 ++ get_or p.pages (length s.0) []) w in
          let same : t.0 ++ get_or p.pages (length s.0) [] ≡ before ++ refusal_text number line = sym t.1 ∙ e ∙ ends in
          let one = ap spaces (refusal_last before number line) ∙ line_spaces (pos number) (pos line ∷ []) in
          omega (arith, three, ap (λ (x : List ℕ). spaces (last_of (lines x))) same, one)

-- "On refusal the program prints the line `refusal line`, then a line of the two values .. and stops": what is printed ends with these two lines exactly when the
-- run ends with that refusal.
pub last_lines_exactly : (text : List ℕ) (number line : ℕ) → 0 < number → number < 10 ^ 12 → line < 10 ^ 12
    → (end_of text ≡ ended_by number line) ↔ ((before : List ℕ) × (output text ≡ before ++ refusal_text number line))
last_lines_exactly text zero line h a b = absurd (omega arith)
last_lines_exactly text (suc number) line h a b = ((λ e. there e (program text)), λ x. back x.0 x.1 (program text))
  where
    there : end_of text ≡ ended_by (suc number) line → Program text → (before : List ℕ) × (output text ≡ before ++ refusal_text (suc number) line)
    there e (refused h p) = ([], p ∙ ap (λ (x : Ended). refusal_text x.number x.line) e)
    there e (printed o calls own rest is acc p) = (together p.pages, p.prints ∙ ap (λ (x : Ended). together p.pages ++ last_lines x.number x.line) e)

    -- the values of the last line
    read : (x before : List ℕ) (k j : ℕ) → end_of text ≡ ended_by k j → output text ≡ x ++ refusal_text k j → output text ≡ before ++ refusal_text (suc number) line → end_of text ≡ ended_by (suc number) line
    read x before k j e p q =
        let few = end_few text in
        let kn : k < 10 ^ 12 = omega (arith, few.0, ap (λ (y : Ended). y.number) e) in
        let jn : j < 10 ^ 12 = omega (arith, few.1, ap (λ (y : Ended). y.line) e) in
        let v = two_values k j (suc number) line kn jn a b (sym (refusal_last x k j) ∙ ap (λ (t : List ℕ). last_of (lines t)) (sym p ∙ q) ∙ refusal_last before (suc number) line) in
        e ∙ ap₂ ended_by v.0 v.1

    back : (before : List ℕ) → output text ≡ before ++ refusal_text (suc number) line → Program text → end_of text ≡ ended_by (suc number) line
    back before q (refused h p) = read [] before (end_of text).number (end_of text).line refl p q
    back before q (printed o calls own rest is acc p) = go (end_of text).number refl
      where
        go : (k : ℕ) → (end_of text).number ≡ k → end_of text ≡ ended_by (suc number) line
        go zero z = absurd (no_refusal text o calls p before (suc number) line q (sym (p.prints ∙ ap (λ (k : ℕ). together p.pages ++ last_lines k (end_of text).line) z ∙ append-nil (together p.pages))))
        go (suc k) z =
            read (together p.pages) before (suc k) (end_of text).line (ap (λ (n : ℕ). ended_by n (end_of text).line) z)
            (p.prints ∙ ap (λ (n : ℕ). together p.pages ++ last_lines n (end_of text).line) z) q

-- 18 in print: a text is answered with it, on line 1, exactly when it has more than 65,536 bytes
pub eighteen_printed : (text : List ℕ) → (output text ≡ bytes "refusal line\n18 1\n") ↔ (65536 < length text)
unfolding digits decimal line_text refusal_text
eighteen_printed text = (
  (λ p. (eighteen_exactly text).0 (ap (λ (x : Ended). x.number) ((last_lines_exactly text 18 1 (omega arith) (omega arith) (omega arith)).1 ([], p)))),
  longer_refused text,
)
