-- Laws of lines that are used: the offset after them is the offset before them plus their bytes. Assumes nothing.
use Rattle.std.specs.Prelude.{None, Some, Option}
use Prim.Native.Nat.{ℕ, zero, suc, ◌+◌, ◌-◌, ◌≤◌}
use Prim.Native.String.{String}
use mathlib.Core.Path.{◌≡◌, refl, sym, ap, ◌∙◌}
use mathlib.Core.List.{List, [], ◌∷◌}
use mathlib.Core.Bool.{Bool, true, false, cond}
use native.Mathlib.Omega.{arith}
use Rattle.std.proofs.lemmas.Option.{cond_some}
use lib.ListN.{length, drop, take, length-append}
use lib.Seq.{drop-drop}
use Rattle.rules_text.specs.Numbers.{Line, Row, bytes, same, lines, row}
use Rattle.rules_text.specs.Tables.{Reader, Reading, faulty, found, next, ◌▷◌, taken, due, headed, has_id, if_suits, rows, each, grouped}
use Rattle.rules_text.specs.Spelled.{together}
use Rattle.rules_text.specs.Offsets.{names_at, bytes_of}
use Rattle.rules_text.proofs.LineLaws.{line, after, lines_cons}
use Rattle.rules_text.proofs.NameLaws.{is_line, same_eq, past_names}

-- ---- the bytes of lines
pub bytes_none : (ls : List Line) → bytes_of 0 ls ≡ 0
unfolding bytes_of together
bytes_none ls = refl

bytes_end : (k : ℕ) → bytes_of k [] ≡ 0
unfolding bytes_of together
bytes_end zero = refl
bytes_end (suc k) = refl

bytes_cons : (k : ℕ) (l : Line) (ls : List Line) → bytes_of (suc k) (l ∷ ls) ≡ length l + bytes_of k ls
unfolding bytes_of together
bytes_cons k l ls = length-append l (together (take k ls))

-- those of k lines, and then of j more
pub bytes_add : (k j : ℕ) (ls : List Line) → bytes_of (k + j) ls ≡ bytes_of k ls + bytes_of j (drop k ls)
bytes_add zero j ls = let z : 0 + j ≡ j = omega arith in ap (λ (i : ℕ). bytes_of i ls) z ∙ omega (arith, bytes_none ls)
bytes_add (suc k) j [] = omega (arith, bytes_end (suc k + j), bytes_end (suc k), bytes_end j)
bytes_add (suc k) j (l ∷ ls) =
    let z : suc k + j ≡ suc (k + j) = omega arith in
    ap (λ (i : ℕ). bytes_of i (l ∷ ls)) z ∙ omega (arith, bytes_cons (k + j) l ls, bytes_cons k l ls, bytes_add k j ls)

bytes_one : (t : List ℕ) → bytes_of 1 (lines t) ≡ length (line t)
bytes_one [] = bytes_end 1
bytes_one (b ∷ u) = ap (bytes_of 1) (lines_cons b u) ∙ omega (arith, bytes_cons 0 (line (b ∷ u)) (lines (after (b ∷ u))), bytes_none (lines (after (b ∷ u))))

-- past the bytes of k lines stand the lines after them
bytes_rest : (k : ℕ) (t : List ℕ) → lines (drop (bytes_of k (lines t)) t) ≡ drop k (lines t)
bytes_rest zero t = ap (λ (n : ℕ). lines (drop n t)) (bytes_none (lines t))
bytes_rest (suc k) [] = ap (λ (n : ℕ). lines (drop n [])) (bytes_end (suc k))
bytes_rest (suc k) (b ∷ u) =
    let t = b ∷ u in
    let e = lines_cons b u in
    ap (λ (ls : List Line). lines (drop (bytes_of (suc k) ls) t)) e
    ∙ ap (λ (n : ℕ). lines (drop n t)) (bytes_cons k (line t) (lines (after t)))
    ∙ ap lines (sym (drop-drop (bytes_of k (lines (after t))) (length (line t)) t))
    ∙ bytes_rest k (after t)
    ∙ sym (ap (drop (suc k)) e)

-- and so at any offset of a text
pub bytes_past : (s : List ℕ) (at k at' : ℕ) → at' ≡ at + bytes_of k (lines (drop at s)) → lines (drop at' s) ≡ drop k (lines (drop at s))
bytes_past s at k at' e = ap (λ (i : ℕ). lines (drop i s)) e ∙ ap lines (sym (drop-drop (bytes_of k (lines (drop at s))) at s)) ∙ bytes_rest k (drop at s)

-- six bytes and two, the bytes 10 included
pub bytes_two : bytes_of 2 (lines (bytes "month\n7\nportfolio seller\n")) ≡ 8
unfolding bytes_of together
bytes_two = refl

-- ---- lines that are used
-- from offset `at`, before which n lines stand, to offset at', before which n' lines stand
pub record Used (s : List ℕ) (n at n' at' : ℕ) : Type 0 where
  pub up : n ≤ n'
  pub offset : at' ≡ at + bytes_of (n' - n) (lines (drop at s))

-- k lines
pub used_lines : (s : List ℕ) (n at k at' : ℕ) → at' ≡ at + bytes_of k (lines (drop at s)) → (n' : ℕ) → n' ≡ n + k → Used s n at n' at'
used_lines s n at k at' e n' en = let z : k ≡ n' - n = omega arith in record { up = omega arith; offset = e ∙ ap (λ (i : ℕ). at + bytes_of i (lines (drop at s))) z }

pub used_none : (s : List ℕ) (n at : ℕ) → Used s n at n at
used_none s n at = used_lines s n at 0 at (omega (arith, bytes_none (lines (drop at s)))) n (omega arith)

-- the line at an offset
pub used_line : (s : List ℕ) (n at at' : ℕ) → at' ≡ at + length (line (drop at s)) → Used s n at (n + 1) at'
used_line s n at at' e = used_lines s n at 1 at' (omega (arith, bytes_one (drop at s))) (n + 1) refl

module _ {s : List ℕ} {n at n' at' : ℕ} (u : Used s n at n' at') where
  -- some lines, and then others
  pub used_then : {n'' at'' : ℕ} → Used s n' at' n'' at'' → Used s n at n'' at''
  used_then {n''} {at''} v =
      let j = n' - n in
      let k = n'' - n' in
      let ls = lines (drop at s) in
      let e : at'' ≡ at' + bytes_of k (drop j ls) = v.offset ∙ ap (λ (l : List Line). at' + bytes_of k l) (bytes_past s at j at' u.offset) in
      let o = u.offset in
      let a = u.up in
      let b = v.up in
      used_lines s n at (j + k) at'' (omega (arith, bytes_add j k ls)) n'' (omega arith)

  pub used_next : {at'' : ℕ} → at'' ≡ at' + length (line (drop at' s)) → Used s n at (n' + 1) at''
  used_next {at''} e = used_then (used_line s n' at' at'' e)

-- lines that are counted from 0
pub used_count : {s : List ℕ} {at k at' : ℕ} → Used s 0 at k at' → at' ≡ at + bytes_of k (lines (drop at s))
used_count {s} {at} {k} u = let z : k - 0 ≡ k = omega arith in u.offset ∙ ap (λ (i : ℕ). at + bytes_of i (lines (drop at s))) z

-- ---- a names line
first_by : (names : String) (l : Line) (ls rest : List Line) (b : Bool) → same (bytes names) l ≡ b → cond b (found ls 1 []) (faulty 1) ≡ found rest 1 [] → bytes_of 1 (l ∷ ls) ≡ length (bytes names)
first_by names l ls rest true h e = omega (arith, bytes_cons 0 l ls, bytes_none ls, ap length (same_eq (bytes names) l h))
first_by names l ls rest false h e = let z : ◌≡◌ {A = ℕ} 0 1 = cc in absurd (omega arith)

first_bytes : (names : String) (ls rest : List Line) → headed names (λ n l. found l n []) 0 ls ≡ found rest 1 [] → bytes_of 1 ls ≡ length (bytes names)
unfolding headed
first_bytes names [] rest e = let z : ◌≡◌ {A = ℕ} 0 1 = cc in absurd (omega arith)
first_bytes names (l ∷ ls) rest e = first_by names l ls rest (same (bytes names) l) refl e

pub used_names : (names : String) (s : List ℕ) (n at : ℕ) → is_line (bytes names) ≡ true → (q : ℕ) → Some q ≡ names_at s at (bytes names) → Used s n at (n + 1) q
unfolding names_at
used_names names s n at w q e =
    let f = first_bytes names (lines (drop at s)) (lines (drop q s)) (past_names names (λ n l. found l n []) 0 s at w q e) in
    let g = cond_some (same (bytes names) (take (length (bytes names)) (drop at s))) (at + length (bytes names)) q (sym e) in
    used_lines s n at 1 q (omega (arith, g.1)) (n + 1) refl

-- ---- the number of the last line is not below that of the line before the first
abbrev pub Rises : {A : Type 0} → ℕ → Reading A → Type 0
Rises {A} n r = (a : A) (k : ℕ) (ls : List Line) → r ≡ found a k ls → n ≤ k

rises_fault : {A : Type 0} (n line : ℕ) → Rises {A = A} n (faulty line)
rises_fault n line a k ls e = let z : ◌≡◌ {A = ℕ} 0 1 = cc in absurd (omega arith)

pub rises_found : {A : Type 0} (a : A) (n : ℕ) (ls : List Line) → Rises n (found a n ls)
rises_found a n ls b k rest e = let z : n ≡ k = cc in omega arith

rises_cond : {A : Type 0} (n : ℕ) (b : Bool) (r : Reading A) (line : ℕ) → Rises n r → Rises n (cond b r (faulty line))
rises_cond n true r line h = h
rises_cond n false r line h = rises_fault n line

pub rises_then : {A B : Type 0} (n : ℕ) (r : Reading A) (f : A → Reader B) → Rises n r → ((a : A) (k : ℕ) (ls : List Line) → Rises k (f a k ls)) → Rises n (next r f)
rises_then n (faulty line) f h g = rises_fault n line
rises_then n (found a k ls) f h g = λ b j rest e. omega (arith, h a k ls refl, g a k ls b j rest e)

pub rises_headed : {A : Type 0} (names : String) (r : Reader A) → ((k : ℕ) (ls : List Line) → Rises k (r k ls)) → (n : ℕ) (ls : List Line) → Rises n (headed names r n ls)
unfolding headed
rises_headed names r h n [] = rises_fault n (suc n)
rises_headed names r h n (l ∷ ls) = rises_cond n (same (bytes names) l) (r (suc n) ls) (suc n) (λ a k rest e. omega (arith, h (suc n) ls a k rest e))

rises_taken : {A : Type 0} (n : ℕ) (o : Option A) (ls : List Line) → Rises n (taken o n ls)
rises_taken n None ls = rises_fault n (suc n)
rises_taken n (Some a) ls = λ b k rest e. omega (arith, rises_found a (suc n) ls b k rest e)

pub rises_due : {A : Type 0} (is : Line → Option A) (n : ℕ) (ls : List Line) → Rises n (due is n ls)
unfolding due
rises_due is n [] = rises_fault n (suc n)
rises_due is n (l ∷ ls) = rises_taken n (is l) ls

pub rises_each : (k m r n : ℕ) (ls : List Line) → Rises n (each k m r n ls)
unfolding each
rises_each k zero r n ls = rises_found [] n ls
rises_each k (suc m) r n ls =
    rises_then n (due (λ l. if_suits (has_id r) (row k l)) n ls) (λ x. each k m (suc r) ▷ λ xs. found (x ∷ xs)) (rises_due (λ l. if_suits (has_id r) (row k l)) n ls)
    (λ x j rest. rises_then j (each k m (suc r) j rest) (λ xs. found (x ∷ xs)) (rises_each k m (suc r) j rest) (λ xs. rises_found (x ∷ xs)))

rises_rows : (of : List Line → List Row) (n : ℕ) (ls : List Line) → Rises n (rows of n ls)
unfolding rows
rises_rows of n ls a k rest e = omega (arith, rises_found (of ls) (n + length (of ls)) (drop (length (of ls)) ls) a k rest e)

pub rises_grouped : (of : ℕ → List Line → List Row) (m r n : ℕ) (ls : List Line) → Rises n (grouped of m r n ls)
unfolding grouped
rises_grouped of zero r n ls = rises_found [] n ls
rises_grouped of (suc m) r n ls =
    rises_then n (rows (of r) n ls) (λ g. grouped of m (suc r) ▷ λ gs. found (g ∷ gs)) (rises_rows (of r) n ls)
    (λ g j rest. rises_then j (grouped of m (suc r) j rest) (λ gs. found (g ∷ gs)) (rises_grouped of m (suc r) j rest) (λ gs. rises_found (g ∷ gs)))
