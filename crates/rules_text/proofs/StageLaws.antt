-- Laws of stages: a table with its names line, read at an offset of a text, ends at another, and what was read has no more lines than the text. Assumes nothing.
use Rattle.std.specs.Prelude.{Some, None, Option}
use Prim.Native.Nat.{ℕ, suc, ◌+◌, ◌≤◌}
use Prim.Native.String.{String}
use mathlib.Core.Path.{◌≡◌, refl, sym, ap, ◌∙◌}
use mathlib.Core.List.{List, [], ◌∷◌}
use mathlib.Core.Bool.{Bool, true, false, cond}
use native.Mathlib.Omega.{arith}
use lib.ListN.{length, drop, length-drop}
use Rattle.rules_text.specs.Numbers.{Line, Row, bytes, same, lines, row}
use Rattle.rules_text.specs.Tables.{Reader, faulty, found, headed, if_suits, and_more, run, rows}
use Rattle.rules_text.specs.Offsets.{names_at, bytes_of}
use Rattle.rules_text.proofs.LineLaws.{lines_few}
use Rattle.rules_text.proofs.NameLaws.{is_line, past_names}
use Rattle.rules_text.proofs.UsedLaws.{Used, bytes_past, used_lines, used_names, used_then}

-- ---- how many lines are read
more_few : (o : Option Row) (more : Row → List Row) (m : ℕ) → ((x : Row) → length (more x) ≤ m) → length (and_more o more) ≤ suc m
more_few None more m h = omega arith
more_few (Some x) more m h = let q = h x in omega arith

-- a run has no more rows than there are lines
pub run_few : (k : ℕ) (suits : ℕ → Row → Bool) (step : ℕ → Row → ℕ) (i : ℕ) (ls : List Line) → length (run k suits step i ls) ≤ length ls
unfolding run
run_few k suits step i [] = omega arith
run_few k suits step i (l ∷ ls) = more_few (if_suits (suits i) (row k l)) (λ x. run k suits step (step i x) ls) (length ls) (λ x. run_few k suits step (step i x) ls)

rest_few : (b : Bool) (ls rest : List Line) → cond b (found ls 1 []) (faulty 1) ≡ found rest 1 [] → length rest + 1 ≤ suc (length ls)
rest_few true ls rest e = let q : ls ≡ rest = cc in omega (arith, ap length q)
rest_few false ls rest e = let z : ◌≡◌ {A = ℕ} 0 1 = cc in absurd (omega arith)

headed_few : (names : String) (ls rest : List Line) → headed names (λ n l. found l n []) 0 ls ≡ found rest 1 [] → length rest + 1 ≤ length ls
unfolding headed
headed_few names [] rest e = let z : ◌≡◌ {A = ℕ} 0 1 = cc in absurd (omega arith)
headed_few names (l ∷ ls) rest e = rest_few (same (bytes names) l) ls rest e

-- past a names line there is one line fewer
pub names_few : (names : String) (s : List ℕ) (at : ℕ) → is_line (bytes names) ≡ true → (q : ℕ) → Some q ≡ names_at s at (bytes names) → length (lines (drop q s)) + 1 ≤ length (lines (drop at s))
names_few names s at w q e = headed_few names (lines (drop at s)) (lines (drop q s)) (past_names names (λ n l. found l n []) 0 s at w q e)

-- the lines of a text from an offset on are no more than its bytes
pub text_few : (s : List ℕ) (at : ℕ) → length (lines (drop at s)) ≤ length s
text_few s at = let f = lines_few (drop at s) in let d = length-drop at s in omega arith

-- ---- stages
-- x is read at offset `at`, before which n lines stand, and what follows it at offset at', before which n' lines stand
pub record Stage {A : Type 0} (r : Reader A) (s : List ℕ) (n at : ℕ) (x : A) (n' at' : ℕ) : Type 0 where
  pub is : r n (lines (drop at s)) ≡ found x n' (lines (drop at' s))
  pub few : n' + length (lines (drop at' s)) ≤ n + length (lines (drop at s))
  pub used : Used s n at n' at'

-- a table's rows, those of `of`, past its names
pub table_rows : (of : List Line → List Row) → ((ls : List Line) → length (of ls) ≤ length ls)
    → (s : List ℕ) (n at count at' : ℕ) → count ≡ length (of (lines (drop at s))) → at' ≡ at + bytes_of count (lines (drop at s))
    → Stage (rows of) s n at (of (lines (drop at s))) (n + count) at'
unfolding rows
table_rows of fits s n at count at' ec en =
    let ls = lines (drop at s) in
    let er : lines (drop at' s) ≡ drop count ls = bytes_past s at count at' en in
    let g = fits ls in
    let d : length (lines (drop at' s)) ≡ length (drop count ls) = ap length er in
    let l = length-drop count ls in
    record {
      is = ap (λ (k : ℕ). found (of ls) (n + k) (drop k ls)) (sym ec) ∙ ap (found (of ls) (n + count)) (sym er);
      few = omega arith;
      used = used_lines s n at count at' en (n + count) refl;
    }

-- the table with its names
pub table : (names : String) (of : List Line → List Row) → is_line (bytes names) ≡ true → ((ls : List Line) → length (of ls) ≤ length ls)
    → (s : List ℕ) (n at q : ℕ) → Some q ≡ names_at s at (bytes names) → (count at' : ℕ) → count ≡ length (of (lines (drop q s))) → at' ≡ q + bytes_of count (lines (drop q s))
    → Stage (headed names (rows of)) s n at (of (lines (drop q s))) (n + 1 + count) at'
table names of w fits s n at q e count at' ec en =
    let t = table_rows of fits s (n + 1) q count at' ec en in
    record {
      is = past_names names (rows of) n s at w q e ∙ t.is;
      few = omega (arith, t.few, names_few names s at w q e);
      used = used_then (used_names names s n at w q e) t.used;
    }
