-- Laws of reading at an offset of a text: what an answer shows, a line of one value, and the parameter. Assumes nothing.
use Rattle.std.specs.Prelude.{None, Option, Some}
use Prim.Native.Nat.{ℕ, zero, suc, ◌+◌, ◌-◌, ◌<◌}
use mathlib.Core.Path.{◌≡◌, refl, sym, ap, ◌∙◌}
use mathlib.Core.List.{List, [], ◌∷◌}
use mathlib.Core.Bool.{Bool, true, false, cond}
use native.Mathlib.Omega.{arith}
use lib.ListN.{length, drop}
use lib.IntN.{ℤ, pos}
use Rattle.rules_text.specs.declared.Row as source
use Rattle.rules_text.specs.Numbers.{Line, Row, bytes, same, lines, row}
use Rattle.rules_text.specs.Offsets.{row_at, bytes_of}
use Rattle.rules_text.proofs.RowLaws.{row_in, Held, held, not_held}
use Rattle.rules_text.specs.Tables.{Reading, faulty, found, taken, due, headed, cell, one, single, if_suits}
use Rattle.rules_text.proofs.LineLaws.{line, after, lines_after, next_lines}
use Rattle.rules_text.proofs.TableLaws.{row_there, due_none, due_some}
use Rattle.rules_text.proofs.UsedLaws.{Used, Rises}
use Rattle.rules_parts.specs.Parts.{parameter_by, parameter_of}

-- ---- what is read
-- the lines that it counts are used
pub read_used : {A : Type 0} (s : List ℕ) (n at : ℕ) (a : A) (line next : ℕ) (r : Reading A) → found a line (lines (drop next s)) ≡ r → Rises n r
    → next ≡ at + bytes_of (line - n) (lines (drop at s)) → Used s n at line next
read_used s n at a line next r e h o = record { up = h a line (lines (drop next s)) (sym e); offset = o }

-- past the line at an offset
pub past_line : (s : List ℕ) (at q : ℕ) → q ≡ at + length (line (drop at s)) → lines (after (drop at s)) ≡ lines (drop q s)
past_line s at q e = lines_after (drop at s) ∙ sym (next_lines s at q e)

-- ---- a line of one value
module _ (s : List ℕ) (at n : ℕ) where
  pub value_missing : row 1 (line (drop at s)) ≡ None → due single n (lines (drop at s)) ≡ faulty (n + 1)
  unfolding single
  value_missing e = due_none single n (drop at s) (ap one e)

  pub value_found : (x : Row) → row 1 (line (drop at s)) ≡ Some x → (q : ℕ) → q ≡ at + length (line (drop at s)) → due single n (lines (drop at s)) ≡ found (cell 0 x) (n + 1) (lines (drop q s))
  unfolding single
  value_found x e q eq =
      due_some single n (drop at s) (cell 0 x) (row_there (λ y. true) 0 x (drop at s) (ap (if_suits (λ y. true)) e)) (ap one e)
      ∙ ap (found (cell 0 x) (n + 1)) (past_line s at q eq)

-- the same as its reader answers
module _ (s : List ℕ) (at : ℕ) where
  pub single_none : None ≡ row_at 1 s at 1 → row 1 (line (drop at s)) ≡ None
  single_none e = not_held 1 (at + length (line (drop at s))) (row 1 (line (drop at s))) (e ∙ row_in 1 (λ o. o) s at 1 refl)

  pub single_held : (r : source.Row 1) → Some r ≡ row_at 1 s at 1 → Held 1 (at + length (line (drop at s))) (row 1 (line (drop at s))) r
  single_held r e = held 1 (at + length (line (drop at s))) (row 1 (line (drop at s))) r (e ∙ row_in 1 (λ o. o) s at 1 refl)

-- ---- the parameter: "-" alone, or a line of one value
abbrev missing : ℕ → List Line → Reading ℤ
missing = found (pos 0)

is_missing_lem : (b : Bool) (o : Option ℤ) (n : ℕ) (ls : List Line) (j : ℕ) (rest : List Line) → cond b (missing (suc n) ls) (faulty (suc n)) ≡ missing j rest
    → taken (cond b (Some (pos 0)) o) n ls ≡ missing j rest
is_missing_lem true o n ls j rest e = e
is_missing_lem false o n ls j rest e = let z : ◌≡◌ {A = ℕ} 0 1 = cc in absurd (omega arith)

is_there_lem : (b : Bool) (o : Option ℤ) (n : ℕ) (ls : List Line) (j : ℕ) → cond b (missing (suc n) ls) (faulty (suc n)) ≡ faulty j → taken (cond b (Some (pos 0)) o) n ls ≡ taken o n ls
is_there_lem true o n ls j e = let z : ◌≡◌ {A = ℕ} 0 1 = cc in absurd (omega arith)
is_there_lem false o n ls j e = refl

pub parameter_missing : (n : ℕ) (ls : List Line) (j : ℕ) (rest : List Line) → headed "-\n" missing n ls ≡ missing j rest → due parameter_of n ls ≡ missing j rest
unfolding headed due parameter_by
parameter_missing n [] j rest e = let z : ◌≡◌ {A = ℕ} 0 1 = cc in absurd (omega arith)
parameter_missing n (l ∷ ls) j rest e = is_missing_lem (same (bytes "-\n") l) (single l) n ls j rest e

pub parameter_there : (n : ℕ) (ls : List Line) (j : ℕ) → headed "-\n" missing n ls ≡ faulty j → due parameter_of n ls ≡ due single n ls
unfolding headed due parameter_by
parameter_there n [] j e = refl
parameter_there n (l ∷ ls) j e = is_there_lem (same (bytes "-\n") l) (single l) n ls j e
