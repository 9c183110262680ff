-- Laws of a table that is put from the cells of verdicts, a group of lines for each constraint. Assumes nothing.
use Prim.Native.Nat.{ℕ, ◌+◌, ◌*◌, ◌≤◌, ◌<◌, min}
use mathlib.Core.List.{List, map}
use mathlib.Core.Path.{◌≡◌, refl, ap, ◌∙◌}
use native.Mathlib.Nat.{mul-le-mul_left, mul-suc}
use native.Mathlib.Numerals.{add-one}
use native.Mathlib.Omega.{arith}
use lib.IntN.{ℤ}
use lib.ListN.{length, drop, take, get_or}
use Rattle.rules_number.proofs.OverLaws.{listed_length, listed_at, taken_at}
use Rattle.rules_path.specs.declared.Verdict.{Verdict}
use Rattle.rules_text.specs.Numbers.{Row}
use Rattle.rules_text.specs.Printing.{group_text, table_text}
use Rattle.rules_page.specs.Pages.{Put, printable}
use Rattle.page.proofs.PageLaws.{Putting, putting_start, putting_next, putting_done, table_next, table_done, taken_length, no_verdict}
use Rattle.rules_state.specs.Layout.{most_constraints}
use Rattle.rules_state.specs.Verdicts.{verdict_in, verdicts_in}

module _ (g : Verdict → List Row) (w : ℕ) (out : List ℕ) (at i n : ℕ) (l : List ℤ) where
  -- the verdicts that are printed
  abbrev used : List Verdict
  used = take n (verdicts_in l)

  used_length : length used ≡ min n most_constraints
  unfolding verdicts_in
  used_length = taken_length n (min n most_constraints) most_constraints (verdicts_in l) (listed_length (verdict_in l) most_constraints) refl

  used_at : (c : ℕ) → c < min n most_constraints → get_or used c no_verdict ≡ verdict_in l c
  unfolding verdicts_in
  used_at c h = taken_at n (verdicts_in l) c no_verdict (omega (arith, used_length)) ∙ listed_at (verdict_in l) no_verdict most_constraints c (omega arith)

  -- the table, and what is left of it after c constraints
  abbrev whole : List ℕ
  whole = table_text (printable i) 0 (map g used)

  abbrev rest : ℕ → List ℕ
  rest c = table_text (printable i) c (map g (drop c used))

  -- c constraints are put, each with w bytes at most
  pub record Table (now : List ℕ) (p c : ℕ) : Type 0 where
    pub put : Putting out at whole now p (rest c)
    pub so_far : c ≤ min n most_constraints
    pub few : p ≤ at + w * c

  pub table_start : Table out at 0
  table_start = record { put = putting_start out at whole; so_far = omega arith; few = omega arith }

  module _ (now : List ℕ) (p c : ℕ) (t : Table now p c) where
    pub table_more : (next : List ℕ) (q : ℕ) → c < min n most_constraints → Put w now p (group_text (printable i) c (g (verdict_in l c))) next q → Table next q (c + 1)
    table_more next q h x =
        let e : rest c ≡ _ = table_next g no_verdict (printable i) used c (omega (arith, used_length)) in
        record {
          put = putting_next t.put (group_text (printable i) c (g (verdict_in l c))) (rest (c + 1)) next q (rw (← (used_at c h)) e) x.buffer x.next;
          so_far = omega arith;
          few = let m : w * (c + 1) ≡ w * c + w = ap (λ (k : ℕ). w * k) (add-one c) ∙ rw mul-suc (omega arith) in omega (arith, x.few, t.few);
        }

    pub table_whole : min n most_constraints ≤ c → Put (w * most_constraints) out at whole now p
    table_whole h =
        let d = putting_done t.put (table_done g no_verdict (printable i) used c (omega (arith, used_length))) in
        record { buffer = d.0; next = d.1; few = omega (arith, t.few, mul-le-mul_left w (let k : c ≤ most_constraints = omega (arith, t.so_far) in k)) }
