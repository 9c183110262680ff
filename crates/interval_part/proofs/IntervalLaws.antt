-- Laws of the interval's part: table after table. Assumes nothing.
use Rattle.std.specs.Prelude.{None, Some}
use Prim.Native.Nat.{ℕ, ◌+◌}
use mathlib.Core.Path.{◌≡◌, refl, sym, ap, ◌∙◌}
use mathlib.Core.List.{List}
use lib.ListN.{length, drop}
use lib.IntN.{ℤ}
use Rattle.rules_text.specs.Numbers.{Row, bytes, lines}
use Rattle.rules_text.specs.Tables.{Reading, faulty, found, next, headed, due, counting, counted, has_id, rows}
use Rattle.rules_text.specs.Offsets.{names_at, bytes_of}
use Rattle.rules_text.proofs.NameLaws.{not_headed, past_names}
use Rattle.rules_parts.specs.Parts.{factor_rows, is_factor, parameter_of, interval_of, read_interval_by, read_interval}
use Rattle.rules_parts.proofs.IntervalStages.{last, last_two, last_three}
use Rattle.rules_text.proofs.StageLaws.{Stage, run_few, table}

-- ---- the tables
module _ (s : List ℕ) (n at q : ℕ) (count at' : ℕ) where
  pub constraint_stage : Some q ≡ names_at s at (bytes "constraint shadow\n") → count ≡ length (counting 2 (lines (drop q s))) → at' ≡ q + bytes_of count (lines (drop q s))
      → Stage (headed "constraint shadow\n" (counted 2)) s n at (counting 2 (lines (drop q s))) (n + 1 + count) at'
  unfolding counted
  constraint_stage e = table "constraint shadow\n" (counting 2) refl (run_few 2 has_id _ 0) s n at q e count at'

  pub output_stage : Some q ≡ names_at s at (bytes "resource lmp dispatch available floor\n") → count ≡ length (counting 5 (lines (drop q s))) → at' ≡ q + bytes_of count (lines (drop q s))
      → Stage (headed "resource lmp dispatch available floor\n" (counted 5)) s n at (counting 5 (lines (drop q s))) (n + 1 + count) at'
  unfolding counted
  output_stage e = table "resource lmp dispatch available floor\n" (counting 5) refl (run_few 5 has_id _ 0) s n at q e count at'

  pub factor_stage : (k m : ℕ) → Some q ≡ names_at s at (bytes "resource constraint factor\n") → count ≡ length (factor_rows k m (lines (drop q s))) → at' ≡ q + bytes_of count (lines (drop q s))
      → Stage (headed "resource constraint factor\n" (rows (factor_rows k m))) s n at (factor_rows k m (lines (drop q s))) (n + 1 + count) at'
  unfolding factor_rows
  factor_stage k m e = table "resource constraint factor\n" (factor_rows k m) refl (run_few 3 (is_factor k m) _ 0) s n at q e count at'

-- ---- the part, as far as it is read
module _ (s : List ℕ) (n at : ℕ) where
  pub unnamed_one : None ≡ names_at s at (bytes "constraint shadow\n") → read_interval n (lines (drop at s)) ≡ faulty (n + 1)
  unfolding read_interval_by
  unnamed_one e = ap (λ (r : Reading (List Row)). next r last_three) (not_headed "constraint shadow\n" (counted 2) n s at refl e)

  module _ (cs : List Row) (n1 at1 : ℕ) (one : Stage (headed "constraint shadow\n" (counted 2)) s n at cs n1 at1) where
    read_one : read_interval n (lines (drop at s)) ≡ last_three cs n1 (lines (drop at1 s))
    unfolding read_interval_by
    read_one = ap (λ (r : Reading (List Row)). next r last_three) one.is

    pub unnamed_two : None ≡ names_at s at1 (bytes "resource lmp dispatch available floor\n") → read_interval n (lines (drop at s)) ≡ faulty (n1 + 1)
    unnamed_two e = read_one ∙ ap (λ (r : Reading (List Row)). next r (last_two cs)) (not_headed "resource lmp dispatch available floor\n" (counted 5) n1 s at1 refl e)

    module _ (os : List Row) (n2 at2 : ℕ) (two : Stage (headed "resource lmp dispatch available floor\n" (counted 5)) s n1 at1 os n2 at2) where
      read_two_lem : read_interval n (lines (drop at s)) ≡ last_two cs os n2 (lines (drop at2 s))
      read_two_lem = read_one ∙ ap (λ (r : Reading (List Row)). next r (last_two cs)) two.is

      pub unnamed_three : None ≡ names_at s at2 (bytes "resource constraint factor\n") → read_interval n (lines (drop at s)) ≡ faulty (n2 + 1)
      unnamed_three e = read_two_lem ∙ ap (λ (r : Reading (List Row)). next r (last cs os)) (not_headed "resource constraint factor\n" (rows (factor_rows (length os) (length cs))) n2 s at2 refl e)

      module _ (fs : List Row) (n3 at3 : ℕ) (three : Stage (headed "resource constraint factor\n" (rows (factor_rows (length os) (length cs)))) s n2 at2 fs n3 at3) where
        read_three_lem : read_interval n (lines (drop at s)) ≡ last cs os fs n3 (lines (drop at3 s))
        read_three_lem = read_two_lem ∙ ap (λ (r : Reading (List Row)). next r (last cs os)) three.is

        pub unnamed_four : None ≡ names_at s at3 (bytes "parameter\n") → read_interval n (lines (drop at s)) ≡ faulty (n3 + 1)
        unnamed_four e = read_three_lem ∙ ap (λ (r : Reading ℤ). next r (λ p. found (interval_of cs os fs p))) (not_headed "parameter\n" (due parameter_of) n3 s at3 refl e)

        pub read_all : (q : ℕ) → Some q ≡ names_at s at3 (bytes "parameter\n") → (r : Reading ℤ) → r ≡ due parameter_of (n3 + 1) (lines (drop q s))
            → read_interval n (lines (drop at s)) ≡ next r (λ p. found (interval_of cs os fs p))
        read_all q e r is =
            read_three_lem ∙ ap (λ (x : Reading ℤ). next x (λ p. found (interval_of cs os fs p))) (past_names "parameter\n" (due parameter_of) n3 s at3 refl q e ∙ sym is)
