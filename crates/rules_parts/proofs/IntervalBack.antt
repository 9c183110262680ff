-- The text of an interval is read back as that interval. Assumes nothing.
use Rattle.std.specs.Prelude.{None, Option, Some}
use Prim.Native.Nat.{ℕ, ◌+◌, ◌^◌, ◌≤◌}
use mathlib.Core.Path.{◌≡◌, refl, sym, ap, subst, ◌∙◌}
use mathlib.Core.List.{List, [], ◌∷◌, ◌++◌, map}
use mathlib.Core.Bool.{Bool, true, false, cond}
use native.Mathlib.Omega.{arith}
use lib.ListN.{length}
use lib.IntN.{ℤ, pos}
use Rattle.rules_interval.specs.declared.Interval.{Interval}
use Rattle.rules_text.specs.Numbers.{Line, Row, bytes, same, lines, number, magnitude, row}
use Rattle.rules_text.specs.Tables.{found, due, headed, cell, single, counted, rows}
use Rattle.rules_text.specs.Offsets.{kept}
use Rattle.rules_text.proofs.NameLaws.{is_line, same_eq}
use Rattle.rules_parts.specs.Parts.{read_interval_by, read_interval, interval_of, factor_rows, parameter_by, parameter_of}
use Rattle.rules_parts.proofs.IntervalStages.{by_fields, last, last_two, last_three}
use Rattle.rules_text.specs.Printing.{line_text}
use Rattle.rules_parts.specs.Texts.{GivenInterval, GivenOutput, GivenFactor, shadow_row, output_row, factor_row, parameter_line, parameter_is, interval_lines, interval_text, interval_is, array_of, IntervalSmall, IntervalFits}
use Rattle.rules_text.specs.Spelled.{Every, no_more, and_all, Small, table_lines, counted_rows}
use Rattle.rules_text.proofs.ClosedLines.{lines_together, line_closed, every_map, every_append, counted_closed}
use Rattle.rules_text.proofs.ReaderLaws.{Reads, Values, then_back, into_back, headed_back, due_back, single_back, counted_back, counted_length, counted_map}
use Rattle.rules_parts.proofs.FactorBack.{factors_back, cells_back}
use Rattle.rules_parts.proofs.KeptLaws.{kept_array, map_same}

-- ---- the parameter
there : (z : ℤ) (b : Bool) → same (bytes "-\n") (line_text (z ∷ [])) ≡ b → single (line_text (z ∷ [])) ≡ Some z → cond b (Some (pos 0)) (single (line_text (z ∷ []))) ≡ Some z
unfolding single row number magnitude
there z true e h =
    let q : single (bytes "-\n") ≡ Some z = ap single (same_eq (bytes "-\n") (line_text (z ∷ [])) e) ∙ h in
    let o : ◌≡◌ {A = ℕ} 0 1 = cc in
    absurd (omega arith)
there z false e h = h

pub parameter_back : (p : Option ℤ) → ((z : ℤ) → p ≡ Some z → Small z) → parameter_of (parameter_line p) ≡ Some (parameter_is p)
unfolding parameter_by
parameter_back None h = refl
parameter_back (Some z) h = there z (same (bytes "-\n") (line_text (z ∷ []))) refl (single_back z (h z refl))

-- ---- what is read
module _ (i : GivenInterval) where
  abbrev cs : List Row
  cs = counted_rows shadow_row 0 i.shadows

  abbrev os : List Row
  os = counted_rows output_row 0 i.outputs

  abbrev fs : List Row
  fs = map factor_row i.factors

  abbrev lines_four : List Line
  lines_four = bytes "parameter\n" ∷ parameter_line i.parameter ∷ []

  abbrev lines_three : List Line
  lines_three = table_lines (bytes "resource constraint factor\n") fs

  abbrev lines_two : List Line
  lines_two = table_lines (bytes "resource lmp dispatch available floor\n") os

  abbrev lines_one : List Line
  lines_one = table_lines (bytes "constraint shadow\n") cs

  abbrev pub got : Interval
  got = interval_of cs os fs (parameter_is i.parameter)

module _ (i : GivenInterval) (fits : IntervalSmall i) (few : length i.outputs ≤ 10 ^ 12) (narrow : length i.shadows ≤ 10 ^ 12) (rest : List Line) where
  four_back : Reads (last (cs i) (os i) (fs i)) (lines_four i) (got i) rest
  four_back = into_back (headed "parameter\n" (due parameter_of)) (interval_of (cs i) (os i) (fs i)) (lines_four i) (parameter_is i.parameter) rest
      (headed_back "parameter\n" (due parameter_of) (parameter_line i.parameter ∷ []) (parameter_is i.parameter) rest
      (due_back parameter_of (parameter_line i.parameter) (parameter_is i.parameter) rest (parameter_back i.parameter fits.parameter)))

  three_back : Reads (last_two (cs i) (os i)) (lines_three i ++ lines_four i) (got i) rest
  unfolding number magnitude
  three_back =
      let n = counted_length output_row 0 i.outputs in
      let m = counted_length shadow_row 0 i.shadows in
      let r : Reads (rows (factor_rows (length (os i)) (length (cs i)))) (map line_text (fs i)) (fs i) (lines_four i ++ rest) =
      subst (λ (k : ℕ). Reads (rows (factor_rows k (length (cs i)))) (map line_text (fs i)) (fs i) (lines_four i ++ rest)) (sym n)
      (subst (λ (k : ℕ). Reads (rows (factor_rows (length i.outputs) k)) (map line_text (fs i)) (fs i) (lines_four i ++ rest)) (sym m)
      (factors_back (length i.outputs) (length i.shadows) few narrow i.factors (lines_four i ++ rest) fits.factor fits.factors refl)) in
      then_back (headed "resource constraint factor\n" (rows (factor_rows (length (os i)) (length (cs i))))) (λ x. last (cs i) (os i) x) (lines_three i) (lines_four i) (fs i) (got i) rest
      (headed_back "resource constraint factor\n" (rows (factor_rows (length (os i)) (length (cs i)))) (map line_text (fs i)) (fs i) (lines_four i ++ rest) r) four_back

  two_back : Reads (last_three (cs i)) (lines_two i ++ (lines_three i ++ lines_four i)) (got i) rest
  unfolding number magnitude
  two_back =
      let more = lines_three i ++ lines_four i in
      then_back (headed "resource lmp dispatch available floor\n" (counted 5)) (λ x. last_two (cs i) x) (lines_two i) more (os i) (got i) rest
      (headed_back "resource lmp dispatch available floor\n" (counted 5) (map line_text (os i)) (os i) (more ++ rest)
      (counted_back output_row 4 (more ++ rest) i.outputs (every_map (λ o. Every Small (output_row o)) (λ o. Values 4 (output_row o)) (λ o h. record { count = refl; small = h }) i.outputs fits.outputs)
      few refl)) three_back

  pub reads : Reads read_interval (interval_lines i) (got i) rest
  unfolding number magnitude read_interval_by interval_lines
  reads =
      let more = lines_two i ++ (lines_three i ++ lines_four i) in
      then_back (headed "constraint shadow\n" (counted 2)) (λ x. last_three x) (lines_one i) more (cs i) (got i) rest
      (headed_back "constraint shadow\n" (counted 2) (map line_text (cs i)) (cs i) (more ++ rest)
      (counted_back shadow_row 1 (more ++ rest) i.shadows (every_map Small (λ z. Values 1 (shadow_row z)) (λ z h. record { count = refl; small = and_all h no_more }) i.shadows fits.shadows)
      narrow refl)) two_back

-- ---- which is the interval
module _ (i : GivenInterval) where
  column : (g : Row → ℤ) (h : GivenOutput → ℤ) → ((j : ℕ) (o : GivenOutput) → g (pos j ∷ output_row o) ≡ h o) → kept 64 (pos 0) (map g (os i)) ≡ array_of 64 (pos 0) (map h i.outputs)
  column g h e = ap (kept 64 (pos 0)) (counted_map output_row g h e 0 i.outputs) ∙ kept_array 64 (pos 0) (map h i.outputs)

  -- its counts, and the first lines of each table
  pub got_is : IntervalSmall i → got i ≡ interval_is i
  unfolding interval_of interval_is
  got_is small = by_fields (counted_length shadow_row 0 i.shadows)
      (ap (kept 32 (pos 0)) (counted_map shadow_row (cell 1) (λ z. z) (λ j z. refl) 0 i.shadows ∙ map_same i.shadows) ∙ kept_array 32 (pos 0) i.shadows)
      (counted_length output_row 0 i.outputs)
      (column (cell 1) (λ o. o.lmp) (λ j o. refl)) (column (cell 2) (λ o. o.dispatch) (λ j o. refl)) (column (cell 3) (λ o. o.available) (λ j o. refl)) (column (cell 4) (λ o. o.floor) (λ j o. refl))
      (cells_back i.factors small.factors)
      refl

  -- ---- its lines are closed
  pub closed : Every (λ t. is_line t ≡ true) (interval_lines i)
  unfolding interval_lines
  closed =
      let P : Line → Type 0 = λ t. is_line t ≡ true in
      every_append P (lines_one i) (lines_two i ++ (lines_three i ++ lines_four i)) (and_all refl (counted_closed shadow_row 0 i.shadows))
      (every_append P (lines_two i) (lines_three i ++ lines_four i) (and_all refl (counted_closed output_row 0 i.outputs))
      (every_append P (lines_three i) (lines_four i) (and_all refl (rows_closed i.factors))
      (and_all refl (and_all (parameter_closed i.parameter) no_more))))
    where
      rows_closed : (l : List GivenFactor) → Every (λ t. is_line t ≡ true) (map line_text (map factor_row l))
      rows_closed [] = no_more
      rows_closed (f ∷ l) = and_all (line_closed (pos f.resource) (pos f.constraint ∷ f.factor ∷ [])) (rows_closed l)

      parameter_closed : (p : Option ℤ) → is_line (parameter_line p) ≡ true
      parameter_closed None = refl
      parameter_closed (Some z) = line_closed z []

  -- the theorem: the text of an interval, whatever follows it, is read as that interval, and what follows is left
  pub interval_back : IntervalFits i → (n : ℕ) (t : List ℕ) → read_interval n (lines (interval_text i ++ t)) ≡ found (interval_is i) (n + length (interval_lines i)) (lines t)
  unfolding interval_text
  interval_back fits n t = ap (read_interval n) (lines_together (interval_lines i) t closed) ∙ reads i fits.small fits.resources fits.constraints (lines t) n ∙ ap (λ (x : Interval). found x (n + length (interval_lines i)) (lines t)) (got_is fits.small)
