-- `interval_part::part_at` meets its contract. Assumes nothing.
use Rattle.std.proofs.Common.{◌≡◌, ℕ, ◌+◌, ◌-◌, min, Result, Err, subst, List, [], ◌∷◌, map, length, drop, replicate, ℤ, pos, sym, refl, ap, ◌∙◌, to_z, of_z, w64, arith, rules}
use mathlib.Core.List.{flat_map}
use lib.Seq.{sets}
use Rattle.rules_text.specs.Numbers.{lines}
use Rattle.rules_text.specs.Tables.{found, due, cell, counting}
use Rattle.rules_text.specs.Offsets.{bytes_of}
use Rattle.rules_text.proofs.StageLaws.{text_few}
use Rattle.rules_text.proofs.UsedLaws.{used_names, used_then, rises_due}
use Rattle.rules_parts.specs.Parts.{factor_rows, with_factors, parameter_of, interval_of, read_interval}
use Rattle.interval_part.specs.Taken.{PartRead}
use Rattle.interval_part.specs.declared.Part.{Part}
use Rattle.interval_part.proofs.ReadLaws.{read_used}
use Rattle.interval_part.proofs.IntervalLaws.{constraint_stage, output_stage, factor_stage, unnamed_one, unnamed_two, unnamed_three, unnamed_four, read_all}
use Rattle.interval_part.proofs.PartLaws.{put_seen}
use Rattle.interval_part.proofs.part_at.Goals as goal

-- the counts are those of the tables
factors_are : (s : List ℕ) (p n n' m m' : ℕ) → n ≡ n' → m ≡ m' → factor_rows n m (lines (drop p s)) ≡ factor_rows n' m' (lines (drop p s))
factors_are s p n n' m m' e f = ap (λ (k : ℕ). factor_rows k m (lines (drop p s))) e ∙ ap (λ (k : ℕ). factor_rows n' k (lines (drop p s))) f

pub returns-in_default-clause-reading : goal.returns-in_default-clause-reading
returns-in_default-clause-reading c =
    let a = c.args in
    let s = a.s.now in
    let n = c.at_most-line.result in
    let whole_part = ap (λ (n : ℕ). read_interval n (lines (drop a.at s))) c.at_most-line.ensures in
    sym whole_part ∙ unnamed_one s n a.at c.in_default.ensures

-- the lines read are no more than the bytes of the text
pub overflow_add-line-2 : goal.overflow_add-line-2
overflow_add-line-2 c =
    let a = c.args in
    let s = a.s.now in
    let n = c.at_most-line.result in
    let t = c.marks_at-constraints in
    let n1 = n + 1 + t.result.count in
    let one = constraint_stage s n a.at c.in-Some.at t.result.count t.result.next c.in-Some.ensures t.ensures.count_value t.ensures.next_value in
    let f = text_few s a.at in
    omega (arith, c.well_formed, c.at_most-line.ensures, f, one.few)

pub overflow_add-result-in_default-line_is : goal.overflow_add-result-in_default-line_is
overflow_add-result-in_default-line_is c =
    let a = c.args in
    let s = a.s.now in
    let n = c.at_most-line.result in
    let t = c.marks_at-constraints in
    let n1 = n + 1 + t.result.count in
    let one = constraint_stage s n a.at c.in-Some.at t.result.count t.result.next c.in-Some.ensures t.ensures.count_value t.ensures.next_value in
    let f = text_few s a.at in
    omega (arith, c.well_formed, c.at_most-line.ensures, f, one.few)

pub returns-in_default-line_is-clause-reading : goal.returns-in_default-line_is-clause-reading
returns-in_default-line_is-clause-reading c =
    let a = c.args in
    let s = a.s.now in
    let n = c.at_most-line.result in
    let whole_part = ap (λ (n : ℕ). read_interval n (lines (drop a.at s))) c.at_most-line.ensures in
    let t = c.marks_at-constraints in
    let n1 = n + 1 + t.result.count in
    let one = constraint_stage s n a.at c.in-Some.at t.result.count t.result.next c.in-Some.ensures t.ensures.count_value t.ensures.next_value in
    sym whole_part ∙ unnamed_two s n a.at _ n1 t.result.next one c.in_default-line_is.ensures

pub overflow_add-line-3 : goal.overflow_add-line-3
overflow_add-line-3 c =
    let a = c.args in
    let s = a.s.now in
    let n = c.at_most-line.result in
    let t = c.marks_at-constraints in
    let n1 = n + 1 + t.result.count in
    let one = constraint_stage s n a.at c.in-Some.at t.result.count t.result.next c.in-Some.ensures t.ensures.count_value t.ensures.next_value in
    let f = text_few s a.at in
    omega (arith, c.well_formed, c.at_most-line.ensures, f, one.few)

pub overflow_add-line-4 : goal.overflow_add-line-4
overflow_add-line-4 c =
    let a = c.args in
    let s = a.s.now in
    let n = c.at_most-line.result in
    let t = c.marks_at-constraints in
    let n1 = n + 1 + t.result.count in
    let one = constraint_stage s n a.at c.in-Some.at t.result.count t.result.next c.in-Some.ensures t.ensures.count_value t.ensures.next_value in
    let u = c.outputs_at-rows in
    let n2 = n1 + 1 + u.result.count in
    let two = output_stage s n1 t.result.next c.in-Some-line_is.at u.result.count u.result.next c.in-Some-line_is.ensures u.ensures.count_value u.ensures.next_value in
    let f = text_few s a.at in
    omega (arith, c.well_formed, c.at_most-line.ensures, f, one.few, two.few)

pub overflow_add-result-in_default-line_is-2 : goal.overflow_add-result-in_default-line_is-2
overflow_add-result-in_default-line_is-2 c =
    let a = c.args in
    let s = a.s.now in
    let n = c.at_most-line.result in
    let t = c.marks_at-constraints in
    let n1 = n + 1 + t.result.count in
    let one = constraint_stage s n a.at c.in-Some.at t.result.count t.result.next c.in-Some.ensures t.ensures.count_value t.ensures.next_value in
    let u = c.outputs_at-rows in
    let n2 = n1 + 1 + u.result.count in
    let two = output_stage s n1 t.result.next c.in-Some-line_is.at u.result.count u.result.next c.in-Some-line_is.ensures u.ensures.count_value u.ensures.next_value in
    let f = text_few s a.at in
    omega (arith, c.well_formed, c.at_most-line.ensures, f, one.few, two.few)

pub returns-in_default-line_is-2-clause-reading : goal.returns-in_default-line_is-2-clause-reading
returns-in_default-line_is-2-clause-reading c =
    let a = c.args in
    let s = a.s.now in
    let n = c.at_most-line.result in
    let whole_part = ap (λ (n : ℕ). read_interval n (lines (drop a.at s))) c.at_most-line.ensures in
    let t = c.marks_at-constraints in
    let n1 = n + 1 + t.result.count in
    let one = constraint_stage s n a.at c.in-Some.at t.result.count t.result.next c.in-Some.ensures t.ensures.count_value t.ensures.next_value in
    let u = c.outputs_at-rows in
    let n2 = n1 + 1 + u.result.count in
    let two = output_stage s n1 t.result.next c.in-Some-line_is.at u.result.count u.result.next c.in-Some-line_is.ensures u.ensures.count_value u.ensures.next_value in
    sym whole_part ∙ unnamed_three s n a.at _ n1 t.result.next one _ n2 u.result.next two c.in_default-line_is-2.ensures

pub overflow_add-line-5 : goal.overflow_add-line-5
overflow_add-line-5 c =
    let a = c.args in
    let s = a.s.now in
    let n = c.at_most-line.result in
    let t = c.marks_at-constraints in
    let n1 = n + 1 + t.result.count in
    let one = constraint_stage s n a.at c.in-Some.at t.result.count t.result.next c.in-Some.ensures t.ensures.count_value t.ensures.next_value in
    let u = c.outputs_at-rows in
    let n2 = n1 + 1 + u.result.count in
    let two = output_stage s n1 t.result.next c.in-Some-line_is.at u.result.count u.result.next c.in-Some-line_is.ensures u.ensures.count_value u.ensures.next_value in
    let f = text_few s a.at in
    omega (arith, c.well_formed, c.at_most-line.ensures, f, one.few, two.few)

pub overflow_add-line-6 : goal.overflow_add-line-6
overflow_add-line-6 c =
    let a = c.args in
    let s = a.s.now in
    let n = c.at_most-line.result in
    let t = c.marks_at-constraints in
    let n1 = n + 1 + t.result.count in
    let one = constraint_stage s n a.at c.in-Some.at t.result.count t.result.next c.in-Some.ensures t.ensures.count_value t.ensures.next_value in
    let u = c.outputs_at-rows in
    let n2 = n1 + 1 + u.result.count in
    let two = output_stage s n1 t.result.next c.in-Some-line_is.at u.result.count u.result.next c.in-Some-line_is.ensures u.ensures.count_value u.ensures.next_value in
    let w = c.factors_into-table in
    let n3 = n2 + 1 + w.result.count in
    let cs = counting 2 (lines (drop c.in-Some.at s)) in
    let os = counting 5 (lines (drop c.in-Some-line_is.at s)) in
    let rows_are = factors_are s c.in-Some-line_is-2.at u.result.count (length os) t.result.count (length cs) u.ensures.count_value t.ensures.count_value in
    let fs = factor_rows (length os) (length cs) (lines (drop c.in-Some-line_is-2.at s)) in
    let three = factor_stage s n2 u.result.next c.in-Some-line_is-2.at w.result.count w.result.next (length os) (length cs)
    c.in-Some-line_is-2.ensures (w.ensures.count_value ∙ ap length rows_are) w.ensures.next_value in
    let f = text_few s a.at in
    omega (arith, c.well_formed, c.at_most-line.ensures, f, one.few, two.few, three.few)

pub overflow_add-result-in_default-line_is-3 : goal.overflow_add-result-in_default-line_is-3
overflow_add-result-in_default-line_is-3 c =
    let a = c.args in
    let s = a.s.now in
    let n = c.at_most-line.result in
    let t = c.marks_at-constraints in
    let n1 = n + 1 + t.result.count in
    let one = constraint_stage s n a.at c.in-Some.at t.result.count t.result.next c.in-Some.ensures t.ensures.count_value t.ensures.next_value in
    let u = c.outputs_at-rows in
    let n2 = n1 + 1 + u.result.count in
    let two = output_stage s n1 t.result.next c.in-Some-line_is.at u.result.count u.result.next c.in-Some-line_is.ensures u.ensures.count_value u.ensures.next_value in
    let w = c.factors_into-table in
    let n3 = n2 + 1 + w.result.count in
    let cs = counting 2 (lines (drop c.in-Some.at s)) in
    let os = counting 5 (lines (drop c.in-Some-line_is.at s)) in
    let rows_are = factors_are s c.in-Some-line_is-2.at u.result.count (length os) t.result.count (length cs) u.ensures.count_value t.ensures.count_value in
    let fs = factor_rows (length os) (length cs) (lines (drop c.in-Some-line_is-2.at s)) in
    let three = factor_stage s n2 u.result.next c.in-Some-line_is-2.at w.result.count w.result.next (length os) (length cs)
    c.in-Some-line_is-2.ensures (w.ensures.count_value ∙ ap length rows_are) w.ensures.next_value in
    let f = text_few s a.at in
    omega (arith, c.well_formed, c.at_most-line.ensures, f, one.few, two.few, three.few)

pub returns-in_default-line_is-3-clause-reading : goal.returns-in_default-line_is-3-clause-reading
returns-in_default-line_is-3-clause-reading c =
    let a = c.args in
    let s = a.s.now in
    let n = c.at_most-line.result in
    let whole_part = ap (λ (n : ℕ). read_interval n (lines (drop a.at s))) c.at_most-line.ensures in
    let t = c.marks_at-constraints in
    let n1 = n + 1 + t.result.count in
    let one = constraint_stage s n a.at c.in-Some.at t.result.count t.result.next c.in-Some.ensures t.ensures.count_value t.ensures.next_value in
    let u = c.outputs_at-rows in
    let n2 = n1 + 1 + u.result.count in
    let two = output_stage s n1 t.result.next c.in-Some-line_is.at u.result.count u.result.next c.in-Some-line_is.ensures u.ensures.count_value u.ensures.next_value in
    let w = c.factors_into-table in
    let n3 = n2 + 1 + w.result.count in
    let cs = counting 2 (lines (drop c.in-Some.at s)) in
    let os = counting 5 (lines (drop c.in-Some-line_is.at s)) in
    let rows_are = factors_are s c.in-Some-line_is-2.at u.result.count (length os) t.result.count (length cs) u.ensures.count_value t.ensures.count_value in
    let fs = factor_rows (length os) (length cs) (lines (drop c.in-Some-line_is-2.at s)) in
    let three = factor_stage s n2 u.result.next c.in-Some-line_is-2.at w.result.count w.result.next (length os) (length cs)
    c.in-Some-line_is-2.ensures (w.ensures.count_value ∙ ap length rows_are) w.ensures.next_value in
    sym whole_part ∙ unnamed_four s n a.at cs n1 t.result.next one os n2 u.result.next two fs n3 w.result.next three c.in_default-line_is-3.ensures

pub overflow_add-line-7 : goal.overflow_add-line-7
overflow_add-line-7 c =
    let a = c.args in
    let s = a.s.now in
    let n = c.at_most-line.result in
    let t = c.marks_at-constraints in
    let n1 = n + 1 + t.result.count in
    let one = constraint_stage s n a.at c.in-Some.at t.result.count t.result.next c.in-Some.ensures t.ensures.count_value t.ensures.next_value in
    let u = c.outputs_at-rows in
    let n2 = n1 + 1 + u.result.count in
    let two = output_stage s n1 t.result.next c.in-Some-line_is.at u.result.count u.result.next c.in-Some-line_is.ensures u.ensures.count_value u.ensures.next_value in
    let w = c.factors_into-table in
    let n3 = n2 + 1 + w.result.count in
    let cs = counting 2 (lines (drop c.in-Some.at s)) in
    let os = counting 5 (lines (drop c.in-Some-line_is.at s)) in
    let rows_are = factors_are s c.in-Some-line_is-2.at u.result.count (length os) t.result.count (length cs) u.ensures.count_value t.ensures.count_value in
    let fs = factor_rows (length os) (length cs) (lines (drop c.in-Some-line_is-2.at s)) in
    let three = factor_stage s n2 u.result.next c.in-Some-line_is-2.at w.result.count w.result.next (length os) (length cs)
    c.in-Some-line_is-2.ensures (w.ensures.count_value ∙ ap length rows_are) w.ensures.next_value in
    let f = text_few s a.at in
    omega (arith, c.well_formed, c.at_most-line.ensures, f, one.few, two.few, three.few)

pub parameter_at-requires : goal.parameter_at-requires
parameter_at-requires c =
    let a = c.args in
    let s = a.s.now in
    let n = c.at_most-line.result in
    let t = c.marks_at-constraints in
    let n1 = n + 1 + t.result.count in
    let one = constraint_stage s n a.at c.in-Some.at t.result.count t.result.next c.in-Some.ensures t.ensures.count_value t.ensures.next_value in
    let u = c.outputs_at-rows in
    let n2 = n1 + 1 + u.result.count in
    let two = output_stage s n1 t.result.next c.in-Some-line_is.at u.result.count u.result.next c.in-Some-line_is.ensures u.ensures.count_value u.ensures.next_value in
    let w = c.factors_into-table in
    let n3 = n2 + 1 + w.result.count in
    let cs = counting 2 (lines (drop c.in-Some.at s)) in
    let os = counting 5 (lines (drop c.in-Some-line_is.at s)) in
    let rows_are = factors_are s c.in-Some-line_is-2.at u.result.count (length os) t.result.count (length cs) u.ensures.count_value t.ensures.count_value in
    let fs = factor_rows (length os) (length cs) (lines (drop c.in-Some-line_is-2.at s)) in
    let three = factor_stage s n2 u.result.next c.in-Some-line_is-2.at w.result.count w.result.next (length os) (length cs)
    c.in-Some-line_is-2.ensures (w.ensures.count_value ∙ ap length rows_are) w.ensures.next_value in
    let f = text_few s a.at in
    omega (arith, c.well_formed, c.at_most-line.ensures, f, one.few, two.few, three.few)

pub returns-in_err-parameter-clause-reading : goal.returns-in_err-parameter-clause-reading
returns-in_err-parameter-clause-reading c =
    let a = c.args in
    let s = a.s.now in
    let n = c.at_most-line.result in
    let whole_part = ap (λ (n : ℕ). read_interval n (lines (drop a.at s))) c.at_most-line.ensures in
    let t = c.marks_at-constraints in
    let n1 = n + 1 + t.result.count in
    let one = constraint_stage s n a.at c.in-Some.at t.result.count t.result.next c.in-Some.ensures t.ensures.count_value t.ensures.next_value in
    let u = c.outputs_at-rows in
    let n2 = n1 + 1 + u.result.count in
    let two = output_stage s n1 t.result.next c.in-Some-line_is.at u.result.count u.result.next c.in-Some-line_is.ensures u.ensures.count_value u.ensures.next_value in
    let w = c.factors_into-table in
    let n3 = n2 + 1 + w.result.count in
    let cs = counting 2 (lines (drop c.in-Some.at s)) in
    let os = counting 5 (lines (drop c.in-Some-line_is.at s)) in
    let rows_are = factors_are s c.in-Some-line_is-2.at u.result.count (length os) t.result.count (length cs) u.ensures.count_value t.ensures.count_value in
    let fs = factor_rows (length os) (length cs) (lines (drop c.in-Some-line_is-2.at s)) in
    let three = factor_stage s n2 u.result.next c.in-Some-line_is-2.at w.result.count w.result.next (length os) (length cs)
    c.in-Some-line_is-2.ensures (w.ensures.count_value ∙ ap length rows_are) w.ensures.next_value in
    let is : ◌≡◌ {A = Result Part ℕ} c.from_residual.result (Err c.in_err-parameter.field-0.0) = search rules in
    subst (λ (r : Result Part ℕ). PartRead (length a.outputs.now) (length a.factors.now) s r t.new.cells u.new.cells w.new.cells (read_interval (min a.line 65536) (lines (drop a.at s)))) (sym is)
    (sym whole_part
    ∙ read_all s n a.at cs n1 t.result.next one os n2 u.result.next two fs n3 w.result.next three c.in-Some-line_is-3.at c.in-Some-line_is-3.ensures
    _ c.in_err-parameter.ensures.result_value)

pub returns-clause-reading : goal.returns-clause-reading
returns-clause-reading c =
    let a = c.args in
    let s = a.s.now in
    let n = c.at_most-line.result in
    let whole_part = ap (λ (n : ℕ). read_interval n (lines (drop a.at s))) c.at_most-line.ensures in
    let t = c.marks_at-constraints in
    let n1 = n + 1 + t.result.count in
    let one = constraint_stage s n a.at c.in-Some.at t.result.count t.result.next c.in-Some.ensures t.ensures.count_value t.ensures.next_value in
    let u = c.outputs_at-rows in
    let n2 = n1 + 1 + u.result.count in
    let two = output_stage s n1 t.result.next c.in-Some-line_is.at u.result.count u.result.next c.in-Some-line_is.ensures u.ensures.count_value u.ensures.next_value in
    let w = c.factors_into-table in
    let n3 = n2 + 1 + w.result.count in
    let cs = counting 2 (lines (drop c.in-Some.at s)) in
    let os = counting 5 (lines (drop c.in-Some-line_is.at s)) in
    let rows_are = factors_are s c.in-Some-line_is-2.at u.result.count (length os) t.result.count (length cs) u.ensures.count_value t.ensures.count_value in
    let fs = factor_rows (length os) (length cs) (lines (drop c.in-Some-line_is-2.at s)) in
    let three = factor_stage s n2 u.result.next c.in-Some-line_is-2.at w.result.count w.result.next (length os) (length cs)
    c.in-Some-line_is-2.ensures (w.ensures.count_value ∙ ap length rows_are) w.ensures.next_value in
    let p = c.in_ok-parameter.parameter in
    let J = length a.outputs.now in
    let K = length a.factors.now in
    let value : to_z w64 (of_z w64 p.value) ≡ p.value = search rules in
    let v = put_seen cs os fs J K _ _ _ _ _ _ p.value t.ensures.count_value
    (t.ensures.cells_after ∙ ap (λ (l : List ℤ). sets l 0 (map (cell 1) cs)) c.requires.shadow)
    u.ensures.count_value
    (u.ensures.cells_after ∙ ap (λ (l : List ℤ). sets l 0 (flat_map (λ row. cell 1 row ∷ cell 2 row ∷ cell 3 row ∷ cell 4 row ∷ []) os)) c.requires.outputs)
    (w.ensures.cells_after ∙ ap (λ (l : List ℤ). with_factors l (factor_rows u.result.count t.result.count (lines (drop c.in-Some-line_is-2.at s)))) c.requires.factors.0
    ∙ ap (with_factors (replicate K (pos 0))) rows_are)
    c.requires.factors.1 value in
    record {
      v = interval_of cs os fs p.value;
      is = sym whole_part
          ∙ read_all s n a.at cs n1 t.result.next one os n2 u.result.next two fs n3 w.result.next three c.in-Some-line_is-3.at c.in-Some-line_is-3.ensures
          (found p.value p.line (lines (drop p.next s))) c.in_ok-parameter.ensures.result_value;
      same = v;
    }

-- with the parameter all lines of the part are used
pub returns-clause-after : goal.returns-clause-after
returns-clause-after c =
    let a = c.args in
    let s = a.s.now in
    let n = c.at_most-line.result in
    let t = c.marks_at-constraints in
    let n1 = n + 1 + t.result.count in
    let one = constraint_stage s n a.at c.in-Some.at t.result.count t.result.next c.in-Some.ensures t.ensures.count_value t.ensures.next_value in
    let u = c.outputs_at-rows in
    let n2 = n1 + 1 + u.result.count in
    let two = output_stage s n1 t.result.next c.in-Some-line_is.at u.result.count u.result.next c.in-Some-line_is.ensures u.ensures.count_value u.ensures.next_value in
    let w = c.factors_into-table in
    let n3 = n2 + 1 + w.result.count in
    let cs = counting 2 (lines (drop c.in-Some.at s)) in
    let os = counting 5 (lines (drop c.in-Some-line_is.at s)) in
    let rows_are = factors_are s c.in-Some-line_is-2.at u.result.count (length os) t.result.count (length cs) u.ensures.count_value t.ensures.count_value in
    let fs = factor_rows (length os) (length cs) (lines (drop c.in-Some-line_is-2.at s)) in
    let three = factor_stage s n2 u.result.next c.in-Some-line_is-2.at w.result.count w.result.next (length os) (length cs)
    c.in-Some-line_is-2.ensures (w.ensures.count_value ∙ ap length rows_are) w.ensures.next_value in
    let p = c.in_ok-parameter.parameter in
    let q = c.in-Some-line_is-3.at in
    let used = used_then (used_then (used_then one.used two.used) three.used)
    (used_then (used_names "parameter\n" s n3 w.result.next refl q c.in-Some-line_is-3.ensures)
    (read_used s (n3 + 1) q p.value p.line p.next (due parameter_of (n3 + 1) (lines (drop q s))) c.in_ok-parameter.ensures.result_value
    (rises_due parameter_of (n3 + 1) (lines (drop q s))) c.in_ok-parameter.ensures.next_value)) in
    used.offset ∙ ap (λ (k : ℕ). a.at + bytes_of (p.line - k) (lines (drop a.at s))) c.at_most-line.ensures
