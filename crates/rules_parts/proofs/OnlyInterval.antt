-- Whatever is read as an interval is the text of one, with nothing else in it. Assumes nothing.
use Rattle.std.specs.Prelude.{None, Option, Some}
use Prim.Native.Nat.{ℕ, suc, ◌*◌, ◌<◌, ◌≤◌}
use mathlib.Core.Path.{◌≡◌, refl, sym, ap, subst, ◌∙◌}
use mathlib.Core.List.{List, [], ◌∷◌, ◌++◌, map}
use mathlib.Core.Bool.{Bool, true, false, cond, ◌&&◌}
use mathlib.Core.Logic.{◌⊎◌, inl, inr, ⊎_elim, ◌↔◌}
use native.Mathlib.Omega.{arith}
use native.Mathlib.Nat.{suc-mul, mul-le-mul_right}
use borrow.Author.Tests.{leb-true}
use lib.Dec.{leb}
use lib.ListN.{length, drop}
use lib.IntN.{ℤ, pos, negsuc}
use Rattle.rules_number.proofs.OverLaws.{never, both, le_or_lt}
use Rattle.rules_interval.specs.declared.Interval.{Interval}
use Rattle.rules_text.specs.Numbers.{Line, Row, bytes, same}
use Rattle.rules_text.specs.Tables.{found, due, cell, single, rows, counted}
use Rattle.rules_text.proofs.NameLaws.{same_eq}
use Rattle.rules_parts.specs.Parts.{is_declared, place, place_of, is_factor, factor_rows, parameter_by, parameter_of, interval_of, read_interval_by, read_interval}
use Rattle.rules_parts.proofs.DeclaredLaws.{declared_below}
use Rattle.rules_parts.proofs.IntervalStages.{last, last_two, last_three}
use Rattle.rules_text.specs.Printing.{line_text}
use Rattle.rules_parts.specs.Texts.{GivenInterval, GivenOutput, GivenFactor, shadow_row, output_row, factor_row, parameter_line, parameter_is, interval_lines, Before, Rising, empty, single as alone, next, FactorFits, IntervalSmall}
use Rattle.rules_text.specs.Spelled.{Every, no_more, and_all, Small, table_lines, counted_rows}
use Rattle.rules_text.proofs.ReaderLaws.{Values, counted_length}
use Rattle.rules_parts.proofs.IntervalBack.{parameter_back, got}
use Rattle.rules_parts.proofs.OnlyRows.{Suited, Run, goes, ran, Stage, stage, Due, Counts, due_only, single_only, rows_only, counted_only}
use Rattle.rules_parts.proofs.OnlyOpening.{firsts_are, firsts_small, counted_as, ones, ones_are, glue}

no : {X : Type 0} → ◌≡◌ {A = ℕ} 0 1 → X
no e = absurd (omega arith)

-- ---- the parameter
record Parameter (l : Line) (z : ℤ) : Type 0 where
  pub p : Option ℤ
  pub line : l ≡ parameter_line p
  pub value : parameter_is p ≡ z
  pub small : (y : ℤ) → p ≡ Some y → Small y

parameter_by_lem : (l : Line) (z : ℤ) (b : Bool) → same (bytes "-\n") l ≡ b → cond b (Some (pos 0)) (single l) ≡ Some z → Parameter l z
parameter_by_lem l z true e h = record { p = None; line = sym (same_eq (bytes "-\n") l e); value = cc; small = λ y w. no (cc) }
parameter_by_lem l z false e h =
    let s = single_only l z h in
    record { p = Some z; line = s.0; value = refl; small = λ y w. let q : z ≡ y = cc in subst Small q s.1 }

parameter_only : (l : Line) (z : ℤ) → parameter_of l ≡ Some z → Parameter l z
unfolding parameter_by
parameter_only l z h = parameter_by_lem l z (same (bytes "-\n") l) refl h

-- paper 02, 2.5, "Missing now means 0": a line is read as a parameter exactly if it is "-" alone, and then as 0, or the line of a number, and then as that
pub parameter_exactly : (l : Line) (z : ℤ) → (parameter_of l ≡ Some z) ↔ (((l ≡ bytes "-\n") × (z ≡ pos 0)) ⊎ ((l ≡ line_text (z ∷ [])) × Small z))
parameter_exactly l z = ((λ h. said (parameter_only l z h)), λ s. ⊎_elim missing written s)
  where
    by : (p : Option ℤ) → l ≡ parameter_line p → parameter_is p ≡ z → ((y : ℤ) → p ≡ Some y → Small y) → ((l ≡ bytes "-\n") × (z ≡ pos 0)) ⊎ ((l ≡ line_text (z ∷ [])) × Small z)
    by None e v s = inl (e, sym v)
    by (Some y) e v s = inr (e ∙ ap (λ (x : ℤ). line_text (x ∷ [])) v, subst Small v (s y refl))

    said : Parameter l z → ((l ≡ bytes "-\n") × (z ≡ pos 0)) ⊎ ((l ≡ line_text (z ∷ [])) × Small z)
    said r = by r.p r.line r.value r.small

    missing : (l ≡ bytes "-\n") × (z ≡ pos 0) → parameter_of l ≡ Some z
    missing e = ap parameter_of e.0 ∙ parameter_back None (λ y w. no (cc)) ∙ ap (λ (x : ℤ). Some x) (sym e.1)

    written : (l ≡ line_text (z ∷ [])) × Small z → parameter_of l ≡ Some z
    written e = ap parameter_of e.0 ∙ parameter_back (Some z) (λ y w. let q : z ≡ y = cc in subst Small q e.1)

-- ---- outputs
abbrev output_from : Row → GivenOutput
output_from y = record { lmp = cell 0 y; dispatch = cell 0 (drop 1 y); available = cell 0 (drop 1 (drop 1 y)); floor = cell 0 (drop 1 (drop 1 (drop 1 y))) }

outputs_are : (s : List Row) → Every (Values 4) s → map output_row (map output_from s) ≡ s
outputs_are [] h = refl
outputs_are (y ∷ s) (and_all v h) = ap (λ (t : Row). t ∷ map output_row (map output_from s)) (firsts_are 4 y v.count) ∙ ap (λ (t : List Row). y ∷ t) (outputs_are s h)

outputs_small : (s : List Row) → Every (Values 4) s → Every (λ x. Every Small (output_row x)) (map output_from s)
outputs_small [] h = no_more
outputs_small (y ∷ s) (and_all v h) = and_all (firsts_small 4 y v) (outputs_small s h)

-- ---- factors
module _ (n m : ℕ) where
  record Factor (i : ℕ) (x : Row) : Type 0 where
    pub f : GivenFactor
    pub is : factor_row f ≡ x
    pub fits : FactorFits n m f
    pub at : i ≤ place m f.resource f.constraint

  factor_three : (i : ℕ) (a b v : ℤ) → Every Small (a ∷ b ∷ v ∷ []) → is_factor n m i (a ∷ b ∷ v ∷ []) ≡ true → Factor i (a ∷ b ∷ v ∷ [])
  unfolding is_factor is_declared
  factor_three i (pos r) (pos c) v (and_all p (and_all q (and_all s t))) h =
      let x = both (is_declared n (pos r)) (is_declared m (pos c) && leb i (place m r c)) h in
      let y = both (is_declared m (pos c)) (leb i (place m r c)) x.1 in
      record {
        f = record { resource = r; constraint = c; factor = v };
        is = refl;
        fits = record { resource = declared_below n (pos r) x.0; constraint = declared_below m (pos c) y.0; factor = s };
        at = leb-true i (place m r c) y.1;
      }
  factor_three i (pos r) (negsuc c) v s h = never (both (is_declared n (pos r)) false h).1
  factor_three i (negsuc r) b v s h = never h

  factor_row_lem : (i : ℕ) (l : Line) (x : Row) → Suited 3 (is_factor n m i) l x → Factor i x
  factor_row_lem i l x s =
      let v : Values 3 x = record { count = s.spelled.count; small = s.spelled.small } in
      let e = firsts_are 3 x s.spelled.count in
      subst (Factor i) e (factor_three i (cell 0 x) (cell 0 (drop 1 x)) (cell 0 (drop 1 (drop 1 x))) (firsts_small 3 x v) (ap (is_factor n m i) e ∙ s.test))

  before : (f g : GivenFactor) → FactorFits n m f → FactorFits n m g → suc (place m f.resource f.constraint) ≤ place m g.resource g.constraint → Before f g
  before f g p q h = record { rises = ⊎_elim not_above inl (le_or_lt g.resource f.resource) }
    where
      below : g.resource < f.resource → (f.resource < g.resource) ⊎ ((f.resource ≡ g.resource) × (f.constraint < g.constraint))
      below k =
          let a : suc g.resource * m ≤ f.resource * m = mul-le-mul_right m k in
          let b = suc-mul g.resource m in
          absurd (omega (arith, q.constraint))

      level : f.resource ≤ g.resource → g.resource ≤ f.resource → (f.resource < g.resource) ⊎ ((f.resource ≡ g.resource) × (f.constraint < g.constraint))
      level k j =
          let e : f.resource ≡ g.resource = omega arith in
          let a : f.resource * m ≡ g.resource * m = ap (λ (z : ℕ). z * m) e in
          inr (e, omega arith)

      not_above : g.resource ≤ f.resource → (f.resource < g.resource) ⊎ ((f.resource ≡ g.resource) × (f.constraint < g.constraint))
      not_above j = ⊎_elim (λ k. level k j) below (le_or_lt f.resource g.resource)

  record Factors (i : ℕ) (xs : List Row) : Type 0 where
    pub fs : List GivenFactor
    pub are : map factor_row fs ≡ xs
    pub fits : Every (FactorFits n m) fs
    pub rising : Rising fs
    pub from : (f : GivenFactor) (l : List GivenFactor) → fs ≡ f ∷ l → i ≤ place m f.resource f.constraint

  rise : (f : GivenFactor) (fs : List GivenFactor) → FactorFits n m f → Every (FactorFits n m) fs → Rising fs
      → ((g : GivenFactor) (l : List GivenFactor) → fs ≡ g ∷ l → suc (place m f.resource f.constraint) ≤ place m g.resource g.constraint) → Rising (f ∷ fs)
  rise f [] p q r h = alone
  rise f (g ∷ l) p (and_all q t) r h = next (before f g p q (h g l refl)) r

  factors_cons : (i : ℕ) (x : Row) (xs : List Row) → Factor i x → Factors (suc (place_of m x)) xs → Factors i (x ∷ xs)
  factors_cons i x xs F G =
      let e : place_of m x ≡ place m F.f.resource F.f.constraint = sym (ap (place_of m) F.is) in
      record {
        fs = F.f ∷ G.fs;
        are = ap (λ (y : Row). y ∷ map factor_row G.fs) F.is ∙ ap (λ (ys : List Row). x ∷ ys) G.are;
        fits = and_all F.fits G.fits;
        rising = rise F.f G.fs F.fits G.fits G.rising (λ g l w. let k = G.from g l w in omega arith);
        from = λ f l w. let q : F.f ≡ f = cc in subst (λ (y : GivenFactor). i ≤ place m y.resource y.constraint) q F.at;
      }

  factors_of_lem : (i : ℕ) (xs : List Row) → Run 3 (is_factor n m) (λ j x. suc (place_of m x)) i xs → Factors i xs
  factors_of_lem i [] r = record { fs = []; are = refl; fits = no_more; rising = empty; from = λ f l w. no (cc) }
  factors_of_lem i (x ∷ xs) (goes {l = l} s r) = factors_cons i x xs (factor_row_lem i l x s) (factors_of_lem (suc (place_of m x)) xs r)

  factors_only : (k : ℕ) (ls : List Line) (xs : List Row) (n' : ℕ) (ls' : List Line) → rows (factor_rows n m) k ls ≡ found xs n' ls' → Factors 0 xs × (ls ≡ map line_text xs ++ ls')
  unfolding factor_rows
  factors_only k ls xs n' ls' h =
      let up : ℕ → Row → ℕ = λ j x. suc (place_of m x) in
      let q = rows_only (factor_rows n m) (λ t. (ran 3 (is_factor n m) (λ j x. suc (place_of m x)) 0 t).is) k ls xs n' ls' h in
      (subst (Factors 0) (sym q.0) (factors_of_lem 0 (factor_rows n m ls) (ran 3 (is_factor n m) (λ j x. suc (place_of m x)) 0 ls).runs), q.1)

-- ---- table after table, from the last
abbrev FromFour : List Row → List Row → List Row → Interval → List Line → List Line → Type 0
FromFour cs os fs a ls' ls = Stage "parameter\n" (Due parameter_of) (λ z left. (left ≡ ls') × (a ≡ interval_of cs os fs z)) ls

abbrev FromThree : List Row → List Row → Interval → List Line → List Line → Type 0
FromThree cs os a ls' ls =
    Stage "resource constraint factor\n" (λ below fs left. Factors (length os) (length cs) 0 fs × (below ≡ map line_text fs ++ left)) (λ fs left. FromFour cs os fs a ls' left) ls

abbrev FromTwo : List Row → Interval → List Line → List Line → Type 0
FromTwo cs a ls' ls = Stage "resource lmp dispatch available floor\n" (λ below os left. Counts 4 0 os × (below ≡ map line_text os ++ left)) (λ os left. FromThree cs os a ls' left) ls

abbrev FromOne : Interval → List Line → List Line → Type 0
FromOne a ls' ls = Stage "constraint shadow\n" (λ below cs left. Counts 1 0 cs × (below ≡ map line_text cs ++ left)) (λ cs left. FromTwo cs a ls' left) ls

module _ (a : Interval) (n' : ℕ) (ls' : List Line) where
  from_four_lem : (cs os fs : List Row) (n : ℕ) (ls : List Line) → last cs os fs n ls ≡ found a n' ls' → FromFour cs os fs a ls' ls
  from_four_lem cs os fs n ls h = stage "parameter\n" (due parameter_of) (λ p. found (interval_of cs os fs p)) n ls a n' ls' (due_only parameter_of) (λ z k u e. (cc, cc)) h

  from_three_lem : (cs os : List Row) (n : ℕ) (ls : List Line) → last_two cs os n ls ≡ found a n' ls' → FromThree cs os a ls' ls
  from_three_lem cs os n ls h =
      stage "resource constraint factor\n" (rows (factor_rows (length os) (length cs))) (λ x. last cs os x) n ls a n' ls' (factors_only (length os) (length cs)) (from_four_lem cs os) h

  from_two_lem : (cs : List Row) (n : ℕ) (ls : List Line) → last_three cs n ls ≡ found a n' ls' → FromTwo cs a ls' ls
  from_two_lem cs n ls h = stage "resource lmp dispatch available floor\n" (counted 5) (λ x. last_two cs x) n ls a n' ls' (counted_only 4) (from_three_lem cs) h

  from_one : (n : ℕ) (ls : List Line) → read_interval n ls ≡ found a n' ls' → FromOne a ls' ls
  unfolding read_interval_by
  from_one n ls h = stage "constraint shadow\n" (counted 2) (λ x. last_three x) n ls a n' ls' (counted_only 1) from_two_lem h

-- ---- the tables together
abbrev lines_four : Option ℤ → List Line
lines_four p = bytes "parameter\n" ∷ parameter_line p ∷ []

abbrev lines_three : List Row → Option ℤ → List Line
lines_three fs p = table_lines (bytes "resource constraint factor\n") fs ++ lines_four p

abbrev lines_two : List Row → List Row → Option ℤ → List Line
lines_two os fs p = table_lines (bytes "resource lmp dispatch available floor\n") os ++ lines_three fs p

abbrev lines_of : List Row → List Row → List Row → Option ℤ → List Line
lines_of cs os fs p = table_lines (bytes "constraint shadow\n") cs ++ lines_two os fs p

record Holds (ls : List Line) (a : Interval) (ls' : List Line) : Type 0 where
  pub cs : List Row
  pub os : List Row
  pub fs : List Row
  pub p : Option ℤ
  pub is : ls ≡ lines_of cs os fs p ++ ls'
  pub value : a ≡ interval_of cs os fs (parameter_is p)
  pub constraints : Counts 1 0 cs
  pub outputs : Counts 4 0 os
  pub factors : Factors (length os) (length cs) 0 fs
  pub small : (y : ℤ) → p ≡ Some y → Small y

holds_of : (ls : List Line) (a : Interval) (ls' : List Line) → FromOne a ls' ls → Holds ls a ls'
holds_of ls a ls' one =
    let two' = one.more in
    let three = two'.more in
    let four = three.more in
    let P = parameter_only four.table.line four.a four.table.reads in
    let c4 : three.left ≡ lines_four P.p ++ ls' =
    four.names ∙ ap (λ (x : List Line). bytes "parameter\n" ∷ x) (four.table.lines ∙ ap (λ (x : Line). x ∷ four.left) P.line ∙ ap (λ (x : List Line). parameter_line P.p ∷ x) four.more.0) in
    let c3 = glue two'.left three.below three.left (bytes "resource constraint factor\n") (map line_text three.a) (lines_four P.p) ls' three.names three.table.1 c4 in
    let c2 = glue one.left two'.below two'.left (bytes "resource lmp dispatch available floor\n") (map line_text two'.a) (lines_three three.a P.p) ls' two'.names two'.table.1 c3 in
    record {
      cs = one.a;
      os = two'.a;
      fs = three.a;
      p = P.p;
      is = glue ls one.below one.left (bytes "constraint shadow\n") (map line_text one.a) (lines_two two'.a three.a P.p) ls' one.names one.table.1 c2;
      value = four.more.1 ∙ ap (interval_of one.a two'.a three.a) (sym P.value);
      constraints = one.table.0;
      outputs = two'.table.0;
      factors = three.table.0;
      small = P.small;
    }

-- ---- the theorem
pub record IsInterval (ls : List Line) (a : Interval) (ls' : List Line) : Type 0 where
  pub i : GivenInterval
  pub small : IntervalSmall i
  pub is : ls ≡ interval_lines i ++ ls'
  pub value : a ≡ got i

by_rows : (P : List Row → List Row → List Row → Type 0) {cs cs' os os' fs fs' : List Row} → cs ≡ cs' → os ≡ os' → fs ≡ fs' → P cs os fs → P cs' os' fs'
by_rows P {cs} {cs'} {os} {os'} {fs} {fs'} a b c h = subst (λ (x : List Row). P cs' os' x) c (subst (λ (x : List Row). P cs' x fs) b (subst (λ (x : List Row). P x os fs) a h))

module _ (ls : List Line) (a : Interval) (ls' : List Line) (H : Holds ls a ls') where
  shadows : (map shadow_row (ones H.constraints.tails) ≡ H.constraints.tails) × Every Small (ones H.constraints.tails)
  shadows = ones_are shadow_row (λ z. refl) H.constraints.tails H.constraints.values

  cs_are : H.cs ≡ counted_rows shadow_row 0 (ones H.constraints.tails)
  cs_are = sym (counted_as shadow_row 0 (ones H.constraints.tails) ∙ ap (counted_rows (λ y. y) 0) shadows.0 ∙ H.constraints.is)

  os_are : H.os ≡ counted_rows output_row 0 (map output_from H.outputs.tails)
  os_are = sym (counted_as output_row 0 (map output_from H.outputs.tails) ∙ ap (counted_rows (λ y. y) 0) (outputs_are H.outputs.tails H.outputs.values) ∙ H.outputs.is)

  fits : Every (FactorFits (length (map output_from H.outputs.tails)) (length (ones H.constraints.tails))) H.factors.fs
  fits = subst (λ (m : ℕ). Every (FactorFits (length (map output_from H.outputs.tails)) m) H.factors.fs) (ap length cs_are ∙ counted_length shadow_row 0 (ones H.constraints.tails))
      (subst (λ (n : ℕ). Every (FactorFits n (length H.cs)) H.factors.fs) (ap length os_are ∙ counted_length output_row 0 (map output_from H.outputs.tails)) H.factors.fits)

  finish : IsInterval ls a ls'
  unfolding interval_lines
  finish = record {
    i = record { shadows = ones H.constraints.tails; outputs = map output_from H.outputs.tails; factors = H.factors.fs; parameter = H.p };
    small = record { shadows = shadows.1; outputs = outputs_small H.outputs.tails H.outputs.values; factor = fits; factors = H.factors.rising; parameter = H.small };
    is = by_rows (λ c o f. ls ≡ lines_of c o f H.p ++ ls') cs_are os_are (sym H.factors.are) H.is;
    value = by_rows (λ c o f. a ≡ interval_of c o f (parameter_is H.p)) cs_are os_are (sym H.factors.are) H.value;
  }

-- whatever is read as an interval is the lines of one, whose numbers have at most 12 digits, and the interval is its values
pub interval_only : (n : ℕ) (ls : List Line) (a : Interval) (n' : ℕ) (ls' : List Line) → read_interval n ls ≡ found a n' ls' → IsInterval ls a ls'
interval_only n ls a n' ls' h = finish ls a ls' (holds_of ls a ls' (from_one a n' ls' n ls h))
