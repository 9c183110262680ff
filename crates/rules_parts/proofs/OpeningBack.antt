-- The text of an opening is read back as that opening. Assumes nothing.
use Prim.Native.Nat.{ℕ, suc, ◌+◌, ◌^◌, ◌≤◌}
use mathlib.Core.Path.{◌≡◌, refl, sym, ap, subst, ◌∙◌}
use mathlib.Core.List.{List, [], ◌∷◌, ◌++◌, map}
use mathlib.Core.Bool.{true}
use native.Mathlib.Omega.{arith}
use lib.ListN.{length}
use lib.IntN.{ℤ, pos}
use Rattle.rules_number.specs.Over.{padded}
use Rattle.rules_curve.specs.declared.RawStep.{RawStep}
use Rattle.rules_cost.specs.declared.Point.{Point}
use Rattle.rules_opening.specs.declared.Source.TheVariants as source
use Rattle.rules_opening.specs.declared.Resource.{Resource}
use Rattle.rules_opening.specs.declared.Opening.{Opening}
use Rattle.rules_text.specs.Numbers.{Line, Row, bytes, lines, number, magnitude}
use Rattle.rules_text.specs.Tables.{Reader, found, ◌▷◌, due, headed, cell, single, counted, grouped, pairs, each}
use Rattle.rules_text.specs.Offsets.{kept}
use Rattle.rules_text.proofs.NameLaws.{is_line}
use Rattle.rules_curve.specs.Curves.{most_steps}
use Rattle.rules_cost.specs.Costs.{most_points}
use Rattle.rules_parts.specs.Parts.{step_of, point_of, resource_of, resources_of, opening_of, read_opening}
use Rattle.rules_text.specs.Printing.{line_text}
use Rattle.rules_parts.specs.Texts.{GivenOpening, GivenResource, seller_row, resource_row, step_row, point_row, cost_row, step_rows, point_rows, zero_step, zero_point, curve_is, resource_is, zero_resource, opening_lines, opening_text, opening_is, array_of, ResourceSmall, OpeningSmall, OpeningFits}
use Rattle.rules_text.specs.Spelled.{Every, no_more, and_all, Small, table_lines, counted_rows, grouped_rows, together}
use Rattle.rules_text.proofs.ClosedLines.{lines_together, line_closed, every_map, every_append, Closed, counted_closed, grouped_closed}
use Rattle.rules_text.proofs.ReaderLaws.{Reads, Values, then_back, into_back, headed_back, due_back, single_back, with_id, counted_back, counted_length, counted_map, grouped_back, each_back}
use Rattle.rules_parts.proofs.KeptLaws.{kept_array, map_same}

-- ---- what is read
module _ (o : GivenOpening) where
  abbrev ps : List Row
  ps = counted_rows seller_row 0 o.sellers

  abbrev rs : List Row
  rs = counted_rows resource_row 0 o.resources

  abbrev ss : List (List Row)
  ss = grouped_rows step_rows 0 o.resources

  abbrev hs : List (List Row)
  hs = grouped_rows point_rows 0 o.resources

  abbrev cs : List Row
  cs = counted_rows cost_row 0 o.resources

  abbrev lines_one : List Line
  lines_one = table_lines (bytes "month\n") ((o.month ∷ []) ∷ [])

  abbrev lines_two : List Line
  lines_two = table_lines (bytes "portfolio seller\n") ps

  abbrev lines_three : List Line
  lines_three = table_lines (bytes "resource portfolio start\n") rs

  abbrev lines_four : List Line
  lines_four = table_lines (bytes "resource end price\n") (together ss)

  abbrev lines_five : List Line
  lines_five = table_lines (bytes "resource mw heat\n") (together hs)

  abbrev lines_six : List Line
  lines_six = table_lines (bytes "resource gas rate allowance om msc soc fee\n") cs

  abbrev from_five : List Line
  from_five = lines_five ++ lines_six

  abbrev from_four : List Line
  from_four = lines_four ++ from_five

  abbrev from_three : List Line
  from_three = lines_three ++ from_four

  abbrev from_two : List Line
  from_two = lines_two ++ from_three

  abbrev pub got : Opening
  got = opening_of o.month ps rs ss hs cs

-- what is left to read after five, four, .. tables
abbrev pub read_six : ℤ → List Row → List Row → List (List Row) → List (List Row) → Reader Opening
read_six m p r s h = headed "resource gas rate allowance om msc soc fee\n" (each 8 (length r) 0) ▷ λ c. found (opening_of m p r s h c)

abbrev pub read_five : ℤ → List Row → List Row → List (List Row) → Reader Opening
read_five m p r s = headed "resource mw heat\n" (grouped pairs (length r) 0) ▷ λ h. read_six m p r s h

abbrev pub read_four : ℤ → List Row → List Row → Reader Opening
read_four m p r = headed "resource end price\n" (grouped pairs (length r) 0) ▷ λ s. read_five m p r s

abbrev pub read_three : ℤ → List Row → Reader Opening
read_three m p = headed "resource portfolio start\n" (counted 3) ▷ λ r. read_four m p r

abbrev pub read_two : ℤ → Reader Opening
read_two m = headed "portfolio seller\n" (counted 2) ▷ λ p. read_three m p

-- rows of two values each
pairs_of : {A : Type 0} (f : A → Row) → ((a : A) → Every Small (f a) → Values 2 (f a)) → (l : List A) → Every (λ a. Every Small (f a)) l → Every (Values 2) (map f l)
pairs_of f v [] h = no_more
pairs_of f v (a ∷ l) (and_all p h) = and_all (v a p) (pairs_of f v l h)

module _ (o : GivenOpening) (fits : OpeningSmall o) (few : 0 + length o.resources ≤ 10 ^ 12) (many : length o.sellers ≤ 10 ^ 12) (rest : List Line) where
  n : length (rs o) ≡ length o.resources
  n = counted_length resource_row 0 o.resources

  six_back : Reads (read_six o.month (ps o) (rs o) (ss o) (hs o)) (lines_six o) (got o) rest
  six_back =
      into_back (headed "resource gas rate allowance om msc soc fee\n" (each 8 (length (rs o)) 0)) (opening_of o.month (ps o) (rs o) (ss o) (hs o)) (lines_six o) (cs o) rest
      (headed_back "resource gas rate allowance om msc soc fee\n" (each 8 (length (rs o)) 0) (map line_text (cs o)) (cs o) rest
      (subst (λ (k : ℕ). Reads (each 8 k 0) (map line_text (cs o)) (cs o) rest) (sym n)
      (each_back cost_row 7 rest 0 o.resources (every_map ResourceSmall (λ r. Values 7 (cost_row r)) (λ r h. record { count = refl; small = h.costs }) o.resources fits.resources) few)))

  five_back : Reads (read_five o.month (ps o) (rs o) (ss o)) (from_five o) (got o) rest
  unfolding number magnitude
  five_back =
      then_back (headed "resource mw heat\n" (grouped pairs (length (rs o)) 0)) (λ h. read_six o.month (ps o) (rs o) (ss o) h) (lines_five o) (lines_six o) (hs o) (got o) rest
      (headed_back "resource mw heat\n" (grouped pairs (length (rs o)) 0) (map line_text (together (hs o))) (hs o) (lines_six o ++ rest)
      (subst (λ (k : ℕ). Reads (grouped pairs k 0) (map line_text (together (hs o))) (hs o) (lines_six o ++ rest)) (sym n)
      (grouped_back point_rows (lines_six o ++ rest) refl 0 o.resources
      (every_map ResourceSmall (λ r. Every (Values 2) (point_rows r)) (λ r h. pairs_of point_row (λ p k. record { count = refl; small = k }) r.points h.points) o.resources fits.resources) few))) six_back

  four_back : Reads (read_four o.month (ps o) (rs o)) (from_four o) (got o) rest
  unfolding number magnitude
  four_back =
      then_back (headed "resource end price\n" (grouped pairs (length (rs o)) 0)) (λ s. read_five o.month (ps o) (rs o) s) (lines_four o) (from_five o) (ss o) (got o) rest
      (headed_back "resource end price\n" (grouped pairs (length (rs o)) 0) (map line_text (together (ss o))) (ss o) (from_five o ++ rest)
      (subst (λ (k : ℕ). Reads (grouped pairs k 0) (map line_text (together (ss o))) (ss o) (from_five o ++ rest)) (sym n)
      (grouped_back step_rows (from_five o ++ rest) refl 0 o.resources
      (every_map ResourceSmall (λ r. Every (Values 2) (step_rows r)) (λ r h. pairs_of step_row (λ p k. record { count = refl; small = k }) r.steps h.steps) o.resources fits.resources) few))) five_back

  three_back : Reads (read_three o.month (ps o)) (from_three o) (got o) rest
  unfolding number magnitude
  three_back =
      then_back (headed "resource portfolio start\n" (counted 3)) (λ r. read_four o.month (ps o) r) (lines_three o) (from_four o) (rs o) (got o) rest
      (headed_back "resource portfolio start\n" (counted 3) (map line_text (rs o)) (rs o) (from_four o ++ rest)
      (counted_back resource_row 2 (from_four o ++ rest) o.resources (every_map ResourceSmall (λ r. Values 2 (resource_row r)) (λ r h. record { count = refl; small = h.resource }) o.resources fits.resources)
      (omega arith) refl)) four_back

  two_back : Reads (read_two o.month) (from_two o) (got o) rest
  unfolding number magnitude
  two_back =
      then_back (headed "portfolio seller\n" (counted 2)) (λ p. read_three o.month p) (lines_two o) (from_three o) (ps o) (got o) rest
      (headed_back "portfolio seller\n" (counted 2) (map line_text (ps o)) (ps o) (from_three o ++ rest)
      (counted_back seller_row 1 (from_three o ++ rest) o.sellers (every_map Small (λ z. Values 1 (seller_row z)) (λ z h. record { count = refl; small = and_all h no_more }) o.sellers fits.sellers)
      many refl)) three_back

  pub reads : Reads read_opening (opening_lines o) (got o) rest
  unfolding read_opening opening_lines
  reads =
      then_back (headed "month\n" (due single)) (λ m. read_two m) (lines_one o) (from_two o) o.month (got o) rest
      (headed_back "month\n" (due single) (line_text (o.month ∷ []) ∷ []) o.month (from_two o ++ rest)
      (due_back single (line_text (o.month ∷ [])) o.month (from_two o ++ rest) (single_back o.month fits.month))) two_back

-- ---- which is the opening
steps_are : (i : ℕ) (l : List RawStep) → map step_of (with_id i (map step_row l)) ≡ l
steps_are i [] = refl
steps_are i (s ∷ l) = ap (λ (t : List RawStep). s ∷ t) (steps_are i l)

points_are : (i : ℕ) (l : List Point) → map point_of (with_id i (map point_row l)) ≡ l
points_are i [] = refl
points_are i (p ∷ l) = ap (λ (t : List Point). p ∷ t) (points_are i l)

rows_many : {A : Type 0} (f : A → Row) (i : ℕ) (l : List A) → length (with_id i (map f l)) ≡ length l
rows_many f i [] = refl
rows_many f i (a ∷ l) = ap suc (rows_many f i l)

resource_with : (r : GivenResource) (n m : ℕ) (s : List RawStep) (p : List Point) → Resource
resource_with r n m s p = record {
  portfolio = r.portfolio;
  bid = record { start = r.start; count = n; steps = s };
  source = source.Costs;
  costs = record { count = m; points = p; gas = r.gas; rate = r.rate; allowance = r.allowance; om = r.om; msc = r.msc; soc = r.soc; fee = r.fee };
  pack = curve_is (pos 0) [];
}

resource_is_lem : (i : ℕ) (r : GivenResource) → resource_of (pos i ∷ resource_row r) (with_id i (step_rows r)) (with_id i (point_rows r)) (pos i ∷ cost_row r) ≡ resource_is r
unfolding resource_with kept padded
resource_is_lem i r =
    let s : kept most_steps zero_step (map step_of (with_id i (step_rows r))) ≡ array_of most_steps zero_step r.steps = ap (kept most_steps zero_step) (steps_are i r.steps) ∙ kept_array most_steps zero_step r.steps in
    let p : kept most_points zero_point (map point_of (with_id i (point_rows r))) ≡ array_of most_points zero_point r.points = ap (kept most_points zero_point) (points_are i r.points) ∙ kept_array most_points zero_point r.points in
    ap (λ (n : ℕ). resource_with r n (length (with_id i (point_rows r))) (kept most_steps zero_step (map step_of (with_id i (step_rows r)))) (kept most_points zero_point (map point_of (with_id i (point_rows r))))) (rows_many step_row i r.steps)
    ∙ ap (λ (m : ℕ). resource_with r (length r.steps) m (kept most_steps zero_step (map step_of (with_id i (step_rows r)))) (kept most_points zero_point (map point_of (with_id i (point_rows r))))) (rows_many point_row i r.points)
    ∙ ap (λ (l : List RawStep). resource_with r (length r.steps) (length r.points) l (kept most_points zero_point (map point_of (with_id i (point_rows r))))) s
    ∙ ap (resource_with r (length r.steps) (length r.points) (array_of most_steps zero_step r.steps)) p

resources_are : (i : ℕ) (l : List GivenResource)
    → resources_of (counted_rows resource_row i l) (grouped_rows step_rows i l) (grouped_rows point_rows i l) (counted_rows cost_row i l) ≡ map resource_is l
unfolding resources_of counted_rows grouped_rows
resources_are i [] = refl
resources_are i (r ∷ l) = ap (λ (x : Resource). x ∷ resources_of (counted_rows resource_row (suc i) l) (grouped_rows step_rows (suc i) l) (grouped_rows point_rows (suc i) l) (counted_rows cost_row (suc i) l)) (resource_is_lem i r)
    ∙ ap (λ (t : List Resource). resource_is r ∷ t) (resources_are (suc i) l)

blank_is : resource_of [] [] [] [] ≡ resource_is zero_resource
unfolding kept padded
blank_is = refl

by_fields : {m : ℤ} {a a' b b' : ℕ} {s s' : List ℤ} {l l' : List Resource} → a ≡ a' → s ≡ s' → b ≡ b' → l ≡ l'
    → ◌≡◌ {A = Opening} (record { month = m; portfolios = a; sellers = s; resources = b; list = l }) (record { month = m; portfolios = a'; sellers = s'; resources = b'; list = l' })
by_fields p q r s = cc

module _ (o : GivenOpening) where
  -- its counts, and the first lines of each table
  pub got_is : got o ≡ opening_is o
  unfolding opening_of opening_is
  got_is = by_fields (counted_length seller_row 0 o.sellers)
      (ap (kept 16 (pos 0)) (counted_map seller_row (cell 1) (λ z. z) (λ j z. refl) 0 o.sellers ∙ map_same o.sellers) ∙ kept_array 16 (pos 0) o.sellers)
      (counted_length resource_row 0 o.resources)
      (ap (λ (b : Resource). kept 64 b (resources_of (rs o) (ss o) (hs o) (cs o))) blank_is ∙ ap (kept 64 (resource_is zero_resource)) (resources_are 0 o.resources)
      ∙ kept_array 64 (resource_is zero_resource) (map resource_is o.resources))

  pub closed : Closed (opening_lines o)
  unfolding opening_lines
  closed =
      let P : Line → Type 0 = λ t. is_line t ≡ true in
      every_append P (lines_one o) (from_two o) (and_all refl (and_all (line_closed o.month []) no_more))
      (every_append P (lines_two o) (from_three o) (and_all refl (counted_closed seller_row 0 o.sellers))
      (every_append P (lines_three o) (from_four o) (and_all refl (counted_closed resource_row 0 o.resources))
      (every_append P (lines_four o) (from_five o) (and_all refl (grouped_closed step_rows 0 o.resources))
      (every_append P (lines_five o) (lines_six o) (and_all refl (grouped_closed point_rows 0 o.resources))
      (and_all refl (counted_closed cost_row 0 o.resources))))))

  -- the theorem: the text of an opening, whatever follows it, is read as that opening, and what follows is left
  pub opening_back : OpeningFits o → (n : ℕ) (t : List ℕ) → read_opening n (lines (opening_text o ++ t)) ≡ found (opening_is o) (n + length (opening_lines o)) (lines t)
  unfolding opening_text
  opening_back fits n t = ap (read_opening n) (lines_together (opening_lines o) t closed) ∙ reads o fits.small (omega (arith, fits.resources)) fits.portfolios (lines t) n ∙ ap (λ (x : Opening). found x (n + length (opening_lines o)) (lines t)) got_is
