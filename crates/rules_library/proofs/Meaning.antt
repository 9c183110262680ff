-- What noskjerf_default writes: 13 edges and 11 prices, where the costs are accepted, and nothing past them; what a run answers and tells. Assumes nothing.
use Prim.Native.Nat.{ℕ, zero, suc, ◌+◌, ◌≤◌, ◌<◌}
use mathlib.Core.Path.{◌≡◌, refl, sym, ap, ◌∙◌}
use mathlib.Core.Bool.{Bool, true, false, cond, ◌&&◌}
use mathlib.Core.List.{List, [], ◌∷◌}
use native.Mathlib.Omega.{arith}
use borrow.Author.Tests.{leb-true, le-leb, lt-leb}
use lib.Dec.{leb}
use lib.IntN.{ℤ, pos, negsuc}
use lib.ListN.{length, get_or, set, length-map, length-set}
use lib.Seq.{sets, length-sets, get_or-set_same, get_or-set_other}
use Rattle.rules_number.specs.Over.{listed}
use Rattle.rules_number.proofs.OverLaws.{both, listed_length, padded_length}
use Rattle.rules_curve.specs.Curves.{most_steps, blank_step, blank_curve, unless_refused}
use Rattle.rules_curve.specs.declared.Curve.{Curve}
use Rattle.rules_curve.proofs.CheckLaws.{then_both, unless_holds}
use Rattle.rules_cost.specs.Costs.{most_points, count_of_steps, cost_step, cost_curve, points_good, cost_refusal}
use Rattle.rules_cost.specs.declared.Costs.{Costs}
use Rattle.rules_run.specs.Run.{Ended, run_room, ran_within, ran_to}
use Rattle.rules_cost.proofs.EdgeLaws.{eleven_suffice}
use Rattle.rules_library.specs.Answers.{ran_number, told_room, told_answer, told_page, told_after}
use Rattle.rules_library.specs.Slices.{edge_count, price_count, edges_of, prices_of, is_room, put_answer, if_written, edges_with, prices_with}

-- the steps of a curve from accepted costs
pub all_steps : (c : Costs) → cost_refusal c ≡ 0 → length (cost_curve c).steps ≡ most_steps
unfolding cost_curve cost_refusal
all_steps c z =
    let p = unless_holds (points_good c) 3 (then_both _ _ (then_both _ _ (then_both _ _ (then_both _ _ z).0).0).0).0 in
    let few = eleven_suffice c (leb-true c.count most_points (both (leb 2 c.count) (leb c.count most_points) p).1) in
    padded_length most_steps blank_step (listed (cost_step c) (count_of_steps c)) (omega (arith, few, listed_length (cost_step c) (count_of_steps c)))

-- a cell past a run of stores
past : {A : Type 0} (d : A) (l : List A) (i : ℕ) (a : List A) (k : ℕ) → i + length a ≤ k → get_or (sets l i a) k d ≡ get_or l k d
past d l i [] k h = refl
past d l i (x ∷ a) k h = past d (set l i x) (suc i) a k (omega arith) ∙ get_or-set_other l i k x d (λ e. omega arith)

-- the slices after a curve with the number of its refusal
module _ (edges : List ℕ) (prices : List ℤ) (n : ℕ) (curve : Curve) where
  -- the answer is 0 only where nothing is refused
  pub zero_accepted : put_answer edges prices n ≡ pos 0 → n ≡ 0
  zero_accepted = go (is_room edges prices)
    where
      go : (b : Bool) → cond b (pos n) (negsuc 0) ≡ pos 0 → n ≡ 0
      go true e = cc
      go false e = absurd (let o : ◌≡◌ {A = ℕ} 0 1 = cc in omega arith)

  -- what the written slice and the one before it have in common
  either : {A : Type 0} (d : A) (k : ℕ) (written before : List A) → (n ≡ 0 → get_or written k d ≡ get_or before k d)
      → get_or (if_written (put_answer edges prices n) written before) k d ≡ get_or before k d
  either {A} d k written before h = go (put_answer edges prices n) refl
    where
      go : (r : ℤ) → put_answer edges prices n ≡ r → get_or (if_written r written before) k d ≡ get_or before k d
      go (pos zero) e = h (zero_accepted e)
      go (pos (suc m)) e = refl
      go (negsuc m) e = refl

  module _ (whole : n ≡ 0 → length curve.steps ≡ most_steps) where
    pub edges_past : (k : ℕ) → edge_count ≤ k → get_or (edges_with edges prices n curve) k 0 ≡ get_or edges k 0
    unfolding edges_with
    edges_past k h = either 0 k (sets edges 0 (edges_of curve)) edges (λ z. let w = whole z in past 0 edges 0 (edges_of curve) k (simp length-map (omega arith)))

    pub prices_past : (k : ℕ) → price_count ≤ k → get_or (prices_with edges prices n curve) k (pos 0) ≡ get_or prices k (pos 0)
    unfolding prices_with
    prices_past k h = either (pos 0) k (sets prices 0 (prices_of curve)) prices (λ z. let w = whole z in past (pos 0) prices 0 (prices_of curve) k (simp length-map (omega arith)))

  -- a refusal leaves both as they were, and the curve that it hands back counts for nothing
  pub refused_kept : (m : ℕ) → n ≡ suc m → (edges_with edges prices n curve ≡ edges) × (prices_with edges prices n curve ≡ prices)
  unfolding edges_with prices_with
  refused_kept m e = rw e (go (is_room edges prices))
    where
      go : (b : Bool)
          → (if_written (cond b (pos (suc m)) (negsuc 0)) (sets edges 0 (edges_of curve)) edges ≡ edges)
          × (if_written (cond b (pos (suc m)) (negsuc 0)) (sets prices 0 (prices_of curve)) prices ≡ prices)
      go true = (refl, refl)
      go false = (refl, refl)

-- the curve that a check hands back serves as well as the one that it is where nothing is refused
pub unless_written : (edges : List ℕ) (prices : List ℤ) (n : ℕ) (curve : Curve)
    → (edges_with edges prices n (unless_refused n curve) ≡ edges_with edges prices n curve) × (prices_with edges prices n (unless_refused n curve) ≡ prices_with edges prices n curve)
unless_written edges prices zero curve = (refl, refl)
unless_written edges prices (suc n) curve =
    let a = refused_kept edges prices (suc n) blank_curve n refl in
    let b = refused_kept edges prices (suc n) curve n refl in
    (a.0 ∙ sym b.0, a.1 ∙ sym b.1)

-- ---- a run's answer: how many bytes were printed, or -1 where the page is too small
module _ (page printed : List ℕ) (e : Ended) where
  pub ran_counts : run_room ≤ length page → ran_number (ran_to page printed e) ≡ pos (length printed)
  unfolding ran_to
  ran_counts h = rw (le-leb run_room (length page) h)

  pub ran_too_small : length page < run_room → ran_number (ran_to page printed e) ≡ negsuc 0
  unfolding ran_to
  ran_too_small h = rw (lt-leb run_room (length page) h)

-- ---- "the number and line of a refused text given as values"
-- where there is room for both: the answer and the page of a plain run, the refusal's number and then its line, and nothing past them
pub record Told (page told printed : List ℕ) (e : Ended) : Type 0 where
  pub count : told_answer page told printed ≡ ran_number (ran_to page printed e)
  pub same : told_page page told printed ≡ ran_within page printed
  pub number : get_or (told_after page told e) 0 0 ≡ e.number
  pub line : get_or (told_after page told e) 1 0 ≡ e.line
  pub past : (k : ℕ) → 2 ≤ k → get_or (told_after page told e) k 0 ≡ get_or told k 0
  pub long : length (told_after page told e) ≡ length told

-- where there is not: -1, and both as they were
pub record Untold (page told printed : List ℕ) (e : Ended) : Type 0 where
  pub none : told_answer page told printed ≡ negsuc 0
  pub page_kept : told_page page told printed ≡ page
  pub told_kept : told_after page told e ≡ told

module _ (page told printed : List ℕ) (e : Ended) where
  pub tells : 2 ≤ length told → run_room ≤ length page → Told page told printed e
  unfolding told_answer told_page told_after ran_to ran_within
  tells h k =
      let a = le-leb 2 (length told) h in
      let b = le-leb run_room (length page) k in
      let two = e.number ∷ e.line ∷ [] in
      let after : told_after page told e ≡ sets told 0 two = rw a (rw b) in record {
        count = rw a (rw b);
        same = rw a (rw b);
        number = ap (λ (l : List ℕ). get_or l 0 0) after ∙ get_or-set_other (set told 0 e.number) 1 0 e.line 0 (λ z. omega arith) ∙ get_or-set_same told 0 e.number 0 (omega (arith, h));
        line = ap (λ (l : List ℕ). get_or l 1 0) after ∙ get_or-set_same (set told 0 e.number) 1 e.line 0 (omega (arith, h, length-set told 0 e.number));
        past = λ i l. ap (λ (l : List ℕ). get_or l i 0) after ∙ past 0 told 0 two i l;
        long = ap length after ∙ length-sets told 0 two;
      }

  untold : told_room page told ≡ false → Untold page told printed e
  unfolding told_answer told_page told_after
  untold h = record { none = rw h; page_kept = rw h; told_kept = rw h }

  pub too_few_told : length told < 2 → Untold page told printed e
  too_few_told h = untold (rw (lt-leb 2 (length told) h))

  pub too_small_page : length page < run_room → Untold page told printed e
  too_small_page h = untold (go (leb 2 (length told)))
    where
      go : (b : Bool) → b && leb run_room (length page) ≡ false
      go true = lt-leb run_room (length page) h
      go false = refl
