-- Verdicts that are put into cells are read back from them, and those of an accepted interval are printed alike from either. Assumes nothing but that the cells
-- can hold them.
use mathlib.Core.List.{List, [], ◌∷◌, map, flat_map}
use mathlib.Core.Path.{◌≡◌, refl, sym, ap, subst, ◌∙◌}
use Prim.Native.Nat.{ℕ, suc, ◌+◌, ◌*◌, ◌%◌, ◌≤◌, ◌<◌}
use native.Mathlib.Nat.{le_trans}
use native.Mathlib.Omega.{arith}
use lib.IntN.{ℤ, pos}
use lib.ListN.{length, take, get_or, length-take}
use lib.Seq.{sets}
use Rattle.rules_number.specs.Order.{nat_of}
use Rattle.rules_number.specs.Over.{listed, padded}
use Rattle.rules_number.proofs.ListedLaws.{listed_is}
use Rattle.rules_number.proofs.OverLaws.{listed_length, listed_at, padded_used, taken_at}
use Rattle.rules_interval.specs.Intervals.{interval_refusal}
use Rattle.rules_interval.specs.declared.Interval.{Interval}
use Rattle.rules_interval.proofs.IntervalLaws.{in_limits}
use Rattle.rules_path.specs.Judgements.{path_in, verdicts_of}
use Rattle.rules_path.specs.Paths.{at}
use Rattle.rules_path.specs.Verdicts.{finding_number, not_binding, verdict_of}
use Rattle.rules_path.specs.declared.Finding.{Finding}
use Rattle.rules_path.specs.declared.Finding.TheVariants.{Competitive, NonCompetitive, NotBinding}
use Rattle.rules_path.specs.declared.Market.{Market}
use Rattle.rules_path.specs.declared.Verdict.{Verdict}
use Rattle.rules_hour.specs.Hours.{call_refusal, call_verdicts}
use Rattle.rules_hour.specs.declared.Standing.{Standing}
use Rattle.rules_page.specs.Pages.{verdict_table, seller_table, verdict_text}
use Rattle.rules_page.proofs.WithinBound.{verdict_few}
use Rattle.rules_library.specs.Slices.{cell_at}
use Rattle.rules_state.specs.Layout.{most_portfolios, most_constraints, verdict_width, verdict_room}
use Rattle.rules_state.specs.States.{cell_of, wholes_in}
use Rattle.rules_state.specs.Fits.{Each, Small}
use Rattle.rules_state.specs.Verdicts.{verdict_cells, verdicts_cells, judged_cells, finding_by, verdict_in, verdicts_in}
use Rattle.rules_state.proofs.StandLaws.{Stands, stands_stored, stands_first, stands_rest, stands_each, each_listed, flat_length}
use Rattle.rules_state.proofs.BackAgain.{whole_back, wholes_back}
use Rattle.rules_state.proofs.WrittenSlices.{verdict_width_lem, withheld_room, named_few, sound_call}

-- ---- one verdict
-- the verdicts that cells can hold
pub record VerdictFits (v : Verdict) : Type 0 where
  pub demand : Small v.demand
  pub left : Small v.left
  pub named : v.named < 4294967296
  pub room : length v.withheld ≡ most_portfolios
  pub withheld : Each Small v.withheld

finding_back : (f : Finding) → finding_by (pos (finding_number f)) ≡ f
finding_back Competitive = refl
finding_back NonCompetitive = refl
finding_back NotBinding = refl

pub verdict_back : (l : List ℤ) (c : ℕ) (v : Verdict) → VerdictFits v → Stands l (verdict_width * c) (verdict_cells v) → verdict_in l c ≡ v
unfolding verdict_in verdict_cells
verdict_back l c v f t =
    let i = verdict_width * c in
    let w = map cell_of v.withheld in
    let x = pos (finding_number v.finding) in
    let d = cell_of v.demand in
    let k = cell_of v.left in
    let n = cell_of v.named in
    let one = stands_rest l i x (d ∷ k ∷ n ∷ w) (i + 1) refl t in
    let two = stands_rest l (i + 1) d (k ∷ n ∷ w) (i + 2) (omega arith) one in
    let three = stands_rest l (i + 2) k (n ∷ w) (i + 3) (omega arith) two in
    let four = stands_rest l (i + 3) n w (i + 4) (omega arith) three in
    let names : nat_of (cell_at l (i + 3)) ≡ v.named = ap nat_of (stands_first l (i + 3) n w three) ∙ whole_back v.named (omega (arith, f.named)) in
    let a : finding_by (cell_at l i) ≡ v.finding = ap finding_by (stands_first l i x (d ∷ k ∷ n ∷ w) t) ∙ finding_back v.finding in
    let b : nat_of (cell_at l (i + 1)) ≡ v.demand = ap nat_of (stands_first l (i + 1) d (k ∷ n ∷ w) one) ∙ whole_back v.demand f.demand in
    let e : nat_of (cell_at l (i + 2)) ≡ v.left = ap nat_of (stands_first l (i + 2) k (n ∷ w) two) ∙ whole_back v.left f.left in
    let g : nat_of (cell_at l (i + 3)) % 4294967296 ≡ v.named = omega (arith, names, f.named) in
    let h : wholes_in l (i + 4) most_portfolios ≡ v.withheld = wholes_back l (i + 4) most_portfolios v.withheld f.room f.withheld four in
    rw (a, b, e, g, h)

-- ---- the verdicts of an accepted interval
each_small : (l : List ℕ) → ((p : ℕ) → at l p ≤ 9223372036854775807) → Each Small l
each_small [] h = tt
each_small (x ∷ l) h = (h 0, each_small l (λ p. h (suc p)))

module _ (m : Market) (v : Interval) (sound : interval_refusal m.resources v ≡ 0) where
  -- the verdict on constraint c, and all of them
  abbrev judged : ℕ → Verdict
  judged c = verdict_of (path_in m v c)

  abbrev all : List Verdict
  all = listed judged v.constraints

  pub judged_fits : (c : ℕ) → c < v.constraints → VerdictFits (judged c)
  judged_fits c h =
      let few = verdict_few m v sound c h in
      record {
        demand = le_trans few.demand (omega arith);
        left = le_trans few.left (omega arith);
        named = omega (arith, named_few m v c);
        room = withheld_room (path_in m v c);
        withheld = each_small (judged c).withheld (λ p. le_trans (few.withheld p) (omega arith));
      }

  widths : Each (λ x. length (verdict_cells x) ≡ verdict_width) all
  widths = each_listed (λ x. length (verdict_cells x) ≡ verdict_width) judged v.constraints (λ c h. verdict_width_lem (judged c) (withheld_room (path_in m v c)))

  module _ (w : List ℤ) (long : verdict_room ≤ length w) where
    abbrev written : List ℤ
    written = sets w 0 (judged_cells m v)

    stands : Stands written 0 (flat_map verdict_cells all)
    unfolding judged_cells verdicts_cells
    stands =
        stands_stored w 0 (flat_map verdict_cells all)
        (omega (arith, flat_length verdict_cells verdict_width all widths, listed_length judged v.constraints, (in_limits m.resources v sound).constraints))

    -- each is read back
    pub judged_back : (c : ℕ) → c < v.constraints → verdict_in written c ≡ judged c
    judged_back c h =
        let from : 0 + verdict_width * c ≡ verdict_width * c = omega arith in
        let t = stands_each verdict_cells verdict_width not_binding written all 0 widths stands c (omega (arith, listed_length judged v.constraints)) in
        verdict_back written c (judged c) (judged_fits c h)
        (subst (λ (x : Verdict). Stands written (verdict_width * c) (verdict_cells x)) (listed_at judged not_binding v.constraints c h)
        (subst (λ (i : ℕ). Stands written i (verdict_cells (get_or all c not_binding))) from t))

    -- so as many as there are constraints are the interval's own
    pub judged_taken : take v.constraints (verdicts_in written) ≡ take v.constraints (verdicts_of m v)
    unfolding verdicts_in verdicts_of
    judged_taken =
        let n = v.constraints in
        let few : n ≤ most_constraints = (in_limits m.resources v sound).constraints in
        let l = listed (verdict_in written) most_constraints in
        let k : length (take n l) ≡ n = length-take n l ∙ omega (arith, listed_length (verdict_in written) most_constraints) in
        let own : take n (padded most_constraints not_binding all) ≡ all = ap (λ (j : ℕ). take j (padded most_constraints not_binding all)) (sym (listed_length judged n)) ∙ padded_used most_constraints not_binding all in
        listed_is not_binding (take n l) judged n k (λ c h.
        taken_at n l c not_binding (omega arith) ∙ listed_at (verdict_in written) not_binding most_constraints c (omega arith) ∙ judged_back c h)
        ∙ sym own

-- ---- and they are printed alike: only as many as there are constraints are
text_taken : (i n : ℕ) (a b : List Verdict) → take n a ≡ take n b → verdict_text i n a ≡ verdict_text i n b
unfolding verdict_text verdict_table seller_table
text_taken i n a b e = rw e

pub printed_alike : (m : Market) (s : Standing) (v : Interval) (w : List ℤ) (i : ℕ) → verdict_room ≤ length w → call_refusal m s v ≡ 0
    → verdict_text i v.constraints (verdicts_in (sets w 0 (judged_cells m v))) ≡ verdict_text i v.constraints (call_verdicts m s v)
unfolding call_verdicts
printed_alike m s v w i long e =
    rw e (text_taken i v.constraints (verdicts_in (sets w 0 (judged_cells m v))) (verdicts_of m v) (judged_taken m v (sound_call m s v e) w long))
