-- The verdicts of a call are read back from their cells: those that are not binding of a refused one, and those that an accepted one puts over them. Assumes nothing.
use mathlib.Core.List.{List}
use mathlib.Core.Path.{◌≡◌, refl, sym, ap, subst, ◌∙◌}
use Prim.Native.Nat.{ℕ, zero, suc, ◌+◌, ◌*◌, ◌<◌}
use native.Mathlib.Omega.{arith}
use lib.IntN.{ℤ}
use lib.ListN.{length, get_or, replicate, length-replicate}
use lib.Seq.{sets}
use Rattle.rules_number.specs.Over.{listed}
use Rattle.rules_number.proofs.ListedLaws.{listed_is}
use Rattle.rules_number.proofs.OverLaws.{listed_length, padded_length}
use Rattle.rules_interval.specs.Intervals.{interval_refusal}
use Rattle.rules_interval.specs.declared.Interval.{Interval}
use Rattle.rules_interval.proofs.IntervalLaws.{in_limits}
use Rattle.rules_path.specs.Judgements.{path_in, verdicts_of, verdicts_unless}
use Rattle.rules_path.specs.Verdicts.{not_binding, verdict_of}
use Rattle.rules_path.specs.declared.Market.{Market}
use Rattle.rules_path.specs.declared.Verdict.{Verdict}
use Rattle.rules_library.specs.Slices.{cell_at}
use Rattle.rules_state.specs.Layout.{most_constraints, verdict_width}
use Rattle.rules_state.specs.Fits.{Each, Small}
use Rattle.rules_state.specs.Verdicts.{verdict_cells, verdicts_cells, judged_cells, verdict_in, verdicts_in}
use Rattle.rules_state.specs.Takes.{if_accepted}
use Rattle.rules_state.proofs.StandLaws.{Stands, each_at, each_also, each_blank, each_padded, each_listed, stands_each}
use Rattle.rules_state.proofs.VerdictLaws.{VerdictFits, verdict_back, judged_fits}
use Rattle.rules_state.proofs.WrittenSlices.{verdict_width_lem}
use Rattle.taking.proofs.FoundLaws.{judged_all}

plain : (i : ℕ) → 0 + i ≡ i
plain i = omega arith

-- as many verdicts as there may be constraints, each of which cells can hold
verdicts_back : (l : List Verdict) → length l ≡ most_constraints → Each VerdictFits l → verdicts_in (verdicts_cells l) ≡ l
unfolding verdicts_in verdicts_cells
verdicts_back l n fits =
    let k = verdicts_cells l in
    let widths = each_also VerdictFits (λ x. length (verdict_cells x) ≡ verdict_width) l (λ x f. verdict_width_lem x f.room) fits in
    sym (listed_is not_binding l (verdict_in k) most_constraints n (λ c h.
    let q : c < length l = omega arith in
    let t = stands_each verdict_cells verdict_width not_binding k l 0 widths (λ i m. ap (λ (j : ℕ). cell_at k j) (plain i)) c q in
    sym (verdict_back k c (get_or l c not_binding) (each_at VerdictFits l c not_binding fits q) (subst (λ (i : ℕ). Stands k i (verdict_cells (get_or l c not_binding))) (plain (verdict_width * c)) t))))

blank_fits : VerdictFits not_binding
blank_fits = record { demand = omega arith; left = omega arith; named = omega arith; room = refl; withheld = each_blank Small 16 0 (omega arith) }

-- a refusal has none that binds
pub none_bind : (n : ℕ) (l : List Verdict) → 0 < n → replicate 32 not_binding ≡ verdicts_unless n l
none_bind zero l h = absurd (omega arith)
none_bind (suc n) l h = refl

-- those of a call with number n, 0 only where 13 to 16 don't apply
pub read_back : (m : Market) (v : Interval) (n : ℕ) → (n ≡ 0 → interval_refusal m.resources v ≡ 0) → (none found : List ℤ) → none ≡ verdicts_cells (replicate 32 not_binding)
    → found ≡ if_accepted n (sets none 0 (judged_cells m v)) none → verdicts_in found ≡ verdicts_unless n (verdicts_of m v)
unfolding verdicts_of
read_back m v zero sound none found e f =
    let s = sound refl in
    let few = (in_limits m.resources v s).constraints in
    let of : ℕ → Verdict = λ c. verdict_of (path_in m v c) in
    let all = listed of v.constraints in
    ap verdicts_in (f ∙ ap (λ (l : List ℤ). sets l 0 (judged_cells m v)) e ∙ judged_all m v few)
    ∙ verdicts_back (verdicts_of m v) (padded_length most_constraints not_binding all (omega (arith, listed_length of v.constraints)))
    (each_padded VerdictFits most_constraints not_binding all blank_fits (each_listed VerdictFits of v.constraints (judged_fits m v s)))
read_back m v (suc n) sound none found e f =
    ap verdicts_in (f ∙ e) ∙ verdicts_back (replicate 32 not_binding) (length-replicate 32 not_binding) (each_blank VerdictFits 32 not_binding blank_fits)
