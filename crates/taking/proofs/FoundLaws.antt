-- The cells of the verdicts of an interval, put over verdicts that are not binding. Assumes nothing.
use mathlib.Core.List.{List, [], ◌∷◌, ◌++◌, map, flat_map, append_assoc, append-nil}
use mathlib.Core.Path.{◌≡◌, refl, sym, ap, ◌∙◌}
use Prim.Native.Nat.{ℕ, suc, ◌+◌, ◌-◌, ◌*◌, ◌≤◌, ◌<◌}
use native.Mathlib.Numerals.{add-one}
use native.Mathlib.Omega.{arith}
use lib.IntN.{ℤ, pos}
use lib.ListN.{length, length-replicate, set, drop, replicate, length-append, replicate-append-replicate}
use lib.Seq.{sets, sets-eq, set_at}
use Rattle.rules_number.specs.Over.{listed, padded}
use Rattle.rules_number.proofs.OverLaws.{listed_length}
use Rattle.rules_interval.specs.declared.Interval.{Interval}
use Rattle.rules_path.specs.Judgements.{path_in, verdicts_of}
use Rattle.rules_path.specs.Verdicts.{not_binding, verdict_of}
use Rattle.rules_path.specs.declared.Market.{Market}
use Rattle.rules_path.specs.declared.Verdict.{Verdict}
use Rattle.rules_state.specs.Verdicts.{verdict_cells, verdicts_cells, judged_cells}
use Rattle.rules_state.proofs.StandLaws.{flat_length, each_listed, each_blank}
use Rattle.rules_state.proofs.WrittenSlices.{verdict_room_lem}

flat_append : {A B : Type 0} (f : A → List B) (a b : List A) → flat_map f (a ++ b) ≡ flat_map f a ++ flat_map f b
unfolding flat_map
flat_append f [] b = refl
flat_append f (x ∷ a) b = ap (λ (l : List _). f x ++ l) (flat_append f a b) ∙ sym (append_assoc (f x) (flat_map f a) (flat_map f b))

-- ---- verdicts that are not binding
-- twenty cells each: 2, and then zeros
blank_cells : verdict_cells not_binding ≡ pos 2 ∷ replicate 19 (pos 0)
unfolding verdict_cells
blank_cells = refl

abbrev blanks : ℕ → List ℤ
blanks n = flat_map verdict_cells (replicate n not_binding)

blanks_length : (n : ℕ) → length (blanks n) ≡ 20 * n
blanks_length n =
    flat_length verdict_cells 20 (replicate n not_binding) (each_blank (λ x. length (verdict_cells x) ≡ 20) n not_binding (ap length blank_cells)) ∙ ap (λ (k : ℕ). 20 * k) (length-replicate n not_binding)

blanks_more : (n : ℕ) → blanks n ++ verdict_cells not_binding ≡ blanks (suc n)
unfolding flat_map
blanks_more n =
    ap (λ (l : List ℤ). blanks n ++ l) (sym (append-nil (verdict_cells not_binding))) ∙ sym (flat_append verdict_cells (replicate n not_binding) (not_binding ∷ []))
    ∙ ap (flat_map verdict_cells) (replicate-append-replicate n 1 not_binding ∙ ap (λ (k : ℕ). replicate k not_binding) (add-one n))

-- the first n of an array that is filled from the left
pub filled : ℕ → List ℤ
filled n = blanks n ++ replicate (640 - 20 * n) (pos 0)

pub filled_next : (n : ℕ) → n < 32 → set (filled n) (20 * n) (pos 2) ≡ filled (n + 1)
unfolding filled
filled_next n h =
    let k = 640 - 20 * suc n in
    let e : 640 - 20 * n ≡ suc (19 + k) = omega arith in
    let one : pos 2 ∷ replicate (19 + k) (pos 0) ≡ verdict_cells not_binding ++ replicate k (pos 0) =
    ap (λ (l : List ℤ). pos 2 ∷ l) (sym (replicate-append-replicate 19 k (pos 0))) ∙ ap (λ (l : List ℤ). l ++ replicate k (pos 0)) (sym blank_cells) in
    rw (e, add-one n) (set_at (blanks n) (pos 0) (replicate (19 + k) (pos 0)) (pos 2) (20 * n) (blanks_length n)
    ∙ ap (λ (l : List ℤ). blanks n ++ l) one ∙ sym (append_assoc (blanks n) (verdict_cells not_binding) (replicate k (pos 0)))
    ∙ ap (λ (l : List ℤ). l ++ replicate k (pos 0)) (blanks_more n))

pub filled_none : replicate 640 (pos 0) ≡ filled 0
unfolding filled flat_map
filled_none = refl

pub filled_all : filled 32 ≡ verdicts_cells (replicate 32 not_binding)
unfolding filled verdicts_cells
filled_all = append-nil (blanks 32)

-- ---- the verdicts of an interval over them
drop_front : {A : Type 0} (a b : List A) → drop (length a) (a ++ b) ≡ b
drop_front [] b = refl
drop_front (x ∷ a) b = drop_front a b

over_front : (a b c : List ℤ) → length c ≡ length a → sets (a ++ b) 0 c ≡ c ++ b
over_front a b c e =
    let z : 0 + length c ≡ length a = omega arith in
    sets-eq c (a ++ b) 0 (omega (arith, length-append a b)) ∙ ap (λ (k : ℕ). c ++ drop k (a ++ b)) z ∙ ap (λ (l : List ℤ). c ++ l) (drop_front a b)

pub judged_all : (m : Market) (v : Interval) → v.constraints ≤ 32 → sets (verdicts_cells (replicate 32 not_binding)) 0 (judged_cells m v) ≡ verdicts_cells (verdicts_of m v)
unfolding verdicts_cells judged_cells verdicts_of padded
judged_all m v few =
    let n = v.constraints in
    let of : ℕ → Verdict = λ c. verdict_of (path_in m v c) in
    let judged = flat_map verdict_cells (listed of n) in
    let rest = blanks (32 - n) in
    let e : n + (32 - n) ≡ 32 = omega arith in
    let split : blanks 32 ≡ blanks n ++ rest =
    ap blanks (sym e) ∙ ap (flat_map verdict_cells) (sym (replicate-append-replicate n (32 - n) not_binding)) ∙ flat_append verdict_cells (replicate n not_binding) (replicate (32 - n) not_binding) in
    let long : length judged ≡ length (blanks n) =
    flat_length verdict_cells 20 (listed of n) (each_listed (λ x. length (verdict_cells x) ≡ 20) of n (λ c l. verdict_room_lem (path_in m v c))) ∙ ap (λ (k : ℕ). 20 * k) (listed_length of n) ∙ sym (blanks_length n) in
    ap (λ (l : List ℤ). sets l 0 judged) split ∙ over_front (blanks n) rest judged long
    ∙ sym (flat_append verdict_cells (listed of n) (replicate (32 - length (listed of n)) not_binding) ∙ ap (λ (k : ℕ). judged ++ blanks (32 - k)) (listed_length of n))

pub map_same : (l : List ℤ) → map (λ x. x) l ≡ l
map_same [] = refl
map_same (x ∷ l) = ap (λ (t : List ℤ). x ∷ t) (map_same l)
