-- A tally in 122 numbers: how the code puts it, and what the calls answer. Assumes nothing.
use mathlib.Core.List.{List, [], ◌++◌}
use mathlib.Core.Path.{◌≡◌, refl, sym, ap, ap₂, ◌∙◌}
use Prim.Native.Nat.{ℕ, ◌+◌, ◌-◌, ◌≤◌, ◌<◌}
use native.Mathlib.Omega.{arith}
use lib.IntN.{ℤ, pos, negsuc}
use lib.ListN.{length, set, take, drop, length-set, length-take, length-drop}
use lib.Seq.{sets, sets-eq, take_all, get_or-take, get_or-drop}
use borrow.Rule.Slice.PartMut.{put_mid}
use Rattle.std.proofs.lemmas.Slice.{put_mid-paste}
use Rattle.rules_number.proofs.ListedLaws.{listed_is}
use Rattle.rules_text.proofs.ListLaws.{sets_append}
use Rattle.rules_path.specs.Verdicts.{finding_number}
use Rattle.rules_path.specs.declared.Finding.{Finding}
use Rattle.rules_designation.specs.Designations.{hours_in, designation}
use Rattle.rules_designation.specs.Tallies.{day_refusal, tally_after}
use Rattle.rules_designation.specs.declared.Day.{Day}
use Rattle.rules_designation.specs.declared.Tally.{Tally}
use Rattle.rules_state.specs.Calls.{holds}
use Rattle.cells.proofs.AnswerLaws as answers
use Rattle.rules_designation.specs.Calls.{tally_room, mask_in, masks_in, tally_in, tally_cells, day_answer, cells_after, designation_answer, hours_after}
use Rattle.rules_designation.proofs.CallAnswers.{designation_told}

-- sixty numbers from an index on
pub part_is : (cells : List ℕ) (from : ℕ) → from + 60 ≤ length cells → take (from + 60 - from) (drop from cells) ≡ masks_in cells from
unfolding masks_in
part_is cells from h =
    let n : from + 60 - from ≡ 60 = omega arith in
    let part = drop from cells in
    ap (λ (i : ℕ). take i part) n
    ∙ listed_is 0 (take 60 part) (mask_in cells from) 60 (omega (arith, length-take 60 part, length-drop from cells))
    (λ k l. get_or-take 60 part k 0 l ∙ get_or-drop from cells k 0)

-- the same put back
pub part_put : (cells : List ℕ) (from : ℕ) (new masks : List ℕ) → new ≡ masks → length masks ≡ 60 → from + 60 ≤ length cells → put_mid from (from + 60 - from) cells new ≡ sets cells from masks
part_put cells from new masks e n h =
    put_mid-paste from (from + 60 - from) cells new masks 60 e (omega arith) (sym n)
    ∙ ap (λ (l : List ℕ). take from cells ++ l ++ drop (from + 60) cells) (take_all 60 masks (omega (arith, n)))
    ∙ ap (λ (k : ℕ). take from cells ++ masks ++ drop (from + k) cells) (sym n) ∙ sym (sets-eq masks cells from (omega (arith, n)))

-- a tally is put: its first two numbers, and the masks of each kind
abbrev begun : List ℕ → ℕ → ℕ → List ℕ
begun l d n = set (set l 0 d) 1 n

pub put_length : (l : List ℕ) (d n : ℕ) → length (begun l d n) ≡ length l
put_length l d n = length-set (set l 0 d) 1 n ∙ length-set l 0 d

pub cells_put : (l : List ℕ) (t : Tally) → length t.bound ≡ 60 → sets (sets (begun l t.days t.last) 2 t.bound) 62 t.noncompetitive ≡ sets l 0 (tally_cells t)
unfolding tally_cells
cells_put l t e =
    let z : 62 ≡ 2 + length t.bound = omega arith in
    ap (λ (i : ℕ). sets (sets (begun l t.days t.last) 2 t.bound) i t.noncompetitive) z ∙ sym (sets_append (begun l t.days t.last) 2 t.bound t.noncompetitive)

-- ---- what noskjerf_day answers, and the tally that it leaves
module _ (l : List ℕ) (d : Day) where
  abbrev next : List ℕ
  next = sets l 0 (tally_cells (tally_after (tally_in l) d))

  abbrev nothing : List ℕ
  nothing = []

  abbrev pub DayAnswered : ℤ → List ℕ → Type 0
  DayAnswered z s = (z ≡ day_answer l d) × (s ≡ cells_after l d)

  pub few_cells : length l < tally_room → DayAnswered (negsuc 0) l
  unfolding day_answer cells_after
  few_cells h = let k = answers.too_short (holds tally_room l) (day_refusal (tally_in l) d) next l nothing nothing (answers.short tally_room l h) in (k.0, k.1.0)

  module _ (h : tally_room ≤ length l) where
    pub refused : (n : ℕ) → 0 < n → day_refusal (tally_in l) d ≡ n → DayAnswered (pos n) l
    unfolding day_answer cells_after
    refused n k e = let a = answers.refused (holds tally_room l) (day_refusal (tally_in l) d) next l nothing nothing (answers.long tally_room l h) n k e in (a.0, a.1.0)

    pub written : day_refusal (tally_in l) d ≡ 0 → (out : List ℕ) → out ≡ sets l 0 (tally_cells (tally_after (tally_in l) d)) → DayAnswered (pos 0) out
    unfolding day_answer cells_after
    written z out o = let a = answers.written (holds tally_room l) (day_refusal (tally_in l) d) next l nothing nothing (answers.long tally_room l h) z out o nothing refl in (a.0, a.1.0)

-- ---- the same of noskjerf_designation
pub found : (l hours : List ℕ) → tally_room ≤ length l → 2 ≤ length hours
    → (n b x : ℕ) → n ≡ finding_number (designation (tally_in l)) → b ≡ hours_in (tally_in l).bound → x ≡ hours_in (tally_in l).noncompetitive
    → (pos n ≡ designation_answer l hours) × (set (set hours 0 b) 1 x ≡ hours_after l hours)
found l hours h k n b x e f g =
    let t = designation_told l hours h k in (ap pos e ∙ sym t.0, ap₂ (λ (u v : ℕ). set (set hours 0 u) 1 v) f g ∙ sym t.1)

pub small_finding : (f : Finding) → finding_number f ≤ 2
small_finding Finding.Competitive = omega arith
small_finding Finding.NonCompetitive = omega arith
small_finding Finding.NotBinding = omega arith
