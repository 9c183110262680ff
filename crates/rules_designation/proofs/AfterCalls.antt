-- A tally that the caller keeps in numbers, over any list of calls: it is the tally of that list of days. Assumes nothing.
use mathlib.Core.Bool.{Bool}
use mathlib.Core.List.{List, [], ◌∷◌, ◌++◌}
use mathlib.Core.Path.{◌≡◌, refl, sym, ap, ap₂, ◌∙◌, subst}
use Prim.Native.Nat.{ℕ, zero, suc, ◌+◌, ◌≤◌, ◌<◌}
use native.Mathlib.Omega.{arith}
use borrow.Author.Tests.{le-leb}
use lib.IntN.{ℤ, pos, negsuc}
use lib.ListN.{length, get_or, length-append, get_or-append}
use lib.Seq.{sets, length-sets, get_or-append-add}
use Rattle.rules_number.specs.Over.{listed}
use Rattle.rules_number.proofs.ListedLaws.{listed_is}
use Rattle.rules_number.proofs.OverLaws.{listed_length}
use Rattle.rules_library.specs.Slices.{answer_of, if_written}
use Rattle.rules_state.proofs.StandLaws.{stored_at}
use Rattle.rules_designation.specs.Calls.{tally_room, mask_in, masks_in, tally_in, tally_cells, day_answer, cells_after, cells_over, cells_fresh}
use Rattle.rules_designation.specs.Tallies.{day_refusal, with_day, tally_unless, tally_after, fresh_tally, tally_of}
use Rattle.rules_designation.specs.declared.Day.{Day}
use Rattle.rules_designation.specs.declared.Tally.{Tally}
use Rattle.rules_designation.proofs.PushLaws.{pushed_length}
use Rattle.rules_designation.proofs.SixtyDays.{SixtyDays, sixty_days, accepted_of}

-- a tally has sixty masks of each kind
abbrev pub Sized : Tally → Type 0
Sized t = (length t.bound ≡ 60) × (length t.noncompetitive ≡ 60)

pub sized_in : (l : List ℕ) → Sized (tally_in l)
unfolding tally_in masks_in
sized_in l = (listed_length (mask_in l 2) 60, listed_length (mask_in l 62) 60)

pub sized_after : (t : Tally) (d : Day) → Sized t → Sized (tally_after t d)
unfolding tally_after with_day
sized_after t d s = go (day_refusal t d)
  where
    go : (n : ℕ) → Sized (tally_unless n (with_day t d) t)
    go zero = (pushed_length t.bound d.bound s.0, pushed_length t.noncompetitive d.noncompetitive s.1)
    go (suc n) = s

pub cells_length : (t : Tally) → Sized t → length (tally_cells t) ≡ 122
unfolding tally_cells
cells_length t s = omega (arith, length-append t.bound t.noncompetitive, s.0, s.1)

abbrev tally_with : ℕ → ℕ → List ℕ → List ℕ → Tally
tally_with d l b n = record { days = d; last = l; bound = b; noncompetitive = n }

-- what is put is read back
module _ (l : List ℕ) (t : Tally) (room : tally_room ≤ length l) (s : Sized t) where
  abbrev cells : List ℕ
  cells = t.days ∷ t.last ∷ t.bound ++ t.noncompetitive

  abbrev after : List ℕ
  after = sets l 0 cells

  long : length cells ≡ 122
  unfolding tally_cells
  long = cells_length t s

  at : (k : ℕ) → k < 122 → get_or after k 0 ≡ get_or cells k 0
  at k h =
      let z : k ≡ 0 + k = omega arith in
      ap (λ (i : ℕ). get_or after i 0) z ∙ stored_at 0 l 0 cells (omega (arith, long)) k (omega (arith, long))

  first : t.bound ≡ masks_in after 2
  unfolding masks_in
  first = listed_is 0 t.bound (mask_in after 2) 60 s.0 each
    where
      each : (q : ℕ) → q < 60 → get_or t.bound q 0 ≡ get_or after (2 + q) 0
      each q h =
          let z : 2 + q ≡ suc (suc q) = omega arith in
          sym (at (2 + q) (omega arith) ∙ ap (λ (i : ℕ). get_or cells i 0) z ∙ get_or-append t.bound t.noncompetitive 0 q (omega (arith, s.0)))

  second : t.noncompetitive ≡ masks_in after 62
  unfolding masks_in
  second = listed_is 0 t.noncompetitive (mask_in after 62) 60 s.1 each
    where
      each : (q : ℕ) → q < 60 → get_or t.noncompetitive q 0 ≡ get_or after (62 + q) 0
      each q h =
          let z : 62 + q ≡ suc (suc (length t.bound + q)) = omega (arith, s.0) in
          sym (at (62 + q) (omega arith) ∙ ap (λ (i : ℕ). get_or cells i 0) z ∙ get_or-append-add t.bound t.noncompetitive q 0)

  pub read_back : tally_in (sets l 0 (tally_cells t)) ≡ t
  unfolding tally_in tally_cells
  read_back =
      ap₂ (λ (d n : ℕ). tally_with d n (masks_in after 2) (masks_in after 62)) (at 0 (omega arith)) (at 1 (omega arith))
      ∙ ap₂ (λ (x y : List ℕ). tally_with t.days t.last x y) (sym first) (sym second)

abbrev written : List ℕ → Day → List ℕ
written l d = sets l 0 (tally_cells (tally_after (tally_in l) d))

-- a call leaves as many numbers, and they stand for the tally after the day
same_room : (l : List ℕ) (d : Day) → length (cells_after l d) ≡ length l
unfolding cells_after
same_room l d = go (day_answer l d)
  where
    go : (z : ℤ) → length (if_written z (written l d) l) ≡ length l
    go (pos zero) = length-sets l 0 (tally_cells (tally_after (tally_in l) d))
    go (pos (suc n)) = refl
    go (negsuc n) = refl

kept : (l : List ℕ) (d : Day) (n : ℕ) → day_refusal (tally_in l) d ≡ suc n → tally_after (tally_in l) d ≡ tally_in l
unfolding tally_after
kept l d n e = ap (λ (k : ℕ). tally_unless k (with_day (tally_in l) d) (tally_in l)) e

pub after_call : (l : List ℕ) (d : Day) → tally_room ≤ length l → tally_in (cells_after l d) ≡ tally_after (tally_in l) d
unfolding cells_after day_answer
after_call l d room = ap (λ (b : Bool). tally_in (if_written (answer_of b (day_refusal (tally_in l) d)) (written l d) l)) (le-leb tally_room (length l) room) ∙ go (day_refusal (tally_in l) d) refl
  where
    go : (n : ℕ) → day_refusal (tally_in l) d ≡ n → tally_in (if_written (pos n) (written l d) l) ≡ tally_after (tally_in l) d
    go zero e = read_back l (tally_after (tally_in l) d) room (sized_after (tally_in l) d (sized_in l))
    go (suc n) e = sym (kept l d n e)

pub calls_room : (days : List Day) (l : List ℕ) → length (cells_over l days) ≡ length l
unfolding cells_over
calls_room [] l = refl
calls_room (d ∷ days) l = calls_room days (cells_after l d) ∙ same_room l d

calls_are : (days : List Day) (l : List ℕ) → tally_room ≤ length l → tally_in (cells_over l days) ≡ tally_of (tally_in l) days
unfolding cells_over tally_of
calls_are [] l room = refl
calls_are (d ∷ days) l room =
    calls_are days (cells_after l d) (omega (arith, same_room l d)) ∙ ap (λ (t : Tally). tally_of t days) (after_call l d room)

pub fresh_cells : tally_in cells_fresh ≡ fresh_tally
unfolding tally_in masks_in listed fresh_tally
fresh_cells = refl

-- "After every list of days from a fresh tally, refused ones included, it equals the count over the last 60 accepted of that list", in numbers
pub sixty_days_in_numbers : (days : List Day) → SixtyDays days (tally_in (cells_over cells_fresh days)) (accepted_of days)
sixty_days_in_numbers days =
    subst (λ (t : Tally). SixtyDays days t (accepted_of days)) (sym (calls_are days cells_fresh (omega arith) ∙ ap (λ (t : Tally). tally_of t days) fresh_cells)) (sixty_days days)
