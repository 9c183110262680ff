-- The cells of an opened hour, put into cells that are 0 as far as it has resources, stand for that hour: rows past its resources are blank. Assumes nothing.
use mathlib.Core.Bool.{Bool, true, false}
use mathlib.Core.List.{List, [], ◌∷◌, ◌++◌, flat_map, append_assoc}
use mathlib.Core.Logic.{⊎_elim}
use mathlib.Core.Path.{◌≡◌, refl, sym, ap, ◌∙◌}
use Prim.Native.Nat.{ℕ, zero, suc, ◌+◌, ◌-◌, ◌*◌, ◌≤◌, ◌<◌}
use native.Mathlib.Omega.{arith}
use borrow.Author.Tests.{le-leb, lt-leb}
use lib.IntN.{ℤ, pos, negsuc}
use lib.ListN.{length, replicate, length-append, length-replicate, get_or-append, get_or-eq_default}
use lib.Seq.{sets, length-sets, get_or-append-add, ext_get_or}
use Rattle.rules_number.specs.Over.{listed, padded}
use Rattle.rules_number.proofs.OverLaws.{le_or_lt, listed_length}
use Rattle.rules_opening.specs.Openings.{resource_at, opening_refusal, market_of}
use Rattle.rules_opening.specs.Resources.{blank_row, row_of}
use Rattle.rules_opening.specs.declared.Opening.{Opening}
use Rattle.rules_curve.specs.Curves.{blank_curve}
use Rattle.rules_hour.specs.Hours.{fresh_standing}
use Rattle.rules_hour.specs.Opened.{fresh_hour, opened_hour}
use Rattle.rules_hour.proofs.AcceptedOpening.{few, opened_hour_lem}
use Rattle.rules_pass.specs.Passes.{fresh_quarter, opened_real_time}
use Rattle.rules_text.proofs.ListLaws.{sets_read}
use Rattle.rules_library.specs.Slices.{cell_at, answer_of, if_written}
use Rattle.rules_state.specs.Layout.{rows_from, room_of_row, state_room, hour_room}
use Rattle.rules_state.specs.Calls.{holds}
use Rattle.rules_state.specs.States.{hour_in, standing_cells, quarter_cells, market_cells, curve_cells, row_cells, state_cells}
use Rattle.rules_state.specs.Takes.{opened_cells}
use Rattle.rules_state.specs.OpenedInto.{into_answer, opened_into}
use Rattle.rules_state.proofs.StandLaws.{Stands, each_blank, flat_length}
use Rattle.rules_state.proofs.HourBack.{state_room_lem, hour_back}
use Rattle.rules_state.proofs.OpenedFits.{opened_fits}

-- ---- lists of zeros
abbrev Zeros : List ℤ → Type 0
Zeros l = (k : ℕ) → cell_at l k ≡ pos 0

-- numbers with zeros after them read as without them
zeros_after : (a b : List ℤ) → Zeros b → (k : ℕ) → cell_at (a ++ b) k ≡ cell_at a k
zeros_after a b z k = ⊎_elim
    (λ h. let e : k ≡ length a + (k - length a) = omega arith in
    ap (λ (i : ℕ). cell_at (a ++ b) i) e ∙ get_or-append-add a b (k - length a) (pos 0) ∙ z (k - length a) ∙ sym (get_or-eq_default a (pos 0) h))
    (λ h. get_or-append a b (pos 0) k h) (le_or_lt (length a) k)

zeros_both : (a b : List ℤ) → Zeros a → Zeros b → Zeros (a ++ b)
zeros_both a b y z k = zeros_after a b z k ∙ y k

zeros_blank : (n : ℕ) → Zeros (replicate n (pos 0))
zeros_blank zero k = refl
zeros_blank (suc n) zero = refl
zeros_blank (suc n) (suc k) = zeros_blank n k

-- the cells of a blank row
blank_cells : row_cells blank_row ≡ replicate room_of_row (pos 0)
unfolding row_cells curve_cells blank_curve padded
blank_cells = refl

blank_rows_lem : (m : ℕ) → Zeros (flat_map row_cells (replicate m blank_row))
unfolding flat_map
blank_rows_lem zero = λ k. refl
blank_rows_lem (suc m) = zeros_both (row_cells blank_row) (flat_map row_cells (replicate m blank_row)) (λ k. ap (λ (l : List ℤ). cell_at l k) blank_cells ∙ zeros_blank room_of_row k) (blank_rows_lem m)

blank_room : (m : ℕ) → length (flat_map row_cells (replicate m blank_row)) ≡ room_of_row * m
blank_room m =
    flat_length row_cells room_of_row (replicate m blank_row) (each_blank (λ x. length (row_cells x) ≡ room_of_row) m blank_row (ap length blank_cells ∙ length-replicate room_of_row (pos 0)))
    ∙ ap (λ (i : ℕ). room_of_row * i) (length-replicate m blank_row)

-- numbers put into zeros that they fit into are read back, and zeros past them
put_read : (n : ℕ) (a : List ℤ) → length a ≤ n → (k : ℕ) → cell_at (sets (replicate n (pos 0)) 0 a) k ≡ cell_at a k
put_read n a h k = ⊎_elim
    (λ p. get_or-eq_default (sets (replicate n (pos 0)) 0 a) (pos 0) (omega (arith, length-sets (replicate n (pos 0)) 0 a, length-replicate n (pos 0)))
    ∙ sym (get_or-eq_default a (pos 0) (omega arith)))
    (λ p. sets_read n (pos 0) a k p) (le_or_lt n k)

flat_append : {A B : Type 0} (f : A → List B) (a b : List A) → flat_map f (a ++ b) ≡ flat_map f a ++ flat_map f b
unfolding flat_map
flat_append f [] b = refl
flat_append f (x ∷ a) b = ap (λ (l : List _). f x ++ l) (flat_append f a b) ∙ sym (append_assoc (f x) (flat_map f a) (flat_map f b))

-- ---- what opening answers and leaves
module _ (o : Opening) (l : List ℤ) where
  abbrev room : Bool
  room = holds (hour_room o.resources) l

  kept : (b : Bool) (n : ℕ) → (b ≡ true → 0 < n) → if_written (answer_of b n) (sets l 0 (opened_cells o)) l ≡ l
  kept true zero h = absurd (omega (arith, h refl))
  kept true (suc n) h = refl
  kept false n h = refl

  -- too few cells are said to be so, and nothing is written
  pub short_into : length l < hour_room o.resources → (into_answer l o ≡ negsuc 0) × (opened_into o l ≡ l)
  unfolding into_answer opened_into
  short_into h = rw (lt-leb (hour_room o.resources) (length l) h) (refl, refl)

  -- a refused opening writes nothing
  pub none_into : 0 < opening_refusal o → opened_into o l ≡ l
  unfolding into_answer opened_into
  none_into h = kept room (opening_refusal o) (λ e. h)

  module _ (long : hour_room o.resources ≤ length l) where
    pub into_answer_lem : into_answer l o ≡ pos (opening_refusal o)
    unfolding into_answer
    into_answer_lem = rw (le-leb (hour_room o.resources) (length l) long)

    -- an accepted one writes its cells
    pub opened_into_lem : opening_refusal o ≡ 0 → opened_into o l ≡ sets l 0 (opened_cells o)
    unfolding opened_into
    opened_into_lem accepted = rw (into_answer_lem, accepted)

module _ (o : Opening) (accepted : opening_refusal o ≡ 0) where
  -- the blank rows past its resources
  abbrev spare : ℕ
  spare = 64 - length (listed (λ r. row_of (resource_at o r)) o.resources)

  abbrev past : List ℤ
  past = flat_map row_cells (replicate spare blank_row)

  -- the cells of the whole hour: those of its resources, and the blank rows
  whole_cells : state_cells (opened_real_time o) ≡ opened_cells o ++ past
  unfolding state_cells opened_cells opened_real_time fresh_hour padded
  whole_cells =
      let rows = listed (λ r. row_of (resource_at o r)) o.resources in
      let fresh = standing_cells fresh_standing ++ quarter_cells fresh_quarter ++ market_cells (market_of o) in
      let blanks = replicate spare blank_row in
      rw (opened_hour_lem o accepted) (ap (λ (l : List ℤ). fresh ++ l) (flat_append row_cells rows blanks) ∙ sym (append_assoc fresh (flat_map row_cells rows) (flat_map row_cells blanks)))

  -- 339 cells, and 48 of each resource
  pub opened_room : length (opened_cells o) ≡ rows_from + room_of_row * o.resources
  opened_room =
      let n = state_room_lem (opened_real_time o) (opened_fits o accepted) in
      let e = ap length whole_cells ∙ length-append (opened_cells o) past in
      let b = blank_room spare in
      omega (arith, n, e, b, listed_length (λ r. row_of (resource_at o r)) o.resources, (few o accepted).2)

  module _ (n : ℕ) (room : rows_from + room_of_row * o.resources ≤ n) where
    abbrev pub opened : List ℤ
    opened = sets (replicate n (pos 0)) 0 (opened_cells o)

    stands : Stands opened 0 (state_cells (opened_real_time o))
    stands k h =
        let z : 0 + k ≡ k = omega arith in
        ap (λ (i : ℕ). cell_at opened i) z ∙ put_read n (opened_cells o) (omega (arith, opened_room)) k ∙ sym (zeros_after (opened_cells o) past (blank_rows_lem spare) k)
        ∙ ap (λ (l : List ℤ). cell_at l k) (sym whole_cells)

    -- put into as many cells as an hour has, they are those of the whole hour
    pub opened_is : n ≡ state_room → opened ≡ state_cells (opened_real_time o)
    opened_is e =
        let long : length opened ≡ n = length-sets (replicate n (pos 0)) 0 (opened_cells o) ∙ length-replicate n (pos 0) in
        let same = long ∙ e ∙ sym (state_room_lem (opened_real_time o) (opened_fits o accepted)) in
        ext_get_or (pos 0) opened (state_cells (opened_real_time o)) same (λ k h.
        let z : k ≡ 0 + k = omega arith in
        ap (λ (i : ℕ). cell_at opened i) z ∙ stands k (omega (arith, same)))

    pub opened_back : hour_in opened ≡ opened_real_time o
    opened_back = hour_back (opened_real_time o) (opened_fits o accepted) opened stands

    pub hour_opened : (hour_in opened).hour ≡ opened_hour o
    unfolding opened_real_time
    hour_opened = ap (λ h. h.hour) opened_back
