-- Lines that stand on a page, what is put after them, and lines copied from them. Assumes nothing.
use Prim.Native.Nat.{ℕ, ◌+◌, ◌-◌, ◌*◌, ◌≤◌, ◌<◌}
use mathlib.Core.Path.{◌≡◌, refl, sym, ap, ap₂, subst, ◌∙◌}
use mathlib.Core.List.{List, [], ◌∷◌, map}
use mathlib.Core.Logic.{◌⊎◌, inl, inr, ⊎_elim}
use Rattle.rules_number.proofs.OverLaws.{le_or_lt}
use native.Mathlib.Decide.{ℕ_discrete}
use native.Mathlib.Omega.{arith}
use lib.IntN.{ℤ, pos}
use lib.ListN.{length, take, drop, set, get_or, replicate, length-set, length-map, length-drop, get_or-replicate}
use lib.Seq.{sets, get_or-set_same, get_or-set_other, length-take-le}
use Rattle.rules_mitigation.specs.Mitigation.{most_mitigated_steps, used_steps}
use Rattle.rules_opening.specs.declared.Row as engine
use Rattle.rules_hour.specs.Hours.{uncut, curve_in}
use Rattle.rules_hour.specs.declared.Floor.{Floor}
use Rattle.rules_text.specs.Numbers.{Row}
use Rattle.rules_text.specs.Printing.{group_text}
use Rattle.rules_page.specs.Pages.{curve_bytes, printable, step_row, curve_rows, Put}
use Rattle.rules_state.specs.Layout.{most_resources}
use Rattle.rules_state.specs.States.{floor_of, standing_in, rows_in, hour_in}
use Rattle.rules_library.specs.Slices.{cell_at}
use Rattle.state_cells.proofs.FloorLaws.{floors_at}
use Rattle.mitigated_cells.proofs.RowLaws.{steps_few}
use Rattle.curve_page.proofs.LineLaws.{rows_are}
use Rattle.line_copies.specs.Lines.{width_of, lines_again}
use Rattle.line_copies.proofs.HeadLaws.{sets_back, sets_same, kept_before, kept_after, headed_length}
use Rattle.line_copies.proofs.GroupLines.{width_same, group_copied}
use Rattle.page.proofs.PageLaws.{small_printable}
use Rattle.run.specs.Kept.{rows_at, floor_shown, place_of, length_of, Stands, Kept, Rooms}

-- ---- the rows of resource r
pub floor_here : (st : List ℤ) (r : ℕ) → r < most_resources → get_or (standing_in st).floors r uncut ≡ floor_of (cell_at st (1 + r)) (cell_at st (1 + most_resources + r))
unfolding standing_in
floor_here st r h = floors_at st 1 r h

pub rows_short : (st : List ℤ) (r : ℕ) → length (curve_rows (rows_in st) (standing_in st).floors r) ≤ most_mitigated_steps
rows_short st r =
    let e = ap length (rows_are st r) ∙ length-map (used_steps (curve_in (hour_in st).hour r)) step_row in
    omega (arith, e, steps_few st r)

-- ---- the two cells of resource r
pub set_room : {A : Type 0} (l : List A) (r : ℕ) (x : A) → 2 * r + 1 < length l → 2 * r + 1 < length (set l (2 * r) x)
set_room l r x h = omega (arith, h, length-set l (2 * r) x)

module _ {A : Type 0} (d : A) (l : List A) (r : ℕ) (a b : A) where
  abbrev pair_set : List A
  pair_set = set (set l (2 * r) a) (2 * r + 1) b

  pair_first : 2 * r + 1 < length l → get_or pair_set (2 * r) d ≡ a
  pair_first h = get_or-set_other (set l (2 * r) a) (2 * r + 1) (2 * r) b d (λ e. omega arith) ∙ get_or-set_same l (2 * r) a d (omega (arith, h))

  pair_second : 2 * r + 1 < length l → get_or pair_set (2 * r + 1) d ≡ b
  pair_second h = get_or-set_same (set l (2 * r) a) (2 * r + 1) b d (set_room l r a h)

  other_first : (k : ℕ) → (k ≡ r → ⊥) → get_or pair_set (2 * k) d ≡ get_or l (2 * k) d
  other_first k n = get_or-set_other (set l (2 * r) a) (2 * r + 1) (2 * k) b d (λ e. omega arith) ∙ get_or-set_other l (2 * r) (2 * k) a d (λ e. n (omega arith))

  other_second : (k : ℕ) → (k ≡ r → ⊥) → get_or pair_set (2 * k + 1) d ≡ get_or l (2 * k + 1) d
  other_second k n = get_or-set_other (set l (2 * r) a) (2 * r + 1) (2 * k + 1) b d (λ e. n (omega arith)) ∙ get_or-set_other l (2 * r) (2 * k + 1) a d (λ e. omega arith)

-- ---- lines of one resource
-- rows are as wide in one interval as in another
widths_same : (i j r : ℕ) → i < 10 → j < 10 → (l : List Row) → map (width_of i r) l ≡ map (width_of j r) l
widths_same i j r hi hj [] = refl
widths_same i j r hi hj (x ∷ l) = ap₂ (λ (a : ℕ) (b : List ℕ). a ∷ b) (width_same i j r x hi hj) (widths_same i j r hi hj l)

module _ {l : List Row} {r : ℕ} {page : List ℕ} {end from n : ℕ} {widths : List ℕ} {base : ℕ} (w : Stands l r page end from n widths base) where
  -- something is put past them
  stands_past : (t put : List ℕ) (next : ℕ) → put ≡ sets page end t → end ≤ next → Stands l r put next from n widths base
  stands_past t put next e h = record {
    interval = w.interval;
    small = w.small;
    lines = ap (λ (x : List ℕ). take n (drop from x)) e ∙ kept_before page end t from n w.before ∙ w.lines;
    before = omega (arith, w.before, h);
    few = w.few;
    short = w.short;
    wide = w.wide;
  }

  -- widths of others are put
  stands_beside : (other : ℕ) (ws after : List ℕ) → after ≡ sets widths other ws → (other + length ws ≤ base) ⊎ (base + most_mitigated_steps ≤ other) → Stands l r page end from n after base
  stands_beside other ws after e o = record {
    interval = w.interval;
    small = w.small;
    lines = w.lines;
    before = w.before;
    few = w.few;
    short = w.short;
    wide =
        ap (λ (x : List ℕ). take (length l) (drop base x)) e
        ∙ ⊎_elim (λ h. ap (take (length l)) (kept_after widths other ws base h)) (λ h. kept_before widths other ws base (length l) (omega (arith, h, w.short))) o ∙ w.wide;
  }

  -- the lines of interval i, copied
  again : (i : ℕ) → i < 10 → lines_again page from n widths base (48 + i) ≡ group_text i r l
  again i h = group_copied i w.interval r h w.small l page from n widths base w.lines w.wide

  again_length : (i : ℕ) → i < 10 → end ≤ length page → length (group_text i r l) ≡ n
  again_length i h k =
      ap length (sym (again i h)) ∙ headed_length (48 + i) 0 (drop base widths) (take n (drop from page)) ∙ length-take-le n (drop from page) (omega (arith, w.before, k, length-drop from page))

  again_wide : (i : ℕ) → i < 10 → base + most_mitigated_steps ≤ length widths → widths ≡ sets widths base (map (width_of i r) l)
  again_wide i h k = sets_same 0 widths base (length l) (omega (arith, w.short, k)) ∙ ap (sets widths base) (w.wide ∙ widths_same w.interval i r w.small h l)

  copied_at : (i : ℕ) → i < 10 → end + curve_bytes ≤ length page → base + most_mitigated_steps ≤ length widths → (put : List ℕ) (q : ℕ) → put ≡ sets page end (lines_again page from n widths base (48 + i)) → q ≡ end + n
      → Put curve_bytes page end (group_text i r l) put q × (widths ≡ sets widths base (map (width_of i r) l))
  copied_at i h room more put q e f =
      (record { buffer = e ∙ ap (sets page end) (again i h); next = omega (arith, f, again_length i h (omega (arith, room))); few = omega (arith, f, w.few) }, again_wide i h more)

-- lines that were put
stands_new : (l : List Row) (r i : ℕ) (page put : List ℕ) (p q : ℕ) (widths : List ℕ) (base : ℕ) → i < 10 → length l ≤ most_mitigated_steps → p + curve_bytes ≤ length page
    → base + most_mitigated_steps ≤ length widths → Put curve_bytes page p (group_text i r l) put q → Stands l r put q p (q - p) (sets widths base (map (width_of i r) l)) base
stands_new l r i page put p q widths base h short room more w = record {
  interval = i;
  small = h;
  lines = ap (λ (x : List ℕ). take (q - p) (drop p x)) w.buffer ∙ sets_back page p (group_text i r l) (q - p) (omega (arith, w.next)) (omega (arith, w.few, w.next, room));
  before = omega (arith, w.next);
  few = omega (arith, w.few);
  short = short;
  wide = sets_back widths base (map (width_of i r) l) (length l) (length-map l (width_of i r)) (omega (arith, short, more));
}

moved : {r : ℕ} {page : List ℕ} {end : ℕ} {widths : List ℕ} {base : ℕ} (l m : List Row) (from to n k : ℕ) → l ≡ m → from ≡ to → n ≡ k → Stands l r page end from n widths base → Stands m r page end to k widths base
moved {r} {page} {end} {widths} {base} l m from to n k e f g w =
    subst (λ (x : List Row). Stands x r page end to k widths base) e
    (subst (λ (x : ℕ). Stands l r page end x k widths base) f (subst (λ (x : ℕ). Stands l r page end from x widths base) g w))

-- ---- lines of all resources
-- none were put
pub kept_start : {most : ℕ} {shown : List ℤ} {lines widths : List ℕ} → Rooms most shown lines widths → lines ≡ replicate (length lines) 0 → (rows : List engine.Row) (page : List ℕ) (end : ℕ)
    → Kept most rows page end shown lines widths
kept_start {most} {shown} {lines} {widths} w e rows page end =
    record { stands = λ r m s. absurd (omega (arith, s, ap (λ (l : List ℕ). get_or l (2 * r + 1) 0) e, get_or-replicate {A = ℕ} (length lines) (2 * r + 1) 0 0 (omega (arith, m, w.places)))) }

module _ {most : ℕ} {rows : List engine.Row} {page : List ℕ} {end : ℕ} {shown : List ℤ} {lines widths : List ℕ} (w : Kept most rows page end shown lines widths) where
  pub kept_past : (t put : List ℕ) (next : ℕ) → put ≡ sets page end t → end ≤ next → Kept most rows put next shown lines widths
  kept_past t put next e h = record { stands = λ r m s. stands_past (w.stands r m s) t put next e h }

  pub kept_rows : (many : ℕ) (same : List engine.Row) → most ≡ many → rows ≡ same → Kept many same page end shown lines widths
  kept_rows many same e f =
      subst (λ (n : ℕ). Kept n same page end shown lines widths) e (subst (λ (x : List engine.Row). Kept most x page end shown lines widths) f w)

  module _ (i r : ℕ) (hi : i < 10) (h : r < most) (room : end + curve_bytes ≤ length page) (rooms : Rooms most shown lines widths) where
    -- those of resource r are copied
    pub put_copied : (floor : Floor) → floor_shown shown r ≡ floor → 0 < length_of lines r → (put : List ℕ) (q : ℕ)
        → put ≡ sets page end (lines_again page (place_of lines r) (length_of lines r) widths (most_mitigated_steps * r) (48 + i)) → q ≡ end + length_of lines r
        → Put curve_bytes page end (group_text (printable i) r (rows_at rows r floor)) put q × (widths ≡ sets widths (most_mitigated_steps * r) (map (width_of (printable i) r) (rows_at rows r floor)))
    put_copied floor e s put q f g =
        subst (λ (j : ℕ). Put curve_bytes page end (group_text j r (rows_at rows r floor)) put q × (widths ≡ sets widths (most_mitigated_steps * r) (map (width_of j r) (rows_at rows r floor)))) (sym (small_printable i (omega (arith, hi))))
        (subst (λ (x : Floor). Put curve_bytes page end (group_text i r (rows_at rows r x)) put q × (widths ≡ sets widths (most_mitigated_steps * r) (map (width_of i r) (rows_at rows r x)))) e
        (copied_at (w.stands r h s) i hi room (omega (arith, rooms.wide, h)) put q f g))

    -- and kept
    module _ (a b : ℤ) (l : List Row) (is : l ≡ rows_at rows r (floor_of a b)) (short : length l ≤ most_mitigated_steps) (put : List ℕ) (q : ℕ) (p : Put curve_bytes page end (group_text i r l) put q) where
      abbrev shown_after : List ℤ
      shown_after = set (set shown (2 * r) a) (2 * r + 1) b

      abbrev lines_then : List ℕ
      lines_then = set (set lines (2 * r) end) (2 * r + 1) (q - end)

      abbrev widths_after : List ℕ
      widths_after = sets widths (most_mitigated_steps * r) (map (width_of i r) l)

      abbrev Here : ℕ → Type 0
      Here k = Stands (rows_at rows k (floor_shown shown_after k)) k put q (place_of lines_then k) (length_of lines_then k) widths_after (most_mitigated_steps * k)

      own : Here r
      own =
          let f : floor_of a b ≡ floor_shown shown_after r = sym (ap₂ floor_of (pair_first (pos 0) shown r a b (omega (arith, rooms.floors, h))) (pair_second (pos 0) shown r a b (omega (arith, rooms.floors, h)))) in
          moved l (rows_at rows r (floor_shown shown_after r)) end (place_of lines_then r) (q - end) (length_of lines_then r) (is ∙ ap (rows_at rows r) f)
          (sym (pair_first 0 lines r end (q - end) (omega (arith, rooms.places, h)))) (sym (pair_second 0 lines r end (q - end) (omega (arith, rooms.places, h))))
          (stands_new l r i page put end q widths (most_mitigated_steps * r) hi short room (omega (arith, rooms.wide, h)) p)

      -- the widths of another stand elsewhere
      elsewhere : (k : ℕ) → (k ≡ r → ⊥) → (most_mitigated_steps * r + length (map (width_of i r) l) ≤ most_mitigated_steps * k) ⊎ (most_mitigated_steps * k + most_mitigated_steps ≤ most_mitigated_steps * r)
      elsewhere k n =
          ⊎_elim (λ x. ⊎_elim (λ y. absurd (n (omega (arith, x, y)))) (λ y. inr (omega (arith, y))) (le_or_lt r k)) (λ y. inl (omega (arith, y, short, length-map l (width_of i r)))) (le_or_lt k r)

      another : (k : ℕ) → k < most → (k ≡ r → ⊥) → 0 < length_of lines_then k → Here k
      another k m n s =
          let f : floor_shown shown k ≡ floor_shown shown_after k = sym (ap₂ floor_of (other_first (pos 0) shown r a b k n) (other_second (pos 0) shown r a b k n)) in
          let x = other_second 0 lines r end (q - end) k n in
          moved (rows_at rows k (floor_shown shown k)) (rows_at rows k (floor_shown shown_after k)) (place_of lines k) (place_of lines_then k) (length_of lines k) (length_of lines_then k) (ap (rows_at rows k) f)
          (sym (other_first 0 lines r end (q - end) k n)) (sym x)
          (stands_past (stands_beside (w.stands k m (subst (λ (z : ℕ). 0 < z) x s)) (most_mitigated_steps * r) (map (width_of i r) l) widths_after refl (elsewhere k n)) (group_text i r l) put q p.buffer (omega (arith, p.next)))

      kept_after_all : Kept most rows put q shown_after lines_then widths_after
      kept_after_all = record { stands = λ k m s. go k m s (ℕ_discrete k r) }
        where
          go : (k : ℕ) → k < most → 0 < length_of lines_then k → Dec (k ≡ r) → Here k
          go k m s (yes e) = subst Here (sym e) own
          go k m s (no n) = another k m n s

      pub kept_next : (shown' : List ℤ) (lines' widths' : List ℕ) → shown' ≡ shown_after → lines' ≡ lines_then → widths' ≡ widths_after → Kept most rows put q shown' lines' widths'
      kept_next shown' lines' widths' e f g =
          subst (λ (x : List ℤ). Kept most rows put q x lines' widths') (sym e)
          (subst (λ (x : List ℕ). Kept most rows put q shown_after x widths') (sym f) (subst (λ (x : List ℕ). Kept most rows put q shown_after lines_then x) (sym g) kept_after_all))

-- the lists are as long as they were
pub record SameLong (shown : List ℤ) (lines widths : List ℕ) (shown' : List ℤ) (lines' widths' : List ℕ) : Type 0 where
  pub floors : length shown' ≡ length shown
  pub places : length lines' ≡ length lines
  pub wide : length widths' ≡ length widths

pub long_start : {shown : List ℤ} {lines widths : List ℕ} → SameLong shown lines widths shown lines widths
long_start = record { floors = refl; places = refl; wide = refl }

module _ {shown : List ℤ} {lines widths : List ℕ} {shown' : List ℤ} {lines' widths' : List ℕ} (s : SameLong shown lines widths shown' lines' widths') where
  pub long_next : (x : List ℤ) (y z : List ℕ) → length x ≡ length shown' → length y ≡ length lines' → length z ≡ length widths' → SameLong shown lines widths x y z
  long_next x y z e f g = record { floors = e ∙ s.floors; places = f ∙ s.places; wide = g ∙ s.wide }

  pub rooms_next : {most : ℕ} → Rooms most shown lines widths → (many : ℕ) → most ≡ many → Rooms many shown' lines' widths'
  rooms_next w many e = record { floors = omega (arith, w.floors, s.floors, e); places = omega (arith, w.places, s.places, e); wide = omega (arith, w.wide, s.wide, e) }
