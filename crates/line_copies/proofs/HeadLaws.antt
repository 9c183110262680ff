-- The first bytes of lines set in a run of a list. Assumes nothing.
use mathlib.Core.Path.{◌≡◌, refl, sym, ap, ◌∙◌}
use mathlib.Core.List.{List, [], ◌∷◌, ◌++◌, append_assoc}
use Prim.Native.Nat.{ℕ, zero, suc, ◌+◌, ◌-◌, ◌<◌, ◌≤◌}
use native.Mathlib.Omega.{arith}
use native.Mathlib.Nat.{add-zero}
use native.Mathlib.Numerals.{add-one}
use lib.ListN.{length, take, drop, set, get_or, length-set, length-drop, drop_of_length-le}
use lib.Seq.{sets, take-set-le, drop-set-lt, drop-set-add, set-set, set_comm, set_out, set-get_or, drop-cons, length-sets, sets-eq, length-take-le, drop_at, take_at}
use Rattle.line_copies.specs.Lines.{headed}

-- ---- a store into a run of stores
module _ {A : Type 0} where
  -- one before the run may come first
  pub set_before : (l : List A) (i : ℕ) (a : List A) (j : ℕ) (x : A) → j < i → set (sets l i a) j x ≡ sets (set l j x) i a
  set_before l i [] j x h = refl
  set_before l i (y ∷ a) j x h = set_before (set l i y) (suc i) a j x (omega arith) ∙ ap (λ (k : List A). sets k (suc i) a) (set_comm l i j y x (λ e. omega arith))

  -- one within it is a store into what is stored
  pub set_within : (l : List A) (i : ℕ) (a : List A) (p : ℕ) (x : A) → p < length a → set (sets l i a) (i + p) x ≡ sets l i (set a p x)
  set_within l i [] p x h = absurd (omega arith)
  set_within l i (y ∷ a) zero x h =
      ap (λ (k : ℕ). set (sets (set l i y) (suc i) a) k x) (add-zero i) ∙ set_before (set l i y) (suc i) a i x (omega arith)
      ∙ ap (λ (k : List A). sets k (suc i) a) (set-set l i y x)
  set_within l i (y ∷ a) (suc p) x h =
      let e : i + suc p ≡ suc i + p = omega arith in
      ap (λ (k : ℕ). set (sets (set l i y) (suc i) a) k x) e ∙ set_within (set l i y) (suc i) a p x (omega arith)

  -- a run over a run
  pub sets_over : (l : List A) (i : ℕ) (a b : List A) → length a ≤ length b → sets (sets l i a) i b ≡ sets l i b
  sets_over l i [] b h = refl
  sets_over l i (x ∷ a) [] h = absurd (omega arith)
  sets_over l i (x ∷ a) (y ∷ b) h =
      ap (λ (k : List A). sets k (suc i) b) (set_before (set l i x) (suc i) a i y (omega arith) ∙ ap (λ (k : List A). sets k (suc i) a) (set-set l i x y))
      ∙ sets_over (set l i y) (suc i) a b (omega arith)

  -- what a run stored is read back
  pub sets_back : (l : List A) (i : ℕ) (a : List A) (n : ℕ) → length a ≡ n → i + n ≤ length l → take n (drop i (sets l i a)) ≡ a
  sets_back l i a n e h =
      let room : i + length a ≤ length l = omega (arith, e) in
      ap (λ (k : List A). take n (drop i k)) (sets-eq a l i room ∙ append_assoc (take i l) a (drop (i + length a) l))
      ∙ ap (take n) (drop_at (take i l) (a ++ drop (i + length a) l) i (length-take-le i l (omega (arith, h))))
      ∙ take_at a (drop (i + length a) l) n e

  -- what stands there, stored there, changes nothing
  pub sets_same : (x : A) (l : List A) (i n : ℕ) → i + n ≤ length l → l ≡ sets l i (take n (drop i l))
  sets_same x l i zero h = refl
  sets_same x l i (suc n) h =
      sets_same x l (suc i) n (omega arith) ∙ ap (λ (k : List A). sets k (suc i) (take n (drop (suc i) l))) (sym (set-get_or l i x))
      ∙ ap (λ (t : List A). sets l i (take (suc n) t)) (sym (drop-cons l i x (omega arith)))

  -- a run of stores past some elements, or before them, leaves them as they were
  pub kept_before : (l : List A) (i : ℕ) (a : List A) (from n : ℕ) → from + n ≤ i → take n (drop from (sets l i a)) ≡ take n (drop from l)
  kept_before l i [] from n h = refl
  kept_before l i (x ∷ a) from n h = kept_before (set l i x) (suc i) a from n (omega arith) ∙ past l i x from n h
    where
      past : (l : List A) (i : ℕ) (x : A) (from n : ℕ) → from + n ≤ i → take n (drop from (set l i x)) ≡ take n (drop from l)
      past l i x from n h =
          let e : i ≡ from + (i - from) = omega arith in
          ap (λ (k : ℕ). take n (drop from (set l k x))) e ∙ ap (take n) (drop-set-add from l (i - from) x) ∙ take-set-le n (drop from l) (i - from) x (omega arith)

  pub kept_after : (l : List A) (i : ℕ) (a : List A) (from : ℕ) → i + length a ≤ from → drop from (sets l i a) ≡ drop from l
  kept_after l i [] from h = refl
  kept_after l i (x ∷ a) from h = kept_after (set l i x) (suc i) a from (omega arith) ∙ drop-set-lt from l i x (omega arith)

-- ---- heads
pub headed_length : (d p : ℕ) (ws t : List ℕ) → length (headed d p ws t) ≡ length t
unfolding headed
headed_length d p [] t = refl
headed_length d p (w ∷ ws) t = headed_length d (p + w) ws (set t p d) ∙ length-set t p d

-- past the end there is none to set
pub headed_past : (d p : ℕ) (ws t : List ℕ) → length t ≤ p → headed d p ws t ≡ t
unfolding headed
headed_past d p [] t h = refl
headed_past d p (w ∷ ws) t h = ap (headed d (p + w) ws) (set_out t p d h) ∙ headed_past d (p + w) ws t (omega (arith, h))

-- heads are set, the next line begins at p and its width stands at k
pub record Heading (before : List ℕ) (at n : ℕ) (widths : List ℕ) (base d : ℕ) (page : List ℕ) (p k : ℕ) : Type 0 where
  pub text : List ℕ
  pub long : length text ≡ n
  pub held : page ≡ sets before at text
  pub left : headed d p (drop k widths) text ≡ headed d 0 (drop base widths) (take n (drop at before))

module _ (before : List ℕ) (at n : ℕ) (widths : List ℕ) (base d : ℕ) (room : at + n ≤ length before) where
  run_length : length (take n (drop at before)) ≡ n
  run_length = length-take-le n (drop at before) (omega (arith, length-drop at before))

  pub heading_start : Heading before at n widths base d before 0 base
  heading_start = record { text = take n (drop at before); long = run_length; held = sets_same 0 before at n room; left = refl }

  module _ (page : List ℕ) (p k : ℕ) (w : Heading before at n widths base d page p k) where
    pub page_long : length page ≡ length before
    page_long = ap length w.held ∙ length-sets before at w.text

    pub heading_next : k < length widths → p < n → Heading before at n widths base d (set page (at + p) d) (p + get_or widths k 0) (k + 1)
    unfolding headed
    heading_next h l = record {
      text = set w.text p d;
      long = length-set w.text p d ∙ w.long;
      held = ap (λ (x : List ℕ). set x (at + p) d) w.held ∙ set_within before at w.text p d (omega (arith, l, w.long));
      left = rw add-one (ap (λ (ws : List ℕ). headed d p ws w.text) (sym (drop-cons widths k 0 h)) ∙ w.left);
    }

    pub heading_past : n ≤ p → page ≡ sets before at (headed d 0 (drop base widths) (take n (drop at before)))
    heading_past h = w.held ∙ ap (sets before at) (sym (headed_past d p (drop k widths) w.text (omega (arith, h, w.long))) ∙ w.left)

    pub heading_done : length widths ≤ k → page ≡ sets before at (headed d 0 (drop base widths) (take n (drop at before)))
    unfolding headed
    heading_done h = w.held ∙ ap (sets before at) (ap (λ (ws : List ℕ). headed d p ws w.text) (sym (drop_of_length-le widths h)) ∙ w.left)
