-- A group's lines in one interval are those in another with the first byte of each line replaced. Assumes nothing.
use mathlib.Core.Path.{◌≡◌, refl, sym, ap, ◌∙◌}
use mathlib.Core.List.{List, [], ◌∷◌, ◌++◌, map, append_assoc}
use Prim.Native.Nat.{ℕ, zero, suc, ◌+◌, ◌<◌}
use native.Mathlib.Omega.{arith}
use borrow.Author.Tests.{lt-ltb}
use lib.IntN.{pos}
use lib.ListN.{length, take, drop, set, length-append}
use lib.Seq.{set-append_seam}
use Rattle.rules_text.specs.Numbers.{Row, closing}
use Rattle.rules_text.specs.Printing.{digits, decimal, line_text, group_text}
use Rattle.line_copies.specs.Lines.{width_of, headed, lines_again}
use Rattle.line_copies.proofs.HeadLaws.{headed_past}

-- a line that begins with a number of one digit
pub line_head : (i : ℕ) (zs : Row) → i < 10 → line_text (pos i ∷ zs) ≡ (48 + i) ∷ (closing (length zs) ∷ line_text zs)
unfolding line_text decimal digits
line_head i zs h = rw (lt-ltb i 10 h)

-- a line is as wide in one interval as in another
pub width_same : (i j c : ℕ) (x : Row) → i < 10 → j < 10 → width_of i c x ≡ width_of j c x
width_same i j c x hi hj = ap length (line_head i (pos c ∷ x) hi) ∙ sym (ap length (line_head j (pos c ∷ x) hj))

module _ (i j c : ℕ) (hi : i < 10) (hj : j < 10) where
  -- after lines that are put
  after : (l : List Row) (more : List ℕ) (put : List ℕ) → headed (48 + i) (length put) (map (width_of j c) l ++ more) (put ++ group_text j c l) ≡ put ++ group_text i c l
  unfolding headed group_text
  after [] more put = headed_past (48 + i) (length put) more (put ++ []) (omega (arith, length-append put []))
  after (x ∷ l) more put =
      let tail = closing (length (pos c ∷ x)) ∷ line_text (pos c ∷ x) in
      let ei : line_text (pos i ∷ pos c ∷ x) ≡ (48 + i) ∷ tail = line_head i (pos c ∷ x) hi in
      let ej : line_text (pos j ∷ pos c ∷ x) ≡ (48 + j) ∷ tail = line_head j (pos c ∷ x) hj in
      let next = put ++ line_text (pos i ∷ pos c ∷ x) in
      let s : set (put ++ (line_text (pos j ∷ pos c ∷ x) ++ group_text j c l)) (length put) (48 + i) ≡ next ++ group_text j c l
      = ap (λ (t : List ℕ). set (put ++ (t ++ group_text j c l)) (length put) (48 + i)) ej
      ∙ set-append_seam put (48 + j) (tail ++ group_text j c l) (48 + i)
      ∙ ap (λ (t : List ℕ). put ++ (t ++ group_text j c l)) (sym ei) ∙ sym (append_assoc put (line_text (pos i ∷ pos c ∷ x)) (group_text j c l)) in
      let p : length put + width_of j c x ≡ length next = omega (arith, length-append put (line_text (pos i ∷ pos c ∷ x)), ap length ei, ap length ej) in
      ap (headed (48 + i) (length put + width_of j c x) (map (width_of j c) l ++ more)) s
      ∙ ap (λ (q : ℕ). headed (48 + i) q (map (width_of j c) l ++ more) (next ++ group_text j c l)) p
      ∙ after l more next ∙ append_assoc put (line_text (pos i ∷ pos c ∷ x)) (group_text i c l)

  -- the lines of interval i, by those of interval j: widths past those of its lines count for nothing
  pub group_again : (l : List Row) (more : List ℕ) → headed (48 + i) 0 (map (width_of j c) l ++ more) (group_text j c l) ≡ group_text i c l
  group_again l more = after l more []

  -- where they stand on a page, and their widths in a list
  pub group_copied : (l : List Row) (page : List ℕ) (from n : ℕ) (widths : List ℕ) (base : ℕ)
      → take n (drop from page) ≡ group_text j c l → take (length l) (drop base widths) ≡ map (width_of j c) l
      → lines_again page from n widths base (48 + i) ≡ group_text i c l
  group_copied l page from n widths base e f =
      ap (headed (48 + i) 0 (drop base widths)) e
      ∙ ap (λ (ws : List ℕ). headed (48 + i) 0 ws (group_text j c l)) (sym (take_drop (length l) (drop base widths)) ∙ ap (λ (ws : List ℕ). ws ++ drop (length l) (drop base widths)) f)
      ∙ group_again l (drop (length l) (drop base widths))
    where
      take_drop : (m : ℕ) (t : List ℕ) → take m t ++ drop m t ≡ t
      take_drop zero t = refl
      take_drop (suc m) [] = refl
      take_drop (suc m) (x ∷ t) = ap (λ (k : List ℕ). x ∷ k) (take_drop m t)
