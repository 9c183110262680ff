-- Bytes as one number (request 2.4): equal words are equal bytes, a word by its halves, and names lines compared by word. Assumes nothing.
use Rattle.std.specs.Prelude.{None, Some}
use Prim.Native.Nat.{ℕ, zero, suc, ◌+◌, ◌*◌, ◌^◌, ◌≤◌, ◌<◌}
use mathlib.Core.Path.{◌≡◌, refl, sym, ap, ap₂, ◌∙◌}
use mathlib.Core.Logic.{◌↔◌}
use mathlib.Core.List.{List, [], ◌∷◌}
use mathlib.Core.Bool.{Bool, true, false, cond}
use native.Mathlib.Omega.{arith}
use native.Mathlib.Nat.{add_assoc, mul_assoc, mul_comm, pow-suc}
use borrow.Author.Tests.{eqb-true, eq-eqb}
use lib.Dec.{eqb}
use lib.ListN.{length, drop, take, get_or, length-drop}
use lib.Seq.{get_or-drop, drop-drop}
use Rattle.rules_text.specs.Offsets.{names_at}
use Rattle.rules_text.specs.Words.{word_in}
use Rattle.rules_text.proofs.NameLaws.{starts, names_by}

-- each a byte
abbrev pub Bytes : List ℕ → Type 0
Bytes l = (i : ℕ) → get_or l i 0 < 256

-- ---- equal words are equal bytes
word_bytes : (k : ℕ) (w t : List ℕ) → Bytes w → Bytes t → k ≤ length w → k ≤ length t → word_in k w ≡ word_in k t → take k w ≡ take k t
unfolding word_in
word_bytes zero w t bw bt hw ht e = refl
word_bytes (suc k) [] t bw bt hw ht e = absurd (omega arith)
word_bytes (suc k) (a ∷ w) [] bw bt hw ht e = absurd (omega arith)
word_bytes (suc k) (a ∷ w) (b ∷ t) bw bt hw ht e =
    let p : a < 256 = bw 0 in
    let q : b < 256 = bt 0 in
    let first : a ≡ b = omega (arith, e) in
    let others : word_in k w ≡ word_in k t = omega (arith, e) in
    ap₂ (λ (x : ℕ) (l : List ℕ). x ∷ l) first (word_bytes k w t (λ i. bw (suc i)) (λ i. bt (suc i)) (omega arith) (omega arith) others)

-- only the first k bytes count
word_take : (k : ℕ) (l : List ℕ) → word_in k (take k l) ≡ word_in k l
unfolding word_in
word_take zero l = refl
word_take (suc k) [] = refl
word_take (suc k) (b ∷ l) = ap (λ (x : ℕ). b + 256 * x) (word_take k l)

-- "Compare eight bytes as one number": two words of eight bytes are equal exactly when the bytes are
pub equal_words : (w t : List ℕ) → Bytes w → Bytes t → 8 ≤ length w → 8 ≤ length t → (word_in 8 w ≡ word_in 8 t) ↔ (take 8 w ≡ take 8 t)
equal_words w t bw bt hw ht = (word_bytes 8 w t bw bt hw ht, λ e. sym (word_take 8 w) ∙ ap (word_in 8) e ∙ word_take 8 t)

-- ---- a word of j + k bytes: the first j, and the k after them
word_sum : (j k : ℕ) (l : List ℕ) → j ≤ length l → word_in (j + k) l ≡ word_in j l + 256 ^ j * word_in k (drop j l)
unfolding word_in
word_sum zero k l h =
    let z : 0 + k ≡ k = omega arith in
    let e : word_in (0 + k) l ≡ word_in k l = ap (λ (n : ℕ). word_in n l) z in
    omega (arith, e)
word_sum (suc j) k [] h = absurd (omega arith)
word_sum (suc j) k (b ∷ l) h =
    let z : suc j + k ≡ suc (j + k) = omega arith in
    let e : word_in (suc j + k) (b ∷ l) ≡ b + 256 * word_in (j + k) l = ap (λ (n : ℕ). word_in n (b ∷ l)) z in
    let x = word_in k (drop j l) in
    let p : 256 ^ suc j * x ≡ 256 * (256 ^ j * x) = ap (λ (n : ℕ). n * x) (pow-suc 256 j ∙ mul_comm (256 ^ j) 256) ∙ mul_assoc 256 (256 ^ j) x in
    omega (arith, e, p, word_sum j k l (omega arith))

byte_of : (l : List ℕ) → 1 ≤ length l → word_in 1 l ≡ get_or l 0 0
unfolding word_in
byte_of [] h = absurd (omega arith)
byte_of (a ∷ l) h = omega arith

byte_at : (s : List ℕ) (at : ℕ) → at < length s → word_in 1 (drop at s) ≡ get_or s at 0
byte_at s at h =
    let n = length-drop at s in
    let z : at + 0 ≡ at = omega arith in
    byte_of (drop at s) (omega arith) ∙ get_or-drop at s 0 0 ∙ ap (λ (i : ℕ). get_or s i 0) z

module _ (s : List ℕ) (at : ℕ) where
  halves : (j : ℕ) → at + j ≤ length s → word_in (j + j) (drop at s) ≡ word_in j (drop at s) + 256 ^ j * word_in j (drop (at + j) s)
  halves j h =
      let n = length-drop at s in
      word_sum j j (drop at s) (omega arith) ∙ ap (λ (l : List ℕ). word_in j (drop at s) + 256 ^ j * word_in j l) (drop-drop j at s)

  pub two_at : at + 2 ≤ length s → word_in 2 (drop at s) ≡ get_or s at 0 + 256 * get_or s (at + 1) 0
  two_at h = omega (arith, halves 1 (omega arith), byte_at s at (omega arith), byte_at s (at + 1) (omega arith))

  pub four_at_lem : at + 4 ≤ length s → word_in 4 (drop at s) ≡ word_in 2 (drop at s) + 65536 * word_in 2 (drop (at + 2) s)
  four_at_lem h = halves 2 (omega arith)

  pub eight_at : at + 8 ≤ length s → word_in 8 (drop at s) ≡ word_in 4 (drop at s) + 4294967296 * word_in 4 (drop (at + 4) s)
  eight_at h = halves 4 (omega arith)

-- ---- names lines: k bytes agree, or they don't
through_by : (a b : ℕ) (x : Bool) → a ≡ b → cond (eqb a b) x false ≡ x
through_by a b x e = ap (λ (d : Bool). cond d x false) (eq-eqb a b e)

starts_through : (k : ℕ) (w t : List ℕ) → k ≤ length w → k ≤ length t → take k w ≡ take k t → starts w t ≡ starts (drop k w) (drop k t)
starts_through zero w t hw ht e = refl
starts_through (suc k) [] t hw ht e = absurd (omega arith)
starts_through (suc k) (a ∷ w) [] hw ht e = absurd (omega arith)
starts_through (suc k) (a ∷ w) (b ∷ t) hw ht e =
    through_by a b (starts w t) (ap (λ (l : List ℕ). get_or l 0 0) e) ∙ starts_through k w t (omega arith) (omega arith) (ap (drop 1) e)

apart_by : (a b : ℕ) (x d : Bool) → eqb a b ≡ d → (a ≡ b → x ≡ false) → cond d x false ≡ false
apart_by a b x true e h = h (eqb-true a b e)
apart_by a b x false e h = refl

starts_apart : (k : ℕ) (w t : List ℕ) → k ≤ length w → (take k w ≡ take k t → ⊥) → starts w t ≡ false
starts_apart zero w t hw n = absurd (n refl)
starts_apart (suc k) [] t hw n = absurd (omega arith)
starts_apart (suc k) (a ∷ w) [] hw n = refl
starts_apart (suc k) (a ∷ w) (b ∷ t) hw n =
    apart_by a b (starts w t) (eqb a b) refl (λ q. starts_apart k w t (omega arith) (λ e. n (ap₂ (λ (x : ℕ) (l : List ℕ). x ∷ l) q e)))

bytes_from : (s : List ℕ) (at : ℕ) → Bytes s → Bytes (drop at s)
bytes_from s at b i = let e = get_or-drop at s i 0 in let h = b (at + i) in omega (arith, e, h)

-- "Which line matches is unaffected": where eight of the wanted bytes w remain from place i on
module _ (s : List ℕ) (at : ℕ) (w : List ℕ) (i : ℕ) (bs : Bytes s) (bw : Bytes w) (hs : at + i + 8 ≤ length s) (hw : i + 8 ≤ length w) where
  same_word : (word_in 8 (drop i w) ≡ word_in 8 (drop (at + i) s)) ↔ (take 8 (drop i w) ≡ take 8 (drop (at + i) s))
  same_word =
      let n = length-drop (at + i) s in
      let m = length-drop i w in
      equal_words (drop i w) (drop (at + i) s) (bytes_from w i bw) (bytes_from s (at + i) bs) (omega arith) (omega arith)

  -- equal words: they stand there exactly where those after the word stand after it
  pub word_more : word_in 8 (drop (at + i) s) ≡ word_in 8 (drop i w) → names_at s (at + (i + 8)) (drop (i + 8) w) ≡ names_at s (at + i) (drop i w)
  word_more e =
      let b = starts (drop i w) (drop (at + i) s) in
      let n = length-drop (at + i) s in
      let m = length-drop i w in
      let k = length-drop (i + 8) w in
      let more : b ≡ starts (drop (i + 8) w) (drop (at + (i + 8)) s) =
      starts_through 8 (drop i w) (drop (at + i) s) (omega arith) (omega arith) (same_word.0 (sym e))
      ∙ ap₂ starts (drop-drop 8 i w) (drop-drop 8 (at + i) s ∙ ap (λ (q : ℕ). drop q s) (add_assoc at i 8)) in
      let past : at + (i + 8) + length (drop (i + 8) w) ≡ at + i + length (drop i w) = omega arith in
      sym (names_by s (at + (i + 8)) (drop (i + 8) w) b (sym more)) ∙ ap (λ (q : ℕ). cond b (Some q) None) past ∙ names_by s (at + i) (drop i w) b refl

  -- other words: they don't
  pub word_other : (word_in 8 (drop (at + i) s) ≡ word_in 8 (drop i w) → ⊥) → None ≡ names_at s (at + i) (drop i w)
  word_other n =
      let m = length-drop i w in
      names_by s (at + i) (drop i w) false (starts_apart 8 (drop i w) (drop (at + i) s) (omega arith) (λ e. n (sym (same_word.1 e))))
