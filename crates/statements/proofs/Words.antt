-- Request 2.4: "Compare eight bytes as one number where eight remain, single bytes after that. Which line matches is unaffected", in full. Assumes nothing.
use Rattle.std.specs.Prelude.{None, Some}
use mathlib.Core.Bool.{Bool, true, false, cond}
use mathlib.Core.List.{List, [], ◌∷◌}
use mathlib.Core.Logic.{◌↔◌, ⊎_elim}
use mathlib.Core.Path.{◌≡◌, refl, sym, ap, ◌∙◌}
use Prim.Native.Nat.{ℕ, ◌+◌, ◌*◌, ◌≤◌, ◌<◌}
use native.Mathlib.Omega.{arith}
use borrow.Author.Tests.{eq-eqb}
use Rattle.std.proofs.lemmas.Option.{cond_some}
use lib.ListN.{length, take, drop, get_or, get_or-eq_default}
use Rattle.rules_number.proofs.OverLaws.{le_or_lt}
use Rattle.rules_text.specs.Numbers.{same}
use Rattle.rules_text.specs.Offsets.{names_at}
use Rattle.rules_text.specs.Words.{word_in}
use Rattle.rules_text.proofs.NameLaws.{same_eq}
use Rattle.rules_text.proofs.WordLaws as words

-- "eight bytes as one number": the first the lowest
pub word_is : (a b c d e f g h : ℕ) (l : List ℕ) → word_in 8 (a ∷ b ∷ c ∷ d ∷ e ∷ f ∷ g ∷ h ∷ l)
    ≡ a + 256 * b + 65536 * c + 16777216 * d + 4294967296 * e + 1099511627776 * f + 281474976710656 * g + 72057594037927936 * h
unfolding word_in
word_is a b c d e f g h l = omega arith

-- each a byte
abbrev pub Bytes : List ℕ → Type 0
Bytes l = (i : ℕ) → i < length l → get_or l i 0 < 256

all_bytes : (l : List ℕ) → Bytes l → words.Bytes l
all_bytes l h i = ⊎_elim (λ k. omega (arith, get_or-eq_default l 0 {n = i} k)) (h i) (le_or_lt (length l) i)

-- two words of eight bytes are equal exactly when the bytes are
pub equal_words : (w t : List ℕ) → Bytes w → Bytes t → 8 ≤ length w → 8 ≤ length t → (word_in 8 w ≡ word_in 8 t) ↔ (take 8 w ≡ take 8 t)
equal_words w t bw bt = words.equal_words w t (all_bytes w bw) (all_bytes t bt)

same_self : (l : List ℕ) → same l l ≡ true
same_self [] = refl
same_self (a ∷ l) = ap (λ (d : Bool). cond d (same l l) false) (eq-eqb a a refl) ∙ same_self l

-- "Which line matches": a names line w stands at an offset of a text exactly when the text's bytes from there on are its bytes, and q is the offset after them
pub line_matches : (s : List ℕ) (at : ℕ) (w : List ℕ) (q : ℕ) → (names_at s at w ≡ Some q) ↔ ((take (length w) (drop at s) ≡ w) × (q ≡ at + length w))
unfolding names_at
line_matches s at w q = (there, back)
  where
    there : cond (same w (take (length w) (drop at s))) (Some (at + length w)) None ≡ Some q → (take (length w) (drop at s) ≡ w) × (q ≡ at + length w)
    there h = let c = cond_some (same w (take (length w) (drop at s))) (at + length w) q h in (sym (same_eq w (take (length w) (drop at s)) c.0), sym c.1)

    back : (take (length w) (drop at s) ≡ w) × (q ≡ at + length w) → cond (same w (take (length w) (drop at s))) (Some (at + length w)) None ≡ Some q
    back h = rw (h.0, same_self w) (ap Some (sym h.1))
