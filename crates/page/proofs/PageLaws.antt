-- Laws of what is put on a page. Assumes nothing.
use Rattle.std.specs.Prelude.{None, Option, Some}
use Prim.Native.Nat.{ℕ, ◌+◌, ◌≤◌, ◌<◌, min}
use mathlib.Core.Path.{◌≡◌, refl, sym, ap, ◌∙◌}
use mathlib.Core.List.{List, [], ◌∷◌, ◌++◌, map, append-nil}
use mathlib.Core.Bool.{Bool, true, false, cond}
use borrow.Author.Tests.{le-leb}
use native.Mathlib.Omega.{arith}
use native.Mathlib.Numerals.{add-one}
use lib.ListN.{length, drop, take, get_or, length-append, length-take, drop_of_length-le}
use lib.Seq.{sets, length-sets}
use lib.IntN.{pos}
use Rattle.rules_text.specs.Numbers.{Row}
use Rattle.rules_path.specs.declared.Finding.TheVariants.{Competitive}
use Rattle.rules_path.specs.declared.Verdict.{Verdict}
use Rattle.rules_page.specs.Pages.{printable, is_room, put_within, put_within_to}
use Rattle.rules_text.specs.Printing.{line_text, group_text, table_text, printed, printed_to}
use Rattle.rules_text.proofs.ListLaws.{at_cons, sets_append}

-- a text put piece by piece: what is left of it, put at p, is the whole
pub record Putting (out : List ℕ) (at : ℕ) (text : List ℕ) (now : List ℕ) (p : ℕ) (rest : List ℕ) : Type 0 where
  pub whole : sets now p rest ≡ sets out at text
  pub end : p + length rest ≡ at + length text
  pub long : length now ≡ length out

pub putting_start : (out : List ℕ) (at : ℕ) (text : List ℕ) → Putting out at text out at text
putting_start out at text = record { whole = refl; end = refl; long = refl }

module _ {out : List ℕ} {at : ℕ} {text now : List ℕ} {p : ℕ} {rest : List ℕ} (w : Putting out at text now p rest) where
  -- the next piece is put
  pub putting_next : (a b put : List ℕ) (q : ℕ) → rest ≡ a ++ b → put ≡ sets now p a → q ≡ p + length a → Putting out at text put q b
  putting_next a b put q e f g = record {
    whole =
        ap (λ (l : List ℕ). sets l q b) f ∙ ap (λ (j : ℕ). sets (sets now p a) j b) g
        ∙ sym (sets_append now p a b) ∙ ap (sets now p) (sym e) ∙ w.whole;
    end = omega (arith, w.end, ap length e, length-append a b);
    long = ap length f ∙ length-sets now p a ∙ w.long;
  }

  -- nothing is left
  pub putting_done : rest ≡ [] → (now ≡ sets out at text) × (p ≡ at + length text)
  putting_done e = (ap (sets now p) (sym e) ∙ w.whole, omega (arith, w.end, ap length e))

-- ---- a text that fits is put by a call that answers To
module _ (out : List ℕ) (at : ℕ) (text last : List ℕ) (answer : Option ℕ) (fits : at + length text ≤ length out) (e : last ≡ printed out at text) (f : answer ≡ printed_to out at text) where
  pub put_both : (last ≡ sets out at text) × (answer ≡ Some (at + length text))
  unfolding printed printed_to
  put_both =
      let h = le-leb (at + length text) (length out) fits in
      (e ∙ ap (λ (b : Bool). cond b (sets out at text) out) h, f ∙ ap (λ (b : Bool). cond b (Some (at + length text)) None) h)

  pub put_to : (next : ℕ) → answer ≡ Some next → (last ≡ sets out at text) × (next ≡ at + length text)
  put_to next g = (put_both.0, let h : answer ≡ Some (at + length text) = put_both.1 in cc)

  pub put_full : {X : Type 0} → answer ≡ None → X
  put_full g = absurd (let h : answer ≡ Some (at + length text) = put_both.1 in let z : ◌≡◌ {A = ℕ} 0 1 = cc in omega arith)

-- ---- the next group of a table
module _ {A : Type 0} (g : A → List Row) (d : A) (i : ℕ) (l : List A) (c : ℕ) where
  pub table_next : c < length l → table_text i c (map g (drop c l)) ≡ group_text i c (g (get_or l c d)) ++ table_text i (c + 1) (map g (drop (c + 1) l))
  unfolding table_text
  table_next h =
      ap (λ (t : List A). table_text i c (map g t)) (at_cons d l c h)
      ∙ ap (λ (k : ℕ). group_text i c (g (get_or l c d)) ++ table_text i k (map g (drop (c + 1) l))) (sym (add-one c))

  pub table_done : length l ≤ c → table_text i c (map g (drop c l)) ≡ []
  unfolding table_text
  table_done h = ap (λ (t : List A). table_text i c (map g t)) (drop_of_length-le l h)

-- a number below a hundred is printed as it is
pub small_printable : (n : ℕ) → n < 100 → printable n ≡ n
small_printable n h = omega arith

-- the used part of an array
pub taken_length : {A : Type 0} (n k m : ℕ) (l : List A) → length l ≡ m → k ≡ min n m → length (take n l) ≡ k
taken_length n k m l e f = length-take n l ∙ omega arith

-- a group of one line
pub group_one : (i c : ℕ) (x : Row) → group_text i c (x ∷ []) ≡ line_text (pos i ∷ pos c ∷ x)
unfolding group_text
group_one i c x = append-nil (line_text (pos i ∷ pos c ∷ x))

-- what a read past the end of an array of verdicts gives
abbrev pub no_verdict : Verdict
no_verdict = record { finding = Competitive; demand = 0; left = 0; named = 0; withheld = [] }

-- ---- where there is room, and where not
module _ (room : ℕ) (out : List ℕ) (at : ℕ) (text : List ℕ) where
  pub within_none : is_room room out at ≡ false → (out ≡ put_within room out at text) × (None ≡ put_within_to room out at text)
  unfolding put_within put_within_to
  within_none h = (sym (ap (λ (b : Bool). cond b (sets out at text) out) h), sym (ap (λ (b : Bool). cond b (Some (at + length text)) None) h))

  pub within_some : (now : List ℕ) (r : ℕ) → is_room room out at ≡ true → now ≡ sets out at text → r ≡ at + length text
      → (now ≡ put_within room out at text) × (Some r ≡ put_within_to room out at text)
  unfolding put_within put_within_to
  within_some now r h e f =
      (e ∙ sym (ap (λ (b : Bool). cond b (sets out at text) out) h), ap Some f ∙ sym (ap (λ (b : Bool). cond b (Some (at + length text)) None) h))
