-- Laws of the answers of calls on a state: which of their lent slices have room, and what is written by the answer. Assumes nothing.
use Prim.Native.Nat.{ℕ, zero, suc, ◌≤◌, ◌<◌}
use mathlib.Core.Path.{◌≡◌, sym, ap, ◌∙◌}
use mathlib.Core.Bool.{Bool, true, false, cond, ◌&&◌}
use mathlib.Core.List.{List}
use native.Mathlib.Omega.{arith}
use borrow.Author.Tests.{le-leb, lt-leb}
use lib.IntN.{ℤ, pos, negsuc}
use lib.ListN.{length}
use Rattle.rules_library.specs.Slices.{answer_of, if_written}
use Rattle.rules_state.specs.Calls.{holds}

-- a slice that is too short, and one that has room
pub short : {A : Type 0} (n : ℕ) (l : List A) → length l < n → holds n l ≡ false
short n l h = lt-leb n (length l) h

pub long : {A : Type 0} (n : ℕ) (l : List A) → n ≤ length l → holds n l ≡ true
long n l h = le-leb n (length l) h

-- the first of two tests decides, or the second
pub first_fails : (a b : Bool) → a ≡ false → (a && b) ≡ false
first_fails a b h = ap (λ (t : Bool). t && b) h

pub first_holds : (a b c : Bool) → a ≡ true → b ≡ c → (a && b) ≡ c
first_holds a b c h k = ap (λ (t : Bool). t && b) h ∙ k

-- a call with two lent slices s and t, which an accepted one leaves as w and x
module _ {A B : Type 0} (room : Bool) (number : ℕ) (w s : List A) (x t : List B) where
  abbrev pub Answers : ℤ → List A → List B → Type 0
  Answers z a b = (z ≡ answer_of room number) × ((a ≡ if_written (answer_of room number) w s) × (b ≡ if_written (answer_of room number) x t))

  by_answer : (z : ℤ) → answer_of room number ≡ z → Answers z (if_written z w s) (if_written z x t)
  by_answer z h = (sym h, (ap (λ (y : ℤ). if_written y w s) (sym h), ap (λ (y : ℤ). if_written y x t) (sym h)))

  pub too_short : room ≡ false → Answers (negsuc 0) s t
  too_short h = by_answer (negsuc 0) (ap (λ (b : Bool). cond b (pos number) (negsuc 0)) h)

  numbered : room ≡ true → (n : ℕ) → number ≡ n → answer_of room number ≡ pos n
  numbered h n e = ap (λ (b : Bool). cond b (pos number) (negsuc 0)) h ∙ ap pos e

  pub refused : room ≡ true → (n : ℕ) → 0 < n → number ≡ n → Answers (pos n) s t
  refused h zero l e = absurd (omega arith)
  refused h (suc n) l e = by_answer (pos (suc n)) (numbered h (suc n) e)

  pub written : room ≡ true → number ≡ 0 → (a : List A) → a ≡ w → (b : List B) → b ≡ x → Answers (pos 0) a b
  written h e a f b g = let k = by_answer (pos 0) (numbered h 0 e) in (k.0, (f ∙ k.1.0, g ∙ k.1.1))

-- a call that reads a state of m cells and puts what it finds into a slice of n, which an accepted one leaves as w
module _ {A B : Type 0} (m n number : ℕ) (state : List A) (found w : List B) where
  abbrev both : Bool
  both = holds m state && holds n found

  abbrev pub Told : ℤ → List B → Type 0
  Told z s = (z ≡ answer_of both number) × (s ≡ if_written (answer_of both number) w found)

  -- of a call with two lent slices, which are one here
  alone : (z : ℤ) (s t : List B) → Answers both number w found w found z s t → Told z s
  alone z s t k = (k.0, k.1.0)

  pub few_state : length state < m → Told (negsuc 0) found
  few_state h = alone _ _ _ (too_short both number w found w found (first_fails (holds m state) (holds n found) (short m state h)))

  module _ (h : m ≤ length state) where
    by_found : (b : Bool) → holds n found ≡ b → both ≡ b
    by_found b e = first_holds (holds m state) (holds n found) b (long m state h) e

    pub few_found : length found < n → Told (negsuc 0) found
    few_found k = alone _ _ _ (too_short both number w found w found (by_found false (short n found k)))

    pub told_refused : n ≤ length found → (r : ℕ) → 0 < r → number ≡ r → Told (pos r) found
    told_refused k r l e = alone _ _ _ (refused both number w found w found (by_found true (long n found k)) r l e)

    pub told_written : n ≤ length found → number ≡ 0 → (out : List B) → out ≡ w → Told (pos 0) out
    told_written k z out o = alone _ _ _ (written both number w found w found (by_found true (long n found k)) z out o out o)
