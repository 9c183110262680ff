-- Laws of tables: a line that is due, and a run of lines that suit, read by a loop. One law for each way through its body, for every table. Assumes nothing.
use Rattle.std.specs.Prelude.{None, Option, Some}
use Prim.Native.Nat.{ℕ, suc, ◌+◌, ◌-◌, ◌<◌}
use native.Mathlib.Omega.{arith}
use native.Mathlib.Numerals.{add-one}
use mathlib.Core.Path.{◌≡◌, refl, sym, ap, ◌∙◌}
use mathlib.Core.List.{List, [], ◌∷◌, map}
use mathlib.Core.Bool.{Bool}
use Rattle.std.proofs.lemmas.Option.{none-some}
use lib.ListN.{length, drop, set, length-drop, length-replicate, replicate}
use lib.Seq.{sets, drop-drop, length-sets}
use Rattle.rules_text.specs.Numbers.{Line, Row, lines, number, magnitude, row}
use Rattle.rules_text.specs.Tables.{faulty, found, due, if_suits, run}
use Rattle.rules_text.specs.Offsets.{kept}
use Rattle.rules_text.proofs.LineLaws.{line, after, lines_cons, lines_some}

-- a line of values stands in the text
pub row_there : (suits : Row → Bool) (k : ℕ) (x : Row) (t : List ℕ) → if_suits suits (row (suc k) (line t)) ≡ Some x → t ≡ [] → ⊥
unfolding row number magnitude
row_there suits k x t e z =
    none-some x (sym (ap (λ (l : List ℕ). if_suits suits (row (suc k) (line l))) z) ∙ e)

-- ---- a line that is due
module _ {A : Type 0} (is : Line → Option A) (n : ℕ) where
  pub due_none : (t : List ℕ) → is (line t) ≡ None → due is n (lines t) ≡ faulty (n + 1)
  unfolding due
  due_none [] e = rw add-one refl
  due_none (b ∷ u) e = rw (lines_cons b u, e, add-one) refl

  pub due_some : (t : List ℕ) (a : A) → (t ≡ [] → ⊥) → is (line t) ≡ Some a → due is n (lines t) ≡ found a (n + 1) (lines (after t))
  unfolding due
  due_some t a h e = rw (lines_some t h, e, add-one) refl

-- ---- a run of lines of suc k values that suit, of which f is kept
module _ {X : Type 0} (k : ℕ) (suits : ℕ → Row → Bool) (step : ℕ → Row → ℕ) (f : Row → X) where
  abbrev pub From : ℕ → List ℕ → List Row
  From i t = run (suc k) suits step i (lines t)

  from_none : (i : ℕ) (t : List ℕ) → if_suits (suits i) (row (suc k) (line t)) ≡ None → From i t ≡ []
  unfolding run
  from_none i [] e = refl
  from_none i (b ∷ u) e = rw (lines_cons b u, e) refl

  from_more : (i : ℕ) (t : List ℕ) (x : Row) → if_suits (suits i) (row (suc k) (line t)) ≡ Some x → From i t ≡ x ∷ From (step i x) (after t)
  unfolding run
  from_more i t x e = rw (lines_some t (row_there (suits i) k x t e), e) refl

  -- the invariant: n rows are read and kept in a, from the lines L, and the rest t goes on at i
  pub record Loop (n i : ℕ) (a : List X) (t : List ℕ) (N : ℕ) (S : List X) (L : List Line) : Type 0 where
    pub count : n + length (From i t) ≡ N
    pub stores : sets a n (map f (From i t)) ≡ S
    pub rest : lines t ≡ drop n L

  pub record Ended (n : ℕ) (a : List X) (t : List ℕ) (N : ℕ) (S : List X) (L : List Line) : Type 0 where
    pub count : n ≡ N
    pub stores : a ≡ S
    pub rest : lines t ≡ drop n L

  module _ (n i : ℕ) (a : List X) (t : List ℕ) (N : ℕ) (S : List X) (L : List Line) (h : Loop n i a t N S L) where
    -- the line does not suit, or is none of values
    pub ends : if_suits (suits i) (row (suc k) (line t)) ≡ None → Ended n a t N S L
    ends e =
        let y = from_none i t e in
        let z : length (From i t) ≡ 0 = ap length y in
        let q = h.count in
        record { count = omega arith; stores = ap (λ (r : List Row). sets a n (map f r)) (sym y) ∙ h.stores; rest = h.rest }

    -- it is one more row, x, after which the text goes on with u
    pub record Turned (j : ℕ) (b : List X) (u : List ℕ) : Type 0 where
      pub again : Loop (n + 1) j b u N S L
      pub fewer : length (lines u) < length (lines t)
      pub below : n < length L

    module _ (x : Row) (e : if_suits (suits i) (row (suc k) (line t)) ≡ Some x) where
      pub turns : (j : ℕ) → step i x ≡ j → (b : List X) → b ≡ set a n (f x) → (u : List ℕ) → u ≡ after t → Turned j b u
      turns j ej b eb u eu =
          let y : From i t ≡ x ∷ From j u = from_more i t x e ∙ ap (λ (m : ℕ). x ∷ From m (after t)) ej ∙ ap (λ (l : List ℕ). x ∷ From j l) (sym eu) in
          let z : lines t ≡ line t ∷ lines u = lines_some t (row_there (suits i) k x t e) ∙ ap (λ (l : List ℕ). line t ∷ lines l) (sym eu) in
          let yl = ap length y in
          let zl = ap length z in
          let hc = h.count in
          let d : length (lines t) ≡ length L - n = ap length h.rest ∙ length-drop n L in
          record {
            again = record {
              count = omega arith;
              stores = ap (λ (l : List X). sets l (n + 1) (map f (From j u))) eb ∙ ap (λ (m : ℕ). sets (set a n (f x)) m (map f (From j u))) (add-one n)
                  ∙ ap (λ (r : List Row). sets a n (map f r)) (sym y) ∙ h.stores;
              rest = ap (drop 1) (sym z ∙ h.rest) ∙ drop-drop 1 n L;
            };
            fewer = omega arith;
            below = omega arith;
          }

pub kept_length : {A : Type 0} (n : ℕ) (d : A) (xs : List A) → length (kept n d xs) ≡ n
unfolding kept
kept_length n d xs = length-sets (replicate n d) 0 xs ∙ length-replicate n d
