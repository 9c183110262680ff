-- Factors that rise are read back, each into its cell. Assumes nothing.
use Rattle.std.specs.Prelude.{Some}
use Prim.Native.Nat.{ℕ, suc, ◌+◌, ◌*◌, ◌/◌, ◌%◌, ◌^◌, ◌<◌, ◌≤◌}
use mathlib.Core.Path.{◌≡◌, refl, sym, ap, subst, ◌∙◌}
use mathlib.Core.List.{List, [], ◌∷◌, ◌++◌, map}
use mathlib.Core.Bool.{Bool, true, false, cond, ◌&&◌}
use mathlib.Core.Logic.{◌⊎◌, inl, inr, ⊎_elim}
use native.Mathlib.Omega.{arith}
use native.Mathlib.Nat.{suc-mul, mul-le-mul_right}
use native.Mathlib.Decide.{ℕ_discrete}
use borrow.Author.Tests.{eq-eqb, ne_eqb, le-leb, lt-ltb, le-ltb}
use lib.Dec.{eqb, ltb}
use lib.ListN.{length, get_or, set, replicate, length-set, length-replicate, get_or-replicate}
use lib.Seq.{get_or-set_same, get_or-set_other}
use lib.IntN.{ℤ, pos}
use Rattle.rules_number.specs.Over.{listed}
use Rattle.rules_number.proofs.ListedLaws.{listed_is}
use Rattle.rules_number.proofs.OverLaws.{le_or_lt}
use Rattle.rules_text.specs.Numbers.{Line, Row, row}
use Rattle.rules_text.specs.Tables.{run, rows}
use Rattle.rules_text.proofs.ListLaws.{and-false}
use Rattle.rules_parts.specs.Parts.{is_declared, place, place_of, is_factor, factor_rows, factor_cell, with_factor, with_factors}
use Rattle.rules_parts.proofs.DeclaredLaws.{declared_natural}
use Rattle.rules_text.specs.Printing.{line_text}
use Rattle.rules_parts.specs.Texts.{GivenFactor, factor_row, factor_of, Before, Rising, empty, next, FactorFits}
use Rattle.rules_text.specs.Spelled.{Every, no_more, and_all}
use Rattle.rules_text.proofs.ReaderLaws.{Names, Reads, row_every, rows_back, run_more, run_names}

-- ---- the lines
module _ (n m : ℕ) (few : n ≤ 10 ^ 12) (narrow : m ≤ 10 ^ 12) where
  factor_row_lem : (f : GivenFactor) → FactorFits n m f → row 3 (line_text (factor_row f)) ≡ Some (factor_row f)
  factor_row_lem f h = row_every 3 (factor_row f) refl (and_all (omega (arith, h.resource)) (and_all (omega (arith, h.constraint)) (and_all h.factor no_more)))

  declared : (k i : ℕ) → i < k → is_declared k (pos i) ≡ true
  declared k i h = sym (declared_natural k (pos i) (le-ltb i 0 (omega arith))) ∙ lt-ltb i k h

  suits : (i : ℕ) (f : GivenFactor) → FactorFits n m f → i ≤ place m f.resource f.constraint → is_factor n m i (factor_row f) ≡ true
  unfolding is_factor
  suits i f h k = rw (declared n f.resource h.resource, declared m f.constraint h.constraint) (le-leb i (place m f.resource f.constraint) k)

  -- a factor that comes before another has the lower place
  place_rises : (f g : GivenFactor) → FactorFits n m f → Before f g → suc (place m f.resource f.constraint) ≤ place m g.resource g.constraint
  place_rises f g h b = ⊎_elim
      (λ k. let p : suc f.resource * m ≤ g.resource * m = mul-le-mul_right m k in let q = suc-mul f.resource m in omega (arith, h.constraint))
      (λ k. let p : f.resource * m ≡ g.resource * m = ap (λ (z : ℕ). z * m) k.0 in omega (arith, k.1)) b.rises

  factors_from : (i : ℕ) (fs : List GivenFactor) (rest : List Line) → Every (FactorFits n m) fs → Rising fs → ((f : GivenFactor) (l : List GivenFactor) → fs ≡ f ∷ l → i ≤ place m f.resource f.constraint)
      → Names rest → run 3 (is_factor n m) (λ j x. suc (place_of m x)) i (map line_text (map factor_row fs) ++ rest) ≡ map factor_row fs
  factors_from i [] rest h r k q = run_names 2 (is_factor n m) (λ j x. suc (place_of m x)) i rest q
  factors_from i (f ∷ []) rest (and_all v h) r k q =
      run_more 3 (is_factor n m) (λ j x. suc (place_of m x)) i (factor_row f) rest (factor_row_lem f v) (suits i f v (k f [] refl))
      ∙ ap (λ (t : List Row). factor_row f ∷ t) (factors_from (suc (place m f.resource f.constraint)) [] rest h empty (λ g l e. let z : ◌≡◌ {A = ℕ} 0 1 = cc in absurd (omega arith)) q)
  factors_from i (f ∷ g ∷ l) rest (and_all v h) (next b r) k q =
      run_more 3 (is_factor n m) (λ j x. suc (place_of m x)) i (factor_row f) (map line_text (map factor_row (g ∷ l)) ++ rest) (factor_row_lem f v) (suits i f v (k f (g ∷ l) refl))
      ∙ ap (λ (t : List Row). factor_row f ∷ t) (factors_from (suc (place m f.resource f.constraint)) (g ∷ l) rest h r
      (λ x y e. let z : g ≡ x = cc in subst (λ (w : GivenFactor). suc (place m f.resource f.constraint) ≤ place m w.resource w.constraint) z (place_rises f g v b)) q)

  pub factors_back : (fs : List GivenFactor) (rest : List Line) → Every (FactorFits n m) fs → Rising fs → Names rest → Reads (rows (factor_rows n m)) (map line_text (map factor_row fs)) (map factor_row fs) rest
  unfolding factor_rows
  factors_back fs rest h r q = rows_back (factor_rows n m) (map factor_row fs) rest (factors_from 0 fs rest h r (λ f l e. omega arith) q)

-- ---- the cells
-- the factor of r and c, and d where it is absent
factor_else : ℤ → List GivenFactor → ℕ → ℕ → ℤ
factor_else d [] r c = d
factor_else d (f ∷ fs) r c = let more = factor_else d fs r c in cond (eqb f.resource r && eqb f.constraint c) f.factor more

else_zero : (fs : List GivenFactor) (r c : ℕ) → factor_else (pos 0) fs r c ≡ factor_of fs r c
unfolding factor_else factor_of
else_zero [] r c = refl
else_zero (f ∷ fs) r c = ap (λ (z : ℤ). cond (eqb f.resource r && eqb f.constraint c) f.factor z) (else_zero fs r c)

before_trans : (f g h : GivenFactor) → Before f g → Before g h → Before f h
before_trans f g h p q = record {
  rises = ⊎_elim
      (λ a. ⊎_elim (λ b. inl (omega arith)) (λ b. inl (omega (arith, b.0))) q.rises)
      (λ a. ⊎_elim (λ b. inl (omega (arith, a.0))) (λ b. inr (a.0 ∙ b.0, omega (arith, a.1, b.1))) q.rises) p.rises;
}

above : (f g : GivenFactor) (l : List GivenFactor) → Before f g → Rising (g ∷ l) → Every (Before f) (g ∷ l)
above f g [] b r = and_all b no_more
above f g (h ∷ l) b (next c r) = and_all b (above f h l (before_trans f g h b c) r)

-- another pair: the test fails
other : (a b r c : ℕ) → ((a ≡ r) → (b ≡ c) → ⊥) → (eqb a r && eqb b c) ≡ false
other a b r c h = go (ℕ_discrete a r)
  where
    go : Dec (a ≡ r) → (eqb a r && eqb b c) ≡ false
    go (yes e) = rw (ne_eqb b c (h e)) (and-false (eqb a r))
    go (no e) = rw (ne_eqb a r e) refl

absent : (d : ℤ) (f : GivenFactor) (l : List GivenFactor) → Every (Before f) l → factor_else d l f.resource f.constraint ≡ d
unfolding factor_else
absent d f [] h = refl
absent d f (g ∷ l) (and_all b h) =
    ap (λ (t : Bool). cond t g.factor (factor_else d l f.resource f.constraint))
    (other g.resource g.constraint f.resource f.constraint (λ p q. ⊎_elim (λ k. absurd (omega arith)) (λ k. absurd (omega (arith, k.1))) b.rises))
    ∙ absent d f l h

tail_above : (f : GivenFactor) (l : List GivenFactor) → Rising (f ∷ l) → Every (Before f) l × Rising l
tail_above f [] r = (no_more, empty)
tail_above f (g ∷ l) (next b r) = (above f g l b r, r)

stores_length : (a : List ℤ) (l : List GivenFactor) → length (with_factors a (map factor_row l)) ≡ length a
unfolding with_factors
stores_length a [] = refl
stores_length a (f ∷ l) = stores_length (with_factor a (factor_row f)) l ∙ length-set a (factor_cell f.resource f.constraint) f.factor

-- the cell of a factor that has one, and of one past the 64 resources or the 32 constraints
cell_is : (r c : ℕ) → r < 64 → c < 32 → factor_cell r c ≡ r * 32 + c
cell_is r c h k = rw (lt-ltb r 64 h, lt-ltb c 32 k) refl

no_cell : (r c : ℕ) → (64 ≤ r) ⊎ (32 ≤ c) → factor_cell r c ≡ 2048
no_cell r c (inl h) = rw (le-ltb r 64 h) refl
no_cell r c (inr h) = ap (λ (b : Bool). cond (ltb r 64 && b) (r * 32 + c) 2048) (le-ltb c 32 h) ∙ ap (λ (b : Bool). cond b (r * 32 + c) 2048) (and-false (ltb r 64))

-- one factor stored: its cell has it, every other what it had
module _ (a : List ℤ) (r c : ℕ) (z : ℤ) (q : ℕ) (long : length a ≡ 2048) (k : q < 2048) where
  abbrev Stored : Type 0
  Stored = get_or (set a (factor_cell r c) z) q (pos 0) ≡ cond (eqb r (q / 32) && eqb c (q % 32)) z (get_or a q (pos 0))

  there : r < 64 → c < 32 → Stored
  there h j = rw (cell_is r c h j) (go (ℕ_discrete q (r * 32 + c)))
    where
      go : Dec (q ≡ r * 32 + c) → get_or (set a (r * 32 + c) z) q (pos 0) ≡ cond (eqb r (q / 32) && eqb c (q % 32)) z (get_or a q (pos 0))
      go (yes e) =
          let x : r ≡ q / 32 = omega arith in
          let y : c ≡ q % 32 = omega arith in
          rw (eq-eqb r (q / 32) x, eq-eqb c (q % 32) y, e) (get_or-set_same a (r * 32 + c) z (pos 0) (omega arith))
      go (no e) = rw (other r c (q / 32) (q % 32) (λ x y. e (omega arith))) (get_or-set_other a (r * 32 + c) q z (pos 0) e)

  past : (64 ≤ r) ⊎ (32 ≤ c) → Stored
  past h =
      rw (no_cell r c h, other r c (q / 32) (q % 32) (λ x y. ⊎_elim (λ p. omega arith) (λ p. omega arith) h))
      (get_or-set_other a 2048 q z (pos 0) (λ e. omega arith))

  stored : Stored
  stored = ⊎_elim (λ h. past (inl h)) (λ h. ⊎_elim (λ j. past (inr j)) (there h) (le_or_lt 32 c)) (le_or_lt 64 r)

-- no later factor stands in its cell
first_stored : (d : ℤ) (f : GivenFactor) (fs : List GivenFactor) (r c : ℕ) → Every (Before f) fs
    → factor_else (cond (eqb f.resource r && eqb f.constraint c) f.factor d) fs r c ≡ factor_else d (f ∷ fs) r c
unfolding factor_else
first_stored d f fs r c h = go (ℕ_discrete f.resource r) (ℕ_discrete f.constraint c)
  where
    go : Dec (f.resource ≡ r) → Dec (f.constraint ≡ c) → factor_else (cond (eqb f.resource r && eqb f.constraint c) f.factor d) fs r c ≡ factor_else d (f ∷ fs) r c
    go (yes x) (yes y) = rw (← x, ← y, eq-eqb f.resource f.resource refl, eq-eqb f.constraint f.constraint refl) (absent f.factor f fs h)
    go (yes x) (no y) = rw (other f.resource f.constraint r c (λ u w. y w)) refl
    go (no x) e = rw (other f.resource f.constraint r c (λ u w. x u)) refl

cells : (a : List ℤ) (fs : List GivenFactor) → length a ≡ 2048 → Rising fs → (q : ℕ) → q < 2048
    → get_or (with_factors a (map factor_row fs)) q (pos 0) ≡ factor_else (get_or a q (pos 0)) fs (q / 32) (q % 32)
unfolding with_factors factor_else
cells a [] e r q k = refl
cells a (f ∷ fs) e r q k =
    let t = tail_above f fs r in
    cells (with_factor a (factor_row f)) fs (length-set a (factor_cell f.resource f.constraint) f.factor ∙ e) t.1 q k
    ∙ ap (λ (d : ℤ). factor_else d fs (q / 32) (q % 32)) (stored a f.resource f.constraint f.factor q e k)
    ∙ first_stored (get_or a q (pos 0)) f fs (q / 32) (q % 32) t.0

-- every cell: the row's value, 0 where absent
pub cells_back : (fs : List GivenFactor) → Rising fs → with_factors (replicate 2048 (pos 0)) (map factor_row fs) ≡ listed (λ q. factor_of fs (q / 32) (q % 32)) 2048
cells_back fs r = listed_is (pos 0) (with_factors (replicate 2048 (pos 0)) (map factor_row fs)) (λ q. factor_of fs (q / 32) (q % 32)) 2048 (stores_length (replicate 2048 (pos 0)) fs ∙ length-replicate 2048 (pos 0))
    (λ q k. cells (replicate 2048 (pos 0)) fs (length-replicate 2048 (pos 0)) r q k ∙ ap (λ (d : ℤ). factor_else d fs (q / 32) (q % 32)) (get_or-replicate 2048 q (pos 0) (pos 0) k) ∙ else_zero fs (q / 32) (q % 32))
