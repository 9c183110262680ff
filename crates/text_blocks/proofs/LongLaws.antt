-- Laws of the last three tables: there is one group, and one cost line, for each resource; and what is made of them. Assumes nothing.
use Rattle.std.specs.Prelude.{None, Option, Some}
use Prim.Native.Nat.{ℕ, zero, suc, ◌+◌}
use Prim.Native.String.{String}
use mathlib.Core.Path.{◌≡◌, refl, sym, ap, ◌∙◌}
use mathlib.Core.List.{List, [], ◌∷◌}
use mathlib.Core.Bool.{Bool, true, false, cond}
use native.Mathlib.Omega.{arith}
use lib.ListN.{length, drop}
use Rattle.rules_text.specs.Numbers.{Line, Row, bytes, same, row}
use Rattle.rules_text.specs.Tables.{Reading, Reader, faulty, found, next, ◌▷◌, headed, due, taken, has_id, if_suits, rows, grouped, pairs, each}
use Rattle.rules_text.proofs.UsedLaws.{Rises, rises_found, rises_then, rises_headed, rises_each, rises_grouped}
use Rattle.text_blocks.specs.Blocks.{last_single, last_two, last_three}
use Rattle.text_blocks.proofs.LastLaws.{step_names, point_names, cost_names}

abbrev Long : {A : Type 0} → ℕ → Reading (List A) → Type 0
Long {A} m r = (xs : List A) (k : ℕ) (ls : List Line) → r ≡ found xs k ls → length xs ≡ m

module _ {A : Type 0} (m : ℕ) where
  long_cons : (x : A) (r : Reading (List A)) → Long m r → Long (suc m) (next r (λ xs. found (x ∷ xs)))
  long_cons x (faulty k) h ys n ls e = let z : ◌≡◌ {A = ℕ} 0 1 = cc in absurd (omega arith)
  long_cons x (found xs k rest) h ys n ls e = let q : x ∷ xs ≡ ys = cc in sym (ap length q) ∙ ap suc (h xs k rest refl)

  long_cond : (b : Bool) (r : Reading (List A)) (k : ℕ) → Long m r → Long m (cond b r (faulty k))
  long_cond true r k h = h
  long_cond false r k h = λ ys n ls e. let z : ◌≡◌ {A = ℕ} 0 1 = cc in absurd (omega arith)

  long_headed : (names : String) (r : Reader (List A)) → ((n : ℕ) (ls : List Line) → Long m (r n ls)) → (n : ℕ) (ls : List Line) → Long m (headed names r n ls)
  unfolding headed
  long_headed names r h n [] = λ ys k rest e. let z : ◌≡◌ {A = ℕ} 0 1 = cc in absurd (omega arith)
  long_headed names r h n (l ∷ ls) = long_cond (same (bytes names) l) (r (suc n) ls) (suc n) (h (suc n) ls)

  -- what two continuations give, which agree on every list of that length
  next_same : {B : Type 0} (r : Reading (List A)) (f g : List A → Reader B) → Long m r → ((xs : List A) → length xs ≡ m → (n : ℕ) (ls : List Line) → f xs n ls ≡ g xs n ls) → next r f ≡ next r g
  next_same (faulty k) f g h e = refl
  next_same (found xs k ls) f g h e = e xs (h xs k ls refl) k ls

long_none : (A : Type 0) (n : ℕ) (ls : List Line) → Long {A = A} 0 (found [] n ls)
long_none A n ls ys k rest e = let q : [] ≡ ys = cc in sym (ap length q)

long_grouped : (m r n : ℕ) (ls : List Line) → Long m (grouped pairs m r n ls)
unfolding grouped rows
long_grouped zero r n ls = long_none (List Row) n ls
long_grouped (suc m) r n ls = long_cons m (pairs r ls) (grouped pairs m (suc r) (n + length (pairs r ls)) (drop (length (pairs r ls)) ls)) (long_grouped m (suc r) (n + length (pairs r ls)) (drop (length (pairs r ls)) ls))

long_taken : (m r : ℕ) (o : Option Row) (n : ℕ) (ls : List Line) → ((k : ℕ) → Long m (each 8 m (suc r) k ls)) → Long (suc m) (next (taken o n ls) (λ x. each 8 m (suc r) ▷ λ xs. found (x ∷ xs)))
long_taken m r None n ls h = λ ys k rest e. let z : ◌≡◌ {A = ℕ} 0 1 = cc in absurd (omega arith)
long_taken m r (Some x) n ls h = long_cons m x (each 8 m (suc r) (suc n) ls) (h (suc n))

long_each : (m r n : ℕ) (ls : List Line) → Long m (each 8 m r n ls)
unfolding each due
long_each zero r n ls = long_none Row n ls
long_each (suc m) r n [] = λ ys k rest e. let z : ◌≡◌ {A = ℕ} 0 1 = cc in absurd (omega arith)
long_each (suc m) r n (l ∷ ls) = long_taken m r (if_suits (has_id r) (row 8 l)) n ls (λ k. long_each m (suc r) k ls)

-- ---- what is made of the tables
module _ {X : Type 0} (m : ℕ) (made : List (List Row) → List (List Row) → List Row → X) where
  -- the same of all tables of that length
  pub last_same : (other : List (List Row) → List (List Row) → List Row → X)
      → ((steps points : List (List Row)) (costs : List Row) → length steps ≡ m → length points ≡ m → length costs ≡ m → made steps points costs ≡ other steps points costs)
      → (n : ℕ) (ls : List Line) → last_three m made n ls ≡ last_three m other n ls
  last_same other h n ls =
      next_same m (headed step_names (grouped pairs m 0) n ls) _ _ (long_headed m step_names (grouped pairs m 0) (long_grouped m 0) n ls)
      (λ steps a n1 l1. next_same m (headed point_names (grouped pairs m 0) n1 l1) _ _ (long_headed m point_names (grouped pairs m 0) (long_grouped m 0) n1 l1)
      (λ points b n2 l2. next_same m (headed cost_names (each 8 m 0) n2 l2) _ _ (long_headed m cost_names (each 8 m 0) (long_each m 0) n2 l2)
      (λ costs c n3 l3. ap (λ (x : X). found x n3 l3) (h steps points costs a b c))))

  -- more of what is made
  pub last_then : {Y : Type 0} (g : X → Y) (n : ℕ) (ls : List Line) → next (last_three m made n ls) (λ x. found (g x)) ≡ last_three m (λ steps points costs. g (made steps points costs)) n ls
  last_then g n ls =
      then_next (headed step_names (grouped pairs m 0) n ls) _ _ _
      (λ steps n1 l1. then_next (headed point_names (grouped pairs m 0) n1 l1) _ _ _
      (λ points n2 l2. then_next (headed cost_names (each 8 m 0) n2 l2) _ _ _ (λ costs n3 l3. refl)))
    where
      then_next : {A B C : Type 0} (r : Reading A) (f : A → Reader B) (h : B → Reader C) (k : A → Reader C) → ((a : A) (i : ℕ) (l : List Line) → next (f a i l) h ≡ k a i l) → next (next r f) h ≡ next r k
      then_next (faulty i) f h k e = refl
      then_next (found a i l) f h k e = e a i l

  pub rises_last : (n : ℕ) (ls : List Line) → Rises n (last_three m made n ls)
  rises_last n ls =
      rises_then n (headed step_names (grouped pairs m 0) n ls) (λ steps. last_two m (made steps)) (rises_headed step_names (grouped pairs m 0) (rises_grouped pairs m 0) n ls)
      (λ steps n1 l1. rises_then n1 (headed point_names (grouped pairs m 0) n1 l1) (λ points. last_single m (made steps points)) (rises_headed point_names (grouped pairs m 0) (rises_grouped pairs m 0) n1 l1)
      (λ points n2 l2. rises_then n2 (headed cost_names (each 8 m 0) n2 l2) (λ costs. found (made steps points costs)) (rises_headed cost_names (each 8 m 0) (rises_each 8 m 0) n2 l2)
      (λ costs. rises_found (made steps points costs))))
