-- Laws of a part: what the answer to a faulty line shows, whatever the cells hold, what the cells of its tables hold, and what is answered by the number that refuses it. Assumes nothing.
use Prim.Native.Nat.{ℕ, zero, suc, ◌+◌, ◌*◌, ◌≤◌, ◌<◌, min}
use mathlib.Core.Path.{◌≡◌, refl, sym, ap, ap₂, ◌∙◌}
use mathlib.Core.List.{List, [], ◌∷◌, map, flat_map}
use native.Mathlib.Omega.{arith}
use lib.ListN.{length, take, set, replicate}
use lib.Seq.{sets, get_or-take}
use lib.IntN.{ℤ, pos}
use Rattle.rules_number.specs.Order.{nat_of}
use Rattle.rules_number.proofs.OverLaws.{listed_at}
use Rattle.rules_interval.specs.declared.Interval.{Interval}
use Rattle.rules_text.specs.Numbers.{Line, Row}
use Rattle.rules_text.specs.Tables.{Reading, faulty, cell}
use Rattle.rules_text.specs.Offsets.{kept}
use Rattle.rules_text.proofs.ListLaws.{sets_read}
use Rattle.rules_parts.specs.Parts.{factor_cell, with_factor, with_factors, interval_of}
use Rattle.rules_library.specs.Slices.{cell_at}
use Rattle.rules_state.specs.Intervals.{outputs_in}
use Rattle.rules_state.specs.Takes.{if_accepted}
use Rattle.interval.specs.Over.{interval_over}
use Rattle.cutting.proofs.AlikeLaws.{Alike}
use Rattle.interval_part.specs.Taken.{Seen, answered}
use Rattle.interval_part.specs.declared.PartTaken.{PartTaken}

-- ---- factors stored in k cells are the first k of those stored in 2048
take_set : (k : ℕ) (a : List ℤ) (i : ℕ) (x : ℤ) → take k (set a i x) ≡ set (take k a) i x
take_set zero a i x = refl
take_set (suc k) [] i x = refl
take_set (suc k) (y ∷ a) zero x = refl
take_set (suc k) (y ∷ a) (suc i) x = ap (λ (l : List ℤ). y ∷ l) (take_set k a i x)

take_stored : (k : ℕ) (a : List ℤ) (xs : List Row) → take k (with_factors a xs) ≡ with_factors (take k a) xs
unfolding with_factors
take_stored k a [] = refl
take_stored k a (x ∷ xs) =
    take_stored k (with_factor a x) xs ∙ ap (λ (l : List ℤ). with_factors l xs) (take_set k a (factor_cell (nat_of (cell 0 x)) (nat_of (cell 1 x))) (cell 2 x))

take_blank : (k n : ℕ) (x : ℤ) → k ≤ n → take k (replicate n x) ≡ replicate k x
take_blank zero n x h = refl
take_blank (suc k) zero x h = absurd (omega arith)
take_blank (suc k) (suc n) x h = ap (λ (l : List ℤ). x ∷ l) (take_blank k n x (omega arith))

pub stored_seen : (k : ℕ) (xs : List Row) → k ≤ 2048 → with_factors (replicate k (pos 0)) xs ≡ take k (with_factors (replicate 2048 (pos 0)) xs)
stored_seen k xs h = sym (take_stored k (replicate 2048 (pos 0)) xs ∙ ap (λ (l : List ℤ). with_factors l xs) (take_blank k 2048 (pos 0) h))

-- ---- outputs stored in turn: value k of resource r
flat_at : (k : ℕ) → k < 4 → (os : List Row) (r : ℕ) → cell_at (flat_map (λ row. cell 1 row ∷ cell 2 row ∷ cell 3 row ∷ cell 4 row ∷ []) os) (4 * r + k) ≡ cell_at (map (cell (suc k)) os) r
unfolding flat_map
flat_at k h [] r = refl
flat_at zero h (x ∷ os) zero = refl
flat_at (suc zero) h (x ∷ os) zero = refl
flat_at (suc (suc zero)) h (x ∷ os) zero = refl
flat_at (suc (suc (suc zero))) h (x ∷ os) zero = refl
flat_at (suc (suc (suc (suc k)))) h (x ∷ os) zero = absurd (omega arith)
flat_at k h (x ∷ os) (suc r) =
    let e : 4 * suc r + k ≡ suc (suc (suc (suc (4 * r + k)))) = omega arith in
    ap (cell_at (cell 1 x ∷ cell 2 x ∷ cell 3 x ∷ cell 4 x ∷ flat_map (λ row. cell 1 row ∷ cell 2 row ∷ cell 3 row ∷ cell 4 row ∷ []) os)) e ∙ flat_at k h os r

output_at_lem : (j : ℕ) (os : List Row) (outputs : List ℤ) → outputs ≡ sets (replicate j (pos 0)) 0 (flat_map (λ row. cell 1 row ∷ cell 2 row ∷ cell 3 row ∷ cell 4 row ∷ []) os)
    → (k : ℕ) → k < 4 → (r : ℕ) → r < 64 → 4 * r + k < j → cell_at (outputs_in outputs k) r ≡ cell_at (kept 64 (pos 0) (map (cell (suc k)) os)) r
unfolding kept
output_at_lem j os outputs e k few r h i =
    listed_at (λ r. cell_at outputs (4 * r + k)) (pos 0) 64 r h ∙ ap (λ (l : List ℤ). cell_at l (4 * r + k)) e
    ∙ sets_read j (pos 0) (flat_map (λ row. cell 1 row ∷ cell 2 row ∷ cell 3 row ∷ cell 4 row ∷ []) os) (4 * r + k) i ∙ flat_at k few os r
    ∙ sym (sets_read 64 (pos 0) (map (cell (suc k)) os) r h)

-- the interval of the tables as they are put, and as they are read
pub put_seen : (cs os fs : List Row) (j k m n : ℕ) (shadow outputs factors : List ℤ) (p q : ℤ) → m ≡ length cs → shadow ≡ sets (replicate 32 (pos 0)) 0 (map (cell 1) cs) → n ≡ length os
    → outputs ≡ sets (replicate j (pos 0)) 0 (flat_map (λ row. cell 1 row ∷ cell 2 row ∷ cell 3 row ∷ cell 4 row ∷ []) os) → factors ≡ with_factors (replicate k (pos 0)) fs → k ≤ 2048 → p ≡ q
    → Seen j k (interval_over m shadow n outputs factors p) (interval_of cs os fs q)
unfolding interval_of kept
put_seen cs os fs j k m n shadow outputs factors p q em es en eo ef few ep = record {
  constraints = em;
  shadow = es;
  resources = en;
  lmp = λ r h i. output_at_lem j os outputs eo 0 (omega arith) r h (omega arith);
  dispatch = λ r h i. output_at_lem j os outputs eo 1 (omega arith) r h i;
  available = λ r h i. output_at_lem j os outputs eo 2 (omega arith) r h i;
  floor = λ r h i. output_at_lem j os outputs eo 3 (omega arith) r h i;
  factors = ef ∙ stored_seen k fs few;
  parameter = ep;
}

-- in an hour of n resources they say the same, where there are cells for these
pub alike : (n j k : ℕ) (w v : Interval) → min n 64 * 4 ≤ j → min n 64 * 32 ≤ k → Seen j k w v → Alike n w v
alike n j k w v rooms room s = record {
  constraints = s.constraints;
  resources = s.resources;
  parameter = s.parameter;
  shadow = λ c h. ap (λ (l : List ℤ). cell_at l c) s.shadow;
  lmp = λ r h. s.lmp r (omega arith) (omega arith);
  dispatch = λ r h. s.dispatch r (omega arith) (omega arith);
  available = λ r h. s.available r (omega arith) (omega arith);
  floor = λ r h. s.floor r (omega arith) (omega arith);
  factor = λ r c h i. ap (λ (l : List ℤ). cell_at l (r * 32 + c)) s.factors ∙ get_or-take k v.factors (r * 32 + c) (pos 0) (omega arith);
}

-- ---- by the number n that refuses it: k is the one of the rules
module _ (n k : ℕ) (e : n ≡ k) where
  pub answers_refusal : (n ≡ 0 → ⊥) → (line next constraints : ℕ) → ◌≡◌ {A = PartTaken} (record { number = n; line = line; next = 0; constraints = 0 }) (answered k line next constraints)
  answers_refusal h line next constraints = go k e
    where
      go : (j : ℕ) → n ≡ j → ◌≡◌ {A = PartTaken} (record { number = n; line = line; next = 0; constraints = 0 }) (answered j line next constraints)
      go zero q = absurd (h q)
      go (suc j) q = ap (λ (m : ℕ). record { number = m; line = line; next = 0; constraints = 0 }) q

  pub answers_accepted : n ≡ 0 → (line next next' constraints constraints' : ℕ) → next ≡ next' → constraints ≡ constraints'
      → ◌≡◌ {A = PartTaken} (record { number = 0; line = line; next = next; constraints = constraints }) (answered k line next' constraints')
  answers_accepted z line next next' constraints constraints' p q =
      ap (λ (m : ℕ). answered m line next constraints) (sym z ∙ e) ∙ ap₂ (λ (i j : ℕ). answered k line i j) p q

  pub left_refused : {A : Type 0} → (n ≡ 0 → ⊥) → (a b l : A) → if_accepted n a l ≡ if_accepted k b l
  left_refused {A} h a b l = go n k e h
    where
      go : (i j : ℕ) → i ≡ j → (i ≡ 0 → ⊥) → if_accepted i a l ≡ if_accepted j b l
      go zero j q g = absurd (g refl)
      go (suc i) zero q g = absurd (g q)
      go (suc i) (suc j) q g = refl

  pub left_accepted : {A : Type 0} → n ≡ 0 → (a l : A) → a ≡ if_accepted k a l
  left_accepted z a l = ap (λ (m : ℕ). if_accepted m a l) (sym z ∙ e)
