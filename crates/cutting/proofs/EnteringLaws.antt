-- The constraints that enter the component, listed by the cells of their verdicts: the component over them is C. Assumes nothing.
use mathlib.Core.Bool.{Bool, true, false, cond}
use mathlib.Core.List.{List, [], ◌∷◌, ◌++◌, append-nil}
use mathlib.Core.Path.{◌≡◌, refl, sym, ap, ap₂, ◌∙◌}
use Prim.Native.Nat.{ℕ, zero, suc, ◌+◌, ◌*◌, ◌≤◌, ◌<◌}
use native.Mathlib.Nat.{le_refl}
use native.Mathlib.Numerals.{add-one}
use native.Mathlib.Omega.{arith}
use borrow.Author.Tests.{ne_eqb}
use lib.Dec.{eqb, ltb}
use lib.IntN.{ℤ, pos, negsuc, nat_abs, ◌+ℤ◌, ◌*ℤ◌, +ℤ_idl, +ℤ_idr, +ℤ_assoc}
use lib.ListN.{length, get_or, set, take, length-set}
use lib.Seq.{take-suc, take-suc-set, take-set-le, take-length, length-take-le}
use Rattle.rules_number.specs.Over.{those, sum_over}
use Rattle.rules_number.proofs.Kit.{Bd, bd_abs, bd_add, bd_le, bd_mul, bd_neg, abs_bd}
use Rattle.rules_number.proofs.OverLaws.{both, never}
use Rattle.rules_number.proofs.RangeLaws.{abs_range, abs_in}
use Rattle.rules_interval.specs.Intervals.{cell}
use Rattle.rules_interval.specs.declared.Interval.{Interval}
use Rattle.rules_interval.proofs.IntervalLaws.{InLimits}
use Rattle.rules_path.specs.Paths.{Path, binds, demand, left, is_non_competitive}
use Rattle.rules_path.specs.Verdicts.{finding_number, verdict_of}
use Rattle.cutting.specs.Entering.{enters_by, entering_in, Lists, component_over, Addable, Priced}

-- ---- a sum over the front of a list
sum_more : (g : ℕ → ℤ) (l : List ℕ) (x : ℕ) → sum_over g (l ++ (x ∷ [])) ≡ sum_over g l +ℤ g x
unfolding sum_over
sum_more g [] x = +ℤ_idr (g x) ∙ sym (+ℤ_idl (g x))
sum_more g (y ∷ l) x = ap (λ (z : ℤ). g y +ℤ z) (sum_more g l x) ∙ sym (+ℤ_assoc (g y) (sum_over g l) (g x))

pub front_next : (g : ℕ → ℤ) (l : List ℕ) (k : ℕ) → k < length l → sum_over g (take (k + 1) l) ≡ sum_over g (take k l) +ℤ g (get_or l k 0)
front_next g l k h = rw (add-one k, take-suc l k 0 h) (sum_more g (take k l) (get_or l k 0))

-- none of whose terms is above b in size
pub front_size : (g : ℕ → ℤ) (b : ℕ) (l : List ℕ) (k : ℕ) → k ≤ length l → ((i : ℕ) → i < length l → Bd b (g (get_or l i 0))) → Bd (k * b) (sum_over g (take k l))
unfolding sum_over
front_size g b l zero h each = record { bd = omega arith }
front_size g b l (suc k) h each =
    rw (take-suc l k 0 h, sum_more g (take k l) (get_or l k 0)) (bd_le (omega arith) (bd_add (front_size g b l k (omega arith) each) (each k h)))

-- ---- the size of a component
pub term_size : (factors shadow : List ℤ) (l : List ℕ) (r : ℕ) → Addable factors shadow l r → (i : ℕ) → i < length l
    → Bd 100000000000000 (cell factors (r * 32 + get_or l i 0) *ℤ cell shadow (get_or l i 0))
term_size factors shadow l r a i h = bd_mul (bd_abs {z = cell factors (r * 32 + get_or l i 0)} (a.factor i h)) (bd_abs {z = cell shadow (get_or l i 0)} (a.price i h))

pub component_size : (factors shadow : List ℤ) (l : List ℕ) (r : ℕ) → Addable factors shadow l r → nat_abs (component_over factors shadow l r) ≤ 3200000000000000
unfolding component_over
component_size factors shadow l r a =
    let g : ℕ → ℤ = λ c. cell factors (r * 32 + c) *ℤ cell shadow c in
    let all : Bd (length l * 100000000000000) (sum_over g l) = rw take-length at (front_size g 100000000000000 l (length l) (le_refl (length l)) (term_size factors shadow l r a)) in
    abs_bd (bd_neg (bd_le (omega (arith, a.few)) all))

-- ---- the list
pub not_one : (z : ℤ) → (z ≡ pos 1 → ⊥) → enters_by z ≡ false
not_one (pos zero) h = refl
not_one (pos (suc zero)) h = absurd (h refl)
not_one (pos (suc (suc n))) h = ne_eqb (suc (suc n)) 1 (λ e. omega arith)
not_one (negsuc n) h = refl

those_below : (f g : ℕ → Bool) (n : ℕ) → ((c : ℕ) → c < n → f c ≡ g c) → those f n ≡ those g n
unfolding those
those_below f g zero h = refl
those_below f g (suc n) h = ap₂ (λ (l : List ℕ) (t : Bool). l ++ cond t (n ∷ []) []) (those_below f g n (λ c k. h c (omega arith))) (h n (le_refl (suc n)))

-- each of those below n is below n
joined : (b : ℕ) (l m : List ℕ) → ((k : ℕ) → k < length l → get_or l k 0 < b) → ((k : ℕ) → k < length m → get_or m k 0 < b) → (k : ℕ) → k < length (l ++ m) → get_or (l ++ m) k 0 < b
joined b [] m p q k h = q k h
joined b (x ∷ l) m p q zero h = p 0 (omega arith)
joined b (x ∷ l) m p q (suc k) h = joined b l m (λ i j. p (suc i) (omega arith)) q k (omega arith)

last_one : (n : ℕ) (t : Bool) (k : ℕ) → k < length (cond t (n ∷ []) []) → get_or (cond t (n ∷ []) []) k 0 < suc n
last_one n true zero h = omega arith
last_one n true (suc k) h = absurd (omega arith)
last_one n false k h = absurd (omega arith)

those_small : (f : ℕ → Bool) (n k : ℕ) → k < length (those f n) → get_or (those f n) k 0 < n
unfolding those
those_small f zero k h = absurd (omega arith)
those_small f (suc n) k h = joined (suc n) (those f n) (cond (f n) (n ∷ []) []) (λ i j. omega (arith, those_small f n i j)) (last_one n (f n)) k h

-- nothing is listed yet
pub lists_none : (verdicts : List ℤ) (list : List ℕ) → length list ≡ 32 → Lists verdicts 0 list 0
unfolding entering_in those
lists_none verdicts list h = record { few = omega arith; room = h; are = refl }

-- a turn of the loop
pub lists_next : (verdicts : List ℤ) (c : ℕ) (list : List ℕ) (k n : ℕ) → Lists verdicts c list k → c < 32 → n ≡ cond (enters_by (cell verdicts (20 * c))) 1 0 → Lists verdicts (c + 1) (set list k c) (k + n)
unfolding entering_in those
lists_next verdicts c list k n s h e = go (enters_by (cell verdicts (20 * c))) refl
  where
    f : ℕ → Bool
    f i = enters_by (cell verdicts (20 * i))

    go : (t : Bool) → enters_by (cell verdicts (20 * c)) ≡ t → Lists verdicts (c + 1) (set list k c) (k + n)
    go true x =
        let one : n ≡ 1 = rw x at e in
        let m : k + n ≡ suc k = omega arith in
        record {
          few = omega (arith, s.few);
          room = length-set list k c ∙ s.room;
          are = rw (m, add-one c, x, take-suc-set list k c (omega (arith, s.few, s.room)), s.are);
        }
    go false x =
        let none : n ≡ 0 = rw x at e in
        let m : k + n ≡ k = omega arith in
        record {
          few = omega (arith, s.few);
          room = length-set list k c ∙ s.room;
          are = rw (m, add-one c, x, take-set-le k list k c (le_refl k), s.are) (sym (append-nil (those f c)));
        }

-- what is listed is in range where the interval is
pub priced : (k : ℕ) (v : Interval) (verdicts : List ℤ) (list : List ℕ) (count : ℕ) → InLimits k v → Lists verdicts v.constraints list count → Priced v (take count list)
unfolding entering_in
priced k v verdicts list count limits s =
    let l = take count list in
    let size : length l ≡ count = length-take-le count list (omega (arith, s.few, s.room, limits.constraints)) in
    let small : (k : ℕ) → k < length l → get_or l k 0 < v.constraints = rw s.are (those_small (λ c. enters_by (cell verdicts (20 * c))) v.constraints) in
    record {
      few = limits.few;
      addable = λ r h. record {
        row = omega (arith, limits.few);
        few = omega (arith, s.few, limits.constraints);
        below = λ k j. omega (arith, small k j, limits.constraints);
        factor = λ k j. abs_range 1000000 (cell v.factors (r * 32 + get_or l k 0)) (limits.factor r (get_or l k 0) h (small k j));
        price = λ k j. abs_in 100000000 (cell v.shadow (get_or l k 0)) (limits.shadow (get_or l k 0) (small k j));
      };
      lmp_in = limits.lmp;
      parameter_in = limits.parameter;
    }

-- ---- a constraint enters exactly where it is non-competitive
non_competitive_binds : (d : Path) → is_non_competitive d ≡ true → binds d ≡ true
unfolding is_non_competitive
non_competitive_binds d e = (both (binds d) (ltb (left d) (demand d)) e).0

pub enters_is : (d : Path) → eqb (finding_number (verdict_of d).finding) 1 ≡ is_non_competitive d
unfolding verdict_of
enters_is d = go (binds d) refl (is_non_competitive d) refl
  where
    go : (b : Bool) → binds d ≡ b → (n : Bool) → is_non_competitive d ≡ n → eqb (finding_number (verdict_of d).finding) 1 ≡ is_non_competitive d
    go true e true f = rw (e, f)
    go true e false f = rw (e, f)
    go false e true f = never (sym e ∙ non_competitive_binds d f)
    go false e false f = rw (e, f)

pub entering_same : (verdicts : List ℤ) (f : ℕ → Bool) (m : ℕ) → ((c : ℕ) → c < m → enters_by (cell verdicts (20 * c)) ≡ f c) → entering_in verdicts m ≡ those f m
unfolding entering_in
entering_same verdicts f m h = those_below (λ c. enters_by (cell verdicts (20 * c))) f m h
