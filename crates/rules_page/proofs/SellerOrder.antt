-- Sellers by weight: what the order is, and that there is no other. Assumes nothing.
use Rattle.std.specs.Prelude.{None, Option, Some}
use Prim.Native.Nat.{ℕ, zero, suc, ◌+◌, ◌≤◌, ◌<◌}
use mathlib.Core.Path.{◌≡◌, refl, sym, ap, ap₂, subst, ◌∙◌}
use mathlib.Core.List.Memᴰ
use mathlib.Core.List.{List, [], ◌∷◌, Memᴰ}
use mathlib.Core.Bool.{Bool, true, false, cond}
use mathlib.Core.Logic.{◌≢◌, ◌↔◌, ⊎_elim}
use native.Mathlib.Decide.{ℕ_discrete}
use native.Mathlib.Omega.{arith}
use borrow.Author.Tests.{ltb-true, ltb-false, eqb-false, eq-eqb, ne_eqb}
use lib.Dec.{ltb, eqb}
use lib.ListN.{length, get_or}
use Rattle.rules_number.proofs.OverLaws.{last_or_before, never}
use Rattle.rules_page.specs.Weights.{without, later, leads, and_then, by_weight}

-- l has the portfolios of a set, of 16, by weight
pub record ByWeight (w : ℕ → ℕ) (left : ℕ → Bool) (l : List ℕ) : Type 0 where
  -- each of the set, and no other
  pub exactly : (p : ℕ) → Memᴰ p l ↔ ((p < 16) × (left p ≡ true))
  -- each once
  pub once : (i j : ℕ) → i < j → j < length l → get_or l i 0 ≢ get_or l j 0
  -- "the larger withheld amount now comes first"
  pub falls : (i j : ℕ) → i < j → j < length l → w (get_or l j 0) ≤ w (get_or l i 0)
  -- "equal ones by lower portfolio number"
  pub ties : (i j : ℕ) → i < j → j < length l → w (get_or l i 0) ≡ w (get_or l j 0) → get_or l i 0 < get_or l j 0

-- p comes before q
abbrev pub Before : (ℕ → ℕ) → ℕ → ℕ → Type 0
Before w p q = (w q ≤ w p) × (w p ≡ w q → p < q)

-- ---- the one that leads
-- of 0, .., n - 1 in a set, this one comes before each other; or the set has none of them
abbrev pub Leads : (ℕ → ℕ) → (ℕ → Bool) → ℕ → Option ℕ → Type 0
Leads w left n None = (q : ℕ) → q < n → left q ≡ false
Leads w left n (Some p) = (p < n) × (left p ≡ true) × ((q : ℕ) → q < n → left q ≡ true → q ≢ p → Before w p q)

module _ (w : ℕ → ℕ) (left : ℕ → Bool) where
  pub leads_are : (n : ℕ) → Leads w left n (leads w left n)
  unfolding leads
  leads_are zero = λ q l. absurd (omega (arith, l))
  leads_are (suc n) = go (left n) refl (leads w left n) (leads_are n)
    where
      -- n weighs more than p, so more than each that p came before
      lighter : (p q : ℕ) → w p < w n → w q ≤ w p → Before w n q
      lighter p q h k = (omega arith, λ e. absurd (omega (arith, e)))

      after : (p : ℕ) → w p < w n → Leads w left n (Some p) → (q : ℕ) → q < n → left q ≡ true → Dec (q ≡ p) → Before w n q
      after p h s q l t (yes e) = lighter p q h (let k : w q ≡ w p = ap w e in omega arith)
      after p h s q l t (no d) = lighter p q h (s.2 q l t d).0

      beaten : (p : ℕ) (d : Bool) → ltb (w p) (w n) ≡ d → left n ≡ true → Leads w left n (Some p) → Leads w left (suc n) (cond d (Some n) (Some p))
      beaten p true e t h = (
        omega arith,
        t,
        λ q l s d. ⊎_elim (λ z. absurd (d z)) (λ m. after p (ltb-true (w p) (w n) e) h q m s (ℕ_discrete q p)) (last_or_before q n l),
      )
      beaten p false e t h = (
        omega (arith, h.0),
        h.1,
        λ q l s d.
            ⊎_elim (λ z. let k : w q ≡ w n = ap w z in (omega (arith, k, ltb-false (w p) (w n) e), λ u. omega (arith, z, h.0)))
            (λ m. h.2 q m s d)
            (last_or_before q n l),
      )

      go : (t : Bool) → left n ≡ t → (o : Option ℕ) → Leads w left n o → Leads w left (suc n) (cond t (later w o n) o)
      go false e None h = λ q l. ⊎_elim (λ z. ap left z ∙ e) (λ m. h q m) (last_or_before q n l)
      go false e (Some p) h = (
        omega (arith, h.0),
        h.1,
        λ q l s d. ⊎_elim (λ z. never (sym (ap left z ∙ e) ∙ s)) (λ m. h.2 q m s d) (last_or_before q n l),
      )
      go true e None h = (omega arith, e, λ q l s d. ⊎_elim (λ z. absurd (d z)) (λ m. never (sym (h q m) ∙ s)) (last_or_before q n l))
      go true e (Some p) h = beaten p (ltb (w p) (w n)) refl e h

-- ---- a set without one of its portfolios
without_self : (p : ℕ) (left : ℕ → Bool) → without p left p ≡ false
without_self p left = ap (λ (d : Bool). cond d false (left p)) (eq-eqb p p refl)

without_other : (p : ℕ) (left : ℕ → Bool) (q : ℕ) → q ≢ p → without p left q ≡ left q
without_other p left q h = ap (λ (d : Bool). cond d false (left q)) (ne_eqb q p h)

without_in : (p : ℕ) (left : ℕ → Bool) (q : ℕ) → without p left q ≡ true → (q ≢ p) × (left q ≡ true)
without_in p left q e = go (eqb q p) refl e
  where
    go : (d : Bool) → eqb q p ≡ d → cond d false (left q) ≡ true → (q ≢ p) × (left q ≡ true)
    go true f g = never g
    go false f g = (eqb-false q p f, g)

-- how many of 0, .., n - 1 are in a set
one : Bool → ℕ
one true = 1
one false = 0

size : (ℕ → Bool) → ℕ → ℕ
size left zero = 0
size left (suc n) = one (left n) + size left n

one_most : (d : Bool) → one d ≤ 1
unfolding one
one_most true = omega arith
one_most false = omega arith

size_most : (left : ℕ → Bool) (n : ℕ) → size left n ≤ n
unfolding size
size_most left zero = omega arith
size_most left (suc n) = omega (arith, size_most left n, one_most (left n))

size_some : (left : ℕ → Bool) (n x : ℕ) → x < n → left x ≡ true → 0 < size left n
unfolding size one
size_some left zero x l e = absurd (omega (arith, l))
size_some left (suc n) x l e = ⊎_elim (λ z. let k : one (left n) ≡ 1 = ap one (sym (ap left z) ∙ e) in omega arith) (λ m. omega (arith, size_some left n x m e)) (last_or_before x n l)

size_past : (p : ℕ) (left : ℕ → Bool) (n : ℕ) → n ≤ p → size (without p left) n ≡ size left n
unfolding size
size_past p left zero l = refl
size_past p left (suc n) l = ap₂ (λ (a b : ℕ). a + b) (ap one (without_other p left n (λ e. omega (arith, l, e)))) (size_past p left n (omega (arith, l)))

size_without : (p : ℕ) (left : ℕ → Bool) (n : ℕ) → p < n → left p ≡ true → suc (size (without p left) n) ≡ size left n
unfolding size one
size_without p left zero l e = absurd (omega (arith, l))
size_without p left (suc n) l e =
    ⊎_elim
    (λ z.
    let a : one (without p left n) ≡ 0 = ap one (ap (without p left) (sym z) ∙ without_self p left) in
    let b : one (left n) ≡ 1 = ap one (ap left (sym z) ∙ e) in
    omega (arith, a, b, size_past p left n (omega (arith, z))))
    (λ m. let a : one (without p left n) ≡ one (left n) = ap one (without_other p left n (λ z. omega (arith, z, m))) in omega (arith, a, size_without p left n m e))
    (last_or_before p n l)

-- ---- the order has each of the set, and no other
module _ (w : ℕ → ℕ) where
  only_of : (k : ℕ) (left : ℕ → Bool) (x : ℕ) → Memᴰ x (by_weight k w left) → (x < 16) × (left x ≡ true)
  unfolding by_weight
  only_of zero left x h = absurd (Memᴰ.not-nil h)
  only_of (suc k) left x h = go (leads w left 16) (leads_are w left 16) (λ p. only_of k (without p left) x) h
    where
      go : (o : Option ℕ) → Leads w left 16 o → ((p : ℕ) → Memᴰ x (by_weight k w (without p left)) → (x < 16) × (without p left x ≡ true))
          → Memᴰ x (and_then o (λ p. by_weight k w (without p left))) → (x < 16) × (left x ≡ true)
      go None s ih g = absurd (Memᴰ.not-nil g)
      go (Some p) s ih g =
          ⊎_elim (λ e. (omega (arith, e, s.0), ap left e ∙ s.1)) (λ m. let r = ih p m in (r.0, (without_in p left x r.1).1)) (Memᴰ.cases_cons g)

  each_of : (k : ℕ) (left : ℕ → Bool) → size left 16 ≤ k → (x : ℕ) → x < 16 → left x ≡ true → Memᴰ x (by_weight k w left)
  unfolding by_weight
  each_of zero left s x l e = absurd (omega (arith, s, size_some left 16 x l e))
  each_of (suc k) left s x l e = go (leads w left 16) (leads_are w left 16) (λ p. each_of k (without p left))
    where
      go : (o : Option ℕ) → Leads w left 16 o → ((p : ℕ) → size (without p left) 16 ≤ k → (x : ℕ) → x < 16 → without p left x ≡ true → Memᴰ x (by_weight k w (without p left)))
          → Memᴰ x (and_then o (λ p. by_weight k w (without p left)))
      go None h ih = never (sym (h x l) ∙ e)
      go (Some p) h ih = there (ℕ_discrete x p)
        where
          there : Dec (x ≡ p) → Memᴰ x (p ∷ by_weight k w (without p left))
          there (yes z) = Memᴰ.head z
          there (no d) = Memᴰ.tail (ih p (omega (arith, s, size_without p left 16 h.0 h.1)) x l (without_other p left x d ∙ e))

-- ---- each comes before those after it
abbrev pub Ordered : (ℕ → ℕ) → List ℕ → Type 0
Ordered w [] = Unit {0}
Ordered w (p ∷ l) = ((x : ℕ) → Memᴰ x l → Before w p x) × Ordered w l

-- an element by its place, and a place for each element
pub mem_at : (l : List ℕ) (i : ℕ) → i < length l → Memᴰ (get_or l i 0) l
mem_at [] i h = absurd (omega arith)
mem_at (x ∷ l) zero h = Memᴰ.head refl
mem_at (x ∷ l) (suc i) h = Memᴰ.tail (mem_at l i (omega arith))

place : (x : ℕ) (l : List ℕ) → Memᴰ x l → (i : ℕ) × (i < length l) × (get_or l i 0 ≡ x)
place x [] m = absurd (Memᴰ.not-nil m)
place x (y ∷ l) m = ⊎_elim (λ e. (0, omega arith, sym e)) (λ k. let r = place x l k in (suc r.0, omega (arith, r.1), r.2)) (Memᴰ.cases_cons m)

module _ (w : ℕ → ℕ) where
  ordered : (k : ℕ) (left : ℕ → Bool) → Ordered w (by_weight k w left)
  unfolding by_weight
  ordered zero left = tt
  ordered (suc k) left = go (leads w left 16) (leads_are w left 16) (λ p. ordered k (without p left))
    where
      go : (o : Option ℕ) → Leads w left 16 o → ((p : ℕ) → Ordered w (by_weight k w (without p left))) → Ordered w (and_then o (λ p. by_weight k w (without p left)))
      go None s ih = tt
      go (Some p) s ih = ((λ x m. let r = only_of w k (without p left) x m in let t = without_in p left x r.1 in s.2 x r.0 t.1 t.0), ih p)

  -- as said of two places, and back
  pub in_order : (l : List ℕ) → Ordered w l → (i j : ℕ) → i < j → j < length l → Before w (get_or l i 0) (get_or l j 0)
  in_order [] o i j h m = absurd (omega arith)
  in_order (p ∷ l) o i zero h m = absurd (omega arith)
  in_order (p ∷ l) o zero (suc j) h m = o.0 (get_or l j 0) (mem_at l j (omega arith))
  in_order (p ∷ l) o (suc i) (suc j) h m = in_order l o.1 i j (omega arith) (omega arith)

  from_order : (l : List ℕ) → ((i j : ℕ) → i < j → j < length l → Before w (get_or l i 0) (get_or l j 0)) → Ordered w l
  from_order [] h = tt
  from_order (p ∷ l) h = (
    (λ x m. let r = place x l m in subst (Before w p) r.2 (h 0 (suc r.0) (omega arith) (omega (arith, r.1)))),
    from_order l (λ i j a b. h (suc i) (suc j) (omega arith) (omega arith)),
  )

  -- an ordered list of them is one by weight
  pub by_weight_lem : (left : ℕ → Bool) (l : List ℕ) → ((p : ℕ) → Memᴰ p l ↔ ((p < 16) × (left p ≡ true))) → Ordered w l → ByWeight w left l
  by_weight_lem left l is o = record {
    exactly = is;
    once = λ i j h m e. let k : w (get_or l i 0) ≡ w (get_or l j 0) = ap w e in omega (arith, e, (in_order l o i j h m).1 k);
    falls = λ i j h m. (in_order l o i j h m).0;
    ties = λ i j h m. (in_order l o i j h m).1;
  }

-- the same order by weights that are equal for those on the list
pub ordered_same : (w v : ℕ → ℕ) (l : List ℕ) → ((x : ℕ) → Memᴰ x l → w x ≡ v x) → Ordered v l → Ordered w l
ordered_same w v [] h o = tt
ordered_same w v (p ∷ l) h o = (
  (λ x m.
      let a = h p (Memᴰ.head refl) in
      let b = h x (Memᴰ.tail m) in
      let k = o.0 x m in
      (omega (arith, a, b, k.0), λ e. k.1 (sym a ∙ e ∙ b))),
  ordered_same w v l (λ x m. h x (Memᴰ.tail m)) o.1,
)

pub same_weights : (w v : ℕ → ℕ) (left : ℕ → Bool) (l : List ℕ) → ((x : ℕ) → Memᴰ x l → w x ≡ v x) → ByWeight v left l → ByWeight w left l
same_weights w v left l h s = by_weight_lem w left l s.exactly (ordered_same w v l h (from_order v l (λ i j a b. (s.falls i j a b, s.ties i j a b))))

-- "Within a constraint the larger withheld amount now comes first, equal ones by lower portfolio number."
pub sellers_by_weight : (w : ℕ → ℕ) (left : ℕ → Bool) → ByWeight w left (by_weight 16 w left)
sellers_by_weight w left = by_weight_lem w left (by_weight 16 w left) (λ p. (only_of w 16 left p, λ h. each_of w 16 left (size_most left 16) p h.0 h.1)) (ordered w 16 left)

-- ---- there is no other such order
module _ (w : ℕ → ℕ) where
  -- nothing comes before itself
  not_itself : (x : ℕ) (l : List ℕ) → ((z : ℕ) → Memᴰ z l → Before w x z) → Memᴰ x l → ⊥
  not_itself x l h m = omega (arith, (h x m).1 refl)

  not_both : (x y : ℕ) → Before w x y → Before w y x → ⊥
  not_both x y a b = let e : w x ≡ w y = omega (arith, a.0, b.0) in omega (arith, a.1 e, b.1 (sym e))

  other : (x y : ℕ) (l : List ℕ) → Memᴰ x (y ∷ l) → x ≢ y → Memᴰ x l
  other x y l m d = ⊎_elim (λ e. absurd (d e)) (λ k. k) (Memᴰ.cases_cons m)

  -- two ordered lists with the same portfolios
  one_order : (l m : List ℕ) → Ordered w l → Ordered w m → ((x : ℕ) → Memᴰ x l ↔ Memᴰ x m) → l ≡ m
  one_order [] [] o q h = refl
  one_order [] (y ∷ m) o q h = absurd (Memᴰ.not-nil ((h y).1 (Memᴰ.head refl)))
  one_order (x ∷ l) [] o q h = absurd (Memᴰ.not-nil ((h x).0 (Memᴰ.head refl)))
  one_order (x ∷ l) (y ∷ m) o q h = go (ℕ_discrete x y) (one_order l m o.1 q.1)
    where
      go : Dec (x ≡ y) → (((z : ℕ) → Memᴰ z l ↔ Memᴰ z m) → l ≡ m) → x ∷ l ≡ y ∷ m
      go (yes e) ih =
          ap₂ (λ (k : ℕ) (t : List ℕ). k ∷ t) e
          (ih (λ z. (
            (λ n. other z y m ((h z).0 (Memᴰ.tail n)) (λ f. not_itself x l o.0 (Memᴰ.cast (e ∙ sym f) n))),
            λ n. other z x l ((h z).1 (Memᴰ.tail n)) (λ f. not_itself y m q.0 (Memᴰ.cast (sym e ∙ sym f) n)),
          )))
      go (no d) ih =
          absurd (not_both x y (o.0 y (other y x l ((h y).1 (Memᴰ.head refl)) (λ e. d (sym e)))) (q.0 x (other x y m ((h x).0 (Memᴰ.head refl)) d)))

-- "Two printouts of one hour differed": no two orders are such
pub sellers_only : (w : ℕ → ℕ) (left : ℕ → Bool) (l : List ℕ) → ByWeight w left l → l ≡ by_weight 16 w left
sellers_only w left l s =
    one_order w l (by_weight 16 w left) (from_order w l (λ i j h m. (s.falls i j h m, s.ties i j h m))) (ordered w 16 left)
    (λ x. let t = (sellers_by_weight w left).exactly x in ((λ m. t.1 ((s.exactly x).0 m)), λ m. (s.exactly x).1 (t.0 m)))
