-- The first faulty line: one law for each way in which readers are put together. Assumes nothing.
use Prim.Native.Nat.{ℕ, suc, ◌+◌}
use mathlib.Core.Path.{◌≡◌, refl, sym, ap, subst, ◌∙◌}
use mathlib.Core.List.{List, [], ◌∷◌, ◌++◌, append_assoc}
use mathlib.Core.Logic.{◌⊎◌, inr}
use native.Mathlib.Omega.{arith}
use native.Mathlib.Nat.{add-zero}
use lib.ListN.{length, get_or, length-append}
use Rattle.rules_text.specs.Numbers.{Line}
use Rattle.rules_text.specs.Tables.{Reader, Reading, found, faulty, next, ◌▷◌}
use Rattle.rules_text.proofs.ReaderLaws.{Names}

-- ---- lines that a table that ends before them cannot tell from others: they begin alike, or with no row
abbrev pub Alike : List Line → List Line → Type 0
Alike ls ls' = Names ls' ⊎ (get_or ls 0 [] ≡ get_or ls' 0 [])

pub alike_after : (pre ls ls' : List Line) → Alike ls ls' → Alike (pre ++ ls) (pre ++ ls')
alike_after [] ls ls' h = h
alike_after (l ∷ pre) ls ls' h = inr refl

pub alike_same : (pre : List Line) (l : Line) (ls ls' : List Line) → Alike (pre ++ (l ∷ ls)) (pre ++ (l ∷ ls'))
alike_same pre l ls ls' = alike_after pre (l ∷ ls) (l ∷ ls') (inr refl)

-- ---- what is read depends on its own lines
pub record Locally {A : Type 0} (r : Reader A) (Q : A → Type 0) (n : ℕ) (ls : List Line) (a : A) (n' : ℕ) (ls' : List Line) : Type 0 where
  pub pre : List Line
  pub is : ls ≡ pre ++ ls'
  pub count : n' ≡ n + length pre
  pub good : Q a
  pub local : (other : List Line) → Alike ls' other → r n (pre ++ other) ≡ found a n' other

abbrev pub Local : {A : Type 0} → Reader A → (A → Type 0) → Type 0
Local {A} r Q = (n : ℕ) (ls : List Line) (a : A) (n' : ℕ) (ls' : List Line) → r n ls ≡ found a n' ls' → Locally r Q n ls a n' ls'

-- ---- lines that are read, before any that begin with no row
pub record Possible {A : Type 0} (r : Reader A) (Q : A → Type 0) : Type 0 where
  pub ls : List Line
  pub value : A
  pub good : Q value
  pub reads : (n : ℕ) (rest : List Line) → Names rest → r n (ls ++ rest) ≡ found value (n + length ls) rest

-- ---- the first faulty line, where the lines before it are completed before any that begin with no row
pub record Fault {A : Type 0} (r : Reader A) (Q : A → Type 0) (n : ℕ) (ls : List Line) (line : ℕ) : Type 0 where
  pub start : List Line
  pub left : List Line
  pub is : ls ≡ start ++ left
  pub number : line ≡ suc (n + length start)
  pub never : (l : Line) (tail : List Line) → left ≡ l ∷ tail → (others : List Line) → r n (start ++ (l ∷ others)) ≡ faulty line
  pub more : List Line
  pub part : A
  pub good : Q part
  pub whole : (rest : List Line) → Names rest → r n (start ++ (more ++ rest)) ≡ found part (n + length (start ++ more)) rest

-- of a table's values
pub record Inner {A : Type 0} (r : Reader A) (Q : A → Type 0) : Type 0 where
  pub local : Local r Q
  pub possible : Possible r Q
  pub fault : (n : ℕ) (ls : List Line) (line : ℕ) → r n ls ≡ faulty line → Fault r Q n ls line

-- of tables with their names
pub record OuterFault {A : Type 0} (r : Reader A) (Q : A → Type 0) (n : ℕ) (ls : List Line) (line : ℕ) : Type 0 where
  pub fault : Fault r Q n ls line
  pub alike : (rest : List Line) → Names rest → Alike ls (fault.start ++ (fault.more ++ rest))

pub record Outer {A : Type 0} (r : Reader A) (Q : A → Type 0) : Type 0 where
  pub local : Local r Q
  pub possible : Possible r Q
  pub names : (rest : List Line) → Names rest → Names (possible.ls ++ rest)
  pub fault : (n : ℕ) (ls : List Line) (line : ℕ) → r n ls ≡ faulty line → OuterFault r Q n ls line

no : {X : Type 0} → ◌≡◌ {A = ℕ} 0 1 → X
no e = absurd (omega arith)

-- ---- nothing more to read
pub found_outer : {A : Type 0} (a : A) (Q : A → Type 0) → Q a → Outer (found a) Q
found_outer {A} a Q q = record {
  local = λ n ls b n' ls' e.
      let p : a ≡ b = cc in
      let c : n ≡ n' = cc in
      let t : ls ≡ ls' = cc in
      record { pre = []; is = t; count = sym c ∙ sym (add-zero n); good = subst Q p q; local = λ other h. ap (λ (x : A). found x n other) p ∙ ap (λ (k : ℕ). found b k other) c };
  possible = record { ls = []; value = a; good = q; reads = λ n rest h. ap (λ (k : ℕ). found a k rest) (sym (add-zero n)) };
  names = λ rest h. h;
  fault = λ n ls line e. no (cc);
}

-- ---- one after another
module _ {A B : Type 0} (m : Reader A) (f : A → Reader B) (Q : A → Type 0) (R : B → Type 0) where
  local_by : Local m Q → ((a : A) → Q a → Local (f a) R) → (n : ℕ) (ls : List Line) (b : B) (n' : ℕ) (ls' : List Line) (x : Reading A) → m n ls ≡ x → next x f ≡ found b n' ls' → Locally (m ▷ f) R n ls b n' ls'
  local_by p q n ls b n' ls' (faulty line) e h = no (cc)
  local_by p q n ls b n' ls' (found a n1 ls1) e h =
      let L = p n ls a n1 ls1 e in
      let M = q a L.good n1 ls1 b n' ls' h in
      record {
        pre = L.pre ++ M.pre;
        is = L.is ∙ ap (λ (t : List Line). L.pre ++ t) M.is ∙ sym (append_assoc L.pre M.pre ls');
        count = let k = length-append L.pre M.pre in omega (arith, L.count, M.count);
        good = M.good;
        local = λ other w.
            ap (λ (t : List Line). next (m n t) f) (append_assoc L.pre M.pre other)
            ∙ ap (λ (y : Reading A). next y f) (L.local (M.pre ++ other) (subst (λ (t : List Line). Alike t (M.pre ++ other)) (sym M.is) (alike_after M.pre ls' other w)))
            ∙ M.local other w;
      }

  pub then_local : Local m Q → ((a : A) → Q a → Local (f a) R) → Local (m ▷ f) R
  then_local p q n ls b n' ls' h = local_by p q n ls b n' ls' (m n ls) refl h

  module _ (p : Outer m Q) (q : (a : A) → Q a → Outer (f a) R) where
    possible : Possible (m ▷ f) R
    possible =
        let P = p.possible in
        let S = q P.value P.good in
        let T = S.possible in
        record {
          ls = P.ls ++ T.ls;
          value = T.value;
          good = T.good;
          reads = λ n rest h.
              let e : n + length P.ls + length T.ls ≡ n + length (P.ls ++ T.ls) = let l = length-append P.ls T.ls in omega arith in
              ap (λ (t : List Line). next (m n t) f) (append_assoc P.ls T.ls rest) ∙ ap (λ (x : Reading A). next x f) (P.reads n (T.ls ++ rest) (S.names rest h))
              ∙ T.reads (n + length P.ls) rest h ∙ ap (λ (k : ℕ). found T.value k rest) e;
        }

    names : (rest : List Line) → Names rest → Names (possible.ls ++ rest)
    unfolding possible
    names rest h =
        let P = p.possible in
        let S = q P.value P.good in
        subst Names (sym (append_assoc P.ls S.possible.ls rest)) (p.names (S.possible.ls ++ rest) (S.names rest h))

    -- the first refuses
    fault_one : (n : ℕ) (ls : List Line) (line : ℕ) → m n ls ≡ faulty line → OuterFault (m ▷ f) R n ls line
    fault_one n ls line e =
        let O = p.fault n ls line e in
        let F = O.fault in
        let S = q F.part F.good in
        let T = S.possible in
        let join : (rest : List Line) → F.start ++ ((F.more ++ T.ls) ++ rest) ≡ F.start ++ (F.more ++ (T.ls ++ rest)) = λ rest. ap (λ (t : List Line). F.start ++ t) (append_assoc F.more T.ls rest) in
        let size : n + length (F.start ++ F.more) + length T.ls ≡ n + length (F.start ++ (F.more ++ T.ls)) =
        omega (arith, length-append (F.start ++ F.more) T.ls, ap length (append_assoc F.start F.more T.ls)) in
        record {
          fault = record {
            start = F.start;
            left = F.left;
            is = F.is;
            number = F.number;
            never = λ l tail w others. ap (λ (x : Reading A). next x f) (F.never l tail w others);
            more = F.more ++ T.ls;
            part = T.value;
            good = T.good;
            whole = λ rest h.
                ap (λ (t : List Line). next (m n t) f) (join rest) ∙ ap (λ (x : Reading A). next x f) (F.whole (T.ls ++ rest) (S.names rest h))
                ∙ T.reads (n + length (F.start ++ F.more)) rest h ∙ ap (λ (k : ℕ). found T.value k rest) size;
          };
          alike = λ rest h. subst (Alike ls) (sym (join rest)) (O.alike (T.ls ++ rest) (S.names rest h));
        }

    -- the other does
    fault_two : (n : ℕ) (ls : List Line) (line : ℕ) (a : A) (n1 : ℕ) (ls1 : List Line) → m n ls ≡ found a n1 ls1 → f a n1 ls1 ≡ faulty line → OuterFault (m ▷ f) R n ls line
    fault_two n ls line a n1 ls1 e h =
        let L = p.local n ls a n1 ls1 e in
        let O = (q a L.good).fault n1 ls1 line h in
        let F = O.fault in
        let through : (t : List Line) → Alike ls1 t → (m ▷ f) n (L.pre ++ t) ≡ f a n1 t = λ t w. ap (λ (x : Reading A). next x f) (L.local t w) in
        record {
          fault = record {
            start = L.pre ++ F.start;
            left = F.left;
            is = L.is ∙ ap (λ (t : List Line). L.pre ++ t) F.is ∙ sym (append_assoc L.pre F.start F.left);
            number = let k = length-append L.pre F.start in omega (arith, F.number, L.count);
            never = λ l tail w others.
                ap ((m ▷ f) n) (append_assoc L.pre F.start (l ∷ others))
                ∙ through (F.start ++ (l ∷ others)) (subst (λ (t : List Line). Alike t (F.start ++ (l ∷ others))) (sym (F.is ∙ ap (λ (t : List Line). F.start ++ t) w)) (alike_same F.start l tail others))
                ∙ F.never l tail w others;
            more = F.more;
            part = F.part;
            good = F.good;
            whole = λ rest w.
                let size : n1 + length (F.start ++ F.more) ≡ n + length ((L.pre ++ F.start) ++ F.more) =
                omega (arith, L.count, ap length (append_assoc L.pre F.start F.more), length-append L.pre (F.start ++ F.more)) in
                ap ((m ▷ f) n) (append_assoc L.pre F.start (F.more ++ rest)) ∙ through (F.start ++ (F.more ++ rest)) (O.alike rest w)
                ∙ F.whole rest w ∙ ap (λ (k : ℕ). found F.part k rest) size;
          };
          alike = λ rest w.
              subst (Alike ls) (sym (append_assoc L.pre F.start (F.more ++ rest)))
              (subst (λ (t : List Line). Alike t (L.pre ++ (F.start ++ (F.more ++ rest)))) (sym L.is) (alike_after L.pre ls1 (F.start ++ (F.more ++ rest)) (O.alike rest w)));
        }

    fault_by : (n : ℕ) (ls : List Line) (line : ℕ) (x : Reading A) → m n ls ≡ x → next x f ≡ faulty line → OuterFault (m ▷ f) R n ls line
    fault_by n ls line (faulty k) e h = fault_one n ls line (e ∙ h')
      where
        h' : ◌≡◌ {A = Reading A} (faulty k) (faulty line)
        h' = let q : k ≡ line = cc in ap faulty q
    fault_by n ls line (found a n1 ls1) e h = fault_two n ls line a n1 ls1 e h

    pub then_outer : Outer (m ▷ f) R
    then_outer = record {
      local = then_local p.local (λ a g. (q a g).local);
      possible = possible;
      names = names;
      fault = λ n ls line h. fault_by n ls line (m n ls) refl h;
    }
