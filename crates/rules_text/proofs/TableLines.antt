-- What a printed table is, in paper 01's words: "Each accepted interval, counted from 1, prints its three tables"; "constraints and resources rise". Assumes nothing.
use Prim.Native.Nat.{ℕ, zero, suc, ◌+◌, ◌<◌}
use mathlib.Core.Path.{◌≡◌, refl, ap, ap₂, ◌∙◌}
use mathlib.Core.List.{List, [], ◌∷◌, ◌++◌, map}
use native.Mathlib.Omega.{arith}
use lib.IntN.{pos}
use lib.ListN.{length, get_or}
use Rattle.rules_number.specs.Over.{listed}
use Rattle.rules_number.proofs.ListedLaws.{listed_is}
use Rattle.rules_text.specs.Numbers.{Row}
use Rattle.rules_text.specs.Printing.{line_text, group_text, table_text}
use Rattle.rules_text.specs.Spelled.{together}

-- the lines of constraint or resource c in a table of interval i: each begins with i and c
abbrev pub own : ℕ → ℕ → List Row → List ℕ
own i c g = together (map (λ x. line_text (pos i ∷ pos c ∷ x)) g)

own_is : (i c : ℕ) (g : List Row) → group_text i c g ≡ own i c g
unfolding group_text together
own_is i c [] = refl
own_is i c (x ∷ g) = ap (λ (t : List ℕ). line_text (pos i ∷ pos c ∷ x) ++ t) (own_is i c g)

-- the lines of each from c on
from : ℕ → ℕ → List (List Row) → List (List ℕ)
from i c [] = []
from i c (g ∷ gs) = own i c g ∷ from i (suc c) gs

from_is : (i c : ℕ) (gs : List (List Row)) → table_text i c gs ≡ together (from i c gs)
unfolding table_text together from
from_is i c [] = refl
from_is i c (g ∷ gs) = ap₂ (λ (s t : List ℕ). s ++ t) (own_is i c g) (from_is i (suc c) gs)

many : (i c : ℕ) (gs : List (List Row)) → length (from i c gs) ≡ length gs
unfolding from
many i c [] = refl
many i c (g ∷ gs) = ap suc (many i (suc c) gs)

at : (i c : ℕ) (gs : List (List Row)) (k n : ℕ) → n ≡ c + k → k < length gs → get_or (from i c gs) k [] ≡ own i n (get_or gs k [])
unfolding from
at i c [] k n e h = absurd (omega arith)
at i c (g ∷ gs) zero n e h = let z : c ≡ n = omega arith in ap (λ (m : ℕ). own i m g) z
at i c (g ∷ gs) (suc k) n e h = at i (suc c) gs k n (omega arith) (omega arith)

-- the lines of 0, 1, 2, .. in order, each with the interval's number and its own, those without a line too
pub table_lines_lem : (i : ℕ) (gs : List (List Row)) → table_text i 0 gs ≡ together (listed (λ c. own i c (get_or gs c [])) (length gs))
table_lines_lem i gs = from_is i 0 gs ∙ ap together (listed_is [] (from i 0 gs) (λ c. own i c (get_or gs c [])) (length gs) (many i 0 gs) (λ c h. at i 0 gs c c (omega arith) h))
