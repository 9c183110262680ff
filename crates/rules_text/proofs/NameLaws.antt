-- Laws of names lines: the wanted bytes compared one by one, and a table after its names. Assumes nothing.
use Rattle.std.specs.Prelude.{None, Some}
use Prim.Native.Nat.{ℕ, ◌+◌, ◌-◌, ◌≤◌, ◌<◌}
use Prim.Native.String.{String}
use mathlib.Core.Path.{◌≡◌, refl, sym, ap, ◌∙◌}
use mathlib.Core.List.{List, [], ◌∷◌}
use mathlib.Core.Bool.{Bool, true, false, cond}
use native.Mathlib.Omega.{arith}
use native.Mathlib.Numerals.{add-one}
use native.Mathlib.Nat.{add_assoc}
use borrow.Author.Tests.{eq-eqb, ne_eqb, eqb-true}
use Rattle.std.proofs.lemmas.Option.{none-some, same_Some}
use lib.Dec.{eqb}
use lib.ListN.{length, drop, take, get_or, drop_of_length-le, length-drop}
use Rattle.rules_number.proofs.OverLaws.{never}
use Rattle.rules_text.specs.Numbers.{Line, bytes, same, lines}
use Rattle.rules_text.specs.Tables.{Reader, faulty, headed}
use Rattle.rules_text.specs.Offsets.{names_at}
use Rattle.rules_text.proofs.ListLaws.{at_cons}
use Rattle.rules_text.proofs.LineLaws.{line, after, lines_cons, lines_after, next_lines}

-- whether a text begins with the bytes w
abbrev pub starts : List ℕ → List ℕ → Bool
starts [] t = true
starts (a ∷ w) [] = false
starts (a ∷ w) (b ∷ t) = cond (eqb a b) (starts w t) false

starts_take : (w t : List ℕ) → starts w t ≡ same w (take (length w) t)
starts_take [] t = refl
starts_take (a ∷ w) [] = refl
starts_take (a ∷ w) (b ∷ t) = ap (λ (x : Bool). cond (eqb a b) x false) (starts_take w t)

short_by : (d : Bool) (x : Bool) → x ≡ false → cond d x false ≡ false
short_by true x e = e
short_by false x e = refl

-- a text that is shorter than w
starts_short : (w t : List ℕ) → length t < length w → starts w t ≡ false
starts_short [] t h = absurd (omega arith)
starts_short (a ∷ w) [] h = refl
starts_short (a ∷ w) (b ∷ t) h = short_by (eqb a b) (starts w t) (starts_short w t (omega arith))

module _ (s : List ℕ) (at : ℕ) (w : List ℕ) where
  pub names_by : (b : Bool) → starts w (drop at s) ≡ b → cond b (Some (at + length w)) None ≡ names_at s at w
  unfolding names_at
  names_by b e = ap (λ (x : Bool). cond x (Some (at + length w)) None) (sym e ∙ starts_take w (drop at s))

  pub names_empty : length w ≡ 0 → Some at ≡ names_at s at w
  names_empty z = let n : at ≡ at + length w = omega arith in ap Some n ∙ names_by true (none w z)
    where
      none : (w : List ℕ) → length w ≡ 0 → starts w (drop at s) ≡ true
      none [] z = refl
      none (a ∷ w) z = absurd (omega arith)

  pub names_short : length s - at < length w → None ≡ names_at s at w
  names_short h = let d = length-drop at s in names_by false (starts_short w (drop at s) (omega arith))

  -- ---- the loop: the first i bytes agree
  module _ (i : ℕ) (inv : starts (drop i w) (drop (at + i) s) ≡ starts w (drop at s)) where
    pub names_all : length w ≤ i → i ≤ length w → Some (at + i) ≡ names_at s at w
    names_all h k =
        let n : at + i ≡ at + length w = omega arith in
        ap Some n ∙ names_by true (sym inv ∙ ap (λ (l : List ℕ). starts l (drop (at + i) s)) (drop_of_length-le w h))

    module _ (there : i < length w) (here : at + i < length s) where
      step_as : (b : Bool) → eqb (get_or w i 0) (get_or s (at + i) 0) ≡ b → starts (drop i w) (drop (at + i) s) ≡ cond b (starts (drop (i + 1) w) (drop (at + i + 1) s)) false
      step_as b e =
          ap (λ (l : List ℕ). starts l (drop (at + i) s)) (at_cons 0 w i there)
          ∙ ap (starts (get_or w i 0 ∷ drop (i + 1) w)) (at_cons 0 s (at + i) here)
          ∙ ap (λ (x : Bool). cond x (starts (drop (i + 1) w) (drop (at + i + 1) s)) false) e

      pub names_other : (get_or s (at + i) 0 ≡ get_or w i 0 → ⊥) → None ≡ names_at s at w
      names_other h = names_by false (sym inv ∙ step_as false (ne_eqb (get_or w i 0) (get_or s (at + i) 0) (λ e. h (sym e))))

      pub names_more : get_or s (at + i) 0 ≡ get_or w i 0 → starts (drop (i + 1) w) (drop (at + (i + 1)) s) ≡ starts w (drop at s)
      names_more e =
          ap (λ (n : ℕ). starts (drop (i + 1) w) (drop n s)) (sym (add_assoc at i 1))
          ∙ sym (step_as true (eq-eqb (get_or w i 0) (get_or s (at + i) 0) (sym e))) ∙ inv

-- ---- one line, with the byte 10 that closes it
abbrev empty : List ℕ → Bool
empty [] = true
empty (b ∷ t) = false

abbrev pub is_line : List ℕ → Bool
is_line [] = false
is_line (b ∷ t) = cond (eqb b 10) (empty t) (is_line t)

nothing : (w : List ℕ) → empty w ≡ true → w ≡ []
nothing [] e = refl
nothing (a ∷ w) e = never e

line_by : (a b : ℕ) (w t : List ℕ) (p q : Bool) → eqb a b ≡ p → eqb a 10 ≡ q → cond q (empty w) (is_line w) ≡ true → (is_line w ≡ true → starts w t ≡ same w (line t))
    → cond p (starts w t) false ≡ cond p (same w (cond (eqb b 10) [] (line t))) false
line_by a b w t false q e f h ih = refl
line_by a b w t true true e f h ih =
    let n : eqb b 10 ≡ true = ap (λ (x : ℕ). eqb x 10) (sym (eqb-true a b e)) ∙ f in
    let z = nothing w h in
    ap (λ (l : List ℕ). starts l t) z ∙ sym (ap (λ (x : Bool). same w (cond x [] (line t))) n ∙ ap (λ (l : List ℕ). same l []) z)
line_by a b w t true false e f h ih =
    let n : eqb b 10 ≡ false = ap (λ (x : ℕ). eqb x 10) (sym (eqb-true a b e)) ∙ f in
    ih h ∙ sym (ap (λ (x : Bool). same w (cond x [] (line t))) n)

-- a text that begins with a line has it as its first line
pub starts_line : (w t : List ℕ) → is_line w ≡ true → starts w t ≡ same w (line t)
starts_line [] t h = never h
starts_line (a ∷ w) [] h = refl
starts_line (a ∷ w) (b ∷ t) h = line_by a b w t (eqb a b) (eqb a 10) refl refl h (starts_line w t)

same_by : (a b : ℕ) (s t : Line) (d : Bool) → eqb a b ≡ d → cond d (same s t) false ≡ true → (same s t ≡ true → s ≡ t) → a ∷ s ≡ b ∷ t
same_by a b s t true e h ih = ap (λ (x : ℕ). x ∷ s) (eqb-true a b e) ∙ ap (λ (l : List ℕ). b ∷ l) (ih h)
same_by a b s t false e h ih = never h

pub same_eq : (s t : Line) → same s t ≡ true → s ≡ t
same_eq [] [] e = refl
same_eq [] (b ∷ t) e = never e
same_eq (a ∷ s) [] e = never e
same_eq (a ∷ s) (b ∷ t) e = same_by a b s t (eqb a b) refl e (same_eq s t)

-- ---- a table after its names
module _ {A : Type 0} (names : String) (values : Reader A) (n : ℕ) where
  headed_by : (t : List ℕ) (b : Bool) → same (bytes names) (line t) ≡ b → (t ≡ [] → b ≡ false) → headed names values n (lines t) ≡ cond b (values (n + 1) (lines (after t))) (faulty (n + 1))
  unfolding headed
  headed_by [] true e h = never (sym (h refl))
  headed_by [] false e h = rw add-one refl
  headed_by (b ∷ t) d e h = rw (lines_cons b t, e, add-one) refl

  module _ (s : List ℕ) (at : ℕ) (w : is_line (bytes names) ≡ true) where
    found_by : (b : Bool) → same (bytes names) (line (drop at s)) ≡ b → cond b (Some (at + length (bytes names))) None ≡ names_at s at (bytes names)
    found_by b e = names_by s at (bytes names) b (starts_line (bytes names) (drop at s) w ∙ e)

    at_end : (b : Bool) → same (bytes names) (line (drop at s)) ≡ b → drop at s ≡ [] → b ≡ false
    at_end b e z = sym e ∙ ap (λ (t : List ℕ). same (bytes names) (line t)) z ∙ no_line (bytes names) w
      where
        no_line : (l : Line) → is_line l ≡ true → same l [] ≡ false
        no_line [] h = never h
        no_line (a ∷ l) h = refl

    -- another line, or none, stands in its place
    pub not_headed : None ≡ names_at s at (bytes names) → headed names values n (lines (drop at s)) ≡ faulty (n + 1)
    not_headed e = go (same (bytes names) (line (drop at s))) refl
      where
        go : (b : Bool) → same (bytes names) (line (drop at s)) ≡ b → headed names values n (lines (drop at s)) ≡ faulty (n + 1)
        go true q = absurd (none-some (at + length (bytes names)) (e ∙ sym (found_by true q)))
        go false q = headed_by (drop at s) false q (at_end false q)

    -- past the names, at q
    pub past_names : (q : ℕ) → Some q ≡ names_at s at (bytes names) → headed names values n (lines (drop at s)) ≡ values (n + 1) (lines (drop q s))
    past_names q e = go (same (bytes names) (line (drop at s))) refl
      where
        go : (b : Bool) → same (bytes names) (line (drop at s)) ≡ b → headed names values n (lines (drop at s)) ≡ values (n + 1) (lines (drop q s))
        go false h = absurd (none-some q (found_by false h ∙ sym e))
        go true h =
            let m : q ≡ at + length (bytes names) = same_Some q (at + length (bytes names)) (e ∙ sym (found_by true h)) in
            let l : q ≡ at + length (line (drop at s)) = m ∙ ap (λ (x : Line). at + length x) (same_eq (bytes names) (line (drop at s)) h) in
            headed_by (drop at s) true h (at_end true h) ∙ ap (values (n + 1)) (lines_after (drop at s) ∙ sym (next_lines s at q l))
