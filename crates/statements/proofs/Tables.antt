-- Paper 01, Text: the ten tables, their names lines and columns, and which value each becomes. Assumes nothing.
use Rattle.std.specs.Prelude.{None, Option, Some}
use mathlib.Core.Bool.{Bool, true, false, ◌&&◌}
use mathlib.Core.List.Memᴰ
use mathlib.Core.List.{List, [], ◌∷◌, ◌++◌, map, Memᴰ}
use mathlib.Core.Logic.{◌⊎◌, inl, inr, ⊎_elim}
use mathlib.Core.Path.{◌≡◌, refl, sym, ap, ap₂, ◌∙◌}
use Prim.Native.Nat.{ℕ, suc, ◌+◌, ◌*◌, ◌/◌, ◌%◌, ◌<◌}
use native.Mathlib.Omega.{arith}
use borrow.Author.Tests.{eqb-true, eq-eqb}
use lib.Dec.{eqb}
use lib.IntN.{ℤ, pos}
use lib.ListN.{length, get_or, take}
use Rattle.rules_number.specs.Over.{listed, padded}
use Rattle.rules_number.proofs.OverLaws.{listed_at}
use Rattle.rules_curve.specs.declared.RawStep.{RawStep}
use Rattle.rules_cost.specs.declared.Point.{Point}
use Rattle.rules_opening.specs.declared.Source.TheVariants as source
use Rattle.rules_opening.specs.declared.Resource.{Resource}
use Rattle.rules_text.specs.Numbers.{Line}
use Rattle.rules_text.specs.Spelled.{together, counted_rows}
use Rattle.rules_parts.specs.Texts.{GivenResource, GivenOpening, GivenFactor, GivenInterval, opening_lines, opening_text, opening_is, resource_is, interval_lines, interval_text, interval_is, parameter_line, parameter_is, factor_of}
use Rattle.statements.proofs.Plain.{Padded, Joined, Ascii, LineOf, Counted, Grouped, line_is, lines_are, grouped_is}

-- "Each table is a line of names, then lines of values in that order"
abbrev table : Line → List (List ℤ) → List Line
table names rows = names ∷ map LineOf rows

-- ---- an opening's six tables
pub opening_tables : (o : GivenOpening) → opening_lines o
    ≡ table (Ascii "month\n") ((o.month ∷ []) ∷ [])
    ++ (table (Ascii "portfolio seller\n") (Counted (λ s. s ∷ []) 0 o.sellers)
    ++ (table (Ascii "resource portfolio start\n") (Counted (λ r. r.portfolio ∷ r.start ∷ []) 0 o.resources)
    ++ (table (Ascii "resource end price\n") (Grouped (λ r. map (λ s. s.end ∷ s.price ∷ []) r.steps) 0 o.resources)
    ++ (table (Ascii "resource mw heat\n") (Grouped (λ r. map (λ p. p.mw ∷ p.heat ∷ []) r.points) 0 o.resources)
    ++ table (Ascii "resource gas rate allowance om msc soc fee\n") (Counted (λ r. r.gas ∷ r.rate ∷ r.allowance ∷ r.om ∷ r.msc ∷ r.soc ∷ r.fee ∷ []) 0 o.resources)))))
unfolding opening_lines counted_rows Counted
opening_tables o = simp (lines_are, line_is, grouped_is) refl

-- ---- and its values
abbrev no_step : RawStep
no_step = record { end = pos 0; price = pos 0 }

abbrev no_point : Point
no_point = record { mw = pos 0; heat = pos 0 }

-- counts are those of the lines, however many; an array of n cells has the first n lines, and b in each cell past them
abbrev pub array : {A : Type 0} → ℕ → A → List A → List A
array n b l = Padded n b (take n l)

pub resource_values : (r : GivenResource) → resource_is r ≡ record {
  portfolio = r.portfolio;
  bid = record { start = r.start; count = length r.steps; steps = array 11 no_step r.steps };
  source = source.Costs;
  costs = record {
    count = length r.points;
    points = array 11 no_point r.points;
    gas = r.gas;
    rate = r.rate;
    allowance = r.allowance;
    om = r.om;
    msc = r.msc;
    soc = r.soc;
    fee = r.fee;
  };
  pack = record { start = pos 0; count = 0; steps = array 11 no_step [] };
}
unfolding padded
resource_values r = refl

pub opening_values : (o : GivenOpening)
    → ((opening_is o).month ≡ o.month) × ((opening_is o).portfolios ≡ length o.sellers) × ((opening_is o).sellers ≡ array 16 (pos 0) o.sellers)
    × ((opening_is o).resources ≡ length o.resources) × ((b : Resource) × ((opening_is o).list ≡ array 64 b (map resource_is o.resources)))
unfolding opening_is padded
opening_values o = (refl, refl, refl, refl, (_, refl))

-- ---- an interval's four tables: "Parameter "-" alone is missing", and by paper 02, 2.5, "Missing now means 0"
pub interval_tables : (i : GivenInterval) → (line : Line) → (i.parameter ≡ None → line ≡ Ascii "-\n") → ((z : ℤ) → i.parameter ≡ Some z → line ≡ LineOf (z ∷ []))
    → interval_lines i
    ≡ table (Ascii "constraint shadow\n") (Counted (λ s. s ∷ []) 0 i.shadows)
    ++ (table (Ascii "resource lmp dispatch available floor\n") (Counted (λ x. x.lmp ∷ x.dispatch ∷ x.available ∷ x.floor ∷ []) 0 i.outputs)
    ++ (table (Ascii "resource constraint factor\n") (map (λ f. pos f.resource ∷ pos f.constraint ∷ f.factor ∷ []) i.factors)
    ++ (Ascii "parameter\n" ∷ line ∷ [])))
unfolding interval_lines counted_rows Counted
interval_tables i line missing there = rw (is i.parameter missing there) (simp lines_are refl)
  where
    is : (p : Option ℤ) → (p ≡ None → line ≡ Ascii "-\n") → ((z : ℤ) → p ≡ Some z → line ≡ LineOf (z ∷ [])) → line ≡ parameter_line p
    is None m t = m refl
    is (Some z) m t = t z refl ∙ sym (line_is (z ∷ []))

-- ---- and its values: the factor of resource r and constraint c stands at r × 32 + c, "an absent one is 0"
pub interval_values : (i : GivenInterval)
    → ((interval_is i).constraints ≡ length i.shadows) × ((interval_is i).shadow ≡ array 32 (pos 0) i.shadows)
    × ((interval_is i).resources ≡ length i.outputs)
    × ((interval_is i).lmp ≡ array 64 (pos 0) (map (λ x. x.lmp) i.outputs))
    × ((interval_is i).dispatch ≡ array 64 (pos 0) (map (λ x. x.dispatch) i.outputs))
    × ((interval_is i).available ≡ array 64 (pos 0) (map (λ x. x.available) i.outputs))
    × ((interval_is i).floor ≡ array 64 (pos 0) (map (λ x. x.floor) i.outputs))
    × (i.parameter ≡ None → (interval_is i).parameter ≡ pos 0)
    × ((z : ℤ) → i.parameter ≡ Some z → (interval_is i).parameter ≡ z)
unfolding interval_is padded
interval_values i = (refl, refl, refl, refl, refl, refl, refl, (λ e. ap parameter_is e), λ z e. ap parameter_is e)

-- the texts are those lines, one after another
pub texts : (o : GivenOpening) (i : GivenInterval) → (opening_text o ≡ Joined (opening_lines o)) × (interval_text i ≡ Joined (interval_lines i))
unfolding opening_text interval_text together Joined
texts o i = (refl, refl)

abbrev pub no_factor : GivenFactor
no_factor = record { resource = 0; constraint = 0; factor = pos 0 }

abbrev pub factor_at : List GivenFactor → ℕ → GivenFactor
factor_at l i = get_or l i no_factor

-- "Factors strictly rise by (resource, constraint)"
abbrev pub Less : GivenFactor → GivenFactor → Type 0
Less f g = (f.resource < g.resource) ⊎ ((f.resource ≡ g.resource) × (f.constraint < g.constraint))

abbrev pub Rises : List GivenFactor → Type 0
Rises l = (i : ℕ) → suc i < length l → Less (factor_at l i) (factor_at l (suc i))

less_trans : (f g h : GivenFactor) → Less f g → Less g h → Less f h
less_trans f g h (inl a) (inl b) = inl (omega arith)
less_trans f g h (inl a) (inr b) = inl (omega (arith, b.0))
less_trans f g h (inr a) (inl b) = inl (omega (arith, a.0))
less_trans f g h (inr a) (inr b) = inr (a.0 ∙ b.0, omega (arith, a.1, b.1))

later : (f : GivenFactor) (l : List GivenFactor) → Rises (f ∷ l) → (g : GivenFactor) → Memᴰ g l → Less f g
later f [] h g m = absurd (Memᴰ.not-nil m)
later f (x ∷ l) h g m = ⊎_elim
    (λ q. rw q (h 0 (omega arith)))
    (λ n. less_trans f x g (h 0 (omega arith)) (later x l (λ i k. h (suc i) (omega arith)) g n))
    (Memᴰ.cases_cons m)

module _ (r c : ℕ) where
  abbrev At : GivenFactor → Type 0
  At f = (f.resource ≡ r) × (f.constraint ≡ c)

  found_first : (f : GivenFactor) (l : List GivenFactor) → At f → factor_of (f ∷ l) r c ≡ f.factor
  unfolding factor_of
  found_first f l e = rw (eq-eqb f.resource r e.0, eq-eqb f.constraint c e.1)

  found_later : (f : GivenFactor) (l : List GivenFactor) → (At f → ⊥) → factor_of (f ∷ l) r c ≡ factor_of l r c
  unfolding factor_of
  found_later f l n = rw (not_both (eqb f.resource r) (eqb f.constraint c) (λ a b. n (eqb-true f.resource r a, eqb-true f.constraint c b)))
    where
      not_both : (a b : Bool) → (a ≡ true → b ≡ true → ⊥) → (a && b) ≡ false
      not_both true true h = absurd (h refl refl)
      not_both true false h = refl
      not_both false b h = refl

  found_none : (l : List GivenFactor) → ((f : GivenFactor) → Memᴰ f l → At f → ⊥) → factor_of l r c ≡ pos 0
  unfolding factor_of
  found_none [] h = refl
  found_none (f ∷ l) h = found_later f l (h f (Memᴰ.head refl)) ∙ found_none l (λ g m. h g (Memᴰ.tail m))

  found_there : (l : List GivenFactor) → Rises l → (f : GivenFactor) → Memᴰ f l → At f → factor_of l r c ≡ f.factor
  found_there [] h f m e = absurd (Memᴰ.not-nil m)
  found_there (g ∷ l) h f m e = ⊎_elim
      (λ q. rw (← q) (found_first f l e))
      (λ n. found_later g l (λ d. ⊎_elim (λ b. omega (arith, d.0, e.0)) (λ b. omega (arith, b.1, d.1, e.1)) (later g l h f n)) ∙ found_there l (λ i k. h (suc i) (omega arith)) f n e)
      (Memᴰ.cases_cons m)

pub factor_values : (i : GivenInterval) → Rises i.factors → (r c : ℕ) → r < 64 → c < 32
    → ((f : GivenFactor) → Memᴰ f i.factors → At r c f → get_or (interval_is i).factors (r * 32 + c) (pos 0) ≡ f.factor)
    × (((f : GivenFactor) → Memᴰ f i.factors → At r c f → ⊥) → get_or (interval_is i).factors (r * 32 + c) (pos 0) ≡ pos 0)
unfolding interval_is
factor_values i h r c low high =
    let x : (r * 32 + c) / 32 ≡ r = omega arith in
    let y : (r * 32 + c) % 32 ≡ c = omega arith in
    let e : get_or (listed (λ q. factor_of i.factors (q / 32) (q % 32)) 2048) (r * 32 + c) (pos 0) ≡ factor_of i.factors r c =
    listed_at (λ q. factor_of i.factors (q / 32) (q % 32)) (pos 0) 2048 (r * 32 + c) (omega arith) ∙ ap₂ (factor_of i.factors) x y in
    ((λ f m a. e ∙ found_there r c i.factors h f m a), λ n. e ∙ found_none r c i.factors n)
