-- Paper 01, Text: the text of an opening and of an interval is read as its values, no other text is read, and the line of 17 is the first faulty one. Assumes nothing.
use Rattle.std.specs.Prelude.{Some}
use mathlib.Core.List.{List, [], ◌∷◌, ◌++◌, Memᴰ}
use mathlib.Core.Logic.{◌↔◌}
use mathlib.Core.Path.{◌≡◌}
use Prim.Native.Nat.{ℕ, zero, suc, ◌+◌, ◌^◌, ◌≤◌, ◌<◌}
use native.Mathlib.Omega.{arith}
use lib.IntN.{ℤ}
use lib.ListN.{length}
use Rattle.rules_curve.specs.declared.RawStep.{RawStep}
use Rattle.rules_cost.specs.declared.Point.{Point}
use Rattle.rules_interval.specs.declared.Interval.{Interval}
use Rattle.rules_opening.specs.declared.Opening.{Opening}
use Rattle.rules_text.specs.Numbers.{Line, lines}
use Rattle.rules_text.specs.Tables.{Reader, found, faulty}
use Rattle.rules_text.specs.Spelled.{Small, Every, no_more, and_all, together}
use Rattle.rules_parts.specs.Parts.{read_opening, read_interval}
use Rattle.rules_parts.specs.Faults.{First}
use Rattle.rules_parts.specs.Texts.{GivenResource, GivenOpening, GivenOutput, GivenFactor, GivenInterval, opening_lines, opening_text, opening_is, interval_lines, interval_text, interval_is, ResourceSmall, OpeningSmall, FactorFits, Rising, empty, single, next, IntervalSmall}
use Rattle.rules_parts.proofs.OpeningBack.{opening_back}
use Rattle.rules_parts.proofs.IntervalBack.{interval_back}
use Rattle.rules_parts.proofs.Meaning.{opening_meant, interval_meant}
use Rattle.rules_parts.proofs.FirstFault.{opening_first, interval_first}
use Rattle.statements.proofs.Texts.{Twelve, each, twelve}
use Rattle.statements.proofs.Tables.{Rises}

-- ---- an opening whose numbers have at most 12 digits
abbrev SmallResource : GivenResource → Type 0
SmallResource r =
    Twelve r.portfolio × Twelve r.start
    × ((s : RawStep) → Memᴰ s r.steps → Twelve s.end × Twelve s.price)
    × ((p : Point) → Memᴰ p r.points → Twelve p.mw × Twelve p.heat)
    × Twelve r.gas × Twelve r.rate × Twelve r.allowance × Twelve r.om × Twelve r.msc × Twelve r.soc × Twelve r.fee

abbrev SmallOpening : GivenOpening → Type 0
SmallOpening o = Twelve o.month × ((s : ℤ) → Memᴰ s o.sellers → Twelve s) × ((r : GivenResource) → Memᴰ r o.resources → SmallResource r)

-- and so have its ids, which count from 0
abbrev Ids : GivenOpening → Type 0
Ids o = (length o.sellers ≤ 10 ^ 12) × (length o.resources ≤ 10 ^ 12)

-- ---- an interval
abbrev SmallInterval : GivenInterval → Type 0
SmallInterval i =
    ((z : ℤ) → Memᴰ z i.shadows → Twelve z)
    × ((x : GivenOutput) → Memᴰ x i.outputs → Twelve x.lmp × Twelve x.dispatch × Twelve x.available × Twelve x.floor)
    × ((f : GivenFactor) → Memᴰ f i.factors → (f.resource < length i.outputs) × (f.constraint < length i.shadows) × Twelve f.factor)
    × Rises i.factors
    × ((z : ℤ) → i.parameter ≡ Some z → Twelve z)

abbrev IntervalIds : GivenInterval → Type 0
IntervalIds i = (length i.shadows ≤ 10 ^ 12) × (length i.outputs ≤ 10 ^ 12)

-- ---- "the faulty one for 17, the one after the last if the text ends early": of lines before which n others stand, the lines before it can be completed to a part, and with it they can't
abbrev FirstFaulty : {A : Type 0} → Reader A → ℕ → List Line → ℕ → Type 0
FirstFaulty {A} r n ls line =
    (start : List Line) × (left : List Line) × (ls ≡ start ++ left) × (line ≡ suc (n + length start))
    × ((more : List Line) × (part : A) × (r n (start ++ more) ≡ found part (n + length (start ++ more)) []))
    × ((l : Line) (tail : List Line) → left ≡ l ∷ tail → (others : List Line) → r n (start ++ (l ∷ others)) ≡ faulty line)

-- ---- from the theorems
rising : (l : List GivenFactor) → Rising l ↔ Rises l
rising l = (there l, back l)
  where
    there : (l : List GivenFactor) → Rising l → Rises l
    there [] h i k = absurd (omega arith)
    there (f ∷ []) h i k = absurd (omega arith)
    there (f ∷ g ∷ l) (next b h) zero k = b.rises
    there (f ∷ g ∷ l) (next b h) (suc i) k = there (g ∷ l) h i (omega arith)

    back : (l : List GivenFactor) → Rises l → Rising l
    back [] h = empty
    back (f ∷ []) h = single
    back (f ∷ g ∷ l) h = next (record { rises = h 0 (omega arith) }) (back (g ∷ l) (λ i k. h (suc i) (omega arith)))

two : (x y : ℤ) → Every Small (x ∷ y ∷ []) ↔ (Twelve x × Twelve y)
two x y = (there, λ t. and_all t.0 (and_all t.1 no_more))
  where
    there : Every Small (x ∷ y ∷ []) → Twelve x × Twelve y
    there (and_all a (and_all b no_more)) = (a, b)

four : (x y z u : ℤ) → Every Small (x ∷ y ∷ z ∷ u ∷ []) ↔ (Twelve x × Twelve y × Twelve z × Twelve u)
four x y z u = (there, λ t. and_all t.0 (and_all t.1 (and_all t.2 (and_all t.3 no_more))))
  where
    there : Every Small (x ∷ y ∷ z ∷ u ∷ []) → Twelve x × Twelve y × Twelve z × Twelve u
    there (and_all a (and_all b (and_all c (and_all d no_more)))) = (a, b, c, d)

seven : (a b c d e f g : ℤ) → Every Small (a ∷ b ∷ c ∷ d ∷ e ∷ f ∷ g ∷ []) ↔ (Twelve a × Twelve b × Twelve c × Twelve d × Twelve e × Twelve f × Twelve g)
seven a b c d e f g =
    (there, λ t. and_all t.0 (and_all t.1 (and_all t.2 (and_all t.3 (and_all t.4 (and_all t.5 (and_all t.6 no_more)))))))
  where
    there : Every Small (a ∷ b ∷ c ∷ d ∷ e ∷ f ∷ g ∷ []) → Twelve a × Twelve b × Twelve c × Twelve d × Twelve e × Twelve f × Twelve g
    there (and_all a (and_all b (and_all c (and_all d (and_all e (and_all f (and_all g no_more))))))) = (a, b, c, d, e, f, g)

steps_small : (l : List RawStep) → Every (λ s. Every Small (s.end ∷ s.price ∷ [])) l ↔ ((s : RawStep) → Memᴰ s l → Twelve s.end × Twelve s.price)
steps_small l = each _ (λ s. Twelve s.end × Twelve s.price) (λ s. two s.end s.price) l

points_small : (l : List Point) → Every (λ p. Every Small (p.mw ∷ p.heat ∷ [])) l ↔ ((p : Point) → Memᴰ p l → Twelve p.mw × Twelve p.heat)
points_small l = each _ (λ p. Twelve p.mw × Twelve p.heat) (λ p. two p.mw p.heat) l

resource_small : (r : GivenResource) → ResourceSmall r ↔ SmallResource r
resource_small r =
    let costs = seven r.gas r.rate r.allowance r.om r.msc r.soc r.fee in
    let line = two r.portfolio r.start in (
      (λ h.
          let l = line.0 h.resource in
          let k = costs.0 h.costs in
          (l.0, l.1, (steps_small r.steps).0 h.steps, (points_small r.points).0 h.points, k.0, k.1, k.2, k.3, k.4, k.5, k.6)),
      λ h. record {
        resource = line.1 (h.0, h.1);
        steps = (steps_small r.steps).1 h.2;
        points = (points_small r.points).1 h.3;
        costs = costs.1 (h.4, h.5, h.6, h.7, h.8, h.9, h.10);
      },
    )

opening_small : (o : GivenOpening) → OpeningSmall o ↔ SmallOpening o
opening_small o =
    let resources = each ResourceSmall SmallResource resource_small o.resources in (
      (λ h. (h.month, (twelve o.sellers).0 h.sellers, resources.0 h.resources)),
      λ h. record { month = h.0; sellers = (twelve o.sellers).1 h.1; resources = resources.1 h.2 },
    )

outputs_small : (l : List GivenOutput) → Every (λ x. Every Small (x.lmp ∷ x.dispatch ∷ x.available ∷ x.floor ∷ [])) l
    ↔ ((x : GivenOutput) → Memᴰ x l → Twelve x.lmp × Twelve x.dispatch × Twelve x.available × Twelve x.floor)
outputs_small l = each _ (λ x. Twelve x.lmp × Twelve x.dispatch × Twelve x.available × Twelve x.floor) (λ x. four x.lmp x.dispatch x.available x.floor) l

interval_small : (i : GivenInterval) → IntervalSmall i ↔ SmallInterval i
interval_small i =
    let factors = each (FactorFits (length i.outputs) (length i.shadows))
    (λ f. (f.resource < length i.outputs) × (f.constraint < length i.shadows) × Twelve f.factor)
    (λ f. ((λ h. (h.resource, h.constraint, h.factor)), λ h. record { resource = h.0; constraint = h.1; factor = h.2 })) i.factors in (
      (λ h. ((twelve i.shadows).0 h.shadows, (outputs_small i.outputs).0 h.outputs, factors.0 h.factor, (rising i.factors).0 h.factors, h.parameter)),
      λ h. record {
        shadows = (twelve i.shadows).1 h.0;
        outputs = (outputs_small i.outputs).1 h.1;
        factor = factors.1 h.2;
        factors = (rising i.factors).1 h.3;
        parameter = h.4;
      },
    )

-- "A part ends with the last line due to it; what follows belongs to the next": its text is read as its values, whatever its counts, and what follows is left
pub opening_read : (o : GivenOpening) → SmallOpening o → Ids o → (n : ℕ) (t : List ℕ) → read_opening n (lines (opening_text o ++ t)) ≡ found (opening_is o) (n + length (opening_lines o)) (lines t)
opening_read o s f = opening_back o (record { small = (opening_small o).1 s; portfolios = f.0; resources = f.1 })

pub interval_read : (i : GivenInterval) → SmallInterval i → IntervalIds i → (n : ℕ) (t : List ℕ)
    → read_interval n (lines (interval_text i ++ t)) ≡ found (interval_is i) (n + length (interval_lines i)) (lines t)
interval_read i s f = interval_back i (record { small = (interval_small i).1 s; constraints = f.0; resources = f.1 })

-- whatever is read is such a text, and its values, whatever its counts
pub opening_only : (n : ℕ) (t : List ℕ) (a : Opening) (n' : ℕ) (ls : List Line) → read_opening n (lines t) ≡ found a n' ls
    → (o : GivenOpening) × SmallOpening o × (t ≡ opening_text o ++ together ls) × (a ≡ opening_is o)
opening_only n t a n' ls h =
    let m = opening_meant n t a n' ls h in
    (m.o, (opening_small m.o).0 m.small, m.text, m.value)

pub interval_only : (n : ℕ) (t : List ℕ) (a : Interval) (n' : ℕ) (ls : List Line) → read_interval n (lines t) ≡ found a n' ls
    → (i : GivenInterval) × SmallInterval i × (t ≡ interval_text i ++ together ls) × (a ≡ interval_is i)
interval_only n t a n' ls h =
    let m = interval_meant n t a n' ls h in
    (m.i, (interval_small m.i).0 m.small, m.text, m.value)

first_faulty : {A : Type 0} (r : Reader A) (n : ℕ) (ls : List Line) (line : ℕ) → First r n ls line → FirstFaulty r n ls line
first_faulty r n ls line f = (f.start, f.left, f.is, f.number, (f.more, f.part, f.whole), f.never)

pub opening_faulty : (n : ℕ) (ls : List Line) (line : ℕ) → read_opening n ls ≡ faulty line → FirstFaulty read_opening n ls line
opening_faulty n ls line e = first_faulty read_opening n ls line (opening_first n ls line e)

pub interval_faulty : (n : ℕ) (ls : List Line) (line : ℕ) → read_interval n ls ≡ faulty line → FirstFaulty read_interval n ls line
interval_faulty n ls line e = first_faulty read_interval n ls line (interval_first n ls line e)
