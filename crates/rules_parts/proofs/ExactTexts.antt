-- Refusals 1 to 11 of an opening that is read from a text, exactly: every such opening holds its curves in arrays of eleven steps. Assumes nothing.
use Prim.Native.Nat.{ℕ, zero, suc, ◌<◌}
use mathlib.Core.Path.{◌≡◌, refl, sym, subst, ◌∙◌}
use mathlib.Core.List.{List, [], ◌∷◌, map}
use mathlib.Core.Logic.{◌↔◌}
use native.Mathlib.Omega.{arith}
use lib.ListN.{length, get_or, take, length-map, length-take}
use lib.Seq.{get_or-take}
use Rattle.rules_number.proofs.OverLaws.{padded_at, padded_length}
use Rattle.rules_curve.specs.Curves.{most_steps}
use Rattle.rules_curve.specs.Demands.{First}
use Rattle.rules_curve.specs.declared.RawStep.{RawStep}
use Rattle.rules_opening.specs.Conditions.{resource, opening_demands, EachFull}
use Rattle.rules_opening.specs.Openings.{no_resource, opening_refusal}
use Rattle.rules_opening.specs.ResourceConditions.{Full}
use Rattle.rules_opening.specs.declared.Opening.{Opening}
use Rattle.rules_opening.proofs.Exactly.{opening_exactly}
use Rattle.rules_text.specs.Numbers.{Line, lines}
use Rattle.rules_text.specs.Tables.{found}
use Rattle.rules_parts.specs.Parts.{read_opening}
use Rattle.rules_parts.specs.Texts.{GivenResource, GivenOpening, zero_step, zero_resource, array_of, resource_is, opening_is}
use Rattle.rules_parts.proofs.Meaning.{opening_meant}

eleven : (l : List RawStep) → length (array_of most_steps zero_step l) ≡ most_steps
eleven l = padded_length most_steps zero_step (take most_steps l) (omega (arith, length-take most_steps l))

full_of_lem : (r : GivenResource) → Full (resource_is r)
full_of_lem r = record { bid = eleven r.steps; pack = eleven [] }

map_at : (l : List GivenResource) (k : ℕ) → k < length l → get_or (map resource_is l) k no_resource ≡ resource_is (get_or l k zero_resource)
map_at [] k h = absurd (omega arith)
map_at (r ∷ l) zero h = refl
map_at (r ∷ l) (suc k) h = map_at l k (omega arith)

pub full_in_text : (o : GivenOpening) → EachFull (opening_is o)
unfolding opening_is
full_in_text o r h low =
    let all = map resource_is o.resources in
    let n = length-map o.resources resource_is in
    let e : resource (opening_is o) r ≡ resource_is (get_or o.resources r zero_resource) =
    padded_at 64 (resource_is zero_resource) (take 64 all) r no_resource (omega (arith, length-take 64 all, n)) ∙ get_or-take 64 all r no_resource low ∙ map_at o.resources r h in
    subst Full (sym e) (full_of_lem (get_or o.resources r zero_resource))

-- whatever is read as an opening is refused with k exactly when k is the number of the first demand that it does not meet
pub opening_exactly_in_text : (n : ℕ) (t : List ℕ) (a : Opening) (n' : ℕ) (ls' : List Line) → read_opening n (lines t) ≡ found a n' ls' → (k : ℕ) → (opening_refusal a ≡ k) ↔ First k (opening_demands a)
opening_exactly_in_text n t a n' ls' h = let m = opening_meant n t a n' ls' h in opening_exactly a (subst EachFull (sym m.value) (full_in_text m.o))
