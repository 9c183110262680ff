-- `state_puts::put_floors` meets its contract. Assumes nothing.
use Rattle.std.proofs.Common.{◌≡◌, ℕ, ◌+◌, List, ℤ, map, length, sym, ap, ◌∙◌, arith, rules}
use lib.ListN.{length-map, length-append}
use Rattle.std.proofs.lemmas.List.Edits.{sets}
use Rattle.rules_hour.specs.declared.Floor.{Floor}
use Rattle.rules_text.proofs.ListLaws.{sets_append}
use Rattle.rules_state.specs.Layout.{most_resources}
use Rattle.rules_state.specs.States.{mark_of, price_of, floors_cells}
use Rattle.state_puts.proofs.put_floors.Goals as goal

room : (floors : List Floor) → length floors ≡ most_resources → length (floors_cells floors) ≡ most_resources + most_resources
unfolding floors_cells
room floors n = simp (length-append, length-map) (omega arith)

-- the marks and then the prices
joined : (floors : List Floor) (s marked out : List ℤ) (at : ℕ) → length floors ≡ most_resources → marked ≡ sets s at (map (λ f. mark_of f.price) floors)
    → out ≡ sets marked (at + most_resources) (map (λ f. price_of f.price) floors) → out ≡ sets s at (floors_cells floors)
unfolding floors_cells
joined floors s marked out at n e f =
    let marks = map (λ (x : Floor). mark_of x.price) floors in
    let prices = map (λ (x : Floor). price_of x.price) floors in
    let far : most_resources ≡ length marks = sym (simp length-map n) in
    f ∙ ap (λ (l : List ℤ). sets l (at + most_resources) prices) e ∙ ap (λ (i : ℕ). sets (sets s at marks) (at + i) prices) far ∙ sym (sets_append s at marks prices)

pub returns-clause-room : goal.returns-clause-room
returns-clause-room c = room c.args.floors.now (search rules)

pub returns-clause-state : goal.returns-clause-state
returns-clause-state c =
    let a = c.args in
    joined a.floors.now a.state.now _ _ a.at (search rules) (c.put_each.ensures mark_of (λ price x p. p.1)) (c.put_each-2.ensures price_of (λ price x p. p.1))
