-- `opening_part::tables::put_charges` meets its contract. Assumes nothing.
use Rattle.std.proofs.Common.{◌≡◌, ◌+◌, ◌-◌, refl, List, ◌++◌, length, take, drop, ℤ, sym, ap, ◌∙◌, length-drop, arith, rules}
use native.Mathlib.Nat.{le_refl}
use lib.Seq.{take_all}
use Rattle.std.proofs.lemmas.List.Edits.{sets-eq}
use Rattle.std.proofs.lemmas.Slice.{put_mid-paste}
use Rattle.opening_part.proofs.tables.put_charges.Goals as goal

pub returns : goal.returns
returns c =
    let a = c.args in
    let l = a.cells.now in
    let vs = drop 1 a.v in
    let eight : length a.v ≡ 8 = search rules in
    let seven : length vs ≡ a.at + 7 - a.at = omega (arith, eight, length-drop 1 a.v) in
    put_mid-paste a.at (a.at + 7 - a.at) l c.copy_from_slice.new.self vs (length vs) (c.copy_from_slice.ensures.after ∙ take_all 7 vs (omega (arith, seven))) seven refl
    ∙ ap (λ (x : List ℤ). take a.at l ++ x ++ drop (a.at + length vs) l) (take_all (length vs) vs (le_refl (length vs)))
    ∙ sym (sets-eq vs l a.at (omega (arith, seven, c.if-cells-at.false)))
