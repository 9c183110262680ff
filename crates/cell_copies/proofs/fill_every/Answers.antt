-- `cell_copies::fill_every`: where it starts, one more cell, and the end. Assumes nothing.
use Rattle.std.proofs.Common.{ℕ, ◌≡◌, ◌+◌, ◌*◌, List, ℤ, pos, length, refl, ap, ◌∙◌, arith, rules}
use Rattle.std.proofs.Common.{min as least}
use Rattle.rules_number.specs.Over.{up_to}
use Rattle.rules_library.specs.Slices.{cell_at}
use Rattle.cell_copies.proofs.CopyLaws.{fills_next, filled, at_end}
use Rattle.cell_copies.proofs.fill_every.Goals as goal

-- the number of index i
abbrev every : List ℤ → ℕ → ℕ → ℕ → ℤ
every from at step i = cell_at from (step * i + at)

-- the place after the next step
further : (step k at place n r : ℕ) → place ≡ least (step * k + at) n → r ≡ least (place + step) n → r ≡ least (step * (k + 1) + at) n
further step k at place n r e h = let z : step * (k + 1) ≡ step * k + step = omega arith in omega arith

pub loop-x-init : goal.loop-x-init
unfolding up_to
loop-x-init c =
    let z : c.args.step * 0 ≡ 0 = omega arith in
    record { place = omega arith; filled = refl }

pub loop-x-preserved : goal.loop-x-preserved
loop-x-preserved c =
    let a = c.args in
    let k = c.loop-x.x-index in
    let v = c.loop-x.invariant in
    let f = every a.from.now a.at a.step in
    record {
      place = further a.step k a.at c.loop-x.place (length a.from.now) c.onward-place.result v.place c.onward-place.ensures;
      filled = fills_next (pos 0) f a.into.now c.loop-x.into k v.filled _ (omega arith)
          (search rules ∙ c.cell_at.ensures ∙ ap (cell_at a.from.now) v.place ∙ at_end a.from.now (a.step * k + a.at));
    }

pub returns : goal.returns
returns c =
    let v = c.loop-x.invariant in
    filled (pos 0) (every c.args.from.now c.args.at c.args.step) c.args.into.now c.loop-x.into c.loop-x.x-index v.filled (omega arith) (omega arith)
