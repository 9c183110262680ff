-- `opening_cells::pack_in`: a curve that is taken is put, with where it starts and ends.
use Rattle.std.proofs.Common.{ℕ, ◌≡◌, sym, arith, rules}
use Rattle.rules_number.proofs.Kit.{rd}
use Rattle.rules_curve.specs.Curves.{most_steps, lowest_default, highest_default, curve_of}
use Rattle.rules_library.specs.Slices.{raw_bid}
use Rattle.cost.specs.declared.Ends.{Ends}
use Rattle.opening_cells.proofs.BlockLaws.{curve_few}
use Rattle.opening_cells.proofs.pack_in.Goals as goal

by_parts : {s s' e e' : ℕ} → s ≡ s' → e ≡ e' → ◌≡◌ {A = Ends} (record { start = s; end = e }) (record { start = s'; end = e' })
by_parts a b = cc

pub curve_of-requires : goal.curve_of-requires
curve_of-requires c =
    let x = raw_bid c.args.raw.now.start c.args.raw.now.count c.args.raw.now.steps.now in
    let e = c.in_ok-curve_outcome.ensures in
    (curve_few most_steps lowest_default highest_default x (sym e), omega arith)

pub end_at-requires : goal.end_at-requires
end_at-requires c =
    let x = raw_bid c.args.raw.now.start c.args.raw.now.count c.args.raw.now.steps.now in
    let e = c.in_ok-curve_outcome.ensures in
    (curve_few most_steps lowest_default highest_default x (sym e), omega arith)

pub returns-clause-ends : goal.returns-clause-ends
unfolding curve_of
returns-clause-ends c =
    let f : rd c.args.raw.now.start ≡ c.args.raw.now.start = search rules in
    rw (sym c.in_ok-curve_outcome.ensures) (by_parts (rw f at c.whole.ensures) c.end_at.ensures)
