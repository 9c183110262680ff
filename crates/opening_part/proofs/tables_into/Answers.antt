-- `opening_part::tables_into` meets its contract. Assumes nothing.
use Rattle.std.proofs.Common.{◌≡◌, ℕ, ◌+◌, ◌-◌, ◌≤◌, Result, Ok, Err, IfOk, List, ℤ, length, drop, refl, sym, ap, ◌∙◌, arith}
use Rattle.rules_text.specs.Numbers.{lines}
use Rattle.rules_text.specs.Tables.{Reading, found, next, each}
use Rattle.rules_text.specs.Offsets.{bytes_of}
use Rattle.rules_text.proofs.StageLaws.{names_few}
use Rattle.rules_text.proofs.UsedLaws.{Used, Rises, used_names, used_then, rises_each, rises_then, rises_found}
use Rattle.text_blocks.specs.Blocks.{group_cells, charge_cells, blocks_put, blocks_of, steps_from, points_from, charges_from}
use Rattle.opening_part.specs.Parts.{read_cells}
use Rattle.opening_part.specs.declared.tables.TableEnd.{TableEnd}
use Rattle.text_blocks.proofs.LastLaws.{blocks_length, Grouped, group_stage, step_names, point_names, cost_names, unnamed_three, unnamed_two, unnamed_one, past_three, past_two, past_one, blocks_last, read_after}
use Rattle.opening_part.proofs.tables_into.Goals as goal
use Rattle.opening_part.proofs.tables_into.Goals.{After-groups_into-steps, After-groups_into-points}

-- the offset after lines that are used and those after them
after_used : {s : List ℕ} {n at n' at' : ℕ} → Used s n at n' at' → (r : Result TableEnd ℕ) (l : List ℤ) (R : Reading (List ℤ)) → read_cells s r l ≡ R → Rises n' R
    → IfOk r (λ g. g.next ≡ at' + bytes_of (g.line - n') (lines (drop at' s))) → IfOk r (λ g. g.next ≡ at + bytes_of (g.line - n) (lines (drop at s)))
after_used u (Ok g) l R e h o = read_after u l g.line g.next R e h o
after_used u (Err line) l R e h o = o

-- the steps, and the points after them
steps_put : (c : After-groups_into-steps) → Grouped step_names c.args.m steps_from c.args.s.now c.args.n c.args.at c.args.blocks.now c.groups_into-steps.new.cells c.groups_into-steps.result.line c.groups_into-steps.result.next
steps_put c =
    let a = c.args in
    let g = c.groups_into-steps in
    group_stage step_names refl a.m steps_from a.s.now a.n a.at c.in-Some.at c.in-Some.ensures a.blocks.now g.new.cells g.result.line g.result.next
    g.ensures.s_after g.ensures.s_bound g.ensures.next_value

steps_long : (c : After-groups_into-steps) → length c.groups_into-steps.new.cells ≤ 5120
steps_long c = let o = steps_put c in omega (arith, ap length o.keeps, blocks_length group_cells steps_from 0 c.args.blocks.now o.gs, c.requires.1)

points_put : (c : After-groups_into-points)
    → Grouped point_names c.args.m points_from c.args.s.now c.groups_into-steps.result.line c.groups_into-steps.result.next c.groups_into-steps.new.cells c.groups_into-points.new.cells c.groups_into-points.result.line c.groups_into-points.result.next
points_put c =
    let a = c.args in
    let g = c.groups_into-steps in
    let h = c.groups_into-points in
    group_stage point_names refl a.m points_from a.s.now g.result.line g.result.next c.in-Some-line_is.at c.in-Some-line_is.ensures g.new.cells h.new.cells h.result.line h.result.next
    h.ensures.s_after h.ensures.s_bound h.ensures.next_value

points_long : (c : After-groups_into-points) → length c.groups_into-steps.new.cells ≤ 5120 → length c.groups_into-points.new.cells ≤ 5120
points_long c long = let o = points_put c in omega (arith, ap length o.keeps, blocks_length group_cells points_from 0 c.groups_into-steps.new.cells o.gs, long)

pub returns-in_default-clause-reading : goal.returns-in_default-clause-reading
returns-in_default-clause-reading c =
    let a = c.args in
    let s = a.s.now in
    sym (unnamed_three a.m s a.n a.at (blocks_of a.blocks.now) c.in_default.ensures)

pub groups_into-steps-requires : goal.groups_into-steps-requires
groups_into-steps-requires c =
    let a = c.args in
    let s = a.s.now in
    let f1 = names_few step_names s a.at refl c.in-Some.at c.in-Some.ensures in
    let p1 = c.requires.0 in
    (omega arith, c.requires.1, omega arith)

pub overflow_add-result-in_default-line_is : goal.overflow_add-result-in_default-line_is
overflow_add-result-in_default-line_is c = omega (arith, (steps_put (goal.at.overflow_add-result-in_default-line_is c).After-groups_into-steps).stage.few, c.requires.0, c.well_formed)

pub overflow_add-steps : goal.overflow_add-steps
overflow_add-steps c = omega (arith, (steps_put (goal.at.overflow_add-steps c).After-groups_into-steps).stage.few, c.requires.0, c.well_formed)

pub overflow_add-result-in_default-line_is-2 : goal.overflow_add-result-in_default-line_is-2
overflow_add-result-in_default-line_is-2 c = omega (arith, (steps_put (goal.at.overflow_add-result-in_default-line_is-2 c).After-groups_into-steps).stage.few, (points_put (goal.at.overflow_add-result-in_default-line_is-2 c).After-groups_into-points).stage.few, c.requires.0, c.well_formed)

pub overflow_add-points : goal.overflow_add-points
overflow_add-points c = omega (arith, (steps_put (goal.at.overflow_add-points c).After-groups_into-steps).stage.few, (points_put (goal.at.overflow_add-points c).After-groups_into-points).stage.few, c.requires.0, c.well_formed)

pub returns-in_default-line_is-clause-reading : goal.returns-in_default-line_is-clause-reading
returns-in_default-line_is-clause-reading c =
    let a = c.args in
    let s = a.s.now in
    let g = c.groups_into-steps in
    let one = steps_put (goal.at.returns-in_default-line_is-clause-reading c).After-groups_into-steps in
    sym (past_three a.m s a.n a.at (blocks_of a.blocks.now) one.gs g.result.line g.result.next one.stage
    ∙ unnamed_two a.m s g.result.line g.result.next (blocks_of a.blocks.now one.gs) c.in_default-line_is.ensures)

pub groups_into-points-requires : goal.groups_into-points-requires
groups_into-points-requires c =
    let p = (goal.at.groups_into-points-requires c).After-groups_into-steps in
    (omega (arith, (steps_put p).stage.few, c.requires.0, names_few point_names c.args.s.now c.groups_into-steps.result.next refl c.in-Some-line_is.at c.in-Some-line_is.ensures), steps_long p, omega arith)

pub returns-in_default-line_is-2-clause-reading : goal.returns-in_default-line_is-2-clause-reading
returns-in_default-line_is-2-clause-reading c =
    let a = c.args in
    let s = a.s.now in
    let g = c.groups_into-steps in
    let h = c.groups_into-points in
    let one = steps_put (goal.at.returns-in_default-line_is-2-clause-reading c).After-groups_into-steps in
    let two = points_put (goal.at.returns-in_default-line_is-2-clause-reading c).After-groups_into-points in
    let past = past_three a.m s a.n a.at (blocks_of a.blocks.now) one.gs g.result.line g.result.next one.stage
    ∙ past_two a.m s g.result.line g.result.next (blocks_of a.blocks.now one.gs) two.gs h.result.line h.result.next two.stage in
    sym (past ∙ unnamed_one a.m s h.result.line h.result.next (blocks_of a.blocks.now one.gs two.gs) c.in_default-line_is-2.ensures)

pub charges_into-requires : goal.charges_into-requires
charges_into-requires c =
    let p = (goal.at.charges_into-requires c).After-groups_into-steps in
    let q = (goal.at.charges_into-requires c).After-groups_into-points in
    (omega (arith, (steps_put p).stage.few, (points_put q).stage.few, c.requires.0, names_few cost_names c.args.s.now c.groups_into-points.result.next refl c.in-Some-line_is-2.at c.in-Some-line_is-2.ensures), points_long q (steps_long p), omega arith)

pub returns-clause-reading : goal.returns-clause-reading
returns-clause-reading c =
    let a = c.args in
    let s = a.s.now in
    let g = c.groups_into-steps in
    let h = c.groups_into-points in
    let one = steps_put (goal.at.returns-clause-reading c).After-groups_into-steps in
    let two = points_put (goal.at.returns-clause-reading c).After-groups_into-points in
    let past = past_three a.m s a.n a.at (blocks_of a.blocks.now) one.gs g.result.line g.result.next one.stage
    ∙ past_two a.m s g.result.line g.result.next (blocks_of a.blocks.now one.gs) two.gs h.result.line h.result.next two.stage in
    let rows = each 8 a.m 0 (h.result.line + 1) (lines (drop c.in-Some-line_is-2.at s)) in
    c.charges_into.ensures.reading
    ∙ blocks_last rows a.blocks.now g.new.cells h.new.cells one.gs two.gs one.keeps two.keeps
    ∙ sym (past ∙ past_one a.m s h.result.line h.result.next (blocks_of a.blocks.now one.gs two.gs) c.in-Some-line_is-2.at c.in-Some-line_is-2.ensures)

pub returns-clause-after : goal.returns-clause-after
returns-clause-after c =
    let a = c.args in
    let s = a.s.now in
    let g = c.groups_into-steps in
    let h = c.groups_into-points in
    let one = steps_put (goal.at.returns-clause-after c).After-groups_into-steps in
    let two = points_put (goal.at.returns-clause-after c).After-groups_into-points in
    let d = c.charges_into in
    let rows = each 8 a.m 0 (h.result.line + 1) (lines (drop c.in-Some-line_is-2.at s)) in
    after_used (used_then (used_then one.stage.used two.stage.used) (used_names cost_names s h.result.line h.result.next refl c.in-Some-line_is-2.at c.in-Some-line_is-2.ensures))
    d.result d.new.cells (next rows (λ xs. found (blocks_put charge_cells charges_from 0 h.new.cells xs))) d.ensures.reading
    (rises_then (h.result.line + 1) rows (λ xs. found (blocks_put charge_cells charges_from 0 h.new.cells xs)) (rises_each 8 a.m 0 (h.result.line + 1) (lines (drop c.in-Some-line_is-2.at s)))
    (λ xs. rises_found (blocks_put charge_cells charges_from 0 h.new.cells xs)))
    d.ensures.next_value
