-- `cutting::put_cause`: mark, component, competitive price and floor price are put. Assumes nothing.
use Rattle.std.proofs.Common.{◌≡◌, ◌*◌, ◌≤◌, ap, ◌∙◌, rules}
use Rattle.std.specs.Prelude.{nat_abs}
use Rattle.std.proofs.lemmas.List.Edits.{sets}
use Rattle.rules_number.proofs.Kit.{came}
use Rattle.rules_number.proofs.Meant.{local}
use Rattle.rules_number.proofs.RangeLaws.{abs_range, abs_in}
use Rattle.rules_interval.specs.Intervals.{dispatch_at, lmp_at}
use Rattle.rules_hour.specs.Cuts.{cut_from, competitive_price}
use Rattle.rules_state.specs.Layout.{cause_width}
use Rattle.rules_state.specs.States.{mark_of, price_of}
use Rattle.interval.specs.Over.{lent_interval}
use Rattle.cutting.specs.Entering.{component_over, cut_over}
use Rattle.cutting.proofs.CellLaws.{price_over, dispatch_over, cause_there, no_cause}
use Rattle.cutting.proofs.EnteringLaws.{component_size}
use Rattle.cutting.proofs.put_cause.Goals as goal
use Rattle.cutting.proofs.put_cause.Goals.{After-output_at-output, After-cut_by-cut, After-competitive_of-competitive}

module _ (c : After-output_at-output) where
  component-is : c.component_over-component.result ≡ component_over c.args.asked.now.factors.now c.args.asked.now.shadow.now c.args.entering.now c.args.r
  component-is = c.component_over-component.ensures

  small : nat_abs c.component_over-component.result ≤ 3200000000000000
  small = rw component-is (component_size _ _ _ _ (c.requires.1.addable c.args.r c.if-asked-r.false))

  lmp-is : c.output_at-output.result.lmp ≡ lmp_at (lent_interval c.args.asked.now) c.args.r
  lmp-is = price_over c.args.asked.now.outputs.now c.args.r c.requires.0 c.output_at-output.result c.output_at-output.ensures

  dispatch-is : c.output_at-output.result.dispatch ≡ dispatch_at (lent_interval c.args.asked.now) c.args.r
  dispatch-is = dispatch_over c.args.asked.now.outputs.now c.args.r c.requires.0 c.output_at-output.result c.output_at-output.ensures

  low : nat_abs c.output_at-output.result.lmp ≤ 100000000
  low = rw lmp-is (abs_range 100000000 (lmp_at (lent_interval c.args.asked.now) c.args.r) (c.requires.1.lmp_in c.args.r c.if-asked-r.false))

-- the results, at the numbers themselves
cut-is : (c : After-cut_by-cut) → c.cut_by-cut.result ≡ cut_from c.output_at-output.result.dispatch c.output_at-output.result.lmp c.component_over-component.result c.args.asked.now.parameter
cut-is c = search rules

competitive-is : (c : After-competitive_of-competitive) → c.competitive_of-competitive.result ≡ competitive_price c.output_at-output.result.lmp c.component_over-component.result
competitive-is c = search rules

pub returns-then-asked-r : goal.returns-then-asked-r
returns-then-asked-r c =
    c.put_four.ensures
    ∙ ap (sets c.args.causes.now (cause_width * c.args.r)) (no_cause (lent_interval c.args.asked.now) c.args.entering.now c.args.r c.if-asked-r.true)

pub component_over-component-requires : goal.component_over-component-requires
component_over-component-requires c = c.requires.1.addable c.args.r c.if-asked-r.false

pub cut_by-cut-requires : goal.cut_by-cut-requires
cut_by-cut-requires c =
    let o = (goal.at.cut_by-cut-requires c).After-output_at-output in (
      rw (local c.output_at-output.result.lmp (low o) tt).same (low o),
      (rw (local c.component_over-component.result (small o) tt).same (small o), rw (local c.args.asked.now.parameter (abs_in 100 c.args.asked.now.parameter c.requires.1.parameter_in) tt).same (abs_in 100 c.args.asked.now.parameter c.requires.1.parameter_in)),
    )

pub competitive_of-competitive-requires : goal.competitive_of-competitive-requires
competitive_of-competitive-requires c =
    let o = (goal.at.competitive_of-competitive-requires c).After-output_at-output in
    (rw (local c.output_at-output.result.lmp (low o) tt).same (low o), rw (local c.component_over-component.result (small o) tt).same (small o))

pub returns : goal.returns
returns c =
    let p = goal.at.returns c in
    let o = p.After-output_at-output in
    let fc = came c.component_over-component.result c.component_over-component.type_inv in
    let cut : c.cut_by-cut.result ≡ cut_over (lent_interval c.args.asked.now) c.args.entering.now c.args.r
    = rw (component-is o, dispatch-is o, lmp-is o) at (cut-is p.After-cut_by-cut) in
    c.put_four-2.ensures
    ∙ ap (sets c.args.causes.now (cause_width * c.args.r))
    (cause_there (lent_interval c.args.asked.now) c.args.entering.now c.args.r c.if-asked-r.false _ _ _ _
    (came c.mark_of.result c.mark_of.type_inv ∙ c.mark_of.ensures ∙ ap mark_of cut) (fc ∙ component-is o)
    (came c.competitive_of-competitive.result c.competitive_of-competitive.type_inv ∙ rw (component-is o, lmp-is o) at (competitive-is p.After-competitive_of-competitive))
    (came c.price_of.result c.price_of.type_inv ∙ c.price_of.ensures ∙ ap price_of cut))
