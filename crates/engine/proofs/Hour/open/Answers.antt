-- `engine::Hour/open`: a fresh hour, or the first refusal.
use Rattle.std.specs.Prelude.{Err}
use mathlib.Core.Path.{◌≡◌, sym, ap, ◌∙◌}
use mathlib.Core.Logic.{◌↔◌}
use Prim.Native.Nat.{ℕ, ◌<◌}
use lib.IntN.{pos}
use lib.ListN.{length, replicate}
use Rattle.rules_number.proofs.Kit.{rd}
use Rattle.rules_curve.specs.Demands.{First}
use Rattle.rules_curve.specs.Refusals.{number_of, outcome_number}
use Rattle.rules_curve.proofs.RefusalLaws.{refused_number}
use Rattle.rules_opening.specs.Conditions.{opening_demands}
use Rattle.rules_opening.specs.Openings.{opening_refusal}
use Rattle.rules_opening.specs.declared.Opening.{Opening}
use Rattle.rules_pass.specs.Passes.{opened_real_time}
use Rattle.rules_state.specs.Calls.{called_number}
use Rattle.rules_state.specs.Layout.{most_resources, most_portfolios, state_room}
use Rattle.rules_state.specs.OpenedInto.{into_answer, opened_into}
use Rattle.rules_state.specs.Openings.{opening_in}
use Rattle.rules_state.specs.States.{hour_in, state_cells}
use Rattle.engine.proofs.HourLaws.{by_call, blank, refused, refused_cells, opening_exactly_by_value, answered, opened, cells_opened}
use Rattle.engine.proofs.Hour.open.Goals as goal
use mathlib.Core.Path.{subst}
use Rattle.std.proofs.Common.{rules}
use Rattle.engine.proofs.Hour.open.Goals.{After-map_err}

-- the opening, and what is answered of its blocks
module _ (c : After-map_err) where
  abbrev o : Opening
  o = c.args.o

  sellers : length c.args.o.sellers ≡ most_portfolios
  sellers = search rules

  many : length c.args.o.list ≡ most_resources
  many = search rules

  abbrev i : Opening
  i = opening_in o.month o.portfolios o.sellers o.resources c.put_blocks.new.blocks

  month : rd c.args.o.month ≡ c.args.o.month
  month = search rules

  answer : called_number c.open_into.result ≡ into_answer (replicate state_room (pos 0)) i
  answer = rw month at c.open_into.ensures.number

  cells : c.open_into.new.state ≡ opened_into i (replicate state_room (pos 0))
  cells = rw month at c.open_into.ensures.state

  number : outcome_number c.map_err.result ≡ opening_refusal o
  number =
      by_call _ (λ e d p. p) c.open_into.result c.map_err.result c.map_err.ensures.cases _
      (answered o sellers many c.put_blocks.ensures.room c.put_blocks.new.blocks c.put_blocks.ensures.blocks (called_number c.open_into.result) answer)

  exactly : (n : ℕ) → (opening_refusal o ≡ n) ↔ First n (opening_demands o)
  exactly = opening_exactly_by_value o many c.put_blocks.ensures.room

  hour : opening_refusal o ≡ 0 → hour_in c.open_into.new.state ≡ opened_real_time o
  hour z = opened o sellers many c.put_blocks.ensures.room c.put_blocks.new.blocks c.put_blocks.ensures.blocks z c.open_into.new.state cells

  whole : opening_refusal o ≡ 0 → c.open_into.new.state ≡ state_cells (opened_real_time o)
  whole z = cells_opened o sellers many c.put_blocks.ensures.room c.put_blocks.new.blocks c.put_blocks.ensures.blocks z c.open_into.new.state cells

pub returns-in_err-map_err : goal.returns-in_err-map_err
returns-in_err-map_err c =
    let q = (goal.at.returns-in_err-map_err c).After-map_err in
    let o = c.args.o in
    let d = c.in_err-map_err.field-0.0 in
    let is : c.from_residual.result ≡ Err d = search rules in
    let n : number_of d ≡ opening_refusal o = sym (ap outcome_number c.in_err-map_err.was) ∙ number q in
    let some : 0 < opening_refusal o = subst (λ k. 0 < k) n (refused_number d) in
    rw is (record { number = n; hour = blank state_room ∙ refused o some; cells = refused_cells o some (replicate state_room (pos 0)); exactly = λ k. rw n (exactly q k) })

pub returns : goal.returns
returns c =
    let q = (goal.at.returns c).After-map_err in
    let z : opening_refusal c.args.o ≡ 0 = sym (number q) ∙ ap outcome_number c.in_ok-map_err.was in
    record { number = sym z; hour = hour q z; cells = rw z (whole q z); exactly = λ k. subst (λ i. (i ≡ k) ↔ First k (opening_demands c.args.o)) z (exactly q k) }
