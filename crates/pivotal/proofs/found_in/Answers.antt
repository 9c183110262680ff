-- `pivotal::found_in`: by whether all net sellers work. Assumes nothing.
use mathlib.Core.Path.{sym, ◌∙◌}
use Rattle.pivotal.proofs.AnswerLaws.{none_works, some_works}
use Rattle.pivotal.proofs.found_in.Goals as goal

pub returns-then-not-works : goal.returns-then-not-works
returns-then-not-works c = none_works c.args.rows.now c.args.n c.args.sellers c.args.budget (sym c.works.ensures ∙ c.if-not-works.true)

pub returns : goal.returns
returns c =
    some_works c.args.rows.now c.args.n c.args.sellers c.args.budget (sym c.works.ensures ∙ c.if-not-works.false) c.search-found.result c.floor_of-floor.result c.search-found.ensures c.floor_of-floor.ensures
