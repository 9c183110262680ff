-- `opening_cells::opened`: by the checks of its numbers, and then by its resources.
use mathlib.Core.Bool.{true}
use mathlib.Core.Path.{◌≡◌, sym, ◌∙◌}
use Prim.Native.Nat.{◌≤◌}
use Rattle.std.proofs.Common.{rules}
use Rattle.rules_number.proofs.Kit.{rd}
use Rattle.rules_opening.specs.Openings.{counts_good, sellers_good, owners_good}
use Rattle.rules_state.specs.Layout.{most_resources, most_portfolios}
use Rattle.rules_state.specs.Openings.{opening_in}
use Rattle.opening_cells.proofs.OpenLaws.{sellers_are, owners_are}
use Rattle.opening_cells.proofs.IntoLaws.{none_by_counts, none_by_sellers, none_by_owners, counts_are, room, made}
use Rattle.opening_cells.proofs.opened.Goals as goal

pub returns-then-not-counts_good : goal.returns-then-not-counts_good
returns-then-not-counts_good c =
    let a = c.args.given.now in
    let o = opening_in a.month a.portfolios a.sellers.now a.resources a.blocks.now in
    let f : rd a.month ≡ a.month = search rules in
    let counts_is = rw f at c.counts_good.ensures ∙ counts_are a.month a.portfolios a.sellers.now a.resources a.blocks.now in
    let r = none_by_counts o c.args.state.now (sym counts_is ∙ c.if-not-counts_good.true) in
    record { number = r.0; state = r.1 }

pub returns-then-not-sellers_good : goal.returns-then-not-sellers_good
returns-then-not-sellers_good c =
    let a = c.args.given.now in
    let o = opening_in a.month a.portfolios a.sellers.now a.resources a.blocks.now in
    let f : rd a.month ≡ a.month = search rules in
    let counts_is = rw f at c.counts_good.ensures ∙ counts_are a.month a.portfolios a.sellers.now a.resources a.blocks.now in
    let counts : counts_good o ≡ true = sym counts_is ∙ c.if-not-counts_good.false in
    let few : (a.portfolios ≤ most_portfolios) × (a.resources ≤ most_resources) = room a.month a.portfolios a.sellers.now a.resources a.blocks.now counts in
    let sellers_is = c.sellers_good.ensures ∙ sellers_are a.month a.portfolios a.sellers.now a.resources a.blocks.now few.0 in
    let r = none_by_sellers o c.args.state.now counts (sym sellers_is ∙ c.if-not-sellers_good.true) in
    record { number = r.0; state = r.1 }

pub returns-then-not-owners_known : goal.returns-then-not-owners_known
returns-then-not-owners_known c =
    let a = c.args.given.now in
    let o = opening_in a.month a.portfolios a.sellers.now a.resources a.blocks.now in
    let f : rd a.month ≡ a.month = search rules in
    let counts_is = rw f at c.counts_good.ensures ∙ counts_are a.month a.portfolios a.sellers.now a.resources a.blocks.now in
    let counts : counts_good o ≡ true = sym counts_is ∙ c.if-not-counts_good.false in
    let few : (a.portfolios ≤ most_portfolios) × (a.resources ≤ most_resources) = room a.month a.portfolios a.sellers.now a.resources a.blocks.now counts in
    let sellers_is = c.sellers_good.ensures ∙ sellers_are a.month a.portfolios a.sellers.now a.resources a.blocks.now few.0 in
    let sellers : sellers_good o ≡ true = sym sellers_is ∙ c.if-not-sellers_good.false in
    let owners_is = c.owners_known.ensures ∙ owners_are a.month a.portfolios a.sellers.now a.resources a.blocks.now few.1 in
    let r = none_by_owners o c.args.state.now counts sellers (sym owners_is ∙ c.if-not-owners_known.true) in
    record { number = r.0; state = r.1 }

pub returns : goal.returns
returns c =
    let a = c.args.given.now in
    let o = opening_in a.month a.portfolios a.sellers.now a.resources a.blocks.now in
    let f : rd a.month ≡ a.month = search rules in
    let counts_is = rw f at c.counts_good.ensures ∙ counts_are a.month a.portfolios a.sellers.now a.resources a.blocks.now in
    let counts : counts_good o ≡ true = sym counts_is ∙ c.if-not-counts_good.false in
    let few : (a.portfolios ≤ most_portfolios) × (a.resources ≤ most_resources) = room a.month a.portfolios a.sellers.now a.resources a.blocks.now counts in
    let sellers_is = c.sellers_good.ensures ∙ sellers_are a.month a.portfolios a.sellers.now a.resources a.blocks.now few.0 in
    let sellers : sellers_good o ≡ true = sym sellers_is ∙ c.if-not-sellers_good.false in
    let owners_is = c.owners_known.ensures ∙ owners_are a.month a.portfolios a.sellers.now a.resources a.blocks.now few.1 in
    let owners : owners_good o ≡ true = sym owners_is ∙ c.if-not-owners_known.false in
    let e = c.open_rows.ensures in
    let r = made a.month a.portfolios a.sellers.now a.resources a.blocks.now counts sellers owners _ c.args.state.now _ e.number e.state in
    record { number = r.0; state = r.1 }
