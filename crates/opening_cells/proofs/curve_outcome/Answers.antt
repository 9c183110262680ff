-- `opening_cells::curve_outcome`: by the first test that fails.
use mathlib.Core.Bool.{true, false}
use mathlib.Core.Path.{◌≡◌, sym, ◌∙◌}
use Prim.Native.Nat.{ℕ, ◌<◌, ◌≤◌}
use Rattle.std.proofs.Common.{rules}
use native.Mathlib.Omega.{arith}
use borrow.Author.Tests.{le-leb, lt-leb}
use Rattle.rules_number.proofs.Kit.{came}
use Rattle.rules_curve.specs.Curves.{count_good}
use Rattle.rules_curve.specs.declared.RawCurve.{RawCurve}
use Rattle.rules_curve.proofs.CheckLaws.{refused_count, refused_edge, refused_price, taken_curve}
use Rattle.rules_library.specs.Slices.{raw_bid}
use Rattle.opening_cells.proofs.curve_outcome.Goals as goal

over : (most : ℕ) (c : RawCurve) → 1 ≤ c.count → most < c.count → count_good most c ≡ false
over most c l h = rw (le-leb 1 c.count l, lt-leb c.count most h)

within : (most : ℕ) (c : RawCurve) → 1 ≤ c.count → c.count ≤ most → count_good most c ≡ true
within most c l h = rw (le-leb 1 c.count l, le-leb c.count most h)

pub returns-then-raw-eq0 : goal.returns-then-raw-eq0
returns-then-raw-eq0 c =
    let raw = raw_bid c.args.raw.now.start c.args.raw.now.count c.args.raw.now.steps.now in
    sym (refused_count c.args.most c.args.low c.args.top raw (rw c.if-raw-eq0.true))

pub returns-then-most-raw : goal.returns-then-most-raw
returns-then-most-raw c =
    let raw = raw_bid c.args.raw.now.start c.args.raw.now.count c.args.raw.now.steps.now in
    sym (refused_count c.args.most c.args.low c.args.top raw (over c.args.most raw (omega arith) (omega arith)))

pub returns-then-not-edges_good : goal.returns-then-not-edges_good
returns-then-not-edges_good c =
    let raw = raw_bid c.args.raw.now.start c.args.raw.now.count c.args.raw.now.steps.now in
    sym (refused_edge c.args.most c.args.low c.args.top raw (within c.args.most raw (omega arith) (omega arith)) (sym c.edges_good.ensures ∙ c.if-not-edges_good.true))

pub prices_good-requires : goal.prices_good-requires
prices_good-requires c =
    (search rules, (search rules, rw (came c.args.low c.ranges.low.sfits, came c.args.top c.ranges.top.sfits) c.requires.1.1))

pub returns-then-not-prices_good : goal.returns-then-not-prices_good
returns-then-not-prices_good c =
    let raw = raw_bid c.args.raw.now.start c.args.raw.now.count c.args.raw.now.steps.now in
    let edges = sym c.edges_good.ensures ∙ c.if-not-edges_good.false in
    let prices_are = rw (came c.args.low c.ranges.low.sfits, came c.args.top c.ranges.top.sfits) at c.prices_good.ensures in
    sym (refused_price c.args.most c.args.low c.args.top raw (within c.args.most raw (omega arith) (omega arith)) edges (sym prices_are ∙ c.if-not-prices_good.true))

pub returns : goal.returns
returns c =
    let raw = raw_bid c.args.raw.now.start c.args.raw.now.count c.args.raw.now.steps.now in
    let edges = sym c.edges_good.ensures ∙ c.if-not-edges_good.false in
    let prices_are = rw (came c.args.low c.ranges.low.sfits, came c.args.top c.ranges.top.sfits) at c.prices_good.ensures in
    sym (taken_curve c.args.most c.args.low c.args.top raw (within c.args.most raw (omega arith) (omega arith)) edges (sym prices_are ∙ c.if-not-prices_good.false))
