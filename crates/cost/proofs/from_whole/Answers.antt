-- `cost::from_whole`: the tests in turn, of which the first that fails is the refusal. Assumes nothing.
use Rattle.std.proofs.Common.{◌≡◌, true, refl, sym, ◌∙◌}
use Rattle.rules_cost.specs.Costs.{points_good}
use Rattle.rules_cost.proofs.RefusalLaws.{too_few, too_many, right_count, refused_4, refused_5, refused_6, refused_7, only_8_left}
use Rattle.rules_library.specs.Slices.{costs_in}
use Rattle.cost.proofs.NumberLaws.{costs_by, in_sight}
use Rattle.cost.proofs.from_whole.Goals as goal

pub returns-then-n-lt-MIN_POINTS-clause-number : goal.returns-then-n-lt-MIN_POINTS-clause-number
returns-then-n-lt-MIN_POINTS-clause-number c =
    let e = refused_4 (costs_by c.args.n c.args.points.now c.args.charges.now) (too_few (costs_by c.args.n c.args.points.now c.args.charges.now) c.if-n-lt-MIN_POINTS.true) in
    rw (in_sight c.args.n c.args.points.now c.args.charges.now, e) refl

pub returns-then-n-lt-MIN_POINTS-clause-ends : goal.returns-then-n-lt-MIN_POINTS-clause-ends
returns-then-n-lt-MIN_POINTS-clause-ends c =
    let e = refused_4 (costs_by c.args.n c.args.points.now c.args.charges.now) (too_few (costs_by c.args.n c.args.points.now c.args.charges.now) c.if-n-lt-MIN_POINTS.true) in
    rw (in_sight c.args.n c.args.points.now c.args.charges.now, e) refl

pub returns-then-n-lt-MIN_POINTS-clause-cells : goal.returns-then-n-lt-MIN_POINTS-clause-cells
returns-then-n-lt-MIN_POINTS-clause-cells c =
    let e = refused_4 (costs_by c.args.n c.args.points.now c.args.charges.now) (too_few (costs_by c.args.n c.args.points.now c.args.charges.now) c.if-n-lt-MIN_POINTS.true) in
    rw (in_sight c.args.n c.args.points.now c.args.charges.now, e) refl

pub returns-then-n-gt-MAX_POINTS-clause-number : goal.returns-then-n-gt-MAX_POINTS-clause-number
returns-then-n-gt-MAX_POINTS-clause-number c =
    let e = refused_4 (costs_by c.args.n c.args.points.now c.args.charges.now) (too_many (costs_by c.args.n c.args.points.now c.args.charges.now) c.if-n-gt-MAX_POINTS.true) in
    rw (in_sight c.args.n c.args.points.now c.args.charges.now, e) refl

pub returns-then-n-gt-MAX_POINTS-clause-ends : goal.returns-then-n-gt-MAX_POINTS-clause-ends
returns-then-n-gt-MAX_POINTS-clause-ends c =
    let e = refused_4 (costs_by c.args.n c.args.points.now c.args.charges.now) (too_many (costs_by c.args.n c.args.points.now c.args.charges.now) c.if-n-gt-MAX_POINTS.true) in
    rw (in_sight c.args.n c.args.points.now c.args.charges.now, e) refl

pub returns-then-n-gt-MAX_POINTS-clause-cells : goal.returns-then-n-gt-MAX_POINTS-clause-cells
returns-then-n-gt-MAX_POINTS-clause-cells c =
    let e = refused_4 (costs_by c.args.n c.args.points.now c.args.charges.now) (too_many (costs_by c.args.n c.args.points.now c.args.charges.now) c.if-n-gt-MAX_POINTS.true) in
    rw (in_sight c.args.n c.args.points.now c.args.charges.now, e) refl

pub returns-then-not-quantities_good-clause-number : goal.returns-then-not-quantities_good-clause-number
returns-then-not-quantities_good-clause-number c =
    let d = costs_in c.args.n c.args.points.now c.args.charges.now in
    let counted : points_good d ≡ true = rw (in_sight c.args.n c.args.points.now c.args.charges.now) (right_count (costs_by c.args.n c.args.points.now c.args.charges.now) c.if-n-lt-MIN_POINTS.false c.if-n-gt-MAX_POINTS.false) in
    let e = refused_5 d counted (sym (c.quantities_good.ensures c.args.charges.now) ∙ c.if-not-quantities_good.true) in
    rw (e) refl

pub returns-then-not-quantities_good-clause-ends : goal.returns-then-not-quantities_good-clause-ends
returns-then-not-quantities_good-clause-ends c =
    let d = costs_in c.args.n c.args.points.now c.args.charges.now in
    let counted : points_good d ≡ true = rw (in_sight c.args.n c.args.points.now c.args.charges.now) (right_count (costs_by c.args.n c.args.points.now c.args.charges.now) c.if-n-lt-MIN_POINTS.false c.if-n-gt-MAX_POINTS.false) in
    let e = refused_5 d counted (sym (c.quantities_good.ensures c.args.charges.now) ∙ c.if-not-quantities_good.true) in
    rw (e) refl

pub returns-then-not-quantities_good-clause-cells : goal.returns-then-not-quantities_good-clause-cells
returns-then-not-quantities_good-clause-cells c =
    let d = costs_in c.args.n c.args.points.now c.args.charges.now in
    let counted : points_good d ≡ true = rw (in_sight c.args.n c.args.points.now c.args.charges.now) (right_count (costs_by c.args.n c.args.points.now c.args.charges.now) c.if-n-lt-MIN_POINTS.false c.if-n-gt-MAX_POINTS.false) in
    let e = refused_5 d counted (sym (c.quantities_good.ensures c.args.charges.now) ∙ c.if-not-quantities_good.true) in
    rw (e) refl

pub returns-then-not-heats_good-clause-number : goal.returns-then-not-heats_good-clause-number
returns-then-not-heats_good-clause-number c =
    let d = costs_in c.args.n c.args.points.now c.args.charges.now in
    let counted : points_good d ≡ true = rw (in_sight c.args.n c.args.points.now c.args.charges.now) (right_count (costs_by c.args.n c.args.points.now c.args.charges.now) c.if-n-lt-MIN_POINTS.false c.if-n-gt-MAX_POINTS.false) in
    let risen = sym (c.quantities_good.ensures c.args.charges.now) ∙ c.if-not-quantities_good.false in
    let e = refused_6 d counted risen (sym (c.heats_good.ensures c.args.charges.now) ∙ c.if-not-heats_good.true) in
    rw (e) refl

pub returns-then-not-heats_good-clause-ends : goal.returns-then-not-heats_good-clause-ends
returns-then-not-heats_good-clause-ends c =
    let d = costs_in c.args.n c.args.points.now c.args.charges.now in
    let counted : points_good d ≡ true = rw (in_sight c.args.n c.args.points.now c.args.charges.now) (right_count (costs_by c.args.n c.args.points.now c.args.charges.now) c.if-n-lt-MIN_POINTS.false c.if-n-gt-MAX_POINTS.false) in
    let risen = sym (c.quantities_good.ensures c.args.charges.now) ∙ c.if-not-quantities_good.false in
    let e = refused_6 d counted risen (sym (c.heats_good.ensures c.args.charges.now) ∙ c.if-not-heats_good.true) in
    rw (e) refl

pub returns-then-not-heats_good-clause-cells : goal.returns-then-not-heats_good-clause-cells
returns-then-not-heats_good-clause-cells c =
    let d = costs_in c.args.n c.args.points.now c.args.charges.now in
    let counted : points_good d ≡ true = rw (in_sight c.args.n c.args.points.now c.args.charges.now) (right_count (costs_by c.args.n c.args.points.now c.args.charges.now) c.if-n-lt-MIN_POINTS.false c.if-n-gt-MAX_POINTS.false) in
    let risen = sym (c.quantities_good.ensures c.args.charges.now) ∙ c.if-not-quantities_good.false in
    let e = refused_6 d counted risen (sym (c.heats_good.ensures c.args.charges.now) ∙ c.if-not-heats_good.true) in
    rw (e) refl

pub returns-then-not-prices_good-clause-number : goal.returns-then-not-prices_good-clause-number
returns-then-not-prices_good-clause-number c =
    let d = costs_in c.args.n c.args.points.now c.args.charges.now in
    let counted : points_good d ≡ true = rw (in_sight c.args.n c.args.points.now c.args.charges.now) (right_count (costs_by c.args.n c.args.points.now c.args.charges.now) c.if-n-lt-MIN_POINTS.false c.if-n-gt-MAX_POINTS.false) in
    let risen = sym (c.quantities_good.ensures c.args.charges.now) ∙ c.if-not-quantities_good.false in
    let heated = sym (c.heats_good.ensures c.args.charges.now) ∙ c.if-not-heats_good.false in
    let e = refused_7 d counted risen heated (sym (c.prices_good.ensures c.args.n c.args.points.now) ∙ c.if-not-prices_good.true) in
    rw (e) refl

pub returns-then-not-prices_good-clause-ends : goal.returns-then-not-prices_good-clause-ends
returns-then-not-prices_good-clause-ends c =
    let d = costs_in c.args.n c.args.points.now c.args.charges.now in
    let counted : points_good d ≡ true = rw (in_sight c.args.n c.args.points.now c.args.charges.now) (right_count (costs_by c.args.n c.args.points.now c.args.charges.now) c.if-n-lt-MIN_POINTS.false c.if-n-gt-MAX_POINTS.false) in
    let risen = sym (c.quantities_good.ensures c.args.charges.now) ∙ c.if-not-quantities_good.false in
    let heated = sym (c.heats_good.ensures c.args.charges.now) ∙ c.if-not-heats_good.false in
    let e = refused_7 d counted risen heated (sym (c.prices_good.ensures c.args.n c.args.points.now) ∙ c.if-not-prices_good.true) in
    rw (e) refl

pub returns-then-not-prices_good-clause-cells : goal.returns-then-not-prices_good-clause-cells
returns-then-not-prices_good-clause-cells c =
    let d = costs_in c.args.n c.args.points.now c.args.charges.now in
    let counted : points_good d ≡ true = rw (in_sight c.args.n c.args.points.now c.args.charges.now) (right_count (costs_by c.args.n c.args.points.now c.args.charges.now) c.if-n-lt-MIN_POINTS.false c.if-n-gt-MAX_POINTS.false) in
    let risen = sym (c.quantities_good.ensures c.args.charges.now) ∙ c.if-not-quantities_good.false in
    let heated = sym (c.heats_good.ensures c.args.charges.now) ∙ c.if-not-heats_good.false in
    let e = refused_7 d counted risen heated (sym (c.prices_good.ensures c.args.n c.args.points.now) ∙ c.if-not-prices_good.true) in
    rw (e) refl

pub stepped-requires-clause-points : goal.stepped-requires-clause-points
stepped-requires-clause-points c =
    rw (in_sight c.args.n c.args.points.now c.args.charges.now) (right_count (costs_by c.args.n c.args.points.now c.args.charges.now) c.if-n-lt-MIN_POINTS.false c.if-n-gt-MAX_POINTS.false)

pub returns-clause-number : goal.returns-clause-number
returns-clause-number c =
    let d = costs_in c.args.n c.args.points.now c.args.charges.now in
    let counted : points_good d ≡ true = rw (in_sight c.args.n c.args.points.now c.args.charges.now) (right_count (costs_by c.args.n c.args.points.now c.args.charges.now) c.if-n-lt-MIN_POINTS.false c.if-n-gt-MAX_POINTS.false) in
    let risen = sym (c.quantities_good.ensures c.args.charges.now) ∙ c.if-not-quantities_good.false in
    let heated = sym (c.heats_good.ensures c.args.charges.now) ∙ c.if-not-heats_good.false in
    let priced = sym (c.prices_good.ensures c.args.n c.args.points.now) ∙ c.if-not-prices_good.false in
    rw (only_8_left d counted risen heated priced) c.stepped.ensures.number

pub returns-clause-ends : goal.returns-clause-ends
returns-clause-ends c =
    let d = costs_in c.args.n c.args.points.now c.args.charges.now in
    let counted : points_good d ≡ true = rw (in_sight c.args.n c.args.points.now c.args.charges.now) (right_count (costs_by c.args.n c.args.points.now c.args.charges.now) c.if-n-lt-MIN_POINTS.false c.if-n-gt-MAX_POINTS.false) in
    let risen = sym (c.quantities_good.ensures c.args.charges.now) ∙ c.if-not-quantities_good.false in
    let heated = sym (c.heats_good.ensures c.args.charges.now) ∙ c.if-not-heats_good.false in
    let priced = sym (c.prices_good.ensures c.args.n c.args.points.now) ∙ c.if-not-prices_good.false in
    rw (only_8_left d counted risen heated priced) c.stepped.ensures.ends

pub returns-clause-cells : goal.returns-clause-cells
returns-clause-cells c =
    let d = costs_in c.args.n c.args.points.now c.args.charges.now in
    let counted : points_good d ≡ true = rw (in_sight c.args.n c.args.points.now c.args.charges.now) (right_count (costs_by c.args.n c.args.points.now c.args.charges.now) c.if-n-lt-MIN_POINTS.false c.if-n-gt-MAX_POINTS.false) in
    let risen = sym (c.quantities_good.ensures c.args.charges.now) ∙ c.if-not-quantities_good.false in
    let heated = sym (c.heats_good.ensures c.args.charges.now) ∙ c.if-not-heats_good.false in
    let priced = sym (c.prices_good.ensures c.args.n c.args.points.now) ∙ c.if-not-prices_good.false in
    rw (only_8_left d counted risen heated priced) c.stepped.ensures.cells
