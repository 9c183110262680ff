-- `designation::is_competitive`: by the tests.
use Rattle.designation.proofs.CheckLaws.{too_few, too_many, compared}
use Rattle.designation.proofs.is_competitive.Goals as goal

pub returns-then-bound-lt-LEAST_BOUND : goal.returns-then-bound-lt-LEAST_BOUND
returns-then-bound-lt-LEAST_BOUND c = too_few _ _ c.if-bound-lt-LEAST_BOUND.true

pub returns-then-bound-noncompetitive : goal.returns-then-bound-noncompetitive
returns-then-bound-noncompetitive c = too_many _ _ c.if-bound-lt-LEAST_BOUND.false c.if-bound-noncompetitive.true

pub returns : goal.returns
returns c = compared _ _ c.if-bound-lt-LEAST_BOUND.false
