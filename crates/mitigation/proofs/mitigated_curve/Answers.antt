-- `mitigation::mitigated_curve` meets its contract. Assumes nothing.
use Rattle.std.proofs.Common.{◌∙◌}
use Rattle.rules_number.proofs.OverLaws.{padded_used}
use Rattle.rules_mitigation.specs.Mitigation.{mitigated}
use Rattle.mitigation.proofs.mitigated_curve.Goals as goal

pub returns : goal.returns
unfolding mitigated
returns c = c.merged.ensures ∙ rw (c.divided.ensures, padded_used)
