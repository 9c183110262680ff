use Rattle.std.proofs.Common.{rules}
use Rattle.path.proofs.SoundLaws.{few}
use Rattle.path.proofs.checked_sellers.Goals as goal

pub sellers_in-ports-requires : goal.sellers_in-ports-requires
sellers_in-ports-requires c = (few c.whole_at-known.result c.args.asked.now c.in_ok-checked.ensures, search rules)
