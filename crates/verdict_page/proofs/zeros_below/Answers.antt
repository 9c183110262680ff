-- Goals of `verdict_page::zeros_below` that the search leaves. Assumes nothing.
use Rattle.verdict_page.proofs.OrderLaws.{low_zeros, low_one}
use Rattle.verdict_page.proofs.zeros_below.Goals as goal

pub returns-clause-zeros : goal.returns-clause-zeros
returns-clause-zeros c = low_zeros 32 c.args.bits

pub returns-clause-one : goal.returns-clause-one
returns-clause-one c = low_one 32 c.args.bits c.requires c.ranges.bits.fits
