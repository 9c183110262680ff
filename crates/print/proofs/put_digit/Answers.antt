-- Goals of `print::put_digit` that the search leaves. Assumes nothing.
use Rattle.std.proofs.Common.{◌+◌, [], ◌∷◌, refl, ap, arith}
use Rattle.std.proofs.Math.ListN.{set}
use Rattle.print.proofs.DigitLaws.{ends, one_digit}
use Rattle.print.proofs.put_digit.Goals as goal

pub returns : goal.returns
returns c =
    let a = c.args in
    ends a.out.now (set a.out.now a.at c.digit.result) a.at (a.at + 1) (a.at + 2) a.n a.end ((48 + a.n) ∷ []) (one_digit a.n c.requires.0)
    (ap (set a.out.now a.at) c.digit.ensures) refl (omega arith)
