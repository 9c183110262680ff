-- Goals of `print::put_mark` that the search leaves. Assumes nothing.
use Rattle.std.proofs.Common.{◌≡◌, ℕ, ◌<◌, List, [], ◌∷◌, ◌++◌, length, sym, ap, ◌∙◌, arith, false}
use Rattle.std.proofs.lemmas.List.Edits.{sets}
use Rattle.std.proofs.Math.IntN.{pos, nat_abs}
use Rattle.rules_number.proofs.Kit.{came}
use Rattle.rules_text.specs.Printing.{digits, decimal}
use Rattle.rules_text.proofs.PrintLaws.{decimal_plus}
use Rattle.print.proofs.DigitLaws.{one_digit}
use Rattle.std.specs.Int.Signed.{lt_z}
use Rattle.print.proofs.put_mark.Goals as goal
use Rattle.print.proofs.put_mark.Goals.{After-unsigned_abs}

-- what the test tells of a digit
told : (c : After-unsigned_abs) → (lt_z c.args.x (pos 0) ≡ false) × (nat_abs c.args.x < 10)
told c = rw (came c.args.x c.ranges.x.sfits) at (c.is_below.ensures c.if-is_below.true)

sized : (c : After-unsigned_abs) → c.unsigned_abs.result ≡ nat_abs c.args.x
sized c = c.unsigned_abs.ensures.value ∙ ap nat_abs (came c.args.x c.ranges.x.sfits)

whole : (c : After-unsigned_abs) → digits 19 c.unsigned_abs.result ≡ decimal c.args.x
whole c = ap (digits 19) (sized c) ∙ sym (decimal_plus c.args.x (told c).0)

pub put_digit-requires : goal.put_digit-requires
put_digit-requires c =
    let m = (goal.at.put_digit-requires c).After-unsigned_abs in
    let few : c.unsigned_abs.result < 10 = omega (arith, sized m, (told m).1) in
    (few, omega (arith, ap length (one_digit c.unsigned_abs.result few), ap length (whole m), c.requires))

pub returns-then-is_below : goal.returns-then-is_below
returns-then-is_below c =
    let m = (goal.at.returns-then-is_below c).After-unsigned_abs in
    let a = c.args in
    let p = c.put_digit in
    (p.ensures.0 ∙ ap (λ (l : List ℕ). sets a.out.now a.at (l ++ (a.end ∷ []))) (whole m), omega (arith, p.ensures.1, ap length (whole m)))
