-- Goals of `print::put_value` that the search leaves. Assumes nothing.
use Rattle.std.proofs.Common.{◌≡◌, ℕ, ◌+◌, List, [], ◌∷◌, ◌++◌, length, refl, sym, ap, ◌∙◌, arith}
use Rattle.std.proofs.lemmas.List.Edits.{sets}
use Rattle.std.proofs.Math.ListN.{set, length-set}
use Rattle.std.proofs.Math.IntN.{nat_abs}
use Rattle.rules_number.proofs.Kit.{came}
use Rattle.rules_text.specs.Printing.{digits, decimal}
use Rattle.rules_text.proofs.PrintLaws.{abs_small, decimal_minus, decimal_plus}
use Rattle.print.proofs.DigitLaws.{after}
use Rattle.print.proofs.put_value.Goals as goal
use Rattle.print.proofs.put_value.Goals.{After-unsigned_abs, After-unsigned_abs-2}

sized : (c : After-unsigned_abs) → c.unsigned_abs.result ≡ nat_abs c.args.x
sized c = c.unsigned_abs.ensures.value ∙ ap nat_abs (came c.args.x c.ranges.x.sfits)

sized-2 : (c : After-unsigned_abs-2) → c.unsigned_abs-2.result ≡ nat_abs c.args.x
sized-2 c = c.unsigned_abs-2.ensures.value ∙ ap nat_abs (came c.args.x c.ranges.x.sfits)

minus : (c : After-unsigned_abs) → decimal c.args.x ≡ 45 ∷ digits 19 (nat_abs c.args.x)
minus c = decimal_minus c.args.x (rw (came c.args.x c.ranges.x.sfits) at c.if-x-lt0.true)

plus : (c : After-unsigned_abs-2) → decimal c.args.x ≡ digits 19 (nat_abs c.args.x)
plus c = decimal_plus c.args.x (rw (came c.args.x c.ranges.x.sfits) at c.if-x-lt0.false)

pub put_closed-requires : goal.put_closed-requires
put_closed-requires c =
    let m = (goal.at.put_closed-requires c).After-unsigned_abs in
    let k = ap (λ (n : ℕ). length (digits 19 n)) (sized m) in
    (omega (arith, sized m, abs_small c.args.x c.ranges.x.sfits), omega (arith, k, length-set c.args.out.now c.args.at 45, ap length (minus m), c.requires))

pub returns-then-x-lt0 : goal.returns-then-x-lt0
returns-then-x-lt0 c =
    let m = (goal.at.returns-then-x-lt0 c).After-unsigned_abs in
    let a = c.args in
    let p = c.put_closed in
    let k = ap (λ (n : ℕ). length (digits 19 n)) (sized m) in
    let one = set a.out.now a.at 45 in (
      p.ensures.0 ∙ ap (λ (n : ℕ). sets one (a.at + 1) (digits 19 n ++ (a.end ∷ []))) (sized m)
          ∙ after a.out.now one a.at (a.at + 1) (45 ∷ []) (digits 19 (nat_abs a.x) ++ (a.end ∷ [])) (decimal a.x ++ (a.end ∷ [])) refl refl (ap (λ (l : List ℕ). l ++ (a.end ∷ [])) (sym (minus m))),
      omega (arith, p.ensures.1, k, ap length (minus m)),
    )

pub put_closed-requires-2 : goal.put_closed-requires-2
put_closed-requires-2 c =
    let m = (goal.at.put_closed-requires-2 c).After-unsigned_abs-2 in
    let k = ap (λ (n : ℕ). length (digits 19 n)) (sized-2 m) in
    (omega (arith, sized-2 m, abs_small c.args.x c.ranges.x.sfits), omega (arith, k, ap length (plus m), c.requires))

pub returns : goal.returns
returns c =
    let m = (goal.at.returns c).After-unsigned_abs-2 in
    let a = c.args in
    let p = c.put_closed-2 in
    let e = ap (digits 19) (sized-2 m) ∙ sym (plus m) in
    (p.ensures.0 ∙ ap (λ (l : List ℕ). sets a.out.now a.at (l ++ (a.end ∷ []))) e, omega (arith, p.ensures.1, ap length e))
