-- `noskjerf_why::noskjerf_sellers`: the ones of the number that names the sellers. Assumes nothing.
use Rattle.std.proofs.Common.{◌%◌, ◌≤◌, sym, ap, ◌∙◌, arith, pos, w64}
use native.Mathlib.Nat.{le_trans, le_of_eq}
use mir.Facts.{to_z_pos}
use lib.Count.{ones-le}
use Rattle.rules_state.proofs.WrittenSlices.{sellers_are, sellers_short, sellers_past}
use Rattle.noskjerf_why.proofs.noskjerf_sellers.Goals as goal
use Rattle.noskjerf_why.proofs.noskjerf_sellers.Goals.{After-sellers_named}

-- 32 bits have at most 32 ones
few : (c : After-sellers_named) → c.sellers_named.result ≤ 32
few c = le_trans (le_of_eq c.sellers_named.ensures) (ones-le 32 (c.whole_at-named.result % 4294967296) (omega arith))

pub returns-then-verdicts-lt-VERDICT_ROOM : goal.returns-then-verdicts-lt-VERDICT_ROOM
returns-then-verdicts-lt-VERDICT_ROOM c = sym (sellers_short c.args.verdicts.now c.args.c (omega arith))

pub returns-then-c-ge-MAX_CONSTRAINTS : goal.returns-then-c-ge-MAX_CONSTRAINTS
returns-then-c-ge-MAX_CONSTRAINTS c = sym (sellers_past c.args.verdicts.now c.args.c (omega arith) (omega arith))

pub returns : goal.returns
returns c =
    let f = few (goal.at.returns c).After-sellers_named in
    to_z_pos w64 {n = c.sellers_named.result} (omega (arith, f)) ∙ ap pos c.sellers_named.ensures
    ∙ sym (sellers_are c.args.verdicts.now c.args.c c.whole_at-named.result (omega arith) (omega arith) c.whole_at-named.ensures)
