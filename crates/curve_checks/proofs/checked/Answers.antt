-- `curve_checks::checked` meets its contract. Assumes nothing.
use Rattle.std.proofs.Common.{◌≡◌, ℕ, ◌<◌, ◌≤◌, true, false, refl, sym, ◌∙◌, arith, w64}
use borrow.Author.Tests.{le-leb, lt-leb}
use mir.ValLaws.{to_z-of_z}
use Rattle.rules_curve.specs.Curves.{count_good}
use Rattle.rules_curve.specs.declared.RawCurve.{RawCurve}
use Rattle.rules_curve.proofs.CheckLaws.{refused_count, refused_edge, refused_price, taken_curve}
use Rattle.curve_checks.proofs.checked.Goals as goal
use Rattle.curve_checks.proofs.checked.Goals.{then-raw-eq0-via-then-raw-eq0, then-raw-eq0-via-else-raw-eq0+then-most-raw}

-- the count's test
over : (most : ℕ) (c : RawCurve) → most < c.count → count_good most c ≡ false
over most c h = rw (le-leb 1 c.count (omega arith), lt-leb c.count most h)

within : (most : ℕ) (c : RawCurve) → 1 ≤ c.count → c.count ≤ most → count_good most c ≡ true
within most c l h = rw (le-leb 1 c.count l, le-leb c.count most h)

pub returns-then-raw-eq0 : goal.returns-then-raw-eq0
returns-then-raw-eq0 c =
    let a = c.args in
    let n : count_good a.most a.raw ≡ false = elim c.then-raw-eq0.branch [
      | then-raw-eq0-via-then-raw-eq0 w ↦ rw w.if-raw-eq0.true refl
      | then-raw-eq0-via-else-raw-eq0+then-most-raw w ↦ over a.most a.raw w.if-most-raw.true
    ] in
    rw (refused_count a.most a.low a.top a.raw n) (record { number = refl; curve = refl })

pub returns-then-not-edges_good : goal.returns-then-not-edges_good
returns-then-not-edges_good c =
    let a = c.args in
    let e = sym c.edges_good.ensures ∙ c.if-not-edges_good.true in
    rw (refused_edge a.most a.low a.top a.raw (within a.most a.raw (omega arith) (omega arith)) e) (record { number = refl; curve = refl })

pub returns-then-not-prices_good : goal.returns-then-not-prices_good
returns-then-not-prices_good c =
    let a = c.args in
    let e = sym c.edges_good.ensures ∙ c.if-not-edges_good.false in
    let fl = to_z-of_z w64 a.low c.ranges.low in
    let ft = to_z-of_z w64 a.top c.ranges.top in
    let p = sym (simp (fl, ft) at c.prices_good.ensures) ∙ c.if-not-prices_good.true in
    rw (refused_price a.most a.low a.top a.raw (within a.most a.raw (omega arith) (omega arith)) e p) (record { number = refl; curve = refl })

pub returns : goal.returns
returns c =
    let a = c.args in
    let e = sym c.edges_good.ensures ∙ c.if-not-edges_good.false in
    let fl = to_z-of_z w64 a.low c.ranges.low in
    let ft = to_z-of_z w64 a.top c.ranges.top in
    let p = sym (simp (fl, ft) at c.prices_good.ensures) ∙ c.if-not-prices_good.false in
    rw (c.settled.ensures, taken_curve a.most a.low a.top a.raw (within a.most a.raw (omega arith) (omega arith)) e p) (record { number = refl; curve = refl })
