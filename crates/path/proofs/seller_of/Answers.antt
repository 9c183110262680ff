-- `path::seller_of`: what stands in the cells of the market. Assumes nothing.
use mathlib.Core.Path.{◌≡◌, refl, sym, ap, ◌∙◌}
use mathlib.Core.List.{List}
use Prim.Native.Nat.{ℕ, ◌+◌, ◌<◌}
use native.Mathlib.Omega.{arith}
use lib.IntN.{ℤ, pos, negsuc}
use mir.Syntax.{w64}
use mir.Val.{of_z}
use Rattle.rules_number.specs.Order.{nat_of}
use Rattle.rules_number.proofs.Kit.{bits_same, pos_fits}
use Rattle.rules_number.proofs.OverLaws.{listed_at}
use Rattle.rules_library.specs.Slices.{cell_at}
use Rattle.rules_path.specs.Paths.{at}
use Rattle.rules_state.specs.Layout.{most_resources, most_portfolios, market_from}
use Rattle.rules_state.specs.States.{market_in, wholes_in}
use Rattle.path.proofs.SellerLaws.{sells, none, seller_is}
use Rattle.path.proofs.seller_of.Goals as goal
use Rattle.path.proofs.seller_of.Goals.{After-whole_at-p, After-cell_at-mark}

portfolio_at : (state : List ℤ) (r : ℕ) → r < 64 → at (market_in state).portfolio r ≡ nat_of (cell_at state (market_from + 1 + r))
unfolding market_in wholes_in
portfolio_at state r h = listed_at (λ i. nat_of (cell_at state (market_from + 1 + i))) 0 most_resources r h

mark_at : (state : List ℤ) (p : ℕ) → p < 16 → at (market_in state).seller p ≡ nat_of (cell_at state (market_from + 1 + most_resources + p))
unfolding market_in wholes_in
mark_at state p h = listed_at (λ i. nat_of (cell_at state (market_from + 1 + most_resources + i))) 0 most_portfolios p h

one : (z : ℤ) → nat_of z ≡ 1 → z ≡ pos 1
one (pos n) e = ap pos e
one (negsuc n) e = absurd (omega arith)

read : (c : After-whole_at-p) → c.whole_at-p.result ≡ at (market_in c.args.state.now).portfolio c.args.r
read c = c.whole_at-p.ensures ∙ sym (portfolio_at c.args.state.now c.args.r c.requires)

marked : (c : After-cell_at-mark) → c.whole_at-p.result ≡ at (market_in c.args.state.now).portfolio c.args.r
    → nat_of c.cell_at-mark.result ≡ at (market_in c.args.state.now).seller (at (market_in c.args.state.now).portfolio c.args.r)
marked c e =
    let state = c.args.state.now in
    ap nat_of c.cell_at-mark.ensures ∙ sym (mark_at state c.whole_at-p.result c.if-p-ge-MAX_PORTFOLIOS.false) ∙ ap (at (market_in state).seller) e

pub returns-then-p-ge-MAX_PORTFOLIOS-clause-seller : goal.returns-then-p-ge-MAX_PORTFOLIOS-clause-seller
returns-then-p-ge-MAX_PORTFOLIOS-clause-seller c =
    let p = goal.at.returns-then-p-ge-MAX_PORTFOLIOS-clause-seller c in
    seller_is (market_in c.args.state.now) c.args.r 16 (none (λ l k. omega (arith, read p.After-whole_at-p)) refl)

pub returns-then-mark-eq1-clause-seller : goal.returns-then-mark-eq1-clause-seller
returns-then-mark-eq1-clause-seller c =
    let p = goal.at.returns-then-mark-eq1-clause-seller c in
    let e = read p.After-whole_at-p in
    let is : c.cell_at-mark.result ≡ pos 1 = bits_same c.cell_at-mark.result (pos 1) (record { sfits = c.cell_at-mark.type_inv }) (pos_fits 1 tt) c.if-mark-eq1.true in
    seller_is (market_in c.args.state.now) c.args.r c.whole_at-p.result (sells (omega (arith, e)) (sym (marked p.After-cell_at-mark e) ∙ ap nat_of is) e)

pub returns-clause-seller : goal.returns-clause-seller
returns-clause-seller c =
    let p = goal.at.returns-clause-seller c in
    let e = read p.After-whole_at-p in
    seller_is (market_in c.args.state.now) c.args.r 16 (none (λ l k. c.if-mark-eq1.false (ap (of_z w64) (one c.cell_at-mark.result (marked p.After-cell_at-mark e ∙ k)))) refl)
