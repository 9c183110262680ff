-- Goals of `run::put_within` that the search leaves. Assumes nothing.
use Rattle.std.proofs.Common.{◌≡◌, ℕ, ◌+◌, ◌*◌, ◌≤◌, length, replicate, refl, subst, ◌∙◌, arith, rules}
use lib.IntN.{ℤ, pos}
use lib.ListN.{length-replicate}
use Rattle.rules_state.specs.Layout.{rows_from, room_of_row, hour_room}
use Rattle.run.specs.Took.{OpenedBy}
use Rattle.run.proofs.TookLaws.{opens}
use Rattle.run.proofs.PartsLaws.{resources_few, ready}
use Rattle.run.proofs.put_within.Goals as goal

pub returns-then-most-opened-clause-all : goal.returns-then-most-opened-clause-all
returns-then-most-opened-clause-all g c h =
    let e = c.opening_of-opened.ensures in
    let z = c.requires.sizes in
    let r = c.opening_of-opened.result in
    let did = opens c.args.text.now _ c.opening_of-opened.new.state r _ refl e.answer e.state e.rest (omega (arith, h, z.0, z.1.1.1, length-replicate {A = ℤ} g.row.CELLS (pos 0))) in
    absurd (omega (arith, resources_few did, c.if-most-opened.true, h))

pub put_opened-requires-clause-ready : goal.put_opened-requires-clause-ready
put_opened-requires-clause-ready g c =
    let e = c.opening_of-opened.ensures in
    let z = c.requires.sizes in
    let r = c.opening_of-opened.result in
    let kept : length c.opening_of-opened.new.state ≡ g.row.CELLS = search rules in
    let few : r.resources ≤ c.args.most = omega (arith, c.if-most-opened.false) in
    let did = opens c.args.text.now _ c.opening_of-opened.new.state r _ refl e.answer e.state e.rest (omega (arith, few, z.0, length-replicate {A = ℤ} g.row.CELLS (pos 0))) in
    rw (z.1.0, z.1.1.0)
    (ready c.args.most (kept ∙ z.0) few
    (subst (λ (n : ℕ). OpenedBy c.args.text.now (replicate n (pos 0)) c.opening_of-opened.new.state r.number r.line r.next r.resources) z.0 did))
