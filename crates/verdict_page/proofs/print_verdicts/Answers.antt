-- Goals of `verdict_page::print_verdicts` that the search leaves. Assumes nothing.
use Rattle.std.specs.Prelude.{Some}
use Rattle.std.proofs.Common.{◌≡◌, ℕ, ◌+◌, ◌≤◌, List, [], ◌++◌, length, refl, sym, ◌∙◌, arith, true}
use mathlib.Core.List.{append-nil}
use borrow.Author.Tests.{leb-true}
use Rattle.rules_page.specs.Pages.{verdict_names, seller_names, verdict_table, seller_table, verdict_text, verdict_room, is_room, put_within, put_within_to}
use Rattle.rules_state.specs.Verdicts.{verdicts_in}
use Rattle.page.proofs.PageLaws.{Putting, putting_start, putting_next, putting_done, within_none, within_some}
use Rattle.verdict_page.proofs.print_verdicts.Goals as goal
use Rattle.verdict_page.proofs.print_verdicts.Goals.{After-put_sellers}

pub returns-then-not-has_room-clause-buffer : goal.returns-then-not-has_room-clause-buffer
returns-then-not-has_room-clause-buffer c =
    let a = c.args in
    (within_none verdict_room a.out.now a.at (verdict_text a.i a.constraints (verdicts_in a.verdicts.now)) (sym c.has_room.ensures ∙ c.if-not-has_room.true)).0

pub returns-then-not-has_room-clause-next : goal.returns-then-not-has_room-clause-next
returns-then-not-has_room-clause-next c =
    let a = c.args in
    (within_none verdict_room a.out.now a.at (verdict_text a.i a.constraints (verdicts_in a.verdicts.now)) (sym c.has_room.ensures ∙ c.if-not-has_room.true)).1

-- the text, and what is left of it after each piece
abbrev page : After-put_sellers → List ℕ
page c = verdict_text c.args.i c.args.constraints (verdicts_in c.args.verdicts.now)

abbrev rest3 : After-put_sellers → List ℕ
rest3 c = seller_table c.args.i c.args.constraints (verdicts_in c.args.verdicts.now)

abbrev rest2 : After-put_sellers → List ℕ
rest2 c = seller_names ++ rest3 c

abbrev rest1 : After-put_sellers → List ℕ
rest1 c = verdict_table c.args.i c.args.constraints (verdicts_in c.args.verdicts.now) ++ rest2 c

-- the room that was tested
holds-room : (c : After-put_sellers) → is_room verdict_room c.args.out.now c.args.at ≡ true
holds-room c = sym c.has_room.ensures ∙ c.if-not-has_room.false

room : (c : After-put_sellers) → c.args.at + verdict_room ≤ length c.args.out.now
room c = leb-true (c.args.at + verdict_room) (length c.args.out.now) (holds-room c)

-- how far it is put: the rest is still to come, and so many bytes are used at most
abbrev Stage : After-put_sellers → List ℕ → ℕ → List ℕ → ℕ → Type 0
Stage c now p rest most = Putting c.args.out.now c.args.at (page c) now p rest × (p ≤ c.args.at + most)

stage1 : (c : After-put_sellers) → Stage c c.put_names-a.new.out c.put_names-a.result (rest1 c) 40
unfolding verdict_text
stage1 c =
    let e = c.put_names-a.ensures.whole (omega (arith, room c)) in
    (putting_next (putting_start c.args.out.now c.args.at (page c)) verdict_names (rest1 c) c.put_names-a.new.out c.put_names-a.result refl e.0 e.1, omega (arith, e.1))

stage2 : (c : After-put_sellers) → Stage c c.put_verdicts-b.new.out c.put_verdicts-b.result (rest2 c) 3400
stage2 c =
    let s = c.args in
    let k = stage1 c in
    let b = c.put_verdicts-b in
    (putting_next k.0 (verdict_table s.i s.constraints (verdicts_in s.verdicts.now)) (rest2 c) b.new.out b.result refl b.ensures.buffer b.ensures.next, omega (arith, b.ensures.few, k.1))

stage3 : (c : After-put_sellers) → Stage c c.put_names-c.new.out c.put_names-c.result (rest3 c) 3439
stage3 c =
    let k = stage2 c in
    let e = c.put_names-c.ensures.whole (omega (arith, room c, k.0.long, k.1)) in
    (putting_next k.0 seller_names (rest3 c) c.put_names-c.new.out c.put_names-c.result refl e.0 e.1, omega (arith, e.1, k.1))

stage4 : (c : After-put_sellers) → Stage c c.put_sellers.new.out c.put_sellers.result [] 46447
stage4 c =
    let k = stage3 c in
    let p = c.put_sellers in
    (putting_next k.0 (rest3 c) [] p.new.out p.result (sym (append-nil (rest3 c))) p.ensures.buffer p.ensures.next, omega (arith, p.ensures.few, k.1))

both : (c : After-put_sellers) → (c.put_sellers.new.out ≡ put_within verdict_room c.args.out.now c.args.at (page c)) × (Some c.put_sellers.result ≡ put_within_to verdict_room c.args.out.now c.args.at (page c))
both c =
    let d = putting_done (stage4 c).0 refl in
    within_some verdict_room c.args.out.now c.args.at (page c) c.put_sellers.new.out c.put_sellers.result (holds-room c) d.0 d.1

pub returns-clause-buffer : goal.returns-clause-buffer
returns-clause-buffer c = (both (goal.at.returns-clause-buffer c).After-put_sellers).0

pub returns-clause-next : goal.returns-clause-next
returns-clause-next c = (both (goal.at.returns-clause-next c).After-put_sellers).1

few : (c : After-put_sellers) → length (page c) ≤ verdict_room
few c =
    let k = stage4 c in
    omega (arith, k.1, (putting_done k.0 refl).1)

pub returns-clause-whole : goal.returns-clause-whole
returns-clause-whole c = λ h. few (goal.at.returns-clause-whole c).After-put_sellers
