use Rattle.std.proofs.Common.{◌≡◌, ℕ, take, sym, ◌∙◌, refl, arith}
use Rattle.rules_run.specs.Run.{output, end_of}
use Rattle.rules_run.specs.declared.Ran.{Ran}
use Rattle.rules_run.specs.declared.Ran.TheVariants as ran
use Rattle.streams.proofs.StreamLaws.{too_small, within, handed}
use Rattle.streams.proofs.mitigate.Goals as goal

-- what isn't printed has too little room
only_too_small : (r : Ran) → ((k n l : ℕ) → r ≡ ran.Printed k n l → ⊥) → r ≡ ran.TooSmall
only_too_small (ran.Printed k n l) h = absurd (h k n l refl)
only_too_small ran.TooSmall h = refl

pub returns-in_default-run-clause-page : goal.returns-in_default-run-clause-page
returns-in_default-run-clause-page c =
    let t = take c.in-Ok.n c.read_all.new.text in
    (too_small c.args.page.now (output t) (end_of t) c.read_all.new.text c.run.new.out c.run.ensures.buffer (sym (only_too_small c.run.result c.in_default-run.not-Printed) ∙ c.run.ensures.count)).1.0

pub returns-in_default-run-clause-small : goal.returns-in_default-run-clause-small
returns-in_default-run-clause-small c =
    let t = take c.in-Ok.n c.read_all.new.text in
    (too_small c.args.page.now (output t) (end_of t) c.read_all.new.text c.run.new.out c.run.ensures.buffer (sym (only_too_small c.run.result c.in_default-run.not-Printed) ∙ c.run.ensures.count)).1.1.1

pub written-requires : goal.written-requires
written-requires c =
    let t = take c.in-Ok.n c.read_all.new.text in
    omega (arith, within c.args.page.now (output t) (end_of t) _ _ _ (sym c.in-Printed.is ∙ c.run.ensures.count) c.run.ensures.whole)

pub returns-clause-handed : goal.returns-clause-handed
returns-clause-handed c =
    let t = take c.in-Ok.n c.read_all.new.text in
    (handed c.written.result c.in-Ok.n c.in-Printed.k _ _ (end_of t) c.read_all.new.text c.args.page.now c.run.new.out c.written.ensures (omega arith) c.run.ensures.buffer
    (sym c.in-Printed.is ∙ c.run.ensures.count)).1.1.0
