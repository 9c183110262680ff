-- `verdict_cells::verdict_in` meets its contract. Assumes nothing.
use Rattle.std.proofs.Common.{◌≡◌, ℕ, ◌%◌, List, ap, ◌∙◌}
use Rattle.rules_number.proofs.Kit.{came}
use Rattle.rules_path.specs.declared.Finding.{Finding}
use Rattle.rules_path.specs.declared.Verdict.{Verdict}
use Rattle.rules_state.specs.Verdicts.{finding_by, verdict_in}
use Rattle.verdict_cells.proofs.verdict_in.Goals as goal

by_fields : {f f' : Finding} {d d' k k' n n' : ℕ} {w w' : List ℕ} → f ≡ f' → d ≡ d' → k ≡ k' → n ≡ n' → w ≡ w'
    → ◌≡◌ {A = Verdict} (record { finding = f; demand = d; left = k; named = n; withheld = w }) (record { finding = f'; demand = d'; left = k'; named = n'; withheld = w' })
by_fields e f g h i = cc

pub returns : goal.returns
unfolding verdict_in
returns c =
    let x = c.cell_at in
    by_fields (c.finding_by.ensures ∙ ap finding_by (came x.result x.type_inv ∙ x.ensures)) c.whole_at.ensures c.whole_at-2.ensures (ap (λ (m : ℕ). m % 4294967296) c.whole_at-3.ensures)
    c.portfolios_in.ensures
