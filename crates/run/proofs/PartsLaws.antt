-- What a run prints after the part that opens an hour. Assumes nothing.
use Prim.Native.Nat.{ℕ, ◌+◌, ◌*◌, ◌≤◌, ◌<◌}
use mathlib.Core.Path.{◌≡◌, sym, ap, subst, ◌∙◌}
use mathlib.Core.List.{List}
use native.Mathlib.Omega.{arith}
use lib.IntN.{ℤ, pos}
use lib.ListN.{length, drop, replicate, length-replicate}
use Rattle.rules_opening.specs.declared.Opening.{Opening}
use Rattle.rules_opening.specs.Openings.{opening_refusal, market_of}
use Rattle.rules_mitigation.specs.Mitigation.{most_mitigated_steps}
use Rattle.rules_hour.specs.Hours.{Hour}
use Rattle.rules_hour.specs.Opened.{hour_unless, fresh_hour, opened_hour}
use Rattle.rules_text.specs.Numbers.{lines}
use Rattle.rules_text.specs.Printing.{refusal_text}
use Rattle.rules_text.proofs.LineLaws.{lines_few}
use Rattle.rules_state.specs.Layout.{rows_from, room_of_row}
use Rattle.rules_state.specs.States.{hour_in}
use Rattle.rules_run.specs.Run.{hour_text, parts_text, ended_by, hour_end, parts_end}
use Rattle.rules_run.proofs.RunLaws.{parts_faulty, parts_faulty_few, parts_refused, parts_accepted, parts_left, opened_fresh}
use Rattle.rules_run.proofs.EndLaws.{parts_faulty_end, parts_refused_end, parts_accepted_end}
use Rattle.rules_state.proofs.OpenedLaws.{hour_opened}
use Rattle.run.specs.Took.{OpenedBy, misread, unopened, opened, Ready}
use Rattle.run.proofs.CellLaws.{opening_few, opened_resources}

module _ {s : List ℕ} {state after : List ℤ} {number last next resources : ℕ} where
  -- a faulty line, or a refusal, is all that is printed
  pub unopened_text : OpenedBy s state after number last next resources → 0 < number → parts_text (lines s) ≡ refusal_text number last
  unopened_text (misread e h z) some = parts_faulty (lines s) last e ∙ ap (λ (n : ℕ). refusal_text n last) (let g : 17 ≡ number = omega (arith, h) in g)
  unopened_text (unopened o rest e g h z) some = parts_refused (lines s) o last rest e number g h
  unopened_text (opened o e h g c a) some = absurd (omega (arith, some, h))

  pub unopened_end : OpenedBy s state after number last next resources → 0 < number → parts_end (lines s) ≡ ended_by number last
  unopened_end (misread e h z) some = parts_faulty_end (lines s) last e ∙ ap (λ (n : ℕ). ended_by n last) (let g : 17 ≡ number = omega (arith, h) in g)
  unopened_end (unopened o rest e g h z) some = parts_refused_end (lines s) o last rest e number g h
  unopened_end (opened o e h g c a) some = absurd (omega (arith, some, h))

  pub unopened_few : OpenedBy s state after number last next resources → 0 < number → length s ≤ 65536 → (number ≤ 99) × (last ≤ 200000)
  unopened_few (misread e h z) some l = (omega (arith, h), omega (arith, parts_faulty_few (lines s) last e, lines_few s, l))
  unopened_few (unopened o rest e g h z) some l = (omega (arith, g, opening_few o), omega (arith, parts_left (lines s) o last rest e, lines_few s, l))
  unopened_few (opened o e h g c a) some l = absurd (omega (arith, some, h))

  -- an hour has at most 64 resources
  pub resources_few : OpenedBy s state after number last next resources → resources ≤ 64
  resources_few (misread e h z) = omega (arith, z)
  resources_few (unopened o rest e g h z) = omega (arith, z)
  resources_few (opened o e h g c a) = omega (arith, c, opened_resources o g)

-- an opened hour has the resources of its opening
opened_many : (o : Opening) → opening_refusal o ≡ 0 → (opened_hour o).market.resources ≡ o.resources
unfolding opened_hour fresh_hour market_of
opened_many o e = ap (λ (n : ℕ). (hour_unless n (fresh_hour o)).market.resources) e

-- an opened hour in cells that were zeros
pub record Begun (s : List ℕ) (after : List ℤ) (last next resources : ℕ) : Type 0 where
  pub fresh : (hour_in after).hour.standing.accepted ≡ 0
  pub text : parts_text (lines s) ≡ hour_text (hour_in after).hour last (lines (drop next s))
  pub end : parts_end (lines s) ≡ hour_end (hour_in after).hour last (lines (drop next s))
  pub left : last + length (lines (drop next s)) ≤ length s
  pub many : (hour_in after).hour.market.resources ≡ resources

pub begun : {s : List ℕ} {after : List ℤ} {number last next resources : ℕ} (n : ℕ) → rows_from + room_of_row * resources ≤ n
    → OpenedBy s (replicate n (pos 0)) after number last next resources → number ≡ 0 → Begun s after last next resources
begun n l (misread e h z) k = absurd (omega (arith, k, h))
begun n l (unopened o rest e g h z) k = absurd (omega (arith, k, h))
begun {s} {after} {number} {last} {next} {resources} n l (opened o e h g c a) k =
    let room : rows_from + room_of_row * o.resources ≤ n = omega (arith, l, c) in
    let same : (hour_in after).hour ≡ _ = ap (λ (x : List ℤ). (hour_in x).hour) a ∙ hour_opened o g n room in
    record {
      fresh = ap (λ (x : Hour). x.standing.accepted) same ∙ opened_fresh o;
      text = parts_accepted (lines s) o last (lines (drop next s)) e g ∙ ap (λ (x : Hour). hour_text x last (lines (drop next s))) (sym same);
      end = parts_accepted_end (lines s) o last (lines (drop next s)) e g ∙ ap (λ (x : Hour). hour_end x last (lines (drop next s))) (sym same);
      left = omega (arith, parts_left (lines s) o last (lines (drop next s)) e, lines_few s);
      many = ap (λ (x : Hour). x.market.resources) same ∙ opened_many o g ∙ sym c;
    }

-- an hour was opened in the zeros that k resources take
pub ready : {s : List ℕ} {state : List ℤ} {number last next resources : ℕ} (k : ℕ) → length state ≡ rows_from + room_of_row * k → resources ≤ k
    → OpenedBy s (replicate (rows_from + room_of_row * k) (pos 0)) state number last next resources
    → Ready s state (replicate (2 * k) (pos 0)) (replicate (2 * k) 0) (replicate (most_mitigated_steps * k) 0) number last next resources
ready {s} {state} {number} {last} {next} {resources} k e h w = record {
  room = omega (arith, e, h);
  rooms = record {
    floors = omega (arith, h, length-replicate (2 * k) (pos 0));
    places = omega (arith, h, length-replicate {A = ℕ} (2 * k) 0);
    wide = omega (arith, h, length-replicate {A = ℕ} (most_mitigated_steps * k) 0);
  };
  none = ap (λ (n : ℕ). replicate n 0) (sym (length-replicate {A = ℕ} (2 * k) 0));
  opened = subst (λ (n : ℕ). OpenedBy s (replicate n (pos 0)) state number last next resources) (sym e) w;
}
