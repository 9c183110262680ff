-- `interval_part::part_into` meets its contract. Assumes nothing.
use Rattle.std.proofs.Common.{◌≡◌, ℕ, ◌-◌, ◌*◌, ◌≤◌, min, List, [], length, drop, ℤ, refl, sym, ap, ◌∙◌, to_z, of_z, w64, arith, rules}
use lib.Seq.{sets}
use Rattle.rules_interval.specs.declared.Interval.{Interval}
use Rattle.interval.specs.Over.{interval_over}
use Rattle.cutting.proofs.AlikeLaws.{Alike, call_same, call_state, call_verdicts_lem}
use Rattle.rules_text.specs.Numbers.{Line, lines}
use Rattle.rules_text.specs.Tables.{Reading}
use Rattle.rules_parts.specs.Parts.{read_interval}
use Rattle.rules_state.specs.States.{market_in}
use Rattle.rules_state.specs.Takes.{if_accepted, standing_written}
use Rattle.rules_state.specs.Verdicts.{judged_cells}
use Rattle.interval_part.specs.Taken.{Whole, refusal_in, taken_whole, state_whole, verdicts_whole, left_whole}
use Rattle.interval_part.proofs.PartLaws.{alike, answers_refusal, answers_accepted, left_refused, left_accepted}
use Rattle.rules_curve.proofs.RefusalLaws.{told_number}
use Rattle.interval_part.proofs.part_into.Goals as goal

-- what is read is what is to be read, as far as there are cells
module _ (state : List ℤ) (j k : ℕ) (w : Interval) (line : ℕ) (rest : List Line) (due : Reading Interval) (f : Whole j k due w line rest)
    (outputs : min (market_in state).resources 64 * 4 ≤ j) (factors : min (market_in state).resources 64 * 32 ≤ k) where
  -- the hour can't tell them apart
  same : Alike (market_in state).resources w f.v
  same = alike (market_in state).resources j k w f.v outputs factors f.same

  -- the cells after it
  state_is : (l : List ℤ) → l ≡ if_accepted (refusal_in state w) (standing_written state w) state → l ≡ state_whole state due
  state_is l e = e ∙ call_state w f.v state same ∙ sym (ap (state_whole state) f.is)

  verdicts_are : (verdicts l : List ℤ) → l ≡ if_accepted (refusal_in state w) (sets verdicts 0 (judged_cells (market_in state) w)) verdicts → l ≡ verdicts_whole state verdicts due
  verdicts_are verdicts l e = e ∙ call_verdicts_lem w f.v state same verdicts ∙ sym (ap (verdicts_whole state verdicts) f.is)

pub returns-in-Err-take_into-clause-answer : goal.returns-in-Err-take_into-clause-answer
returns-in-Err-take_into-clause-answer c =
    let a = c.args in
    let p = c.part_at in
    let r = c.in-Ok.part in
    let t = c.take_into in
    let n = min a.line 65536 in
    let ls = lines (drop a.at a.s.now) in
    let z : to_z w64 (of_z w64 r.parameter) ≡ r.parameter = search rules in
    let w = interval_over r.constraints p.new.shadow r.resources p.new.outputs p.new.factors (to_z w64 (of_z w64 r.parameter)) in
    let f : Whole (length a.outputs.now) (length a.factors.now) (read_interval n ls) w r.line (lines (drop r.next a.s.now)) = rw z c.in-Ok.ensures.reading in
    let k = refusal_in a.state.now f.v in
    let g = c.refusal_number-in-Err-take_into in
    let e = g.ensures ∙ c.in-Err-take_into.ensures.number ∙ call_same w f.v a.state.now (same a.state.now _ _ w _ _ _ f c.requires.room.0 c.requires.room.1.0) in
    let some : g.result ≡ 0 → ⊥ = λ z. let t = (told_number c.in-Err-take_into.refusal g.result g.ensures).0 in omega arith in
    answers_refusal g.result k e some r.line _ f.v.constraints ∙ sym (ap (taken_whole a.state.now a.at n ls) f.is)

pub returns-in-Err-take_into-clause-state : goal.returns-in-Err-take_into-clause-state
returns-in-Err-take_into-clause-state c =
    let a = c.args in
    let p = c.part_at in
    let r = c.in-Ok.part in
    let t = c.take_into in
    let n = min a.line 65536 in
    let ls = lines (drop a.at a.s.now) in
    let z : to_z w64 (of_z w64 r.parameter) ≡ r.parameter = search rules in
    let w = interval_over r.constraints p.new.shadow r.resources p.new.outputs p.new.factors (to_z w64 (of_z w64 r.parameter)) in
    let f : Whole (length a.outputs.now) (length a.factors.now) (read_interval n ls) w r.line (lines (drop r.next a.s.now)) = rw z c.in-Ok.ensures.reading in
    state_is a.state.now _ _ w _ _ _ f c.requires.room.0 c.requires.room.1.0 t.new.state t.ensures.state

pub returns-in-Err-take_into-clause-verdicts : goal.returns-in-Err-take_into-clause-verdicts
returns-in-Err-take_into-clause-verdicts c =
    let a = c.args in
    let p = c.part_at in
    let r = c.in-Ok.part in
    let t = c.take_into in
    let n = min a.line 65536 in
    let ls = lines (drop a.at a.s.now) in
    let z : to_z w64 (of_z w64 r.parameter) ≡ r.parameter = search rules in
    let w = interval_over r.constraints p.new.shadow r.resources p.new.outputs p.new.factors (to_z w64 (of_z w64 r.parameter)) in
    let f : Whole (length a.outputs.now) (length a.factors.now) (read_interval n ls) w r.line (lines (drop r.next a.s.now)) = rw z c.in-Ok.ensures.reading in
    verdicts_are a.state.now _ _ w _ _ _ f c.requires.room.0 c.requires.room.1.0 a.verdicts.now t.new.verdicts t.ensures.verdicts

pub returns-in-Err-take_into-clause-rest : goal.returns-in-Err-take_into-clause-rest
returns-in-Err-take_into-clause-rest c =
    let a = c.args in
    let p = c.part_at in
    let r = c.in-Ok.part in
    let t = c.take_into in
    let n = min a.line 65536 in
    let ls = lines (drop a.at a.s.now) in
    let z : to_z w64 (of_z w64 r.parameter) ≡ r.parameter = search rules in
    let w = interval_over r.constraints p.new.shadow r.resources p.new.outputs p.new.factors (to_z w64 (of_z w64 r.parameter)) in
    let f : Whole (length a.outputs.now) (length a.factors.now) (read_interval n ls) w r.line (lines (drop r.next a.s.now)) = rw z c.in-Ok.ensures.reading in
    let k = refusal_in a.state.now f.v in
    let g = c.refusal_number-in-Err-take_into in
    let e = g.ensures ∙ c.in-Err-take_into.ensures.number ∙ call_same w f.v a.state.now (same a.state.now _ _ w _ _ _ f c.requires.room.0 c.requires.room.1.0) in
    let some : g.result ≡ 0 → ⊥ = λ z. let t = (told_number c.in-Err-take_into.refusal g.result g.ensures).0 in omega arith in
    left_refused g.result k e some (lines a.s.now) (lines (drop r.next a.s.now)) [] ∙ sym (ap (left_whole a.state.now) f.is)

pub returns-clause-answer : goal.returns-clause-answer
returns-clause-answer c =
    let a = c.args in
    let p = c.part_at in
    let r = c.in-Ok.part in
    let t = c.take_into in
    let n = min a.line 65536 in
    let ls = lines (drop a.at a.s.now) in
    let z : to_z w64 (of_z w64 r.parameter) ≡ r.parameter = search rules in
    let w = interval_over r.constraints p.new.shadow r.resources p.new.outputs p.new.factors (to_z w64 (of_z w64 r.parameter)) in
    let f : Whole (length a.outputs.now) (length a.factors.now) (read_interval n ls) w r.line (lines (drop r.next a.s.now)) = rw z c.in-Ok.ensures.reading in
    let k = refusal_in a.state.now f.v in
    let e : 0 ≡ k = c.in_default.ensures.number ∙ call_same w f.v a.state.now (same a.state.now _ _ w _ _ _ f c.requires.room.0 c.requires.room.1.0) in
    answers_accepted 0 k e refl r.line r.next _ r.constraints f.v.constraints c.in-Ok.ensures.after f.same.constraints ∙ sym (ap (taken_whole a.state.now a.at n ls) f.is)

pub returns-clause-state : goal.returns-clause-state
returns-clause-state c =
    let a = c.args in
    let p = c.part_at in
    let r = c.in-Ok.part in
    let t = c.take_into in
    let n = min a.line 65536 in
    let ls = lines (drop a.at a.s.now) in
    let z : to_z w64 (of_z w64 r.parameter) ≡ r.parameter = search rules in
    let w = interval_over r.constraints p.new.shadow r.resources p.new.outputs p.new.factors (to_z w64 (of_z w64 r.parameter)) in
    let f : Whole (length a.outputs.now) (length a.factors.now) (read_interval n ls) w r.line (lines (drop r.next a.s.now)) = rw z c.in-Ok.ensures.reading in
    state_is a.state.now _ _ w _ _ _ f c.requires.room.0 c.requires.room.1.0 t.new.state t.ensures.state

pub returns-clause-verdicts : goal.returns-clause-verdicts
returns-clause-verdicts c =
    let a = c.args in
    let p = c.part_at in
    let r = c.in-Ok.part in
    let t = c.take_into in
    let n = min a.line 65536 in
    let ls = lines (drop a.at a.s.now) in
    let z : to_z w64 (of_z w64 r.parameter) ≡ r.parameter = search rules in
    let w = interval_over r.constraints p.new.shadow r.resources p.new.outputs p.new.factors (to_z w64 (of_z w64 r.parameter)) in
    let f : Whole (length a.outputs.now) (length a.factors.now) (read_interval n ls) w r.line (lines (drop r.next a.s.now)) = rw z c.in-Ok.ensures.reading in
    verdicts_are a.state.now _ _ w _ _ _ f c.requires.room.0 c.requires.room.1.0 a.verdicts.now t.new.verdicts t.ensures.verdicts

pub returns-clause-rest : goal.returns-clause-rest
returns-clause-rest c =
    let a = c.args in
    let p = c.part_at in
    let r = c.in-Ok.part in
    let t = c.take_into in
    let n = min a.line 65536 in
    let ls = lines (drop a.at a.s.now) in
    let z : to_z w64 (of_z w64 r.parameter) ≡ r.parameter = search rules in
    let w = interval_over r.constraints p.new.shadow r.resources p.new.outputs p.new.factors (to_z w64 (of_z w64 r.parameter)) in
    let f : Whole (length a.outputs.now) (length a.factors.now) (read_interval n ls) w r.line (lines (drop r.next a.s.now)) = rw z c.in-Ok.ensures.reading in
    let k = refusal_in a.state.now f.v in
    let e : 0 ≡ k = c.in_default.ensures.number ∙ call_same w f.v a.state.now (same a.state.now _ _ w _ _ _ f c.requires.room.0 c.requires.room.1.0) in
    left_accepted 0 k e refl (lines (drop r.next a.s.now)) [] ∙ sym (ap (left_whole a.state.now) f.is)
