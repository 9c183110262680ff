-- What the program prints, as one statement: for every text, each curve line of each page that `output` has is the one curve that demand 3 gives for that opening
-- and the list of intervals so far. Assumes nothing.
use Prim.Native.Nat.{ℕ, suc, ◌+◌, ◌≤◌, ◌<◌}
use mathlib.Core.Path.{◌≡◌, refl, sym, ap, ap₂, subst, ◌∙◌}
use mathlib.Core.List.{List, [], ◌∷◌, ◌++◌}
use native.Mathlib.Omega.{arith}
use lib.ListN.{length, get_or}
use Rattle.rules_number.specs.Least.{IsLeast}
use Rattle.rules_number.proofs.CellLaws.{cell_listed}
use Rattle.rules_number.proofs.LeastLaws.{least_only}
use Rattle.rules_curve.specs.Curves.{steps_of, price_at}
use Rattle.rules_curve.specs.Curves.{end_of as last_end}
use Rattle.rules_curve.specs.Meaning.{Rising}
use Rattle.rules_curve.specs.declared.Step.{Step}
use Rattle.rules_mitigation.specs.Meaning.{Apart}
use Rattle.rules_mitigation.specs.Mitigation.{used_steps}
use Rattle.rules_mitigation.proofs.MitigationLaws.{only_curve}
use Rattle.rules_interval.specs.declared.Interval.{Interval}
use Rattle.rules_path.specs.Judgements.{path_in, verdicts_of}
use Rattle.rules_path.specs.Verdicts.{verdict_of, not_binding}
use Rattle.rules_path.specs.declared.Verdict.{Verdict}
use Rattle.rules_opening.specs.Openings.{opening_refusal, market_of}
use Rattle.rules_opening.specs.declared.Opening.{Opening}
use Rattle.rules_hour.specs.Demand3.{submitted, submitted_price, InBid, caps, hour_of, curve_after, Demand3}
use Rattle.rules_hour.specs.Hours.{Hour, hour_refusal, hour_after, hour_after_all, hour_verdicts}
use Rattle.rules_hour.specs.Opened.{opened_hour}
use Rattle.rules_hour.proofs.CurveShape.{shape}
use Rattle.rules_hour.proofs.Demand3.{demand_3}
use Rattle.rules_hour.proofs.KeptLaws.{one_more}
use Rattle.rules_hour.proofs.VerdictNumbers.{Judged, accepted_judged}
use Rattle.rules_text.specs.Numbers.{Line, lines}
use Rattle.rules_text.specs.Printing.{refusal_text}
use Rattle.rules_text.specs.Spelled.{together}
use Rattle.rules_text.proofs.LineLaws.{lines_few}
use Rattle.rules_page.proofs.OwnPage.{OwnPage, verdicts_are, own_page}
use Rattle.rules_run.specs.Run.{page_leaving, page_of, output, Ended, ended_by, end_of, last_lines}
use Rattle.rules_run.proofs.Course.{Takes, pages_from, Runs, too_long, opening_unread, opening_refused, opened, runs}
use Rattle.rules_run.proofs.OwnLines.{Accepted, Leads, leads}
use Rattle.rules_run.proofs.RunLaws.{accepts_few, accepts_counts, opened_fresh}

-- ---- the one curve
-- what demand 3 says of the steps of resource r after these calls: they rise from where the submitted bid starts to where it ends, no two neighbours have one price,
-- and "the price of each hundredth of a megawatt in a resource's bid is the least of its submitted price and its caps"
pub record Demanded (o : Opening) (calls : List Interval) (r : ℕ) (steps : List Step) : Type 0 where
  pub rising : Rising (submitted o r).start steps
  pub ends : last_end (submitted o r).start steps ≡ last_end (submitted o r).start (steps_of (submitted o r))
  pub apart : Apart steps
  pub price : (q : ℕ) → InBid o r q → IsLeast (submitted_price o r q) (caps o calls r q) (price_at steps q)

-- these steps are the one curve that demand 3 gives
pub record TheCurve (o : Opening) (calls : List Interval) (r : ℕ) (steps : List Step) : Type 0 where
  pub demand_3 : Demand3 o calls r
  pub after : steps ≡ used_steps (curve_after o calls r)
  pub demanded : Demanded o calls r steps
  pub only : (others : List Step) → Demanded o calls r others → others ≡ steps

module _ (o : Opening) (accepted : opening_refusal o ≡ 0) (calls : List Interval) (r : ℕ) (l : r < o.resources) where
  curve_demanded : Demanded o calls r (used_steps (curve_after o calls r))
  curve_demanded =
      let s = (shape o r accepted l calls).is in
      let d = demand_3 o calls r accepted l in
      record {
        rising = subst (λ (p : ℕ). Rising p (used_steps (curve_after o calls r))) s.starts s.rising;
        ends = subst (λ (p : ℕ). last_end p (used_steps (curve_after o calls r)) ≡ last_end (submitted o r).start (steps_of (submitted o r))) s.starts s.ends;
        apart = s.apart;
        price = d.owned.capped.is.price;
      }

  demanded_only : (others : List Step) → Demanded o calls r others → others ≡ used_steps (curve_after o calls r)
  demanded_only others d =
      let c = curve_demanded in
      only_curve (submitted o r).start others (used_steps (curve_after o calls r)) d.rising c.rising d.apart c.apart (d.ends ∙ sym c.ends)
      (λ q h k. let i : InBid o r q = record { from_start = h; below_end = subst (λ (e : ℕ). q < e) d.ends k } in least_only (d.price q i) (c.price q i))

  pub the_curve : TheCurve o calls r (used_steps (curve_after o calls r))
  the_curve = record { demand_3 = demand_3 o calls r accepted l; after = refl; demanded = curve_demanded; only = demanded_only }

-- ---- a page
-- the page of call v after the calls before it
pub record Page (o : Opening) (before : List Interval) (v : Interval) (page : List ℕ) : Type 0 where
  -- the steps of each resource's curve: the one that demand 3 gives for the opening and the list so far
  pub steps : ℕ → List Step
  pub curve : (r : ℕ) → r < o.resources → TheCurve o (before ++ (v ∷ [])) r (steps r)
  -- its three tables, "counted from 1" to 4: the verdicts on its constraints, their sellers, and those curves
  pub number : suc (length before) ≤ 4
  pub tables : OwnPage (suc (length before)) (market_of o) v o.resources steps page
  -- the verdicts are those that the hour after the calls before it hands back, and say what they must on the opening's own numbers
  pub verdicts : hour_verdicts (hour_of o before) v ≡ verdicts_of (market_of o) v
  pub judged : (c : ℕ) → c < v.constraints → Judged o v c (verdict_of (path_in (market_of o) v c))

-- ---- the statement
-- the pages of these calls, each followed by the next, and the lines of the refusal if there is one
pub record Prints (text : List ℕ) (o : Opening) (calls : List Interval) : Type 0 where
  pub pages : List (List ℕ)
  pub prints : output text ≡ together pages ++ last_lines (end_of text).number (end_of text).line
  pub count : length pages ≡ length calls
  pub page : (before : List Interval) (v : Interval) (after : List Interval) → calls ≡ before ++ (v ∷ after) → Page o before v (get_or pages (length before) [])

-- every text
pub data Program (text : List ℕ) : Type 0 where
  -- is refused before an hour is opened, and has no page
  refused : 0 < (end_of text).number → output text ≡ refusal_text (end_of text).number (end_of text).line → Program text
  -- or begins with an opening and calls, all accepted, and has a page for each call
  printed : (o : Opening) (calls : List Interval) (own rest : List Line) → lines text ≡ own ++ rest → Accepted o calls own → Prints text o calls → Program text

-- ---- its proof
-- the call after those before it is accepted, and they are counted
taken_at : (before : List Interval) (v : Interval) (after : List Interval) (h : Hour) (n : ℕ) (ls : List Line) (m : ℕ) (rest : List Line) → Takes h n ls (before ++ (v ∷ after)) m rest
    → (hour_refusal (hour_after_all h before) v ≡ 0) × ((hour_after_all h before).standing.accepted ≡ h.standing.accepted + length before)
unfolding hour_after_all
taken_at [] v after h n ls m rest (k, more, r, g, t) = (g, omega arith)
taken_at (u ∷ before) v after h n ls m rest (k, more, r, g, t) =
    let x = taken_at before v after (hour_after h u) k more m rest t in
    (x.0, omega (arith, x.1, accepts_counts h u g))

pages_many : (calls : List Interval) (i : ℕ) (h : Hour) → length (pages_from i h calls) ≡ length calls
pages_many [] i h = refl
pages_many (v ∷ calls) i h = ap suc (pages_many calls (suc i) (hour_after h v))

page_at : (before : List Interval) (v : Interval) (after : List Interval) (i : ℕ) (h : Hour) → get_or (pages_from i h (before ++ (v ∷ after))) (length before) [] ≡ page_of (length before + i) (hour_after_all h before) v
unfolding hour_after_all
page_at [] v after i h = ap (λ (k : ℕ). page_of k h v) (omega arith)
page_at (u ∷ before) v after i h =
    page_at before v after (suc i) (hour_after h u) ∙ ap (λ (k : ℕ). page_of k (hour_after_all (hour_after h u) before) v) (omega arith)

module _ (o : Opening) (accepted : opening_refusal o ≡ 0) (before : List Interval) (v : Interval) (taken : hour_refusal (hour_of o before) v ≡ 0) (few : length before < 4) where
  at_constraint : (c : ℕ) → c < v.constraints → get_or (hour_verdicts (hour_of o before) v) c not_binding ≡ verdict_of (path_in (market_of o) v c)
  unfolding verdicts_of
  at_constraint c l =
      ap (λ (t : List Verdict). get_or t c not_binding) (verdicts_are o accepted before v taken)
      ∙ cell_listed 32 not_binding not_binding (λ i. verdict_of (path_in (market_of o) v i)) v.constraints c l

  pub the_page : Page o before v (page_of (suc (length before)) (hour_of o before) v)
  the_page = record {
    steps = λ r. used_steps (curve_after o (before ++ (v ∷ [])) r);
    curve = the_curve o accepted (before ++ (v ∷ []));
    number = few;
    tables = subst (λ (h : Hour). OwnPage (suc (length before)) (market_of o) v o.resources (λ r. used_steps (curve_after o (before ++ (v ∷ [])) r))
        (page_leaving (suc (length before)) h v.constraints (hour_verdicts (hour_of o before) v))) (one_more (opened_hour o) before v)
        (own_page o accepted before v taken (before ++ (v ∷ [])) (suc (length before)) (omega arith));
    verdicts = verdicts_are o accepted before v taken;
    judged = λ c l. subst (Judged o v c) (at_constraint c l) (accepted_judged o accepted before v taken c l);
  }

module _ (o : Opening) (accepted : opening_refusal o ≡ 0) (n : ℕ) (ls : List Line) (calls : List Interval) (m : ℕ) (rest : List Line) (t : Takes (opened_hour o) n ls calls m rest) where
  each_page : (before : List Interval) (v : Interval) (after : List Interval) → calls ≡ before ++ (v ∷ after) → Page o before v (get_or (pages_from 1 (opened_hour o) calls) (length before) [])
  each_page before v after e =
      let x = taken_at before v after (opened_hour o) n ls m rest (subst (λ (c : List Interval). Takes (opened_hour o) n ls c m rest) e t) in
      let i : length before + 1 ≡ suc (length before) = omega arith in
      let few : length before < 4 = omega (arith, accepts_few (hour_of o before) v x.0, x.1, opened_fresh o) in
      let is : get_or (pages_from 1 (opened_hour o) calls) (length before) [] ≡ page_of (suc (length before)) (hour_of o before) v =
      ap (λ (c : List Interval). get_or (pages_from 1 (opened_hour o) c) (length before) []) e ∙ page_at before v after 1 (opened_hour o) ∙ ap (λ (k : ℕ). page_of k (hour_of o before) v) i in
      subst (Page o before v) (sym is) (the_page o accepted before v x.0 few)

pub program : (text : List ℕ) → Program text
program text = go (runs text)
  where
    alone : (number line : ℕ) → end_of text ≡ ended_by (suc number) line → output text ≡ refusal_text (suc number) line → Program text
    alone number line e p =
        refused (omega (arith, ap (λ (x : Ended). x.number) e))
        (p ∙ ap₂ refusal_text (sym (ap (λ (x : Ended). x.number) e)) (sym (ap (λ (x : Ended). x.line) e)))

    go : Runs text → Program text
    go (too_long h e p) = alone 17 1 e p
    go (opening_unread h line q e p) = alone 16 line e p
    go (opening_refused h o n rest q number g e p) = alone number n e p
    go (opened h o n rest q g c) = printed o c.calls d.own c.rest d.is d.parts (record {
      pages = pages_from 1 (opened_hour o) c.calls;
      prints = c.prints;
      count = pages_many c.calls 1 (opened_hour o);
      page = each_page o g n rest c.calls c.at c.rest c.takes;
    })
      where
        d : Leads (lines text) o c.calls c.at c.rest
        d = leads (lines text) o n rest (omega (arith, h, lines_few text)) q g c.calls c.at c.rest c.takes
