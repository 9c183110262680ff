-- What the program prints, for every text: each page has the one curve that demand 3 gives for that opening and the list of intervals so far. Assumes nothing.
use mathlib.Core.List.{List, [], ◌∷◌, ◌++◌, map, append-nil, Memᴰ}
use mathlib.Core.Logic.{◌⊎◌, inl, inr, ⊎_elim, ◌↔◌}
use mathlib.Core.Path.{◌≡◌, ap, ◌∙◌}
use Prim.Native.Nat.{ℕ, zero, suc, ◌+◌, ◌≤◌, ◌<◌}
use native.Mathlib.Omega.{arith}
use lib.IntN.{ℤ, pos, nat_abs}
use lib.ListN.{length, get_or}
use lib.Signed.{◌≤ℤ◌}
use Rattle.rules_number.specs.Over.{listed}
use Rattle.rules_number.specs.Least.{IsLeast}
use Rattle.rules_curve.specs.Curves.{steps_of, end_of, price_at}
use Rattle.rules_curve.specs.declared.Step.{Step}
use Rattle.rules_mitigation.specs.Mitigation.{used_steps}
use Rattle.rules_interval.specs.Intervals.{interval_refusal}
use Rattle.rules_interval.specs.declared.Interval.{Interval}
use Rattle.rules_path.specs.Judgements.{path_in, verdicts_of}
use Rattle.rules_path.specs.Verdicts.{verdict_of}
use Rattle.rules_path.specs.declared.Market.{Market}
use Rattle.rules_opening.specs.Openings.{opening_refusal, market_of}
use Rattle.rules_opening.specs.declared.Opening.{Opening}
use Rattle.rules_hour.specs.Hours.{Hour, curve_in, hour_refusal, hour_after, hour_after_all, hour_verdicts}
use Rattle.rules_hour.specs.Opened.{opened_hour}
use Rattle.rules_hour.specs.Demand3.{InBid, caps, Demand3}
use Rattle.rules_hour.proofs.AcceptedOpening.{few}
use Rattle.rules_text.specs.Numbers.{Line, Row, lines}
use Rattle.rules_text.specs.Tables.{found}
use Rattle.rules_text.specs.Printing.{refusal_text}
use Rattle.rules_text.specs.Spelled.{together}
use Rattle.rules_parts.specs.Parts.{read_opening, read_interval}
use Rattle.rules_page.proofs.StepBound.{StepFew, steps_few}
use Rattle.rules_page.proofs.WithinBound.{verdict_few}
use Rattle.rules_run.specs.Run.{page_leaving, intervals, output, last_lines}
use Rattle.rules_run.specs.Run.{end_of as endOfRun}
use Rattle.rules_run.proofs.Meaning.{five_suffice, page_of_list}
use Rattle.rules_run.proofs.SoFar.{Accepts, text_so_far}
use Rattle.rules_run.proofs.Program.{Demanded, TheCurve, Page, Prints, Program, refused, printed, program}
use Rattle.statements.proofs.Plain.{Found, Listed, Joined, Ascii, LineOf, TableOf, line_is, table_is}
use Rattle.statements.proofs.Sellers.{SellersSay, sellers_say}
use Rattle.statements.proofs.Texts.{each}
use Rattle.statements.proofs.Curves.{Rises, Differ, rises, differ}
use Rattle.statements.proofs.Demand3.{bid, CapOf, Accepted, Demand3Says, demand3_says, caps_are}
use Rattle.statements.proofs.Hours.{hour_at, JudgedSays, verdict_says}
use Rattle.statements.proofs.Runs.{Opens, opens}

-- ---- the one curve
module _ (o : Opening) (calls : List Interval) (r : ℕ) where
  -- y is a cap of quantity q, and p the least of the submitted price and the caps
  abbrev IsCap : ℕ → ℤ → Type 0
  IsCap q y = (v : Interval) × Memᴰ v (Accepted o calls) × CapOf o v r q y

  abbrev Least : ℕ → ℤ → Type 0
  Least q p = (p ≤ℤ price_at (steps_of (bid o r)) q) × ((y : ℤ) → IsCap q y → p ≤ℤ y) × ((p ≡ price_at (steps_of (bid o r)) q) ⊎ IsCap q p)

  -- steps that rise from where the bid starts to where it ends, no two neighbours with one price, each quantity at that least price
  abbrev Meets : List Step → Type 0
  Meets steps =
      Rises (bid o r).start steps × (end_of (bid o r).start steps ≡ end_of (bid o r).start (steps_of (bid o r))) × Differ steps
      × ((q : ℕ) → (bid o r).start ≤ q → q < end_of (bid o r).start (steps_of (bid o r)) → Least q (price_at steps q))

  -- these are the only such steps, and those of the hour after the calls
  pub record OneCurve (steps : List Step) : Type 0 where
    pub demand_3 : Demand3Says o calls r
    pub after : steps ≡ used_steps (curve_in (hour_at o calls) r)
    pub only : (others : List Step) → (others ≡ steps) ↔ Meets others

-- ---- the page of call v, after the calls before it: "Each accepted interval, counted from 1, prints its three tables, names lines included"
pub record PageSays (o : Opening) (before : List Interval) (v : Interval) (page : List ℕ) : Type 0 where
  pub at_most_four : suc (length before) ≤ 4
  pub steps : ℕ → List Step
  pub curve : (r : ℕ) → r < o.resources → OneCurve o (before ++ (v ∷ [])) r (steps r)
  pub sellers : ℕ → List Row
  pub named : (c : ℕ) → c < v.constraints → SellersSay (path_in (market_of o) v c) (sellers c)
  pub verdicts : hour_verdicts (hour_at o before) v ≡ verdicts_of (market_of o) v
  pub judged : (c : ℕ) → c < v.constraints → JudgedSays o v c (verdict_of (path_in (market_of o) v c))
  pub tables : page
      ≡ (Ascii "interval constraint verdict demand left\n"
      ++ (TableOf (suc (length before)) 0 (Listed (λ c. let x = verdict_of (path_in (market_of o) v c) in (pos (Found x.finding) ∷ pos x.demand ∷ pos x.left ∷ []) ∷ []) v.constraints)
      ++ (Ascii "interval constraint portfolio withheld\n" ++ TableOf (suc (length before)) 0 (Listed sellers v.constraints))))
      ++ (Ascii "interval resource end price\n" ++ TableOf (suc (length before)) 0 (Listed (λ r. map (λ s. pos s.end ∷ s.price ∷ []) (steps r)) o.resources))

-- the lines of a refusal
abbrev refusal : ℕ → ℕ → List ℕ
refusal number line = Ascii "refusal line\n" ++ LineOf (pos number ∷ pos line ∷ [])

-- a page for each call, and the lines of the refusal if there is one
pub record PrintsSay (text : List ℕ) (o : Opening) (calls : List Interval) : Type 0 where
  pub pages : List (List ℕ)
  pub count : length pages ≡ length calls
  pub page : (before : List Interval) (v : Interval) (after : List Interval) → calls ≡ before ++ (v ∷ after) → PageSays o before v (get_or pages (length before) [])
  pub whole : (endOfRun text).number ≡ 0 → output text ≡ Joined pages
  pub refused_later : 0 < (endOfRun text).number → output text ≡ Joined pages ++ refusal (endOfRun text).number (endOfRun text).line

-- a text is refused before an hour is opened and has no page, or begins with an opening and calls, all accepted, and has a page for each call
abbrev ProgramSays : List ℕ → Type 0
ProgramSays text =
    ((0 < (endOfRun text).number) × (output text ≡ refusal (endOfRun text).number (endOfRun text).line))
    ⊎ ((o : Opening) × (calls : List Interval) × (own : List Line) × (rest : List Line) × (lines text ≡ own ++ rest) × Opens o calls own × PrintsSay text o calls)

-- ---- from the theorem
module _ (o : Opening) (calls : List Interval) (r : ℕ) (D : Demand3 o calls r) where
  least : (q : ℕ) → InBid o r q → (p : ℤ) → IsLeast (price_at (steps_of (bid o r)) q) (caps o calls r q) p ↔ Least o calls r q p
  least q i p = (
    (λ h. (h.at_most_first, (λ y c. h.at_most_each y ((caps_are o calls r D q i y).1 c)), ⊎_elim (λ e. inl e) (λ m. inr ((caps_are o calls r D q i p).0 m)) h.attained)),
    λ h. record { at_most_first = h.0; at_most_each = λ y m. h.1 y ((caps_are o calls r D q i y).0 m); attained = ⊎_elim (λ e. inl e) (λ c. inr ((caps_are o calls r D q i p).1 c)) h.2 },
  )

  meets : (steps : List Step) → Demanded o calls r steps ↔ Meets o calls r steps
  meets steps = (
    (λ d. (
      (rises (bid o r).start steps).0 d.rising,
      d.ends,
      (differ steps).0 d.apart,
      λ q low high. let i : InBid o r q = record { from_start = low; below_end = high } in (least q i (price_at steps q)).0 (d.price q i),
    )),
    λ d. record {
      rising = (rises (bid o r).start steps).1 d.0;
      ends = d.1;
      apart = (differ steps).1 d.2;
      price = λ q i. (least q i (price_at steps q)).1 (d.3 q i.from_start i.below_end);
    },
  )

one_curve : (o : Opening) → opening_refusal o ≡ 0 → (calls : List Interval) (r : ℕ) (steps : List Step) → TheCurve o calls r steps → OneCurve o calls r steps
one_curve o opened calls r steps t =
    let m = meets o calls r t.demand_3 in
    record {
      demand_3 = demand3_says o calls r t.demand_3 (few o opened).2;
      after = t.after;
      only = λ others. ((λ e. rw e ((m steps).0 t.demanded)), λ h. t.only others ((m others).1 h));
    }

own_refusal : (number line : ℕ) → refusal_text number line ≡ refusal number line
unfolding refusal_text
own_refusal number line = ap (λ (t : List ℕ). Ascii "refusal line\n" ++ t) (line_is (pos number ∷ pos line ∷ []))

page_says : (o : Opening) → opening_refusal o ≡ 0 → (before : List Interval) (v : Interval) (page : List ℕ) → Page o before v page → PageSays o before v page
unfolding listed Listed
page_says o opened before v page p = record {
  at_most_four = p.number;
  steps = p.steps;
  curve = λ r l. one_curve o opened (before ++ (v ∷ [])) r (p.steps r) (p.curve r l);
  sellers = p.tables.sellers;
  named = λ c l. sellers_say (path_in (market_of o) v c) (p.tables.sellers c) (p.tables.named c l);
  verdicts = p.verdicts;
  judged = λ c l. verdict_says o v c _ (p.judged c l);
  tables = simp table_is at p.tables.is;
}

prints_say : (text : List ℕ) (o : Opening) (calls : List Interval) → opening_refusal o ≡ 0 → Prints text o calls → PrintsSay text o calls
unfolding together Joined
prints_say text o calls opened p = record {
  pages = p.pages;
  count = p.count;
  page = λ before v after e. page_says o opened before v _ (p.page before v after e);
  whole = λ z. p.prints ∙ ap (λ (n : ℕ). together p.pages ++ last_lines n (endOfRun text).line) z ∙ append-nil (together p.pages);
  refused_later = λ h. p.prints ∙ ap (λ (t : List ℕ). together p.pages ++ t) (last (endOfRun text).number h);
}
  where
    last : (n : ℕ) → 0 < n → last_lines n (endOfRun text).line ≡ refusal n (endOfRun text).line
    last zero h = absurd (omega arith)
    last (suc n) h = own_refusal (suc n) (endOfRun text).line

pub program_says : (text : List ℕ) → ProgramSays text
program_says text = go (program text)
  where
    go : Program text → ProgramSays text
    go (refused some p) = inl (some, p ∙ own_refusal (endOfRun text).number (endOfRun text).line)
    go (printed o calls own rest is a p) = inr (o, calls, own, rest, is, (opens o calls own).0 a, prints_say text o calls a.accepted p)

-- ---- page by page: "Each accepted interval .. prints its three tables .. before the next is read"
-- lines ls, before which n stand, are the parts of these calls on the hour h, each accepted, and m lines stand before what follows
abbrev TakesAll : Hour → ℕ → List Line → List Interval → ℕ → Type 0
TakesAll h n ls [] m = (ls ≡ []) × (n ≡ m)
TakesAll h n ls (v ∷ calls) m = (k : ℕ) × (rest : List Line) × (0 < length ls) × (read_interval n ls ≡ found v k rest) × (hour_refusal h v ≡ 0) × TakesAll (hour_after h v) k rest calls m

takes_all : (calls : List Interval) (h : Hour) (n : ℕ) (ls : List Line) (m : ℕ) → TakesAll h n ls calls m → Accepts h n ls calls m
takes_all [] h n ls m t = t
takes_all (v ∷ calls) h n ls m t = (t.0, t.1, t.2, t.3, t.4, takes_all calls (hour_after h v) t.0 t.1 m t.5)

-- what a text of an opening and accepted calls prints stands at the beginning of what a longer text prints, and what follows is what the rest prints on the hour that the calls leave
pub so_far : (s u : List ℕ) → length ((s ++ 10 ∷ []) ++ u) ≤ 65536
    → (o : Opening) (n : ℕ) (rest : List Line) → read_opening 0 (lines (s ++ 10 ∷ [])) ≡ found o n rest → opening_refusal o ≡ 0
    → (calls : List Interval) (m : ℕ) → TakesAll (opened_hour o) n rest calls m → (f : ℕ) → length calls + f ≡ 5
    → output ((s ++ 10 ∷ []) ++ u) ≡ output (s ++ 10 ∷ []) ++ intervals f (length calls + 1) (hour_after_all (opened_hour o) calls) m (lines u)
so_far s u short o n rest e g calls m t = text_so_far s u short o n rest e g calls m (takes_all calls (opened_hour o) n rest m t)

-- the page of an accepted call has the hour that the whole list of calls leaves
pub next_page : (o : Opening) (calls : List Interval) (f i n : ℕ) (ls : List Line) → 0 < length ls → (v : Interval) (m : ℕ) (rest : List Line)
    → read_interval n ls ≡ found v m rest → hour_refusal (hour_after_all (opened_hour o) calls) v ≡ 0
    → intervals (suc f) i (hour_after_all (opened_hour o) calls) n ls
    ≡ page_leaving i (hour_after_all (opened_hour o) (calls ++ v ∷ [])) v.constraints (hour_verdicts (hour_after_all (opened_hour o) calls) v)
    ++ intervals f (suc i) (hour_after_all (opened_hour o) (calls ++ v ∷ [])) m rest
next_page = page_of_list

-- "4 intervals an hour": an hour that accepts k more reads at most one part after those
pub four_and_one : (k f i : ℕ) (h : Hour) (n : ℕ) (ls : List Line) → h.standing.accepted + k ≡ 4 → suc k ≤ f → intervals f i h n ls ≡ intervals (suc k) i h n ls
four_and_one = five_suffice

-- ---- what is printed is far below 63 bits: 64 resources, each with a factor and a quantity of at most 1,000,000
pub printed_verdict : (m : Market) (v : Interval) → interval_refusal m.resources v ≡ 0 → (c : ℕ) → c < v.constraints
    → ((verdict_of (path_in m v c)).demand ≤ 64000000000000) × ((verdict_of (path_in m v c)).left ≤ 64000000000000) × ((p : ℕ) → get_or (verdict_of (path_in m v c)).withheld p 0 ≤ 64000000000000)
printed_verdict m v passed c l = let f = verdict_few m v passed c l in (f.demand, f.left, f.withheld)

pub printed_steps : (o : Opening) → opening_refusal o ≡ 0 → (r : ℕ) → r < o.resources → (calls : List Interval)
    → (s : Step) → Memᴰ s (used_steps (curve_in (hour_at o calls) r)) → (s.end ≤ 1000000) × (nat_abs s.price ≤ 1000000000)
printed_steps o opened r l calls = (each StepFew (λ s. (s.end ≤ 1000000) × (nat_abs s.price ≤ 1000000000)) (λ s. ((λ f. (f.end, f.price)), λ f. record { end = f.0; price = f.1 }))
    (used_steps (curve_in (hour_at o calls) r))).0 (steps_few o opened r l calls)
