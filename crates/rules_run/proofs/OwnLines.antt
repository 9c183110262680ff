-- A part is read from its own lines, whatever follows them. Assumes nothing.
use Prim.Native.Nat.{ℕ, ◌+◌, ◌≤◌}
use mathlib.Core.Path.{◌≡◌, refl, sym, ap, ap₂, subst, ◌∙◌}
use mathlib.Core.List.{List, [], ◌∷◌, ◌++◌, append_assoc}
use native.Mathlib.Omega.{arith}
use lib.ListN.{length, length-append, length-map}
use Rattle.rules_interval.specs.declared.Interval.{Interval}
use Rattle.rules_opening.specs.declared.Opening.{Opening}
use Rattle.rules_opening.specs.Openings.{opening_refusal}
use Rattle.rules_hour.specs.Hours.{Hour, hour_after}
use Rattle.rules_hour.specs.Opened.{opened_hour}
use Rattle.rules_text.specs.Numbers.{Line}
use Rattle.rules_text.specs.Tables.{Reader, found}
use Rattle.rules_text.proofs.ReaderLaws.{counted_length}
use Rattle.rules_parts.specs.Parts.{read_opening, read_interval}
use Rattle.rules_parts.specs.Texts.{GivenOpening, GivenInterval, seller_row, resource_row, shadow_row, output_row, opening_lines, interval_lines}
use Rattle.rules_parts.proofs.OpeningBack.{reads}
use Rattle.rules_parts.proofs.IntervalBack.{reads as interval-reads}
use Rattle.rules_parts.proofs.OnlyInterval.{interval_only}
use Rattle.rules_parts.proofs.OnlyOpening.{opening_only}
use Rattle.rules_run.proofs.CountLaws.{Uses, opening_using, interval_using}
use Rattle.rules_run.proofs.Course.{Takes}

-- what is read of lines ls, before which n stand: its own lines, and then ls'
pub record Own {A : Type 0} (r : Reader A) (n : ℕ) (ls : List Line) (a : A) (n' : ℕ) (ls' : List Line) : Type 0 where
  pub own : List Line
  pub is : ls ≡ own ++ ls'
  pub count : n' ≡ n + length own
  pub reads : (other : List Line) → r n (own ++ other) ≡ found a n' other

-- the lines that were used are the own ones
own_of : {A : Type 0} (r : Reader A) (n : ℕ) (ls own : List Line) (a b : A) (n' : ℕ) (ls' : List Line) → ls ≡ own ++ ls' → n' + length ls' ≡ n + length ls → a ≡ b
    → ((other : List Line) → r n (own ++ other) ≡ found b (n + length own) other) → Own r n ls a n' ls'
own_of {A} r n ls own a b n' ls' e u v h =
    let count : n' ≡ n + length own = omega (arith, ap length e, length-append own ls') in
    record { own = own; is = e; count = count; reads = λ other. h other ∙ ap₂ (λ (x : A) (k : ℕ). found x k other) (sym v) (sym count) }

-- a part has no more portfolios, resources and constraints than lines
opening_long : (o : GivenOpening) → (length o.sellers ≤ length (opening_lines o)) × (length o.resources ≤ length (opening_lines o))
unfolding opening_lines
opening_long o =
    let s = counted_length seller_row 0 o.sellers in
    let r = counted_length resource_row 0 o.resources in
    simp (length-append, length-map) (omega arith)

interval_long : (i : GivenInterval) → (length i.outputs ≤ length (interval_lines i)) × (length i.shadows ≤ length (interval_lines i))
unfolding interval_lines
interval_long i =
    let s = counted_length shadow_row 0 i.shadows in
    let r = counted_length output_row 0 i.outputs in
    simp (length-append, length-map) (omega arith)

module _ (n : ℕ) (ls : List Line) (few : length ls ≤ 65536) (n' : ℕ) (ls' : List Line) where
  own_few : (own : List Line) → ls ≡ own ++ ls' → length own ≤ 65536
  own_few own e = omega (arith, ap length e, length-append own ls')

  pub opening_own : (a : Opening) → read_opening n ls ≡ found a n' ls' → Own read_opening n ls a n' ls'
  opening_own a h =
      let i = opening_only n ls a n' ls' h in
      let long = opening_long i.o in
      let own = own_few (opening_lines i.o) i.is in
      own_of read_opening n ls (opening_lines i.o) a _ n' ls' i.is (subst (Uses n ls) h (opening_using n ls)) i.value
      (λ other. reads i.o i.small (omega (arith, long.1, own)) (omega (arith, long.0, own)) other n)

  pub interval_own : (a : Interval) → read_interval n ls ≡ found a n' ls' → Own read_interval n ls a n' ls'
  interval_own a h =
      let r = interval_only n ls a n' ls' h in
      let long = interval_long r.i in
      let own = own_few (interval_lines r.i) r.is in
      own_of read_interval n ls (interval_lines r.i) a _ n' ls' r.is (subst (Uses n ls) h (interval_using n ls)) r.value
      (λ other. interval-reads r.i r.small (omega (arith, long.0, own)) (omega (arith, long.1, own)) other n)

-- ---- the calls that are taken
pub record OwnCalls (h : Hour) (n : ℕ) (ls : List Line) (calls : List Interval) (m : ℕ) (rest : List Line) : Type 0 where
  pub own : List Line
  pub is : ls ≡ own ++ rest
  pub count : m ≡ n + length own
  pub takes : (other : List Line) → Takes h n (own ++ other) calls m other

pub calls_own : (calls : List Interval) (h : Hour) (n : ℕ) (ls : List Line) (m : ℕ) (rest : List Line) → length ls ≤ 65536 → Takes h n ls calls m rest → OwnCalls h n ls calls m rest
calls_own [] h n ls m rest few t = record { own = []; is = t.1; count = omega (arith, t.0); takes = λ other. (t.0, refl) }
calls_own (v ∷ calls) h n ls m rest few (k, more, r, g, t) =
    let x = interval_own n ls few k more v r in
    let y = calls_own calls (hour_after h v) k more m rest (omega (arith, few, ap length x.is, length-append x.own more)) t in
    record {
      own = x.own ++ y.own;
      is = x.is ∙ ap (λ (l : List Line). x.own ++ l) y.is ∙ sym (append_assoc x.own y.own rest);
      count = omega (arith, x.count, y.count, length-append x.own y.own);
      takes = λ other. (k, y.own ++ other, ap (read_interval n) (append_assoc x.own y.own other) ∙ x.reads (y.own ++ other), g, y.takes other);
    }

-- ---- of a text: the lines of an opening and of these calls, all accepted, whatever follows them
pub record Accepted (o : Opening) (calls : List Interval) (own : List Line) : Type 0 where
  pub accepted : opening_refusal o ≡ 0
  pub at : ℕ
  pub below : List Line
  pub opens : (other : List Line) → read_opening 0 (own ++ other) ≡ found o at (below ++ other)
  pub takes : (other : List Line) → Takes (opened_hour o) at (below ++ other) calls (length own) other

pub record Leads (ls : List Line) (o : Opening) (calls : List Interval) (m : ℕ) (rest : List Line) : Type 0 where
  pub own : List Line
  pub is : ls ≡ own ++ rest
  pub count : m ≡ length own
  pub parts : Accepted o calls own

pub leads : (ls : List Line) (o : Opening) (n : ℕ) (below : List Line) → length ls ≤ 65536 → read_opening 0 ls ≡ found o n below → opening_refusal o ≡ 0
    → (calls : List Interval) (m : ℕ) (rest : List Line) → Takes (opened_hour o) n below calls m rest → Leads ls o calls m rest
leads ls o n below few e g calls m rest t =
    let x = opening_own 0 ls few n below o e in
    let y = calls_own calls (opened_hour o) n below m rest (omega (arith, few, ap length x.is, length-append x.own below)) t in
    let count : m ≡ length (x.own ++ y.own) = omega (arith, x.count, y.count, length-append x.own y.own) in
    record {
      own = x.own ++ y.own;
      is = x.is ∙ ap (λ (l : List Line). x.own ++ l) y.is ∙ sym (append_assoc x.own y.own rest);
      count = count;
      parts = record {
        accepted = g;
        at = n;
        below = y.own;
        opens = λ other. ap (read_opening 0) (append_assoc x.own y.own other) ∙ x.reads (y.own ++ other);
        takes = λ other. subst (λ (k : ℕ). Takes (opened_hour o) n (y.own ++ other) calls k other) count (y.takes other);
      };
    }
