-- The line that is refused is the first faulty one: those before it can be completed to a part, and with it they can't. Assumes nothing.
use Rattle.std.specs.Prelude.{Some}
use Prim.Native.Nat.{ℕ, suc}
use mathlib.Core.Path.{◌≡◌, refl, sym, ap, ◌∙◌}
use mathlib.Core.List.{List, [], ◌∷◌, ◌++◌, append-nil}
use lib.ListN.{length}
use lib.IntN.{pos}
use native.Mathlib.Omega.{arith}
use Rattle.rules_text.specs.Numbers.{Line, bytes, number, magnitude}
use Rattle.rules_text.specs.Tables.{Reader, faulty, due, headed, single, rows, counted, grouped, pairs, each}
use Rattle.rules_parts.specs.Parts.{opening_of, read_opening, is_factor, place_of, factor_rows, parameter_by, parameter_of, interval_of, read_interval_by, read_interval}
use Rattle.rules_text.specs.Printing.{line_text}
use Rattle.rules_parts.specs.Faults.{First}
use Rattle.rules_text.proofs.ReaderLaws.{single_back}
use Rattle.rules_parts.proofs.FaultLaws.{Outer, Inner, found_outer, then_outer}
use Rattle.rules_parts.proofs.TableFaults.{Any, Few, headed_outer, due_inner, run_rows, rows_inner, counted_inner, grouped_inner, each_inner}

first_of : {A : Type 0} (r : Reader A) → Outer r Any → (n : ℕ) (ls : List Line) (line : ℕ) → r n ls ≡ faulty line → First r n ls line
unfolding number magnitude
first_of r p n ls line e =
    let F = (p.fault n ls line e).fault in
    record {
      start = F.start;
      left = F.left;
      is = F.is;
      number = F.number;
      more = F.more;
      part = F.part;
      whole = ap (λ (t : List Line). r n (F.start ++ t)) (sym (append-nil F.more)) ∙ F.whole [] refl;
      never = F.never;
    }

zero_line : single (line_text (pos 0 ∷ [])) ≡ Some (pos 0)
zero_line = single_back (pos 0) (omega arith)

opening_outer : Outer read_opening Any
unfolding read_opening number magnitude
opening_outer =
    then_outer (headed "month\n" (due single)) _ Any Any (headed_outer "month\n" (due single) Any refl (due_inner single (line_text (pos 0 ∷ [])) (pos 0) zero_line)) (λ m a.
    then_outer (headed "portfolio seller\n" (counted 2)) _ Few Any (headed_outer "portfolio seller\n" (counted 2) Few refl (counted_inner 1)) (λ ps b.
    then_outer (headed "resource portfolio start\n" (counted 3)) _ Few Any (headed_outer "resource portfolio start\n" (counted 3) Few refl (counted_inner 2)) (λ rs c.
    then_outer (headed "resource end price\n" (grouped pairs (length rs) 0)) _ Any Any (headed_outer "resource end price\n" (grouped pairs (length rs) 0) Any refl (grouped_inner (length rs))) (λ ss d.
    then_outer (headed "resource mw heat\n" (grouped pairs (length rs) 0)) _ Any Any (headed_outer "resource mw heat\n" (grouped pairs (length rs) 0) Any refl (grouped_inner (length rs))) (λ hs e.
    then_outer (headed "resource gas rate allowance om msc soc fee\n" (each 8 (length rs) 0)) _ Any Any
    (headed_outer "resource gas rate allowance om msc soc fee\n" (each 8 (length rs) 0) Any refl (each_inner 7 (length rs) c)) (λ cs f.
    found_outer (opening_of m ps rs ss hs cs) Any refl))))))

pub opening_first : (n : ℕ) (ls : List Line) (line : ℕ) → read_opening n ls ≡ faulty line → First read_opening n ls line
opening_first = first_of read_opening opening_outer

missing : parameter_of (bytes "-\n") ≡ Some (pos 0)
unfolding parameter_by
missing = refl

factors_inner : (n m : ℕ) → Inner (rows (factor_rows n m)) Any
unfolding factor_rows
factors_inner n m = rows_inner (factor_rows n m) Any (run_rows 2 (is_factor n m) (λ i x. suc (place_of m x)) Any 0 (λ ls. refl))

interval_outer : Outer read_interval Any
unfolding read_interval_by number magnitude
interval_outer =
    then_outer (headed "constraint shadow\n" (counted 2)) _ Few Any (headed_outer "constraint shadow\n" (counted 2) Few refl (counted_inner 1)) (λ cs a.
    then_outer (headed "resource lmp dispatch available floor\n" (counted 5)) _ Few Any (headed_outer "resource lmp dispatch available floor\n" (counted 5) Few refl (counted_inner 4)) (λ os b.
    then_outer (headed "resource constraint factor\n" (rows (factor_rows (length os) (length cs)))) _ Any Any
    (headed_outer "resource constraint factor\n" (rows (factor_rows (length os) (length cs))) Any refl (factors_inner (length os) (length cs))) (λ fs c.
    then_outer (headed "parameter\n" (due parameter_of)) _ Any Any (headed_outer "parameter\n" (due parameter_of) Any refl (due_inner parameter_of (bytes "-\n") (pos 0) missing)) (λ p d.
    found_outer (interval_of cs os fs p) Any refl))))

pub interval_first : (n : ℕ) (ls : List Line) (line : ℕ) → read_interval n ls ≡ faulty line → First read_interval n ls line
interval_first = first_of read_interval interval_outer
