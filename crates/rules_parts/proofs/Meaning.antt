-- What reading a part means, as texts: exactly the texts of specs/Texts are read, each as the values that it says. Assumes nothing.
use Prim.Native.Nat.{ℕ}
use mathlib.Core.Path.{◌≡◌, refl, sym, ap, ◌∙◌}
use mathlib.Core.List.{List, [], ◌∷◌, ◌++◌, append_assoc}
use Rattle.rules_interval.specs.declared.Interval.{Interval}
use Rattle.rules_opening.specs.declared.Opening.{Opening}
use Rattle.rules_text.specs.Numbers.{Line, lines}
use Rattle.rules_text.specs.Tables.{found}
use Rattle.rules_parts.specs.Parts.{read_opening, read_interval}
use Rattle.rules_parts.specs.Texts.{GivenOpening, GivenInterval, opening_lines, opening_text, opening_is, OpeningSmall, interval_lines, interval_text, interval_is, IntervalSmall}
use Rattle.rules_text.specs.Spelled.{together}
use Rattle.rules_text.proofs.ClosedLines.{together_lines}
use Rattle.rules_parts.proofs.OpeningBack.{got_is}
use Rattle.rules_parts.proofs.IntervalBack.{got_is as interval-is}
use Rattle.rules_parts.proofs.OnlyOpening.{opening_only}
use Rattle.rules_parts.proofs.OnlyInterval.{interval_only}

together_append : (ls ls' : List Line) → together (ls ++ ls') ≡ together ls ++ together ls'
unfolding together
together_append [] ls' = refl
together_append (l ∷ ls) ls' = ap (λ (t : List ℕ). l ++ t) (together_append ls ls') ∙ sym (append_assoc l (together ls) (together ls'))

text_of : (t : List ℕ) (own ls' : List Line) → lines t ≡ own ++ ls' → t ≡ together own ++ together ls'
text_of t own ls' e = sym (together_lines t) ∙ ap together e ∙ together_append own ls'

-- a text that is read as an opening is the text of one and what follows, and the opening is its values: the counts of its lines, and of each table the first ones, for which there is room
pub record OpeningMeant (t : List ℕ) (a : Opening) (ls' : List Line) : Type 0 where
  pub o : GivenOpening
  pub small : OpeningSmall o
  pub text : t ≡ opening_text o ++ together ls'
  pub value : a ≡ opening_is o

pub opening_meant : (n : ℕ) (t : List ℕ) (a : Opening) (n' : ℕ) (ls' : List Line) → read_opening n (lines t) ≡ found a n' ls' → OpeningMeant t a ls'
unfolding opening_text
opening_meant n t a n' ls' h =
    let i = opening_only n (lines t) a n' ls' h in
    record { o = i.o; small = i.small; text = text_of t (opening_lines i.o) ls' i.is; value = i.value ∙ got_is i.o }

pub record IntervalMeant (t : List ℕ) (a : Interval) (ls' : List Line) : Type 0 where
  pub i : GivenInterval
  pub small : IntervalSmall i
  pub text : t ≡ interval_text i ++ together ls'
  pub value : a ≡ interval_is i

pub interval_meant : (n : ℕ) (t : List ℕ) (a : Interval) (n' : ℕ) (ls' : List Line) → read_interval n (lines t) ≡ found a n' ls' → IntervalMeant t a ls'
unfolding interval_text
interval_meant n t a n' ls' h =
    let r = interval_only n (lines t) a n' ls' h in
    record { i = r.i; small = r.small; text = text_of t (interval_lines r.i) ls' r.is; value = r.value ∙ interval-is r.i r.small }
