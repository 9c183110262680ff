-- What net sellers can withhold on the constraints of an interval, put one constraint after the other. Assumes nothing.
use mathlib.Core.Bool.{Bool, true, false, cond}
use mathlib.Core.List.{List, ◌∷◌, ◌++◌, flat_map}
use mathlib.Core.Path.{◌≡◌, refl, sym, ap, ap₂, ◌∙◌}
use Prim.Native.Nat.{ℕ, zero, suc, ◌+◌, ◌-◌, ◌*◌, ◌≤◌, ◌<◌}
use native.Mathlib.Omega.{arith}
use lib.IntN.{ℤ, pos}
use lib.ListN.{length, get_or, replicate}
use lib.Seq.{sets}
use Rattle.rules_number.specs.Over.{listed}
use Rattle.rules_number.proofs.OverLaws.{listed_length, listed_at, listed_same}
use Rattle.rules_path.specs.Judgements.{path_in}
use Rattle.rules_path.specs.Paths.{Path, binds, demand, supply, offer, offers}
use Rattle.rules_path.specs.Verdicts.{path_of}
use Rattle.rules_path.specs.declared.Market.{Market}
use Rattle.rules_path.proofs.PathLaws.{demand_within}
use Rattle.rules_library.specs.Slices.{cell_at}
use Rattle.rules_state.specs.Intervals.{outputs_in}
use Rattle.cells.proofs.PutLaws.{BlocksLeft, blocks_begin, blocks_go_on, blocks_end, flat_last}
use Rattle.interval.specs.Over.{interval_over}
use Rattle.path.specs.Offered.{offer_width, offered_row, offered_cells}
use Rattle.path.specs.Tallies.{Tallied, SellersIn, sold_of, tally_of, SoundOver}
use Rattle.path.proofs.JudgeLaws.{offers_are}
use Rattle.path.proofs.SellerLaws.{offer_same}
use Rattle.path.proofs.TallyLaws.{known}

-- ---- the row of a constraint, from its tally
module _ (shadow : ℤ) (by : List ℕ) (factors outputs : List ℤ) (resources c : ℕ) (sound : SoundOver factors outputs resources c) where
  abbrev judged : Path
  judged = sold_of shadow by factors outputs resources c

  abbrev plain : Path
  plain = sold_of (pos 0) by factors outputs resources c

  module _ (t : Tallied) (t-is : t ≡ tally_of plain) where
    -- dispatch is at most available
    pub tallied_within : t.demand ≤ t.supply
    tallied_within =
        rw t-is (demand_within plain (λ r h. (known factors (outputs_in outputs 1) (outputs_in outputs 2) (outputs_in outputs 3) by c resources sound r h).dispatch_most))

    pub tallied_length : length t.offers ≡ 16
    tallied_length = rw t-is (listed_length _ 16)

    pub row_is : binds judged ≡ true → (t.supply + 1 - t.demand) ∷ t.offers ≡ offered_row judged
    unfolding offered_row demand supply
    row_is e =
        let d : t.demand ≡ demand judged = ap (λ (x : Tallied). x.demand) t-is in
        let s : t.supply ≡ supply judged = ap (λ (x : Tallied). x.supply) t-is in
        rw (e, d, s, offers_are shadow by factors outputs resources c sound t t-is)

  pub row_none : binds judged ≡ false → replicate offer_width 0 ≡ offered_row judged
  unfolding offered_row
  row_none e = rw e

-- a row is seventeen numbers
pub row_length : (d : Path) → d.portfolios ≡ 16 → length (offered_row d) ≡ offer_width
unfolding offered_row offers
row_length d e = go (binds d)
  where
    go : (t : Bool) → length (cond t ((supply d + 1 - demand d) ∷ listed (offer d) d.portfolios) (replicate offer_width 0)) ≡ offer_width
    go true = omega (arith, listed_length (offer d) d.portfolios)
    go false = refl

-- ---- one constraint after the other
module _ (f : ℕ → Path) (n : ℕ) (before : List ℕ) where
  abbrev pub Puts : List ℕ → ℕ → Type 0
  Puts out c = BlocksLeft offered_row offer_width (listed f n) before 0 out c

  pub puts_begin : Puts before 0
  puts_begin = blocks_begin offered_row offer_width (listed f n) before 0

  pub puts_go_on : (out : List ℕ) (c : ℕ) (next : List ℕ) → Puts out c → c < n → (f c).portfolios ≡ 16 → next ≡ sets out (offer_width * c) (offered_row (f c)) → Puts next (c + 1)
  puts_go_on out c next e h k q =
      let is : get_or (listed f n) c (f 0) ≡ f c = listed_at f (f 0) n c h in
      let z : offer_width * c ≡ 0 + offer_width * c = omega arith in
      blocks_go_on offered_row offer_width (listed f n) before 0 (f 0) out c next e (omega (arith, listed_length f n))
      (ap (λ (d : Path). length (offered_row d)) is ∙ row_length (f c) k) (q ∙ ap₂ (λ (j : ℕ) (d : Path). sets out j (offered_row d)) z (sym is))

  pub puts_end : (out : List ℕ) (c : ℕ) → Puts out c → n ≤ c → out ≡ sets before 0 (flat_map offered_row (listed f n))
  puts_end out c e h = blocks_end offered_row offer_width (listed f n) before 0 out c e (omega (arith, listed_length f n))

-- ---- for the market that cells stand for, by the net sellers of its resources
abbrev pub sold : List ℤ → List ℕ → List ℤ → List ℤ → ℕ → ℕ → Path
sold shadow by factors outputs n c = sold_of (cell_at shadow c) by factors outputs n c

module _ (m : Market) (constraints : ℕ) (shadow : List ℤ) (resources : ℕ) (outputs factors : List ℤ) (parameter : ℤ) (n : ℕ) (by : List ℕ) (n-is : n ≡ m.resources)
    (by-is : SellersIn m n by) where
  row_same : (c : ℕ) → offered_row (sold shadow by factors outputs n c) ≡ offered_row (path_in m (interval_over constraints shadow resources outputs factors parameter) c)
  unfolding offered_row offers demand supply
  row_same c =
      let judged = path_of (cell_at shadow c) factors (outputs_in outputs 1) (outputs_in outputs 2) (outputs_in outputs 3) m.portfolio m.seller n c in
      let e : listed (offer (sold shadow by factors outputs n c)) 16 ≡ listed (offer judged) 16
      = listed_same _ _ 16 (offer_same (cell_at shadow c) factors (outputs_in outputs 1) (outputs_in outputs 2) (outputs_in outputs 3) m by n c by-is) in
      rw e (ap (λ (k : ℕ). offered_row (path_of (cell_at shadow c) factors (outputs_in outputs 1) (outputs_in outputs 2) (outputs_in outputs 3) m.portfolio m.seller k c)) n-is)

  rows_same : (k : ℕ) → flat_map offered_row (listed (sold shadow by factors outputs n) k) ≡ flat_map offered_row (listed (path_in m (interval_over constraints shadow resources outputs factors parameter)) k)
  unfolding listed
  rows_same zero = refl
  rows_same (suc k) =
      let v = interval_over constraints shadow resources outputs factors parameter in
      flat_last offered_row (listed (sold shadow by factors outputs n) k) (sold shadow by factors outputs n k)
      ∙ ap₂ (λ (a b : List ℕ). a ++ b) (rows_same k) (row_same k) ∙ sym (flat_last offered_row (listed (path_in m v) k) (path_in m v k))

  pub offered_cells_lem : flat_map offered_row (listed (sold shadow by factors outputs n) constraints) ≡ offered_cells m (interval_over constraints shadow resources outputs factors parameter)
  unfolding offered_cells
  offered_cells_lem = rows_same constraints
