-- Laws of the numbers of a resource put in turn. Assumes nothing.
use Prim.Native.Nat.{ℕ, suc, ◌+◌, ◌*◌, ◌^◌, ◌≤◌, ◌<◌}
use mathlib.Core.Path.{◌≡◌, refl, sym, ap, ap₂, ◌∙◌}
use mathlib.Core.List.{List, [], ◌∷◌, ◌++◌, flat_map}
use native.Mathlib.Omega.{arith}
use lib.IntN.{ℤ}
use lib.Signed.{mag}
use lib.ListN.{length, get_or, set, length-append}
use lib.Seq.{sets, length-sets}
use Rattle.rules_number.proofs.Kit.{rd, came}
use Rattle.rules_curve.specs.declared.RawCurve.{RawCurve}
use Rattle.rules_cost.specs.declared.Costs.{Costs}
use Rattle.rules_opening.specs.declared.Resource.{Resource}
use Rattle.rules_text.proofs.ListLaws.{sets_append}
use Rattle.rules_state.specs.Fits.{Each}
use Rattle.rules_state.specs.Layout.{block_room}
use Rattle.rules_state.specs.States.{cell_of}
use Rattle.rules_state.proofs.StandLaws.{flat_length}
use Rattle.cells.proofs.PutLaws.{BlocksLeft, blocks_begin, blocks_go_on, blocks_end}
use Rattle.opening_puts.specs.Blocks.{raw_room, cost_room, step_numbers, point_numbers, raw_numbers, charges, cost_numbers, source_number, block_numbers, Rooms}

-- one number, or a list, and then the rest
pub one_more : (s next out : List ℤ) (at i : ℕ) (a : ℤ) (l : List ℤ) → i ≡ at + 1 → next ≡ set s at a → out ≡ sets next i l → out ≡ sets s at (a ∷ l)
one_more s next out at i a l z e f =
    let one : i ≡ suc at = omega arith in
    rw (f, e, one)

pub list_more : (s next out : List ℤ) (at i : ℕ) (k l : List ℤ) → i ≡ at + length k → next ≡ sets s at k → out ≡ sets next i l → out ≡ sets s at (k ++ l)
list_more s next out at i k l z e f = f ∙ ap (λ (m : List ℤ). sets m i l) e ∙ ap (λ (n : ℕ). sets (sets s at k) n l) z ∙ sym (sets_append s at k l)

pub pair_put : (s one out : List ℤ) (at : ℕ) (a b x y : ℤ) → x ≡ a → y ≡ b → one ≡ set s at x → out ≡ set one (at + 1) y → out ≡ sets s at (a ∷ b ∷ [])
pair_put s one out at a b x y p q e f = one_more s one out at (at + 1) a (b ∷ []) refl (e ∙ ap (set s at) p) (f ∙ ap (set one (at + 1)) q)

pub pair_exact : (s out : List ℤ) (at : ℕ) (a b x y : ℤ) → x ≡ a → y ≡ b → out ≡ sets s at (x ∷ y ∷ []) → out ≡ sets s at (a ∷ b ∷ [])
pair_exact s out at a b x y p q e = e ∙ ap₂ (λ (i j : ℤ). sets s at (i ∷ j ∷ [])) p q

-- a loop that puts two numbers for each of n elements: those of the first k are put
pub record Pairs {A : Type 0} (f : A → List ℤ) (n : ℕ) (l : List A) (before : List ℤ) (at : ℕ) (blocks : List ℤ) (k : ℕ) : Type 0 where
  pub many : length l ≡ n
  pub few : k ≤ n
  pub room : length blocks ≡ length before
  pub left : BlocksLeft f 2 l before at blocks k

pub pairs_start : {A : Type 0} (f : A → List ℤ) (n : ℕ) (l : List A) (before : List ℤ) (at : ℕ) → length l ≡ n → Pairs f n l before at before 0
pairs_start f n l before at e = record { many = e; few = omega arith; room = refl; left = blocks_begin f 2 l before at }

module _ {A : Type 0} {f : A → List ℤ} {n : ℕ} {l : List A} {before : List ℤ} {at : ℕ} {blocks : List ℤ} {k : ℕ} (h : Pairs f n l before at blocks k) where
  pub pairs_again : (d : A) {next : List ℤ} {y z : ℤ} → k < n → next ≡ sets blocks (at + 2 * k) (rd y ∷ rd z ∷ []) → mag y < 2 ^ 63 → mag z < 2 ^ 63 → f (get_or l k d) ≡ y ∷ z ∷ []
      → Pairs f n l before at next (k + 1)
  pairs_again d {next} {y} {z} m e p q g =
      let out = pair_exact blocks next (at + 2 * k) y z (rd y) (rd z) (came y p) (came z q) e in
      record {
        many = h.many;
        few = omega arith;
        room = ap length out ∙ length-sets blocks (at + 2 * k) (y ∷ z ∷ []) ∙ h.room;
        left = blocks_go_on f 2 l before at d blocks k next h.left (omega (arith, h.many)) (ap length g) (rw g out);
      }

  pub pairs_end : n ≤ k → blocks ≡ sets before at (flat_map f l)
  pairs_end m = blocks_end f 2 l before at blocks k h.left (omega (arith, h.many))

-- what holds of each index holds of each entry
pub each_from : {A : Type 0} (P : A → Type 0) (d : A) (l : List A) → ((k : ℕ) → k < length l → P (get_or l k d)) → Each P l
each_from P d [] h = tt
each_from P d (x ∷ l) h = (h 0 (omega arith), each_from P d l (λ k m. h (suc k) (omega arith)))

-- ---- how many they are
pub each_two : {A : Type 0} (f : A → List ℤ) (l : List A) → ((x : A) → length (f x) ≡ 2) → Each (λ x. length (f x) ≡ 2) l
each_two f [] h = tt
each_two f (x ∷ l) h = (h x, each_two f l h)

pub steps_length : (c : RawCurve) → length c.steps ≡ 11 → length (flat_map step_numbers c.steps) ≡ 22
steps_length c e = flat_length step_numbers 2 c.steps (each_two step_numbers c.steps (λ x. refl)) ∙ ap (λ (n : ℕ). 2 * n) e

pub points_length : (c : Costs) → length c.points ≡ 11 → length (flat_map point_numbers c.points) ≡ 22
points_length c e = flat_length point_numbers 2 c.points (each_two point_numbers c.points (λ x. refl)) ∙ ap (λ (n : ℕ). 2 * n) e

pub raw_length : (c : RawCurve) → length c.steps ≡ 11 → length (raw_numbers c) ≡ raw_room
unfolding raw_numbers
raw_length c e = omega (arith, steps_length c e)

pub cost_length : (c : Costs) → length c.points ≡ 11 → length (cost_numbers c) ≡ cost_room
unfolding cost_numbers
cost_length c e = omega (arith, length-append (flat_map point_numbers c.points) (charges c), points_length c e)

pub block_length : (x : Resource) → Rooms x → length (block_numbers x) ≡ block_room
unfolding block_numbers
block_length x f =
    omega (
      arith,
      length-append (raw_numbers x.bid) (source_number x.source ∷ cost_numbers x.costs ++ raw_numbers x.pack),
      length-append (cost_numbers x.costs) (raw_numbers x.pack),
      raw_length x.bid f.bid,
      cost_length x.costs f.points,
      raw_length x.pack f.pack,
    )

-- ---- put in turn
pub raw_put : (c : RawCurve) (s one two out : List ℤ) (at : ℕ) → one ≡ set s at c.start → two ≡ set one (at + 1) (cell_of c.count) → out ≡ sets two (at + 2) (flat_map step_numbers c.steps)
    → out ≡ sets s at (raw_numbers c)
unfolding raw_numbers
raw_put c s one two out at e f g =
    one_more s one out at (at + 1) c.start (cell_of c.count ∷ flat_map step_numbers c.steps) refl e
    (one_more one two out (at + 1) (at + 2) (cell_of c.count) (flat_map step_numbers c.steps) (omega arith) f g)

pub cost_put : (c : Costs) → length c.points ≡ 11 → (s one two three four five out : List ℤ) (at : ℕ) → one ≡ set s at (cell_of c.count) → two ≡ sets one (at + 1) (flat_map point_numbers c.points)
    → three ≡ sets two (at + 23) (c.gas ∷ c.rate ∷ []) → four ≡ sets three (at + 25) (c.allowance ∷ c.om ∷ []) → five ≡ sets four (at + 27) (c.msc ∷ c.soc ∷ []) → out ≡ set five (at + 29) c.fee
    → out ≡ sets s at (cost_numbers c)
unfolding cost_numbers
cost_put c n s one two three four five out at e f g h i j =
    one_more s one out at (at + 1) (cell_of c.count) (flat_map point_numbers c.points ++ charges c) refl e
    (list_more one two out (at + 1) (at + 23) (flat_map point_numbers c.points) (charges c) (omega (arith, points_length c n)) f
    (list_more two three out (at + 23) (at + 25) (c.gas ∷ c.rate ∷ []) (c.allowance ∷ c.om ∷ c.msc ∷ c.soc ∷ c.fee ∷ []) (omega arith) g
    (list_more three four out (at + 25) (at + 27) (c.allowance ∷ c.om ∷ []) (c.msc ∷ c.soc ∷ c.fee ∷ []) (omega arith) h
    (list_more four five out (at + 27) (at + 29) (c.msc ∷ c.soc ∷ []) (c.fee ∷ []) (omega arith) i j))))

pub block_put : (x : Resource) → Rooms x → (s one two three four out : List ℤ) (at : ℕ) → one ≡ set s at x.portfolio
    → two ≡ sets one (at + 1) (raw_numbers x.bid) → three ≡ set two (at + 25) (source_number x.source) → four ≡ sets three (at + 26) (cost_numbers x.costs) → out ≡ sets four (at + 56) (raw_numbers x.pack)
    → out ≡ sets s at (block_numbers x)
unfolding block_numbers
block_put x rooms s one two three four out at e f g h i =
    let rest = cost_numbers x.costs ++ raw_numbers x.pack in
    let a = raw_length x.bid rooms.bid in
    let b = cost_length x.costs rooms.points in
    one_more s one out at (at + 1) x.portfolio (raw_numbers x.bid ++ (source_number x.source ∷ rest)) refl e
    (list_more one two out (at + 1) (at + 25) (raw_numbers x.bid) (source_number x.source ∷ rest) (omega arith) f
    (one_more two three out (at + 25) (at + 26) (source_number x.source) rest (omega arith) g
    (list_more three four out (at + 26) (at + 56) (cost_numbers x.costs) (raw_numbers x.pack) (omega arith) h i)))
