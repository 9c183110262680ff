-- The digits of a number of up to six, four digits as bytes of one number, and stores one after another. Assumes nothing.
use Prim.Native.Nat.{ℕ, zero, suc, ◌+◌, ◌-◌, ◌*◌, ◌/◌, ◌%◌, ◌^◌, ◌≤◌, ◌<◌}
use mathlib.Core.Path.{◌≡◌, refl, sym, ap, ap₂, ◌∙◌}
use mathlib.Core.Bool.{false}
use mathlib.Core.Logic.{⊎_elim}
use mathlib.Core.List.{List, [], ◌∷◌, ◌++◌, append_assoc}
use native.Mathlib.Omega.{arith}
use native.Mathlib.Nat.{mod-lt, pow-suc}
use lib.Bits.{bit_and, and_block, and_mask}
use lib.ListN.{length, drop, get_or, set, length-append, drop_of_length-le}
use lib.Seq.{sets, set-set}
use lib.IntN.{ℤ, pos, negsuc, nat_abs}
use lib.Signed.{lt_z}
use Rattle.rules_number.proofs.OverLaws.{never, le_or_lt}
use Rattle.rules_text.specs.Numbers.{Row}
use Rattle.rules_text.specs.Printing.{digits, decimal, line_text}
use Rattle.rules_text.proofs.ListLaws.{at_cons, sets_append}
use Rattle.rules_text.proofs.PrintLaws.{digits_one, digits_more, digits_last, places, last}

-- ---- the digits of a number, by how many they are
spelled : (k n : ℕ) → suc k ≤ 19 → n < 10 ^ suc k → (0 < k → 10 ^ k ≤ n) → digits 19 n ≡ last (suc k) n
spelled k n r h l = digits_last 19 n ∙ ap (λ (j : ℕ). last j n) (places 19 k n r h l)

pub one_digit : (n : ℕ) → n < 10 → digits 19 n ≡ (48 + n) ∷ []
one_digit n h = digits_one 18 n h

pub two_digits : (n : ℕ) → 10 ≤ n → n < 100 → digits 19 n ≡ (48 + n / 10) ∷ (48 + n % 10) ∷ []
two_digits n l h =
    let a : n / 10 % 10 ≡ n / 10 = omega arith in
    spelled 1 n (omega arith) h (λ z. l) ∙ ap (λ (d : ℕ). (48 + d) ∷ (48 + n % 10) ∷ []) a

pub three_digits : (n : ℕ) → 100 ≤ n → n < 1000 → digits 19 n ≡ (48 + n / 100) ∷ (48 + n / 10 % 10) ∷ (48 + n % 10) ∷ []
three_digits n l h =
    let a : n / 10 / 10 % 10 ≡ n / 100 = omega arith in
    spelled 2 n (omega arith) h (λ z. l) ∙ ap (λ (d : ℕ). (48 + d) ∷ (48 + n / 10 % 10) ∷ (48 + n % 10) ∷ []) a

-- the last two of three digits, as put_two puts them
pub low_two : (n m h : ℕ) → m ≡ n - n / 100 * 100 → ((48 + h) ∷ (48 + m / 10) ∷ (48 + m % 10) ∷ []) ≡ ((48 + h) ∷ (48 + n / 10 % 10) ∷ (48 + n % 10) ∷ [])
low_two n m h e =
    let a : m / 10 ≡ n / 10 % 10 = omega arith in
    let b : m % 10 ≡ n % 10 = omega arith in
    ap₂ (λ (x y : ℕ). (48 + h) ∷ (48 + x) ∷ (48 + y) ∷ []) a b

-- what put_tail puts, but the byte that closes it
abbrev pub tail : ℕ → List ℕ
tail n = (48 + n / 1000) ∷ (48 + n / 100 % 10) ∷ (48 + n / 10 % 10) ∷ (48 + n % 10) ∷ []

tail_last : (n m : ℕ) → m ≡ n % 10000 → last 4 n ≡ tail m
tail_last n m e =
    let a : n / 10 / 10 / 10 % 10 ≡ m / 1000 = omega arith in
    let b : n / 10 / 10 % 10 ≡ m / 100 % 10 = omega arith in
    let c : n / 10 % 10 ≡ m / 10 % 10 = omega arith in
    let d : n % 10 ≡ m % 10 = omega arith in
    ap₂ (λ (x y : ℕ). (48 + x) ∷ (48 + y) ∷ (48 + n / 10 % 10) ∷ (48 + n % 10) ∷ []) a b
    ∙ ap₂ (λ (x y : ℕ). (48 + m / 1000) ∷ (48 + m / 100 % 10) ∷ (48 + x) ∷ (48 + y) ∷ []) c d

pub four_digits : (n : ℕ) → 1000 ≤ n → n < 10000 → digits 19 n ≡ tail n
four_digits n l h = spelled 3 n (omega arith) h (λ z. l) ∙ tail_last n n (omega arith)

pub five_digits : (n m : ℕ) → 10000 ≤ n → n < 100000 → m ≡ n % 10000 → digits 19 n ≡ (48 + n / 10000) ∷ tail m
five_digits n m l h e =
    let a : n / 10 / 10 / 10 / 10 % 10 ≡ n / 10000 = omega arith in
    spelled 4 n (omega arith) h (λ z. l) ∙ ap₂ (λ (d : ℕ) (t : List ℕ). (48 + d) ∷ t) a (tail_last n m e)

pub six_digits : (n m : ℕ) → 100000 ≤ n → n < 1000000 → m ≡ n % 10000 → digits 19 n ≡ (48 + n / 10000 / 10) ∷ (48 + n / 10000 % 10) ∷ tail m
six_digits n m l h e =
    let a : n / 10 / 10 / 10 / 10 / 10 % 10 ≡ n / 10000 / 10 = omega arith in
    let b : n / 10 / 10 / 10 / 10 % 10 ≡ n / 10000 % 10 = omega arith in
    spelled 5 n (omega arith) h (λ z. l) ∙ ap₂ (λ (d : ℕ) (t : List ℕ). (48 + d) ∷ t) a (ap₂ (λ (d : ℕ) (t : List ℕ). (48 + d) ∷ t) b (tail_last n m e))

-- more places than it needs change nothing
fuel : (f g n : ℕ) → n < 10 ^ suc f → n < 10 ^ suc g → digits (suc f) n ≡ digits (suc g) n
fuel zero g n a b = digits_one 0 n a ∙ sym (digits_one g n a)
fuel (suc f) zero n a b = digits_one (suc f) n b ∙ sym (digits_one 0 n b)
fuel (suc f) (suc g) n a b = ⊎_elim
    (λ h.
    let p : 10 ^ suc (suc f) ≡ 10 ^ suc f * 10 = pow-suc 10 (suc f) in
    let q : 10 ^ suc (suc g) ≡ 10 ^ suc g * 10 = pow-suc 10 (suc g) in
    digits_more (suc f) n h ∙ ap (λ (l : List ℕ). l ++ ((48 + n % 10) ∷ [])) (fuel f g (n / 10) (omega arith) (omega arith)) ∙ sym (digits_more (suc g) n h))
    (λ h. digits_one (suc f) n h ∙ sym (digits_one (suc g) n h)) (le_or_lt 10 n)

four_more : (q : List ℕ) (a b c d : ℕ) → (((q ++ (a ∷ [])) ++ (b ∷ [])) ++ (c ∷ [])) ++ (d ∷ []) ≡ q ++ (a ∷ b ∷ c ∷ d ∷ [])
four_more q a b c d =
    append_assoc ((q ++ (a ∷ [])) ++ (b ∷ [])) (c ∷ []) (d ∷ []) ∙ append_assoc (q ++ (a ∷ [])) (b ∷ []) (c ∷ d ∷ []) ∙ append_assoc q (a ∷ []) (b ∷ c ∷ d ∷ [])

-- the digits before the last four, and those
pub split : (n h m : ℕ) → 10000 ≤ n → n < 10 ^ 19 → h ≡ n / 10000 → m ≡ n % 10000 → digits 19 n ≡ digits 19 h ++ tail m
split n h m l u e f =
    let d : (k : ℕ) → List ℕ = λ k. (48 + k % 10) ∷ [] in
    let q : n / 10 / 10 / 10 / 10 ≡ h = omega arith in
    digits_more 18 n (omega arith)
    ∙ ap (λ (k : List ℕ). k ++ d n) (digits_more 17 (n / 10) (omega arith)
    ∙ ap (λ (k : List ℕ). k ++ d (n / 10)) (digits_more 16 (n / 10 / 10) (omega arith)
    ∙ ap (λ (k : List ℕ). k ++ d (n / 10 / 10)) (digits_more 15 (n / 10 / 10 / 10) (omega arith))))
    ∙ four_more (digits 15 (n / 10 / 10 / 10 / 10)) (48 + n / 10 / 10 / 10 % 10) (48 + n / 10 / 10 % 10) (48 + n / 10 % 10) (48 + n % 10)
    ∙ ap₂ (λ (k j : List ℕ). k ++ j) (ap (digits 15) q ∙ fuel 14 18 h (omega arith) (omega arith)) (tail_last n m f)

-- ---- stores one after another
-- what is put after a text, and the two are a text
pub after : (out l : List ℕ) (at i : ℕ) (a b c : List ℕ) → l ≡ sets out at a → i ≡ at + length a → a ++ b ≡ c → sets l i b ≡ sets out at c
after out l at i a b c e f g = ap₂ (λ (m : List ℕ) (j : ℕ). sets m j b) e f ∙ sym (sets_append out at a b) ∙ ap (sets out at) g

-- the same, over a byte that was put after the text
pub over : (out l : List ℕ) (at i x y : ℕ) (a b : List ℕ) → l ≡ sets out at (a ++ (x ∷ [])) → i ≡ at + length a → sets l i (y ∷ b) ≡ sets out at (a ++ (y ∷ b))
over out l at i x y a b e f =
    ap₂ (λ (m : List ℕ) (j : ℕ). sets m j (y ∷ b)) (e ∙ sets_append out at a (x ∷ [])) f
    ∙ ap (λ (m : List ℕ). sets m (suc (at + length a)) b) (set-set (sets out at a) (at + length a) x y) ∙ sym (sets_append out at a (y ∷ b))

pub two_stores : (out : List ℕ) (at i x y u v : ℕ) → x ≡ u → i ≡ suc at → y ≡ v → set (set out at x) i y ≡ sets out at (u ∷ v ∷ [])
two_stores out at i x y u v e f g = rw (e, f, g)

-- the digits, and then the byte that closes them
pub ends : (out l : List ℕ) (at i r n end : ℕ) (a : List ℕ) → digits 19 n ≡ a → l ≡ sets out at a → i ≡ at + length a → r ≡ i + 1
    → (set l i end ≡ sets out at (digits 19 n ++ (end ∷ []))) × (r ≡ at + length (digits 19 n) + 1)
ends out l at i r n end a e f g h =
    (after out l at i a (end ∷ []) (digits 19 n ++ (end ∷ [])) f g (ap (λ (d : List ℕ). d ++ (end ∷ [])) (sym e)), omega (arith, g, h, ap length e))

-- the digits before the last four, and then those and the byte that closes them
pub tails : (out l last : List ℕ) (at i r n m end : ℕ) (a : List ℕ) → digits 19 n ≡ a ++ tail m → l ≡ sets out at a → i ≡ at + length a
    → last ≡ sets l i (tail m ++ (end ∷ [])) → r ≡ i + 5
    → (last ≡ sets out at (digits 19 n ++ (end ∷ []))) × (r ≡ at + length (digits 19 n) + 1)
tails out l last at i r n m end a e f g h k = (
  h ∙ after out l at i a (tail m ++ (end ∷ [])) (digits 19 n ++ (end ∷ [])) f g (sym (append_assoc a (tail m) (end ∷ [])) ∙ ap (λ (d : List ℕ). d ++ (end ∷ [])) (sym e)),
  omega (arith, g, k, ap length e, length-append a (tail m)),
)

-- the bytes of a number
low_byte : (w x r : ℕ) → x < 256 → w ≡ x + r * 256 → w % 256 ≡ x
low_byte w x r h e = omega arith

other_bytes : (w x r : ℕ) → x < 256 → w ≡ x + r * 256 → w / 256 ≡ r
other_bytes w x r h e = omega arith

small_byte : (v : ℕ) → v < 256 → v % 256 ≡ v
small_byte v h = omega arith

pub word_bytes : (w x y z v : ℕ) → x < 256 → y < 256 → z < 256 → v < 256 → w ≡ x + y * 256 + z * 65536 + v * 16777216
    → (w % 256 ∷ w / 256 % 256 ∷ w / 65536 % 256 ∷ w / 16777216 % 256 ∷ []) ≡ (x ∷ y ∷ z ∷ v ∷ [])
word_bytes w x y z v hx hy hz hv e =
    let f : w ≡ x + (y + (z + v * 256) * 256) * 256 = omega arith in
    let g = other_bytes w x (y + (z + v * 256) * 256) hx f in
    let h = other_bytes (w / 256) y (z + v * 256) hy g in
    let k = other_bytes (w / 256 / 256) z v hz h in
    let b : w / 65536 ≡ w / 256 / 256 = omega (arith) in
    let c : w / 16777216 ≡ w / 256 / 256 / 256 = omega (arith) in
    rw (b, c, k, low_byte w x (y + (z + v * 256) * 256) hx f, low_byte (w / 256) y (z + v * 256) hy g, low_byte (w / 256 / 256) z v hz h, small_byte v hv)

pub head_one : (w a b : ℕ) → a < 10 → b < 10 → w ≡ 48 + a + 32 * 256 + (48 + b) * 65536 + 32 * 16777216
    → (w % 256 ∷ w / 256 % 256 ∷ w / 65536 % 256 ∷ w / 16777216 % 256 ∷ []) ≡ digits 19 a ++ (32 ∷ (digits 19 b ++ (32 ∷ [])))
head_one w a b ha hb e =
    word_bytes w (48 + a) 32 (48 + b) 32 (omega arith) (omega arith) (omega arith) (omega arith) e
    ∙ sym (ap₂ (λ (l m : List ℕ). l ++ (32 ∷ (m ++ (32 ∷ [])))) (one_digit a ha) (one_digit b hb))

pub head_two : (w a b : ℕ) → a < 10 → 10 ≤ b → b < 100 → w ≡ 48 + a + 32 * 256 + (48 + b / 10) * 65536 + (48 + b % 10) * 16777216
    → (w % 256 ∷ w / 256 % 256 ∷ w / 65536 % 256 ∷ w / 16777216 % 256 ∷ []) ++ (32 ∷ []) ≡ digits 19 a ++ (32 ∷ (digits 19 b ++ (32 ∷ [])))
head_two w a b ha lb hb e =
    ap (λ (l : List ℕ). l ++ (32 ∷ [])) (word_bytes w (48 + a) 32 (48 + b / 10) (48 + b % 10) (omega arith) (omega arith) (omega arith) (omega arith) e)
    ∙ sym (ap₂ (λ (l m : List ℕ). l ++ (32 ∷ (m ++ (32 ∷ [])))) (one_digit a ha) (two_digits b lb hb))

-- ---- four digits as bytes of one number
mask_two : (h l : ℕ) → l < 65536 → bit_and (h * 65536 + l) 983055 ≡ h % 16 * 65536 + l % 16
mask_two h l k = and_block 16 h 15 l 15 k (omega arith) ∙ ap₂ (λ (x y : ℕ). x * 65536 + y) (and_mask h 4) (and_mask l 4)

spread : (a b : ℕ) → (a + b * 65536) * 103 / 1024 ≡ b * 103 / 1024 * 65536 + (b * 103 % 1024 * 64 + a * 103 / 1024)
spread a b = omega arith

tenth : (a : ℕ) → a < 100 → a * 103 / 1024 ≡ a / 10
tenth a h = omega arith

by_ten : (a b : ℕ) → a < 100 → b < 100 → bit_and ((a + b * 65536) * 103 / 1024) 983055 ≡ a / 10 + b / 10 * 65536
by_ten a b ha hb =
    let m = b * 103 % 1024 in
    let hm : m < 1024 = mod-lt (b * 103) (omega arith) in
    ap (λ (x : ℕ). bit_and x 983055) (spread a b ∙ ap₂ (λ (x y : ℕ). x * 65536 + (m * 64 + y)) (tenth b hb) (tenth a ha))
    ∙ mask_two (b / 10) (m * 64 + a / 10) (omega arith)
    ∙ (let u : b / 10 % 16 ≡ b / 10 = omega arith in
    let v : (m * 64 + a / 10) % 16 ≡ a / 10 = omega arith in
    rw (u, v) (omega arith))

pub hundredth : (n : ℕ) → n < 10000 → n * 5243 / 524288 ≡ n / 100
hundredth n h = omega arith

-- the pairs of n in two lanes
pub pairs : (n : ℕ) → n < 10000 → n * 65536 - n * 5243 / 524288 * 6553599 ≡ n / 100 + n % 100 * 65536
pairs n h = omega (arith, hundredth n h)

-- the tens of both
pub tens_of : (n : ℕ) → n < 10000 → bit_and ((n * 65536 - n * 5243 / 524288 * 6553599) * 103 / 1024) 983055 ≡ n / 100 / 10 + n % 100 / 10 * 65536
tens_of n h = ap (λ (x : ℕ). bit_and (x * 103 / 1024) 983055) (pairs n h) ∙ by_ten (n / 100) (n % 100) (omega arith) (omega arith)

pair : (q : ℕ) → q * 256 ≡ q / 10 * 2559 + (q / 10 + q % 10 * 256)
pair q = omega arith

two_pairs : (x t a b c d q r : ℕ) → x ≡ q + r * 65536 → t ≡ a + c * 65536 → q * 256 ≡ a * 2559 + (a + b * 256) → r * 256 ≡ c * 2559 + (c + d * 256)
    → x * 256 - t * 2559 + 808464432 ≡ 48 + a + (48 + b) * 256 + (48 + c) * 65536 + (48 + d) * 16777216
two_pairs x t a b c d q r e f g h = omega arith

pub four_is : (n x t : ℕ) → n < 10000 → x ≡ n / 100 + n % 100 * 65536 → t ≡ n / 100 / 10 + n % 100 / 10 * 65536
    → x * 256 - t * 2559 + 808464432 ≡ 48 + n / 1000 + (48 + n / 100 % 10) * 256 + (48 + n / 10 % 10) * 65536 + (48 + n % 10) * 16777216
four_is n x t h e f =
    let a : n / 1000 ≡ n / 100 / 10 = omega arith in
    let b : n / 10 % 10 ≡ n % 100 / 10 = omega arith in
    let c : n % 10 ≡ n % 100 % 10 = omega arith in
    rw (a, b, c) (two_pairs x t (n / 100 / 10) (n / 100 % 10) (n % 100 / 10) (n % 100 % 10) (n / 100) (n % 100) e f (pair (n / 100)) (pair (n % 100)))

-- ---- a line of four values, or of five
-- a number that is not negative is its size
pub own_size : (x : ℤ) → lt_z x (pos 0) ≡ false → pos (nat_abs x) ≡ x
own_size (pos n) e = refl
own_size (negsuc n) e = never (sym e)

pub all_four : (v : Row) → length v ≡ 4 → v ≡ (get_or v 0 (pos 0) ∷ get_or v 1 (pos 0) ∷ get_or v 2 (pos 0) ∷ get_or v 3 (pos 0) ∷ [])
all_four v n =
    let end : drop 4 v ≡ [] = drop_of_length-le v {i = 4} (omega arith) in
    let put : (i : ℕ) (t : Row) → i < 4 → drop (i + 1) v ≡ t → drop i v ≡ get_or v i (pos 0) ∷ t = λ i t h e. at_cons (pos 0) v i (omega arith) ∙ ap (λ (r : Row). get_or v i (pos 0) ∷ r) e in
    put 0 _ (omega arith) (put 1 _ (omega arith) (put 2 _ (omega arith) (put 3 _ (omega arith) end)))

pub all_five : (v : Row) → length v ≡ 5 → v ≡ (get_or v 0 (pos 0) ∷ get_or v 1 (pos 0) ∷ get_or v 2 (pos 0) ∷ get_or v 3 (pos 0) ∷ get_or v 4 (pos 0) ∷ [])
all_five v n =
    let end : drop 5 v ≡ [] = drop_of_length-le v {i = 5} (omega arith) in
    let put : (i : ℕ) (t : Row) → i < 5 → drop (i + 1) v ≡ t → drop i v ≡ get_or v i (pos 0) ∷ t = λ i t h e. at_cons (pos 0) v i (omega arith) ∙ ap (λ (r : Row). get_or v i (pos 0) ∷ r) e in
    put 0 _ (omega arith) (put 1 _ (omega arith) (put 2 _ (omega arith) (put 3 _ (omega arith) (put 4 _ (omega arith) end))))

abbrev pub head : ℕ → ℕ → List ℕ
head a b = digits 19 a ++ (32 ∷ (digits 19 b ++ (32 ∷ [])))

-- a number and the byte that closes it
abbrev pub closed : ℤ → ℕ → List ℕ
closed x end = decimal x ++ (end ∷ [])

line_four : (a b : ℕ) (c d : ℤ) → (head a b ++ closed c 32) ++ closed d 10 ≡ line_text (pos a ∷ pos b ∷ c ∷ d ∷ [])
unfolding line_text decimal
line_four a b c d = simp append_assoc

line_five : (a b : ℕ) (c d e : ℤ) → ((head a b ++ closed c 32) ++ closed d 32) ++ closed e 10 ≡ line_text (pos a ∷ pos b ∷ c ∷ d ∷ e ∷ [])
unfolding line_text decimal
line_five a b c d e = simp append_assoc

-- the text t was put at an offset, and next is the offset after it
pub record Placed (out : List ℕ) (at : ℕ) (t put : List ℕ) (next : ℕ) : Type 0 where
  pub buffer : put ≡ sets out at t
  pub after : next ≡ at + length t

module _ {out put : List ℕ} {at next : ℕ} where
  pub head_placed : (a b : ℕ) → a < 10 → put ≡ sets out at (head a b) → next ≡ at + length (digits 19 b) + 3 → Placed out at (head a b) put next
  head_placed a b h e f = record {
    buffer = e;
    after = omega (arith, f, length-append (digits 19 a) (32 ∷ (digits 19 b ++ (32 ∷ []))), length-append (digits 19 b) (32 ∷ []), ap length (one_digit a h));
  }

  -- one number more
  pub value_placed : {l t : List ℕ} {i : ℕ} (x : ℤ) (end : ℕ) → Placed out at t l i → put ≡ sets l i (closed x end) → next ≡ i + length (decimal x) + 1 → Placed out at (t ++ closed x end) put next
  value_placed {l} {t} {i} x end w e f = record {
    buffer = e ∙ after out l at i t (closed x end) (t ++ closed x end) w.buffer w.after refl;
    after = omega (arith, f, w.after, length-append t (closed x end), length-append (decimal x) (end ∷ []));
  }

  placed_as : {t : List ℕ} (u : List ℕ) → t ≡ u → Placed out at t put next → (put ≡ sets out at u) × (next ≡ at + length u)
  placed_as u e w = (w.buffer ∙ ap (sets out at) e, w.after ∙ ap (λ (x : List ℕ). at + length x) e)

  pub four_placed : (a b : ℕ) (c d : ℤ) → Placed out at ((head a b ++ closed c 32) ++ closed d 10) put next
      → (put ≡ sets out at (line_text (pos a ∷ pos b ∷ c ∷ d ∷ []))) × (next ≡ at + length (line_text (pos a ∷ pos b ∷ c ∷ d ∷ [])))
  four_placed a b c d = placed_as _ (line_four a b c d)

  pub five_placed : (a b : ℕ) (c d e : ℤ) → Placed out at (((head a b ++ closed c 32) ++ closed d 32) ++ closed e 10) put next
      → (put ≡ sets out at (line_text (pos a ∷ pos b ∷ c ∷ d ∷ e ∷ []))) × (next ≡ at + length (line_text (pos a ∷ pos b ∷ c ∷ d ∷ e ∷ [])))
  five_placed a b c d e = placed_as _ (line_five a b c d e)
