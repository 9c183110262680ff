-- Paper 01, Text: the bytes of the names lines as numbers, and what stands between and after the values of a line. Assumes nothing.
use Prim.Native.Char.{Char, code}
use Prim.Native.String.{String, ◌∷◌ as ◌before◌}
use mathlib.Core.Path.{◌≡◌, refl}
use mathlib.Core.List.{[], ◌∷◌, ◌++◌}
use lib.IntN.{ℤ}
use Rattle.rules_text.specs.Numbers.{Row, bytes}
use Rattle.rules_text.specs.Printing.{decimal, line_text}

-- a quoted text is its characters' codes, one by one
pub bytes_are : (c : Char) (s : String) → bytes (c before s) ≡ code c ∷ bytes s
bytes_are c s = refl

-- the names lines of the ten tables that are read, "-", those of the three that are printed, and that of a refusal
pub record Names : Type 0 where
  pub month : bytes "month\n" ≡ 109 ∷ 111 ∷ 110 ∷ 116 ∷ 104 ∷ 10 ∷ []
  pub sellers : bytes "portfolio seller\n" ≡ 112 ∷ 111 ∷ 114 ∷ 116 ∷ 102 ∷ 111 ∷ 108 ∷ 105 ∷ 111 ∷ 32 ∷ 115 ∷ 101 ∷ 108 ∷ 108 ∷ 101 ∷ 114 ∷ 10 ∷ []
  pub resources : bytes "resource portfolio start\n" ≡ 114 ∷ 101 ∷ 115 ∷ 111 ∷ 117 ∷ 114 ∷ 99 ∷ 101 ∷ 32 ∷ 112 ∷ 111 ∷ 114 ∷ 116 ∷ 102 ∷ 111 ∷ 108 ∷ 105 ∷ 111 ∷ 32 ∷ 115 ∷ 116 ∷ 97 ∷ 114 ∷ 116 ∷ 10 ∷ []
  pub steps : bytes "resource end price\n" ≡ 114 ∷ 101 ∷ 115 ∷ 111 ∷ 117 ∷ 114 ∷ 99 ∷ 101 ∷ 32 ∷ 101 ∷ 110 ∷ 100 ∷ 32 ∷ 112 ∷ 114 ∷ 105 ∷ 99 ∷ 101 ∷ 10 ∷ []
  pub points : bytes "resource mw heat\n" ≡ 114 ∷ 101 ∷ 115 ∷ 111 ∷ 117 ∷ 114 ∷ 99 ∷ 101 ∷ 32 ∷ 109 ∷ 119 ∷ 32 ∷ 104 ∷ 101 ∷ 97 ∷ 116 ∷ 10 ∷ []
  pub costs : bytes "resource gas rate allowance om msc soc fee\n" ≡ 114 ∷ 101 ∷ 115 ∷ 111 ∷ 117 ∷ 114 ∷ 99 ∷ 101 ∷ 32 ∷ 103 ∷ 97 ∷ 115 ∷ 32 ∷ 114 ∷ 97 ∷ 116 ∷ 101 ∷ 32 ∷ 97 ∷ 108 ∷ 108 ∷ 111 ∷ 119 ∷ 97 ∷ 110 ∷ 99 ∷ 101 ∷ 32 ∷ 111 ∷ 109 ∷ 32 ∷ 109 ∷ 115 ∷ 99 ∷ 32 ∷ 115 ∷ 111 ∷ 99 ∷ 32 ∷ 102 ∷ 101 ∷ 101 ∷ 10 ∷ []
  pub shadows : bytes "constraint shadow\n" ≡ 99 ∷ 111 ∷ 110 ∷ 115 ∷ 116 ∷ 114 ∷ 97 ∷ 105 ∷ 110 ∷ 116 ∷ 32 ∷ 115 ∷ 104 ∷ 97 ∷ 100 ∷ 111 ∷ 119 ∷ 10 ∷ []
  pub outputs : bytes "resource lmp dispatch available floor\n" ≡ 114 ∷ 101 ∷ 115 ∷ 111 ∷ 117 ∷ 114 ∷ 99 ∷ 101 ∷ 32 ∷ 108 ∷ 109 ∷ 112 ∷ 32 ∷ 100 ∷ 105 ∷ 115 ∷ 112 ∷ 97 ∷ 116 ∷ 99 ∷ 104 ∷ 32 ∷ 97 ∷ 118 ∷ 97 ∷ 105 ∷ 108 ∷ 97 ∷ 98 ∷ 108 ∷ 101 ∷ 32 ∷ 102 ∷ 108 ∷ 111 ∷ 111 ∷ 114 ∷ 10 ∷ []
  pub factors : bytes "resource constraint factor\n" ≡ 114 ∷ 101 ∷ 115 ∷ 111 ∷ 117 ∷ 114 ∷ 99 ∷ 101 ∷ 32 ∷ 99 ∷ 111 ∷ 110 ∷ 115 ∷ 116 ∷ 114 ∷ 97 ∷ 105 ∷ 110 ∷ 116 ∷ 32 ∷ 102 ∷ 97 ∷ 99 ∷ 116 ∷ 111 ∷ 114 ∷ 10 ∷ []
  pub parameter : bytes "parameter\n" ≡ 112 ∷ 97 ∷ 114 ∷ 97 ∷ 109 ∷ 101 ∷ 116 ∷ 101 ∷ 114 ∷ 10 ∷ []
  pub missing : bytes "-\n" ≡ 45 ∷ 10 ∷ []
  pub verdicts : bytes "interval constraint verdict demand left\n" ≡ 105 ∷ 110 ∷ 116 ∷ 101 ∷ 114 ∷ 118 ∷ 97 ∷ 108 ∷ 32 ∷ 99 ∷ 111 ∷ 110 ∷ 115 ∷ 116 ∷ 114 ∷ 97 ∷ 105 ∷ 110 ∷ 116 ∷ 32 ∷ 118 ∷ 101 ∷ 114 ∷ 100 ∷ 105 ∷ 99 ∷ 116 ∷ 32 ∷ 100 ∷ 101 ∷ 109 ∷ 97 ∷ 110 ∷ 100 ∷ 32 ∷ 108 ∷ 101 ∷ 102 ∷ 116 ∷ 10 ∷ []
  pub withheld : bytes "interval constraint portfolio withheld\n" ≡ 105 ∷ 110 ∷ 116 ∷ 101 ∷ 114 ∷ 118 ∷ 97 ∷ 108 ∷ 32 ∷ 99 ∷ 111 ∷ 110 ∷ 115 ∷ 116 ∷ 114 ∷ 97 ∷ 105 ∷ 110 ∷ 116 ∷ 32 ∷ 112 ∷ 111 ∷ 114 ∷ 116 ∷ 102 ∷ 111 ∷ 108 ∷ 105 ∷ 111 ∷ 32 ∷ 119 ∷ 105 ∷ 116 ∷ 104 ∷ 104 ∷ 101 ∷ 108 ∷ 100 ∷ 10 ∷ []
  pub curves : bytes "interval resource end price\n" ≡ 105 ∷ 110 ∷ 116 ∷ 101 ∷ 114 ∷ 118 ∷ 97 ∷ 108 ∷ 32 ∷ 114 ∷ 101 ∷ 115 ∷ 111 ∷ 117 ∷ 114 ∷ 99 ∷ 101 ∷ 32 ∷ 101 ∷ 110 ∷ 100 ∷ 32 ∷ 112 ∷ 114 ∷ 105 ∷ 99 ∷ 101 ∷ 10 ∷ []
  pub refusal : bytes "refusal line\n" ≡ 114 ∷ 101 ∷ 102 ∷ 117 ∷ 115 ∷ 97 ∷ 108 ∷ 32 ∷ 108 ∷ 105 ∷ 110 ∷ 101 ∷ 10 ∷ []

pub names : Names
names = record {
  month = refl;
  sellers = refl;
  resources = refl;
  steps = refl;
  points = refl;
  costs = refl;
  shadows = refl;
  outputs = refl;
  factors = refl;
  parameter = refl;
  missing = refl;
  verdicts = refl;
  withheld = refl;
  curves = refl;
  refusal = refl;
}

-- "one space between, each line closed by byte 10"
pub line_one : (z : ℤ) → line_text (z ∷ []) ≡ decimal z ++ (10 ∷ [])
unfolding line_text
line_one z = refl

pub line_more : (z y : ℤ) (zs : Row) → line_text (z ∷ y ∷ zs) ≡ decimal z ++ (32 ∷ line_text (y ∷ zs))
unfolding line_text
line_more z y zs = refl
