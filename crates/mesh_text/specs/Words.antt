-- What the words of a Gmsh text stand for (docs/GMSH.md, G10, G14, G16, G17), each as parts put together.
--   Digits w       == w is one or more digits
--   Number w n     == w is a whole number, of value n below 2^32
--   Sign s         == s is a plus, a minus or nothing
--   IsTag w        == w is a sign and digits
--   Mantissa m, Exponent x, IsNumber w == D, D., D.D or .D; nothing, or e or E and a tag; a sign, the one and the other
--   Point p        == nothing, or a point and one or more zeros
--   Plain w n, WholeValue w z == digits of value n and then Point; the same with a sign: the whole number z
-- Definitions only; `reads` is that of the crate text.
use Rattle.std.specs.Prelude.{◌≡◌, true, List, [], ◌∷◌, ◌++◌, ℕ, ◌<◌, ℤ, pos, neg_ℤ}
use Rattle.text.specs.Writing.{reads}
use Rattle.mesh_text.specs.declared.Class.TheVariants.{Digit, Zero}
use Rattle.mesh_text.specs.Rows.{All, in_class}

pub data Digits : List ℕ → Type 0 where
  digits : {b : ℕ} {w : List ℕ} → All (λ c. in_class Digit c ≡ true) (b ∷ w) → Digits (b ∷ w)

-- ---- G10
pub record Number (w : List ℕ) (n : ℕ) : Type 0 where
  pub written : Digits w
  pub value : n ≡ reads w
  pub small : n < 4294967296

-- ---- G14; 43 is the plus, 45 the minus
pub data Sign : List ℕ → Type 0 where
  unsigned : Sign []
  plus : Sign (43 ∷ [])
  minus : Sign (45 ∷ [])

pub data IsTag : List ℕ → Type 0 where
  tag : {s d : List ℕ} → Sign s → Digits d → IsTag (s ++ d)

-- ---- G16; 46 is the point, 101 and 69 are e and E
pub data Mantissa : List ℕ → Type 0 where
  whole : {d : List ℕ} → Digits d → Mantissa d
  pointed : {d : List ℕ} → Digits d → Mantissa (d ++ (46 ∷ []))
  broken : {d f : List ℕ} → Digits d → Digits f → Mantissa (d ++ (46 ∷ f))
  started : {f : List ℕ} → Digits f → Mantissa (46 ∷ f)

pub data Exponent : List ℕ → Type 0 where
  plain : Exponent []
  small_e : {w : List ℕ} → IsTag w → Exponent (101 ∷ w)
  large_e : {w : List ℕ} → IsTag w → Exponent (69 ∷ w)

pub data IsNumber : List ℕ → Type 0 where
  is_number : {s m x : List ℕ} → Sign s → Mantissa m → Exponent x → IsNumber (s ++ (m ++ x))

-- ---- G17
pub data Point : List ℕ → Type 0 where
  no_point : Point []
  zeros : {b : ℕ} {w : List ℕ} → All (λ c. in_class Zero c ≡ true) (b ∷ w) → Point (46 ∷ b ∷ w)

pub data Plain : List ℕ → ℕ → Type 0 where
  parted : {d p : List ℕ} → Digits d → Point p → Plain (d ++ p) (reads d)

pub data WholeValue : List ℕ → ℤ → Type 0 where
  as_is : {w : List ℕ} {n : ℕ} → Plain w n → WholeValue w (pos n)
  with_plus : {w : List ℕ} {n : ℕ} → Plain w n → WholeValue (43 ∷ w) (pos n)
  with_minus : {w : List ℕ} {n : ℕ} → Plain w n → WholeValue (45 ∷ w) (neg_ℤ (pos n))
