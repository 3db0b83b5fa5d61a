-- The same, as tests that compute: what the code answers. That each says what is stated in Words is proved in proofs/Grammar.
--   digits_b w, tag_b w, exponent_b w, number_b w, point_b w, whole_b w == w is Digits, IsTag, Exponent, IsNumber, Point, Plain with a sign
--   unsigned w     == w without its sign
--   number_of w     == the value of a whole number; 2^32 where it is none
--   is_minus w      == w starts with a minus
--   size_of w       == the number that the first digits of w are, whatever its sign
--   signed_by s n   == n, or -n where s is true
--   value_of w      == the whole number that a whole coordinate is
--   zero_b w        == w is a whole coordinate, and 0
--   clipped m w    == the same, m or -m where it is beyond that
--   same_b v w      == v and w are the same
-- Definitions only.
use Rattle.std.specs.Prelude.{Bool, true, false, ◌&&◌, ◌||◌, cond, List, [], ◌∷◌, ℕ, min, eqb, ltb, ℤ, pos, neg_ℤ, length}
use Rattle.text.specs.Writing.{reads}
use Rattle.mesh_text.specs.declared.Class.TheVariants.{Digit, Zero}
use Rattle.mesh_text.specs.Rows.{run, past, in_class}

unfoldable pub digits_b : List ℕ → Bool
digits_b w = ltb 0 (length w) && eqb (length (run (in_class Digit) w)) (length w)

unfoldable pub unsigned : List ℕ → List ℕ
unsigned [] = []
unsigned (b ∷ w) = cond (eqb b 43 || eqb b 45) w (b ∷ w)

unfoldable pub is_minus : List ℕ → Bool
is_minus [] = false
is_minus (b ∷ w) = eqb b 45

unfoldable pub tag_b : List ℕ → Bool
tag_b w = digits_b (unsigned w)

unfoldable pub exponent_b : List ℕ → Bool
exponent_b [] = true
exponent_b (b ∷ w) = (eqb b 101 || eqb b 69) && tag_b w

-- d digits, and what is behind them
unfoldable pub mantissa_b : ℕ → List ℕ → Bool
mantissa_b d [] = ltb 0 d
mantissa_b d (b ∷ f) =
    cond (eqb b 46)
    ((ltb 0 d || ltb 0 (length (run (in_class Digit) f))) && exponent_b (past (in_class Digit) f))
    (ltb 0 d && exponent_b (b ∷ f))

unfoldable pub number_b : List ℕ → Bool
number_b w = mantissa_b (length (run (in_class Digit) (unsigned w))) (past (in_class Digit) (unsigned w))

unfoldable pub point_b : List ℕ → Bool
point_b [] = true
point_b (b ∷ z) = eqb b 46 && (ltb 0 (length z) && eqb (length (run (in_class Zero) z)) (length z))

unfoldable pub whole_b : List ℕ → Bool
whole_b w = ltb 0 (length (run (in_class Digit) (unsigned w))) && point_b (past (in_class Digit) (unsigned w))

unfoldable pub number_of : List ℕ → ℕ
number_of w = cond (digits_b w) (min 4294967296 (reads w)) 4294967296

unfoldable pub size_of : List ℕ → ℕ
size_of w = reads (run (in_class Digit) (unsigned w))

abbrev pub signed_by : Bool → ℕ → ℤ
signed_by true n = neg_ℤ (pos n)
signed_by false n = pos n

unfoldable pub value_of : List ℕ → ℤ
value_of w = signed_by (is_minus w) (size_of w)

unfoldable pub zero_b : List ℕ → Bool
zero_b w = whole_b w && eqb (size_of w) 0

unfoldable pub clipped : ℕ → List ℕ → ℤ
clipped m w = signed_by (is_minus w) (min m (size_of w))

abbrev pub same_b : List ℕ → List ℕ → Bool
same_b [] [] = true
same_b [] (b ∷ w) = false
same_b (a ∷ v) [] = false
same_b (a ∷ v) (b ∷ w) = eqb a b && same_b v w
