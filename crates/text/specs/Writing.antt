-- Text in a buffer, and numbers as text.
--   Wrote o at t o' p == of the buffer o, with the text t written at the place `at`, o' is left and p is the place after it, if there
--                     is room for t; the buffer's length stays in any case
--   decimal n       == the number n in decimal: its digits, without a zero before them
--   integer z       == a whole number in decimal, with a minus before it if it is below zero
--   reads ds        == the number that digits stand for
--   reads_integer ds == the whole number that digits, with a minus before them or none, stand for
-- Definitions only.
use Rattle.std.specs.Prelude.{◌≡◌, cond, List, [], ◌∷◌, ◌++◌, ℕ, zero, suc, ◌+◌, ◌-◌, ◌*◌, ◌/◌, ◌%◌, ◌≤◌, ltb, eqb, ℤ, pos, negsuc, neg_ℤ, length}
use Rattle.endian.specs.Numbers.{over}

pub record Wrote (o : List ℕ) (at : ℕ) (t o' : List ℕ) (p : ℕ) : Type 0 where
  pub size : length o' ≡ length o
  pub place : at + length t ≤ length o → p ≡ at + length t
  pub content : at + length t ≤ length o → o' ≡ over o at t

-- ---- numbers; 48 is the digit 0, 45 the minus
-- the digits of n, where f is above n
unfoldable pub digits : ℕ → ℕ → List ℕ
digits zero n = []
digits (suc f) n = cond (ltb n 10) ((48 + n) ∷ []) (digits f (n / 10) ++ ((48 + n % 10) ∷ []))

unfoldable pub decimal : ℕ → List ℕ
decimal n = digits (suc n) n

unfoldable pub integer : ℤ → List ℕ
integer (pos n) = decimal n
integer (negsuc n) = 45 ∷ decimal (suc n)

-- ---- read again
abbrev pub reads_on : ℕ → List ℕ → ℕ
reads_on n [] = n
reads_on n (d ∷ ds) = reads_on (10 * n + (d - 48)) ds

abbrev pub reads : List ℕ → ℕ
reads ds = reads_on 0 ds

abbrev pub reads_integer : List ℕ → ℤ
reads_integer [] = pos 0
reads_integer (d ∷ ds) = cond (eqb d 45) (neg_ℤ (pos (reads ds))) (pos (reads (d ∷ ds)))
