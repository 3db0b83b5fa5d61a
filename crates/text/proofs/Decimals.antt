-- Numbers in decimal: digit by digit, of bounded length, and read again as the number.
--   decimal-one, decimal-more : a number of one digit, and the last digit of a longer one
--   decimal-few     : a number below 10^n has at most n digits
--   decimal-reads, integer-reads : read again, it is the number; so two numbers with the same text are the same
--   integer-minus, integer-plain : a whole number is its size, with a minus or without, by the test whether it is below zero
-- Assumes nothing.
use mathlib.Core.Path.{◌≡◌, refl, sym, ap, ◌∙◌}
use mathlib.Core.Bool.{Bool, true, false}
use mathlib.Core.List.{List, [], ◌∷◌, ◌++◌}
use Prim.Native.Nat.{ℕ, zero, suc, ◌+◌, ◌-◌, ◌*◌, ◌/◌, ◌%◌, ◌^◌, ◌≤◌, ◌<◌}
use native.Mathlib.Nat.{pow-suc}
use native.Mathlib.Omega.{arith}
use borrow.Author.Tests.{ltb-true, ltb-false, lt-ltb, le-ltb, ne_eqb}
use lib.Dec.{ltb}
use lib.IntN.{ℤ, pos, negsuc, neg_ℤ, nat_abs}
use lib.Signed.{lt_z}
use native.Mathlib.Numerals.{add-one}
use mathlib.Core.Logic.{inl, inr}
use lib.ListN.{length, get_or, take, length-append}
use lib.Seq.{take-suc}
use Rattle.std.specs.Char.{IsDigitOf}
use Rattle.text.specs.Writing.{digits, decimal, integer, reads_on, reads, reads_integer}

-- a test, its two outcomes with what each tells
by_ten {ℓ} : (n : ℕ) (P : Type ℓ) → (n < 10 → P) → (10 ≤ n → P) → P
by_ten n P f g = go (ltb n 10) (ltb-true n 10) (ltb-false n 10)
  where
    go : (b : Bool) → (b ≡ true → n < 10) → (b ≡ false → 10 ≤ n) → P
    go true h k = f (h refl)
    go false h k = g (k refl)

-- ---- digit by digit
digits-one : (f n : ℕ) → n < 10 → digits (suc f) n ≡ (48 + n) ∷ []
unfolding digits
digits-one f n h = simp (lt-ltb n 10 h)

digits_more : (f n : ℕ) → 10 ≤ n → digits (suc f) n ≡ digits f (n / 10) ++ ((48 + n % 10) ∷ [])
unfolding digits
digits_more f n h = simp (le-ltb n 10 h)

-- more fuel changes nothing
enough : (f g n : ℕ) → n < f → n < g → digits f n ≡ digits g n
enough zero g n h k = absurd (omega arith)
enough (suc f) zero n h k = absurd (omega arith)
enough (suc f) (suc g) n h k =
    by_ten n (digits (suc f) n ≡ digits (suc g) n) (λ l. digits-one f n l ∙ sym (digits-one g n l))
    (λ l. digits_more f n l
    ∙ ap (λ (s : List ℕ). s ++ ((48 + n % 10) ∷ [])) (enough f g (n / 10) (omega arith) (omega arith))
    ∙ sym (digits_more g n l))

pub decimal-one : (n : ℕ) → n < 10 → decimal n ≡ (48 + n) ∷ []
unfolding decimal
decimal-one n h = digits-one n n h

pub decimal-more : (n : ℕ) → 10 ≤ n → decimal n ≡ decimal (n / 10) ++ ((48 + n % 10) ∷ [])
unfolding decimal
decimal-more n h =
    digits_more n n h
    ∙ ap (λ (s : List ℕ). s ++ ((48 + n % 10) ∷ [])) (enough n (suc (n / 10)) (n / 10) (omega arith) (omega arith))

-- ---- how long
length_more : (n : ℕ) → 10 ≤ n → length (decimal n) ≡ length (decimal (n / 10)) + 1
length_more n h = ap length (decimal-more n h) ∙ length-append (decimal (n / 10)) ((48 + n % 10) ∷ [])

pub decimal-few : (k n : ℕ) → n < 10 ^ suc k → length (decimal n) ≤ suc k
decimal-few zero n h = rw (decimal-one n (omega arith)) (omega arith)
decimal-few (suc k) n h =
    let p = pow-suc 10 (suc k) in let ih = decimal-few k (n / 10) (omega arith) in
    by_ten n (length (decimal n) ≤ suc (suc k)) (λ l. rw (decimal-one n l) (omega arith)) (λ l. omega (arith, length_more n l))

-- ---- read again
reads-last : (n : ℕ) (ds : List ℕ) (d : ℕ) → reads_on n (ds ++ (d ∷ [])) ≡ 10 * reads_on n ds + (d - 48)
reads-last n [] d = refl
reads-last n (e ∷ ds) d = reads-last (10 * n + (e - 48)) ds d

-- what a byte adds that the library has as a digit
digit-value : (b d : ℕ) → IsDigitOf b d → d < 10 → d ≡ b - 48
digit-value b d (inl (r, e)) h = omega arith
digit-value b d (inr (inl (r, e))) h = absurd (omega (arith, r.0))
digit-value b d (inr (inr (r, e))) h = absurd (omega (arith, r.0))

pub reads-more : (w : List ℕ) (i n b d : ℕ) → i < length w → n ≡ reads (take i w) → b ≡ get_or w i 0 → IsDigitOf b d → d < 10
    → n * 10 + d ≡ reads (take (i + 1) w)
reads-more w i n b d h e f g l =
    sym (ap (λ (k : ℕ). reads (take k w)) (add-one i)
    ∙ ap reads (take-suc w i 0 h)
    ∙ reads-last 0 (take i w) (get_or w i 0)
    ∙ (let q = digit-value b d g l in omega (arith, e, f)))

reads-fuel : (f n : ℕ) → n < f → reads (decimal n) ≡ n
reads-fuel zero n h = absurd (omega arith)
reads-fuel (suc f) n h =
    by_ten n (reads (decimal n) ≡ n) (λ l. ap reads (decimal-one n l) ∙ omega arith)
    (λ l. ap reads (decimal-more n l)
    ∙ reads-last 0 (decimal (n / 10)) (48 + n % 10)
    ∙ ap (λ (m : ℕ). 10 * m + (48 + n % 10 - 48)) (reads-fuel f (n / 10) (omega arith))
    ∙ omega arith)

pub decimal-reads : (n : ℕ) → reads (decimal n) ≡ n
decimal-reads n = reads-fuel (suc n) n (omega arith)

-- no digit is a minus
pub data Digits : List ℕ → Type 0 where
  none : Digits []
  next : {d : ℕ} {ds : List ℕ} → 48 ≤ d → Digits ds → Digits (d ∷ ds)

digits_last : {ds : List ℕ} (d : ℕ) → Digits ds → 48 ≤ d → Digits (ds ++ (d ∷ []))
digits_last d none h = next h none
digits_last d (next k r) h = next k (digits_last d r h)

all-fuel : (f n : ℕ) → n < f → Digits (decimal n)
all-fuel zero n h = absurd (omega arith)
all-fuel (suc f) n h =
    by_ten n (Digits (decimal n)) (λ l. rw (decimal-one n l) (next {d = 48 + n} (omega arith) none))
    (λ l. rw (decimal-more n l) (digits_last (48 + n % 10) (all-fuel f (n / 10) (omega arith)) (omega arith)))

unsigned : (ds : List ℕ) → Digits ds → reads_integer ds ≡ pos (reads ds)
unsigned [] none = refl
unsigned (d ∷ ds) (next h r) = rw (ne_eqb d 45 (λ e. omega arith)) refl

pub integer-reads : (z : ℤ) → reads_integer (integer z) ≡ z
unfolding integer
integer-reads (pos n) = unsigned (decimal n) (all-fuel (suc n) n (omega arith)) ∙ ap pos (decimal-reads n)
integer-reads (negsuc n) = ap (λ (m : ℕ). neg_ℤ (pos m)) (decimal-reads (suc n))

-- ---- by sign and size
pub integer-minus : (z : ℤ) → lt_z z (pos 0) ≡ true → integer z ≡ 45 ∷ decimal (nat_abs z)
unfolding integer
integer-minus (pos n) t = let h = ltb-true n 0 t in absurd (omega arith)
integer-minus (negsuc n) t = refl

pub integer-plain : (z : ℤ) → lt_z z (pos 0) ≡ false → integer z ≡ decimal (nat_abs z)
unfolding integer
integer-plain (pos n) t = refl
integer-plain (negsuc n) t = cc
