-- Sizes within a bound, and the relation `Is` for proofs of signed code: one combinator for each thing that the code does,
-- so that a need is one line that mirrors the expression and its bound is closed by `tt`.
--   within-pos, within-neg, within-+, within--, within-*, within-≤, within_of : sizes
--   each_nil, each-cons, each_of, each-≤, each-as : lists of numbers within a bound
--   lit n                 : a literal
--   rd p tt               : a parameter, an element or a field that a local holds
--   got e p tt            : a call's result that a local holds
--   i-add, i-sub, i-mul   : one operation
--   st p tt               : a result that is stored in a local and read from it (stored: at any width)
--   held f                : a number of which is known only that it fits
--   fits p tt             : the number fits the machine's width; fits-at, st-at take the bound as a fact
--   wide, named, via      : a larger bound; another name of the same whole number, or of the machine's
--   seen                  : the machine's number is within the bound
--   less, not-less        : what a test of two numbers says of the whole numbers
--   elem_fits             : an element of an array or a slice of signed numbers fits
-- Assumes nothing.
use mathlib.Core.Path.{◌≡◌, refl, sym, ◌∙◌, ap, ap₂, subst, subst₂}
use mathlib.Core.Bool.{true, false, not}
use mathlib.Core.List.{List, [], ◌∷◌}
use Prim.Native.Nat.{ℕ, zero, suc, ◌+◌, ◌*◌, ◌^◌, ◌≤◌, ◌<◌, zero-le, suc-le-suc}
use native.Mathlib.Nat as N
use native.Mathlib.Omega.{arith}
use lib.Dec.{T, ltb, ltb→lt}
use lib.IntN.{ℤ, pos, negsuc, neg_ℤ, nat_abs, ◌+ℤ◌, ◌-ℤ◌, ◌*ℤ◌}
use lib.ListN.{get_or, length}
use lib.Pow.{pow_pos}
use lib.Signed.{mag, nat_abs-le, lt_z, ◌≤ℤ◌, ◌<ℤ◌, lt_z_yes, lt_z_no}
use mir.Syntax.{Width, w64}
use mir.Val.{Val, SFits, hbits, to_z, of_z}
use mir.Facts.{to_z-of_z}
use denote.Array.{each}
use denote.Shadow.{shadow}
use denote.Signed.{SInt}
use Rattle.algebra.specs.Within.{Within, Each, Is}
use Rattle.algebra.proofs.Truth.{true-T, false-not}
use Rattle.algebra.proofs.Size.{size-neg, size-+, size-*, size_of}

-- ---- sizes
pub within-pos : (n : ℕ) → Within n (pos n)
within-pos n = record { size = N.le_refl n }

pub within-neg : {a : ℕ} {x : ℤ} → Within a x → Within a (neg_ℤ x)
within-neg {a} {x} p = record { size = subst (λ (n : ℕ). n ≤ a) (sym (size-neg x)) p.size }

pub within-+ : {a b : ℕ} {x y : ℤ} → Within a x → Within b y → Within (a + b) (x +ℤ y)
within-+ {a} {b} {x} {y} p q = record { size = N.le_trans (size-+ x y) (N.add-le-add p.size q.size) }

pub within-- : {a b : ℕ} {x y : ℤ} → Within a x → Within b y → Within (a + b) (x -ℤ y)
within-- p q = within-+ p (within-neg q)

pub within-* : {a b : ℕ} {x y : ℤ} → Within a x → Within b y → Within (a * b) (x *ℤ y)
within-* {a} {b} {x} {y} p q =
    record { size = subst (λ (n : ℕ). n ≤ a * b) (sym (size-* x y)) (N.mul-le-mul p.size q.size) }

pub within-≤ : {a b : ℕ} {x : ℤ} → Within a x → a ≤ b → Within b x
within-≤ p h = record { size = N.le_trans p.size h }

-- beyond a bound on either side is beyond it in size
pub beyond-above : (n : ℕ) (z : ℤ) → pos n <ℤ z → n < nat_abs z
beyond-above n (pos a) h = ltb→lt n a h.lt
beyond-above n (negsuc a) h = absurd h.lt

pub beyond-below : (n : ℕ) (z : ℤ) → z <ℤ neg_ℤ (pos n) → n < nat_abs z
beyond-below zero (pos a) h = absurd (N.not-suc-le-zero (ltb→lt a 0 h.lt))
beyond-below (suc n) (pos a) h = absurd h.lt
beyond-below zero (negsuc a) h = omega arith
beyond-below (suc n) (negsuc a) h = suc-le-suc (ltb→lt n a h.lt)

pub within_of : (n : ℕ) (z : ℤ) → neg_ℤ (pos n) ≤ℤ z → z ≤ℤ pos n → Within n z
within_of n z h k = record { size = size_of z n h k }

-- ---- lists
pub each_nil : {n : ℕ} → Each n []
each_nil = record { at = λ k. record { size = zero-le } }

pub each-cons : {n : ℕ} {x : ℤ} {l : List ℤ} → Within n x → Each n l → Each n (x ∷ l)
each-cons {n} {x} {l} p q = record { at = go }
  where
    go : (k : ℕ) → Within n (get_or (x ∷ l) k (pos 0))
    go zero = p
    go (suc k) = q.at k

pub each_of : {n : ℕ} {l : List ℤ} → ((k : ℕ) → k < length l → Within n (get_or l k (pos 0))) → Each n l
each_of {l = []} f = each_nil
each_of {l = x ∷ l} f = each-cons (f 0 (suc-le-suc zero-le)) (each_of (λ k h. f (suc k) (suc-le-suc h)))

pub each-≤ : {a b : ℕ} {l : List ℤ} → Each a l → a ≤ b → Each b l
each-≤ p h = record { at = λ k. within-≤ (p.at k) h }

pub each-as : {n : ℕ} {l m : List ℤ} → l ≡ m → Each n m → Each n l
each-as e p = rw e p

-- ---- what the machine holds
mag-size : (z : ℤ) → mag z ≤ nat_abs z
mag-size (pos n) = N.le_refl n
mag-size (negsuc n) = N.le-suc n

pub fits-at : {w : Width} {n : ℕ} {z v : ℤ} → Is n z v → n < 2 ^ hbits w → SFits w v
fits-at {w} {z = z} p h =
    subst (SFits w) (sym p.same) (record { sfits = N.lt_of_le_of_lt (N.le_trans (mag-size z) p.within.size) h })

pub fits : {w : Width} {n : ℕ} {z v : ℤ} → Is n z v → T (ltb n (2 ^ hbits w)) → SFits w v
fits {w} {n} p t = fits-at p (ltb→lt n (2 ^ hbits w) t)

-- a machine's number goes through its bits when it is stored and read
pub stored : (w : Width) {n : ℕ} {z v : ℤ} → Is n z v → n < 2 ^ hbits w → Is n z (to_z w (of_z w v))
stored w p h = record { same = to_z-of_z (fits-at p h) ∙ p.same; within = p.within }

-- all that is known is that it fits
pub held : {w : Width} {z : ℤ} → SFits w z → Is (2 ^ hbits w) z (to_z w (of_z w z))
held {w} {z} f = record { same = to_z-of_z f; within = record { size = nat_abs-le z f.sfits } }

-- ---- in 64 bits, one combinator for each thing that the code does
pub st-at : {n : ℕ} {z v : ℤ} → Is n z v → n < 2 ^ 63 → Is n z (to_z w64 (of_z w64 v))
st-at p h = stored w64 p h

pub st : {n : ℕ} {z v : ℤ} → Is n z v → T (ltb n (2 ^ 63)) → Is n z (to_z w64 (of_z w64 v))
st {n} p t = stored w64 p (ltb→lt n (2 ^ 63) t)

pub lit : (n : ℕ) → Is n (pos n) (pos n)
lit n = record { same = refl; within = within-pos n }

pub got : {n : ℕ} {z r : ℤ} → r ≡ z → Within n z → T (ltb n (2 ^ 63)) → Is n z (to_z w64 (of_z w64 r))
got e p t = st (record { same = e; within = p }) t

pub rd : {n : ℕ} {z : ℤ} → Within n z → T (ltb n (2 ^ 63)) → Is n z (to_z w64 (of_z w64 z))
rd p t = got refl p t

pub i-add : {a b : ℕ} {x y u v : ℤ} → Is a x u → Is b y v → Is (a + b) (x +ℤ y) (u +ℤ v)
i-add p q = record { same = ap₂ ◌+ℤ◌ p.same q.same; within = within-+ p.within q.within }

pub i-sub : {a b : ℕ} {x y u v : ℤ} → Is a x u → Is b y v → Is (a + b) (x -ℤ y) (u -ℤ v)
i-sub p q = record { same = ap₂ ◌-ℤ◌ p.same q.same; within = within-- p.within q.within }

pub i-mul : {a b : ℕ} {x y u v : ℤ} → Is a x u → Is b y v → Is (a * b) (x *ℤ y) (u *ℤ v)
i-mul p q = record { same = ap₂ ◌*ℤ◌ p.same q.same; within = within-* p.within q.within }

pub wide : {n m : ℕ} {z v : ℤ} → Is n z v → n ≤ m → Is m z v
wide p h = record { same = p.same; within = within-≤ p.within h }

pub named : {n : ℕ} {z y v : ℤ} → Is n z v → z ≡ y → Is n y v
named {n} {v = v} p e = subst (λ x. Is n x v) e p

pub via : {n : ℕ} {z v r : ℤ} → r ≡ v → Is n z v → Is n z r
via e p = record { same = e ∙ p.same; within = p.within }

pub seen : {n : ℕ} {z v : ℤ} → Is n z v → Within n v
seen {n} p = subst (Within n) (sym p.same) p.within

pub less : {a b : ℕ} {x y u v : ℤ} → Is a x u → Is b y v → lt_z u v ≡ true → x <ℤ y
less p q e = lt_z_yes (subst₂ (λ u v. T (lt_z u v)) p.same q.same (true-T e))

pub not-less : {a b : ℕ} {x y u v : ℤ} → Is a x u → Is b y v → lt_z u v ≡ false → y ≤ℤ x
not-less p q e = lt_z_no (subst₂ (λ u v. T (not (lt_z u v))) p.same q.same (false-not e))

pub elem_fits : (w : Width) (xs : List ℤ) (us : List Val) (i : ℕ)
    → shadow (each ℤ (SInt w).own_val xs us)
    → SFits w (get_or xs i (pos 0))
elem_fits w [] us i p = record { sfits = pow_pos (hbits w) }
elem_fits w (x ∷ xs) [] i p = absurd p
elem_fits w (x ∷ xs) (u ∷ us) zero p = record { sfits = p.0.1 }
elem_fits w (x ∷ xs) (u ∷ us) (suc i) p = elem_fits w xs us i p.1
