-- Lists that a loop fills.
--   copy_more, copy-end : one turn of a loop that copies v over the front of d, and its end
--   fill_start, fill_more, fill_end : before the loop, one turn, and after it
--   get_d-list_to    : the number at place k is f k
--   length-list_to  : there are n
--   cons           : lists that agree in the first and in the rest
-- Assumes nothing.
use mathlib.Core.Path.{◌≡◌, refl, sym, ◌∙◌, ap, subst}
use mathlib.Core.List.{List, [], ◌∷◌, ◌++◌}
use Prim.Native.Nat.{ℕ, zero, suc, ◌+◌, ◌≤◌, ◌<◌}
use native.Mathlib.Nat as N
use native.Mathlib.Numerals.{add-one}
use native.Mathlib.Omega.{arith}
use native.Mathlib.Decide.{dec_le}
use lib.IntN.{ℤ, pos}
use lib.ListN.{length, take, drop, set, get_or, length-set, length-append, get_or-append}
use lib.Seq.{take-suc-set, take_all, get_or-append_seam}
use Rattle.algebra.specs.Within.{Within, Each}
use Rattle.algebra.specs.Fill.{list_to, Filled}

pub fill_start : (l : List ℤ) (n : ℕ) (f : ℕ → ℤ) → length l ≡ n → Filled n 0 f l
fill_start l n f e = record { long = e; front = none l }
  where
    none : (l : List ℤ) → take 0 l ≡ []
    none [] = refl
    none (x ∷ l) = refl

pub fill_more : {n r : ℕ} {f : ℕ → ℤ} {l : List ℤ} {v : ℤ} → Filled n r f l → r < n → v ≡ f r → Filled n (r + 1) f (set l r v)
fill_more {n} {r} {f} {l} {v} p h e =
    record {
      long = length-set l r v ∙ p.long;
      front = rw (add-one r)
          (take-suc-set l r v (omega (arith, p.long)) ∙ ap (λ (s : List ℤ). s ++ (v ∷ [])) p.front ∙ ap (λ (x : ℤ). list_to r f ++ (x ∷ [])) e);
    }

pub fill_end : {n r : ℕ} {f : ℕ → ℤ} {l : List ℤ} → Filled n r f l → r ≡ n → l ≡ list_to n f
fill_end {n} {r} {f} {l} p e = sym (take_all n l (omega (arith, p.long))) ∙ (rw e at p.front)

pub length-list_to : (n : ℕ) (f : ℕ → ℤ) → length (list_to n f) ≡ n
length-list_to zero f = refl
length-list_to (suc n) f = length-append (list_to n f) (f n ∷ []) ∙ rw (length-list_to n f) (add-one n)

pub get_d-list_to : (n : ℕ) (f : ℕ → ℤ) (k : ℕ) → k < n → get_or (list_to n f) k (pos 0) ≡ f k
get_d-list_to zero f k h = absurd (N.not-suc-le-zero h)
get_d-list_to (suc n) f k h = go (dec_le (suc k) n) (λ l. get_d-list_to n f k l)
  where
    go : Dec (k < n) → (k < n → get_or (list_to n f) k (pos 0) ≡ f k) → get_or (list_to n f ++ (f n ∷ [])) k (pos 0) ≡ f k
    go (yes l) ih = get_or-append (list_to n f) (f n ∷ []) (pos 0) k (rw (length-list_to n f) l) ∙ ih l
    go (no l) ih =
        let e : k ≡ n = omega arith in
        rw e (subst (λ (m : ℕ). get_or (list_to n f ++ (f n ∷ [])) m (pos 0) ≡ f n) (length-list_to n f) (get_or-append_seam (list_to n f) (f n) [] (pos 0)))

pub cons : {x y : ℤ} {l m : List ℤ} → x ≡ y → l ≡ m → x ∷ l ≡ y ∷ m
cons e f = cc

copy-suc : (n : ℕ) (v d : List ℤ) → n < length v → length v ≤ length d
    → set (take n v ++ drop n d) n (get_or v n (pos 0)) ≡ take (suc n) v ++ drop (suc n) d
copy-suc n [] d h k = absurd (N.not-suc-le-zero h)
copy-suc n (x ∷ v) [] h k = absurd (N.not-suc-le-zero k)
copy-suc zero (x ∷ v) (y ∷ d) h k = refl
copy-suc (suc n) (x ∷ v) (y ∷ d) h k = ap (λ (l : List ℤ). x ∷ l) (copy-suc n v d (N.le_of_suc-le-suc h) (N.le_of_suc-le-suc k))

pub copy_more : (n : ℕ) (v d : List ℤ) → n < length v → length v ≤ length d
    → set (take n v ++ drop n d) n (get_or v n (pos 0)) ≡ take (n + 1) v ++ drop (n + 1) d
copy_more n v d h k = rw (add-one n) (copy-suc n v d h k)

pub copy-end : (n : ℕ) (v d : List ℤ) → n ≡ length v → take n v ++ drop n d ≡ v ++ drop (length v) d
copy-end n v d e = rw e (ap (λ (l : List ℤ). l ++ drop (length v) d) (take_all (length v) v (N.le_refl (length v))))
