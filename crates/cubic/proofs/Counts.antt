-- Multinomials and places, as the code has them.
--   pascal-is     : the code's table of binomials
--   multinomial-small : up to degree 4 none is above 12, and none is 0
--   product_is, twelfth-is : a product of two, and a part of twelve, are small
--   place-small   : the places of control points
--   degrees-add   : the degrees of a value add up to 4
-- Assumes nothing.
use mathlib.Core.Path.{◌≡◌, refl, subst}
use mathlib.Core.Bool.{Bool, true, cond, ◌&&◌}
use mathlib.Core.List.{List, [], ◌∷◌}
use Prim.Native.Nat.{ℕ, ◌+◌, ◌*◌, ◌-◌, ◌/◌, ◌≤◌, ◌<◌}
use native.Mathlib.Nat as N
use native.Mathlib.Omega.{arith}
use borrow.Author.Tests.{lt-ltb}
use lib.Dec.{T, eqb, ltb, leb, eqb→eq, ltb→lt, leb→le}
use lib.IntN.{pos}
use lib.ListN.{get_or}
use Rattle.algebra.specs.Within.{Is}
use Rattle.algebra.proofs.Truth.{T_and}
use Rattle.forms.specs.Binomials.{choose, multinomial}
use Rattle.forms.specs.Triangles.{degrees10}
use Rattle.forms.proofs.Cells.{every-at, up_to-at}

-- the code's table
abbrev pascal : List (List ℕ)
pascal =
    (1 ∷ 0 ∷ 0 ∷ 0 ∷ 0 ∷ []) ∷ (1 ∷ 1 ∷ 0 ∷ 0 ∷ 0 ∷ []) ∷ (1 ∷ 2 ∷ 1 ∷ 0 ∷ 0 ∷ []) ∷ (1 ∷ 3 ∷ 3 ∷ 1 ∷ 0 ∷ []) ∷ (1 ∷ 4 ∷ 6 ∷ 4 ∷ 1 ∷ []) ∷ []

pub pascal-is : (n k : ℕ) → n < 5 → k < 5 → get_or (get_or pascal n []) k 0 ≡ choose n k
pascal-is n k h g =
    eqb→eq (get_or (get_or pascal n []) k 0) (choose n k)
    (every-at (5 ∷ 5 ∷ []) (λ ks. eqb (get_or (get_or pascal (get_or ks 0 0) []) (get_or ks 1 0) 0) (choose (get_or ks 0 0) (get_or ks 1 0))) tt (n ∷ k ∷ []) (h, (g, tt)))

abbrev small : ℕ → Bool
small m = ltb 0 m && leb m 12

pub multinomial-small : (i j k : ℕ) → i + j + k < 5 → (0 < multinomial i j k) × (multinomial i j k ≤ 12)
multinomial-small i j k h =
    let all = every-at (5 ∷ 5 ∷ 5 ∷ []) (λ ks. test (get_or ks 0 0) (get_or ks 1 0) (get_or ks 2 0)) tt (i ∷ j ∷ k ∷ []) (omega arith, (omega arith, (omega arith, tt))) in
    let t = subst (λ (b : Bool). T (cond b (small (multinomial i j k)) true)) (lt-ltb (i + j + k) 5 h) all in
    let (u, v) = T_and (ltb 0 (multinomial i j k)) (leb (multinomial i j k) 12) t in
    (ltb→lt 0 (multinomial i j k) u, leb→le (multinomial i j k) 12 v)
  where
    test : ℕ → ℕ → ℕ → Bool
    test i j k = cond (ltb (i + j + k) 5) (small (multinomial i j k)) true

pub twelfth-is : (m : ℕ) → Is 12 (pos (12 / m)) (pos (12 / m))
twelfth-is m = record { same = refl; within = record { size = N.div-le_self 12 m } }

pub product_is : (m n : ℕ) → m ≤ 12 → n ≤ 12 → Is 144 (pos (m * n)) (pos (m * n))
product_is m n h k = record { same = refl; within = record { size = N.mul-le-mul h k } }

pub place-small : (k : ℕ) → k < 5 → k * (9 - k) ≤ 36
place-small k h = let a : k ≤ 4 = omega arith in let b : 9 - k ≤ 9 = omega arith in N.mul-le-mul a b

pub degrees-add : (n : ℕ) → n < 15 → get_or (get_or degrees10 n []) 0 0 + get_or (get_or degrees10 n []) 1 0 + get_or (get_or degrees10 n []) 2 0 ≡ 4
degrees-add n h =
    eqb→eq _ 4 (up_to-at 15 (λ m. eqb (get_or (get_or degrees10 m []) 0 0 + get_or (get_or degrees10 m []) 1 0 + get_or (get_or degrees10 m []) 2 0) 4) tt n h)
