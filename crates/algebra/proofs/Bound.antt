-- Sizes of expressions by computing.
--   size-by ρ bs h e B tt        : e is at most B in size, from the bounds bs, as it is written
--   size-by-normal ρ bs h e B tt : the same, from its normal form
--   each-by, each-by-normal      : the same of all expressions of a list
-- Assumes nothing.
use mathlib.Core.Path.{◌≡◌, sym, subst}
use mathlib.Core.Bool.{◌&&◌}
use mathlib.Core.List.{List, [], ◌∷◌}
use Prim.Native.Nat.{ℕ, zero, suc, ◌+◌, ◌*◌, ◌^◌, ◌/◌, ◌%◌, ◌≤◌}
use native.Mathlib.Nat as N
use lib.Dec.{T, leb, leb→le}
use lib.IntN.{ℤ, neg_ℤ, nat_abs, ◌+ℤ◌, ◌*ℤ◌}
use Rattle.algebra.specs.Expr.{Expr, var, con, ◌⊕◌, ◌⊖◌, ◌⊗◌, neg, look, eval, evals}
use Rattle.algebra.specs.Normal.{Poly, nil, term, normal, power, value_m, value_p, small}
use Rattle.algebra.specs.Within.{Each}
use Rattle.algebra.specs.Bound.{Bounded, look_bound, bound, bound_m, bound_p, bound_normal, all_within, all_within_normal}
use Rattle.algebra.proofs.Truth.{T_and}
use Rattle.algebra.proofs.Size.{size-neg, size-+, size-*}
use Rattle.algebra.proofs.Solve.{small_is}
use Rattle.algebra.proofs.Within.{each_nil, each-cons}

sum-size : (x y : ℤ) {m n : ℕ} → nat_abs x ≤ m → nat_abs y ≤ n → nat_abs (x +ℤ y) ≤ m + n
sum-size x y h k = N.le_trans (size-+ x y) (N.add-le-add h k)

product-size : (x y : ℤ) {m n : ℕ} → nat_abs x ≤ m → nat_abs y ≤ n → nat_abs (x *ℤ y) ≤ m * n
product-size x y h k = N.le_trans (N.le_of_eq (size-* x y)) (N.mul-le-mul h k)

neg-size : (x : ℤ) {m : ℕ} → nat_abs x ≤ m → nat_abs (neg_ℤ x) ≤ m
neg-size x h = N.le_trans (N.le_of_eq (size-neg x)) h

look-size : (ρ : List ℤ) (bs : List ℕ) → Bounded ρ bs → (i : ℕ) → nat_abs (look ρ i) ≤ look_bound bs i
look-size [] [] h i = N.le_refl 1
look-size [] (b ∷ bs) h i = absurd h
look-size (x ∷ ρ) [] h i = absurd h
look-size (x ∷ ρ) (b ∷ bs) h zero = h.0
look-size (x ∷ ρ) (b ∷ bs) h (suc i) = look-size ρ bs h.1 i

-- ---- as it is written
pub bound-is : (ρ : List ℤ) (bs : List ℕ) → Bounded ρ bs → (e : Expr) → nat_abs (eval ρ e) ≤ bound bs e
bound-is ρ bs h (var i) = look-size ρ bs h i
bound-is ρ bs h (con c) = N.le_refl (nat_abs c)
bound-is ρ bs h (a ⊕ b) = sum-size (eval ρ a) (eval ρ b) (bound-is ρ bs h a) (bound-is ρ bs h b)
bound-is ρ bs h (a ⊖ b) =
    sum-size (eval ρ a) (neg_ℤ (eval ρ b)) (bound-is ρ bs h a) (neg-size (eval ρ b) (bound-is ρ bs h b))
bound-is ρ bs h (a ⊗ b) = product-size (eval ρ a) (eval ρ b) (bound-is ρ bs h a) (bound-is ρ bs h b)
bound-is ρ bs h (neg a) = neg-size (eval ρ a) (bound-is ρ bs h a)

pub size-by : (ρ : List ℤ) (bs : List ℕ) → Bounded ρ bs → (e : Expr) (B : ℕ) → T (leb (bound bs e) B) → nat_abs (eval ρ e) ≤ B
size-by ρ bs h e B t = N.le_trans (bound-is ρ bs h e) (leb→le (bound bs e) B t)

-- ---- by its normal form
power_size : (x : ℤ) {b : ℕ} → nat_abs x ≤ b → (n : ℕ) → nat_abs (power x n) ≤ b ^ n
power_size x {b} h zero = N.le_of_eq (sym (N.pow-zero b))
power_size x {b} h (suc n) =
    N.le_trans (product-size x (power x n) h (power_size x h n)) (N.le_of_eq (sym (N.pow-succ' b n)))

bound_m-is : (ρ : List ℤ) (bs : List ℕ) → Bounded ρ bs → (k : ℕ) → nat_abs (value_m ρ k) ≤ bound_m bs k
bound_m-is [] [] h k = N.le_refl 1
bound_m-is [] (b ∷ bs) h k = absurd h
bound_m-is (x ∷ ρ) [] h k = absurd h
bound_m-is (x ∷ ρ) (b ∷ bs) h k =
    product-size (power x (k % 64)) (value_m ρ (k / 64)) (power_size x h.0 (k % 64)) (bound_m-is ρ bs h.1 (k / 64))

bound_p-is : (ρ : List ℤ) (bs : List ℕ) → Bounded ρ bs → (p : Poly) → nat_abs (value_p ρ p) ≤ bound_p bs p
bound_p-is ρ bs h nil = N.le_refl 0
bound_p-is ρ bs h (term c k p) =
    sum-size (c *ℤ value_m ρ k) (value_p ρ p)
    (product-size c (value_m ρ k) (N.le_refl (nat_abs c)) (bound_m-is ρ bs h k)) (bound_p-is ρ bs h p)

pub size-by-normal : (ρ : List ℤ) (bs : List ℕ) → Bounded ρ bs
    → (e : Expr) (B : ℕ)
    → T (small e && leb (bound_normal bs e) B)
    → nat_abs (eval ρ e) ≤ B
size-by-normal ρ bs h e B t =
    let (d, l) = T_and (small e) (leb (bound_normal bs e) B) t in
    subst (λ z. nat_abs z ≤ B) (small_is ρ e d)
    (N.le_trans (bound_p-is ρ bs h (normal e)) (leb→le (bound_normal bs e) B l))

-- ---- lists of expressions
pub each-by : (ρ : List ℤ) (bs : List ℕ) → Bounded ρ bs → (B : ℕ) (es : List Expr) → T (all_within bs B es) → Each B (evals ρ es)
each-by ρ bs h B [] t = each_nil
each-by ρ bs h B (e ∷ es) t =
    let (u, v) = T_and (leb (bound bs e) B) (all_within bs B es) t in
    each-cons (record { size = size-by ρ bs h e B u }) (each-by ρ bs h B es v)

pub each-by-normal : (ρ : List ℤ) (bs : List ℕ) → Bounded ρ bs
    → (B : ℕ) (es : List Expr)
    → T (all_within_normal bs B es)
    → Each B (evals ρ es)
each-by-normal ρ bs h B [] t = each_nil
each-by-normal ρ bs h B (e ∷ es) t =
    let (u, v) = T_and (small e && leb (bound_normal bs e) B) (all_within_normal bs B es) t in
    each-cons (record { size = size-by-normal ρ bs h e B u }) (each-by-normal ρ bs h B es v)
