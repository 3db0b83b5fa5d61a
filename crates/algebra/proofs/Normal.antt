-- The normal form of an expression means what the expression means, up to degree 63.
--   normal-is : the value of the normal form is the value of the expression
-- Monomials first (no sum of exponents carries), then sums, degrees and products of polynomials. Assumes nothing.
use mathlib.Core.Path.{◌≡◌, refl, sym, ◌∙◌, ap, ap₂, subst}
use mathlib.Core.Bool.{Bool, true, false}
use mathlib.Core.List.{List, [], ◌∷◌}
use Prim.Native.Nat.{ℕ, zero, suc, ◌+◌, ◌*◌, ◌^◌, ◌/◌, ◌%◌, max, ◌≤◌, compare, Ordering}
use native.Mathlib.Nat as N
use native.Mathlib.Omega.{arith}
use lib.Dec.{T, compare_is_eq, eqb→eq}
use lib.IntN.{ℤ, pos, negsuc, neg_ℤ, ◌+ℤ◌, ◌*ℤ◌, +ℤ_idl, +ℤ_idr, +ℤ_assoc, neg_ℤ-+ℤ, zero-*ℤ, *ℤ-zero, *ℤ_comm}
use Rattle.algebra.specs.Expr.{Expr, var, con, ◌⊕◌, ◌⊖◌, ◌⊗◌, neg, look, eval, degree}
use Rattle.algebra.specs.Normal.{Poly, nil, term, keep, step, merge, scale, spread, shorter, times, minus, normal, power, value_m, value_p}
use Rattle.algebra.proofs.Ring.{+ℤ-left-comm, +ℤ-four, *ℤ-distr, *ℤ-distl, neg-*ℤ, *ℤ-assoc, *ℤ-four, *ℤ-1, 1-*ℤ}

power-add : (x : ℤ) (a b : ℕ) → power x (a + b) ≡ power x a *ℤ power x b
power-add x zero b = ap (power x) (N.zero-add b) ∙ sym (1-*ℤ (power x b))
power-add x (suc a) b =
    ap (power x) (N.suc-add a b) ∙ ap (λ y. x *ℤ y) (power-add x a b) ∙ sym (*ℤ-assoc x (power x a) (power x b))

-- ---- monomials: the degree is the sum of the digits, and up to 63 no digit carries
abbrev degree_m : List ℤ → ℕ → ℕ
degree_m [] k = 0
degree_m (x ∷ ρ) k = k % 64 + degree_m ρ (k / 64)

-- the last digits of k and j add up, and so do the others, if the digits of both add up to at most 63
module _ (k j a b : ℕ) (h : (k % 64 + a) + (j % 64 + b) ≤ 63) where
  last-digit : (k + j) % 64 ≡ k % 64 + j % 64
  last-digit = omega arith

  other-digits : (k + j) / 64 ≡ k / 64 + j / 64
  other-digits = omega arith

  others-few : a + b ≤ 63
  others-few = omega arith

degree_m-add : (ρ : List ℤ) (k j : ℕ) → degree_m ρ k + degree_m ρ j ≤ 63 → degree_m ρ (k + j) ≡ degree_m ρ k + degree_m ρ j
degree_m-add [] k j h = refl
degree_m-add (x ∷ ρ) k j h =
    let a : ℕ = degree_m ρ (k / 64) in let b : ℕ = degree_m ρ (j / 64) in
    ap₂ (λ (m n : ℕ). m + degree_m ρ n) (last-digit k j a b h) (other-digits k j a b h)
    ∙ ap (λ (n : ℕ). (k % 64 + j % 64) + n) (degree_m-add ρ (k / 64) (j / 64) (others-few k j a b h))
    ∙ regroup (k % 64) a (j % 64) b
  where
    regroup : (x a y b : ℕ) → (x + y) + (a + b) ≡ (x + a) + (y + b)
    regroup x a y b = omega arith

value_m-add : (ρ : List ℤ) (k j : ℕ) → degree_m ρ k + degree_m ρ j ≤ 63 → value_m ρ (k + j) ≡ value_m ρ k *ℤ value_m ρ j
value_m-add [] k j h = refl
value_m-add (x ∷ ρ) k j h =
    let a : ℕ = degree_m ρ (k / 64) in let b : ℕ = degree_m ρ (j / 64) in
    ap₂ (λ (m n : ℕ). power x m *ℤ value_m ρ n) (last-digit k j a b h) (other-digits k j a b h)
    ∙ ap₂ ◌*ℤ◌ (power-add x (k % 64) (j % 64)) (value_m-add ρ (k / 64) (j / 64) (others-few k j a b h))
    ∙ *ℤ-four (power x (k % 64)) (power x (j % 64)) (value_m ρ (k / 64)) (value_m ρ (j / 64))

degree_m-0 : (ρ : List ℤ) → degree_m ρ 0 ≡ 0
degree_m-0 [] = refl
degree_m-0 (x ∷ ρ) = ap (λ (n : ℕ). 0 + n) (degree_m-0 ρ)

value_m-0 : (ρ : List ℤ) → value_m ρ 0 ≡ pos 1
value_m-0 [] = refl
value_m-0 (x ∷ ρ) = ap (λ y. pos 1 *ℤ y) (value_m-0 ρ)

mod-64 : (i : ℕ) → 64 ^ suc i % 64 ≡ 0
mod-64 i = rw (N.pow-suc 64 i) (omega arith)

div-64 : (i : ℕ) → 64 ^ suc i / 64 ≡ 64 ^ i
div-64 i = rw (N.pow-suc 64 i) (omega arith)

degree_m-var : (ρ : List ℤ) (i : ℕ) → degree_m ρ (64 ^ i) ≤ 1
degree_m-var [] i = omega arith
degree_m-var (x ∷ ρ) zero = rw (degree_m-0 ρ) (omega arith)
degree_m-var (x ∷ ρ) (suc i) = rw (mod-64 i, div-64 i) (omega (arith, degree_m-var ρ i))

value_m-var : (ρ : List ℤ) (i : ℕ) → value_m ρ (64 ^ i) ≡ look ρ i
value_m-var [] i = refl
value_m-var (x ∷ ρ) zero = ap (λ y. (x *ℤ pos 1) *ℤ y) (value_m-0 ρ) ∙ *ℤ-1 (x *ℤ pos 1) ∙ *ℤ-1 x
value_m-var (x ∷ ρ) (suc i) =
    ap₂ (λ (m n : ℕ). power x m *ℤ value_m ρ n) (mod-64 i) (div-64 i) ∙ 1-*ℤ (value_m ρ (64 ^ i)) ∙ value_m-var ρ i

-- ---- sums of polynomials
keep-is : (ρ : List ℤ) (c : ℤ) (k : ℕ) (p : Poly) → value_p ρ (keep c k p) ≡ c *ℤ value_m ρ k +ℤ value_p ρ p
keep-is ρ (pos zero) k p = sym (ap (λ y. y +ℤ value_p ρ p) (zero-*ℤ (value_m ρ k)) ∙ +ℤ_idl (value_p ρ p))
keep-is ρ (pos (suc n)) k p = refl
keep-is ρ (negsuc n) k p = refl

-- the polynomial behind the term is added, and so the term with it
Adds : List ℤ → (Poly → Poly) → ℤ → Type 0
Adds ρ f z = (q : Poly) → value_p ρ (f q) ≡ z +ℤ value_p ρ q

module _ (ρ : List ℤ) (c : ℤ) (k : ℕ) (f : Poly → Poly) (z : ℤ) (h : Adds ρ f z) where
  whole : ℤ
  whole = c *ℤ value_m ρ k +ℤ z

  step_is : (q : Poly) → value_p ρ (step c k f q) ≡ whole +ℤ value_p ρ q
  unfolding Adds whole
  step_is nil = ap (λ y. c *ℤ value_m ρ k +ℤ y) (h nil) ∙ sym (+ℤ_assoc (c *ℤ value_m ρ k) z (pos 0))
  step_is (term d j q) = go (compare k j) refl (step_is q)
    where
      go : (o : Ordering) → compare k j ≡ o → value_p ρ (step c k f q) ≡ whole +ℤ value_p ρ q
          → value_p ρ (elim o [ Ordering.lt ↦ term c k (f (term d j q)) | Ordering.eq ↦ keep (c +ℤ d) k (f q) | Ordering.gt ↦ term d j (step c k f q) ])
          ≡ whole +ℤ (d *ℤ value_m ρ j +ℤ value_p ρ q)
      go Ordering.lt e ih =
          ap (λ y. c *ℤ value_m ρ k +ℤ y) (h (term d j q)) ∙ sym (+ℤ_assoc (c *ℤ value_m ρ k) z (d *ℤ value_m ρ j +ℤ value_p ρ q))
      go Ordering.eq e ih =
          keep-is ρ (c +ℤ d) k (f q)
          ∙ ap₂ ◌+ℤ◌ (*ℤ-distr c d (value_m ρ k)) (h q)
          ∙ +ℤ-four (c *ℤ value_m ρ k) (d *ℤ value_m ρ k) z (value_p ρ q)
          ∙ ap (λ (n : ℕ). whole +ℤ (d *ℤ value_m ρ n +ℤ value_p ρ q)) (eqb→eq k j (subst (λ (o : Ordering). T (compare_is_eq o)) (sym e) tt))
      go Ordering.gt e ih =
          ap (λ y. d *ℤ value_m ρ j +ℤ y) ih ∙ +ℤ-left-comm (d *ℤ value_m ρ j) whole (value_p ρ q)

merge-is : (ρ : List ℤ) (p q : Poly) → value_p ρ (merge p q) ≡ value_p ρ p +ℤ value_p ρ q
unfolding Adds whole
merge-is ρ nil q = sym (+ℤ_idl (value_p ρ q))
merge-is ρ (term c k p) q = step_is ρ c k (merge p) (value_p ρ p) (merge-is ρ p) q

minus_is : (ρ : List ℤ) (p : Poly) → value_p ρ (minus p) ≡ neg_ℤ (value_p ρ p)
minus_is ρ nil = refl
minus_is ρ (term c k p) =
    ap₂ ◌+ℤ◌ (neg-*ℤ c (value_m ρ k)) (minus_is ρ p) ∙ sym (neg_ℤ-+ℤ (c *ℤ value_m ρ k) (value_p ρ p))

-- ---- the degrees of the terms
abbrev UpTo : List ℤ → ℕ → Poly → Type 0
UpTo ρ d nil = Unit {0}
UpTo ρ d (term c k p) = (degree_m ρ k ≤ d) × UpTo ρ d p

raise : (ρ : List ℤ) {d e : ℕ} → d ≤ e → (p : Poly) → UpTo ρ d p → UpTo ρ e p
raise ρ l nil s = tt
raise ρ l (term c k p) s = (N.le_trans s.0 l, raise ρ l p s.1)

keep-upto : (ρ : List ℤ) (d : ℕ) (c : ℤ) (k : ℕ) (p : Poly) → degree_m ρ k ≤ d → UpTo ρ d p → UpTo ρ d (keep c k p)
keep-upto ρ d (pos zero) k p h s = s
keep-upto ρ d (pos (suc n)) k p h s = (h, s)
keep-upto ρ d (negsuc n) k p h s = (h, s)

module _ (ρ : List ℤ) (e : ℕ) (c : ℤ) (k : ℕ) (f : Poly → Poly)
    (h : degree_m ρ k ≤ e) (g : (q : Poly) → UpTo ρ e q → UpTo ρ e (f q)) where
  step-upto : (q : Poly) → UpTo ρ e q → UpTo ρ e (step c k f q)
  step-upto nil s = (h, g nil tt)
  step-upto (term d j q) s = go (compare k j) (step-upto q s.1)
    where
      go : (o : Ordering) → UpTo ρ e (step c k f q)
          → UpTo ρ e (elim o [ Ordering.lt ↦ term c k (f (term d j q)) | Ordering.eq ↦ keep (c +ℤ d) k (f q) | Ordering.gt ↦ term d j (step c k f q) ])
      go Ordering.lt ih = (h, g (term d j q) s)
      go Ordering.eq ih = keep-upto ρ e (c +ℤ d) k (f q) h (g q s.1)
      go Ordering.gt ih = (s.0, ih)

merge-upto : (ρ : List ℤ) (e : ℕ) (p : Poly) → UpTo ρ e p → (q : Poly) → UpTo ρ e q → UpTo ρ e (merge p q)
merge-upto ρ e nil s q t = t
merge-upto ρ e (term c k p) s q t = step-upto ρ e c k (merge p) s.0 (merge-upto ρ e p s.1) q t

minus-upto : (ρ : List ℤ) (e : ℕ) (p : Poly) → UpTo ρ e p → UpTo ρ e (minus p)
minus-upto ρ e nil s = tt
minus-upto ρ e (term c k p) s = (s.0, minus-upto ρ e p s.1)

-- ---- products of polynomials whose degrees add up to at most 63
module _ (ρ : List ℤ) (d e : ℕ) (l : d + e ≤ 63) where
  both-few : {a b : ℕ} → a ≤ d → b ≤ e → a + b ≤ 63
  both-few h k = omega arith

  scale-upto : (c : ℤ) (k : ℕ) → degree_m ρ k ≤ d → (p : Poly) → UpTo ρ e p → UpTo ρ (d + e) (scale c k p)
  scale-upto c k h nil s = tt
  scale-upto c k h (term b j p) s =
      (rw (degree_m-add ρ k j (both-few h s.0)) (N.add-le-add h s.0), scale-upto c k h p s.1)

  scale-is : (c : ℤ) (k : ℕ) → degree_m ρ k ≤ d
      → (p : Poly)
      → UpTo ρ e p
      → value_p ρ (scale c k p) ≡ (c *ℤ value_m ρ k) *ℤ value_p ρ p
  scale-is c k h nil s = sym (*ℤ-zero (c *ℤ value_m ρ k))
  scale-is c k h (term b j p) s =
      ap₂ ◌+ℤ◌
      (ap (λ y. (c *ℤ b) *ℤ y) (value_m-add ρ k j (both-few h s.0)) ∙ *ℤ-four c b (value_m ρ k) (value_m ρ j))
      (scale-is c k h p s.1)
      ∙ sym (*ℤ-distl (c *ℤ value_m ρ k) (b *ℤ value_m ρ j) (value_p ρ p))

  spread-upto : (p : Poly) → UpTo ρ d p → (q : Poly) → UpTo ρ e q → UpTo ρ (d + e) (spread p q)
  spread-upto nil s q t = tt
  spread-upto (term c k p) s q t =
      merge-upto ρ (d + e) (scale c k q) (scale-upto c k s.0 q t) (spread p q) (spread-upto p s.1 q t)

  spread-is : (p : Poly) → UpTo ρ d p → (q : Poly) → UpTo ρ e q → value_p ρ (spread p q) ≡ value_p ρ p *ℤ value_p ρ q
  spread-is nil s q t = sym (zero-*ℤ (value_p ρ q))
  spread-is (term c k p) s q t =
      merge-is ρ (scale c k q) (spread p q)
      ∙ ap₂ ◌+ℤ◌ (scale-is c k s.0 q t) (spread-is p s.1 q t)
      ∙ sym (*ℤ-distr (c *ℤ value_m ρ k) (value_p ρ p) (value_p ρ q))

-- whichever of the two goes term by term
module _ (ρ : List ℤ) (d e : ℕ) (l : d + e ≤ 63) (p : Poly) (s : UpTo ρ d p) (q : Poly) (t : UpTo ρ e q) where
  other_way : e + d ≤ 63
  other_way = omega arith

  times-upto : UpTo ρ (d + e) (times p q)
  times-upto = go (shorter p q)
    where
      go : (b : Bool) → UpTo ρ (d + e) (elim b [ true ↦ spread p q | false ↦ spread q p ])
      go true = spread-upto ρ d e l p s q t
      go false = rw (N.add_comm d e) (spread-upto ρ e d other_way q t p s)

  times-is : value_p ρ (times p q) ≡ value_p ρ p *ℤ value_p ρ q
  times-is = go (shorter p q)
    where
      go : (b : Bool) → value_p ρ (elim b [ true ↦ spread p q | false ↦ spread q p ]) ≡ value_p ρ p *ℤ value_p ρ q
      go true = spread-is ρ d e l p s q t
      go false = spread-is ρ e d other_way q t p s ∙ *ℤ_comm (value_p ρ q) (value_p ρ p)

-- ---- the normal form
left-max : (a b : ℕ) {c : ℕ} → max a b ≤ c → a ≤ c
left-max a b h = omega arith

right-max : (a b : ℕ) {c : ℕ} → max a b ≤ c → b ≤ c
right-max a b h = omega arith

left-sum : (a b : ℕ) {c : ℕ} → a + b ≤ c → a ≤ c
left-sum a b h = omega arith

right-sum : (a b : ℕ) {c : ℕ} → a + b ≤ c → b ≤ c
right-sum a b h = omega arith

normal-upto : (ρ : List ℤ) (e : Expr) → degree e ≤ 63 → UpTo ρ (degree e) (normal e)
normal-upto ρ (var i) l = (degree_m-var ρ i, tt)
normal-upto ρ (con c) l = keep-upto ρ 0 c 0 nil (N.le_of_eq (degree_m-0 ρ)) tt
normal-upto ρ (a ⊕ b) l =
    let x : ℕ = degree a in let y : ℕ = degree b in let m : ℕ = max x y in
    merge-upto ρ m (normal a) (raise ρ (left-max x y (N.le_refl m)) (normal a) (normal-upto ρ a (left-max x y l)))
    (normal b) (raise ρ (right-max x y (N.le_refl m)) (normal b) (normal-upto ρ b (right-max x y l)))
normal-upto ρ (a ⊖ b) l =
    let x : ℕ = degree a in let y : ℕ = degree b in let m : ℕ = max x y in
    merge-upto ρ m (normal a) (raise ρ (left-max x y (N.le_refl m)) (normal a) (normal-upto ρ a (left-max x y l)))
    (minus (normal b)) (minus-upto ρ m (normal b) (raise ρ (right-max x y (N.le_refl m)) (normal b) (normal-upto ρ b (right-max x y l))))
normal-upto ρ (a ⊗ b) l =
    times-upto ρ (degree a) (degree b) l
    (normal a) (normal-upto ρ a (left-sum (degree a) (degree b) l))
    (normal b) (normal-upto ρ b (right-sum (degree a) (degree b) l))
normal-upto ρ (neg a) l = minus-upto ρ (degree a) (normal a) (normal-upto ρ a l)

pub normal-is : (ρ : List ℤ) (e : Expr) → degree e ≤ 63 → value_p ρ (normal e) ≡ eval ρ e
normal-is ρ (var i) l = +ℤ_idr (pos 1 *ℤ value_m ρ (64 ^ i)) ∙ 1-*ℤ (value_m ρ (64 ^ i)) ∙ value_m-var ρ i
normal-is ρ (con c) l = keep-is ρ c 0 nil ∙ +ℤ_idr (c *ℤ value_m ρ 0) ∙ ap (λ y. c *ℤ y) (value_m-0 ρ) ∙ *ℤ-1 c
normal-is ρ (a ⊕ b) l =
    merge-is ρ (normal a) (normal b)
    ∙ ap₂ ◌+ℤ◌ (normal-is ρ a (left-max (degree a) (degree b) l)) (normal-is ρ b (right-max (degree a) (degree b) l))
normal-is ρ (a ⊖ b) l =
    merge-is ρ (normal a) (minus (normal b))
    ∙ ap₂ ◌+ℤ◌ (normal-is ρ a (left-max (degree a) (degree b) l))
    (minus_is ρ (normal b) ∙ ap neg_ℤ (normal-is ρ b (right-max (degree a) (degree b) l)))
normal-is ρ (a ⊗ b) l =
    times-is ρ (degree a) (degree b) l
    (normal a) (normal-upto ρ a (left-sum (degree a) (degree b) l))
    (normal b) (normal-upto ρ b (right-sum (degree a) (degree b) l))
    ∙ ap₂ ◌*ℤ◌ (normal-is ρ a (left-sum (degree a) (degree b) l)) (normal-is ρ b (right-sum (degree a) (degree b) l))
normal-is ρ (neg a) l = minus_is ρ (normal a) ∙ ap neg_ℤ (normal-is ρ a l)
