-- The control points of a ten-node triangle are those of the cubic map through its nodes, and 02's slopes are that map's derivatives.
--   bezier-lagrange  : the map of the control points is the map by the shape functions of the nodes
--   through-nodes    : that map takes each node at its place
--   slope-ξ, slope-η : what it gains towards A1, and towards A2, is three times a slope: 12w³·X gains 12w²·X_ξ, and 12w²·X_η
--   gains-only       : a map has one derivative
-- Assumes nothing.
use mathlib.Core.Path.{◌≡◌, refl, sym, ◌∙◌, ap}
use mathlib.Core.List.{List, [], ◌∷◌}
use Prim.Native.Nat.{ℕ, zero, suc, ◌+◌, ◌*◌, ◌≤◌, ◌<◌, zero-le, suc-le-suc}
use native.Mathlib.Nat as N
use native.Mathlib.Omega.{arith}
use lib.Dec.{T}
use lib.IntN.{ℤ, pos, negsuc, neg_ℤ, nat_abs, ◌+ℤ◌, ◌-ℤ◌, ◌*ℤ◌}
use lib.ListN.{get_or}
use Rattle.algebra.specs.Expr.{Expr, exprs, var, con, ◌⊕◌, ◌⊖◌, ◌⊗◌, eval}
use Rattle.algebra.specs.Normal.{vanishes}
use Rattle.algebra.proofs.Order.{0<pos, *ℤ-cancel}
use Rattle.algebra.proofs.Ring.{eq-of-sub}
use Rattle.algebra.proofs.Solve.{solve}
use Rattle.element.specs.Plane.{Vec, ◌+ᵥ◌, ◌*ᵥ◌, sum3ᵥ}
use Rattle.element.specs.Nodes.{node}
use Rattle.element.specs.Cubic.{R10, bezier, blend, along, aside, slopeξ, slopeη}
use Rattle.element.specs.Lagrange.{lagrange, weights10, Gains}
use Rattle.element.proofs.Formulas as E
use Rattle.element.proofs.Plane.{vec-eq}
use Rattle.element.proofs.CubicFormulas as C
use Rattle.element.proofs.Cubic.{points, RE}

-- the nodes along one coordinate, from variable b on
abbrev NE : ℕ → ℕ → E.Pair Expr
NE b k = record { x = var (b + k); y = var (b + k) }

abbrev nodes : List ℤ → (Vec → ℤ) → List ℤ
nodes xs f =
    f (node xs 0) ∷ f (node xs 1) ∷ f (node xs 2) ∷ f (node xs 3) ∷ f (node xs 4)
    ∷ f (node xs 5) ∷ f (node xs 6) ∷ f (node xs 7) ∷ f (node xs 8) ∷ f (node xs 9) ∷ []

module _ (xs : List ℤ) where
  -- 12w³·X on both sides
  pub bezier-lagrange : (p q r : ℤ) → bezier (R10 xs) p q r ≡ pos 6 *ᵥ lagrange xs p q r
  unfolding bezier lagrange
  bezier-lagrange p q r =
      vec-eq (solve (p ∷ q ∷ r ∷ nodes xs (λ v. v.x)) left right tt) (solve (p ∷ q ∷ r ∷ nodes xs (λ v. v.y)) left right tt)
    where
      left : Expr
      left = (C.blended exprs (C.R10 exprs (NE 3)) 3 (var 0) (var 1) (var 2)).x

      right : Expr
      right = con (pos 6) ⊗ (C.lagrange exprs (NE 3) (var 0) (var 1) (var 2)).x

  -- w = 3 there, so that 12w³ is 324
  abbrev pub Takes : ℕ → Type 0
  Takes k = let w = weights10 k in
      bezier (R10 xs) (pos (get_or w 0 0)) (pos (get_or w 1 0)) (pos (get_or w 2 0)) ≡ pos 324 *ᵥ node xs k

  at-node : ℕ → ℕ → ℕ → Expr
  at-node p q r = (C.blended exprs (C.R10 exprs (NE 0)) 3 (con (pos p)) (con (pos q)) (con (pos r))).x

  -- node k as the solver has it
  abbrev seen : ℕ → Vec
  seen k = record { x = eval (nodes xs (λ v. v.x)) (var k); y = eval (nodes xs (λ v. v.y)) (var k) }

  takes : (k p q r : ℕ) → T (vanishes (at-node p q r ⊖ con (pos 324) ⊗ var k)) → bezier (R10 xs) (pos p) (pos q) (pos r) ≡ pos 324 *ᵥ seen k
  unfolding bezier at-node
  takes k p q r t =
      vec-eq (solve (nodes xs (λ v. v.x)) (at-node p q r) (con (pos 324) ⊗ var k) t)
      (solve (nodes xs (λ v. v.y)) (at-node p q r) (con (pos 324) ⊗ var k) t)

  pub through-nodes : (k : ℕ) → k < 10 → Takes k
  unfolding at-node
  through-nodes zero h = takes 0 3 0 0 tt
  through-nodes (suc zero) h = takes 1 0 3 0 tt
  through-nodes (suc (suc zero)) h = takes 2 0 0 3 tt
  through-nodes (suc (suc (suc zero))) h = takes 3 2 1 0 tt
  through-nodes (suc (suc (suc (suc zero)))) h = takes 4 1 2 0 tt
  through-nodes (suc (suc (suc (suc (suc zero))))) h = takes 5 0 2 1 tt
  through-nodes (suc (suc (suc (suc (suc (suc zero)))))) h = takes 6 0 1 2 tt
  through-nodes (suc (suc (suc (suc (suc (suc (suc zero))))))) h = takes 7 1 0 2 tt
  through-nodes (suc (suc (suc (suc (suc (suc (suc (suc zero)))))))) h = takes 8 2 0 1 tt
  through-nodes (suc (suc (suc (suc (suc (suc (suc (suc (suc zero))))))))) h = takes 9 1 1 1 tt
  through-nodes (suc (suc (suc (suc (suc (suc (suc (suc (suc (suc k)))))))))) h = absurd (omega arith)

-- ---- the slopes, of any control points R: towards A1 the weights become p - t, q + t, r, and towards A2 p - t, q, r + t; w stays
abbrev Differences : Type 0
Differences = (ℕ → ℕ → ℕ → E.Pair Expr) → ℕ → ℕ → ℕ → E.Pair Expr

-- the points stand first, then p, q, r and t
abbrev S : ℕ → ℕ → ℕ → E.Pair Expr
S = RE 0 0

blended : (ℕ → ℕ → ℕ → E.Pair Expr) → ℕ → Expr
blended R n = (C.blended exprs R n (var 10) (var 11) (var 12)).x

-- the map at the start, and what it gains, by the differences D along a direction
gained : Expr → Differences → Expr
gained start D =
    start ⊕ var 13 ⊗ (con (pos 3) ⊗ blended (D S) 2)
    ⊕ var 13 ⊗ var 13 ⊗ (con (pos 3) ⊗ blended (D (D S)) 1 ⊕ var 13 ⊗ (D (D (D S)) 0 0 0).x)

module _ (R : ℕ → ℕ → ℕ → Vec) (p q r : ℤ) where
  abbrev all : ℤ → (Vec → ℤ) → List ℤ
  all t f = points (λ i j k. f (R i j k)) (p ∷ q ∷ r ∷ t ∷ [])

  -- what is left beside t²: of the second and the third differences
  abbrev left_over : (ℕ → ℕ → ℕ → Vec) → (ℕ → ℕ → ℕ → Vec) → ℤ → Vec
  left_over D E t = pos 3 *ᵥ sum3ᵥ 1 (λ i j k. blend p q r i j k *ᵥ D i j k) +ᵥ t *ᵥ E 0 0 0

  points-ξ : Gains (λ t. bezier R (p -ℤ t) (q +ℤ t) r) (pos 3 *ᵥ slopeξ R p q r)
  unfolding bezier slopeξ gained blended
  points-ξ = record { rest = left_over (along (along R)) (along (along (along R))); gained = λ t. vec-eq (one t (λ v. v.x)) (one t (λ v. v.y)) }
    where
      one : (t : ℤ) (f : Vec → ℤ) → eval (all t f) (C.blended exprs S 3 (var 10 ⊖ var 13) (var 11 ⊕ var 13) (var 12)).x
          ≡ eval (all t f) (gained (C.blended exprs S 3 (var 10 ⊖ con (pos 0)) (var 11 ⊕ con (pos 0)) (var 12)).x (C.along exprs))
      one t f =
          solve (all t f) (C.blended exprs S 3 (var 10 ⊖ var 13) (var 11 ⊕ var 13) (var 12)).x
          (gained (C.blended exprs S 3 (var 10 ⊖ con (pos 0)) (var 11 ⊕ con (pos 0)) (var 12)).x (C.along exprs)) tt

  points-η : Gains (λ t. bezier R (p -ℤ t) q (r +ℤ t)) (pos 3 *ᵥ slopeη R p q r)
  unfolding bezier slopeη gained blended
  points-η = record { rest = left_over (aside (aside R)) (aside (aside (aside R))); gained = λ t. vec-eq (one t (λ v. v.x)) (one t (λ v. v.y)) }
    where
      one : (t : ℤ) (f : Vec → ℤ) → eval (all t f) (C.blended exprs S 3 (var 10 ⊖ var 13) (var 11) (var 12 ⊕ var 13)).x
          ≡ eval (all t f) (gained (C.blended exprs S 3 (var 10 ⊖ con (pos 0)) (var 11) (var 12 ⊕ con (pos 0))).x (C.aside exprs))
      one t f =
          solve (all t f) (C.blended exprs S 3 (var 10 ⊖ var 13) (var 11) (var 12 ⊕ var 13)).x
          (gained (C.blended exprs S 3 (var 10 ⊖ con (pos 0)) (var 11) (var 12 ⊕ con (pos 0))).x (C.aside exprs)) tt

-- ---- of the map by the shape functions
same-gains : {F G : ℤ → Vec} {D : Vec} → ((t : ℤ) → F t ≡ G t) → Gains F D → Gains G D
same-gains {D = D} e g =
    record {
      rest = g.rest;
      gained = λ t. sym (e t) ∙ g.gained t ∙ ap (λ (v : Vec). v +ᵥ t *ᵥ D +ᵥ (t *ℤ t) *ᵥ g.rest t) (e (pos 0));
    }

module _ (xs : List ℤ) (p q r : ℤ) where
  pub slope-ξ : Gains (λ t. pos 6 *ᵥ lagrange xs (p -ℤ t) (q +ℤ t) r) (pos 3 *ᵥ slopeξ (R10 xs) p q r)
  slope-ξ = same-gains (λ t. bezier-lagrange xs (p -ℤ t) (q +ℤ t) r) (points-ξ (R10 xs) p q r)

  pub slope-η : Gains (λ t. pos 6 *ᵥ lagrange xs (p -ℤ t) q (r +ℤ t)) (pos 3 *ᵥ slopeη (R10 xs) p q r)
  slope-η = same-gains (λ t. bezier-lagrange xs (p -ℤ t) q (r +ℤ t)) (points-η (R10 xs) p q r)

-- ---- one derivative
neg-size : (n : ℕ) → nat_abs (neg_ℤ (pos n)) ≡ n
neg-size zero = refl
neg-size (suc n) = refl

no_less : (n m : ℕ) → n ≤ n * suc m
no_less n m = N.le_trans (N.le_of_eq (sym (N.mul-one n))) (N.mul-le-mul_left n (suc-le-suc zero-le))

-- a multiple of n that is smaller than n is zero
multiple-zero : (n : ℕ) (z d : ℤ) → nat_abs d < n → d ≡ pos n *ℤ z → d ≡ pos 0
multiple-zero n (pos zero) d h e = e ∙ ap pos (N.mul-zero n)
multiple-zero n (pos (suc m)) d h e = let f : nat_abs d ≡ n * suc m = ap nat_abs e in absurd (N.not-le_of_lt h (rw f (no_less n m)))
multiple-zero n (negsuc m) d h e = let f : nat_abs d ≡ n * suc m = ap nat_abs e ∙ neg-size (n * suc m) in absurd (N.not-le_of_lt h (rw f (no_less n m)))

-- along one coordinate: n is taken beyond the size of what the two differ by
one-slope : (n : ℕ) (a d e r s : ℤ) → nat_abs (d -ℤ e) < n
    → a +ℤ pos n *ℤ d +ℤ pos n *ℤ pos n *ℤ r ≡ a +ℤ pos n *ℤ e +ℤ pos n *ℤ pos n *ℤ s
    → d ≡ e
one-slope n a d e r s h p =
    eq-of-sub d e (multiple-zero n (s -ℤ r) (d -ℤ e) h
    (*ℤ-cancel (d -ℤ e) (pos n *ℤ (s -ℤ r)) (pos n) (0<pos (N.lt_of_le_of_lt zero-le h))
    (solve (a ∷ pos n ∷ d ∷ e ∷ r ∷ s ∷ []) ((var 2 ⊖ var 3) ⊗ var 1)
    (var 0 ⊕ var 1 ⊗ var 2 ⊕ var 1 ⊗ var 1 ⊗ var 4 ⊖ (var 0 ⊕ var 1 ⊗ var 3 ⊕ var 1 ⊗ var 1 ⊗ var 4)) tt
    ∙ ap (λ z. z -ℤ (a +ℤ pos n *ℤ e +ℤ pos n *ℤ pos n *ℤ r)) p
    ∙ solve (a ∷ pos n ∷ d ∷ e ∷ r ∷ s ∷ [])
    (var 0 ⊕ var 1 ⊗ var 3 ⊕ var 1 ⊗ var 1 ⊗ var 5 ⊖ (var 0 ⊕ var 1 ⊗ var 3 ⊕ var 1 ⊗ var 1 ⊗ var 4))
    (var 1 ⊗ (var 5 ⊖ var 4) ⊗ var 1) tt)))

pub gains-only : (F : ℤ → Vec) (D E : Vec) → Gains F D → Gains F E → D ≡ E
gains-only F D E g h =
    let n = suc (nat_abs (D.x -ℤ E.x)) in
    let m = suc (nat_abs (D.y -ℤ E.y)) in
    vec-eq (one-slope n (F (pos 0)).x D.x E.x (g.rest (pos n)).x (h.rest (pos n)).x (N.le_refl n) (ap (λ (v : Vec). v.x) (both (pos n))))
    (one-slope m (F (pos 0)).y D.y E.y (g.rest (pos m)).y (h.rest (pos m)).y (N.le_refl m) (ap (λ (v : Vec). v.y) (both (pos m))))
  where
    both : (t : ℤ) → F (pos 0) +ᵥ t *ᵥ D +ᵥ (t *ℤ t) *ᵥ g.rest t ≡ F (pos 0) +ᵥ t *ᵥ E +ᵥ (t *ℤ t) *ᵥ h.rest t
    both t = sym (g.gained t) ∙ h.gained t
