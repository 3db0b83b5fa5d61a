-- A number from the first node, as the code reads it.
--   less-first     : the number at place k less the first node's along its axis
--   less-axis      : at a node's place along an axis
--   axis-small    : it is as small as both
-- Assumes nothing.
use mathlib.Core.Path.{◌≡◌, refl, sym, ◌∙◌, ap, subst}
use mathlib.Core.Bool.{Bool, true, false, cond}
use mathlib.Core.List.{List}
use Prim.Native.Nat.{ℕ, ◌+◌, ◌*◌, ◌%◌, ◌≤◌, ◌<◌}
use native.Mathlib.Omega.{arith}
use borrow.Author.Tests.{ltb-true, ltb-false}
use lib.Dec.{eqb, ltb}
use lib.IntN.{ℤ, pos, ◌-ℤ◌}
use lib.ListN.{length, get_or-eq_default}
use Rattle.algebra.specs.Within.{Within}
use Rattle.algebra.proofs.Truth.{cond_ind}
use Rattle.element.specs.Control.{at}
use Rattle.element.specs.Origin.{by_axis, from_first}
use Rattle.element.proofs.Origin.{moved_at, axis-at, first-length}
use Rattle.points.specs.Points.{less}

pub less-first : (xs : List ℤ) (k : ℕ) → less xs k (by_axis (at xs 0) (at xs 1) k) ≡ at (from_first xs) k
less-first xs k = go (ltb k (length xs)) refl
  where
    go : (b : Bool) → ltb k (length xs) ≡ b → cond b (at xs k -ℤ by_axis (at xs 0) (at xs 1) k) (pos 0) ≡ at (from_first xs) k
    go true e = sym (moved_at (at xs 0) (at xs 1) xs k (ltb-true k (length xs) e))
    go false e = sym (get_or-eq_default (from_first xs) (pos 0) (subst (λ n. n ≤ k) (sym (first-length xs)) (ltb-false k (length xs) e)))

pub less-axis : (xs : List ℤ) (m a : ℕ) → a < 2 → less xs (2 * m + a) (at xs a) ≡ at (from_first xs) (2 * m + a)
less-axis xs m a h =
    let e : (2 * m + a) % 2 ≡ a = omega arith in
    ap (less xs (2 * m + a)) (ap (at xs) (sym e) ∙ axis-at xs (2 * m + a)) ∙ less-first xs (2 * m + a)

pub axis-small : {n : ℕ} {a b : ℤ} → Within n a → Within n b → (k : ℕ) → Within n (by_axis a b k)
axis-small {n} {a} {b} p q k = cond_ind (eqb (k % 2) 0) a b (Within n) (λ t. p) (λ t. q)
