-- What the tests of a kind tell.
--   level-quad    : what is not a triangle, of 6 nodes or of 10, has the greatest level of quads
--   last-kind     : a kind that is none of 6, 8 and 10 is 9
--   long_of, kind-long : a list that is not of a wrong length has two numbers a node
--   listed-inside, accepted-inside : an accepted element has its coordinates within its limit, as they stand or from the first node
-- Assumes nothing.
use mathlib.Core.Path.{◌≡◌, refl, sym, ap, ◌∙◌}
use mathlib.Core.Bool.{Bool, true, false, cond}
use mathlib.Core.List.{List}
use Prim.Native.Nat.{ℕ, ◌*◌}
use borrow.Author.Tests.{ne_eqb}
use lib.Dec.{eqb}
use lib.IntN.{ℤ}
use lib.ListN.{length}
use Rattle.algebra.proofs.Truth.{not-not}
use Rattle.element.specs.Kinds.{eight, nine, node_count, kind_of, NotKind, coordinate_limit, greatest_level}
use Rattle.element.specs.Origin.{Inside}
use Rattle.element.specs.Refusals.{Accepted, WrongLength, Outside, bounds_codes}
use Rattle.element.proofs.Origin.{node-count}
use Rattle.element.proofs.Ranges.{inside-ranged}

pub last-kind : (n : ℕ) → ¬ NotKind n → ¬ (n ≡ 6) → ¬ (n ≡ 8) → ¬ (n ≡ 10) → n ≡ 9
last-kind n f g h t = not-not n 9 (λ e. f ((g, h, e), t))

pub level-quad : (n : ℕ) → ¬ (n ≡ 6) → ¬ (n ≡ 10) → 4 ≡ greatest_level (kind_of n)
level-quad n h t = rw (ne_eqb n 6 h, ne_eqb n 10 t) (either (eqb n 8))
  where
    either : (b : Bool) → 4 ≡ greatest_level (cond b eight nine)
    either true = refl
    either false = refl

-- ---- an accepted element
pub long_of : (n : ℕ) (xs : List ℤ) → ¬ WrongLength n xs → length xs ≡ 2 * n
long_of n xs f = not-not (length xs) (2 * n) f

pub kind-long : (n : ℕ) (xs : List ℤ) → ¬ NotKind n → ¬ WrongLength n xs → length xs ≡ 2 * node_count (kind_of n)
kind-long n xs f g = long_of n xs g ∙ ap (λ m. 2 * m) (sym (node-count n f))

pub listed-inside : (n : ℕ) (xs : List ℤ) → ¬ NotKind n → ¬ WrongLength n xs → ¬ Outside (kind_of n) xs → Inside (kind_of n) xs
listed-inside n xs f g h = record { long = kind-long n xs f g; range = inside-ranged (coordinate_limit (kind_of n)) xs h }

pub accepted-inside : (n : ℕ) (xs : List ℤ) → Accepted (bounds_codes n xs) → Inside (kind_of n) xs
accepted-inside n xs (f, (g, (h, _))) = listed-inside n xs f g h
