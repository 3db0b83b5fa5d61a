-- The kind of a number, as the tests of the code tell it.
--   kind-six, kind-ten : 6 and 10 are triangles
--   kind-quad        : what is neither is a quad, with eight nodes or nine
-- Assumes nothing.
use mathlib.Core.Path.{◌≡◌, refl}
use mathlib.Core.Bool.{cond}
use Prim.Native.Nat.{ℕ}
use borrow.Author.Tests.{ne_eqb}
use lib.Dec.{eqb}
use Rattle.element.specs.Kinds.{six, eight, nine, ten, kind_of}

pub kind-six : (n : ℕ) → n ≡ 6 → kind_of n ≡ six
kind-six n e = rw e refl

pub kind-ten : (n : ℕ) → n ≡ 10 → kind_of n ≡ ten
kind-ten n e = rw e refl

pub kind-quad : (n : ℕ) → ¬ (n ≡ 6) → ¬ (n ≡ 10) → kind_of n ≡ cond (eqb n 8) eight nine
kind-quad n h k = rw (ne_eqb n 6 h, ne_eqb n 10 k) refl
