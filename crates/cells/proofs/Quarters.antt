-- A quarter by a table of the code, one row after the other.
--   tables      == the tables of the four quarters, which the code's table is to be
--   table_of    : the one of a quarter, and what its rows add up to
--   table-room  : there is room for the sums by the rows of a table whose rows add up to g
--   row-value   : a sum by row k of the table of a quarter is value k of the quarter
--   last-quarter : which quarter is left after the first three
--   quarter-of  : as many values as the quarter has, filled in one after the other, are the quarter
-- Each once, for every shape and its tables. Assumes nothing.
use mathlib.Core.Path.{◌≡◌, refl, sym, ◌∙◌, ap}
use mathlib.Core.List.{List, [], ◌∷◌}
use Prim.Native.Nat.{ℕ, zero, suc, ◌*◌, ◌^◌, ◌<◌}
use native.Mathlib.Nat as N
use native.Mathlib.Omega.{arith}
use lib.Dec.{T}
use lib.IntN.{ℤ, pos}
use lib.ListN.{get_or, length}
use lib.Seq.{ext_get_or}
use Rattle.algebra.specs.Within.{Each}
use Rattle.algebra.specs.Fill.{list_to, Filled}
use Rattle.algebra.proofs.Fill.{fill_end, length-list_to, get_d-list_to}
use Rattle.forms.specs.Rows.{Row}
use Rattle.forms.specs.Cells.{dot, rows_add}
use Rattle.forms.specs.Cuttings.{Four, first, second, third, fourth, four_of}
use Rattle.forms.specs.Shapes.{Shape, cut_to, Lawful}
use Rattle.forms.proofs.Cells.{rows_add-at, get_d-quarter}
use Rattle.forms.proofs.Cuttings.{four-at}
use Rattle.cells.specs.Room.{TableRoom}

abbrev pub tables : Shape → List (List Row)
tables S = S.table first ∷ S.table second ∷ S.table third ∷ S.table fourth ∷ []

pub table_of : (S : Shape) → Lawful S → (i : ℕ) → i < 4
    → (get_or (tables S) i [] ≡ S.table (four_of i)) × T (rows_add S.growth (get_or (tables S) i []))
table_of S W i h = let e = go i h in (e, rw e (four-at (λ q. rows_add S.growth (S.table q)) W.grown (four_of i)))
  where
    go : (i : ℕ) → i < 4 → get_or (tables S) i [] ≡ S.table (four_of i)
    go zero h = refl
    go (suc zero) h = refl
    go (suc (suc zero)) h = refl
    go (suc (suc (suc zero))) h = refl
    go (suc (suc (suc (suc i)))) h = absurd (omega arith)

pub last-quarter : (i : ℕ) → ¬ (i ≡ 0) → ¬ (i ≡ 1) → ¬ (i ≡ 2) → four_of i ≡ fourth
last-quarter zero f g h = absurd (f refl)
last-quarter (suc zero) f g h = absurd (g refl)
last-quarter (suc (suc zero)) f g h = absurd (h refl)
last-quarter (suc (suc (suc i))) f g h = refl

pub table-room : (g m : ℕ) (t : List Row) (c : List ℤ) → T (rows_add g t) → Each m c → g * m < 2 ^ 63 → TableRoom t c
table-room g m t c a h b =
    record { size = m; each = h; below = λ k. N.lt_of_le_of_lt (N.mul-le-mul (rows_add-at g t a k) (N.le_refl m)) b }

pub row-value : (S : Shape) (i : Four) (t : List Row) (k : ℕ) (c : List ℤ) {r : ℤ} → t ≡ S.table i → r ≡ dot (get_or t k []) c
    → r ≡ get_or (cut_to S i c) k (pos 0)
row-value S i t k c e f = f ∙ ap (λ (t : List Row). dot (get_or t k []) c) e ∙ sym (get_d-quarter (S.table i) c k)

pub quarter-of : {n r : ℕ} {l m : List ℤ} → Filled n r (λ k. get_or l k (pos 0)) m → r ≡ n → length l ≡ n → m ≡ l
quarter-of {n} {r} {l} {m} p e f =
    fill_end p e
    ∙ ext_get_or (pos 0) (list_to n (λ k. get_or l k (pos 0))) l (length-list_to n (λ k. get_or l k (pos 0)) ∙ sym f)
    (λ k h. get_d-list_to n (λ k. get_or l k (pos 0)) k (rw (length-list_to n (λ k. get_or l k (pos 0))) at h))
