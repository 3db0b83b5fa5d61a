-- `by_sums::middle4` meets its contract: the middle quarter of the form that has E12 for one corner, and the edge of the quarter at the first corner.
-- Assumes nothing.
use mathlib.Core.Path.{◌≡◌, refl, ◌∙◌, ap, ap₂}
use mathlib.Core.List.{List, [], ◌∷◌, map}
use Prim.Native.Nat.{ℕ, ◌^◌}
use lib.IntN.{ℤ, pos, ◌+ℤ◌}
use lib.ListN.{get_or}
use Rattle.algebra.specs.Expr.{Expr, con, ◌⊕◌, evals}
use Rattle.forms.specs.Rows.{weigh}
use Rattle.forms.specs.Cuttings.{first, fourth}
use Rattle.forms.specs.Shapes.{cut_to}
use Rattle.forms.specs.Triangles.{ten}
use Rattle.cells.proofs.Sums.{sums-are}
use Rattle.cubic_cuts.specs.declared.by_sums.Cell4.{Cell4}
use Rattle.cubic_cuts.specs.Cells.{values3, values4, degree3}
use Rattle.cubic_cuts.proofs.Sums.{word, from, paired, cut, two-fit, sums-words, sums-asked}
use Rattle.cubic_cuts.proofs.by_sums.middle4.Goals as goal

-- the form that has E12 for one corner
abbrev ones : List (ℕ × ℕ)
ones =
    (1, 5) ∷ (2, 6) ∷ (3, 7) ∷ (4, 8) ∷ (6, 9) ∷ (7, 10) ∷ (8, 11) ∷ (10, 12) ∷ (11, 13) ∷ (13, 14) ∷ []

abbrev one : List Expr
one = paired ◌⊕◌ (con (pos 0)) ones (from 0 15)

-- the values: those with E12, and those of the edge
abbrev woven : {A : Type 0} → A → List A → List A → List A
woven d xs fs =
    get_or xs 0 d ∷ get_or xs 1 d ∷ get_or xs 2 d ∷ get_or xs 3 d ∷ get_or fs 14 d
    ∷ get_or xs 4 d ∷ get_or xs 5 d ∷ get_or xs 6 d ∷ get_or fs 13 d
    ∷ get_or xs 7 d ∷ get_or xs 8 d ∷ get_or fs 11 d
    ∷ get_or xs 9 d ∷ get_or fs 8 d
    ∷ get_or fs 4 d ∷ []

abbrev sums : List Expr
sums = woven (con (pos 0)) (cut (degree3.table fourth) one) (cut (ten.table first) (from 0 15))

sums-quarter : (c : Cell4) → evals (values4 c) sums ≡ cut_to ten fourth (values4 c)
unfolding weigh
sums-quarter c = sums-are (values4 c) sums (ten.table fourth) tt

pub overflow_add-c : goal.overflow_add-c
overflow_add-c c = two-fit c.requires tt 1 5

pub overflow_add-c-2 : goal.overflow_add-c-2
overflow_add-c-2 c = two-fit c.requires tt 2 6

pub overflow_add-c-3 : goal.overflow_add-c-3
overflow_add-c-3 c = two-fit c.requires tt 3 7

pub overflow_add-c-4 : goal.overflow_add-c-4
overflow_add-c-4 c = two-fit c.requires tt 4 8

pub overflow_add-c-5 : goal.overflow_add-c-5
overflow_add-c-5 c = two-fit c.requires tt 6 9

pub overflow_add-c-6 : goal.overflow_add-c-6
overflow_add-c-6 c = two-fit c.requires tt 7 10

pub overflow_add-c-7 : goal.overflow_add-c-7
overflow_add-c-7 c = two-fit c.requires tt 8 11

pub overflow_add-c-8 : goal.overflow_add-c-8
overflow_add-c-8 c = two-fit c.requires tt 10 12

pub overflow_add-c-9 : goal.overflow_add-c-9
overflow_add-c-9 c = two-fit c.requires tt 11 13

pub overflow_add-c-10 : goal.overflow_add-c-10
overflow_add-c-10 c = two-fit c.requires tt 13 14

pub middle3-m-requires : goal.middle3-m-requires
middle3-m-requires c =
    let cell : List ℤ = values4 c.args.c in
    let with-are : paired ◌+ℤ◌ (pos 0) ones (map word cell) ≡ evals cell one = ap (paired ◌+ℤ◌ (pos 0) ones) (sums-words c.requires (2 ^ 58) (from 0 15) tt refl) in
    sums-asked c.requires (2 ^ 59) one tt with-are

pub returns : goal.returns
unfolding weigh
returns c =
    let cell : List ℤ = values4 c.args.c in
    let with-are : paired ◌+ℤ◌ (pos 0) ones (map word cell) ≡ evals cell one = ap (paired ◌+ℤ◌ (pos 0) ones) (sums-words c.requires (2 ^ 58) (from 0 15) tt refl) in
    let middle-is : values3 c.middle3-m.result ≡ evals cell (cut (degree3.table fourth) one) = c.middle3-m.ensures ∙ ap (cut_to degree3 fourth) (sums-words c.requires (2 ^ 59) one tt with-are) in
    let edge-is : values4 c.at_first-f.result ≡ evals cell (cut (ten.table first) (from 0 15)) = c.at_first-f.ensures in
    sums-words c.requires (2 ^ 62) sums tt (ap₂ (woven (pos 0)) middle-is edge-is)
    ∙ sums-quarter c.args.c
