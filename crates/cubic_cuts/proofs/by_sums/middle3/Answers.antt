-- `by_sums::middle3` meets its contract: the middle quarter of the form that has E12 for one corner, and the columns of the others. Assumes nothing.
use mathlib.Core.Path.{◌≡◌, refl, ◌∙◌, ap, ap₂}
use mathlib.Core.List.{List, [], ◌∷◌, map}
use Prim.Native.Nat.{ℕ, ◌^◌}
use lib.IntN.{ℤ, pos, ◌+ℤ◌}
use lib.ListN.{get_or}
use Rattle.algebra.specs.Expr.{Expr, con, ◌⊕◌, evals}
use Rattle.forms.specs.Rows.{weigh}
use Rattle.forms.specs.Cuttings.{fourth}
use Rattle.forms.specs.Shapes.{cut_to}
use Rattle.cells.proofs.Sums.{sums-are}
use Rattle.cubic_cuts.specs.Lines.{list2, list3, list4}
use Rattle.cubic_cuts.specs.Cells.{values2, degree2, degree3}
use Rattle.cubic_cuts.proofs.Sums.{word, from, rows, entry, across, crossed, columns, paired, cut, two-fit, sums-words, sums-asked, sums-leaned}
use Rattle.cubic_cuts.proofs.by_sums.middle3.Goals as goal

-- the form that has E12 for one corner
abbrev ones : List (ℕ × ℕ)
ones = (1, 4) ∷ (2, 5) ∷ (3, 6) ∷ (5, 7) ∷ (6, 8) ∷ (8, 9) ∷ []

abbrev one : List Expr
one = paired ◌⊕◌ (con (pos 0)) ones (from 0 10)

-- the values: those with E12, and the last of the lines
abbrev woven : {A : Type 0} → A → List A → List (List A) → List A
woven d xs ls =
    get_or xs 0 d ∷ get_or xs 1 d ∷ get_or xs 2 d ∷ entry d ls 0 3
    ∷ get_or xs 3 d ∷ get_or xs 4 d ∷ entry d ls 1 2
    ∷ get_or xs 5 d ∷ entry d ls 2 1
    ∷ entry d ls 3 0 ∷ []

abbrev sums : List Expr
sums = woven (con (pos 0)) (cut (degree2.table fourth) one) (columns 4 0 4)

pub overflow_add-v210 : goal.overflow_add-v210
overflow_add-v210 c = two-fit c.requires tt 1 4

pub overflow_add-v120 : goal.overflow_add-v120
overflow_add-v120 c = two-fit c.requires tt 2 5

pub overflow_add-v030 : goal.overflow_add-v030
overflow_add-v030 c = two-fit c.requires tt 3 6

pub overflow_add-v111 : goal.overflow_add-v111
overflow_add-v111 c = two-fit c.requires tt 5 7

pub overflow_add-v021 : goal.overflow_add-v021
overflow_add-v021 c = two-fit c.requires tt 6 8

pub overflow_add-v012 : goal.overflow_add-v012
overflow_add-v012 c = two-fit c.requires tt 8 9

pub middle2-m-requires : goal.middle2-m-requires
middle2-m-requires c =
    let cell : List ℤ = c.args.v300 ∷ c.args.v210 ∷ c.args.v120 ∷ c.args.v030 ∷ c.args.v201 ∷ c.args.v111 ∷ c.args.v021 ∷ c.args.v102 ∷ c.args.v012 ∷ c.args.v003 ∷ [] in
    let with-are : paired ◌+ℤ◌ (pos 0) ones (map word cell) ≡ evals cell one = ap (paired ◌+ℤ◌ (pos 0) ones) (sums-words c.requires (2 ^ 59) (from 0 10) tt refl) in
    sums-asked c.requires (2 ^ 60) one tt with-are

pub lean4-p-requires : goal.lean4-p-requires
lean4-p-requires c = sums-asked c.requires (2 ^ 59) (from 0 4) tt refl

pub lean3-q-requires : goal.lean3-q-requires
lean3-q-requires c = sums-asked c.requires (2 ^ 60) (from 4 3) tt refl

pub lean2-r-requires : goal.lean2-r-requires
lean2-r-requires c = sums-asked c.requires (2 ^ 61) (from 7 2) tt refl

pub lean4-t-requires : goal.lean4-t-requires
lean4-t-requires c =
    let cell : List ℤ = c.args.v300 ∷ c.args.v210 ∷ c.args.v120 ∷ c.args.v030 ∷ c.args.v201 ∷ c.args.v111 ∷ c.args.v021 ∷ c.args.v102 ∷ c.args.v012 ∷ c.args.v003 ∷ [] in
    let lines : List (List ℤ) = list4 c.lean4-p.result ∷ list3 c.lean3-q.result ∷ list2 c.lean2-r.result ∷ (c.args.v003 ∷ []) ∷ [] in
    let lines_are : lines ≡ map (evals cell) (rows 0 4) = (let h = c.requires in
    ap₂ ◌∷◌ (sums-leaned h (2 ^ 59) (from 0 4) tt 4 refl c.lean4-p.ensures)
    (ap₂ ◌∷◌ (sums-leaned h (2 ^ 59) (from 4 3) tt 3 refl c.lean3-q.ensures)
    (ap₂ ◌∷◌ (sums-leaned h (2 ^ 59) (from 7 2) tt 2 refl c.lean2-r.ensures) refl))) in
    sums-asked c.requires (2 ^ 59) (crossed 4 0) tt (ap (across (pos 0) 4 0) lines_are)

pub lean3-u-requires : goal.lean3-u-requires
lean3-u-requires c =
    let cell : List ℤ = c.args.v300 ∷ c.args.v210 ∷ c.args.v120 ∷ c.args.v030 ∷ c.args.v201 ∷ c.args.v111 ∷ c.args.v021 ∷ c.args.v102 ∷ c.args.v012 ∷ c.args.v003 ∷ [] in
    let lines : List (List ℤ) = list4 c.lean4-p.result ∷ list3 c.lean3-q.result ∷ list2 c.lean2-r.result ∷ (c.args.v003 ∷ []) ∷ [] in
    let lines_are : lines ≡ map (evals cell) (rows 0 4) = (let h = c.requires in
    ap₂ ◌∷◌ (sums-leaned h (2 ^ 59) (from 0 4) tt 4 refl c.lean4-p.ensures)
    (ap₂ ◌∷◌ (sums-leaned h (2 ^ 59) (from 4 3) tt 3 refl c.lean3-q.ensures)
    (ap₂ ◌∷◌ (sums-leaned h (2 ^ 59) (from 7 2) tt 2 refl c.lean2-r.ensures) refl))) in
    sums-asked c.requires (2 ^ 60) (crossed 4 1) tt (ap (across (pos 0) 3 1) lines_are)

pub lean2-v-requires : goal.lean2-v-requires
lean2-v-requires c =
    let cell : List ℤ = c.args.v300 ∷ c.args.v210 ∷ c.args.v120 ∷ c.args.v030 ∷ c.args.v201 ∷ c.args.v111 ∷ c.args.v021 ∷ c.args.v102 ∷ c.args.v012 ∷ c.args.v003 ∷ [] in
    let lines : List (List ℤ) = list4 c.lean4-p.result ∷ list3 c.lean3-q.result ∷ list2 c.lean2-r.result ∷ (c.args.v003 ∷ []) ∷ [] in
    let lines_are : lines ≡ map (evals cell) (rows 0 4) = (let h = c.requires in
    ap₂ ◌∷◌ (sums-leaned h (2 ^ 59) (from 0 4) tt 4 refl c.lean4-p.ensures)
    (ap₂ ◌∷◌ (sums-leaned h (2 ^ 59) (from 4 3) tt 3 refl c.lean3-q.ensures)
    (ap₂ ◌∷◌ (sums-leaned h (2 ^ 59) (from 7 2) tt 2 refl c.lean2-r.ensures) refl))) in
    sums-asked c.requires (2 ^ 61) (crossed 4 2) tt (ap (across (pos 0) 2 2) lines_are)

pub returns : goal.returns
unfolding weigh
returns c =
    let cell : List ℤ = c.args.v300 ∷ c.args.v210 ∷ c.args.v120 ∷ c.args.v030 ∷ c.args.v201 ∷ c.args.v111 ∷ c.args.v021 ∷ c.args.v102 ∷ c.args.v012 ∷ c.args.v003 ∷ [] in
    let sums-quarter : evals cell sums ≡ cut_to degree3 fourth cell = sums-are cell sums (degree3.table fourth) tt in
    let with-are : paired ◌+ℤ◌ (pos 0) ones (map word cell) ≡ evals cell one = ap (paired ◌+ℤ◌ (pos 0) ones) (sums-words c.requires (2 ^ 59) (from 0 10) tt refl) in
    let middle-is : values2 c.middle2-m.result ≡ evals cell (cut (degree2.table fourth) one) = c.middle2-m.ensures ∙ ap (cut_to degree2 fourth) (sums-words c.requires (2 ^ 60) one tt with-are) in
    let lines : List (List ℤ) = list4 c.lean4-p.result ∷ list3 c.lean3-q.result ∷ list2 c.lean2-r.result ∷ (c.args.v003 ∷ []) ∷ [] in
    let lines_are : lines ≡ map (evals cell) (rows 0 4) = (let h = c.requires in
    ap₂ ◌∷◌ (sums-leaned h (2 ^ 59) (from 0 4) tt 4 refl c.lean4-p.ensures)
    (ap₂ ◌∷◌ (sums-leaned h (2 ^ 59) (from 4 3) tt 3 refl c.lean3-q.ensures)
    (ap₂ ◌∷◌ (sums-leaned h (2 ^ 59) (from 7 2) tt 2 refl c.lean2-r.ensures) refl))) in
    let crosses : List (List ℤ) = list4 c.lean4-t.result ∷ list3 c.lean3-u.result ∷ list2 c.lean2-v.result ∷ (entry (pos 0) lines 0 3 ∷ []) ∷ [] in
    let crosses-are : crosses ≡ map (evals cell) (columns 4 0 4) = (let h = c.requires in let l = lines_are in
    ap₂ ◌∷◌ (sums-leaned h (2 ^ 59) (crossed 4 0) tt 4 (ap (across (pos 0) 4 0) l) c.lean4-t.ensures)
    (ap₂ ◌∷◌ (sums-leaned h (2 ^ 60) (crossed 4 1) tt 3 (ap (across (pos 0) 3 1) l) c.lean3-u.ensures)
    (ap₂ ◌∷◌ (sums-leaned h (2 ^ 61) (crossed 4 2) tt 2 (ap (across (pos 0) 2 2) l) c.lean2-v.ensures)
    (ap (λ (z : ℤ). (z ∷ []) ∷ []) (ap (λ (ls : List (List ℤ)). entry (pos 0) ls 0 3) l))))) in
    sums-words c.requires (2 ^ 62) sums tt
    (ap₂ (woven (pos 0)) middle-is crosses-are)
    ∙ sums-quarter
