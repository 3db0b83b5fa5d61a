-- `by_sums::middle2` meets its contract: the sums with E12 among their corners, and the columns of the others. Assumes nothing.
use mathlib.Core.Path.{◌≡◌, refl, ◌∙◌, ap, ap₂}
use mathlib.Core.List.{List, [], ◌∷◌, map}
use Prim.Native.Nat.{ℕ, ◌^◌}
use lib.IntN.{ℤ, pos, ◌+ℤ◌}
use lib.ListN.{get_or}
use Rattle.algebra.specs.Expr.{Expr, con, ◌⊕◌, evals}
use Rattle.algebra.specs.Within.{Each}
use Rattle.algebra.proofs.Within.{each-as}
use Rattle.forms.specs.Rows.{weigh}
use Rattle.forms.specs.Cuttings.{fourth}
use Rattle.forms.specs.Shapes.{cut_to}
use Rattle.cells.proofs.Sums.{sums-are}
use Rattle.cubic_cuts.specs.Lines.{list2, list3}
use Rattle.cubic_cuts.specs.Cells.{degree2}
use Rattle.cubic_cuts.proofs.Sums.{word, from, rows, entry, across, crossed, columns, paired, two-fit, sums-each, sums-words, sums-asked, sums-leaned}
use Rattle.cubic_cuts.proofs.by_sums.middle2.Goals as goal

-- the form that has E12 for one corner, and its sums of two
abbrev ones : List (ℕ × ℕ)
ones = (1, 3) ∷ (2, 4) ∷ (4, 5) ∷ []

abbrev twos : List (ℕ × ℕ)
twos = (1, 2) ∷ (0, 2) ∷ (0, 1) ∷ []

-- the values: those with E12, and the last of the lines
abbrev woven : {A : Type 0} → A → List A → List (List A) → List A
woven d xs ls = get_or xs 0 d ∷ get_or xs 1 d ∷ entry d ls 0 2 ∷ get_or xs 2 d ∷ entry d ls 1 1 ∷ entry d ls 2 0 ∷ []

abbrev one : List Expr
one = paired ◌⊕◌ (con (pos 0)) ones (from 0 6)

abbrev sums : List Expr
sums = woven (con (pos 0)) (paired ◌⊕◌ (con (pos 0)) twos one) (columns 3 0 3)

pub overflow_add-x : goal.overflow_add-x
overflow_add-x c = two-fit c.requires tt 1 3

pub overflow_add-y : goal.overflow_add-y
overflow_add-y c = two-fit c.requires tt 2 4

pub overflow_add-z : goal.overflow_add-z
overflow_add-z c = two-fit c.requires tt 4 5

pub overflow_add-yz : goal.overflow_add-yz
overflow_add-yz c =
    let cell : List ℤ = c.args.v200 ∷ c.args.v110 ∷ c.args.v020 ∷ c.args.v101 ∷ c.args.v011 ∷ c.args.v002 ∷ [] in
    let with : List ℤ = paired ◌+ℤ◌ (pos 0) ones (map word cell) in
    let with-are : with ≡ evals cell one = ap (paired ◌+ℤ◌ (pos 0) ones) (sums-words c.requires (2 ^ 60) (from 0 6) tt refl) in
    let two : Each (2 ^ 61) with = each-as with-are (sums-each c.requires (2 ^ 61) one tt) in
    two-fit two tt 1 2

pub overflow_add-xz : goal.overflow_add-xz
overflow_add-xz c =
    let cell : List ℤ = c.args.v200 ∷ c.args.v110 ∷ c.args.v020 ∷ c.args.v101 ∷ c.args.v011 ∷ c.args.v002 ∷ [] in
    let with : List ℤ = paired ◌+ℤ◌ (pos 0) ones (map word cell) in
    let with-are : with ≡ evals cell one = ap (paired ◌+ℤ◌ (pos 0) ones) (sums-words c.requires (2 ^ 60) (from 0 6) tt refl) in
    let two : Each (2 ^ 61) with = each-as with-are (sums-each c.requires (2 ^ 61) one tt) in
    two-fit two tt 0 2

pub overflow_add-xy : goal.overflow_add-xy
overflow_add-xy c =
    let cell : List ℤ = c.args.v200 ∷ c.args.v110 ∷ c.args.v020 ∷ c.args.v101 ∷ c.args.v011 ∷ c.args.v002 ∷ [] in
    let with : List ℤ = paired ◌+ℤ◌ (pos 0) ones (map word cell) in
    let with-are : with ≡ evals cell one = ap (paired ◌+ℤ◌ (pos 0) ones) (sums-words c.requires (2 ^ 60) (from 0 6) tt refl) in
    let two : Each (2 ^ 61) with = each-as with-are (sums-each c.requires (2 ^ 61) one tt) in
    two-fit two tt 0 1

pub lean3-p-requires : goal.lean3-p-requires
lean3-p-requires c = sums-asked c.requires (2 ^ 60) (from 0 3) tt refl

pub lean2-q-requires : goal.lean2-q-requires
lean2-q-requires c = sums-asked c.requires (2 ^ 61) (from 3 2) tt refl

pub lean3-r-requires : goal.lean3-r-requires
lean3-r-requires c =
    let cell : List ℤ = c.args.v200 ∷ c.args.v110 ∷ c.args.v020 ∷ c.args.v101 ∷ c.args.v011 ∷ c.args.v002 ∷ [] in
    let lines : List (List ℤ) = list3 c.lean3-p.result ∷ list2 c.lean2-q.result ∷ (c.args.v002 ∷ []) ∷ [] in
    let lines_are : lines ≡ map (evals cell) (rows 0 3) = (let h = c.requires in
    ap₂ ◌∷◌ (sums-leaned h (2 ^ 60) (from 0 3) tt 3 refl c.lean3-p.ensures)
    (ap₂ ◌∷◌ (sums-leaned h (2 ^ 60) (from 3 2) tt 2 refl c.lean2-q.ensures) refl)) in
    sums-asked c.requires (2 ^ 60) (crossed 3 0) tt (ap (across (pos 0) 3 0) lines_are)

pub lean2-s-requires : goal.lean2-s-requires
lean2-s-requires c =
    let cell : List ℤ = c.args.v200 ∷ c.args.v110 ∷ c.args.v020 ∷ c.args.v101 ∷ c.args.v011 ∷ c.args.v002 ∷ [] in
    let lines : List (List ℤ) = list3 c.lean3-p.result ∷ list2 c.lean2-q.result ∷ (c.args.v002 ∷ []) ∷ [] in
    let lines_are : lines ≡ map (evals cell) (rows 0 3) = (let h = c.requires in
    ap₂ ◌∷◌ (sums-leaned h (2 ^ 60) (from 0 3) tt 3 refl c.lean3-p.ensures)
    (ap₂ ◌∷◌ (sums-leaned h (2 ^ 60) (from 3 2) tt 2 refl c.lean2-q.ensures) refl)) in
    sums-asked c.requires (2 ^ 61) (crossed 3 1) tt (ap (across (pos 0) 2 1) lines_are)

pub returns : goal.returns
unfolding weigh
returns c =
    let cell : List ℤ = c.args.v200 ∷ c.args.v110 ∷ c.args.v020 ∷ c.args.v101 ∷ c.args.v011 ∷ c.args.v002 ∷ [] in
    let sums-quarter : evals cell sums ≡ cut_to degree2 fourth cell = sums-are cell sums (degree2.table fourth) tt in
    let with : List ℤ = paired ◌+ℤ◌ (pos 0) ones (map word cell) in
    let with-are : with ≡ evals cell one = ap (paired ◌+ℤ◌ (pos 0) ones) (sums-words c.requires (2 ^ 60) (from 0 6) tt refl) in
    let lines : List (List ℤ) = list3 c.lean3-p.result ∷ list2 c.lean2-q.result ∷ (c.args.v002 ∷ []) ∷ [] in
    let lines_are : lines ≡ map (evals cell) (rows 0 3) = (let h = c.requires in
    ap₂ ◌∷◌ (sums-leaned h (2 ^ 60) (from 0 3) tt 3 refl c.lean3-p.ensures)
    (ap₂ ◌∷◌ (sums-leaned h (2 ^ 60) (from 3 2) tt 2 refl c.lean2-q.ensures) refl)) in
    let crosses : List (List ℤ) = list3 c.lean3-r.result ∷ list2 c.lean2-s.result ∷ (entry (pos 0) lines 0 2 ∷ []) ∷ [] in
    let crosses-are : crosses ≡ map (evals cell) (columns 3 0 3) = (let h = c.requires in let l = lines_are in
    ap₂ ◌∷◌ (sums-leaned h (2 ^ 60) (crossed 3 0) tt 3 (ap (across (pos 0) 3 0) l) c.lean3-r.ensures)
    (ap₂ ◌∷◌ (sums-leaned h (2 ^ 61) (crossed 3 1) tt 2 (ap (across (pos 0) 2 1) l) c.lean2-s.ensures)
    (ap (λ (z : ℤ). (z ∷ []) ∷ []) (ap (λ (ls : List (List ℤ)). entry (pos 0) ls 0 2) l)))) in
    sums-words c.requires (2 ^ 62) sums tt
    (ap₂ (woven (pos 0))
    (ap (paired ◌+ℤ◌ (pos 0) twos) (sums-words c.requires (2 ^ 61) one tt with-are))
    crosses-are)
    ∙ sums-quarter
