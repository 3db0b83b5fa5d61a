-- `by_sums::at_first` meets its contract: the rows, leaned, and across them the columns; their multiples are the rows of the table.
-- Assumes nothing.
use mathlib.Core.Path.{◌≡◌, refl, ◌∙◌, ap, ap₂}
use mathlib.Core.List.{List, [], ◌∷◌, map}
use Prim.Native.Nat.{ℕ, ◌^◌}
use lib.Dec.{T}
use lib.IntN.{ℤ, pos, ◌+ℤ◌, ◌*ℤ◌}
use mir.Syntax.{w64}
use mir.Val.{SFits}
use Rattle.algebra.specs.Within.{Each}
use Rattle.algebra.specs.Expr.{Expr, con, ◌⊗◌, evals}
use Rattle.forms.specs.Rows.{weigh}
use Rattle.forms.specs.Cuttings.{first}
use Rattle.forms.specs.Shapes.{cut_to}
use Rattle.forms.specs.Triangles.{ten}
use Rattle.cells.proofs.Sums.{sums-are}
use Rattle.cubic_cuts.specs.declared.by_sums.Cell4.{Cell4}
use Rattle.cubic_cuts.specs.Lines.{lean}
use Rattle.cubic_cuts.specs.Cells.{values4}
use Rattle.cubic_cuts.proofs.Sums.{word, from, rows, entry, across, crossed, columns, sizes, multiple, sums-words, sums-asked, sums-leaned, lines-words, times-fit}
use Rattle.cubic_cuts.proofs.by_sums.at_first.Goals as goal

-- the multiples: of the lines ls, of which the machine holds ws
abbrev multiples : {A : Type 0} → A → (ℕ → A → A) → List (List A) → List (List A) → List A
multiples d times ws ls =
    times 16 (entry d ws 0 0) ∷ times 8 (entry d ws 1 0) ∷ times 4 (entry d ws 2 0) ∷ times 2 (entry d ws 3 0) ∷ entry d ls 4 0
    ∷ times 8 (entry d ws 0 1) ∷ times 4 (entry d ws 1 1) ∷ times 2 (entry d ws 2 1) ∷ entry d ls 3 1
    ∷ times 4 (entry d ws 0 2) ∷ times 2 (entry d ws 1 2) ∷ entry d ls 2 2
    ∷ times 2 (entry d ws 0 3) ∷ entry d ls 1 3
    ∷ entry d ls 0 4 ∷ []

abbrev sums : List Expr
sums = multiples (con (pos 0)) (λ n e. con (pos n) ⊗ e) (columns 5 0 5) (columns 5 0 5)

-- the rows, and the columns across them
lines_are : (c : Cell4) → Each (2 ^ 58) (values4 c) → {p q r s : List ℤ}
    → p ≡ lean ◌+ℤ◌ 5 (map word (evals (values4 c) (from 0 5)))
    → q ≡ lean ◌+ℤ◌ 4 (map word (evals (values4 c) (from 5 4)))
    → r ≡ lean ◌+ℤ◌ 3 (map word (evals (values4 c) (from 9 3)))
    → s ≡ lean ◌+ℤ◌ 2 (map word (evals (values4 c) (from 12 2)))
    → p ∷ q ∷ r ∷ s ∷ (c.v004 ∷ []) ∷ [] ≡ map (evals (values4 c)) (rows 0 5)
lines_are c h p q r s =
    ap₂ ◌∷◌ (sums-leaned h (2 ^ 58) (from 0 5) tt 5 refl p)
    (ap₂ ◌∷◌ (sums-leaned h (2 ^ 58) (from 5 4) tt 4 refl q)
    (ap₂ ◌∷◌ (sums-leaned h (2 ^ 58) (from 9 3) tt 3 refl r)
    (ap₂ ◌∷◌ (sums-leaned h (2 ^ 58) (from 12 2) tt 2 refl s) refl)))

crosses_are : (c : Cell4) → Each (2 ^ 58) (values4 c) → {ls : List (List ℤ)} → ls ≡ map (evals (values4 c)) (rows 0 5) → {t u v w : List ℤ}
    → t ≡ lean ◌+ℤ◌ 5 (map word (across (pos 0) 5 0 ls))
    → u ≡ lean ◌+ℤ◌ 4 (map word (across (pos 0) 4 1 ls))
    → v ≡ lean ◌+ℤ◌ 3 (map word (across (pos 0) 3 2 ls))
    → w ≡ lean ◌+ℤ◌ 2 (map word (across (pos 0) 2 3 ls))
    → t ∷ u ∷ v ∷ w ∷ (entry (pos 0) ls 0 4 ∷ []) ∷ [] ≡ map (evals (values4 c)) (columns 5 0 5)
crosses_are c h l t u v w =
    ap₂ ◌∷◌ (sums-leaned h (2 ^ 58) (crossed 5 0) tt 5 (ap (across (pos 0) 5 0) l) t)
    (ap₂ ◌∷◌ (sums-leaned h (2 ^ 59) (crossed 5 1) tt 4 (ap (across (pos 0) 4 1) l) u)
    (ap₂ ◌∷◌ (sums-leaned h (2 ^ 60) (crossed 5 2) tt 3 (ap (across (pos 0) 3 2) l) v)
    (ap₂ ◌∷◌ (sums-leaned h (2 ^ 61) (crossed 5 3) tt 2 (ap (across (pos 0) 2 3) l) w)
    (ap (λ (z : ℤ). (z ∷ []) ∷ []) (ap (λ (ls : List (List ℤ)). entry (pos 0) ls 0 4) l)))))

times : (c : Cell4) → Each (2 ^ 58) (values4 c) → {ls : List (List ℤ)} → ls ≡ map (evals (values4 c)) (columns 5 0 5) → (n j k : ℕ)
    → T (multiple (sizes (2 ^ 58) (values4 c)) n (entry (con (pos 0)) (columns 5 0 5) j k))
    → SFits w64 (pos n *ℤ word (entry (pos 0) ls j k))
times c h l = times-fit h (columns 5 0 5) l

pub lean5-p-requires : goal.lean5-p-requires
lean5-p-requires c = sums-asked c.requires (2 ^ 58) (from 0 5) tt refl

pub lean4-q-requires : goal.lean4-q-requires
lean4-q-requires c = sums-asked c.requires (2 ^ 59) (from 5 4) tt refl

pub lean3-r-requires : goal.lean3-r-requires
lean3-r-requires c = sums-asked c.requires (2 ^ 60) (from 9 3) tt refl

pub lean2-s-requires : goal.lean2-s-requires
lean2-s-requires c = sums-asked c.requires (2 ^ 61) (from 12 2) tt refl

pub lean5-t-requires : goal.lean5-t-requires
lean5-t-requires c =
    let l = lines_are c.args.c c.requires c.lean5-p.ensures c.lean4-q.ensures c.lean3-r.ensures c.lean2-s.ensures in
    sums-asked c.requires (2 ^ 58) (crossed 5 0) tt (ap (across (pos 0) 5 0) l)

pub lean4-u-requires : goal.lean4-u-requires
lean4-u-requires c =
    let l = lines_are c.args.c c.requires c.lean5-p.ensures c.lean4-q.ensures c.lean3-r.ensures c.lean2-s.ensures in
    sums-asked c.requires (2 ^ 59) (crossed 5 1) tt (ap (across (pos 0) 4 1) l)

pub lean3-v-requires : goal.lean3-v-requires
lean3-v-requires c =
    let l = lines_are c.args.c c.requires c.lean5-p.ensures c.lean4-q.ensures c.lean3-r.ensures c.lean2-s.ensures in
    sums-asked c.requires (2 ^ 60) (crossed 5 2) tt (ap (across (pos 0) 3 2) l)

pub lean2-w-requires : goal.lean2-w-requires
lean2-w-requires c =
    let l = lines_are c.args.c c.requires c.lean5-p.ensures c.lean4-q.ensures c.lean3-r.ensures c.lean2-s.ensures in
    sums-asked c.requires (2 ^ 61) (crossed 5 3) tt (ap (across (pos 0) 2 3) l)

pub overflow_mul-result : goal.overflow_mul-result
overflow_mul-result c =
    let l = lines_are c.args.c c.requires c.lean5-p.ensures c.lean4-q.ensures c.lean3-r.ensures c.lean2-s.ensures in
    let x = crosses_are c.args.c c.requires l c.lean5-t.ensures c.lean4-u.ensures c.lean3-v.ensures c.lean2-w.ensures in
    times c.args.c c.requires x 16 0 0 tt

pub overflow_mul-result-2 : goal.overflow_mul-result-2
overflow_mul-result-2 c =
    let l = lines_are c.args.c c.requires c.lean5-p.ensures c.lean4-q.ensures c.lean3-r.ensures c.lean2-s.ensures in
    let x = crosses_are c.args.c c.requires l c.lean5-t.ensures c.lean4-u.ensures c.lean3-v.ensures c.lean2-w.ensures in
    times c.args.c c.requires x 8 1 0 tt

pub overflow_mul-result-3 : goal.overflow_mul-result-3
overflow_mul-result-3 c =
    let l = lines_are c.args.c c.requires c.lean5-p.ensures c.lean4-q.ensures c.lean3-r.ensures c.lean2-s.ensures in
    let x = crosses_are c.args.c c.requires l c.lean5-t.ensures c.lean4-u.ensures c.lean3-v.ensures c.lean2-w.ensures in
    times c.args.c c.requires x 4 2 0 tt

pub overflow_mul-result-4 : goal.overflow_mul-result-4
overflow_mul-result-4 c =
    let l = lines_are c.args.c c.requires c.lean5-p.ensures c.lean4-q.ensures c.lean3-r.ensures c.lean2-s.ensures in
    let x = crosses_are c.args.c c.requires l c.lean5-t.ensures c.lean4-u.ensures c.lean3-v.ensures c.lean2-w.ensures in
    times c.args.c c.requires x 2 3 0 tt

pub overflow_mul-result-5 : goal.overflow_mul-result-5
overflow_mul-result-5 c =
    let l = lines_are c.args.c c.requires c.lean5-p.ensures c.lean4-q.ensures c.lean3-r.ensures c.lean2-s.ensures in
    let x = crosses_are c.args.c c.requires l c.lean5-t.ensures c.lean4-u.ensures c.lean3-v.ensures c.lean2-w.ensures in
    times c.args.c c.requires x 8 0 1 tt

pub overflow_mul-result-6 : goal.overflow_mul-result-6
overflow_mul-result-6 c =
    let l = lines_are c.args.c c.requires c.lean5-p.ensures c.lean4-q.ensures c.lean3-r.ensures c.lean2-s.ensures in
    let x = crosses_are c.args.c c.requires l c.lean5-t.ensures c.lean4-u.ensures c.lean3-v.ensures c.lean2-w.ensures in
    times c.args.c c.requires x 4 1 1 tt

pub overflow_mul-result-7 : goal.overflow_mul-result-7
overflow_mul-result-7 c =
    let l = lines_are c.args.c c.requires c.lean5-p.ensures c.lean4-q.ensures c.lean3-r.ensures c.lean2-s.ensures in
    let x = crosses_are c.args.c c.requires l c.lean5-t.ensures c.lean4-u.ensures c.lean3-v.ensures c.lean2-w.ensures in
    times c.args.c c.requires x 2 2 1 tt

pub overflow_mul-result-8 : goal.overflow_mul-result-8
overflow_mul-result-8 c =
    let l = lines_are c.args.c c.requires c.lean5-p.ensures c.lean4-q.ensures c.lean3-r.ensures c.lean2-s.ensures in
    let x = crosses_are c.args.c c.requires l c.lean5-t.ensures c.lean4-u.ensures c.lean3-v.ensures c.lean2-w.ensures in
    times c.args.c c.requires x 4 0 2 tt

pub overflow_mul-result-9 : goal.overflow_mul-result-9
overflow_mul-result-9 c =
    let l = lines_are c.args.c c.requires c.lean5-p.ensures c.lean4-q.ensures c.lean3-r.ensures c.lean2-s.ensures in
    let x = crosses_are c.args.c c.requires l c.lean5-t.ensures c.lean4-u.ensures c.lean3-v.ensures c.lean2-w.ensures in
    times c.args.c c.requires x 2 1 2 tt

pub overflow_mul-result-10 : goal.overflow_mul-result-10
overflow_mul-result-10 c =
    let l = lines_are c.args.c c.requires c.lean5-p.ensures c.lean4-q.ensures c.lean3-r.ensures c.lean2-s.ensures in
    let x = crosses_are c.args.c c.requires l c.lean5-t.ensures c.lean4-u.ensures c.lean3-v.ensures c.lean2-w.ensures in
    times c.args.c c.requires x 2 0 3 tt

pub returns : goal.returns
unfolding weigh
returns c =
    let sums-quarter : evals (values4 c.args.c) sums ≡ cut_to ten first (values4 c.args.c) = sums-are (values4 c.args.c) sums (ten.table first) tt in
    let l = lines_are c.args.c c.requires c.lean5-p.ensures c.lean4-q.ensures c.lean3-r.ensures c.lean2-s.ensures in
    let x = crosses_are c.args.c c.requires l c.lean5-t.ensures c.lean4-u.ensures c.lean3-v.ensures c.lean2-w.ensures in
    sums-words c.requires (2 ^ 62) sums tt
    (ap₂ (multiples (pos 0) (λ n z. pos n *ℤ z)) (lines-words c.requires (columns 5 0 5) x (2 ^ 62) tt) x)
    ∙ sums-quarter
