-- `by_sums::split` meets its contract: quarter by quarter, its sums are the rows of the table, and none leaves 64 bits. Assumes nothing.
use mathlib.Core.Path.{refl, ◌∙◌}
use mathlib.Core.List.{List}
use Prim.Native.Nat.{ℕ, ◌+◌, ◌*◌}
use lib.IntN.{ℤ, pos, ◌+ℤ◌, ◌*ℤ◌}
use lib.ListN.{get_or}
use mir.Syntax.{w64}
use mir.Val.{to_z, of_z}
use Rattle.algebra.specs.Within.{Is, Each}
use Rattle.algebra.proofs.Within.{rd, st, lit, fits, i-add, i-mul}
use Rattle.algebra.proofs.Fill.{cons}
use Rattle.forms.specs.Cuttings.{first, second, third, fourth}
use Rattle.cells.proofs.Quarters.{last-quarter}
use Rattle.triangle_cuts.proofs.Sums.{sums-quarter}
use Rattle.triangle_cuts.proofs.by_sums.split.Goals as goal

-- what the machine holds of a number
abbrev word : ℤ → ℤ
word z = to_z w64 (of_z w64 z)

abbrev size : ℕ
size = 1152921504606846976

abbrev value : List ℤ → ℕ → ℤ
value cell k = get_or cell k (pos 0)

at : {cell : List ℤ} → Each size cell → (k : ℕ) → Is size (value cell k) (word (value cell k))
at e k = rd (e.at k) tt

-- the sums, within 2^62
four : {x u : ℤ} → Is size x u → Is (4 * size) (pos 4 *ℤ x) (word (pos 4 *ℤ u))
four p = st (i-mul (lit 4) p) tt

double : {x y u v : ℤ} → Is size x u → Is size y v → Is (2 * (size + size)) (pos 2 *ℤ (x +ℤ y)) (word (pos 2 *ℤ word (u +ℤ v)))
double p q = st (i-mul (lit 2) (st (i-add p q) tt)) tt

edge : {x y z u v w : ℤ} → Is size x u → Is size y v → Is size z w
    → Is (size + 2 * size + size) (x +ℤ pos 2 *ℤ y +ℤ z) (word (word (u +ℤ word (pos 2 *ℤ v)) +ℤ w))
edge p q r = st (i-add (st (i-add p (st (i-mul (lit 2) q) tt)) tt) r) tt

centre : {cell : List ℤ} → Each size cell
    → Is (size + size + size) (value cell 3 +ℤ value cell 4 +ℤ value cell 5)
    (word (word (word (value cell 3) +ℤ word (value cell 4)) +ℤ word (value cell 5)))
centre e = st (i-add (st (i-add (at e 3) (at e 4)) tt) (at e 5)) tt

beside : {cell : List ℤ} → Each size cell → (k : ℕ)
    → Is (size + (size + size + size)) (value cell k +ℤ (value cell 3 +ℤ value cell 4 +ℤ value cell 5))
    (word (word (value cell k) +ℤ word (word (word (value cell 3) +ℤ word (value cell 4)) +ℤ word (value cell 5))))
beside e k = st (i-add (at e k) (centre e)) tt

pub overflow_add-e01-2 : goal.overflow_add-e01-2
overflow_add-e01-2 c = fits (i-add (st (i-add (at c.requires.1 0) (st (i-mul (lit 2) (at c.requires.1 3)) tt)) tt) (at c.requires.1 1)) tt

pub overflow_add-e12-2 : goal.overflow_add-e12-2
overflow_add-e12-2 c = fits (i-add (st (i-add (at c.requires.1 1) (st (i-mul (lit 2) (at c.requires.1 4)) tt)) tt) (at c.requires.1 2)) tt

pub overflow_add-e02-2 : goal.overflow_add-e02-2
overflow_add-e02-2 c = fits (i-add (st (i-add (at c.requires.1 0) (st (i-mul (lit 2) (at c.requires.1 5)) tt)) tt) (at c.requires.1 2)) tt

pub overflow_add-m-2 : goal.overflow_add-m-2
overflow_add-m-2 c = fits (i-add (st (i-add (at c.requires.1 3) (at c.requires.1 4)) tt) (at c.requires.1 5)) tt

pub overflow_add-result-then-i-eq0 : goal.overflow_add-result-then-i-eq0
overflow_add-result-then-i-eq0 c = fits (i-add (at c.requires.1 0) (centre c.requires.1)) tt

pub returns-then-i-eq0 : goal.returns-then-i-eq0
returns-then-i-eq0 c =
    let cell : List ℤ = c.args.c in
    let e : Each size cell = c.requires.1 in
    rw c.if-i-eq0.true
    (cons (four (at e 0)).same
    (cons (edge (at e 0) (at e 3) (at e 1)).same
    (cons (edge (at e 0) (at e 5) (at e 2)).same
    (cons (double (at e 0) (at e 3)).same
    (cons (beside e 0).same
    (cons (double (at e 0) (at e 5)).same
    refl))))) ∙ sums-quarter first cell)

pub overflow_add-result-then-i-eq1-3 : goal.overflow_add-result-then-i-eq1-3
overflow_add-result-then-i-eq1-3 c = fits (i-add (at c.requires.1 1) (centre c.requires.1)) tt

pub returns-then-i-eq1 : goal.returns-then-i-eq1
returns-then-i-eq1 c =
    let cell : List ℤ = c.args.c in
    let e : Each size cell = c.requires.1 in
    rw c.if-i-eq1.true
    (cons (edge (at e 0) (at e 3) (at e 1)).same
    (cons (four (at e 1)).same
    (cons (edge (at e 1) (at e 4) (at e 2)).same
    (cons (double (at e 3) (at e 1)).same
    (cons (double (at e 1) (at e 4)).same
    (cons (beside e 1).same
    refl))))) ∙ sums-quarter second cell)

pub overflow_add-result-then-i-eq2 : goal.overflow_add-result-then-i-eq2
overflow_add-result-then-i-eq2 c = fits (i-add (at c.requires.1 2) (centre c.requires.1)) tt

pub returns-then-i-eq2 : goal.returns-then-i-eq2
returns-then-i-eq2 c =
    let cell : List ℤ = c.args.c in
    let e : Each size cell = c.requires.1 in
    rw c.if-i-eq2.true
    (cons (edge (at e 0) (at e 5) (at e 2)).same
    (cons (edge (at e 1) (at e 4) (at e 2)).same
    (cons (four (at e 2)).same
    (cons (beside e 2).same
    (cons (double (at e 4) (at e 2)).same
    (cons (double (at e 5) (at e 2)).same
    refl))))) ∙ sums-quarter third cell)

pub overflow_add-result-2 : goal.overflow_add-result-2
overflow_add-result-2 c = fits (i-add (at c.requires.1 2) (centre c.requires.1)) tt

pub overflow_add-result-3 : goal.overflow_add-result-3
overflow_add-result-3 c = fits (i-add (at c.requires.1 0) (centre c.requires.1)) tt

pub overflow_add-result-4 : goal.overflow_add-result-4
overflow_add-result-4 c = fits (i-add (at c.requires.1 1) (centre c.requires.1)) tt

pub returns : goal.returns
returns c =
    let cell : List ℤ = c.args.c in
    let e : Each size cell = c.requires.1 in
    rw (last-quarter _ c.if-i-eq0.false c.if-i-eq1.false c.if-i-eq2.false)
    (cons (edge (at e 1) (at e 4) (at e 2)).same
    (cons (edge (at e 0) (at e 5) (at e 2)).same
    (cons (edge (at e 0) (at e 3) (at e 1)).same
    (cons (beside e 2).same
    (cons (beside e 0).same
    (cons (beside e 1).same
    refl))))) ∙ sums-quarter fourth cell)
