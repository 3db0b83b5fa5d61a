-- `by_halves::half` meets its contract: its sums are those of the binomial weights, and none leaves 64 bits. Assumes nothing.
use mathlib.Core.Path.{refl}
use mathlib.Core.List.{List}
use Prim.Native.Nat.{ℕ, ◌+◌}
use lib.IntN.{ℤ, pos, ◌+ℤ◌}
use lib.ListN.{get_or}
use mir.Syntax.{w64}
use mir.Val.{to_z, of_z}
use Rattle.algebra.specs.Within.{Is, Each}
use Rattle.algebra.proofs.Within.{rd, st, lit, fits, i-add, i-mul}
use Rattle.algebra.proofs.Fill.{cons}
use Rattle.forms.specs.Quads.{lower, upper}
use Rattle.quad_cuts.proofs.Lines.{line-halved, line-each}
use Rattle.quad_cuts.proofs.by_halves.half.Goals as goal

-- what the machine holds of a number
abbrev word : ℤ → ℤ
word z = to_z w64 (of_z w64 z)

abbrev size : ℕ
size = 576460752303423488

abbrev value : List ℤ → ℕ → ℤ
value l m = get_or l m (pos 0)

abbrev both : List ℤ → ℕ → ℕ → ℤ
both l i j = word (word (value l i) +ℤ word (value l j))

at : {l : List ℤ} → Each size l → (m : ℕ) → Is size (value l m) (word (value l m))
at s m = rd (s.at m) tt

pair : {l : List ℤ} → Each size l → (i j : ℕ) → Is (size + size) (value l i +ℤ value l j) (both l i j)
pair s i j = st (i-add (at s i) (at s j)) tt

three : {l : List ℤ} → Each size l → (i j k : ℕ)
    → Is (size + size + (size + size)) (value l i +ℤ value l j +ℤ (value l j +ℤ value l k)) (word (both l i j +ℤ both l j k))
three s i j k = st (i-add (pair s i j) (pair s j k)) tt

pub overflow_add-xyz : goal.overflow_add-xyz
overflow_add-xyz c =
    let a = c.args in let s = line-each c.requires.small a.i a.j a.k a.l in
    fits (i-add (pair s 0 1) (pair s 1 2)) tt

pub overflow_add-yzw : goal.overflow_add-yzw
overflow_add-yzw c =
    let a = c.args in let s = line-each c.requires.small a.i a.j a.k a.l in
    fits (i-add (pair s 1 2) (pair s 2 3)) tt

pub overflow_add-middle : goal.overflow_add-middle
overflow_add-middle c =
    let a = c.args in let s = line-each c.requires.small a.i a.j a.k a.l in
    fits (i-add (three s 0 1 2) (three s 1 2 3)) tt

pub overflow_mul-result : goal.overflow_mul-result
overflow_mul-result c =
    let a = c.args in let s = line-each c.requires.small a.i a.j a.k a.l in
    fits (i-mul (lit 2) (three s 1 2 3)) tt

pub returns-then-upper : goal.returns-then-upper
returns-then-upper c =
    let a = c.args in let s = line-each c.requires.small a.i a.j a.k a.l in
    rw c.if-upper.true
    (line-halved upper _ _ _ _ _
    (cons (st (i-add (three s 0 1 2) (three s 1 2 3)) tt).same
    (cons (st (i-mul (lit 2) (three s 1 2 3)) tt).same
    (cons (st (i-mul (lit 4) (pair s 2 3)) tt).same (cons (st (i-mul (lit 8) (at s 3)) tt).same refl)))))

pub overflow_mul-result-4 : goal.overflow_mul-result-4
overflow_mul-result-4 c =
    let a = c.args in let s = line-each c.requires.small a.i a.j a.k a.l in
    fits (i-mul (lit 2) (three s 0 1 2)) tt

pub returns : goal.returns
returns c =
    let a = c.args in let s = line-each c.requires.small a.i a.j a.k a.l in
    rw c.if-upper.false
    (line-halved lower _ _ _ _ _
    (cons (st (i-mul (lit 8) (at s 0)) tt).same
    (cons (st (i-mul (lit 4) (pair s 0 1)) tt).same
    (cons (st (i-mul (lit 2) (three s 0 1 2)) tt).same (cons (st (i-add (three s 0 1 2) (three s 1 2 3)) tt).same refl)))))
