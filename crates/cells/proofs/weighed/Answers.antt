-- `weighed` meets its contract: the loop keeps that it has the sum of the terms before place k. Assumes nothing.
use mathlib.Core.Path.{◌≡◌, refl, ◌∙◌}
use mathlib.Core.List.{List}
use Prim.Native.Nat.{ℕ, suc, ◌*◌}
use native.Mathlib.Numerals.{add-one}
use native.Mathlib.Omega.{arith}
use borrow.Author.Rules.{rules, sfits_of}
use lib.IntN.{ℤ, pos, ◌+ℤ◌, ◌*ℤ◌}
use lib.ListN.{take, get_or}
use mir.Syntax.{w64}
use mir.Val.{to_z, of_z}
use mir.Facts.{to_z-of_z}
use Rattle.algebra.specs.Within.{Is}
use Rattle.algebra.proofs.Within.{fits-at, st-at}
use Rattle.forms.specs.Rows.{Row, total, weigh}
use Rattle.cells.specs.Room.{Room}
use Rattle.cells.proofs.Parts.{term_is, more-is}
use Rattle.cells.proofs.weighed.Goals as goal

pub loop-k-init : goal.loop-k-init
unfolding weigh
loop-k-init c = refl

pub overflow_mul-sum : goal.overflow_mul-sum
overflow_mul-sum c =
    let turn : ℕ = c.loop-k.k in
    let row : Row = c.args.row.now in
    let values : List ℤ = c.args.c.now in
    let value : ℕ → ℤ = λ i. get_or values i (pos 0) in
    let room : Room row values = c.requires in
    let product : ℤ = to_z w64 (of_z w64 c.signed.result) *ℤ to_z w64 (of_z w64 (value turn)) in
    let term : Is (total row * room.size) (pos (get_or row turn 0) *ℤ value turn) product = (let e : to_z w64 (of_z w64 (value turn)) ≡ value turn = search rules in
    term_is room turn (to_z-of_z {w = w64} (sfits_of c.signed.type_inv) ∙ c.signed.ensures) e) in
    fits-at term room.below

pub overflow_add-sum : goal.overflow_add-sum
overflow_add-sum c =
    let turn : ℕ = c.loop-k.k in
    let row : Row = c.args.row.now in
    let values : List ℤ = c.args.c.now in
    let value : ℕ → ℤ = λ i. get_or values i (pos 0) in
    let room : Room row values = c.requires in
    let product : ℤ = to_z w64 (of_z w64 c.signed.result) *ℤ to_z w64 (of_z w64 (value turn)) in
    let term : Is (total row * room.size) (pos (get_or row turn 0) *ℤ value turn) product = (let e : to_z w64 (of_z w64 (value turn)) ≡ value turn = search rules in
    term_is room turn (to_z-of_z {w = w64} (sfits_of c.signed.type_inv) ∙ c.signed.ensures) e) in
    let more : Is (total row * room.size) (weigh (take (suc turn) row) value) (to_z w64 c.loop-k.sum-bits +ℤ to_z w64 (of_z w64 product)) = more-is room turn (omega arith) c.loop-k.invariant (st-at term room.below).same in
    fits-at more room.below

pub loop-k-preserved : goal.loop-k-preserved
loop-k-preserved c =
    let turn : ℕ = c.loop-k.k in
    let row : Row = c.args.row.now in
    let values : List ℤ = c.args.c.now in
    let value : ℕ → ℤ = λ i. get_or values i (pos 0) in
    let room : Room row values = c.requires in
    let product : ℤ = to_z w64 (of_z w64 c.signed.result) *ℤ to_z w64 (of_z w64 (value turn)) in
    let term : Is (total row * room.size) (pos (get_or row turn 0) *ℤ value turn) product = (let e : to_z w64 (of_z w64 (value turn)) ≡ value turn = search rules in
    term_is room turn (to_z-of_z {w = w64} (sfits_of c.signed.type_inv) ∙ c.signed.ensures) e) in
    let more : Is (total row * room.size) (weigh (take (suc turn) row) value) (to_z w64 c.loop-k.sum-bits +ℤ to_z w64 (of_z w64 product)) = more-is room turn (omega arith) c.loop-k.invariant (st-at term room.below).same in
    rw (add-one turn) (st-at more room.below).same
