-- `by_sums::lean5` meets its contract: the sums of neighbours, and their sums by `lean4`. Assumes nothing.
use mathlib.Core.Path.{◌≡◌, refl, ap}
use mathlib.Core.List.{List, [], ◌∷◌, map}
use Prim.Native.Nat.{◌^◌}
use lib.IntN.{ℤ, ◌+ℤ◌}
use Rattle.algebra.specs.Expr.{◌⊕◌, evals}
use Rattle.cubic_cuts.specs.Lines.{beside, lean}
use Rattle.cubic_cuts.proofs.Sums.{word, from, two-fit, sums-words, sums-asked, sums-leaned}
use Rattle.cubic_cuts.proofs.by_sums.lean5.Goals as goal

pub overflow_add-a : goal.overflow_add-a
overflow_add-a c = two-fit c.requires tt 0 1

pub overflow_add-b : goal.overflow_add-b
overflow_add-b c = two-fit c.requires tt 1 2

pub overflow_add-c : goal.overflow_add-c
overflow_add-c c = two-fit c.requires tt 2 3

pub overflow_add-d : goal.overflow_add-d
overflow_add-d c = two-fit c.requires tt 3 4

pub lean4-r-requires : goal.lean4-r-requires
lean4-r-requires c =
    let line : List ℤ = c.args.a ∷ c.args.b ∷ c.args.c ∷ c.args.d ∷ c.args.e ∷ [] in
    let sums : beside ◌+ℤ◌ (map word line) ≡ evals line (beside ◌⊕◌ (from 0 5)) = ap (beside ◌+ℤ◌) (sums-words c.requires (2 ^ 58) (from 0 5) tt refl) in
    sums-asked c.requires (2 ^ 59) (beside ◌⊕◌ (from 0 5)) tt sums

pub returns : goal.returns
returns c =
    let line : List ℤ = c.args.a ∷ c.args.b ∷ c.args.c ∷ c.args.d ∷ c.args.e ∷ [] in
    let sums : beside ◌+ℤ◌ (map word line) ≡ evals line (beside ◌⊕◌ (from 0 5)) = ap (beside ◌+ℤ◌) (sums-words c.requires (2 ^ 58) (from 0 5) tt refl) in
    sums-words c.requires (2 ^ 62) (lean ◌⊕◌ 5 (from 0 5)) tt
    (ap (λ (l : List ℤ). c.args.a ∷ l) (sums-leaned c.requires (2 ^ 59) (beside ◌⊕◌ (from 0 5)) tt 4 sums c.lean4-r.ensures))
