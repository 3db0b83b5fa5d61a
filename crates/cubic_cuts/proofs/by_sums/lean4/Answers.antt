-- `by_sums::lean4` meets its contract: the sums of neighbours, and their sums by `lean3`. Assumes nothing.
use mathlib.Core.Path.{◌≡◌, refl, ap}
use mathlib.Core.List.{List, [], ◌∷◌, map}
use Prim.Native.Nat.{◌^◌}
use lib.IntN.{ℤ, ◌+ℤ◌}
use Rattle.algebra.specs.Expr.{◌⊕◌, evals}
use Rattle.cubic_cuts.specs.Lines.{beside, lean}
use Rattle.cubic_cuts.proofs.Sums.{word, from, two-fit, sums-words, sums-asked, sums-leaned}
use Rattle.cubic_cuts.proofs.by_sums.lean4.Goals as goal

pub overflow_add-a : goal.overflow_add-a
overflow_add-a c = two-fit c.requires tt 0 1

pub overflow_add-b : goal.overflow_add-b
overflow_add-b c = two-fit c.requires tt 1 2

pub overflow_add-c : goal.overflow_add-c
overflow_add-c c = two-fit c.requires tt 2 3

pub lean3-r-requires : goal.lean3-r-requires
lean3-r-requires c =
    let line : List ℤ = c.args.a ∷ c.args.b ∷ c.args.c ∷ c.args.d ∷ [] in
    let sums : beside ◌+ℤ◌ (map word line) ≡ evals line (beside ◌⊕◌ (from 0 4)) = ap (beside ◌+ℤ◌) (sums-words c.requires (2 ^ 59) (from 0 4) tt refl) in
    sums-asked c.requires (2 ^ 60) (beside ◌⊕◌ (from 0 4)) tt sums

pub returns : goal.returns
returns c =
    let line : List ℤ = c.args.a ∷ c.args.b ∷ c.args.c ∷ c.args.d ∷ [] in
    let sums : beside ◌+ℤ◌ (map word line) ≡ evals line (beside ◌⊕◌ (from 0 4)) = ap (beside ◌+ℤ◌) (sums-words c.requires (2 ^ 59) (from 0 4) tt refl) in
    sums-words c.requires (2 ^ 62) (lean ◌⊕◌ 4 (from 0 4)) tt
    (ap (λ (l : List ℤ). c.args.a ∷ l) (sums-leaned c.requires (2 ^ 60) (beside ◌⊕◌ (from 0 4)) tt 3 sums c.lean3-r.ensures))
