-- `batch::narrow::narrowed` meets its contract: the loop keeps that the first k places are filled. Assumes nothing.
use mathlib.Core.Path.{◌≡◌, ◌∙◌, subst}
use mathlib.Core.List.{List}
use native.Mathlib.Omega.{arith}
use lib.IntN.{ℤ, pos}
use lib.ListN.{length, take}
use lib.Seq.{ext_get_or}
use Rattle.algebra.specs.Fill.{list_to}
use Rattle.algebra.proofs.Fill.{length-list_to, get_d-list_to}
use Rattle.element.specs.Control.{at}
use Rattle.batch.proofs.narrow.narrowed.Goals as goal

list-is : (xs : List ℤ) → list_to (length xs) (at xs) ≡ xs
list-is xs =
    ext_get_or (pos 0) (list_to (length xs) (at xs)) xs (length-list_to (length xs) (at xs))
    (λ k h. get_d-list_to (length xs) (at xs) k (rw (length-list_to (length xs) (at xs)) at h))

pub returns : goal.returns
returns c =
    let t = c.all_held in
    let v = c.args.xs.now in
    let n : c.loop-k.k ≡ length v = omega arith in
    record {
      long = c.loop-k.invariant.long;
      same = λ _. subst (λ m. take m c.loop-k.zs ≡ list_to m (at v)) n c.loop-k.invariant.front ∙ list-is v;
      far = λ u. absurd (t.ensures.yes c.if-not-all_held.false u);
    }
