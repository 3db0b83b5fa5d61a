-- `points::coordinates` meets its contract: the loop keeps that the first k places are filled, and the last is filled behind it.
use mathlib.Core.Path.{◌≡◌, refl, sym, ◌∙◌, ap, subst}
use mathlib.Core.Bool.{cond}
use mathlib.Core.List.{List}
use Prim.Native.Nat.{ℕ, ◌+◌, ◌*◌, ◌<◌}
use native.Mathlib.Omega.{arith}
use borrow.Author.Rules.{sfits_of}
use borrow.Author.Tests.{lt-ltb}
use lib.Dec.{ltb, lit<}
use lib.IntN.{ℤ, pos}
use mir.Syntax.{w64}
use mir.Val.{to_z, of_z}
use mir.Facts.{to_z-of_z}
use Rattle.algebra.specs.Fill.{Filled}
use Rattle.algebra.proofs.Fill.{fill_more, fill_end}
use Rattle.element.specs.Control.{at}
use Rattle.element.specs.Origin.{from_first}
use Rattle.points.specs.Points.{less, place}
use Rattle.points.proofs.First.{less-axis}
use Rattle.points.proofs.coordinates.Goals as goal

-- one of the nine
among : (xs : List ℤ) (g a k : ℕ) → k < 9 → cond (ltb k 9) (at xs (2 * place g k + a)) (pos 0) ≡ at xs (2 * place g k + a)
among xs g a k h = ap (λ b. cond b (at xs (2 * place g k + a)) (pos 0)) (lt-ltb k 9 h)

as-far : {m n : ℕ} {f : ℕ → ℤ} {l : List ℤ} → m ≡ n → Filled 10 m f l → Filled 10 n f l
as-far {f = f} {l = l} e p = subst (λ n. Filled 10 n f l) e p

pub loop-k-preserved : goal.loop-k-preserved
loop-k-preserved c =
    let v = c.args.xs.now in let a = c.args.axis in
    let e = c.less.ensures.value
    ∙ ap (λ m. less v (2 * m + a) (to_z w64 (of_z w64 c.coord-from.result))) c.place-at.ensures
    ∙ ap (less v (2 * place c.args.gap c.loop-k.k + a)) (to_z-of_z {w = w64} (sfits_of c.coord-from.type_inv) ∙ c.coord-from.ensures.value)
    ∙ less-axis v (place c.args.gap c.loop-k.k) a c.requires.1
    ∙ sym (among (from_first v) c.args.gap a c.loop-k.k (omega arith)) in
    fill_more c.loop-k.invariant (omega arith) (to_z-of_z {w = w64} (sfits_of c.less.type_inv) ∙ e)

pub returns : goal.returns
returns c =
    let e : c.loop-k.k ≡ 9 = omega arith in
    fill_end (fill_more (as-far e c.loop-k.invariant) (lit< tt) refl) refl
