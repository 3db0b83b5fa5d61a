-- `next`, `open_u`, `walk_u` and `walk_v` meet their contracts: case by case they are the walk of the law, and the halvings left fall
-- at each halving. Assumes nothing.
use mathlib.Core.Path.{◌≡◌, refl, sym, ◌∙◌, ap}
use mathlib.Core.Bool.{not, ◌||◌}
use Prim.Native.Nat.{ℕ, ◌+◌, ◌*◌, ◌-◌, ◌/◌}
use native.Mathlib.Omega.{arith}
use lib.Dec.{leb, lit≤}
use Rattle.algebra.proofs.Within.{each-≤}
use Rattle.forms.specs.Quads.{lower, upper, quad}
use Rattle.steps.specs.Steps.{lowered}
use Rattle.walks.specs.Walk.{cuts}
use Rattle.walks.specs.Quads.{quad_chart}
use Rattle.walks.proofs.Cases.{passed, next-passed, open_kept, open-cut, cuts-left}
use Rattle.walks.proofs.Room.{few-le, few-sums}
use Rattle.quad_walk.specs.Walks.{Room, Halfway, spot}
use Rattle.quad_walk.proofs.Places.{by-cuts, cut-room, near-i, near-j, halfway, room_as, half-left, cut_left}
use Rattle.quad_walk.proofs.Quarters.{first-corner, half_is, halves_are, quarters-are, cell-few, half-few}
use Rattle.quad_walk.proofs.+next_open_u_walk_u_walk_v.Goals as goal

pub next-returns-then-passes : goal.next-returns-then-passes
next-returns-then-passes t c =
    let a = c.args in
    next-passed quad quad_chart a.level (lowered a.stop a.w.best) (spot a.i a.j) a.c.now (a.halvings / 2) a.w
    (sym c.passes.ensures ∙ c.if-passes.true) c.kept.ensures

pub next-merge-requires-clause-cells : goal.next-merge-requires-clause-cells
next-merge-requires-clause-cells t c = (few-sums c.requires.0 (cell-few _ c.requires.2 c.open_u.ensures) tt).0

pub next-merge-requires-clause-failing : goal.next-merge-requires-clause-failing
next-merge-requires-clause-failing t c = (few-sums c.requires.0 (cell-few _ c.requires.2 c.open_u.ensures) tt).1

pub open_u-first_bad-requires : goal.open_u-first_bad-requires
open_u-first_bad-requires t c = let r = c.requires.2 in (omega (arith, near-i r), omega (arith, near-j r))

pub open_u-returns-then-corners_positive-stop : goal.open_u-returns-then-corners_positive-stop
open_u-returns-then-corners_positive-stop t c =
    let a = c.args in
    open_kept quad quad_chart a.level a.stop (spot a.i a.j) a.c.now (a.halvings / 2) c.requires.0
    c.corners_positive.ensures
    (by-cuts (not c.corners_positive.result || leb c.args.stop c.args.level) c.requires.1 c.if-corners_positive-stop.true)
    (c.first_bad.ensures ∙ first-corner a.level a.i a.j a.c.now) c.leaf.ensures

pub open_u-overflow_mul-x : goal.open_u-overflow_mul-x
open_u-overflow_mul-x t c = omega (arith, near-i c.requires.2)

pub open_u-overflow_mul-y : goal.open_u-overflow_mul-y
open_u-overflow_mul-y t c = omega (arith, near-j c.requires.2)

pub open_u-half_u-low-requires : goal.open_u-half_u-low-requires
open_u-half_u-low-requires t c =
    let some : ¬ (c.args.halvings / 2 ≡ 0) = cuts-left (not c.corners_positive.result || leb c.args.stop c.args.level) (c.args.halvings / 2)
    (by-cuts (not c.corners_positive.result || leb c.args.stop c.args.level) c.requires.1 c.if-corners_positive-stop.false) in
    each-≤ (cut-room c.requires.2 some) (lit≤ tt)

pub open_u-half_u-high-requires : goal.open_u-half_u-high-requires
open_u-half_u-high-requires t c =
    let some : ¬ (c.args.halvings / 2 ≡ 0) = cuts-left (not c.corners_positive.result || leb c.args.stop c.args.level) (c.args.halvings / 2)
    (by-cuts (not c.corners_positive.result || leb c.args.stop c.args.level) c.requires.1 c.if-corners_positive-stop.false) in
    each-≤ (cut-room c.requires.2 some) (lit≤ tt)

pub open_u-walk_v-p-requires : goal.open_u-walk_v-p-requires
open_u-walk_v-p-requires t c =
    let some : ¬ (c.args.halvings / 2 ≡ 0) = cuts-left (not c.corners_positive.result || leb c.args.stop c.args.level) (c.args.halvings / 2)
    (by-cuts (not c.corners_positive.result || leb c.args.stop c.args.level) c.requires.1 c.if-corners_positive-stop.false) in
    let left : (c.args.halvings - 1 ≡ 2 * ((c.args.halvings - 1) / 2) + 1) × ((c.args.halvings - 1) / 2 ≡ c.args.halvings / 2 - 1) =
    half-left c.requires.1 some in
    let low : Halfway ((c.args.halvings - 1) / 2) (c.args.level + 1) (2 * c.args.i) (2 * c.args.j) c.half_u-low.result =
    halfway c.requires.2 lower some left.1 c.half_u-low.ensures (omega arith) refl in
    (omega (arith, c.decreases, some), (left.0, low))

pub open_u-overflow_add-x : goal.open_u-overflow_add-x
open_u-overflow_add-x t c = omega (arith, near-i c.requires.2)

pub open_u-walk_v-q-requires : goal.open_u-walk_v-q-requires
open_u-walk_v-q-requires t c =
    let some : ¬ (c.args.halvings / 2 ≡ 0) = cuts-left (not c.corners_positive.result || leb c.args.stop c.args.level) (c.args.halvings / 2)
    (by-cuts (not c.corners_positive.result || leb c.args.stop c.args.level) c.requires.1 c.if-corners_positive-stop.false) in
    let left : (c.args.halvings - 1 ≡ 2 * ((c.args.halvings - 1) / 2) + 1) × ((c.args.halvings - 1) / 2 ≡ c.args.halvings / 2 - 1) =
    half-left c.requires.1 some in
    let high : Halfway ((c.args.halvings - 1) / 2) (c.args.level + 1) (2 * c.args.i + 1) (2 * c.args.j) c.half_u-high.result =
    halfway c.requires.2 upper some left.1 c.half_u-high.ensures refl refl in
    (omega (arith, c.decreases, some), (left.0, high))

pub open_u-merge-requires-clause-cells : goal.open_u-merge-requires-clause-cells
open_u-merge-requires-clause-cells t c =
    let some : ¬ (c.args.halvings / 2 ≡ 0) = cuts-left (not c.corners_positive.result || leb c.args.stop c.args.level) (c.args.halvings / 2)
    (by-cuts (not c.corners_positive.result || leb c.args.stop c.args.level) c.requires.1 c.if-corners_positive-stop.false) in
    let left : (c.args.halvings - 1 ≡ 2 * ((c.args.halvings - 1) / 2) + 1) × ((c.args.halvings - 1) / 2 ≡ c.args.halvings / 2 - 1) =
    half-left c.requires.1 some in
    let low : Halfway ((c.args.halvings - 1) / 2) (c.args.level + 1) (2 * c.args.i) (2 * c.args.j) c.half_u-low.result =
    halfway c.requires.2 lower some left.1 c.half_u-low.ensures (omega arith) refl in
    let high : Halfway ((c.args.halvings - 1) / 2) (c.args.level + 1) (2 * c.args.i + 1) (2 * c.args.j) c.half_u-high.result =
    halfway c.requires.2 upper some left.1 c.half_u-high.ensures refl refl in
    (few-sums (half-few _ low c.walk_v-p.ensures) (half-few _ high c.walk_v-q.ensures) tt).0

pub open_u-merge-requires-clause-failing : goal.open_u-merge-requires-clause-failing
open_u-merge-requires-clause-failing t c =
    let some : ¬ (c.args.halvings / 2 ≡ 0) = cuts-left (not c.corners_positive.result || leb c.args.stop c.args.level) (c.args.halvings / 2)
    (by-cuts (not c.corners_positive.result || leb c.args.stop c.args.level) c.requires.1 c.if-corners_positive-stop.false) in
    let left : (c.args.halvings - 1 ≡ 2 * ((c.args.halvings - 1) / 2) + 1) × ((c.args.halvings - 1) / 2 ≡ c.args.halvings / 2 - 1) =
    half-left c.requires.1 some in
    let low : Halfway ((c.args.halvings - 1) / 2) (c.args.level + 1) (2 * c.args.i) (2 * c.args.j) c.half_u-low.result =
    halfway c.requires.2 lower some left.1 c.half_u-low.ensures (omega arith) refl in
    let high : Halfway ((c.args.halvings - 1) / 2) (c.args.level + 1) (2 * c.args.i + 1) (2 * c.args.j) c.half_u-high.result =
    halfway c.requires.2 upper some left.1 c.half_u-high.ensures refl refl in
    (few-sums (half-few _ low c.walk_v-p.ensures) (half-few _ high c.walk_v-q.ensures) tt).1

pub open_u-returns : goal.open_u-returns
open_u-returns t c =
    let some : ¬ (c.args.halvings / 2 ≡ 0) = cuts-left (not c.corners_positive.result || leb c.args.stop c.args.level) (c.args.halvings / 2)
    (by-cuts (not c.corners_positive.result || leb c.args.stop c.args.level) c.requires.1 c.if-corners_positive-stop.false) in
    let left : (c.args.halvings - 1 ≡ 2 * ((c.args.halvings - 1) / 2) + 1) × ((c.args.halvings - 1) / 2 ≡ c.args.halvings / 2 - 1) =
    half-left c.requires.1 some in
    let a = c.args in
    open-cut quad quad_chart a.level a.stop (spot a.i a.j) a.c.now (a.halvings / 2) c.requires.0
    c.corners_positive.ensures
    (by-cuts (not c.corners_positive.result || leb c.args.stop c.args.level) c.requires.1 c.if-corners_positive-stop.false)
    (halves_are a.level a.i a.j a.c.now ((a.halvings - 1) / 2) a.stop
    (half_is a.level a.i a.j a.c.now lower _ _ c.half_u-low.ensures (omega arith) refl c.walk_v-p.ensures)
    c.lowered.ensures
    (half_is a.level a.i a.j a.c.now upper _ _ c.half_u-high.ensures refl refl c.walk_v-q.ensures)
    c.merge.ensures
    ∙ ap (λ (m : ℕ). cuts quad quad_chart m a.level a.stop (spot a.i a.j) a.c.now) left.1)

pub walk_u-returns : goal.walk_u-returns
walk_u-returns t c =
    let a = c.args in
    passed quad quad_chart a.level a.stop (spot a.i a.j) a.c.now (a.halvings / 2)
    (sym c.passes.ensures ∙ c.if-not-passes.false) c.none_found.ensures c.leaf.ensures

pub walk_v-walk_u-p-requires : goal.walk_v-walk_u-p-requires
walk_v-walk_u-p-requires t c =
    let low : Room ((c.args.halvings - 1) / 2) c.args.level c.args.i c.args.j c.half_v-low.result =
    room_as (cut_left c.requires.0).1 c.half_v-low.ensures c.requires.1.low in
    (omega (arith, c.decreases, c.requires.0), ((cut_left c.requires.0).0, low))

pub walk_v-overflow_add-j : goal.walk_v-overflow_add-j
walk_v-overflow_add-j t c = let high = c.requires.1.high in omega (arith, near-i high, near-j high)

pub walk_v-next-requires : goal.walk_v-next-requires
walk_v-next-requires t c =
    let low : Room ((c.args.halvings - 1) / 2) c.args.level c.args.i c.args.j c.half_v-low.result =
    room_as (cut_left c.requires.0).1 c.half_v-low.ensures c.requires.1.low in
    let left = cut_left c.requires.0 in (
      omega (arith, c.decreases, c.requires.0),
      (
        few-le (cell-few _ low c.walk_u-p.ensures) (lit≤ tt),
        left.0,
        room_as left.1 c.half_v-high.ensures c.requires.1.high,
      ),
    )

pub walk_v-returns : goal.walk_v-returns
walk_v-returns t c =
    let a = c.args in
    quarters-are (a.halvings / 2) a.level a.stop a.i a.j a.h.now (cut_left c.requires.0).1
    c.half_v-low.ensures c.walk_u-p.ensures c.half_v-high.ensures c.next.ensures
