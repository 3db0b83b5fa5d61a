-- `next`, `walk_cell` and `walk_open` meet their contracts: case by case they are the walk of the law, and the cuts left fall at each
-- cut. Assumes nothing.
use mathlib.Core.Path.{◌≡◌, refl, sym, ◌∙◌, ap}
use mathlib.Core.Bool.{Bool, false, not, ◌||◌}
use Prim.Native.Nat.{ℕ, ◌+◌, ◌<◌}
use native.Mathlib.Omega.{arith}
use lib.Dec.{eqb, leb, lit<, lit≤}
use Rattle.forms.specs.Cuttings.{first, second, third, fourth}
use Rattle.forms.specs.Triangles.{triangle}
use Rattle.steps.specs.Steps.{merge, lowered}
use Rattle.walks.specs.Room.{Few}
use Rattle.walks.specs.Triangles.{triangle_chart}
use Rattle.walks.proofs.Cases.{passed, next-passed, open_kept, open-cut, cuts-left}
use Rattle.walks.proofs.Room.{few-le, few-sums}
use Rattle.walks.proofs.Triangles.{triangle-charted}
use Rattle.triangle_walk.specs.Walks.{Room, ahead, corners}
use Rattle.triangle_walk.proofs.Places.{cut-room, room-x, room-y, quarter-room}
use Rattle.triangle_walk.proofs.Quarters.{first-corner, quarter_walk, quarter-is, next-is, quarters-are, cell-few, quarter-few, more-few}
use Rattle.triangle_walk.proofs.+next_walk_cell_walk_open.Goals as goal

left_over : (b : Bool) (n : ℕ) → (b || eqb n 0) ≡ false → 0 < n
left_over b n h = let f = cuts-left b n h in omega arith

pub next-returns-then-passes : goal.next-returns-then-passes
next-returns-then-passes g t c =
    let C = g.C.TriangleCell in
    let S = triangle C.degree C.degrees C.place in
    let a = c.args in
    next-passed S triangle_chart a.level (lowered a.stop a.w.best) (corners a.i a.j a.up) (C.values a.c.now) a.left a.w
    (sym c.passes.ensures ∙ c.if-passes.true) c.kept.ensures

pub next-merge-requires-clause-cells : goal.next-merge-requires-clause-cells
next-merge-requires-clause-cells g t c =
    let C = g.C.TriangleCell in
    (few-sums c.requires.0 (cell-few (triangle-charted C.degree C.degrees C.place) _ c.requires.1 c.walk_open.ensures) tt).0

pub next-merge-requires-clause-failing : goal.next-merge-requires-clause-failing
next-merge-requires-clause-failing g t c =
    let C = g.C.TriangleCell in
    (few-sums c.requires.0 (cell-few (triangle-charted C.degree C.degrees C.place) _ c.requires.1 c.walk_open.ensures) tt).1

pub walk_cell-returns : goal.walk_cell-returns
walk_cell-returns g t c =
    let C = g.C.TriangleCell in
    let S = triangle C.degree C.degrees C.place in
    let a = c.args in
    passed S triangle_chart a.level a.stop (corners a.i a.j a.up) (C.values a.c.now) a.left
    (sym c.passes.ensures ∙ c.if-not-passes.false) c.none_found.ensures c.leaf.ensures

pub walk_open-ahead-x-requires : goal.walk_open-ahead-x-requires
walk_open-ahead-x-requires g t c = room-x c.requires.1

pub walk_open-ahead-y-requires : goal.walk_open-ahead-y-requires
walk_open-ahead-y-requires g t c = room-y c.requires.1

pub walk_open-returns-then-corners_positive-stop : goal.walk_open-returns-then-corners_positive-stop
walk_open-returns-then-corners_positive-stop g t c =
    let C = g.C.TriangleCell in
    let S = triangle C.degree C.degrees C.place in
    let a = c.args in
    open_kept S triangle_chart a.level a.stop (corners a.i a.j a.up) (C.values a.c.now) a.left c.requires.0
    c.corners_positive.ensures c.if-corners_positive-stop.true
    (c.first_bad.ensures ∙ rw (c.ahead-x.ensures, c.ahead-y.ensures)
    (first-corner C.degree C.degrees C.place a.level (corners a.i a.j a.up) (C.values a.c.now)))
    c.leaf.ensures

pub walk_open-overflow_mul-ii : goal.walk_open-overflow_mul-ii
walk_open-overflow_mul-ii g t c = omega (arith, (room-x c.requires.1).here)

pub walk_open-overflow_mul-jj : goal.walk_open-overflow_mul-jj
walk_open-overflow_mul-jj g t c = omega (arith, (room-y c.requires.1).here)

pub walk_open-overflow_add-ix : goal.walk_open-overflow_add-ix
walk_open-overflow_add-ix g t c =
    let mx : c.args.i + c.ahead-x.result ≡ c.args.i + ahead c.args.up c.args.i = ap (λ (x : ℕ). c.args.i + x) c.ahead-x.ensures in
    let low = room-x c.requires.1 in omega (arith, mx, low.here, low.there)

pub walk_open-overflow_add-jy : goal.walk_open-overflow_add-jy
walk_open-overflow_add-jy g t c =
    let my : c.args.j + c.ahead-y.result ≡ c.args.j + ahead c.args.up c.args.j = ap (λ (y : ℕ). c.args.j + y) c.ahead-y.ensures in
    let low = room-y c.requires.1 in omega (arith, my, low.here, low.there)

pub walk_open-split-requires : goal.walk_open-split-requires
walk_open-split-requires g t c =
    let L = g.met.C.TriangleCell in
    let more : 0 < c.args.left = left_over (not c.corners_positive.result || leb c.args.stop c.args.level) c.args.left c.if-corners_positive-stop.false in
    (lit< tt, cut-room c.requires.1 _ L.grows L.fits more)

pub walk_open-walk_cell-p-requires : goal.walk_open-walk_cell-p-requires
walk_open-walk_cell-p-requires g t c κs o =
    let C = g.C.TriangleCell in
    let S = triangle C.degree C.degrees C.place in
    let L = g.met.C.TriangleCell in
    let room : Room S c.args.left c.args.level c.args.i c.args.j c.args.up (C.values c.args.c.now) = c.requires.1 in
    let more : 0 < c.args.left = left_over (not c.corners_positive.result || leb c.args.stop c.args.level) c.args.left c.if-corners_positive-stop.false in
    (omega (arith, c.decreases, more), (o, quarter-room room L.lawful first more c.split.ensures refl refl))

pub walk_open-split-requires-2 : goal.walk_open-split-requires-2
walk_open-split-requires-2 g t c =
    let L = g.met.C.TriangleCell in
    let more : 0 < c.args.left = left_over (not c.corners_positive.result || leb c.args.stop c.args.level) c.args.left c.if-corners_positive-stop.false in
    (lit< tt, cut-room c.requires.1 _ L.grows L.fits more)

pub walk_open-next-q-requires : goal.walk_open-next-q-requires
walk_open-next-q-requires g t c κs o =
    let C = g.C.TriangleCell in
    let S = triangle C.degree C.degrees C.place in
    let L = g.met.C.TriangleCell in
    let room : Room S c.args.left c.args.level c.args.i c.args.j c.args.up (C.values c.args.c.now) = c.requires.1 in
    let more : 0 < c.args.left = left_over (not c.corners_positive.result || leb c.args.stop c.args.level) c.args.left c.if-corners_positive-stop.false in
    let mx : c.args.i + c.ahead-x.result ≡ c.args.i + ahead c.args.up c.args.i = ap (λ (x : ℕ). c.args.i + x) c.ahead-x.ensures in
    let one : c.walk_cell-p.result ≡ quarter_walk room first c.args.stop = quarter-is room first c.args.stop c.split.ensures refl refl c.walk_cell-p.ensures in
    let few : Few 1048576 c.walk_cell-p.result = quarter-few room (triangle-charted C.degree C.degrees C.place) first _ one in
    (omega (arith, c.decreases, more), (o, (few-le few (lit≤ tt), quarter-room room L.lawful second more c.split-2.ensures mx refl)))

pub walk_open-split-requires-3 : goal.walk_open-split-requires-3
walk_open-split-requires-3 g t c =
    let L = g.met.C.TriangleCell in
    let more : 0 < c.args.left = left_over (not c.corners_positive.result || leb c.args.stop c.args.level) c.args.left c.if-corners_positive-stop.false in
    (lit< tt, cut-room c.requires.1 _ L.grows L.fits more)

pub walk_open-next-r-requires : goal.walk_open-next-r-requires
walk_open-next-r-requires g t c κs o =
    let C = g.C.TriangleCell in
    let S = triangle C.degree C.degrees C.place in
    let L = g.met.C.TriangleCell in
    let room : Room S c.args.left c.args.level c.args.i c.args.j c.args.up (C.values c.args.c.now) = c.requires.1 in
    let more : 0 < c.args.left = left_over (not c.corners_positive.result || leb c.args.stop c.args.level) c.args.left c.if-corners_positive-stop.false in
    let mx : c.args.i + c.ahead-x.result ≡ c.args.i + ahead c.args.up c.args.i = ap (λ (x : ℕ). c.args.i + x) c.ahead-x.ensures in
    let my : c.args.j + c.ahead-y.result ≡ c.args.j + ahead c.args.up c.args.j = ap (λ (y : ℕ). c.args.j + y) c.ahead-y.ensures in
    let one : c.walk_cell-p.result ≡ quarter_walk room first c.args.stop = quarter-is room first c.args.stop c.split.ensures refl refl c.walk_cell-p.ensures in
    let two : c.next-q.result ≡ merge c.walk_cell-p.result (quarter_walk room second (lowered c.args.stop c.walk_cell-p.result.best)) =
    next-is room second c.args.stop c.walk_cell-p.result c.split-2.ensures mx refl c.next-q.ensures in
    let few : Few 1048576 c.walk_cell-p.result = quarter-few room (triangle-charted C.degree C.degrees C.place) first _ one in
    let few2 : Few 2097152 c.next-q.result = more-few room (triangle-charted C.degree C.degrees C.place) second _ few two in
    (omega (arith, c.decreases, more), (o, (few-le few2 (lit≤ tt), quarter-room room L.lawful third more c.split-3.ensures refl my)))

pub walk_open-split-requires-4 : goal.walk_open-split-requires-4
walk_open-split-requires-4 g t c =
    let L = g.met.C.TriangleCell in
    let more : 0 < c.args.left = left_over (not c.corners_positive.result || leb c.args.stop c.args.level) c.args.left c.if-corners_positive-stop.false in
    (lit< tt, cut-room c.requires.1 _ L.grows L.fits more)

pub walk_open-next-requires : goal.walk_open-next-requires
walk_open-next-requires g t c κs o =
    let C = g.C.TriangleCell in
    let S = triangle C.degree C.degrees C.place in
    let L = g.met.C.TriangleCell in
    let room : Room S c.args.left c.args.level c.args.i c.args.j c.args.up (C.values c.args.c.now) = c.requires.1 in
    let more : 0 < c.args.left = left_over (not c.corners_positive.result || leb c.args.stop c.args.level) c.args.left c.if-corners_positive-stop.false in
    let mx : c.args.i + c.ahead-x.result ≡ c.args.i + ahead c.args.up c.args.i = ap (λ (x : ℕ). c.args.i + x) c.ahead-x.ensures in
    let my : c.args.j + c.ahead-y.result ≡ c.args.j + ahead c.args.up c.args.j = ap (λ (y : ℕ). c.args.j + y) c.ahead-y.ensures in
    let one : c.walk_cell-p.result ≡ quarter_walk room first c.args.stop = quarter-is room first c.args.stop c.split.ensures refl refl c.walk_cell-p.ensures in
    let two : c.next-q.result ≡ merge c.walk_cell-p.result (quarter_walk room second (lowered c.args.stop c.walk_cell-p.result.best)) =
    next-is room second c.args.stop c.walk_cell-p.result c.split-2.ensures mx refl c.next-q.ensures in
    let three : c.next-r.result ≡ merge c.next-q.result (quarter_walk room third (lowered c.args.stop c.next-q.result.best)) =
    next-is room third c.args.stop c.next-q.result c.split-3.ensures refl my c.next-r.ensures in
    let few : Few 1048576 c.walk_cell-p.result = quarter-few room (triangle-charted C.degree C.degrees C.place) first _ one in
    let few2 : Few 2097152 c.next-q.result = more-few room (triangle-charted C.degree C.degrees C.place) second _ few two in
    let few3 : Few 3145728 c.next-r.result = more-few room (triangle-charted C.degree C.degrees C.place) third _ few2 three in
    (omega (arith, c.decreases, more), (o, (few3, quarter-room room L.lawful fourth more c.split-4.ensures mx my)))

pub walk_open-returns : goal.walk_open-returns
walk_open-returns g t c =
    let C = g.C.TriangleCell in
    let S = triangle C.degree C.degrees C.place in
    let room : Room S c.args.left c.args.level c.args.i c.args.j c.args.up (C.values c.args.c.now) = c.requires.1 in
    let mx : c.args.i + c.ahead-x.result ≡ c.args.i + ahead c.args.up c.args.i = ap (λ (x : ℕ). c.args.i + x) c.ahead-x.ensures in
    let my : c.args.j + c.ahead-y.result ≡ c.args.j + ahead c.args.up c.args.j = ap (λ (y : ℕ). c.args.j + y) c.ahead-y.ensures in
    let one : c.walk_cell-p.result ≡ quarter_walk room first c.args.stop = quarter-is room first c.args.stop c.split.ensures refl refl c.walk_cell-p.ensures in
    let two : c.next-q.result ≡ merge c.walk_cell-p.result (quarter_walk room second (lowered c.args.stop c.walk_cell-p.result.best)) =
    next-is room second c.args.stop c.walk_cell-p.result c.split-2.ensures mx refl c.next-q.ensures in
    let three : c.next-r.result ≡ merge c.next-q.result (quarter_walk room third (lowered c.args.stop c.next-q.result.best)) =
    next-is room third c.args.stop c.next-q.result c.split-3.ensures refl my c.next-r.ensures in
    let a = c.args in
    open-cut S triangle_chart a.level a.stop (corners a.i a.j a.up) (C.values a.c.now) a.left c.requires.0
    c.corners_positive.ensures c.if-corners_positive-stop.false
    (quarters-are room a.stop one two three
    (next-is room fourth a.stop c.next-r.result c.split-4.ensures mx my c.next.ensures))
