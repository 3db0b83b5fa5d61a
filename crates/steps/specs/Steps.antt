-- The steps of a walk over cells (01: "recursive walk over cells, remaining levels falling; answers carry least bad point and
-- cell count").
--   leaf l f n     == a cell of level l that is kept, with its first bad corner f; n is 1 if it fails and 0 if it passes
--   merge a b      == two walks as one: the first of their bad points, the deeper level, the counts added
--   Plain f        == f is a bad point, or none: where it is not bad, no other field says anything
--   lowered stop f == the limit of what is walked next: nothing deeper than the level of a known bad point is of interest
-- Definitions only.
use Rattle.std.specs.Prelude.{◌≡◌, false, cond, ◌&&◌, ℕ, ◌+◌, max, ltb}
use Rattle.corners.specs.First.{nothing, better}
use Rattle.corners.specs.declared.First.{First}
use Rattle.steps.specs.declared.Walk.{Walk}

abbrev pub leaf : ℕ → First → ℕ → Walk
leaf l f n = record { best = f; deep = l; cells = 1; failing = n }

abbrev pub merge : Walk → Walk → Walk
merge a b =
    record {
      best = better a.best b.best;
      deep = max a.deep b.deep;
      cells = a.cells + b.cells;
      failing = a.failing + b.failing;
    }

abbrev pub lowered : ℕ → First → ℕ
lowered stop f = cond (f.bad && ltb f.level stop) f.level stop

abbrev pub Plain : First → Type 0
Plain f = f.bad ≡ false → f ≡ nothing
