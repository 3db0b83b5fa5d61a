-- What makes a chart true: it says where each point of a cell's own grid stands on the grid of the whole element, and its plan
-- walks each quarter once.
--   Has P q        : the plan P walks the quarter q
--   total P w      : what the plan merges, where no limit is lowered
--   Fair w t       : t counts each of the four once
--   Charted S G    : the record of laws
-- Assumes nothing.
use mathlib.Core.Path.{◌≡◌}
use mathlib.Core.List.{List}
use mathlib.Core.Logic.{◌⊎◌}
use Prim.Native.Nat.{ℕ, ◌+◌, max, ◌≤◌, ◌<◌}
use lib.ListN.{length}
use Rattle.forms.specs.Rows.{Row}
use Rattle.forms.specs.Forms.{through}
use Rattle.forms.specs.Cuttings.{Four, first, second, third, fourth}
use Rattle.forms.specs.Shapes.{Shape, Sized, tip}
use Rattle.steps.specs.Steps.{merge}
use Rattle.steps.specs.declared.Walk.{Walk}
use Rattle.walks.specs.Walk.{Spot, Plan, one, both, Chart}

abbrev pub Has : Plan → Four → Type 0
Has (one q) r = q ≡ r
Has (both P Q) r = Has P r ⊎ Has Q r

abbrev pub total : Plan → (Four → Walk) → Walk
total (one q) w = w q
total (both P Q) w = merge (total P w) (total Q w)

pub record Fair (w : Four → Walk) (t : Walk) : Type 0 where
  pub deep : t.deep ≡ max (max (w first).deep (w second).deep) (max (w third).deep (w fourth).deep)
  pub cells : t.cells ≡ (w first).cells + (w second).cells + (w third).cells + (w fourth).cells
  pub failing : t.failing ≡ (w first).failing + (w second).failing + (w third).failing + (w fourth).failing

pub record Charted (S : Shape) (G : Chart) : Type 0 where
  -- where the point with these weights of a cell's own grid stands
  pub stands : G.Place → List Row → Spot
  pub whole : (n i j : ℕ) → j ≤ n → i ≤ S.last n j → stands G.start (S.rows n i j) ≡ record { i = i; j = j }
  pub part : (q : Four) (p : G.Place) (ys : List Row) → Sized S.sizes ys → stands (G.sub q p) ys ≡ stands p (through ys (S.cuts q))
  pub corner : (p : G.Place) (k : ℕ) → k < length S.corners → stands p (tip S k) ≡ G.spot p k
  pub has_all : (q : Four) → Has G.plan q
  pub fair : (w : Four → Walk) → Fair w (total G.plan w)
