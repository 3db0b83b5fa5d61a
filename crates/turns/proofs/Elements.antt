-- The turns of the kinds: what J is at turned places makes the values turned, and so the verdict the same.
--   turn_of k         == the turn of a kind's shape
--   rows-turned      : the weights of a turned place are the turned weights
--   means-turned     : values that mean the same at turned places are turned
--   values-turned, turns-bad, turns-shows : values, bad points and what is shown there, after any number of turns
--   turns-judge      : the word, the level and the number of cells are then the same
-- For all kinds, and whatever is read off the nodes that does not move with the numbering. Assumes nothing.
use mathlib.Core.Path.{◌≡◌, refl, sym, ◌∙◌, ap, subst}
use mathlib.Core.List.{List}
use Prim.Native.Nat.{ℕ, zero, suc, ◌*◌, ◌-◌, ◌^◌}
use native.Mathlib.Omega.{arith}
use lib.IntN.{ℤ, pos, ◌*ℤ◌, *ℤ_comm}
use Rattle.algebra.proofs.Order.{0<pos, *ℤ-cancel}
use Rattle.forms.specs.Rows.{Row}
use Rattle.forms.specs.Shapes.{scaled, Point}
use Rattle.forms.specs.Triangles.{degrees6, place6, degrees10, place10}
use Rattle.element.specs.Kinds.{Kind, six, eight, nine, ten, scale}
use Rattle.element.specs.Places.{InQuad, Place}
use Rattle.element.specs.Jacobian.{fold, BadBy, ShowsBy}
use Rattle.element.specs.Cells.{shape_of, quad_rows, rows_of, Means}
use Rattle.element.proofs.Places.{two-rows, place_of, fold-above}
use Rattle.element.proofs.Values.{shape-lawful, shape-readable, entries-count}
use Rattle.judge.specs.Verdict.{Answer, Judges}
use Rattle.judge.specs.Elements.{subject_by}
use Rattle.judge.proofs.Faithful.{means-faithful}
use Rattle.turns.specs.Numbering.{turned, turned_by, turned_point, point_by, QuadTurned, TurnedTo}
use Rattle.turns.specs.Kept.{Moved, Unmoved}
use Rattle.turns.specs.Turns.{Turn, turn_by, Full, Keeps, Turned}
use Rattle.turns.proofs.Turns.{keeps-by, undoes-by, turned-still, turned_then}
use Rattle.turns.proofs.Alike.{SameAnswer}
use Rattle.turns.proofs.Subjects.{Sound, Turning, turned-judges}
use Rattle.turns.proofs.Triangles.{turn3, six-keeps, ten-keeps, triangle-round, triangle-filled}
use Rattle.turns.proofs.Quads.{turn4, quad-keeps, quad-round, quad-filled}
use Rattle.turns.proofs.Jacobian.{turned-to}
use Rattle.turns.proofs.Points.{bad-turned, shows-turned, moved_then}

-- ---- the turn of a kind
abbrev pub turn_of : Kind → Turn
turn_of six = turn3 degrees6 place6
turn_of eight = turn4
turn_of nine = turn4
turn_of ten = turn3 degrees10 place10

kind-keeps : (k : Kind) → Keeps (shape_of k) (turn_of k)
kind-keeps six = six-keeps
kind-keeps eight = quad-keeps
kind-keeps nine = quad-keeps
kind-keeps ten = ten-keeps

kind-sound : (k : Kind) → Sound (shape_of k)
kind-sound six = record { lawful = shape-lawful six; read = shape-readable six; filled = triangle-filled 2 degrees6 place6 }
kind-sound eight = record { lawful = shape-lawful eight; read = shape-readable eight; filled = quad-filled }
kind-sound nine = record { lawful = shape-lawful nine; read = shape-readable nine; filled = quad-filled }
kind-sound ten = record { lawful = shape-lawful ten; read = shape-readable ten; filled = triangle-filled 4 degrees10 place10 }

-- a kind has one corner more than this, and as many turns bring all weights back
abbrev others : Kind → ℕ
others six = 2
others eight = 3
others nine = 3
others ten = 2

kind-round : (k : Kind) (ws : List Row) → Point (shape_of k) ws → (turn_by (suc (others k)) (turn_of k)).weights ws ≡ ws
kind-round six = triangle-round 2 degrees6 place6
kind-round eight = quad-round
kind-round nine = quad-round
kind-round ten = triangle-round 4 degrees10 place10

kind-turning : (k : Kind) (m : ℕ) → Turning (shape_of k) (turn_by m (turn_of k)) (turn_by (m * others k) (turn_of k))
kind-turning k m =
    let (back, forth) = undoes-by (shape_of k) (turn_of k) (others k) (kind-round k) m in
    record {
      keeps = keeps-by (shape_of k) m (turn_of k) (kind-keeps k);
      keeps-back = keeps-by (shape_of k) (m * others k) (turn_of k) (kind-keeps k);
      back = back;
      forth = forth;
    }

-- ---- places
quad-rows : (x y : InQuad) → QuadTurned x y → quad_rows y ≡ turn4.weights (quad_rows x)
quad-rows x y (a, b, c, d) =
    let h = x.u_below in let e : y.n - y.q ≡ x.p = omega arith in
    two-rows (rw (a, b)) a e c

pub rows-turned : (k : Kind) (x y : Place k) → TurnedTo k x y → rows_of k y ≡ (turn_of k).weights (rows_of k x)
rows-turned six x y (a, b, c) = rw (a, b, c)
rows-turned eight x y h = quad-rows x y h
rows-turned nine x y h = quad-rows x y h
rows-turned ten x y (a, b, c) = rw (a, b, c)

-- ---- values, from what they mean at places
pub means-turned : (k : Kind) (f f' : Place k → ℤ) (c c' : List ℤ) → Means k f c
    → Means k f' c'
    → Full (shape_of k) c
    → Full (shape_of k) c'
    → ((x y : Place k) → TurnedTo k x y → f' y ≡ f x)
    → Turned (shape_of k) (turn_of k) c c'
means-turned k f f' c c' p p' l l' e = record { from = l; to = l'; value = agree }
  where
    at_place : (x y : Place k) → TurnedTo k x y → scaled (shape_of k) c' (rows_of k y) ≡ scaled (shape_of k) c (rows_of k x)
    at_place x y t =
        let w : ℤ = pos (fold k * fold k) in
        let a : ℤ = scaled (shape_of k) c' (rows_of k y) in let b : ℤ = scaled (shape_of k) c (rows_of k x) in
        *ℤ-cancel a b w (0<pos (fold-above k))
        (*ℤ_comm a w ∙ p' y ∙ ap (λ z. pos (scale k 0) *ℤ z) (e x y t) ∙ sym (p x) ∙ *ℤ_comm w b)

    agree : (ws : List Row) → Point (shape_of k) ws → scaled (shape_of k) c' ((turn_of k).weights ws) ≡ scaled (shape_of k) c ws
    agree ws h =
        let (x, r) = place_of k ws h in let (y, t) = turned-to k x in
        subst (λ (v : List Row). scaled (shape_of k) c' ((turn_of k).weights v) ≡ scaled (shape_of k) c v) r
        (ap (scaled (shape_of k) c') (sym (rows-turned k x y t)) ∙ at_place x y t)

-- ---- any number of turns
module _ (k : Kind) (F : List ℤ → Place k → ℤ) (v : List ℤ → List ℤ) (u : Unmoved k F v) where
  filled : (xs : List ℤ) → Full (shape_of k) (v xs)
  filled xs = u.full xs ∙ entries-count k

  pub values-turned : (m : ℕ) (xs : List ℤ) → Turned (shape_of k) (turn_by m (turn_of k)) (v xs) (v (turned_by m k xs))
  values-turned zero xs = turned-still (shape_of k) (v xs) (filled xs)
  values-turned (suc m) xs =
      let ys : List ℤ = turned_by m k xs in
      turned_then (shape_of k) (turn_of k) (turn_by m (turn_of k)) (keeps-by (shape_of k) m (turn_of k) (kind-keeps k)) (values-turned m xs)
      (means-turned k (F ys) (F (turned k ys)) (v ys) (v (turned k ys)) (u.means ys) (u.means (turned k ys)) (filled ys) (filled (turned k ys)) (u.same ys))

  pub turns-bad : (m : ℕ) (xs : List ℤ) (d : ℕ) → Moved (point_by m k (2 ^ d)) (BadBy k (F xs) d) (BadBy k (F (turned_by m k xs)) d)
  turns-bad zero xs d = record { there = λ i j b. b; only = λ i j b. (i, j, b, refl) }
  turns-bad (suc m) xs d =
      let ys : List ℤ = turned_by m k xs in
      moved_then (point_by m k (2 ^ d)) (turned_point k (2 ^ d)) (turns-bad m xs d) (bad-turned k (F ys) (F (turned k ys)) (u.same ys) d)

  pub turns-shows : (m : ℕ) (xs : List ℤ) (d i j : ℕ) (z : ℤ) → ShowsBy k (F xs) d i j z
      → ShowsBy k (F (turned_by m k xs)) d (point_by m k (2 ^ d) (i, j)).0 (point_by m k (2 ^ d) (i, j)).1 z
  turns-shows zero xs d i j z s = s
  turns-shows (suc m) xs d i j z s =
      let ys : List ℤ = turned_by m k xs in
      shows-turned k (F ys) (F (turned k ys)) (u.same ys) d (point_by m k (2 ^ d) (i, j)).0 (point_by m k (2 ^ d) (i, j)).1 z (turns-shows m xs d i j z s)

  pub turns-judge : (m : ℕ) (xs : List ℤ) (L : ℕ) (a b : Answer) → Judges (subject_by k (F xs) (v xs)) L a
      → Judges (subject_by k (F (turned_by m k xs)) (v (turned_by m k xs))) L b
      → SameAnswer a b
  turns-judge m xs =
      let ys : List ℤ = turned_by m k xs in
      turned-judges (shape_of k) (kind-sound k) (turn_by m (turn_of k)) (turn_by (m * others k) (turn_of k)) (kind-turning k m) (v xs) (v ys) (values-turned m xs)
      (BadBy k (F xs)) (ShowsBy k (F xs)) (BadBy k (F ys)) (ShowsBy k (F ys))
      (means-faithful k (F xs) (v xs) (u.means xs)) (means-faithful k (F ys) (v ys) (u.means ys))
      (λ d i j b. ((point_by m k (2 ^ d) (i, j)).0, (point_by m k (2 ^ d) (i, j)).1, (turns-bad m xs d).there i j b))
      (λ d i j b. let (i', j', b', e) = (turns-bad m xs d).only i j b in (i', j', b'))
