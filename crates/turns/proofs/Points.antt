-- Grid points turn as places do, and what is read off the nodes goes with them.
--   grid-turned, grid-from : a place at a grid point goes to the turned grid point, and has come from one that turns to it
--   bad-turned       : the bad points, by a number that is the same at turned places, are the turned set
--   shows-turned     : and what is shown at a point is shown at the turned point
--   moved_then       : sets of points, moved and moved again
-- For all kinds and levels. Assumes nothing.
use mathlib.Core.Path.{◌≡◌, refl, sym, ◌∙◌, ap, subst}
use Prim.Native.Nat.{ℕ, ◌-◌, ◌^◌}
use native.Mathlib.Omega.{arith}
use lib.IntN.{ℤ, pos, ◌*ℤ◌}
use lib.Signed.{◌≤ℤ◌}
use Rattle.element.specs.Kinds.{Kind, six, eight, nine, ten, scale}
use Rattle.element.specs.Places.{InTriangle, InQuad, Place, TriangleAt, QuadAt, AtGrid}
use Rattle.element.specs.Jacobian.{BadBy, ShowsBy}
use Rattle.turns.specs.Numbering.{turned_point, TriangleTurned, QuadTurned, TurnedTo}
use Rattle.turns.specs.Kept.{Moved}
use Rattle.turns.proofs.Jacobian.{turned-to, turned-from, factor-turned}

-- ---- places at grid points
triangle-grid : (d i j : ℕ) (x y : InTriangle) → TriangleAt d i j x → TriangleTurned x y → TriangleAt d j (2 ^ d - i - j) y
triangle-grid d i j x y (a, b, c) (e, f, g) = (f ∙ b, omega arith, omega arith)

quad-grid : (d i j : ℕ) (x y : InQuad) → QuadAt d i j x → QuadTurned x y → QuadAt d j (2 ^ d - i) y
quad-grid d i j x y (a, b, c, e) (f, g, h, k) = (f ∙ c, g ∙ e, omega arith, k ∙ b)

pub grid-turned : (k : Kind) (d i j : ℕ) (x y : Place k) → AtGrid k d i j x
    → TurnedTo k x y
    → AtGrid k d (turned_point k (2 ^ d) (i, j)).0 (turned_point k (2 ^ d) (i, j)).1 y
grid-turned six d i j x y h t = triangle-grid d i j x y h t
grid-turned eight d i j x y h t = quad-grid d i j x y h t
grid-turned nine d i j x y h t = quad-grid d i j x y h t
grid-turned ten d i j x y h t = triangle-grid d i j x y h t

pair-≡ : {a b c d : ℕ} → a ≡ c → b ≡ d → ◌≡◌ {A = ℕ × ℕ} (a, b) (c, d)
pair-≡ e f = cc

triangle-from : (d i' j' : ℕ) (x y : InTriangle) → TriangleAt d i' j' y → TriangleTurned x y
    → (i : ℕ) × (j : ℕ) × TriangleAt d i j x × (◌≡◌ {A = ℕ × ℕ} (j, 2 ^ d - i - j) (i', j'))
triangle-from d i' j' x y (a, b, c) (e, f, g) =
    (2 ^ d - i' - j', i', (omega arith, omega arith, omega arith), pair-≡ refl (omega arith))

quad-came : (d i' j' : ℕ) (x y : InQuad) → QuadAt d i' j' y → QuadTurned x y → QuadAt d (2 ^ d - j') i' x × (2 ^ d - (2 ^ d - j') ≡ j')
quad-came d i' j' x y (a, b, c, e) (f, g, h, k) =
    let u = x.u_below in ((omega arith, sym k ∙ e, sym f ∙ a, sym g ∙ b), omega arith)

quad-from : (d i' j' : ℕ) (x y : InQuad) → QuadAt d i' j' y → QuadTurned x y
    → (i : ℕ) × (j : ℕ) × QuadAt d i j x × (◌≡◌ {A = ℕ × ℕ} (j, 2 ^ d - i) (i', j'))
quad-from d i' j' x y h t = let (a, e) = quad-came d i' j' x y h t in (2 ^ d - j', i', a, pair-≡ refl e)

pub grid-from : (k : Kind) (d i' j' : ℕ) (x y : Place k) → AtGrid k d i' j' y
    → TurnedTo k x y
    → (i : ℕ) × (j : ℕ) × AtGrid k d i j x × (turned_point k (2 ^ d) (i, j) ≡ (i', j'))
grid-from six d i' j' x y h t = triangle-from d i' j' x y h t
grid-from eight d i' j' x y h t = quad-from d i' j' x y h t
grid-from nine d i' j' x y h t = quad-from d i' j' x y h t
grid-from ten d i' j' x y h t = triangle-from d i' j' x y h t

-- ---- bad points, by what is read off the nodes
pub bad-turned : (k : Kind) (f f' : Place k → ℤ) → ((x y : Place k) → TurnedTo k x y → f' y ≡ f x)
    → (d : ℕ)
    → Moved (turned_point k (2 ^ d)) (BadBy k f d) (BadBy k f' d)
bad-turned k f f' e d = record { there = there; only = only }
  where
    there : (i j : ℕ) → BadBy k f d i j → BadBy k f' d (turned_point k (2 ^ d) (i, j)).0 (turned_point k (2 ^ d) (i, j)).1
    there i j b =
        let (y, t) = turned-to k b.place in
        record {
          place = y;
          at_point = grid-turned k d i j b.place y b.at_point t;
          not_positive = subst (λ z. z ≤ℤ pos 0) (sym (e b.place y t)) b.not_positive;
        }

    only : (i' j' : ℕ) → BadBy k f' d i' j' → (i : ℕ) × (j : ℕ) × BadBy k f d i j × (turned_point k (2 ^ d) (i, j) ≡ (i', j'))
    only i' j' b =
        let (x, t) = turned-from k b.place in let (i, j, at, p) = grid-from k d i' j' x b.place b.at_point t in
        (i, j, record { place = x; at_point = at; not_positive = subst (λ z. z ≤ℤ pos 0) (e x b.place t) b.not_positive }, p)

pub shows-turned : (k : Kind) (f f' : Place k → ℤ) → ((x y : Place k) → TurnedTo k x y → f' y ≡ f x)
    → (d i j : ℕ) (z : ℤ)
    → ShowsBy k f d i j z
    → ShowsBy k f' d (turned_point k (2 ^ d) (i, j)).0 (turned_point k (2 ^ d) (i, j)).1 z
shows-turned k f f' e d i j z s =
    let (y, t) = turned-to k s.place in
    record {
      place = y;
      at_point = grid-turned k d i j s.place y s.at_point t;
      shown =
          ap (λ (w : ℕ). pos w *ℤ z) (factor-turned k s.place y t) ∙ s.shown
          ∙ ap (λ (a : ℤ). pos (scale k d) *ℤ a) (sym (e s.place y t));
    }

pub moved_then : {P Q R : ℕ → ℕ → Type 0} (f g : ℕ × ℕ → ℕ × ℕ) → Moved f P Q → Moved g Q R → Moved (λ a. g (f a)) P R
moved_then f g p q =
    record {
      there = λ i j h. q.there (f (i, j)).0 (f (i, j)).1 (p.there i j h);
      only = λ i'' j'' h''.
          let (i', j', h', e') = q.only i'' j'' h'' in let (i, j, h, e) = p.only i' j' h' in
          (i, j, h, ap g e ∙ e');
    }
