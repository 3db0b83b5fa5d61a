-- The chart of quads is true.
--   quad-charted : that
-- Assumes nothing.
use mathlib.Core.Path.{◌≡◌, refl, sym, ap}
use mathlib.Core.List.{List, [], ◌∷◌}
use mathlib.Core.Logic.{inl, inr}
use Prim.Native.Nat.{ℕ, zero, suc, ◌+◌, ◌*◌, ◌<◌}
use native.Mathlib.Nat as N
use native.Mathlib.Omega.{arith}
use lib.ListN.{get_or, length}
use Rattle.forms.specs.Rows.{Row}
use Rattle.forms.specs.Forms.{through}
use Rattle.forms.specs.Cuttings.{Four, first, second, third, fourth}
use Rattle.forms.specs.Shapes.{Sized, tip}
use Rattle.forms.specs.Quads.{quad}
use Rattle.walks.specs.Walk.{Spot}
use Rattle.walks.specs.Quads.{by_halves, quad_chart}
use Rattle.walks.proofs.Charts.{Has, Charted}
use Rattle.walks.proofs.Triangles.{spot-≡}

abbrev weight : List Row → ℕ → ℕ → ℕ
weight ws s k = get_or (get_or ws s []) k 0

-- where the point with these weights stands, from the lower left corner
abbrev stand : Spot → List Row → Spot
stand p ws =
    record { i = (weight ws 0 0 + weight ws 0 1) * p.i + weight ws 0 1; j = (weight ws 1 0 + weight ws 1 1) * p.j + weight ws 1 1 }

part-stand : (q : Four) (p : Spot) (a b c d : ℕ)
    → stand (quad_chart.sub q p) ((a ∷ b ∷ []) ∷ (c ∷ d ∷ []) ∷ []) ≡ stand p (through ((a ∷ b ∷ []) ∷ (c ∷ d ∷ []) ∷ []) (quad.cuts q))
part-stand first p a b c d = spot-≡ (omega arith) (omega arith)
part-stand second p a b c d = spot-≡ (omega arith) (omega arith)
part-stand third p a b c d = spot-≡ (omega arith) (omega arith)
part-stand fourth p a b c d = spot-≡ (omega arith) (omega arith)

-- two rows of two weights
two-row : (P : Row → Type 0) → ((a b : ℕ) → P (a ∷ b ∷ [])) → (y : Row) → length y ≡ 2 → P y
two-row P f (a ∷ b ∷ []) e = f a b
two-row P f [] e = absurd (omega arith)
two-row P f (a ∷ []) e = absurd (omega arith)
two-row P f (a ∷ b ∷ c ∷ y) e = absurd (omega arith)

two-rows : (P : List Row → Type 0) → ((a b c d : ℕ) → P ((a ∷ b ∷ []) ∷ (c ∷ d ∷ []) ∷ [])) → (ys : List Row) → Sized (2 ∷ 2 ∷ []) ys → P ys
two-rows P f [] e = absurd (N.suc-ne-zero _ (ap length (sym e)))
two-rows P f (y ∷ []) e = absurd (N.suc-ne-zero _ (N.suc_inj (ap length (sym e))))
two-rows P f (x ∷ y ∷ z ∷ ys) e = absurd (N.suc-ne-zero _ (N.suc_inj (N.suc_inj (ap length e))))
two-rows P f (x ∷ y ∷ []) e =
    two-row (λ x. P (x ∷ y ∷ [])) (λ a b. two-row (λ y. P ((a ∷ b ∷ []) ∷ y ∷ [])) (λ c d. f a b c d) y (ap (λ (l : List ℕ). get_or l 1 0) e)) x
    (ap (λ (l : List ℕ). get_or l 0 0) e)

corner-stand : (p : Spot) (k : ℕ) → k < 4 → stand p (tip quad k) ≡ quad_chart.spot p k
corner-stand p zero h = spot-≡ (omega arith) (omega arith)
corner-stand p (suc zero) h = spot-≡ (omega arith) (omega arith)
corner-stand p (suc (suc zero)) h = spot-≡ (omega arith) (omega arith)
corner-stand p (suc (suc (suc zero))) h = spot-≡ (omega arith) (omega arith)
corner-stand p (suc (suc (suc (suc k)))) h = absurd (omega arith)

has_all : (q : Four) → Has by_halves q
has_all first = inl (inl refl)
has_all second = inr (inl refl)
has_all third = inl (inr refl)
has_all fourth = inr (inr refl)

pub quad-charted : Charted quad quad_chart
quad-charted =
    record {
      stands = stand;
      whole = λ n i j h k. spot-≡ (omega arith) (omega arith);
      part = λ q p. two-rows (λ ys. stand (quad_chart.sub q p) ys ≡ stand p (through ys (quad.cuts q))) (λ a b c d. part-stand q p a b c d);
      corner = corner-stand;
      has_all = has_all;
      fair = λ w. record { deep = omega arith; cells = omega arith; failing = omega arith };
    }
