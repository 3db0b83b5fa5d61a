-- The chart of triangles is true, for every degree.
--   triangle-charted : that
-- Assumes nothing.
use mathlib.Core.Path.{◌≡◌, refl, sym, ap}
use mathlib.Core.List.{List, [], ◌∷◌}
use mathlib.Core.Logic.{inl, inr}
use Prim.Native.Nat.{ℕ, zero, suc, ◌+◌, ◌*◌, ◌<◌}
use native.Mathlib.Nat as N
use native.Mathlib.Omega.{arith}
use lib.ListN.{get_or, length}
use Rattle.forms.specs.Rows.{Row}
use Rattle.forms.specs.Forms.{through}
use Rattle.forms.specs.Cuttings.{Four, first, second, third, fourth}
use Rattle.forms.specs.Shapes.{Sized, tip}
use Rattle.forms.specs.Triangles.{cuts, triangle}
use Rattle.walks.specs.Walk.{Spot}
use Rattle.walks.specs.Triangles.{el, along, in_turn, triangle_chart}
use Rattle.walks.proofs.Charts.{Has, Charted}

-- the column, or the row, of the point with these weights
abbrev mixed : List Row → List ℕ → ℕ
mixed ws v = el (get_or ws 0 []) 0 * el v 0 + el (get_or ws 0 []) 1 * el v 1 + el (get_or ws 0 []) 2 * el v 2

pub spot-≡ : {a b c d : ℕ} → a ≡ b → c ≡ d → ◌≡◌ {A = Spot} (record { i = a; j = c }) (record { i = b; j = d })
spot-≡ p q = λ t. record { i = p t; j = q t }

part-mixed : (q : Four) (a b c : ℕ) (v : List ℕ) → mixed ((a ∷ b ∷ c ∷ []) ∷ []) (along q v) ≡ mixed (through ((a ∷ b ∷ c ∷ []) ∷ []) (cuts q)) v
part-mixed first a b c v = omega arith
part-mixed second a b c v = omega arith
part-mixed third a b c v = omega arith
part-mixed fourth a b c v = omega arith

-- one row of three weights
three-row : (P : List Row → Type 0) → ((a b c : ℕ) → P ((a ∷ b ∷ c ∷ []) ∷ [])) → (ys : List Row) → Sized (3 ∷ []) ys → P ys
three-row P f [] e = absurd (N.suc-ne-zero _ (ap length (sym e)))
three-row P f (y ∷ z ∷ ys) e = absurd (N.suc-ne-zero _ (N.suc_inj (ap length e)))
three-row P f (y ∷ []) e = go y (ap (λ (l : List ℕ). get_or l 0 0) e)
  where
    go : (y : Row) → length y ≡ 3 → P (y ∷ [])
    go (a ∷ b ∷ c ∷ []) e = f a b c
    go [] e = absurd (omega arith)
    go (a ∷ []) e = absurd (omega arith)
    go (a ∷ b ∷ []) e = absurd (omega arith)
    go (a ∷ b ∷ c ∷ d ∷ y) e = absurd (omega arith)

module _ (n : ℕ) (degrees : List Row) (place : List ℕ → ℕ) where
  corner-at : (k : ℕ) → k < 3 → (v : List ℕ) → mixed (tip (triangle n degrees place) k) v ≡ el v k
  corner-at zero h v = omega arith
  corner-at (suc zero) h v = omega arith
  corner-at (suc (suc zero)) h v = omega arith
  corner-at (suc (suc (suc k))) h v = absurd (omega arith)

  part_at : (q : Four) (v : List ℕ) (ys : List Row) → Sized (3 ∷ []) ys → mixed ys (along q v) ≡ mixed (through ys (cuts q)) v
  part_at q v = three-row (λ ys. mixed ys (along q v) ≡ mixed (through ys (cuts q)) v) (λ a b c. part-mixed q a b c v)

  has_all : (q : Four) → Has in_turn q
  has_all first = inl (inl (inl refl))
  has_all second = inl (inl (inr refl))
  has_all third = inl (inr refl)
  has_all fourth = inr refl

  pub triangle-charted : Charted (triangle n degrees place) triangle_chart
  triangle-charted =
      record {
        stands = λ p ws. record { i = mixed ws p.xs; j = mixed ws p.ys };
        whole = λ m i j h k. spot-≡ (omega arith) (omega arith);
        part = λ q p ys e. spot-≡ (part_at q p.xs ys e) (part_at q p.ys ys e);
        corner = λ p k h. spot-≡ (corner-at k h p.xs) (corner-at k h p.ys);
        has_all = has_all;
        fair = λ w. record { deep = omega arith; cells = refl; failing = refl };
      }
