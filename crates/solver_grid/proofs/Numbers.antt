-- What a float stands for, and which float stands for a whole number.
--   grid-only, over-only : one whole number, and one float
--   over-stands   : that float stands for the whole number
--   back-same     : what is scaled and handed back is the same number
--   back_float    : and the same float, but for minus zero, which comes back as plus zero
--   stands-or     : a float stands for a whole number, or has a fault
--   fault-off, off-fault : it stands for none exactly where it has one of the three faults
-- Assumes nothing.
use Rattle.std.proofs.Common.{◌≡◌, ℕ, suc, ◌*◌, ◌/◌, ◌%◌, Bool, true, false, ◌⊎◌, ℤ, pos, nat_abs, sym, ap, ◌∙◌, subst, inl, inr, ⊎_elim, div-add-mod', arith, lit<}
use native.Mathlib.Nat.{mul-mod_left}
use native.Mathlib.Decide.{ℕ_discrete, dec_le}
use lib.Signed.{mag}
use lib.Ieee.{Float, nan, inf, fin, up, down}
use Rattle.algebra.proofs.Ring.{*ℤ-1}
use Rattle.floats.specs.Values.{F64, signed, SameNumber, zero_of}
use Rattle.floats.proofs.Signs.{signed-times, signed-zero}
use Rattle.floats.proofs.Values as Val
use Rattle.element.specs.Origin.{Held}
use Rattle.solver_grid.specs.Grid.{Is1024th, OnGrid, Stands, Between, Fault, Over, Returned}
use Rattle.solver_grid.proofs.Exact.{th-size}

pub grid-only : (x : Float) (v w : ℤ) → OnGrid x v → OnGrid x w → v ≡ w
grid-only x v w p q = Val.over-only 1024 x v w p.is q.is

pub over-stands : (v : ℤ) (x : Float) → Held v → Over v x → OnGrid x v
over-stands v x h o = record { is = o.is; held = h }

-- zero stands for zero
zero-only : (s : Bool) (v : ℤ) → Is1024th (zero_of s) v → v ≡ pos 0
zero-only s v h = sym (*ℤ-1 v) ∙ sym h ∙ signed-zero s false

pub over-only : (v : ℤ) (x y : Float) → Over v x → Over v y → x ≡ y
over-only v x y p q =
    ⊎_elim (λ e. e) (λ (s, t, e, f). let z = zero-only s v (subst (λ u. Is1024th u v) e p.is) in p.zero_plus z ∙ sym (q.zero_plus z))
    (Val.same-unique x y p.of_f64 q.of_f64 (Val.over-same 1024 x y v (lit< tt) p.is q.is))

-- ---- there and back
pub back-same : (x : Float) (v : ℤ) (y : Float) → OnGrid x v → Over v y → SameNumber x y
back-same x v y p q = Val.over-same 1024 x y v (lit< tt) p.is q.is

pub back_float : (x : Float) (v : ℤ) (y : Float) → F64 x → OnGrid x v → Over v y → Returned x y
back_float x v y f p q = ⊎_elim (λ e. inl e) (λ (s, t, e, g). zeros s e) (Val.same-unique x y f q.of_f64 (back-same x v y p q))
  where
    zeros : (s : Bool) → x ≡ zero_of s → Returned x y
    zeros s e = go s e (q.zero_plus (zero-only s v (subst (λ u. Is1024th u v) e p.is)))
      where
        go : (s : Bool) → x ≡ zero_of s → y ≡ zero_of false → Returned x y
        go true e g = inr (e, g)
        go false e g = inl (e ∙ sym g)

-- ---- 23: "isn't finite, isn't on the grid, or falls outside i32 after scaling"
pub fault-off : (x : Float) → Fault x → ¬ Stands x
fault-off nan (inl f) (v, g) = g.is
fault-off (inf s) (inl f) (v, g) = g.is
fault-off (fin s m e) (inl f) g = f
fault-off x (inr (inl b)) (v, g) = b.none v g.is
fault-off x (inr (inr t)) (v, g) = t.unheld (subst Held (Val.over-only 1024 x v t.number g.is t.is) g.held)

module _ (s : Bool) (m : ℕ) (e : ℤ) where
  abbrev a : ℕ
  a = m * up e * 1024

  whole : a % down e ≡ 0 → Is1024th (fin s m e) (signed s (a / down e))
  whole z =
      let d = div-add-mod' a (down e) in
      let k : a ≡ a / down e * down e = omega arith in
      ap (signed s) k ∙ sym (signed-times s (a / down e) (down e))

  cut : ¬ (a % down e ≡ 0) → Between (fin s m e)
  cut f = record { finite = λ n. n; none = λ v h. f (ap (λ n. n % down e) (th-size s m e v h) ∙ mul-mod_left (nat_abs v) (down e)) }

  finite-or : Stands (fin s m e) ⊎ Fault (fin s m e)
  finite-or = go (ℕ_discrete (a % down e) 0) (dec_le (suc (mag (signed s (a / down e)))) 2147483648)
    where
      go : Dec (a % down e ≡ 0) → Dec (Held (signed s (a / down e))) → Stands (fin s m e) ⊎ Fault (fin s m e)
      go (no f) h = inr (inr (inl (cut f)))
      go (yes z) (yes h) = inl (signed s (a / down e), record { is = whole z; held = h })
      go (yes z) (no f) = inr (inr (inr (record { number = signed s (a / down e); is = whole z; unheld = f })))

pub stands-or : (x : Float) → Stands x ⊎ Fault x
stands-or nan = inr (inl tt)
stands-or (inf s) = inr (inl tt)
stands-or (fin s m e) = finite-or s m e

pub off-fault : (x : Float) → ¬ Stands x → Fault x
off-fault x f = ⊎_elim (λ g. absurd (f g)) (λ g. g) (stands-or x)
