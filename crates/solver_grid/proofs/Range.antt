-- The i32s, and the floats from -2^21 up to 2^21: 1024 times the one is the other.
--   held_of, held-left, held-right : an i32 is a number from -2^31 up to 2^31
--   range-held : what such a float is 1024ths of is an i32
--   left-off, right-off : a float to the left, or to the right, stands for none
--   range_size : such a float's size
-- Assumes nothing.
use Rattle.std.proofs.Common.{◌≡◌, ℕ, ◌*◌, ◌<◌, ◌≤◌, Bool, true, false, ℤ, pos, negsuc, ◌*ℤ◌, ◌≤ℤ◌, ◌<ℤ◌, sym, ap, ◌∙◌, subst, mul-one, arith, lit<, le→leb, ltb→lt, lt→ltb, leb→le, ltb-false, ltb-true}
use lib.Signed.{le_z_yes, lt_z, lt_z_yes, lt_z_no, clash_ℤ}
use lib.Ieee.{Float, nan, inf, fin, up, down, lt}
use lib.Ieee.Fits.{down_pos}
use Rattle.algebra.proofs.Ring.{*ℤ-right-comm}
use Rattle.algebra.proofs.Order.{0≤pos, 0<pos, *ℤ-mono, *ℤ-mono-<, *ℤ-cancel-≤, *ℤ-cancel-<}
use Rattle.algebra.proofs.Truth.{true-T, false-not}
use Rattle.floats.specs.Values.{signed}
use Rattle.floats.proofs.Signs.{signed-times}
use Rattle.floats.proofs.Order.{lt_order}
use Rattle.element.specs.Origin.{Held}
use Rattle.solver_grid.specs.Grid.{Is1024th, Stands}

-- ---- the i32s
pub held_of : (v : ℤ) → signed true 2147483648 ≤ℤ v → v <ℤ pos 2147483648 → Held v
held_of (pos n) l r = ltb→lt n 2147483648 r.lt
held_of (negsuc n) l r = let h = leb→le n 2147483647 l.le in omega arith

pub held-left : (v : ℤ) → Held v → signed true 2147483648 ≤ℤ v
held-left (pos n) h = le_z_yes tt
held-left (negsuc n) h = le_z_yes (le→leb n 2147483647 (omega arith))

pub held-right : (v : ℤ) → Held v → v <ℤ pos 2147483648
held-right (pos n) h = lt_z_yes (lt→ltb n 2147483648 h)
held-right (negsuc n) h = lt_z_yes tt

-- ---- the bounds of a float, as those of a fraction
abbrev pub leftmost : Float
leftmost = fin true 1 (pos 21)

abbrev pub rightmost : Float
rightmost = fin false 1 (pos 21)

-- ± a / d is v / 1024: what lies to one side of c is to the same side of 1024 times c
module _ (x v c : ℤ) (d : ℕ) (p : 0 < d) (h : x *ℤ pos 1024 ≡ v *ℤ pos d) where
  scaled-≤ : (c *ℤ pos d) ≤ℤ x → (c *ℤ pos 1024) ≤ℤ v
  scaled-≤ l =
      *ℤ-cancel-≤ (c *ℤ pos 1024) v (pos d) (0<pos p)
      (subst (λ z. z ≤ℤ (v *ℤ pos d)) (*ℤ-right-comm c (pos d) (pos 1024)) (subst (λ z. (c *ℤ pos d *ℤ pos 1024) ≤ℤ z) h (*ℤ-mono (0≤pos 1024) l)))

  scaled-< : x <ℤ (c *ℤ pos d) → v <ℤ (c *ℤ pos 1024)
  scaled-< l =
      *ℤ-cancel-< v (c *ℤ pos 1024) (pos d) (0≤pos d)
      (subst (λ z. (v *ℤ pos d) <ℤ z) (*ℤ-right-comm c (pos d) (pos 1024)) (subst (λ z. z <ℤ (c *ℤ pos d *ℤ pos 1024)) h (*ℤ-mono-< (0<pos (lit< tt)) l)))

module _ (s : Bool) (m : ℕ) (e : ℤ) where
  abbrev x : Float
  x = fin s m e

  -- the tests, of whole numbers
  test : (t : Bool) → lt x (fin t 1 (pos 21)) ≡ lt_z (signed s (m * up e)) (signed t 2097152 *ℤ pos (down e))
  test t =
      lt_order s t m 1 e (pos 21)
      ∙ ap (λ (n : ℕ). lt_z (signed s n) (signed t (2097152 * down e))) (mul-one (m * up e))
      ∙ ap (lt_z (signed s (m * up e))) (sym (signed-times t 2097152 (down e)))

  above : (t : Bool) → lt x (fin t 1 (pos 21)) ≡ false → (signed t 2097152 *ℤ pos (down e)) ≤ℤ signed s (m * up e)
  above t h = lt_z_no (false-not (sym (test t) ∙ h))

  below : (t : Bool) → lt x (fin t 1 (pos 21)) ≡ true → signed s (m * up e) <ℤ (signed t 2097152 *ℤ pos (down e))
  below t h = lt_z_yes (true-T (sym (test t) ∙ h))

  module _ (v : ℤ) (h : Is1024th x v) where
    spread : signed s (m * up e) *ℤ pos 1024 ≡ v *ℤ pos (down e)
    spread = signed-times s (m * up e) 1024 ∙ h

    pub fin-held : lt x leftmost ≡ false → lt x rightmost ≡ true → Held v
    fin-held l r =
        held_of v (scaled-≤ (signed s (m * up e)) v (signed true 2097152) (down e) (down_pos e) spread (above true l))
        (scaled-< (signed s (m * up e)) v (signed false 2097152) (down e) (down_pos e) spread (below false r))

    fin-left : lt x leftmost ≡ true → ¬ Held v
    fin-left l k = clash_ℤ (scaled-< (signed s (m * up e)) v (signed true 2097152) (down e) (down_pos e) spread (below true l)) (held-left v k)

    fin-right : lt x rightmost ≡ false → ¬ Held v
    fin-right r k = clash_ℤ (held-right v k) (scaled-≤ (signed s (m * up e)) v (signed false 2097152) (down e) (down_pos e) spread (above false r))

pub left-off : (x : Float) → lt x leftmost ≡ true → ¬ Stands x
left-off (fin s m e) h (v, g) = fin-left s m e v g.is h g.held
left-off nan h (v, g) = g.is
left-off (inf s) h (v, g) = g.is

pub right-off : (x : Float) → lt x rightmost ≡ false → ¬ Stands x
right-off (fin s m e) h (v, g) = fin-right s m e v g.is h g.held
right-off nan h (v, g) = g.is
right-off (inf s) h (v, g) = g.is

-- ---- sizes
pub range_size : (s : Bool) (m : ℕ) (e : ℤ) → lt (fin s m e) leftmost ≡ false → lt (fin s m e) rightmost ≡ true → m * up e ≤ 2097152 * down e
unfolding lt
range_size false m e l r = let h = ltb-true (m * up e * 1) (2097152 * down e) r in omega arith
range_size true m e l r = let h = ltb-false (2097152 * down e) (m * up e * 1) l in omega arith
