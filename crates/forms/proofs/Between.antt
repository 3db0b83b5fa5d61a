-- Values lie between the least and the greatest entry (003's bounding property).
--   value-mono       : larger entries give a larger value
--   value-const      : of equal entries the value is their multiple by the product of the totals
--   scaled-above, scaled-below : for the stored values of a lawful shape
-- Assumes nothing.
use mathlib.Core.Path.{◌≡◌, refl, sym, ◌∙◌, ap, ap₂, fun_ext, subst}
use mathlib.Core.List.{List, [], ◌∷◌, map}
use Prim.Native.Nat.{ℕ, zero, suc, ◌+◌, ◌*◌, ◌<◌, suc-le-suc}
use native.Mathlib.Nat as N
use lib.Dec.{ltb, ltb→lt}
use lib.IntN.{ℤ, pos, ◌+ℤ◌, ◌*ℤ◌, zero-*ℤ, *ℤ_comm}
use lib.ListN.{get_or, length}
use lib.Signed.{◌≤ℤ◌, ≤ℤ_refl}
use Rattle.algebra.proofs.Ring.{*ℤ-distr, *ℤ-assoc, 1-*ℤ}
use Rattle.algebra.proofs.Order.{0≤pos, +ℤ-mono, *ℤ-mono}
use Rattle.forms.specs.Rows.{Row, total, weigh}
use Rattle.forms.specs.Forms.{Form, slot, value, mass}
use Rattle.forms.specs.Cells.{stored, Inside}
use Rattle.forms.specs.Shapes.{Shape, spread, scaled, Sized, Lawful}
use Rattle.forms.proofs.Forms.{spread-map}
use Rattle.forms.proofs.Cells.{every-at}

weigh-mono : (a : Row) (f g : ℕ → ℤ) → ((i : ℕ) → i < length a → f i ≤ℤ g i) → weigh a f ≤ℤ weigh a g
unfolding weigh
weigh-mono [] f g h = ≤ℤ_refl (pos 0)
weigh-mono (x ∷ a) f g h =
    +ℤ-mono (subst (λ z. z ≤ℤ (pos x *ℤ g 0)) (*ℤ_comm (f 0) (pos x)) (subst (λ z. (f 0 *ℤ pos x) ≤ℤ z) (*ℤ_comm (g 0) (pos x)) (*ℤ-mono (0≤pos x) (h 0 (N.zero-lt-suc (length a))))))
    (weigh-mono a (λ i. f (suc i)) (λ i. g (suc i)) (λ i l. h (suc i) (suc-le-suc l)))

weigh-const : (a : Row) (z : ℤ) → weigh a (λ i. z) ≡ pos (total a) *ℤ z
unfolding weigh
weigh-const [] z = sym (zero-*ℤ z)
weigh-const (x ∷ a) z = ap (λ y. pos x *ℤ z +ℤ y) (weigh-const a z) ∙ sym (*ℤ-distr (pos x) (pos (total a)) z)

pub value-mono : (ws : List Row) (T U : Form) → ((ks : List ℕ) → Inside (map length ws) ks → T ks ≤ℤ U ks) → value ws T ≤ℤ value ws U
unfolding value
value-mono [] T U h = h [] tt
value-mono (w ∷ ws) T U h =
    weigh-mono w (λ i. value ws (slot T i)) (λ i. value ws (slot U i)) (λ i l. value-mono ws (slot T i) (slot U i) (λ ks r. h (i ∷ ks) (l, r)))

pub value-const : (ws : List Row) (z : ℤ) → value ws (λ ks. z) ≡ pos (mass ws) *ℤ z
unfolding value
value-const [] z = sym (1-*ℤ z)
value-const (w ∷ ws) z =
    ap (weigh w) (fun_ext (λ i. value-const ws z)) ∙ weigh-const w (pos (mass ws) *ℤ z) ∙ sym (*ℤ-assoc (pos (total w)) (pos (mass ws)) z)

module _ (S : Shape) (W : Lawful S) (c : List ℤ) (full : length c ≡ length S.entries) (ws : List Row) (e : Sized S.sizes ws) where
  -- every entry that counts is one of the stored values
  stored-in : (ks : List ℕ) → Inside (map length (spread S.counts ws)) ks → S.place ks < length c
  stored-in ks r =
      rw full (ltb→lt (S.place ks) (length S.entries)
      (every-at (spread S.counts S.sizes) (λ js. ltb (S.place js) (length S.entries)) W.kept ks (subst (λ (ss : List ℕ). Inside ss ks) (spread-map length S.counts ws ∙ ap (spread S.counts) e) r)))

  pub scaled-above : (lo : ℤ) → ((k : ℕ) → k < length c → lo ≤ℤ get_or c k (pos 0))
      → (pos (mass (spread S.counts ws)) *ℤ lo) ≤ℤ scaled S c ws
  unfolding scaled
  scaled-above lo h =
      subst (λ z. z ≤ℤ value (spread S.counts ws) (stored S.place c)) (value-const (spread S.counts ws) lo)
      (value-mono (spread S.counts ws) (λ ks. lo) (stored S.place c) (λ ks r. h (S.place ks) (stored-in ks r)))

  pub scaled-below : (hi : ℤ) → ((k : ℕ) → k < length c → get_or c k (pos 0) ≤ℤ hi)
      → scaled S c ws ≤ℤ (pos (mass (spread S.counts ws)) *ℤ hi)
  unfolding scaled
  scaled-below hi h =
      subst (λ z. value (spread S.counts ws) (stored S.place c) ≤ℤ z) (value-const (spread S.counts ws) hi)
      (value-mono (spread S.counts ws) (stored S.place c) (λ ks. hi) (λ ks r. h (S.place ks) (stored-in ks r)))
