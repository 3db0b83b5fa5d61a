-- Cells that correspond: each quarter of the one corresponds to a quarter of the other. Their levels, cuttings and open cells are the same.
--   turn_cutting σ t  == the cutting t with the quarters of every cut in another order
--   descend-correspond : the cells along a path correspond
--   level-correspond : if the cells of a level of the one pass, so do those of the other
--   fits-correspond  : a cutting that fits the one, with its quarters in the other order, fits the other
--   leaves-turn, depth-turn : it has as many cells and is as deep
--   opens-correspond : a level of the one has as many open cells as that of the other
-- For every kind of cell with a test and four quarters. Assumes nothing.
use mathlib.Core.Path.{◌≡◌, refl, sym, ◌∙◌, ap, subst}
use mathlib.Core.Bool.{Bool, true, false}
use mathlib.Core.List.{List, [], ◌∷◌, map}
use Prim.Native.Nat.{ℕ, zero, suc}
use lib.Dec.{T}
use lib.ListN.{length, length-map}
use Rattle.forms.specs.Cuttings.{Four, first, second, third, fourth, Cutting, keep, cut, leaves, depth, descend, Fits, opens}
use Rattle.forms.proofs.Cuttings.{all-at, branch}
use Rattle.turns.specs.Turns.{Fair}

abbrev pub turn_cutting : (Four → Four) → Cutting → Cutting
turn_cutting σ keep = keep
turn_cutting σ (cut a b c d) =
    let t : Cutting = cut (turn_cutting σ a) (turn_cutting σ b) (turn_cutting σ c) (turn_cutting σ d) in
    cut (branch t (σ first)) (branch t (σ second)) (branch t (σ third)) (branch t (σ fourth))

-- its quarters before they change places
abbrev inner : (Four → Four) → Cutting → Cutting
inner σ keep = keep
inner σ (cut a b c d) = cut (turn_cutting σ a) (turn_cutting σ b) (turn_cutting σ c) (turn_cutting σ d)

module _ (σ : Four → Four) (fair : Fair σ) where
  pub leaves-turn : (t : Cutting) → leaves (turn_cutting σ t) ≡ leaves t
  unfolding leaves
  leaves-turn keep = refl
  leaves-turn (cut a b c d) =
      fair.sums (λ i. leaves (branch (inner σ (cut a b c d)) i))
      ∙ rw (leaves-turn a, leaves-turn b, leaves-turn c, leaves-turn d)

  pub depth-turn : (t : Cutting) → depth (turn_cutting σ t) ≡ depth t
  unfolding depth
  depth-turn keep = refl
  depth-turn (cut a b c d) =
      ap suc
      (fair.deepest (λ i. depth (branch (inner σ (cut a b c d)) i))
      ∙ rw (depth-turn a, depth-turn b, depth-turn c, depth-turn d))

module _ {Cell : Type 0} (pass : Cell → Bool) (q : Four → Cell → Cell) (R : Cell → Cell → Type 0) (σ : Four → Four)
    (same-pass : (c c' : Cell) → R c c' → pass c ≡ pass c')
    (same-cut : (i : Four) (c c' : Cell) → R c c' → R (q (σ i) c) (q i c')) where
  pub descend-correspond : (path : List Four) (c c' : Cell) → R c c' → R (descend q (map σ path) c) (descend q path c')
  descend-correspond [] c c' r = r
  descend-correspond (i ∷ path) c c' r = descend-correspond path (q (σ i) c) (q i c') (same-cut i c c' r)

  abbrev Cells : ℕ → Cell → Type 0
  Cells d c = (path : List Four) → length path ≡ d → T (pass (descend q path c))

  pub level-correspond : (d : ℕ) (c c' : Cell) → R c c' → Cells d c → Cells d c'
  level-correspond d c c' r f path e =
      subst T (same-pass (descend q (map σ path) c) (descend q path c') (descend-correspond path c c' r))
      (f (map σ path) (length-map path σ ∙ e))

  pub fits-correspond : (t : Cutting) (c c' : Cell) → R c c' → Fits pass q c t → Fits pass q c' (turn_cutting σ t)
  fits-correspond keep c c' r f = subst T (same-pass c c' r) f
  fits-correspond (cut x y z w) c c' r f =
      let t : Cutting = inner σ (cut x y z w) in
      let each : (i : Four) (v : Cell) → R (q i c) v → Fits pass q v (branch t i) =
      all-at (λ i. (v : Cell) → R (q i c) v → Fits pass q v (branch t i)) (
        λ v p. fits-correspond x (q first c) v p f.0,
        λ v p. fits-correspond y (q second c) v p f.1,
        λ v p. fits-correspond z (q third c) v p f.2,
        λ v p. fits-correspond w (q fourth c) v p f.3,
      ) in
      let at : (i : Four) → Fits pass q (q i c') (branch t (σ i)) = λ i. each (σ i) (q i c') (same-cut i c c' r) in
      (at first, at second, at third, at fourth)

  pub opens-correspond : Fair σ → (d : ℕ) (c c' : Cell) → R c c' → opens pass q d c ≡ opens pass q d c'
  unfolding opens
  opens-correspond fair zero c c' r = ap (λ (b : Bool). elim b [ true ↦ 0 | false ↦ 1 ]) (same-pass c c' r)
  opens-correspond fair (suc d) c c' r =
      let below : (i : Four) → opens pass q d (q (σ i) c) ≡ opens pass q d (q i c') =
      λ i. opens-correspond fair d (q (σ i) c) (q i c') (same-cut i c c' r) in
      sym (fair.sums (λ i. opens pass q d (q i c)))
      ∙ rw (below first, below second, below third, below fourth)
