-- Cuttings, levels and the greedy cutting, for any kind of cell with a test and four quarters.
--   four-at          : a test of all four holds of each
--   leaves-positive, depth-full, leaves-full : of cuttings; level d has 4^d cells
--   greedy-ind       : induction along the greedy cutting
--   greedy-fits      : the greedy cutting fits and is within the limit
--   greedy-exists    : it is found whenever some cutting within the limit fits
--   greedy-least     : no cutting that fits, of any depth, has fewer cells or is less deep
--   level-cells, cells-level : a level passes exactly when each of its cells does
--   level-fails      : where it does not, some cell of it does not
--   level-full       : where it passes, the cutting into all its cells fits
--   level-opens, opens-level : no open cell on a level exactly when it passes
-- If the quarters of a cell that passes pass:
--   level-up         : if a level passes, each deeper one does
--   fits-level       : a cutting that fits makes the level of its depth pass
--   greedy-level     : the depth of the greedy cutting is the least level that passes
-- If a cell that passes is positive at all its points, and each of its points is a point of a quarter:
--   fits-positive, level-positive : a cutting that fits, and a level that passes, make the cell positive at all its points
-- Assumes nothing.
use mathlib.Core.Path.{◌≡◌, refl, sym, ◌∙◌, ap, ap₂, subst}
use mathlib.Core.Bool.{Bool, true, false, ◌&&◌}
use mathlib.Core.List.{List, [], ◌∷◌}
use mathlib.Core.Option.{Option, none, some}
use Prim.Native.Nat.{ℕ, zero, suc, ◌+◌, ◌*◌, ◌^◌, max, ◌≤◌, ◌<◌, zero-le}
use native.Mathlib.Nat as N
use native.Mathlib.Omega.{arith}
use lib.Dec.{T}
use lib.ListN.{length}
use Rattle.algebra.proofs.Truth.{T_and, and_T, T_true, T_false}
use Rattle.forms.specs.Cuttings.{Four, first, second, third, fourth, in_four, Cutting, keep, cut, leaves, depth, full, join, descend, Fits, level, opens, greedy}

pub leaves-positive : (t : Cutting) → 1 ≤ leaves t
unfolding leaves
leaves-positive keep = N.le_refl 1
leaves-positive (cut a b c d) = omega (arith, leaves-positive a)

pub depth-full : (d : ℕ) → depth (full d) ≡ d
unfolding depth
depth-full zero = refl
depth-full (suc d) = rw (depth-full d) (omega arith)

pub leaves-full : (d : ℕ) → leaves (full d) ≡ 4 ^ d
unfolding leaves
leaves-full zero = refl
leaves-full (suc d) = rw (leaves-full d) (omega arith)

-- what four make one of
abbrev All : (Four → Type 0) → Type 0
All P = P first × P second × P third × P fourth

pub all-at : (P : Four → Type 0) → All P → (i : Four) → P i
all-at P (a, b, c, d) first = a
all-at P (a, b, c, d) second = b
all-at P (a, b, c, d) third = c
all-at P (a, b, c, d) fourth = d

make-all : (P : Four → Type 0) → ((i : Four) → P i) → All P
make-all P f = (f first, f second, f third, f fourth)

-- a test of all four holds of each
pub four-at : (f : Four → Bool) → T (in_four f) → (i : Four) → T (f i)
four-at f t =
    let (a, r) = T_and (f first) (f second && (f third && f fourth)) t in
    let (b, s) = T_and (f second) (f third && f fourth) r in
    let (c, d) = T_and (f third) (f fourth) s in
    all-at (λ i. T (f i)) (a, b, c, d)

-- and where it fails, it fails of one
four-fails : (f : Four → Bool) → ¬ T (in_four f) → (i : Four) × ¬ T (f i)
four-fails f n = go (f first) refl (f second) refl (f third) refl (f fourth) refl
  where
    go : (a : Bool) → f first ≡ a → (b : Bool) → f second ≡ b → (c : Bool) → f third ≡ c → (d : Bool) → f fourth ≡ d → (i : Four) × ¬ T (f i)
    go false p b q c r d s = (first, T_false (f first) p)
    go true p false q c r d s = (second, T_false (f second) q)
    go true p true q false r d s = (third, T_false (f third) r)
    go true p true q true r false s = (fourth, T_false (f fourth) s)
    go true p true q true r true s = absurd (n (rw (p, q, r, s) tt))

-- the four of a cutting that is cut
abbrev pub branch : Cutting → Four → Cutting
branch keep i = keep
branch (cut a b c d) first = a
branch (cut a b c d) second = b
branch (cut a b c d) third = c
branch (cut a b c d) fourth = d

pub join-some : (f : Four → Option Cutting) (g : Cutting) → join (f first) (f second) (f third) (f fourth) ≡ some g
    → (h : Four → Cutting) × ((i : Four) → f i ≡ some (h i)) × (g ≡ cut (h first) (h second) (h third) (h fourth))
join-some f g e = go (f first) refl (f second) refl (f third) refl (f fourth) refl e
  where
    go : (a : Option Cutting) → f first ≡ a
        → (b : Option Cutting)
        → f second ≡ b
        → (c : Option Cutting)
        → f third ≡ c
        → (d : Option Cutting)
        → f fourth ≡ d
        → join a b c d ≡ some g → (h : Four → Cutting) × ((i : Four) → f i ≡ some (h i)) × (g ≡ cut (h first) (h second) (h third) (h fourth))
    go (some a) p (some b) q (some c) r (some d) s e = (branch (cut a b c d), all-at (λ i. f i ≡ some (branch (cut a b c d) i)) (p, q, r, s), (cc))
    go (some a) p (some b) q (some c) r none s e = absurd (let z : ◌≡◌ {A = ℕ} 0 1 = cc in omega arith)
    go (some a) p (some b) q none r d s e = absurd (let z : ◌≡◌ {A = ℕ} 0 1 = cc in omega arith)
    go (some a) p none q c r d s e = absurd (let z : ◌≡◌ {A = ℕ} 0 1 = cc in omega arith)
    go none p b q c r d s e = absurd (let z : ◌≡◌ {A = ℕ} 0 1 = cc in omega arith)

module _ {Cell : Type 0} (pass : Cell → Bool) (q : Four → Cell → Cell) where
  -- ---- the greedy cutting, by what the cell's test says
  pub greedy-keep : (L : ℕ) (v : Cell) → pass v ≡ true → greedy pass q L v ≡ some keep
  unfolding greedy
  greedy-keep zero v e = rw (e, greedy)
  greedy-keep (suc L) v e = rw (e, greedy)

  pub greedy-none : (v : Cell) → pass v ≡ false → greedy pass q zero v ≡ none
  unfolding greedy
  greedy-none v e = rw (e, greedy)

  pub greedy-cut : (L : ℕ) (v : Cell) → pass v ≡ false
      → greedy pass q (suc L) v ≡ join (greedy pass q L (q first v)) (greedy pass q L (q second v)) (greedy pass q L (q third v)) (greedy pass q L (q fourth v))
  unfolding greedy
  greedy-cut L v e = rw (e, greedy)

  -- what holds of a cell that is kept, and of one that is cut if it holds of the quarters, holds of the greedy cutting
  pub greedy-ind : (P : ℕ → Cell → Cutting → Type 0)
      → ((L : ℕ) (v : Cell) → T (pass v) → P L v keep)
      → ((L : ℕ) (v : Cell) (h : Four → Cutting) → pass v ≡ false → ((i : Four) → P L (q i v) (h i)) → P (suc L) v (cut (h first) (h second) (h third) (h fourth)))
      → (L : ℕ) (v : Cell) (g : Cutting) → greedy pass q L v ≡ some g → P L v g
  greedy-ind P kept cutt zero v g e = go (pass v) refl
    where
      go : (b : Bool) → pass v ≡ b → P zero v g
      go true p = let s : keep ≡ g = cc (greedy-keep zero v p) in rw (← s) (kept zero v (rw p tt))
      go false p = absurd (let z : ◌≡◌ {A = ℕ} 0 1 = cc (greedy-none v p) in omega arith)
  greedy-ind P kept cutt (suc L) v g e = go (pass v) refl (λ i h s. greedy-ind P kept cutt L (q i v) h s)
    where
      go : (b : Bool) → pass v ≡ b → ((i : Four) (h : Cutting) → greedy pass q L (q i v) ≡ some h → P L (q i v) h) → P (suc L) v g
      go true p ih = let s : keep ≡ g = cc (greedy-keep (suc L) v p) in rw (← s) (kept (suc L) v (rw p tt))
      go false p ih =
          let (h, each, s) = join-some (λ i. greedy pass q L (q i v)) g (sym (greedy-cut L v p) ∙ e) in
          rw s (cutt L v h p (λ i. ih i (h i) (each i)))

  pub greedy-fits : (L : ℕ) (v : Cell) (g : Cutting) → greedy pass q L v ≡ some g → Fits pass q v g × (depth g ≤ L)
  unfolding depth
  greedy-fits =
      greedy-ind (λ L v g. Fits pass q v g × (depth g ≤ L))
      (λ L v p. (p, zero-le))
      (λ L v h p f. (((f first).0, (f second).0, (f third).0, (f fourth).0), omega (arith, (f first).1, (f second).1, (f third).1, (f fourth).1)))

  pub greedy-least : (L : ℕ) (v : Cell) (g : Cutting) → greedy pass q L v ≡ some g
      → (t : Cutting) → Fits pass q v t → (leaves g ≤ leaves t) × (depth g ≤ depth t)
  unfolding leaves depth
  greedy-least =
      greedy-ind (λ L v g. (t : Cutting) → Fits pass q v t → (leaves g ≤ leaves t) × (depth g ≤ depth t))
      (λ L v p t f. (leaves-positive t, zero-le))
      (λ L v h p f. more v h p f)
    where
      more : (v : Cell) (h : Four → Cutting) → pass v ≡ false
          → ((i : Four) (t : Cutting) → Fits pass q (q i v) t → (leaves (h i) ≤ leaves t) × (depth (h i) ≤ depth t))
          → (t : Cutting) → Fits pass q v t
          → (leaves (cut (h first) (h second) (h third) (h fourth)) ≤ leaves t) × (depth (cut (h first) (h second) (h third) (h fourth)) ≤ depth t)
      more v h p f keep k = absurd (rw p at k)
      more v h p f (cut a b c d) k =
          let x = f first a k.0 in let y = f second b k.1 in let z = f third c k.2 in let w = f fourth d k.3 in
          (omega arith, omega arith)

  pub greedy-exists : (t : Cutting) (L : ℕ) (v : Cell) → Fits pass q v t
      → depth t ≤ L
      → (g : Cutting) × (greedy pass q L v ≡ some g)
  unfolding depth
  greedy-exists keep L v f h = (keep, greedy-keep L v (T_true (pass v) f))
  greedy-exists (cut a b c d) zero v f h = absurd (N.not-suc-le-zero h)
  greedy-exists (cut a b c d) (suc L) v f h =
      go (pass v) refl (greedy-exists a L (q first v) f.0 (omega arith)) (greedy-exists b L (q second v) f.1 (omega arith))
      (greedy-exists c L (q third v) f.2 (omega arith)) (greedy-exists d L (q fourth v) f.3 (omega arith))
    where
      Found : Four → Type 0
      Found i = (g : Cutting) × (greedy pass q L (q i v) ≡ some g)

      go : (b : Bool) → pass v ≡ b
          → Found first
          → Found second
          → Found third
          → Found fourth
          → (g : Cutting) × (greedy pass q (suc L) v ≡ some g)
      go true p _ _ _ _ = (keep, greedy-keep (suc L) v p)
      go false p (a, k) (b, l) (c, m) (d, n) = (cut a b c d, greedy-cut L v p ∙ rw (k, l, m, n))

  -- ---- levels
  Quarters : ℕ → Cell → Type 0
  Quarters d v = All (λ i. T (level pass q d (q i v)))

  level-four : (d : ℕ) (v : Cell) → T (level pass q (suc d) v) → Quarters d v
  unfolding level Quarters
  level-four d v t = make-all (λ i. T (level pass q d (q i v))) (four-at (λ i. level pass q d (q i v)) t)

  four-level : (d : ℕ) (v : Cell) → Quarters d v → T (level pass q (suc d) v)
  unfolding level Quarters
  four-level d v (a, b, c, e) =
      let l : Four → Bool = λ i. level pass q d (q i v) in
      and_T (l first) (l second && (l third && l fourth)) a (and_T (l second) (l third && l fourth) b (and_T (l third) (l fourth) c e))

  pub level-cells : (d : ℕ) (v : Cell) → T (level pass q d v) → (path : List Four) → length path ≡ d → T (pass (descend q path v))
  unfolding level Quarters
  level-cells zero v t [] e = t
  level-cells zero v t (i ∷ path) e = absurd (N.suc-ne-zero (length path) e)
  level-cells (suc d) v t [] e = absurd (N.suc-ne-zero d (sym e))
  level-cells (suc d) v t (i ∷ path) e =
      level-cells d (q i v) (all-at (λ i. T (level pass q d (q i v))) (level-four d v t) i) path (N.suc_inj e)

  pub cells-level : (d : ℕ) (v : Cell)
      → ((path : List Four) → length path ≡ d → T (pass (descend q path v)))
      → T (level pass q d v)
  unfolding level Quarters
  cells-level zero v f = f [] refl
  cells-level (suc d) v f =
      four-level d v (make-all (λ i. T (level pass q d (q i v))) (λ i. cells-level d (q i v) (λ path e. f (i ∷ path) (ap suc e))))

  pub level-fails : (d : ℕ) (v : Cell) → ¬ T (level pass q d v)
      → (path : List Four) × (length path ≡ d) × ¬ T (pass (descend q path v))
  unfolding level
  level-fails zero v n = ([], refl, n)
  level-fails (suc d) v n =
      let (i, m) = four-fails (λ i. level pass q d (q i v)) n in
      let (path, e, f) = level-fails d (q i v) m in
      (i ∷ path, ap suc e, f)

  pub level-full : (d : ℕ) (v : Cell) → T (level pass q d v) → Fits pass q v (full d)
  unfolding level Quarters
  level-full zero v t = t
  level-full (suc d) v t =
      let (a, b, c, e) = level-four d v t in
      (level-full d (q first v) a, level-full d (q second v) b, level-full d (q third v) c, level-full d (q fourth v) e)

  pub level-opens : (d : ℕ) (v : Cell) → T (level pass q d v) → opens pass q d v ≡ 0
  unfolding level opens Quarters
  level-opens zero v t = rw (T_true (pass v) t, opens)
  level-opens (suc d) v t =
      let (a, b, c, e) = level-four d v t in
      omega (arith, level-opens d (q first v) a, level-opens d (q second v) b, level-opens d (q third v) c, level-opens d (q fourth v) e)

  pub opens-level : (d : ℕ) (v : Cell) → opens pass q d v ≡ 0 → T (level pass q d v)
  unfolding level opens Quarters
  opens-level zero v e = go (pass v) e
    where
      go : (b : Bool) → ◌≡◌ {A = ℕ} (elim b [ true ↦ 0 | false ↦ 1 ]) 0 → T b
      go true e = tt
      go false e = absurd (omega arith)
  opens-level (suc d) v e =
      four-level d v (
        opens-level d (q first v) (omega arith),
        opens-level d (q second v) (omega arith),
        opens-level d (q third v) (omega arith),
        opens-level d (q fourth v) (omega arith),
      )

  -- ---- levels and cuttings, where the quarters of a cell that passes pass
  module _ (inherit : (i : Four) (v : Cell) → T (pass v) → T (pass (q i v))) where
    pub pass-level : (d : ℕ) (v : Cell) → T (pass v) → T (level pass q d v)
    unfolding level Quarters
    pass-level zero v t = t
    pass-level (suc d) v t =
        four-level d v (make-all (λ i. T (level pass q d (q i v))) (λ i. pass-level d (q i v) (inherit i v t)))

    pub fits-level : (t : Cutting) (d : ℕ) (v : Cell) → Fits pass q v t → depth t ≤ d → T (level pass q d v)
    unfolding depth Quarters
    fits-level keep d v f h = pass-level d v f
    fits-level (cut a b c e) zero v f h = absurd (N.not-suc-le-zero h)
    fits-level (cut a b c e) (suc d) v f h =
        four-level d v (
          fits-level a d (q first v) f.0 (omega arith),
          fits-level b d (q second v) f.1 (omega arith),
          fits-level c d (q third v) f.2 (omega arith),
          fits-level e d (q fourth v) f.3 (omega arith),
        )

    pub level-up : (d e : ℕ) (v : Cell) → T (level pass q d v) → d ≤ e → T (level pass q e v)
    level-up d e v t h = fits-level (full d) e v (level-full d v t) (rw (depth-full d) h)

    pub greedy-level : (L : ℕ) (v : Cell) (g : Cutting) → greedy pass q L v ≡ some g
        → T (level pass q (depth g) v) × ((d : ℕ) → T (level pass q d v) → depth g ≤ d)
    greedy-level L v g e = (
      fits-level g (depth g) v (greedy-fits L v g e).0 (N.le_refl (depth g)),
      λ d t. rw (depth-full d) at (greedy-least L v g e (full d) (level-full d v t)).1,
    )

  -- ---- positive at all points
  module _ {Pt : Type 0} (Pos : Cell → Pt → Type 0) (sound : (v : Cell) → T (pass v) → (x : Pt) → Pos v x)
      (locate : (v : Cell) (x : Pt) → (i : Four) × (y : Pt) × (Pos (q i v) y → Pos v x)) where
    pub fits-positive : (t : Cutting) (v : Cell) → Fits pass q v t → (x : Pt) → Pos v x
    fits-positive keep v f x = sound v f x
    fits-positive (cut a b c d) v f x =
        go (locate v x) (λ y. fits-positive a (q first v) f.0 y) (λ y. fits-positive b (q second v) f.1 y)
        (λ y. fits-positive c (q third v) f.2 y) (λ y. fits-positive d (q fourth v) f.3 y)
      where
        Everywhere : Four → Type 0
        Everywhere i = (y : Pt) → Pos (q i v) y

        go : (i : Four) × (y : Pt) × (Pos (q i v) y → Pos v x) → Everywhere first
            → Everywhere second
            → Everywhere third
            → Everywhere fourth
            → Pos v x
        go (i, y, h) r s t u = h (all-at Everywhere (r, s, t, u) i y)

    pub level-positive : (d : ℕ) (v : Cell) → T (level pass q d v) → (x : Pt) → Pos v x
    level-positive d v t x = fits-positive (full d) v (level-full d v t) x
