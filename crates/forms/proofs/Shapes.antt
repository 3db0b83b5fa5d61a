-- Lawful shapes: cells, quarters and points.
--   through-sized, through-adds : a quarter's point is a point of the cell, its totals doubled
--   scaled-cut       : the value of a quarter is the value of the cell, at the same point
--   scaled-times     : the value at weights times x
--   scaled-tip       : the value at a corner is the corner value
--   point-touch      : the weights of a point touch some corner
--   tip-of, tip-sized, tip-adds : the points with totals 1 are the corners
--   passes-point     : a cell that passes is positive at all its points
--   inherit          : the quarters of a cell that passes pass
--   located          : each point of a cell is a point of one of its quarters
--   level-point      : a level that passes makes the cell positive at all its points
--   cut_to-size       : a quarter's values grow at most by the growth
-- Each once, for every lawful shape. Assumes nothing.
use mathlib.Core.Path.{◌≡◌, refl, sym, ◌∙◌, ap, ap₂, subst}
use mathlib.Core.Bool.{Bool, true, false, ◌&&◌, ◌||◌}
use mathlib.Core.List.{List, [], ◌∷◌, map}
use mathlib.Core.Logic.{◌⊎◌, inl, inr}
use Prim.Native.Nat.{ℕ, zero, suc, ◌+◌, ◌*◌, ◌≤◌, ◌<◌, suc-le-suc}
use native.Mathlib.Nat as N
use native.Mathlib.Omega.{arith}
use lib.Dec.{T, eqb, ltb, eqb→eq, ltb→lt}
use lib.IntN.{ℤ, pos, ◌*ℤ◌}
use lib.ListN.{get_or, length, get_or-map, length-map}
use lib.Signed.{◌≤ℤ◌, ◌<ℤ◌}
use Rattle.algebra.specs.Within.{Each}
use Rattle.algebra.proofs.Truth.{T_and, T-or}
use Rattle.algebra.proofs.Order.{positive-factor}
use Rattle.forms.specs.Rows.{Row, ◌⊙◌, mix, total, corner}
use Rattle.forms.specs.Forms.{value, through, times, power, Touch, Picks}
use Rattle.forms.specs.Cells.{stored, Inside, up_to, every, same, Tabled, heirs, rows_add}
use Rattle.forms.specs.Cuttings.{Four, level}
use Rattle.forms.specs.Shapes.{Shape, spread, units, tips, pass, cut_to, scaled, tip, corner_value, Sized, Adds, Heavy, Point, sides, inside, all_inside, is_in, doubles, doubling, Lawful}
use Rattle.forms.proofs.Rows.{weigh-corner, total-⊙, total-mix, total-heavy, total-one, total-corner, length-⊙, length-mix, length-corner}
use Rattle.forms.proofs.Forms.{value-times, value-picks, spread-through, spread-times, spread-touch, spread-picks, spread-map, spread-length}
use Rattle.forms.proofs.Cells.{up_to-at, every-at, same-eq, value-quarter, passes-positive, passes-quarter, quarter-size}
use Rattle.forms.proofs.Cuttings.{four-at, level-positive}

-- ---- lists, one thing a direction
abbrev pub double : List ℕ → List ℕ
double hs = map (λ h. 2 * h) hs

module _ {ℓ} {A : Type ℓ} where
  cons-≡ : {a b : A} {k l : List A} → a ≡ b → k ≡ l → ◌≡◌ {A = List A} (a ∷ k) (b ∷ l)
  cons-≡ p q = ap₂ {B = List A} ◌∷◌ p q

  -- equal lists that are not empty have equal heads and equal tails
  head-≡ : {a b : A} {k l : List A} → ◌≡◌ {A = List A} (a ∷ k) (b ∷ l) → a ≡ b
  head-≡ p = cc

  tail-≡ : {a b : A} {k l : List A} → ◌≡◌ {A = List A} (a ∷ k) (b ∷ l) → k ≡ l
  tail-≡ p = cc

-- ---- a quarter's point, seen from the cell
module _ (s : ℕ) (M : ℕ → Row) (t : T (doubles s M)) where
  corner-tests : (k : ℕ) → k < s → T (eqb (length (M k)) s) × T (eqb (total (M k)) 2)
  corner-tests k h =
      T_and (eqb (length (M k)) s) (eqb (total (M k)) 2) (up_to-at s (λ k. eqb (length (M k)) s && eqb (total (M k)) 2) t k h)

  mix-total : (y : Row) → length y ≡ s → total (mix y M) ≡ 2 * total y
  mix-total y e =
      total-mix 2 y M (λ k h. eqb→eq (total (M k)) 2 (corner-tests k (rw e at h)).1) ∙ N.mul_comm (total y) 2

  mix-length : (y : Row) → length y ≡ s → length (mix y M) ≡ s
  mix-length [] e = e
  mix-length (x ∷ y) e =
      length-mix s (x ∷ y) M (N.zero-lt-suc (length y)) (λ k h. eqb→eq (length (M k)) s (corner-tests k (rw e at h)).0)

doubling-length : (ss : List ℕ) (Ms : List (ℕ → Row)) → T (doubling ss Ms) → length Ms ≡ length ss
doubling-length [] [] t = refl
doubling-length [] (M ∷ Ms) t = absurd t
doubling-length (s ∷ ss) [] t = absurd t
doubling-length (s ∷ ss) (M ∷ Ms) t = ap suc (doubling-length ss Ms (T_and (doubles s M) (doubling ss Ms) t).1)

mixed-sized : (ss : List ℕ) (Ms : List (ℕ → Row)) → T (doubling ss Ms) → (ys : List Row) → Sized ss ys → Sized ss (through ys Ms)
mixed-sized ss Ms t [] e = e
mixed-sized ss [] t (y ∷ ys) e = e
mixed-sized [] (M ∷ Ms) t (y ∷ ys) e = absurd t
mixed-sized (s ∷ ss) (M ∷ Ms) t (y ∷ ys) e =
    let (u, v) = T_and (doubles s M) (doubling ss Ms) t in
    cons-≡ (mix-length s M u y (head-≡ e)) (mixed-sized ss Ms v ys (tail-≡ e))

mixed-adds : (ss : List ℕ) (Ms : List (ℕ → Row)) → T (doubling ss Ms)
    → (ys : List Row)
    → Sized ss ys
    → map total (through ys Ms) ≡ double (map total ys)
mixed-adds ss Ms t [] e = refl
mixed-adds [] [] t (y ∷ ys) e = absurd (N.suc-ne-zero _ (ap length e))
mixed-adds [] (M ∷ Ms) t (y ∷ ys) e = absurd t
mixed-adds (s ∷ ss) [] t (y ∷ ys) e = absurd t
mixed-adds (s ∷ ss) (M ∷ Ms) t (y ∷ ys) e =
    let (u, v) = T_and (doubles s M) (doubling ss Ms) t in
    cons-≡ (mix-total s M u y (head-≡ e)) (mixed-adds ss Ms v ys (tail-≡ e))

pub times-sized : (x : ℕ) (ss : List ℕ) (ws : List Row) → Sized ss ws → Sized ss (times x ws)
times-sized x ss [] e = e
times-sized x [] (w ∷ ws) e = absurd (N.suc-ne-zero _ (ap length e))
times-sized x (s ∷ ss) (w ∷ ws) e = cons-≡ (length-⊙ x w ∙ head-≡ e) (times-sized x ss ws (tail-≡ e))

pub times-adds : (x : ℕ) (ws : List Row) → map total (times x ws) ≡ map (λ h. x * h) (map total ws)
times-adds x [] = refl
times-adds x (w ∷ ws) = cons-≡ (total-⊙ x w) (times-adds x ws)

-- ---- points and corners
heavy-touch : (ss : List ℕ) (ws : List Row) → Sized ss ws → Heavy ws → (ks : List ℕ) × Inside ss ks × Touch ws ks
heavy-touch [] [] e h = ([], tt, tt)
heavy-touch [] (w ∷ ws) e h = absurd (N.suc-ne-zero _ (ap length e))
heavy-touch (s ∷ ss) [] e h = absurd (N.suc-ne-zero _ (ap length (sym e)))
heavy-touch (s ∷ ss) (w ∷ ws) e h =
    let (k, l, p) = total-heavy w h.0 in
    let (ks, i, t) = heavy-touch ss ws (tail-≡ e) h.1 in
    (k ∷ ks, (rw (head-≡ e) at l, i), (p, t))

is_in-at : (ks : List ℕ) (l : List (List ℕ)) → T (is_in ks l) → (k : ℕ) × (k < length l) × (get_or l k [] ≡ ks)
is_in-at ks [] t = absurd t
is_in-at ks (js ∷ l) t =
    T-or (same ks js) (is_in ks l) ((k : ℕ) × (k < suc (length l)) × (get_or (js ∷ l) k [] ≡ ks))
    (λ u. (0, N.zero-lt-suc (length l), sym (same-eq ks js u)))
    (λ u. let (k, h, e) = is_in-at ks l u in (suc k, suc-le-suc h, e)) t

inside_is : (ss ks : List ℕ) → T (inside ss ks) → Inside ss ks
inside_is [] [] t = tt
inside_is [] (k ∷ ks) t = absurd t
inside_is (s ∷ ss) [] t = absurd t
inside_is (s ∷ ss) (k ∷ ks) t = let (u, v) = T_and (ltb k s) (inside ss ks) t in (ltb→lt k s u, inside_is ss ks v)

all_inside-at : (ss : List ℕ) (l : List (List ℕ)) → T (all_inside ss l) → (k : ℕ) → k < length l → Inside ss (get_or l k [])
all_inside-at ss [] t k h = absurd (N.not-suc-le-zero h)
all_inside-at ss (ks ∷ l) t zero h = inside_is ss ks (T_and (inside ss ks) (all_inside ss l) t).0
all_inside-at ss (ks ∷ l) t (suc k) h = all_inside-at ss l (T_and (inside ss ks) (all_inside ss l) t).1 k (N.le_of_suc-le-suc h)

-- rows with the total 1 are corners
ones-units : (ss : List ℕ) (ws : List Row) → Sized ss ws
    → Adds (map (λ s. 1) ss) ws
    → (ks : List ℕ) × Inside ss ks × (ws ≡ units ss ks)
ones-units [] [] e a = ([], tt, refl)
ones-units [] (w ∷ ws) e a = absurd (N.suc-ne-zero _ (ap length e))
ones-units (s ∷ ss) [] e a = absurd (N.suc-ne-zero _ (ap length (sym e)))
ones-units (s ∷ ss) (w ∷ ws) e a =
    let (k, l, p) = total-one w (head-≡ a) in
    let (ks, i, r) = ones-units ss ws (tail-≡ e) (tail-≡ a) in
    let q : length w ≡ s = head-≡ e in
    (k ∷ ks, (rw q at l, i), cons-≡ (p ∙ ap (λ (n : ℕ). corner n k) q) r)

units-sized : (ss ks : List ℕ) → Inside ss ks → Sized ss (units ss ks)
units-sized [] [] r = refl
units-sized [] (k ∷ ks) r = absurd r
units-sized (s ∷ ss) [] r = absurd r
units-sized (s ∷ ss) (k ∷ ks) r = cons-≡ (length-corner s k) (units-sized ss ks r.1)

units-adds : (ss ks : List ℕ) → Inside ss ks → Adds (map (λ s. 1) ss) (units ss ks)
units-adds [] [] r = refl
units-adds [] (k ∷ ks) r = absurd r
units-adds (s ∷ ss) [] r = absurd r
units-adds (s ∷ ss) (k ∷ ks) r = cons-≡ (total-corner s k r.0) (units-adds ss ks r.1)

units-picks : (ss ks : List ℕ) → Inside ss ks → Picks (units ss ks) ks
units-picks [] [] r = tt
units-picks [] (k ∷ ks) r = absurd r
units-picks (s ∷ ss) [] r = absurd r
units-picks (s ∷ ss) (k ∷ ks) r = (weigh-corner s k r.0, units-picks ss ks r.1)

pub adds-heavy : (ws : List Row) (ys : List Row) → map total ys ≡ map total ws → Heavy ws → Heavy ys
adds-heavy [] [] e h = tt
adds-heavy [] (y ∷ ys) e h = absurd (N.suc-ne-zero _ (ap length e))
adds-heavy (w ∷ ws) [] e h = absurd (N.suc-ne-zero _ (ap length (sym e)))
adds-heavy (w ∷ ws) (y ∷ ys) e h = (rw (head-≡ e) h.0, adds-heavy ws ys (tail-≡ e) h.1)

pub sides-heavy : (n : ℕ) → 0 < n → (ss : List ℕ) (ws : List Row) → Adds (map (λ s. n) ss) ws → Heavy ws
sides-heavy n p ss [] a = tt
sides-heavy n p [] (w ∷ ws) a = absurd (N.suc-ne-zero _ (ap length a))
sides-heavy n p (s ∷ ss) (w ∷ ws) a = (rw (head-≡ a) p, sides-heavy n p ss ws (tail-≡ a))

module _ (S : Shape) (W : Lawful S) where
  doubled-at : (i : Four) → T (doubling S.sizes (S.cuts i))
  doubled-at i = four-at (λ i. doubling S.sizes (S.cuts i)) W.doubled i

  slots-match : (i : Four) → length (S.cuts i) ≡ length S.sizes
  slots-match i = doubling-length S.sizes (S.cuts i) (doubled-at i)

  pub through-sized : (i : Four) (ys : List Row) → Sized S.sizes ys → Sized S.sizes (through ys (S.cuts i))
  through-sized i ys e = mixed-sized S.sizes (S.cuts i) (doubled-at i) ys e

  pub through-adds : (i : Four) (ys : List Row) → Sized S.sizes ys → map total (through ys (S.cuts i)) ≡ double (map total ys)
  through-adds i ys e = mixed-adds S.sizes (S.cuts i) (doubled-at i) ys e

  -- ---- values
  pub scaled-cut : (i : Four) (c : List ℤ) (ys : List Row) → Sized S.sizes ys
      → scaled S (cut_to S i c) ys ≡ scaled S c (through ys (S.cuts i))
  unfolding scaled
  scaled-cut i c ys e =
      value-quarter (spread S.counts S.sizes) S.place (spread S.counts (S.cuts i)) (S.table i) (four-at (λ i. Tabled (spread S.counts S.sizes) S.place (spread S.counts (S.cuts i)) (S.table i)) W.tabled i)
      (spread-length S.counts (S.cuts i) S.sizes (slots-match i)) (spread S.counts ys)
      (spread-map length S.counts ys ∙ ap (spread S.counts) e) c
      ∙ ap (λ (ws : List Row). value ws (stored S.place c)) (spread-through S.counts ys (S.cuts i))

  pub scaled-times : (x : ℕ) (c : List ℤ) (ws : List Row)
      → scaled S c (times x ws) ≡ pos (power x (spread S.counts ws)) *ℤ scaled S c ws
  unfolding scaled
  scaled-times x c ws =
      ap (λ (v : List Row). value v (stored S.place c)) (sym (spread-times S.counts x ws))
      ∙ value-times x (spread S.counts ws) (stored S.place c)

  corner-inside : (k : ℕ) → k < length S.corners → Inside S.sizes (get_or S.corners k [])
  corner-inside k h = all_inside-at S.sizes S.corners W.corners_inside k h

  pub scaled-tip : (c : List ℤ) (k : ℕ) → k < length S.corners → scaled S c (tip S k) ≡ corner_value S k c
  unfolding scaled
  scaled-tip c k h =
      value-picks (spread S.counts (tip S k)) (spread S.counts (get_or S.corners k [])) (stored S.place c)
      (spread-picks S.counts (tip S k) (get_or S.corners k []) (units-picks S.sizes (get_or S.corners k []) (corner-inside k h)))

  -- ---- corners
  known : (ks : List ℕ) → Inside S.sizes ks → (k : ℕ) × (k < length S.corners) × (get_or S.corners k [] ≡ ks)
  known ks r = is_in-at ks S.corners (every-at S.sizes (λ js. is_in js S.corners) W.cornered ks r)

  pub point-touch : (ws : List Row) → Point S ws → (k : ℕ) × (k < length S.corners) × Touch ws (get_or S.corners k [])
  point-touch ws p =
      let (ks, i, t) = heavy-touch S.sizes ws p.sized p.heavy in
      let (k, h, e) = known ks i in (k, h, rw e t)

  pub tip-of : (ws : List Row) → Sized S.sizes ws → Adds (sides S 1) ws → (k : ℕ) × (k < length S.corners) × (tip S k ≡ ws)
  tip-of ws e a =
      let (ks, i, r) = ones-units S.sizes ws e a in
      let (k, h, s) = known ks i in (k, h, ap (units S.sizes) s ∙ sym r)

  pub tip-sized : (k : ℕ) → k < length S.corners → Sized S.sizes (tip S k)
  tip-sized k h = units-sized S.sizes (get_or S.corners k []) (corner-inside k h)

  pub tip-adds : (k : ℕ) → k < length S.corners → Adds (sides S 1) (tip S k)
  tip-adds k h = units-adds S.sizes (get_or S.corners k []) (corner-inside k h)

  pub tips-at : (k : ℕ) → k < length S.corners → get_or (tips S) k 0 ≡ S.place (spread S.counts (get_or S.corners k []))
  tips-at k h = get_d-mapped S.corners k h
    where
      get_d-mapped : (l : List (List ℕ)) (k : ℕ) → k < length l
          → get_or (map (λ ks. S.place (spread S.counts ks)) l) k 0 ≡ S.place (spread S.counts (get_or l k []))
      get_d-mapped [] k h = absurd (N.not-suc-le-zero h)
      get_d-mapped (ks ∷ l) zero h = refl
      get_d-mapped (ks ∷ l) (suc k) h = get_d-mapped l k (N.le_of_suc-le-suc h)

  -- ---- the sign test
  pub passes-point : (c : List ℤ) → T (pass S c) → (ws : List Row) → Point S ws → pos 0 <ℤ scaled S c ws
  unfolding scaled
  passes-point c t ws p =
      let (k, h, u) = point-touch ws p in
      passes-positive (tips S) S.place c t (spread S.counts ws) (spread S.counts (get_or S.corners k []))
      (spread-touch S.counts ws (get_or S.corners k []) u) k
      (rw (length-map S.corners (λ ks. S.place (spread S.counts ks))) h) (sym (tips-at k h))

  pub inherit : (i : Four) (c : List ℤ) → T (pass S c) → T (pass S (cut_to S i c))
  inherit i c t = passes-quarter (tips S) (S.table i) (four-at (λ i. heirs (tips S) (tips S) (S.table i)) W.inherited i) c t

  pub located : (c : List ℤ) (ws : List Row) → Point S ws
      → (i : Four) × (ys : List Row) × Point S ys × (pos 0 <ℤ scaled S (cut_to S i c) ys → pos 0 <ℤ scaled S c ws)
  located c ws p =
      let (i, ys, e, a, r) = W.split (map total ws) (times 2 ws) (times-sized 2 S.sizes ws p.sized) (times-adds 2 ws) in (
        i,
        ys,
        record { sized = e; heavy = adds-heavy ws ys a p.heavy },
        λ g. positive-factor (power 2 (spread S.counts ws)) (scaled S c ws) (rw (scaled-cut i c ys e, r, scaled-times 2 c ws) at g),
      )

  pub level-point : (d : ℕ) (c : List ℤ) → T (level (pass S) (cut_to S) d c)
      → (ws : List Row)
      → Point S ws
      → pos 0 <ℤ scaled S c ws
  level-point d c t ws p =
      level-positive (pass S) (cut_to S) {Pt = Pt} (λ c x. pos 0 <ℤ scaled S c x.0)
      (λ c t x. passes-point c t x.0 x.1) (λ c x. let (i, ys, q, f) = located c x.0 x.1 in (i, (ys, q), f)) d c t (ws, p)
    where
      Pt : Type 0
      Pt = (ws : List Row) × Point S ws

  -- ---- sizes
  pub cut_to-size : (i : Four) (n : ℕ) (c : List ℤ) → Each n c → Each (S.growth * n) (cut_to S i c)
  cut_to-size i n c h = quarter-size S.growth n (S.table i) (four-at (λ i. rows_add S.growth (S.table i)) W.grown i) c h
