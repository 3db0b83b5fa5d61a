-- The walk finds the first bad point.
--   Met n l stop p c x : x is a bad point of the grid of the cell c, at most n levels down and no deeper than stop
--   walk-best          : what the walk answers is the first of these, or there are none
-- For every lawful shape and true chart. Assumes nothing.
use mathlib.Core.Path.{◌≡◌, refl, sym, ◌∙◌, ap, subst}
use mathlib.Core.Bool.{Bool, true, false, cond, ◌||◌}
use mathlib.Core.List.{List, [], ◌∷◌, map}
use mathlib.Core.Logic.{◌⊎◌, inl, inr}
use Prim.Native.Nat.{ℕ, zero, suc, ◌+◌, ◌*◌, ◌-◌, ◌^◌, ◌≤◌, ◌<◌, zero-le}
use native.Mathlib.Nat as N
use native.Mathlib.Omega.{arith}
use native.Mathlib.Decide.{dec_le}
use lib.Dec.{T, leb, leb→le, le→leb}
use lib.IntN.{ℤ, pos}
use lib.ListN.{length}
use lib.Pow.{pow_pos}
use lib.Signed.{◌≤ℤ◌, le_z, le_z_yes, clash_ℤ}
use Rattle.algebra.proofs.Truth.{T_false}
use Rattle.forms.specs.Rows.{Row}
use Rattle.forms.specs.Forms.{through}
use Rattle.forms.specs.Cuttings.{Four}
use Rattle.forms.specs.Shapes.{Shape, pass, cut_to, scaled, tip, corner_value, Sized, Adds, sides, Lawful}
use Rattle.forms.proofs.Shapes.{double, sides-heavy, through-sized, through-adds, scaled-cut, scaled-tip, tip-of, tip-sized, tip-adds, passes-point}
use Rattle.corners.specs.First.{nothing, something, corner}
use Rattle.corners.specs.declared.First.{First}
use Rattle.steps.specs.Steps.{lowered}
use Rattle.steps.specs.declared.Walk.{Walk}
use Rattle.walks.specs.Walk.{Spot, Plan, one, both, run, Chart, bad_corner, first_bad, first_corner, walk, cuts}
use Rattle.walks.proofs.Best.{Before, before-up, Best, best-some, best_none, some-best, none-best, best-same, Cover, left, right, after, best-more}
use Rattle.walks.proofs.Charts.{Has, Charted}
use Rattle.walks.proofs.Cases.{lowered-le, below-lowered, walk-pass, walk-zero, walk-halt, walk-cut}

-- twice the totals
double-sides : (n : ℕ) (ss : List ℕ) → map (λ s. 2 * n) ss ≡ double (map (λ s. n) ss)
double-sides n [] = refl
double-sides n (s ∷ ss) = ap {B = List ℕ} (λ l. 2 * n ∷ l) (double-sides n ss)

next-sides : (S : Shape) (d : ℕ) → sides S (2 ^ suc d) ≡ double (sides S (2 ^ d))
next-sides S d = ap (sides S) (N.pow-succ' 2 d) ∙ double-sides (2 ^ d) S.sizes

module _ (S : Shape) (W : Lawful S) (G : Chart) (C : Charted S G) where
  -- ---- what the walk is to find
  pub record Met (n l stop : ℕ) (p : G.Place) (c : List ℤ) (x : First) : Type 0 where
    pub down : ℕ
    pub within : down ≤ n
    pub above : down ≤ stop - l
    pub weights : List Row
    pub sized : Sized S.sizes weights
    pub adds : Adds (sides S (2 ^ down)) weights
    pub low : scaled S c weights ≤ℤ pos 0
    pub level-is : x.level ≡ l + down
    pub there : C.stands p weights ≡ record { i = x.i; j = x.j }
    pub value-is : x.value ≡ scaled S c weights

  -- the same point, seen with other bounds
  again : {n l stop m t : ℕ} {p : G.Place} {c : List ℤ} {x : First} (q : Met n l stop p c x) → q.down ≤ m → q.down ≤ t - l → Met m l t p c x
  again q h k =
      record {
        down = q.down;
        within = h;
        above = k;
        weights = q.weights;
        sized = q.sized;
        adds = q.adds;
        low = q.low;
        level-is = q.level-is;
        there = q.there;
        value-is = q.value-is;
      }

  met-pass : (n l stop : ℕ) (p : G.Place) (c : List ℤ) → T (pass S c) → (x : First) → ¬ Met n l stop p c x
  met-pass n l stop p c t x m =
      let heavy = sides-heavy (2 ^ m.down) (pow_pos m.down) S.sizes m.weights m.adds in
      clash_ℤ (passes-point S W c t m.weights (record { sized = m.sized; heavy = heavy })) m.low

  -- ---- corners
  module _ (l : ℕ) (p : G.Place) (c : List ℤ) where
    record Corner (k : ℕ) (x : First) : Type 0 where
      low : corner_value S k c ≤ℤ pos 0
      level-is : x.level ≡ l
      there : G.spot p k ≡ record { i = x.i; j = x.j }
      value-is : x.value ≡ corner_value S k c

    abbrev CornerBelow : ℕ → First → Type 0
    CornerBelow m x = (k : ℕ) × (k < m) × Corner k x

    before_same : (k : ℕ) (x y : First) → Corner k x → Corner k y → Before x y
    before_same k x y a b =
        let e : ◌≡◌ {A = Spot} (record { i = x.i; j = x.j }) (record { i = y.i; j = y.j }) = sym a.there ∙ b.there in
        let ei : x.i ≡ y.i = ap (λ (s : Spot). s.i) e in let ej : x.j ≡ y.j = ap (λ (s : Spot). s.j) e in
        record {
          up = N.le_of_eq (a.level-is ∙ sym b.level-is);
          row = λ q. N.le_of_eq ej;
          column = λ q r. N.le_of_eq ei;
        }

    one-best : (k : ℕ) → Best (Corner k) (bad_corner S G l p c k)
    unfolding bad_corner corner
    one-best k = go (le_z (corner_value S k c) (pos 0)) refl
      where
        here : First
        here = something l (G.spot p k).i (G.spot p k).j (corner_value S k c)

        go : (t : Bool) → le_z (corner_value S k c) (pos 0) ≡ t → Best (Corner k) (cond t here nothing)
        go true e =
            let q : Corner k here = record { low = le_z_yes (rw e tt); level-is = refl; there = refl; value-is = refl } in
            (q, λ y r. before_same k here y q r)
        go false e = λ x q. T_false (le_z (corner_value S k c) (pos 0)) e q.low.le

    corners-best : (m : ℕ) → Best (CornerBelow m) (first_bad S G l p c m)
    unfolding first_bad
    corners-best zero = λ x q. N.not-suc-le-zero q.1
    corners-best (suc m) =
        best-more (CornerBelow m) (Corner m) (CornerBelow (suc m)) (λ x q. (q.0, (let h = q.1 in omega arith), q.2))
        (λ x q. (m, N.le_refl _, q))
        (first_bad S G l p c m) (bad_corner S G l p c m) (corners-best m) (one-best m) (λ x q. go x q.0 q.1 q.2 (dec_le (suc q.0) m))
      where
        go : (x : First) (k : ℕ) → k < suc m → Corner k x → Dec (suc k ≤ m) → Cover (CornerBelow m) (Corner m) (first_bad S G l p c m) x
        go x k h b (yes f) = left (k, f, b)
        go x k h b (no f) = let s : k ≡ m = omega arith in right (subst (λ (n : ℕ). Corner n x) s b)

    met-corner : (stop : ℕ) (x : First) → Met 0 l stop p c x → CornerBelow (length S.corners) x
    met-corner stop x m = go m.down m.within m.adds m.level-is
      where
        go : (d : ℕ) → d ≤ 0 → Adds (sides S (2 ^ d)) m.weights → x.level ≡ l + d → CornerBelow (length S.corners) x
        go (suc d) h a e = absurd (omega arith)
        go zero h a e =
            let (k, f, r) = tip-of S W m.weights m.sized a in
            let v : scaled S c m.weights ≡ corner_value S k c = ap (scaled S c) (sym r) ∙ scaled-tip S W c k f in (
              k,
              f,
              record {
                low = subst (λ (z : ℤ). z ≤ℤ pos 0) v m.low;
                level-is = omega arith;
                there = sym (C.corner p k f) ∙ ap (C.stands p) r ∙ m.there;
                value-is = m.value-is ∙ v;
              },
            )

    corner-met : (n stop : ℕ) (x : First) → CornerBelow (length S.corners) x → Met n l stop p c x
    corner-met n stop x (k, f, b) =
        let v : scaled S c (tip S k) ≡ corner_value S k c = scaled-tip S W c k f in
        record {
          down = 0;
          within = zero-le;
          above = zero-le;
          weights = tip S k;
          sized = tip-sized S W k f;
          adds = tip-adds S W k f;
          low = subst (λ (z : ℤ). z ≤ℤ pos 0) (sym v) b.low;
          level-is = b.level-is ∙ sym (N.add-zero l);
          there = C.corner p k f ∙ b.there;
          value-is = b.value-is ∙ sym v;
        }

    first-best : (stop : ℕ) → Best (Met 0 l stop p c) (first_corner S G l p c)
    first-best stop =
        best-same (CornerBelow (length S.corners)) (Met 0 l stop p c) (corner-met 0 stop) (met-corner stop) (first_corner S G l p c)
        (corners-best (length S.corners))

  -- a cell that is not cut answers for all that lies in it
  halt-best : (n l stop : ℕ) (p : G.Place) (c : List ℤ) (f : First) → (f.bad || leb stop l) ≡ true
      → Best (Met 0 l stop p c) f
      → Best (Met n l stop p c) f
  halt-best n l stop p c f h b = go f.bad refl
    where
      none-down : (m : ℕ) → m ≤ stop - l → stop ≤ l → m ≤ 0
      none-down m a s = omega arith

      go : (t : Bool) → f.bad ≡ t → Best (Met n l stop p c) f
      go false e =
          none-best (Met n l stop p c) f e
          (λ x m. best_none (Met 0 l stop p c) f e b x (again m (none-down m.down m.above deep) m.above))
        where
          stopped : (t : Bool) → f.bad ≡ t → t ≡ false → (t || leb stop l) ≡ true → leb stop l ≡ true
          stopped false a b h = h
          stopped true a b h = absurd (subst T b tt)

          deep : stop ≤ l
          deep = leb→le stop l (subst T (sym (stopped f.bad refl e h)) tt)
      go true e =
          let (m, least) = best-some (Met 0 l stop p c) f e b in
          some-best (Met n l stop p c) f e (again m (let k = m.within in omega arith) m.above) (λ y q. before m least y q (dec_le q.down 0))
        where
          before : Met 0 l stop p c f → ((y : First) → Met 0 l stop p c y → Before f y)
              → (y : First) (q : Met n l stop p c y) → Dec (q.down ≤ 0) → Before f y
          before m least y q (yes k) = least y (again q k q.above)
          before m least y q (no k) = before-up f y (let g = q.level-is in let e = m.level-is in let h = m.within in omega arith)

  -- ---- down to the quarters and up
  met-up : (n l stop : ℕ) (p : G.Place) (c : List ℤ) (q : Four) (x : First) → l < stop
      → Met n (l + 1) stop (G.sub q p) (cut_to S q c) x
      → Met (suc n) l stop p c x
  met-up n l stop p c q x h m =
      let v : scaled S (cut_to S q c) m.weights ≡ scaled S c (through m.weights (S.cuts q)) = scaled-cut S W q c m.weights m.sized in
      record {
        down = suc m.down;
        within = let k = m.within in omega arith;
        above = let k = m.above in omega arith;
        weights = through m.weights (S.cuts q);
        sized = through-sized S W q m.weights m.sized;
        adds = through-adds S W q m.weights m.sized ∙ ap double m.adds ∙ sym (next-sides S m.down);
        low = subst (λ (z : ℤ). z ≤ℤ pos 0) v m.low;
        level-is = let k = m.level-is in omega arith;
        there = sym (C.part q p m.weights m.sized) ∙ m.there;
        value-is = m.value-is ∙ v;
      }

  abbrev Under : ℕ → ℕ → ℕ → G.Place → List ℤ → First → Type 0
  Under n l stop p c x = (q : Four) × Met n (l + 1) stop (G.sub q p) (cut_to S q c) x

  met-down : (n l stop : ℕ) (p : G.Place) (c : List ℤ) (x : First) → ((y : First) → ¬ Met 0 l stop p c y)
      → Met (suc n) l stop p c x
      → Under n l stop p c x
  met-down n l stop p c x f m = go m.down refl m.within m.above m.adds m.level-is
    where
      go : (d : ℕ) → m.down ≡ d → d ≤ suc n → d ≤ stop - l → Adds (sides S (2 ^ d)) m.weights → x.level ≡ l + d → Under n l stop p c x
      go zero s h k a e = absurd (f x (again m (N.le_of_eq s) m.above))
      go (suc d) s h k a e =
          let (q, ys, b, t, r) = W.split (sides S (2 ^ d)) m.weights m.sized (a ∙ next-sides S d) in
          let v : scaled S (cut_to S q c) ys ≡ scaled S c m.weights = scaled-cut S W q c ys b ∙ ap (scaled S c) r in (
            q,
            record {
              down = d;
              within = omega arith;
              above = omega arith;
              weights = ys;
              sized = b;
              adds = t;
              low = subst (λ (z : ℤ). z ≤ℤ pos 0) (sym v) m.low;
              level-is = omega arith;
              there = C.part q p ys b ∙ ap (C.stands p) r ∙ m.there;
              value-is = m.value-is ∙ sym v;
            },
          )

  -- ---- what the quarters of a part of the plan are to find
  module _ (n l : ℕ) (p : G.Place) (c : List ℤ) where
    abbrev Part : Plan → ℕ → First → Type 0
    Part (one q) stop x = Met n (l + 1) stop (G.sub q p) (cut_to S q c) x
    Part (both P Q) stop x = Part P stop x ⊎ Part Q stop x

    unprune : (P : Plan) (stop : ℕ) (a x : First) → Part P (lowered stop a) x → Part P stop x
    unprune (one q) stop a x m = again m m.within (let h = m.above in let k = lowered-le stop a in omega arith)
    unprune (both P Q) stop a x (inl m) = inl (unprune P stop a x m)
    unprune (both P Q) stop a x (inr m) = inr (unprune Q stop a x m)

    prune : (X : First → Type 0) (P : Plan) (stop : ℕ) (a x : First) → Part P stop x → Cover X (Part P (lowered stop a)) a x
    prune X (one q) stop a x m = go (dec_le m.down (lowered stop a - (l + 1)))
      where
        go : Dec (m.down ≤ lowered stop a - (l + 1)) → Cover X (Part (one q) (lowered stop a)) a x
        go (yes h) = right (again m m.within h)
        go (no h) =
            let e = m.level-is in let k = m.above in
            let (b, d) = below-lowered stop a x.level (omega arith) (omega arith) in after b (before-up a x d)
    prune X (both P Q) stop a x (inl m) = go (prune X P stop a x m)
      where
        go : Cover X (Part P (lowered stop a)) a x → Cover X (Part (both P Q) (lowered stop a)) a x
        go (left h) = left h
        go (right h) = right (inl h)
        go (after e h) = after e h
    prune X (both P Q) stop a x (inr m) = go (prune X Q stop a x m)
      where
        go : Cover X (Part Q (lowered stop a)) a x → Cover X (Part (both P Q) (lowered stop a)) a x
        go (left h) = left h
        go (right h) = right (inr h)
        go (after e h) = after e h

    run-best : (P : Plan) (stop : ℕ) (f : Four → ℕ → Walk)
        → ((s : ℕ) (q : Four) → Best (Met n (l + 1) s (G.sub q p) (cut_to S q c)) (f q s).best)
        → Best (Part P stop) (run P f stop).best
    run-best (one q) stop f ih = ih stop q
    run-best (both P Q) stop f ih =
        best-more (Part P stop) (Part Q (lowered stop o)) (Part (both P Q) stop) (λ x m. inl m) (λ x m. inr (unprune Q stop o x m))
        o (run Q f (lowered stop o)).best (run-best P stop f ih) (run-best Q (lowered stop o) f ih) cover
      where
        o : First
        o = (run P f stop).best

        cover : (x : First) → Part (both P Q) stop x → Cover (Part P stop) (Part Q (lowered stop o)) o x
        cover x (inl m) = left m
        cover x (inr m) = prune (Part P stop) Q stop o x m

    part_up : (P : Plan) (stop : ℕ) (x : First) → l < stop → Part P stop x → Met (suc n) l stop p c x
    part_up (one q) stop x h m = met-up n l stop p c q x h m
    part_up (both P Q) stop x h (inl m) = part_up P stop x h m
    part_up (both P Q) stop x h (inr m) = part_up Q stop x h m

    part-put : (P : Plan) (stop : ℕ) (x : First) (q : Four) → Has P q → Met n (l + 1) stop (G.sub q p) (cut_to S q c) x → Part P stop x
    part-put (one r) stop x q e m = rw e m
    part-put (both P Q) stop x q (inl e) m = inl (part-put P stop x q e m)
    part-put (both P Q) stop x q (inr e) m = inr (part-put Q stop x q e m)

  -- the walks of the quarters
  abbrev Quarters : ℕ → ℕ → G.Place → List ℤ → Type 0
  Quarters n l p c =
      (s : ℕ) (q : Four) → Best (Met n (l + 1) s (G.sub q p) (cut_to S q c)) (walk S G n (l + 1) s (G.sub q p) (cut_to S q c)).best

  cuts-best : (n l stop : ℕ) (p : G.Place) (c : List ℤ) → l < stop
      → ((y : First) → ¬ Met 0 l stop p c y)
      → Quarters n l p c
      → Best (Met (suc n) l stop p c) (cuts S G n l stop p c).best
  cuts-best n l stop p c h f ih =
      best-same (Part n l p c G.plan stop) (Met (suc n) l stop p c) (λ x m. part_up n l p c G.plan stop x h m) down
      (cuts S G n l stop p c).best (run-best n l p c G.plan stop (λ q s. walk S G n (l + 1) s (G.sub q p) (cut_to S q c)) ih)
    where
      down : (x : First) → Met (suc n) l stop p c x → Part n l p c G.plan stop x
      down x m = let (q, k) = met-down n l stop p c x f m in part-put n l p c G.plan stop x q (C.has_all q) k

  abbrev Finds : ℕ → ℕ → ℕ → G.Place → List ℤ → Walk → Type 0
  Finds n l stop p c w = Best (Met n l stop p c) w.best

  pub walk-best : (n l stop : ℕ) (p : G.Place) (c : List ℤ) → Finds n l stop p c (walk S G n l stop p c)
  walk-best zero l stop p c = go (pass S c) refl
    where
      go : (t : Bool) → pass S c ≡ t → Finds zero l stop p c (walk S G zero l stop p c)
      go true e = rw (walk-pass S G l stop p c zero e) (met-pass zero l stop p c (rw e tt))
      go false e = rw (walk-zero S G l stop p c e) (first-best l p c stop)
  walk-best (suc n) l stop p c =
      go (pass S c) refl ((first_corner S G l p c).bad || leb stop l) refl (λ s q. walk-best n (l + 1) s (G.sub q p) (cut_to S q c))
    where
      f : First
      f = first_corner S G l p c

      both_false : (a b : Bool) → (a || b) ≡ false → (a ≡ false) × (b ≡ false)
      both_false true b h = absurd (subst T h tt)
      both_false false b h = (refl, h)

      beyond : leb stop l ≡ false → Dec (stop ≤ l) → l < stop
      beyond k (yes z) = absurd (T_false (leb stop l) k (le→leb stop l z))
      beyond k (no z) = omega arith

      go : (t : Bool) → pass S c ≡ t
          → (u : Bool)
          → (f.bad || leb stop l) ≡ u
          → Quarters n l p c
          → Finds (suc n) l stop p c (walk S G (suc n) l stop p c)
      go true e u k ih = rw (walk-pass S G l stop p c (suc n) e) (met-pass (suc n) l stop p c (rw e tt))
      go false e true k ih = rw (walk-halt S G l stop p c (suc n) e k) (halt-best (suc n) l stop p c f k (first-best l p c stop))
      go false e false k ih =
          let (a, b) = both_false f.bad (leb stop l) k in
          rw (walk-cut S G l stop p c n e k)
          (cuts-best n l stop p c (beyond b (dec_le stop l)) (best_none (Met 0 l stop p c) f a (first-best l p c stop)) ih)
