-- Turns of a shape: one after the other they are turns, and the cells of turned values are turned.
--   keeps-by         : a turn of a shape, m times over, is one
--   undoes-by        : if k + 1 turns bring all weights back, m·k turns undo m turns
--   turned_then      : values turned, and turned again
--   turned-back      : values turned back
--   turned-is        : turned values are the stored values in their new order
--   turned-pass      : the one passes exactly when the other does
--   turned-cut       : their quarters are turned too
-- Once for every lawful shape whose stored values are readable. Assumes nothing.
use mathlib.Core.Path.{◌≡◌, refl, sym, ◌∙◌, ap, subst}
use mathlib.Core.Bool.{Bool, true, false}
use mathlib.Core.List.{List, [], ◌∷◌}
use Prim.Native.Nat.{ℕ, zero, suc, ◌+◌, ◌*◌}
use native.Mathlib.Nat as N
use native.Mathlib.Omega.{arith}
use lib.Dec.{T}
use lib.IntN.{ℤ}
use lib.ListN.{length, length-map}
use Rattle.forms.specs.Rows.{Row}
use Rattle.forms.specs.Forms.{through}
use Rattle.forms.specs.Cuttings.{Four}
use Rattle.forms.specs.Shapes.{Shape, pass, cut_to, scaled, Point, Lawful}
use Rattle.forms.specs.Polar.{readable}
use Rattle.forms.proofs.Shapes.{through-sized, scaled-cut}
use Rattle.forms.proofs.Grids.{in_whole-heavy}
use Rattle.forms.proofs.Polar.{stored-only}
use Rattle.turns.specs.Turns.{Turn, still, ◌after◌, turn_by, Fair, Full, Keeps, Undoes, Turned}

-- ---- one turn after the other
fair-after : (σ τ : Four → Four) → Fair σ → Fair τ → Fair (λ i. τ (σ i))
fair-after σ τ p q =
    record {
      sums = λ f. p.sums (λ i. f (τ i)) ∙ q.sums f;
      deepest = λ f. p.deepest (λ i. f (τ i)) ∙ q.deepest f;
    }

module _ (S : Shape) where
  keeps-still : Keeps S still
  keeps-still =
      record {
        point = λ ws h. h;
        cut = λ i ws h. refl;
        fair = record { sums = λ f. refl; deepest = λ f. refl };
        full = λ c h. h;
        value = λ c ws h. refl;
        passing = λ c h. h;
      }

  keeps-after : (t u : Turn) → Keeps S t → Keeps S u → Keeps S (t after u)
  keeps-after t u p q =
      record {
        point = λ ws h. p.point (u.weights ws) (q.point ws h);
        cut = λ i ws h. ap t.weights (q.cut (t.quarters i) ws h) ∙ p.cut i (u.weights ws) (q.point ws h);
        fair = fair-after t.quarters u.quarters p.fair q.fair;
        full = λ c h. p.full (u.values c) (q.full c h);
        value = λ c ws h. p.value (u.values c) (u.weights ws) (q.point ws h) ∙ q.value c ws h;
        passing = λ c h. p.passing (u.values c) (q.passing c h);
      }

  pub keeps-by : (m : ℕ) (t : Turn) → Keeps S t → Keeps S (turn_by m t)
  keeps-by zero t p = keeps-still
  keeps-by (suc m) t p = keeps-after t (turn_by m t) p (keeps-by m t p)

-- ---- all the way round
weights-+ : (a b : ℕ) (t : Turn) (ws : List Row) → (turn_by (a + b) t).weights ws ≡ (turn_by a t).weights ((turn_by b t).weights ws)
weights-+ zero b t ws = ap (λ (n : ℕ). (turn_by n t).weights ws) (N.zero-add b)
weights-+ (suc a) b t ws =
    let e : suc a + b ≡ suc (a + b) = omega arith in
    ap (λ (n : ℕ). (turn_by n t).weights ws) e ∙ ap t.weights (weights-+ a b t ws)

module _ (S : Shape) (t : Turn) (k : ℕ) (round : (ws : List Row) → Point S ws → (turn_by (suc k) t).weights ws ≡ ws) where
  rounds : (m : ℕ) (ws : List Row) → Point S ws → (turn_by (m * suc k) t).weights ws ≡ ws
  rounds zero ws h = ap (λ (n : ℕ). (turn_by n t).weights ws) (N.zero-mul (suc k))
  rounds (suc m) ws h =
      let e : suc m * suc k ≡ suc k + m * suc k = omega arith in
      ap (λ (n : ℕ). (turn_by n t).weights ws) e ∙ weights-+ (suc k) (m * suc k) t ws
      ∙ ap (turn_by (suc k) t).weights (rounds m ws h)
      ∙ round ws h

  pub undoes-by : (m : ℕ) → Undoes S (turn_by (m * k) t) (turn_by m t) × Undoes S (turn_by m t) (turn_by (m * k) t)
  undoes-by m = (λ ws h. by (m * k) m e ws h, λ ws h. by m (m * k) f ws h)
    where
      e : m * k + m ≡ m * suc k
      e = omega arith

      f : m + m * k ≡ m * suc k
      f = omega arith

      by : (a b : ℕ) → a + b ≡ m * suc k → (ws : List Row) → Point S ws → (turn_by a t).weights ((turn_by b t).weights ws) ≡ ws
      by a b e ws h = sym (weights-+ a b t ws) ∙ ap (λ (n : ℕ). (turn_by n t).weights ws) e ∙ rounds m ws h

-- ---- turned values
module _ (S : Shape) where
  pub turned-still : (c : List ℤ) → Full S c → Turned S still c c
  turned-still c h = record { from = h; to = h; value = λ ws p. refl }

  pub turned_then : (t u : Turn) → Keeps S u → {a b c : List ℤ} → Turned S u a b → Turned S t b c → Turned S (t after u) a c
  turned_then t u k p q =
      record { from = p.from; to = q.to; value = λ ws h. q.value (u.weights ws) (k.point ws h) ∙ p.value ws h }

  pub turned-back : (t u : Turn) → Keeps S u → Undoes S t u → {c c' : List ℤ} → Turned S t c c' → Turned S u c' c
  turned-back t u k e {c} {c'} r =
      record {
        from = r.to;
        to = r.from;
        value = λ ws h. sym (r.value (u.weights ws) (k.point ws h)) ∙ ap (scaled S c') (e ws h);
      }

  module _ (R : T (readable S)) (t u : Turn) (p : Keeps S t) (q : Keeps S u) (e : Undoes S t u) {c c' : List ℤ} (r : Turned S t c c') where
    pub turned-is : c' ≡ t.values c
    turned-is = stored-only S c' (t.values c) agree R r.to (p.full c r.from)
      where
        agree : (ws : List Row) → Point S ws → scaled S c' ws ≡ scaled S (t.values c) ws
        agree ws h =
            let v : List Row = u.weights ws in
            ap (scaled S c') (sym (e ws h)) ∙ r.value v (q.point ws h) ∙ sym (p.value c v (q.point ws h))
            ∙ ap (scaled S (t.values c)) (e ws h)

    pass-one : T (pass S c) → T (pass S c')
    pass-one h = subst (λ (v : List ℤ). T (pass S v)) (sym turned-is) (p.passing c h)

one-test : (a b : Bool) → (T a → T b) → (T b → T a) → a ≡ b
one-test true true f g = refl
one-test true false f g = absurd (f tt)
one-test false true f g = absurd (g tt)
one-test false false f g = refl

-- ---- cells
module _ (S : Shape) (W : Lawful S) (R : T (readable S)) (filled : (i : Four) → length (S.table i) ≡ length S.entries)
    (t u : Turn) (p : Keeps S t) (q : Keeps S u) (back : Undoes S u t) (forth : Undoes S t u) where
  pub turned-pass : (c c' : List ℤ) → Turned S t c c' → pass S c ≡ pass S c'
  turned-pass c c' r =
      one-test (pass S c) (pass S c') (pass-one S R t u p q forth r)
      (pass-one S R u t q p back (turned-back S t u q forth r))

  quarter-full : (i : Four) (c : List ℤ) → Full S (cut_to S i c)
  quarter-full i c = length-map (S.table i) _ ∙ filled i

  quarter-point : (i : Four) (ws : List Row) → Point S ws → Point S (through ws (S.cuts i))
  quarter-point i ws h =
      record { sized = through-sized S W i ws h.sized; heavy = in_whole-heavy S W (i ∷ []) ws h.sized h.heavy }

  pub turned-cut : (i : Four) (c c' : List ℤ) → Turned S t c c' → Turned S t (cut_to S (t.quarters i) c) (cut_to S i c')
  turned-cut i c c' r =
      let j : Four = t.quarters i in
      record {
        from = quarter-full j c;
        to = quarter-full i c';
        value = λ ws h.
            scaled-cut S W i c' (t.weights ws) (p.point ws h).sized
            ∙ ap (scaled S c') (sym (p.cut i ws h))
            ∙ r.value (through ws (S.cuts j)) (quarter-point j ws h)
            ∙ sym (scaled-cut S W j c ws h.sized);
      }
