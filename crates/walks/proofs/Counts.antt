-- The walk counts: where it finds no bad point, the cells that fail are those of the limit's level, and if there are none the
-- cells that it kept are those of the least cutting, and the deepest of them has its depth.
--   Counted n l c w : that
--   walk-counts     : it holds of the walk
-- For every lawful shape and true chart. Assumes nothing.
use mathlib.Core.Path.{◌≡◌, refl, sym, ◌∙◌, ap, subst}
use mathlib.Core.Bool.{Bool, true, false, ◌||◌}
use mathlib.Core.List.{List}
use mathlib.Core.Logic.{inl, inr}
use mathlib.Core.Option.{some}
use Prim.Native.Nat.{ℕ, zero, suc, ◌+◌, ◌≤◌}
use native.Mathlib.Nat as N
use native.Mathlib.Omega.{arith}
use lib.Dec.{T, leb, leb→le}
use lib.IntN.{ℤ}
use Rattle.forms.specs.Cuttings.{Four, first, second, third, fourth, Cutting, keep, cut, leaves, depth, opens, greedy}
use Rattle.forms.specs.Shapes.{Shape, pass, cut_to, Lawful}
use Rattle.forms.proofs.Cuttings.{greedy-keep, greedy-cut, pass-level, level-opens}
use Rattle.forms.proofs.Shapes.{inherit}
use Rattle.corners.specs.First.{nothing}
use Rattle.corners.specs.declared.First.{First}
use Rattle.steps.specs.Steps.{leaf, merge, lowered}
use Rattle.steps.specs.declared.Walk.{Walk}
use Rattle.walks.specs.Walk.{Plan, one, both, run, Chart, first_corner, walk, cuts}
use Rattle.walks.proofs.Best.{better-none}
use Rattle.walks.proofs.Charts.{Has, total, Fair, Charted}
use Rattle.walks.proofs.Cases.{lowered-stop, walk-pass, walk-zero, walk-halt, walk-cut}

-- ---- where nothing bad was found, the limit was never lowered
record Plain (P : Plan) (f : Four → ℕ → Walk) (stop : ℕ) : Type 0 where
  each : (q : Four) → Has P q → (f q stop).best.bad ≡ false
  all : run P f stop ≡ total P (λ q. f q stop)

run_none : (P : Plan) (f : Four → ℕ → Walk) (stop : ℕ) → (run P f stop).best.bad ≡ false → Plain P f stop
run_none (one q) f stop e = record { each = λ r h. rw (← h) e; all = refl }
run_none (both P Q) f stop e =
    go (better-none (run P f stop).best (run Q f (lowered stop (run P f stop).best)).best e) (λ h. run_none P f stop h) (λ h. run_none Q f stop h)
  where
    go : ((run P f stop).best.bad ≡ false) × ((run Q f (lowered stop (run P f stop).best)).best.bad ≡ false)
        → ((run P f stop).best.bad ≡ false → Plain P f stop)
        → ((run Q f stop).best.bad ≡ false → Plain Q f stop)
        → Plain (both P Q) f stop
    go (a, b) u v =
        record {
          each = λ q h. both-each q h;
          all = ap (λ (s : ℕ). merge (run P f stop) (run Q f s)) same
              ∙ ap (λ (w : Walk). merge w (run Q f stop)) x.all
              ∙ ap (λ (w : Walk). merge (total P (λ q. f q stop)) w) y.all;
        }
      where
        same : lowered stop (run P f stop).best ≡ stop
        same = lowered-stop stop (run P f stop).best a

        x : Plain P f stop
        x = u a

        y : Plain Q f stop
        y = v (subst (λ (s : ℕ). (run Q f s).best.bad ≡ false) same b)

        both-each : (q : Four) → Has (both P Q) q → (f q stop).best.bad ≡ false
        both-each q (inl h) = x.each q h
        both-each q (inr h) = y.each q h

module _ (S : Shape) (W : Lawful S) where
  pub record Tally (n l : ℕ) (c : List ℤ) (w : Walk) : Type 0 where
    pub cutting : Cutting
    pub found : greedy (pass S) (cut_to S) n c ≡ some cutting
    pub cells_are : w.cells ≡ leaves cutting
    pub deep_is : w.deep ≡ l + depth cutting

  pub record Counted (n l : ℕ) (c : List ℤ) (w : Walk) : Type 0 where
    pub failing-are : w.failing ≡ opens (pass S) (cut_to S) n c
    pub tally : w.failing ≡ 0 → Tally n l c w

  counted-pass : (n l : ℕ) (c : List ℤ) → pass S c ≡ true → Counted n l c (leaf l nothing 0)
  unfolding leaves depth
  counted-pass n l c e =
      record {
        failing-are = sym (level-opens (pass S) (cut_to S) n c (pass-level (pass S) (cut_to S) (inherit S W) n c (rw e tt)));
        tally = λ z. record { cutting = keep; found = greedy-keep (pass S) (cut_to S) n c e; cells_are = refl; deep_is = sym (N.add-zero l) };
      }

  opens-zero : (c : List ℤ) → pass S c ≡ false → 1 ≡ opens (pass S) (cut_to S) 0 c
  unfolding opens
  opens-zero c e = rw (e, opens)

  counted-open : (l : ℕ) (c : List ℤ) (f : First) → pass S c ≡ false → Counted 0 l c (leaf l f 1)
  counted-open l c f e = record { failing-are = opens-zero c e; tally = λ z. absurd (omega arith) }

  counted-cut : (n l : ℕ) (c : List ℤ) (w : Four → Walk) (t : Walk) → pass S c ≡ false
      → Fair w t
      → ((q : Four) → Counted n (l + 1) (cut_to S q c) (w q))
      → Counted (suc n) l c t
  unfolding leaves depth opens
  counted-cut n l c w t e k ih =
      record {
        failing-are = omega (arith, k.failing, (ih first).failing-are, (ih second).failing-are, (ih third).failing-are, (ih fourth).failing-are);
        tally = λ h. let f = k.failing in
            joined ((ih first).tally (omega arith)) ((ih second).tally (omega arith)) ((ih third).tally (omega arith)) ((ih fourth).tally (omega arith));
      }
    where
      Quarter : Four → Type 0
      Quarter q = Tally n (l + 1) (cut_to S q c) (w q)

      joined : Quarter first → Quarter second → Quarter third → Quarter fourth → Tally (suc n) l c t
      joined r s u v =
          record {
            cutting = cut r.cutting s.cutting u.cutting v.cutting;
            found = greedy-cut (pass S) (cut_to S) n c e ∙ rw (r.found, s.found, u.found, v.found);
            cells_are = omega (arith, k.cells, r.cells_are, s.cells_are, u.cells_are, v.cells_are);
            deep_is = omega (arith, k.deep, r.deep_is, s.deep_is, u.deep_is, v.deep_is);
          }

  module _ (G : Chart) (C : Charted S G) where
    pub walk-counts : (n l stop : ℕ) (p : G.Place) (c : List ℤ) → stop ≡ l + n
        → (walk S G n l stop p c).best.bad ≡ false
        → Counted n l c (walk S G n l stop p c)
    walk-counts zero l stop p c s h = go (pass S c) refl
      where
        go : (t : Bool) → pass S c ≡ t → Counted zero l c (walk S G zero l stop p c)
        go true e = rw (walk-pass S G l stop p c zero e) (counted-pass zero l c e)
        go false e = rw (walk-zero S G l stop p c e) (counted-open l c (first_corner S G l p c) e)
    walk-counts (suc n) l stop p c s h =
        go (pass S c) refl ((first_corner S G l p c).bad || leb stop l) refl
        (λ q k. walk-counts n (l + 1) stop (G.sub q p) (cut_to S q c) (omega arith) k)
      where
        w : Four → ℕ → Walk
        w q t = walk S G n (l + 1) t (G.sub q p) (cut_to S q c)

        Quarters : Type 0
        Quarters = (q : Four) → (w q stop).best.bad ≡ false → Counted n (l + 1) (cut_to S q c) (w q stop)

        all : pass S c ≡ false → (cuts S G n l stop p c).best.bad ≡ false → Quarters → Counted (suc n) l c (cuts S G n l stop p c)
        all e k ih =
            let r = run_none G.plan w stop k in
            subst (Counted (suc n) l c) (sym r.all)
            (counted-cut n l c (λ q. w q stop) (total G.plan (λ q. w q stop)) e (C.fair (λ q. w q stop)) (λ q. ih q (r.each q (C.has_all q))))

        -- a cell above the limit is left only with a bad corner
        halted : (b t : Bool) → leb stop l ≡ t → (b || t) ≡ true → b ≡ true
        halted true t a z = refl
        halted false true a z = absurd (let g : stop ≤ l = leb→le stop l (rw a tt) in omega arith)
        halted false false a z = absurd (subst T (sym z) tt)

        go : (t : Bool) → pass S c ≡ t
            → (u : Bool)
            → ((first_corner S G l p c).bad || leb stop l) ≡ u
            → Quarters
            → Counted (suc n) l c (walk S G (suc n) l stop p c)
        go true e u k ih = rw (walk-pass S G l stop p c (suc n) e) (counted-pass (suc n) l c e)
        go false e true k ih =
            let a : (first_corner S G l p c).bad ≡ false = ap (λ (v : Walk). v.best.bad) (sym (walk-halt S G l stop p c (suc n) e k)) ∙ h in
            absurd (subst T (sym (halted (first_corner S G l p c).bad (leb stop l) refl k) ∙ a) tt)
        go false e false k ih =
            let d = walk-cut S G l stop p c n e k in
            rw d (all e (ap (λ (v : Walk). v.best.bad) (sym d) ∙ h) ih)
