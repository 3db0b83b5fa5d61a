-- The law of walks: what the walk under the limit L answers is the verdict of 01's three sentences.
--   walk-judges     : that
-- For every subject whose bad points and shown values are those of its form (an element is one), and every true chart of its
-- shape. Assumes nothing.
use mathlib.Core.Path.{◌≡◌, refl, sym, ◌∙◌, ap, subst}
use mathlib.Core.Bool.{Bool, true, false, cond}
use mathlib.Core.List.{List}
use Prim.Native.Nat.{ℕ, ◌^◌, ◌≤◌}
use native.Mathlib.Nat as N
use native.Mathlib.Omega.{arith}
use native.Mathlib.Decide.{dec_le}
use lib.Dec.{eqb, eqb→eq, eqb_refl}
use lib.IntN.{ℤ, pos}
use lib.Signed.{◌≤ℤ◌}
use Rattle.algebra.proofs.Truth.{T_false}
use Rattle.forms.specs.Rows.{Row}
use Rattle.forms.specs.Cuttings.{depth, opens}
use Rattle.forms.specs.Shapes.{pass, cut_to, scaled, entry}
use Rattle.forms.specs.Grids.{grid_point}
use Rattle.forms.proofs.Cuttings.{greedy-level, greedy-fits, level-opens}
use Rattle.forms.proofs.Shapes.{inherit}
use Rattle.judge.specs.Verdict.{is_valid, is_invalid, is_undecided, Subject, Valid, Invalid, Undecided, Judges}
use Rattle.judge.specs.Faithful.{value_at, Faithful}
use Rattle.judge.proofs.Levels.{passes-level, level-passes, passes_up}
use Rattle.judge.proofs.Computed.{cells-least}
use Rattle.corners.specs.First.{something}
use Rattle.corners.specs.declared.First.{First}
use Rattle.steps.specs.declared.Walk.{Walk}
use Rattle.walks.specs.Walk.{Spot, Chart, walk, answer}
use Rattle.walks.proofs.Best.{Before, Best, best-some, best_none}
use Rattle.walks.proofs.Charts.{Charted}
use Rattle.walks.proofs.Found.{Met, walk-best}
use Rattle.walks.proofs.Counts.{Tally, Counted, walk-counts}

module _ (s : Subject) (f : Faithful s) (G : Chart) (C : Charted s.shape G) (L : ℕ) where
  abbrev Seen : First → Type 0
  Seen x = Met s.shape f.lawful G C L 0 L G.start s.values x

  -- ---- the bad points of the levels up to the limit are what the walk is to find
  bad-seen : (d i j : ℕ) → d ≤ L → s.Bad d i j → Seen (something d i j (value_at s d i j))
  bad-seen d i j h b =
      let (g, low) = f.bad_low d i j b in
      let (e, a) = f.lawful.on_grid (2 ^ d) i j g.row_in g.column_in in
      record {
        down = d;
        within = h;
        above = omega arith;
        weights = grid_point s.shape d i j;
        sized = e;
        adds = a;
        low = low;
        level-is = sym (N.zero-add d);
        there = C.whole (2 ^ d) i j g.row_in g.column_in;
        value-is = refl;
      }

  record SeenBad (d i j : ℕ) (v : ℤ) : Type 0 where
    within : d ≤ L
    bad : s.Bad d i j
    value-is : v ≡ value_at s d i j

  moved : {d e i k j l : ℕ} {v : ℤ} → e ≡ d → k ≡ i → l ≡ j → SeenBad e k l v → SeenBad d i j v
  moved p q r b = rw (← p, ← q, ← r) b

  -- a point of the grid that is met is bad where it stands
  at_point : (x : First) (m : Seen x) (i j : ℕ) → j ≤ 2 ^ m.down
      → i ≤ s.shape.last (2 ^ m.down) j
      → s.shape.rows (2 ^ m.down) i j ≡ m.weights
      → SeenBad x.level x.i x.j x.value
  at_point x m i j r c e =
      let spots : ◌≡◌ {A = Spot} (record { i = i; j = j }) (record { i = x.i; j = x.j })
      = sym (C.whole (2 ^ m.down) i j r c) ∙ ap (C.stands G.start) e ∙ m.there in
      moved (sym (m.level-is ∙ N.zero-add m.down)) (ap (λ (p : Spot). p.i) spots) (ap (λ (p : Spot). p.j) spots)
      (record {
        within = m.within;
        bad = f.low_bad m.down i j (record { row_in = r; column_in = c })
            (subst (λ (v : List Row). scaled s.shape s.values v ≤ℤ pos 0) (sym e) m.low);
        value-is = m.value-is ∙ ap (scaled s.shape s.values) (sym e);
      })

  seen-bad : (x : First) → Seen x → SeenBad x.level x.i x.j x.value
  seen-bad x m =
      let (r, c, e) = f.lawful.indexed (2 ^ m.down) m.weights m.sized m.adds in
      at_point x m (entry s.shape.column m.weights) (entry s.shape.row m.weights) r c e

  -- ---- the three cases
  is-first : (x : First) → Seen x → ((y : First) → Seen y → Before x y) → Invalid s L (is_invalid x.level x.i x.j x.value)
  is-first x m least =
      record {
        within = b.within;
        first =
            record {
              bad = b.bad;
              least = λ d i j q. up d i j q;
              first_row = λ i j q. (earlier x.level i j b.within q).row refl;
              first_column = λ i q. (earlier x.level i x.j b.within q).column refl refl;
            };
        shown = subst (λ (z : ℤ). s.Shows x.level x.i x.j z) (sym b.value-is)
            (f.is_shown x.level x.i x.j (f.bad_low x.level x.i x.j b.bad).0);
        no_cells = refl;
      }
    where
      b : SeenBad x.level x.i x.j x.value
      b = seen-bad x m

      earlier : (d i j : ℕ) → d ≤ L → s.Bad d i j → Before x (something d i j (value_at s d i j))
      earlier d i j h q = least (something d i j (value_at s d i j)) (bad-seen d i j h q)

      up : (d i j : ℕ) → s.Bad d i j → x.level ≤ d
      up d i j q = go (dec_le d L)
        where
          go : Dec (d ≤ L) → x.level ≤ d
          go (yes h) = (earlier d i j h q).up
          go (no h) = let k = b.within in omega arith

  all_pass : (w : Walk) → Tally s.shape f.lawful L 0 s.values w → Valid s L (is_valid w.deep w.cells)
  all_pass w t =
      let (p, least) = greedy-level (pass s.shape) (cut_to s.shape) (inherit s.shape f.lawful) L s.values t.cutting t.found in
      let h : depth t.cutting ≤ L = (greedy-fits (pass s.shape) (cut_to s.shape) L s.values t.cutting t.found).1 in
      rw (t.deep_is ∙ N.zero-add (depth t.cutting), t.cells_are)
      (record {
        within = h;
        level = record { passing = level-passes s f (depth t.cutting) p; least = λ d q. least d (passes-level s f d q) };
        count = cells-least s f L t.cutting t.found;
        no_column = refl;
        no_row = refl;
        no_value = refl;
      })

  some-fail : (n : ℕ) → ((x : First) → ¬ Seen x) → n ≡ opens (pass s.shape) (cut_to s.shape) L s.values
      → ¬ (n ≡ 0)
      → Undecided s L (is_undecided L n)
  some-fail n none e g =
      record {
        at_limit = refl;
        none_passes = λ d h p. g (e ∙ level-opens (pass s.shape) (cut_to s.shape) L s.values (passes-level s f L (passes_up s f d L h p)));
        none_bad = λ d i j h b. none (something d i j (value_at s d i j)) (bad-seen d i j h b);
        count = e;
        no_column = refl;
        no_row = refl;
        no_value = refl;
      }

  judged : (w : Walk) → Best Seen w.best → (w.best.bad ≡ false → Counted s.shape f.lawful L 0 s.values w) → Judges s L (answer L w)
  judged w b counts = go w.best.bad refl (eqb w.failing 0) refl
    where
      go : (t : Bool) → w.best.bad ≡ t → (u : Bool) → eqb w.failing 0 ≡ u
          → Judges s L
          (cond t (is_invalid w.best.level w.best.i w.best.j w.best.value)
          (cond u (is_valid w.deep w.cells) (is_undecided L w.failing)))
      go true e u k = let (m, least) = best-some Seen w.best e b in is-first w.best m least
      go false e true k = all_pass w ((counts e).tally (eqb→eq w.failing 0 (rw k tt)))
      go false e false k =
          some-fail w.failing (best_none Seen w.best e b) (counts e).failing-are
          (λ z. T_false (eqb w.failing 0) k (rw z (eqb_refl 0)))

  pub walk-judges : Judges s L (answer L (walk s.shape G L 0 L G.start s.values))
  walk-judges =
      judged (walk s.shape G L 0 L G.start s.values) (walk-best s.shape f.lawful G C L 0 L G.start s.values)
      (λ e. walk-counts s.shape f.lawful G C L 0 L G.start s.values (sym (N.zero-add L)) e)
