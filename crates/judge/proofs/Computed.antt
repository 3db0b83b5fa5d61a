-- The verdict as a function that computes, level by level; it is the verdict of 01's sentences, so some case always holds.
--   verdict s L      : level by level: valid if the level passes, else invalid if a point of its grid is bad, else the next
--   verdict-is       : it is the verdict
--   cells-least      : the greedy cutting gives the least number of cells
-- For every faithful subject. Assumes nothing.
use mathlib.Core.Path.{◌≡◌, refl, sym, ◌∙◌, ap, subst}
use mathlib.Core.Bool.{Bool, true, false, not}
use mathlib.Core.List.{List}
use mathlib.Core.Option.{Option, none, some}
use Prim.Native.Nat.{ℕ, zero, suc, ◌+◌, ◌^◌, ◌≤◌, ◌<◌, zero-le}
use native.Mathlib.Nat as N
use native.Mathlib.Omega.{arith}
use native.Mathlib.Decide.{dec_le}
use lib.Dec.{T, not_T}
use lib.IntN.{ℤ, pos}
use lib.Signed.{◌≤ℤ◌, lt_z, clash_ℤ, lt_z_no, lt_z_yes}
use Rattle.algebra.proofs.Truth.{T_true, T_false}
use Rattle.forms.specs.Cuttings.{Cutting, leaves, depth, full, level, opens, greedy}
use Rattle.forms.specs.Shapes.{pass, cut_to}
use Rattle.forms.specs.Grids.{OnGrid}
use Rattle.forms.proofs.Cuttings.{depth-full, level-full, greedy-exists, greedy-fits, greedy-least}
use Rattle.judge.specs.Verdict.{Answer, is_valid, is_invalid, is_undecided, Subject, AllPass, LeastCells, Judges}
use Rattle.judge.specs.Faithful.{value_at, Faithful}
use Rattle.judge.proofs.Levels.{Level, passes-level, level-passes, passes_up}
use Rattle.judge.proofs.Search.{least, IsLeast, least-is}

module _ (s : Subject) where
  -- ---- bad points, row by row
  unfoldable pub low : ℕ → ℕ → ℕ → Bool
  low d j i = not (lt_z (pos 0) (value_at s d i j))

  unfoldable pub in_row : ℕ → ℕ → Option ℕ
  in_row d j = least (λ i. low d j i) 0 (suc (s.shape.last (2 ^ d) j))

  unfoldable pub row_low : ℕ → ℕ → Bool
  row_low d j = elim (in_row d j) [ none ↦ false | some i ↦ true ]

  unfoldable pub row_of_first : ℕ → Option ℕ
  row_of_first d = least (λ j. row_low d j) 0 (suc (2 ^ d))

  -- ---- the answers
  unfoldable pub cells_of : Option Cutting → ℕ
  cells_of none = 0
  cells_of (some t) = leaves t

  unfoldable pub least-count : ℕ → ℕ
  least-count L = cells_of (greedy (pass s.shape) (cut_to s.shape) L s.values)

  unfoldable pub in_row_told : ℕ → ℕ → Option ℕ → Answer
  in_row_told d j none = is_undecided 0 0
  in_row_told d j (some i) = is_invalid d i j (value_at s d i j)

  unfoldable pub from : ℕ → ℕ → ℕ → Answer
  from L d zero = is_undecided L (opens (pass s.shape) (cut_to s.shape) L s.values)
  from L d (suc n) =
      elim (level (pass s.shape) (cut_to s.shape) d s.values) [
        | true ↦ is_valid d (least-count L)
        | false ↦ elim (row_of_first d) [ some j ↦ in_row_told d j (in_row d j) | none ↦ from L (suc d) n ]
      ]

  unfoldable pub verdict : ℕ → Answer
  verdict L = from L 0 (suc L)

module _ (s : Subject) (f : Faithful s) where
  low_is : (d i j : ℕ) → OnGrid s.shape d i j → T (low s d j i) → s.Bad d i j
  unfolding low
  low_is d i j g t = f.low_bad d i j g (lt_z_no t)

  is-low : (d i j : ℕ) → s.Bad d i j → T (low s d j i)
  unfolding low
  is-low d i j b = not_T (lt_z (pos 0) (value_at s d i j)) (λ t. clash_ℤ (lt_z_yes t) (f.bad_low d i j b).1)

  -- ---- the first bad point of a level
  module _ (d : ℕ) where
    in-row : (j : ℕ) → IsLeast (λ i. low s d j i) 0 (suc (s.shape.last (2 ^ d) j)) (in_row s d j)
    unfolding in_row
    in-row j = least-is (λ i. low s d j i) (suc (s.shape.last (2 ^ d) j)) 0

    of-rows : IsLeast (λ j. row_low s d j) 0 (suc (2 ^ d)) (row_of_first s d)
    unfolding row_of_first
    of-rows = least-is (λ j. row_low s d j) (suc (2 ^ d)) 0

    row-none : (j : ℕ) → in_row s d j ≡ none → ¬ T (row_low s d j)
    unfolding row_low
    row-none j e = rw (e, row_low) (λ t. t)

    row-some : (j i : ℕ) → in_row s d j ≡ some i → T (row_low s d j)
    unfolding row_low
    row-some j i e = rw (e, row_low) tt

    bad-row : (i j : ℕ) → s.Bad d i j → T (row_low s d j)
    bad-row i j b = go (in_row s d j) refl
      where
        go : (o : Option ℕ) → in_row s d j ≡ o → T (row_low s d j)
        go none e =
            let h : IsLeast (λ z. low s d j z) 0 (suc (s.shape.last (2 ^ d) j)) none = rw e at (in-row j) in
            let c = (f.bad_low d i j b).0.column_in in
            absurd (h i zero-le (omega arith) (is-low d i j b))
        go (some z) e = row-some j z e

    none_bad : row_of_first s d ≡ none → (i j : ℕ) → ¬ s.Bad d i j
    none_bad e i j b =
        let h : IsLeast (λ z. row_low s d z) 0 (suc (2 ^ d)) none = rw e at of-rows in
        let r = (f.bad_low d i j b).0.row_in in
        h j zero-le (omega arith) (bad-row i j b)

    record First (i j : ℕ) : Type 0 where
      bad : s.Bad d i j
      first_row : (i' j' : ℕ) → s.Bad d i' j' → j ≤ j'
      first_column : (i' : ℕ) → s.Bad d i' j → i ≤ i'

    first-bad : (j : ℕ) → row_of_first s d ≡ some j → (i : ℕ) × (in_row s d j ≡ some i) × First i j
    first-bad j e = go (in_row s d j) refl
      where
        h : IsLeast (λ z. row_low s d z) 0 (suc (2 ^ d)) (some j)
        h = rw e at of-rows

        go : (o : Option ℕ) → in_row s d j ≡ o → (i : ℕ) × (in_row s d j ≡ some i) × First i j
        go none k = absurd (row-none j k h.0)
        go (some i) k = (
          i,
          k,
          record {
            bad = low_is d i j (record { row_in = let q = h.2 in omega arith; column_in = let q = r.2 in omega arith }) r.0;
            first_row = λ i' j' b. earlier j' (dec_le j j') (bad-row i' j' b);
            first_column = λ i' b. before i' (dec_le i i') (is-low d i' j b);
          },
        )
          where
            r : IsLeast (λ z. low s d j z) 0 (suc (s.shape.last (2 ^ d) j)) (some i)
            r = rw k at (in-row j)

            earlier : (j' : ℕ) → Dec (j ≤ j') → T (row_low s d j') → j ≤ j'
            earlier j' (yes l) t = l
            earlier j' (no l) t = absurd (h.3 j' zero-le (omega arith) t)

            before : (i' : ℕ) → Dec (i ≤ i') → T (low s d j i') → i ≤ i'
            before i' (yes l) t = l
            before i' (no l) t = absurd (r.3 i' zero-le (omega arith) t)

  -- ---- the least number of cells
  module _ (L : ℕ) where
    pub cells-least : (g : Cutting) → greedy (pass s.shape) (cut_to s.shape) L s.values ≡ some g → LeastCells s L (leaves g)
    cells-least g e =
        let (p, q) = greedy-fits (pass s.shape) (cut_to s.shape) L s.values g e in
        record {
          attained = record { cutting = g; passing = p; within = q; many = refl };
          fewest = λ t h k. (greedy-least (pass s.shape) (cut_to s.shape) L s.values g e t h).0;
        }

    count_is : (d : ℕ) → Level s f d → d ≤ L → LeastCells s L (least-count s L)
    unfolding least-count cells_of
    count_is d t h =
        let (g, e) = greedy-exists (pass s.shape) (cut_to s.shape) (full d) L s.values (level-full (pass s.shape) (cut_to s.shape) d s.values t) (rw (depth-full d) h) in
        rw e (cells-least g e)

    -- ---- level by level
    from-valid : (d n : ℕ) → level (pass s.shape) (cut_to s.shape) d s.values ≡ true
        → from s L d (suc n) ≡ is_valid d (least-count s L)
    unfolding from
    from-valid d n e = rw (e, from)

    from-invalid : (d n i j : ℕ) → level (pass s.shape) (cut_to s.shape) d s.values ≡ false
        → row_of_first s d ≡ some j
        → in_row s d j ≡ some i
        → from s L d (suc n) ≡ is_invalid d i j (value_at s d i j)
    unfolding from in_row_told
    from-invalid d n i j e h k = rw (e, h, k, from)

    from_next : (d n : ℕ) → level (pass s.shape) (cut_to s.shape) d s.values ≡ false
        → row_of_first s d ≡ none
        → from s L d (suc n) ≡ from s L (suc d) n
    unfolding from
    from_next d n e h = rw (e, h, from)

    up_to : (P : ℕ → Type 0) (d : ℕ) → ((e : ℕ) → e < d → P e) → P d → (e : ℕ) → e < suc d → P e
    up_to P d g p e h = go (dec_le (suc e) d)
      where
        go : Dec (suc e ≤ d) → P e
        go (yes k) = g e k
        go (no k) = let q : e ≡ d = omega arith in rw q p

    not_earlier : (P : ℕ → Type 0) (d : ℕ) → ((e : ℕ) → e < d → ¬ P e) → (e : ℕ) → P e → d ≤ e
    not_earlier P d g e p = go (dec_le d e)
      where
        go : Dec (d ≤ e) → d ≤ e
        go (yes h) = h
        go (no h) = absurd (g e (omega arith) p)

    abbrev SomeBad : ℕ → Type 0
    SomeBad e = (i : ℕ) × (j : ℕ) × s.Bad e i j

    from_is : (n d : ℕ) → d + n ≡ suc L → ((e : ℕ) → e < d → ¬ AllPass s e) → ((e : ℕ) → e < d → ¬ SomeBad e) → Judges s L (from s L d n)
    from_is zero d h np nb =
        unfold from in
        record {
          at_limit = refl;
          none_passes = λ e k. np e (omega arith);
          none_bad = λ e i j k b. nb e (omega arith) (i, j, b);
          count = refl;
          no_column = refl;
          no_row = refl;
          no_value = refl;
        }
    from_is (suc n) d h np nb = go (level (pass s.shape) (cut_to s.shape) d s.values) refl (row_of_first s d) refl (λ k m. from_is n (suc d) (omega arith) k m)
      where
        Later : Type 0
        Later = ((e : ℕ) → e < suc d → ¬ AllPass s e) → ((e : ℕ) → e < suc d → ¬ SomeBad e) → Judges s L (from s L (suc d) n)

        go : (b : Bool) → level (pass s.shape) (cut_to s.shape) d s.values ≡ b
            → (o : Option ℕ)
            → row_of_first s d ≡ o
            → Later
            → Judges s L (from s L d (suc n))
        go true e o w r =
            let t : Level s f d = rw e tt in
            rw (from-valid d n e)
            (record {
              within = omega arith;
              level = record { passing = level-passes s f d t; least = not_earlier (AllPass s) d np };
              count = count_is d t (omega arith);
              no_column = refl;
              no_row = refl;
              no_value = refl;
            })
        go false e (some j) w r =
            let (i, k, p) = first-bad d j w in
            rw (from-invalid d n i j e w k)
            (record {
              within = omega arith;
              first =
                  record {
                    bad = p.bad;
                    least = λ e' i' j' b. not_earlier SomeBad d nb e' (i', j', b);
                    first_row = p.first_row;
                    first_column = p.first_column;
                  };
              shown = f.is_shown d i j (f.bad_low d i j p.bad).0;
              no_cells = refl;
            })
        go false e none w r =
            rw (from_next d n e w)
            (r (up_to (λ z. ¬ AllPass s z) d np (λ q. T_false (level (pass s.shape) (cut_to s.shape) d s.values) e (passes-level s f d q)))
            (up_to (λ z. ¬ SomeBad z) d nb (λ q. none_bad d w q.0 q.1 q.2)))

    pub verdict-is : Judges s L (verdict s L)
    unfolding verdict
    verdict-is = from_is (suc L) 0 (omega arith) (λ e h. absurd (omega arith)) (λ e h. absurd (omega arith))
