-- What determines the stored values: each of them is read off from values at a few points. A stored value has degrees in
-- each direction. At weights below its degrees, the values times the binomials, those that leave out an even number of its
-- indices less those that leave out an odd number, are a multiple of it (for one direction of n slots, n! times).
--   below ms         == the rows n ≤ ms with the weight ΠC(m, n): even and odd ones
--   probes ds        == the points with such rows along each direction, not zero, with their weights: even and odd ones
--   readings S l     == the coefficients of the stored values at each of the points l, times its weight, added up
--   readable S       == the test that the values at these points determine all stored values
-- Definitions only.
use Rattle.std.specs.Prelude.{Bool, true, false, cond, ◌&&◌, List, [], ◌∷◌, ◌++◌, map, ℕ, zero, suc, ◌+◌, ◌*◌, ltb, length}
use Rattle.forms.specs.Binomials.{choose, factorial}
use Rattle.forms.specs.Rows.{Row, ◌⊕◌, ◌⊙◌, total, unit}
use Rattle.forms.specs.Cells.{coeffs, same}
use Rattle.forms.specs.Shapes.{Shape, spread}

-- a thing with its weight; those with an even number left out, and those with an odd number
abbrev pub Weighted : Type 0 → Type 0
Weighted A = ℕ × A

abbrev pub Both : Type 0 → Type 0
Both A = List (Weighted A) × List (Weighted A)

abbrev pub joined : {A : Type 0} → Both A → Both A → Both A
joined (a, b) (c, d) = (a ++ c, b ++ d)

abbrev pub changed : {A : Type 0} → ℕ → Both A → Both A
changed zero l = l
changed (suc zero) (even, odd) = (odd, even)
changed (suc (suc j)) l = changed j l

abbrev pub put : ℕ → ℕ → List (Weighted Row) → List (Weighted Row)
put m n [] = []
put m n ((w, r) ∷ l) = (choose m n * w, n ∷ r) ∷ put m n l

-- of m indices n are chosen and j left out, and the same for fewer chosen
abbrev pub fewer : ℕ → ℕ → ℕ → Both Row → Both Row
fewer m zero j (e, o) = changed j (put m 0 e, put m 0 o)
fewer m (suc n) j (e, o) = joined (changed j (put m (suc n) e, put m (suc n) o)) (fewer m n (suc j) (e, o))

abbrev pub below : Row → Both Row
below [] = ((1, []) ∷ [], [])
below (m ∷ ms) = fewer m m 0 (below ms)

-- without the row that weighs nothing
abbrev pub heavy_only : List (Weighted Row) → List (Weighted Row)
heavy_only [] = []
heavy_only ((w, r) ∷ l) = cond (ltb 0 (total r)) ((w, r) ∷ heavy_only l) (heavy_only l)

abbrev pub with : Weighted Row → List (Weighted (List Row)) → List (Weighted (List Row))
with wr [] = []
with (w, r) ((v, rs) ∷ l) = (w * v, r ∷ rs) ∷ with (w, r) l

abbrev pub pairs : List (Weighted Row) → List (Weighted (List Row)) → List (Weighted (List Row))
pairs [] ls = []
pairs (wr ∷ l) ls = with wr ls ++ pairs l ls

abbrev pub probes : List Row → Both (List Row)
probes [] = ((1, []) ∷ [], [])
probes (ms ∷ ds) =
    let (e, o) = below ms in let (E, O) = probes ds in
    (pairs (heavy_only e) E ++ pairs (heavy_only o) O, pairs (heavy_only e) O ++ pairs (heavy_only o) E)

abbrev pub orders : List ℕ → ℕ
orders [] = 1
orders (n ∷ ns) = factorial n * orders ns

abbrev pub heavy : List Row → Bool
heavy [] = true
heavy (w ∷ ws) = ltb 0 (total w) && heavy ws

abbrev pub are_points : List ℕ → List (Weighted (List Row)) → Bool
are_points ss [] = true
are_points ss ((w, ws) ∷ l) = (same (map length ws) ss && heavy ws) && are_points ss l

module _ (S : Shape) where
  abbrev pub readings : List (Weighted (List Row)) → Row
  readings [] = []
  readings ((w, ws) ∷ l) = w ⊙ coeffs (spread S.counts ws) S.place ⊕ readings l

  -- the value of the degrees ds, at place k
  abbrev pub reads_one : ℕ → List Row → Bool
  reads_one k ds =
      let (even, odd) = probes ds in
      (are_points S.sizes even && are_points S.sizes odd) && same (readings even) (orders S.counts ⊙ unit k ⊕ readings odd)

  abbrev pub reads_from : ℕ → List (List Row) → Bool
  reads_from k [] = true
  reads_from k (ds ∷ l) = reads_one k ds && reads_from (suc k) l

  abbrev pub readable : Bool
  readable = ltb 0 (orders S.counts) && reads_from 0 S.entries
