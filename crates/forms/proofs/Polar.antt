-- Two lists of stored values with the same value at all points are the same list.
--   stored-only      : for every shape whose values are readable
--   six-readable, ten-readable, quad-readable : those of the triangles and of the quad are
-- Assumes nothing.
use mathlib.Core.Path.{◌≡◌, refl, sym, ◌∙◌, ap, ap₂, subst}
use mathlib.Core.Bool.{◌&&◌}
use mathlib.Core.List.{List, [], ◌∷◌, map}
use Prim.Native.Nat.{ℕ, zero, suc, ◌+◌, ◌<◌}
use native.Mathlib.Nat as N
use native.Mathlib.Omega.{arith}
use lib.Dec.{T, ltb, ltb→lt}
use lib.IntN.{ℤ, pos, ◌+ℤ◌, ◌*ℤ◌, +ℤ_comm, *ℤ_comm}
use lib.ListN.{get_or, length}
use lib.Seq.{ext_get_or}
use Rattle.algebra.proofs.Truth.{T_and}
use Rattle.algebra.proofs.Ring.{+ℤ-cancel}
use Rattle.algebra.proofs.Order.{0<pos, *ℤ-cancel}
use Rattle.forms.specs.Rows.{Row, ◌⊕◌, ◌⊙◌, total, weigh, unit}
use Rattle.forms.specs.Cells.{dot, coeffs, same}
use Rattle.forms.specs.Shapes.{Shape, spread, scaled, Heavy, Point}
use Rattle.forms.specs.Triangles.{six, ten}
use Rattle.forms.specs.Quads.{quad}
use Rattle.forms.specs.Polar.{Weighted, Both, probes, orders, heavy, are_points, readings, reads_one, reads_from, readable}
use Rattle.forms.proofs.Rows.{weigh-⊕, weigh-⊙, weigh-unit}
use Rattle.forms.proofs.Cells.{same-eq, value-stored}

heavy-is : (ws : List Row) → T (heavy ws) → Heavy ws
heavy-is [] t = tt
heavy-is (w ∷ ws) t = let (u, v) = T_and (ltb 0 (total w)) (heavy ws) t in (ltb→lt 0 (total w) u, heavy-is ws v)

module _ (S : Shape) (a b : List ℤ) (agree : (ws : List Row) → Point S ws → scaled S a ws ≡ scaled S b ws) where
  probe-agrees : (ws : List Row) → T (same (map length ws) S.sizes && heavy ws)
      → dot (coeffs (spread S.counts ws) S.place) a ≡ dot (coeffs (spread S.counts ws) S.place) b
  unfolding scaled
  probe-agrees ws t =
      let (u, v) = T_and (same (map length ws) S.sizes) (heavy ws) t in
      sym (value-stored (spread S.counts ws) S.place a)
      ∙ agree ws (record { sized = same-eq (map length ws) S.sizes u; heavy = heavy-is ws v })
      ∙ value-stored (spread S.counts ws) S.place b

  readings-agree : (l : List (Weighted (List Row))) → T (are_points S.sizes l) → dot (readings S l) a ≡ dot (readings S l) b
  unfolding weigh
  readings-agree [] t = refl
  readings-agree ((w, ws) ∷ l) t =
      let (u, v) = T_and (same (map length ws) S.sizes && heavy ws) (are_points S.sizes l) t in
      let r : Row = coeffs (spread S.counts ws) S.place in
      weigh-⊕ (w ⊙ r) (readings S l) (λ i. get_or a i (pos 0))
      ∙ ap₂ ◌+ℤ◌
      (weigh-⊙ w r (λ i. get_or a i (pos 0)) ∙ ap (λ z. pos w *ℤ z) (probe-agrees ws u) ∙ sym (weigh-⊙ w r (λ i. get_or b i (pos 0))))
      (readings-agree l v)
      ∙ sym (weigh-⊕ (w ⊙ r) (readings S l) (λ i. get_or b i (pos 0)))

  -- m·aₖ and the odd readings are the even readings, and the same for b
  one-reading : (m k : ℕ) (r : Row) (c : List ℤ) → dot (m ⊙ unit k ⊕ r) c ≡ pos m *ℤ get_or c k (pos 0) +ℤ dot r c
  one-reading m k r c =
      weigh-⊕ (m ⊙ unit k) r (λ i. get_or c i (pos 0))
      ∙ ap (λ z. z +ℤ dot r c) (weigh-⊙ m (unit k) (λ i. get_or c i (pos 0)) ∙ ap (λ z. pos m *ℤ z) (weigh-unit k (λ i. get_or c i (pos 0))))

  reads-one : 0 < orders S.counts → (k : ℕ) (ds : List Row) → T (reads_one S k ds) → get_or a k (pos 0) ≡ get_or b k (pos 0)
  reads-one p k ds t = go (probes ds) t
    where
      m : ℕ
      m = orders S.counts

      go : (eo : Both (List Row))
          → T ((are_points S.sizes eo.0 && are_points S.sizes eo.1) && same (readings S eo.0) (orders S.counts ⊙ unit k ⊕ readings S eo.1))
          → get_or a k (pos 0) ≡ get_or b k (pos 0)
      go (even, odd) t =
          let (u, v) = T_and (are_points S.sizes even && are_points S.sizes odd) (same (readings S even) (m ⊙ unit k ⊕ readings S odd)) t in
          let (x, y) = T_and (are_points S.sizes even) (are_points S.sizes odd) u in
          let e : readings S even ≡ m ⊙ unit k ⊕ readings S odd = same-eq (readings S even) (m ⊙ unit k ⊕ readings S odd) v in
          let sums : pos m *ℤ get_or a k (pos 0) +ℤ dot (readings S odd) a ≡ pos m *ℤ get_or b k (pos 0) +ℤ dot (readings S odd) b
          = sym (one-reading m k (readings S odd) a) ∙ ap (λ (r : Row). dot r a) (sym e) ∙ readings-agree even x ∙ ap (λ (r : Row). dot r b) e ∙ one-reading m k (readings S odd) b in
          let same-odd : dot (readings S odd) a ≡ dot (readings S odd) b = readings-agree odd y in
          *ℤ-cancel (get_or a k (pos 0)) (get_or b k (pos 0)) (pos m) (0<pos p)
          (*ℤ_comm (get_or a k (pos 0)) (pos m)
          ∙ +ℤ-cancel (dot (readings S odd) a) (pos m *ℤ get_or a k (pos 0)) (pos m *ℤ get_or b k (pos 0))
          (+ℤ_comm (dot (readings S odd) a) (pos m *ℤ get_or a k (pos 0)) ∙ sums ∙ ap (λ z. pos m *ℤ get_or b k (pos 0) +ℤ z) (sym same-odd) ∙ +ℤ_comm (pos m *ℤ get_or b k (pos 0)) (dot (readings S odd) a))
          ∙ *ℤ_comm (pos m) (get_or b k (pos 0)))

  reads-from : 0 < orders S.counts
      → (k : ℕ) (l : List (List Row))
      → T (reads_from S k l)
      → (i : ℕ)
      → i < length l
      → get_or a (k + i) (pos 0) ≡ get_or b (k + i) (pos 0)
  reads-from p k [] t i h = absurd (N.not-suc-le-zero h)
  reads-from p k (ds ∷ l) t zero h = rw (N.add-zero k) (reads-one p k ds (T_and (reads_one S k ds) (reads_from S (suc k) l) t).0)
  reads-from p k (ds ∷ l) t (suc i) h =
      let e : k + suc i ≡ suc k + i = omega arith in
      rw e (reads-from p (suc k) l (T_and (reads_one S k ds) (reads_from S (suc k) l) t).1 i (N.le_of_suc-le-suc h))

  pub stored-only : T (readable S) → length a ≡ length S.entries → length b ≡ length S.entries → a ≡ b
  stored-only t la lb =
      let (u, v) = T_and (ltb 0 (orders S.counts)) (reads_from S 0 S.entries) t in
      ext_get_or (pos 0) a b (la ∙ sym lb) (λ i h. rw (N.zero-add i) at (reads-from (ltb→lt 0 (orders S.counts) u) 0 S.entries v i (rw la at h)))

pub six-readable : T (readable six)
six-readable = tt

pub ten-readable : T (readable ten)
ten-readable = tt

pub quad-readable : T (readable quad)
quad-readable = tt
