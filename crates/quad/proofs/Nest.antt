-- The loop nest over i1, i2, j1, j2: what its turns add up to, in the sixteen sums at once.
--   home i1 i2 j1 j2   == the place of the sum that this turn adds its term to
--   so_far R i1 i2 j1 j2 == the sums after all turns before this one
--   so-far-start : at first, 0 everywhere
--   so-far-store : a turn adds its term at its home, and leaves the other sums
--   so-far-j1, so-far-i2, so-far-i1 : the end of a loop is a turn of the loop around it
--   so-far-whole : all turns make the sums of relation 27
--   so-far-small : of points within 786432
-- Assumes nothing.
use mathlib.Core.Path.{◌≡◌, refl, sym, ◌∙◌, ap, ap₂, fun_ext}
use mathlib.Core.List.{List}
use Prim.Native.Nat.{ℕ, zero, suc, ◌+◌, ◌*◌, ◌/◌, ◌%◌, ◌≤◌, ◌<◌, zero-le}
use native.Mathlib.Nat as N
use native.Mathlib.Decide.{ℕ_discrete}
use native.Mathlib.Numerals.{add-one}
use native.Mathlib.Omega.{arith}
use lib.IntN.{ℤ, pos, ◌+ℤ◌, +ℤ_assoc, +ℤ_idl, +ℤ_idr}
use lib.ListN.{get_or, set, length, length-set}
use lib.Seq.{ext_get_or, get_or-set_same, get_or-set_other}
use Rattle.algebra.specs.Within.{Within, Each}
use Rattle.algebra.specs.Fill.{list_to}
use Rattle.algebra.proofs.Within.{within-pos, within-+, within-≤, each_of}
use Rattle.algebra.proofs.Fill.{length-list_to, get_d-list_to}
use Rattle.element.specs.Plane.{Vec, sum}
use Rattle.element.specs.Control.{at, term}
use Rattle.element.specs.Paper.{relation27}
use Rattle.points.specs.Points.{Ten}
use Rattle.quad.specs.Points.{grid}
use Rattle.quad.proofs.Terms.{place-column, place-row, term-elsewhere, term-small}

-- ---- sums and stores
-- a summand more, behind others
more : (a : ℤ) (n : ℕ) (f : ℕ → ℤ) → a +ℤ sum n f +ℤ f n ≡ a +ℤ sum (n + 1) f
more a n f = rw (add-one n) (+ℤ_assoc a (sum n f) (f n))

sum-size : {b : ℕ} (f : ℕ → ℤ) → ((k : ℕ) → Within b (f k)) → (n : ℕ) → Within (n * b) (sum n f)
sum-size f p zero = within-≤ (within-pos 0) zero-le
sum-size {b} f p (suc n) = within-≤ (within-+ (sum-size f p n) (p n)) (N.le_of_eq (sym (N.suc-mul n b)))

sum-small : {b n : ℕ} (m : ℕ) (f : ℕ → ℤ) → ((k : ℕ) → Within b (f k)) → n ≤ m → Within (m * b) (sum n f)
sum-small {b} {n} m f p h = within-≤ (sum-size f p n) (N.mul-le-mul_right b h)

-- a list of which one number is stored anew
set-list_to : (n : ℕ) (f g : ℕ → ℤ) (p : ℕ) → p < n → ((k : ℕ) → ¬ (k ≡ p) → f k ≡ g k) → set (list_to n f) p (g p) ≡ list_to n g
set-list_to n f g p h e =
    ext_get_or (pos 0) (set (list_to n f) p (g p)) (list_to n g) (long ∙ sym (length-list_to n g))
    (λ k l. let l' : k < n = rw long at l in go k l' (ℕ_discrete k p) ∙ sym (get_d-list_to n g k l'))
  where
    long : length (set (list_to n f) p (g p)) ≡ n
    long = length-set (list_to n f) p (g p) ∙ length-list_to n f

    go : (k : ℕ) → k < n → Dec (k ≡ p) → get_or (set (list_to n f) p (g p)) k (pos 0) ≡ g k
    go k l (yes q) = rw q (get_or-set_same (list_to n f) p (g p) (pos 0) (rw (length-list_to n f) h))
    go k l (no q) = get_or-set_other (list_to n f) p k (g p) (pos 0) q ∙ get_d-list_to n f k l ∙ e k q

-- ---- the turns
abbrev pub home : ℕ → ℕ → ℕ → ℕ → ℕ
home i1 i2 j1 j2 = (i1 + i2) + 4 * (j1 + j2)

module _ (R : ℕ → ℕ → Vec) where
  -- what a turn adds to the sum at place k; and what all turns of the innermost loop, of two loops, of three
  abbrev share : ℕ → ℕ → ℕ → ℕ → ℕ → ℤ
  share k i1 i2 j1 j2 = term R (k % 4) (k / 4) i1 i2 j1 j2

  abbrev over-j2 : ℕ → ℕ → ℕ → ℕ → ℤ
  over-j2 k i1 i2 j1 = sum 2 (share k i1 i2 j1)

  abbrev over-j1 : ℕ → ℕ → ℕ → ℤ
  over-j1 k i1 i2 = sum 3 (over-j2 k i1 i2)

  abbrev over-i2 : ℕ → ℕ → ℤ
  over-i2 k i1 = sum 3 (over-j1 k i1)

  -- what all turns before (i1, i2, j1, j2) add to it: in the parts that the four loops have behind them
  added : ℕ → ℕ → ℕ → ℕ → ℕ → ℤ
  added i1 i2 j1 j2 k =
      pos 0 +ℤ sum i1 (over-i2 k) +ℤ sum i2 (over-j1 k i1) +ℤ sum j1 (over-j2 k i1 i2) +ℤ sum j2 (share k i1 i2 j1)

  pub so_far : ℕ → ℕ → ℕ → ℕ → List ℤ
  so_far i1 i2 j1 j2 = list_to 16 (added i1 i2 j1 j2)

  pub so-far-start : list_to 16 (λ k. pos 0) ≡ so_far 0 0 0 0
  unfolding so_far added
  so-far-start = refl

  pub so-far-j1 : (i1 i2 j1 : ℕ) → so_far i1 i2 j1 2 ≡ so_far i1 i2 (j1 + 1) 0
  unfolding so_far added
  so-far-j1 i1 i2 j1 =
      ap (list_to 16) (fun_ext (λ k. more (pos 0 +ℤ sum i1 (over-i2 k) +ℤ sum i2 (over-j1 k i1)) j1 (over-j2 k i1 i2) ∙ sym (+ℤ_idr _)))

  pub so-far-i2 : (i1 i2 : ℕ) → so_far i1 i2 3 0 ≡ so_far i1 (i2 + 1) 0 0
  unfolding so_far added
  so-far-i2 i1 i2 =
      ap (list_to 16) (fun_ext (λ k. ap (λ z. z +ℤ pos 0) (more (pos 0 +ℤ sum i1 (over-i2 k)) i2 (over-j1 k i1) ∙ sym (+ℤ_idr _))))

  pub so-far-i1 : (i1 : ℕ) → so_far i1 3 0 0 ≡ so_far (i1 + 1) 0 0 0
  unfolding so_far added
  so-far-i1 i1 = ap (list_to 16) (fun_ext (λ k. ap (λ z. z +ℤ pos 0 +ℤ pos 0) (more (pos 0) i1 (over-i2 k) ∙ sym (+ℤ_idr _))))

  pub so-far-whole : so_far 2 0 0 0 ≡ list_to 16 (λ k. relation27 R (k % 4) (k / 4))
  unfolding so_far added relation27
  so-far-whole = ap (list_to 16) (fun_ext whole)
    where
      whole : (k : ℕ) → added 2 0 0 0 k ≡ relation27 R (k % 4) (k / 4)
      whole k = +ℤ_idr _ ∙ +ℤ_idr _ ∙ +ℤ_idr _ ∙ +ℤ_idl (relation27 R (k % 4) (k / 4))

  -- one turn, at each place
  added-turn : (i1 i2 j1 j2 k : ℕ) → added i1 i2 j1 j2 k +ℤ share k i1 i2 j1 j2 ≡ added i1 i2 j1 (j2 + 1) k
  unfolding added
  added-turn i1 i2 j1 j2 k =
      more (pos 0 +ℤ sum i1 (over-i2 k) +ℤ sum i2 (over-j1 k i1) +ℤ sum j1 (over-j2 k i1 i2)) j2 (share k i1 i2 j1)

  pub so-far-store : (i1 i2 j1 j2 : ℕ) → i1 + i2 < 4 → j1 + j2 < 4
      → let s : List ℤ = so_far i1 i2 j1 j2 in
      let k : ℕ = home i1 i2 j1 j2 in
      set s k (at s k +ℤ term R (i1 + i2) (j1 + j2) i1 i2 j1 j2) ≡ so_far i1 i2 j1 (j2 + 1)
  unfolding so_far
  so-far-store i1 i2 j1 j2 h l =
      let k : ℕ = home i1 i2 j1 j2 in
      ap (set (so_far i1 i2 j1 j2) k) (ap₂ ◌+ℤ◌ (get_d-list_to 16 (added i1 i2 j1 j2) k (omega arith)) here ∙ added-turn i1 i2 j1 j2 k)
      ∙ set-list_to 16 (added i1 i2 j1 j2) (added i1 i2 j1 (j2 + 1)) k (omega arith) elsewhere
    where
      here : term R (i1 + i2) (j1 + j2) i1 i2 j1 j2 ≡ share (home i1 i2 j1 j2) i1 i2 j1 j2
      here = ap₂ (λ I J. term R I J i1 i2 j1 j2) (sym (place-column (i1 + i2) (j1 + j2) h)) (sym (place-row (i1 + i2) (j1 + j2) h))

      elsewhere : (k : ℕ) → ¬ (k ≡ home i1 i2 j1 j2) → added i1 i2 j1 j2 k ≡ added i1 i2 j1 (j2 + 1) k
      elsewhere k n =
          sym (+ℤ_idr (added i1 i2 j1 j2 k))
          ∙ ap (λ z. added i1 i2 j1 j2 k +ℤ z) (sym (term-elsewhere R i1 i2 j1 j2 k n))
          ∙ added-turn i1 i2 j1 j2 k

-- ---- sizes: two, six and eighteen terms inside the loops, and at most 62 in all four parts
module _ {u v : List ℤ} (p : Ten 786432 u) (q : Ten 786432 v) where
  abbrev R : ℕ → ℕ → Vec
  R = grid u v

  share-small : (k i1 i2 j1 j2 : ℕ) → Within 19791209299968 (share R k i1 i2 j1 j2)
  share-small k i1 i2 j1 j2 = term-small p q (k % 4) (k / 4) i1 i2 j1 j2

  over-j2-small : (k i1 i2 j1 : ℕ) → Within 39582418599936 (over-j2 R k i1 i2 j1)
  over-j2-small k i1 i2 j1 = sum-size (share R k i1 i2 j1) (share-small k i1 i2 j1) 2

  over-j1-small : (k i1 i2 : ℕ) → Within 118747255799808 (over-j1 R k i1 i2)
  over-j1-small k i1 i2 = sum-size (over-j2 R k i1 i2) (over-j2-small k i1 i2) 3

  over-i2-small : (k i1 : ℕ) → Within 356241767399424 (over-i2 R k i1)
  over-i2-small k i1 = sum-size (over-j1 R k i1) (over-j1-small k i1) 3

  added-small : (i1 i2 j1 j2 k : ℕ) → i1 ≤ 2 → i2 ≤ 3 → j1 ≤ 3 → j2 ≤ 2 → Within 1227054976598016 (added R i1 i2 j1 j2 k)
  unfolding added
  added-small i1 i2 j1 j2 k a b c d =
      within-+ (within-+ (within-+ (within-+ (within-pos 0) (sum-small 2 (over-i2 R k) (over-i2-small k) a))
      (sum-small 3 (over-j1 R k i1) (over-j1-small k i1) b)) (sum-small 3 (over-j2 R k i1 i2) (over-j2-small k i1 i2) c))
      (sum-small 2 (share R k i1 i2 j1) (share-small k i1 i2 j1) d)

  pub so-far-small : (i1 i2 j1 j2 : ℕ) → i1 ≤ 2 → i2 ≤ 3 → j1 ≤ 3 → j2 ≤ 2 → Each 1227054976598016 (so_far (grid u v) i1 i2 j1 j2)
  unfolding so_far
  so-far-small i1 i2 j1 j2 a b c d =
      each_of (λ k h. let l : k < 16 = rw (length-list_to 16 (added R i1 i2 j1 j2)) at h in
      rw (get_d-list_to 16 (added R i1 i2 j1 j2) k l) (added-small i1 i2 j1 j2 k a b c d))
