-- Where the quarters of a triangle's cell stand, and the room of its walk and of one more cut.
--   column_of, row_of, up_of == the first corner of a quarter, and whether it points up: the middle one points the other way
--   sub-corners     : those are the corners that the law gives the quarter
--   cut-room, room-x, room-y : what the callees need
--   quarter-room    : a quarter has room for one cut less
--   room_of         : the whole element has room for n cuts where its values have room for m, no fewer
--   start-room      : of six nodes, for ten cuts, where they are within 2^42
-- Over the shape of a triangle, of any degree.
-- Assumes nothing.
use mathlib.Core.Path.{◌≡◌, refl}
use mathlib.Core.Bool.{Bool, true, false, not}
use mathlib.Core.List.{List, [], ◌∷◌}
use Prim.Native.Nat.{ℕ, ◌+◌, ◌*◌, ◌-◌, ◌^◌, ◌≤◌, ◌<◌}
use native.Mathlib.Nat as N
use native.Mathlib.Omega.{arith}
use lib.Dec.{lit≤}
use lib.IntN.{ℤ}
use Rattle.algebra.specs.Within.{Each}
use Rattle.algebra.proofs.Within.{each-≤}
use Rattle.forms.specs.Cuttings.{Four, first, second, third, fourth}
use Rattle.forms.specs.Shapes.{Shape, cut_to, Lawful}
use Rattle.forms.specs.Triangles.{six}
use Rattle.walks.specs.Triangles.{Corners, triangle_chart}
use Rattle.walks.specs.Room.{cap, span}
use Rattle.walks.proofs.Room.{cap-cut, cap-down, cap-quarter, span-le, span-cut, span-down}
use Rattle.triangle_walk.specs.Walks.{ahead, corners, least, Low, Room}

-- ---- the place of a quarter
abbrev pub column_of : Four → Bool → ℕ → ℕ
column_of first up i = 2 * i
column_of second up i = i + ahead up i
column_of third up i = 2 * i
column_of fourth up i = i + ahead up i

abbrev pub row_of : Four → Bool → ℕ → ℕ
row_of first up j = 2 * j
row_of second up j = 2 * j
row_of third up j = j + ahead up j
row_of fourth up j = j + ahead up j

abbrev pub up_of : Four → Bool → Bool
up_of first up = up
up_of second up = up
up_of third up = up
up_of fourth up = not up

-- on the grid below: ahead of twice k stands the middle, ahead of the middle twice the one ahead, and behind it twice k
record Doubled (up : Bool) (k : ℕ) : Type 0 where
  middle : ahead up (2 * k) ≡ k + ahead up k
  far : ahead up (k + ahead up k) ≡ 2 * ahead up k
  back : ahead (not up) (k + ahead up k) ≡ 2 * k

doubled : (up : Bool) (k : ℕ) → least up ≤ k → Doubled up k
doubled true k h = record { middle = omega arith; far = omega arith; back = omega arith }
doubled false k h = record { middle = omega arith; far = omega arith; back = omega arith }

corners-≡ : {a b c d e f p q r s t u : ℕ} → a ≡ p → b ≡ q → c ≡ r → d ≡ s → e ≡ t → f ≡ u
    → ◌≡◌ {A = Corners} (record { xs = a ∷ b ∷ c ∷ []; ys = d ∷ e ∷ f ∷ [] }) (record { xs = p ∷ q ∷ r ∷ []; ys = s ∷ t ∷ u ∷ [] })
corners-≡ a b c d e f = λ z. record { xs = a z ∷ b z ∷ c z ∷ []; ys = d z ∷ e z ∷ f z ∷ [] }

pub sub-corners : (q : Four) (i j : ℕ) (up : Bool) → least up ≤ i → least up ≤ j
    → corners (column_of q up i) (row_of q up j) (up_of q up) ≡ triangle_chart.sub q (corners i j up)
sub-corners first i j up h k =
    let x = doubled up i h in let y = doubled up j k in
    corners-≡ refl x.middle (omega arith) refl (omega arith) y.middle
sub-corners second i j up h k =
    let x = doubled up i h in let y = doubled up j k in
    corners-≡ refl x.far (omega arith) (omega arith) refl y.middle
sub-corners third i j up h k =
    let x = doubled up i h in let y = doubled up j k in
    corners-≡ (omega arith) (omega (arith, x.middle)) refl refl refl y.far
sub-corners fourth i j up h k =
    let x = doubled up i h in let y = doubled up j k in
    corners-≡ (omega arith) (omega (arith, x.back)) refl refl refl (omega (arith, y.back))

-- ---- room
low-≤ : {a b k : ℕ} {up : Bool} → Low a up k → a ≤ b → Low b up k
low-≤ p h = record { here = N.le_trans p.here h; there = N.le_trans p.there h; before = p.before }

-- twice k, and the middle, which may stand in a cell that points the other way
low_near : {a b k : ℕ} (up : Bool) → Low a up k → 2 * a ≤ b → Low b up (2 * k)
low_near true p h = record { here = omega (arith, p.here); there = omega (arith, p.there); before = omega arith }
low_near false p h = record { here = omega (arith, p.here); there = omega (arith, p.here); before = omega (arith, p.before) }

low-middle : {a b k : ℕ} (up : Bool) → Low a up k → 2 * a ≤ b → Low b up (k + ahead up k)
low-middle true p h = record { here = omega (arith, p.there); there = omega (arith, p.there); before = omega arith }
low-middle false p h = record { here = omega (arith, p.here); there = omega (arith, p.here); before = omega (arith, p.before) }

low-turned : {a b k : ℕ} (up : Bool) → Low a up k → 2 * a ≤ b → Low b (not up) (k + ahead up k)
low-turned true p h = record { here = omega (arith, p.there); there = omega (arith, p.there); before = omega arith }
low-turned false p h = record { here = omega (arith, p.here); there = omega (arith, p.here); before = omega (arith, p.before) }

low_column : (q : Four) {a b i : ℕ} {up : Bool} → Low a up i → 2 * a ≤ b → Low b (up_of q up) (column_of q up i)
low_column first {up = up} p h = low_near up p h
low_column second {up = up} p h = low-middle up p h
low_column third {up = up} p h = low_near up p h
low_column fourth {up = up} p h = low-turned up p h

low-row : (q : Four) {a b j : ℕ} {up : Bool} → Low a up j → 2 * a ≤ b → Low b (up_of q up) (row_of q up j)
low-row first {up = up} p h = low_near up p h
low-row second {up = up} p h = low_near up p h
low-row third {up = up} p h = low-middle up p h
low-row fourth {up = up} p h = low-turned up p h

some_left : {n : ℕ} → 0 < n → ¬ (n ≡ 0)
some_left h e = omega arith

module _ {S : Shape} {n l i j : ℕ} {up : Bool} {c : List ℤ} (r : Room S n l i j up c) where
  -- m is as much as a cut has room for
  pub cut-room : (m : ℕ) → 0 < S.growth → S.growth * m ≡ 2 ^ 62 → 0 < n → Each m c
  cut-room m g e h = each-≤ r.small (N.le_of_mul-le-mul_left (rw e (cap-cut S.growth n (some_left h))) g)

  pub room-x : Low 1048576 up i
  room-x = low-≤ r.wide (span-le n)

  pub room-y : Low 1048576 up j
  room-y = low-≤ r.high (span-le n)

  pub quarter-room : Lawful S → (q : Four) {x y : ℕ} {v : List ℤ} → 0 < n
      → v ≡ cut_to S q c
      → x ≡ column_of q up i
      → y ≡ row_of q up j
      → Room S (n - 1) (l + 1) x y (up_of q up) v
  quarter-room W q h e f g =
      rw (e, f, g)
      (record {
        small = cap-quarter S W q n c (some_left h) r.small;
        deep = let d = r.deep in omega arith;
        wide = low_column q r.wide (span-cut n (some_left h));
        high = low-row q r.high (span-cut n (some_left h));
      })

span-ten : 1 ≤ span 10
unfolding span
span-ten = lit≤ tt

-- values that have room for m cuts have it for n, no more than these
pub room_of : (S : Shape) (n m : ℕ) (c : List ℤ) → n ≤ m → m ≤ 10 → Each (cap S.growth m) c → Room S n 0 0 0 true c
room_of S n m c h k p =
    let e : 10 - n + n ≡ 10 = omega arith in let f : m - n + n ≡ m = omega arith in
    let s : 1 ≤ span n = N.le_trans span-ten (rw e at (span-down (10 - n) n)) in
    let low : Low (span n) true 0 = record { here = omega arith; there = s; before = omega arith } in
    record { small = each-≤ p (rw f at (cap-down S.growth (m - n) n)); deep = omega arith; wide = low; high = low }

cap-ten : 4398046511104 ≤ cap 4 10
unfolding cap
cap-ten = lit≤ tt

pub start-room : (n : ℕ) (c : List ℤ) → n ≤ 10 → Each 4398046511104 c → Room six n 0 0 0 true c
start-room n c h p = room_of six n 10 c h (N.le_refl 10) (each-≤ p cap-ten)
