-- The halvings that are left, and the room of a quad's walk.
--   by-cuts         : no halving is left when no cut is
--   stands          : where the quarter stands that is half k along v of half h along u
--   cut-room, near-i, near-j : what the callees need
--   quarter-room    : a quarter has room for one cut less
--   halfway         : the room of a half
--   room_as         : the room of the same cell under another name
--   half-left, cut_left : what is left after a halving along u, and after the one along v
--   start-room      : the whole element has room for four cuts
-- Assumes nothing.
use mathlib.Core.Path.{◌≡◌, refl, sym, ◌∙◌, ap}
use mathlib.Core.Bool.{Bool, ◌||◌}
use mathlib.Core.List.{List}
use Prim.Native.Nat.{ℕ, zero, suc, ◌+◌, ◌*◌, ◌-◌, ◌/◌, ◌≤◌, ◌<◌}
use native.Mathlib.Nat as N
use native.Mathlib.Omega.{arith}
use lib.Dec.{eqb, eqb-suc-zero, lit≤}
use lib.IntN.{ℤ}
use Rattle.algebra.specs.Within.{Each}
use Rattle.algebra.proofs.Within.{each-≤}
use Rattle.forms.specs.Cuttings.{Four, first, second, third, fourth}
use Rattle.forms.specs.Shapes.{cut_to}
use Rattle.forms.specs.Quads.{Half, lower, upper, along_u, along_v, quarter_of, quad}
use Rattle.forms.proofs.Quads.{quad-lawful}
use Rattle.quad_cuts.specs.Halves.{half_u, half_v}
use Rattle.quad_cuts.proofs.Halves.{quarter-half}
use Rattle.quad_cuts.proofs.Lines.{half-size}
use Rattle.walks.specs.Quads.{step}
use Rattle.walks.specs.Room.{cap, span}
use Rattle.walks.proofs.Room.{cap-cut, cap-down, cap-quarter, span-le, span-cut, span-down}
use Rattle.quad_walk.specs.Walks.{Room, Halfway}

-- ---- halvings, two for each cut
none_left : (h n : ℕ) → h ≡ 2 * n → eqb h 0 ≡ eqb n 0
none_left h zero e = rw e
none_left h (suc n) e =
    let f : h ≡ suc (suc (2 * n)) = omega arith in
    ap (λ (m : ℕ). eqb m 0) f ∙ eqb-suc-zero (suc (2 * n)) ∙ sym (eqb-suc-zero n)

-- a test of the code that no halving is left is one of the law that no cut is
pub by-cuts : (a : Bool) {h : ℕ} {b : Bool} → h ≡ 2 * (h / 2) → (a || eqb h 0) ≡ b → (a || eqb (h / 2) 0) ≡ b
by-cuts a {h} e f = ap (λ (t : Bool). a || t) (sym (none_left h (h / 2) e)) ∙ f

-- ---- the quarter where half h along u meets half k along v
pub record Stands (h k : Half) : Type 0 where
  pub along-u : step (along_u (quarter_of h k)) ≡ step h
  pub along-v : step (along_v (quarter_of h k)) ≡ step k
  pub half_of : (c : List ℤ) → half_v k (half_u h c) ≡ cut_to quad (quarter_of h k) c

pub stands : (h k : Half) → Stands h k
stands lower lower = record { along-u = refl; along-v = refl; half_of = λ c. sym (quarter-half first c) }
stands lower upper = record { along-u = refl; along-v = refl; half_of = λ c. sym (quarter-half third c) }
stands upper lower = record { along-u = refl; along-v = refl; half_of = λ c. sym (quarter-half second c) }
stands upper upper = record { along-u = refl; along-v = refl; half_of = λ c. sym (quarter-half fourth c) }

-- ---- room
small-step : (q : Four) → (step (along_u q) ≤ 1) × (step (along_v q) ≤ 1)
small-step first = (omega arith, omega arith)
small-step second = (omega arith, omega arith)
small-step third = (omega arith, omega arith)
small-step fourth = (omega arith, omega arith)

module _ {n l i j : ℕ} {c : List ℤ} (r : Room n l i j c) where
  pub cut-room : ¬ (n ≡ 0) → Each 72057594037927936 c
  cut-room f = each-≤ r.small (let k = cap-cut 64 n f in omega arith)

  pub near-i : i < 1048576
  near-i = N.lt_of_lt_of_le r.wide (span-le n)

  pub near-j : j < 1048576
  near-j = N.lt_of_lt_of_le r.high (span-le n)

  pub quarter-room : (q : Four) {m x y : ℕ} {v : List ℤ} → ¬ (n ≡ 0) → m ≡ n - 1 → v ≡ cut_to quad q c
      → x ≡ 2 * i + step (along_u q)
      → y ≡ 2 * j + step (along_v q)
      → Room m (l + 1) x y v
  quarter-room q f e g a b =
      let (su, sv) = small-step q in
      let s = span-cut n f in
      rw (e, g)
      (record {
        small = cap-quarter quad quad-lawful q n c f r.small;
        deep = let d = r.deep in omega arith;
        wide = let w = r.wide in omega arith;
        high = let w = r.high in omega arith;
      })

  -- after a halving along u
  pub halfway : (h : Half) {m x y : ℕ} {v : List ℤ} → ¬ (n ≡ 0) → m ≡ n - 1 → v ≡ half_u h c → x ≡ 2 * i + step h → y ≡ 2 * j
      → Halfway m (l + 1) x y v
  halfway h f e g a b =
      let s = stands h lower in let t = stands h upper in
      let su = s.along-u in let sv = s.along-v in let tu = t.along-u in let tv = t.along-v in
      record {
        small = rw g (half-size h 72057594037927936 c (cut-room f));
        low = quarter-room (quarter_of h lower) f e (ap (half_v lower) g ∙ s.half_of c) (omega arith) (omega arith);
        high = quarter-room (quarter_of h upper) f e (ap (half_v upper) g ∙ t.half_of c) (omega arith) (omega arith);
      }

pub room_as : {m n l i j : ℕ} {a b : List ℤ} → m ≡ n → a ≡ b → Room n l i j b → Room m l i j a
room_as e f r = rw (e, f) r

pub half-left : {h : ℕ} → h ≡ 2 * (h / 2) → ¬ (h / 2 ≡ 0) → (h - 1 ≡ 2 * ((h - 1) / 2) + 1) × ((h - 1) / 2 ≡ h / 2 - 1)
half-left e f = (omega arith, omega arith)

-- and one along v
pub cut_left : {h : ℕ} → h ≡ 2 * (h / 2) + 1 → (h - 1 ≡ 2 * ((h - 1) / 2)) × ((h - 1) / 2 ≡ h / 2)
cut_left e = (omega arith, omega arith)

-- 2^38, which is 2^62 less four times the factor 64
cap-four : 274877906944 ≤ cap 64 4
unfolding cap
cap-four = lit≤ tt

span-four : 1 ≤ span 4
unfolding span
span-four = lit≤ tt

pub start-room : (n : ℕ) (c : List ℤ) → n ≤ 4 → Each 274877906944 c → (2 * n ≡ 2 * (2 * n / 2)) × Room (2 * n / 2) 0 0 0 c
start-room n c h p =
    let e : 4 - n + n ≡ 4 = omega arith in
    let s : 1 ≤ span n = N.le_trans span-four (rw e at (span-down (4 - n) n)) in
    let t : 2 * n / 2 ≡ n = omega arith in
    (omega arith, rw t (record { small = each-≤ p (N.le_trans cap-four (rw e at (cap-down 64 (4 - n) n))); deep = omega arith; wide = s; high = s }))
