-- The room of the shifted values, and what the code computes on its way.
--   straight-is, straight-small : S from the coordinates along x and y, and its size
--   share-small    : 2·p·S
--   shifted-is     : what the loop fills is the list of shifted values
--   values-room    : the values and 2·p·S have room to be shifted
--   floor-room     : and then for seven cuts, so no sum leaves i64 up to level 7
-- Assumes nothing.
use mathlib.Core.Path.{◌≡◌, refl, sym, subst, ◌∙◌}
use mathlib.Core.List.{List}
use mathlib.Core.Bool.{true}
use mathlib.Core.Logic.{inl, inr}
use Prim.Native.Nat.{ℕ, ◌≤◌}
use lib.Dec.{lit≤}
use lib.IntN.{ℤ, pos, ◌-ℤ◌, ◌*ℤ◌}
use Rattle.algebra.specs.Within.{Within, Each}
use Rattle.algebra.proofs.Within.{within-pos, within--, within-*, within-≤, each_of, each-≤, each-as}
use Rattle.algebra.proofs.Fill.{length-list_to, get_d-list_to}
use Rattle.forms.specs.Triangles as T
use Rattle.element.specs.Kinds.{six}
use Rattle.element.specs.Control.{at, values6, control_values}
use Rattle.element.specs.Origin.{from_first, Ranged, Inside}
use Rattle.element.proofs.Sizes.{values-size}
use Rattle.element.proofs.Origin.{inside-first}
use Rattle.points.specs.Points.{Ten, coordinates, across}
use Rattle.points.proofs.Points.{coordinates-ten}
use Rattle.walks.specs.Room.{cap}
use Rattle.triangle_walk.specs.Walks as walks
use Rattle.triangle_walk.proofs.Places.{room_of}
use Rattle.floor.specs.Floor.{straight, share, shifted}
use Rattle.floor.specs.Steps.{shifted_by, Room}
use Rattle.floor.proofs.Still.{straight-moved}

formula : (xs : List ℤ) → across (coordinates xs 9 0) (coordinates xs 9 1) 0 1 0 2 ≡ straight xs
unfolding straight
formula xs = refl

pub straight-is : (xs : List ℤ) → Inside six xs
    → across (coordinates (from_first xs) 9 0) (coordinates (from_first xs) 9 1) 0 1 0 2 ≡ straight xs
straight-is xs p = formula (from_first xs) ∙ straight-moved (at xs 0) (at xs 1) xs p.long

near-small : {xs : List ℤ} → Each 65536 xs → Within 34359738368 (straight xs)
unfolding straight
near-small p =
    within-- (within-* (within-- (p.at 2) (p.at 0)) (within-- (p.at 5) (p.at 1)))
    (within-* (within-- (p.at 3) (p.at 1)) (within-- (p.at 4) (p.at 0)))

pub straight-small : {xs : List ℤ} → Inside six xs → Within 34359738368 (straight xs)
straight-small {xs} p = go p.range
  where
    go : Ranged 65536 xs → Within 34359738368 (straight xs)
    go (inl h) = near-small h
    go (inr h) = subst (Within 34359738368) (straight-moved (at xs 0) (at xs 1) xs p.long) (near-small h)

pub ten-wide : {xs : List ℤ} → Inside six xs → (a : ℕ) → Ten 786432 (coordinates (from_first xs) 9 a)
ten-wide p a = let q = coordinates-ten (inside-first p) 9 a in record { long = q.long; each = each-≤ q.each (lit≤ tt) }

pub share-small : {xs : List ℤ} (p : ℕ) → p ≤ 99 → Inside six xs → Within 6803228196864 (pos 2 *ℤ share p xs)
share-small p h e = within-* (within-pos 2) (within-* (within-≤ (within-pos p) h) (straight-small e))

-- the six values, one by one
pub shifted-is : (p : ℕ) (xs : List ℤ) → shifted_by (pos 2 *ℤ share p xs) (values6 xs) ≡ shifted p xs
unfolding control_values values6
shifted-is p xs = refl

pub values-room : {xs c : List ℤ} {less : ℤ} (p : ℕ) → p ≤ 99
    → Inside six xs
    → c ≡ values6 xs
    → less ≡ pos 2 *ℤ share p xs
    → Room c less
unfolding control_values
values-room {xs} p h k e f =
    record { values = each-as e (values-size six xs k); share = subst (Within 6803228196864) (sym f) (share-small p h k) }

shifted-small : {c : List ℤ} {less : ℤ} → Room c less → Each 178601920036864 (shifted_by less c)
shifted-small {c} {less} r =
    each_of (λ k h. subst (Within 178601920036864)
    (sym (get_d-list_to 6 (λ k. pos 100 *ℤ at c k -ℤ less) k (rw (length-list_to 6 (λ k. pos 100 *ℤ at c k -ℤ less)) at h)))
    (within-- (within-* (within-pos 100) (r.values.at k)) r.share))

cap-seven : 178601920036864 ≤ cap 4 7
unfolding cap
cap-seven = lit≤ tt

pub floor-room : (n : ℕ) {c v : List ℤ} {less : ℤ} → n ≤ 7 → Room c less → v ≡ shifted_by less c → walks.Room T.six n 0 0 0 true v
floor-room n {v = v} h r e = room_of T.six n 7 v h (lit≤ tt) (each-≤ (each-as e (shifted-small r)) cap-seven)
