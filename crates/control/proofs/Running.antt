-- The least and the greatest of the first k numbers, as a loop finds them.
--   lesser, greater a b           : of two
--   LeastTo, GreatestTo k c z     : z is it, among the first k of c
--   least-one, least_more, least-all : of the first, of one more, and of all; the same for the greatest
--   least-within, greatest-within : they are as small as the numbers
-- Assumes nothing.
use mathlib.Core.Path.{◌≡◌, refl, subst}
use mathlib.Core.Bool.{cond}
use mathlib.Core.List.{List}
use Prim.Native.Nat.{ℕ, zero, suc, ◌+◌, ◌<◌}
use native.Mathlib.Omega.{arith}
use borrow.Author.Count.{below_more}
use lib.Dec.{lit<}
use lib.IntN.{ℤ}
use lib.ListN.{length}
use lib.Signed.{◌≤ℤ◌, lt_z, lt_z_yes, lt_z_no, ≤ℤ_refl}
use Rattle.algebra.specs.Within.{Within, Each}
use Rattle.algebra.proofs.Truth.{cond_ind}
use Rattle.algebra.proofs.Order.{≤_trans, <-≤}
use Rattle.element.specs.Control.{at}
use Rattle.element.specs.Bounds.{Least, Greatest}

abbrev pub lesser : ℤ → ℤ → ℤ
lesser a b = cond (lt_z b a) b a

abbrev pub greater : ℤ → ℤ → ℤ
greater a b = cond (lt_z b a) a b

pub record LeastTo (k : ℕ) (c : List ℤ) (z : ℤ) : Type 0 where
  pub place : ℕ
  pub before : place < k
  pub there : at c place ≡ z
  pub below : (i : ℕ) → i < k → z ≤ℤ at c i

pub record GreatestTo (k : ℕ) (c : List ℤ) (z : ℤ) : Type 0 where
  pub place : ℕ
  pub before : place < k
  pub there : at c place ≡ z
  pub above : (i : ℕ) → i < k → at c i ≤ℤ z

pub least-one : (c : List ℤ) → LeastTo 1 c (at c 0)
least-one c = record { place = 0; before = lit< tt; there = refl; below = first }
  where
    first : (i : ℕ) → i < 1 → at c 0 ≤ℤ at c i
    first zero h = ≤ℤ_refl (at c 0)
    first (suc i) h = absurd (omega arith)

pub greatest-one : (c : List ℤ) → GreatestTo 1 c (at c 0)
greatest-one c = record { place = 0; before = lit< tt; there = refl; above = first }
  where
    first : (i : ℕ) → i < 1 → at c i ≤ℤ at c 0
    first zero h = ≤ℤ_refl (at c 0)
    first (suc i) h = absurd (omega arith)

pub least_more : {k : ℕ} {c : List ℤ} {z : ℤ} → LeastTo k c z → LeastTo (k + 1) c (lesser z (at c k))
least_more {k} {c} {z} p =
    cond_ind (lt_z (at c k) z) (at c k) z (λ y. LeastTo (k + 1) c y)
    (λ t. record {
      place = k;
      before = omega arith;
      there = refl;
      below = below_more _ k (λ i h. ≤_trans (<-≤ (lt_z_yes t)) (p.below i h)) (≤ℤ_refl (at c k));
    })
    (λ t. record {
      place = p.place;
      before = omega (arith, p.before);
      there = p.there;
      below = below_more _ k p.below (lt_z_no t);
    })

pub greatest-more : {k : ℕ} {c : List ℤ} {z : ℤ} → GreatestTo k c z → GreatestTo (k + 1) c (greater z (at c k))
greatest-more {k} {c} {z} p =
    cond_ind (lt_z (at c k) z) z (at c k) (λ y. GreatestTo (k + 1) c y)
    (λ t. record {
      place = p.place;
      before = omega (arith, p.before);
      there = p.there;
      above = below_more _ k p.above (<-≤ (lt_z_yes t));
    })
    (λ t. record {
      place = k;
      before = omega arith;
      there = refl;
      above = below_more _ k (λ i h. ≤_trans (p.above i h) (lt_z_no t)) (≤ℤ_refl (at c k));
    })

pub least-all : {k : ℕ} {c : List ℤ} {z : ℤ} → LeastTo k c z → k ≡ length c → Least c z
least-all p e = record { place = p.place; in_list = rw e at p.before; there = p.there; below = rw e at p.below }

pub greatest-all : {k : ℕ} {c : List ℤ} {z : ℤ} → GreatestTo k c z → k ≡ length c → Greatest c z
greatest-all p e = record { place = p.place; in_list = rw e at p.before; there = p.there; above = rw e at p.above }

pub least-within : {n : ℕ} {c : List ℤ} {z : ℤ} → Each n c → Least c z → Within n z
least-within {n} p l = subst (Within n) l.there (p.at l.place)

pub greatest-within : {n : ℕ} {c : List ℤ} {z : ℤ} → Each n c → Greatest c z → Within n z
greatest-within {n} p g = subst (Within n) g.there (p.at g.place)
