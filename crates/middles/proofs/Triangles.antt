-- A triangle with some of its middle nodes replaced.
--   spot-node       : the middle nodes stand at their places
--   replaced-length : there are twelve coordinates
--   replaced-none   : with nothing replaced they are the triangle's
--   replaced-corner, replaced-middle : its corners are the triangle's, and its middle nodes the new ones
--   replaced-nodes  : what holds of the triangle's nodes, and of the middle of any two points of which it holds, holds of its nodes
--   replaced-inside : so it is within the limit where the triangle is, by either rule (02, Ask 7)
--   replaced-apart  : its corners are at one place only where the triangle's are
--   replaced-accepted : and it is accepted where the triangle is, under every limit
-- Assumes nothing.
use mathlib.Core.Path.{◌≡◌, refl, sym, ◌∙◌, ap, subst}
use mathlib.Core.Bool.{Bool, true, false, cond}
use mathlib.Core.List.{List}
use mathlib.Core.Logic.{inl, inr}
use Prim.Native.Nat.{ℕ, zero, suc, ◌+◌, ◌*◌, ◌/◌, ◌%◌, ◌<◌}
use native.Mathlib.Nat as N
use native.Mathlib.Decide.{dec_lt}
use native.Mathlib.Omega.{arith}
use lib.Dec.{lit<}
use lib.IntN.{ℤ}
use lib.ListN.{length}
use Rattle.algebra.specs.Within.{Within}
use Rattle.algebra.proofs.Truth.{not-not}
use Rattle.algebra.proofs.Within.{each_of}
use Rattle.element.specs.Kinds.{six, coordinate_limit}
use Rattle.element.specs.Plane.{Vec, ◌-ᵥ◌}
use Rattle.element.specs.Nodes.{node}
use Rattle.element.specs.Control.{at}
use Rattle.element.specs.Corners.{corner, Collapsed}
use Rattle.element.specs.Origin.{from_first, Ranged, Held}
use Rattle.element.specs.Refusals.{Accepted, Outside, level_codes}
use Rattle.element.proofs.Plane.{vec-eq}
use Rattle.element.proofs.Sums.{numbers}
use Rattle.element.proofs.Origin.{numbers-all, first-node, first-length}
use Rattle.element.proofs.Corners.{three-of}
use Rattle.element.proofs.Ranges.{ranged-inside, inside-ranged, held_at}
use Rattle.middles.specs.declared.Replaced.{Replaced}
use Rattle.middles.specs.Middles.{halfway, Middle, M01, M12, M02, old_node, new_node, replacing, spot}
use Rattle.middles.specs.Sets.{none}
use Rattle.middles.proofs.Halves.{half-within, half-near, half-held}

pub spot-node : (xs : List ℤ) (m : Middle) → node xs (spot m) ≡ old_node xs m
spot-node xs M01 = refl
spot-node xs M12 = refl
spot-node xs M02 = refl

-- ---- coordinate by coordinate
pub replaced-length : (xs : List ℤ) (s : Replaced) → length (replacing xs s) ≡ 12
unfolding replacing
replaced-length xs s = refl

as-numbers : (xs : List ℤ) → replacing xs none ≡ numbers xs 0 12
unfolding replacing
as-numbers xs = refl

pub replaced-none : (xs : List ℤ) → length xs ≡ 12 → replacing xs none ≡ xs
replaced-none xs e = as-numbers xs ∙ numbers-all 12 xs e

-- ---- node by node
module _ (xs : List ℤ) (s : Replaced) where
  pub replaced-corner : (k : ℕ) → k < 3 → node (replacing xs s) k ≡ node xs k
  unfolding replacing
  replaced-corner = three-of (λ k. node (replacing xs s) k ≡ node xs k) refl refl refl

  pub replaced-middle : (m : Middle) → node (replacing xs s) (spot m) ≡ new_node xs s m
  unfolding replacing
  replaced-middle M01 = vec-eq refl refl
  replaced-middle M12 = vec-eq refl refl
  replaced-middle M02 = vec-eq refl refl

  pub replaced-nodes : (P : Vec → Type 0) → ((a b : Vec) → P a → P b → P (halfway a b))
      → ((k : ℕ) → k < 6 → P (node xs k))
      → (k : ℕ)
      → k < 6
      → P (node (replacing xs s) k)
  replaced-nodes P c h = go
    where
      either : (b : Bool) (u v : Vec) → P u → P v → P (cond b u v)
      either true u v p q = p
      either false u v p q = q

      new : (m : Middle) → P (new_node xs s m)
      new M01 = either s.m01 _ _ (c (node xs 0) (node xs 1) (h 0 (lit< tt)) (h 1 (lit< tt))) (h 3 (lit< tt))
      new M12 = either s.m12 _ _ (c (node xs 1) (node xs 2) (h 1 (lit< tt)) (h 2 (lit< tt))) (h 4 (lit< tt))
      new M02 = either s.m02 _ _ (c (node xs 0) (node xs 2) (h 0 (lit< tt)) (h 2 (lit< tt))) (h 5 (lit< tt))

      kept : (k : ℕ) → k < 3 → P (node (replacing xs s) k)
      kept k l = subst P (sym (replaced-corner k l)) (h k (omega arith))

      middle : (m : Middle) → P (node (replacing xs s) (spot m))
      middle m = subst P (sym (replaced-middle m)) (new m)

      go : (k : ℕ) → k < 6 → P (node (replacing xs s) k)
      go zero l = kept 0 (lit< tt)
      go (suc zero) l = kept 1 (lit< tt)
      go (suc (suc zero)) l = kept 2 (lit< tt)
      go (suc (suc (suc zero))) l = middle M01
      go (suc (suc (suc (suc zero)))) l = middle M12
      go (suc (suc (suc (suc (suc zero))))) l = middle M02
      go (suc (suc (suc (suc (suc (suc k)))))) l = absurd (omega arith)

-- ---- from the nodes to the numbers
numbers_of-is : (Q : ℤ → Type 0) (ys : List ℤ) → length ys ≡ 12
    → ((k : ℕ) → k < 6 → Q (node ys k).x × Q (node ys k).y)
    → (i : ℕ)
    → i < length ys
    → Q (at ys i)
numbers_of-is Q ys e h i l = go (dec_lt (i % 2) 1)
  where
    go : Dec (i % 2 < 1) → Q (at ys i)
    go (yes p) = subst (λ (j : ℕ). Q (at ys j)) (let q : 2 * (i / 2) ≡ i = omega arith in q) (h (i / 2) (omega arith)).0
    go (no p) = subst (λ (j : ℕ). Q (at ys j)) (let q : 2 * (i / 2) + 1 ≡ i = omega arith in q) (h (i / 2) (omega arith)).1

module _ (xs : List ℤ) (s : Replaced) (long : length xs ≡ 12) where
  abbrev ys : List ℤ
  ys = replacing xs s

  -- a limit, as the coordinates stand or from the first node
  ranged : (n : ℕ) → Ranged n xs → Ranged n ys
  ranged n (inl p) =
      inl
      (each_of
      (numbers_of-is (Within n) ys (replaced-length xs s)
      (replaced-nodes xs s (λ v. Within n v.x × Within n v.y)
      (λ a b p q. (half-within n a.x b.x p.0 q.0, half-within n a.y b.y p.1 q.1))
      (λ k l. (p.at (2 * k), p.at (2 * k + 1))))))
  ranged n (inr p) =
      inr (each_of (numbers_of-is (Within n) (from_first ys) (first-length ys ∙ replaced-length xs s) (λ k l. subst Near (sym (from_first-is k l)) (near k l))))
    where
      Near : Vec → Type 0
      Near v = Within n v.x × Within n v.y

      o : Vec
      o = node xs 0

      from_first-is : (k : ℕ) → k < 6 → node (from_first ys) k ≡ node ys k -ᵥ o
      from_first-is k l =
          first-node ys k (rw (replaced-length xs s) (omega arith)) ∙ ap (λ (v : Vec). node ys k -ᵥ v) (replaced-corner xs s 0 (lit< tt))

      near : (k : ℕ) → k < 6 → Near (node ys k -ᵥ o)
      near =
          replaced-nodes xs s (λ v. Near (v -ᵥ o))
          (λ a b p q. (half-near n o.x a.x b.x p.0 q.0, half-near n o.y a.y b.y p.1 q.1))
          (λ k l. subst Near (first-node xs k (rw long (omega arith))) (p.at (2 * k), p.at (2 * k + 1)))

  pub replaced-inside : ¬ Outside six xs → ¬ Outside six (replacing xs s)
  replaced-inside f =
      ranged-inside (coordinate_limit six) ys (λ (i, l, g). g (held i l)) (ranged (coordinate_limit six) (inside-ranged (coordinate_limit six) xs f))
    where
      held : (i : ℕ) → i < length ys → Held (at ys i)
      held =
          numbers_of-is Held ys (replaced-length xs s)
          (replaced-nodes xs s (λ v. Held v.x × Held v.y)
          (λ a b p q. (half-held a.x b.x p.0 q.0, half-held a.y b.y p.1 q.1))
          (λ k l. (held_at six xs f (2 * k), held_at six xs f (2 * k + 1))))

  pub replaced-apart : ¬ Collapsed six xs → ¬ Collapsed six (replacing xs s)
  replaced-apart f c =
      f
      (record {
        first = c.first;
        second = c.second;
        before = c.before;
        within = c.within;
        together = sym (same c.first (N.lt_trans c.before c.within)) ∙ c.together ∙ same c.second c.within;
      })
    where
      same : (i : ℕ) → i < 3 → node ys (corner six i) ≡ node xs (corner six i)
      same =
          three-of (λ i. node ys (corner six i) ≡ node xs (corner six i)) (replaced-corner xs s 0 (lit< tt)) (replaced-corner xs s 1 (lit< tt))
          (replaced-corner xs s 2 (lit< tt))

pub replaced-accepted : (xs : List ℤ) (s : Replaced) (l : ℕ) → Accepted (level_codes 6 l xs) → Accepted (level_codes 6 l (replacing xs s))
replaced-accepted xs s l (a, (b, (c, (d, e)))) =
    let long = not-not (length xs) 12 b in
    (a, ((λ f. f (replaced-length xs s)), (replaced-inside xs s long c, (replaced-apart xs s long d, tt))))
