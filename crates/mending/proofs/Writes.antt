-- What the code writes.
--   node-written    : two numbers written one behind the other are a node
--   moved-written   : what is written of a middle node is what is asked
--   sign-dropped    : whether a node was replaced, of three flags and of a set
--   all-written     : so the block is left as it is asked
-- Assumes nothing.
use mathlib.Core.Path.{◌≡◌, refl, ◌∙◌, ap, ap₂}
use mathlib.Core.Bool.{Bool, true, false, cond, ◌||◌}
use mathlib.Core.List.{List, [], ◌∷◌}
use Prim.Native.Nat.{ℕ, ◌+◌, ◌*◌, ◌≤◌, ◌<◌}
use native.Mathlib.Omega.{arith}
use lib.Dec.{eqb}
use lib.IntN.{ℤ}
use lib.ListN.{length}
use Rattle.element.specs.Plane.{Vec}
use Rattle.endian.specs.Numbers.{signed_bytes, over}
use Rattle.endian.proofs.Writes.{over-more}
use Rattle.middles.specs.declared.Replaced.{Replaced}
use Rattle.middles.specs.Middles.{Middle, M01, M12, M02, old_node, middle_of, has, new_node, spot, as_node}
use Rattle.middles.specs.Sets.{set_of, size}
use Rattle.straighten.specs.declared.Moved.{Moved}
use Rattle.straighten.specs.Calls.{moved}
use Rattle.record.specs.Record.{numbers_bytes}
use Rattle.block.specs.Block.{place}
use Rattle.block.specs.Changes.{with_sign}
use Rattle.mending.specs.Changes.{with_node, with_middle, without_sign}
use Rattle.mending.specs.Steps.{as_vec}

module _ (l : List ℕ) (k i : ℕ) (h : place k + 80 ≤ length l) (n : i < 9) where
  pub node-written : {x y u v : ℤ} {a b : List ℕ} → u ≡ x → v ≡ y
      → a ≡ over l (17 + 80 * k + 8 * i) (signed_bytes 4 u)
      → b ≡ over a (17 + 80 * k + 8 * i + 4) (signed_bytes 4 v)
      → b ≡ with_node l k i (record { x = x; y = y })
  node-written {x} {y} p q e f =
      f
      ∙ ap₂ (λ (m : List ℕ) (z : ℤ). over m (17 + 80 * k + 8 * i + 4) (signed_bytes 4 z)) (e ∙ ap (λ (z : ℤ). over l (17 + 80 * k + 8 * i) (signed_bytes 4 z)) p) q
      ∙ over-more (signed_bytes 4 x) (signed_bytes 4 y) l (17 + 80 * k + 8 * i) (omega arith)
      ∙ ap (λ (j : ℕ). over l j (numbers_bytes (x ∷ y ∷ []))) (let e : 17 + 80 * k + 8 * i ≡ place k + (8 + 8 * i) = omega arith in e)

-- a node that is kept is not written
pub moved-written : (l : List ℕ) (k : ℕ) (xs : List ℤ) (s : Replaced) (m : Middle)
    → cond (has s m) (with_node l k (spot m) (as_vec (as_node (new_node xs s m)))) l ≡ with_middle l k xs s m
moved-written l k xs s m = go (has s m) (middle_of xs m) (old_node xs m)
  where
    go : (b : Bool) (u v : Vec) → cond b (with_node l k (spot m) (as_vec (as_node (cond b u v)))) l ≡ cond b (with_node l k (spot m) u) l
    go true u v = refl
    go false u v = refl

pub sign-dropped : (a b c : Bool) (x y : List ℕ) → cond ((a || b) || c) x y ≡ cond (eqb (size (set_of a b c)) 0) y x
sign-dropped true b c x y = lots b c
  where
    lots : (b c : Bool) → x ≡ cond (eqb (size (set_of true b c)) 0) y x
    lots true true = refl
    lots true false = refl
    lots false true = refl
    lots false false = refl
sign-dropped false true true x y = refl
sign-dropped false true false x y = refl
sign-dropped false false true x y = refl
sign-dropped false false false x y = refl

-- ---- one after the other
module _ (k : ℕ) (xs : List ℤ) (s : Replaced) where
  -- what is left of l once a middle node is told
  node-left : (m : Middle) (l : List ℕ) {w : Moved} {x : List ℕ} → w ≡ moved xs s m
      → x ≡ cond w.replaced (with_node l k (spot m) (as_vec w.new)) l
      → x ≡ with_middle l k xs s m
  node-left m l e f = f ∙ ap (λ (w : Moved). cond w.replaced (with_node l k (spot m) (as_vec w.new)) l) e ∙ moved-written l k xs s m

  pub all-written : (l : List ℕ) {a b c : Moved} {x y z left : List ℕ} → a ≡ moved xs s M01 → b ≡ moved xs s M12 → c ≡ moved xs s M02
      → x ≡ cond a.replaced (with_node l k 3 (as_vec a.new)) l
      → y ≡ cond b.replaced (with_node x k 4 (as_vec b.new)) x
      → z ≡ cond c.replaced (with_node y k 5 (as_vec c.new)) y
      → left ≡ cond ((a.replaced || b.replaced) || c.replaced) (with_sign z k 0 0) z
      → left ≡ without_sign (with_middle (with_middle (with_middle l k xs s M01) k xs s M12) k xs s M02) k s
  all-written l {x = x} {y = y} {z = z} e f g p q r t =
      t
      ∙ (λ i. cond (((e i).replaced || (f i).replaced) || (g i).replaced) (with_sign z k 0 0) z)
      ∙ sign-dropped s.m01 s.m12 s.m02 (with_sign z k 0 0) z
      ∙ ap (λ (o : List ℕ). without_sign o k s)
      (node-left M02 y g r
      ∙ ap (λ (o : List ℕ). with_middle o k xs s M02) (node-left M12 x f q ∙ ap (λ (o : List ℕ). with_middle o k xs s M12) (node-left M01 l e p)))
