-- A list that stands for another is tried as the other is.
--   outside-to, outside-back : it is outside where the other is
--   stands_same    : where the other passes it is the same
--   collapsed-to, collapsed-back : it then has corners at one place where the other has
--   stands-codes   : the codes of a record with the one are those with the other
--   stands-coords  : where it passes the two are the same
--   narrowed-length, narrowed-stands : what is narrowed stands for the numbers, where they are as many as the kind has
-- Assumes nothing.
use mathlib.Core.Path.{◌≡◌, sym, ap, ◌∙◌, subst}
use mathlib.Core.List.{List}
use mathlib.Core.Logic.{◌⊎◌, inl, inr}
use Prim.Native.Nat.{ℕ, ◌*◌, ◌≤◌}
use native.Mathlib.Omega.{arith}
use lib.Dec.{lit<}
use lib.IntN.{ℤ, pos}
use lib.ListN.{length, take, replicate, set}
use lib.Seq.{length-take-le}
use Rattle.element.specs.Kinds.{Kind, six, eight, nine, ten, NotStored, kind_of, node_count}
use Rattle.element.specs.Origin.{Unheld}
use Rattle.element.specs.Corners.{Collapsed}
use Rattle.element.specs.Refusals.{Accepted, AboveLevel, WrongLength, Outside}
use Rattle.element.proofs.Stored.{stored-kind}
use Rattle.element.proofs.Ranges.{unheld-or, unheld-outside}
use Rattle.element.proofs.Origin.{node-count}
use Rattle.faults.proofs.Limits.{long_of}
use Rattle.append.specs.Append.{follow_codes}
use Rattle.append.specs.Series.{next_codes}
use Rattle.batch.specs.Stands.{Stands, Narrowed}
use Rattle.batch.proofs.Same.{SameCodes, same_code, codes-refl}

module _ (k : Kind) (xs ys : List ℤ) (s : Stands k xs ys) where
  pub outside-to : Outside k xs → Outside k ys
  outside-to o = go (unheld-or ys)
    where
      go : ¬ Unheld ys ⊎ Unheld ys → Outside k ys
      go (inl f) = subst (Outside k) (s.same f) o
      go (inr u) = unheld-outside k ys u

  pub outside-back : Outside k ys → Outside k xs
  outside-back o = go (unheld-or ys)
    where
      go : ¬ Unheld ys ⊎ Unheld ys → Outside k xs
      go (inl f) = subst (Outside k) (sym (s.same f)) o
      go (inr u) = s.far u

  pub stands_same : ¬ Outside k ys → xs ≡ ys
  stands_same f = s.same (λ u. f (unheld-outside k ys u))

  -- past 4 the two are the same, and so is what stands behind it
  pub collapsed-to : ¬ Outside k xs → Collapsed k xs → Collapsed k ys
  collapsed-to f c = subst (Collapsed k) (stands_same (λ o. f (outside-back o))) c

  pub collapsed-back : ¬ Outside k xs → Collapsed k ys → Collapsed k xs
  collapsed-back f c = subst (Collapsed k) (sym (stands_same (λ o. f (outside-back o)))) c

-- ---- a record
module _ (low count room id kind limit : ℕ) {xs ys : List ℤ} (e : length xs ≡ length ys)
    (s : ¬ NotStored kind → ¬ WrongLength kind xs → Stands (kind_of kind) xs ys) where
  pub stands-codes :
      SameCodes (next_codes low count room (record { id = id; kind = kind; limit = limit; coords = xs }))
      (next_codes low count room (record { id = id; kind = kind; limit = limit; coords = ys }))
  stands-codes =
      let k = kind_of kind in
      let to : WrongLength kind xs → WrongLength kind ys = λ x y. x (e ∙ y) in
      let back : WrongLength kind ys → WrongLength kind xs = λ x y. x (sym e ∙ y) in
      let same : (F : Type 0) → F → F = λ F x. x in
      same_code (same (NotStored kind)) (same (NotStored kind))
      (λ f. same_code (same (AboveLevel k limit)) (same (AboveLevel k limit))
      (λ _. same_code to back
      (λ g. same_code (outside-to k xs ys (s f g)) (outside-back k xs ys (s f g))
      (λ h. same_code (collapsed-to k xs ys (s f g) h) (collapsed-back k xs ys (s f g) h)
      (λ _. codes-refl (follow_codes low count room id))))))

  pub stands-coords : Accepted (next_codes low count room (record { id = id; kind = kind; limit = limit; coords = ys })) → xs ≡ ys
  stands-coords a = stands_same (kind_of kind) xs ys (s a.0 (λ f. a.1.1.0 (λ y. f (e ∙ y)))) a.1.1.1.0

-- ---- what is narrowed
far-outside : (k : Kind) → Outside k (take (2 * node_count k) (set (replicate 19 (pos 0)) 2 (pos 2147483647)))
far-outside six = ((2, lit< tt, lit< tt), inl (2, lit< tt, lit< tt))
far-outside eight = ((2, lit< tt, lit< tt), inl (2, lit< tt, lit< tt))
far-outside nine = ((2, lit< tt, lit< tt), inl (2, lit< tt, lit< tt))
far-outside ten = ((2, lit< tt, lit< tt), inl (2, lit< tt, lit< tt))

module _ (kind : ℕ) (xs zs : List ℤ) (n : Narrowed xs zs) (short : length xs ≤ 19) where
  pub narrowed-length : length (take (length xs) zs) ≡ length xs
  narrowed-length = length-take-le (length xs) zs (omega (arith, n.long))

  pub narrowed-stands : ¬ NotStored kind → ¬ WrongLength kind (take (length xs) zs) → Stands (kind_of kind) (take (length xs) zs) xs
  narrowed-stands f g =
      let e : length xs ≡ 2 * node_count (kind_of kind) =
      sym narrowed-length ∙ long_of kind (take (length xs) zs) g ∙ ap (λ m. 2 * m) (sym (node-count kind (stored-kind f))) in
      record {
        same = n.same;
        far = λ u. subst (λ m. Outside (kind_of kind) (take m zs)) (sym e) (subst (λ l. Outside (kind_of kind) (take (2 * node_count (kind_of kind)) l)) (sym (n.far u)) (far-outside (kind_of kind)));
      }
