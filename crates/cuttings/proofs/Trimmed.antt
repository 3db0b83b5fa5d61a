-- The cutting that keeps what passes and cuts any other, and the least cutting.
--   trimmed-greedy : where the greedy cutting ends, the trimmed one is the greedy one
--   least-only     : a cutting that fits, with no more cells than the greedy one, is the greedy one
--   bytes-kept, bytes-last, bytes-trimmed : the bytes of a trimmed cell that passes, of one with no level left, and of one that is cut
-- For any kind of cell with a test and four quarters. Assumes nothing.
use mathlib.Core.Path.{◌≡◌, refl, sym, ◌∙◌, ap}
use mathlib.Core.Bool.{Bool, true, false}
use mathlib.Core.List.{List, [], ◌∷◌, ◌++◌, append-nil}
use mathlib.Core.Option.{some}
use Prim.Native.Nat.{ℕ, zero, suc, ◌+◌, ◌≤◌}
use native.Mathlib.Omega.{arith}
use lib.Dec.{T}
use Rattle.algebra.proofs.Truth.{T_true, T_false}
use Rattle.forms.specs.Cuttings.{Four, first, second, third, fourth, Cutting, keep, cut, leaves, Fits, greedy}
use Rattle.forms.proofs.Cuttings.{leaves-positive, greedy-ind}
use Rattle.cuttings.specs.Bytes.{cutting_bytes, trimmed, bytes_of}
use Rattle.cuttings.specs.Reads.{quarters_from}

same-cut : {a b c d a' b' c' d' : Cutting} → a ≡ a' → b ≡ b' → c ≡ c' → d ≡ d' → cut a b c d ≡ cut a' b' c' d'
same-cut w x y z = cc

module _ {Cell : Type 0} (pass : Cell → Bool) (q : Four → Cell → Cell) where
  -- ---- by what the cell's test says
  trimmed-keep : (n : ℕ) (v : Cell) → pass v ≡ true → trimmed pass q n v ≡ keep
  unfolding trimmed
  trimmed-keep zero v e = refl
  trimmed-keep (suc n) v e = rw (e, trimmed)

  trimmed-cut : (n : ℕ) (v : Cell) → pass v ≡ false
      → trimmed pass q (suc n) v ≡ cut (trimmed pass q n (q first v)) (trimmed pass q n (q second v)) (trimmed pass q n (q third v)) (trimmed pass q n (q fourth v))
  unfolding trimmed
  trimmed-cut n v e = rw (e, trimmed)

  pub bytes-kept : (n : ℕ) (v : Cell) → pass v ≡ true → 0 ∷ [] ≡ cutting_bytes (trimmed pass q n v)
  unfolding cutting_bytes
  bytes-kept n v e = sym (ap cutting_bytes (trimmed-keep n v e))

  pub bytes-last : (v : Cell) → 0 ∷ [] ≡ cutting_bytes (trimmed pass q 0 v)
  unfolding cutting_bytes trimmed
  bytes-last v = refl

  pub bytes-trimmed : (n : ℕ) (v : Cell) → pass v ≡ false → 1 ∷ bytes_of pass q n v (quarters_from 0) ≡ cutting_bytes (trimmed pass q (suc n) v)
  unfolding cutting_bytes
  bytes-trimmed n v e = sym (ap cutting_bytes (trimmed-cut n v e) ∙ ap before_last (sym (append-nil (bytes-at fourth))))
    where
      bytes-at : Four → List ℕ
      bytes-at i = cutting_bytes (trimmed pass q n (q i v))

      before_last : List ℕ → List ℕ
      before_last l = 1 ∷ (bytes-at first ++ (bytes-at second ++ (bytes-at third ++ l)))

  -- ---- the greedy cutting
  pub trimmed-greedy : (L : ℕ) (v : Cell) (g : Cutting) → greedy pass q L v ≡ some g → trimmed pass q L v ≡ g
  trimmed-greedy =
      greedy-ind pass q (λ L v g. trimmed pass q L v ≡ g)
      (λ L v p. trimmed-keep L v (T_true (pass v) p))
      (λ L v h p f. trimmed-cut L v p ∙ same-cut (f first) (f second) (f third) (f fourth))

  -- it is the least cutting, and the only one with as few cells
  record Least (v : Cell) (g : Cutting) : Type 0 where
    pub least : (t : Cutting) → Fits pass q v t → leaves g ≤ leaves t
    pub only : (t : Cutting) → Fits pass q v t → leaves t ≤ leaves g → t ≡ g

  kept-least : (v : Cell) → T (pass v) → Least v keep
  unfolding leaves
  kept-least v p = record { least = λ t f. leaves-positive t; only = one }
    where
      one : (t : Cutting) → Fits pass q v t → leaves t ≤ 1 → t ≡ keep
      one keep f h = refl
      one (cut a b c d) f h = absurd (omega (arith, leaves-positive a, leaves-positive b, leaves-positive c, leaves-positive d))

  cut-least : (v : Cell) (h : Four → Cutting) → pass v ≡ false
      → ((i : Four) → Least (q i v) (h i))
      → Least v (cut (h first) (h second) (h third) (h fourth))
  unfolding leaves
  cut-least v h p f = record { least = fewest; only = one }
    where
      fewest : (t : Cutting) → Fits pass q v t → leaves (h first) + leaves (h second) + leaves (h third) + leaves (h fourth) ≤ leaves t
      fewest keep k = absurd (T_false (pass v) p k)
      fewest (cut a b c d) (k, l, m, n) =
          omega (arith, (f first).least a k, (f second).least b l, (f third).least c m, (f fourth).least d n)

      one : (t : Cutting) → Fits pass q v t
          → leaves t ≤ leaves (h first) + leaves (h second) + leaves (h third) + leaves (h fourth)
          → t ≡ cut (h first) (h second) (h third) (h fourth)
      one keep k s = absurd (T_false (pass v) p k)
      one (cut a b c d) (k, l, m, n) s =
          let w = (f first).least a k in let x = (f second).least b l in let y = (f third).least c m in let z = (f fourth).least d n in
          same-cut ((f first).only a k (omega arith)) ((f second).only b l (omega arith)) ((f third).only c m (omega arith))
          ((f fourth).only d n (omega arith))

  pub least-only : (L : ℕ) (v : Cell) (g : Cutting) → greedy pass q L v ≡ some g
      → (t : Cutting)
      → Fits pass q v t
      → leaves t ≤ leaves g
      → t ≡ g
  least-only L v g e =
      (greedy-ind pass q (λ L v g. Least v g) (λ L v p. kept-least v p) (λ L v h p f. cut-least v h p f) L v g e).only
