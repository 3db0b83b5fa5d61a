-- What is handed over of a line, in types of the machine, has the codes of what the line says; and where it passes it is the same.
--   kind-same, kind-is : a kind above a byte is none
--   clips-words    : the coordinates are those of the line, clipped
--   handed-codes, handed-given : the same codes, and the same record
--   handed-is      : by its fields
-- Assumes nothing.
use mathlib.Core.Path.{◌≡◌, sym, ap, ap₂, ◌∙◌, subst}
use mathlib.Core.List.{List, [], ◌∷◌, map}
use Prim.Native.Nat.{ℕ, ◌≤◌, ◌<◌, min}
use native.Mathlib.Nat as N
use native.Mathlib.Omega.{arith}
use borrow.Author.Tests.{leb-true, leb-false}
use lib.Dec.{leb, lit<}
use lib.IntN.{ℤ}
use lib.ListN.{length, take, drop, length-map, length-take}
use lib.Seq.{take_all}
use Rattle.element.specs.Kinds.{Kind, six, eight, nine, ten, NotStored, kind_of, greatest_level}
use Rattle.element.specs.Corners.{Collapsed}
use Rattle.element.specs.Refusals.{Accepted, AboveLevel, WrongLength, Outside}
use Rattle.faults.proofs.Limits.{long_of}
use Rattle.append.specs.Append.{padded, follow_codes}
use Rattle.append.specs.Series.{Given, given, next_codes}
use Rattle.batch.proofs.Same.{SameCodes, same_code, codes-refl}
use Rattle.batch.specs.Stands.{Stands}
use Rattle.batch.proofs.Clip.{Clips, no-clips, clip, clips-stands}
use Rattle.batch.proofs.Stands.{outside-to, outside-back, stands_same, collapsed-to, collapsed-back}
use Rattle.mesh_text.specs.Rows.{first, rest}
use Rattle.mesh_text.specs.Tests.{number_of, value_of, clipped}
use Rattle.mesh_text.proofs.Rows.{by-test}
use Rattle.mesh_text.proofs.Clip.{clip-size, clip-same}
use Rattle.record_text.specs.Values.{given_of}
use Rattle.append_text.specs.Passes.{handed}

-- ---- kind and level limit
kind-small : (n : ℕ) → ¬ NotStored n → n ≤ 9
kind-small n h =
    by-test (leb n 9) (n ≤ 9) (leb-true n 9)
    (λ e. let k = leb-false n 9 e in absurd (h ((λ z. absurd (omega arith)), (λ z. absurd (omega arith)), (λ z. absurd (omega arith)))))

byte_small : (n : ℕ) → min 255 n ≤ 9 → min 255 n ≡ n
byte_small n h = omega arith

pub kind-same : (n : ℕ) → NotStored (min 255 n) → NotStored n
kind-same n h = ((λ e. h.0 (omega (arith, e))), (λ e. h.1 (omega (arith, e))), (λ e. h.2 (omega (arith, e))))

same_kind : (n : ℕ) → NotStored n → NotStored (min 255 n)
same_kind n h = ((λ e. h.0 (omega (arith, e))), (λ e. h.1 (omega (arith, e))), (λ e. h.2 (omega (arith, e))))

pub kind-is : (n : ℕ) → ¬ NotStored (min 255 n) → min 255 n ≡ n
kind-is n h = byte_small n (kind-small (min 255 n) h)

level-small : (k : Kind) → greatest_level k ≤ 10
level-small six = omega arith
level-small eight = omega arith
level-small nine = omega arith
level-small ten = omega arith

-- ---- coordinates
pub clips-words : (us : List (List ℕ)) → Clips 4294967295 (map (clipped 4294967295) us) (map value_of us)
clips-words [] = no-clips
clips-words (u ∷ us) = clip (clip-size 4294967295 u) (clip-same 4294967295 u) (clips-words us)

module _ (us : List (List ℕ)) where
  abbrev few : List ℤ
  few = map (clipped 4294967295) (take 19 us)

  abbrev all : List ℤ
  all = map value_of us

  few-length : length few ≡ min 19 (length us)
  few-length = length-map (take 19 us) (clipped 4294967295) ∙ length-take 19 us

  all-length : length all ≡ length us
  all-length = length-map us value_of

  few-clips : length us ≤ 18 → Clips 4294967295 few all
  few-clips h = subst (λ l. Clips 4294967295 (map (clipped 4294967295) l) all) (sym (take_all 19 us (omega arith))) (clips-words us)

-- ---- a record
module _ (low count room : ℕ) (ws : List (List ℕ)) where
  abbrev n : ℕ
  n = number_of (first (rest ws))

  abbrev l : ℕ
  l = number_of (first (rest (rest ws)))

  abbrev us : List (List ℕ)
  us = drop 3 ws

  module _ (k : ¬ NotStored (min 255 n)) where
    e : min 255 n ≡ n
    e = kind-is n k

    level-to : AboveLevel (kind_of (min 255 n)) (min 255 l) → AboveLevel (kind_of n) l
    level-to h = subst (λ m. greatest_level (kind_of m) < l) e (omega arith)

    level-back : AboveLevel (kind_of n) l → AboveLevel (kind_of (min 255 n)) (min 255 l)
    level-back h =
        let g = level-small (kind_of (min 255 n)) in
        let i : greatest_level (kind_of (min 255 n)) < l = subst (λ m. greatest_level (kind_of m) < l) (sym e) h in
        omega (arith, g, i)

    small : n ≤ 9
    small = subst (λ m. m ≤ 9) e (kind-small (min 255 n) k)

    wrong-to : WrongLength (min 255 n) (few us) → WrongLength n (all us)
    wrong-to h z = h (omega (arith, few-length us, all-length us, e, small, z))

    wrong-back : WrongLength n (all us) → WrongLength (min 255 n) (few us)
    wrong-back h z = h (omega (arith, few-length us, all-length us, e, small, z))

    module _ (r : ¬ WrongLength (min 255 n) (few us)) where
      clips : Clips 4294967295 (few us) (all us)
      clips = few-clips us (omega (arith, few-length us, long_of (min 255 n) (few us) r, e, small))

      stands : Stands (kind_of n) (few us) (all us)
      stands = clips-stands (lit< tt) (kind_of n) clips

      out-to : Outside (kind_of (min 255 n)) (few us) → Outside (kind_of n) (all us)
      out-to h = outside-to (kind_of n) (few us) (all us) stands (subst (λ m. Outside (kind_of m) (few us)) e h)

      out-back : Outside (kind_of n) (all us) → Outside (kind_of (min 255 n)) (few us)
      out-back h = subst (λ m. Outside (kind_of m) (few us)) (sym e) (outside-back (kind_of n) (few us) (all us) stands h)

      fold-to : ¬ Outside (kind_of (min 255 n)) (few us) → Collapsed (kind_of (min 255 n)) (few us) → Collapsed (kind_of n) (all us)
      fold-to f h =
          collapsed-to (kind_of n) (few us) (all us) stands (subst (λ m. ¬ Outside (kind_of m) (few us)) e f) (subst (λ m. Collapsed (kind_of m) (few us)) e h)

      fold-back : ¬ Outside (kind_of (min 255 n)) (few us) → Collapsed (kind_of n) (all us) → Collapsed (kind_of (min 255 n)) (few us)
      fold-back f h =
          subst (λ m. Collapsed (kind_of m) (few us)) (sym e)
          (collapsed-back (kind_of n) (few us) (all us) stands (subst (λ m. ¬ Outside (kind_of m) (few us)) e f) h)

  pub handed-codes : SameCodes (next_codes low count room (handed ws)) (next_codes low count room (given_of ws))
  handed-codes =
      same_code (kind-same n) (same_kind n)
      (λ k. same_code (level-to k) (level-back k)
      (λ _. same_code (wrong-to k) (wrong-back k)
      (λ r. same_code (out-to k r) (out-back k r)
      (λ f. same_code (fold-to k r f) (fold-back k r f)
      (λ _. codes-refl (follow_codes low count room (number_of (first ws))))))))

  pub handed-given : Accepted (next_codes low count room (given_of ws)) → given (handed ws) ≡ given (given_of ws)
  handed-given a =
      let k : ¬ NotStored (min 255 n) = λ h. a.0 (kind-same n h) in
      let g = level-small (kind_of n) in
      let i : min 255 l ≡ l = omega (arith, g, N.le_of_suc-le-suc (N.lt_of_not-le a.1.0)) in
      let h : length us ≤ 18 = omega (arith, all-length us, long_of n (all us) a.1.1.0, small k) in
      let c : few us ≡ all us = stands_same (kind_of n) (few us) (all us) (clips-stands (lit< tt) (kind_of n) (few-clips us h)) a.1.1.1.0 in
      ap₂ (λ (m o : ℕ). record { id = number_of (first ws); kind = m; limit = o; signed = 0; level = 0; coords = padded (few us) }) (e k) i
      ∙ ap (λ (xs : List ℤ). record { id = number_of (first ws); kind = n; limit = l; signed = 0; level = 0; coords = padded xs }) c

-- ---- field by field
pub handed-is : (ws : List (List ℕ)) {i k o : ℕ} {xs : List ℤ}
    → i ≡ (handed ws).id
    → k ≡ (handed ws).kind
    → o ≡ (handed ws).limit
    → xs ≡ (handed ws).coords
    → ◌≡◌ {A = Given} (record { id = i; kind = k; limit = o; coords = xs }) (handed ws)
handed-is ws {i} {k} {o} {xs} a b c d =
    ◌∙◌ {A = Given} (ap₂ (λ (m n : ℕ). record { id = m; kind = n; limit = o; coords = xs }) a b)
    (ap₂ (λ (m : ℕ) (zs : List ℤ). record { id = (handed ws).id; kind = (handed ws).kind; limit = m; coords = zs }) c d)
