-- Each refusal of `floor_verdict` by what it is given for: nothing that stands before it in the order is a fault, and all behind it is free.
--   range-first    : 4, whatever the corners and the percentage
--   corners-first  : 21, whatever the percentage
--   percent-first  : 16, whatever S
--   straight-last  : 17 where S is not positive
--   other-kind     : 1 for every kind but 6
--   level-above    : 2 above level 7
--   length-wrong   : 3 for a list that has not twelve numbers
-- Over the contract alone. Assumes nothing.
use mathlib.Core.Path.{◌≡◌, refl}
use mathlib.Core.List.{List}
use mathlib.Core.Logic.{inl, inr}
use Prim.Native.Nat.{ℕ, ◌<◌}
use lib.IntN.{ℤ, pos}
use lib.ListN.{length}
use lib.Signed.{◌≤ℤ◌}
use Rattle.element.specs.Kinds.{six}
use Rattle.element.specs.Corners.{Collapsed}
use Rattle.element.specs.Refusals.{Refused, Outside}
use Rattle.verdict.specs.Calls.{refusal}
use Rattle.verdict.specs.declared.Judged.{Judged}
use Rattle.verdict.proofs.Judging.{refused-told}
use Rattle.floor.specs.Floor.{straight, floored}
use Rattle.floor.specs.Calls.{NoPercent, floor_codes, FloorOf}

refuses : (n l : ℕ) (xs : List ℤ) (p : ℕ) (r : Judged) → FloorOf n l xs p r → (c : ℕ) → Refused (floor_codes n l xs p) c → r ≡ refusal c
refuses n l xs p r v c q = refused-told (floor_codes n l xs p) (floored p xs) l c q r v

module _ (l : ℕ) (xs : List ℤ) (p : ℕ) (r : Judged) (v : FloorOf 6 l xs p r) where
  pub range-first : ¬ (7 < l) → length xs ≡ 12 → Outside six xs → r ≡ refusal 4
  range-first a b o = refuses 6 l xs p r v 4 (inr ((λ f. f refl), inr (a, inr ((λ f. f b), inl (o, refl)))))

  pub corners-first : ¬ (7 < l) → length xs ≡ 12 → ¬ Outside six xs → Collapsed six xs → r ≡ refusal 21
  corners-first a b c d = refuses 6 l xs p r v 21 (inr ((λ f. f refl), inr (a, inr ((λ f. f b), inr (c, inl (d, refl))))))

  pub percent-first : ¬ (7 < l) → length xs ≡ 12
      → ¬ Outside six xs
      → ¬ Collapsed six xs
      → NoPercent p
      → r ≡ refusal 16
  percent-first a b c d k = refuses 6 l xs p r v 16 (inr ((λ f. f refl), inr (a, inr ((λ f. f b), inr (c, inr (d, inl (k, refl)))))))

  pub straight-last : ¬ (7 < l) → length xs ≡ 12
      → ¬ Outside six xs
      → ¬ Collapsed six xs
      → ¬ NoPercent p
      → straight xs ≤ℤ pos 0
      → r ≡ refusal 17
  straight-last a b c d k s = refuses 6 l xs p r v 17 (inr ((λ f. f refl), inr (a, inr ((λ f. f b), inr (c, inr (d, inr (k, inl (s, refl))))))))

  pub level-above : 7 < l → r ≡ refusal 2
  level-above h = refuses 6 l xs p r v 2 (inr ((λ f. f refl), inl (h, refl)))

  pub length-wrong : ¬ (7 < l) → ¬ (length xs ≡ 12) → r ≡ refusal 3
  length-wrong a k = refuses 6 l xs p r v 3 (inr ((λ f. f refl), inr (a, inl (k, refl))))

pub other-kind : (n l : ℕ) (xs : List ℤ) (p : ℕ) (r : Judged) → FloorOf n l xs p r → ¬ (n ≡ 6) → r ≡ refusal 1
other-kind n l xs p r v k = refuses n l xs p r v 1 (inl (k, refl))
