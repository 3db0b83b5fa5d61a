-- The header of a block, test by test.
--   other-mark   : a letter of the mark that is another
--   long-enough, one-or-two, not-other : the length, and the version
--   header-long, header-marked, header-version, header-few, header-size : what a header without a fault says
-- Assumes nothing.
use mathlib.Core.Path.{◌≡◌, refl, sym, ap, ◌∙◌}
use mathlib.Core.List.{List, [], ◌∷◌}
use mathlib.Core.Logic.{inl, inr}
use Prim.Native.Nat.{ℕ, ◌+◌, ◌*◌, ◌≤◌, ◌<◌}
use native.Mathlib.Nat as N
use native.Mathlib.Omega.{arith}
use native.Mathlib.Decide.{dec_le}
use lib.Dec.{lit<}
use lib.ListN.{length, get_or, take}
use lib.Seq.{get_or-take}
use Rattle.algebra.proofs.Truth.{not-not}
use Rattle.element.specs.Refusals.{Accepted}
use Rattle.block.specs.Block.{Version, version_of, count_of}
use Rattle.block.specs.Faults.{NotBlock, OtherVersion, header_codes}

abbrev pub mark : List ℕ
mark = 67 ∷ 69 ∷ 76 ∷ []

pub other-mark : (l : List ℕ) (i : ℕ) → i < 3 → ¬ (get_or l i 0 ≡ get_or mark i 0) → NotBlock l
other-mark l i h f = inr (λ e. f (sym (get_or-take 3 l i 0 h) ∙ ap (λ (s : List ℕ). get_or s i 0) e))

mark_of : (l : List ℕ) → 9 ≤ length l → take 3 l ≡ get_or l 0 0 ∷ get_or l 1 0 ∷ get_or l 2 0 ∷ []
mark_of [] h = absurd (omega arith)
mark_of (a ∷ []) h = absurd (omega arith)
mark_of (a ∷ b ∷ []) h = absurd (omega arith)
mark_of (a ∷ b ∷ c ∷ []) h = refl
mark_of (a ∷ b ∷ c ∷ d ∷ l) h = refl

pub one-or-two : (v : ℕ) → 1 ≤ v → v ≤ 2 → Version v
one-or-two v h i = go (dec_le v 1)
  where
    go : Dec (v ≤ 1) → Version v
    go (yes k) = inl (omega arith)
    go (no k) = inr (omega arith)

pub not-other : (l : List ℕ) → Version (version_of l) → ¬ OtherVersion 1 2 l
not-other l (inl e) (inl h) = absurd (omega arith)
not-other l (inl e) (inr h) = absurd (omega arith)
not-other l (inr e) (inl h) = absurd (omega arith)
not-other l (inr e) (inr h) = absurd (omega arith)

pub long-enough : (l : List ℕ) → ¬ NotBlock l → 9 ≤ length l
long-enough l f = N.le_of_suc-le-suc (N.lt_of_not-le (λ h. f (inl h)))

module _ (l : List ℕ) (a : Accepted (header_codes l)) where
  pub header-long : 9 ≤ length l
  header-long = long-enough l a.0

  pub header-marked : take 3 l ≡ mark
  header-marked =
      mark_of l header-long
      ∙ rw (letter 0 (lit< tt), letter 1 (lit< tt), letter 2 (lit< tt)) refl
    where
      letter : (i : ℕ) → i < 3 → get_or l i 0 ≡ get_or mark i 0
      letter i h = not-not (get_or l i 0) (get_or mark i 0) (λ f. a.0 (other-mark l i h f))

  pub header-version : Version (version_of l)
  header-version =
      one-or-two (version_of l) (N.le_of_suc-le-suc (N.lt_of_not-le (λ h. a.1.0 (inl h)))) (N.le_of_suc-le-suc (N.lt_of_not-le (λ h. a.1.0 (inr h))))

  pub header-few : count_of l ≤ 800
  header-few = N.le_of_suc-le-suc (N.lt_of_not-le (λ h. a.1.1.0 (inl h)))

  pub header-size : length l ≡ 9 + 80 * count_of l
  header-size = not-not (length l) (9 + 80 * count_of l) (λ f. a.1.1.0 (inr f))
