-- Writing a cutting, step by step, as the code takes it. For every shape.
--   writes-cut     : the test of the code
--   written-kept, written-cut : the writer of a cell
--   written_none, written-more : the writer of the quarters from i on
-- Assumes nothing.
use mathlib.Core.Path.{◌≡◌, refl, sym, ◌∙◌, ap}
use mathlib.Core.Bool.{Bool, true, false, ◌||◌}
use mathlib.Core.List.{List, [], ◌∷◌, ◌++◌}
use Prim.Native.Nat.{ℕ, zero, suc, ◌+◌, ◌-◌, ◌<◌}
use native.Mathlib.Nat as N
use native.Mathlib.Omega.{arith}
use borrow.Author.Tests.{eqb-false}
use lib.Dec.{eqb, eqb→eq}
use lib.IntN.{ℤ}
use Rattle.algebra.proofs.Truth.{true-T, T_false}
use Rattle.forms.specs.Cuttings.{four_of}
use Rattle.forms.specs.Shapes.{Shape, pass, cut_to}
use Rattle.text.specs.Writing.{Wrote}
use Rattle.text.proofs.Wrote.{wrote_none, wrote-more, wrote_as}
use Rattle.cuttings.specs.Bytes.{cutting_bytes, trimmed, bytes_of}
use Rattle.cuttings.specs.Reads.{quarters_from}
use Rattle.cuttings.proofs.Trimmed.{bytes-kept, bytes-last, bytes-trimmed}
use Rattle.cuttings.proofs.Reading.{from_more}

-- and whether a cell is written as kept
pub writes-cut : (b : Bool) (n : ℕ) → (b || eqb n 0) ≡ false → (b ≡ false) × ¬ (n ≡ 0)
writes-cut true n h = absurd (T_false true h tt)
writes-cut false n h = (refl, eqb-false n 0 h)

module _ (S : Shape) where
  module _ (n : ℕ) (v : List ℤ) {o o' : List ℕ} {at p : ℕ} where
    pub written-kept : (pass S v || eqb n 0) ≡ true → Wrote o at (0 ∷ []) o' p → Wrote o at (cutting_bytes (trimmed (pass S) (cut_to S) n v)) o' p
    written-kept h w = go (pass S v) refl n h
      where
        go : (b : Bool) → pass S v ≡ b → (n : ℕ) → (b || eqb n 0) ≡ true → Wrote o at (cutting_bytes (trimmed (pass S) (cut_to S) n v)) o' p
        go true e n h = wrote_as w (bytes-kept (pass S) (cut_to S) n v e)
        go false e zero h = wrote_as w (bytes-last (pass S) (cut_to S) v)
        go false e (suc n) h = absurd (suc-not n h)
          where
            suc-not : (n : ℕ) → eqb (suc n) 0 ≡ true → ⊥
            suc-not n h = N.suc-ne-zero n (eqb→eq (suc n) 0 (true-T h))

    pub written-cut : {o'' : List ℕ} {r : ℕ} → pass S v ≡ false → ¬ (n ≡ 0) → Wrote o at (1 ∷ []) o' p
        → Wrote o' p (bytes_of (pass S) (cut_to S) (n - 1) v (quarters_from 0)) o'' r
        → Wrote o at (cutting_bytes (trimmed (pass S) (cut_to S) n v)) o'' r
    written-cut e h w x =
        let f : n ≡ suc (n - 1) = omega arith in
        wrote_as (wrote-more w x) (bytes-trimmed (pass S) (cut_to S) (n - 1) v e ∙ ap (λ (m : ℕ). cutting_bytes (trimmed (pass S) (cut_to S) m v)) (sym f))

    pub written-more : {w : List ℤ} {o'' : List ℕ} {r : ℕ} (i : ℕ) → i < 4 → w ≡ cut_to S (four_of i) v
        → Wrote o at (cutting_bytes (trimmed (pass S) (cut_to S) n w)) o' p
        → Wrote o' p (bytes_of (pass S) (cut_to S) n v (quarters_from (i + 1))) o'' r
        → Wrote o at (bytes_of (pass S) (cut_to S) n v (quarters_from i)) o'' r
    written-more i h e x y =
        wrote_as (wrote-more x y)
        (ap (λ (w : List ℤ). cutting_bytes (trimmed (pass S) (cut_to S) n w) ++ bytes_of (pass S) (cut_to S) n v (quarters_from (i + 1))) e
        ∙ ap (bytes_of (pass S) (cut_to S) n v) (sym (from_more i h)))

  pub written_none : (n : ℕ) (v : List ℤ) (o : List ℕ) (at i : ℕ) → i ≡ 4 → Wrote o at (bytes_of (pass S) (cut_to S) n v (quarters_from i)) o at
  written_none n v o at i e = rw e (wrote_none o at)
