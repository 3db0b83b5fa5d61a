-- The demands on the verdict, said of ten-node triangles (02, Ask 11: "all three demands hold"): what holds of every kind, at kind 10.
--   Taken l xs       == a limit up to 5, ten nodes, within ±1,024 as they stand or from the first node, three corners apart
--   ten-taken, taken-ten : that is accepted, and no other
--   ten-known        : 1 is never the code
--   ten-valid        : valid: J of the cubic map is above zero at every rational point of the closed element
--   ten-invalid      : invalid: a grid point where it is not, the first one, with 192·16^d·J there
--   ten-undecided    : undecided: exactly when at the limit no grid point is bad and some cell fails
--   ten-cells        : the cells of a valid one are the fewest
--   ten-higher       : a higher accepted limit alters nothing
-- Assumes nothing.
use mathlib.Core.Path.{◌≡◌, sym, ◌∙◌, ap}
use mathlib.Core.List.{List, [], ◌∷◌}
use mathlib.Core.Logic.{inl, inr}
use Prim.Native.Nat.{ℕ, ◌≤◌}
use native.Mathlib.Nat as N
use native.Mathlib.Omega.{arith}
use lib.IntN.{ℤ, pos}
use lib.ListN.{length}
use lib.Signed.{◌<ℤ◌}
use Rattle.element.specs.Kinds.{ten}
use Rattle.element.specs.Places.{InTriangle}
use Rattle.element.specs.Cubic.{J10}
use Rattle.element.specs.Jacobian.{Shows}
use Rattle.element.specs.Corners.{SameTwo}
use Rattle.element.specs.Refusals.{Astray, Refused, Accepted, verdict_codes}
use Rattle.judge.specs.Verdict.{FewestCells, FirstBad, Stays}
use Rattle.judge.specs.Elements.{subject}
use Rattle.element.proofs.Tried.{is-kind}
use Rattle.faults.proofs.Limits.{long_of}
use Rattle.verdict.specs.Calls.{VerdictOf, Settled}
use Rattle.verdict.specs.declared.Word.TheVariants.{Valid, Invalid, Undecided}
use Rattle.verdict.specs.declared.Judged.{Judged}
use Rattle.verdict.proofs.Outcomes.{valid-positive, valid-least, invalid-first, invalid-shows, undecided-exactly, exactly-undecided, higher-limit}

abbrev pub Taken : ℕ → List ℤ → Type 0
Taken l xs = (l ≤ 5) × (length xs ≡ 20) × ¬ Astray 1024 xs × ¬ SameTwo xs (0 ∷ 1 ∷ 2 ∷ [])

pub ten-taken : (l : ℕ) (xs : List ℤ) → Taken l xs → Accepted (verdict_codes 10 l xs)
ten-taken l xs (a, b, c, d) = (is-kind ten, ((λ h. N.not-le_of_lt h a), ((λ h. h b), (c, (d, tt)))))

pub taken-ten : (l : ℕ) (xs : List ℤ) → Accepted (verdict_codes 10 l xs) → Taken l xs
taken-ten l xs (k, (a, (b, (c, (d, u))))) = (N.le_of_suc-le-suc (N.lt_of_not-le a), long_of 10 xs b, c, d)

module _ (l : ℕ) (xs : List ℤ) (r : Judged) (v : VerdictOf 10 l xs r) where
  pub ten-known : ¬ (r.code ≡ 1)
  ten-known e = go v
    where
      other : {m : ℕ} → r.code ≡ m → ¬ (m ≡ 1) → ⊥
      other q f = f (sym q ∙ e)

      go : VerdictOf 10 l xs r → ⊥
      go (inl p) = by p.refused
        where
          by : Refused (verdict_codes 10 l xs) r.code → ⊥
          by (inl (f, q)) = is-kind ten f
          by (inr (f, inl (g, q))) = other q (λ z. omega arith)
          by (inr (f, inr (g, inl (w, q)))) = other q (λ z. omega arith)
          by (inr (f, inr (g, inr (w, inl (o, q))))) = other q (λ z. omega arith)
          by (inr (f, inr (g, inr (w, inr (o, inl (d, q)))))) = other q (λ z. omega arith)
          by (inr (f, inr (g, inr (w, inr (o, inr (d, none)))))) = none
      go (inr p) = other (ap (λ (q : Judged). q.code) p.told) (λ z. omega arith)

  -- 16·w⁴·J, at the weights p, q, r of the corners
  pub ten-valid : r.word ≡ Valid → (x : InTriangle) → pos 0 <ℤ J10 xs x.p x.q x.r
  ten-valid = valid-positive 10 l xs r v

  pub ten-cells : r.word ≡ Valid → FewestCells (subject ten xs) r.level r.cells
  ten-cells = valid-least 10 l xs r v

  pub ten-invalid : r.word ≡ Invalid → FirstBad (subject ten xs) r.level r.i r.j × Shows ten xs r.level r.i r.j r.value
  ten-invalid e = (invalid-first 10 l xs r v e, invalid-shows 10 l xs r v e)

  pub ten-undecided : (r.word ≡ Undecided → Accepted (verdict_codes 10 l xs) × Stays (subject ten xs) l)
      × (Accepted (verdict_codes 10 l xs) → Stays (subject ten xs) l → r.word ≡ Undecided)
  ten-undecided = (undecided-exactly 10 l xs r v, exactly-undecided 10 l xs r v)

pub ten-higher : (l m : ℕ) (xs : List ℤ) (r s : Judged) → VerdictOf 10 l xs r
    → VerdictOf 10 m xs s
    → l ≤ m
    → Accepted (verdict_codes 10 m xs)
    → Settled r.word
    → s ≡ r
ten-higher = higher-limit 10
