-- Wrong programs that the contract of `verdict` shuts out, each by a law of the contract alone.
--   right-accepted   : what has no fault is not refused
--   limit-above, limit-within : a limit is refused exactly above the kind's greatest
--   refusal-zeros    : a refusal has zeros in all other fields
--   zero-corner-counts   : F(2) is not valid: its zero corner counts
--   harmless-zero-passes : G(4,2) is valid under the limit 0
--   edge-value-harmless  : G(3,4) is not invalid for its negative edge value
--   not-settled-at-0   : G(3,4) and G(8,4) are not settled at level 0
--   four-cells       : G(3,4) under the limit 3 has 4 cells, not 64 nor any other number
--   not-undecided   : F(0) is not undecided
--   not-guessed : G(8,4) under the limit 0 is
--   centre-counts : the eight-node quad `apart` is not valid under any limit, since J is negative at a point of it by relation 31
-- Assumes nothing.
use mathlib.Core.Path.{◌≡◌, refl, sym, ◌∙◌, ap}
use mathlib.Core.List.{List}
use mathlib.Core.Logic.{◌⊎◌, inl, inr}
use Prim.Native.Nat.{ℕ, ◌≤◌, ◌<◌}
use native.Mathlib.Nat as N
use native.Mathlib.Omega.{arith}
use lib.IntN.{ℤ}
use lib.Signed.{clash_ℤ}
use Rattle.algebra.proofs.Order.{<-≤}
use Rattle.element.specs.Kinds.{kind_of, NotKind, greatest_level}
use Rattle.element.specs.Refusals.{Refused, Accepted, verdict_codes}
use Rattle.element.proofs.Mean.{apart, right, mean-parts}
use Rattle.element.proofs.Refusals.{refused-accepted}
use Rattle.judge.specs.Verdict.{is_valid}
use Rattle.judge.specs.Elements.{subject}
use Rattle.judge.specs.Twelve.{F, G}
use Rattle.verdict.specs.Calls.{given, refusal, VerdictOf}
use Rattle.verdict.specs.declared.Word.TheVariants.{Valid, Invalid, Undecided}
use Rattle.verdict.specs.declared.Judged.{Judged}
use Rattle.verdict.proofs.Judging.{refused-told}
use Rattle.verdict.proofs.Outcomes.{valid-positive}
use Rattle.verdict.proofs.Twelve.{twelve-called}

module _ (n l : ℕ) (xs : List ℤ) (r : Judged) where
  pub right-accepted : Accepted (verdict_codes n l xs) → VerdictOf n l xs r → r.code ≡ 0
  right-accepted a (inl p) = absurd (refused-accepted (verdict_codes n l xs) r.code p.refused a)
  right-accepted a (inr p) = ap (λ (q : Judged). q.code) p.told

  pub limit-above : ¬ NotKind n → greatest_level (kind_of n) < l → VerdictOf n l xs r → r ≡ refusal 2
  limit-above k h = refused-told (verdict_codes n l xs) (subject (kind_of n) xs) l 2 (inr (k, inl (h, refl))) r

  pub limit-within : l ≤ greatest_level (kind_of n) → VerdictOf n l xs r → ¬ (r.code ≡ 2)
  limit-within h (inl p) e = go p.refused
    where
      other : {m : ℕ} → r.code ≡ m → ¬ (m ≡ 2) → ⊥
      other q f = f (sym q ∙ e)

      go : Refused (verdict_codes n l xs) r.code → ⊥
      go (inl (f, q)) = other q (λ z. omega arith)
      go (inr (f, inl (g, q))) = N.not-le_of_lt g h
      go (inr (f, inr (g, inl (w, q)))) = other q (λ z. omega arith)
      go (inr (f, inr (g, inr (w, inl (o, q))))) = other q (λ z. omega arith)
      go (inr (f, inr (g, inr (w, inr (o, inl (d, q)))))) = other q (λ z. omega arith)
      go (inr (f, inr (g, inr (w, inr (o, inr (d, none)))))) = none
  limit-within h (inr p) e = let z : ◌≡◌ {A = ℕ} 0 2 = sym (ap (λ (q : Judged). q.code) p.told) ∙ e in omega arith

  pub refusal-zeros : ¬ (r.code ≡ 0) → VerdictOf n l xs r → r ≡ refusal r.code
  refusal-zeros h (inl p) = p.zeros
  refusal-zeros h (inr p) = absurd (h (ap (λ (q : Judged). q.code) p.told))

-- ---- by the twelve: what the call answers is what 01 lists
module _ (r : Judged) where
  pub zero-corner-counts : VerdictOf 6 3 (F 2) r → ¬ (r.word ≡ Valid)
  zero-corner-counts v e = let p = twelve-called.1.1.0.no_other r v in let z : ◌≡◌ {A = ℕ} 0 1 = cc in omega arith

  pub harmless-zero-passes : VerdictOf 6 0 (G 4 2) r → r ≡ given (is_valid 0 1)
  harmless-zero-passes v = twelve-called.1.1.1.1.0.no_other r v

  pub edge-value-harmless : VerdictOf 6 3 (G 3 4) r → ¬ (r.word ≡ Invalid)
  edge-value-harmless v e = let p = twelve-called.1.1.1.1.1.0.no_other r v in let z : ◌≡◌ {A = ℕ} 0 1 = cc in omega arith

  pub not-settled-at-0 : VerdictOf 6 3 (G 3 4) r ⊎ VerdictOf 6 3 (G 8 4) r → ¬ (r.level ≡ 0)
  not-settled-at-0 (inl v) e = let p = twelve-called.1.1.1.1.1.0.no_other r v in let z : ◌≡◌ {A = ℕ} 0 1 = cc in omega arith
  not-settled-at-0 (inr v) e = let p = twelve-called.1.1.1.1.1.1.1.0.no_other r v in let z : ◌≡◌ {A = ℕ} 0 1 = cc in omega arith

  pub four-cells : VerdictOf 6 3 (G 3 4) r → r.cells ≡ 4
  four-cells v = ap (λ (q : Judged). q.cells) (twelve-called.1.1.1.1.1.0.no_other r v)

  pub not-undecided : VerdictOf 6 0 (F 0) r → ¬ (r.word ≡ Undecided)
  not-undecided v e = let p = twelve-called.0.no_other r v in let z : ◌≡◌ {A = ℕ} 0 1 = cc in omega arith

  pub not-guessed : VerdictOf 6 0 (G 8 4) r → r.word ≡ Undecided
  not-guessed v = ap (λ (q : Judged). q.word) (twelve-called.1.1.1.1.1.1.1.1.0.no_other r v)

  -- ---- by J
  pub centre-counts : (l : ℕ) → VerdictOf 8 l apart r → ¬ (r.word ≡ Valid)
  centre-counts l v e = clash_ℤ (valid-positive 8 l apart r v e right) (<-≤ mean-parts.1)
