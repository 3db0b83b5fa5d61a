-- Corners at one place, as the contract of `verdict` has them (02, Ask 9).
--   collapsed-refused : an element with no other fault and two corners at one place has 21, with zeros in all other fields
--   refused-collapsed : and 21 is given for nothing else
--   answered-apart    : so the corners of an element that has a verdict differ
--   diagonals-called, looped-called : the two quads, and the ten-node triangle, that would be valid have 21 under every limit of their kind
-- Over the contract alone. Assumes nothing.
use mathlib.Core.Path.{◌≡◌, sym, ◌∙◌, ap}
use mathlib.Core.List.{List, [], ◌∷◌}
use mathlib.Core.Logic.{inl, inr}
use Prim.Native.Nat.{ℕ}
use native.Mathlib.Omega.{arith}
use lib.IntN.{ℤ}
use Rattle.element.specs.Kinds.{kind_of, NotKind}
use Rattle.element.specs.Corners.{Collapsed}
use Rattle.element.specs.Refusals.{no_more, Refused, AboveLevel, WrongLength, Outside, verdict_codes}
use Rattle.element.proofs.Refusals.{collapsed-next}
use Rattle.judge.specs.Elements.{subject}
use Rattle.judge.specs.Corners.{Case, diagonals, looped, AllSpurned}
use Rattle.judge.proofs.Corners.{diagonals-spurned, looped-spurned}
use Rattle.verdict.specs.Calls.{refusal, VerdictOf}
use Rattle.verdict.specs.Corners.{AllRefused}
use Rattle.verdict.specs.declared.Judged.{Judged}
use Rattle.verdict.proofs.Judging.{refused-told, answered}
use Rattle.verdict.proofs.Twelve.{refused-called}

module _ (n l : ℕ) (xs : List ℤ) (r : Judged) (v : VerdictOf n l xs r) where
  pub collapsed-refused : ¬ NotKind n → ¬ AboveLevel (kind_of n) l
      → ¬ WrongLength n xs
      → ¬ Outside (kind_of n) xs
      → Collapsed (kind_of n) xs
      → r ≡ refusal 21
  collapsed-refused a b c d e =
      refused-told (verdict_codes n l xs) (subject (kind_of n) xs) l 21 (inr (a, inr (b, inr (c, collapsed-next (kind_of n) xs no_more d e)))) r v

  pub refused-collapsed : r.code ≡ 21
      → ¬ NotKind n × ¬ AboveLevel (kind_of n) l × ¬ WrongLength n xs × ¬ Outside (kind_of n) xs × Collapsed (kind_of n) xs
  refused-collapsed e = go v
    where
      Faults : Type 0
      Faults = ¬ NotKind n × ¬ AboveLevel (kind_of n) l × ¬ WrongLength n xs × ¬ Outside (kind_of n) xs × Collapsed (kind_of n) xs

      other : {m : ℕ} → r.code ≡ m → ¬ (m ≡ 21) → Faults
      other q f = absurd (f (sym q ∙ e))

      from : Refused (verdict_codes n l xs) r.code → Faults
      from (inl (f, q)) = other q (λ z. omega arith)
      from (inr (f, inl (g, q))) = other q (λ z. omega arith)
      from (inr (f, inr (g, inl (w, q)))) = other q (λ z. omega arith)
      from (inr (f, inr (g, inr (w, inl (o, q))))) = other q (λ z. omega arith)
      from (inr (f, inr (g, inr (w, inr (o, inl (d, q)))))) = (f, g, w, o, d)
      from (inr (f, inr (g, inr (w, inr (o, inr (d, none)))))) = absurd none

      go : VerdictOf n l xs r → Faults
      go (inl p) = from p.refused
      go (inr p) = other (ap (λ (q : Judged). q.code) p.told) (λ z. omega arith)

  pub answered-apart : r.code ≡ 0 → ¬ Collapsed (kind_of n) xs
  answered-apart e = (answered (verdict_codes n l xs) (subject (kind_of n) xs) l r tt v e).accepted.1.1.1.1.0

all-refused : (qs : List Case) → AllSpurned qs → AllRefused qs
all-refused [] h = tt
all-refused (q ∷ qs) h = ((λ L g. refused-called _ L q.coords 21 (h.0.refused L g)), all-refused qs h.1)

pub diagonals-called : AllRefused diagonals
diagonals-called = all-refused diagonals diagonals-spurned

pub looped-called : AllRefused looped
looped-called = all-refused looped looped-spurned
