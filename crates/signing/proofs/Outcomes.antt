-- What the contracts of the calls come to: one outcome each, and a refused call leaves every byte.
--   newer-unique, older-unique, signs-unique : the answer and the bytes left are determined by the bytes given
--   newer-is, older-is, signs-is : a success, by the code 0
--   accepted-success : and by an order without a fault
--   newer-keeps, older-keeps, signs-keeps : a refused call leaves every byte
-- Assumes nothing.
use mathlib.Core.Path.{◌≡◌, sym, ap, ◌∙◌}
use mathlib.Core.List.{List}
use mathlib.Core.Logic.{◌⊎◌, inl, inr}
use Prim.Native.Nat.{ℕ}
use Rattle.element.specs.Kinds.{kind_of}
use Rattle.element.specs.Refusals.{Codes, Refused, Accepted}
use Rattle.element.proofs.Refusals.{refused-unique, refused-accepted}
use Rattle.judge.specs.Verdict.{Answer}
use Rattle.judge.proofs.Faithful.{element-faithful}
use Rattle.judge.proofs.Unique.{judges-unique}
use Rattle.record.specs.Record.{used}
use Rattle.signs.specs.Signs.{element, sign_of, limit_of}
use Rattle.block.specs.Block.{record_at}
use Rattle.block.specs.Faults.{Fault}
use Rattle.block.specs.Changes.{with_sign}
use Rattle.signing.specs.declared.Changed.{Changed}
use Rattle.signing.specs.Orders.{newer_codes, older_codes, sign_codes}
use Rattle.signing.specs.Calls.{NotChanged, IsConverted, Newer, Older, IsSigned, Signs}
use Rattle.signing.proofs.Orders.{version-some, older-some, sign-some}

abbrev fault : Changed → Fault
fault r = record { code = r.code; number = r.number }

-- ---- a call with the order o whose success is S
module _ (o : Codes Fault) (l : List ℕ) (S : Changed → List ℕ → Type 0) where
  abbrev Call : Changed → List ℕ → Type 0
  Call r a = NotChanged o l r a ⊎ S r a

  one-outcome : ((r : Changed) (a : List ℕ) → S r a → Accepted o)
      → ((r s : Changed) (a b : List ℕ) → S r a → S s b → (r ≡ s) × (a ≡ b))
      → (r s : Changed) (a b : List ℕ)
      → Call r a
      → Call s b
      → (r ≡ s) × (a ≡ b)
  one-outcome f g r s a b (inl p) (inl q) = (
    ap (λ (x : Fault). record { code = x.code; number = x.number }) (refused-unique o (fault r) (fault s) p.refused q.refused),
    p.untouched ∙ sym q.untouched,
  )
  one-outcome f g r s a b (inl p) (inr q) = absurd (refused-accepted o (fault r) p.refused (f s b q))
  one-outcome f g r s a b (inr p) (inl q) = absurd (refused-accepted o (fault s) q.refused (f r a p))
  one-outcome f g r s a b (inr p) (inr q) = g r s a b p q

  success : ((f : Fault) → Refused o f → ¬ (f.code ≡ 0)) → (r : Changed) (a : List ℕ) → Call r a → r.code ≡ 0 → S r a
  success some r a (inl p) e = absurd (some (fault r) p.refused e)
  success some r a (inr p) e = p

  pub accepted-success : Accepted o → (r : Changed) (a : List ℕ) → Call r a → S r a
  accepted-success t r a (inl p) = absurd (refused-accepted o (fault r) p.refused t)
  accepted-success t r a (inr p) = p

  keeps : ((r : Changed) (a : List ℕ) → S r a → r ≡ record { code = 0; number = 0 })
      → (r : Changed) (a : List ℕ)
      → Call r a
      → ¬ (r.code ≡ 0)
      → a ≡ l
  keeps zero r a (inl p) h = p.untouched
  keeps zero r a (inr p) h = absurd (h (ap (λ (x : Changed). x.code) (zero r a p)))

module _ (l : List ℕ) where
  abbrev newer : Changed → List ℕ → Type 0
  newer = IsConverted (newer_codes l) 2 l

  abbrev older : Changed → List ℕ → Type 0
  older = IsConverted (older_codes l) 1 l

  converted-one : (o : Codes Fault) (v : ℕ) (r s : Changed) (a b : List ℕ) → IsConverted o v l r a → IsConverted o v l s b → (r ≡ s) × (a ≡ b)
  converted-one o v r s a b p q = (p.answer ∙ sym q.answer, p.written ∙ sym q.written)

  pub newer-unique : (r s : Changed) (a b : List ℕ) → Newer l r a → Newer l s b → (r ≡ s) × (a ≡ b)
  newer-unique = one-outcome (newer_codes l) l newer (λ r a p. p.accepted) (converted-one (newer_codes l) 2)

  pub older-unique : (r s : Changed) (a b : List ℕ) → Older l r a → Older l s b → (r ≡ s) × (a ≡ b)
  older-unique = one-outcome (older_codes l) l older (λ r a p. p.accepted) (converted-one (older_codes l) 1)

  pub newer-is : (r : Changed) (a : List ℕ) → Newer l r a → r.code ≡ 0 → IsConverted (newer_codes l) 2 l r a
  newer-is = success (newer_codes l) l newer (version-some 1 l)

  pub older-is : (r : Changed) (a : List ℕ) → Older l r a → r.code ≡ 0 → IsConverted (older_codes l) 1 l r a
  older-is = success (older_codes l) l older (older-some l)

  pub newer-keeps : (r : Changed) (a : List ℕ) → Newer l r a → ¬ (r.code ≡ 0) → a ≡ l
  newer-keeps = keeps (newer_codes l) l newer (λ r a p. p.answer)

  pub older-keeps : (r : Changed) (a : List ℕ) → Older l r a → ¬ (r.code ≡ 0) → a ≡ l
  older-keeps = keeps (older_codes l) l older (λ r a p. p.answer)

module _ (l : List ℕ) (k : ℕ) where
  -- the verdict is one, so the two bytes are
  signed-one : (r s : Changed) (a b : List ℕ) → IsSigned l k r a → IsSigned l k s b → (r ≡ s) × (a ≡ b)
  signed-one r s a b p q =
      let x = record_at l k in
      let e = judges-unique (element x) (element-faithful (kind_of x.kind) (used x)) (limit_of x) p.verdict q.verdict p.judged q.judged in
      (p.answer ∙ sym q.answer, p.written ∙ ap (λ (v : Answer). with_sign l k (sign_of v.word) v.level) e ∙ sym q.written)

  pub signs-unique : (r s : Changed) (a b : List ℕ) → Signs l k r a → Signs l k s b → (r ≡ s) × (a ≡ b)
  signs-unique = one-outcome (sign_codes l k) l (IsSigned l k) (λ r a p. p.accepted) signed-one

  pub signs-is : (r : Changed) (a : List ℕ) → Signs l k r a → r.code ≡ 0 → IsSigned l k r a
  signs-is = success (sign_codes l k) l (IsSigned l k) (sign-some l k)

  pub signs-keeps : (r : Changed) (a : List ℕ) → Signs l k r a → ¬ (r.code ≡ 0) → a ≡ l
  signs-keeps = keeps (sign_codes l k) l (IsSigned l k) (λ r a p. p.answer)
