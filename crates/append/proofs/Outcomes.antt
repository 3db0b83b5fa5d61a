-- What the contracts of `start_block` and `append_record` come to: one outcome each, and wrong programs that they shut out.
--   starts-unique, appends-unique : answer and buffer are determined by the arguments
--   started-is, appended-is   : an answer without a code is a success
--   start-keeps, append-keeps : a refused call leaves every byte
-- Assumes nothing.
use mathlib.Core.Path.{◌≡◌, sym, ap, ◌∙◌}
use mathlib.Core.List.{List}
use mathlib.Core.Logic.{inl, inr}
use Prim.Native.Nat.{ℕ}
use lib.IntN.{ℤ}
use Rattle.element.proofs.Refusals.{refused-unique, refused-accepted, refused-some}
use Rattle.block.specs.Faults.{Fault}
use Rattle.append.specs.declared.Appended.{Appended}
use Rattle.append.specs.Append.{append_codes, start_codes}
use Rattle.append.specs.Calls.{IsStarted, Starts, NotAppended, IsAppended, Appends}
use Rattle.append.proofs.Orders.{append-some}

-- ---- start
module _ (b : List ℕ) where
  pub starts-unique : (r s : Appended) (a c : List ℕ) → Starts b r a → Starts b s c → (r ≡ s) × (a ≡ c)
  starts-unique r s a c (inl p) (inl q) = (
    p.zeros ∙ ap (λ (n : ℕ). record { code = n; number = 0; used = 0 }) (refused-unique (start_codes b) r.code s.code p.refused q.refused)
        ∙ sym q.zeros,
    p.untouched ∙ sym q.untouched,
  )
  starts-unique r s a c (inl p) (inr q) = absurd (refused-accepted (start_codes b) r.code p.refused q.accepted)
  starts-unique r s a c (inr p) (inl q) = absurd (refused-accepted (start_codes b) s.code q.refused p.accepted)
  starts-unique r s a c (inr p) (inr q) = (p.answer ∙ sym q.answer, p.written ∙ sym q.written)

  pub started-is : (r : Appended) (a : List ℕ) → Starts b r a → r.code ≡ 0 → IsStarted b r a
  started-is r a (inl p) e = absurd (refused-some (start_codes b) r.code tt p.refused e)
  started-is r a (inr p) e = p

  pub start-keeps : (r : Appended) (a : List ℕ) → Starts b r a → ¬ (r.code ≡ 0) → a ≡ b
  start-keeps r a (inl p) h = p.untouched
  start-keeps r a (inr p) h = absurd (h (ap (λ (r : Appended). r.code) p.answer))

-- ---- append
module _ (b : List ℕ) (used id n level : ℕ) (xs : List ℤ) where
  abbrev refusal : Fault → Appended
  refusal f = record { code = f.code; number = f.number; used = 0 }

  named : (r : Appended) (a : List ℕ) → NotAppended b used id n level xs r a → r ≡ refusal (record { code = r.code; number = r.number })
  named r a p = ap (λ (m : ℕ). record { code = r.code; number = r.number; used = m }) p.no_used

  pub appends-unique : (r s : Appended) (a c : List ℕ) → Appends b used id n level xs r a → Appends b used id n level xs s c → (r ≡ s) × (a ≡ c)
  appends-unique r s a c (inl p) (inl q) = (
    named r a p
        ∙ ap refusal (refused-unique (append_codes b used id n level xs) (record { code = r.code; number = r.number })
        (record { code = s.code; number = s.number }) p.refused q.refused)
        ∙ sym (named s c q),
    p.untouched ∙ sym q.untouched,
  )
  appends-unique r s a c (inl p) (inr q) =
      absurd (refused-accepted (append_codes b used id n level xs) (record { code = r.code; number = r.number }) p.refused q.accepted)
  appends-unique r s a c (inr p) (inl q) =
      absurd (refused-accepted (append_codes b used id n level xs) (record { code = s.code; number = s.number }) q.refused p.accepted)
  appends-unique r s a c (inr p) (inr q) = (p.answer ∙ sym q.answer, p.written ∙ sym q.written)

  pub appended-is : (r : Appended) (a : List ℕ) → Appends b used id n level xs r a → r.code ≡ 0 → IsAppended b used id n level xs r a
  appended-is r a (inl p) e = absurd (append-some b used id n level xs (record { code = r.code; number = r.number }) p.refused e)
  appended-is r a (inr p) e = p

  pub append-keeps : (r : Appended) (a : List ℕ) → Appends b used id n level xs r a → ¬ (r.code ≡ 0) → a ≡ b
  append-keeps r a (inl p) h = p.untouched
  append-keeps r a (inr p) h = absurd (h (ap (λ (r : Appended). r.code) p.answer))
