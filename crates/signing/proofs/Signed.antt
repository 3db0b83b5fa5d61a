-- A record that is signed by its verdict.
--   zero-open, open-zero : the byte 0 stands for undecided, and for nothing else
--   settled-level   : the level of a valid or invalid verdict is within its limit
--   judged-of       : the answer of the call `verdict` to a record that was read is its verdict
--   signed-formed, signed-kept : the record with the two bytes of its verdict may stand in a block of version 2, and keeps its sign
-- Assumes nothing.
use mathlib.Core.Path.{◌≡◌, refl, ap, subst}
use mathlib.Core.Logic.{inl, inr}
use Prim.Native.Nat.{ℕ, ◌≤◌}
use native.Mathlib.Nat as N
use native.Mathlib.Omega.{arith}
use Rattle.element.specs.Kinds.{kind_of}
use Rattle.element.specs.Refusals.{AboveLevel, verdict_codes}
use Rattle.judge.specs.Verdict.{Word, valid, invalid, undecided, Answer, Subject, Case, Judges}
use Rattle.judge.proofs.Faithful.{element-faithful}
use Rattle.judge.proofs.Demands.{limit-keeps}
use Rattle.verdict.specs.declared.Judged.{Judged}
use Rattle.verdict.specs.Calls.{HasVerdict, VerdictOf}
use Rattle.verdict.proofs.Judging.{accepted-answered}
use Rattle.record.specs.declared.Record.{Record}
use Rattle.record.specs.Record.{used, WrongSign, WellFormed}
use Rattle.signs.specs.Signs.{element, sign_of, limit_of, Differs}
use Rattle.signs.proofs.Verdicts.{formed-limit}
use Rattle.signs.proofs.Kept.{agrees-kept}
use Rattle.block.specs.Changes.{signed_as}

-- ---- the bytes and the words
pub zero-open : (w : Word) → sign_of w ≡ 0 → w ≡ undecided
zero-open valid e = absurd (omega arith)
zero-open invalid e = absurd (omega arith)
zero-open undecided e = refl

pub open-zero : (w : Word) → w ≡ undecided → sign_of w ≡ 0
open-zero w e = ap sign_of e

at_most : (w : Word) → sign_of w ≤ 2
at_most valid = omega arith
at_most invalid = omega arith
at_most undecided = omega arith

pub settled-level : (s : Subject) (L : ℕ) (a : Answer) → ¬ (sign_of a.word ≡ 0) → Judges s L a → a.level ≤ L
settled-level s L a n j = go a.word n j
  where
    go : (w : Word) → ¬ (sign_of w ≡ 0) → Case s w L a → a.level ≤ L
    go valid n j = j.within
    go invalid n j = j.within
    go undecided n j = absurd (n refl)

pub judged-of : {v n : ℕ} {q r : Record} {j : Judged} → WellFormed v r → q ≡ r
    → n ≡ limit_of q
    → VerdictOf q.kind n (used q) j
    → HasVerdict (verdict_codes r.kind (limit_of r) (used r)) (element r) (limit_of r) j
judged-of {n = n} {q = q} {r = r} {j = j} w e m p =
    let t = subst (λ (x : Record). VerdictOf x.kind (limit_of x) (used x) j) e (subst (λ (i : ℕ). VerdictOf q.kind i (used q) j) m p) in
    accepted-answered (verdict_codes r.kind (limit_of r) (used r)) (element r) (limit_of r) j t (formed-limit r w)

-- ---- the record
module _ (r : Record) (w : WellFormed 2 r) (a : Answer) (j : Judges (element r) (limit_of r) a) (n : ¬ (sign_of a.word ≡ 0)) where
  -- its level is within the limit, which the kind allows
  allowed : ¬ AboveLevel (kind_of r.kind) a.level
  allowed h = (formed-limit r w).1.0 (N.lt_of_lt_of_le h (settled-level (element r) (limit_of r) a n j))

  pub signed-formed : WellFormed 2 (signed_as r (sign_of a.word) a.level)
  signed-formed =
      record {
        id_fits = w.id_fits;
        kind_known = w.kind_known;
        level_allowed = w.level_allowed;
        nine_pairs = w.nine_pairs;
        inside = w.inside;
        corners_differ = w.corners_differ;
        rest_zero = w.rest_zero;
        sign_level = λ h. allowed h.1;
        sign_known = known;
      }
    where
      known : WrongSign 2 (sign_of a.word) a.level → ⊥
      known (inl h) = N.not-le_of_lt h (at_most a.word)
      known (inr h) = n h.0

  -- the verdict stands at its own level
  pub signed-kept : ¬ Differs (signed_as r (sign_of a.word) a.level)
  signed-kept =
      agrees-kept (signed_as r (sign_of a.word) a.level) a
      (limit-keeps (element r) (element-faithful (kind_of r.kind) (used r)) (limit_of r) a.level a (λ e. n (open-zero a.word e))
      (N.le_refl a.level) j)
      (record { word = refl; level = refl })
