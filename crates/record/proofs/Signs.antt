-- The two bytes of a record's sign.
--   zero-signs      : in version 1 both are zero
--   formed-unsigned : an unsigned record of one version is a record of the other
--   known-sign      : the first byte is at most the version's greatest
--   signed-level    : a signed record's level is at most the kind's greatest
--   sign-faults     : a fault of the two bytes is the record's fault, where the level limit is allowed
-- Assumes nothing.
use mathlib.Core.Path.{◌≡◌, subst}
use mathlib.Core.Logic.{◌⊎◌, inl, inr, ⊎_elim}
use Prim.Native.Nat.{ℕ, ◌≤◌, ◌<◌}
use native.Mathlib.Nat as N
use native.Mathlib.Omega.{arith}
use Rattle.algebra.proofs.Truth.{not-not}
use Rattle.element.specs.Kinds.{Kind}
use Rattle.element.specs.Refusals.{Codes, no_more, code, AboveLevel, Refused, Coded, refused}
use Rattle.record.specs.declared.Record.{Record}
use Rattle.record.specs.Record.{most_sign, HighSign, WrongSign, WellFormed}

pub known-sign : (v s d : ℕ) → ¬ WrongSign v s d → s ≤ most_sign v
known-sign v s d f = N.le_of_suc-le-suc (N.lt_of_not-le (λ h. f (inl h)))

pub zero-signs : (s d : ℕ) → ¬ WrongSign 1 s d → (s ≡ 0) × (d ≡ 0)
zero-signs s d f =
    let h = known-sign 1 s d f in
    let e : s ≡ 0 = omega arith in
    (e, not-not d 0 (λ g. f (inr (e, g))))

pub signed-level : (v : ℕ) (k : Kind) (s d : ℕ) → ¬ HighSign v k s d → ¬ WrongSign v s d → ¬ (s ≡ 0) → ¬ AboveLevel k d
signed-level v k s d f g n h = f ((n, known-sign v s d g), h)

pub formed-unsigned : (v w : ℕ) (r : Record) → r.signed ≡ 0 → WellFormed v r → WellFormed w r
formed-unsigned v w r e f =
    record {
      id_fits = f.id_fits;
      kind_known = f.kind_known;
      level_allowed = f.level_allowed;
      nine_pairs = f.nine_pairs;
      inside = f.inside;
      corners_differ = f.corners_differ;
      rest_zero = f.rest_zero;
      sign_level = λ h. h.0.0 e;
      sign_known = wrong;
    }
  where
    wrong : WrongSign w r.signed r.level → ⊥
    wrong (inl h) = N.not-suc-le-zero (subst (λ (s : ℕ). most_sign w < s) e h)
    wrong (inr h) = f.sign_known (inr h)

-- A is the fault of the level limit, H and W are those of the two bytes, B is that of the unused pairs
pub sign-faults : {A H W B : Type 0} {o : Codes ℕ} {c : ℕ} → ¬ A
    → Refused (code 2 H (code 9 W no_more)) c
    → Coded (code 2 (A ⊎ H) (code 9 (W ⊎ B) o)) c
sign-faults a (inl (h, e)) = refused (inl (inr h, e))
sign-faults a (inr (h, inl (w, e))) = refused (inr (⊎_elim a h, inl (inl w, e)))
sign-faults a (inr (h, inr (w, e))) = absurd e
