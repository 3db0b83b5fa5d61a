-- What the contract of `check_sheet` comes to.
--   check-unique     : one answer
--   accepted-shown, shown-accepted, not-shown : it accepts exactly the sheets of cuttings no deeper than the limit whose kept cells all
--                      pass, and gives 20 for all others of an element without fault
--   accepted-positive : an accepted sheet, whoever wrote it: J > 0 at every rational point of the closed element
--   accepted-valid, valid-accepted : an element has an accepted sheet under a limit exactly when its verdict under that limit is valid
--   none-fewer       : no accepted sheet, under any limit, keeps fewer cells than a valid verdict counts
-- For all kinds at once. Assumes nothing.
use mathlib.Core.Path.{◌≡◌, refl, sym, ◌∙◌, ap, subst}
use mathlib.Core.List.{List}
use mathlib.Core.Logic.{inl, inr}
use Prim.Native.Nat.{ℕ, ◌≤◌}
use lib.IntN.{ℤ, pos}
use lib.Signed.{◌<ℤ◌}
use Rattle.forms.specs.Cuttings.{Cutting, leaves}
use Rattle.element.specs.Kinds.{NotStored, kind_of}
use Rattle.element.specs.Places.{Place}
use Rattle.element.specs.Jacobian.{jacobian}
use Rattle.element.specs.Refusals.{Codes, no_more, code, Refused, Accepted, verdict_codes, stored_codes}
use Rattle.element.proofs.Refusals.{refused-unique, refused-accepted, refused-some, past-then, accepted-then}
use Rattle.element.proofs.Stored.{stored-accepted}
use Rattle.judge.specs.Verdict as judge
use Rattle.judge.specs.Elements.{subject}
use Rattle.judge.proofs.Faithful.{element-faithful}
use Rattle.judge.proofs.Demands.{judges-some, valid-positive}
use Rattle.verdict.specs.Calls.{tell, VerdictOf}
use Rattle.verdict.specs.declared.Word.TheVariants as words
use Rattle.verdict.specs.declared.Judged.{Judged}
use Rattle.verdict.proofs.Judging as told
use Rattle.cuttings.specs.Bytes.{sheet_bytes}
use Rattle.cuttings.proofs.Bytes.{sheet-unique}
use Rattle.sheet.specs.Calls.{Shown, check_codes, checked, IsShown, ChecksSheet}
use Rattle.sheet.specs.declared.CheckedSheet.{CheckedSheet}
use Rattle.sheet.proofs.Least.{least-fewest, passing-valid, ready-by-word}

module _ (n l : ℕ) (xs : List ℤ) (b : List ℕ) where
  abbrev later : Codes ℕ
  later = code 20 (¬ Shown (kind_of n) l xs b) no_more

  shown-clash : (c : ℕ) → Refused (check_codes n l xs b) c → Accepted (stored_codes n l xs) → Shown (kind_of n) l xs b → ⊥
  shown-clash c r a s =
      refused-accepted (check_codes n l xs b) c r (accepted-then (stored_codes n l xs) later a ((λ f. f s), tt))

  pub check-unique : (r s : CheckedSheet) → ChecksSheet n l xs b r → ChecksSheet n l xs b s → r ≡ s
  check-unique r s (inl p) (inl q) =
      p.zeros ∙ ap checked (refused-unique (check_codes n l xs b) r.code s.code p.refused q.refused) ∙ sym q.zeros
  check-unique r s (inl p) (inr q) = absurd (shown-clash r.code p.refused q.accepted q.shown)
  check-unique r s (inr p) (inl q) = absurd (shown-clash s.code q.refused p.accepted p.shown)
  check-unique r s (inr p) (inr q) = p.answer ∙ sym q.answer

  pub accepted-shown : (r : CheckedSheet) → ChecksSheet n l xs b r → r.code ≡ 0 → IsShown n l xs b r
  accepted-shown r (inl p) e = absurd (refused-some (check_codes n l xs b) r.code tt p.refused e)
  accepted-shown r (inr p) e = p

  pub shown-accepted : Accepted (stored_codes n l xs) → Shown (kind_of n) l xs b → (r : CheckedSheet) → ChecksSheet n l xs b r → r ≡ checked 0
  shown-accepted a s r (inl p) = absurd (shown-clash r.code p.refused a s)
  shown-accepted a s r (inr p) = p.answer

  pub not-shown : Accepted (stored_codes n l xs) → ¬ Shown (kind_of n) l xs b → (r : CheckedSheet) → ChecksSheet n l xs b r → r ≡ checked 20
  not-shown a f r (inl p) =
      p.zeros
      ∙ ap checked (refused-unique (check_codes n l xs b) r.code 20 p.refused (past-then (stored_codes n l xs) later 20 a (inl (f, refl))))
  not-shown a f r (inr p) = absurd (f p.shown)

  pub accepted-positive : (r : CheckedSheet) → ChecksSheet n l xs b r → r.code ≡ 0 → (x : Place (kind_of n)) → pos 0 <ℤ jacobian (kind_of n) xs x
  accepted-positive r v e =
      let p = (accepted-shown r v e).shown in
      let (a, j) = judges-some (subject (kind_of n) xs) (element-faithful (kind_of n) xs) l in
      let w = passing-valid (subject (kind_of n) xs) (element-faithful (kind_of n) xs) l p.cutting a p.passing p.within j in
      valid-positive (kind_of n) xs l a (subst (λ (v : judge.Word). judge.Case (subject (kind_of n) xs) v l a) w j)

  pub accepted-valid : (r : CheckedSheet) → ChecksSheet n l xs b r → r.code ≡ 0 → (j : Judged) → VerdictOf n l xs j → j.word ≡ words.Valid
  accepted-valid r v e j w =
      let p = accepted-shown r v e in let s = p.shown in
      let q = told.accepted-answered (verdict_codes n l xs) (subject (kind_of n) xs) l j w (stored-accepted n l xs p.accepted) in
      ap (λ (j : Judged). j.word) q.told
      ∙ ap tell (passing-valid (subject (kind_of n) xs) (element-faithful (kind_of n) xs) l s.cutting q.answer s.passing s.within q.judges)

pub valid-accepted : (n l : ℕ) (xs : List ℤ) (j : Judged) → ¬ NotStored n
    → VerdictOf n l xs j
    → j.word ≡ words.Valid
    → (b : List ℕ) × ((r : CheckedSheet) → ChecksSheet n l xs b r → r ≡ checked 0)
valid-accepted n l xs j s v e =
    let ready = ready-by-word n l xs j v e in let t = ready.cutting in (
      sheet_bytes t,
      shown-accepted n l xs (sheet_bytes t) (s, (told.word-answered (verdict_codes n l xs) (subject (kind_of n) xs) l judge.valid j v e).accepted.1)
          (record { cutting = t; passing = ready.least.passing; within = ready.least.within; bytes = refl }),
    )

pub none-fewer : (n l m : ℕ) (xs : List ℤ) (j : Judged) → VerdictOf n l xs j
    → j.word ≡ words.Valid
    → (u : Cutting) (r : CheckedSheet)
    → ChecksSheet n m xs (sheet_bytes u) r
    → r.code ≡ 0
    → j.cells ≤ leaves u
none-fewer n l m xs j v e u r w f =
    let s = (accepted-shown n m xs (sheet_bytes u) r w f).shown in
    let q = ready-by-word n l xs j v e in
    let same : u ≡ s.cutting = sheet-unique u s.cutting s.bytes in
    rw (q.many, same) (least-fewest (subject (kind_of n) xs) l q.cutting s.cutting q.least s.passing)
