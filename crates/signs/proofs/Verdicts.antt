-- The verdict of a record that a block may hold, and its sign.
--   take_min         : the first n numbers, of as many as there are
--   formed-accepted  : the element of such a record is accepted by the call `verdict`, under every limit of the kind
--   formed-level, formed-limit : so it is under its signed level, and under the limit at which it is judged
--   sign-told, level-told : the byte for an answer's word is the byte for the verdict's, and the answer's level is the verdict's
--   differs-sign, differs-level, agrees : whether it is the signed one
-- Assumes nothing.
use mathlib.Core.Path.{◌≡◌, refl, sym, ap, ◌∙◌, subst}
use mathlib.Core.Bool.{Bool, true, false, cond}
use mathlib.Core.List.{List}
use Prim.Native.Nat.{ℕ, ◌*◌, min, ◌≤◌}
use native.Mathlib.Nat as N
use native.Mathlib.Omega.{arith}
use native.Mathlib.Decide.{dec_le}
use borrow.Author.Tests.{eqb-false}
use lib.Dec.{eqb}
use lib.ListN.{length, take}
use lib.Seq.{take_all, length-take-le}
use Rattle.element.specs.Kinds.{kind_of}
use Rattle.element.specs.Refusals.{Codes, AboveLevel, Accepted, verdict_codes}
use Rattle.element.proofs.Stored.{stored-kind}
use Rattle.judge.specs.Verdict.{valid, invalid, undecided, Subject}
use Rattle.judge.specs.Verdict as judge
use Rattle.judge.proofs.Faithful.{element-faithful}
use Rattle.judge.proofs.Unique.{judges-unique}
use Rattle.verdict.specs.declared.Judged.{Judged}
use Rattle.verdict.specs.Calls.{tell, HasVerdict, VerdictOf}
use Rattle.verdict.proofs.Judging.{accepted-answered}
use Rattle.record.specs.declared.Record.{Record}
use Rattle.record.specs.Record.{used, WellFormed}
use Rattle.record.proofs.Known.{known_small}
use Rattle.record.proofs.Signs.{signed-level}
use Rattle.signs.specs.Signs.{element, sign_of, limit_of, Agrees, Differs}
use Rattle.signs.specs.Calls.{sign_of_word}

-- the numbers that a kind uses, of as many as there are
pub take_min : {A : Type 0} (n m : ℕ) (l : List A) → length l ≡ m → take (min n m) l ≡ take n l
take_min n m l e = go (dec_le n m)
  where
    go : Dec (n ≤ m) → take (min n m) l ≡ take n l
    go (yes h) = ap (λ (k : ℕ). take k l) (N.min-eq_left h)
    go (no h) =
        let f : min n m ≡ m = omega arith in
        ap (λ (k : ℕ). take k l) f ∙ take_all m l (omega arith) ∙ sym (take_all n l (omega arith))

-- ---- accepted
pub formed-accepted : {v : ℕ} (r : Record) → WellFormed v r
    → (n : ℕ)
    → ¬ AboveLevel (kind_of r.kind) n
    → Accepted (verdict_codes r.kind n (used r))
formed-accepted r w n h =
    let k = known_small r.kind w.kind_known in
    let e = w.nine_pairs in
    (stored-kind w.kind_known, (h, ((λ f. f (length-take-le (2 * r.kind) r.coords (omega arith))), (w.inside, (w.corners_differ, tt)))))

pub formed-level : {v : ℕ} (r : Record) → WellFormed v r → ¬ (r.signed ≡ 0) → Accepted (verdict_codes r.kind r.level (used r))
formed-level {v} r w s =
    formed-accepted r w r.level (signed-level v (kind_of r.kind) r.signed r.level w.sign_level w.sign_known s)

pub formed-limit : {v : ℕ} (r : Record) → WellFormed v r → Accepted (verdict_codes r.kind (limit_of r) (used r))
formed-limit {v} r w = go (eqb r.signed 0) (eqb-false r.signed 0)
  where
    go : (b : Bool) → (b ≡ false → ¬ (r.signed ≡ 0)) → Accepted (verdict_codes r.kind (cond b r.limit r.level) (used r))
    go true f = formed-accepted r w r.limit w.level_allowed
    go false f = formed-level r w (f refl)

-- ---- told
word-told : (w : judge.Word) → sign_of_word (tell w) ≡ sign_of w
word-told valid = refl
word-told invalid = refl
word-told undecided = refl

module _ {o : Codes ℕ} {s : Subject} {l : ℕ} {v : Judged} (p : HasVerdict o s l v) where
  pub sign-told : sign_of_word v.word ≡ sign_of p.answer.word
  sign-told = ap (λ (v : Judged). sign_of_word v.word) p.told ∙ word-told p.answer.word

  pub level-told : v.level ≡ p.answer.level
  level-told = ap (λ (v : Judged). v.level) p.told

-- ---- the signed verdict, or another
module _ {v : ℕ} (r : Record) (w : WellFormed v r) (s : ¬ (r.signed ≡ 0)) {j : Judged} (q : VerdictOf r.kind r.level (used r) j) where
  verdict-of : HasVerdict (verdict_codes r.kind r.level (used r)) (element r) r.level j
  verdict-of = accepted-answered (verdict_codes r.kind r.level (used r)) (element r) r.level j q (formed-level r w s)

  other : ¬ Agrees r verdict-of.answer → Differs r
  other h = record { signed = s; verdict = verdict-of.answer; judged = verdict-of.judges; other = h }

  pub differs-sign : ¬ (sign_of_word j.word ≡ r.signed) → Differs r
  differs-sign h = other (λ g. h (sign-told verdict-of ∙ g.word))

  pub differs-level : ¬ (j.level ≡ r.level) → Differs r
  differs-level h = other (λ g. h (level-told verdict-of ∙ g.level))

  pub agrees : sign_of_word j.word ≡ r.signed → j.level ≡ r.level → ¬ Differs r
  agrees e f d =
      let one = judges-unique (element r) (element-faithful (kind_of r.kind) (used r)) r.level verdict-of.answer d.verdict
      verdict-of.judges d.judged in
      d.other (subst (Agrees r) one (record { word = sym (sign-told verdict-of) ∙ e; level = sym (level-told verdict-of) ∙ f }))
