-- Nothing signed reopens: the verdict of a signed record that does not differ from its sign (02, Ask 4: "A signed record is judged with
-- its signed level as limit, so a lowered limit can't reopen it").
--   unsigned-kept   : an unsigned record differs from no sign
--   agrees-kept     : and so does a record whose verdict at its signed level is the signed one
--   limit-signed    : the limit at which a signed record is judged is its signed level, whatever its stored limit
--   signed-agrees   : the verdict at the signed level is the signed word with that level
--   signed-verdict  : there is one
--   signed-settled  : so it is never undecided
--   signed-stays    : and it is the verdict under every limit of that level or more, in every field
--   signed-under    : signed valid: it is valid under its signed level
--   signed-valid    : so J > 0, from the nodes, at every rational point of the closed element
--   signed-invalid  : signed invalid: some grid point of the signed level is bad, and none of a level below
--   signed-never    : so it is valid under no limit
-- Assumes nothing.
use mathlib.Core.Path.{◌≡◌, refl, sym, ap, ◌∙◌, subst}
use mathlib.Core.Bool.{Bool, cond}
use Prim.Native.Nat.{ℕ, ◌≤◌}
use native.Mathlib.Omega.{arith}
use borrow.Author.Tests.{ne_eqb}
use lib.IntN.{pos}
use lib.Signed.{◌<ℤ◌}
use Rattle.algebra.proofs.Truth.{not-not}
use Rattle.element.specs.Kinds.{kind_of}
use Rattle.element.specs.Places.{Place}
use Rattle.element.specs.Jacobian.{jacobian}
use Rattle.judge.specs.Verdict.{Word, valid, invalid, undecided, Answer, FirstBad, Case, Judges, ValidUnder}
use Rattle.judge.specs.Faithful.{Faithful}
use Rattle.judge.proofs.Faithful.{element-faithful}
use Rattle.judge.proofs.Levels.{passes-no-bad}
use Rattle.judge.proofs.Unique.{judges-unique}
use Rattle.judge.proofs.Demands.{valid-positive, judges-some, limit-never-alters}
use Rattle.record.specs.declared.Record.{Record}
use Rattle.record.specs.Record.{used}
use Rattle.signs.specs.Signs.{element, sign_of, limit_of, Agrees, Differs}

pub unsigned-kept : (r : Record) → r.signed ≡ 0 → ¬ Differs r
unsigned-kept r e d = d.signed e

pub agrees-kept : (r : Record) (a : Answer) → Judges (element r) r.level a → Agrees r a → ¬ Differs r
agrees-kept r a j g d =
    d.other (subst (Agrees r) (judges-unique (element r) (element-faithful (kind_of r.kind) (used r)) r.level a d.verdict j d.judged) g)

pub limit-signed : (r : Record) → ¬ (r.signed ≡ 0) → limit_of r ≡ r.level
limit-signed r s = ap (λ (b : Bool). cond b r.limit r.level) (ne_eqb r.signed 0 s)

is_valid : (w : Word) → sign_of w ≡ 1 → w ≡ valid
is_valid valid e = refl
is_valid invalid e = absurd (omega arith)
is_valid undecided e = absurd (omega arith)

is_invalid : (w : Word) → sign_of w ≡ 2 → w ≡ invalid
is_invalid valid e = absurd (omega arith)
is_invalid invalid e = refl
is_invalid undecided e = absurd (omega arith)

module _ (r : Record) (s : ¬ (r.signed ≡ 0)) (k : ¬ Differs r) where
  faithful : Faithful (element r)
  faithful = element-faithful (kind_of r.kind) (used r)

  pub signed-agrees : (a : Answer) → Judges (element r) r.level a → Agrees r a
  signed-agrees a j =
      record {
        word = not-not (sign_of a.word) r.signed (λ f. k (other (λ g. f g.word)));
        level = not-not a.level r.level (λ f. k (other (λ g. f g.level)));
      }
    where
      other : ¬ Agrees r a → Differs r
      other h = record { signed = s; verdict = a; judged = j; other = h }

  pub signed-verdict : (a : Answer) × (Judges (element r) r.level a) × Agrees r a
  signed-verdict = let v = judges-some (element r) faithful r.level in (v.0, v.1, signed-agrees v.0 v.1)

  pub signed-settled : (a : Answer) → Judges (element r) r.level a → ¬ (a.word ≡ undecided)
  signed-settled a j e = s (sym (signed-agrees a j).word ∙ ap sign_of e)

  pub signed-stays : (L : ℕ) (a b : Answer) → r.level ≤ L → Judges (element r) r.level a → Judges (element r) L b → b ≡ a
  signed-stays L a b h j q =
      limit-never-alters (element r) faithful r.level L a b (signed-settled a j) (subst (λ (n : ℕ). n ≤ L) (sym (signed-agrees a j).level) h) j q

  -- the verdict at the signed level, by its word
  case-of : (w : Word) → sign_of w ≡ r.signed → ((a : Answer) → sign_of a.word ≡ sign_of w → a.word ≡ w)
      → (a : Answer) × Case (element r) w r.level a × (a.level ≡ r.level)
  case-of w e is =
      let v = signed-verdict in
      (v.0, subst (λ (u : Word). Case (element r) u r.level v.0) (is v.0 (v.2.word ∙ sym e)) v.1, v.2.level)

  pub signed-under : r.signed ≡ 1 → ValidUnder (element r) r.level
  signed-under e = let v = case-of valid (sym e) (λ a. is_valid a.word) in (v.0, v.1)

  pub signed-valid : r.signed ≡ 1 → (x : Place (kind_of r.kind)) → pos 0 <ℤ jacobian (kind_of r.kind) (used r) x
  signed-valid e = let v = signed-under e in valid-positive (kind_of r.kind) (used r) r.level v.0 v.1

  pub signed-invalid : r.signed ≡ 2 → (i : ℕ) × (j : ℕ) × FirstBad (element r) r.level i j
  signed-invalid e =
      let v = case-of invalid (sym e) (λ a. is_invalid a.word) in
      let a = v.0 in
      (a.i, a.j, subst (λ (d : ℕ). FirstBad (element r) d a.i a.j) v.2 v.1.first)

  pub signed-never : r.signed ≡ 2 → (L : ℕ) → ¬ ValidUnder (element r) L
  signed-never e L (a, v) =
      let (i, j, b) = signed-invalid e in
      passes-no-bad (element r) faithful a.level v.level.passing r.level i j b.bad
