-- What the contract of a call that judges comes to, for any order of codes and any faithful subject: one outcome, and the demands on the
-- verdict as laws of the call.
--   tells-refusal, tells-verdict : a refusal, and a success, from what the code knows
--   refused-told     : where the order gives a code, the answer is that refusal
--   told-unique      : the answer is determined by the arguments, in every field
--   answered, accepted-answered : an answer with the code 0, and one to a call that has no fault, is a verdict
--   word-answered    : and so is an answer with one of the three words
--   word-valid       : the test of a word for valid
--   valid-under, not-valid-under : what that test tells of the subject: the first case holds, or it does not
--   by_word          : what holds of each answer of 01's case for a word holds of the call's answer with that word
--   valid-level      : valid: the level is the least at which all cells pass
--   valid-least      : the number of cells is that of a cutting no deeper than that level whose cells all pass, and no such cutting, of
--                      any depth, has fewer
--   invalid-first    : invalid: the level is the least with a bad point, and the point named its first
--   invalid-shows    : and the value is the one shown there
--   undecided-exactly, exactly-undecided : undecided exactly when at the limit no grid point is bad and some cell fails
--   undecided-count  : and the number of cells is that of the cells of the limit's level that fail
--   level-within     : the level of a valid or an invalid answer is at most the limit
--   higher-limit     : a higher accepted limit never alters a valid or an invalid answer, in any field
--   milder, sterner  : of two calls whose subjects ease: what is valid, and what is invalid, for the one is so for the other
-- Assumes nothing.
use mathlib.Core.Path.{◌≡◌, refl, sym, ◌∙◌, ap, subst}
use mathlib.Core.Bool.{true, false, false≢true}
use mathlib.Core.Logic.{inl, inr}
use Prim.Native.Nat.{ℕ, ◌≤◌}
use native.Mathlib.Nat as N
use native.Mathlib.Omega.{arith}
use lib.Dec.{T}
use Rattle.forms.specs.Cuttings.{opens}
use Rattle.forms.specs.Shapes.{pass, cut_to}
use Rattle.element.specs.Refusals.{Codes, Refused, Accepted, Coded}
use Rattle.element.proofs.Refusals.{refused-unique, refused-accepted, numbered, refused-some, coded-some}
use Rattle.judge.specs.Verdict.{valid, invalid, undecided, Answer, Subject, LeastLevel, FewestCells, FirstBad, Case, Judges, ValidUnder, Stays}
use Rattle.judge.specs.Verdict as judge
use Rattle.judge.specs.Faithful.{Faithful}
use Rattle.judge.specs.Eases.{Eases}
use Rattle.judge.proofs.Unique.{judges-unique, valid-word}
use Rattle.judge.proofs.Demands as D
use Rattle.judge.proofs.Eases as E
use Rattle.verdict.specs.Calls.{tell, given, refusal, Settled, says_valid, HasVerdict, Told, MilderCall, SternerCall}
use Rattle.verdict.specs.declared.Word.{Word}
use Rattle.verdict.specs.declared.Word.TheVariants.{Nothing, Valid, Invalid, Undecided}
use Rattle.verdict.specs.declared.Judged.{Judged}

-- ---- from what the code knows
module _ (o : Codes ℕ) (s : Subject) (l : ℕ) where
  pub tells-refusal : {c : ℕ} {r : Judged} → Coded o c → ¬ (c ≡ 0) → r ≡ refusal c → Told o s l r
  tells-refusal {c} p h e = subst (Told o s l) (sym e) (inl (record { refused = coded-some p h; zeros = refl }))

  pub tells-verdict : (a : Answer) {r : Judged} → Accepted o → Judges s l a → r ≡ given a → Told o s l r
  tells-verdict a p j e = inr (record { accepted = p; answer = a; judges = j; told = e })

-- ---- the words: a refusal has none of the three
abbrev untell : Word → judge.Word
untell Nothing = undecided
untell Valid = valid
untell Invalid = invalid
untell Undecided = undecided

untell-tell : (w : judge.Word) → untell (tell w) ≡ w
untell-tell valid = refl
untell-tell invalid = refl
untell-tell undecided = refl

tell_some : (w : judge.Word) → ¬ (tell w ≡ Nothing)
tell_some valid e = let z : ◌≡◌ {A = ℕ} 0 1 = cc in omega arith
tell_some invalid e = let z : ◌≡◌ {A = ℕ} 0 1 = cc in omega arith
tell_some undecided e = let z : ◌≡◌ {A = ℕ} 0 1 = cc in omega arith

pub word-valid : (w : Word) → says_valid w ≡ true → w ≡ Valid
word-valid Nothing e = absurd (false≢true e)
word-valid Valid e = refl
word-valid Invalid e = absurd (false≢true e)
word-valid Undecided e = absurd (false≢true e)

module _ (o : Codes ℕ) (s : Subject) (l : ℕ) where
  -- ---- taking an answer apart
  pub refused-told : (c : ℕ) → Refused o c → (r : Judged) → Told o s l r → r ≡ refusal c
  refused-told c q r (inl p) = p.zeros ∙ ap refusal (refused-unique o r.code c p.refused q)
  refused-told c q r (inr p) = absurd (refused-accepted o c q p.accepted)

  pub answered : (r : Judged) → T (numbered o) → Told o s l r → r.code ≡ 0 → HasVerdict o s l r
  answered r t (inl p) e = absurd (refused-some o r.code t p.refused e)
  answered r t (inr p) e = p

  pub accepted-answered : (r : Judged) → Told o s l r → Accepted o → HasVerdict o s l r
  accepted-answered r (inl p) a = absurd (refused-accepted o r.code p.refused a)
  accepted-answered r (inr p) a = p

  pub word-answered : (w : judge.Word) (r : Judged) → Told o s l r → r.word ≡ tell w → HasVerdict o s l r
  word-answered w r (inl p) e = absurd (tell_some w (sym e ∙ ap (λ (q : Judged). q.word) p.zeros))
  word-answered w r (inr p) e = p

  word-is : (r : Judged) (p : HasVerdict o s l r) → r.word ≡ tell p.answer.word
  word-is r p = ap (λ (q : Judged). q.word) p.told

  case-is : (w : judge.Word) (r : Judged) (p : HasVerdict o s l r) → r.word ≡ tell w → Case s w l p.answer
  case-is w r p e =
      subst (λ (v : judge.Word). Case s v l p.answer)
      (sym (untell-tell p.answer.word) ∙ ap untell (sym (word-is r p) ∙ e) ∙ untell-tell w) p.judges

  pub by_word : (w : judge.Word) (P : Judged → Type 0) → ((a : Answer) → Case s w l a → P (given a))
      → (r : Judged)
      → Told o s l r
      → r.word ≡ tell w
      → P r
  by_word w P g r v e =
      let p = word-answered w r v e in
      subst P (sym p.told) (g p.answer (case-is w r p e))

  pub valid-under : (r : Judged) → Told o s l r → says_valid r.word ≡ true → ValidUnder s l
  valid-under r v e = by_word valid (λ r. ValidUnder s l) (λ a p. (a, p)) r v (word-valid r.word e)

  -- ---- what the definition says
  pub valid-level : (r : Judged) → Told o s l r → r.word ≡ Valid → LeastLevel s r.level
  valid-level = by_word valid (λ r. LeastLevel s r.level) (λ a v. v.level)

  pub invalid-first : (r : Judged) → Told o s l r → r.word ≡ Invalid → FirstBad s r.level r.i r.j
  invalid-first = by_word invalid (λ r. FirstBad s r.level r.i r.j) (λ a v. v.first)

  pub invalid-shows : (r : Judged) → Told o s l r → r.word ≡ Invalid → s.Shows r.level r.i r.j r.value
  invalid-shows = by_word invalid (λ r. s.Shows r.level r.i r.j r.value) (λ a v. v.shown)

  pub undecided-count : (r : Judged) → Told o s l r
      → r.word ≡ Undecided
      → (r.level ≡ l) × (r.cells ≡ opens (pass s.shape) (cut_to s.shape) l s.values)
  undecided-count =
      by_word undecided (λ r. (r.level ≡ l) × (r.cells ≡ opens (pass s.shape) (cut_to s.shape) l s.values))
      (λ a u. (u.at_limit, u.count))

-- ---- what a faithful subject has
module _ (o : Codes ℕ) (s : Subject) (f : Faithful s) (l : ℕ) where
  pub told-unique : (r t : Judged) → Told o s l r → Told o s l t → r ≡ t
  told-unique r t (inl p) v = p.zeros ∙ sym (refused-told o s l r.code p.refused t v)
  told-unique r t (inr p) (inl q) = refused-told o s l t.code q.refused r (inr p) ∙ sym q.zeros
  told-unique r t (inr p) (inr q) = p.told ∙ ap given (judges-unique s f l p.answer q.answer p.judges q.judges) ∙ sym q.told

  pub not-valid-under : (r : Judged) → Told o s l r → Accepted o → says_valid r.word ≡ false → ¬ ValidUnder s l
  not-valid-under r v a e u =
      let p = accepted-answered o s l r v a in
      false≢true (sym e ∙ ap says_valid (word-is o s l r p ∙ ap tell (valid-word s f l p.answer u p.judges)))

  pub valid-least : (r : Judged) → Told o s l r → r.word ≡ Valid → FewestCells s r.level r.cells
  valid-least = by_word o s l valid (λ r. FewestCells s r.level r.cells) (D.valid-least-cells s f l)

  pub undecided-exactly : (r : Judged) → Told o s l r → r.word ≡ Undecided → Accepted o × Stays s l
  undecided-exactly r v e =
      ((word-answered o s l undecided r v e).accepted, by_word o s l undecided (λ r. Stays s l) (D.undecided-stays s f l) r v e)

  pub exactly-undecided : (r : Judged) → Told o s l r → Accepted o → Stays s l → r.word ≡ Undecided
  exactly-undecided r v a t =
      let p = accepted-answered o s l r v a in
      word-is o s l r p ∙ ap tell (D.stays-undecided s f l p.answer t p.judges)

-- ---- another limit
settled_case : (w : judge.Word) → Settled (tell w) → ¬ (w ≡ undecided)
settled_case w t e = subst (λ (v : judge.Word). Settled (tell v)) e t

settled-within : (s : Subject) (l : ℕ) (a : Answer) (w : judge.Word) → Case s w l a → Settled (tell w) → a.level ≤ l
settled-within s l a valid v t = v.within
settled-within s l a invalid v t = v.within
settled-within s l a undecided v t = absurd t

pub level-within : (o : Codes ℕ) (s : Subject) (l : ℕ) (r : Judged) → Told o s l r → Settled r.word → r.level ≤ l
level-within o s l r (inl a) w = absurd (subst (λ (q : Judged). Settled q.word) a.zeros w)
level-within o s l r (inr a) w =
    subst (λ (q : Judged). q.level ≤ l) (sym a.told)
    (settled-within s l a.answer a.answer.word a.judges (subst Settled (word-is o s l r a) w))

module _ (o p : Codes ℕ) (s : Subject) (f : Faithful s) (l m : ℕ) where
  same-settled : (r t : Judged) (a : HasVerdict o s l r) (b : HasVerdict p s m t) → l ≤ m → Settled r.word → t ≡ r
  same-settled r t a b h w =
      let settled = subst Settled (word-is o s l r a) w in
      b.told
      ∙ ap given
      (D.limit-never-alters s f l m a.answer b.answer (settled_case a.answer.word settled)
      (N.le_trans (settled-within s l a.answer a.answer.word a.judges settled) h) a.judges b.judges)
      ∙ sym a.told

  pub higher-limit : (r t : Judged) → Told o s l r → Told p s m t → l ≤ m → Accepted p → Settled r.word → t ≡ r
  higher-limit r t (inl a) v h c w = absurd (subst (λ (q : Judged). Settled q.word) a.zeros w)
  higher-limit r t (inr a) (inl q) h c w = absurd (refused-accepted p t.code q.refused c)
  higher-limit r t (inr a) (inr q) h c w = same-settled r t a q h w

-- ---- another subject
module _ (o p : Codes ℕ) (s t : Subject) (f : Faithful s) (g : Faithful t) (e : Eases s t) (l m : ℕ) (r q : Judged) where
  pub milder : Told o s l r → Told p t m q → Accepted p → r.word ≡ Valid → r.level ≤ m → MilderCall r q
  milder v w c k =
      let b = accepted-answered p t m q w c in
      subst (λ (x : Judged). r.level ≤ m → MilderCall r x) (sym b.told)
      (by_word o s l valid (λ (x : Judged). x.level ≤ m → MilderCall x (given b.answer))
      (λ a n h. let y = E.eases-valid s t f g e l m a b.answer n h b.judges in
      record { word = ap tell y.word; level = y.level; cells = y.cells }) r v k)

  pub sterner : Told p t m q → Told o s l r → Accepted o → q.word ≡ Invalid → q.level ≤ l → SternerCall q r
  sterner w v c k =
      let b = accepted-answered o s l r v c in
      subst (λ (x : Judged). q.level ≤ l → SternerCall q x) (sym b.told)
      (by_word p t m invalid (λ (x : Judged). x.level ≤ l → SternerCall x (given b.answer))
      (λ a n h. let y = E.eases-invalid s t f g e m l a b.answer n h b.judges in
      record { word = ap tell y.word; level = y.level }) q w k)
