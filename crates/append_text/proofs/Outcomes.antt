-- The contract of `append_text` allows one outcome, and what it says of the block.
--   halts-unique   : the first call of a run that is refused is one, with one answer
--   append-text-unique : one answer and one content of the buffer
--   text-stops     : the code of a refused record is that of the run of `append_record` over all of them
--   text-keeps     : a refusal changes no byte
--   text-reads     : after a success the first `used` bytes are the block of the old records and of those of the text
--   text-behind    : and all bytes behind it stay
--   text-none      : where the text says no record nothing changes
-- Assumes nothing.
use mathlib.Core.Path.{◌≡◌, refl, sym, ap, ap₂, ◌∙◌, subst}
use mathlib.Core.List.{List, [], ◌∷◌, ◌++◌, map-append}
use mathlib.Core.Logic.{inl, inr}
use Prim.Native.Nat.{ℕ, ◌+◌, ◌*◌}
use lib.ListN.{length, take, drop, get_or}
use Rattle.element.specs.Refusals.{Accepted}
use Rattle.element.proofs.Refusals.{refused-unique, refused-accepted}
use Rattle.record.specs.declared.Record.{Record}
use Rattle.block.specs.Block.{Holds}
use Rattle.append.specs.declared.Appended.{Appended}
use Rattle.append.specs.Calls.{Appends}
use Rattle.append.specs.Series.{Given, Series, ended, stopped, onward, records}
use Rattle.append.proofs.Outcomes.{appends-unique}
use Rattle.append.proofs.Series.{series-unique, series-reads, series-behind}
use Rattle.append.proofs.Splits.{series-then}
use Rattle.record_text.specs.Faults.{spot}
use Rattle.record_text.specs.Says.{Line, givens}
use Rattle.record_text.proofs.Readings.{records-unique, records-fit}
use Rattle.append_text.specs.declared.Texted.{Texted}
use Rattle.append_text.specs.Calls.{text_codes, word_of, spot_of, refusal, NotOpened, NotTaken, IsTaken, AppendsText}

-- ---- where a run stops
abbrev Called : List ℕ → ℕ → Given → Appended → List ℕ → Type 0
Called b used g r a = Appends b used g.id g.kind g.limit g.coords r a

called-unique : {b : List ℕ} {used : ℕ} (g h : Given) (r s : Appended) (a c : List ℕ) → g ≡ h → Called b used g r a → Called b used h s c → (r ≡ s) × (a ≡ c)
called-unique {b} {used} g h r s a c e p q =
    let w : Called b used h r a = subst (λ x. Called b used x r a) e p in appends-unique b used h.id h.kind h.limit h.coords r s a c w q

same_head : {x y : Line} {us vs : List Line} → x ∷ us ≡ y ∷ vs → x ≡ y
same_head {x} e = ap (λ l. get_or l 0 x) e

pub halts-unique : {b : List ℕ} {used : ℕ} {s t : Appended} {left right : List ℕ} {r u : Appended} {a c : List ℕ} (xs ys : List Line) (x y : Line) (us vs : List Line)
    → xs ++ (x ∷ us) ≡ ys ++ (y ∷ vs)
    → Series b used (givens xs) s left
    → s.code ≡ 0
    → Called left s.used x.given r a
    → ¬ (r.code ≡ 0)
    → Series b used (givens ys) t right
    → t.code ≡ 0
    → Called right t.used y.given u c
    → ¬ (u.code ≡ 0)
    → (x ≡ y) × (r ≡ u)
halts-unique {r = r} {u = u} {a = a} {c = c} [] [] x y us vs e ended z p n ended w q m =
    let h = same_head e in (h, (called-unique x.given y.given r u a c (ap (λ l. l.given) h) p q).0)
halts-unique {r = r} {a = a} [] (v ∷ ys) x y us vs e ended z p n (stopped k h) w q m = absurd (h w)
halts-unique {r = r} {a = a} [] (v ∷ ys) x y us vs e ended z p n (onward {r = f} {a = d} k h o) w q m =
    absurd (n (ap (λ g. g.code) (called-unique x.given v.given r f a d (ap (λ l. l.given) (same_head e)) p k).0 ∙ h))
halts-unique (v ∷ xs) [] x y us vs e (stopped k h) z p n ended w q m = absurd (h z)
halts-unique {u = u} {c = c} (v ∷ xs) [] x y us vs e (onward {r = f} {a = d} k h o) z p n ended w q m =
    absurd (m (sym (ap (λ g. g.code) (called-unique v.given y.given f u d c (ap (λ l. l.given) (same_head e)) k q).0) ∙ h))
halts-unique (v ∷ xs) (g ∷ ys) x y us vs e (stopped k h) z p n o w q m = absurd (h z)
halts-unique (v ∷ xs) (g ∷ ys) x y us vs e (onward k h o) z p n (stopped i j) w q m = absurd (j w)
halts-unique {t = t} {right = right} (v ∷ xs) (g ∷ ys) x y us vs e (onward {r = f} {a = d} k h o) z p n (onward {r = i} {a = j} l b o') w q m =
    let c = called-unique v.given g.given f i d j (ap (λ l. l.given) (same_head e)) k l in
    let o'' = subst (λ (b : List ℕ). Series b f.used (givens ys) t right) (sym c.1) (subst (λ (u : ℕ). Series j u (givens ys) t right) (sym (ap (λ a. a.used) c.0)) o') in
    halts-unique xs ys x y us vs (ap (drop 1) e) o z p n o'' w q m

-- ---- one outcome
module _ (t b : List ℕ) (used : ℕ) where
  opened-tried : {r : Texted} {a : List ℕ} → NotOpened t b used r a → Accepted (text_codes t b used) → ⊥
  opened-tried {r} n a = refused-accepted (text_codes t b used) (spot_of r) n.refused a

  opened-unique : (r s : Texted) (a c : List ℕ) → NotOpened t b used r a → NotOpened t b used s c → (r ≡ s) × (a ≡ c)
  opened-unique r s a c n m =
      let e = refused-unique (text_codes t b used) (spot_of r) (spot_of s) n.refused m.refused in
      (n.zeros ∙ ap refusal e ∙ sym m.zeros, n.untouched ∙ sym m.untouched)

  stopped-unique : (r s : Texted) (a c : List ℕ) → NotTaken t b used r a → NotTaken t b used s c → (r ≡ s) × (a ≡ c)
  stopped-unique r s a c n m =
      let e = halts-unique n.before m.before n.one m.one n.after m.after (records-unique t n.said m.said) n.ran refl n.stopped n.some m.ran refl m.stopped m.some in (
        n.answer ∙ ap₂ (λ (k l : ℕ). refusal (spot k l (word_of k))) (ap (λ x. x.code) e.1) (ap (λ x. x.line) e.0) ∙ sym m.answer,
        n.untouched ∙ sym m.untouched,
      )

  pub text-stops : {r : Texted} {a : List ℕ} (n : NotTaken t b used r a)
      → Series b used (givens (n.before ++ (n.one ∷ n.after))) (record { code = r.code; number = 0; used = 0 }) n.left
  text-stops {r} n =
      subst (λ l. Series b used l (record { code = r.code; number = 0; used = 0 }) n.left) (sym (map-append (λ g. g.given) n.before (n.one ∷ n.after)))
      (series-then (givens n.after) n.ran n.stopped n.some)

  stopped-taken : {r s : Texted} {a c : List ℕ} → NotTaken t b used r a → IsTaken t b used s c → ⊥
  stopped-taken {r} n m =
      let k = subst (λ l. Series b used (givens l) (record { code = r.code; number = 0; used = 0 }) n.left) (records-unique t n.said m.said) (text-stops n) in
      n.some (ap (λ x. x.code) (series-unique k m.done).0)

  taken-unique : (r s : Texted) (a c : List ℕ) → IsTaken t b used r a → IsTaken t b used s c → (r ≡ s) × (a ≡ c)
  taken-unique r s a c n m =
      let e = records-unique t n.said m.said in (
        n.answer ∙ ap (λ (l : List Line). record { code = 0; number = 0; line = 0; word = 0; used = used + 80 * length l; appended = length l }) e ∙ sym m.answer,
        (series-unique (subst (λ l. Series b used (givens l) (record { code = 0; number = 0; used = r.used }) a) e n.done) m.done).1,
      )

  pub append-text-unique : (r s : Texted) (a c : List ℕ) → AppendsText t b used r a → AppendsText t b used s c → (r ≡ s) × (a ≡ c)
  append-text-unique r s a c (inl n) (inl m) = opened-unique r s a c n m
  append-text-unique r s a c (inl n) (inr (inl m)) = absurd (opened-tried n m.accepted)
  append-text-unique r s a c (inl n) (inr (inr m)) = absurd (opened-tried n m.accepted)
  append-text-unique r s a c (inr (inl n)) (inl m) = absurd (opened-tried m n.accepted)
  append-text-unique r s a c (inr (inr n)) (inl m) = absurd (opened-tried m n.accepted)
  append-text-unique r s a c (inr (inl n)) (inr (inl m)) = stopped-unique r s a c n m
  append-text-unique r s a c (inr (inl n)) (inr (inr m)) = absurd (stopped-taken n m)
  append-text-unique r s a c (inr (inr n)) (inr (inl m)) = absurd (stopped-taken m n)
  append-text-unique r s a c (inr (inr n)) (inr (inr m)) = taken-unique r s a c n m

  -- ---- what it says
  pub text-keeps : (r : Texted) (a : List ℕ) → AppendsText t b used r a → ¬ (r.code ≡ 0) → a ≡ b
  text-keeps r a (inl n) z = n.untouched
  text-keeps r a (inr (inl n)) z = n.untouched
  text-keeps r a (inr (inr n)) z = absurd (z (ap (λ x. x.code) n.answer))

  module _ {r : Texted} {a : List ℕ} (n : IsTaken t b used r a) where
    pub text-reads : {v : ℕ} {rs : List Record} → Holds v (take used b) rs → Holds v (take r.used a) (rs ++ records (givens n.lines))
    text-reads h = series-reads n.done refl (records-fit n.said) h

    pub text-behind : {v : ℕ} {rs : List Record} → Holds v (take used b) rs → drop r.used a ≡ drop r.used b
    text-behind h = (series-behind n.done refl (records-fit n.said) h).1

    pub text-none : n.lines ≡ [] → a ≡ b
    text-none e = (series-unique (subst (λ l. Series b used (givens l) (record { code = 0; number = 0; used = r.used }) a) e n.done) ended).1
