-- "The first fault in this order counts": one code at most, and none where the call is accepted.
--   refused-unique   : two codes that the order gives are the same
--   refused-accepted : an order that refuses does not accept
--   refused-then, past-then : a code of the first of two orders, and one of the second
--   accepted-then, then-accepted : no fault of both is no fault of each
--   then-refused     : a code of both is one of the first or of the second
--   then-past        : where it is none of the first, the first has no fault, and it is the second's
--   lacks, refused-lacks : an order in which no fault has a code, as a test; it does not give that code
--   coded-here, coded-past, coded-end : the code of a call, test by test
--   coded-first, coded-then : the code of two orders, by the first, and by the second where the first has no fault
--   refused-some, coded-some, coded_none : codes that are not 0, and those that are; `numbered o` says that no fault has the code 0
--   one-outcome      : a call that refuses by its order, with an outcome for each fault, or has one success, has one outcome
--   outside-first    : of an element's nodes 4 comes first, whatever the corners
--   collapsed-next   : and then 21, whatever stands behind
-- For every order of codes. Assumes nothing.
use mathlib.Core.Path.{◌≡◌, refl, sym, ◌∙◌, ap}
use mathlib.Core.Logic.{◌⊎◌, inl, inr, ⊎_elim}
use mathlib.Core.Bool.{Bool, true, false, not, ◌&&◌}
use mathlib.Core.List.{List}
use Prim.Native.Nat.{ℕ}
use native.Mathlib.Nat as N
use lib.Dec.{T, eqb, ltb, ltb→lt}
use lib.Ieee.Fits.{eq→eqb}
use lib.IntN.{ℤ}
use Rattle.algebra.proofs.Truth.{T_and}
use Rattle.element.specs.Kinds.{Kind}
use Rattle.element.specs.Corners.{Collapsed}
use Rattle.element.specs.Refusals.{Codes, no_more, code, ◌then◌, Refused, Accepted, Coded, refused, accepted, Outside, node_codes}

pub refused-unique : {A : Type 0} (o : Codes A) (a b : A) → Refused o a → Refused o b → a ≡ b
refused-unique no_more a b p q = absurd p
refused-unique (code n F o) a b (inl (f, e)) (inl (g, h)) = e ∙ sym h
refused-unique (code n F o) a b (inl (f, e)) (inr (g, h)) = absurd (g f)
refused-unique (code n F o) a b (inr (f, e)) (inl (g, h)) = absurd (f g)
refused-unique (code n F o) a b (inr (f, e)) (inr (g, h)) = refused-unique o a b e h

pub refused-accepted : {A : Type 0} (o : Codes A) (a : A) → Refused o a → Accepted o → ⊥
refused-accepted no_more a p q = p
refused-accepted (code n F o) a (inl (f, e)) (g, h) = g f
refused-accepted (code n F o) a (inr (f, e)) (g, h) = refused-accepted o a e h

-- ---- one order behind another
pub refused-then : {A : Type 0} (o p : Codes A) (a : A) → Refused o a → Refused (o then p) a
refused-then no_more p a r = absurd r
refused-then (code c F o) p a (inl r) = inl r
refused-then (code c F o) p a (inr (f, r)) = inr (f, refused-then o p a r)

pub past-then : {A : Type 0} (o p : Codes A) (a : A) → Accepted o → Refused p a → Refused (o then p) a
past-then no_more p a t r = r
past-then (code c F o) p a (f, t) r = inr (f, past-then o p a t r)

pub accepted-then : {A : Type 0} (o p : Codes A) → Accepted o → Accepted p → Accepted (o then p)
accepted-then no_more p t u = u
accepted-then (code c F o) p (f, t) u = (f, accepted-then o p t u)

pub then-accepted : {A : Type 0} (o p : Codes A) → Accepted (o then p) → Accepted o × Accepted p
then-accepted no_more p t = (tt, t)
then-accepted (code c F o) p (f, t) = let u = then-accepted o p t in ((f, u.0), u.1)

pub then-refused : {A : Type 0} (o p : Codes A) (a : A) → Refused (o then p) a → Refused o a ⊎ Refused p a
then-refused no_more p a r = inr r
then-refused (code c F o) p a (inl r) = inl (inl r)
then-refused (code c F o) p a (inr (f, r)) = ⊎_elim (λ q. inl (inr (f, q))) (λ q. inr q) (then-refused o p a r)

pub then-past : {A : Type 0} (o p : Codes A) (a : A) → ¬ Refused o a → Refused (o then p) a → Accepted o × Refused p a
then-past no_more p a f r = (tt, r)
then-past (code c F o) p a f (inl r) = absurd (f (inl r))
then-past (code c F o) p a f (inr (g, r)) = let (t, q) = then-past o p a (λ s. f (inr (g, s))) r in ((g, t), q)

abbrev pub lacks : ℕ → Codes ℕ → Bool
lacks c no_more = true
lacks c (code n F o) = not (eqb c n) && lacks c o

pub refused-lacks : (o : Codes ℕ) (c : ℕ) → T (lacks c o) → ¬ Refused o c
refused-lacks no_more c t r = r
refused-lacks (code n F o) c t (inl (f, e)) = T_not (eqb c n) (T_and (not (eqb c n)) (lacks c o) t).0 (eq→eqb e)
  where
    T_not : (b : Bool) → T (not b) → T b → ⊥
    T_not true s t = s
    T_not false s t = t
refused-lacks (code n F o) c t (inr (f, r)) = refused-lacks o c (T_and (not (eqb c n)) (lacks c o) t).1 r

-- ---- test by test
pub coded-here : {n : ℕ} {F : Type 0} {o : Codes ℕ} → F → Coded (code n F o) n
coded-here f = refused (inl (f, refl))

pub coded-past : {n c : ℕ} {F : Type 0} {o : Codes ℕ} → ¬ F → Coded o c → Coded (code n F o) c
coded-past f (refused r) = refused (inr (f, r))
coded-past f (accepted a e) = accepted (f, a) e

pub coded-end : Coded no_more 0
coded-end = accepted tt refl

abbrev pub numbered : Codes ℕ → Bool
numbered no_more = true
numbered (code n F o) = ltb 0 n && numbered o

pub coded-some : {o : Codes ℕ} {c : ℕ} → Coded o c → ¬ (c ≡ 0) → Refused o c
coded-some (refused r) h = r
coded-some (accepted a e) h = absurd (h e)

pub refused-some : (o : Codes ℕ) (c : ℕ) → T (numbered o) → Refused o c → ¬ (c ≡ 0)
refused-some no_more c t r e = r
refused-some (code n F o) c t (inl (f, q)) e =
    let h = ltb→lt 0 n (T_and (ltb 0 n) (numbered o) t).0 in
    N.lt_irrefl 0 (rw (sym q ∙ e) at h)
refused-some (code n F o) c t (inr (f, r)) e = refused-some o c (T_and (ltb 0 n) (numbered o) t).1 r e

pub coded_none : {o : Codes ℕ} {c : ℕ} → Coded o c → T (numbered o) → c ≡ 0 → Accepted o
coded_none {o} {c} (refused r) t e = absurd (refused-some o c t r e)
coded_none (accepted a e) t f = a

-- ---- the code of two orders
pub coded-first : (o p : Codes ℕ) (c : ℕ) → Coded o c → ¬ (c ≡ 0) → Coded (o then p) c
coded-first o p c q h = refused (refused-then o p c (coded-some q h))

pub coded-then : (o p : Codes ℕ) (c : ℕ) → Accepted o → Coded p c → Coded (o then p) c
coded-then o p c a (refused r) = refused (past-then o p c a r)
coded-then o p c a (accepted w e) = accepted (accepted-then o p a w) e

-- ---- a refusal or a success; C is what a call answers, or what it answers and leaves
pub one-outcome : {A C : Type 0} {R S : C → Type 0} (o : Codes A) (refusal : A → C)
    → ((c : C) → R c → (a : A) × Refused o a × (c ≡ refusal a))
    → ((c : C) → S c → Accepted o)
    → ((c d : C) → S c → S d → c ≡ d)
    → (c d : C)
    → R c ⊎ S c
    → R d ⊎ S d
    → c ≡ d
one-outcome o f names good one c d (inl p) (inl q) =
    let (a, r, e) = names c p in
    let (b, s, g) = names d q in
    e ∙ ap f (refused-unique o a b r s) ∙ sym g
one-outcome o f names good one c d (inl p) (inr q) = let (a, r, e) = names c p in absurd (refused-accepted o a r (good d q))
one-outcome o f names good one c d (inr p) (inl q) = let (b, s, g) = names d q in absurd (refused-accepted o b s (good c p))
one-outcome o f names good one c d (inr p) (inr q) = one c d p q

-- ---- the codes of an element's nodes; o is the order behind them
module _ (k : Kind) (xs : List ℤ) (o : Codes ℕ) where
  pub outside-first : Outside k xs → Refused (node_codes k xs o) 4
  outside-first h = inl (h, refl)

  pub collapsed-next : ¬ Outside k xs → Collapsed k xs → Refused (node_codes k xs o) 21
  collapsed-next g c = inr (g, inl (c, refl))
