-- What the contracts of the calls come to: one outcome each, and which refusal (02, Ask 13).
--   scale-unique, unscale-unique : answer and buffer are determined by the arguments
--   scale-keeps, unscale-keeps   : a refusal leaves every place of the buffer
--   scale-is, unscale-is         : the code 0 is a success
--   scale-accepts, unscale-accepts : so is every call without a fault
--   scale-other-kind, unscale-other-kind : what a block does not hold, kind 10 too, is 1
--   fault-23, code-23            : 23 exactly where the kind and the length are good, and some number has one of the three faults
--   scale-room, unscale-room     : as many places as the answer says are in the buffer
--   scale-front, unscale-front   : the first places of the buffer, as many as the answer says, answer to the list
-- Over the contracts alone. Assumes nothing.
use Rattle.std.proofs.Common.{◌≡◌, ℕ, ◌*◌, ◌<◌, ◌≤◌, T, ◌⊎◌, List, length, take, ℤ, sym, refl, ap, ◌∙◌, subst, inl, inr, arith}
use native.Mathlib.Nat as N
use lib.Ieee.{Float}
use Rattle.element.specs.Kinds.{NotStored}
use Rattle.element.specs.Refusals.{Codes, code, ◌then◌, Refused, Accepted}
use Rattle.element.proofs.Refusals.{refused-accepted, refused-some, numbered, past-then, then-accepted, one-outcome}
use Rattle.solver_grid.specs.declared.Scaled.{Scaled}
use Rattle.solver_grid.specs.Grid.{OnGrid, Over, SomeOff, SomeFault, float}
use Rattle.solver_grid.specs.Calls.{scaled, Pairs, Kept, Laid, list_codes, room_codes, scale_codes, unscale_codes, Scales, Unscales, ScaleCoordinates, UnscaleCoordinates}
use Rattle.solver_grid.proofs.Pairs.{pairs-length, filled-front, filled-only}
use Rattle.solver_grid.proofs.Answers.{many_is}
use Rattle.solver_grid.proofs.Numbers.{grid-only, over-only, fault-off, off-fault}

-- ---- over any relation with one answer, and any codes behind those of the list
module _ {A B : Type 0} (R : A → B → Type 0) (one : (x : A) (y z : B) → R x y → R x z → y ≡ z) (p : Codes ℕ) (n : ℕ) (xs : List A)
    (before : List B) where
  abbrev o : Codes ℕ
  o = list_codes n (length xs) then p

  abbrev Good : Scaled → List B → Type 0
  Good r a = Laid R o n xs before r a

  abbrev Call : Scaled → List B → Type 0
  Call r a = Kept o before r a ⊎ Good r a

  abbrev Outcome : Type 0
  Outcome = Scaled × List B

  unique : (r s : Scaled) (a b : List B) → Call r a → Call s b → (r ≡ s) × (a ≡ b)
  unique r s a b u w =
      let e = one-outcome {R = λ (c : Outcome). Kept o before c.0 c.1} {S = λ (c : Outcome). Good c.0 c.1} o
      (λ c. (scaled c 0, before)) (λ c k. (c.0.code, k.refused, λ i. (k.zeros i, k.untouched i))) (λ c l. l.accepted)
      (λ c d l m. λ i. ((l.answer ∙ sym m.answer) i, filled-only R one l.filled m.filled i)) (r, a) (s, b) u w in
      (ap (λ (c : Outcome). c.0) e, ap (λ (c : Outcome). c.1) e)

  is : (r : Scaled) (a : List B) → T (numbered o) → Call r a → r.code ≡ 0 → Good r a
  is r a t (inl k) e = absurd (refused-some o r.code t k.refused e)
  is r a t (inr l) e = l

  keeps : (r : Scaled) (a : List B) → Call r a → ¬ (r.code ≡ 0) → (r ≡ scaled r.code 0) × (a ≡ before)
  keeps r a (inl k) h = (k.zeros, k.untouched)
  keeps r a (inr l) h = absurd (h (ap (λ (q : Scaled). q.code) l.answer))

  accepts : (r : Scaled) (a : List B) → Call r a → Accepted o → Good r a
  accepts r a (inl k) t = absurd (refused-accepted o r.code k.refused t)
  accepts r a (inr l) t = l

  -- the answer to a fault that comes first
  refused-with : (c : ℕ) (r : Scaled) (a : List B) → Call r a → Refused o c → (r ≡ scaled c 0) × (a ≡ before)
  refused-with c r a u f = unique r (scaled c 0) a before u (inl (record { refused = f; zeros = refl; untouched = refl }))

  other-kind : (r : Scaled) (a : List B) → Call r a → NotStored n → (r ≡ scaled 1 0) × (a ≡ before)
  other-kind r a u f = refused-with 1 r a u (inl (f, refl))

  module _ (r : Scaled) (a : List B) (l : Good r a) where
    many : length xs ≡ 2 * n
    many = many_is n (length xs) (then-accepted (list_codes n (length xs)) p l.accepted).0

    front : Pairs R xs (take r.count a)
    front =
        subst (Pairs R xs) (sym (ap (λ (q : Scaled). take q.count a) l.answer ∙ filled-front R l.filled many)) l.filled.each

    pub front-many : length (take r.count a) ≡ 2 * n
    front-many = pairs-length R xs (take r.count a) front ∙ many

-- ---- the two calls
module _ (n : ℕ) (xs : List Float) (before : List ℤ) where
  abbrev pub scale-rest : Codes ℕ
  scale-rest = code 23 (SomeOff xs) (room_codes n (length before))

  pub scale-unique : (r s : Scaled) (a b : List ℤ) → ScaleCoordinates n xs before r a → ScaleCoordinates n xs before s b → (r ≡ s) × (a ≡ b)
  scale-unique = unique OnGrid grid-only scale-rest n xs before

  pub scale-is : (r : Scaled) (a : List ℤ) → ScaleCoordinates n xs before r a → r.code ≡ 0 → Scales n xs before r a
  scale-is r a p e = is OnGrid grid-only scale-rest n xs before r a tt p e

  pub scale-keeps : (r : Scaled) (a : List ℤ) → ScaleCoordinates n xs before r a → ¬ (r.code ≡ 0) → (r ≡ scaled r.code 0) × (a ≡ before)
  scale-keeps = keeps OnGrid grid-only scale-rest n xs before

  pub scale-accepts : (r : Scaled) (a : List ℤ) → ScaleCoordinates n xs before r a → Accepted (scale_codes n xs (length before)) → Scales n xs before r a
  scale-accepts = accepts OnGrid grid-only scale-rest n xs before

  pub scale-other-kind : (r : Scaled) (a : List ℤ) → ScaleCoordinates n xs before r a → NotStored n → (r ≡ scaled 1 0) × (a ≡ before)
  scale-other-kind = other-kind OnGrid grid-only scale-rest n xs before

  -- 23: "some number isn't finite, isn't on the grid, or falls outside i32 after scaling"
  pub fault-23 : (r : Scaled) (a : List ℤ)
      → ScaleCoordinates n xs before r a
      → Accepted (list_codes n (length xs))
      → SomeFault xs
      → (r ≡ scaled 23 0) × (a ≡ before)
  fault-23 r a p t (i, h, f) =
      refused-with OnGrid grid-only scale-rest n xs before 23 r a p
      (past-then (list_codes n (length xs)) scale-rest 23 t (inl ((i, h, fault-off (float xs i) f), refl)))

  pub code-23 : (r : Scaled) (a : List ℤ) → ScaleCoordinates n xs before r a → r.code ≡ 23 → Accepted (list_codes n (length xs)) × SomeFault xs
  code-23 r a (inr l) e = absurd (let z = sym e ∙ ap (λ (q : Scaled). q.code) l.answer in omega arith)
  code-23 r a (inl k) e = go k.refused
    where
      go : Refused (scale_codes n xs (length before)) r.code → Accepted (list_codes n (length xs)) × SomeFault xs
      go (inl (f, z)) = absurd (omega (arith, e, z))
      go (inr (g, inl (f, z))) = absurd (omega (arith, e, z))
      go (inr (g, inr (h, inl ((i, l, f), z)))) = ((g, (h, tt)), (i, l, off-fault (float xs i) f))
      go (inr (g, inr (h, inr (k, inl (f, z))))) = absurd (omega (arith, e, z))
      go (inr (g, inr (h, inr (k, inr (f, z))))) = absurd z

  pub scale-front : (r : Scaled) (a : List ℤ) → Scales n xs before r a → Pairs OnGrid xs (take r.count a)
  scale-front = front OnGrid grid-only scale-rest n xs before

module _ (n : ℕ) (xs : List ℤ) (before : List Float) where
  abbrev pub unscale-rest : Codes ℕ
  unscale-rest = room_codes n (length before)

  pub unscale-unique : (r s : Scaled) (a b : List Float)
      → UnscaleCoordinates n xs before r a
      → UnscaleCoordinates n xs before s b
      → (r ≡ s) × (a ≡ b)
  unscale-unique = unique Over over-only unscale-rest n xs before

  pub unscale-is : (r : Scaled) (a : List Float) → UnscaleCoordinates n xs before r a → r.code ≡ 0 → Unscales n xs before r a
  unscale-is r a p e = is Over over-only unscale-rest n xs before r a tt p e

  pub unscale-keeps : (r : Scaled) (a : List Float) → UnscaleCoordinates n xs before r a → ¬ (r.code ≡ 0) → (r ≡ scaled r.code 0) × (a ≡ before)
  unscale-keeps = keeps Over over-only unscale-rest n xs before

  pub unscale-accepts : (r : Scaled) (a : List Float) → UnscaleCoordinates n xs before r a → Accepted (unscale_codes n xs (length before)) → Unscales n xs before r a
  unscale-accepts = accepts Over over-only unscale-rest n xs before

  pub unscale-other-kind : (r : Scaled) (a : List Float) → UnscaleCoordinates n xs before r a → NotStored n → (r ≡ scaled 1 0) × (a ≡ before)
  unscale-other-kind = other-kind Over over-only unscale-rest n xs before

  pub unscale-front : (r : Scaled) (a : List Float) → Unscales n xs before r a → Pairs Over xs (take r.count a)
  unscale-front = front Over over-only unscale-rest n xs before

-- as many places as the answer says are there
room_of : {c m room : ℕ} (r : Scaled) → r ≡ scaled c m → ¬ (room < m) → r.count ≤ room
room_of {room = room} r e h = subst (λ (q : Scaled). q.count ≤ room) (sym e) (N.le_of_suc-le-suc (N.lt_of_not-le h))

pub scale-room : {n : ℕ} {xs : List Float} {before : List ℤ} {r : Scaled} {a : List ℤ} → ScaleCoordinates n xs before r a → r.count ≤ length before
scale-room {r = r} (inl k) = room_of r k.zeros (λ h. N.not-suc-le-zero h)
scale-room {r = r} (inr l) = room_of r l.answer l.accepted.1.1.1.0

pub unscale-room : {n : ℕ} {xs : List ℤ} {before : List Float} {r : Scaled} {a : List Float} → UnscaleCoordinates n xs before r a → r.count ≤ length before
unscale-room {r = r} (inl k) = room_of r k.zeros (λ h. N.not-suc-le-zero h)
unscale-room {r = r} (inr l) = room_of r l.answer l.accepted.1.1.0
