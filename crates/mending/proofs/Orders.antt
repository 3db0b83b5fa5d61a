-- The order of `straighten_record`, step by step.
--   mend-fetch, mend-own, mend-accepted, mend-sound, mend-some : the codes of a fetch, and then the record's own, with its number
--   mend-room       : the bytes of an accepted record stand in the block
--   own-taken, own-accepted, own-hopeless : a record is accepted exactly where it is a six-node triangle and not hopeless, and has 22 where it is
--   formed-level    : a record of a block has no other fault
--   own-only        : so its own codes are 1 and 22
-- Assumes nothing.
use mathlib.Core.Path.{◌≡◌, refl}
use mathlib.Core.List.{List}
use mathlib.Core.Logic.{◌⊎◌, inl, inr, ⊎_elim}
use Prim.Native.Nat.{ℕ, ◌+◌, ◌≤◌, ◌<◌}
use native.Mathlib.Omega.{arith}
use lib.ListN.{length}
use Rattle.algebra.proofs.Truth.{not-not}
use Rattle.element.specs.Refusals.{Codes, no_more, code, Refused, Accepted, level_codes, six_codes}
use Rattle.element.proofs.Refusals.{refused-accepted, refused-some, refused-then, past-then, accepted-then, then-accepted, then-refused}
use Rattle.record.specs.declared.Record.{Record}
use Rattle.record.specs.Record.{used, WellFormed}
use Rattle.signs.proofs.Verdicts.{formed-accepted}
use Rattle.block.specs.Block.{count_of, place, record_at}
use Rattle.block.specs.Faults.{Fault, naming, block_codes, fetch_codes}
use Rattle.block.proofs.Orders.{refused-of, accepted-of, of-accepted, of-refused}
use Rattle.block.proofs.Header.{header-size}
use Rattle.block.proofs.Walk.{accepted-header}
use Rattle.block.proofs.Answers.{accepted-block, fetch-some}
use Rattle.mending.specs.Orders.{Hopeless, own_codes, mend_codes}

-- ---- a fetch, and then the record's own
module _ (l : List ℕ) (k : ℕ) where
  abbrev own : Codes ℕ
  own = own_codes (record_at l k)

  pub mend-fetch : (f : Fault) → Refused (fetch_codes l k) f → Refused (mend_codes l k) f
  mend-fetch f r = refused-then (fetch_codes l k) (naming k own) f r

  pub mend-own : (c : ℕ) → Accepted (fetch_codes l k) → Refused (own_codes (record_at l k)) c → Refused (mend_codes l k) (record { code = c; number = k })
  mend-own c a r = past-then (fetch_codes l k) (naming k own) (record { code = c; number = k }) a (refused-of k own c r)

  pub mend-accepted : Accepted (fetch_codes l k) → Accepted (own_codes (record_at l k)) → Accepted (mend_codes l k)
  mend-accepted a b = accepted-then (fetch_codes l k) (naming k own) a (accepted-of k own b)

  pub mend-sound : Accepted (mend_codes l k) → Accepted (block_codes l) × (k < count_of l) × Accepted (own_codes (record_at l k))
  mend-sound a =
      let t = then-accepted (fetch_codes l k) (naming k own) a in
      let b = accepted-block l k t.0 in
      (b.0, b.1, of-accepted k own t.1)

  pub mend-room : Accepted (mend_codes l k) → place k + 80 ≤ length l
  mend-room a = let s = mend-sound a in omega (arith, header-size l (accepted-header l s.0), s.1)

  pub mend-some : (f : Fault) → Refused (mend_codes l k) f → ¬ (f.code ≡ 0)
  mend-some f r =
      ⊎_elim (fetch-some l k f) (λ q. refused-some own f.code tt (of-refused k own f q)) (then-refused (fetch_codes l k) (naming k own) f r)

-- ---- the record's own
module _ (r : Record) where
  abbrev last : Codes ℕ
  last = code 22 (Hopeless r) no_more

  abbrev six : Codes ℕ
  six = six_codes r.kind r.limit (used r)

  pub own-taken : Accepted (own_codes r) → (r.kind ≡ 6) × ¬ Hopeless r
  own-taken a = let t = then-accepted six last a in (not-not r.kind 6 t.0.0, t.1.0)

  pub own-accepted : r.kind ≡ 6 → Accepted (level_codes r.kind r.limit (used r)) → ¬ Hopeless r → Accepted (own_codes r)
  own-accepted e a h = accepted-then six last ((λ f. f e), a) (h, tt)

  pub own-hopeless : r.kind ≡ 6 → Accepted (level_codes r.kind r.limit (used r)) → Hopeless r → Refused (own_codes r) 22
  own-hopeless e a h = past-then six last 22 ((λ f. f e), a) (inl (h, refl))

-- a record of a block has no fault of its level limit, its length, its range and its corners
pub formed-level : {v : ℕ} (r : Record) → WellFormed v r → Accepted (level_codes r.kind r.limit (used r))
formed-level r w = (formed-accepted r w r.limit w.level_allowed).1

-- so its own codes are 1, for another kind, and 22
pub own-only : {v : ℕ} (r : Record) → WellFormed v r → (c : ℕ) → Refused (own_codes r) c
    → (¬ (r.kind ≡ 6) × (c ≡ 1)) ⊎ ((r.kind ≡ 6) × Hopeless r × (c ≡ 22))
own-only r w c (inl p) = inl p
own-only r w c (inr (f, q)) = go (then-refused (level_codes r.kind r.limit (used r)) (last r) c q)
  where
    go : Refused (level_codes r.kind r.limit (used r)) c ⊎ Refused (last r) c
        → (¬ (r.kind ≡ 6) × (c ≡ 1)) ⊎ ((r.kind ≡ 6) × Hopeless r × (c ≡ 22))
    go (inl p) = absurd (refused-accepted (level_codes r.kind r.limit (used r)) c p (formed-level r w))
    go (inr (inl (h, e))) = inr (not-not r.kind 6 f, h, e)
    go (inr (inr (h, e))) = absurd e
