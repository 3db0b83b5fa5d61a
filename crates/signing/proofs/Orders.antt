-- The orders of the calls, step by step.
--   version-refused, past-version, of-version, version-accepted, version-some : 6 and 7 of the version that a call takes, and the block's codes
--   by-version      : the check of a block, once its version is the one
--   older-block, older-signed, older-accepted, older-sound, older-some : the order of `to_version_1`
--   sign-block, sign-beyond, sign-open, sign-accepted, sign-sound, sign-some : that of `sign_record`
-- Assumes nothing.
use mathlib.Core.Path.{◌≡◌, refl}
use mathlib.Core.List.{List}
use mathlib.Core.Logic.{inl, inr, ⊎_elim}
use Prim.Native.Nat.{ℕ, ◌≤◌, ◌<◌}
use native.Mathlib.Nat as N
use Rattle.element.specs.Refusals.{Codes, ◌then◌, Refused, Accepted}
use Rattle.element.proofs.Refusals.{refused-some, refused-then, past-then, accepted-then, then-accepted, then-refused}
use Rattle.signs.specs.Signs.{Open}
use Rattle.block.specs.Block.{version_of, count_of, record_at}
use Rattle.block.specs.Faults.{Fault, naming, each, version_codes, block_codes, beyond_codes}
use Rattle.block.specs.Calls.{ChecksBy, Checks}
use Rattle.block.specs.declared.Checked.{Checked}
use Rattle.block.proofs.Orders.{refused-of, accepted-of, of-accepted, of-refused}
use Rattle.block.proofs.Walk.{block-some, each-some}
use Rattle.signing.specs.Orders.{of_version, signed_at, older_codes, open_at, sign_codes}

-- ---- the version
module _ (v : ℕ) (l : List ℕ) where
  abbrev version : Codes Fault
  version = naming 0 (version_codes v v l)

  pub version-refused : (c : ℕ) → Refused (version_codes v v l) c → Refused (of_version v l) (record { code = c; number = 0 })
  version-refused c r = refused-then version (block_codes l) (record { code = c; number = 0 }) (refused-of 0 (version_codes v v l) c r)

  pub past-version : (f : Fault) → Accepted (version_codes v v l) → Refused (block_codes l) f → Refused (of_version v l) f
  past-version f a r = past-then version (block_codes l) f (accepted-of 0 (version_codes v v l) a) r

  pub of-version : Accepted (version_codes v v l) → Accepted (block_codes l) → Accepted (of_version v l)
  of-version a b = accepted-then version (block_codes l) (accepted-of 0 (version_codes v v l) a) b

  pub version-accepted : Accepted (of_version v l) → (version_of l ≡ v) × Accepted (block_codes l)
  version-accepted a =
      let t = then-accepted version (block_codes l) a in
      let b = of-accepted 0 (version_codes v v l) t.0 in
      (N.le_antisymm (N.le_of_suc-le-suc (N.lt_of_not-le (λ h. b.1.0 (inr h)))) (N.le_of_suc-le-suc (N.lt_of_not-le (λ h. b.1.0 (inl h)))), t.1)

  pub version-some : (f : Fault) → Refused (of_version v l) f → ¬ (f.code ≡ 0)
  version-some f r =
      ⊎_elim (λ q. refused-some (version_codes v v l) f.code tt (of-refused 0 (version_codes v v l) f q)) (λ q. block-some l f q)
      (then-refused version (block_codes l) f r)

  pub by-version : (r : Checked) → Accepted (version_codes v v l) → Checks l r → ChecksBy (of_version v l) l r
  by-version r a (inl p) = inl (record { refused = past-version (record { code = r.code; number = r.number }) a p.refused; no_count = p.no_count })
  by-version r a (inr p) = inr (record { accepted = of-version a p.accepted; answer = p.answer })

-- ---- back to version 1
module _ (l : List ℕ) where
  abbrev signed : Codes Fault
  signed = each (signed_at l) (count_of l) 0

  pub older-block : (f : Fault) → Refused (of_version 2 l) f → Refused (older_codes l) f
  older-block f r = refused-then (of_version 2 l) signed f r

  pub older-signed : (f : Fault) → Accepted (of_version 2 l) → Refused (each (signed_at l) (count_of l) 0) f → Refused (older_codes l) f
  older-signed f a r = past-then (of_version 2 l) signed f a r

  pub older-accepted : Accepted (of_version 2 l) → Accepted (each (signed_at l) (count_of l) 0) → Accepted (older_codes l)
  older-accepted a u = accepted-then (of_version 2 l) signed a u

  pub older-sound : Accepted (older_codes l) → (version_of l ≡ 2) × Accepted (block_codes l) × Accepted (each (signed_at l) (count_of l) 0)
  older-sound a =
      let t = then-accepted (of_version 2 l) signed a in
      let v = version-accepted 2 l t.0 in
      (v.0, v.1, t.1)

  pub older-some : (f : Fault) → Refused (older_codes l) f → ¬ (f.code ≡ 0)
  older-some f r =
      ⊎_elim (λ q. version-some 2 l f q) (λ q. each-some (signed_at l) (λ k. tt) (count_of l) 0 f q) (then-refused (of_version 2 l) signed f r)

-- ---- signing
module _ (l : List ℕ) (k : ℕ) where
  abbrev after : Codes Fault
  after = naming 0 (beyond_codes l k) then naming k (open_at l k)

  pub sign-block : (f : Fault) → Refused (of_version 2 l) f → Refused (sign_codes l k) f
  sign-block f r = refused-then (of_version 2 l) after f r

  pub sign-beyond : Accepted (of_version 2 l) → count_of l ≤ k → Refused (sign_codes l k) (record { code = 12; number = 0 })
  sign-beyond a h = past-then (of_version 2 l) after (record { code = 12; number = 0 }) a (inl (h, refl))

  pub sign-open : Accepted (of_version 2 l) → k < count_of l → Open (record_at l k) → Refused (sign_codes l k) (record { code = 24; number = k })
  sign-open a h u = past-then (of_version 2 l) after (record { code = 24; number = k }) a (inr ((λ q. N.not-le_of_lt h q), inl (u, refl)))

  pub sign-accepted : Accepted (of_version 2 l) → k < count_of l → ¬ Open (record_at l k) → Accepted (sign_codes l k)
  sign-accepted a h u = accepted-then (of_version 2 l) after a ((λ q. N.not-le_of_lt h q), (u, tt))

  pub sign-sound : Accepted (sign_codes l k) → (version_of l ≡ 2) × Accepted (block_codes l) × (k < count_of l) × ¬ Open (record_at l k)
  sign-sound a =
      let t = then-accepted (of_version 2 l) after a in
      let v = version-accepted 2 l t.0 in
      (v.0, v.1, N.lt_of_not-le t.1.0, t.1.1.0)

  pub sign-some : (f : Fault) → Refused (sign_codes l k) f → ¬ (f.code ≡ 0)
  sign-some f r = ⊎_elim (λ q. version-some 2 l f q) (λ q. ⊎_elim first second (then-refused (naming 0 (beyond_codes l k)) (naming k (open_at l k)) f q)) (then-refused (of_version 2 l) after f r)
    where
      first : Refused (naming 0 (beyond_codes l k)) f → ¬ (f.code ≡ 0)
      first q = refused-some (beyond_codes l k) f.code tt (of-refused 0 (beyond_codes l k) f q)

      second : Refused (naming k (open_at l k)) f → ¬ (f.code ≡ 0)
      second q = refused-some (open_at l k) f.code tt (of-refused k (open_at l k) f q)
