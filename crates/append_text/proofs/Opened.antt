-- The codes before any record is tried, by what the search for a fault, `used` and the check of the block say.
--   refused-unplaced, accepted-unplaced, unplaced-accepted : the order of the buffer, at no line of the text
--   form-refused, whole-refused, buffer-refused, text-accepted : the order of the text, and then that of the buffer
--   form-good, whole-good, buffer-good : what a call that is accepted has met
--   refused-answer : the answer of a refusal before any record
--   used-beyond, block_refused, block-counted : by what `used` and the check of the block say
-- Assumes nothing.
use mathlib.Core.Path.{◌≡◌, refl, ap}
use mathlib.Core.List.{List}
use mathlib.Core.Logic.{inl, inr}
use Prim.Native.Nat.{ℕ, ◌≤◌, ◌<◌}
use native.Mathlib.Omega.{arith}
use lib.ListN.{length, take}
use Rattle.element.proofs.Refusals.{refused-then, past-then, accepted-then, then-accepted}
use Rattle.element.specs.Refusals.{Codes, no_more, code, ◌then◌, Refused, Accepted}
use Rattle.std.specs.Prelude.{Err}
use Rattle.faults.specs.Refusal.{number_of}
use Rattle.block.specs.Block.{count_of}
use Rattle.block.specs.declared.Checked.{Checked}
use Rattle.block.specs.Calls.{Checks}
use Rattle.block.specs.Faults.{Fault, block_codes}
use Rattle.block.proofs.Walk.{block-some}
use Rattle.append.specs.Append.{buffer_codes}
use Rattle.record_text.specs.Faults.{Spot, form_codes, whole_codes}
use Rattle.append_text.specs.declared.RefusedAt.{RefusedAt}
use Rattle.append_text.specs.Calls.{unplaced, text_codes, as_texted, AppendsText}

-- ---- at no line
abbrev nowhere : Fault → Spot
nowhere f = record { code = f.code; number = f.number; line = 0; word = 0 }

pub refused-unplaced : (o : Codes Fault) (f : Fault) → Refused o f → Refused (unplaced o) (nowhere f)
refused-unplaced no_more f r = elim r [ ]
refused-unplaced (code g F o) f (inl r) = inl (r.0, ap nowhere r.1)
refused-unplaced (code g F o) f (inr r) = inr (r.0, refused-unplaced o f r.1)

pub accepted-unplaced : (o : Codes Fault) → Accepted o → Accepted (unplaced o)
accepted-unplaced no_more a = a
accepted-unplaced (code f F o) a = (a.0, accepted-unplaced o a.1)

pub unplaced-accepted : (o : Codes Fault) → Accepted (unplaced o) → Accepted o
unplaced-accepted no_more a = a
unplaced-accepted (code f F o) a = (a.0, unplaced-accepted o a.1)

-- ---- the order
module _ (t b : List ℕ) (used : ℕ) where
  abbrev behind : Codes Spot
  behind = whole_codes t then unplaced (buffer_codes b used)

  pub form-refused : (f : Spot) → Refused (form_codes t) f → Refused (text_codes t b used) f
  form-refused f r = refused-then (form_codes t) behind f r

  pub whole-refused : (f : Spot) → Accepted (form_codes t) → Refused (whole_codes t) f → Refused (text_codes t b used) f
  whole-refused f a r = past-then (form_codes t) behind f a (refused-then (whole_codes t) (unplaced (buffer_codes b used)) f r)

  pub buffer-refused : (f : Fault) → Accepted (form_codes t) → Accepted (whole_codes t) → Refused (buffer_codes b used) f → Refused (text_codes t b used) (nowhere f)
  buffer-refused f a c r =
      past-then (form_codes t) behind (nowhere f) a
      (past-then (whole_codes t) (unplaced (buffer_codes b used)) (nowhere f) c (refused-unplaced (buffer_codes b used) f r))

  pub text-accepted : Accepted (form_codes t) → Accepted (whole_codes t) → Accepted (buffer_codes b used) → Accepted (text_codes t b used)
  text-accepted a c d =
      accepted-then (form_codes t) behind a (accepted-then (whole_codes t) (unplaced (buffer_codes b used)) c (accepted-unplaced (buffer_codes b used) d))

  module _ (a : Accepted (text_codes t b used)) where
    pub form-good : Accepted (form_codes t)
    form-good = (then-accepted (form_codes t) behind a).0

    pub whole-good : Accepted (whole_codes t)
    whole-good = (then-accepted (whole_codes t) (unplaced (buffer_codes b used)) (then-accepted (form_codes t) behind a).1).0

    pub buffer-good : Accepted (buffer_codes b used)
    buffer-good =
        unplaced-accepted (buffer_codes b used) (then-accepted (whole_codes t) (unplaced (buffer_codes b used)) (then-accepted (form_codes t) behind a).1).1

  -- ---- the answer
  pub refused-answer : (e : RefusedAt) → Refused (text_codes t b used) (record { code = number_of e.refusal; number = e.number; line = e.line; word = e.word })
      → AppendsText t b used (as_texted (Err e)) b
  refused-answer e h = inl (record { refused = h; zeros = refl; untouched = refl })

  -- ---- the block
  pub used-beyond : Accepted (form_codes t) → Accepted (whole_codes t) → length b < used → Refused (text_codes t b used) (nowhere (record { code = 5; number = 0 }))
  used-beyond a c h = buffer-refused (record { code = 5; number = 0 }) a c (inl (h, refl))

  module _ (r : Checked) (a : Accepted (form_codes t)) (c : Accepted (whole_codes t)) (h : used ≤ length b) (k : Checks (take used b) r) where
    within : ¬ (length b < used)
    within l = absurd (omega arith)

    pub block_refused : ¬ (r.code ≡ 0) → Refused (text_codes t b used) (nowhere (record { code = r.code; number = r.number }))
    block_refused n = buffer-refused (record { code = r.code; number = r.number }) a c (inr (within, refused-by k))
      where
        refused-by : Checks (take used b) r → Refused (block_codes (take used b)) (record { code = r.code; number = r.number })
        refused-by (inl q) = q.refused
        refused-by (inr q) = absurd (n (ap (λ u. u.code) q.answer))

    pub block-counted : r.code ≡ 0 → Accepted (text_codes t b used) × (r.count ≡ count_of (take used b))
    block-counted z = counted-by k
      where
        counted-by : Checks (take used b) r → Accepted (text_codes t b used) × (r.count ≡ count_of (take used b))
        counted-by (inl q) = absurd (block-some (take used b) (record { code = r.code; number = r.number }) q.refused z)
        counted-by (inr q) = (text-accepted a c (within, q.accepted), ap (λ u. u.count) q.answer)
