-- What the codes before the elements are.
--   buffer-refused, text-refused, mesh-accepted : the order of the text, and then that of the buffer
--   text-accepted, buffer-accepted : what a call that is accepted has met
--   refused-answer : the answer of a refusal before any element
--   zeros-seat     : places that are clear
--   used-beyond, block_refused, block-counted : by what `used` and the check of the block say
-- Assumes nothing.
use mathlib.Core.Path.{◌≡◌, refl, ap}
use mathlib.Core.Logic.{inl, inr}
use mathlib.Core.List.{List}
use Prim.Native.Nat.{ℕ, zero, suc, ◌≤◌, ◌<◌}
use native.Mathlib.Omega.{arith}
use lib.ListN.{length, take, replicate}
use Rattle.element.proofs.Refusals.{refused-then, past-then, accepted-then, then-accepted}
use Rattle.element.specs.Refusals.{Refused, Accepted}
use Rattle.std.specs.Prelude.{Err}
use Rattle.faults.specs.Refusal.{number_of}
use Rattle.block.specs.declared.Refused.{Refused as RefusedAnswer}
use Rattle.block.specs.Block.{count_of}
use Rattle.block.specs.declared.Checked.{Checked}
use Rattle.block.specs.Calls.{Checks}
use Rattle.block.specs.Faults.{Fault, naming, block_codes}
use Rattle.block.proofs.Orders.{refused-of, accepted-of, of-accepted}
use Rattle.block.proofs.Walk.{block-some}
use Rattle.append.specs.Append.{buffer_codes}
use Rattle.mesh_text.specs.Rows.{none, both}
use Rattle.mesh_nodes.specs.Nodes.{Seats}
use Rattle.mesh.specs.Calls.{text_codes, mesh_codes, as_meshed, AppendsMesh}

module _ (t b : List ℕ) (used : ℕ) where
  pub buffer-refused : (f : Fault) → Accepted (text_codes t) → Refused (buffer_codes b used) f → Refused (mesh_codes t b used) f
  buffer-refused f a r = past-then (naming 0 (text_codes t)) (buffer_codes b used) f (accepted-of 0 (text_codes t) a) r

  pub text-refused : (c : ℕ) → Refused (text_codes t) c → Refused (mesh_codes t b used) (record { code = c; number = 0 })
  text-refused c r = refused-then (naming 0 (text_codes t)) (buffer_codes b used) (record { code = c; number = 0 }) (refused-of 0 (text_codes t) c r)

  pub mesh-accepted : Accepted (text_codes t) → Accepted (buffer_codes b used) → Accepted (mesh_codes t b used)
  mesh-accepted a c = accepted-then (naming 0 (text_codes t)) (buffer_codes b used) (accepted-of 0 (text_codes t) a) c

  pub text-accepted : Accepted (mesh_codes t b used) → Accepted (text_codes t)
  text-accepted a = of-accepted 0 (text_codes t) (then-accepted (naming 0 (text_codes t)) (buffer_codes b used) a).0

  pub buffer-accepted : Accepted (mesh_codes t b used) → Accepted (buffer_codes b used)
  buffer-accepted a = (then-accepted (naming 0 (text_codes t)) (buffer_codes b used) a).1

  -- ---- the answer
  pub refused-answer : (level : ℕ) (e : RefusedAnswer) → Refused (mesh_codes t b used) (record { code = number_of e.refusal; number = e.number })
      → AppendsMesh t level b used (as_meshed (Err e)) b
  refused-answer level e h = inl (record { refused = h; zeros = refl; untouched = refl })

  pub used-beyond : Accepted (text_codes t) → length b < used → Refused (mesh_codes t b used) (record { code = 5; number = 0 })
  used-beyond a h = buffer-refused (record { code = 5; number = 0 }) a (inl (h, refl))

  -- ---- the block
  module _ (r : Checked) (a : Accepted (text_codes t)) (h : used ≤ length b) (k : Checks (take used b) r) where
    within : ¬ (length b < used)
    within l = absurd (omega arith)

    pub block_refused : ¬ (r.code ≡ 0) → Refused (mesh_codes t b used) (record { code = r.code; number = r.number })
    block_refused n = buffer-refused (record { code = r.code; number = r.number }) a (inr (within, refused-by k))
      where
        refused-by : Checks (take used b) r → Refused (block_codes (take used b)) (record { code = r.code; number = r.number })
        refused-by (inl q) = q.refused
        refused-by (inr q) = absurd (n (ap (λ u. u.code) q.answer))

    pub block-counted : r.code ≡ 0 → Accepted (mesh_codes t b used) × (r.count ≡ count_of (take used b))
    block-counted z = counted-by k
      where
        counted-by : Checks (take used b) r → Accepted (mesh_codes t b used) × (r.count ≡ count_of (take used b))
        counted-by (inl q) = absurd (block-some (take used b) (record { code = r.code; number = r.number }) q.refused z)
        counted-by (inr q) = (mesh-accepted a (within, q.accepted), ap (λ u. u.count) q.answer)

-- ---- places that are clear
pub zeros-seat : (t : List ℕ) (w : ℕ) → Seats t (replicate w 0)
zeros-seat t zero = none
zeros-seat t (suc w) = both (inl refl) (zeros-seat t w)
