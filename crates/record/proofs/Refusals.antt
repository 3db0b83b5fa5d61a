-- The result of a test, and its order.
--   coded-ok  : where a test refuses nothing, its order has no fault
--   coded-err : and where it refuses, the refusal is the first fault of its order
-- Assumes nothing.
use mathlib.Core.Path.{refl}
use Prim.Native.Nat.{ℕ}
use lib.Dec.{T}
use Rattle.element.specs.Refusals.{Codes, Refused, Accepted, Coded}
use Rattle.element.proofs.Refusals.{numbered, coded_none, coded-some}
use Rattle.faults.specs.declared.refusal.Refusal.{Refusal}
use Rattle.faults.specs.Refusal.{number_of}
use Rattle.faults.proofs.Refusals.{number-some}

pub coded-ok : {o : Codes ℕ} → Coded o 0 → T (numbered o) → Accepted o
coded-ok q t = coded_none q t refl

pub coded-err : {o : Codes ℕ} (e : Refusal) → Coded o (number_of e) → Refused o (number_of e)
coded-err e q = coded-some q (number-some e)
