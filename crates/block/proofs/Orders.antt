-- Orders of codes with a record number.
--   refused-of, accepted-of : a code of the order, and none, with a record number
--   of-accepted, of-refused : and without
-- Assumes nothing.
use mathlib.Core.Path.{ap}
use mathlib.Core.Logic.{inl, inr}
use Prim.Native.Nat.{ℕ}
use Rattle.element.specs.Refusals.{Codes, no_more, code, Refused, Accepted}
use Rattle.block.specs.Faults.{Fault, naming}

pub refused-of : (k : ℕ) (o : Codes ℕ) (c : ℕ) → Refused o c → Refused (naming k o) (record { code = c; number = k })
refused-of k no_more c r = r
refused-of k (code n F o) c (inl (f, e)) = inl (f, ap (λ (c : ℕ). record { code = c; number = k }) e)
refused-of k (code n F o) c (inr (f, r)) = inr (f, refused-of k o c r)

pub accepted-of : (k : ℕ) (o : Codes ℕ) → Accepted o → Accepted (naming k o)
accepted-of k no_more t = t
accepted-of k (code n F o) (f, t) = (f, accepted-of k o t)

pub of-accepted : (k : ℕ) (o : Codes ℕ) → Accepted (naming k o) → Accepted o
of-accepted k no_more t = t
of-accepted k (code n F o) (f, t) = (f, of-accepted k o t)

pub of-refused : (k : ℕ) (o : Codes ℕ) (f : Fault) → Refused (naming k o) f → Refused o f.code
of-refused k no_more f r = r
of-refused k (code n F o) f (inl (g, e)) = inl (g, ap (λ (f : Fault). f.code) e)
of-refused k (code n F o) f (inr (g, r)) = inr (g, of-refused k o f r)
