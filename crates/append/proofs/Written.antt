-- What the writes of a record come to.
--   record-over : the bytes of a record, piece by piece, are its 80 bytes
-- Assumes nothing.
use mathlib.Core.Path.{◌≡◌, ap, ◌∙◌}
use mathlib.Core.List.{List, [], ◌∷◌, ◌++◌}
use Prim.Native.Nat.{ℕ, ◌+◌, ◌≤◌}
use native.Mathlib.Omega.{arith}
use lib.ListN.{length}
use Rattle.endian.specs.Numbers.{bytes, over}
use Rattle.endian.proofs.Writes.{over-more}
use Rattle.record.specs.declared.Record.{Record}
use Rattle.record.specs.Record.{numbers_bytes, record_bytes}
use Rattle.record.proofs.Codec.{numbers-length}

-- kind, level limit and the two bytes of the sign
abbrev pub middle : Record → List ℕ
middle r = r.kind ∷ r.limit ∷ r.signed ∷ r.level ∷ []

pub record-over : (s : List ℕ) (at : ℕ) (r : Record) → length r.coords ≡ 18 → at + 80 ≤ length s
    → over (over (over s at (bytes 4 r.id)) (at + 4) (middle r)) (at + 8) (numbers_bytes r.coords) ≡ over s at (record_bytes r)
record-over s at r e h =
    let i = bytes 4 r.id in
    let w = numbers_bytes r.coords in
    ap (λ (t : List ℕ). over t (at + 8) w) (over-more i (middle r) s at (let q : at + 4 + 4 ≤ length s = omega arith in q))
    ∙ over-more (i ++ middle r) w s at (let q : at + 8 + length w ≤ length s = omega (arith, numbers-length r.coords, e) in q)
