-- `append::put_record` meets its contract: piece by piece.
use mathlib.Core.List.{List}
use mathlib.Core.Path.{◌≡◌, ap, ◌∙◌}
use Prim.Native.Nat.{ℕ, ◌+◌}
use native.Mathlib.Omega.{arith}
use lib.ListN.{length}
use borrow.Author.Rules.{rules}
use Rattle.endian.specs.Numbers.{bytes, over}
use Rattle.record.specs.Record.{numbers_bytes}
use Rattle.block.proofs.Parts.{part-over}
use Rattle.append.proofs.Written.{middle, record-over}
use Rattle.append.proofs.put_record.Goals as goal

pub returns : goal.returns
returns c =
    let a = c.args in
    let l = over a.s.now a.at (bytes 4 a.r.id) in
    let nine_pairs : length a.r.coords ≡ 18 = search rules in
    let zs = numbers_bytes a.r.coords in
    c.put_numbers.ensures
    ∙ rw (c.put_u32.ensures, c.copy_from_slice.ensures.after)
    (ap (λ (s : List ℕ). over s (a.at + 8) zs) (part-over l (middle a.r) (a.at + 4) (a.at + 8) (omega arith))
    ∙ record-over a.s.now a.at a.r nine_pairs c.requires)
