-- `text::read::natural` meets its contract: each digit is read behind the others.
use native.Mathlib.Omega.{arith}
use Prim.Native.Nat.{◌+◌, ◌*◌, ◌<◌}
use mathlib.Core.Path.{◌≡◌}
use lib.ListN.{length, take}
use Rattle.text.specs.Writing.{reads}
use Rattle.text.proofs.Decimals.{reads-more}
use Rattle.text.proofs.read.natural.Goals as goal

pub loop-b-preserved : goal.loop-b-preserved
loop-b-preserved c =
    let digit = c.in_ok-digit.ensures in
    let w = c.args.word.now in
    let i = c.loop-b.b-index in
    let within : i < length w = omega arith in
    let small : c.in_ok-digit.digit < 10 = omega (arith, digit.value.0, digit.value.1) in
    let more : c.loop-b.n * 10 + c.in_ok-digit.digit ≡ reads (take (i + 1) w)
    = reads-more w i c.loop-b.n c.from.result c.in_ok-digit.digit within c.loop-b.invariant c.from.ensures digit.cases small in
    omega (arith, more, c.in_ok-checked_mul.ensures.1, c.from-in-loop-b.ensures, c.in_ok-n.ensures.1)
