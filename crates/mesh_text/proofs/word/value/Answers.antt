-- `mesh_text::word::value` meets its contract, by the two signs.
use mathlib.Core.Path.{◌≡◌, sym, ap, ◌∙◌}
use Prim.Native.Nat.{ℕ, zero, suc, min, ◌<◌}
use native.Mathlib.Omega.{arith}
use lib.IntN.{ℤ, pos, neg_ℤ, ◌-ℤ◌, +ℤ_idl}
use mir.Syntax.{w64}
use mir.Val.{to_z, SFits}
use mir.ValLaws.{to_z_pos, to_z-of_z}
use Rattle.mesh_text.specs.Tests.{clipped, size_of, signed_by}
use Rattle.mesh_text.proofs.word.value.Goals as goal

-- the negative of a number that the machine holds
minus_is : (k : ℕ) → k < 9223372036854775808 → to_z w64 0 -ℤ to_z w64 k ≡ neg_ℤ (pos k)
minus_is k h = ap (λ (z : ℤ). to_z w64 0 -ℤ z) (to_z_pos w64 k h) ∙ +ℤ_idl (neg_ℤ (pos k))

minus-fits : (k : ℕ) → k < 9223372036854775808 → SFits w64 (neg_ℤ (pos k))
minus-fits zero h = record { sfits = omega arith }
minus-fits (suc k) h = record { sfits = omega arith }

pub returns-then-is_minus : goal.returns-then-is_minus
unfolding clipped
returns-then-is_minus c =
    let k = c.size-n.result in
    let h : k < 9223372036854775808 = omega (arith, c.size-n.ensures) in
    let w = c.args.w.now in
    rw (minus_is k h)
    (to_z-of_z w64 (neg_ℤ (pos k)) (minus-fits k h)
    ∙ ap (λ n. neg_ℤ (pos n)) c.size-n.ensures
    ∙ ap (λ b. signed_by b (min 4294967295 (size_of w))) (sym c.if-is_minus.true ∙ c.is_minus.ensures))

pub returns : goal.returns
unfolding clipped
returns c =
    let k = c.size-n.result in
    let h : k < 9223372036854775808 = omega (arith, c.size-n.ensures) in
    let w = c.args.w.now in
    to_z_pos w64 k h
    ∙ ap pos c.size-n.ensures
    ∙ ap (λ b. signed_by b (min 4294967295 (size_of w))) (sym c.if-is_minus.false ∙ c.is_minus.ensures)
