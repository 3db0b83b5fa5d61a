-- `signing::put_sign` meets its contract: a refusal writes nothing; else the two bytes are written. Assumes nothing.
use mathlib.Core.Logic.{inl, inr}
use mathlib.Core.List.{List, [], ◌∷◌}
use mathlib.Core.Path.{◌≡◌, refl, ap, ap₂, ◌∙◌}
use Prim.Native.Nat.{ℕ, ◌+◌, ◌*◌, ◌≤◌}
use native.Mathlib.Omega.{arith}
use lib.ListN.{length}
use Rattle.std.proofs.lemmas.Result.{err_from_is_err_and}
use Rattle.endian.specs.Numbers.{over}
use Rattle.block.specs.Block.{place}
use Rattle.block.specs.Changes.{with_sign}
use Rattle.block.proofs.Header.{header-size}
use Rattle.block.proofs.Parts.{part-over}
use Rattle.block.proofs.Walk.{accepted-header}
use Rattle.signing.specs.declared.Sign.{Sign}
use Rattle.signing.specs.Steps.{HasSign}
use Rattle.signing.proofs.Orders.{sign-sound}
use Rattle.signing.proofs.put_sign.Goals as goal

-- record k stands within the bytes
room : {l : List ℕ} {k : ℕ} {m : Sign} → HasSign l k m → place k + 80 ≤ length l
room {l} {k} {m} h =
    let s = sign-sound l k h.accepted in
    omega (arith, header-size l (accepted-header l s.1), s.2)

pub returns-in_err-m : goal.returns-in_err-m
returns-in_err-m c =
    let p = err_from_is_err_and c.from_residual.result c.from_residual.ensures.1 in
    rw (p.1, p.2) (inl (record { refused = c.in_err-m.ensures.refused; untouched = refl }))

pub slice_bounds-copy_from_slice-end : goal.slice_bounds-copy_from_slice-end
slice_bounds-copy_from_slice-end c = omega (arith, room c.in_ok-m.ensures)

pub returns : goal.returns
returns c =
    let l = c.args.block.now in
    let k = c.args.k in
    let s = c.in_ok-m.m in
    let h = c.in_ok-m.ensures in
    let bytes = s.signed ∷ s.level ∷ [] in
    inr (record {
      accepted = h.accepted;
      answer = refl;
      verdict = h.verdict;
      judged = h.judged;
      written = rw c.copy_from_slice.ensures.after (part-over l bytes (15 + 80 * k) (15 + 80 * k + 2) (omega arith)
          ∙ ap (λ (i : ℕ). over l i bytes) (let e : 15 + 80 * k ≡ place k + 6 = omega arith in e)
          ∙ ap₂ (λ (x y : ℕ). with_sign l k x y) h.signed h.level);
    })
