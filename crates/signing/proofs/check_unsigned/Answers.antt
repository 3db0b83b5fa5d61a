-- `signing::check_unsigned` meets its contract: the block's codes, and then 18 of the first signed record. Assumes nothing.
use mathlib.Core.Logic.{inl}
use mathlib.Core.List.{List}
use mathlib.Core.Path.{◌≡◌, refl, subst}
use Prim.Native.Nat.{ℕ, ◌+◌}
use native.Mathlib.Omega.{arith}
use Rattle.std.proofs.lemmas.Result.{err_from_is_err_and}
use Rattle.faults.specs.declared.refusal.Refusal.TheVariants.{Signed}
use Rattle.block.specs.Block.{count_of}
use Rattle.block.specs.Calls.{NextSigned}
use Rattle.block.proofs.Walk.{Passed, each-refused, each-passed, accepted-header}
use Rattle.block.proofs.Answers.{err-refused, refused-err, ok-counted, counted-ok}
use Rattle.signing.specs.Orders.{of_version, signed_at, older_codes}
use Rattle.signing.proofs.Orders.{version-accepted, version-some, older-block, older-signed, older-accepted}
use Rattle.signing.proofs.check_unsigned.Goals as goal

-- no record before the first signed one is signed
none-signed : {l : List ℕ} {m k : ℕ} → NextSigned l 0 m k → Passed (signed_at l) k
none-signed q = record { all = λ j h. ((λ f. f (q.none_before j (omega arith) h)), tt) }

pub returns-in_err-count : goal.returns-in_err-count
returns-in_err-count c =
    let l = c.args.bytes.now in
    let p = err_from_is_err_and c.from_residual.result c.from_residual.ensures.1 in
    rw (p.1, p.2) (refused-err (older_codes l) l _ (older-block l _ (err-refused (of_version 2 l) l _ c.in_err-count.ensures)))

pub next_signed-requires : goal.next_signed-requires
next_signed-requires c =
    let l = c.args.bytes.now in
    let n = ok-counted (of_version 2 l) l (version-some 2 l) c.in_ok-count.count c.in_ok-count.ensures in
    record { headed = accepted-header l (version-accepted 2 l n.0).1; read = (omega arith, n.1) }

pub returns-in-Some : goal.returns-in-Some
returns-in-Some c =
    let l = c.args.bytes.now in
    let n = ok-counted (of_version 2 l) l (version-some 2 l) c.in_ok-count.count c.in_ok-count.ensures in
    let k = c.in-Some.k in
    let q = c.in-Some.ensures in
    refused-err (older_codes l) l (record { refusal = Signed; number = k })
    (older-signed l (record { code = 18; number = k }) n.0
    (each-refused (signed_at l) (count_of l) 0 k 18 (omega arith) (omega (arith, q.1, n.1)) (none-signed q.0) (inl (q.0.signed q.1, refl))))

pub returns : goal.returns
returns c =
    let l = c.args.bytes.now in
    let n = ok-counted (of_version 2 l) l (version-some 2 l) c.in_ok-count.count c.in_ok-count.ensures in
    counted-ok (older_codes l) l _
    (older-accepted l n.0 (each-passed (signed_at l) (count_of l) 0 (subst (Passed (signed_at l)) (let e : c.in_ok-count.count ≡ 0 + count_of l = omega (arith, n.1) in e) (none-signed c.in_default.ensures)))) n.1
