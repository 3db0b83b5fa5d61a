-- `mesh_form::rows::is_left` meets its contract: the loop keeps that what is left of the words, the tags and the count gives the answer.
use mathlib.Core.List.{List, []}
use Rattle.mesh_form.proofs.Steps.{left_over, left-on, left-off}
use Rattle.mesh_form.specs.Walk.{left_b, word_b}
use Rattle.mesh_text.proofs.Rows.{line-nil}
use Rattle.mesh_text.specs.Rows.{line, first, rest, is_nil}
use lib.ListN.{drop, drop_of_length-le}
use lib.Dec.{eqb}
use native.Mathlib.Omega.{arith}
use Prim.Native.Nat.{ℕ, ◌+◌, ◌≤◌}
use mir.Val.{bool_byte}
use mathlib.Core.Bool.{Bool, true, false, cond, ◌&&◌}
use mathlib.Core.Path.{◌≡◌, refl, sym, ap, ◌∙◌}
use Rattle.mesh_form.proofs.rows.is_left.Goals as goal

-- 1 for true, else 0
byte_is : (b : Bool) → bool_byte b ≡ cond {A = ℕ} b 1 0
byte_is true = refl
byte_is false = refl

byte-small : (b : Bool) → bool_byte b ≤ 1
byte-small true = omega arith
byte-small false = omega arith

pub returns-then-over : goal.returns-then-over
returns-then-over c =
    let l = c.loop-at in
    let a = c.args in
    let o : is_nil (line (drop l.at a.t.now)) ≡ true =
    ap (λ x. is_nil (line x)) (sym c.from-r.ensures) ∙ sym c.over.ensures ∙ c.if-over.true in
    ap (λ b. eqb l.left 0 && b) c.is_count-enough.ensures ∙ sym (l.invariant.2 ∙ left_over l.left l.n a.kind (line (drop l.at a.t.now)) o)

pub returns-then-not-is_good : goal.returns-then-not-is_good
returns-then-not-is_good c =
    let l = c.loop-at in
    let a = c.args in
    let ws : List (List ℕ) = line (drop l.at a.t.now) in
    let some : is_nil ws ≡ false = ap (λ x. is_nil (line x)) (sym c.from-r.ensures) ∙ sym c.over.ensures ∙ c.if-over.false in
    let word-is : word_b l.left (first ws) ≡ c.is_good.result =
    ap (λ x. word_b l.left (first (line x))) (sym c.from-r.ensures) ∙ ap (word_b l.left) (sym c.first.ensures) ∙ sym c.is_good.ensures in
    sym (l.invariant.2 ∙ left-off l.left l.n a.kind ws some (word-is ∙ c.if-not-is_good.true))

pub loop-at-preserved : goal.loop-at-preserved
loop-at-preserved c =
    let l = c.loop-at in
    let a = c.args in
    let ws : List (List ℕ) = line (drop l.at a.t.now) in
    let some : is_nil ws ≡ false = ap (λ x. is_nil (line x)) (sym c.from-r.ensures) ∙ sym c.over.ensures ∙ c.if-over.false in
    let word-is : word_b l.left (first ws) ≡ c.is_good.result =
    ap (λ x. word_b l.left (first (line x))) (sym c.from-r.ensures) ∙ ap (word_b l.left) (sym c.first.ensures) ∙ sym c.is_good.ensures in
    let on = c.word_after-at.ensures.onwards some in (
      c.word_after-at.ensures.within,
      omega (arith, c.from-n.ensures, byte-small (eqb l.left 0)),
      l.invariant.2
          ∙ left-on l.left l.n a.kind ws some (word-is ∙ c.if-not-is_good.false)
          ∙ ap (λ x. left_b x (l.n + cond (eqb l.left 0) 1 0) a.kind (rest ws)) (sym c.saturating_sub-left.ensures)
          ∙ ap (λ x. left_b c.saturating_sub-left.result (l.n + x) a.kind (rest ws)) (sym (c.from-n.ensures ∙ byte_is (eqb l.left 0)))
          ∙ ap (left_b c.saturating_sub-left.result (l.n + c.from-n.result) a.kind) (sym c.word_after-at.ensures.same),
    )

pub returns : goal.returns
returns c =
    let l = c.loop-at in
    let a = c.args in
    let z : drop l.at a.t.now ≡ [] = drop_of_length-le a.t.now {i = l.at} (omega arith) in
    let o : is_nil (line (drop l.at a.t.now)) ≡ true = ap (λ x. is_nil (line x)) z ∙ ap is_nil line-nil in
    ap (λ b. eqb l.left 0 && b) c.is_count-enough-2.ensures ∙ sym (l.invariant.2 ∙ left_over l.left l.n a.kind (line (drop l.at a.t.now)) o)
