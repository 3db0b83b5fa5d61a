-- `append::append_code` meets its contract: the block's refusal, then that of the element behind it.
use mathlib.Core.Logic.{inl, inr}
use mathlib.Core.Path.{◌≡◌, ap}
use mathlib.Core.List.{List}
use Prim.Native.Nat.{ℕ}
use lib.IntN.{ℤ}
use Rattle.std.proofs.lemmas.Result.{err_from_is_err_and}
use Rattle.element.specs.Refusals.{Coded}
use Rattle.faults.proofs.Refusals.{number-some}
use Rattle.record.proofs.Refusals.{coded-ok, coded-err}
use Rattle.block.specs.Block.{count_of}
use Rattle.block.specs.Faults.{lowest, block_codes}
use Rattle.block.proofs.Answers.{err-refused, ok-counted}
use Rattle.block.proofs.Walk.{block-some}
use Rattle.append.specs.Series.{next_codes}
use Rattle.append.proofs.Orders.{given, block_refused, given-refused, given-accepted}
use Rattle.append.proofs.append_code.Goals as goal

-- the order of an element behind the block whose count and least id are these
behind : (l : List ℕ) (room id n level : ℕ) (xs : List ℤ) {low m c : ℕ} → low ≡ lowest l m → m ≡ count_of l
    → Coded (next_codes low m room (record { id = id; kind = n; limit = level; coords = xs })) c
    → Coded (given l room id n level xs) c
behind l room id n level xs e f q = rw f at (rw e at q)

pub returns-in_err-count : goal.returns-in_err-count
returns-in_err-count c =
    let a = c.args in
    let p = err_from_is_err_and c.from_residual.result c.from_residual.ensures.1 in
    rw (p.1, p.2) (inl (record {
      refused = block_refused a.bytes.now a.room a.id a.kind a.limit a.coords.now _
          (err-refused (block_codes a.bytes.now) a.bytes.now _ c.in_err-count.ensures);
      some = number-some _;
    }))

pub returns-in_err-next_code : goal.returns-in_err-next_code
returns-in_err-next_code c =
    let a = c.args in
    let n = ok-counted (block_codes a.bytes.now) a.bytes.now (block-some a.bytes.now) c.in_ok-count.count c.in_ok-count.ensures in
    let p = err_from_is_err_and c.from_residual-in_err-next_code.result c.from_residual-in_err-next_code.ensures.1 in
    rw (p.1, p.2) (inl (record {
      refused = given-refused a.bytes.now a.room a.id a.kind a.limit a.coords.now _ n.0
          (coded-err _ (behind a.bytes.now a.room a.id a.kind a.limit a.coords.now c.lowest_id-low.ensures n.1 c.in_err-next_code.ensures));
      some = number-some _;
    }))

pub returns : goal.returns
returns c =
    let a = c.args in
    let n = ok-counted (block_codes a.bytes.now) a.bytes.now (block-some a.bytes.now) c.in_ok-count.count c.in_ok-count.ensures in
    inr (record {
      accepted = given-accepted a.bytes.now a.room a.id a.kind a.limit a.coords.now n.0
          (coded-ok (behind a.bytes.now a.room a.id a.kind a.limit a.coords.now c.lowest_id-low.ensures n.1 c.in_ok-next_code.ensures) tt);
      answer = ap (λ (n : ℕ). record { code = 0; number = 0; count = n }) n.1;
    })
