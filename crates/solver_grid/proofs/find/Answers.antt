-- `solver_grid::find` meets its contract. From -2^21 up to 2^21 the product is exact, and its whole part, as a float again, equals it
-- exactly where x stands for that number. Elsewhere x stands for none. Assumes nothing.
use Rattle.std.proofs.Common.{T, ℤ, sym, ap, ◌∙◌, subst, w32}
use lib.Ieee.{of_bits, neg, binary64, eq, of_int}
use mir.Syntax.{w64}
use mir.ValLaws.{to_z-of_z}
use Rattle.floats.proofs.Whole.{in-float}
use Rattle.solver_grid.specs.Grid.{OnGrid}
use Rattle.solver_grid.proofs.Whole.{cut-asks}
use Rattle.solver_grid.proofs.Range.{left-off, right-off}
use Rattle.solver_grid.proofs.Tests.{times, Near, near, part-within, found, missed}
use Rattle.solver_grid.proofs.find.Goals as goal
use Rattle.solver_grid.proofs.find.Goals.{Then-x-2}

-- between the two tests
at : (c : Then-x-2) → Near c.args.x
unfolding of_bits neg
at c = near c.args.x (subst T (sym c.well_formed.0.1) tt) c.if-x.false c.if-x-2.true

pub returns-then-x : goal.returns-then-x
unfolding of_bits neg
returns-then-x c = left-off c.args.x c.if-x.true

pub truncating_f64_to_i64-n-requires-clause-lower_bound :
    goal.truncating_f64_to_i64-n-requires-clause-lower_bound
unfolding of_bits
truncating_f64_to_i64-n-requires-clause-lower_bound c = (cut-asks (times c.args.x) (at c).small).0

pub truncating_f64_to_i64-n-requires-clause-upper_bound :
    goal.truncating_f64_to_i64-n-requires-clause-upper_bound
unfolding of_bits
truncating_f64_to_i64-n-requires-clause-upper_bound c = (cut-asks (times c.args.x) (at c).small).1

pub int_to_float-n : goal.int_to_float-n
unfolding of_bits
int_to_float-n c =
    let d = (goal.at.int_to_float-n c).Then-x-2 in
    let part = c.truncating_f64_to_i64-n.result in
    rw (to_z-of_z w64 part (record { sfits = c.truncating_f64_to_i64-n.type_inv }))
    (in-float part (part-within c.args.x (at d) part c.truncating_f64_to_i64-n.ensures))

pub overflow_cast-result : goal.overflow_cast-result
unfolding of_bits
overflow_cast-result c =
    let d = (goal.at.overflow_cast-result c).Then-x-2 in
    let part = c.truncating_f64_to_i64-n.result in
    let read = to_z-of_z w64 part (record { sfits = c.truncating_f64_to_i64-n.type_inv }) in
    let on : OnGrid c.args.x part = found c.args.x (at d) part c.truncating_f64_to_i64-n.ensures
    (ap (λ (z : ℤ). eq (of_int binary64 z) (times c.args.x)) (sym read) ∙ c.if-n-y.true) in
    rw read (record { sfits = on.held })

pub returns-then-n-y : goal.returns-then-n-y
unfolding of_bits
returns-then-n-y c =
    let d = (goal.at.returns-then-n-y c).Then-x-2 in
    let part = c.truncating_f64_to_i64-n.result in
    let read = to_z-of_z w64 part (record { sfits = c.truncating_f64_to_i64-n.type_inv }) in
    let on : OnGrid c.args.x part = found c.args.x (at d) part c.truncating_f64_to_i64-n.ensures
    (ap (λ (z : ℤ). eq (of_int binary64 z) (times c.args.x)) (sym read) ∙ c.if-n-y.true) in
    rw (read, to_z-of_z w32 part (record { sfits = on.held })) on

pub returns-else-n-y : goal.returns-else-n-y
unfolding of_bits
returns-else-n-y c =
    let d = (goal.at.returns-else-n-y c).Then-x-2 in
    let part = c.truncating_f64_to_i64-n.result in
    let read = to_z-of_z w64 part (record { sfits = c.truncating_f64_to_i64-n.type_inv }) in
    missed c.args.x (at d) part c.truncating_f64_to_i64-n.ensures
    (ap (λ (z : ℤ). eq (of_int binary64 z) (times c.args.x)) (sym read) ∙ c.if-n-y.false)

pub returns-else-x-2 : goal.returns-else-x-2
unfolding of_bits
returns-else-x-2 c = right-off c.args.x c.if-x-2.false
